use Rattle.vx_life.specs.Stores.{failing}
use Rattle.vx_life.proofs.Changes.{IsChanged}
use Rattle.vx_life.proofs.record.note_failure.Given as goal

abbrev pub invariant-loop-record : goal.invariant-loop-record
invariant-loop-record l = IsChanged (failing l.id l.failure) l.initial.record-items l.record-index l.record-items
