use Rattle.vx_life.specs.Stores.{telling}
use Rattle.vx_life.proofs.Changes.{IsChanged}
use Rattle.vx_life.proofs.record.note_tell.Given as goal

abbrev pub invariant-loop-record : goal.invariant-loop-record
invariant-loop-record l = IsChanged (telling l.id l.tell) l.initial.record-items l.record-index l.record-items
