use Rattle.vx_life.specs.Stores.{with_taken}
use Rattle.vx_life.proofs.Changes.{IsChanged}
use Rattle.vx_life.proofs.stop.note_taken.Given as goal

abbrev pub invariant-loop-stop : goal.invariant-loop-stop
invariant-loop-stop l = IsChanged (with_taken l.context) l.initial.stop-items l.stop-index l.stop-items
