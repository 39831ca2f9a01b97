use Rattle.vx_context.specs.Stores.{closed_by}
use Rattle.vx_context.proofs.Changes.{IsChanged}
use Rattle.vx_context.proofs.contexts.close_one.Given as goal

abbrev pub invariant-loop-kept : goal.invariant-loop-kept
invariant-loop-kept l = IsChanged (closed_by l.id l.at) l.initial.kept-items l.kept-index l.kept-items
