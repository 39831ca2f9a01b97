use Rattle.vx_context.specs.Stores.{closed_then}
use Rattle.vx_context.proofs.Changes.{IsChanged}
use Rattle.vx_context.proofs.contexts.close_each.Given as goal

abbrev pub invariant-loop-kept : goal.invariant-loop-kept
invariant-loop-kept l = IsChanged (closed_then l.at) l.initial.kept-items l.kept-index l.kept-items
