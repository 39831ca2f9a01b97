use Rattle.std.proofs.Common.{◌≡◌, ◌+◌, ◌-◌, ◌≤◌, ◌++◌, length, map, take}
use Rattle.std.specs.Prelude.{vec_len, vec_capacity}
use Rattle.vx_context.specs.Stores.{kept_open}
use Rattle.vx_context.proofs.contexts.push_open.Given as goal

abbrev pub invariant-loop-context : goal.invariant-loop-context
invariant-loop-context l =
    (l.contexts.items ≡ l.initial.contexts.items ++ map kept_open (take l.context-index l.more)) × (vec_len l.contexts + (length l.more - l.context-index) ≤ vec_capacity l.contexts)
