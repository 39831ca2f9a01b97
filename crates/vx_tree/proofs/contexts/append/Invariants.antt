use Rattle.std.proofs.Common.{◌≡◌, ◌+◌, ◌≤◌, ◌++◌}
use Rattle.std.specs.Prelude.{vec_len, vec_capacity}
use Rattle.vx_tree.specs.Nodes.{contexts_of}
use Rattle.vx_tree.proofs.contexts.append.Given as goal

abbrev pub invariant-loop-instance : goal.invariant-loop-instance
invariant-loop-instance l = record {
  items : l.contexts.items ≡ l.initial.contexts.items ++ contexts_of l.id 0 l.instance;
  len : vec_len l.contexts ≡ vec_len l.initial.contexts + l.instance;
  capacity : vec_capacity l.initial.contexts ≤ vec_capacity l.contexts;
}
