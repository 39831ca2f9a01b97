use Rattle.std.proofs.Common.{◌≡◌, ◌≤◌, ◌++◌, length, take, drop}
use Rattle.vx_tree.specs.Nodes.{there_of}
use Rattle.vx_tree.proofs.node.settle.Given as goal

abbrev pub invariant-loop-place : goal.invariant-loop-place
invariant-loop-place l = record {
  within : l.place ≤ length l.initial.nodes.items;
  settled : l.nodes.items ≡ take l.place l.initial.nodes.items ++ there_of l.asked.entries l.live (drop l.place l.initial.nodes.items);
}

abbrev pub decreases-loop-place : goal.decreases-loop-place
decreases-loop-place l = l.place
