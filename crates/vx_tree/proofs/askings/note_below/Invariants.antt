use Rattle.std.proofs.Common.{◌≡◌, take}
use Rattle.vx_data.specs.declared.ids.DeploymentId.{DeploymentId}
use Rattle.vx_tree.specs.Nodes.{is_known, below}
use Rattle.vx_tree.proofs.Noted.{AreNoted}
use Rattle.vx_tree.proofs.askings.note_below.Given as goal

abbrev pub invariant-loop-node : goal.invariant-loop-node
invariant-loop-node l = record {
  noted : AreNoted l.at l.fn.asked.entries l.asked.entries (below (take l.node-index l.nodes) l.fn.top);
  known : (d : DeploymentId) → is_known d l.asked.entries ≡ is_known d l.fn.asked.entries;
}
