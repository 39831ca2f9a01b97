use Rattle.std.proofs.Common.{List, subst, sym}
use Rattle.vx_tree.specs.declared.node.Node.{Node}
use Rattle.vx_tree.specs.Kept.{AreKept}
use Rattle.vx_tree.proofs.Settled.{settled_kept}
use Rattle.vx_tree.proofs.tree.Tree.closed.Goals as goal

pub invariant_of-self : goal.invariant_of-self
invariant_of-self c =
    subst (λ (nodes : List Node). AreKept nodes c.self.inside.asked.entries) (sym c.settle.ensures) (settled_kept c.self.inside.asked.entries _ c.self.inside.nodes.items c.self.invariant)
