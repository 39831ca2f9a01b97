use Rattle.std.proofs.Common.{List, subst, sym}
use Rattle.vx_tree.specs.declared.node.Node.{Node}
use Rattle.vx_tree.specs.Kept.{AreKept}
use Rattle.vx_tree.proofs.Settled.{settled_kept}
use Rattle.vx_tree.proofs.tree.Tree.ask.Goals as goal

pub invariant_of-self : goal.invariant_of-self
invariant_of-self c =
    let Kept : List Node → Type 0 = λ nodes. AreKept nodes c.note_below.new.asked.entries in
    subst Kept (sym c.settle.ensures) (settled_kept c.note_below.new.asked.entries _ c.self.inside.nodes.items (subst Kept c.deref.ensures.value c.note_below.ensures.kept))
