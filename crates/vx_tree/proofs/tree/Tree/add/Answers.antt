use Rattle.std.proofs.Common.{◌≡◌, ◌<◌, ◌++◌, [], ◌∷◌, true, cond, ap, ◌∙◌, subst, sym}
use Rattle.std.specs.Prelude.{is_ok, List, All}
use Rattle.vx_tree.specs.declared.node.Node.{Node}
use Rattle.vx_tree.specs.Nodes.{TreeStore, may_be_below}
use Rattle.vx_tree.specs.Kept.{AreKept}
use Rattle.vx_tree.proofs.Added.{added_kept}
use Rattle.vx_tree.proofs.tree.Tree.add.Goals as goal

pub invariant_of-self-2 : goal.invariant_of-self-2
invariant_of-self-2 c =
    let sure : is_ok c.push.result ≡ true = ap is_ok c.unwrap.ensures in
    let node : Node = record { id = c.args.id; parent = c.args.parent } in
    let items : c.push.new.self.items ≡ c.self.inside.nodes.items ++ node ∷ [] =
    c.push.ensures.items ∙ ap (λ b. cond b (c.reserve.new.self.items ++ node ∷ []) c.reserve.new.self.items) sure ∙ ap (λ ns. ns ++ node ∷ []) c.reserve.ensures.items in
    let later = subst (λ (t : TreeStore). All (λ (n : Node). n.id.0.0 < c.args.id.0.0) t.there) (sym c.self.view_is) c.requires.later in
    let above = subst (λ (t : TreeStore). may_be_below c.args.parent t.there t.asked ≡ true) (sym c.self.view_is) c.requires.above in
    subst (λ (ns : List Node). AreKept ns c.make_known.new.asked.entries) (sym items)
    (added_kept c.self.inside.asked.entries c.make_known.new.asked.entries c.args.id c.in_ok-make_known.ensures.ok c.args.parent c.self.inside.nodes.items later above c.self.invariant)
