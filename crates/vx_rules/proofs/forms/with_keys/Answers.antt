use Rattle.std.proofs.Common.{sym, ◌∙◌, ap, subst, ◌≤◌, arith}
use Rattle.std.proofs.lemmas.Result.{IfOk-weaker}
use Rattle.vx_data.specs.Tree.{object}
use Rattle.vx_data.specs.Bodies.{members, tree_depth, max_depth, HasOrder}
use Rattle.vx_message.specs.Codecs.{object_with}
use Rattle.vx_rules.specs.Keys.{is_kept}
use Rattle.vx_rules.proofs.Objects.{members_kept, order_kept, depth_kept}
use Rattle.vx_rules.proofs.forms.with_keys.Goals as goal

pub object-requires-clause-order : goal.object-requires-clause-order
object-requires-clause-order c =
    rw c.in_ok-kept_pairs-in-Object.ensures (order_kept (is_kept c.args.keep c.args.keys.now) c.in-Object.pairs.now (subst HasOrder (sym c.in-Object.ensures.shown) c.in-Object.ensures.order))

pub object-requires-clause-depth : goal.object-requires-clause-depth
object-requires-clause-depth c =
    rw c.in_ok-kept_pairs-in-Object.ensures (omega (arith, depth_kept (is_kept c.args.keep c.args.keys.now) c.in-Object.pairs.now, subst (λ t. tree_depth t ≤ max_depth) (sym c.in-Object.ensures.shown) c.in-Object.ensures.depth))

pub returns-in_ok-kept_pairs-in-Object : goal.returns-in_ok-kept_pairs-in-Object
returns-in_ok-kept_pairs-in-Object c =
    let test = is_kept c.args.keep c.args.keys.now in
    IfOk-weaker c.object.result _ _ (λ made is. is ∙ ap (λ kept. object (members kept)) c.in_ok-kept_pairs-in-Object.ensures ∙ ap object (members_kept test c.in-Object.pairs.now) ∙ ap (object_with test) c.in-Object.ensures.shown) c.object.ensures
