use Rattle.std.proofs.Common.{◌≡◌, ◌++◌, [], ◌∷◌, take, sym, ◌∙◌, ap, add-one}
use mathlib.Core.Path.{subst}
use Rattle.std.proofs.lemmas.Result.{IfOk-weaker}
use Rattle.vx_data.specs.Tree.{array}
use Rattle.vx_data.specs.Bodies.{elements}
use Rattle.vx_json_parts.specs.Parts.{AreItems}
use Rattle.vx_frame_read.proofs.Texts.{texts_of, next_item, all_items}
use Rattle.vx_frame_read.proofs.values.item_texts.Goals as goal

pub loop-item-preserved : goal.loop-item-preserved
loop-item-preserved c = λ es are.
    c.in_ok-push.ensures.items ∙ ap (λ b. c.loop-item.texts.items ++ b ∷ []) c.text.ensures
    ∙ next_item es c.deref-item-items.result.now c.loop-item.item-index c.item-item.result c.loop-item.texts.items c.in_ok-plain_text.field-0 are c.loop-item-test.true c.item-item.is
    (λ u is. c.in_ok-plain_text.ensures u is) (c.loop-item.invariant es are)
    ∙ ap (λ k. take k (texts_of es)) (sym (add-one c.loop-item.item-index))

pub returns : goal.returns
returns c = λ es is.
    let are = subst (AreItems es) (sym c.deref-item-items.ensures.value) (c.in-Ok.ensures.only es is) in
    IfOk-weaker c.array_of.result _ _
    (λ body made. made ∙ ap (λ ts. array (elements ts)) (c.loop-item.invariant es are ∙ all_items es c.deref-item-items.result.now c.loop-item.item-index are c.loop-item-test.false)) c.array_of.ensures
