use Rattle.std.proofs.Common.{◌≡◌, ◌++◌, [], ◌∷◌, take, sym, ◌∙◌, ap, add-one}
use mathlib.Core.Path.{subst}
use Rattle.vx_data.specs.Tree.{object}
use Rattle.vx_data.specs.Bodies.{gathered}
use Rattle.vx_json_parts.specs.Parts.{AreFields}
use Rattle.vx_frame_read.proofs.Valued.{valued_fields, next_field, all_fields, pairs_are}
use Rattle.vx_frame_read.proofs.headers.named_values.Goals as goal

pub loop-name-preserved : goal.loop-name-preserved
loop-name-preserved c = λ ms are.
    c.in_ok-push.ensures.items ∙ ap (λ name. c.loop-name.pairs.items ++ (name, c.in_ok-values_of.field-0) ∷ []) c.in_ok-copy.ensures
    ∙ next_field ms c.deref-name-items.result.now c.loop-name.name-index c.loop-name-item.result c.loop-name.pairs.items c.in_ok-values_of.field-0 are c.loop-name-test.true c.loop-name-item.is
    (λ u is. c.in_ok-values_of.ensures u is) (c.loop-name.invariant ms are)
    ∙ ap (λ k. take k (valued_fields ms)) (sym (add-one c.loop-name.name-index))

pub returns-in-Ok-object : goal.returns-in-Ok-object
returns-in-Ok-object c = λ ms is.
    let are = subst (AreFields ms) (sym c.deref-name-items.ensures.value) (c.in-Ok.ensures.only ms is) in
    pairs_are ms c.in-Ok-object.body (c.in-Ok-object.ensures.made
    ∙ ap (λ ps. object (gathered ps)) (c.loop-name.invariant ms are ∙ all_fields ms c.deref-name-items.result.now c.loop-name.name-index are c.loop-name-test.false))
