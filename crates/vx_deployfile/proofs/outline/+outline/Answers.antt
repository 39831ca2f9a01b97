use Rattle.std.proofs.Common.{◌≡◌, ◌+◌, ◌-◌, ◌++◌, [], ◌∷◌, take, sym, ◌∙◌, ap, add-one, arith, IfOk}
use mathlib.Core.Path.{subst}
use Rattle.vx_data.specs.Bodies.{elements, gathered}
use Rattle.vx_data.specs.Tree as tree
use Rattle.vx_deployfile.specs.Outlines.{outline, item_outlines, field_outlines}
use Rattle.vx_json.specs.Grammar.{IsValue, IsJson}
use Rattle.vx_json_parts.specs.Parts.{AreItems, AreFields}
use Rattle.vx_json.proofs.RoundTrip.{unpadded}
use Rattle.vx_deployfile.proofs.Outlines.{next_item, next_field, all_items, all_fields, whole_array, whole_object, scalar_outlined, array_outlined, object_outlined}
use Rattle.vx_deployfile.proofs.outline.+outline.Goals as goal

pub outline-returns-in-Scalar : goal.outline-returns-in-Scalar
outline-returns-in-Scalar t c = λ u is. scalar_outlined c.args.levels u c.args.part.now c.copy.result is (sym (c.form.ensures u is) ∙ c.in-Scalar.is) c.copy.ensures

pub outline-returns-in-Array : goal.outline-returns-in-Array
outline-returns-in-Array t c = λ u is. array_outlined c.args.levels u c.args.part.now c.array.result is (sym (c.form.ensures u is) ∙ c.in-Array.is) c.array.ensures

pub outline-returns-in-Object : goal.outline-returns-in-Object
outline-returns-in-Object t c = λ u is. object_outlined c.args.levels u c.args.part.now c.object.result is (sym (c.form.ensures u is) ∙ c.in-Object.is) c.object.ensures

pub array-returns-then-levels-eq0 : goal.array-returns-then-levels-eq0
array-returns-then-levels-eq0 t c = λ es is deep. c.null.ensures ∙ ap (λ k. outline k (tree.array es)) (sym c.if-levels-eq0.true)

pub array-loop-part-init : goal.array-loop-part-init
array-loop-part-init t c = λ es are. c.new-items.ensures.items

pub array-loop-part-preserved : goal.array-loop-part-preserved
array-loop-part-preserved t c = λ es are.
    c.in_ok-push.ensures.items
    ∙ next_item (c.args.levels - 1) es c.deref-part-items.result.now c.loop-part.part-index c.part-item.result c.loop-part.items.items c.in_ok-body.body are c.loop-part-test.true c.part-item.is c.in_ok-body.ensures (c.loop-part.invariant es are)
    ∙ ap (λ k. take k (item_outlines (c.args.levels - 1) es)) (sym (add-one c.loop-part.part-index))

pub array-returns-in-Ok-array : goal.array-returns-in-Ok-array
array-returns-in-Ok-array t c = λ es is deep.
    let json : IsJson (tree.array es) c.args.text.now = (unpadded (IsValue (tree.array es)) c.args.text.now is, deep) in
    let are = subst (AreItems es) (sym c.deref-part-items.ensures.value) (c.in-Ok.ensures.only es json) in
    c.in-Ok-array.ensures.made ∙ ap (λ xs. tree.array (elements xs)) (c.loop-part.invariant es are ∙ all_items (c.args.levels - 1) es c.deref-part-items.result.now c.loop-part.part-index are c.loop-part-test.false)
    ∙ whole_array c.args.levels (c.args.levels - 1) es (omega (arith, c.if-levels-eq0.false))

pub object-returns-then-levels-eq0 : goal.object-returns-then-levels-eq0
object-returns-then-levels-eq0 t c = λ ms is deep. c.null.ensures ∙ ap (λ k. outline k (tree.object ms)) (sym c.if-levels-eq0.true)

pub object-returns : goal.object-returns
object-returns t c = λ ms is deep.
    let json : IsJson (tree.object ms) c.args.text.now = (unpadded (IsValue (tree.object ms)) c.args.text.now is, deep) in
    let are = subst (AreFields ms) (sym c.deref.ensures.value) (c.in-Ok.ensures.only ms json) in
    let same : c.args.levels - 1 + 1 ≡ c.args.levels = omega (arith, c.if-levels-eq0.false) in
    subst (λ k. IfOk c.members.result (λ body. body ≡ outline k (tree.object ms))) same (c.members.ensures ms are)

pub members-loop-name-init : goal.members-loop-name-init
members-loop-name-init t c = λ ms are. c.new-pairs.ensures.items

pub members-loop-name-preserved : goal.members-loop-name-preserved
members-loop-name-preserved t c = λ ms are.
    c.in_ok-push.ensures.items ∙ ap (λ name. c.loop-name.pairs.items ++ (name, c.in_ok-body.body) ∷ []) c.in_ok-name.ensures
    ∙ next_field c.args.levels ms c.args.fields.now c.loop-name.name-index c.loop-name-item.result c.loop-name.pairs.items c.in_ok-body.body are c.loop-name-test.true c.loop-name-item.is c.in_ok-body.ensures (c.loop-name.invariant ms are)
    ∙ ap (λ k. take k (field_outlines c.args.levels ms)) (sym (add-one c.loop-name.name-index))

pub members-returns-in-Ok : goal.members-returns-in-Ok
members-returns-in-Ok t c = λ ms are.
    c.in-Ok.ensures.made ∙ ap (λ ps. tree.object (gathered ps)) (c.loop-name.invariant ms are ∙ all_fields c.args.levels ms c.args.fields.now c.loop-name.name-index are c.loop-name-test.false)
    ∙ whole_object c.args.levels ms
