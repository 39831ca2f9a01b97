use Rattle.std.proofs.Common.{◌+◌, ◌-◌, ◌++◌, [], ◌∷◌, List, ℕ, take, sym, ◌∙◌, ap, add-one, arith}
use mathlib.Core.Path.{subst}
use Rattle.std.proofs.lemmas.Result.{on_ok_weaker}
use Rattle.vx_data.specs.Bodies.{gathered}
use Rattle.vx_data.specs.BodyText.{body_text}
use Rattle.vx_data.specs.Tree as tree
use Rattle.vx_json_parts.specs.Compact.{spelled_items, spelled_fields}
use Rattle.vx_json.specs.Grammar.{settled}
use Rattle.vx_json_parts.specs.Parts.{AreItems, AreFields}
use Rattle.vx_json_parts.proofs.Compacting.{items_there, fields_there, next_item, next_field, all_items, all_fields, nested, deep_value, array_there, object_there}
use Rattle.vx_json_parts.proofs.compact.+compact.Goals as goal

pub item_texts-loop-item-init : goal.item_texts-loop-item-init
item_texts-loop-item-init t c = λ es are deep. c.in_ok-texts.ensures.items

pub item_texts-loop-item-preserved : goal.item_texts-loop-item-preserved
item_texts-loop-item-preserved t c = λ es are deep.
    c.in_ok-push.ensures.items ∙ ap (λ b. c.loop-item.texts.items ++ b ∷ []) c.bytes.ensures
    ∙ next_item es c.deref-item-items.result.now c.loop-item.item-index c.args.room c.item-item.result c.loop-item.texts.items c.append_value.new.into.items are c.loop-item-test.true c.item-item.is deep
    (λ u is d. c.in_ok-append_value.ensures u is d ∙ ap (λ (xs : List ℕ). xs ++ body_text (settled u)) c.new-value.ensures.items) (c.loop-item.invariant es are deep)
    ∙ ap (λ k. take k (spelled_items es)) (sym (add-one c.loop-item.item-index))

pub item_texts-returns : goal.item_texts-returns
item_texts-returns t c = λ es is deep.
    let there = items_there (λ v. v.items) (c.args.room + 1) c.args.text.now es c.in-Ok.items (omega arith) c.in-Ok.ensures is (omega arith) in
    let are = subst (AreItems es) (sym c.deref-item-items.ensures.value) there in
    c.loop-item.invariant es are deep ∙ all_items es c.deref-item-items.result.now c.loop-item.item-index are c.loop-item-test.false

pub field_texts-loop-name-init : goal.field_texts-loop-name-init
field_texts-loop-name-init t c = λ ms are deep. c.in_ok-pairs.ensures.items

pub field_texts-loop-name-preserved : goal.field_texts-loop-name-preserved
field_texts-loop-name-preserved t c = λ ms are deep.
    c.in_ok-push.ensures.items ∙ (λ i. c.loop-name.pairs.items ++ (c.in_ok-copy.ensures i, c.bytes.ensures i) ∷ [])
    ∙ next_field ms c.deref-name-items.result.now c.loop-name.name-index c.args.room c.loop-name-item.result c.loop-name.pairs.items c.append_value.new.into.items are c.loop-name-test.true c.loop-name-item.is deep
    (λ u is d. c.in_ok-append_value.ensures u is d ∙ ap (λ (xs : List ℕ). xs ++ body_text (settled u)) c.new-value.ensures.items) (c.loop-name.invariant ms are deep)
    ∙ ap (λ k. take k (spelled_fields ms)) (sym (add-one c.loop-name.name-index))

pub field_texts-returns-in-Ok-object : goal.field_texts-returns-in-Ok-object
field_texts-returns-in-Ok-object t c = λ ms is deep.
    let there = fields_there (λ v. v.items) (c.args.room + 1) c.args.text.now ms c.in-Ok.fields (omega arith) c.in-Ok.ensures is (omega arith) in
    let are = subst (AreFields ms) (sym c.deref-name-items.ensures.value) there in
    c.in-Ok-object.ensures.made ∙ ap (λ ps. tree.object (gathered ps)) (c.loop-name.invariant ms are deep ∙ all_fields ms c.deref-name-items.result.now c.loop-name.name-index are c.loop-name-test.false)

pub append_value-returns-then-begins : goal.append_value-returns-then-begins
append_value-returns-then-begins t c = λ u is deep.
    let large = deep_value c.args.part.now.body (settled u) is.keeps (omega (arith, c.depth.ensures.depth)) in
    on_ok_weaker c.append_list.result (λ written. written ∙ array_there u c.args.part.now.text.now c.deref.result.now c.args.into.now.items (c.args.room - 1) (sym c.begins.ensures ∙ c.if-begins.true) (omega arith)
    (λ es there d. c.deref.ensures.value ∙ c.in_ok-texts.ensures es there d) (nested u c.args.part.now.text.now is.stands large)) c.append_list.ensures

pub append_value-returns : goal.append_value-returns
append_value-returns t c = λ u is deep.
    let large = deep_value c.args.part.now.body (settled u) is.keeps (omega (arith, c.depth.ensures.depth)) in
    let found = object_there u c.args.part.now.text.now (c.args.room - 1) (sym c.begins.ensures ∙ c.if-begins.false) (omega arith) (nested u c.args.part.now.text.now is.stands large) in
    on_ok_weaker c.append_object.result (λ written. written ∙ found.written c.args.into.now.items) (c.append_object.ensures (gathered (spelled_fields found.ms)) (c.in_ok-texts-2.ensures found.ms found.is found.deep))
