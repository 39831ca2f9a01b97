use Rattle.std.proofs.Common.{◌-◌, [], ◌∷◌, sym, ◌∙◌, ap, length, arith}
use Rattle.std.specs.Bool.{◌==◌}
use Rattle.std.proofs.lemmas.Result.{err_from_is_err_and}
use Rattle.vx_json.specs.Reading.{after, list_begun, value_at}
use Rattle.vx_json_parts.specs.Reading.{part_at, items_of}
use Rattle.vx_json_parts.specs.Seen.{parts_seen}
use Rattle.vx_json.proofs.Failing.{fails_whole}
use Rattle.vx_json_parts.proofs.PartSteps.{no_array_there, no_room_for_items, items_unread, items_and_more, items_alone}
use Rattle.vx_json_parts.proofs.part.items_of.Goals as goal

pub returns-in_default : goal.returns-in_default
returns-in_default c = no_array_there c.args.room c.args.text.now (ap (after (91 ∷ [])) (sym c.skip.ensures) ∙ sym c.in_default.ensures)

pub returns-then-room-eq0 : goal.returns-then-room-eq0
returns-then-room-eq0 c = no_room_for_items c.args.room c.args.text.now c.if-room-eq0.true

pub returns-in_err-items : goal.returns-in_err-items
returns-in_err-items c =
    let p = err_from_is_err_and c.from_residual.result c.from_residual.ensures.1 in
    rw (p.1, p.2) (fails_whole c.in_err-items.field-0.0 (list_begun 93 (part_at (value_at (c.args.room - 1))) c.skip-2.result.now) (items_of c.args.room c.args.text.now)
    (λ none. items_unread c.args.room (c.args.room - 1) c.args.text.now c.in-Some.inside.now (omega arith) (ap (after (91 ∷ [])) (sym c.skip.ensures) ∙ sym c.in-Some.ensures) (ap (list_begun 93 (part_at (value_at (c.args.room - 1)))) (sym c.skip-2.ensures) ∙ none))
    c.in_err-items.ensures)

pub returns-then-not-is_empty : goal.returns-then-not-is_empty
returns-then-not-is_empty c =
    items_and_more c.args.room (c.args.room - 1) c.args.text.now c.in-Some.inside.now (omega arith) (ap (after (91 ∷ [])) (sym c.skip.ensures) ∙ sym c.in-Some.ensures) (parts_seen c.in_ok-items.items.items) c.in_ok-items.rest.now
    (ap (list_begun 93 (part_at (value_at (c.args.room - 1)))) (sym c.skip-2.ensures) ∙ c.in_ok-items.ensures) (ap (λ r. length r == 0) (sym c.skip-3.ensures) ∙ sym c.is_empty.ensures ∙ c.if-not-is_empty.true)

pub returns : goal.returns
returns c =
    items_alone c.args.room (c.args.room - 1) c.args.text.now c.in-Some.inside.now (omega arith) (ap (after (91 ∷ [])) (sym c.skip.ensures) ∙ sym c.in-Some.ensures) (parts_seen c.in_ok-items.items.items) c.in_ok-items.rest.now
    (ap (list_begun 93 (part_at (value_at (c.args.room - 1)))) (sym c.skip-2.ensures) ∙ c.in_ok-items.ensures) (ap (λ r. length r == 0) (sym c.skip-3.ensures) ∙ sym c.is_empty.ensures ∙ c.if-not-is_empty.false)
