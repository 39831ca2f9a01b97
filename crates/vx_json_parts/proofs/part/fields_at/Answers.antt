use Rattle.std.proofs.Common.{◌+◌, ◌-◌, [], ◌∷◌, length, Some, arith, sym, ◌∙◌, ap}
use Rattle.std.proofs.lemmas.List.{map-append}
use Rattle.std.proofs.lemmas.Result.{err_from_is_err_and}
use Rattle.vx_json.specs.Nexts.{next_seen}
use Rattle.vx_json_parts.specs.Seen.{fields_seen, field_seen}
use Rattle.vx_json.specs.Reading.{list_begun, value_at}
use Rattle.vx_json_parts.specs.Reading.{field_at}
use Rattle.vx_json.proofs.Failing.{fails_whole}
use Rattle.vx_json.proofs.Turns.{items_more, items_last, items_broken, items_none, list_closed, list_open, list_over}
use Rattle.vx_json_parts.proofs.part.fields_at.Goals as goal

pub returns-in-Some : goal.returns-in-Some
returns-in-Some c = list_closed 125 (field_at (value_at c.args.room)) (fields_seen c.new-fields.result.items) c.args.bytes.now c.in-Some.rest.now (ap fields_seen c.new-fields.ensures.items) (sym c.in-Some.ensures)

pub loop-init : goal.loop-init
loop-init c = list_open 125 (field_at (value_at c.args.room)) (length c.args.bytes.now - 0) (fields_seen c.new-fields.result.items) c.args.bytes.now (omega arith) (ap fields_seen c.new-fields.ensures.items) (sym c.in_default.ensures)

pub returns-in_err-field : goal.returns-in_err-field
returns-in_err-field c =
    let all = length c.args.bytes.now in
    let p = err_from_is_err_and c.from_residual.result c.from_residual.ensures.1 in
    let begun = list_begun 125 (field_at (value_at c.args.room)) c.args.bytes.now in
    rw (p.1, p.2) (fails_whole c.in_err-field.field-0.0 (field_at (value_at c.args.room) c.loop.rest.now) begun
    (λ none. sym c.loop.invariant ∙ items_none 125 (field_at (value_at c.args.room)) (all - (c.loop.counter + 1)) (all - c.loop.counter) (fields_seen c.loop.fields.items) c.loop.rest.now (omega arith) (none))
    c.in_err-field.ensures)

pub returns-in-Some-Closed : goal.returns-in-Some-Closed
returns-in-Some-Closed c =
    let all = length c.args.bytes.now in
    rw (c.in_ok-push.ensures.items, map-append field_seen c.loop.fields.items (c.in_ok-field.field ∷ [])) (sym c.loop.invariant ∙ items_last 125 (field_at (value_at c.args.room)) (all - (c.loop.counter + 1)) (all - c.loop.counter) (fields_seen c.loop.fields.items) (field_seen c.in_ok-field.field) c.loop.rest.now c.in_ok-field.behind.now c.in-Some-Closed.last.now (omega arith)
    (c.in_ok-field.ensures) (sym c.in-Some-Closed.ensures ∙ ap (λ n. Some (next_seen n)) c.in-Some-Closed.field-0-is))

pub returns-in-None : goal.returns-in-None
returns-in-None c =
    let all = length c.args.bytes.now in
    sym c.loop.invariant ∙ items_broken 125 (field_at (value_at c.args.room)) (all - (c.loop.counter + 1)) (all - c.loop.counter) (fields_seen c.loop.fields.items) (field_seen c.in_ok-field.field) c.loop.rest.now c.in_ok-field.behind.now (omega arith)
    (c.in_ok-field.ensures) (sym c.in-None.ensures)

pub loop-preserved : goal.loop-preserved
loop-preserved c =
    let all = length c.args.bytes.now in
    rw (c.in_ok-push.ensures.items, map-append field_seen c.loop.fields.items (c.in_ok-field.field ∷ [])) (sym (items_more 125 (field_at (value_at c.args.room)) (all - (c.loop.counter + 1)) (all - c.loop.counter) (fields_seen c.loop.fields.items) (field_seen c.in_ok-field.field) c.loop.rest.now c.in_ok-field.behind.now c.in-Some-More.more.now (omega arith)
    (c.in_ok-field.ensures) (sym c.in-Some-More.ensures ∙ ap (λ n. Some (next_seen n)) c.in-Some-More.field-0-is)) ∙ c.loop.invariant)

pub returns : goal.returns
returns c = sym c.loop.invariant ∙ list_over 125 (field_at (value_at c.args.room)) (length c.args.bytes.now - c.loop.counter) (fields_seen c.loop.fields.items) c.loop.rest.now (omega arith)
