use Rattle.std.proofs.Common.{◌≡◌, ◌≤◌, ◌<◌, false, true, sym, ◌∙◌, ap, option_map, Option, arith}
use Rattle.std.specs.Prelude.{codes}
use mathlib.Core.Path.{subst}
use Rattle.vx_data.specs.Bodies.{tree_depth}
use Rattle.vx_json_parts.specs.Parts.{AreFields}
use Rattle.vx_frame_read.specs.Fields.{last_part, body_of, framed_message}
use Rattle.vx_frame_read.specs.Frames.{last, text_field, is_long}
use Rattle.vx_frame_read.proofs.Members.{part_found, headers_large, headers_fit, body_deep, body_flat, large_message, many_is_large, long_is_large, deep_is_large, not_large, small_publish, small_send}
use Rattle.vx_frame_read.proofs.read.message_of.Goals as goal

pub returns-in_default : goal.returns-in_default
returns-in_default c = λ ms are.
    let there = subst (AreFields ms) (sym c.deref.ensures.value) are in
    let part = part_found (codes "headers") ms c.deref.result.now _ there c.last.ensures in
    let found = c.in_ok-headers.ensures (last (codes "headers") ms) part in
    large_message c.args.publish c.args.address ms (many_is_large ms (headers_large ms (sym c.in_default.is ∙ found)))

pub returns-then-is_long : goal.returns-then-is_long
returns-then-is_long c = λ ms are.
    let there = subst (AreFields ms) (sym c.deref-2.ensures.value) are in
    let text = c.text_field-reply.ensures ms there in
    large_message c.args.publish c.args.address ms (long_is_large ms (ap is_long (sym text) ∙ sym c.is_long.ensures ∙ c.if-is_long.true))

pub returns-then-depth-gt-MAX_DEPTH : goal.returns-then-depth-gt-MAX_DEPTH
returns-then-depth-gt-MAX_DEPTH c = λ ms are.
    let same = ap tree_depth c.last_body-body.ensures in
    let deep : 100 < tree_depth (body_of (last_part (codes "body") c.args.fields.items)) = omega (arith, same, c.depth.ensures.depth) in
    large_message c.args.publish c.args.address ms (deep_is_large ms (body_deep ms c.args.fields.items are deep))

pub returns-then-publish : goal.returns-then-publish
returns-then-publish c = λ ms are.
    let there = subst (AreFields ms) (sym c.deref.ensures.value) are in
    let part = part_found (codes "headers") ms c.deref.result.now _ there c.last.ensures in
    let found = c.in_ok-headers.ensures (last (codes "headers") ms) part in
    let fit = headers_fit ms c.in-Some.headers (sym c.in-Some.is ∙ found) in
    let text = c.text_field-reply.ensures ms (subst (AreFields ms) (sym c.deref-2.ensures.value) are) in
    let short = ap is_long (sym text) ∙ sym c.is_long.ensures ∙ c.if-is_long.false in
    let same = ap tree_depth c.last_body-body.ensures in
    let flat : tree_depth (body_of (last_part (codes "body") c.args.fields.items)) ≤ 100 = omega (arith, same, c.depth.ensures.depth) in
    let body = body_flat ms c.args.fields.items are flat in
    small_publish c.args.address ms c.in-Some.headers c.last_body-body.result (not_large ms body.0 fit.0 short) fit.1 (c.last_body-body.ensures ∙ body.1)
    ∙ ap (λ publish. framed_message publish c.args.address ms) (sym c.if-publish.true)

pub returns-else-publish : goal.returns-else-publish
returns-else-publish c = λ ms are.
    let there = subst (AreFields ms) (sym c.deref.ensures.value) are in
    let part = part_found (codes "headers") ms c.deref.result.now _ there c.last.ensures in
    let found = c.in_ok-headers.ensures (last (codes "headers") ms) part in
    let fit = headers_fit ms c.in-Some.headers (sym c.in-Some.is ∙ found) in
    let text = c.text_field-reply.ensures ms (subst (AreFields ms) (sym c.deref-2.ensures.value) are) in
    let short = ap is_long (sym text) ∙ sym c.is_long.ensures ∙ c.if-is_long.false in
    let same = ap tree_depth c.last_body-body.ensures in
    let flat : tree_depth (body_of (last_part (codes "body") c.args.fields.items)) ≤ 100 = omega (arith, same, c.depth.ensures.depth) in
    let body = body_flat ms c.args.fields.items are flat in
    small_send c.args.address ms c.in_ok-reply.reply c.in-Some.headers c.last_body-body.result (not_large ms body.0 fit.0 short) (c.in_ok-reply.ensures ∙ text) fit.1 (c.last_body-body.ensures ∙ body.1)
    ∙ ap (λ publish. framed_message publish c.args.address ms) (sym c.if-publish.false)
