use Rattle.std.proofs.Common.{◌≡◌, ◌<◌, ◌++◌, List, ℕ, length, sym, ◌∙◌, ap, arith}
use Rattle.std.proofs.lemmas.Grind.{common_steps}
use Rattle.std.proofs.lemmas.Result.{on_ok_weaker}
use Rattle.vx_data.specs.Tree.{object}
use Rattle.vx_data.specs.Bodies.{members, gathered}
use Rattle.vx_data.specs.BodyText.{body_text}
use Rattle.vx_frame_write.specs.Written.{without_values, valued_members}
use Rattle.vx_frame_write.proofs.Closing.{headers_written}
use Rattle.vx_frame_write.proofs.Naming.{headers_are}
use Rattle.vx_frame_write.proofs.headers.append_headers.Goals as goal

pub returns : goal.returns
returns c =
    let headers = c.args.headers.now in
    let named = c.deref.result.now in
    let long = ap length c.pairs.ensures in
    let some : 0 < length headers = grind (arith, common_steps, long) in
    let names = c.in_ok-names.ensures ∙ ap (λ ps. object (gathered (without_values ps))) c.pairs-2.ensures in
    let are = ap (λ items. object (members items)) c.deref.ensures.value ∙ ap object (c.in_ok-named.ensures ∙ (λ i. valued_members (c.pairs-3.ensures i) (names i))) ∙ headers_are headers in
    on_ok_weaker c.write_members.result (λ written. written
    ∙ ap (λ (xs : List ℕ). xs ++ body_text (object (members named))) c.in_ok-append.ensures
    ∙ headers_written headers (members named) c.args.into.now.items some are) c.write_members.ensures.written
