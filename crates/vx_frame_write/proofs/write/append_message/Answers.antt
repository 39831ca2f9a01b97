use Rattle.std.proofs.Common.{◌≡◌, ◌++◌, List, ℕ, ◌∙◌, ap}
use Rattle.std.specs.Prelude.{codes}
use Rattle.std.proofs.lemmas.Result.{on_ok_weaker}
use Rattle.vx_data.specs.BodyText.{quoted, body_text}
use Rattle.vx_data.specs.Tree.{no_members}
use Rattle.vx_frame_write.specs.Outgoing.{with_headers, with_reply}
use Rattle.vx_frame_write.specs.Written.{more_members}
use Rattle.vx_frame_write.proofs.Closing.{message_written}
use Rattle.vx_frame_write.proofs.write.append_message.Goals as goal

pub returns : goal.returns
returns c =
    let message = c.args.message.now in
    let address = c.in_ok-write_text.ensures.written ∙ ap (λ (xs : List ℕ). xs ++ quoted message.address) c.in_ok-append.ensures in
    let before_body = c.in_ok-append-2.ensures ∙ ap (λ (xs : List ℕ). xs ++ codes ",\"body\":") address in
    let with_body = c.in_ok-write_body.ensures.written ∙ ap (λ (xs : List ℕ). xs ++ body_text message.body) before_body in
    let with_pairs = c.in_ok-append_headers.ensures ∙ ap (λ (xs : List ℕ). xs ++ more_members (with_headers message.headers no_members)) with_body in
    on_ok_weaker c.append_reply.result (λ written. written
    ∙ ap (λ (xs : List ℕ). xs ++ more_members (with_reply c.args.reply no_members)) with_pairs
    ∙ message_written message c.args.reply c.args.into.now.items) c.append_reply.ensures
