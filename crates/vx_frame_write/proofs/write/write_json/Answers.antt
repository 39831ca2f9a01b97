use Rattle.std.proofs.Common.{◌≡◌, ◌++◌, [], ◌∷◌, List, ℕ, sym, ◌∙◌, ap}
use Rattle.std.specs.Prelude.{codes}
use Rattle.std.proofs.lemmas.Result.{on_ok_weaker}
use Rattle.vx_data.specs.BodyText.{body_text}
use Rattle.vx_data.specs.Tree.{object, no_members}
use Rattle.vx_frame_write.specs.Outgoing.{of_type, message_members, send_members, frame_members}
use Rattle.vx_frame_write.specs.Written.{more_members, opened}
use Rattle.vx_frame_write.proofs.Closing.{pong_written, type_written, message_closed}
use Rattle.vx_frame_write.proofs.write.write_json.Goals as goal

pub returns-in-Pong : goal.returns-in-Pong
returns-in-Pong c = on_ok_weaker c.append.result (λ written. written
    ∙ ap (λ (xs : List ℕ). c.args.into.now.items ++ xs) (pong_written ∙ ap (λ frame. body_text (object (frame_members frame))) (sym c.in-Pong.is))) c.append.ensures

pub returns-in_ok-append_message-in-Message : goal.returns-in_ok-append_message-in-Message
returns-in_ok-append_message-in-Message c = on_ok_weaker c.append_send.result (λ written. written
    ∙ ap (λ (xs : List ℕ). xs ++ (more_members (send_members c.in-Message.publish) ++ 125 ∷ [])) c.in_ok-append_message-in-Message.ensures
    ∙ message_closed c.in-Message.message c.in-Message.reply (send_members c.in-Message.publish) c.args.into.now.items
    ∙ ap (λ frame. c.args.into.now.items ++ body_text (object (frame_members frame))) (sym c.in-Message.is)) c.append_send.ensures

pub returns-in_ok-append_message-in-Reply : goal.returns-in_ok-append_message-in-Reply
returns-in_ok-append_message-in-Reply c = on_ok_weaker c.append-in-Reply.result (λ written. written
    ∙ ap (λ (xs : List ℕ). xs ++ codes ",\"type\":\"message\"}") c.in_ok-append_message-in-Reply.ensures
    ∙ ap (λ (xs : List ℕ). (c.args.into.now.items ++ opened (message_members c.in-Reply.message c.in-Reply.again no_members)) ++ xs) type_written
    ∙ message_closed c.in-Reply.message c.in-Reply.again (of_type (codes "message")) c.args.into.now.items
    ∙ ap (λ frame. c.args.into.now.items ++ body_text (object (frame_members frame))) (sym c.in-Reply.is)) c.append-in-Reply.ensures
