use Rattle.std.proofs.Common.{◌≡◌, ◌++◌, [], ◌∷◌, sym, ◌∙◌, ap}
use Rattle.std.proofs.lemmas.Result.{on_ok_weaker}
use Rattle.vx_frame_write.specs.Outgoing.{send_members}
use Rattle.vx_frame_write.specs.Written.{more_members}
use Rattle.vx_frame_write.proofs.Closing.{sent_written, published_written}
use Rattle.vx_frame_write.proofs.write.append_send.Goals as goal

pub returns-then-publish : goal.returns-then-publish
returns-then-publish c = on_ok_weaker c.append.result (λ written. written ∙ ap (λ xs. c.args.into.now.items ++ xs) (published_written ∙ ap (λ publish. more_members (send_members publish) ++ 125 ∷ []) (sym c.if-publish.true))) c.append.ensures

pub returns-else-publish : goal.returns-else-publish
returns-else-publish c = on_ok_weaker c.append-else-publish.result (λ written. written ∙ ap (λ xs. c.args.into.now.items ++ xs) (sent_written ∙ ap (λ publish. more_members (send_members publish) ++ 125 ∷ []) (sym c.if-publish.false))) c.append-else-publish.ensures
