use Rattle.std.proofs.Common.{◌≡◌, ◌∙◌, codes}
use Rattle.vx_message.specs.declared.frame.FrameMessage.{FrameMessage}
use Rattle.vx_frame_tests.proofs.Short.{asked_short, again_short}
use Rattle.vx_frame_tests.proofs.written.reply_addresses_are_written.Goals as goal

pub is_written-requires : goal.is_written-requires
is_written-requires g c = asked_short c.message.result (c.message.ensures ∙ (λ i. record { address = codes "a"; headers = c.empty.ensures i; body = c.int.ensures i }))

pub is_written-requires-2 : goal.is_written-requires-2
is_written-requires-2 g c = again_short c.message-2.result (c.message-2.ensures ∙ (λ i. record { address = codes "r1"; headers = c.empty-2.ensures i; body = c.null.ensures i }))
