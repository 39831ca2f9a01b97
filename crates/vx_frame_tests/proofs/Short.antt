-- The frames of the tests are short.
use Rattle.std.proofs.Common.{◌≡◌, ◌<◌, ℕ, List, [], ◌∷◌, length, codes, pos, true, false, Some, None, arith, subst, sym}
use Rattle.std.specs.Fmt.{digits}
use Rattle.vx_data.specs.BodyText.{escaped}
use Rattle.vx_data.specs.Tree.{null, int}
use Rattle.vx_data.specs.declared.ids.MessageId.{MessageId}
use Rattle.vx_frame_write.specs.Outgoing.{frame_json}
use Rattle.vx_message.specs.declared.FailureKind.TheVariants.{RecipientFailure}
use Rattle.vx_message.specs.declared.frame.FrameMessage.{FrameMessage}
use Rattle.vx_message.specs.declared.frame.OutFrame.{OutFrame}
use Rattle.vx_message.specs.declared.frame.OutFrame.TheVariants as outs

abbrev IsShort : OutFrame → Type 0
IsShort frame = length (frame_json frame) < 4194304

abbrev failed : List ℕ → List ℕ → OutFrame
failed address text = outs.Failed address (record { kind = RecipientFailure; code = pos 7; text = text })

failed_small : IsShort (failed (codes "r1") (codes "no \"x\""))
unfolding digits escaped
failed_small = omega arith

pub failed_short : (address text : List ℕ) → address ≡ codes "r1" → text ≡ codes "no \"x\"" → length (frame_json (failed address text)) < 4194304
failed_short address text is says = rw (is, says) failed_small

abbrev numbered : ℕ → MessageId
numbered n = record { 0 = record { 0 = n } }

abbrev asked : FrameMessage
asked = record { address = codes "a"; headers = []; body = int (pos 1) }

asked_small : IsShort (outs.Message asked (Some (numbered 7)) false)
unfolding digits escaped
asked_small = omega arith

pub asked_short : (message : FrameMessage) → message ≡ asked → length (frame_json (outs.Message message (Some (numbered 7)) false)) < 4194304
asked_short message is = subst (λ m. IsShort (outs.Message m (Some (numbered 7)) false)) (sym is) asked_small

abbrev again : FrameMessage
again = record { address = codes "r1"; headers = []; body = null }

again_small : IsShort (outs.Reply again (Some (numbered 12)))
unfolding digits escaped
again_small = omega arith

pub again_short : (message : FrameMessage) → message ≡ again → length (frame_json (outs.Reply message (Some (numbered 12)))) < 4194304
again_short message is = subst (λ m. IsShort (outs.Reply m (Some (numbered 12)))) (sym is) again_small

abbrev pub three : List (List ℕ × List ℕ)
three = (codes "k", codes "2") ∷ (codes "h", codes "1") ∷ (codes "k", codes "3") ∷ []

abbrev pub headed : List (List ℕ × List ℕ) → FrameMessage
headed headers = record { address = codes "a"; headers = headers; body = null }

headed_small : IsShort (outs.Message (headed three) None true)
unfolding digits escaped
headed_small = omega arith

pub headed_short : (message : FrameMessage) → message ≡ headed three → length (frame_json (outs.Message message None true)) < 4194304
headed_short message is = subst (λ m. IsShort (outs.Message m None true)) (sym is) headed_small
