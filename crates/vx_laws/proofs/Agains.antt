-- Outcomes by which an asker is asked in its turn, and what asks.
use Rattle.std.proofs.Common.{◌≡◌, ℕ, List, [], ◌∷◌, refl, ap, sym, ◌∙◌, subst}
use Rattle.std.specs.Prelude.{true, false, cond, Option, None, Some}
use Rattle.vx_data.specs.declared.ids.ConnId.{ConnId}
use Rattle.vx_data.specs.declared.ids.MessageId.{MessageId}
use Rattle.vx_data.specs.declared.ids.PassNo.{PassNo}
use Rattle.vx_data.specs.Ids.{same_message}
use Rattle.vx_message.specs.declared.frame.InFrame.{InFrame}
use Rattle.vx_message.specs.declared.Outcome.{Outcome}
use Rattle.vx_message.specs.declared.Outcome.TheVariants as outcomes
use Rattle.vx_call.specs.declared.call.Call.{Call}
use Rattle.vx_call.specs.declared.call.Call.TheVariants as calls
use Rattle.vx_call.specs.declared.history.Consumer.{Consumer}
use Rattle.vx_call.specs.declared.history.Deed.{Deed}
use Rattle.vx_call.specs.declared.history.Deed.TheVariants as deeds
use Rattle.vx_call.specs.declared.history.Traced.{Traced}
use Rattle.vx_call.specs.Names.{next_message}
use Rattle.vx_call.specs.Mailboxes.{accepting}
use Rattle.vx_call.specs.Askers.{Asker, is_asked_by}
use Rattle.vx_call.specs.Askers as askers
use Rattle.vx_call.specs.Requests.{Open, settles, unsettled}
use Rattle.vx_call.specs.Sendings.{Sent, nothing_sent, send_all}
use Rattle.vx_call.specs.Settled.{Settled, settlement, settlements, settled_unheard, sending_of, timeout, timed_out, settled_made}
use Rattle.vx_call.proofs.Each.{Each, passing}
use Rattle.vx_laws.proofs.Taken.{same_message-true}

-- the message to which the asker may reply in its turn
abbrev pub again_of : Outcome → Option MessageId
again_of (outcomes.Ok headers body again) = again
again_of (outcomes.Failed failure) = None

-- the message that a call replies to, and asks again
abbrev pub frame_again : Deed → Option MessageId
frame_again (deeds.Replies message headers body (Some at)) = Some message
frame_again _ = None

abbrev pub asks_again : Call → Deed → Option MessageId
asks_again (calls.ReplyRequest message context body options timeout) deed = Some message
asks_again (calls.FrameIn conn frame) deed = frame_again deed
asks_again _ deed = None

-- the address of a request that is no reply
abbrev pub frame_asks : Deed → Option (List ℕ)
frame_asks (deeds.Requests address headers body at) = Some address
frame_asks _ = None

abbrev pub asks_at : Call → Deed → Option (List ℕ)
asks_at (calls.Request context address body options timeout once) deed = Some address
asks_at (calls.FrameIn conn frame) deed = frame_asks deed
asks_at _ deed = None

-- a call asks, or asks again, or neither
pub not_both : (call : Call) (deed : Deed) (address : List ℕ) (message : MessageId) → asks_at call deed ≡ Some address → asks_again call deed ≡ Some message → ⊥
not_both (calls.Request context address body options timeout once) deed other message at again = cc
not_both (calls.FrameIn conn frame) (deeds.Requests address headers body reply) other message at again = cc
not_both (calls.FrameIn conn frame) _ other message at again = cc
not_both _ deed other message at again = cc

-- What an entry settles asks again by the entry's own message, where it replies to the request and asks again.
abbrev pub AsksBy : List Traced → Call → Deed → MessageId → Option MessageId → Type 0
AsksBy history call deed request None = Unit {0}
AsksBy history call deed request (Some again) = (again ≡ next_message history) × (asks_again call deed ≡ Some request)

abbrev pub AsksSo : List Traced → Call → Deed → Settled → Type 0
AsksSo history call deed s = AsksBy history call deed s.request (again_of s.outcome)

none_so : (history : List Traced) (call : Call) (deed : Deed) (outcome : Outcome) → again_of outcome ≡ None → (requests : List Open) → Each (AsksSo history call deed) (settlements history outcome requests)
none_so history call deed outcome none [] = tt
none_so history call deed outcome none (request ∷ others) = (let P : Option MessageId → Type 0 = AsksBy history call deed request.id in subst P (sym none) tt, none_so history call deed outcome none others)

unheard_so : (history : List Traced) (call : Call) (deed : Deed) (asker : Asker) (all : List Consumer) → Each (AsksSo history call deed) (settled_unheard history asker all)
unheard_so history call deed asker [] = (tt, tt)
unheard_so history call deed asker (consumer ∷ others) = tt

timed_so : (history : List Traced) (call : Call) (deed : Deed) (sent : Sent) (all : List Open) → Each (AsksSo history call deed) (timed_out history sent all)
timed_so history call deed sent [] = tt
timed_so history call deed sent (request ∷ others) =
    let next = send_all history sent (sending_of (settlement history timeout request)) in
    elim (is_asked_by sent.shut request.asker) as (λ b. Each (AsksSo history call deed) (cond b (timed_out history sent others) (settlement history timeout request ∷ timed_out history next others))) [
      | true ↦ timed_so history call deed sent others
      | false ↦ (tt, timed_so history call deed next others)
    ]

again_so : (history : List Traced) (call : Call) (deed : Deed) (outcome : Outcome) (message : MessageId) → again_of outcome ≡ Some (next_message history) → asks_again call deed ≡ Some message →
    (requests : List Open) → Each (λ (request : Open). same_message message request.id ≡ true) requests → Each (AsksSo history call deed) (settlements history outcome requests)
again_so history call deed outcome message again asks [] named = tt
again_so history call deed outcome message again asks (request ∷ others) named = (
  let P : Option MessageId → Type 0 = AsksBy history call deed request.id in
      subst P (sym again) (refl, asks ∙ ap (λ (m : MessageId). Some m) (same_message-true message request.id named.0)),
  again_so history call deed outcome message again asks others named.1,
)

frame_agains : (history : List Traced) (pass : PassNo) (conn : ConnId) (frame : InFrame) (deed : Deed) → Each (AsksSo history (calls.FrameIn conn frame) deed) (settled_made history pass (calls.FrameIn conn frame) deed)
frame_agains history pass conn frame (deeds.Requests address headers body at) =
    let deed = deeds.Requests address headers body at in
    unheard_so history (calls.FrameIn conn frame) deed (askers.connection conn at) (accepting history (calls.FrameIn conn frame) deed)
frame_agains history pass conn frame (deeds.Replies message headers body None) = none_so history (calls.FrameIn conn frame) (deeds.Replies message headers body None) _ refl _
frame_agains history pass conn frame (deeds.Replies message headers body (Some at)) =
    let deed = deeds.Replies message headers body (Some at) in
    again_so history (calls.FrameIn conn frame) deed _ message refl refl _ (passing (settles history pass (calls.FrameIn conn frame) deed) (unsettled history))
frame_agains history pass conn frame _ = tt

pub settled_agains : (history : List Traced) (pass : PassNo) (call : Call) (deed : Deed) → Each (AsksSo history call deed) (settled_made history pass call deed)
settled_agains history pass (calls.Request context address body options timeout once) deed =
    let call = calls.Request context address body options timeout once in
    unheard_so history call deed (askers.context context) (accepting history call deed)
settled_agains history pass (calls.Reply message body options) deed = none_so history (calls.Reply message body options) deed _ refl _
settled_agains history pass (calls.Fail message code text) deed = none_so history (calls.Fail message code text) deed _ refl _
settled_agains history pass (calls.ReplyRequest message context body options timeout) deed =
    let call = calls.ReplyRequest message context body options timeout in
    again_so history call deed _ message refl refl _ (passing (settles history pass call deed) (unsettled history))
settled_agains history pass (calls.Advance moment) deed = timed_so history (calls.Advance moment) deed nothing_sent _
settled_agains history pass (calls.Unregister id) deed = none_so history (calls.Unregister id) deed _ refl _
settled_agains history pass (calls.FrameIn conn frame) deed = frame_agains history pass conn frame deed
settled_agains history pass (calls.StartDone result) deed = none_so history (calls.StartDone result) deed _ refl _
settled_agains history pass calls.StopDone deed = none_so history calls.StopDone deed _ refl _
settled_agains history pass (calls.Finish end) deed = none_so history (calls.Finish end) deed _ refl _
settled_agains history pass _ deed = tt
