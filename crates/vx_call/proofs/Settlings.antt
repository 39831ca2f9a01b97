-- What an entry settles, and requests that have ended.
use Rattle.std.proofs.lemmas.Bool.{or_parts}
use Rattle.std.proofs.Common.{◌≡◌, ℕ, ◌<◌, List, [], ◌∷◌, ◌++◌, length, refl, ap, sym, ◌∙◌, subst, arith}
use Rattle.std.specs.Prelude.{Bool, true, false, not, cond, find, filter, map, ◌==◌, ◌&&◌, Some, None}
use Rattle.std.proofs.lemmas.List.{length_push}
use Rattle.vx_data.specs.declared.ids.ConnId.{ConnId}
use Rattle.vx_data.specs.declared.ids.PassNo.{PassNo}
use Rattle.vx_data.specs.declared.ids.MessageId.{MessageId}
use Rattle.vx_data.specs.Ids.{same_message}
use Rattle.vx_message.specs.declared.frame.InFrame.{InFrame}
use Rattle.vx_message.specs.declared.Outcome.{Outcome}
use Rattle.vx_call.specs.declared.call.Call.{Call}
use Rattle.vx_call.specs.declared.call.Call.TheVariants as calls
use Rattle.vx_call.specs.declared.history.Consumer.{Consumer}
use Rattle.vx_call.specs.declared.history.Deed.{Deed}
use Rattle.vx_call.specs.declared.history.Deed.TheVariants as deeds
use Rattle.vx_call.specs.declared.history.Traced.{Traced}
use Rattle.vx_call.specs.History.{is_accepted, made_by, ended_by, lasting}
use Rattle.vx_call.specs.Names.{next_entry, next_message}
use Rattle.vx_call.specs.Mailboxes.{accepting}
use Rattle.vx_call.specs.Askers.{Asker, is_asked_by}
use Rattle.vx_call.specs.Askers as askers
use Rattle.vx_call.specs.Requests.{Open, opened, open_made, open_kind, conn_timeout, closes_asker, settles, settles_or_shuts, unsettled, settled_by}
use Rattle.vx_call.specs.Sendings.{Sent, nothing_sent, send_all}
use Rattle.vx_call.specs.Settled.{Settled, no_handlers, timeout, settlement, sending_of, timed_out, settled_by_closing, settlements, settled_unheard, settled_made, settled_kind, settled}
use Rattle.vx_call.proofs.Lasting.{lasting_more, and_false}
use Rattle.vx_call.proofs.Each.{Each, Each-filter, Each-both, weaken, accepted, lasting_each, lasting_each_among}
use Rattle.vx_call.proofs.Apart.{Apart, Apart-filter, others_apart}
use Rattle.vx_call.proofs.Found.{find_none, find_neither, earlier_name, later_name}
use Rattle.vx_call.proofs.Opened.{stays_asked, open_key, same_open, same_open-swap, IsOther, unsettled_apart, unsettled_earlier, Each-by_due, Apart-by_due}

-- ## What an entry settles

-- a request that the next entry makes and that reaches nobody
abbrev pub unheard : List Traced → Asker → Settled
unheard history asker = record { request = next_message history; at = next_entry history; asker = asker; outcome = no_handlers }

-- P holds of the request when it is settled next, whatever the outcome
abbrev pub AnyOutcome : List Traced → (Settled → Type 0) → Open → Type 0
AnyOutcome history P request = (outcome : Outcome) → P (settlement history outcome request)

pub each_settlement : (P : Settled → Type 0) (history : List Traced) (outcome : Outcome) (requests : List Open) → Each (AnyOutcome history P) requests → Each P (settlements history outcome requests)
each_settlement P history outcome [] each = tt
each_settlement P history outcome (request ∷ others) each = (each.0 outcome, each_settlement P history outcome others each.1)

each_unheard : (P : Settled → Type 0) (history : List Traced) (asker : Asker) (all : List Consumer) → (all ≡ [] → P (unheard history asker)) → Each P (settled_unheard history asker all)
each_unheard P history asker [] own = (own refl, tt)
each_unheard P history asker (consumer ∷ others) own = tt

-- those that a context settles as it closes are some of them
each_closed : (P : Settled → Type 0) (history : List Traced) (pass : PassNo) (call : Call) (deed : Deed) → Each (AnyOutcome history P) (settled_by history pass call deed) → Each P (settled_by_closing history pass call deed)
each_closed P history pass call deed each =
    each_settlement P history no_handlers _ (Each-filter (AnyOutcome history P) (AnyOutcome history P) _ (settled_by history pass call deed) (λ request passes known. known) each)

-- those whose time is up are some of them
pub each_timed_out : (P : Settled → Type 0) (history : List Traced) (sent : Sent) (all : List Open) → Each (AnyOutcome history P) all → Each P (timed_out history sent all)
each_timed_out P history sent [] each = tt
each_timed_out P history sent (request ∷ others) each =
    let next = send_all history sent (sending_of (settlement history timeout request)) in
    elim (is_asked_by sent.shut request.asker) as (λ b. Each P (cond b (timed_out history sent others) (settlement history timeout request ∷ timed_out history next others))) [
      | true ↦ each_timed_out P history sent others each.1
      | false ↦ (each.0 timeout, each_timed_out P history next others each.1)
    ]

-- the entry makes a request of this asker
abbrev pub Asks : Call → Deed → Asker → Type 0
Asks (calls.Request context address body options time once) deed asker = asker ≡ askers.context context
Asks (calls.FrameIn conn frame) (deeds.Requests address headers body at) asker = asker ≡ askers.connection conn at
Asks _ _ asker = ⊥

each_framed : (P : Settled → Type 0) (history : List Traced) (pass : PassNo) (conn : ConnId) (frame : InFrame) (deed : Deed) → Each (AnyOutcome history P) (settled_by history pass (calls.FrameIn conn frame) deed) →
    ((asker : Asker) → Asks (calls.FrameIn conn frame) deed asker → accepting history (calls.FrameIn conn frame) deed ≡ [] → P (unheard history asker)) →
    Each P (settled_made history pass (calls.FrameIn conn frame) deed)
each_framed P history pass conn frame (deeds.Requests address headers body at) each own =
    each_unheard P history (askers.connection conn at) (accepting history (calls.FrameIn conn frame) (deeds.Requests address headers body at)) (λ nobody. own (askers.connection conn at) refl nobody)
each_framed P history pass conn frame (deeds.Replies message headers body at) each own = each_settlement P history _ _ each
each_framed P history pass conn frame _ each own = tt

-- what holds of each open request that a call settles, and of a request's own that nobody accepts, holds of all that the call settles
pub each_settled : (P : Settled → Type 0) (history : List Traced) (pass : PassNo) (call : Call) (deed : Deed) → Each (AnyOutcome history P) (settled_by history pass call deed) →
    ((asker : Asker) → Asks call deed asker → accepting history call deed ≡ [] → P (unheard history asker)) →
    Each P (settled_made history pass call deed)
each_settled P history pass (calls.Request context address body options time once) deed each own =
    each_unheard P history (askers.context context) (accepting history (calls.Request context address body options time once) deed) (λ nobody. own (askers.context context) refl nobody)
each_settled P history pass (calls.Reply message body options) deed each own = each_settlement P history _ _ each
each_settled P history pass (calls.Fail message code text) deed each own = each_settlement P history _ _ each
each_settled P history pass (calls.ReplyRequest message context body options time) deed each own = each_settlement P history _ _ each
each_settled P history pass (calls.Advance moment) deed each own = each_timed_out P history nothing_sent _ (Each-by_due (AnyOutcome history P) _ each)
each_settled P history pass (calls.Unregister id) deed each own = each_settlement P history _ _ each
each_settled P history pass (calls.FrameIn conn frame) deed each own = each_framed P history pass conn frame deed each own
each_settled P history pass (calls.StartDone result) deed each own = each_closed P history pass (calls.StartDone result) deed each
each_settled P history pass calls.StopDone deed each own = each_closed P history pass calls.StopDone deed each
each_settled P history pass (calls.Finish end) deed each own = each_closed P history pass (calls.Finish end) deed each
each_settled P history pass _ deed each own = tt

-- what holds of each open request
pub each_settled_by : (P : Open → Type 0) (Q : Settled → Type 0) (history : List Traced) (pass : PassNo) (call : Call) (deed : Deed) → ((request : Open) (outcome : Outcome) → P request → Q (settlement history outcome request)) →
    Each P (unsettled history) → Each (AnyOutcome history Q) (settled_by history pass call deed)
each_settled_by P Q history pass call deed as_settled each =
    Each-filter P (AnyOutcome history Q) (settles history pass call deed) (unsettled history) (λ request passes known outcome. as_settled request outcome known) each

-- ## Apart

abbrev pub same_settled : Settled → Settled → Bool
same_settled a b = a.request.0.0 == b.request.0.0

other_settlements : (history : List Traced) (outcome : Outcome) (first : Settled) (others : List Open) → Each (λ (r : Open). (first.request.0.0 == r.id.0.0) ≡ false) others →
    Each (λ s. same_settled first s ≡ false) (settlements history outcome others)
other_settlements history outcome first [] apart = tt
other_settlements history outcome first (request ∷ others) apart = (apart.0, other_settlements history outcome first others apart.1)

settlements_apart : (history : List Traced) (outcome : Outcome) (all : List Open) → Apart same_open all → Apart same_settled (settlements history outcome all)
settlements_apart history outcome [] apart = tt
settlements_apart history outcome (request ∷ others) apart = (other_settlements history outcome (settlement history outcome request) others apart.0, settlements_apart history outcome others apart.1)

settled_by_apart : (history : List Traced) (pass : PassNo) (call : Call) (deed : Deed) → Apart same_open (settled_by history pass call deed)
settled_by_apart history pass call deed = Apart-filter same_open (settles history pass call deed) (unsettled history) (unsettled_apart history)

unheard_apart : (history : List Traced) (asker : Asker) (all : List Consumer) → Apart same_settled (settled_unheard history asker all)
unheard_apart history asker [] = (tt, tt)
unheard_apart history asker (consumer ∷ others) = tt

closed_apart : (history : List Traced) (pass : PassNo) (call : Call) (deed : Deed) → Apart same_settled (settled_by_closing history pass call deed)
closed_apart history pass call deed =
    settlements_apart history no_handlers _ (Apart-filter same_open (λ (request : Open). not (closes_asker history pass call request.asker)) (settled_by history pass call deed) (settled_by_apart history pass call deed))

timed_out_apart : (history : List Traced) (sent : Sent) (all : List Open) → Apart same_open all → Apart same_settled (timed_out history sent all)
timed_out_apart history sent [] apart = tt
timed_out_apart history sent (request ∷ others) apart =
    let first = settlement history timeout request in
    let next = send_all history sent (sending_of first) in
    elim (is_asked_by sent.shut request.asker) as (λ b. Apart same_settled (cond b (timed_out history sent others) (first ∷ timed_out history next others))) [
      | true ↦ timed_out_apart history sent others apart.1
      | false ↦ (
        each_timed_out (λ s. same_settled first s ≡ false) history next others
            (weaken (IsOther request) (AnyOutcome history (λ s. same_settled first s ≡ false)) others (λ other differs outcome. differs) apart.0),
        timed_out_apart history next others apart.1,
      )
    ]

framed_apart : (history : List Traced) (pass : PassNo) (conn : ConnId) (frame : InFrame) (deed : Deed) → Apart same_settled (settled_made history pass (calls.FrameIn conn frame) deed)
framed_apart history pass conn frame (deeds.Requests address headers body at) =
    unheard_apart history (askers.connection conn at) (accepting history (calls.FrameIn conn frame) (deeds.Requests address headers body at))
framed_apart history pass conn frame (deeds.Replies message headers body at) =
    settlements_apart history _ _ (settled_by_apart history pass (calls.FrameIn conn frame) (deeds.Replies message headers body at))
framed_apart history pass conn frame _ = tt

-- no two of those that an entry settles are one request
pub settled_made_apart : (history : List Traced) (pass : PassNo) (call : Call) (deed : Deed) → Apart same_settled (settled_made history pass call deed)
settled_made_apart history pass (calls.Request context address body options time once) deed =
    unheard_apart history (askers.context context) (accepting history (calls.Request context address body options time once) deed)
settled_made_apart history pass (calls.Reply message body options) deed = settlements_apart history _ _ (settled_by_apart history pass (calls.Reply message body options) deed)
settled_made_apart history pass (calls.Fail message code text) deed = settlements_apart history _ _ (settled_by_apart history pass (calls.Fail message code text) deed)
settled_made_apart history pass (calls.ReplyRequest message context body options time) deed = settlements_apart history _ _ (settled_by_apart history pass (calls.ReplyRequest message context body options time) deed)
settled_made_apart history pass (calls.Advance moment) deed = timed_out_apart history nothing_sent _ (Apart-by_due _ (settled_by_apart history pass (calls.Advance moment) deed))
settled_made_apart history pass (calls.Unregister id) deed = settlements_apart history _ _ (settled_by_apart history pass (calls.Unregister id) deed)
settled_made_apart history pass (calls.FrameIn conn frame) deed = framed_apart history pass conn frame deed
settled_made_apart history pass (calls.StartDone result) deed = closed_apart history pass (calls.StartDone result) deed
settled_made_apart history pass calls.StopDone deed = closed_apart history pass calls.StopDone deed
settled_made_apart history pass (calls.Finish end) deed = closed_apart history pass (calls.Finish end) deed
settled_made_apart history pass _ deed = tt

-- ## Requests that have ended

abbrev IsSettledEarlier : List Traced → Settled → Type 0
IsSettledEarlier history s = s.request.0.0 < length history

new_settled_earlier : (history : List Traced) (new : Traced) (pass : PassNo) (call : Call) (deed : Deed) → Each (IsSettledEarlier (history ++ new ∷ [])) (settled_made history pass call deed)
new_settled_earlier history new pass call deed =
    let longer = length_push history new in
    each_settled (IsSettledEarlier (history ++ new ∷ [])) history pass call deed
    (each_settled_by (λ request. open_key request < length history) (IsSettledEarlier (history ++ new ∷ [])) history pass call deed (λ request outcome before. omega arith) (unsettled_earlier history))
    (λ asker asks nobody. omega arith)

-- a request that has ended was made by an entry before
pub settled_earlier : (history : List Traced) → Each (λ (s : Settled). s.request.0.0 < length history) (lasting settled_kind history)
settled_earlier = lasting_each settled_kind IsSettledEarlier (λ history new s stays before. let longer = length_push history new in omega arith)
    (λ history new. accepted (IsSettledEarlier (history ++ new ∷ [])) (is_accepted new.entry.reply) _ (λ ok. new_settled_earlier history new new.entry.pass new.entry.call new.mark.deed))

abbrev pub is_settled_as : MessageId → Settled → Bool
is_settled_as id s = same_message id s.request

pub settled-append : (history : List Traced) (new : Traced) → lasting settled_kind (history ++ new ∷ []) ≡ lasting settled_kind history ++ made_by settled_kind history new
settled-append history new = lasting_more settled_kind history new (λ s. and_false (is_accepted new.entry.reply))

-- the next message has not ended
pub next_unsettled : (history : List Traced) → settled history (next_message history) ≡ None
next_unsettled history =
    find_none (is_settled_as (next_message history)) (lasting settled_kind history)
    (weaken (IsSettledEarlier history) (λ s. is_settled_as (next_message history) s ≡ false) (lasting settled_kind history)
    (λ s before. later_name (length history) s.request.0.0 before) (settled_earlier history))

abbrev IsUnsettled : List Traced → Open → Type 0
IsUnsettled history request = settled history request.id ≡ None

-- a request that an entry does not settle
unsettled_stays : (history : List Traced) (new : Traced) (request : Open) →
    (settles history new.entry.pass new.entry.call new.mark.deed request ≡ false → Each (IsOther request) (settled_by history new.entry.pass new.entry.call new.mark.deed)) → open_key request < length history → IsUnsettled history request →
    ended_by open_kind history new request ≡ false → IsUnsettled (history ++ new ∷ []) request
unsettled_stays history new request others before none stays =
    let pass = new.entry.pass in
    let call = new.entry.call in
    let deed = new.mark.deed in
    let test = is_settled_as request.id in
    ap (find test) (settled-append history new)
    ∙ find_neither test (lasting settled_kind history) (made_by settled_kind history new) none
    (find_none test (made_by settled_kind history new)
    (elim (is_accepted new.entry.reply) as (λ b. (b && settles_or_shuts history new request) ≡ false → Each (λ s. test s ≡ false) (cond b (settled_made history pass call deed) [])) [
      | true ↦ λ kept. each_settled (λ s. test s ≡ false) history pass call deed
          (weaken (IsOther request) (AnyOutcome history (λ s. test s ≡ false)) (settled_by history pass call deed) (λ other apart outcome. apart)
          (others (or_parts (settles history pass call deed request) (is_asked_by new.mark.shut request.asker) kept).0))
          (λ asker asks nobody. earlier_name request.id.0.0 (length history) before)
      | false ↦ λ kept. tt
    ] stays))

all_stay : (history : List Traced) (new : Traced) → Each (IsUnsettled history) (unsettled history) →
    Each (λ request. ended_by open_kind history new request ≡ false → IsUnsettled (history ++ new ∷ []) request) (unsettled history)
all_stay history new each =
    let pass = new.entry.pass in
    let call = new.entry.call in
    let deed = new.mark.deed in
    let Others : Open → Type 0 = λ request. settles history pass call deed request ≡ false → Each (IsOther request) (settled_by history pass call deed) in
    let Before : Open → Type 0 = λ request. open_key request < length history in
    Each-both (λ request. Others request × Before request) (IsUnsettled history) (λ request. ended_by open_kind history new request ≡ false → IsUnsettled (history ++ new ∷ []) request) (unsettled history)
    (λ request known none stays. unsettled_stays history new request known.0 known.1 none stays)
    (Each-both Others Before (λ request. Others request × Before request) (unsettled history) (λ request others before. (others, before))
    (others_apart same_open same_open-swap (settles history pass call deed) (unsettled history) (unsettled_apart history))
    (unsettled_earlier history))
    each

-- the next message, where the entry settles others alone
new_one : (history : List Traced) (made : List Settled) → Each (λ s. is_settled_as (next_message history) s ≡ false) made →
    find (is_settled_as (next_message history)) (lasting settled_kind history ++ made) ≡ None
new_one history made others =
    let test = is_settled_as (next_message history) in
    find_neither test (lasting settled_kind history) made (next_unsettled history) (find_none test made others)

abbrev IsNew : List Traced → List Settled → Open → Type 0
IsNew history made request = find (is_settled_as request.id) (lasting settled_kind history ++ made) ≡ None

each_new : (history : List Traced) (asker : Asker) (time : ℕ) (all : List Consumer) → Each (IsNew history []) (map (opened history asker time) all)
each_new history asker time [] = tt
each_new history asker time (consumer ∷ others) = (new_one history [] tt, each_new history asker time others)

new_accepted : (history : List Traced) (asker : Asker) (time : ℕ) (all : List Consumer) → Each (IsNew history (settled_unheard history asker all)) (map (opened history asker time) all)
new_accepted history asker time [] = tt
new_accepted history asker time (consumer ∷ others) = each_new history asker time (consumer ∷ others)

-- what is no request, and settles some
new_alone : (history : List Traced) (pass : PassNo) (call : Call) (deed : Deed) → ((asker : Asker) → Asks call deed asker → ⊥) →
    find (is_settled_as (next_message history)) (lasting settled_kind history ++ settled_made history pass call deed) ≡ None
new_alone history pass call deed no_request =
    new_one history (settled_made history pass call deed)
    (each_settled (λ s. is_settled_as (next_message history) s ≡ false) history pass call deed
    (each_settled_by (λ request. open_key request < length history) (λ s. is_settled_as (next_message history) s ≡ false) history pass call deed
    (λ request outcome before. later_name (length history) request.id.0.0 before) (unsettled_earlier history))
    (λ asker asks nobody. absurd (no_request asker asks)))

frame_open : (history : List Traced) (pass : PassNo) (conn : ConnId) (frame : InFrame) (deed : Deed) →
    Each (IsNew history (settled_made history pass (calls.FrameIn conn frame) deed)) (open_made history (calls.FrameIn conn frame) deed)
frame_open history pass conn frame (deeds.Requests address headers body at) =
    new_accepted history (askers.connection conn at) conn_timeout (accepting history (calls.FrameIn conn frame) (deeds.Requests address headers body at))
frame_open history pass conn frame (deeds.Replies message headers body (Some at)) =
    (new_alone history pass (calls.FrameIn conn frame) (deeds.Replies message headers body (Some at)) (λ asker asks. asks), tt)
frame_open history pass conn frame _ = tt

new_open : (history : List Traced) (pass : PassNo) (call : Call) (deed : Deed) → Each (IsNew history (settled_made history pass call deed)) (open_made history call deed)
new_open history pass (calls.Request context address body options timeout once) deed =
    new_accepted history (askers.context context) timeout (accepting history (calls.Request context address body options timeout once) deed)
new_open history pass (calls.ReplyRequest message context body options timeout) deed =
    (new_alone history pass (calls.ReplyRequest message context body options timeout) deed (λ asker asks. asks), tt)
new_open history pass (calls.FrameIn conn frame) deed = frame_open history pass conn frame deed
new_open history pass _ deed = tt

new_unsettled : (history : List Traced) (new : Traced) → Each (IsUnsettled (history ++ new ∷ [])) (made_by open_kind history new)
new_unsettled history new =
    let P : List Settled → Type 0 = λ all. Each (λ (request : Open). find (is_settled_as request.id) all ≡ None) (made_by open_kind history new) in
    let made = settled_made history new.entry.pass new.entry.call new.mark.deed in
    subst P (sym (settled-append history new))
    (elim (is_accepted new.entry.reply) as (λ b. Each (IsNew history (cond b made [])) (cond b (filter (stays_asked new) (open_made history new.entry.call new.mark.deed)) [])) [
      | true ↦ Each-filter (IsNew history made) (IsNew history made) (stays_asked new) _ (λ request passes known. known) (new_open history new.entry.pass new.entry.call new.mark.deed)
      | false ↦ tt
    ])

-- an open request has not ended
pub settled_open : (history : List Traced) → Each (λ (request : Open). settled history request.id ≡ None) (unsettled history)
settled_open = lasting_each_among open_kind IsUnsettled all_stay new_unsettled
