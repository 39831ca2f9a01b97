-- Nobody gets the message of a request that failed with NO_HANDLERS.
use Rattle.std.proofs.Common.{◌≡◌, ℕ, ◌<◌, List, [], ◌∷◌, ◌++◌, length, refl, ap, sym, ◌∙◌}
use Rattle.std.specs.Prelude.{ℤ, ◌≢◌, Bool, true, false, not, ◌&&◌, ◌||◌, cond, filter, is_some, Option, None, Some}
use Rattle.std.proofs.lemmas.Bool.{and_parts}
use Rattle.vx_data.specs.declared.ids.ConnId.{ConnId}
use Rattle.vx_data.specs.declared.ids.ConsumerId.{ConsumerId}
use Rattle.vx_data.specs.declared.ids.ContextId.{ContextId}
use Rattle.vx_data.specs.declared.ids.PassNo.{PassNo}
use Rattle.vx_message.specs.declared.Failure.{Failure}
use Rattle.vx_message.specs.declared.FailureKind.{FailureKind}
use Rattle.vx_message.specs.declared.FailureKind.TheVariants as failures
use Rattle.vx_message.specs.declared.Lane.{Lane}
use Rattle.vx_message.specs.declared.Outcome.{Outcome}
use Rattle.vx_message.specs.declared.Outcome.TheVariants as outcomes
use Rattle.vx_message.specs.declared.frame.InFrame.{InFrame}
use Rattle.vx_call.specs.declared.call.Call.{Call}
use Rattle.vx_call.specs.declared.call.Call.TheVariants as calls
use Rattle.vx_call.specs.declared.reply.Task.{Task}
use Rattle.vx_call.specs.declared.history.Consumer.{Consumer}
use Rattle.vx_call.specs.declared.history.Deed.{Deed}
use Rattle.vx_call.specs.declared.history.Deed.TheVariants as deeds
use Rattle.vx_call.specs.declared.history.Traced.{Traced}
use Rattle.vx_call.specs.History.{is_accepted, lasting}
use Rattle.vx_call.specs.Names.{next_message}
use Rattle.vx_call.specs.Mailboxes.{accepting}
use Rattle.vx_call.specs.Given.{is_given}
use Rattle.vx_call.specs.Held.{is_of_context}
use Rattle.vx_call.specs.Closings.{closing_by, closes}
use Rattle.vx_call.specs.Askers.{Asker, is_asked_by}
use Rattle.vx_call.specs.Askers as askers
use Rattle.vx_call.specs.Requests.{Open, closes_asker, is_lost_at, settles, unsettled, settled_by, by_due}
use Rattle.vx_call.specs.Sendings.{Sent, nothing_sent, send_all}
use Rattle.vx_call.specs.Items.{closes_task, task_ended}
use Rattle.vx_call.specs.Settled.{Settled, settlement, failed, timeout, no_handlers, settlements, sending_of, timed_out, replied, settled_unheard, settled_by_closing, settled_made, settled_kind}
use Rattle.vx_call.specs.Machine.{IsLegal}
use Rattle.vx_call.proofs.Each.{Each, Each-filter, Each-find, Each-both, accepted, lasting_each, not_true}
use Rattle.vx_call.proofs.Found.{find_passes}
use Rattle.vx_call.proofs.Legal.{legal_front}
use Rattle.vx_call.proofs.Opened.{open_key, unsettled_earlier}
use Rattle.vx_call.proofs.Receivers.{HasHome, open_home}
use Rattle.vx_call.proofs.Settlings.{is_settled_as}
use Rattle.vx_laws.specs.Outcomes.{GivesNoneUnheard, DeliversNoneUnheard}
use Rattle.vx_laws.proofs.Splits.{Each-any}
use Rattle.vx_laws.proofs.Agains.{asks_at}
use Rattle.vx_laws.proofs.Taken.{same_message-true, taken_given}
use Rattle.vx_laws.proofs.Nobody.{NobodyGets, nobody_on, nobody_reached}
use Rattle.vx_laws.proofs.Lost.{HasSource, open_source, lost, nobody_left, IsLeft, EndsWith, nobody_closed}

abbrev IsNoHandlers : Outcome → Type 0
IsNoHandlers outcome = (failure : Failure) × (outcome ≡ outcomes.Failed failure) × (failure.kind ≡ failures.NoHandlers)

abbrev IsUnheardOf : List Traced → Settled → Type 0
IsUnheardOf history s = IsLegal history → IsNoHandlers s.outcome → NobodyGets history s.request

-- ## Another outcome

each_settlement : (P : Settled → Type 0) (history : List Traced) (outcome : Outcome) (requests : List Open) → Each (λ request. P (settlement history outcome request)) requests → Each P (settlements history outcome requests)
each_settlement P history outcome [] each = tt
each_settlement P history outcome (request ∷ others) each = (each.0, each_settlement P history outcome others each.1)

heard : (history after : List Traced) (outcome : Outcome) (requests : List Open) → (IsNoHandlers outcome → ⊥) → Each (IsUnheardOf after) (settlements history outcome requests)
heard history after outcome requests other =
    each_settlement (IsUnheardOf after) history outcome requests (Each-any (λ request. IsUnheardOf after (settlement history outcome request)) requests (λ request legal none. absurd (other none)))

other_kind : (kind : FailureKind) (code : ℤ) (text : List ℕ) → kind ≢ failures.NoHandlers → IsNoHandlers (failed kind code text) → ⊥
other_kind kind code text other none =
    let failure : Failure = record { kind = kind; code = code; text = text } in
    let same : failure ≡ none.0 = cc in
    other (ap (λ (f : Failure). f.kind) same ∙ none.2)

timed : (history after : List Traced) (sent : Sent) (all : List Open) → Each (IsUnheardOf after) (timed_out history sent all)
timed history after sent [] = tt
timed history after sent (request ∷ others) =
    let next = send_all history sent (sending_of (settlement history timeout request)) in
    elim (is_asked_by sent.shut request.asker) as (λ b. Each (IsUnheardOf after) (cond b (timed_out history sent others) (settlement history timeout request ∷ timed_out history next others))) [
      | true ↦ timed history after sent others
      | false ↦ (λ legal none. absurd (other_kind failures.Timeout _ _ (λ e. cc) none), timed history after next others)
    ]

-- ## A request that reaches nobody

unheard_request : (history : List Traced) (new : Traced) (asker : Asker) (address : List ℕ) (all : List Consumer) → asks_at new.entry.call new.mark.deed ≡ Some address → accepting history new.entry.call new.mark.deed ≡ all →
    Each (IsUnheardOf (history ++ new ∷ [])) (settled_unheard history asker all)
unheard_request history new asker address [] asks nobody = (λ legal none. nobody_reached history new address legal asks nobody, tt)
unheard_request history new asker address (consumer ∷ others) asks somebody = tt

-- ## A request that is lost

record Known (history : List Traced) (request : Open) : Type 0 where
  pub earlier : open_key request < length history
  pub source : HasSource history request
  pub at_home : HasHome history request request.receiver request.home

all_known : (history : List Traced) → Each (Known history) (unsettled history)
all_known history =
    let Homed : Open → Type 0 = λ request. HasHome history request request.receiver request.home in
    Each-both (λ request. (open_key request < length history) × HasSource history request) Homed (Known history) (unsettled history)
    (λ request both homed. record { earlier = both.0; source = both.1; at_home = homed })
    (Each-both (λ request. open_key request < length history) (HasSource history) (λ request. (open_key request < length history) × HasSource history request) (unsettled history)
    (λ request before from. (before, from)) (unsettled_earlier history) (open_source history))
    (open_home history)

-- its one receiver ends
lost_requests : (history : List Traced) (new : Traced) (id : ConsumerId) → is_accepted new.entry.reply ≡ true → new.entry.call ≡ calls.Unregister id →
    Each (IsUnheardOf (history ++ new ∷ [])) (settlements history no_handlers (settled_by history new.entry.pass (calls.Unregister id) new.mark.deed))
lost_requests history new id ok is_call =
    let after = history ++ new ∷ [] in
    let call = calls.Unregister id in
    each_settlement (IsUnheardOf after) history no_handlers (settled_by history new.entry.pass call new.mark.deed)
    (Each-filter (Known history) (λ request. IsUnheardOf after (settlement history no_handlers request)) (settles history new.entry.pass call new.mark.deed) (unsettled history)
    (λ request is_lost known legal none. nobody_left history new id request ok is_call known.earlier known.source (lost history id request is_lost)) (all_known history))

-- the context closes that was to get it
left_by : (history : List Traced) (pass : PassNo) (call : Call) (request : Open) (home : Option ContextId) → request.home ≡ home → ((context : ContextId) → closes history pass call context ≡ is_of_context context (closing_by history pass call)) →
    is_lost_at history pass call request home ≡ true → IsLeft history (closing_by history pass call) request
left_by history pass call request None is closing h = absurd cc
left_by history pass call request (Some home) is closing h =
    let both = and_parts (closes history pass call home) (not (is_given history request.id)) h in
    record { home = home; is_home = is; closed = sym (closing home) ∙ both.0; untaken = not_true (is_given history request.id) both.1 }

or_last : (a b : Bool) → (a || b) ≡ true → not a ≡ true → b ≡ true
or_last true b h others = absurd cc
or_last false b h others = h

closed_requests : (history : List Traced) (new : Traced) (call : Call) → is_accepted new.entry.reply ≡ true → new.entry.call ≡ call → ((lane : Lane) → call ≡ calls.Take lane → ⊥) →
    ((request : Open) → settles history new.entry.pass call new.mark.deed request ≡ (closes_asker history new.entry.pass call request.asker || is_lost_at history new.entry.pass call request request.home)) →
    ((context : ContextId) → closes history new.entry.pass call context ≡ is_of_context context (closing_by history new.entry.pass call)) →
    EndsWith history new (closing_by history new.entry.pass call) → Each (IsUnheardOf (history ++ new ∷ [])) (settled_by_closing history new.entry.pass call new.mark.deed)
closed_requests history new call ok is_call no_take settling closing ends =
    let after = history ++ new ∷ [] in
    let pass = new.entry.pass in
    let settled = settles history pass call new.mark.deed in
    let asks = λ (request : Open). closes_asker history pass call request.asker in
    each_settlement (IsUnheardOf after) history no_handlers (filter (λ request. not (asks request)) (settled_by history pass call new.mark.deed))
    (Each-filter (λ request. Known history request × (settled request ≡ true)) (λ request. IsUnheardOf after (settlement history no_handlers request)) (λ request. not (asks request)) (settled_by history pass call new.mark.deed)
    (λ request not_asked known legal none.
    nobody_closed history new (closing_by history pass call) request ends (λ lane take. no_take lane (sym is_call ∙ take)) known.0.earlier known.0.source known.0.at_home
    (left_by history pass call request request.home refl closing (or_last (asks request) _ (sym (settling request) ∙ known.1) not_asked)))
    (Each-filter (Known history) (λ request. Known history request × (settled request ≡ true)) settled (unsettled history) (λ request passes known. (known, passes)) (all_known history)))

ends_so : (history : List Traced) (new : Traced) (call : Call) → is_accepted new.entry.reply ≡ true → new.entry.call ≡ call →
    ((task : Task) → task_ended history new.entry.pass call new.entry.reply task ≡ closes_task history (closing_by history new.entry.pass call) task) → EndsWith history new (closing_by history new.entry.pass call)
ends_so history new call ok is_call ends task stays =
    sym (ap (λ b. b && task_ended history new.entry.pass new.entry.call new.entry.reply task) ok ∙ ap (λ c. task_ended history new.entry.pass c new.entry.reply task) is_call ∙ ends task) ∙ stays

-- ## All that an entry settles

frame_unheard : (history : List Traced) (new : Traced) (conn : ConnId) (frame : InFrame) (deed : Deed) → new.entry.call ≡ calls.FrameIn conn frame → new.mark.deed ≡ deed →
    Each (IsUnheardOf (history ++ new ∷ [])) (settled_made history new.entry.pass (calls.FrameIn conn frame) deed)
frame_unheard history new conn frame (deeds.Requests address headers body at) is_call is_deed =
    let call = calls.FrameIn conn frame in
    let deed = deeds.Requests address headers body at in
    unheard_request history new (askers.connection conn at) address (accepting history call deed) (ap (λ c. asks_at c new.mark.deed) is_call ∙ ap (asks_at call) is_deed)
    (ap (λ c. accepting history c new.mark.deed) is_call ∙ ap (accepting history call) is_deed)
frame_unheard history new conn frame (deeds.Replies message headers body at) is_call is_deed = heard history (history ++ new ∷ []) _ _ (λ none. (let e = none.1 in cc))
frame_unheard history new conn frame _ is_call is_deed = tt

new_unheard : (history : List Traced) (new : Traced) (call : Call) → is_accepted new.entry.reply ≡ true → new.entry.call ≡ call → Each (IsUnheardOf (history ++ new ∷ [])) (settled_made history new.entry.pass call new.mark.deed)
new_unheard history new (calls.Request context address body options time once) ok is_call =
    let call = calls.Request context address body options time once in
    unheard_request history new (askers.context context) address (accepting history call new.mark.deed) (ap (λ c. asks_at c new.mark.deed) is_call) (ap (λ c. accepting history c new.mark.deed) is_call)
new_unheard history new (calls.Reply message body options) ok is_call = heard history (history ++ new ∷ []) (replied history body options None) _ (λ none. (let e = none.1 in cc))
new_unheard history new (calls.Fail message code text) ok is_call = heard history (history ++ new ∷ []) (failed failures.RecipientFailure code text) _ (other_kind failures.RecipientFailure code text (λ e. cc))
new_unheard history new (calls.ReplyRequest message context body options time) ok is_call = heard history (history ++ new ∷ []) (replied history body options (Some (next_message history))) _ (λ none. (let e = none.1 in cc))
new_unheard history new (calls.Advance moment) ok is_call = timed history (history ++ new ∷ []) nothing_sent (by_due (settled_by history new.entry.pass (calls.Advance moment) new.mark.deed))
new_unheard history new (calls.Unregister id) ok is_call = lost_requests history new id ok is_call
new_unheard history new (calls.FrameIn conn frame) ok is_call = frame_unheard history new conn frame new.mark.deed is_call refl
new_unheard history new (calls.StartDone result) ok is_call =
    closed_requests history new (calls.StartDone result) ok is_call (λ lane e. cc) (λ request. refl) (λ context. refl) (ends_so history new (calls.StartDone result) ok is_call (λ task. refl))
new_unheard history new calls.StopDone ok is_call = closed_requests history new calls.StopDone ok is_call (λ lane e. cc) (λ request. refl) (λ context. refl) (ends_so history new calls.StopDone ok is_call (λ task. refl))
new_unheard history new (calls.Finish end) ok is_call =
    closed_requests history new (calls.Finish end) ok is_call (λ lane e. cc) (λ request. refl) (λ context. refl) (ends_so history new (calls.Finish end) ok is_call (λ task. refl))
new_unheard history new _ ok is_call = tt

all_unheard : (history : List Traced) → Each (IsUnheardOf history) (lasting settled_kind history)
all_unheard =
    lasting_each settled_kind IsUnheardOf
    (λ history new s stays before legal none. nobody_on history new s.request legal (before (legal_front history (new ∷ []) legal) none))
    (λ history new. accepted (IsUnheardOf (history ++ new ∷ [])) (is_accepted new.entry.reply) (settled_made history new.entry.pass new.entry.call new.mark.deed) (λ ok. new_unheard history new new.entry.call ok refl))

pub is_unheard : (history : List Traced) → IsLegal history → GivesNoneUnheard history
is_unheard history legal = λ request end failure found is_failure is_kind.
    (let nobody = Each-find (IsUnheardOf history) (is_settled_as request) (lasting settled_kind history) end (all_unheard history) found legal (failure, is_failure, is_kind) in
    ap (is_given history) (same_message-true request end.request (find_passes (is_settled_as request) (lasting settled_kind history) end found)) ∙ nobody.untaken)

pub is_undelivered : (history : List Traced) → IsLegal history → DeliversNoneUnheard history
is_undelivered history legal = λ request end failure found is_failure is_kind i lane consumer message takes same.
    (let given = taken_given history i lane consumer message takes in
    let yes : is_given history request ≡ true = ap (is_given history) (sym same) ∙ ap is_some given.1 in
    let no : is_given history request ≡ false = is_unheard history legal request end failure found is_failure is_kind in
    absurd cc)
