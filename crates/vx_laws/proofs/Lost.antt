-- Requests whose message nobody can get any more: its one receiver has ended, or the context that was to get it.
use Rattle.std.proofs.Common.{◌≡◌, ℕ, ◌<◌, List, [], ◌∷◌, ◌++◌, length, refl, ap, sym, ◌∙◌, subst, append_assoc, arith}
use Rattle.std.specs.Prelude.{true, false, not, ◌&&◌, map, find, Option, None, Some}
use Rattle.std.specs.Option.{option_and_then}
use Rattle.std.proofs.lemmas.Bool.{and_parts, not-true}
use Rattle.std.proofs.lemmas.List.{length_push}
use Rattle.vx_data.specs.declared.ids.ConnId.{ConnId}
use Rattle.vx_data.specs.declared.ids.ConsumerId.{ConsumerId}
use Rattle.vx_data.specs.declared.ids.ContextId.{ContextId}
use Rattle.vx_data.specs.declared.ids.MessageId.{MessageId}
use Rattle.vx_data.specs.Ids.{same_consumer}
use Rattle.vx_message.specs.declared.frame.InFrame.{InFrame}
use Rattle.vx_message.specs.declared.Lane.{Lane}
use Rattle.vx_call.specs.declared.call.Call.{Call}
use Rattle.vx_call.specs.declared.call.Call.TheVariants as calls
use Rattle.vx_call.specs.declared.reply.Task.{Task}
use Rattle.vx_call.specs.declared.reply.Task.TheVariants as tasks
use Rattle.vx_call.specs.declared.history.Consumer.{Consumer}
use Rattle.vx_call.specs.declared.history.Deed.{Deed}
use Rattle.vx_call.specs.declared.history.Deed.TheVariants as deeds
use Rattle.vx_call.specs.declared.history.Traced.{Traced}
use Rattle.vx_call.specs.History.{is_accepted, ended_by}
use Rattle.vx_call.specs.Registered.{is_named, registered}
use Rattle.vx_call.specs.Mailboxes.{accepting}
use Rattle.vx_call.specs.Given.{asker, context_of, is_given}
use Rattle.vx_call.specs.Held.{is_of_context}
use Rattle.vx_call.specs.Askers.{Asker}
use Rattle.vx_call.specs.Askers as askers
use Rattle.vx_call.specs.Requests.{Open, conn_timeout, opened, opened_again, open_made, open_kind, unsettled, is_lost_with}
use Rattle.vx_call.specs.Items.{closes_task, task_kind, task_ended, untaken}
use Rattle.vx_call.proofs.Each.{Each, Each-filter, accepted, lasting_each}
use Rattle.vx_call.proofs.Contexts.{same_context-swap}
use Rattle.vx_call.proofs.Opened.{open_key, stays_asked}
use Rattle.vx_call.proofs.Receivers.{IsHome, HasHome}
use Rattle.vx_call.proofs.Registered.{context_that}
use Rattle.vx_laws.proofs.Splits.{same_cut}
use Rattle.vx_laws.proofs.Agains.{again_of, asks_again, asks_at, not_both}
use Rattle.vx_laws.proofs.Origins.{IsChosen, Reaches, Origin, HasAgain, HasOrigin, accepting_reached, untaken_origins}
use Rattle.vx_laws.proofs.Outcomes.{asker_on}
use Rattle.vx_laws.proofs.Givings.{IsOtherAgain, IsOtherMessage, not_given}
use Rattle.vx_laws.proofs.Nobody.{NobodyGets, new_other, left_after}

-- ## Where the message of an open request comes from

-- the message was made by a request to an address, which chose this consumer
pub record AskedOf (history : List Traced) (request : MessageId) (receiver : ConsumerId) : Type 0 where
  pub before : List Traced
  pub new : Traced
  pub after : List Traced
  pub parts : history ≡ before ++ new ∷ after
  pub at : length before ≡ request.0.0
  pub address : List ℕ
  pub asks : asks_at new.entry.call new.mark.deed ≡ Some address
  pub chosen : IsChosen before address receiver

-- the message was made by a reply that asks again: it goes to the asker of the request that it replies to
pub record ReAsked (history : List Traced) (request : Open) : Type 0 where
  pub before : List Traced
  pub new : Traced
  pub after : List Traced
  pub parts : history ≡ before ++ new ∷ after
  pub at : length before ≡ request.id.0.0
  pub message : MessageId
  pub asks : asks_again new.entry.call new.mark.deed ≡ Some message
  pub home : request.home ≡ asker before message

abbrev pub ComesFrom : List Traced → Open → Option ConsumerId → Type 0
ComesFrom history request None = ReAsked history request
ComesFrom history request (Some receiver) = AskedOf history request.id receiver

abbrev pub HasSource : List Traced → Open → Type 0
HasSource history request = ComesFrom history request request.receiver

later : (before after rest : List Traced) (new : Traced) (history : List Traced) → history ≡ before ++ new ∷ after → history ++ rest ≡ before ++ new ∷ (after ++ rest)
later before after rest new history parts = ap (λ (h : List Traced). h ++ rest) parts ∙ append_assoc before (new ∷ after) rest

keeps_from : (history : List Traced) (new : Traced) (request : Open) (receiver : Option ConsumerId) → ComesFrom history request receiver → ComesFrom (history ++ new ∷ []) request receiver
keeps_from history new request None from = record {
  before = from.before;
  new = from.new;
  after = from.after ++ new ∷ [];
  parts = later from.before from.after (new ∷ []) from.new history from.parts;
  at = from.at;
  message = from.message;
  asks = from.asks;
  home = from.home;
}
keeps_from history new request (Some receiver) from = record {
  before = from.before;
  new = from.new;
  after = from.after ++ new ∷ [];
  parts = later from.before from.after (new ∷ []) from.new history from.parts;
  at = from.at;
  address = from.address;
  asks = from.asks;
  chosen = from.chosen;
}

asked_each : (history : List Traced) (new : Traced) (asker : Asker) (timeout : ℕ) (address : List ℕ) → asks_at new.entry.call new.mark.deed ≡ Some address → (all : List Consumer) →
    Each (λ consumer. IsChosen history address consumer.id) all → Each (HasSource (history ++ new ∷ [])) (map (opened history asker timeout) all)
asked_each history new asker timeout address asks [] chosen = tt
asked_each history new asker timeout address asks (consumer ∷ others) chosen = (
  record { before = history; new = new; after = []; parts = refl; at = refl; address = address; asks = asks; chosen = chosen.0 },
  asked_each history new asker timeout address asks others chosen.1,
)

asked_again : (history : List Traced) (new : Traced) (asker : Asker) (timeout : ℕ) (message : MessageId) → asks_again new.entry.call new.mark.deed ≡ Some message → HasSource (history ++ new ∷ []) (opened_again history asker timeout message)
asked_again history new asker timeout message asks = record { before = history; new = new; after = []; parts = refl; at = refl; message = message; asks = asks; home = refl }

frame_source : (history : List Traced) (new : Traced) (conn : ConnId) (frame : InFrame) (deed : Deed) → new.entry.call ≡ calls.FrameIn conn frame → new.mark.deed ≡ deed →
    Each (HasSource (history ++ new ∷ [])) (open_made history (calls.FrameIn conn frame) deed)
frame_source history new conn frame (deeds.Requests address headers body at) is_call is_deed =
    let call = calls.FrameIn conn frame in
    let deed = deeds.Requests address headers body at in
    asked_each history new (askers.connection conn at) conn_timeout address (ap (λ c. asks_at c new.mark.deed) is_call ∙ ap (asks_at call) is_deed) (accepting history call deed) (accepting_reached history call deed)
frame_source history new conn frame (deeds.Replies message headers body (Some at)) is_call is_deed =
    (asked_again history new (askers.connection conn at) conn_timeout message (ap (λ c. asks_again c new.mark.deed) is_call ∙ ap (asks_again (calls.FrameIn conn frame)) is_deed), tt)
frame_source history new conn frame _ is_call is_deed = tt

new_source : (history : List Traced) (new : Traced) (call : Call) → new.entry.call ≡ call → Each (HasSource (history ++ new ∷ [])) (open_made history call new.mark.deed)
new_source history new (calls.Request context address body options timeout once) is_call =
    let call = calls.Request context address body options timeout once in
    asked_each history new (askers.context context) timeout address (ap (λ c. asks_at c new.mark.deed) is_call) (accepting history call new.mark.deed) (accepting_reached history call new.mark.deed)
new_source history new (calls.ReplyRequest message context body options timeout) is_call = (asked_again history new (askers.context context) timeout message (ap (λ c. asks_again c new.mark.deed) is_call), tt)
new_source history new (calls.FrameIn conn frame) is_call = frame_source history new conn frame new.mark.deed is_call refl
new_source history new _ is_call = tt

pub open_source : (history : List Traced) → Each (HasSource history) (unsettled history)
open_source =
    lasting_each open_kind HasSource (λ history new request stays from. keeps_from history new request request.receiver from)
    (λ history new. accepted (HasSource (history ++ new ∷ [])) (is_accepted new.entry.reply) _
    (λ ok. Each-filter (HasSource (history ++ new ∷ [])) (HasSource (history ++ new ∷ [])) (stays_asked new) (open_made history new.entry.call new.mark.deed) (λ request passes from. from) (new_source history new new.entry.call refl)))

-- ## Whom the message reaches

reaches_chosen : (before : List Traced) (call : Call) (deed : Deed) (address : List ℕ) (id : ConsumerId) → asks_at call deed ≡ Some address → Reaches before call deed id → IsChosen before address id
reaches_chosen before (calls.Request context other body options timeout once) deed address id asks reaches = (let e : other ≡ address = cc in subst (λ (a : List ℕ). IsChosen before a id) e reaches)
reaches_chosen before (calls.FrameIn conn frame) (deeds.Requests other headers body at) address id asks reaches = (let e : other ≡ address = cc in subst (λ (a : List ℕ). IsChosen before a id) e reaches)
reaches_chosen before (calls.FrameIn conn frame) _ address id asks reaches = absurd cc
reaches_chosen before _ deed address id asks reaches = absurd cc

reaches_none : (before : List Traced) (call : Call) (deed : Deed) (message : MessageId) (id : ConsumerId) → asks_again call deed ≡ Some message → Reaches before call deed id → ⊥
reaches_none before (calls.ReplyRequest other context body options timeout) deed message id asks reaches = reaches
reaches_none before (calls.FrameIn conn frame) (deeds.Replies other headers body at) message id asks reaches = reaches
reaches_none before (calls.FrameIn conn frame) _ message id asks reaches = absurd cc
reaches_none before _ deed message id asks reaches = absurd cc

-- such a message reaches that consumer alone
one_receiver : (history : List Traced) (request : MessageId) (receiver consumer : ConsumerId) → AskedOf history request receiver → Origin history consumer request → consumer ≡ receiver
one_receiver history request receiver consumer asked origin =
    let cut = same_cut origin.before origin.after origin.new asked.before asked.after asked.new (sym origin.parts ∙ asked.parts) (origin.at ∙ sym asked.at) in
    let asks : asks_at origin.new.entry.call origin.new.mark.deed ≡ Some asked.address = ap (λ (t : Traced). asks_at t.entry.call t.mark.deed) cut.items ∙ asked.asks in
    let mine : IsChosen origin.before asked.address consumer = reaches_chosen origin.before origin.new.entry.call origin.new.mark.deed asked.address consumer asks origin.reaches in
    let now : IsChosen asked.before asked.address consumer = subst (λ (b : List Traced). IsChosen b asked.address consumer) cut.fronts mine in
    let its : IsChosen asked.before asked.address receiver = asked.chosen in
    let same : Some consumer ≡ Some receiver = sym now ∙ its in
    cc

-- it is none by which an asker is asked
other_again : (history : List Traced) (request asked_by : MessageId) (receiver : ConsumerId) (again : Option MessageId) → AskedOf history request receiver → HasAgain history asked_by again → IsOtherAgain request again
other_again history request asked_by receiver None asked origin = tt
other_again history request asked_by receiver (Some again) asked origin = λ same.
    (let at : length origin.before ≡ length asked.before = origin.at ∙ ap (λ (m : MessageId). m.0.0) same ∙ sym asked.at in
    let cut = same_cut origin.before origin.after origin.new asked.before asked.after asked.new (sym origin.parts ∙ asked.parts) at in
    let asks : asks_at origin.new.entry.call origin.new.mark.deed ≡ Some asked.address = ap (λ (t : Traced). asks_at t.entry.call t.mark.deed) cut.items ∙ asked.asks in
    not_both origin.new.entry.call origin.new.mark.deed asked.address asked_by asks origin.asks)

-- ... and the message of a reply reaches no consumer
no_receiver : (history : List Traced) (request : Open) (consumer : ConsumerId) → ReAsked history request → Origin history consumer request.id → ⊥
no_receiver history request consumer asked origin =
    let cut = same_cut origin.before origin.after origin.new asked.before asked.after asked.new (sym origin.parts ∙ asked.parts) (origin.at ∙ sym asked.at) in
    let asks : asks_again origin.new.entry.call origin.new.mark.deed ≡ Some asked.message = ap (λ (t : Traced). asks_again t.entry.call t.mark.deed) cut.items ∙ asked.asks in
    reaches_none origin.before origin.new.entry.call origin.new.mark.deed asked.message consumer asks origin.reaches

-- an outcome that asks by it is for the context that it goes to
one_asker : (history : List Traced) (request : Open) (asked_by again : MessageId) (home : ContextId) → again ≡ request.id → request.home ≡ Some home → ReAsked history request → HasAgain history asked_by (Some again) → asker history asked_by ≡ Some home
one_asker history request asked_by again home same its asked origin =
    let at : length origin.before ≡ length asked.before = origin.at ∙ ap (λ (m : MessageId). m.0.0) same ∙ sym asked.at in
    let cut = same_cut origin.before origin.after origin.new asked.before asked.after asked.new (sym origin.parts ∙ asked.parts) at in
    let both : Some asked_by ≡ Some asked.message = sym origin.asks ∙ ap (λ (t : Traced). asks_again t.entry.call t.mark.deed) cut.items ∙ asked.asks in
    let one : asked_by ≡ asked.message = cc in
    let then : asker asked.before asked.message ≡ Some home = sym asked.home ∙ its in
    ap (asker history) one ∙ ap (λ (h : List Traced). asker h asked.message) asked.parts ∙ asker_on asked.before (asked.new ∷ asked.after) asked.message home then

-- ## The receiver ends

-- what is there for the consumer goes with it
receiver_left : (history : List Traced) (new : Traced) (id : ConsumerId) (request : MessageId) (receiver : ConsumerId) (task : Task) →
    is_accepted new.entry.reply ≡ true → new.entry.call ≡ calls.Unregister id → same_consumer id receiver ≡ true → AskedOf history request receiver →
    HasOrigin history task → (is_accepted new.entry.reply && task_ended history new.entry.pass new.entry.call new.entry.reply task) ≡ false → IsOtherMessage request task
receiver_left history new id request receiver (tasks.Deliver consumer message) ok is_call named asked origin stays = λ same.
    (let receives : consumer ≡ receiver = one_receiver history request receiver consumer asked (subst (λ (m : MessageId). Origin history consumer m) same origin) in
    let gone : same_consumer id consumer ≡ true = ap (same_consumer id) receives ∙ named in
    let task = tasks.Deliver consumer message in
    let ended : (is_accepted new.entry.reply && task_ended history new.entry.pass new.entry.call new.entry.reply task) ≡ true =
    ap (λ b. b && task_ended history new.entry.pass new.entry.call new.entry.reply task) ok ∙ ap (λ call. task_ended history new.entry.pass call new.entry.reply task) is_call ∙ gone in
    absurd cc)
receiver_left history new id request receiver (tasks.Outcome other outcome) ok is_call named asked origin stays = other_again history request other receiver (again_of outcome) asked origin
receiver_left history new id request receiver _ ok is_call named asked origin stays = tt

-- the consumer had accepted the message, and no Take gave it out
pub record IsLost (history : List Traced) (id : ConsumerId) (request : Open) : Type 0 where
  pub receiver : ConsumerId
  pub is_receiver : request.receiver ≡ Some receiver
  pub named : same_consumer id receiver ≡ true
  pub untaken : is_given history request.id ≡ false

pub lost : (history : List Traced) (id : ConsumerId) (request : Open) → is_lost_with history id request request.receiver ≡ true → IsLost history id request
lost history id request h =
    elim request.receiver as (λ o. request.receiver ≡ o → is_lost_with history id request o ≡ true → IsLost history id request) [
      | None ↦ λ e no. absurd cc
      | Some receiver ↦ λ e yes. record {
        receiver = receiver;
        is_receiver = e;
        named = (and_parts (same_consumer id receiver) (not (is_given history request.id)) yes).0;
        untaken = not-true (is_given history request.id) (and_parts (same_consumer id receiver) (not (is_given history request.id)) yes).1;
      }
    ] refl h

-- where each task that stays is of another message, nobody gets this one
nobody_stays : (history : List Traced) (new : Traced) (request : MessageId) → request.0.0 < length history → is_given history request ≡ false → ((lane : Lane) → new.entry.call ≡ calls.Take lane → ⊥) →
    ((task : Task) → HasOrigin history task → (is_accepted new.entry.reply && task_ended history new.entry.pass new.entry.call new.entry.reply task) ≡ false → IsOtherMessage request task) → NobodyGets (history ++ new ∷ []) request
nobody_stays history new request earlier before no_take others = record {
  earlier = (let longer = length_push history new in omega arith);
  left =
      left_after history new request
      (Each-filter (HasOrigin history) (IsOtherMessage request) (λ task. not (ended_by task_kind history new task)) (untaken history)
      (λ task stays origin. others task origin (not-true (ended_by task_kind history new task) stays)) (untaken_origins history))
      (new_other history new request earlier);
  untaken = not_given history new request before (λ lane task take. absurd (no_take lane take.0));
}

pub nobody_left : (history : List Traced) (new : Traced) (id : ConsumerId) (request : Open) → is_accepted new.entry.reply ≡ true → new.entry.call ≡ calls.Unregister id → open_key request < length history →
    HasSource history request → IsLost history id request → NobodyGets (history ++ new ∷ []) request.id
nobody_left history new id request ok is_call before from is_lost =
    let P : Option ConsumerId → Type 0 = ComesFrom history request in
    let asked : AskedOf history request.id is_lost.receiver = subst P is_lost.is_receiver from in
    nobody_stays history new request.id before is_lost.untaken (λ lane take. (let e : calls.Take lane ≡ calls.Unregister id = sym take ∙ is_call in absurd cc))
    (λ task origin stays. receiver_left history new id request.id is_lost.receiver task ok is_call is_lost.named asked origin stays)

-- ## The context closes that was to get it

ends_with : (history : List Traced) (closing : Option ContextId) (task : Task) (home : ContextId) → context_of history task ≡ Some home → is_of_context home closing ≡ true → closes_task history closing task ≡ true
ends_with history None task home owned closed = absurd cc
ends_with history (Some context) task home owned closed = ap (is_of_context context) owned ∙ same_context-swap context home ∙ closed

at_home : (history : List Traced) (request : Open) (receiver : Option ConsumerId) (context : Option ContextId) (id : ConsumerId) (home : ContextId) → HasHome history request receiver context → receiver ≡ Some id → context ≡ Some home → IsHome history request id
at_home history request None context id home it e f = absurd cc
at_home history request (Some other) None id home it e f = absurd cc
at_home history request (Some other) (Some context) id home it e f = (let same : other ≡ id = cc in subst (λ (c : ConsumerId). IsHome history request c) same it)

home_left : (history : List Traced) (request : Open) (home : ContextId) (closing : Option ContextId) (receiver : Option ConsumerId) (task : Task) → request.home ≡ Some home → is_of_context home closing ≡ true →
    request.receiver ≡ receiver → ComesFrom history request receiver → HasHome history request request.receiver request.home → HasOrigin history task → closes_task history closing task ≡ false → IsOtherMessage request.id task
home_left history request home closing (Some id) (tasks.Deliver consumer message) its closed is_receiver from has origin stays = λ same.
    (let receives : consumer ≡ id = one_receiver history request.id id consumer from (subst (λ (m : MessageId). Origin history consumer m) same origin) in
    let it = at_home history request request.receiver request.home id home has is_receiver its in
    let one : Some it.context ≡ Some home = sym it.named ∙ its in
    let task = tasks.Deliver consumer message in
    let owned : context_of history task ≡ Some home = ap (λ i. option_and_then context_that (find (is_named i) (registered history))) receives ∙ it.of_consumer ∙ one in
    let ended = ends_with history closing task home owned closed in
    absurd cc)
home_left history request home closing None (tasks.Deliver consumer message) its closed is_receiver from has origin stays = λ same.
    absurd (no_receiver history request consumer from (subst (λ (m : MessageId). Origin history consumer m) same origin))
home_left history request home closing (Some id) (tasks.Outcome other outcome) its closed is_receiver from has origin stays = other_again history request.id other id (again_of outcome) from origin
home_left history request home closing None (tasks.Outcome other outcome) its closed is_receiver from has origin stays =
    elim (again_of outcome) as (λ again. HasAgain history other again → IsOtherAgain request.id again) [
      | None ↦ λ asked. tt
      | Some again ↦ λ asked same.
          (let ended = ends_with history closing (tasks.Outcome other outcome) home (one_asker history request other again home same its from asked) closed in
          absurd cc)
    ] origin
home_left history request home closing receiver _ its closed is_receiver from has origin stays = tt

-- the context was to get the message, and no Take gave it out
pub record IsLeft (history : List Traced) (closing : Option ContextId) (request : Open) : Type 0 where
  pub home : ContextId
  pub is_home : request.home ≡ Some home
  pub closed : is_of_context home closing ≡ true
  pub untaken : is_given history request.id ≡ false

-- an entry that closes a context ends each task of it
abbrev pub EndsWith : List Traced → Traced → Option ContextId → Type 0
EndsWith history new closing = (task : Task) → (is_accepted new.entry.reply && task_ended history new.entry.pass new.entry.call new.entry.reply task) ≡ false → closes_task history closing task ≡ false

pub nobody_closed : (history : List Traced) (new : Traced) (closing : Option ContextId) (request : Open) → EndsWith history new closing → ((lane : Lane) → new.entry.call ≡ calls.Take lane → ⊥) → open_key request < length history →
    HasSource history request → HasHome history request request.receiver request.home → IsLeft history closing request → NobodyGets (history ++ new ∷ []) request.id
nobody_closed history new closing request ends no_take before from has left =
    nobody_stays history new request.id before left.untaken no_take
    (λ task origin stays. home_left history request left.home closing request.receiver task left.is_home left.closed refl from has origin (ends task stays))
