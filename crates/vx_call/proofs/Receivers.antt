-- The consumer that accepted the message of an open request has it still, unless a Take gave it out.
use Rattle.std.proofs.lemmas.Bool.{or_parts}
use Rattle.std.proofs.Common.{◌≡◌, ℕ, List, [], ◌∷◌, ◌++◌, length, refl, ap, sym, ◌∙◌}
use Rattle.std.specs.Prelude.{Bool, true, false, not, ◌&&◌, ◌||◌, ◌==◌, cond, filter, find, map, is_some, Option, None, Some}
use Rattle.std.proofs.lemmas.Bool.{eq-eqb, eqb-true}
use Rattle.vx_data.specs.declared.ids.ConsumerId.{ConsumerId}
use Rattle.vx_data.specs.declared.ids.ContextId.{ContextId}
use Rattle.vx_data.specs.declared.ids.MessageId.{MessageId}
use Rattle.vx_data.specs.declared.ids.PassNo.{PassNo}
use Rattle.std.specs.Option.{option_map, option_and_then}
use Rattle.std.specs.List.{cons_option}
use Rattle.vx_data.specs.Ids.{same_context, same_consumer, same_message}
use Rattle.vx_message.specs.declared.Given.{Given}
use Rattle.vx_message.specs.declared.Lane.{Lane}
use Rattle.vx_message.specs.declared.Message.{Message}
use Rattle.vx_call.specs.declared.call.Call.{Call}
use Rattle.vx_call.specs.declared.call.Call.TheVariants as calls
use Rattle.vx_call.specs.declared.reply.Reply.{Reply}
use Rattle.vx_call.specs.declared.reply.Reply.TheVariants as replies
use Rattle.vx_call.specs.declared.reply.Task.{Task}
use Rattle.vx_call.specs.declared.reply.Task.TheVariants as tasks
use Rattle.vx_call.specs.declared.history.Consumer.{Consumer}
use Rattle.vx_call.specs.declared.history.Deed.{Deed}
use Rattle.vx_call.specs.declared.history.Deed.TheVariants as deeds
use Rattle.vx_call.specs.declared.history.Traced.{Traced}
use Rattle.vx_data.specs.declared.ids.ConnId.{ConnId}
use Rattle.vx_message.specs.declared.frame.InFrame.{InFrame}
use Rattle.vx_call.specs.Owners.{context_owning}
use Rattle.vx_call.specs.Askers.{Asker, is_asked_by}
use Rattle.vx_call.specs.Askers as askers
use Rattle.vx_call.specs.Homes.{Home, homes, Heard, heard}
use Rattle.vx_call.specs.History.{is_accepted, made_by, ended_by, lasting}
use Rattle.vx_call.specs.Names.{next_message}
use Rattle.vx_call.specs.Messages.{received}
use Rattle.vx_call.specs.Arrivals.{addressed}
use Rattle.vx_call.specs.Mailboxes.{arrival_at, accepting, is_accepted as accepts}
use Rattle.vx_call.specs.Given.{given_kind, given_made, is_given}
use Rattle.vx_call.specs.Requests.{Open, opened, open_made, open_kind, conn_timeout, unsettled, closes_asker, settles, settles_or_shuts, is_lost_with, is_lost_at}
use Rattle.vx_call.specs.Registered.{registered, is_named}
use Rattle.vx_call.specs.Held.{is_of_context}
use Rattle.vx_call.specs.Closings.{closing_by}
use Rattle.vx_call.specs.Settled.{settled_made}
use Rattle.vx_call.specs.Items.{is_for, delivery_tasks, outcome_tasks, task_made, closes_task, task_ended, task_kind, untaken}
use Rattle.vx_call.specs.Kinds.{same_task, hands_out}
use Rattle.vx_call.proofs.Lasting.{lasting-append, lasting_more, and_false}
use Rattle.vx_call.proofs.Each.{Each, Each-both, Each-filter, weaken, accepted, lasting_each}
use Rattle.vx_call.proofs.Found.{same_number}
use Rattle.vx_call.proofs.Owners.{then_front}
use Rattle.vx_call.proofs.Messages.{received_id}
use Rattle.vx_call.proofs.Consumers.{IsLive, same_consumer-self, same_consumer-true}
use Rattle.vx_call.proofs.Arrivals.{AtMostOne, accepting_few, accepting_frame_few, accepting_live}
use Rattle.vx_call.proofs.Opened.{stays_asked}
use Rattle.vx_call.proofs.Tasks.{deliver, some_front, some_behind}
use Rattle.vx_call.proofs.Items.{is_delivery}
use Rattle.vx_call.proofs.Contexts.{same_context-swap}
use Rattle.vx_call.proofs.Registered.{registered-append, live_registered, keeps_found, context_that}
use Rattle.vx_call.proofs.Parts.{message_in, for_other, not_handed}

-- whether the task is this message, for this consumer
abbrev pub is_message_for : ConsumerId → MessageId → Task → Bool
is_message_for id message task = is_for id task && same_message message (message_in task)

-- the consumer of a context has the message of the request, unless a Take gave it out. That of a connection got it as a frame.
abbrev pub HasMessage : List Traced → MessageId → Option ConsumerId → Option ContextId → Type 0
HasMessage history request None home = Unit {0}
HasMessage history request (Some id) None = Unit {0}
HasMessage history request (Some id) (Some context) = is_given history request ≡ false → is_some (find (is_message_for id request) (untaken history)) ≡ true

-- ... among these tasks, and what an entry makes
abbrev Made : List Traced → List Task → Option Message → List Home → List Heard → MessageId → Option ConsumerId → Option ContextId → Type 0
Made history before o all ended request None home = Unit {0}
Made history before o all ended request (Some id) None = Unit {0}
Made history before o all ended request (Some id) (Some context) = is_some (find (is_message_for id request) (before ++ (delivery_tasks o all ++ outcome_tasks ended))) ≡ true

abbrev MadeBy : List Traced → List Task → PassNo → Call → Deed → Open → Type 0
MadeBy history before pass call deed request =
    Made history before (received history call deed) (homes (accepting history call deed)) (heard (settled_made history pass call deed)) request.id request.receiver request.home

made_there : (history : List Traced) (new : Traced) (before : List Task) (request : MessageId) (receiver : Option ConsumerId) (home : Option ContextId) →
    untaken (history ++ new ∷ []) ≡ before ++ task_made history new.entry.pass new.entry.call new.mark.deed →
    Made history before (received history new.entry.call new.mark.deed) (homes (accepting history new.entry.call new.mark.deed)) (heard (settled_made history new.entry.pass new.entry.call new.mark.deed)) request receiver home →
    HasMessage (history ++ new ∷ []) request receiver home
made_there history new before request None home whole made = tt
made_there history new before request (Some id) None whole made = tt
made_there history new before request (Some id) (Some context) whole made = λ never. ap (λ ts. is_some (find (is_message_for id request) ts)) whole ∙ made

and_true : (b : Bool) → (b && true) ≡ b
and_true true = refl
and_true false = refl

-- ## It stays

abbrev is_given_as : MessageId → Given → Bool
is_given_as id given = same_message id given.id

both_true : (a b : Bool) → (a && b) ≡ true → (a ≡ true) × (b ≡ true)
both_true true b h = (refl, h)
both_true false b h = absurd cc

other_handed : (id other : ConsumerId) (request : MessageId) (message : Message) (task : Task) → is_for id task ≡ true → same_message request (message_in task) ≡ true → same_message request message.id ≡ false →
    same_task (tasks.Deliver other message) task ≡ false
other_handed id other request message (tasks.Deliver consumer another) mine same differs =
    let named : request.0.0 ≡ another.id.0.0 = eqb-true request.0.0 another.id.0.0 same in
    let apart : same_message another.id message.id ≡ false = ap (λ n. n == message.id.0.0) (sym named) ∙ differs in
    ap (λ b. same_consumer other consumer && b) (same_number message.id.0.0 another.id.0.0 ∙ apart) ∙ and_false (same_consumer other consumer)
other_handed id other request message _ mine same differs = absurd cc

is_none : {A : Type 0} (b : Bool) (x : A) → is_some (cond b (Some x) None) ≡ false → b ≡ false
is_none true x none = none
is_none false x none = refl

-- a Take that gives out no message of this name
takes_other : (history : List Traced) (lane : Lane) (task given : Task) (id : ConsumerId) → is_delivery given ≡ false → is_for id task ≡ true → hands_out (replies.Task given) task ≡ false
takes_other history lane task given id other mine = not_handed id given task other mine

handed_none : (history : List Traced) (lane : Lane) (reply : Reply) (id : ConsumerId) (request : MessageId) (task : Task) → is_for id task ≡ true → same_message request (message_in task) ≡ true →
    is_some (find (is_given_as request) (given_made history (calls.Take lane) reply)) ≡ false → hands_out reply task ≡ false
handed_none history lane (replies.Task (tasks.Deliver other message)) id request task mine same none =
    other_handed id other request message task mine same (is_none (same_message request message.id) _ none)
handed_none history lane (replies.Task (tasks.Outcome ended outcome)) id request task mine same none = takes_other history lane task (tasks.Outcome ended outcome) id refl mine
handed_none history lane (replies.Task (tasks.Start context)) id request task mine same none = takes_other history lane task (tasks.Start context) id refl mine
handed_none history lane (replies.Task (tasks.Fire timer)) id request task mine same none = takes_other history lane task (tasks.Fire timer) id refl mine
handed_none history lane (replies.Task (tasks.Run queued)) id request task mine same none = takes_other history lane task (tasks.Run queued) id refl mine
handed_none history lane (replies.Task (tasks.Job queued)) id request task mine same none = takes_other history lane task (tasks.Job queued) id refl mine
handed_none history lane (replies.Task (tasks.JobDone queued result)) id request task mine same none = takes_other history lane task (tasks.JobDone queued result) id refl mine
handed_none history lane (replies.Task (tasks.Connected server at)) id request task mine same none = takes_other history lane task (tasks.Connected server at) id refl mine
handed_none history lane (replies.Task (tasks.PromiseEnd awaited promise result)) id request task mine same none = takes_other history lane task (tasks.PromiseEnd awaited promise result) id refl mine
handed_none history lane (replies.Task (tasks.DeployEnd deployment result)) id request task mine same none = takes_other history lane task (tasks.DeployEnd deployment result) id refl mine
handed_none history lane (replies.Task (tasks.UndeployEnd deployment)) id request task mine same none = takes_other history lane task (tasks.UndeployEnd deployment) id refl mine
handed_none history lane (replies.Task (tasks.Stop context)) id request task mine same none = takes_other history lane task (tasks.Stop context) id refl mine
handed_none history lane _ id request task mine same none = refl

-- ## The context whose handler gets it

-- the receiver of a request is of the context that the request names
pub record IsHome (history : List Traced) (request : Open) (id : ConsumerId) : Type 0 where
  pub context : ContextId
  pub named : request.home ≡ Some context
  pub of_consumer : option_and_then context_that (find (is_named id) (registered history)) ≡ Some context

abbrev pub HasHome : List Traced → Open → Option ConsumerId → Option ContextId → Type 0
HasHome history request None home = Unit {0}
HasHome history request (Some id) None = Unit {0}
HasHome history request (Some id) (Some context) = IsHome history request id

keeps_home : (history : List Traced) (new : Traced) (request : Open) (receiver : Option ConsumerId) (home : Option ContextId) → HasHome history request receiver home → HasHome (history ++ new ∷ []) request receiver home
keeps_home history new request None home it = tt
keeps_home history new request (Some id) None it = tt
keeps_home history new request (Some id) (Some context) it = record {
  context = it.context;
  named = it.named;
  of_consumer = ap (λ rs. option_and_then context_that (find (is_named id) rs)) (registered-append history new) ∙ then_front context_that (is_named id) (registered history) _ it.context it.of_consumer;
}

one_home : (history : List Traced) (new : Traced) (asker : Asker) (timeout : ℕ) (consumer : Consumer) → IsLive history consumer →
    (let request = opened history asker timeout consumer in HasHome (history ++ new ∷ []) request request.receiver request.home)
one_home history new asker timeout consumer is_live =
    let request = opened history asker timeout consumer in
    elim (context_owning consumer.owner) as (λ o. context_owning consumer.owner ≡ o → HasHome (history ++ new ∷ []) request (Some consumer.id) o) [
      | None ↦ λ none. tt
      | Some context ↦ λ owns. record { context = context; named = owns; of_consumer = ap (option_and_then context_that) (keeps_found history new consumer (live_registered history consumer is_live)) ∙ owns }
    ] refl

each_home : (history : List Traced) (new : Traced) (asker : Asker) (timeout : ℕ) (all : List Consumer) → Each (IsLive history) all →
    Each (λ (request : Open). HasHome (history ++ new ∷ []) request request.receiver request.home) (map (opened history asker timeout) all)
each_home history new asker timeout [] lives = tt
each_home history new asker timeout (consumer ∷ others) lives = (one_home history new asker timeout consumer lives.0, each_home history new asker timeout others lives.1)

frame_home : (history : List Traced) (new : Traced) (conn : ConnId) (frame : InFrame) (deed : Deed) →
    Each (λ (request : Open). HasHome (history ++ new ∷ []) request request.receiver request.home) (open_made history (calls.FrameIn conn frame) deed)
frame_home history new conn frame (deeds.Requests address headers body at) =
    let call = calls.FrameIn conn frame in
    let deed = deeds.Requests address headers body at in
    each_home history new (askers.connection conn at) conn_timeout (accepting history call deed) (accepting_live history call deed)
frame_home history new conn frame (deeds.Replies message headers body (Some at)) = (tt, tt)
frame_home history new conn frame _ = tt

new_home : (history : List Traced) (new : Traced) (call : Call) (deed : Deed) → Each (λ (request : Open). HasHome (history ++ new ∷ []) request request.receiver request.home) (open_made history call deed)
new_home history new (calls.Request context address body options timeout once) deed =
    each_home history new (askers.context context) timeout (accepting history (calls.Request context address body options timeout once) deed) (accepting_live history (calls.Request context address body options timeout once) deed)
new_home history new (calls.ReplyRequest message context body options timeout) deed = (tt, tt)
new_home history new (calls.FrameIn conn frame) deed = frame_home history new conn frame deed
new_home history new _ deed = tt

neither : (a b : Bool) → (a || b) ≡ false → b ≡ false
neither true b h = absurd cc
neither false b h = h

-- a context that closes is not the one of a task whose request it does not settle
not_closed : (history : List Traced) (request : Open) (id : ConsumerId) (closing : Option ContextId) (asks : Bool) (home : IsHome history request id) (task : Task) → is_for id task ≡ true → is_given history request.id ≡ false →
    (asks || (is_of_context home.context closing && not (is_given history request.id))) ≡ false → closes_task history closing task ≡ false
not_closed history request id None asks home task mine before stays = refl
not_closed history request id (Some context) asks home (tasks.Deliver consumer message) mine before stays =
    let named : id ≡ consumer = same_consumer-true id consumer mine in
    let apart : (same_context home.context context && true) ≡ false = ap (λ b. same_context home.context context && not b) (sym before) ∙ neither asks _ stays in
    ap (λ i. is_of_context context (option_and_then context_that (find (is_named i) (registered history)))) (sym named) ∙ ap (is_of_context context) home.of_consumer
    ∙ same_context-swap context home.context ∙ sym (and_true (same_context home.context context)) ∙ apart
not_closed history request id (Some context) asks home _ mine before stays = absurd cc

-- an entry that gives the message of an open request out to nobody, and does not end it, does not end its task
not_ended : (history : List Traced) (pass : PassNo) (call : Call) (deed : Deed) (reply : Reply) (request : Open) (id : ConsumerId) (task : Task) → request.receiver ≡ Some id → is_for id task ≡ true → IsHome history request id →
    same_message request.id (message_in task) ≡ true → is_given history request.id ≡ false → settles history pass call deed request ≡ false → is_some (find (is_given_as request.id) (given_made history call reply)) ≡ false →
    task_ended history pass call reply task ≡ false
not_ended history pass (calls.Take lane) deed reply request id task accepted mine home same before stays none = handed_none history lane reply id request.id task mine same none
not_ended history pass (calls.Unregister other) deed reply request id task accepted mine home same before stays none =
    for_other id other task mine
    ∙ sym (and_true (same_consumer other id))
    ∙ sym (ap (λ b. same_consumer other id && not b) before)
    ∙ sym (ap (is_lost_with history other request) accepted)
    ∙ stays
not_ended history pass (calls.StartDone result) deed reply request id task accepted mine home same before stays none =
    let call = calls.StartDone result in
    not_closed history request id (closing_by history pass call) (closes_asker history pass call request.asker) home task mine before
    (ap (λ o. closes_asker history pass call request.asker || is_lost_at history pass call request o) (sym home.named) ∙ stays)
not_ended history pass calls.StopDone deed reply request id task accepted mine home same before stays none =
    let call = calls.StopDone in
    not_closed history request id (closing_by history pass call) (closes_asker history pass call request.asker) home task mine before
    (ap (λ o. closes_asker history pass call request.asker || is_lost_at history pass call request o) (sym home.named) ∙ stays)
not_ended history pass (calls.Finish end) deed reply request id task accepted mine home same before stays none =
    let call = calls.Finish end in
    not_closed history request id (closing_by history pass call) (closes_asker history pass call request.asker) home task mine before
    (ap (λ o. closes_asker history pass call request.asker || is_lost_at history pass call request o) (sym home.named) ∙ stays)
not_ended history pass calls.Close deed reply request id task accepted mine home same before stays none =
    let call = calls.Close in
    let given : not (is_given history request.id) ≡ false =
    neither (closes_asker history pass call request.asker) _ (ap (λ o. closes_asker history pass call request.asker || is_lost_at history pass call request o) (sym home.named) ∙ stays) in
    let impossible : true ≡ false = sym (ap not before) ∙ given in
    absurd cc
not_ended history pass _ deed reply request id task accepted mine home same before stays none = refl

some_kept : {A : Type 0} (p q : A → Bool) (xs : List A) → ((x : A) → p x ≡ true → q x ≡ true) → is_some (find p xs) ≡ true → is_some (find p (filter q xs)) ≡ true
some_kept p q [] stays found = found
some_kept {A} p q (x ∷ xs) stays found =
    elim (p x) as (λ b. p x ≡ b → is_some (cond b (Some x) (find p xs)) ≡ true → is_some (find p (cond (q x) (x ∷ filter q xs) (filter q xs))) ≡ true) [
      | true ↦ λ passes here.
          ap (λ b. is_some (find p (cond b (x ∷ filter q xs) (filter q xs)))) (stays x passes) ∙ ap (λ b. is_some (cond b (Some x) (find p (filter q xs)))) passes
      | false ↦ λ fails later.
          (elim (q x) as (λ c. is_some (find p (cond c (x ∷ filter q xs) (filter q xs))) ≡ true) [
            | true ↦ ap (λ b. is_some (cond b (Some x) (find p (filter q xs)))) fails ∙ some_kept p q xs stays later
            | false ↦ some_kept p q xs stays later
          ])
    ] refl found

-- what is not found in two lists is in neither
none_either : {A : Type 0} (p : A → Bool) (xs ys : List A) → is_some (find p (xs ++ ys)) ≡ false → (is_some (find p xs) ≡ false) × (is_some (find p ys) ≡ false)
none_either p xs ys none = (
  elim (is_some (find p xs)) as (λ b. is_some (find p xs) ≡ b → b ≡ false) [ true ↦ λ found. sym (some_front p xs ys found) ∙ none | false ↦ λ h. refl ] refl,
  elim (is_some (find p ys)) as (λ b. is_some (find p ys) ≡ b → b ≡ false) [ true ↦ λ found. sym (some_behind p xs ys found) ∙ none | false ↦ λ h. refl ] refl,
)

given-append : (history : List Traced) (new : Traced) → lasting given_kind (history ++ new ∷ []) ≡ lasting given_kind history ++ made_by given_kind history new
given-append history new = lasting_more given_kind history new (λ g. and_false (is_accepted new.entry.reply))

keeps_message : (history : List Traced) (new : Traced) (request : Open) (receiver : Option ConsumerId) (home : Option ContextId) → request.receiver ≡ receiver → HasHome history request receiver home →
    ended_by open_kind history new request ≡ false → HasMessage history request.id receiver home → HasMessage (history ++ new ∷ []) request.id receiver home
keeps_message history new request None home accepted it stays has = tt
keeps_message history new request (Some id) None accepted it stays has = tt
keeps_message history new request (Some id) (Some context) accepted it stays has = λ never.
    let deed = new.mark.deed in
    let pass = new.entry.pass in
    let call = new.entry.call in
    let reply = new.entry.reply in
    let test = is_message_for id request.id in
    let kept = λ (task : Task). not (ended_by task_kind history new task) in
    let none = none_either (is_given_as request.id) (lasting given_kind history) (made_by given_kind history new) (ap (λ gs. is_some (find (is_given_as request.id) gs)) (sym (given-append history new)) ∙ never) in
    let on : (task : Task) → test task ≡ true → ended_by task_kind history new task ≡ false = λ task is_it.
    (let both = both_true (is_for id task) (same_message request.id (message_in task)) is_it in
    elim (is_accepted reply) as (λ b. (b && settles_or_shuts history new request) ≡ false → is_some (find (is_given_as request.id) (cond b (given_made history call reply) [])) ≡ false → (b && task_ended history pass call reply task) ≡ false) [
      | true ↦ λ unsettled nobody.
          not_ended history pass call deed reply request id task accepted both.0 it both.1 none.0 (or_parts (settles history pass call deed request) (is_asked_by new.mark.shut request.asker) unsettled).0 nobody
      | false ↦ λ unsettled nobody. refl
    ] stays none.1) in
    ap (λ ts. is_some (find test ts)) (lasting-append task_kind history new)
    ∙ some_front test (filter kept (untaken history)) (made_by task_kind history new) (some_kept test kept (untaken history) (λ task is_it. ap not (on task is_it)) (has none.0))

-- ## It is there as the request is made

-- the message is among what was made for those that accept it
accepted_message : (history : List Traced) (asker : Asker) (timeout : ℕ) (o : Option Message) (all : List Consumer) (before : List Task) (ended : List Heard) →
    ((message : Message) → o ≡ Some message → message.id ≡ next_message history) → (o ≡ None → all ≡ []) → AtMostOne all →
    Each (λ (request : Open). Made history before o (homes all) ended request.id request.receiver request.home) (map (opened history asker timeout) all)
accepted_message history asker timeout o [] before ended named none few = tt
accepted_message history asker timeout (Some message) (consumer ∷ []) before ended named none few =
    let test = is_message_for consumer.id (next_message history) in
    let task = deliver message consumer in
    let is_it : test task ≡ true =
    ap (λ b. b && same_message (next_message history) message.id) (same_consumer-self consumer.id) ∙ ap (same_message (next_message history)) (named message refl) ∙ eq-eqb (length history) (length history) refl in (
      elim (context_owning consumer.owner) as (λ c.
          Made history before (Some message) (cons_option (option_map (λ context. record { consumer = consumer; context = context }) c) []) ended (next_message history) (Some consumer.id) c) [
            | None ↦ tt
            | Some context ↦ some_behind test before (task ∷ outcome_tasks ended) (ap (λ b. is_some (cond b (Some task) (find test (outcome_tasks ended)))) is_it)
          ],
      tt,
    )
accepted_message history asker timeout None (consumer ∷ []) before ended named none few = absurd (let e = none refl in cc)
accepted_message history asker timeout o (consumer ∷ other ∷ others) before ended named none few = absurd few

nobody_accepts : (history : List Traced) (call : Call) (deed : Deed) → received history call deed ≡ None → accepting history call deed ≡ []
nobody_accepts history call deed none = ap (λ o. filter (λ consumer. accepts (arrival_at history consumer)) (cond (is_some o) (addressed history call deed) [])) none

frame_message : (history : List Traced) (pass : PassNo) (conn : ConnId) (frame : InFrame) (deed : Deed) (before : List Task) → Each (MadeBy history before pass (calls.FrameIn conn frame) deed) (open_made history (calls.FrameIn conn frame) deed)
frame_message history pass conn frame (deeds.Requests address headers body at) before =
    let call = calls.FrameIn conn frame in
    let deed = deeds.Requests address headers body at in
    accepted_message history (askers.connection conn at) conn_timeout (received history call deed) (accepting history call deed) before (heard (settled_made history pass call deed)) (received_id history call deed)
    (nobody_accepts history call deed) (accepting_frame_few history conn frame address headers body at)
frame_message history pass conn frame (deeds.Replies message headers body (Some at)) before = (tt, tt)
frame_message history pass conn frame _ before = tt

new_message : (history : List Traced) (pass : PassNo) (call : Call) (deed : Deed) (before : List Task) → Each (MadeBy history before pass call deed) (open_made history call deed)
new_message history pass (calls.Request context address body options timeout once) deed before =
    let call = calls.Request context address body options timeout once in
    accepted_message history (askers.context context) timeout (received history call deed) (accepting history call deed) before (heard (settled_made history pass call deed)) (received_id history call deed)
    (nobody_accepts history call deed) (accepting_few history context address body options timeout once deed)
new_message history pass (calls.ReplyRequest message context body options timeout) deed before = (tt, tt)
new_message history pass (calls.FrameIn conn frame) deed before = frame_message history pass conn frame deed before
new_message history pass _ deed before = tt

-- an open request's receiver has its message, unless a Take gave it out, and is of the context that it names
abbrev IsKept : List Traced → Open → Type 0
IsKept history request = HasMessage history request.id request.receiver request.home × HasHome history request request.receiver request.home

new_kept : (history : List Traced) (new : Traced) → is_accepted new.entry.reply ≡ true → Each (IsKept (history ++ new ∷ [])) (filter (stays_asked new) (open_made history new.entry.call new.mark.deed))
new_kept history new ok =
    let pass = new.entry.pass in
    let call = new.entry.call in
    let deed = new.mark.deed in
    let Kept : Open → Type 0 = IsKept (history ++ new ∷ []) in
    let before = filter (λ task. not (ended_by task_kind history new task)) (untaken history) in
    Each-filter Kept Kept (stays_asked new) (open_made history call deed) (λ request passes kept. kept)
    (Each-both (MadeBy history before pass call deed) (λ (request : Open). HasHome (history ++ new ∷ []) request request.receiver request.home) Kept (open_made history call deed)
    (λ request made home.
    (made_there history new before request.id request.receiver request.home (lasting-append task_kind history new ∙ ap (λ b. before ++ cond b (task_made history pass call deed) []) ok) made, home))
    (new_message history pass call deed before) (new_home history new call deed))

open_kept : (history : List Traced) → Each (IsKept history) (unsettled history)
open_kept =
    lasting_each open_kind IsKept
    (λ history new request stays kept.
    (keeps_message history new request request.receiver request.home refl kept.1 stays kept.0, keeps_home history new request request.receiver request.home kept.1))
    (λ history new. accepted (IsKept (history ++ new ∷ [])) (is_accepted new.entry.reply) _ (λ ok. new_kept history new ok))

pub open_message : (history : List Traced) → Each (λ (request : Open). HasMessage history request.id request.receiver request.home) (unsettled history)
open_message history = weaken (IsKept history) (λ (request : Open). HasMessage history request.id request.receiver request.home) (unsettled history) (λ request kept. kept.0) (open_kept history)

pub open_home : (history : List Traced) → Each (λ (request : Open). HasHome history request request.receiver request.home) (unsettled history)
open_home history = weaken (IsKept history) (λ (request : Open). HasHome history request request.receiver request.home) (unsettled history) (λ request kept. kept.1) (open_kept history)
