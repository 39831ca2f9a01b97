-- The context of a task that waits is the one that the task is of.
use Rattle.std.proofs.Common.{◌≡◌, ℕ, ◌<◌, ◌+◌, List, [], ◌∷◌, ◌++◌, length, take, refl, ap, sym, ◌∙◌, subst, arith}
use Rattle.std.specs.Prelude.{Bool, true, false, cond, filter, find, map, flat_map, Option, None, Some}
use Rattle.std.specs.Option.{option_map, option_and_then, option_to_list}
use Rattle.std.specs.List.{filter_map}
use Rattle.std.proofs.lemmas.Bool.{eq-eqb}
use Rattle.vx_data.specs.declared.ids.PassNo.{PassNo}
use Rattle.vx_data.specs.declared.ids.ContextId.{ContextId}
use Rattle.vx_data.specs.declared.ids.ConsumerId.{ConsumerId}
use Rattle.vx_data.specs.declared.ids.DeploymentId.{DeploymentId}
use Rattle.vx_data.specs.declared.ids.QueuedId.{QueuedId}
use Rattle.vx_data.specs.Ids.{same_queued, same_deployment}
use Rattle.vx_message.specs.declared.DoneResult.{DoneResult}
use Rattle.vx_message.specs.declared.Message.{Message}
use Rattle.vx_consumer.specs.Flows.{room_more, freed}
use Rattle.vx_call.specs.declared.call.End.{End}
use Rattle.vx_call.specs.declared.call.Call.{Call}
use Rattle.vx_call.specs.declared.call.Call.TheVariants as calls
use Rattle.vx_call.specs.declared.reply.Task.{Task}
use Rattle.vx_call.specs.declared.reply.Task.TheVariants as tasks
use Rattle.vx_call.specs.declared.history.Consumer.{Consumer}
use Rattle.vx_call.specs.declared.history.Deed.{Deed}
use Rattle.vx_call.specs.declared.history.Deed.TheVariants as deeds
use Rattle.vx_call.specs.declared.history.Traced.{Traced}
use Rattle.vx_call.specs.History.{is_accepted, made_by, lasting}
use Rattle.vx_call.specs.Names.{next_entry, next_message, next_queued}
use Rattle.vx_call.specs.Time.{now}
use Rattle.vx_call.specs.Timers.{Timer, timer_made, set_kind, timers_set, is_timer_of, timer_set}
use Rattle.vx_call.specs.Queued.{Queued, queued_made, queued_kind}
use Rattle.vx_call.specs.Tells.{Tell, deploy_tell_kind, undeploy_tell_kind, told_in}
use Rattle.vx_call.specs.Jobs.{job_made, job_kind, jobs, jobs_ended}
use Rattle.vx_call.specs.Deployments.{deployed_ids}
use Rattle.vx_call.specs.Starts.{deployed_contexts}
use Rattle.vx_call.specs.Closings.{open_contexts}
use Rattle.vx_call.specs.There.{is_gone}
use Rattle.vx_call.specs.Ends.{deploy_result, is_deployed, stops_now}
use Rattle.vx_call.specs.Coming.{coming}
use Rattle.vx_call.specs.Fires.{timer_kind, timers, due_timers, firing}
use Rattle.vx_call.specs.Owners.{context_owning}
use Rattle.vx_call.specs.Askers.{Asker, context_asking}
use Rattle.vx_call.specs.Homes.{Home, homes, Heard, heard}
use Rattle.vx_call.specs.Due.{Due, due_fire, due_task, due_request, dues}
use Rattle.vx_call.specs.Registered.{registered, is_named}
use Rattle.vx_call.specs.Consumers.{live}
use Rattle.vx_call.specs.Messages.{received}
use Rattle.vx_call.specs.Mailboxes.{mailbox, readied}
use Rattle.vx_call.specs.Given.{asked_made, asker, context_of, queued_context}
use Rattle.vx_call.specs.Requests.{Open, settled_by, unsettled}
use Rattle.vx_call.specs.Settled.{Settled, settled_made}
use Rattle.vx_call.specs.Items.{Waiting, is_for, untaken, item_kind, item_by, item_made, waiting, delivery, deliveries, delivered, outcome_items, made_ready, ready_for, placed, held_tasks, freed_items, freed_by}
use Rattle.vx_call.specs.Lives.{Ready, ready_due, job_done, jobs_done, deploy_told, deploy_end, undeploy_end, open_ones, life_tasks}
use Rattle.vx_data.specs.declared.ids.ServerId.{ServerId}
use Rattle.vx_call.specs.Awaits.{Await, await_made, awaits, is_await_of}
use Rattle.vx_call.specs.Completions.{Completion, completions, completion_in}
use Rattle.vx_call.specs.Promised.{waits, end_for, promise_end}
use Rattle.vx_call.specs.Listened.{Server, listened, is_server_of}
use Rattle.vx_call.specs.Accepting.{connecting, connected}
use Rattle.vx_call.proofs.Promises.{IsAwait, awaits-append, made_awaits, waits_found, IsServer, listened-append, servers_found, connecting_each}
use Rattle.vx_call.proofs.Lasting.{lasting_more, and_false}
use Rattle.vx_call.proofs.Each.{Each, Each-append, Each-take, Each-drop, Each-map, Each-filter, passing, weaken, accepted, lasting_each}
use Rattle.vx_call.proofs.Apart.{lasting_earlier}
use Rattle.vx_call.proofs.Found.{find_front, find_end, map_front, later_name}
use Rattle.vx_call.proofs.Consumers.{IsLive, live_found}
use Rattle.vx_call.proofs.Arrivals.{readied_live}
use Rattle.vx_call.proofs.Registered.{registered-append, IsFound, keeps_found, live_registered, context_that, owned_task}
use Rattle.vx_call.proofs.Opened.{keeps_asker, keeps_known_asker, asker_made, none_asked, IsKnownAsker, open_known}
use Rattle.vx_call.proofs.Settlings.{Asks, each_settled, each_settled_by}
use Rattle.vx_call.proofs.Homes.{IsHomeOf, IsHeardOf, Each-filter_map, Each-homes, Each-heard}
use Rattle.vx_call.proofs.Items.{MakesReady, Each-in_order, each_placed}

-- ## What was handed over, and timers

abbrev IsFoundQueued : List Traced → Queued → Type 0
IsFoundQueued history queued = queued_context history queued.id ≡ Some queued.context

abbrev context_handed : Queued → ContextId
context_handed queued = queued.context

queued-append : (history : List Traced) (new : Traced) → lasting queued_kind (history ++ new ∷ []) ≡ lasting queued_kind history ++ made_by queued_kind history new
queued-append history new = lasting_more queued_kind history new (λ q. and_false (is_accepted new.entry.reply))

pub keeps_queued : (history : List Traced) (new : Traced) (id : QueuedId) (context : ContextId) → queued_context history id ≡ Some context → queued_context (history ++ new ∷ []) id ≡ Some context
keeps_queued history new id context owned =
    ap (λ all. option_map context_handed (find (λ (q : Queued). same_queued id q.id) all)) (queued-append history new)
    ∙ map_front context_handed (λ q. same_queued id q.id) (lasting queued_kind history) (made_by queued_kind history new) context owned

queued_keyed : (history : List Traced) (call : Call) → Each (λ (q : Queued). q.id.0.0 ≡ length history) (queued_made history call)
queued_keyed history (calls.RunOn context once) = (refl, tt)
queued_keyed history (calls.Blocking context ordered once) = (refl, tt)
queued_keyed history _ = tt

queued_earlier : (history : List Traced) → Each (λ (q : Queued). q.id.0.0 < length history) (lasting queued_kind history)
queued_earlier = lasting_earlier queued_kind (λ q. q.id.0.0) (λ history new. accepted (λ (q : Queued). q.id.0.0 ≡ length history) (is_accepted new.entry.reply) _ (λ ok. queued_keyed history new.entry.call))

-- what an accepted entry hands over is found
queued_found : (history : List Traced) (new : Traced) (queued : Queued) → is_accepted new.entry.reply ≡ true → queued_made history new.entry.call ≡ queued ∷ [] → queued.id.0.0 ≡ length history →
    IsFoundQueued (history ++ new ∷ []) queued
queued_found history new queued ok made named =
    let test = λ (q : Queued). same_queued queued.id q.id in
    ap (λ all. option_map context_handed (find test all))
    (queued-append history new ∙ ap (λ b. lasting queued_kind history ++ cond b (queued_made history new.entry.call) []) ok ∙ ap (λ xs. lasting queued_kind history ++ xs) made)
    ∙ ap (option_map context_handed)
    (find_end test (lasting queued_kind history) queued
    (weaken (λ (q : Queued). q.id.0.0 < length history) (λ q. test q ≡ false) (lasting queued_kind history) (λ q before. later_name queued.id.0.0 q.id.0.0 (omega arith)) (queued_earlier history))
    (eq-eqb queued.id.0.0 queued.id.0.0 refl))

new_jobs : (history : List Traced) (new : Traced) (call : Call) → is_accepted new.entry.reply ≡ true → new.entry.call ≡ call → Each (IsFoundQueued (history ++ new ∷ [])) (job_made history call)
new_jobs history new (calls.Blocking context ordered once) ok is_call = (queued_found history new _ ok (ap (queued_made history) is_call) refl, tt)
new_jobs history new _ ok is_call = tt

-- blocking code is of the context that it was handed to
pub jobs_owned : (history : List Traced) → Each (λ (queued : Queued). queued_context history queued.id ≡ Some queued.context) (jobs history)
jobs_owned = lasting_each job_kind IsFoundQueued (λ history new queued stays owned. keeps_queued history new queued.id queued.context owned)
    (λ history new. accepted (IsFoundQueued (history ++ new ∷ [])) (is_accepted new.entry.reply) _ (λ ok. new_jobs history new new.entry.call ok refl))

abbrev IsSet : List Traced → Timer → Type 0
IsSet history timer = timer_set history timer.id ≡ Some timer

set-append : (history : List Traced) (new : Traced) → timers_set (history ++ new ∷ []) ≡ timers_set history ++ made_by set_kind history new
set-append history new = lasting_more set_kind history new (λ t. and_false (is_accepted new.entry.reply))

set_keyed : (history : List Traced) (call : Call) → Each (λ (t : Timer). t.id.0.0 ≡ length history) (timer_made history call)
set_keyed history (calls.SetTimer context delay periodic) = (refl, tt)
set_keyed history _ = tt

set_earlier : (history : List Traced) → Each (λ (t : Timer). t.id.0.0 < length history) (timers_set history)
set_earlier = lasting_earlier set_kind (λ t. t.id.0.0) (λ history new. accepted (λ (t : Timer). t.id.0.0 ≡ length history) (is_accepted new.entry.reply) _ (λ ok. set_keyed history new.entry.call))

new_set : (history : List Traced) (call : Call) → Each (λ timer. find (is_timer_of timer.id) (timers_set history ++ timer_made history call) ≡ Some timer) (timer_made history call)
new_set history (calls.SetTimer context delay periodic) = (
  find_end _ (timers_set history) _ (weaken (λ (t : Timer). t.id.0.0 < length history) _ (timers_set history) (λ t before. later_name (length history) t.id.0.0 before) (set_earlier history)) (eq-eqb (length history) (length history) refl),
  tt,
)
new_set history _ = tt

made_set : (history : List Traced) (new : Traced) → Each (IsSet (history ++ new ∷ [])) (made_by timer_kind history new)
made_set history new =
    let P : List Timer → Type 0 = λ all. Each (λ timer. find (is_timer_of timer.id) all ≡ Some timer) (made_by timer_kind history new) in
    subst P (sym (set-append history new))
    (elim (is_accepted new.entry.reply) as (λ b. Each (λ timer. find (is_timer_of timer.id) (timers_set history ++ cond b (timer_made history new.entry.call) []) ≡ Some timer) (cond b (timer_made history new.entry.call) [])) [
      | true ↦ new_set history new.entry.call
      | false ↦ tt
    ])

-- a timer that is there is found among all that were set
pub timers_found : (history : List Traced) → Each (λ timer. timer_set history timer.id ≡ Some timer) (timers history)
timers_found = lasting_each timer_kind IsSet (λ history new timer stays found. ap (find (is_timer_of timer.id)) (set-append history new) ∙ find_front (is_timer_of timer.id) (timers_set history) _ timer found) made_set

-- ## Tasks that wait

-- the context of a task that waits is the one that the task is of
abbrev pub IsOwned : List Traced → Waiting → Type 0
IsOwned history item = context_of history item.task ≡ Some item.context

abbrev context_set : Timer → ContextId
context_set timer = timer.context

abbrev context_told : Tell → ContextId
context_told tell = tell.context

abbrev context_awaiting : Await → ContextId
context_awaiting await = await.context

abbrev context_listening : Server → ContextId
context_listening server = server.context

keeps_told : (tells more : List Tell) (deployment : DeploymentId) (context : ContextId) → told_in tells deployment ≡ Some context → told_in (tells ++ more) deployment ≡ Some context
keeps_told tells more deployment context end_for = map_front context_told (λ tell. same_deployment deployment tell.deployment) tells more context end_for

pub then_front : {X Y : Type 0} (f : X → Option Y) (p : X → Bool) (xs ys : List X) (y : Y) → option_and_then f (find p xs) ≡ Some y → option_and_then f (find p (xs ++ ys)) ≡ Some y
then_front f p [] ys y known = absurd cc
then_front {X} {Y} f p (x ∷ xs) ys y known =
    elim (p x) as (λ b. option_and_then f (cond b (Some x) (find p xs)) ≡ Some y → option_and_then f (cond b (Some x) (find p (xs ++ ys))) ≡ Some y) [
      | true ↦ λ here. here
      | false ↦ λ later. then_front f p xs ys y later
    ] known

pub keeps_context : (history : List Traced) (new : Traced) (task : Task) (context : ContextId) → context_of history task ≡ Some context → context_of (history ++ new ∷ []) task ≡ Some context
keeps_context history new (tasks.Start started) context owned = owned
keeps_context history new (tasks.Deliver id message) context owned =
    ap (λ rs. option_and_then context_that (find (is_named id) rs)) (registered-append history new) ∙ then_front context_that (is_named id) (registered history) _ context owned
keeps_context history new (tasks.Outcome request outcome) context owned = keeps_known_asker history new request context owned
keeps_context history new (tasks.Fire id) context owned =
    ap (λ ts. option_map context_set (find (is_timer_of id) ts)) (set-append history new) ∙ map_front context_set (is_timer_of id) (timers_set history) _ context owned
keeps_context history new (tasks.Run id) context owned = keeps_queued history new id context owned
keeps_context history new (tasks.Job id) context owned = keeps_queued history new id context owned
keeps_context history new (tasks.JobDone id result) context owned = keeps_queued history new id context owned
keeps_context history new (tasks.Connected id at) context owned =
    ap (λ all. option_map context_listening (find (is_server_of id) all)) (listened-append history new) ∙ map_front context_listening (is_server_of id) (listened history) _ context owned
keeps_context history new (tasks.PromiseEnd id promise result) context owned =
    ap (λ all. option_map context_awaiting (find (is_await_of id) all)) (awaits-append history new) ∙ map_front context_awaiting (is_await_of id) (awaits history) _ context owned
keeps_context history new (tasks.DeployEnd deployment result) context owned =
    ap (λ tells. told_in tells deployment) (lasting_more deploy_tell_kind history new (λ t. and_false (is_accepted new.entry.reply))) ∙ keeps_told (lasting deploy_tell_kind history) _ deployment context owned
keeps_context history new (tasks.UndeployEnd deployment) context owned =
    ap (λ tells. told_in tells deployment) (lasting_more undeploy_tell_kind history new (λ t. and_false (is_accepted new.entry.reply))) ∙ keeps_told (lasting undeploy_tell_kind history) _ deployment context owned
keeps_context history new (tasks.Stop stopped) context owned = owned

-- ## Of the event bus

-- a home is that of a consumer that was registered
abbrev IsFoundHome : List Traced → Home → Type 0
IsFoundHome history home = IsFound history home.consumer × (context_owning home.consumer.owner ≡ Some home.context)

found_homes : (history : List Traced) (all : List Consumer) → Each (IsFound history) all → Each (IsFoundHome history) (homes all)
found_homes history all each =
    Each-homes (IsFoundHome history) all
    (weaken (IsFound history) (λ c. (home : Home) → IsHomeOf c home → IsFoundHome history home) all
    (λ c found home is_home.
    let Found : Consumer → Type 0 = IsFound history in
    (subst Found (sym is_home.consumer) found, ap (λ (k : Consumer). context_owning k.owner) is_home.consumer ∙ is_home.context)) each)

owned_delivery : (history : List Traced) (new : Traced) (message : Message) (place : ℕ) (home : Home) → IsFoundHome history home → IsOwned (history ++ new ∷ []) (delivery history message place home)
owned_delivery history new message place home found = ap (option_and_then context_that) (keeps_found history new home.consumer found.0) ∙ found.1

owned_deliveries : (history : List Traced) (new : Traced) (message : Message) (place : ℕ) (all : List Home) → Each (IsFoundHome history) all →
    Each (IsOwned (history ++ new ∷ [])) (deliveries history message place all)
owned_deliveries history new message place [] found = tt
owned_deliveries history new message place (c ∷ others) found = (owned_delivery history new message place c found.0, owned_deliveries history new message (place + 1) others found.1)

owned_new : (history : List Traced) (new : Traced) (o : Option Message) (all : List Home) → Each (IsFoundHome history) all → Each (IsOwned (history ++ new ∷ [])) (delivered history o all)
owned_new history new None all found = tt
owned_new history new (Some message) all found = owned_deliveries history new message 0 all found

-- the asker of each request that an entry settles
abbrev IsAskedBy : List Traced → Settled → Type 0
IsAskedBy after settled = asker after settled.request ≡ context_asking settled.asker

asked_own : (history : List Traced) (new : Traced) (call : Call) (deed : Deed) (who : Asker) → is_accepted new.entry.reply ≡ true → new.entry.call ≡ call → Asks call deed who →
    asker (history ++ new ∷ []) (next_message history) ≡ context_asking who
asked_own history new (calls.Request context address body options timeout once) deed who ok is_call asks = asker_made history new context ok (ap (asked_made history) is_call) ∙ ap context_asking (sym asks)
asked_own history new (calls.FrameIn conn frame) (deeds.Requests address headers body at) who ok is_call asks = none_asked history new (ap (asked_made history) is_call) ∙ ap context_asking (sym asks)
asked_own history new _ _ who ok is_call asks = absurd asks

settled_asked : (history : List Traced) (new : Traced) (call : Call) (deed : Deed) → is_accepted new.entry.reply ≡ true → new.entry.call ≡ call → Each (IsAskedBy (history ++ new ∷ [])) (settled_made history new.entry.pass call deed)
settled_asked history new call deed ok is_call =
    let after = history ++ new ∷ [] in
    each_settled (IsAskedBy after) history new.entry.pass call deed
    (each_settled_by (IsKnownAsker history) (IsAskedBy after) history new.entry.pass call deed (λ request outcome known. keeps_asker history new request.id known.0 ∙ known.1) (open_known history))
    (λ who asks nobody. asked_own history new call deed who ok is_call asks)

abbrev IsHeardBy : List Traced → Heard → Type 0
IsHeardBy after heard = asker after heard.request ≡ Some heard.context

heard_asked : (after : List Traced) (all : List Settled) → Each (IsAskedBy after) all → Each (IsHeardBy after) (heard all)
heard_asked after all each =
    Each-heard (IsHeardBy after) all
    (weaken (IsAskedBy after) (λ s. (it : Heard) → IsHeardOf s it → IsHeardBy after it) all (λ s known it is_heard. ap (asker after) is_heard.request ∙ known ∙ is_heard.context) each)

owned_outcomes : (after : List Traced) (place : ℕ) (all : List Heard) → Each (IsHeardBy after) all → Each (IsOwned after) (outcome_items place all)
owned_outcomes after place [] each = tt
owned_outcomes after place (s ∷ others) each = (each.0, owned_outcomes after (place + 1) others each.1)

owned_ready : (history : List Traced) (new : Traced) (consumer : Consumer) (context : ContextId) (place : ℕ) (all : List Task) → context_owning consumer.owner ≡ Some context → IsFound history consumer →
    Each (λ task. is_for consumer.id task ≡ true) all → Each (IsOwned (history ++ new ∷ [])) (made_ready history context place all)
owned_ready history new consumer context place [] owns found mine = tt
owned_ready history new consumer context place (task ∷ others) owns found mine =
    (keeps_context history new task context (owned_task history consumer task found mine.0 ∙ owns), owned_ready history new consumer context (place + 1) others owns found mine.1)

owned_ready_for : (history : List Traced) (new : Traced) (consumer : Consumer) (o : Option ContextId) (all : List Task) → context_owning consumer.owner ≡ o → IsFound history consumer →
    Each (λ task. is_for consumer.id task ≡ true) all → Each (IsOwned (history ++ new ∷ [])) (ready_for history o all)
owned_ready_for history new consumer None all owns found mine = tt
owned_ready_for history new consumer (Some context) all owns found mine = owned_ready history new consumer context 0 all owns found mine

owned_freed : (history : List Traced) (new : Traced) (id : ConsumerId) (room : Consumer → Option ℕ) (o : Option Consumer) → live history id ≡ o →
    Each (IsOwned (history ++ new ∷ [])) (freed_by (λ consumer. freed_items history (room consumer) consumer) o)
owned_freed history new id room None is_live = tt
owned_freed history new id room (Some consumer) is_live =
    let Own : Task → Type 0 = λ task. is_for consumer.id task ≡ true in
    let count = freed (room consumer) (length (mailbox history consumer).held) in
    owned_ready_for history new consumer (context_owning consumer.owner) (take count (held_tasks history consumer)) refl (live_registered history consumer (live_found history id consumer is_live))
    (Each-take Own count (held_tasks history consumer) (Each-drop Own (length (mailbox history consumer).ready) (filter (is_for consumer.id) (untaken history)) (passing (is_for consumer.id) (untaken history))))

owned_bus : (history : List Traced) (new : Traced) (call : Call) → is_accepted new.entry.reply ≡ true → new.entry.call ≡ call → MakesReady history new call → Each (IsOwned (history ++ new ∷ [])) (item_by history new call)
owned_bus history new call ok is_call how =
    let deed = new.mark.deed in
    let all = readied history call deed in
    let ended = settled_made history new.entry.pass call deed in
    let Owned : Waiting → Type 0 = IsOwned (history ++ new ∷ []) in
    let P : List Waiting → Type 0 = Each Owned in
    subst P (sym how)
    (Each-append Owned (delivered history (received history call deed) (homes all)) (outcome_items 0 (heard ended))
    (owned_new history new (received history call deed) (homes all) (found_homes history all (weaken (IsLive history) (IsFound history) all (live_registered history) (readied_live history call deed))))
    (owned_outcomes (history ++ new ∷ []) 0 (heard ended) (heard_asked (history ++ new ∷ []) ended (settled_asked history new call deed ok is_call))))

-- ## Of verticles, timers and code that is handed over

abbrev IsOwnedReady : List Traced → Ready → Type 0
IsOwnedReady after ready = context_of after ready.task ≡ Some ready.context

owned_placed : (history : List Traced) (new : Traced) (all : List Ready) → Each (IsOwnedReady (history ++ new ∷ [])) all → Each (IsOwned (history ++ new ∷ [])) (placed history 0 all)
owned_placed history new all each =
    each_placed (IsOwned (history ++ new ∷ [])) history 0 all
    (weaken (IsOwnedReady (history ++ new ∷ [])) (λ (ready : Ready). (at : ℕ) → IsOwned (history ++ new ∷ []) (record { entry = next_entry history; place = at; context = ready.context; task = ready.task })) all
    (λ ready owned at. owned) each)

each_made : {A : Type 0} (P : Ready → Type 0) (f : A → Ready) → ((x : A) → P (f x)) → (all : List A) → Each P (map f all)
each_made P f holds [] = tt
each_made P f holds (x ∷ xs) = (holds x, each_made P f holds xs)

each_flat : {A : Type 0} (P : Ready → Type 0) (f : A → List Ready) → ((x : A) → Each P (f x)) → (all : List A) → Each P (flat_map f all)
each_flat P f holds [] = tt
each_flat P f holds (x ∷ xs) = Each-append P (f x) (flat_map f xs) (holds x) (each_flat P f holds xs)

owned_told : (after : List Traced) (deployment : DeploymentId) (context : Option ContextId) (result : Option DoneResult) → told_in (lasting deploy_tell_kind after) deployment ≡ context →
    Each (IsOwnedReady after) (deploy_told deployment context result)
owned_told after deployment (Some context) (Some result) end_for = (end_for, tt)
owned_told after deployment (Some context) None end_for = tt
owned_told after deployment None result end_for = tt

owned_undeployed : (after : List Traced) (deployment : DeploymentId) (context : Option ContextId) → told_in (lasting undeploy_tell_kind after) deployment ≡ context →
    Each (IsOwnedReady after) (map (λ c. record { context = c; task = tasks.UndeployEnd deployment }) (option_to_list context))
owned_undeployed after deployment None end_for = tt
owned_undeployed after deployment (Some context) end_for = (end_for, tt)

owned_life : (history : List Traced) (new : Traced) (call : Call) → is_accepted new.entry.reply ≡ true → new.entry.call ≡ call → Each (IsOwnedReady (history ++ new ∷ [])) (life_tasks history new)
owned_life history new call ok is_call =
    let after = history ++ new ∷ [] in
    let Owned : Ready → Type 0 = IsOwnedReady after in
    Each-filter Owned Owned _ _ (λ ready passes owned. owned)
    (Each-append Owned _ _
    (Each-map Owned _ (heard (settled_made history new.entry.pass new.entry.call new.mark.deed)) (heard_asked after (settled_made history new.entry.pass new.entry.call new.mark.deed) (settled_asked history new new.entry.call new.mark.deed ok refl)))
    (Each-append Owned _ _
    (each_flat Owned (deploy_end after) (λ deployment. owned_told after deployment (told_in (lasting deploy_tell_kind after) deployment) (deploy_result after deployment) refl) (coming deployed_ids is_deployed history new))
    (Each-append Owned _ _
    (each_flat Owned (undeploy_end after) (λ deployment. owned_undeployed after deployment (told_in (lasting undeploy_tell_kind after) deployment) refl) (coming deployed_ids is_gone history new))
    (each_made Owned _ (λ context. refl) (coming deployed_contexts stops_now history new)))))

owned_jobs : (history : List Traced) (new : Traced) (end : End) (pass : PassNo) (call : Call) → Each (IsOwnedReady (history ++ new ∷ [])) (open_ones (open_contexts history) (jobs_done end (jobs_ended history pass call)))
owned_jobs history new end pass call =
    let Owned : Ready → Type 0 = IsOwnedReady (history ++ new ∷ []) in
    Each-filter Owned Owned _ _ (λ ready passes owned. owned)
    (Each-map Owned (job_done end) (jobs_ended history pass call)
    (Each-filter (IsFoundQueued history) (λ queued. Owned (job_done end queued)) _ (jobs history) (λ queued passes owned. keeps_queued history new queued.id queued.context owned) (jobs_owned history)))

abbrev IsOwnedDue : List Traced → Due → Type 0
IsOwnedDue after due = context_of after due.task ≡ Some due.context

owned_due : (after : List Traced) (request : Open) (due : Due) → asker after request.id ≡ context_asking request.asker → due_request request ≡ Some due → IsOwnedDue after due
owned_due after request due known gives =
    let P : Due → Type 0 = IsOwnedDue after in
    elim (context_asking request.asker) as (λ o. context_asking request.asker ≡ o → option_map (due_task request) o ≡ Some due → P due) [
      | None ↦ λ none some. absurd cc
      | Some context ↦ λ asks some. (let e : due_task request context ≡ due = cc in subst P e (known ∙ asks))
    ] refl gives

owned_dues : (history : List Traced) (new : Traced) (moment : ℕ) → Each (IsOwnedReady (history ++ new ∷ [])) (ready_due (dues history new.entry.pass moment))
owned_dues history new moment =
    let after = history ++ new ∷ [] in
    let requests = settled_by history new.entry.pass (calls.Advance moment) deeds.Nothing in
    Each-map (IsOwnedReady after) _ (dues history new.entry.pass moment)
    (Each-in_order (IsOwnedDue after) (map (due_fire (now history)) (firing history moment) ++ filter_map due_request requests)
    (Each-append (IsOwnedDue after) _ _
    (Each-map (IsOwnedDue after) (due_fire (now history)) (firing history moment)
    (Each-filter (IsSet history) (λ timer. IsOwnedDue after (due_fire (now history) timer)) _ (due_timers history moment)
    (λ timer passes found. keeps_context history new (tasks.Fire timer.id) timer.context (ap (option_map context_set) found))
    (Each-filter (IsSet history) (IsSet history) _ (timers history) (λ timer passes found. found) (timers_found history))))
    (Each-filter_map (IsOwnedDue after) due_request requests
    (Each-filter (IsKnownAsker history) (λ request. (due : Due) → due_request request ≡ Some due → IsOwnedDue after due) _ (unsettled history)
    (λ request passes known due gives. owned_due after request due (keeps_asker history new request.id known.0 ∙ known.1) gives) (open_known history)))))

-- ## Of promises and servers

owned_end : (after : List Traced) (await : Await) (o : Option Completion) → IsAwait after await → Each (IsOwnedReady after) (end_for await o)
owned_end after await None found = tt
owned_end after await (Some completion) found = (ap (option_map context_awaiting) found, tt)

owned_ends : (after : List Traced) (settled : List Completion) (all : List Await) → Each (IsAwait after) all → Each (IsOwnedReady after) (flat_map (promise_end settled) all)
owned_ends after settled [] found = tt
owned_ends after settled (await ∷ others) found =
    Each-append (IsOwnedReady after) (promise_end settled await) (flat_map (promise_end settled) others) (owned_end after await (completion_in settled await.promise) found.0) (owned_ends after settled others found.1)

owned_promises : (history : List Traced) (new : Traced) (settled : List Completion) → Each (IsOwnedReady (history ++ new ∷ [])) (flat_map (promise_end settled) (waits history))
owned_promises history new settled =
    let after = history ++ new ∷ [] in
    owned_ends after settled (waits history)
    (weaken (IsAwait history) (IsAwait after) (waits history)
    (λ await found. ap (find (is_await_of await.id)) (awaits-append history new) ∙ find_front (is_await_of await.id) (awaits history) _ await found) (waits_found history))

owned_connected : (history : List Traced) (new : Traced) (id : ServerId) (o : Option Server) → connecting history id ≡ o → Each (IsOwnedReady (history ++ new ∷ [])) (connected history o)
owned_connected history new id None chosen = tt
owned_connected history new id (Some server) chosen =
    (keeps_context history new (tasks.Connected server.id (next_entry history)) server.context (ap (option_map context_listening) (connecting_each (IsServer history) history id server (servers_found history) chosen)), tt)

-- ## All

owned_by : (history : List Traced) (new : Traced) (call : Call) → is_accepted new.entry.reply ≡ true → new.entry.call ≡ call → Each (IsOwned (history ++ new ∷ [])) (item_by history new call)
owned_by history new (calls.Resume id) ok is_call = owned_freed history new id (λ consumer. None) (live history id) refl
owned_by history new (calls.Fetch id count) ok is_call = owned_freed history new id (λ consumer. room_more count (mailbox history consumer).room) (live history id) refl
owned_by history new (calls.Deploy worker pool tell count) ok is_call =
    owned_placed history new _ (each_made (IsOwnedReady (history ++ new ∷ [])) _ (λ context. refl) (deployed_contexts history (calls.Deploy worker pool tell count)))
owned_by history new (calls.Undeploy deployment tell) ok is_call = owned_placed history new _ (owned_life history new (calls.Undeploy deployment tell) ok is_call)
owned_by history new (calls.StartDone result) ok is_call = owned_placed history new _ (owned_life history new (calls.StartDone result) ok is_call)
owned_by history new calls.StopDone ok is_call = owned_placed history new _ (owned_life history new calls.StopDone ok is_call)
owned_by history new (calls.Finish end) ok is_call =
    owned_placed history new _
    (Each-append (IsOwnedReady (history ++ new ∷ [])) _ _ (owned_jobs history new end new.entry.pass (calls.Finish end)) (owned_life history new (calls.Finish end) ok is_call))
owned_by history new (calls.RunOn context once) ok is_call = owned_placed history new (record { context = context; task = tasks.Run (next_queued history) } ∷ []) (queued_found history new _ ok (ap (queued_made history) is_call) refl, tt)
owned_by history new (calls.Blocking context ordered once) ok is_call = owned_placed history new (record { context = context; task = tasks.Job (next_queued history) } ∷ []) (queued_found history new _ ok (ap (queued_made history) is_call) refl, tt)
owned_by history new (calls.Complete id value) ok is_call = owned_placed history new _ (owned_promises history new (completions (history ++ new ∷ [])))
owned_by history new (calls.FailPromise id code) ok is_call = owned_placed history new _ (owned_promises history new (completions (history ++ new ∷ [])))
owned_by history new (calls.Await context promise) ok is_call =
    let after = history ++ new ∷ [] in
    let P : List Await → Type 0 = λ made. Each (IsAwait after) made in
    owned_placed history new _ (owned_ends after (completions history) (await_made history (calls.Await context promise)) (subst P (ap (await_made history) is_call) (made_awaits history new ok)))
owned_by history new (calls.Accepted id) ok is_call = owned_placed history new _ (owned_connected history new id (connecting history id) refl)
owned_by history new (calls.Advance moment) ok is_call = owned_placed history new _ (owned_dues history new moment)
owned_by history new call ok is_call = owned_bus history new call ok is_call refl

pub waiting_owned : (history : List Traced) → Each (IsOwned history) (waiting history)
waiting_owned =
    lasting_each item_kind IsOwned (λ history new item stays owned. keeps_context history new item.task item.context owned)
    (λ history new. accepted (IsOwned (history ++ new ∷ [])) (is_accepted new.entry.reply) (item_made history new) (λ ok. owned_by history new new.entry.call ok refl))
