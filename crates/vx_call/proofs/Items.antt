-- What an entry makes ready: tasks that it makes, or some that were held.
use Rattle.std.proofs.Common.{◌≡◌, ℕ, ◌+◌, List, [], ◌∷◌, ◌++◌, length, take, refl, ap, sym, ◌∙◌, subst, ◌⊎◌, inl, inr}
use Rattle.std.specs.Prelude.{ℤ, Bool, true, false, cond, nat_le, filter, map, flat_map, Option, None, Some}
use Rattle.std.proofs.lemmas.List.{map-append}
use Rattle.vx_data.specs.declared.ids.ContextId.{ContextId}
use Rattle.vx_data.specs.declared.ids.ConsumerId.{ConsumerId}
use Rattle.vx_message.specs.declared.Message.{Message}
use Rattle.vx_consumer.specs.declared.flow.Arrive.{Arrive}
use Rattle.vx_consumer.specs.declared.flow.Arrive.TheVariants as arrives
use Rattle.vx_consumer.specs.Flows.{room_more, freed}
use Rattle.vx_call.specs.declared.call.Call.{Call}
use Rattle.vx_call.specs.declared.call.Call.TheVariants as calls
use Rattle.vx_call.specs.declared.reply.Reply.{Reply}
use Rattle.vx_call.specs.declared.reply.Task.{Task}
use Rattle.vx_call.specs.declared.reply.Task.TheVariants as tasks
use Rattle.vx_call.specs.declared.call.End.{End}
use Rattle.vx_data.specs.declared.ids.PassNo.{PassNo}
use Rattle.vx_message.specs.declared.Context.{Context}
use Rattle.std.specs.Option.{option_to_list, option_map}
use Rattle.vx_call.specs.Names.{next_entry, next_queued}
use Rattle.vx_call.specs.Time.{now}
use Rattle.vx_call.specs.Timers.{Timer}
use Rattle.vx_call.specs.History.{lasting}
use Rattle.vx_call.specs.Tells.{deploy_tell_kind, undeploy_tell_kind, told_in}
use Rattle.vx_call.specs.Jobs.{jobs_ended}
use Rattle.vx_call.specs.Deployments.{deployed_ids}
use Rattle.vx_data.specs.declared.ids.DeploymentId.{DeploymentId}
use Rattle.vx_message.specs.declared.DoneResult.{DoneResult}
use Rattle.vx_call.specs.Starts.{deployed_contexts}
use Rattle.vx_call.specs.Closings.{open_contexts}
use Rattle.vx_call.specs.There.{is_gone}
use Rattle.vx_call.specs.Ends.{deploy_result, is_deployed, stops_now}
use Rattle.vx_call.specs.Coming.{coming}
use Rattle.vx_call.specs.Fires.{firing}
use Rattle.vx_call.specs.Owners.{context_owning}
use Rattle.vx_call.specs.Due.{Due, due_fire, due_task, due_request, is_before, put_due, in_order, dues}
use Rattle.vx_call.specs.Requests.{Open, settled_by, put_by_due, by_due}
use Rattle.vx_call.specs.declared.history.Consumer.{Consumer}
use Rattle.vx_call.specs.declared.history.Deed.{Deed}
use Rattle.vx_call.specs.declared.history.Traced.{Traced}
use Rattle.vx_call.specs.Consumers.{live}
use Rattle.vx_data.specs.declared.ids.PromiseId.{PromiseId}
use Rattle.vx_data.specs.declared.ids.ServerId.{ServerId}
use Rattle.vx_call.specs.Awaits.{Await, await_made}
use Rattle.vx_call.specs.Completions.{Completion, completions, completion_in}
use Rattle.vx_call.specs.Promised.{waits, end_for, promise_end, promise_ends, promise_ended}
use Rattle.vx_call.specs.Listened.{Server}
use Rattle.vx_call.specs.Accepting.{connecting, connected}
use Rattle.vx_call.specs.Messages.{received}
use Rattle.vx_call.specs.Arrivals.{reached}
use Rattle.vx_call.specs.Mailboxes.{mailbox, arrival_at, is_ready, is_accepted, accepting, readied}
use Rattle.vx_call.specs.Askers.{Asker, is_asked_by, context_asking}
use Rattle.vx_call.specs.Askers as askers
use Rattle.vx_call.specs.Sendings.{Sent, nothing_sent, send_all}
use Rattle.vx_call.specs.Settled.{timeout, settlement, sending_of, timed_out, settled_made}
use Rattle.vx_call.specs.Homes.{Home, home_of, homes, Heard, heard_by, heard}
use Rattle.vx_data.specs.declared.ids.ConnId.{ConnId}
use Rattle.std.specs.List.{filter_map, cons_option}
use Rattle.vx_call.specs.Items.{Waiting, is_for, deliveries, delivered, outcome_item, outcome_items, made_ready, ready_for, placed, held_tasks, freed_items, freed_by, delivery_tasks, outcome_tasks, task_made, task_ended, item_by, item_made, untaken}
use Rattle.vx_call.specs.Lives.{Ready, starts, ready_due, ready_outcomes, job_done, jobs_done, deploy_told, deploy_end, undeploy_end, open_ones, life_tasks}
use Rattle.vx_call.proofs.Each.{Each, Each-append, Each-front, Each-back, Each-map, Each-unmap, Each-take, Each-drop, Each-filter, weaken}
use Rattle.vx_call.proofs.Consumers.{IsLive, live_found}
use Rattle.vx_call.proofs.Homes.{Each-filter_map, Each-unfilter_map}
use Rattle.vx_call.proofs.Tasks.{deliver_home, outcome_task}

abbrev pub tasks_of : List Waiting → List Task
tasks_of items = map (λ (item : Waiting). item.task) items

-- ## Their tasks

tasks_of_deliveries : (history : List Traced) (message : Message) (place : ℕ) (all : List Home) → tasks_of (deliveries history message place all) ≡ delivery_tasks (Some message) all
tasks_of_deliveries history message place [] = refl
tasks_of_deliveries history message place (home ∷ others) = ap (λ ts. deliver_home message home ∷ ts) (tasks_of_deliveries history message (place + 1) others)

tasks_of_delivered : (history : List Traced) (o : Option Message) (all : List Home) → tasks_of (delivered history o all) ≡ delivery_tasks o all
tasks_of_delivered history None all = refl
tasks_of_delivered history (Some message) all = tasks_of_deliveries history message 0 all

tasks_of_outcomes : (place : ℕ) (all : List Heard) → tasks_of (outcome_items place all) ≡ outcome_tasks all
tasks_of_outcomes place [] = refl
tasks_of_outcomes place (s ∷ others) = ap (λ ts. (outcome_item place s).task ∷ ts) (tasks_of_outcomes (place + 1) others)

pub tasks_of_new : (history : List Traced) (o : Option Message) (all : List Home) (ended : List Heard) →
    tasks_of (delivered history o all ++ outcome_items 0 ended) ≡ delivery_tasks o all ++ outcome_tasks ended
tasks_of_new history o all ended =
    map-append (λ (item : Waiting). item.task) (delivered history o all) (outcome_items 0 ended)
    ∙ ap (λ ts. ts ++ tasks_of (outcome_items 0 ended)) (tasks_of_delivered history o all)
    ∙ ap (λ ts. delivery_tasks o all ++ ts) (tasks_of_outcomes 0 ended)

pub tasks_of_ready : (history : List Traced) (context : ContextId) (place : ℕ) (all : List Task) → tasks_of (made_ready history context place all) ≡ all
tasks_of_ready history context place [] = refl
tasks_of_ready history context place (task ∷ others) = ap (λ ts. task ∷ ts) (tasks_of_ready history context (place + 1) others)

-- ## New ones, or held ones

-- a Resume or a Fetch of a live consumer
pub record Frees (history : List Traced) (new : Traced) (call : Call) : Type 0 where
  pub consumer : Consumer
  pub is_live : IsLive history consumer
  pub room : Option ℕ
  pub items : item_by history new call ≡ freed_items history room consumer
  pub keeps : (pass : PassNo) (reply : Reply) (task : Task) → task_ended history pass call reply task ≡ false

-- the entry makes all that it makes ready
abbrev pub MakesReady : List Traced → Traced → Call → Type 0
MakesReady history new call =
    item_by history new call
    ≡ delivered history (received history call new.mark.deed) (homes (readied history call new.mark.deed)) ++ outcome_items 0 (heard (settled_made history new.entry.pass call new.mark.deed))

-- x is among these
abbrev pub Among : {A : Type 0} → A → List A → Type 0
Among x [] = ⊥
Among x (y ∷ ys) = (x ≡ y) ⊎ Among x ys

abbrev pub is_delivery : Task → Bool
is_delivery (tasks.Deliver consumer message) = true
is_delivery _ = false

-- a task of the event bus: a message for a consumer, or the outcome of a request
abbrev pub is_of_bus : Task → Bool
is_of_bus (tasks.Deliver consumer message) = true
is_of_bus (tasks.Outcome request outcome) = true
is_of_bus _ = false

-- no message; and where it is an outcome, one that the entry makes
abbrev pub IsBeside : List Task → Ready → Type 0
IsBeside made ready = (is_delivery ready.task ≡ false) × (is_of_bus ready.task ≡ true → Among ready.task made)

-- the entry makes tasks ready of verticles, timers and code that is handed over, and outcomes with them
pub record MakesPlaced (history : List Traced) (new : Traced) (call : Call) : Type 0 where
  pub ready : List Ready
  pub items : item_by history new call ≡ placed history 0 ready
  pub beside : Each (IsBeside (task_made history new.entry.pass call new.mark.deed)) ready

abbrev pub ItemsHow : List Traced → Traced → Call → Type 0
ItemsHow history new call = Frees history new call ⊎ (MakesReady history new call ⊎ MakesPlaced history new call)

-- ## Among

pub among-behind : {A : Type 0} (x : A) (xs ys : List A) → Among x ys → Among x (xs ++ ys)
among-behind x [] ys among = among
among-behind x (y ∷ xs) ys among = inr (among-behind x xs ys among)

pub each_among : {A : Type 0} (P : A → Type 0) (x : A) (xs : List A) → Among x xs → Each P xs → P x
each_among P x [] among each = absurd among
each_among {A} P x (y ∷ ys) among each = elim among as (λ _. P x) [ inl e ↦ subst P (sym e) each.0 | inr later ↦ each_among P x ys later each.1 ]

pub all_among : {A : Type 0} (xs : List A) → Each (λ x. Among x xs) xs
all_among [] = tt
all_among (x ∷ xs) = (inl refl, weaken (λ y. Among y xs) (λ y. Among y (x ∷ xs)) xs (λ y among. inr among) (all_among xs))

among-map : {A B : Type 0} (f : A → B) (x : A) (xs : List A) → Among x xs → Among (f x) (map f xs)
among-map f x [] among = absurd among
among-map f x (y ∷ ys) among = elim among as (λ _. Among (f x) (map f (y ∷ ys))) [ inl e ↦ inl (ap f e) | inr later ↦ inr (among-map f x ys later) ]

each_unput : (P : Open → Type 0) (request : Open) (others : List Open) → Each P (put_by_due request others) → P request × Each P others
each_unput P request [] each = (each.0, tt)
each_unput P request (other ∷ others) each =
    elim (nat_le request.due other.due) as (λ b. Each P (cond b (request ∷ other ∷ others) (other ∷ put_by_due request others)) → P request × Each P (other ∷ others)) [
      | true ↦ λ all. (all.0, all.1)
      | false ↦ λ all. (let rest = each_unput P request others all.1 in (rest.0, (all.0, rest.1)))
    ] each

pub each_unsorted : (P : Open → Type 0) (all : List Open) → Each P (by_due all) → Each P all
each_unsorted P [] each = tt
each_unsorted P (request ∷ others) each = let both = each_unput P request (by_due others) each in (both.0, each_unsorted P others both.1)

Each-put_due : (P : Due → Type 0) (due : Due) (others : List Due) → P due → Each P others → Each P (put_due due others)
Each-put_due P due [] here each = (here, tt)
Each-put_due P due (other ∷ others) here each =
    elim (is_before due other) as (λ b. Each P (cond b (due ∷ other ∷ others) (other ∷ put_due due others))) [
      | true ↦ (here, each)
      | false ↦ (each.0, Each-put_due P due others here each.1)
    ]

pub Each-in_order : (P : Due → Type 0) (all : List Due) → Each P all → Each P (in_order all)
Each-in_order P [] each = tt
Each-in_order P (due ∷ others) each = Each-put_due P due (in_order others) each.0 (Each-in_order P others each.1)

-- ## What stands beside messages

other_bool : (b : Bool) → b ≡ true → b ≡ false → ⊥
other_bool b on off = absurd cc

abbrev ready_outcome : Heard → Ready
ready_outcome heard = record { context = heard.context; task = tasks.Outcome heard.request heard.outcome }

abbrev ready_of_due : Due → Ready
ready_of_due due = record { context = due.context; task = due.task }

each_fire : (made : List Task) (moment : ℕ) (all : List Timer) → Each (λ timer. IsBeside made (ready_of_due (due_fire moment timer))) all
each_fire made moment [] = tt
each_fire made moment (timer ∷ others) = ((refl, λ bus. absurd cc), each_fire made moment others)

-- tasks that are none of the event bus
beside_life : {A : Type 0} (made : List Task) (f : A → Ready) → ((x : A) → is_of_bus (f x).task ≡ false) → ((x : A) → is_delivery (f x).task ≡ false) → (all : List A) → Each (IsBeside made) (map f all)
beside_life made f no_bus no_delivery [] = tt
beside_life made f no_bus no_delivery (x ∷ xs) = ((no_delivery x, λ bus. absurd (other_bool (is_of_bus (f x).task) bus (no_bus x))), beside_life made f no_bus no_delivery xs)

-- outcomes that the entry makes
beside_outcomes : (front : List Task) (ended : List Heard) → Each (IsBeside (front ++ outcome_tasks ended)) (ready_outcomes ended)
beside_outcomes front ended =
    Each-map (IsBeside (front ++ outcome_tasks ended)) ready_outcome ended
    (weaken (λ s. Among s ended) (λ s. IsBeside (front ++ outcome_tasks ended) (ready_outcome s)) ended
    (λ s among. (refl, λ bus. among-behind _ front (outcome_tasks ended) (among-map outcome_task s ended among))) (all_among ended))

beside_told : (made : List Task) (deployment : DeploymentId) (context : Option ContextId) (result : Option DoneResult) → Each (IsBeside made) (deploy_told deployment context result)
beside_told made deployment (Some context) (Some result) = ((refl, λ bus. absurd cc), tt)
beside_told made deployment _ _ = tt

beside_deploy_ends : (made : List Task) (after : List Traced) (all : List DeploymentId) → Each (IsBeside made) (flat_map (deploy_end after) all)
beside_deploy_ends made after [] = tt
beside_deploy_ends made after (deployment ∷ others) =
    Each-append (IsBeside made) (deploy_end after deployment) (flat_map (deploy_end after) others)
    (beside_told made deployment (told_in (lasting deploy_tell_kind after) deployment) (deploy_result after deployment)) (beside_deploy_ends made after others)

beside_undeploy_ends : (made : List Task) (after : List Traced) (all : List DeploymentId) → Each (IsBeside made) (flat_map (undeploy_end after) all)
beside_undeploy_ends made after [] = tt
beside_undeploy_ends made after (deployment ∷ others) =
    Each-append (IsBeside made) (undeploy_end after deployment) (flat_map (undeploy_end after) others)
    (beside_life made (λ context. record { context = context; task = tasks.UndeployEnd deployment }) (λ context. refl) (λ context. refl) (option_to_list (told_in (lasting undeploy_tell_kind after) deployment)))
    (beside_undeploy_ends made after others)

beside_open : (made : List Task) (contexts : List Context) (all : List Ready) → Each (IsBeside made) all → Each (IsBeside made) (open_ones contexts all)
beside_open made contexts all each = Each-filter (IsBeside made) (IsBeside made) _ all (λ ready passes beside. beside) each

beside_lives : (history : List Traced) (new : Traced) (call : Call) → new.entry.call ≡ call → Each (IsBeside (task_made history new.entry.pass call new.mark.deed)) (life_tasks history new)
beside_lives history new call is_call =
    let after = history ++ new ∷ [] in
    let deed = new.mark.deed in
    let made = task_made history new.entry.pass call deed in
    let front = delivery_tasks (received history call deed) (homes (accepting history call deed)) in
    let P : List Heard → Type 0 = λ ended. Each (IsBeside made) (ready_outcomes ended) in
    beside_open made (open_contexts after) _
    (Each-append (IsBeside made) _ _ (subst P (ap (λ c. heard (settled_made history new.entry.pass c deed)) (sym is_call)) (beside_outcomes front (heard (settled_made history new.entry.pass call deed))))
    (Each-append (IsBeside made) _ _ (beside_deploy_ends made after (coming deployed_ids is_deployed history new))
    (Each-append (IsBeside made) _ _ (beside_undeploy_ends made after (coming deployed_ids is_gone history new))
    (beside_life made _ (λ context. refl) (λ context. refl) (coming deployed_contexts stops_now history new)))))

-- the time of a context's request is up whatever connections close
not_shut : (shut : List ConnId) (asker : Asker) (context : ContextId) → context_asking asker ≡ Some context → is_asked_by shut asker ≡ false
not_shut shut (askers.context id) context asks = refl
not_shut shut (askers.connection conn at) context asks = absurd cc

among_cons : {A : Type 0} (x : A) (o : Option A) (xs : List A) → Among x xs → Among x (cons_option o xs)
among_cons x None xs among = among
among_cons x (Some y) xs among = inr among

abbrev pub heard_timeout : List Traced → Open → ContextId → Heard
heard_timeout history request context = record { request = request.id; at = next_entry history; context = context; outcome = timeout }

heard_here : (history : List Traced) (request : Open) (context : ContextId) (others : List Heard) → context_asking request.asker ≡ Some context →
    Among (heard_timeout history request context) (cons_option (heard_by (settlement history timeout request)) others)
heard_here history request context others asks =
    let It : Option ContextId → Type 0 = λ o.
    Among (heard_timeout history request context) (cons_option (option_map (λ c. record { request = request.id; at = next_entry history; context = c; outcome = timeout }) o) others) in
    subst It (sym asks) (inl refl)

pub among_timed_out : (history : List Traced) (sent : Sent) (all : List Open) (request : Open) (context : ContextId) → context_asking request.asker ≡ Some context → Among request all →
    Among (heard_timeout history request context) (heard (timed_out history sent all))
among_timed_out history sent [] request context asks among = absurd among
among_timed_out history sent (first ∷ others) request context asks among =
    let next = send_all history sent (sending_of (settlement history timeout first)) in
    let It : Bool → Type 0 = λ b. Among (heard_timeout history request context) (heard (cond b (timed_out history sent others) (settlement history timeout first ∷ timed_out history next others))) in
    elim among as (λ _. It (is_asked_by sent.shut first.asker)) [
      | inl same ↦
          (let asked : context_asking first.asker ≡ Some context = ap (λ (r : Open). context_asking r.asker) (sym same) ∙ asks in
          let Here : Open → Type 0 = λ r. Among (heard_timeout history r context) (heard (settlement history timeout first ∷ timed_out history next others)) in
          subst It (sym (not_shut sent.shut first.asker context asked)) (subst Here (sym same) (heard_here history first context (heard (timed_out history next others)) asked)))
      | inr later ↦
          (elim (is_asked_by sent.shut first.asker) as It [
            | true ↦ among_timed_out history sent others request context asks later
            | false ↦ among_cons _ (heard_by (settlement history timeout first)) (heard (timed_out history next others)) (among_timed_out history next others request context asks later)
          ])
    ]

due_beside : (history : List Traced) (front : List Task) (sorted : List Open) (request : Open) (due : Due) → Among request sorted → due_request request ≡ Some due →
    IsBeside (front ++ outcome_tasks (heard (timed_out history nothing_sent sorted))) (ready_of_due due)
due_beside history front sorted request due among gives =
    let ended = heard (timed_out history nothing_sent sorted) in
    let made = front ++ outcome_tasks ended in
    let P : Due → Type 0 = λ d. IsBeside made (ready_of_due d) in
    elim (context_asking request.asker) as (λ o. context_asking request.asker ≡ o → option_map (due_task request) o ≡ Some due → P due) [
      | None ↦ λ none some. absurd cc
      | Some context ↦ λ asks some.
          (let e : due_task request context ≡ due = cc in
          subst P e (refl, λ bus. among-behind _ front (outcome_tasks ended) (among-map outcome_task (heard_timeout history request context) ended (among_timed_out history nothing_sent sorted request context asks among))))
    ] refl gives

beside_dues : (history : List Traced) (pass : PassNo) (moment : ℕ) (deed : Deed) → Each (IsBeside (task_made history pass (calls.Advance moment) deed)) (ready_due (dues history pass moment))
beside_dues history pass moment deed =
    let call = calls.Advance moment in
    let made = task_made history pass call deed in
    let requests = settled_by history pass call deed in
    let sorted = by_due requests in
    let P : Due → Type 0 = λ due. IsBeside made (ready_of_due due) in
    Each-map (IsBeside made) ready_of_due (dues history pass moment)
    (Each-in_order P (map (due_fire (now history)) (firing history moment) ++ filter_map due_request requests)
    (Each-append P _ _
    (Each-map P (due_fire (now history)) (firing history moment) (each_fire made (now history) (firing history moment)))
    (Each-filter_map P due_request requests
    (weaken (λ request. Among request sorted) (λ request. (due : Due) → due_request request ≡ Some due → P due) requests
    (λ request among due gives. due_beside history (delivery_tasks (received history call deed) (homes (accepting history call deed))) sorted request due among gives)
    (each_unsorted (λ request. Among request sorted) requests (all_among sorted))))))

-- ## How

frees : (history : List Traced) (new : Traced) (call : Call) (id : ConsumerId) (room : Consumer → Option ℕ) → item_by history new call ≡ freed_by (λ consumer. freed_items history (room consumer) consumer) (live history id) →
    ((pass : PassNo) (reply : Reply) (task : Task) → task_ended history pass call reply task ≡ false) →
    delivered history (received history call new.mark.deed) (homes (readied history call new.mark.deed)) ++ outcome_items 0 (heard (settled_made history new.entry.pass call new.mark.deed)) ≡ [] → ItemsHow history new call
frees history new call id room items keeps none =
    elim (live history id) as (λ o. live history id ≡ o → item_by history new call ≡ freed_by (λ consumer. freed_items history (room consumer) consumer) o → ItemsHow history new call) [
      | None ↦ λ nobody empty. inr (inl (empty ∙ sym none))
      | Some consumer ↦ λ is_live some. inl (record { consumer = consumer; is_live = live_found history id consumer is_live; room = room consumer; items = some; keeps = keeps })
    ] refl items

-- a call that ends starts or stops
pub life_placed : (history : List Traced) (new : Traced) (call : Call) → new.entry.call ≡ call → item_by history new call ≡ placed history 0 (life_tasks history new) → MakesPlaced history new call
life_placed history new call is_call is_placed = record { ready = life_tasks history new; items = is_placed; beside = beside_lives history new call is_call }

pub finish_placed : (history : List Traced) (new : Traced) (end : End) → new.entry.call ≡ calls.Finish end → MakesPlaced history new (calls.Finish end)
finish_placed history new end is_call =
    let made = task_made history new.entry.pass (calls.Finish end) new.mark.deed in
    record {
      ready = open_ones (open_contexts history) (jobs_done end (jobs_ended history new.entry.pass (calls.Finish end))) ++ life_tasks history new;
      items = refl;
      beside = Each-append (IsBeside made) _ _ (beside_open made (open_contexts history) _ (beside_life made (job_done end) (λ queued. refl) (λ queued. refl) (jobs_ended history new.entry.pass (calls.Finish end)))) (beside_lives history new (calls.Finish end) is_call);
    }

pub deploy_placed : (history : List Traced) (new : Traced) (worker : Bool) (pool : Option (List ℕ)) (tell : Option ContextId) (count : ℕ) → MakesPlaced history new (calls.Deploy worker pool tell count)
deploy_placed history new worker pool tell count =
    let call = calls.Deploy worker pool tell count in
    record {
      ready = starts history call;
      items = refl;
      beside = beside_life (task_made history new.entry.pass call new.mark.deed) (λ context. record { context = context; task = tasks.Start context }) (λ context. refl) (λ context. refl) (deployed_contexts history call);
    }

pub run_placed : (history : List Traced) (new : Traced) (context : ContextId) (once : Option (List ℤ)) → MakesPlaced history new (calls.RunOn context once)
run_placed history new context once = record { ready = record { context = context; task = tasks.Run (next_queued history) } ∷ []; items = refl; beside = ((refl, λ bus. absurd cc), tt) }

pub job_placed : (history : List Traced) (new : Traced) (context : ContextId) (ordered : Bool) (once : Option (List ℤ)) → MakesPlaced history new (calls.Blocking context ordered once)
job_placed history new context ordered once = record { ready = record { context = context; task = tasks.Job (next_queued history) } ∷ []; items = refl; beside = ((refl, λ bus. absurd cc), tt) }

pub due_placed : (history : List Traced) (new : Traced) (moment : ℕ) → MakesPlaced history new (calls.Advance moment)
due_placed history new moment = record { ready = ready_due (dues history new.entry.pass moment); items = refl; beside = beside_dues history new.entry.pass moment new.mark.deed }

beside_promise : (made : List Task) (await : Await) (o : Option Completion) → Each (IsBeside made) (end_for await o)
beside_promise made await None = tt
beside_promise made await (Some completion) = ((refl, λ bus. absurd cc), tt)

beside_promises : (made : List Task) (settled : List Completion) (all : List Await) → Each (IsBeside made) (flat_map (promise_end settled) all)
beside_promises made settled [] = tt
beside_promises made settled (await ∷ others) =
    Each-append (IsBeside made) (promise_end settled await) (flat_map (promise_end settled) others) (beside_promise made await (completion_in settled await.promise)) (beside_promises made settled others)

-- a call that settles promises
pub promises_placed : (history : List Traced) (new : Traced) (call : Call) → item_by history new call ≡ placed history 0 (promise_ends history new) → MakesPlaced history new call
promises_placed history new call is_placed = record { ready = promise_ends history new; items = is_placed; beside = beside_promises (task_made history new.entry.pass call new.mark.deed) (completions (history ++ new ∷ [])) (waits history) }

pub await_placed : (history : List Traced) (new : Traced) (context : ContextId) (promise : PromiseId) → MakesPlaced history new (calls.Await context promise)
await_placed history new context promise =
    let call = calls.Await context promise in
    record { ready = promise_ended history call; items = refl; beside = beside_promises (task_made history new.entry.pass call new.mark.deed) (completions history) (await_made history call) }

beside_connected : (made : List Task) (history : List Traced) (o : Option Server) → Each (IsBeside made) (connected history o)
beside_connected made history None = tt
beside_connected made history (Some server) = ((refl, λ bus. absurd cc), tt)

pub accepted_placed : (history : List Traced) (new : Traced) (id : ServerId) → MakesPlaced history new (calls.Accepted id)
accepted_placed history new id = record { ready = connected history (connecting history id); items = refl; beside = beside_connected (task_made history new.entry.pass (calls.Accepted id) new.mark.deed) history (connecting history id) }

how_by : (history : List Traced) (new : Traced) (call : Call) → new.entry.call ≡ call → ItemsHow history new call
how_by history new (calls.Resume id) is_call = frees history new (calls.Resume id) id (λ consumer. None) refl (λ pass reply task. refl) refl
how_by history new (calls.Fetch id count) is_call = frees history new (calls.Fetch id count) id (λ consumer. room_more count (mailbox history consumer).room) refl (λ pass reply task. refl) refl
how_by history new (calls.Deploy worker pool tell count) is_call = inr (inr (deploy_placed history new worker pool tell count))
how_by history new (calls.Undeploy deployment tell) is_call = inr (inr (life_placed history new (calls.Undeploy deployment tell) is_call refl))
how_by history new (calls.StartDone result) is_call = inr (inr (life_placed history new (calls.StartDone result) is_call refl))
how_by history new calls.StopDone is_call = inr (inr (life_placed history new calls.StopDone is_call refl))
how_by history new (calls.Finish end) is_call = inr (inr (finish_placed history new end is_call))
how_by history new (calls.RunOn context once) is_call = inr (inr (run_placed history new context once))
how_by history new (calls.Blocking context ordered once) is_call = inr (inr (job_placed history new context ordered once))
how_by history new (calls.Complete id value) is_call = inr (inr (promises_placed history new (calls.Complete id value) refl))
how_by history new (calls.FailPromise id code) is_call = inr (inr (promises_placed history new (calls.FailPromise id code) refl))
how_by history new (calls.Await context promise) is_call = inr (inr (await_placed history new context promise))
how_by history new (calls.Accepted id) is_call = inr (inr (accepted_placed history new id))
how_by history new (calls.Advance moment) is_call = inr (inr (due_placed history new moment))
how_by history new _ is_call = inr (inl refl)

pub items_how : (history : List Traced) (new : Traced) → ItemsHow history new new.entry.call
items_how history new = how_by history new new.entry.call refl

-- ## What holds of each

ready_accepted : (a : Arrive) → is_ready a ≡ true → is_accepted a ≡ true
ready_accepted arrives.Ready h = refl
ready_accepted arrives.Held h = cc
ready_accepted arrives.Lost h = cc

narrower : {A : Type 0} (P : A → Type 0) (p q : A → Bool) → ((x : A) → p x ≡ true → q x ≡ true) → (xs : List A) → Each P (filter q xs) → Each P (filter p xs)
narrower P p q wider [] each = tt
narrower P p q wider (x ∷ xs) each =
    elim (p x) as (λ b. p x ≡ b → Each P (cond (q x) (x ∷ filter q xs) (filter q xs)) → Each P (cond b (x ∷ filter p xs) (filter p xs))) [
      | true ↦ λ passes all.
          (let there : Each P (x ∷ filter q xs) = subst (λ b. Each P (cond b (x ∷ filter q xs) (filter q xs))) (wider x passes) all in
          (there.0, narrower P p q wider xs there.1))
      | false ↦ λ fails all.
          narrower P p q wider xs (elim (q x) as (λ c. Each P (cond c (x ∷ filter q xs) (filter q xs)) → Each P (filter q xs)) [ true ↦ λ both. both.1 | false ↦ λ rest. rest ] all)
    ] refl each

ready_deliveries : (P : Task → Type 0) (history : List Traced) (o : Option Message) (all : List Consumer) → Each P (delivery_tasks o (homes (filter (λ consumer. is_accepted (arrival_at history consumer)) all))) →
    Each P (delivery_tasks o (homes (filter (λ consumer. is_ready (arrival_at history consumer)) all)))
ready_deliveries P history None all each = tt
ready_deliveries P history (Some message) all each =
    let At : Home → Type 0 = λ home. P (deliver_home message home) in
    let Q : Consumer → Type 0 = λ consumer. (home : Home) → home_of consumer ≡ Some home → At home in
    let p = λ (consumer : Consumer). is_ready (arrival_at history consumer) in
    let q = λ (consumer : Consumer). is_accepted (arrival_at history consumer) in
    Each-map P (deliver_home message) (homes (filter p all))
    (Each-filter_map At home_of (filter p all)
    (narrower Q p q (λ consumer ready. ready_accepted (arrival_at history consumer) ready) all
    (Each-unfilter_map At home_of (filter q all) (Each-unmap P (deliver_home message) (homes (filter q all)) each))))

-- what holds of each task that the entry makes
pub each_new_item : (P : Task → Type 0) (history : List Traced) (new : Traced) (call : Call) → MakesReady history new call → Each P (task_made history new.entry.pass call new.mark.deed) → Each (λ item. P item.task) (item_by history new call)
each_new_item P history new call how made_each =
    let Q : List Waiting → Type 0 = λ items. Each (λ (item : Waiting). P item.task) items in
    let R : List Task → Type 0 = Each P in
    let deed = new.mark.deed in
    let o = received history call deed in
    let ready = homes (readied history call deed) in
    let ended = heard (settled_made history new.entry.pass call deed) in
    let made = delivery_tasks o (homes (accepting history call deed)) in
    subst Q (sym how)
    (Each-unmap P (λ (item : Waiting). item.task) (delivered history o ready ++ outcome_items 0 ended)
    (subst R (sym (tasks_of_new history o ready ended))
    (Each-append P (delivery_tasks o ready) (outcome_tasks ended) (ready_deliveries P history o (reached history call deed) (Each-front P made (outcome_tasks ended) made_each)) (Each-back P made (outcome_tasks ended) made_each))))

pub each_ready_for : (P : Task → Type 0) (history : List Traced) (o : Option ContextId) (all : List Task) → Each P all → Each (λ (item : Waiting). P item.task) (ready_for history o all)
each_ready_for P history None all each = tt
each_ready_for P history (Some context) all each =
    let R : List Task → Type 0 = Each P in
    Each-unmap P (λ (item : Waiting). item.task) (made_ready history context 0 all) (subst R (sym (tasks_of_ready history context 0 all)) each)

-- what holds of each held task of the consumer
pub each_freed_item : (P : Task → Type 0) (history : List Traced) (new : Traced) (call : Call) (how : Frees history new call) → Each P (held_tasks history how.consumer) → Each (λ item. P item.task) (item_by history new call)
each_freed_item P history new call how old =
    let Q : List Waiting → Type 0 = λ items. Each (λ (item : Waiting). P item.task) items in
    let tasks = held_tasks history how.consumer in
    let count = freed how.room (length (mailbox history how.consumer).held) in
    subst Q (sym how.items) (each_ready_for P history (context_owning how.consumer.owner) (take count tasks) (Each-take P count tasks old))

pub each_placed : (P : Waiting → Type 0) (history : List Traced) (place : ℕ) (all : List Ready) →
    Each (λ (ready : Ready). (at : ℕ) → P (record { entry = next_entry history; place = at; context = ready.context; task = ready.task })) all → Each P (placed history place all)
each_placed P history place [] each = tt
each_placed P history place (ready ∷ others) each = (each.0 place, each_placed P history (place + 1) others each.1)

-- what holds of all that is none of the event bus, and of each outcome that the entry makes
pub each_placed_item : (P : Task → Type 0) (history : List Traced) (new : Traced) (call : Call) (how : MakesPlaced history new call) → ((task : Task) → is_of_bus task ≡ false → P task) →
    Each P (task_made history new.entry.pass call new.mark.deed) → Each (λ item. P item.task) (item_by history new call)
each_placed_item P history new call how other made_each =
    let Q : List Waiting → Type 0 = λ items. Each (λ (item : Waiting). P item.task) items in
    let made = task_made history new.entry.pass call new.mark.deed in
    subst Q (sym how.items)
    (each_placed (λ item. P item.task) history 0 how.ready
    (weaken (IsBeside made) (λ (ready : Ready). (at : ℕ) → P ready.task) how.ready
    (λ ready beside at.
    elim (is_of_bus ready.task) as (λ b. is_of_bus ready.task ≡ b → P ready.task) [
      | true ↦ λ bus. each_among P ready.task made (beside.1 bus) made_each
      | false ↦ λ life. other ready.task life
    ] refl) how.beside))

pub each_held_task : (P : Task → Type 0) (history : List Traced) (consumer : Consumer) → Each P (untaken history) → Each P (held_tasks history consumer)
each_held_task P history consumer old =
    Each-drop P (length (mailbox history consumer).ready) (filter (is_for consumer.id) (untaken history)) (Each-filter P P (is_for consumer.id) (untaken history) (λ task is p. p) old)

-- what holds of each task that was there, where the entry frees some, of each that it makes, and of all that is none of
-- the event bus, holds of each that it makes ready
pub each_item : (P : Task → Type 0) (history : List Traced) (new : Traced) → (Frees history new new.entry.call → Each P (untaken history)) → Each P (task_made history new.entry.pass new.entry.call new.mark.deed) →
    ((task : Task) → is_of_bus task ≡ false → P task) → Each (λ item. P item.task) (item_made history new)
each_item P history new old made_each other =
    elim (items_how history new) as (λ _. Each (λ item. P item.task) (item_made history new)) [
      | inl how ↦ each_freed_item P history new new.entry.call how (each_held_task P history how.consumer (old how))
      | inr how ↦
          (elim how as (λ _. Each (λ item. P item.task) (item_made history new)) [
            | inl makes ↦ each_new_item P history new new.entry.call makes made_each
            | inr places ↦ each_placed_item P history new new.entry.call places other made_each
          ])
    ]
