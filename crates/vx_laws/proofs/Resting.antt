-- In a legal history each task that waits is of a context that is open, and a Stop that waits is of a deployment that has
-- no children any more, nor gets one.
use Rattle.std.proofs.Common.{◌≡◌, ℕ, ◌+◌, List, [], ◌∷◌, ◌++◌, length, take, drop, refl, ap, sym, ◌∙◌, subst}
use Rattle.std.specs.Prelude.{Bool, true, false, not, ◌&&◌, ◌||◌, cond, filter, map, flat_map, Option, None, Some}
use Rattle.std.specs.List.{list_any, filter_map}
use Rattle.std.specs.Option.{option_map, option_to_list}
use Rattle.std.proofs.lemmas.Bool.{and_parts}
use Rattle.vx_data.specs.declared.ids.ContextId.{ContextId}
use Rattle.vx_data.specs.declared.ids.ConsumerId.{ConsumerId}
use Rattle.vx_data.specs.declared.ids.DeploymentId.{DeploymentId}
use Rattle.vx_data.specs.declared.ids.PassNo.{PassNo}
use Rattle.vx_data.specs.declared.ids.ServerId.{ServerId}
use Rattle.vx_data.specs.Ids.{same_context}
use Rattle.vx_message.specs.declared.Context.{Context}
use Rattle.vx_message.specs.declared.DoneResult.{DoneResult}
use Rattle.vx_message.specs.declared.Held.{Held}
use Rattle.vx_message.specs.declared.ItemKind.{ItemKind}
use Rattle.vx_message.specs.declared.ItemKind.TheVariants as kinds
use Rattle.vx_message.specs.declared.Message.{Message}
use Rattle.vx_consumer.specs.Flows.{room_more, freed}
use Rattle.vx_call.specs.declared.call.End.{End}
use Rattle.vx_call.specs.declared.call.Call.{Call}
use Rattle.vx_call.specs.declared.call.Call.TheVariants as calls
use Rattle.vx_call.specs.declared.reply.Reply.{Reply}
use Rattle.vx_call.specs.declared.reply.Task.{Task}
use Rattle.vx_call.specs.declared.reply.Task.TheVariants as tasks
use Rattle.vx_call.specs.declared.history.Consumer.{Consumer}
use Rattle.vx_call.specs.declared.history.Deed.{Deed}
use Rattle.vx_call.specs.declared.history.Deed.TheVariants as deeds
use Rattle.vx_call.specs.declared.history.Traced.{Traced}
use Rattle.vx_call.specs.History.{Kind, is_accepted, made_by, ended_by, lasting}
use Rattle.vx_call.specs.Names.{next_entry, next_queued}
use Rattle.vx_call.specs.Time.{now}
use Rattle.vx_call.specs.Timers.{Timer}
use Rattle.vx_call.specs.Contexts.{instances, context_made}
use Rattle.vx_call.specs.Owners.{context_owning}
use Rattle.vx_call.specs.Queued.{Queued}
use Rattle.vx_call.specs.Tells.{deploy_tell_kind, undeploy_tell_kind, told_in}
use Rattle.vx_call.specs.Given.{context_of}
use Rattle.vx_call.specs.Held.{holding, is_of_context}
use Rattle.vx_call.specs.Jobs.{jobs, is_job, is_job_held, ends_job, jobs_ended}
use Rattle.vx_call.specs.Deployments.{Deployment, deployment_of, deployed_ids}
use Rattle.vx_call.specs.Starts.{starts_in, stops_in, ids_of_contexts, deployed_contexts}
use Rattle.vx_call.specs.Closings.{closing_by, closes, open_contexts, is_open, is_open_in}
use Rattle.vx_call.specs.Askings.{Asking, is_asking_of, askings}
use Rattle.vx_call.specs.There.{is_child_of, there, is_gone}
use Rattle.vx_call.specs.Starts.{unstarted}
use Rattle.vx_call.specs.Ends.{may_stop, stops_now, deploy_result, is_deployed}
use Rattle.vx_call.specs.Coming.{moves_on, awaited, coming_if, coming}
use Rattle.vx_call.specs.Askers.{Asker, context_asking}
use Rattle.vx_call.specs.Requests.{Open, settled_by, unsettled}
use Rattle.vx_call.specs.Settled.{Settled, settled_made}
use Rattle.vx_call.specs.Homes.{Home, homes, Heard, heard}
use Rattle.vx_call.specs.Messages.{received}
use Rattle.vx_call.specs.Consumers.{consumers, live}
use Rattle.vx_call.specs.Registered.{is_named}
use Rattle.vx_call.specs.Mailboxes.{mailbox, readied}
use Rattle.vx_call.specs.Fires.{timers, due_timers, firing}
use Rattle.vx_call.specs.Due.{Due, due_fire, due_task, due_request, dues}
use Rattle.vx_call.specs.Awaits.{Await}
use Rattle.vx_call.specs.Completions.{Completion, completions, completion_in}
use Rattle.vx_call.specs.Promised.{waits, end_for, promise_end, promise_ends}
use Rattle.vx_call.specs.Listened.{Server}
use Rattle.vx_call.specs.Accepting.{connecting, connected}
use Rattle.vx_call.specs.Lives.{Ready, starts, ready_due, ready_outcomes, job_done, jobs_done, deploy_told, deploy_end, deploy_ends, undeploy_end, undeploy_ends, stops, open_ones, life_tasks}
use Rattle.vx_call.specs.Items.{Waiting, is_for, untaken, closes_task, deliveries, delivered, outcome_items, made_ready, ready_for, placed, held_tasks, freed_items, freed_by, item_by, item_ended, item_kind, waiting}
use Rattle.vx_call.specs.Machine.{MayFollow, IsLegal}
use Rattle.vx_call.proofs.Lasting.{lasting-append, lasting_none, and_false}
use Rattle.vx_call.proofs.Each.{Each, Each-append, Each-both, Each-drop, Each-filter, Each-find, Each-map, Each-take, weaken, accepted, by_entries, not_true, passing}
use Rattle.vx_call.proofs.Arrivals.{readied_live}
use Rattle.vx_call.proofs.Consumers.{IsLive, live_found}
use Rattle.vx_call.proofs.Contexts.{same_context-swap, same_context-true}
use Rattle.vx_call.proofs.Homes.{IsHomeOf, IsHeardOf, Each-filter_map, Each-homes, Each-heard}
use Rattle.vx_call.proofs.Items.{MakesReady, Each-in_order, each_placed}
use Rattle.vx_call.proofs.Legal.{legal_front}
use Rattle.vx_call.proofs.Owners.{waiting_owned}
use Rattle.vx_call.proofs.Promises.{connecting_each}
use Rattle.vx_call.proofs.Quiet.{IsQuiet, IsQuietCall, is_loud, quiet_finish, quiet_closes}
use Rattle.vx_call.proofs.Settlings.{Asks, each_settled, each_settled_by}
use Rattle.vx_laws.proofs.Closed.{closes_now, keeps_open, made_open}
use Rattle.vx_laws.proofs.Childless.{IsChildless, childless_on}
use Rattle.vx_laws.proofs.Opened.{context_named, open_on, named_after, HasOpenOwner, HasOpenAsker, AreOpen, are_open}

-- a Stop is of a deployment that was asked to end and has no children
abbrev pub IsAtRest : List Traced → Task → Type 0
IsAtRest history (tasks.Stop context) = IsChildless (deployment_of context) history
IsAtRest history _ = Unit {0}

-- a task of a context that is open
pub record Rests (history : List Traced) (context : ContextId) (task : Task) : Type 0 where
  pub here : is_open history context ≡ true
  pub childless : IsAtRest history task

abbrev RestsReady : List Traced → Ready → Type 0
RestsReady history ready = Rests history ready.context ready.task

abbrev RestsItem : List Traced → Waiting → Type 0
RestsItem history item = Rests history item.context item.task

-- ## It goes on

rest_on : (history : List Traced) (new : Traced) (task : Task) → MayFollow history new → IsAtRest history task → IsAtRest (history ++ new ∷ []) task
rest_on history new (tasks.Stop context) may rest = childless_on (deployment_of context) history new may rest
rest_on history new _ may rest = tt

closes_alike : (history : List Traced) (closing : Option ContextId) (task : Task) (context : ContextId) → context_of history task ≡ Some context → is_of_context context closing ≡ closes_task history closing task
closes_alike history None task context owned = refl
closes_alike history (Some c) task context owned = same_context-swap context c ∙ sym (ap (is_of_context c) owned)

-- an entry that ends no item of a context doesn't close it
closes_less : (history : List Traced) (pass : PassNo) (call : Call) (reply : Reply) (task : Task) (context : ContextId) (b : Bool) → context_of history task ≡ Some context → (b && item_ended history pass call reply task) ≡ false → (b && closes history pass call context) ≡ false
closes_less history pass (calls.Take lane) reply task context b owned stays = and_false b
closes_less history pass (calls.Pause id) reply task context b owned stays = and_false b
closes_less history pass (calls.Unregister id) reply task context b owned stays = and_false b
closes_less history pass (calls.CancelTimer id) reply task context b owned stays = and_false b
closes_less history pass calls.Close reply task context b owned stays = stays
closes_less history pass call reply task context b owned stays = ap (λ c. b && c) (closes_alike history (closing_by history pass call) task context owned) ∙ stays

item_on : (history : List Traced) (new : Traced) (item : Waiting) → MayFollow history new → ended_by item_kind history new item ≡ false → context_of history item.task ≡ Some item.context → RestsItem history item → RestsItem (history ++ new ∷ []) item
item_on history new item may stays owned rests = record {
  here = keeps_open history new item.context (closes_less history new.entry.pass new.entry.call new.entry.reply item.task item.context (is_accepted new.entry.reply) owned stays) rests.here;
  childless = rest_on history new item.task may rests.childless;
}

-- ## What an entry makes ready

each_mapped : {A : Type 0} (P : Ready → Type 0) (f : A → Ready) → ((x : A) → P (f x)) → (all : List A) → Each P (map f all)
each_mapped P f holds [] = tt
each_mapped P f holds (x ∷ xs) = (holds x, each_mapped P f holds xs)

each_flat : {A : Type 0} (P : Ready → Type 0) (f : A → List Ready) (Q : A → Type 0) → ((x : A) → Q x → Each P (f x)) → (all : List A) → Each Q all → Each P (flat_map f all)
each_flat P f Q holds [] each = tt
each_flat P f Q holds (x ∷ xs) each = Each-append P (f x) (flat_map f xs) (holds x each.0) (each_flat P f Q holds xs each.1)

anything : {A : Type 0} (all : List A) → Each (λ x. Unit {0}) all
anything [] = tt
anything (x ∷ xs) = (tt, anything xs)

placed_rest : (history : List Traced) (new : Traced) (all : List Ready) → Each (RestsReady (history ++ new ∷ [])) all → Each (RestsItem (history ++ new ∷ [])) (placed history 0 all)
placed_rest history new all each =
    let after = history ++ new ∷ [] in
    each_placed (RestsItem after) history 0 all
    (weaken (RestsReady after) (λ (ready : Ready). (at : ℕ) → RestsItem after (record { entry = next_entry history; place = at; context = ready.context; task = ready.task })) all
    (λ ready rests at. record { here = rests.here; childless = rests.childless }) each)

-- ## As verticles start and stop

-- the verticles that may stop are of deployments without children
may_rest : (asked : List Asking) (pending : List ContextId) (left : List Deployment) (context : ContextId) (all : List ContextId) → list_any (same_context context) (filter (may_stop asked pending left) all) ≡ true → may_stop asked pending left context ≡ true
may_rest asked pending left context [] some = absurd cc
may_rest asked pending left context (c ∷ others) some =
    let test = may_stop asked pending left in
    elim (test c) as (λ b. test c ≡ b → list_any (same_context context) (cond b (c ∷ filter test others) (filter test others)) ≡ true → test context ≡ true) [
      | true ↦ λ passes here.
          (elim (same_context context c) as (λ b. same_context context c ≡ b → (b || list_any (same_context context) (filter test others)) ≡ true → test context ≡ true) [
            | true ↦ λ same it. ap test (same_context-true context c same) ∙ passes
            | false ↦ λ differs later. may_rest asked pending left context others later
          ] refl here)
      | false ↦ λ fails later. may_rest asked pending left context others later
    ] refl some

stops_childless : (history : List Traced) (context : ContextId) → stops_now history context ≡ true → IsChildless (deployment_of context) history
stops_childless history context stops =
    let id = deployment_of context in
    let asked = list_any (is_asking_of id) (askings history) in
    let pending = list_any (same_context context) (unstarted history) in
    let child = list_any (is_child_of id) (there history) in
    let may = may_rest (askings history) (unstarted history) (there history) context (ids_of_contexts (open_contexts history)) stops in
    let first = and_parts asked (not pending && not child) may in
    let last = and_parts (not pending) (not child) first.1 in
    record { asked = first.0; none = not_true child last.1 }

stops_rest : (history : List Traced) (new : Traced) (kind : Kind ContextId) (b : Bool) → Each (λ context. IsChildless (deployment_of context) (history ++ new ∷ [])) (coming_if kind stops_now history new b)
stops_rest history new kind false = tt
stops_rest history new kind true =
    let after = history ++ new ∷ [] in
    weaken (λ context. stops_now after context ≡ true) (λ context. IsChildless (deployment_of context) after) (filter (stops_now after) (lasting kind history)) (λ context now_stops. stops_childless after context now_stops) (passing (stops_now after) (lasting kind history))

abbrev AtRest : List Traced → Ready → Type 0
AtRest history ready = IsAtRest history ready.task

told_rest : (after : List Traced) (id : DeploymentId) (context : Option ContextId) (result : Option DoneResult) → Each (AtRest after) (deploy_told id context result)
told_rest after id (Some context) (Some result) = (tt, tt)
told_rest after id _ _ = tt

gone_rest : (after : List Traced) (id : DeploymentId) (context : Option ContextId) → Each (AtRest after) (map (λ c. record { context = c; task = tasks.UndeployEnd id }) (option_to_list context))
gone_rest after id None = tt
gone_rest after id (Some context) = (tt, tt)

life_rest : (history : List Traced) (new : Traced) → Each (RestsReady (history ++ new ∷ [])) (life_tasks history new)
life_rest history new =
    let after = history ++ new ∷ [] in
    let P : Ready → Type 0 = AtRest after in
    let ended = heard (settled_made history new.entry.pass new.entry.call new.mark.deed) in
    Each-filter P (RestsReady after) (λ (one : Ready). is_open_in (open_contexts after) one.context) (ready_outcomes ended ++ (deploy_ends history new ++ (undeploy_ends history new ++ stops history new)))
    (λ ready here rest. record { here = here; childless = rest })
    (Each-append P (ready_outcomes ended) _ (each_mapped P (λ (h : Heard). record { context = h.context; task = tasks.Outcome h.request h.outcome }) (λ h. tt) ended)
    (Each-append P (deploy_ends history new) _
    (each_flat P (deploy_end after) (λ id. Unit {0}) (λ id any. told_rest after id (told_in (lasting deploy_tell_kind after) id) (deploy_result after id)) (coming deployed_ids is_deployed history new) (anything (coming deployed_ids is_deployed history new)))
    (Each-append P (undeploy_ends history new) _
    (each_flat P (undeploy_end after) (λ id. Unit {0}) (λ id any. gone_rest after id (told_in (lasting undeploy_tell_kind after) id)) (coming deployed_ids is_gone history new) (anything (coming deployed_ids is_gone history new)))
    (Each-map P (λ context. record { context = context; task = tasks.Stop context }) (coming deployed_contexts stops_now history new)
    (stops_rest history new (awaited deployed_contexts stops_now) (moves_on history new.entry.pass new.entry.call))))))

starts_rest : (history : List Traced) (new : Traced) (worker : Bool) (pool : Option (List ℕ)) (tell : Option ContextId) (count : ℕ) → is_accepted new.entry.reply ≡ true → new.entry.call ≡ calls.Deploy worker pool tell count →
    Each (RestsReady (history ++ new ∷ [])) (starts history (calls.Deploy worker pool tell count))
starts_rest history new worker pool tell count ok is_call =
    let after = history ++ new ∷ [] in
    let P : List Context → Type 0 = Each (λ (c : Context). is_open after c.id ≡ true) in
    let made = instances history worker pool 0 count in
    let opened : P made = subst P (ap (λ b. cond b (context_made history new.entry.pass new.entry.call) []) ok ∙ ap (context_made history new.entry.pass) is_call) (made_open history new) in
    let start : ContextId → Ready = λ context. record { context = context; task = tasks.Start context } in
    Each-map (RestsReady after) start (ids_of_contexts made)
    (Each-map (λ (id : ContextId). RestsReady after (start id)) (λ (c : Context). c.id) made
    (weaken (λ (c : Context). is_open after c.id ≡ true) (λ (c : Context). RestsReady after (start c.id)) made (λ c here. record { here = here; childless = tt }) opened))

-- ## Blocking code

job_starts : (queued : Queued) (kind : ItemKind) → is_job queued kind ≡ true → starts_in kind ≡ None
job_starts queued (kinds.Job id) job = refl
job_starts queued _ job = absurd cc

job_stops : (queued : Queued) (kind : ItemKind) → is_job queued kind ≡ true → stops_in kind ≡ None
job_stops queued (kinds.Job id) job = refl
job_stops queued _ job = absurd cc

-- the end of blocking code closes nothing
job_quiet : (history : List Traced) (pass : PassNo) (end : End) (queued : Queued) (o : Option Held) → holding history pass ≡ o → is_job_held queued o ≡ true → IsQuietCall history pass (calls.Finish end)
job_quiet history pass end queued None is job = absurd cc
job_quiet history pass end queued (Some held) is job = quiet_finish history pass end held is (job_starts queued held.kind job) (job_stops queued held.kind job)

job_closes : (history : List Traced) (new : Traced) (end : End) (queued : Queued) → new.entry.call ≡ calls.Finish end → ends_job history new.entry.pass (calls.Finish end) queued ≡ true → (context : ContextId) → closes_now history new context ≡ false
job_closes history new end queued is_call ends context =
    let pass = new.entry.pass in
    let Quiet : Call → Type 0 = IsQuietCall history pass in
    let quiet : IsQuiet history new = subst Quiet (sym is_call) (job_quiet history pass end queued (holding history pass) refl ends) in
    ap (λ b. is_accepted new.entry.reply && b) (quiet_closes history new quiet context) ∙ and_false (is_accepted new.entry.reply)

jobs_rest : (history : List Traced) (new : Traced) (end : End) → new.entry.call ≡ calls.Finish end →
    Each (RestsReady (history ++ new ∷ [])) (open_ones (open_contexts history) (jobs_done end (jobs_ended history new.entry.pass (calls.Finish end))))
jobs_rest history new end is_call =
    let after = history ++ new ∷ [] in
    let ended = jobs_ended history new.entry.pass (calls.Finish end) in
    let Stays : Ready → Type 0 = λ ready. (closes_now history new ready.context ≡ false) × IsAtRest after ready.task in
    Each-filter Stays (RestsReady after) (λ (one : Ready). is_open_in (open_contexts history) one.context) (jobs_done end ended)
    (λ ready here stays. record { here = keeps_open history new ready.context stays.0 here; childless = stays.1 })
    (Each-map Stays (job_done end) ended
    (weaken (λ queued. ends_job history new.entry.pass (calls.Finish end) queued ≡ true) (λ queued. Stays (job_done end queued)) ended (λ queued ends. (job_closes history new end queued is_call ends queued.context, tt))
    (passing (ends_job history new.entry.pass (calls.Finish end)) (jobs history))))

-- ## Promises and servers

end_rests : (after : List Traced) (await : Await) (o : Option Completion) → is_open after await.context ≡ true → Each (RestsReady after) (end_for await o)
end_rests after await None here = tt
end_rests after await (Some completion) here = (record { here = here; childless = tt }, tt)

promises_rest : (history : List Traced) (new : Traced) (found : List Completion) → is_loud new.entry.call ≡ false → AreOpen history → Each (RestsReady (history ++ new ∷ [])) (flat_map (promise_end found) (waits history))
promises_rest history new found quiet are =
    let after = history ++ new ∷ [] in
    each_flat (RestsReady after) (promise_end found) (λ (await : Await). is_open history await.context ≡ true) (λ await here. end_rests after await (completion_in found await.promise) (open_on history new await.context quiet here)) (waits history) are.waits

connected_rests : (history : List Traced) (new : Traced) (id : ServerId) (o : Option Server) → is_loud new.entry.call ≡ false → AreOpen history → connecting history id ≡ o → Each (RestsReady (history ++ new ∷ [])) (connected history o)
connected_rests history new id None quiet are chosen = tt
connected_rests history new id (Some server) quiet are chosen =
    let here : is_open history server.context ≡ true = connecting_each (λ (s : Server). is_open history s.context ≡ true) history id server are.servers chosen in
    (record { here = open_on history new server.context quiet here; childless = tt }, tt)

-- ## As time goes on

abbrev RestsDue : List Traced → Due → Type 0
RestsDue history due = Rests history due.context due.task

request_rests : (history : List Traced) (new : Traced) (request : Open) (due : Due) → is_loud new.entry.call ≡ false → HasOpenAsker history request → due_request request ≡ Some due → RestsDue (history ++ new ∷ []) due
request_rests history new request due quiet here gives =
    let after = history ++ new ∷ [] in
    elim (context_asking request.asker) as (λ o. context_asking request.asker ≡ o → option_map (due_task request) o ≡ Some due → RestsDue after due) [
      | None ↦ λ none some. absurd cc
      | Some context ↦ λ asks some.
          (let e : due_task request context ≡ due = cc in
          subst (RestsDue after) e (record { here = open_on history new context quiet (here context asks); childless = tt }))
    ] refl gives

dues_rest : (history : List Traced) (new : Traced) (moment : ℕ) → is_loud new.entry.call ≡ false → AreOpen history → Each (RestsReady (history ++ new ∷ [])) (ready_due (dues history new.entry.pass moment))
dues_rest history new moment quiet are =
    let after = history ++ new ∷ [] in
    let P : Due → Type 0 = RestsDue after in
    let Here : Timer → Type 0 = λ timer. is_open history timer.context ≡ true in
    let requests = settled_by history new.entry.pass (calls.Advance moment) deeds.Nothing in
    Each-map (RestsReady after) (λ (due : Due). record { context = due.context; task = due.task }) (dues history new.entry.pass moment)
    (Each-in_order P (map (due_fire (now history)) (firing history moment) ++ filter_map due_request requests)
    (Each-append P (map (due_fire (now history)) (firing history moment)) (filter_map due_request requests)
    (Each-map P (due_fire (now history)) (firing history moment)
    (Each-filter Here (λ timer. P (due_fire (now history) timer)) _ (due_timers history moment) (λ timer passes here. record { here = open_on history new timer.context quiet here; childless = tt })
    (Each-filter Here Here _ (timers history) (λ timer passes here. here) are.timers)))
    (Each-filter_map P due_request requests
    (Each-filter (HasOpenAsker history) (λ request. (due : Due) → due_request request ≡ Some due → P due) _ (unsettled history)
    (λ request passes here due gives. request_rests history new request due quiet here gives) are.requests))))

-- ## Of the event bus

deliveries_rest : (history after : List Traced) (message : Message) (place : ℕ) (all : List Home) → Each (λ (home : Home). is_open after home.context ≡ true) all → Each (RestsItem after) (deliveries history message place all)
deliveries_rest history after message place [] here = tt
deliveries_rest history after message place (home ∷ others) here = (record { here = here.0; childless = tt }, deliveries_rest history after message (place + 1) others here.1)

delivered_rest : (history after : List Traced) (o : Option Message) (all : List Home) → Each (λ (home : Home). is_open after home.context ≡ true) all → Each (RestsItem after) (delivered history o all)
delivered_rest history after None all here = tt
delivered_rest history after (Some message) all here = deliveries_rest history after message 0 all here

outcomes_rest : (after : List Traced) (place : ℕ) (all : List Heard) → Each (λ (heard : Heard). is_open after heard.context ≡ true) all → Each (RestsItem after) (outcome_items place all)
outcomes_rest after place [] here = tt
outcomes_rest after place (heard ∷ others) here = (record { here = here.0; childless = tt }, outcomes_rest after (place + 1) others here.1)

-- the homes of live consumers are open behind a quiet entry
homes_open : (history : List Traced) (new : Traced) (all : List Consumer) → is_loud new.entry.call ≡ false → AreOpen history → Each (IsLive history) all → Each (λ (home : Home). is_open (history ++ new ∷ []) home.context ≡ true) (homes all)
homes_open history new all quiet are live_all =
    Each-homes (λ (home : Home). is_open (history ++ new ∷ []) home.context ≡ true) all
    (weaken (IsLive history) (λ consumer. (home : Home) → IsHomeOf consumer home → is_open (history ++ new ∷ []) home.context ≡ true) all
    (λ consumer is_live home is_home.
    open_on history new home.context quiet (Each-find (HasOpenOwner history) (is_named consumer.id) (consumers history) consumer are.consumers is_live home.context is_home.context)) live_all)

-- whom an ended request tells is open
abbrev TellsOpen : List Traced → Settled → Type 0
TellsOpen after settled = (context : ContextId) → context_asking settled.asker ≡ Some context → is_open after context ≡ true

asks_open : (history : List Traced) (new : Traced) (call : Call) (deed : Deed) (who : Asker) → MayFollow history new → is_accepted new.entry.reply ≡ true → new.entry.call ≡ call → Asks call deed who →
    (context : ContextId) → context_asking who ≡ Some context → is_open (history ++ new ∷ []) context ≡ true
asks_open history new (calls.Request c address body options timeout once) deed who may ok is_call asks context known =
    (let e : Some c ≡ Some context = ap context_asking (sym asks) ∙ known in named_after history new context may ok (ap context_named is_call ∙ e))
asks_open history new (calls.FrameIn conn frame) (deeds.Requests address headers body at) who may ok is_call asks context known = absurd (let no : None ≡ Some context = ap context_asking (sym asks) ∙ known in cc)
asks_open history new _ _ who may ok is_call asks context known = absurd asks

settled_open : (history : List Traced) (new : Traced) (call : Call) (deed : Deed) → MayFollow history new → is_accepted new.entry.reply ≡ true → new.entry.call ≡ call → is_loud new.entry.call ≡ false → AreOpen history →
    Each (TellsOpen (history ++ new ∷ [])) (settled_made history new.entry.pass call deed)
settled_open history new call deed may ok is_call quiet are =
    let after = history ++ new ∷ [] in
    each_settled (TellsOpen after) history new.entry.pass call deed
    (each_settled_by (HasOpenAsker history) (TellsOpen after) history new.entry.pass call deed (λ request outcome here context known. open_on history new context quiet (here context known)) are.requests)
    (λ who asks nobody. asks_open history new call deed who may ok is_call asks)

heard_open : (after : List Traced) (all : List Settled) → Each (TellsOpen after) all → Each (λ (it : Heard). is_open after it.context ≡ true) (heard all)
heard_open after all each =
    Each-heard (λ (it : Heard). is_open after it.context ≡ true) all
    (weaken (TellsOpen after) (λ settled. (it : Heard) → IsHeardOf settled it → is_open after it.context ≡ true) all (λ settled told it is_heard. told it.context is_heard.context) each)

bus_rests : (history : List Traced) (new : Traced) (call : Call) → MayFollow history new → is_accepted new.entry.reply ≡ true → new.entry.call ≡ call → is_loud call ≡ false → AreOpen history → MakesReady history new call →
    Each (RestsItem (history ++ new ∷ [])) (item_by history new call)
bus_rests history new call may ok is_call quiet_call are how =
    let after = history ++ new ∷ [] in
    let deed = new.mark.deed in
    let all = readied history call deed in
    let ended = settled_made history new.entry.pass call deed in
    let quiet : is_loud new.entry.call ≡ false = ap is_loud is_call ∙ quiet_call in
    let P : List Waiting → Type 0 = Each (RestsItem after) in
    subst P (sym how)
    (Each-append (RestsItem after) (delivered history (received history call deed) (homes all)) (outcome_items 0 (heard ended))
    (delivered_rest history after (received history call deed) (homes all) (homes_open history new all quiet are (readied_live history call deed)))
    (outcomes_rest after 0 (heard ended) (heard_open after ended (settled_open history new call deed may ok is_call quiet are))))

-- messages that were held
for_rests : (after : List Traced) (id : ConsumerId) (task : Task) → is_for id task ≡ true → IsAtRest after task
for_rests after id (tasks.Stop context) mine = absurd cc
for_rests after id _ mine = tt

ready_rests : (history after : List Traced) (context : ContextId) (place : ℕ) (all : List Task) → is_open after context ≡ true → Each (IsAtRest after) all → Each (RestsItem after) (made_ready history context place all)
ready_rests history after context place [] here rest = tt
ready_rests history after context place (task ∷ others) here rest = (record { here = here; childless = rest.0 }, ready_rests history after context (place + 1) others here rest.1)

ready_for_rests : (history after : List Traced) (o : Option ContextId) (all : List Task) → ((context : ContextId) → o ≡ Some context → is_open after context ≡ true) → Each (IsAtRest after) all → Each (RestsItem after) (ready_for history o all)
ready_for_rests history after None all here rest = tt
ready_for_rests history after (Some context) all here rest = ready_rests history after context 0 all (here context refl) rest

freed_rest : (history : List Traced) (new : Traced) (id : ConsumerId) (room : Consumer → Option ℕ) (o : Option Consumer) → is_loud new.entry.call ≡ false → AreOpen history → live history id ≡ o →
    Each (RestsItem (history ++ new ∷ [])) (freed_by (λ consumer. freed_items history (room consumer) consumer) o)
freed_rest history new id room None quiet are is_live = tt
freed_rest history new id room (Some consumer) quiet are is_live =
    let after = history ++ new ∷ [] in
    let ready = length (mailbox history consumer).ready in
    let count = freed (room consumer) (length (mailbox history consumer).held) in
    let own = filter (is_for consumer.id) (untaken history) in
    ready_for_rests history after (context_owning consumer.owner) (take count (held_tasks history consumer))
    (λ context owns. open_on history new context quiet (Each-find (HasOpenOwner history) (is_named consumer.id) (consumers history) consumer are.consumers (live_found history id consumer is_live) context owns))
    (Each-take (IsAtRest after) count (drop ready own)
    (Each-drop (IsAtRest after) ready own
    (weaken (λ task. is_for consumer.id task ≡ true) (IsAtRest after) own (λ task mine. for_rests after consumer.id task mine) (passing (is_for consumer.id) (untaken history)))))

-- ## All

items_rest : (history : List Traced) (new : Traced) (call : Call) → MayFollow history new → is_accepted new.entry.reply ≡ true → new.entry.call ≡ call → AreOpen history → Each (RestsItem (history ++ new ∷ [])) (item_by history new call)
items_rest history new (calls.Resume id) may ok is_call are = freed_rest history new id (λ consumer. None) (live history id) (ap is_loud is_call) are refl
items_rest history new (calls.Fetch id count) may ok is_call are = freed_rest history new id (λ consumer. room_more count (mailbox history consumer).room) (live history id) (ap is_loud is_call) are refl
items_rest history new (calls.Deploy worker pool tell count) may ok is_call are = placed_rest history new (starts history (calls.Deploy worker pool tell count)) (starts_rest history new worker pool tell count ok is_call)
items_rest history new (calls.Undeploy deployment tell) may ok is_call are = placed_rest history new (life_tasks history new) (life_rest history new)
items_rest history new (calls.StartDone result) may ok is_call are = placed_rest history new (life_tasks history new) (life_rest history new)
items_rest history new calls.StopDone may ok is_call are = placed_rest history new (life_tasks history new) (life_rest history new)
items_rest history new (calls.Finish end) may ok is_call are =
    let jobs_ready = open_ones (open_contexts history) (jobs_done end (jobs_ended history new.entry.pass (calls.Finish end))) in
    placed_rest history new (jobs_ready ++ life_tasks history new) (Each-append (RestsReady (history ++ new ∷ [])) jobs_ready (life_tasks history new) (jobs_rest history new end is_call) (life_rest history new))
items_rest history new (calls.RunOn context once) may ok is_call are =
    placed_rest history new (record { context = context; task = tasks.Run (next_queued history) } ∷ []) (record { here = named_after history new context may ok (ap context_named is_call); childless = tt }, tt)
items_rest history new (calls.Blocking context ordered once) may ok is_call are =
    placed_rest history new (record { context = context; task = tasks.Job (next_queued history) } ∷ []) (record { here = named_after history new context may ok (ap context_named is_call); childless = tt }, tt)
items_rest history new (calls.Complete id value) may ok is_call are = placed_rest history new (promise_ends history new) (promises_rest history new (completions (history ++ new ∷ [])) (ap is_loud is_call) are)
items_rest history new (calls.FailPromise id code) may ok is_call are = placed_rest history new (promise_ends history new) (promises_rest history new (completions (history ++ new ∷ [])) (ap is_loud is_call) are)
items_rest history new (calls.Await context promise) may ok is_call are =
    let after = history ++ new ∷ [] in
    let await : Await = record { id = next_queued history; context = context; promise = promise } in
    placed_rest history new (promise_end (completions history) await ++ [])
    (Each-append (RestsReady after) (promise_end (completions history) await) [] (end_rests after await (completion_in (completions history) promise) (named_after history new context may ok (ap context_named is_call))) tt)
items_rest history new (calls.Accepted id) may ok is_call are = placed_rest history new (connected history (connecting history id)) (connected_rests history new id (connecting history id) (ap is_loud is_call) are refl)
items_rest history new (calls.Advance moment) may ok is_call are = placed_rest history new (ready_due (dues history new.entry.pass moment)) (dues_rest history new moment (ap is_loud is_call) are)
items_rest history new calls.Close may ok is_call are = tt
items_rest history new call may ok is_call are = bus_rests history new call may ok is_call refl are refl

rests_step : (history : List Traced) (new : Traced) → MayFollow history new → AreOpen history → Each (RestsItem history) (waiting history) → Each (RestsItem (history ++ new ∷ [])) (waiting (history ++ new ∷ []))
rests_step history new may are rests =
    let after = history ++ new ∷ [] in
    let P : List Waiting → Type 0 = Each (RestsItem after) in
    let Owned : Waiting → Type 0 = λ item. context_of history item.task ≡ Some item.context in
    let Both : Waiting → Type 0 = λ item. Owned item × RestsItem history item in
    subst P (sym (lasting-append item_kind history new))
    (Each-append (RestsItem after) (filter (λ item. not (ended_by item_kind history new item)) (waiting history)) (made_by item_kind history new)
    (Each-filter Both (RestsItem after) (λ item. not (ended_by item_kind history new item)) (waiting history)
    (λ item stays both. item_on history new item may (not_true (ended_by item_kind history new item) stays) both.0 both.1)
    (Each-both Owned (RestsItem history) Both (waiting history) (λ item owned rest. (owned, rest)) (waiting_owned history) rests))
    (accepted (RestsItem after) (is_accepted new.entry.reply) (item_by history new new.entry.call) (λ ok. items_rest history new new.entry.call may ok refl are)))

-- each task that waits is of a context that is open, and each Stop of a deployment that has no children, nor gets one
pub waiting_rests : (history : List Traced) → IsLegal history → Each (λ (item : Waiting). Rests history item.context item.task) (waiting history)
waiting_rests =
    by_entries (λ history. IsLegal history → Each (RestsItem history) (waiting history))
    (λ legal. let P : List Waiting → Type 0 = Each (RestsItem []) in subst P (sym (lasting_none item_kind)) tt)
    (λ history new before legal.
    let front = legal_front history (new ∷ []) legal in
    rests_step history new (legal history new [] refl) (are_open history front) (before front))
