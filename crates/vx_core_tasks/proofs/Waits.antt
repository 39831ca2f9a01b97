-- In a history of the calls whose effects the stores keep, each task that waits is the bus's, or it tells of the lives of
-- verticles and waits for a context that is there.
use Rattle.std.proofs.Common.{◌≡◌, ℕ, ◌+◌, List, [], ◌∷◌, ◌++◌, length, take, refl, ap, sym, ◌∙◌, subst}
use Rattle.std.specs.Prelude.{Bool, true, false, ◌&&◌, cond, filter, find, flat_map, is_some, is_none, Option, None, Some}
use Rattle.std.specs.Option.{option_to_list}
use Rattle.vx_data.specs.declared.ids.ContextId.{ContextId}
use Rattle.vx_data.specs.declared.ids.DeploymentId.{DeploymentId}
use Rattle.vx_data.specs.declared.ids.PassNo.{PassNo}
use Rattle.vx_message.specs.declared.Context.{Context}
use Rattle.vx_message.specs.declared.DoneResult.{DoneResult}
use Rattle.vx_consumer.specs.Flows.{room_more, freed}
use Rattle.vx_call.specs.declared.call.Call.{Call}
use Rattle.vx_call.specs.declared.call.Call.TheVariants as calls
use Rattle.vx_call.specs.declared.call.End.{End}
use Rattle.vx_call.specs.declared.reply.Task.{Task}
use Rattle.vx_call.specs.declared.reply.Task.TheVariants as tasks
use Rattle.vx_call.specs.declared.history.Consumer.{Consumer}
use Rattle.vx_call.specs.declared.history.Deed.{Deed}
use Rattle.vx_call.specs.declared.history.Traced.{Traced}
use Rattle.vx_call.specs.History.{is_accepted, made_by, lasting}
use Rattle.vx_call.specs.Built.{is_stored, AreStored}
use Rattle.vx_call.specs.Closings.{open_contexts, is_open, is_open_in, closed_at}
use Rattle.vx_call.specs.Coming.{coming}
use Rattle.vx_call.specs.Consumers.{live}
use Rattle.vx_call.specs.Contexts.{instances, context_made, context_kind, contexts, context_at, is_context, is_context_of}
use Rattle.vx_call.specs.Deployments.{deployed_ids}
use Rattle.vx_call.specs.Ends.{deploy_result, is_deployed, stops_now}
use Rattle.vx_call.specs.Homes.{Heard, heard}
use Rattle.vx_call.specs.Items.{Waiting, task_made, untaken, outcome_items, held_tasks, freed_items, freed_by, placed, item_by, item_made, item_kind, waiting}
use Rattle.vx_call.specs.Jobs.{job_made, job_kind, jobs, ends_job, jobs_ended}
use Rattle.vx_call.specs.Lives.{Ready, starts, ready_outcomes, jobs_done, deploy_told, deploy_end, deploy_ends, undeploy_end, undeploy_ends, stops, open_ones, life_tasks}
use Rattle.vx_call.specs.Mailboxes.{mailbox}
use Rattle.vx_call.specs.Owners.{context_owning}
use Rattle.vx_call.specs.Queued.{Queued}
use Rattle.vx_call.specs.Settled.{settled_made}
use Rattle.vx_call.specs.Starts.{deployed_contexts}
use Rattle.vx_call.specs.Tells.{deploy_tell_kind, undeploy_tell_kind, told_in}
use Rattle.vx_call.specs.There.{is_gone}
use Rattle.vx_call.proofs.Advances.{advance_items}
use Rattle.vx_call.proofs.Closed.{open_is}
use Rattle.vx_call.proofs.Contexts.{contexts-append, contexts_found}
use Rattle.vx_call.proofs.Each.{Each, every, Each-append, Each-back, Each-filter, Each-map, Each-take, weaken, accepted, lasting_each}
use Rattle.vx_call.proofs.Items.{is_of_bus, each_new_item, each_placed, each_ready_for, each_held_task}
use Rattle.vx_call.proofs.Stored.{none_ever, stored_front, stored_last, under}
use Rattle.vx_call.proofs.Tasks.{IsKnown, IsFresh, new_fresh, some_front, untaken_known}
use Rattle.vx_life_rows.specs.Tasks.{is_of_lives}

-- ## A context that is there stays

pub context_stays : (history : List Traced) (new : Traced) (id : ContextId) → is_context history id ≡ true → is_context (history ++ new ∷ []) id ≡ true
context_stays history new id there =
    ap (λ all. is_some (find (is_context_of id) all)) (contexts-append history new) ∙ some_front (is_context_of id) (contexts history) (made_by context_kind history new) there

-- those that an entry makes are there behind it
made_there : (history : List Traced) (new : Traced) → Each (λ (c : Context). is_context (history ++ new ∷ []) c.id ≡ true) (made_by context_kind history new)
made_there history new =
    let after = history ++ new ∷ [] in
    let There : Context → Type 0 = λ c. is_context after c.id ≡ true in
    let P : List Context → Type 0 = Each There in
    Each-back There (contexts history) (made_by context_kind history new)
    (subst P (contexts-append history new) (weaken (λ (c : Context). context_at after c.id ≡ Some c) There (contexts after) (λ c found. ap is_some found) (contexts_found after)))

first_true : (a b : Bool) → (a && b) ≡ true → a ≡ true
first_true true b h = refl
first_true false b h = absurd cc

open_there : (history : List Traced) (id : ContextId) → is_open history id ≡ true → is_context history id ≡ true
open_there history id opened = first_true (is_context history id) (is_none (closed_at history id)) (sym (open_is history id) ∙ opened)

-- ## Tasks of the bus

abbrev IsOfBus : Task → Type 0
IsOfBus task = is_of_bus task ≡ true

pub known_of_bus : (history : List Traced) (task : Task) → IsKnown history task → is_of_bus task ≡ true
known_of_bus history (tasks.Deliver consumer message) known = refl
known_of_bus history (tasks.Outcome request outcome) known = refl
known_of_bus history _ known = absurd known

fresh_of_bus : (history : List Traced) (task : Task) → IsFresh history task → IsOfBus task
fresh_of_bus history (tasks.Deliver consumer message) fresh = refl
fresh_of_bus history (tasks.Outcome request outcome) fresh = refl
fresh_of_bus history _ fresh = absurd fresh

made_of_bus : (history : List Traced) (pass : PassNo) (call : Call) (deed : Deed) → Each IsOfBus (task_made history pass call deed)
made_of_bus history pass call deed = weaken (IsFresh history) IsOfBus (task_made history pass call deed) (fresh_of_bus history) (new_fresh history pass call deed)

freed_of_bus : (history : List Traced) (room : Consumer → Option ℕ) (o : Option Consumer) → Each (λ item. IsOfBus item.task) (freed_by (λ consumer. freed_items history (room consumer) consumer) o)
freed_of_bus history room None = tt
freed_of_bus history room (Some consumer) =
    let count = freed (room consumer) (length (mailbox history consumer).held) in
    each_ready_for IsOfBus history (context_owning consumer.owner) (take count (held_tasks history consumer))
    (Each-take IsOfBus count (held_tasks history consumer)
    (each_held_task IsOfBus history consumer (weaken (IsKnown history) IsOfBus (untaken history) (known_of_bus history) (untaken_known history))))

outcomes_of_bus : (place : ℕ) (all : List Heard) → Each (λ item. IsOfBus item.task) (outcome_items place all)
outcomes_of_bus place [] = tt
outcomes_of_bus place (heard ∷ others) = (refl, outcomes_of_bus (place + 1) others)

-- ## Tasks that tell of lives

-- one that is not the bus's tells of lives
abbrev Tells : Ready → Type 0
Tells ready = is_of_bus ready.task ≡ false → is_of_lives ready.task ≡ true

-- ... and its context is there
abbrev IsReadyThere : List Traced → Ready → Type 0
IsReadyThere history ready = is_of_bus ready.task ≡ false → (is_of_lives ready.task ≡ true) × (is_context history ready.context ≡ true)

each_flat : {A : Type 0} (P : Ready → Type 0) (f : A → List Ready) → ((x : A) → Each P (f x)) → (all : List A) → Each P (flat_map f all)
each_flat P f holds [] = tt
each_flat P f holds (x ∷ xs) = Each-append P (f x) (flat_map f xs) (holds x) (each_flat P f holds xs)

told_tells : (id : DeploymentId) (context : Option ContextId) (result : Option DoneResult) → Each Tells (deploy_told id context result)
told_tells id (Some context) (Some result) = (λ other. refl, tt)
told_tells id _ _ = tt

life_there : (history : List Traced) (new : Traced) → Each (IsReadyThere (history ++ new ∷ [])) (life_tasks history new)
life_there history new =
    let after = history ++ new ∷ [] in
    let ended = heard (settled_made history new.entry.pass new.entry.call new.mark.deed) in
    let outcome : Heard → Ready = λ h. record { context = h.context; task = tasks.Outcome h.request h.outcome } in
    let gone : DeploymentId → ContextId → Ready = λ id context. record { context = context; task = tasks.UndeployEnd id } in
    let stop : ContextId → Ready = λ context. record { context = context; task = tasks.Stop context } in
    Each-filter Tells (IsReadyThere after) (λ (one : Ready). is_open_in (open_contexts after) one.context) (ready_outcomes ended ++ (deploy_ends history new ++ (undeploy_ends history new ++ stops history new)))
    (λ ready passes tells other. (tells other, open_there after ready.context passes))
    (Each-append Tells (ready_outcomes ended) (deploy_ends history new ++ (undeploy_ends history new ++ stops history new)) (Each-map Tells outcome ended (every (λ h. Tells (outcome h)) (λ h other. absurd cc) ended))
    (Each-append Tells (deploy_ends history new) (undeploy_ends history new ++ stops history new)
    (each_flat Tells (deploy_end after) (λ id. told_tells id (told_in (lasting deploy_tell_kind after) id) (deploy_result after id)) (coming deployed_ids is_deployed history new))
    (Each-append Tells (undeploy_ends history new) (stops history new)
    (each_flat Tells (undeploy_end after)
    (λ id. Each-map Tells (gone id) (option_to_list (told_in (lasting undeploy_tell_kind after) id)) (every (λ c. Tells (gone id c)) (λ c other. refl) (option_to_list (told_in (lasting undeploy_tell_kind after) id))))
    (coming deployed_ids is_gone history new))
    (Each-map Tells stop (coming deployed_contexts stops_now history new) (every (λ c. Tells (stop c)) (λ c other. refl) (coming deployed_contexts stops_now history new))))))

starts_there : (history : List Traced) (new : Traced) (worker : Bool) (pool : Option (List ℕ)) (tell : Option ContextId) (count : ℕ) → new.entry.call ≡ calls.Deploy worker pool tell count → is_accepted new.entry.reply ≡ true →
    Each (IsReadyThere (history ++ new ∷ [])) (starts history (calls.Deploy worker pool tell count))
starts_there history new worker pool tell count is_call ok =
    let after = history ++ new ∷ [] in
    let start : ContextId → Ready = λ context. record { context = context; task = tasks.Start context } in
    let all = instances history worker pool 0 count in
    let P : List Context → Type 0 = Each (λ (c : Context). is_context after c.id ≡ true) in
    let made : made_by context_kind history new ≡ all = ap (λ b. cond b (context_made history new.entry.pass new.entry.call) []) ok ∙ ap (context_made history new.entry.pass) is_call in
    Each-map (IsReadyThere after) start (deployed_contexts history (calls.Deploy worker pool tell count))
    (Each-map (λ id. IsReadyThere after (start id)) (λ (c : Context). c.id) all
    (weaken (λ (c : Context). is_context after c.id ≡ true) (λ (c : Context). IsReadyThere after (start c.id)) all (λ c there other. (refl, there)) (subst P made (made_there history new))))

-- ## Blocking code, of which there is none

none_handed : (history : List Traced) (call : Call) → is_stored call ≡ true → job_made history call ≡ []
none_handed history (calls.Blocking context ordered once) stored = absurd cc
none_handed history _ stored = refl

no_jobs : (history : List Traced) → AreStored history → jobs history ≡ []
no_jobs = none_ever job_kind (λ history new rest stored. none_handed history new.entry.call stored)

no_jobs_done : (history : List Traced) (pass : PassNo) (end : End) → AreStored history → open_ones (open_contexts history) (jobs_done end (jobs_ended history pass (calls.Finish end))) ≡ []
no_jobs_done history pass end stored = ap (λ (all : List Queued). open_ones (open_contexts history) (jobs_done end (filter (ends_job history pass (calls.Finish end)) all))) (no_jobs history stored)

-- ## What an entry makes ready

-- a task that waits and is not the bus's tells of lives, and its context is there
abbrev pub WaitsThere : List Traced → Waiting → Type 0
WaitsThere history item = is_of_bus item.task ≡ false → (is_of_lives item.task ≡ true) × (is_context history item.context ≡ true)

all_of_bus : (after : List Traced) (items : List Waiting) → Each (λ item. IsOfBus item.task) items → Each (WaitsThere after) items
all_of_bus after items each = weaken (λ (item : Waiting). IsOfBus item.task) (WaitsThere after) items (λ item bus other. absurd (let e : true ≡ false = sym bus ∙ other in cc)) each

all_placed : (history : List Traced) (new : Traced) (all : List Ready) → Each (IsReadyThere (history ++ new ∷ [])) all → Each (WaitsThere (history ++ new ∷ [])) (placed history 0 all)
all_placed history new all each =
    let after = history ++ new ∷ [] in
    each_placed (WaitsThere after) history 0 all (weaken (IsReadyThere after) (λ (ready : Ready). (at : ℕ) → IsReadyThere after ready) all (λ ready there at. there) each)

finished_there : (history : List Traced) (new : Traced) (end : End) → AreStored history → Each (WaitsThere (history ++ new ∷ [])) (item_by history new (calls.Finish end))
finished_there history new end stored =
    let P : List Ready → Type 0 = λ done. Each (WaitsThere (history ++ new ∷ [])) (placed history 0 (done ++ life_tasks history new)) in
    subst P (sym (no_jobs_done history new.entry.pass end stored)) (all_placed history new (life_tasks history new) (life_there history new))

new_there : (history : List Traced) (new : Traced) (call : Call) → new.entry.call ≡ call → is_accepted new.entry.reply ≡ true → AreStored history → is_stored call ≡ true → Each (WaitsThere (history ++ new ∷ [])) (item_by history new call)
new_there history new (calls.Resume id) is_call ok rest stored = all_of_bus (history ++ new ∷ []) (item_by history new (calls.Resume id)) (freed_of_bus history (λ consumer. None) (live history id))
new_there history new (calls.Fetch id count) is_call ok rest stored =
    all_of_bus (history ++ new ∷ []) (item_by history new (calls.Fetch id count)) (freed_of_bus history (λ consumer. room_more count (mailbox history consumer).room) (live history id))
new_there history new (calls.Deploy worker pool tell count) is_call ok rest stored = all_placed history new (starts history (calls.Deploy worker pool tell count)) (starts_there history new worker pool tell count is_call ok)
new_there history new (calls.Undeploy deployment tell) is_call ok rest stored = all_placed history new (life_tasks history new) (life_there history new)
new_there history new (calls.StartDone result) is_call ok rest stored = all_placed history new (life_tasks history new) (life_there history new)
new_there history new calls.StopDone is_call ok rest stored = all_placed history new (life_tasks history new) (life_there history new)
new_there history new (calls.Finish end) is_call ok rest stored = finished_there history new end rest
new_there history new (calls.RunOn context once) is_call ok rest stored = absurd cc
new_there history new (calls.Blocking context ordered once) is_call ok rest stored = absurd cc
new_there history new (calls.Complete id value) is_call ok rest stored = absurd cc
new_there history new (calls.FailPromise id code) is_call ok rest stored = absurd cc
new_there history new (calls.Await context promise) is_call ok rest stored = absurd cc
new_there history new (calls.Accepted id) is_call ok rest stored = absurd cc
new_there history new (calls.Advance moment) is_call ok rest stored =
    let P : List Waiting → Type 0 = Each (WaitsThere (history ++ new ∷ [])) in
    let ended = heard (settled_made history new.entry.pass (calls.Advance moment) new.mark.deed) in
    subst P (sym (advance_items history new moment rest)) (all_of_bus (history ++ new ∷ []) (outcome_items 0 ended) (outcomes_of_bus 0 ended))
new_there history new call is_call ok rest stored = all_of_bus (history ++ new ∷ []) (item_by history new call) (each_new_item IsOfBus history new call refl (made_of_bus history new.entry.pass call new.mark.deed))

-- ## All that wait

abbrev WaitsThereIn : List Traced → Waiting → Type 0
WaitsThereIn history item = AreStored history → WaitsThere history item

stays_there : (history : List Traced) (new : Traced) (item : Waiting) → WaitsThere history item → WaitsThere (history ++ new ∷ []) item
stays_there history new item waits other = ((waits other).0, context_stays history new item.context (waits other).1)

pub all_wait_there : (history : List Traced) → AreStored history → Each (WaitsThere history) (waiting history)
all_wait_there history stored =
    weaken (WaitsThereIn history) (WaitsThere history) (waiting history) (λ item so. so stored)
    (lasting_each item_kind WaitsThereIn (λ before new item stays so all. stays_there before new item (so (stored_front before (new ∷ []) all)))
    (λ before new. accepted (WaitsThereIn (before ++ new ∷ [])) (is_accepted new.entry.reply) (item_made before new)
    (λ ok. under (AreStored (before ++ new ∷ [])) (WaitsThere (before ++ new ∷ [])) (item_made before new)
    (λ all. new_there before new new.entry.call refl ok (stored_front before (new ∷ []) all) (stored_last before new all).call))) history)
