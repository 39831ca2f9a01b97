-- The tasks that one entry makes ready, of verticles, timers and code that is handed over, are different ones.
use Rattle.std.proofs.Common.{◌≡◌, ℕ, List, [], ◌∷◌, ◌++◌, length, refl, sym, ◌∙◌, subst}
use Rattle.std.specs.Prelude.{Bool, true, false, cond, map, flat_map, Option, None, Some}
use Rattle.std.specs.Option.{option_map, option_to_list}
use Rattle.std.proofs.lemmas.Bool.{eqb-true}
use Rattle.vx_data.specs.declared.ids.PassNo.{PassNo}
use Rattle.vx_data.specs.declared.ids.ContextId.{ContextId}
use Rattle.vx_data.specs.declared.ids.DeploymentId.{DeploymentId}
use Rattle.vx_data.specs.Ids.{same_context, same_deployment, same_queued, same_timer}
use Rattle.vx_message.specs.declared.Context.{Context}
use Rattle.vx_message.specs.declared.DoneResult.{DoneResult}
use Rattle.vx_message.specs.declared.ItemKind.{ItemKind}
use Rattle.vx_message.specs.declared.ItemKind.TheVariants as kinds
use Rattle.vx_call.specs.declared.call.End.{End}
use Rattle.vx_call.specs.declared.call.Call.{Call}
use Rattle.vx_call.specs.declared.call.Call.TheVariants as calls
use Rattle.vx_call.specs.declared.reply.Task.TheVariants as tasks
use Rattle.vx_call.specs.declared.history.Traced.{Traced}
use Rattle.vx_call.specs.History.{Kind, is_accepted, lasting}
use Rattle.vx_call.specs.Kinds.{kind_of, same_kind, same_task}
use Rattle.vx_call.specs.Time.{now}
use Rattle.vx_call.specs.Timers.{Timer, timer_made}
use Rattle.vx_call.specs.Tells.{deploy_tell_kind, undeploy_tell_kind, told_in}
use Rattle.vx_call.specs.Queued.{Queued}
use Rattle.vx_call.specs.Jobs.{job_made, job_kind, jobs, ends_job, jobs_ended}
use Rattle.vx_call.specs.Contexts.{instances}
use Rattle.vx_call.specs.Deployments.{deployed_ids}
use Rattle.vx_call.specs.Starts.{deployed_contexts}
use Rattle.vx_call.specs.Closings.{open_contexts}
use Rattle.vx_call.specs.There.{is_gone}
use Rattle.vx_call.specs.Ends.{deploy_result, is_deployed, stops_now}
use Rattle.vx_call.specs.Coming.{moves_on, awaited, coming_if, coming}
use Rattle.vx_call.specs.Fires.{timer_kind, timers, due_timers, firing}
use Rattle.vx_call.specs.Due.{Due, due_fire, due_task, due_request, is_before, put_due, in_order, dues}
use Rattle.vx_call.specs.Requests.{Open, settles, settled_by, unsettled}
use Rattle.vx_call.specs.Settled.{settled_made}
use Rattle.vx_call.specs.Askers.{context_asking}
use Rattle.vx_call.specs.Homes.{Heard, heard}
use Rattle.vx_call.specs.declared.history.Deed.TheVariants as deeds
use Rattle.std.specs.List.{filter_map}
use Rattle.vx_call.specs.Lives.{Ready, starts, ready_due, ready_outcomes, job_done, jobs_done, deploy_told, deploy_end, deploy_ends, undeploy_end, undeploy_ends, stops, open_ones, life_tasks}
use Rattle.vx_message.specs.declared.JobResult.{JobResult}
use Rattle.vx_call.specs.Awaits.{Await}
use Rattle.vx_call.specs.Completions.{Completion, completion_in}
use Rattle.vx_call.specs.Promised.{end_for, promise_end}
use Rattle.vx_call.specs.Listened.{Server}
use Rattle.vx_call.specs.Accepting.{connected}
use Rattle.vx_call.proofs.Promises.{same_await}
use Rattle.vx_call.proofs.Each.{Each, Each-append, Each-map, Each-filter, weaken}
use Rattle.vx_call.proofs.Apart.{Apart, IsMadeApart, made_if, Apart-map, Apart-filter, Apart-cross, lasting_apart}
use Rattle.vx_call.proofs.Contexts.{same_by_id, same_entry, instances_keyed, instances_apart}
use Rattle.vx_call.proofs.Opened.{same_open, unsettled_apart}
use Rattle.vx_call.proofs.Homes.{Each-filter_map, Apart-filter_map}
use Rattle.vx_call.proofs.Settlings.{settled_made_apart}
use Rattle.vx_call.proofs.Tasks.{same_task-swap, same_heard, heard_apart}
use Rattle.vx_call.proofs.Items.{Each-in_order}

abbrev pub same_ready : Ready → Ready → Bool
same_ready a b = same_task a.task b.task

abbrev pub IsOtherReady : Ready → Ready → Type 0
IsOtherReady a b = same_ready a b ≡ false

-- ## Of different kinds

abbrev pub rank : ItemKind → ℕ
rank (kinds.Start context) = 0
rank (kinds.Deliver consumer message) = 1
rank (kinds.Outcome request) = 2
rank (kinds.Fire timer) = 3
rank (kinds.Run queued) = 4
rank (kinds.Job queued) = 5
rank (kinds.JobDone queued) = 6
rank (kinds.DeployEnd deployment) = 7
rank (kinds.UndeployEnd deployment) = 8
rank (kinds.Stop context) = 9
rank (kinds.Connected at) = 10
rank (kinds.PromiseEnd awaited) = 11

same_rank : (a b : ItemKind) → same_kind a b ≡ true → rank a ≡ rank b
same_rank (kinds.Start context) (kinds.Start other) same = refl
same_rank (kinds.Deliver consumer message) (kinds.Deliver other another) same = refl
same_rank (kinds.Outcome request) (kinds.Outcome other) same = refl
same_rank (kinds.Fire timer) (kinds.Fire other) same = refl
same_rank (kinds.Run queued) (kinds.Run other) same = refl
same_rank (kinds.Job queued) (kinds.Job other) same = refl
same_rank (kinds.JobDone queued) (kinds.JobDone other) same = refl
same_rank (kinds.DeployEnd deployment) (kinds.DeployEnd other) same = refl
same_rank (kinds.UndeployEnd deployment) (kinds.UndeployEnd other) same = refl
same_rank (kinds.Stop context) (kinds.Stop other) same = refl
same_rank (kinds.Connected at) (kinds.Connected other) same = refl
same_rank (kinds.PromiseEnd awaited) (kinds.PromiseEnd other) same = refl
same_rank _ _ same = absurd cc

abbrev pub rank_of : Ready → ℕ
rank_of ready = rank (kind_of ready.task)

other_rank : (a b : Ready) → (rank_of a ≡ rank_of b → ⊥) → same_ready a b ≡ false
other_rank a b differs =
    elim (same_ready a b) as (λ c. same_ready a b ≡ c → c ≡ false) [ true ↦ λ same. absurd (differs (same_rank (kind_of a.task) (kind_of b.task) same)) | false ↦ λ other. refl ] refl

-- all of one kind, and all of another
pub ranks_cross : (m n : ℕ) → (m ≡ n → ⊥) → (xs ys : List Ready) → Each (λ x. rank_of x ≡ m) xs → Each (λ y. rank_of y ≡ n) ys → Each (λ x. Each (IsOtherReady x) ys) xs
ranks_cross m n differs xs ys left right =
    weaken (λ x. rank_of x ≡ m) (λ x. Each (IsOtherReady x) ys) xs
    (λ x is_m. weaken (λ y. rank_of y ≡ n) (IsOtherReady x) ys (λ y is_n. other_rank x y (λ same. differs (sym is_m ∙ same ∙ is_n))) right) left

each_ranked : {A : Type 0} (n : ℕ) (f : A → Ready) → ((x : A) → rank_of (f x) ≡ n) → (all : List A) → Each (λ r. rank_of r ≡ n) (map f all)
each_ranked n f ranked [] = tt
each_ranked n f ranked (x ∷ xs) = (ranked x, each_ranked n f ranked xs)

-- ## Names

same_deployment-number : (a b : DeploymentId) → same_deployment a b ≡ true → a.0.0 ≡ b.0.0
same_deployment-number a b same = eqb-true a.0.0 b.0.0 same

-- ## Contexts and deployments that a Deploy makes

abbrev pub context_number : ContextId → ℕ
context_number context = context.entry.0

ids_keyed : (n : ℕ) (all : List Context) → Each (λ (c : Context). c.id.entry.0 ≡ n) all → Each (λ (id : ContextId). id.entry.0 ≡ n) (map (λ (c : Context). c.id) all)
ids_keyed n all keyed = Each-map (λ (id : ContextId). id.entry.0 ≡ n) (λ (c : Context). c.id) all keyed

pub deployed_apart : (history : List Traced) (call : Call) → IsMadeApart same_context context_number (length history) (deployed_contexts history call)
deployed_apart history (calls.Deploy worker pool tell count) = record {
  keyed = ids_keyed (length history) (instances history worker pool 0 count) (instances_keyed history worker pool 0 count);
  apart = Apart-map same_by_id same_context (λ (c : Context). c.id) (λ a b differs. differs) (instances history worker pool 0 count) (instances_apart history worker pool 0 count);
}
deployed_apart history _ = record { keyed = tt; apart = tt }

abbrev pub deployment_number : DeploymentId → ℕ
deployment_number id = id.0.0

pub deployed_ids_apart : (history : List Traced) (call : Call) → IsMadeApart same_deployment deployment_number (length history) (deployed_ids history call)
deployed_ids_apart history (calls.Deploy worker pool tell count) = record { keyed = (refl, tt); apart = (tt, tt) }
deployed_ids_apart history _ = record { keyed = tt; apart = tt }

awaited_contexts_apart : (came : List Traced → ContextId → Bool) (history : List Traced) → Apart same_context (lasting (awaited deployed_contexts came) history)
awaited_contexts_apart came =
    lasting_apart (awaited deployed_contexts came) same_context context_number (λ a b same. same_entry a b same)
    (λ history new. made_if same_context context_number (length history) (is_accepted new.entry.reply) _ (deployed_apart history new.entry.call))

awaited_ids_apart : (came : List Traced → DeploymentId → Bool) (history : List Traced) → Apart same_deployment (lasting (awaited deployed_ids came) history)
awaited_ids_apart came =
    lasting_apart (awaited deployed_ids came) same_deployment deployment_number (λ a b same. same_deployment-number a b same)
    (λ history new. made_if same_deployment deployment_number (length history) (is_accepted new.entry.reply) _ (deployed_ids_apart history new.entry.call))

coming_apart : {A : Type 0} (test : A → A → Bool) (kind : Kind A) (came : List Traced → A → Bool) (history : List Traced) (new : Traced) (b : Bool) → Apart test (lasting kind history) → Apart test (coming_if kind came history new b)
coming_apart test kind came history new true apart = Apart-filter test _ (lasting kind history) apart
coming_apart test kind came history new false apart = tt

-- ## As deployments end

told_other : (deployment other : DeploymentId) (result given : DoneResult) (context : Option ContextId) (o : Option DoneResult) → same_deployment deployment other ≡ false →
    Each (λ (r : Ready). same_task (tasks.DeployEnd deployment given) r.task ≡ false) (deploy_told other context o)
told_other deployment other result given (Some context) (Some ended) differs = (differs, tt)
told_other deployment other result given _ _ differs = tt

deploy_others : (after : List Traced) (deployment : DeploymentId) (given : DoneResult) (all : List DeploymentId) → Each (λ other. same_deployment deployment other ≡ false) all →
    Each (λ (r : Ready). same_task (tasks.DeployEnd deployment given) r.task ≡ false) (flat_map (deploy_end after) all)
deploy_others after deployment given [] differs = tt
deploy_others after deployment given (other ∷ others) differs =
    Each-append (λ (r : Ready). same_task (tasks.DeployEnd deployment given) r.task ≡ false) (deploy_end after other) (flat_map (deploy_end after) others)
    (told_other deployment other given given (told_in (lasting deploy_tell_kind after) other) (deploy_result after other) differs.0) (deploy_others after deployment given others differs.1)

told_first : (deployment : DeploymentId) (context : Option ContextId) (o : Option DoneResult) (rest : List Ready) → ((given : DoneResult) → Each (λ (r : Ready). same_task (tasks.DeployEnd deployment given) r.task ≡ false) rest) →
    Apart same_ready rest → Apart same_ready (deploy_told deployment context o ++ rest)
told_first deployment (Some context) (Some result) rest others apart = (others result, apart)
told_first deployment _ _ rest others apart = apart

deploy_ends_apart : (after : List Traced) (all : List DeploymentId) → Apart same_deployment all → Apart same_ready (flat_map (deploy_end after) all)
deploy_ends_apart after [] apart = tt
deploy_ends_apart after (deployment ∷ others) apart =
    told_first deployment (told_in (lasting deploy_tell_kind after) deployment) (deploy_result after deployment) (flat_map (deploy_end after) others)
    (λ given. deploy_others after deployment given others apart.0) (deploy_ends_apart after others apart.1)

abbrev undeployed : DeploymentId → Option ContextId → List Ready
undeployed deployment context = map (λ c. record { context = c; task = tasks.UndeployEnd deployment }) (option_to_list context)

undeployed_other : (deployment other : DeploymentId) (context : Option ContextId) → same_deployment deployment other ≡ false → Each (λ (r : Ready). same_task (tasks.UndeployEnd deployment) r.task ≡ false) (undeployed other context)
undeployed_other deployment other None differs = tt
undeployed_other deployment other (Some context) differs = (differs, tt)

undeploy_others : (after : List Traced) (deployment : DeploymentId) (all : List DeploymentId) → Each (λ other. same_deployment deployment other ≡ false) all →
    Each (λ (r : Ready). same_task (tasks.UndeployEnd deployment) r.task ≡ false) (flat_map (undeploy_end after) all)
undeploy_others after deployment [] differs = tt
undeploy_others after deployment (other ∷ others) differs =
    Each-append (λ (r : Ready). same_task (tasks.UndeployEnd deployment) r.task ≡ false) (undeploy_end after other) (flat_map (undeploy_end after) others)
    (undeployed_other deployment other (told_in (lasting undeploy_tell_kind after) other) differs.0) (undeploy_others after deployment others differs.1)

undeployed_first : (deployment : DeploymentId) (context : Option ContextId) (rest : List Ready) → Each (λ (r : Ready). same_task (tasks.UndeployEnd deployment) r.task ≡ false) rest →
    Apart same_ready rest → Apart same_ready (undeployed deployment context ++ rest)
undeployed_first deployment None rest others apart = apart
undeployed_first deployment (Some context) rest others apart = (others, apart)

undeploy_ends_apart : (after : List Traced) (all : List DeploymentId) → Apart same_deployment all → Apart same_ready (flat_map (undeploy_end after) all)
undeploy_ends_apart after [] apart = tt
undeploy_ends_apart after (deployment ∷ others) apart =
    undeployed_first deployment (told_in (lasting undeploy_tell_kind after) deployment) (flat_map (undeploy_end after) others) (undeploy_others after deployment others apart.0) (undeploy_ends_apart after others apart.1)

ranked_told : (deployment : DeploymentId) (context : Option ContextId) (o : Option DoneResult) → Each (λ r. rank_of r ≡ 7) (deploy_told deployment context o)
ranked_told deployment (Some context) (Some result) = (refl, tt)
ranked_told deployment _ _ = tt

ranked_flat : {A : Type 0} (n : ℕ) (f : A → List Ready) → ((x : A) → Each (λ r. rank_of r ≡ n) (f x)) → (all : List A) → Each (λ r. rank_of r ≡ n) (flat_map f all)
ranked_flat n f ranked [] = tt
ranked_flat n f ranked (x ∷ xs) = Each-append (λ r. rank_of r ≡ n) (f x) (flat_map f xs) (ranked x) (ranked_flat n f ranked xs)

abbrev outcome_ready : Heard → Ready
outcome_ready heard = record { context = heard.context; task = tasks.Outcome heard.request heard.outcome }

-- two lists, of two kinds each
abbrev IsRanked : ℕ → List Ready → Type 0
IsRanked n xs = Each (λ r. rank_of r ≡ n) xs

both_apart : (m : ℕ) (xs ys : List Ready) → IsRanked m xs → Apart same_ready xs → Apart same_ready ys → Each (λ x. Each (IsOtherReady x) ys) xs → Apart same_ready (xs ++ ys)
both_apart m xs ys ranked left right cross = Apart-cross same_ready xs ys left right cross

cross-append : (xs ys zs : List Ready) → Each (λ x. Each (IsOtherReady x) ys) xs → Each (λ x. Each (IsOtherReady x) zs) xs → Each (λ x. Each (IsOtherReady x) (ys ++ zs)) xs
cross-append [] ys zs left right = tt
cross-append (x ∷ xs) ys zs left right = (Each-append (IsOtherReady x) ys zs left.0 right.0, cross-append xs ys zs left.1 right.1)

four_apart : (a b c d : List Ready) → IsRanked 2 a → IsRanked 7 b → IsRanked 8 c → IsRanked 9 d → Apart same_ready a → Apart same_ready b → Apart same_ready c → Apart same_ready d →
    Apart same_ready (a ++ (b ++ (c ++ d)))
four_apart a b c d ra rb rc rd pa pb pc pd =
    Apart-cross same_ready a (b ++ (c ++ d)) pa
    (Apart-cross same_ready b (c ++ d) pb
    (Apart-cross same_ready c d pc pd (ranks_cross 8 9 (λ e. cc) c d rc rd))
    (cross-append b c d (ranks_cross 7 8 (λ e. cc) b c rb rc) (ranks_cross 7 9 (λ e. cc) b d rb rd)))
    (cross-append a b (c ++ d) (ranks_cross 2 7 (λ e. cc) a b ra rb) (cross-append a c d (ranks_cross 2 8 (λ e. cc) a c ra rc) (ranks_cross 2 9 (λ e. cc) a d ra rd)))

outcomes_apart : (all : List Heard) → Apart same_heard all → Apart same_ready (ready_outcomes all)
outcomes_apart all apart = Apart-map same_heard same_ready outcome_ready (λ s t differs. differs) all apart

pub life_apart : (history : List Traced) (new : Traced) → Apart same_ready (life_tasks history new)
life_apart history new =
    let after = history ++ new ∷ [] in
    let b = moves_on history new.entry.pass new.entry.call in
    Apart-filter same_ready _ _
    (four_apart (ready_outcomes (heard (settled_made history new.entry.pass new.entry.call new.mark.deed))) (deploy_ends history new) (undeploy_ends history new) (stops history new)
    (each_ranked 2 outcome_ready (λ s. refl) (heard (settled_made history new.entry.pass new.entry.call new.mark.deed)))
    (ranked_flat 7 (deploy_end after) (λ d. ranked_told d (told_in (lasting deploy_tell_kind after) d) (deploy_result after d)) (coming deployed_ids is_deployed history new))
    (ranked_flat 8 (undeploy_end after) (λ d. each_ranked 8 (λ c. record { context = c; task = tasks.UndeployEnd d }) (λ c. refl) (option_to_list (told_in (lasting undeploy_tell_kind after) d))) (coming deployed_ids is_gone history new))
    (each_ranked 9 (λ context. record { context = context; task = tasks.Stop context }) (λ c. refl) (coming deployed_contexts stops_now history new))
    (outcomes_apart (heard (settled_made history new.entry.pass new.entry.call new.mark.deed))
    (heard_apart (settled_made history new.entry.pass new.entry.call new.mark.deed) (settled_made_apart history new.entry.pass new.entry.call new.mark.deed)))
    (deploy_ends_apart after (coming deployed_ids is_deployed history new) (coming_apart same_deployment (awaited deployed_ids is_deployed) is_deployed history new b (awaited_ids_apart is_deployed history)))
    (undeploy_ends_apart after (coming deployed_ids is_gone history new) (coming_apart same_deployment (awaited deployed_ids is_gone) is_gone history new b (awaited_ids_apart is_gone history)))
    (Apart-map same_context same_ready (λ context. record { context = context; task = tasks.Stop context }) (λ x y differs. differs) (coming deployed_contexts stops_now history new)
    (coming_apart same_context (awaited deployed_contexts stops_now) stops_now history new b (awaited_contexts_apart stops_now history))))

-- ## Starts

pub starts_apart : (history : List Traced) (call : Call) → Apart same_ready (starts history call)
starts_apart history call =
    Apart-map same_context same_ready (λ context. record { context = context; task = tasks.Start context }) (λ x y differs. differs) (deployed_contexts history call) (deployed_apart history call).apart

-- ## Blocking code

abbrev same_job : Queued → Queued → Bool
same_job a b = same_queued a.id b.id

abbrev pub job_key : Queued → ℕ
job_key queued = queued.id.0.0

pub jobs_made : (history : List Traced) (call : Call) → IsMadeApart same_job job_key (length history) (job_made history call)
jobs_made history (calls.Blocking context ordered once) = record { keyed = (refl, tt); apart = (tt, tt) }
jobs_made history _ = record { keyed = tt; apart = tt }

jobs_apart : (history : List Traced) → Apart same_job (jobs history)
jobs_apart = lasting_apart job_kind same_job job_key (λ a b same. eqb-true a.id.0.0 b.id.0.0 same)
    (λ history new. made_if same_job job_key (length history) (is_accepted new.entry.reply) _ (jobs_made history new.entry.call))

-- none of what comes as verticles start and stop is a result of blocking code
no_job_done : (history : List Traced) (new : Traced) → Each (λ r. rank_of r ≡ 6 → ⊥) (life_tasks history new)
no_job_done history new =
    let after = history ++ new ∷ [] in
    let No : Ready → Type 0 = λ r. rank_of r ≡ 6 → ⊥ in
    Each-filter No No _ _ (λ r passes h. h)
    (Each-append No _ _ (weaken (λ r. rank_of r ≡ 2) No _ (λ r is e. let x = sym is ∙ e in cc) (each_ranked 2 outcome_ready (λ s. refl) (heard (settled_made history new.entry.pass new.entry.call new.mark.deed))))
    (Each-append No _ _
    (weaken (λ r. rank_of r ≡ 7) No _ (λ r is e. let x = sym is ∙ e in cc)
    (ranked_flat 7 (deploy_end after) (λ d. ranked_told d (told_in (lasting deploy_tell_kind after) d) (deploy_result after d)) (coming deployed_ids is_deployed history new)))
    (Each-append No _ _
    (weaken (λ r. rank_of r ≡ 8) No _ (λ r is e. let x = sym is ∙ e in cc)
    (ranked_flat 8 (undeploy_end after) (λ d. each_ranked 8 (λ c. record { context = c; task = tasks.UndeployEnd d }) (λ c. refl) (option_to_list (told_in (lasting undeploy_tell_kind after) d))) (coming deployed_ids is_gone history new)))
    (weaken (λ r. rank_of r ≡ 9) No _ (λ r is e. let x = sym is ∙ e in cc)
    (each_ranked 9 (λ context. record { context = context; task = tasks.Stop context }) (λ c. refl) (coming deployed_contexts stops_now history new))))))

pub finish_apart : (history : List Traced) (new : Traced) (end : End) (pass : PassNo) (call : Call) → Apart same_ready (open_ones (open_contexts history) (jobs_done end (jobs_ended history pass call)) ++ life_tasks history new)
finish_apart history new end pass call =
    let done = jobs_done end (jobs_ended history pass call) in
    let open_done = open_ones (open_contexts history) done in
    let ranked : IsRanked 6 open_done = Each-filter (λ r. rank_of r ≡ 6) (λ r. rank_of r ≡ 6) _ done (λ r passes h. h) (each_ranked 6 (job_done end) (λ q. refl) (jobs_ended history pass call)) in
    Apart-cross same_ready open_done (life_tasks history new)
    (Apart-filter same_ready _ done (Apart-map same_job same_ready (job_done end) (λ a b differs. differs) (jobs_ended history pass call) (Apart-filter same_job (ends_job history pass call) (jobs history) (jobs_apart history))))
    (life_apart history new)
    (weaken (λ r. rank_of r ≡ 6) (λ r. Each (IsOtherReady r) (life_tasks history new)) open_done
    (λ r is_6. weaken (λ other. rank_of other ≡ 6 → ⊥) (IsOtherReady r) (life_tasks history new) (λ other not_6. other_rank r other (λ same. not_6 (sym same ∙ is_6))) (no_job_done history new)) ranked)

-- ## With an Advance

abbrev same_due : Due → Due → Bool
same_due a b = same_task a.task b.task

abbrev IsOtherDue : Due → Due → Type 0
IsOtherDue a b = same_due a b ≡ false

Each-put : (P : Due → Type 0) (due : Due) (others : List Due) → P due → Each P others → Each P (put_due due others)
Each-put P due [] here each = (here, tt)
Each-put P due (other ∷ others) here each =
    elim (is_before due other) as (λ b. Each P (cond b (due ∷ other ∷ others) (other ∷ put_due due others))) [ true ↦ (here, each) | false ↦ (each.0, Each-put P due others here each.1) ]

put_apart : (due : Due) (others : List Due) → Each (IsOtherDue due) others → Apart same_due others → Apart same_due (put_due due others)
put_apart due [] first apart = (tt, tt)
put_apart due (other ∷ others) first apart =
    elim (is_before due other) as (λ b. Apart same_due (cond b (due ∷ other ∷ others) (other ∷ put_due due others))) [
      | true ↦ (first, apart)
      | false ↦ (Each-put (IsOtherDue other) due others (same_task-swap other.task due.task ∙ first.0) apart.0, put_apart due others first.1 apart.1)
    ]

in_order_apart : (all : List Due) → Apart same_due all → Apart same_due (in_order all)
in_order_apart [] apart = tt
in_order_apart (due ∷ others) apart = put_apart due (in_order others) (Each-in_order (IsOtherDue due) others apart.0) (in_order_apart others apart.1)

abbrev same_time : Timer → Timer → Bool
same_time a b = same_timer a.id b.id

timer_new : (history : List Traced) (call : Call) → IsMadeApart same_time (λ t. t.id.0.0) (length history) (timer_made history call)
timer_new history (calls.SetTimer context delay periodic) = record { keyed = (refl, tt); apart = (tt, tt) }
timer_new history _ = record { keyed = tt; apart = tt }

pub timers_apart : (history : List Traced) → Apart same_time (timers history)
timers_apart = lasting_apart timer_kind same_time (λ t. t.id.0.0) (λ a b same. eqb-true a.id.0.0 b.id.0.0 same)
    (λ history new. made_if same_time (λ t. t.id.0.0) (length history) (is_accepted new.entry.reply) _ (timer_new history new.entry.call))

-- what holds of the task of each request of a context
due_each : (P : Due → Type 0) (request : Open) → ((context : ContextId) → P (due_task request context)) → (due : Due) → due_request request ≡ Some due → P due
due_each P request holds due gives =
    elim (context_asking request.asker) as (λ o. option_map (due_task request) o ≡ Some due → P due) [
      | None ↦ λ some. absurd cc
      | Some context ↦ λ some. (let e : due_task request context ≡ due = cc in subst P e (holds context))
    ] gives

fires_each : (moment : ℕ) (timer : Timer) (requests : List Open) → Each (λ request. (due : Due) → due_request request ≡ Some due → IsOtherDue (due_fire moment timer) due) requests
fires_each moment timer [] = tt
fires_each moment timer (request ∷ others) = (due_each (IsOtherDue (due_fire moment timer)) request (λ context. refl), fires_each moment timer others)

fires_others : (moment : ℕ) (timer : Timer) (requests : List Open) → Each (IsOtherDue (due_fire moment timer)) (filter_map due_request requests)
fires_others moment timer requests = Each-filter_map (IsOtherDue (due_fire moment timer)) due_request requests (fires_each moment timer requests)

fires_cross : (moment : ℕ) (all : List Timer) (requests : List Open) → Each (λ due. Each (IsOtherDue due) (filter_map due_request requests)) (map (due_fire moment) all)
fires_cross moment [] requests = tt
fires_cross moment (timer ∷ others) requests = (fires_others moment timer requests, fires_cross moment others requests)

requests_apart : (x y : Open) (a b : Due) → due_request x ≡ Some a → due_request y ≡ Some b → same_open x y ≡ false → same_due a b ≡ false
requests_apart x y a b first second differs =
    due_each (λ due. same_due due b ≡ false) x (λ one. due_each (λ due. same_due (due_task x one) due ≡ false) y (λ two. differs) b second) a first

pub dues_apart : (history : List Traced) (pass : PassNo) (moment : ℕ) → Apart same_ready (ready_due (dues history pass moment))
dues_apart history pass moment =
    let requests = settled_by history pass (calls.Advance moment) deeds.Nothing in
    let fires = firing history moment in
    Apart-map same_due same_ready (λ (due : Due). record { context = due.context; task = due.task }) (λ a b differs. differs) (dues history pass moment)
    (in_order_apart (map (due_fire (now history)) fires ++ filter_map due_request requests)
    (Apart-cross same_due (map (due_fire (now history)) fires) (filter_map due_request requests)
    (Apart-map same_time same_due (due_fire (now history)) (λ a b differs. differs) fires
    (Apart-filter same_time _ (due_timers history moment) (Apart-filter same_time _ (timers history) (timers_apart history))))
    (Apart-filter_map same_open same_due due_request requests_apart requests
    (Apart-filter same_open (settles history pass (calls.Advance moment) deeds.Nothing) (unsettled history) (unsettled_apart history)))
    (fires_cross (now history) fires requests)))

-- ## Ends of promises, and connections

-- none of these is the end of this Await
abbrev AreOtherEnds : Await → JobResult → List Ready → Type 0
AreOtherEnds await given ready = Each (λ (r : Ready). same_task (tasks.PromiseEnd await.id await.promise given) r.task ≡ false) ready

other_end : (await other : Await) (given : JobResult) (o : Option Completion) → same_await await other ≡ false → AreOtherEnds await given (end_for other o)
other_end await other given None differs = tt
other_end await other given (Some completion) differs = (differs, tt)

other_ends : (settled : List Completion) (await : Await) (given : JobResult) (all : List Await) → Each (λ other. same_await await other ≡ false) all → AreOtherEnds await given (flat_map (promise_end settled) all)
other_ends settled await given [] differs = tt
other_ends settled await given (other ∷ others) differs =
    Each-append (λ (r : Ready). same_task (tasks.PromiseEnd await.id await.promise given) r.task ≡ false) (promise_end settled other) (flat_map (promise_end settled) others)
    (other_end await other given (completion_in settled other.promise) differs.0) (other_ends settled await given others differs.1)

end_first : (await : Await) (o : Option Completion) (rest : List Ready) → ((given : JobResult) → AreOtherEnds await given rest) → Apart same_ready rest → Apart same_ready (end_for await o ++ rest)
end_first await None rest others apart = apart
end_first await (Some completion) rest others apart = (others completion.result, apart)

pub promises_apart : (settled : List Completion) (all : List Await) → Apart same_await all → Apart same_ready (flat_map (promise_end settled) all)
promises_apart settled [] apart = tt
promises_apart settled (await ∷ others) apart =
    end_first await (completion_in settled await.promise) (flat_map (promise_end settled) others) (λ given. other_ends settled await given others apart.0) (promises_apart settled others apart.1)

pub connected_apart : (history : List Traced) (o : Option Server) → Apart same_ready (connected history o)
connected_apart history None = tt
connected_apart history (Some server) = (tt, tt)
