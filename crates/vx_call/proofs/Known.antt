-- What is known of each task that waits, and what is not known of a task before its entry makes it ready: so the two differ.
use Rattle.std.proofs.lemmas.Bool.{or_right}
use Rattle.std.proofs.Common.{◌≡◌, ℕ, ◌<◌, List, [], ◌∷◌, ◌++◌, length, refl, ap, sym, ◌∙◌, subst, arith, inl, inr, ◌⊎◌}
use Rattle.std.specs.Prelude.{Bool, true, false, not, cond, filter, map, flat_map, Option, None, Some, ◌&&◌, ◌||◌, ◌==◌, is_some}
use Rattle.std.specs.Option.{option_map, option_to_list}
use Rattle.std.specs.List.{list_any, filter_map}
use Rattle.std.proofs.lemmas.Bool.{eq-eqb, eqb-true}
use Rattle.std.proofs.lemmas.List.{length_push}
use Rattle.vx_data.specs.declared.ids.PassNo.{PassNo}
use Rattle.vx_data.specs.declared.ids.ContextId.{ContextId}
use Rattle.vx_data.specs.declared.ids.DeploymentId.{DeploymentId}
use Rattle.vx_data.specs.declared.ids.QueuedId.{QueuedId}
use Rattle.vx_data.specs.declared.ids.TimerId.{TimerId}
use Rattle.vx_data.specs.Ids.{same_context, same_deployment, same_queued, same_timer}
use Rattle.vx_message.specs.declared.DoneResult.{DoneResult}
use Rattle.vx_message.specs.declared.Held.{Held}
use Rattle.vx_message.specs.declared.ItemKind.{ItemKind}
use Rattle.vx_message.specs.declared.ItemKind.TheVariants as kinds
use Rattle.vx_call.specs.declared.call.End.{End}
use Rattle.vx_call.specs.declared.call.Call.{Call}
use Rattle.vx_call.specs.declared.call.Call.TheVariants as calls
use Rattle.vx_call.specs.declared.reply.Reply.{Reply}
use Rattle.vx_call.specs.declared.reply.Task.{Task}
use Rattle.vx_call.specs.declared.reply.Task.TheVariants as tasks
use Rattle.vx_call.specs.declared.history.Traced.{Traced}
use Rattle.vx_call.specs.History.{Kind, is_accepted, made_by, ended_by, lasting}
use Rattle.vx_call.specs.Kinds.{same_task}
use Rattle.vx_call.specs.Time.{now}
use Rattle.vx_call.specs.Timers.{Timer, is_timer_of, timer_set}
use Rattle.vx_call.specs.Tells.{deploy_tell_kind, undeploy_tell_kind, told_in}
use Rattle.vx_call.specs.Queued.{Queued}
use Rattle.vx_call.specs.Held.{holding, is_of_context}
use Rattle.vx_call.specs.Jobs.{job_kind, jobs, is_job, is_job_held, ends_job, jobs_ended}
use Rattle.vx_call.specs.Given.{context_of}
use Rattle.vx_call.specs.Deployments.{deployed_ids}
use Rattle.vx_call.specs.Starts.{deployed_contexts}
use Rattle.vx_call.specs.Closings.{closing_by, open_contexts}
use Rattle.vx_call.specs.There.{is_gone}
use Rattle.vx_call.specs.Ends.{deploy_result, is_deployed, stops_now}
use Rattle.vx_call.specs.Coming.{moves_on, awaited, came_if, coming_if, coming}
use Rattle.vx_call.specs.Fires.{timers, due_timers, tick_made, tick_ended, tick_kind, fire_waits, firing}
use Rattle.vx_call.specs.Due.{Due, due_fire, due_task, due_request, dues}
use Rattle.vx_call.specs.Requests.{Open, settled_by, by_due}
use Rattle.vx_call.specs.Messages.{received}
use Rattle.vx_call.specs.Mailboxes.{accepting}
use Rattle.vx_call.specs.Askers.{context_asking}
use Rattle.vx_call.specs.Sendings.{nothing_sent}
use Rattle.vx_call.specs.Settled.{timed_out, settled_made}
use Rattle.vx_call.specs.Homes.{homes, Heard, heard}
use Rattle.vx_call.specs.Items.{closes_task, delivery_tasks, outcome_tasks, item_ended}
use Rattle.vx_call.specs.Lives.{Ready, ready_due, job_done, jobs_done, deploy_told, deploy_end, undeploy_end, open_ones, life_tasks}
use Rattle.vx_data.specs.declared.ids.PromiseId.{PromiseId}
use Rattle.vx_call.specs.Names.{next_queued}
use Rattle.vx_call.specs.Awaits.{Await, await_made, is_await_of, await_at}
use Rattle.vx_call.specs.Completions.{Completion, completions, completion_in, is_settled}
use Rattle.vx_call.specs.Promised.{await_ended, wait_kind, waits, end_for, promise_end, promise_ends, promise_ended}
use Rattle.vx_call.specs.Listened.{Server}
use Rattle.vx_call.specs.Accepting.{connected}
use Rattle.vx_call.proofs.Promises.{await_key, waits_keyed, IsAwait, waits_found}
use Rattle.vx_call.proofs.Lasting.{lasting-append}
use Rattle.vx_call.proofs.Each.{Each, Each-append, Each-back, Each-map, Each-unmap, Each-filter, Each-both, not_true, weaken, accepted}
use Rattle.vx_call.proofs.Apart.{lasting_earlier}
use Rattle.vx_call.proofs.Found.{earlier_name, later_name}
use Rattle.vx_call.proofs.Once.{each_any, stays_away, goes_away, goes_away_each, not_made}
use Rattle.vx_call.proofs.Contexts.{same_context-self, same_context-swap, same_context-true, same_entry}
use Rattle.vx_call.proofs.Homes.{Each-filter_map}
use Rattle.vx_call.proofs.Tasks.{IsKnown, IsFresh, different, keeps_known, new_fresh, new_known, outcome_task}
use Rattle.vx_call.proofs.Items.{Among, among-behind, all_among, each_among, each_unsorted, Each-in_order, heard_timeout, among_timed_out}
use Rattle.vx_call.proofs.Placed.{context_number, deployment_number, deployed_apart, deployed_ids_apart, job_key, jobs_made}
use Rattle.vx_call.proofs.Owners.{keeps_context, timers_found}

-- ## Known, and fresh

-- a fire of the timer waits
pub record IsTicking (history : List Traced) (id : TimerId) : Type 0 where
  pub timer : Timer
  pub ticks : Among timer (lasting tick_kind history)
  pub named : id ≡ timer.id
  pub owned : context_of history (tasks.Fire id) ≡ Some timer.context

abbrev pub is_queued : QueuedId → Queued → Bool
is_queued id queued = same_queued id queued.id

-- deployments whose end of deploying, and whose end, is to come, and contexts whose stop is
abbrev pub to_deploy : List Traced → List DeploymentId
to_deploy history = lasting (awaited deployed_ids is_deployed) history

abbrev pub to_go : List Traced → List DeploymentId
to_go history = lasting (awaited deployed_ids is_gone) history

abbrev pub to_stop : List Traced → List ContextId
to_stop history = lasting (awaited deployed_contexts stops_now) history

-- what is known of a task that was made ready and not taken
abbrev pub IsKnownItem : List Traced → Task → Type 0
IsKnownItem history (tasks.Start context) = context.entry.0 < length history
IsKnownItem history (tasks.Deliver consumer message) = IsKnown history (tasks.Deliver consumer message)
IsKnownItem history (tasks.Outcome request outcome) = IsKnown history (tasks.Outcome request outcome)
IsKnownItem history (tasks.Fire id) = IsTicking history id
IsKnownItem history (tasks.Run id) = id.0.0 < length history
IsKnownItem history (tasks.Job id) = id.0.0 < length history
IsKnownItem history (tasks.JobDone id result) = (id.0.0 < length history) × (list_any (is_queued id) (jobs history) ≡ false)
IsKnownItem history (tasks.Connected server at) = at.0 < length history
IsKnownItem history (tasks.PromiseEnd id promise result) = (id.0.0 < length history) × (list_any (is_await_of id) (waits history) ≡ false)
IsKnownItem history (tasks.DeployEnd id result) = (id.0.0 < length history) × (list_any (same_deployment id) (to_deploy history) ≡ false)
IsKnownItem history (tasks.UndeployEnd id) = (id.0.0 < length history) × (list_any (same_deployment id) (to_go history) ≡ false)
IsKnownItem history (tasks.Stop context) = (context.entry.0 < length history) × (list_any (same_context context) (to_stop history) ≡ false)

-- ... and before it is made ready
abbrev pub IsFreshItem : List Traced → Task → Type 0
IsFreshItem history (tasks.Start context) = context.entry.0 ≡ length history
IsFreshItem history (tasks.Deliver consumer message) = IsFresh history (tasks.Deliver consumer message)
IsFreshItem history (tasks.Outcome request outcome) = IsFresh history (tasks.Outcome request outcome)
IsFreshItem history (tasks.Fire id) = fire_waits history id ≡ false
IsFreshItem history (tasks.Run id) = id.0.0 ≡ length history
IsFreshItem history (tasks.Job id) = id.0.0 ≡ length history
IsFreshItem history (tasks.JobDone id result) = list_any (is_queued id) (jobs history) ≡ true
IsFreshItem history (tasks.Connected server at) = at.0 ≡ length history
IsFreshItem history (tasks.PromiseEnd id promise result) = (id.0.0 ≡ length history) ⊎ (list_any (is_await_of id) (waits history) ≡ true)
IsFreshItem history (tasks.DeployEnd id result) = list_any (same_deployment id) (to_deploy history) ≡ true
IsFreshItem history (tasks.UndeployEnd id) = list_any (same_deployment id) (to_go history) ≡ true
IsFreshItem history (tasks.Stop context) = list_any (same_context context) (to_stop history) ≡ true

-- ## Names

same_deployment-true : (a b : DeploymentId) → same_deployment a b ≡ true → a ≡ b
same_deployment-true a b same = let named : ℕ → DeploymentId = λ n. record { 0 = record { 0 = n } } in ap named (eqb-true a.0.0 b.0.0 same)

same_queued-true : (a b : QueuedId) → same_queued a b ≡ true → a ≡ b
same_queued-true a b same = let named : ℕ → QueuedId = λ n. record { 0 = record { 0 = n } } in ap named (eqb-true a.0.0 b.0.0 same)

same_timer-true : (a b : TimerId) → same_timer a b ≡ true → a ≡ b
same_timer-true a b same = let named : ℕ → TimerId = λ n. record { 0 = record { 0 = n } } in ap named (eqb-true a.0.0 b.0.0 same)

-- what names one of a list differs from what names none
split_names : {A B : Type 0} (test : A → A → Bool) (among : A → B → Bool) → ((x y : A) → test x y ≡ true → x ≡ y) → (xs : List B) (x y : A) → list_any (among x) xs ≡ false → list_any (among y) xs ≡ true → test x y ≡ false
split_names test among true_test xs x y none some =
    elim (test x y) as (λ b. test x y ≡ b → b ≡ false) [
      | true ↦ λ same. (let e = ap (λ z. list_any (among z) xs) (true_test x y same) in absurd cc)
      | false ↦ λ differs. refl
    ] refl

pub among_any : {A : Type 0} (test : A → Bool) (x : A) (xs : List A) → Among x xs → test x ≡ true → list_any test xs ≡ true
among_any test x [] among here = absurd among
among_any test x (y ∷ ys) among here =
    elim among as (λ _. (test y || list_any test ys) ≡ true) [
      | inl e ↦ ap (λ b. b || list_any test ys) (ap test (sym e) ∙ here)
      | inr later ↦ ap (λ b. test y || b) (among_any test x ys later here) ∙ or_right (test y) true refl
    ]

pub other_item : (history : List Traced) (task other : Task) → IsKnownItem history task → IsFreshItem history other → same_task task other ≡ false
other_item history (tasks.Start context) (tasks.Start other) known fresh = ap (λ b. b && (context.instance == other.instance)) (earlier_name context.entry.0 other.entry.0 (omega arith))
other_item history (tasks.Deliver consumer message) (tasks.Deliver other another) known fresh = different history (tasks.Deliver consumer message) (tasks.Deliver other another) known fresh
other_item history (tasks.Outcome request outcome) (tasks.Outcome other another) known fresh = different history (tasks.Outcome request outcome) (tasks.Outcome other another) known fresh
other_item history (tasks.Fire id) (tasks.Fire other) known fresh =
    elim (same_timer id other) as (λ b. same_timer id other ≡ b → b ≡ false) [
      | true ↦ λ same.
          (let e : other ≡ known.timer.id = sym (same_timer-true id other same) ∙ known.named in
          let waits : fire_waits history other ≡ true = among_any (is_timer_of other) known.timer (lasting tick_kind history) known.ticks (ap (λ i. same_timer i known.timer.id) e ∙ eq-eqb known.timer.id.0.0 known.timer.id.0.0 refl) in
          absurd cc)
      | false ↦ λ differs. refl
    ] refl
other_item history (tasks.Run id) (tasks.Run other) known fresh = earlier_name id.0.0 other.0.0 (omega arith)
other_item history (tasks.Job id) (tasks.Job other) known fresh = earlier_name id.0.0 other.0.0 (omega arith)
other_item history (tasks.JobDone id result) (tasks.JobDone other another) known fresh = split_names same_queued is_queued same_queued-true (jobs history) id other known.1 fresh
other_item history (tasks.Connected server at) (tasks.Connected other another) known fresh = earlier_name at.0 another.0 (omega arith)
other_item history (tasks.PromiseEnd id promise result) (tasks.PromiseEnd other another given) known fresh =
    elim fresh as (λ _. same_queued id other ≡ false) [
      | inl made ↦ earlier_name id.0.0 other.0.0 (let before : id.0.0 < length history = known.0 in omega arith)
      | inr some ↦ split_names same_queued is_await_of same_queued-true (waits history) id other known.1 some
    ]
other_item history (tasks.DeployEnd id result) (tasks.DeployEnd other another) known fresh = split_names same_deployment same_deployment same_deployment-true (to_deploy history) id other known.1 fresh
other_item history (tasks.UndeployEnd id) (tasks.UndeployEnd other) known fresh = split_names same_deployment same_deployment same_deployment-true (to_go history) id other known.1 fresh
other_item history (tasks.Stop context) (tasks.Stop other) known fresh = split_names same_context same_context same_context-true (to_stop history) context other known.1 fresh
other_item history _ _ known fresh = refl

-- ## What is known stays so

contexts_keyed : (came : List Traced → ContextId → Bool) (history : List Traced) (new : Traced) → Each (λ x. context_number x ≡ length history) (made_by (awaited deployed_contexts came) history new)
contexts_keyed came history new = accepted (λ x. context_number x ≡ length history) (is_accepted new.entry.reply) _ (λ ok. (deployed_apart history new.entry.call).keyed)

ids_keyed : (came : List Traced → DeploymentId → Bool) (history : List Traced) (new : Traced) → Each (λ x. deployment_number x ≡ length history) (made_by (awaited deployed_ids came) history new)
ids_keyed came history new = accepted (λ x. deployment_number x ≡ length history) (is_accepted new.entry.reply) _ (λ ok. (deployed_ids_apart history new.entry.call).keyed)

jobs_keyed : (history : List Traced) (new : Traced) → Each (λ x. job_key x ≡ length history) (made_by job_kind history new)
jobs_keyed history new = accepted (λ x. job_key x ≡ length history) (is_accepted new.entry.reply) _ (λ ok. (jobs_made history new.entry.call).keyed)

among-filter : {A : Type 0} (p : A → Bool) (x : A) (xs : List A) → Among x xs → p x ≡ true → Among x (filter p xs)
among-filter p x [] among here = absurd among
among-filter {A} p x (y ∷ ys) among here =
    let P : Bool → Type 0 = λ b. Among x (cond b (y ∷ filter p ys) (filter p ys)) in
    elim among as (λ _. Among x (cond (p y) (y ∷ filter p ys) (filter p ys))) [
      | inl e ↦ subst P (sym (ap p (sym e) ∙ here)) (inl e)
      | inr later ↦ elim (p y) as P [ true ↦ inr (among-filter p x ys later here) | false ↦ among-filter p x ys later here ]
    ]

among-front : {A : Type 0} (x : A) (xs ys : List A) → Among x xs → Among x (xs ++ ys)
among-front x [] ys among = absurd among
among-front x (y ∷ xs) ys among = elim among as (λ _. Among x (y ∷ (xs ++ ys))) [ inl e ↦ inl e | inr later ↦ inr (among-front x xs ys later) ]

-- a context that closes ends the tick of a timer where it ends its fire
closing_alike : (history : List Traced) (closing : Option ContextId) (timer : Timer) → context_of history (tasks.Fire timer.id) ≡ Some timer.context →
    is_of_context timer.context closing ≡ closes_task history closing (tasks.Fire timer.id)
closing_alike history None timer owned = refl
closing_alike history (Some context) timer owned = same_context-swap timer.context context ∙ sym (ap (is_of_context context) owned)

tick_as_item : (history : List Traced) (pass : PassNo) (call : Call) (reply : Reply) (timer : Timer) → context_of history (tasks.Fire timer.id) ≡ Some timer.context →
    tick_ended history pass call reply timer ≡ item_ended history pass call reply (tasks.Fire timer.id)
tick_as_item history pass (calls.CancelTimer id) reply timer owned = refl
tick_as_item history pass (calls.Take lane) reply timer owned = refl
tick_as_item history pass (calls.Pause id) reply timer owned = refl
tick_as_item history pass (calls.Unregister id) reply timer owned = refl
tick_as_item history pass calls.Close reply timer owned = refl
tick_as_item history pass call reply timer owned = closing_alike history (closing_by history pass call) timer owned

keeps_ticking : (history : List Traced) (new : Traced) (id : TimerId) → (is_accepted new.entry.reply && item_ended history new.entry.pass new.entry.call new.entry.reply (tasks.Fire id)) ≡ false → IsTicking history id →
    IsTicking (history ++ new ∷ []) id
keeps_ticking history new id stays known =
    let timer = known.timer in
    let same : context_of history (tasks.Fire timer.id) ≡ Some timer.context = ap (λ i. context_of history (tasks.Fire i)) (sym known.named) ∙ known.owned in
    let kept : ended_by tick_kind history new timer ≡ false =
    ap (λ b. is_accepted new.entry.reply && b) (tick_as_item history new.entry.pass new.entry.call new.entry.reply timer same)
    ∙ ap (λ i. is_accepted new.entry.reply && item_ended history new.entry.pass new.entry.call new.entry.reply (tasks.Fire i)) (sym known.named) ∙ stays in
    let P : List Timer → Type 0 = Among timer in
    record {
      timer = timer;
      ticks = subst P (sym (lasting-append tick_kind history new)) (among-front timer _ _ (among-filter (λ t. not (ended_by tick_kind history new t)) timer (lasting tick_kind history) known.ticks (ap not kept)));
      named = known.named;
      owned = keeps_context history new (tasks.Fire id) timer.context known.owned;
    }

pub keeps_item : (history : List Traced) (new : Traced) (task : Task) → (is_accepted new.entry.reply && item_ended history new.entry.pass new.entry.call new.entry.reply task) ≡ false → IsKnownItem history task →
    IsKnownItem (history ++ new ∷ []) task
keeps_item history new (tasks.Start context) stays known = let longer = length_push history new in omega arith
keeps_item history new (tasks.Deliver consumer message) stays known = keeps_known history new (tasks.Deliver consumer message) known
keeps_item history new (tasks.Outcome request outcome) stays known = keeps_known history new (tasks.Outcome request outcome) known
keeps_item history new (tasks.Fire id) stays known = keeps_ticking history new id stays known
keeps_item history new (tasks.Run id) stays known = let longer = length_push history new in omega arith
keeps_item history new (tasks.Job id) stays known = let longer = length_push history new in omega arith
keeps_item history new (tasks.JobDone id result) stays known =
    let longer = length_push history new in
    (omega arith, stays_away job_kind (is_queued id) job_key id.0.0 (λ x same. sym (eqb-true id.0.0 x.id.0.0 same)) jobs_keyed history new known.0 known.1)
keeps_item history new (tasks.Connected server at) stays known = let longer = length_push history new in omega arith
keeps_item history new (tasks.PromiseEnd id promise result) stays known =
    let longer = length_push history new in
    (omega arith, stays_away wait_kind (is_await_of id) await_key id.0.0 (λ x same. sym (eqb-true id.0.0 x.id.0.0 same)) waits_keyed history new known.0 known.1)
keeps_item history new (tasks.DeployEnd id result) stays known =
    let longer = length_push history new in
    (omega arith, stays_away (awaited deployed_ids is_deployed) (same_deployment id) deployment_number id.0.0 (λ x same. sym (eqb-true id.0.0 x.0.0 same)) (ids_keyed is_deployed) history new known.0 known.1)
keeps_item history new (tasks.UndeployEnd id) stays known =
    let longer = length_push history new in
    (omega arith, stays_away (awaited deployed_ids is_gone) (same_deployment id) deployment_number id.0.0 (λ x same. sym (eqb-true id.0.0 x.0.0 same)) (ids_keyed is_gone) history new known.0 known.1)
keeps_item history new (tasks.Stop context) stays known =
    let longer = length_push history new in
    (omega arith, stays_away (awaited deployed_contexts stops_now) (same_context context) context_number context.entry.0 (λ x same. sym (same_entry context x same)) (contexts_keyed stops_now) history new known.0 known.1)

-- ## What an entry makes is fresh, and known behind it

-- what is made ready was announced and had not come, and has come behind the entry
pub record IsDue (history after : List Traced) (task : Task) : Type 0 where
  pub fresh : IsFreshItem history task
  pub known : IsKnownItem after task

pub each_in : {A : Type 0} (Q : A → Type 0) (P : Ready → Type 0) (f : A → Ready) → ((x : A) → Q x → P (f x)) → (all : List A) → Each Q all → Each P (map f all)
each_in Q P f holds [] each = tt
each_in Q P f holds (x ∷ xs) each = (holds x each.0, each_in Q P f holds xs each.1)

each_flat_in : {A : Type 0} (Q : A → Type 0) (P : Ready → Type 0) (f : A → List Ready) → ((x : A) → Q x → Each P (f x)) → (all : List A) → Each Q all → Each P (flat_map f all)
each_flat_in Q P f holds [] each = tt
each_flat_in Q P f holds (x ∷ xs) each = Each-append P (f x) (flat_map f xs) (holds x each.0) (each_flat_in Q P f holds xs each.1)

-- what comes with an entry: it was awaited, and is no more
pub record Comes {A : Type 0} (test : A → A → Bool) (key : A → ℕ) (kind : Kind A) (history after : List Traced) (x : A) : Type 0 where
  pub earlier : key x < length after
  pub was : list_any (test x) (lasting kind history) ≡ true
  pub gone : list_any (test x) (lasting kind after) ≡ false

comes_now : {A : Type 0} (test : A → A → Bool) (key : A → ℕ) (made : List Traced → Call → List A) (came : List Traced → A → Bool) → ((x : A) → test x x ≡ true) → ((x y : A) → test x y ≡ true → x ≡ y) →
    ((history : List Traced) (new : Traced) → Each (λ x. key x ≡ length history) (made_by (awaited made came) history new)) →
    (history : List Traced) (new : Traced) (b : Bool) → moves_on history new.entry.pass new.entry.call ≡ b → is_accepted new.entry.reply ≡ true →
    Each (Comes test key (awaited made came) history (history ++ new ∷ [])) (coming_if (awaited made came) came history new b)
comes_now test key made came reflexive true_test keyed history new false moves ok = tt
comes_now {A} test key made came reflexive true_test keyed history new true moves ok =
    let kind = awaited made came in
    let after = history ++ new ∷ [] in
    let longer = length_push history new in
    let Awaited : A → Type 0 = λ x. (list_any (test x) (lasting kind history) ≡ true) × (key x < length history) in
    Each-filter Awaited (Comes test key kind history after) (came after) (lasting kind history)
    (λ x comes known. record {
      earlier = let before : key x < length history = known.1 in omega arith;
      was = known.0;
      gone = goes_away kind (test x) key (key x) (λ y same. ap key (sym (true_test x y same))) keyed history new known.1
          (λ y same. ap (λ b. b && came_if came after y (moves_on history new.entry.pass new.entry.call)) ok ∙ ap (came_if came after y) moves ∙ ap (came after) (sym (true_test x y same)) ∙ comes);
    })
    (Each-both (λ x. list_any (test x) (lasting kind history) ≡ true) (λ x. key x < length history) Awaited (lasting kind history) (λ x was before. (was, before)) (each_any test reflexive (lasting kind history))
    (lasting_earlier kind key keyed history))

abbrev pub IsDueReady : List Traced → List Traced → Ready → Type 0
IsDueReady history after ready = IsDue history after ready.task

due_told : (history after : List Traced) (id : DeploymentId) (context : Option ContextId) (result : Option DoneResult) → Comes same_deployment deployment_number (awaited deployed_ids is_deployed) history after id →
    Each (IsDueReady history after) (deploy_told id context result)
due_told history after id (Some context) (Some result) comes = (record { fresh = comes.was; known = (comes.earlier, comes.gone) }, tt)
due_told history after id _ _ comes = tt

due_undeployed : (history after : List Traced) (id : DeploymentId) (context : Option ContextId) → Comes same_deployment deployment_number (awaited deployed_ids is_gone) history after id →
    Each (IsDueReady history after) (map (λ c. record { context = c; task = tasks.UndeployEnd id }) (option_to_list context))
due_undeployed history after id None comes = tt
due_undeployed history after id (Some context) comes = (record { fresh = comes.was; known = (comes.earlier, comes.gone) }, tt)

same_deployment-self : (id : DeploymentId) → same_deployment id id ≡ true
same_deployment-self id = eq-eqb id.0.0 id.0.0 refl

-- the outcomes that an entry makes
due_outcomes : (history : List Traced) (new : Traced) → is_accepted new.entry.reply ≡ true → Each (λ (s : Heard). IsDue history (history ++ new ∷ []) (tasks.Outcome s.request s.outcome)) (heard (settled_made history new.entry.pass new.entry.call new.mark.deed))
due_outcomes history new ok =
    let call = new.entry.call in
    let pass = new.entry.pass in
    let after = history ++ new ∷ [] in
    let deed = new.mark.deed in
    let front = delivery_tasks (received history call deed) (homes (accepting history call deed)) in
    let ended = heard (settled_made history pass call deed) in
    Each-both (λ s. IsFresh history (outcome_task s)) (λ s. IsKnown after (outcome_task s)) (λ s. IsDue history after (outcome_task s)) ended
    (λ s fresh known. record { fresh = fresh; known = known })
    (Each-unmap (IsFresh history) outcome_task ended (Each-back (IsFresh history) front (outcome_tasks ended) (new_fresh history pass call deed)))
    (Each-unmap (IsKnown after) outcome_task ended (Each-back (IsKnown after) front (outcome_tasks ended) (new_known history new ok)))

pub due_life : (history : List Traced) (new : Traced) → is_accepted new.entry.reply ≡ true → Each (IsDueReady history (history ++ new ∷ [])) (life_tasks history new)
due_life history new ok =
    let after = history ++ new ∷ [] in
    let P : Ready → Type 0 = IsDueReady history after in
    let b = moves_on history new.entry.pass new.entry.call in
    Each-filter P P _ _ (λ ready passes due. due)
    (Each-append P _ _ (Each-map P _ (heard (settled_made history new.entry.pass new.entry.call new.mark.deed)) (due_outcomes history new ok))
    (Each-append P _ _
    (each_flat_in (Comes same_deployment deployment_number (awaited deployed_ids is_deployed) history after) P (deploy_end after)
    (λ id comes. due_told history after id (told_in (lasting deploy_tell_kind after) id) (deploy_result after id) comes) (coming deployed_ids is_deployed history new)
    (comes_now same_deployment deployment_number deployed_ids is_deployed same_deployment-self same_deployment-true (ids_keyed is_deployed) history new b refl ok))
    (Each-append P _ _
    (each_flat_in (Comes same_deployment deployment_number (awaited deployed_ids is_gone) history after) P (undeploy_end after)
    (λ id comes. due_undeployed history after id (told_in (lasting undeploy_tell_kind after) id) comes) (coming deployed_ids is_gone history new)
    (comes_now same_deployment deployment_number deployed_ids is_gone same_deployment-self same_deployment-true (ids_keyed is_gone) history new b refl ok))
    (each_in (Comes same_context context_number (awaited deployed_contexts stops_now) history after) P (λ context. record { context = context; task = tasks.Stop context })
    (λ context comes. record { fresh = comes.was; known = (comes.earlier, comes.gone) }) (coming deployed_contexts stops_now history new)
    (comes_now same_context context_number deployed_contexts stops_now same_context-self same_context-true (contexts_keyed stops_now) history new b refl ok)))))

-- ## Blocking code

alike_kind : (kind : ItemKind) (a b : Queued) → a.id ≡ b.id → is_job a kind ≡ is_job b kind
alike_kind (kinds.Job id) a b e = ap (same_queued id) e
alike_kind _ a b e = refl

alike_held : (o : Option Held) (a b : Queued) → a.id ≡ b.id → is_job_held a o ≡ is_job_held b o
alike_held None a b e = refl
alike_held (Some held) a b e = alike_kind held.kind a b e

pub due_jobs : (history : List Traced) (new : Traced) (end : End) → is_accepted new.entry.reply ≡ true → new.entry.call ≡ calls.Finish end →
    Each (IsDueReady history (history ++ new ∷ [])) (open_ones (open_contexts history) (jobs_done end (jobs_ended history new.entry.pass (calls.Finish end))))
due_jobs history new end ok is_call =
    let after = history ++ new ∷ [] in
    let pass = new.entry.pass in
    let longer = length_push history new in
    let P : Ready → Type 0 = IsDueReady history after in
    let Here : Queued → Type 0 = λ q. (list_any (is_queued q.id) (jobs history) ≡ true) × (job_key q < length history) in
    Each-filter P P _ _ (λ ready passes due. due)
    (Each-map P (job_done end) (jobs_ended history pass (calls.Finish end))
    (Each-filter Here (λ q. P (job_done end q)) (ends_job history pass (calls.Finish end)) (jobs history)
    (λ q ends known. record {
      fresh = known.0;
      known = (
        let before : job_key q < length history = known.1 in omega arith,
        goes_away job_kind (is_queued q.id) job_key (job_key q) (λ y same. sym (eqb-true q.id.0.0 y.id.0.0 same)) jobs_keyed history new known.1
            (λ y same.
            ap (λ b. b && ends_job history pass new.entry.call y) ok ∙ ap (λ c. ends_job history pass c y) is_call
            ∙ alike_held (holding history pass) y q (sym (same_queued-true q.id y.id same)) ∙ ends),
      );
    })
    (Each-both (λ q. list_any (is_queued q.id) (jobs history) ≡ true) (λ q. job_key q < length history) Here (jobs history) (λ q was before. (was, before))
    (each_any (λ a b. is_queued a.id b) (λ q. eq-eqb q.id.0.0 q.id.0.0 refl) (jobs history)) (lasting_earlier job_kind job_key jobs_keyed history))))

-- ## Promises and servers

-- an Await that waits
record IsWaiting (history : List Traced) (await : Await) : Type 0 where
  earlier : await_key await < length history
  was : list_any (is_await_of await.id) (waits history) ≡ true
  found : IsAwait history await

waiting_awaits : (history : List Traced) → Each (IsWaiting history) (waits history)
waiting_awaits history =
    let Was : Await → Type 0 = λ await. list_any (is_await_of await.id) (waits history) ≡ true in
    let Before : Await → Type 0 = λ await. await_key await < length history in
    Each-both (λ await. Was await × Before await) (IsAwait history) (IsWaiting history) (waits history) (λ await both found. record { earlier = both.1; was = both.0; found = found })
    (Each-both Was Before (λ await. Was await × Before await) (waits history) (λ await was before. (was, before))
    (each_any (λ a b. is_await_of a.id b) (λ await. eq-eqb await.id.0.0 await.id.0.0 refl) (waits history)) (lasting_earlier wait_kind await_key waits_keyed history))
    (waits_found history)

-- whether a call settles promises
abbrev pub is_settling : Call → Bool
is_settling (calls.Complete id value) = true
is_settling (calls.FailPromise id code) = true
is_settling _ = false

ended_settling : (history : List Traced) (new : Traced) (call : Call) (await : Await) → is_settling call ≡ true → is_settled (history ++ new ∷ []) await.promise ≡ true → await_ended history new call await ≡ true
ended_settling history new (calls.Complete id value) await settles settled = settled
ended_settling history new (calls.FailPromise id code) await settles settled = settled
ended_settling history new _ await settles settled = absurd cc

one_await : (history : List Traced) (a b : Await) → IsAwait history a → IsAwait history b → same_queued a.id b.id ≡ true → a.promise ≡ b.promise
one_await history a b first second same =
    let e : await_at history a.id ≡ await_at history b.id = ap (await_at history) (same_queued-true a.id b.id same) in
    let f : a ≡ b = cc in
    ap (λ (await : Await). await.promise) f

due_end : (history : List Traced) (new : Traced) → is_accepted new.entry.reply ≡ true → is_settling new.entry.call ≡ true → (await : Await) (o : Option Completion) →
    completion_in (completions (history ++ new ∷ [])) await.promise ≡ o → IsWaiting history await → Each (IsDueReady history (history ++ new ∷ [])) (end_for await o)
due_end history new ok settles await None none waits = tt
due_end history new ok settles await (Some completion) settled known =
    let after = history ++ new ∷ [] in
    let longer = length_push history new in
    let before : await_key await < length history = known.earlier in
    let gone : list_any (is_await_of await.id) (waits after) ≡ false =
    goes_away_each wait_kind (is_await_of await.id) await_key (await_key await) (λ y same. sym (eqb-true await.id.0.0 y.id.0.0 same)) waits_keyed history new before
    (weaken (IsAwait history) (λ y. is_await_of await.id y ≡ true → ended_by wait_kind history new y ≡ true) (waits history)
    (λ y found same.
    ap (λ b. b && await_ended history new new.entry.call y) ok
    ∙ ended_settling history new new.entry.call y settles (ap (is_settled after) (sym (one_await history await y known.found found same)) ∙ ap is_some settled)) (waits_found history)) in
    (record { fresh = inr known.was; known = (omega arith, gone) }, tt)

due_ends : (history : List Traced) (new : Traced) → is_accepted new.entry.reply ≡ true → is_settling new.entry.call ≡ true → (all : List Await) → Each (IsWaiting history) all →
    Each (IsDueReady history (history ++ new ∷ [])) (flat_map (promise_end (completions (history ++ new ∷ []))) all)
due_ends history new ok settles all known =
    let after = history ++ new ∷ [] in
    each_flat_in (IsWaiting history) (IsDueReady history after) (promise_end (completions after)) (λ await waits. due_end history new ok settles await (completion_in (completions after) await.promise) refl waits) all known

pub due_promises : (history : List Traced) (new : Traced) → is_accepted new.entry.reply ≡ true → is_settling new.entry.call ≡ true → Each (IsDueReady history (history ++ new ∷ [])) (promise_ends history new)
due_promises history new ok settles = due_ends history new ok settles (waits history) (waiting_awaits history)

due_at_once : (history : List Traced) (new : Traced) (await : Await) (o : Option Completion) → is_accepted new.entry.reply ≡ true → await_made history new.entry.call ≡ await ∷ [] → await.id ≡ next_queued history →
    completion_in (completions history) await.promise ≡ o → Each (IsDueReady history (history ++ new ∷ [])) (end_for await o)
due_at_once history new await None ok made named none = tt
due_at_once history new await (Some completion) ok made named settled =
    let after = history ++ new ∷ [] in
    let longer = length_push history new in
    let unsettled = λ (a : Await). not (is_settled history a.promise) in
    let number : await.id.0.0 ≡ length history = ap (λ (id : QueuedId). id.0.0) named in
    let none : made_by wait_kind history new ≡ [] =
    ap (λ b. cond b (filter unsettled (await_made history new.entry.call)) []) ok ∙ ap (filter unsettled) made ∙ ap (λ o. cond (not (is_some o)) (await ∷ []) []) settled in
    let gone : list_any (is_await_of await.id) (waits after) ≡ false =
    not_made wait_kind (is_await_of await.id) history new
    (weaken (λ a. await_key a < length history) (λ a. is_await_of await.id a ≡ false) (waits history) (λ a before. later_name await.id.0.0 a.id.0.0 (omega arith)) (lasting_earlier wait_kind await_key waits_keyed history)) none in
    (record { fresh = inl number; known = (omega arith, gone) }, tt)

pub due_await : (history : List Traced) (new : Traced) (context : ContextId) (promise : PromiseId) → is_accepted new.entry.reply ≡ true → new.entry.call ≡ calls.Await context promise →
    Each (IsDueReady history (history ++ new ∷ [])) (promise_ended history (calls.Await context promise))
due_await history new context promise ok is_call =
    let await : Await = record { id = next_queued history; context = context; promise = promise } in
    Each-append (IsDueReady history (history ++ new ∷ [])) (promise_end (completions history) await) []
    (due_at_once history new await (completion_in (completions history) promise) ok (ap (await_made history) is_call) refl refl) tt

pub due_connected : (history : List Traced) (new : Traced) (o : Option Server) → Each (IsDueReady history (history ++ new ∷ [])) (connected history o)
due_connected history new None = tt
due_connected history new (Some server) = let longer = length_push history new in (record { fresh = refl; known = omega arith }, tt)

-- ## With an Advance

abbrev context_set : Timer → ContextId
context_set timer = timer.context

abbrev IsDueDue : List Traced → List Traced → Due → Type 0
IsDueDue history after due = IsDue history after due.task

due_fires : (history : List Traced) (new : Traced) (moment : ℕ) → is_accepted new.entry.reply ≡ true → new.entry.call ≡ calls.Advance moment →
    Each (λ timer. IsDue history (history ++ new ∷ []) (tasks.Fire timer.id)) (firing history moment)
due_fires history new moment ok is_call =
    let after = history ++ new ∷ [] in
    let due = due_timers history moment in
    let ticks = lasting tick_kind history in
    let whole : lasting tick_kind after ≡ filter (λ t. not (ended_by tick_kind history new t)) ticks ++ due =
    lasting-append tick_kind history new ∙ ap (λ b. filter (λ t. not (ended_by tick_kind history new t)) ticks ++ cond b (tick_made history new.entry.call) []) ok
    ∙ ap (λ c. filter (λ t. not (ended_by tick_kind history new t)) ticks ++ tick_made history c) is_call in
    let IsSet : Timer → Type 0 = λ timer. context_of history (tasks.Fire timer.id) ≡ Some timer.context in
    let Both : Timer → Type 0 = λ timer. Among timer due × IsSet timer in
    Each-filter Both (λ timer. IsDue history after (tasks.Fire timer.id)) (λ (timer : Timer). not (fire_waits history timer.id)) due
    (λ timer none both. record {
      fresh = not_true (fire_waits history timer.id) none;
      known = record {
        timer = timer;
        ticks = (let P : List Timer → Type 0 = Among timer in subst P (sym whole) (among-behind timer _ due both.0));
        named = refl;
        owned = keeps_context history new (tasks.Fire timer.id) timer.context both.1;
      };
    })
    (Each-both (λ timer. Among timer due) IsSet Both due (λ timer among is_set. (among, is_set)) (all_among due)
    (Each-filter IsSet IsSet _ (timers history) (λ timer passes is_set. is_set)
    (weaken (λ (timer : Timer). timer_set history timer.id ≡ Some timer) IsSet (timers history) (λ timer found. ap (option_map context_set) found) (timers_found history))))

due_timeout : (history after : List Traced) (requests : List Open) (request : Open) (due : Due) → Each (λ (s : Heard). IsDue history after (tasks.Outcome s.request s.outcome)) (heard (timed_out history nothing_sent requests)) →
    Among request requests → due_request request ≡ Some due → IsDueDue history after due
due_timeout history after requests request due all among gives =
    let P : Due → Type 0 = IsDueDue history after in
    elim (context_asking request.asker) as (λ o. context_asking request.asker ≡ o → option_map (due_task request) o ≡ Some due → P due) [
      | None ↦ λ none some. absurd cc
      | Some context ↦ λ asks some.
          (let e : due_task request context ≡ due = cc in
          subst P e
          (each_among (λ (s : Heard). IsDue history after (tasks.Outcome s.request s.outcome)) (heard_timeout history request context) (heard (timed_out history nothing_sent requests))
          (among_timed_out history nothing_sent requests request context asks among) all))
    ] refl gives

-- requests whose time is up had not ended, and have behind it
due_timeouts : (history : List Traced) (new : Traced) (moment : ℕ) → is_accepted new.entry.reply ≡ true → new.entry.call ≡ calls.Advance moment →
    Each (λ request. (due : Due) → due_request request ≡ Some due → IsDueDue history (history ++ new ∷ []) due) (settled_by history new.entry.pass (calls.Advance moment) new.mark.deed)
due_timeouts history new moment ok is_call =
    let after = history ++ new ∷ [] in
    let deed = new.mark.deed in
    let requests = settled_by history new.entry.pass (calls.Advance moment) deed in
    let Same : List Heard → Type 0 = λ ended. Each (λ (s : Heard). IsDue history after (tasks.Outcome s.request s.outcome)) ended in
    let all : Same (heard (settled_made history new.entry.pass (calls.Advance moment) deed)) = subst Same (ap (λ c. heard (settled_made history new.entry.pass c deed)) is_call) (due_outcomes history new ok) in
    weaken (λ request. Among request (by_due requests)) (λ request. (due : Due) → due_request request ≡ Some due → IsDueDue history after due) requests
    (λ request among due gives. due_timeout history after (by_due requests) request due all among gives)
    (each_unsorted (λ request. Among request (by_due requests)) requests (all_among (by_due requests)))

pub due_dues : (history : List Traced) (new : Traced) (moment : ℕ) → is_accepted new.entry.reply ≡ true → new.entry.call ≡ calls.Advance moment → Each (IsDueReady history (history ++ new ∷ [])) (ready_due (dues history new.entry.pass moment))
due_dues history new moment ok is_call =
    let after = history ++ new ∷ [] in
    let pass = new.entry.pass in
    let requests = settled_by history pass (calls.Advance moment) new.mark.deed in
    Each-map (IsDueReady history after) _ (dues history pass moment)
    (Each-in_order (IsDueDue history after) (map (due_fire (now history)) (firing history moment) ++ filter_map due_request requests)
    (Each-append (IsDueDue history after) _ _
    (Each-map (IsDueDue history after) (due_fire (now history)) (firing history moment) (due_fires history new moment ok is_call))
    (Each-filter_map (IsDueDue history after) due_request requests (due_timeouts history new moment ok is_call))))
