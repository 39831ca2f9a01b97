-- In a legal history the result of deploying stays what it is, and a task that waits for it has it.
use Rattle.std.proofs.Common.{◌≡◌, ℕ, ◌+◌, ◌<◌, List, [], ◌∷◌, ◌++◌, length, take, drop, refl, ap, sym, ◌∙◌, subst, arith}
use Rattle.std.specs.Prelude.{Bool, true, false, not, ◌||◌, cond, filter, find, map, flat_map, Option, None, Some}
use Rattle.std.specs.List.{list_any, filter_map, cons_option}
use Rattle.std.specs.Option.{option_map, option_to_list}
use Rattle.std.proofs.lemmas.List.Folds.{list_any-append}
use Rattle.vx_data.specs.declared.ids.ContextId.{ContextId}
use Rattle.vx_data.specs.declared.ids.ConsumerId.{ConsumerId}
use Rattle.vx_data.specs.declared.ids.DeploymentId.{DeploymentId}
use Rattle.vx_data.specs.declared.ids.PassNo.{PassNo}
use Rattle.vx_data.specs.Ids.{same_context, same_deployment}
use Rattle.vx_message.specs.declared.Context.{Context}
use Rattle.vx_message.specs.declared.DoneResult.{DoneResult}
use Rattle.vx_message.specs.declared.DoneResult.TheVariants as results
use Rattle.vx_call.specs.declared.call.Call.{Call}
use Rattle.vx_call.specs.declared.call.Call.TheVariants as calls
use Rattle.vx_call.specs.declared.history.Traced.{Traced}
use Rattle.vx_call.specs.declared.history.Consumer.{Consumer}
use Rattle.vx_call.specs.declared.history.Deed.TheVariants as deeds
use Rattle.vx_call.specs.declared.reply.Task.{Task}
use Rattle.vx_call.specs.declared.reply.Task.TheVariants as tasks
use Rattle.vx_call.specs.History.{Kind, is_accepted, made_by, ended_by, lasting}
use Rattle.vx_call.specs.Accepting.{connecting, connected}
use Rattle.vx_call.specs.Askers.{context_asking}
use Rattle.vx_call.specs.Awaits.{Await, await_made}
use Rattle.vx_call.specs.Coming.{moves_on, awaited, coming, coming_if}
use Rattle.vx_call.specs.Completions.{Completion, completions, completion_in}
use Rattle.vx_call.specs.Consumers.{live}
use Rattle.vx_call.specs.Due.{Due, due_fire, due_task, due_request, is_before, put_due, in_order, dues}
use Rattle.vx_call.specs.Fires.{firing}
use Rattle.vx_call.specs.Homes.{Home, homes, Heard, heard}
use Rattle.vx_call.specs.Items.{Waiting, is_for, untaken, deliveries, delivered, outcome_items, made_ready, held_tasks, ready_for, freed_items, freed_by, placed, item_by, item_kind, waiting}
use Rattle.vx_call.specs.Jobs.{jobs_ended}
use Rattle.vx_call.specs.Kinds.{kind_of}
use Rattle.vx_call.specs.Listened.{Server}
use Rattle.vx_call.specs.Lives.{Ready, starts, ready_due, ready_outcomes, job_done, jobs_done, deploy_told, deploy_end, deploy_ends, undeploy_end, undeploy_ends, stops, open_ones, life_tasks}
use Rattle.vx_call.specs.Mailboxes.{mailbox, readied}
use Rattle.vx_call.specs.Messages.{received}
use Rattle.vx_call.specs.Names.{next_queued}
use Rattle.vx_call.specs.Owners.{context_owning}
use Rattle.vx_call.specs.Promised.{waits, end_for, promise_end, promise_ends, promise_ended}
use Rattle.vx_call.specs.Requests.{Open, settled_by}
use Rattle.vx_call.specs.Settled.{settled_made}
use Rattle.vx_call.specs.Tells.{deploy_tell_kind, undeploy_tell_kind, told_in}
use Rattle.vx_call.specs.Time.{now}
use Rattle.vx_call.specs.Timers.{Timer}
use Rattle.vx_consumer.specs.Flows.{room_more, freed}
use Rattle.vx_message.specs.declared.Message.{Message}
use Rattle.vx_call.specs.Deployments.{Deployment, deployed_ids, deployment_made, deployment_kind, deployments, is_among, held_deployment}
use Rattle.vx_call.specs.Starts.{Ending, start_failed, starter, deployed_contexts, unstarted_kind, unstarted}
use Rattle.vx_call.specs.Closings.{open_context_kind, open_contexts, is_open_in}
use Rattle.vx_call.specs.Askings.{Asking, asking_kind, askings, is_asking_of}
use Rattle.vx_call.specs.There.{is_instance_of, has_open, is_child_of, is_deployment, stays, there_of, there, is_gone}
use Rattle.vx_call.specs.Ends.{Failure, failure, failure_kind, first_failure, deployed_as, deploy_result, is_deployed, stops_now}
use Rattle.vx_call.specs.Machine.{IsLegal, MayFollow, answer}
use Rattle.vx_call.proofs.Each.{Each, Each-append, Each-filter, Each-take, Each-drop, weaken, passing, accepted, by_entries}
use Rattle.vx_call.proofs.Known.{IsKnownItem}
use Rattle.vx_call.proofs.Legal.{legal_front}
use Rattle.vx_call.proofs.Waiting.{waiting_known}
use Rattle.vx_call.proofs.Lasting.{lasting-append, lasting_more, lasting_none, and_false}
use Rattle.vx_call.proofs.Contexts.{context_key, new_contexts_apart, same_context-true}
use Rattle.vx_call.proofs.Found.{earlier_name, find_front, find_none, find_neither}
use Rattle.vx_call.proofs.Gone.{deployment_key}
use Rattle.vx_call.proofs.Once.{any_none}
use Rattle.vx_life_rows.proofs.Lists.{or_false, or_none, or_more, or_second, any_fewer, not_so}
use Rattle.vx_life_rows.proofs.Bridge.{same_id}
use Rattle.vx_life_rows.proofs.Facts.{was_made, new_deployments, deployments_earlier, deployments-append, stays_made, contexts_now, awaited_made}
use Rattle.vx_life_rows.proofs.Left.{start_is}
use Rattle.vx_life_rows.proofs.Asked.{made_earlier}
use Rattle.vx_life_rows.proofs.RowComing.{result_as}
use Rattle.vx_life.specs.Stores.{LifeStore}
use Rattle.vx_life.specs.Stands.{PartsStand}
use Rattle.vx_life_rows.specs.Tasks.{task_in, is_of_lives}
use Rattle.vx_life_rows.proofs.RowDeploy.{MayBeAbove, any_there, failed_start, holder_above}
use Rattle.vx_life_rows.proofs.Parts.{failures}
use Rattle.vx_life_rows.proofs.Begins.{unasked}

-- ## What is gone stays gone

-- as more are asked to end and fewer contexts are open, and some are deployed below none that was asked
record AreFewer (old new : List Asking) (some left : List Context) (extra : List Deployment) (x : Deployment) : Type 0 where
  pub asked : list_any (is_asking_of x.id) old ≡ true → list_any (is_asking_of x.id) new ≡ true
  pub opens : has_open left x.id ≡ true → has_open some x.id ≡ true
  pub above : list_any (is_child_of x.id) extra ≡ true → list_any (is_asking_of x.id) old ≡ false

or_false_both : (a b : Bool) → a ≡ false → b ≡ false → (a || b) ≡ false
or_false_both true b h k = absurd cc
or_false_both false b h k = k

-- it stays before, where it stays behind
stays_before : (asked_old asked_new open_old open_new child_old child_new extra : Bool) → (asked_old ≡ true → asked_new ≡ true) → (open_new ≡ true → open_old ≡ true) → (extra ≡ true → asked_old ≡ false) → (extra ≡ false → child_new ≡ true → child_old ≡ true) →
    (not asked_new || (open_new || child_new)) ≡ true → (not asked_old || (open_old || child_old)) ≡ true
stays_before false asked_new open_old open_new child_old child_new extra asked opens above children h = refl
stays_before true false open_old open_new child_old child_new extra asked opens above children h = absurd (let e : false ≡ true = asked refl in cc)
stays_before true true open_old true child_old child_new extra asked opens above children h = ap (λ b. b || child_old) (opens refl)
stays_before true true open_old false child_old child_new true asked opens above children h = absurd (let e : true ≡ false = above refl in cc)
stays_before true true open_old false child_old child_new false asked opens above children h = or_second open_old child_old (children refl h)

module _ (old new : List Asking) (some left : List Context) (extra : List Deployment) where
  fewer_there : (ds : List Deployment) → Each (AreFewer old new some left extra) ds → (p : Deployment → Bool) → list_any p extra ≡ false → list_any p (there_of new left (ds ++ extra)) ≡ true → list_any p (there_of old some ds) ≡ true
  fewer_there [] fewer p none any = absurd (let e : true ≡ false = sym (any_there p new left extra any) ∙ none in cc)
  fewer_there (x ∷ ds) fewer p none any =
      let now = there_of new left (ds ++ extra) in
      let before = there_of old some ds in
      elim (stays new left x now) as (λ b. stays new left x now ≡ b → list_any p (cond b (x ∷ now) now) ≡ true → list_any p (cond (stays old some x before) (x ∷ before) before) ≡ true) [
        | true ↦ λ is h.
            (let stayed : stays old some x before ≡ true =
            stays_before (list_any (is_asking_of x.id) old) (list_any (is_asking_of x.id) new) (has_open some x.id) (has_open left x.id) (list_any (is_child_of x.id) before) (list_any (is_child_of x.id) now) (list_any (is_child_of x.id) extra)
            fewer.0.asked fewer.0.opens fewer.0.above (λ nobody child. fewer_there ds fewer.1 (is_child_of x.id) nobody child) is in
            ap (λ b. list_any p (cond b (x ∷ before) before)) stayed ∙ or_more (p x) (list_any p now) (list_any p before) (fewer_there ds fewer.1 p none) h)
        | false ↦ λ is h.
            (let rest = fewer_there ds fewer.1 p none h in
            elim (stays old some x before) as (λ b. list_any p (cond b (x ∷ before) before) ≡ true) [ true ↦ or_second (p x) (list_any p before) rest | false ↦ rest ])
      ] refl any

-- what an entry opens is of no deployment before
opened_other : (history : List Traced) (new : Traced) (id : DeploymentId) → id.0.0 < length history → has_open (open_contexts (history ++ new ∷ [])) id ≡ true → has_open (open_contexts history) id ≡ true
opened_other history new id before any =
    let p : Context → Bool = λ c. is_instance_of id c.id in
    let left = filter (λ c. not (ended_by open_context_kind history new c)) (open_contexts history) in
    let none : list_any p (made_by open_context_kind history new) ≡ false =
    any_none p (made_by open_context_kind history new)
    (weaken (λ c. context_key c ≡ length history) (λ c. p c ≡ false) (made_by open_context_kind history new) (λ c now. earlier_name id.0.0 c.id.entry.0 (let e : c.id.entry.0 ≡ length history = now in omega arith)) (new_contexts_apart history new).keyed) in
    any_fewer p (λ c. not (ended_by open_context_kind history new c)) (open_contexts history)
    (sym (or_false (list_any p left)) ∙ ap (λ b. list_any p left || b) (sym none) ∙ sym (list_any-append p left (made_by open_context_kind history new)) ∙ ap (list_any p) (sym (lasting-append open_context_kind history new)) ∙ any)

asked_still : (history : List Traced) (new : Traced) (id : DeploymentId) → list_any (is_asking_of id) (askings history) ≡ true → list_any (is_asking_of id) (askings (history ++ new ∷ [])) ≡ true
asked_still history new id asked =
    ap (list_any (is_asking_of id)) (lasting_more asking_kind history new (λ a. and_false (is_accepted new.entry.reply))) ∙ list_any-append (is_asking_of id) (askings history) (made_by asking_kind history new)
    ∙ ap (λ b. b || list_any (is_asking_of id) (made_by asking_kind history new)) asked

-- what a Deploy that is accepted is below was not asked to end
child_of : (history : List Traced) (x : Deployment) (o : Option DeploymentId) → MayBeAbove history o → is_among (x.id ∷ []) o ≡ true → list_any (is_asking_of x.id) (askings history) ≡ false
child_of history x None may child = absurd cc
child_of history x (Some parent) may child = ap (λ i. list_any (is_asking_of i) (askings history)) (sym (same_id parent x.id (sym (or_false (same_deployment parent x.id)) ∙ child))) ∙ may.1

made_above : (history : List Traced) (pass : PassNo) (call : Call) (x : Deployment) → is_accepted (answer history pass call) ≡ true → list_any (is_child_of x.id) (deployment_made history pass call) ≡ true → list_any (is_asking_of x.id) (askings history) ≡ false
made_above history pass (calls.Deploy worker pool tell count) x ok child =
    child_of history x (held_deployment history pass) (holder_above history pass (unasked history pass worker pool tell count ok)) (sym (or_false (is_among (x.id ∷ []) (held_deployment history pass))) ∙ child)
made_above history pass _ x ok child = absurd cc

made_above_if : (history : List Traced) (new : Traced) (x : Deployment) → MayFollow history new → list_any (is_child_of x.id) (made_by deployment_kind history new) ≡ true → list_any (is_asking_of x.id) (askings history) ≡ false
made_above_if history new x may =
    elim (is_accepted new.entry.reply) as (λ b. is_accepted new.entry.reply ≡ b → list_any (is_child_of x.id) (cond b (deployment_made history new.entry.pass new.entry.call) []) ≡ true → list_any (is_asking_of x.id) (askings history) ≡ false) [
      | true ↦ λ ok child. made_above history new.entry.pass new.entry.call x (ap is_accepted (sym may.answered) ∙ ok) child
      | false ↦ λ refused child. absurd cc
    ] refl

new_other : (history : List Traced) (new : Traced) (id : DeploymentId) → id.0.0 < length history → list_any (is_deployment id) (made_by deployment_kind history new) ≡ false
new_other history new id before =
    any_none (is_deployment id) (made_by deployment_kind history new)
    (weaken (λ d. deployment_key d ≡ length history) (λ d. is_deployment id d ≡ false) (made_by deployment_kind history new) (λ d now. earlier_name id.0.0 d.id.0.0 (let e : d.id.0.0 ≡ length history = now in omega arith)) (new_deployments history new))

gone_stays : (history : List Traced) (new : Traced) (id : DeploymentId) → MayFollow history new → id.0.0 < length history → is_gone history id ≡ true → is_gone (history ++ new ∷ []) id ≡ true
gone_stays history new id may before gone =
    let after = history ++ new ∷ [] in
    let extra = made_by deployment_kind history new in
    let fewer : Each (AreFewer (askings history) (askings after) (open_contexts history) (open_contexts after) extra) (deployments history) =
    weaken (λ d. deployment_key d < length history) (AreFewer (askings history) (askings after) (open_contexts history) (open_contexts after) extra) (deployments history)
    (λ d less. record { asked = asked_still history new d.id; opens = opened_other history new d.id less; above = made_above_if history new d may }) (deployments_earlier history) in
    ap not (not_so (list_any (is_deployment id) (there after)) (λ here.
    let was : list_any (is_deployment id) (there history) ≡ true =
    fewer_there (askings history) (askings after) (open_contexts history) (open_contexts after) extra (deployments history) fewer (is_deployment id) (new_other history new id before)
    (ap (λ ds. list_any (is_deployment id) (there_of (askings after) (open_contexts after) ds)) (sym (deployments-append history new)) ∙ here) in
    let e : false ≡ true = ap not (sym was) ∙ gone in cc))

-- ## The result stays

-- no start of it is pending any more
pending_none : (history : List Traced) (new : Traced) (id : DeploymentId) → id.0.0 < length history → list_any (is_instance_of id) (unstarted history) ≡ false → list_any (is_instance_of id) (unstarted (history ++ new ∷ [])) ≡ false
pending_none history new id before none =
    ap (list_any (is_instance_of id)) (lasting-append unstarted_kind history new)
    ∙ list_any-append (is_instance_of id) (filter (λ c. not (ended_by unstarted_kind history new c)) (unstarted history)) (made_by unstarted_kind history new)
    ∙ or_false_both (list_any (is_instance_of id) (filter (λ c. not (ended_by unstarted_kind history new c)) (unstarted history))) (list_any (is_instance_of id) (made_by unstarted_kind history new))
    (not_so (list_any (is_instance_of id) (filter (λ c. not (ended_by unstarted_kind history new c)) (unstarted history)))
    (λ any. let e : true ≡ false = sym (any_fewer (is_instance_of id) (λ c. not (ended_by unstarted_kind history new c)) (unstarted history) any) ∙ none in cc))
    (any_none (is_instance_of id) (made_by unstarted_kind history new)
    (accepted (λ (c : ContextId). is_instance_of id c ≡ false) (is_accepted new.entry.reply) _
    (λ ok. weaken (λ (c : ContextId). c.entry.0 ≡ length history) (λ (c : ContextId). is_instance_of id c ≡ false) _ (λ c now. earlier_name id.0.0 c.entry.0 (let e : c.entry.0 ≡ length history = now in omega arith)) (contexts_now history new.entry.call))))

-- so none of its starts fails
instance_among : (id : DeploymentId) (context : ContextId) (cs : List ContextId) → list_any (same_context context) cs ≡ true → list_any (is_instance_of id) cs ≡ false → is_instance_of id context ≡ false
instance_among id context [] among none = absurd cc
instance_among id context (c ∷ cs) among none =
    let both = or_none (is_instance_of id c) (list_any (is_instance_of id) cs) none in
    elim (same_context context c) as (λ b. same_context context c ≡ b → (b || list_any (same_context context) cs) ≡ true → is_instance_of id context ≡ false) [
      | true ↦ λ same h. ap (is_instance_of id) (same_context-true context c same) ∙ both.0
      | false ↦ λ other h. instance_among id context cs h both.1
    ] refl among

none_fails : (id : DeploymentId) (o : Option Ending) → ((one : Ending) → o ≡ Some one → is_instance_of id one.context ≡ false) → Each (λ (f : Failure). same_deployment id f.deployment ≡ false) (option_to_list (option_map failure o))
none_fails id None other = tt
none_fails id (Some one) other = (other one refl, tt)

failures-append : (history : List Traced) (new : Traced) → failures (history ++ new ∷ []) ≡ failures history ++ made_by failure_kind history new
failures-append history new = lasting_more failure_kind history new (λ f. and_false (is_accepted new.entry.reply))

no_failure : (history : List Traced) (new : Traced) (id : DeploymentId) → list_any (is_instance_of id) (unstarted history) ≡ false → first_failure history id ≡ None → first_failure (history ++ new ∷ []) id ≡ None
no_failure history new id none before =
    ap (find (λ (f : Failure). same_deployment id f.deployment)) (failures-append history new)
    ∙ find_neither (λ (f : Failure). same_deployment id f.deployment) (failures history) (made_by failure_kind history new) before
    (find_none (λ (f : Failure). same_deployment id f.deployment) (made_by failure_kind history new)
    (accepted (λ (f : Failure). same_deployment id f.deployment ≡ false) (is_accepted new.entry.reply) _
    (λ ok. none_fails id (start_failed history new.entry.pass new.entry.call)
    (λ one failed. instance_among id one.context (unstarted history) (start_is history (starter history new.entry.pass new.entry.call) one (failed_start history new.entry.pass new.entry.call one failed)).1 none))))

module _ (history : List Traced) (new : Traced) (may : MayFollow history new) (id : DeploymentId) (before : id.0.0 < length history) where
  result_in : (o : Option Failure) (pending gone : Bool) (result : DoneResult) → first_failure history id ≡ o → list_any (is_instance_of id) (unstarted history) ≡ pending → is_gone history id ≡ gone → deployed_as o pending gone ≡ Some result →
      deploy_result (history ++ new ∷ []) id ≡ Some result
  result_in None true gone result failed pends is_gone_now is = absurd cc
  result_in None false gone result failed pends is_gone_now is =
      ap (λ o. deployed_as o (list_any (is_instance_of id) (unstarted (history ++ new ∷ []))) (is_gone (history ++ new ∷ []) id)) (no_failure history new id pends failed)
      ∙ ap (λ b. cond b None (Some results.Ok)) (pending_none history new id before pends) ∙ is
  result_in (Some f) pending false result failed pends is_gone_now is = absurd cc
  result_in (Some f) pending true result failed pends is_gone_now is =
      ap (λ o. deployed_as o (list_any (is_instance_of id) (unstarted (history ++ new ∷ []))) (is_gone (history ++ new ∷ []) id))
      (ap (find (λ (g : Failure). same_deployment id g.deployment)) (failures-append history new) ∙ find_front (λ (g : Failure). same_deployment id g.deployment) (failures history) (made_by failure_kind history new) f failed)
      ∙ ap (λ b. cond b (Some f.result) None) (gone_stays history new id may before is_gone_now) ∙ is

  -- how deploying ended stays so
  pub result_stays : (result : DoneResult) → deploy_result history id ≡ Some result → deploy_result (history ++ new ∷ []) id ≡ Some result
  result_stays result is = result_in (first_failure history id) (list_any (is_instance_of id) (unstarted history)) (is_gone history id) result refl refl refl is

-- ## A task that waits for it

-- the end of deploying has the result that the history has
abbrev pub HasResult : List Traced → Task → Type 0
HasResult history (tasks.DeployEnd id result) = (was_made history id ≡ true) × (deploy_result history id ≡ Some result)
HasResult history _ = Unit {0}

keeps_result : (history : List Traced) (new : Traced) (task : Task) → MayFollow history new → HasResult history task → HasResult (history ++ new ∷ []) task
keeps_result history new (tasks.DeployEnd id result) may has = (stays_made history new id has.0, result_stays history new may id (made_earlier history id has.0) result has.1)
keeps_result history new _ may has = tt

abbrev ReadyHas : List Traced → Ready → Type 0
ReadyHas history ready = HasResult history ready.task

abbrev ItemHas : List Traced → Waiting → Type 0
ItemHas history item = HasResult history item.task

placed_has : (history after : List Traced) (place : ℕ) (all : List Ready) → Each (ReadyHas after) all → Each (ItemHas after) (placed history place all)
placed_has history after place [] each = tt
placed_has history after place (ready ∷ others) each = (each.0, placed_has history after (place + 1) others each.1)

each_mapped : {A : Type 0} (P : Ready → Type 0) (f : A → Ready) → ((x : A) → P (f x)) → (all : List A) → Each P (map f all)
each_mapped P f holds [] = tt
each_mapped P f holds (x ∷ xs) = (holds x, each_mapped P f holds xs)

each_flat : {A : Type 0} (P : Ready → Type 0) (f : A → List Ready) → ((x : A) → Each P (f x)) → (all : List A) → Each P (flat_map f all)
each_flat P f holds [] = tt
each_flat P f holds (x ∷ xs) = Each-append P (f x) (flat_map f xs) (holds x) (each_flat P f holds xs)

each_flat_of : {A : Type 0} (Q : A → Type 0) (P : Ready → Type 0) (f : A → List Ready) → ((x : A) → Q x → Each P (f x)) → (all : List A) → Each Q all → Each P (flat_map f all)
each_flat_of Q P f holds [] each = tt
each_flat_of Q P f holds (x ∷ xs) each = Each-append P (f x) (flat_map f xs) (holds x each.0) (each_flat_of Q P f holds xs each.1)

told_has : (after : List Traced) (id : DeploymentId) (context : Option ContextId) (o : Option DoneResult) → was_made after id ≡ true → deploy_result after id ≡ o → Each (ReadyHas after) (deploy_told id context o)
told_has after id (Some context) (Some result) before is = ((before, is), tt)
told_has after id _ _ before is = tt

coming_each : {A : Type 0} (P : A → Type 0) (kind : Kind A) (came : List Traced → A → Bool) (history : List Traced) (new : Traced) (b : Bool) → Each P (lasting kind history) → Each P (coming_if kind came history new b)
coming_each P kind came history new false each = tt
coming_each P kind came history new true each = Each-filter P P (came (history ++ new ∷ [])) (lasting kind history) (λ x passes holds. holds) each

life_has : (history : List Traced) (new : Traced) → Each (ReadyHas (history ++ new ∷ [])) (life_tasks history new)
life_has history new =
    let after = history ++ new ∷ [] in
    let P : Ready → Type 0 = ReadyHas after in
    Each-filter P P (λ (one : Ready). is_open_in (open_contexts after) one.context) _ (λ ready passes has. has)
    (Each-append P (ready_outcomes (heard (settled_made history new.entry.pass new.entry.call new.mark.deed))) _ (each_mapped P (λ (h : Heard). record { context = h.context; task = tasks.Outcome h.request h.outcome }) (λ h. tt) _)
    (Each-append P (deploy_ends history new) _
    (each_flat_of (λ id. was_made after id ≡ true) P (deploy_end after) (λ id made. told_has after id (told_in (lasting deploy_tell_kind after) id) (deploy_result after id) made refl) (coming deployed_ids is_deployed history new)
    (coming_each (λ id. was_made after id ≡ true) (awaited deployed_ids is_deployed) is_deployed history new (moves_on history new.entry.pass new.entry.call)
    (weaken (λ id. was_made history id ≡ true) (λ id. was_made after id ≡ true) (lasting (awaited deployed_ids is_deployed) history) (λ id made. stays_made history new id made) (awaited_made is_deployed history))))
    (Each-append P (undeploy_ends history new) (stops history new)
    (each_flat P (undeploy_end after) (λ id. each_mapped P (λ context. record { context = context; task = tasks.UndeployEnd id }) (λ c. tt) (option_to_list (told_in (lasting undeploy_tell_kind after) id))) (coming deployed_ids is_gone history new))
    (each_mapped P (λ context. record { context = context; task = tasks.Stop context }) (λ c. tt) (coming deployed_contexts stops_now history new)))))

-- ## All that an entry makes ready

deliveries_has : (history after : List Traced) (message : Message) (place : ℕ) (all : List Home) → Each (ItemHas after) (deliveries history message place all)
deliveries_has history after message place [] = tt
deliveries_has history after message place (home ∷ others) = (tt, deliveries_has history after message (place + 1) others)

delivered_has : (history after : List Traced) (o : Option Message) (all : List Home) → Each (ItemHas after) (delivered history o all)
delivered_has history after None all = tt
delivered_has history after (Some message) all = deliveries_has history after message 0 all

outcomes_has : (after : List Traced) (place : ℕ) (all : List Heard) → Each (ItemHas after) (outcome_items place all)
outcomes_has after place [] = tt
outcomes_has after place (h ∷ others) = (tt, outcomes_has after (place + 1) others)

bus_has : (history : List Traced) (new : Traced) (call : Call) → Each (ItemHas (history ++ new ∷ [])) (delivered history (received history call new.mark.deed) (homes (readied history call new.mark.deed)) ++ outcome_items 0 (heard (settled_made history new.entry.pass call new.mark.deed)))
bus_has history new call =
    let after = history ++ new ∷ [] in
    Each-append (ItemHas after) (delivered history (received history call new.mark.deed) (homes (readied history call new.mark.deed))) (outcome_items 0 (heard (settled_made history new.entry.pass call new.mark.deed)))
    (delivered_has history after (received history call new.mark.deed) (homes (readied history call new.mark.deed))) (outcomes_has after 0 (heard (settled_made history new.entry.pass call new.mark.deed)))

for_has : (after : List Traced) (id : ConsumerId) (task : Task) → is_for id task ≡ true → HasResult after task
for_has after id (tasks.DeployEnd deployment result) mine = absurd cc
for_has after id _ mine = tt

ready_has : (history after : List Traced) (context : ContextId) (place : ℕ) (all : List Task) → Each (HasResult after) all → Each (ItemHas after) (made_ready history context place all)
ready_has history after context place [] each = tt
ready_has history after context place (task ∷ others) each = (each.0, ready_has history after context (place + 1) others each.1)

ready_for_has : (history after : List Traced) (o : Option ContextId) (all : List Task) → Each (HasResult after) all → Each (ItemHas after) (ready_for history o all)
ready_for_has history after None all each = tt
ready_for_has history after (Some context) all each = ready_has history after context 0 all each

freed_has : (history after : List Traced) (room : Consumer → Option ℕ) (o : Option Consumer) → Each (ItemHas after) (freed_by (λ consumer. freed_items history (room consumer) consumer) o)
freed_has history after room None = tt
freed_has history after room (Some consumer) =
    let ready = length (mailbox history consumer).ready in
    let count = freed (room consumer) (length (mailbox history consumer).held) in
    let own = filter (is_for consumer.id) (untaken history) in
    ready_for_has history after (context_owning consumer.owner) (take count (held_tasks history consumer))
    (Each-take (HasResult after) count (drop ready own)
    (Each-drop (HasResult after) ready own (weaken (λ task. is_for consumer.id task ≡ true) (HasResult after) own (λ task mine. for_has after consumer.id task mine) (passing (is_for consumer.id) (untaken history)))))

end_has : (after : List Traced) (await : Await) (o : Option Completion) → Each (ReadyHas after) (end_for await o)
end_has after await None = tt
end_has after await (Some completion) = (tt, tt)

connected_has : (history after : List Traced) (o : Option Server) → Each (ReadyHas after) (connected history o)
connected_has history after None = tt
connected_has history after (Some server) = (tt, tt)

-- of what is due, nothing tells of the lives of verticles
abbrev DueHas : List Traced → Due → Type 0
DueHas after due = HasResult after due.task

put_has : (after : List Traced) (due : Due) (all : List Due) → DueHas after due → Each (DueHas after) all → Each (DueHas after) (put_due due all)
put_has after due [] has each = (has, tt)
put_has after due (other ∷ others) has each =
    elim (is_before due other) as (λ b. Each (DueHas after) (cond b (due ∷ other ∷ others) (other ∷ put_due due others))) [
      | true ↦ (has, each)
      | false ↦ (each.0, put_has after due others has each.1)
    ]

order_has : (after : List Traced) (all : List Due) → Each (DueHas after) all → Each (DueHas after) (in_order all)
order_has after [] each = tt
order_has after (due ∷ others) each = put_has after due (in_order others) each.0 (order_has after others each.1)

fires_has : (after : List Traced) (moment : ℕ) (all : List Timer) → Each (DueHas after) (map (due_fire moment) all)
fires_has after moment [] = tt
fires_has after moment (timer ∷ others) = (tt, fires_has after moment others)

times_has : (after : List Traced) (all : List Open) → Each (DueHas after) (filter_map due_request all)
times_has after [] = tt
times_has after (request ∷ others) =
    let rest = times_has after others in
    elim (context_asking request.asker) as (λ o. Each (DueHas after) (cons_option (option_map (due_task request) o) (filter_map due_request others))) [
      | None ↦ rest
      | Some context ↦ (tt, rest)
    ]

dues_has : (after : List Traced) (all : List Due) → Each (DueHas after) all → Each (ReadyHas after) (ready_due all)
dues_has after [] each = tt
dues_has after (due ∷ others) each = (each.0, dues_has after others each.1)

items_has : (history : List Traced) (new : Traced) (call : Call) → Each (ItemHas (history ++ new ∷ [])) (item_by history new call)
items_has history new (calls.Resume id) = freed_has history (history ++ new ∷ []) (λ consumer. None) (live history id)
items_has history new (calls.Fetch id count) = freed_has history (history ++ new ∷ []) (λ consumer. room_more count (mailbox history consumer).room) (live history id)
items_has history new (calls.Deploy worker pool tell count) =
    placed_has history (history ++ new ∷ []) 0 (starts history (calls.Deploy worker pool tell count)) (each_mapped (ReadyHas (history ++ new ∷ [])) (λ context. record { context = context; task = tasks.Start context }) (λ c. tt) (deployed_contexts history (calls.Deploy worker pool tell count)))
items_has history new (calls.Undeploy deployment tell) = placed_has history (history ++ new ∷ []) 0 (life_tasks history new) (life_has history new)
items_has history new (calls.StartDone result) = placed_has history (history ++ new ∷ []) 0 (life_tasks history new) (life_has history new)
items_has history new calls.StopDone = placed_has history (history ++ new ∷ []) 0 (life_tasks history new) (life_has history new)
items_has history new (calls.Finish end) =
    let P : Ready → Type 0 = ReadyHas (history ++ new ∷ []) in
    let done : List Ready = open_ones (open_contexts history) (jobs_done end (jobs_ended history new.entry.pass (calls.Finish end))) in
    placed_has history (history ++ new ∷ []) 0 (done ++ life_tasks history new)
    (Each-append P done (life_tasks history new)
    (Each-filter P P (λ (one : Ready). is_open_in (open_contexts history) one.context) (jobs_done end (jobs_ended history new.entry.pass (calls.Finish end))) (λ ready passes has. has)
    (each_mapped P (job_done end) (λ queued. tt) (jobs_ended history new.entry.pass (calls.Finish end)))) (life_has history new))
items_has history new (calls.RunOn context once) = placed_has history (history ++ new ∷ []) 0 (record { context = context; task = tasks.Run (next_queued history) } ∷ []) (tt, tt)
items_has history new (calls.Blocking context ordered once) = placed_has history (history ++ new ∷ []) 0 (record { context = context; task = tasks.Job (next_queued history) } ∷ []) (tt, tt)
items_has history new (calls.Complete id value) =
    placed_has history (history ++ new ∷ []) 0 (promise_ends history new)
    (each_flat (ReadyHas (history ++ new ∷ [])) (promise_end (completions (history ++ new ∷ []))) (λ await. end_has (history ++ new ∷ []) await (completion_in (completions (history ++ new ∷ [])) await.promise)) (waits history))
items_has history new (calls.FailPromise id code) =
    placed_has history (history ++ new ∷ []) 0 (promise_ends history new)
    (each_flat (ReadyHas (history ++ new ∷ [])) (promise_end (completions (history ++ new ∷ []))) (λ await. end_has (history ++ new ∷ []) await (completion_in (completions (history ++ new ∷ [])) await.promise)) (waits history))
items_has history new (calls.Await context promise) =
    placed_has history (history ++ new ∷ []) 0 (promise_ended history (calls.Await context promise))
    (each_flat (ReadyHas (history ++ new ∷ [])) (promise_end (completions history)) (λ await. end_has (history ++ new ∷ []) await (completion_in (completions history) await.promise)) (await_made history (calls.Await context promise)))
items_has history new (calls.Accepted id) = placed_has history (history ++ new ∷ []) 0 (connected history (connecting history id)) (connected_has history (history ++ new ∷ []) (connecting history id))
items_has history new (calls.Advance moment) =
    let after = history ++ new ∷ [] in
    placed_has history after 0 (ready_due (dues history new.entry.pass moment))
    (dues_has after (dues history new.entry.pass moment)
    (order_has after (map (due_fire (now history)) (firing history moment) ++ filter_map due_request (settled_by history new.entry.pass (calls.Advance moment) deeds.Nothing))
    (Each-append (DueHas after) (map (due_fire (now history)) (firing history moment)) (filter_map due_request (settled_by history new.entry.pass (calls.Advance moment) deeds.Nothing))
    (fires_has after (now history) (firing history moment)) (times_has after (settled_by history new.entry.pass (calls.Advance moment) deeds.Nothing)))))
items_has history new call = bus_has history new call

-- in a legal history each end of deploying that waits has the result that the history has
pub waiting_results : (history : List Traced) → IsLegal history → Each (λ (item : Waiting). HasResult history item.task) (waiting history)
waiting_results =
    by_entries (λ history. IsLegal history → Each (ItemHas history) (waiting history))
    (λ legal. let P : List Waiting → Type 0 = Each (ItemHas []) in subst P (sym (lasting_none item_kind)) tt)
    (λ history new before legal.
    let after = history ++ new ∷ [] in
    let P : List Waiting → Type 0 = Each (ItemHas after) in
    let may = legal history new [] refl in
    subst P (sym (lasting-append item_kind history new))
    (Each-append (ItemHas after) (filter (λ item. not (ended_by item_kind history new item)) (waiting history)) (made_by item_kind history new)
    (Each-filter (ItemHas history) (ItemHas after) (λ item. not (ended_by item_kind history new item)) (waiting history) (λ item stays has. keeps_result history new item.task may has) (before (legal_front history (new ∷ []) legal)))
    (accepted (ItemHas after) (is_accepted new.entry.reply) (item_by history new new.entry.call) (λ ok. items_has history new new.entry.call))))

-- the store has the task of each item that waits and tells of the lives of verticles
its_task : (life : LifeStore) (history : List Traced) (task : Task) → PartsStand life history → HasResult history task → is_of_lives task ≡ true → task_in life (kind_of task) ≡ Some task
its_task life history (tasks.Start context) parts has lives = refl
its_task life history (tasks.Stop context) parts has lives = refl
its_task life history (tasks.UndeployEnd id) parts has lives = refl
its_task life history (tasks.DeployEnd id result) parts has lives = ap (option_map (λ (r : DoneResult). tasks.DeployEnd id r)) (result_as life history parts id has.0 ∙ has.1)
its_task life history _ parts has lives = absurd cc

pub waiting_tasks : (life : LifeStore) (history : List Traced) → IsLegal history → PartsStand life history → Each (λ (item : Waiting). is_of_lives item.task ≡ true → task_in life (kind_of item.task) ≡ Some item.task) (waiting history)
waiting_tasks life history legal parts =
    weaken (ItemHas history) (λ (item : Waiting). is_of_lives item.task ≡ true → task_in life (kind_of item.task) ≡ Some item.task) (waiting history)
    (λ item has lives. its_task life history item.task parts has lives) (waiting_results history legal)

-- ## A stop that waits

stop_known : (history : List Traced) (task : Task) (context : ContextId) → IsKnownItem history task → task ≡ tasks.Stop context → context.entry.0 < length history
stop_known history task context known is = let k : IsKnownItem history (tasks.Stop context) = subst (IsKnownItem history) is known in k.0

-- its context was made by an entry before
pub waiting_stops : (history : List Traced) → Each (λ (item : Waiting). (context : ContextId) → item.task ≡ tasks.Stop context → context.entry.0 < length history) (waiting history)
waiting_stops history =
    weaken (λ (item : Waiting). IsKnownItem history item.task) (λ (item : Waiting). (context : ContextId) → item.task ≡ tasks.Stop context → context.entry.0 < length history) (waiting history)
    (λ item known context is. stop_known history item.task context known is) (waiting_known history)
