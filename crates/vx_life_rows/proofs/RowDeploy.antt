-- Deploy.
use Rattle.std.proofs.Common.{◌≡◌, ℕ, zero, suc, ◌+◌, ◌<◌, List, [], ◌∷◌, ◌++◌, length, refl, ap, sym, ◌∙◌, subst, append-nil, arith}
use Rattle.std.specs.Prelude.{ℤ, Bool, true, false, not, ◌||◌, ◌&&◌, ◌==◌, cond, fold, filter, find, map, is_some, is_none, All, Option, None, Some}
use Rattle.std.specs.List.{list_any}
use Rattle.std.specs.Option.{option_map, option_or, option_and_then, option_to_list}
use Rattle.std.proofs.lemmas.Bool.{eq-eqb}
use Rattle.std.proofs.lemmas.Grind.{fold-append}
use Rattle.std.proofs.lemmas.List.{map-append, length_push}
use Rattle.std.proofs.lemmas.List.Elements.{filter-append}
use Rattle.std.proofs.lemmas.List.Folds.{list_any-append, find-append}
use Rattle.vx_data.specs.declared.ids.ContextId.{ContextId}
use Rattle.vx_data.specs.declared.ids.DeploymentId.{DeploymentId}
use Rattle.vx_data.specs.declared.ids.EntryNo.{EntryNo}
use Rattle.vx_data.specs.declared.ids.PassNo.{PassNo}
use Rattle.vx_data.specs.Ids.{same_context, same_deployment}
use Rattle.vx_message.specs.declared.Context.{Context}
use Rattle.vx_message.specs.declared.DoneResult.{DoneResult}
use Rattle.vx_message.specs.declared.DoneResult.TheVariants as results
use Rattle.vx_tree.specs.declared.node.Node.{Node}
use Rattle.vx_tree.specs.Nodes as tree
use Rattle.vx_call.specs.declared.call.Call.{Call}
use Rattle.vx_call.specs.declared.call.Call.TheVariants as calls
use Rattle.vx_call.specs.declared.history.Mark.{Mark}
use Rattle.vx_call.specs.declared.history.Traced.{Traced}
use Rattle.vx_call.specs.declared.reply.Reply.{Reply}
use Rattle.vx_call.specs.History.{is_accepted, lasting}
use Rattle.vx_call.specs.Names.{next_deployment}
use Rattle.vx_call.specs.Loops.{standard_made, standard_kind, standard_instances}
use Rattle.vx_call.specs.Contexts.{instances, context_kind, contexts, is_context_of}
use Rattle.vx_call.specs.Deployments.{Deployment, is_among, held_deployment, deployment_kind, deployments, deployed_ids}
use Rattle.vx_call.specs.Tells.{Tell, deploy_tell, deploy_tell_kind, undeploy_tell_kind, told_in}
use Rattle.vx_call.specs.Starts.{Ending, failure_in, ids_of_contexts, deployed_contexts, unstarted_kind, unstopped_kind, unstarted, unstopped, starter, start_ended, start_failed}
use Rattle.vx_call.specs.Stopping.{stop_kind}
use Rattle.vx_call.specs.Closings.{open_context_kind, open_contexts, is_open}
use Rattle.vx_call.specs.Askings.{Asking, askings, asked_at, is_asking_of}
use Rattle.vx_call.specs.There.{is_deployment, is_instance_of, has_open, is_child_of, stays, with_staying, there_of, there}
use Rattle.vx_call.specs.Ends.{Failure, failure, failure_kind, is_deployed, stops_now}
use Rattle.vx_call.specs.There.{is_gone}
use Rattle.vx_call.specs.Coming.{awaited}
use Rattle.vx_call.specs.Refusals as machine
use Rattle.vx_call.proofs.Each.{Each, Each-map, weaken, accepted, lasting_each}
use Rattle.vx_call.proofs.Apart.{lasting_earlier}
use Rattle.vx_call.proofs.Contexts.{context_key, instances_keyed, same_context-self, same_context-true}
use Rattle.vx_call.proofs.Filters.{filter_every}
use Rattle.vx_call.proofs.Found.{earlier_name, later_name, find_none}
use Rattle.vx_call.proofs.Gone.{deployment_key, there_while}
use Rattle.vx_call.proofs.Once.{any_none, each_any}
use Rattle.vx_life.specs.declared.record.DeploymentRecord.{DeploymentRecord}
use Rattle.vx_life.specs.declared.stop.Stop.{Stop}
use Rattle.vx_life.specs.Stores.{LifeStore, untaken, stops_of}
use Rattle.vx_life.specs.Steps.{Deploys}
use Rattle.vx_life.specs.Stands.{node_of, verticles_of, stop_of, record_of, AreEarlier, PartsStand, LifeStands}
use Rattle.vx_life_rows.specs.Moves.{entry_of}
use Rattle.vx_life_rows.proofs.Lists.{or_false, or_more, or_second, all_each, map_each, some_found}
use Rattle.vx_life_rows.proofs.Bridge.{asked_in, same_id, is_there as there_same}
use Rattle.vx_life_rows.proofs.Facts.{was_made, deployments_earlier, held_deployment_made, unstarted_earlier, awaited_earlier}
use Rattle.vx_life_rows.proofs.Left.{kind_more, still_earlier, start_is}
use Rattle.vx_life_rows.proofs.Opens.{verticles-append, same_open}
use Rattle.vx_life_rows.proofs.Parts.{stop_with, loops_left, taken_left, closed_left, gone_told_left, record_with, failures, failures_left, askings_left}

-- ## The instances

pub names_of : (history : List Traced) (worker : Bool) (pool : Option (List ℕ)) (first count : ℕ) → ids_of_contexts (instances history worker pool first count) ≡ tree.contexts_of (next_deployment history) first count
names_of history worker pool first zero = refl
names_of history worker pool first (suc more) = ap (λ ids. record { entry = (next_deployment history).0; instance = first } ∷ ids) (names_of history worker pool (first + 1) more)

all_own : (history : List Traced) (worker : Bool) (pool : Option (List ℕ)) (first count : ℕ) → Each (λ (c : Context). is_none c.maker ≡ true) (instances history worker pool first count)
all_own history worker pool first zero = tt
all_own history worker pool first (suc more) = (refl, all_own history worker pool (first + 1) more)

pub instances_own : (history : List Traced) (worker : Bool) (pool : Option (List ℕ)) (count : ℕ) → verticles_of (instances history worker pool 0 count) ≡ tree.contexts_of (next_deployment history) 0 count
instances_own history worker pool count =
    ap ids_of_contexts (filter_every (λ (c : Context). is_none c.maker) (instances history worker pool 0 count) (all_own history worker pool 0 count)) ∙ names_of history worker pool 0 count

keyed_names : (id : DeploymentId) (first count : ℕ) → Each (λ (c : ContextId). c.entry.0 ≡ id.0.0) (tree.contexts_of id first count)
keyed_names id first zero = tt
keyed_names id first (suc more) = (refl, keyed_names id (first + 1) more)

-- ## There

-- one deployment more, whose parent was not asked to end, and contexts of it
there_grown : (asked : List Asking) (old made : List Context) (d : Deployment) (ds : List Deployment) → list_any (is_asking_of d.id) asked ≡ false →
    Each (λ (x : Deployment). list_any (λ (c : Context). is_instance_of x.id c.id) made ≡ false) ds → Each (λ (x : Deployment). is_child_of x.id d ≡ true → list_any (is_asking_of x.id) asked ≡ false) ds →
    there_of asked (old ++ made) (ds ++ d ∷ []) ≡ there_of asked old ds ++ d ∷ []
there_grown asked old made d [] free others parents = ap (λ b. cond (not b || (has_open (old ++ made) d.id || false)) (d ∷ []) []) free
there_grown asked old made d (x ∷ ds) free others parents =
    let rest = there_of asked old ds in
    let opens : has_open (old ++ made) x.id ≡ has_open old x.id =
    list_any-append (λ (c : Context). is_instance_of x.id c.id) old made ∙ ap (λ b. has_open old x.id || b) others.0 ∙ or_false (has_open old x.id) in
    let same : stays asked (old ++ made) x (rest ++ d ∷ []) ≡ stays asked old x rest =
    ap (λ b. not (list_any (is_asking_of x.id) asked) || (b || list_any (is_child_of x.id) (rest ++ d ∷ []))) opens
    ∙ elim (is_child_of x.id d) as (λ b. is_child_of x.id d ≡ b → stays asked old x (rest ++ d ∷ []) ≡ stays asked old x rest) [
      | true ↦ λ child.
          ap (λ b. not b || (has_open old x.id || list_any (is_child_of x.id) (rest ++ d ∷ []))) (parents.0 child) ∙ sym (ap (λ b. not b || (has_open old x.id || list_any (is_child_of x.id) rest)) (parents.0 child))
      | false ↦ λ other.
          ap (λ b. not (list_any (is_asking_of x.id) asked) || (has_open old x.id || b))
          (list_any-append (is_child_of x.id) rest (d ∷ []) ∙ ap (λ b. list_any (is_child_of x.id) rest || (b || false)) other ∙ or_false (list_any (is_child_of x.id) rest))
    ] refl in
    ap (with_staying asked (old ++ made) x) (there_grown asked old made d ds free others.1 parents.1)
    ∙ ap (λ b. cond b (x ∷ (rest ++ d ∷ [])) (rest ++ d ∷ [])) same
    ∙ elim (stays asked old x rest) as (λ b. cond b (x ∷ (rest ++ d ∷ [])) (rest ++ d ∷ []) ≡ cond b (x ∷ rest) rest ++ d ∷ []) [ true ↦ refl | false ↦ refl ]

pub each_there : (P : Deployment → Type 0) (asked : List Asking) (open_ones : List Context) (ds : List Deployment) → Each P ds → Each P (there_of asked open_ones ds)
each_there P asked open_ones [] each = tt
each_there P asked open_ones (d ∷ ds) each =
    elim (stays asked open_ones d (there_of asked open_ones ds)) as (λ b. Each P (cond b (d ∷ there_of asked open_ones ds) (there_of asked open_ones ds))) [
      | true ↦ (each.0, each_there P asked open_ones ds each.1)
      | false ↦ each_there P asked open_ones ds each.1
    ]

pub any_there : (p : Deployment → Bool) (asked : List Asking) (open_ones : List Context) (ds : List Deployment) → list_any p (there_of asked open_ones ds) ≡ true → list_any p ds ≡ true
any_there p asked open_ones [] = λ any. any
any_there p asked open_ones (d ∷ ds) =
    elim (stays asked open_ones d (there_of asked open_ones ds)) as (λ b. list_any p (cond b (d ∷ there_of asked open_ones ds) (there_of asked open_ones ds)) ≡ true → (p d || list_any p ds) ≡ true) [
      | true ↦ or_more (p d) (list_any p (there_of asked open_ones ds)) (list_any p ds) (any_there p asked open_ones ds)
      | false ↦ λ any. or_second (p d) (list_any p ds) (any_there p asked open_ones ds any)
    ]

all_of : (P : Node → Type 0) (nodes : List Node) → Each P nodes → All P nodes
all_of P [] each k d inside = absurd (omega arith)
all_of P (node ∷ nodes) each zero d inside = each.0
all_of P (node ∷ nodes) each (suc k) d inside = all_of P nodes each.1 k d (omega arith)

-- ## The caller's deployment

find_asked : (id : DeploymentId) (all : List Asking) (o : Option Asking) → find (is_asking_of id) all ≡ o → machine.stopping_since (option_map (λ (asking : Asking). asking.at) o) ≡ None → list_any (is_asking_of id) all ≡ false
find_asked id all None found none = sym (some_found (is_asking_of id) all) ∙ ap is_some found
find_asked id all (Some asking) found none = absurd cc

not_asked : (history : List Traced) (id : DeploymentId) → machine.stopping history id ≡ None → list_any (is_asking_of id) (askings history) ≡ false
not_asked history id none = find_asked id (askings history) (find (is_asking_of id) (askings history)) refl none

-- what a deployment may be below: nothing, or one that was made and was not asked to end
abbrev pub MayBeAbove : List Traced → Option DeploymentId → Type 0
MayBeAbove history None = Unit {0}
MayBeAbove history (Some parent) = (was_made history parent ≡ true) × (list_any (is_asking_of parent) (askings history) ≡ false)

may_be_above : (history : List Traced) (pass : PassNo) (o : Option DeploymentId) → held_deployment history pass ≡ o → machine.stopping_if history o ≡ None → MayBeAbove history o
may_be_above history pass None held none = tt
may_be_above history pass (Some parent) held none = (held_deployment_made history pass parent held, not_asked history parent none)

pub holder_above : (history : List Traced) (pass : PassNo) → machine.holder_stopping history pass ≡ None → MayBeAbove history (held_deployment history pass)
holder_above history pass none = may_be_above history pass (held_deployment history pass) refl none

pub any_find : (id : DeploymentId) (P : Deployment → Type 0) (all : List Deployment) → Each P all → list_any (is_deployment id) all ≡ true → (d : Deployment) × P d × (id ≡ d.id)
any_find id P [] each any = absurd cc
any_find id P (d ∷ ds) each any =
    elim (is_deployment id d) as (λ b. is_deployment id d ≡ b → (b || list_any (is_deployment id) ds) ≡ true → (e : Deployment) × P e × (id ≡ e.id)) [
      | true ↦ λ same found. (d, each.0, same_id id d.id same)
      | false ↦ λ other found. any_find id P ds each.1 found
    ] refl any

-- one that was not asked to end is there
pub there_unasked : (history : List Traced) (id : DeploymentId) → was_made history id ≡ true → list_any (is_asking_of id) (askings history) ≡ false → list_any (is_deployment id) (there history) ≡ true
there_unasked history id made free =
    let Stays : Deployment → Type 0 = λ d. list_any (is_deployment d.id) (there history) ≡ stays (askings history) (open_contexts history) d (there history) in
    let it = any_find id Stays (deployments history) (there_while history) made in
    ap (λ i. list_any (is_deployment i) (there history)) it.2 ∙ it.1
    ∙ ap (λ b. not b || (has_open (open_contexts history) it.0.id || list_any (is_child_of it.0.id) (there history))) (ap (λ i. list_any (is_asking_of i) (askings history)) (sym it.2) ∙ free)

unasked : (o : Option Asking) → is_some o ≡ false → is_none (option_map (λ (asking : Asking). asking.at) o) ≡ true
unasked None none = refl
unasked (Some asking) none = absurd cc

module _ (history : List Traced) (life : LifeStore) (parts : PartsStand life history) where
  above_in : (o : Option DeploymentId) → MayBeAbove history o → tree.may_be_below o life.tree.there life.tree.asked ≡ true
  above_in None above = refl
  above_in (Some parent) above =
      ap (λ ns. tree.is_there parent ns && is_none (tree.asked_at parent life.tree.asked)) parts.there
      ∙ ap (λ b. b && is_none (tree.asked_at parent life.tree.asked)) (there_same parent (there history) ∙ there_unasked history parent above.0 above.1)
      ∙ ap is_none (parts.asked parent)
      ∙ unasked (find (is_asking_of parent) (askings history)) (some_found (is_asking_of parent) (askings history) ∙ above.1)

  -- the caller's deployment, if it was not asked to end, is one that something may be deployed below
  pub above : (pass : PassNo) → machine.holder_stopping history pass ≡ None → tree.may_be_below (held_deployment history pass) life.tree.there life.tree.asked ≡ true
  above pass none = above_in (held_deployment history pass) (holder_above history pass none)

  -- all that are there were made before
  pub later : All (λ (node : Node). node.id.0.0 < length history) life.tree.there
  later =
      let Earlier : List Node → Type 0 = All (λ (node : Node). node.id.0.0 < length history) in
      subst Earlier (sym parts.there)
      (all_of (λ (node : Node). node.id.0.0 < length history) (map node_of (there history))
      (Each-map (λ (node : Node). node.id.0.0 < length history) node_of (there history)
      (each_there (λ d. deployment_key d < length history) (askings history) (open_contexts history) (deployments history) (deployments_earlier history))))

-- ## What is told of the new deployment, and of the others

pub or_nothing : {A : Type 0} (o : Option A) → option_or o None ≡ o
or_nothing None = refl
or_nothing (Some x) = refl

same_itself : (id : DeploymentId) → same_deployment id id ≡ true
same_itself id = eq-eqb id.0.0 id.0.0 refl

abbrev pub told_to : (id : DeploymentId) (tell : Option ContextId) → List Tell
told_to id None = []
told_to id (Some context) = record { deployment = id; context = context } ∷ []

told_other : (id other : DeploymentId) (tells : List Tell) (tell : Option ContextId) → same_deployment other id ≡ false → told_in (tells ++ told_to id tell) other ≡ told_in tells other
told_other id other tells None differs = ap (λ ts. told_in ts other) (append-nil tells)
told_other id other tells (Some context) differs =
    ap (option_map (λ (tell : Tell). tell.context))
    (find-append (λ (tell : Tell). same_deployment other tell.deployment) tells (told_to id (Some context))
    ∙ ap (λ b. option_or (find (λ (tell : Tell). same_deployment other tell.deployment) tells) (cond b (Some (record { deployment = id; context = context })) None)) differs
    ∙ or_nothing (find (λ (tell : Tell). same_deployment other tell.deployment) tells))

told_itself : (id : DeploymentId) (tells : List Tell) (tell : Option ContextId) → find (λ (t : Tell). same_deployment id t.deployment) tells ≡ None → told_in (tells ++ told_to id tell) id ≡ tell
told_itself id tells None none = ap (λ ts. told_in ts id) (append-nil tells) ∙ ap (option_map (λ (t : Tell). t.context)) none
told_itself id tells (Some context) none =
    ap (option_map (λ (t : Tell). t.context))
    (find-append (λ (t : Tell). same_deployment id t.deployment) tells (told_to id (Some context))
    ∙ ap (λ o. option_or o (find (λ (t : Tell). same_deployment id t.deployment) (told_to id (Some context)))) none
    ∙ ap (λ b. cond b (Some (record { deployment = id; context = context })) None) (same_itself id))

tells_now : (history : List Traced) (call : Call) → Each (λ (t : Tell). t.deployment.0.0 ≡ length history) (deploy_tell history call)
tells_now history (calls.Deploy worker pool (Some context) count) = (refl, tt)
tells_now history _ = tt

pub tells_earlier : (history : List Traced) → Each (λ (t : Tell). t.deployment.0.0 < length history) (lasting deploy_tell_kind history)
tells_earlier =
    lasting_earlier deploy_tell_kind (λ (t : Tell). t.deployment.0.0) (λ history new. accepted (λ (t : Tell). t.deployment.0.0 ≡ length history) (is_accepted new.entry.reply) _ (λ ok. tells_now history new.entry.call))

in_result : (ending : Ending) (result : DoneResult) (one : Ending) → failure_in ending result ≡ Some one → Some ending ≡ Some one
in_result ending results.Ok one failed = absurd cc
in_result ending _ one failed = failed

failed_in : (o : Option Ending) (one : Ending) → option_and_then (λ (ending : Ending). failure_in ending ending.result) o ≡ Some one → o ≡ Some one
failed_in None one failed = absurd cc
failed_in (Some ending) one failed = in_result ending ending.result one failed

-- failures are of deployments of entries before
failure_earlier : (history : List Traced) (o : Option Ending) → ((one : Ending) → o ≡ Some one → one.context.entry.0 < length history) → Each (λ (f : Failure). f.deployment.0.0 < length history) (option_to_list (option_map failure o))
failure_earlier history None before = tt
failure_earlier history (Some one) before = (before one refl, tt)

pub failed_start : (history : List Traced) (pass : PassNo) (call : Call) (one : Ending) → start_failed history pass call ≡ Some one → start_ended history pass call ≡ Some one
failed_start history pass call one failed = failed_in (start_ended history pass call) one failed

among_earlier : (n : ℕ) (context : ContextId) (cs : List ContextId) → Each (λ (c : ContextId). c.entry.0 < n) cs → list_any (same_context context) cs ≡ true → context.entry.0 < n
among_earlier n context [] each among = absurd cc
among_earlier n context (c ∷ cs) each among =
    elim (same_context context c) as (λ b. same_context context c ≡ b → (b || list_any (same_context context) cs) ≡ true → context.entry.0 < n) [
      | true ↦ λ same found. (let e : c.entry.0 < n = each.0 in subst (λ (i : ContextId). i.entry.0 < n) (sym (same_context-true context c same)) e)
      | false ↦ λ other found. among_earlier n context cs each.1 found
    ] refl among

pub failures_earlier : (history : List Traced) → Each (λ (f : Failure). f.deployment.0.0 < length history) (failures history)
failures_earlier =
    lasting_each failure_kind (λ history (f : Failure). f.deployment.0.0 < length history) (λ history new f stays less. let e = length_push history new in omega arith)
    (λ history new. accepted (λ (f : Failure). f.deployment.0.0 < length (history ++ new ∷ [])) (is_accepted new.entry.reply) _
    (λ ok. still_earlier (λ (f : Failure). f.deployment.0.0) history new _
    (failure_earlier history (start_failed history new.entry.pass new.entry.call)
    (λ one failed. among_earlier (length history) one.context (unstarted history) (unstarted_earlier history) (start_is history (starter history new.entry.pass new.entry.call) one (failed_start history new.entry.pass new.entry.call one failed)).1))))

none_named : {A : Type 0} (key : A → DeploymentId) (history : List Traced) (xs : List A) → Each (λ x. (key x).0.0 < length history) xs → Each (λ x. same_deployment (next_deployment history) (key x) ≡ false) xs
none_named key history xs earlier = weaken (λ x. (key x).0.0 < length history) (λ x. same_deployment (next_deployment history) (key x) ≡ false) xs (λ x less. later_name (length history) (key x).0.0 less) earlier

-- ## The row

or_swap : (a b : Bool) → (a || (b || false)) ≡ (b || a)
or_swap true true = refl
or_swap true false = refl
or_swap false true = refl
or_swap false false = refl

standard_more : (worker : Bool) (pool : Option (List ℕ)) (tell : Option ContextId) (count before : ℕ) → fold (λ all n. all + n) before (standard_made (calls.Deploy worker pool tell count)) ≡ cond worker before (before + count)
standard_more true pool tell count before = refl
standard_more false pool tell count before = refl

tells_of : (history : List Traced) (worker : Bool) (pool : Option (List ℕ)) (tell : Option ContextId) (count : ℕ) → deploy_tell history (calls.Deploy worker pool tell count) ≡ told_to (next_deployment history) tell
tells_of history worker pool None count = refl
tells_of history worker pool (Some context) count = refl

module _ (history : List Traced) (pass : PassNo) (worker : Bool) (pool : Option (List ℕ)) (tell : Option ContextId) (count : ℕ) (reply : Reply) (states : List (List ℤ)) (mark : Mark) (ok : is_accepted reply ≡ true) where
  abbrev new : Traced
  new = entry_of pass (calls.Deploy worker pool tell count) reply states mark

  abbrev after : List Traced
  after = history ++ new ∷ []

  abbrev id : DeploymentId
  id = next_deployment history

  abbrev names : List ContextId
  names = tree.contexts_of id 0 count

  abbrev made : Deployment
  made = record { id = id; parent = held_deployment history pass }

  deployments_more : deployments after ≡ deployments history ++ made ∷ []
  deployments_more = kind_more deployment_kind history new ok (λ d. refl)

  opens_more : open_contexts after ≡ open_contexts history ++ instances history worker pool 0 count
  opens_more = kind_more open_context_kind history new ok (λ c. refl)

  verticles_more : (all now : List Context) → now ≡ all ++ instances history worker pool 0 count → verticles_of now ≡ verticles_of all ++ names
  verticles_more all now more = ap verticles_of more ∙ verticles-append all (instances history worker pool 0 count) ∙ ap (λ cs. verticles_of all ++ cs) (instances_own history worker pool count)

  standard_now : standard_instances after ≡ cond worker (standard_instances history) (standard_instances history + count)
  standard_now =
      ap (fold (λ all n. all + n) 0) (kind_more standard_kind history new ok (λ n. refl)) ∙ fold-append (λ all n. all + n) 0 (lasting standard_kind history) (standard_made (calls.Deploy worker pool tell count))
      ∙ standard_more worker pool tell count (standard_instances history)

  -- ## What is there

  module _ (life : LifeStore) (parts : PartsStand life history) where
    asked_now : (grown : List (ℕ × Option EntryNo)) → ((d : DeploymentId) → tree.asked_at d grown ≡ cond (same_deployment d id) None (tree.asked_at d life.tree.asked)) → (d : DeploymentId) → tree.asked_at d grown ≡ asked_at after d
    asked_now grown grows d =
        grows d ∙ elim (same_deployment d id) as (λ b. same_deployment d id ≡ b → cond b None (tree.asked_at d life.tree.asked) ≡ asked_in (askings history) d) [
          | true ↦ λ same.
              sym (ap (option_map (λ (asking : Asking). asking.at)) (ap (λ i. find (is_asking_of i) (askings history)) (same_id d id same)
              ∙ find_none (is_asking_of id) (askings history) (none_named (λ (asking : Asking). asking.deployment) history (askings history) parts.earlier.asked)))
          | false ↦ λ other. parts.asked d
        ] refl ∙ sym (ap (λ all. asked_in all d) (askings_left history new refl))

    instances_other : Each (λ (x : Deployment). list_any (λ (c : Context). is_instance_of x.id c.id) (instances history worker pool 0 count) ≡ false) (deployments history)
    instances_other =
        weaken (λ d. deployment_key d < length history) (λ (x : Deployment). list_any (λ (c : Context). is_instance_of x.id c.id) (instances history worker pool 0 count) ≡ false) (deployments history)
        (λ x less. any_none (λ (c : Context). is_instance_of x.id c.id) (instances history worker pool 0 count)
        (weaken (λ c. context_key c ≡ length history) (λ (c : Context). is_instance_of x.id c.id ≡ false) (instances history worker pool 0 count)
        (λ c now. earlier_name x.id.0.0 c.id.entry.0 (let e : c.id.entry.0 ≡ length history = now in let f : x.id.0.0 < length history = less in omega arith)) (instances_keyed history worker pool 0 count)))
        (deployments_earlier history)

    parent_free : (x : Deployment) (o : Option DeploymentId) → MayBeAbove history o → is_among (x.id ∷ []) o ≡ true → list_any (is_asking_of x.id) (askings history) ≡ false
    parent_free x None may child = absurd cc
    parent_free x (Some parent) may child =
        ap (λ i. list_any (is_asking_of i) (askings history)) (sym (same_id parent x.id (sym (or_false (same_deployment parent x.id)) ∙ child))) ∙ may.1

    there_now : machine.holder_stopping history pass ≡ None → there after ≡ there history ++ made ∷ []
    there_now none =
        ap (λ all. there_of all (open_contexts after) (deployments after)) (askings_left history new refl)
        ∙ ap (λ cs. there_of (askings history) cs (deployments after)) opens_more
        ∙ ap (there_of (askings history) (open_contexts history ++ instances history worker pool 0 count)) deployments_more
        ∙ there_grown (askings history) (open_contexts history) (instances history worker pool 0 count) made (deployments history)
        (any_none (is_asking_of id) (askings history) (none_named (λ (asking : Asking). asking.deployment) history (askings history) parts.earlier.asked)) instances_other
        (all_each (λ (x : Deployment). is_child_of x.id made ≡ true → list_any (is_asking_of x.id) (askings history) ≡ false) (λ x child. parent_free x (held_deployment history pass) (holder_above history pass none) child) (deployments history))

    -- ## What is kept

    stops_now_all : map (stop_of after) (verticles_of (contexts after)) ≡ map (stop_of history) (verticles_of (contexts history)) ++ stops_of id 0 count
    stops_now_all =
        ap (map (stop_of after)) (verticles_more (contexts history) (contexts after) (kind_more context_kind history new ok (λ c. refl)))
        ∙ ap (λ taken. map (stop_with taken) (verticles_of (contexts history) ++ names)) (taken_left history new refl)
        ∙ map-append (stop_of history) (verticles_of (contexts history)) names
        ∙ ap (λ ss. map (stop_of history) (verticles_of (contexts history)) ++ ss)
        (map_each (stop_of history) untaken names
        (weaken (λ (c : ContextId). c.entry.0 ≡ id.0.0) (λ c. stop_of history c ≡ untaken c) names
        (λ (c : ContextId) now. ap (λ b. let s : Stop = record { context = c; taken = b } in s)
        (any_none (same_context c) (lasting stop_kind history)
        (weaken (λ (t : ContextId). t.entry.0 < length history) (λ t. same_context c t ≡ false) (lasting stop_kind history)
        (λ (t : ContextId) less. ap (λ b. b && (c.instance == t.instance)) (later_name c.entry.0 t.entry.0 (let e : c.entry.0 ≡ length history = now in omega arith))) parts.earlier.taken)))
        (keyed_names id 0 count)))

    tells_more : lasting deploy_tell_kind after ≡ lasting deploy_tell_kind history ++ told_to id tell
    tells_more = kind_more deploy_tell_kind history new ok (λ t. refl) ∙ ap (λ ts. lasting deploy_tell_kind history ++ ts) (tells_of history worker pool tell count)

    record_old : (d : Deployment) → deployment_key d < length history → record_with (lasting deploy_tell_kind history ++ told_to id tell) (lasting undeploy_tell_kind history) (failures history) d ≡ record_of history d
    record_old d less =
        ap (λ o. let r : DeploymentRecord = record { id = d.id; deploy_tell = o; undeploy_tell = told_in (lasting undeploy_tell_kind history) d.id; failure = (record_of history d).failure } in r)
        (told_other id d.id (lasting deploy_tell_kind history) tell (earlier_name d.id.0.0 (length history) less))

    record_new : record_with (lasting deploy_tell_kind history ++ told_to id tell) (lasting undeploy_tell_kind history) (failures history) made ≡ record { id = id; deploy_tell = tell; undeploy_tell = None; failure = None }
    record_new =
        ap (λ o. let r : DeploymentRecord = record { id = id; deploy_tell = o; undeploy_tell = told_in (lasting undeploy_tell_kind history) id; failure = option_map (λ (f : Failure). f.result) (find (λ (f : Failure). same_deployment id f.deployment) (failures history)) } in r)
        (told_itself id (lasting deploy_tell_kind history) tell
        (find_none (λ (t : Tell). same_deployment id t.deployment) (lasting deploy_tell_kind history) (none_named (λ (t : Tell). t.deployment) history (lasting deploy_tell_kind history) (tells_earlier history))))
        ∙ ap (λ o. let r : DeploymentRecord = record { id = id; deploy_tell = tell; undeploy_tell = option_map (λ (t : Tell). t.context) o; failure = option_map (λ (f : Failure). f.result) (find (λ (f : Failure). same_deployment id f.deployment) (failures history)) } in r)
        (find_none (λ (t : Tell). same_deployment id t.deployment) (lasting undeploy_tell_kind history) (none_named (λ (t : Tell). t.deployment) history (lasting undeploy_tell_kind history) parts.earlier.told))
        ∙ ap (λ o. let r : DeploymentRecord = record { id = id; deploy_tell = tell; undeploy_tell = None; failure = option_map (λ (f : Failure). f.result) o } in r)
        (find_none (λ (f : Failure). same_deployment id f.deployment) (failures history) (none_named (λ (f : Failure). f.deployment) history (failures history) (failures_earlier history)))

    records_now : map (record_of after) (deployments after) ≡ map (record_of history) (deployments history) ++ record { id = id; deploy_tell = tell; undeploy_tell = None; failure = None } ∷ []
    records_now =
        ap (map (record_of after)) deployments_more
        ∙ ap (λ told. map (record_with told (lasting undeploy_tell_kind after) (failures after)) (deployments history ++ made ∷ [])) tells_more
        ∙ ap (λ told. map (record_with (lasting deploy_tell_kind history ++ told_to id tell) told (failures after)) (deployments history ++ made ∷ [])) (gone_told_left history new refl)
        ∙ ap (λ failed. map (record_with (lasting deploy_tell_kind history ++ told_to id tell) (lasting undeploy_tell_kind history) failed) (deployments history ++ made ∷ [])) (failures_left history new refl)
        ∙ map-append (record_with (lasting deploy_tell_kind history ++ told_to id tell) (lasting undeploy_tell_kind history) (failures history)) (deployments history) (made ∷ [])
        ∙ ap (λ rs. rs ++ record_with (lasting deploy_tell_kind history ++ told_to id tell) (lasting undeploy_tell_kind history) (failures history) made ∷ [])
        (map_each (record_with (lasting deploy_tell_kind history ++ told_to id tell) (lasting undeploy_tell_kind history) (failures history)) (record_of history) (deployments history)
        (weaken (λ d. deployment_key d < length history) (λ d. record_with (lasting deploy_tell_kind history ++ told_to id tell) (lasting undeploy_tell_kind history) (failures history) d ≡ record_of history d) (deployments history)
        (λ d less. record_old d less) (deployments_earlier history)))
        ∙ ap (λ r. map (record_of history) (deployments history) ++ r ∷ []) record_new

    earlier_now : AreEarlier after
    earlier_now =
        let Asked : List Asking → Type 0 = Each (λ (a : Asking). a.deployment.0.0 < length after) in
        let Told : List Tell → Type 0 = Each (λ (t : Tell). t.deployment.0.0 < length after) in
        let Taken : List ContextId → Type 0 = Each (λ (c : ContextId). c.entry.0 < length after) in
        record {
          asked = subst Asked (sym (askings_left history new refl)) (still_earlier (λ (a : Asking). a.deployment.0.0) history new (askings history) parts.earlier.asked);
          told = subst Told (sym (gone_told_left history new refl)) (still_earlier (λ (t : Tell). t.deployment.0.0) history new (lasting undeploy_tell_kind history) parts.earlier.told);
          taken = subst Taken (sym (taken_left history new refl)) (still_earlier (λ (c : ContextId). c.entry.0) history new (lasting stop_kind history) parts.earlier.taken);
        }

    -- the new contexts are open
    new_open : filter (is_open after) names ≡ names
    new_open =
        filter_every (is_open after) names
        (subst (λ cs. Each (λ id. is_open after id ≡ true) cs) (names_of history worker pool 0 count)
        (Each-map (λ c. is_open after c ≡ true) (λ (c : Context). c.id) (instances history worker pool 0 count)
        (weaken (λ (c : Context). list_any (is_context_of c.id) (instances history worker pool 0 count) ≡ true) (λ (c : Context). is_open after c.id ≡ true) (instances history worker pool 0 count)
        (λ (c : Context) any. ap (list_any (is_context_of c.id)) opens_more ∙ list_any-append (is_context_of c.id) (open_contexts history) (instances history worker pool 0 count)
        ∙ ap (λ b. is_open history c.id || b) any ∙ or_second (is_open history c.id) true refl)
        (each_any (λ (a b : Context). is_context_of a.id b) (λ (c : Context). same_context-self c.id) (instances history worker pool 0 count)))))

    to_stop_now : filter (is_open after) (lasting (awaited deployed_contexts stops_now) after) ≡ filter (is_open history) (lasting (awaited deployed_contexts stops_now) history) ++ names
    to_stop_now =
        ap (filter (is_open after)) (kind_more (awaited deployed_contexts stops_now) history new ok (λ c. refl) ∙ ap (λ cs. lasting (awaited deployed_contexts stops_now) history ++ cs) (names_of history worker pool 0 count))
        ∙ filter-append (is_open after) (lasting (awaited deployed_contexts stops_now) history) names
        ∙ ap (λ cs. cs ++ filter (is_open after) names) (same_open history new (λ c. refl) (lasting (awaited deployed_contexts stops_now) history) (awaited_earlier stops_now history))
        ∙ ap (λ cs. filter (is_open history) (lasting (awaited deployed_contexts stops_now) history) ++ cs) new_open

  -- a deployment is added, below the caller's
  pub life_deployed : (old new_life : LifeStore) → machine.holder_stopping history pass ≡ None → Deploys (next_deployment history) (held_deployment history pass) worker tell count old new_life → LifeStands old history →
      LifeStands new_life (history ++ entry_of pass (calls.Deploy worker pool tell count) reply states mark ∷ [])
  life_deployed old life unasked step stands =
      let parts = stands.parts in
      let coming = stands.coming in
      let grows = step.tree in
      record {
        parts = record {
          loops = ap (λ (s : LifeStore). s.loops) step.rest ∙ parts.loops ∙ sym (loops_left history new refl);
          standard = ap (λ (s : LifeStore). s.standard) step.rest ∙ ap (λ n. cond worker n (n + count)) parts.standard ∙ sym standard_now;
          there = grows.there ∙ ap (λ ns. ns ++ node_of made ∷ []) parts.there ∙ sym (ap (map node_of) (there_now old parts unasked) ∙ map-append node_of (there history) (made ∷ []));
          asked = asked_now old parts life.tree.asked grows.asked;
          known = λ d. grows.known d ∙ ap (λ b. same_deployment d id || b) (parts.known d)
              ∙ sym (ap (list_any (is_deployment d)) deployments_more ∙ list_any-append (is_deployment d) (deployments history) (made ∷ []) ∙ or_swap (was_made history d) (same_deployment d id));
          live = grows.live ∙ ap (λ cs. cs ++ names) parts.live ∙ sym (verticles_more (open_contexts history) (open_contexts after) opens_more);
          starting = grows.starting ∙ ap (λ cs. cs ++ names) parts.starting ∙ sym (kind_more unstarted_kind history new ok (λ c. refl) ∙ ap (λ cs. unstarted history ++ cs) (names_of history worker pool 0 count));
          unstopped = ap (λ (s : LifeStore). s.unstopped) step.rest ∙ ap (λ cs. cs ++ names) parts.unstopped ∙ sym (kind_more unstopped_kind history new ok (λ c. refl) ∙ ap (λ cs. unstopped history ++ cs) (names_of history worker pool 0 count));
          stops = ap (λ (s : LifeStore). s.stops) step.rest ∙ ap (λ ss. ss ++ stops_of id 0 count) parts.stops ∙ sym (stops_now_all old parts);
          records = ap (λ (s : LifeStore). s.records) step.rest ∙ ap (λ rs. rs ++ record { id = id; deploy_tell = tell; undeploy_tell = None; failure = None } ∷ []) parts.records ∙ sym (records_now old parts);
          closed = ap (λ (s : LifeStore). s.closed) step.rest ∙ parts.closed ∙ sym (closed_left history new refl);
          earlier = earlier_now old parts;
        };
        coming = record {
          deploying = ap (λ (s : LifeStore). s.deploying) step.rest ∙ ap (λ ids. ids ++ id ∷ []) coming.deploying ∙ sym (kind_more (awaited deployed_ids is_deployed) history new ok (λ d. refl));
          ending = ap (λ (s : LifeStore). s.ending) step.rest ∙ ap (λ ids. ids ++ id ∷ []) coming.ending ∙ sym (kind_more (awaited deployed_ids is_gone) history new ok (λ d. refl));
          to_stop = grows.to_stop ∙ ap (λ cs. cs ++ names) coming.to_stop ∙ sym (to_stop_now old parts);
        };
      }
