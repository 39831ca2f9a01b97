-- What comes with an entry that brings deployments on.
use Rattle.std.proofs.Common.{◌≡◌, List, [], ◌∷◌, ◌++◌, refl, ap, sym, ◌∙◌, subst}
use Rattle.std.specs.Prelude.{Bool, true, false, not, ◌||◌, ◌&&◌, cond, filter, find, map, is_some, Option, None, Some}
use Rattle.std.specs.List.{list_any}
use Rattle.std.specs.Option.{option_map, option_and_then}
use Rattle.std.proofs.lemmas.List.Elements.{filter_agree}
use Rattle.vx_data.specs.declared.ids.ContextId.{ContextId}
use Rattle.vx_data.specs.declared.ids.DeploymentId.{DeploymentId}
use Rattle.vx_data.specs.Ids.{same_context, same_deployment}
use Rattle.vx_message.specs.declared.Context.{Context}
use Rattle.vx_tree.specs.Nodes as tree
use Rattle.vx_call.specs.declared.call.Call.{Call}
use Rattle.vx_call.specs.declared.history.Traced.{Traced}
use Rattle.vx_call.specs.History.{is_accepted, lasting}
use Rattle.vx_call.specs.Deployments.{Deployment, deployment_of, deployments, deployed_ids}
use Rattle.vx_call.specs.Tells.{deploy_tell_kind, undeploy_tell_kind, told_in}
use Rattle.vx_call.specs.Starts.{deployed_contexts, unstarted}
use Rattle.vx_call.specs.Closings.{open_contexts, is_open}
use Rattle.vx_call.specs.Askings.{Asking, askings, is_asking_of}
use Rattle.vx_call.specs.There.{is_deployment, there}
use Rattle.vx_call.specs.There as machine_there
use Rattle.vx_call.specs.Ends as machine
use Rattle.vx_call.specs.Ends.{Failure, first_failure}
use Rattle.vx_call.specs.Coming.{moves_on, awaited, came_if, coming, coming_if}
use Rattle.vx_call.proofs.Each.{Each, weaken}
use Rattle.vx_call.proofs.Apart.{Apart, Apart-filter}
use Rattle.vx_call.proofs.Contexts.{same_context-true}
use Rattle.vx_call.proofs.Filters.{filter_alike, filter_swap}
use Rattle.vx_life.specs.declared.record.DeploymentRecord.{DeploymentRecord}
use Rattle.vx_life.specs.Stores.{LifeStore, is_record_of, deploy_told, undeploy_told, failure_of, deployed_with, deploy_result, is_deployed, is_gone}
use Rattle.vx_life.specs.Stands.{record_of, PartsStand, ComingStands, LifeStands, IsBehind}
use Rattle.vx_life_rows.specs.Said.{IsTold, AreTold}
use Rattle.vx_life_rows.proofs.Lists.{any_map, filter_both, some_found, mapped_some}
use Rattle.vx_life_rows.proofs.Bridge.{children, same_id, is_there as there_same}
use Rattle.vx_life_rows.proofs.Facts.{was_made, awaited_made, awaited_apart, contexts_apart, stays_made}
use Rattle.vx_life_rows.proofs.Left.{kind_less}

-- ## What the store says of a deployment

-- what is kept of one that was made
kept_of : {A : Type 0} (history : List Traced) (part : DeploymentRecord → Option A) (told : DeploymentId → Option A) → ((d : Deployment) → part (record_of history d) ≡ told d.id) → (id : DeploymentId) (ds : List Deployment) → list_any (is_deployment id) ds ≡ true →
    option_and_then part (find (is_record_of id) (map (record_of history) ds)) ≡ told id
kept_of history part told is id [] made = absurd cc
kept_of history part told is id (d ∷ ds) made =
    elim (same_deployment id d.id) as (λ b. same_deployment id d.id ≡ b → (b || list_any (is_deployment id) ds) ≡ true → option_and_then part (cond b (Some (record_of history d)) (find (is_record_of id) (map (record_of history) ds))) ≡ told id) [
      | true ↦ λ same h. is d ∙ ap told (sym (same_id id d.id same))
      | false ↦ λ other h. kept_of history part told is id ds h
    ] refl made

module _ (life : LifeStore) (history : List Traced) (parts : PartsStand life history) where
  pub is_deploy_told : (id : DeploymentId) → was_made history id ≡ true → deploy_told id life.records ≡ told_in (lasting deploy_tell_kind history) id
  is_deploy_told id made =
      ap (deploy_told id) parts.records ∙ kept_of history (λ (r : DeploymentRecord). r.deploy_tell) (told_in (lasting deploy_tell_kind history)) (λ d. refl) id (deployments history) made

  pub is_undeploy_told : (id : DeploymentId) → was_made history id ≡ true → undeploy_told id life.records ≡ told_in (lasting undeploy_tell_kind history) id
  is_undeploy_told id made =
      ap (undeploy_told id) parts.records ∙ kept_of history (λ (r : DeploymentRecord). r.undeploy_tell) (told_in (lasting undeploy_tell_kind history)) (λ d. refl) id (deployments history) made

  failed_as : (id : DeploymentId) → was_made history id ≡ true → failure_of id life.records ≡ option_map (λ (f : Failure). f.result) (first_failure history id)
  failed_as id made =
      ap (failure_of id) parts.records
      ∙ kept_of history (λ (r : DeploymentRecord). r.failure) (λ d. option_map (λ (f : Failure). f.result) (first_failure history d)) (λ d. refl) id (deployments history) made

  pub gone_as : (id : DeploymentId) → is_gone life id ≡ machine_there.is_gone history id
  gone_as id = ap (λ ns. not (tree.is_there id ns)) parts.there ∙ ap not (there_same id (there history))

  deployed_as : (o : Option Failure) (pending gone : Bool) → deployed_with (option_map (λ (f : Failure). f.result) o) pending gone ≡ machine.deployed_as o pending gone
  deployed_as None pending gone = refl
  deployed_as (Some f) pending gone = refl

  -- how deploying ended
  pub result_as : (id : DeploymentId) → was_made history id ≡ true → deploy_result life id ≡ machine.deploy_result history id
  result_as id made =
      ap (λ o. deployed_with o (list_any (tree.is_instance_of id) life.tree.starting) (is_gone life id)) (failed_as id made)
      ∙ ap (λ cs. deployed_with (option_map (λ (f : Failure). f.result) (first_failure history id)) (list_any (tree.is_instance_of id) cs) (is_gone life id)) parts.starting
      ∙ ap (deployed_with (option_map (λ (f : Failure). f.result) (first_failure history id)) (list_any (tree.is_instance_of id) (unstarted history))) (gone_as id)
      ∙ deployed_as (first_failure history id) (list_any (tree.is_instance_of id) (unstarted history)) (machine_there.is_gone history id)

  asked_as : (id : DeploymentId) → is_some (tree.asked_at id life.tree.asked) ≡ list_any (is_asking_of id) (askings history)
  asked_as id = ap is_some (parts.asked id) ∙ mapped_some (λ (asking : Asking). asking.at) (find (is_asking_of id) (askings history)) ∙ some_found (is_asking_of id) (askings history)

  pub may_stop_as : (context : ContextId) → tree.may_stop life.tree context ≡ machine.may_stop (askings history) (unstarted history) (there history) context
  may_stop_as context =
      let id = deployment_of context in
      ap (λ b. b && (not (list_any (same_context context) life.tree.starting) && not (list_any (tree.is_child_of id) life.tree.there))) (asked_as id)
      ∙ ap (λ cs. list_any (is_asking_of id) (askings history) && (not (list_any (same_context context) cs) && not (list_any (tree.is_child_of id) life.tree.there))) parts.starting
      ∙ ap (λ ns. list_any (is_asking_of id) (askings history) && (not (list_any (same_context context) (unstarted history)) && not (list_any (tree.is_child_of id) ns))) parts.there
      ∙ ap (λ b. list_any (is_asking_of id) (askings history) && (not (list_any (same_context context) (unstarted history)) && not b)) (children id (there history))

-- ## Contexts that may stop

here : (a same b rest : Bool) → (same ≡ true → a ≡ b) → cond a (same || (b && rest)) (b && rest) ≡ (b && (same || rest))
here true true true rest is = refl
here true true false rest is = absurd (let e : true ≡ false = is refl in cc)
here false true true rest is = absurd (let e : false ≡ true = is refl in cc)
here false true false rest is = refl
here true false b rest is = refl
here false false b rest is = refl

one_of : (test : ContextId → Bool) (context : ContextId) (cs : List ContextId) → list_any (same_context context) (filter test cs) ≡ (test context && list_any (same_context context) cs)
one_of test context [] = elim (test context) as (λ b. false ≡ (b && false)) [ true ↦ refl | false ↦ refl ]
one_of test context (c ∷ cs) =
    elim (test c) as (λ b. list_any (same_context context) (cond b (c ∷ filter test cs) (filter test cs)) ≡ cond b (same_context context c || list_any (same_context context) (filter test cs)) (list_any (same_context context) (filter test cs))) [ true ↦ refl | false ↦ refl ]
    ∙ ap (λ rest. cond (test c) (same_context context c || rest) rest) (one_of test context cs)
    ∙ here (test c) (same_context context c) (test context) (list_any (same_context context) cs) (λ same. ap test (sym (same_context-true context c same)))

stops_as : (history : List Traced) (context : ContextId) → machine.stops_now history context ≡ (machine.may_stop (askings history) (unstarted history) (there history) context && is_open history context)
stops_as history context =
    let test = machine.may_stop (askings history) (unstarted history) (there history) in
    one_of test context (map (λ (c : Context). c.id) (open_contexts history)) ∙ ap (λ b. test context && b) (any_map (same_context context) (λ (c : Context). c.id) (open_contexts history))

-- ## What comes

module _ (history : List Traced) (new : Traced) (moves : moves_on history new.entry.pass new.entry.call ≡ true) where
  comes : {A : Type 0} (made : List Traced → Call → List A) (came : List Traced → A → Bool) → coming made came history new ≡ filter (came (history ++ new ∷ [])) (lasting (awaited made came) history)
  comes made came = ap (coming_if (awaited made came) came history new) moves

  awaited_less : {A : Type 0} (made : List Traced → Call → List A) (came : List Traced → A → Bool) → is_accepted new.entry.reply ≡ true → made history new.entry.call ≡ [] →
      lasting (awaited made came) (history ++ new ∷ []) ≡ filter (λ x. not (came (history ++ new ∷ []) x)) (lasting (awaited made came) history)
  awaited_less made came ok none =
      kind_less (awaited made came) history new ok none ∙ filter_agree _ _ (λ x. ap (λ b. not (came_if came (history ++ new ∷ []) x b)) moves) (lasting (awaited made came) history)

  module _ (life : LifeStore) (behind : IsBehind life history (history ++ new ∷ [])) where
    abbrev after : List Traced
    after = history ++ new ∷ []

    deployed_each : Each (λ id. is_deployed life id ≡ machine.is_deployed after id) (lasting (awaited deployed_ids machine.is_deployed) history)
    deployed_each =
        weaken (λ id. was_made history id ≡ true) (λ id. is_deployed life id ≡ machine.is_deployed after id) (lasting (awaited deployed_ids machine.is_deployed) history)
        (λ id made. ap is_some (result_as life after behind.parts id (stays_made history new id made))) (awaited_made machine.is_deployed history)

    -- the deployments whose deploying has ended
    pub deployed_come : filter (is_deployed life) life.deploying ≡ coming deployed_ids machine.is_deployed history new
    deployed_come =
        ap (filter (is_deployed life)) behind.coming.deploying
        ∙ filter_alike (is_deployed life) (machine.is_deployed after) (lasting (awaited deployed_ids machine.is_deployed) history) deployed_each
        ∙ sym (comes deployed_ids machine.is_deployed)

    -- the deployments that are gone
    pub gone_come : filter (is_gone life) life.ending ≡ coming deployed_ids machine_there.is_gone history new
    gone_come =
        ap (filter (is_gone life)) behind.coming.ending
        ∙ filter_agree (is_gone life) (machine_there.is_gone after) (gone_as life after behind.parts) (lasting (awaited deployed_ids machine_there.is_gone) history)
        ∙ sym (comes deployed_ids machine_there.is_gone)

    stops_same : (xs : List ContextId) → filter (tree.may_stop life.tree) (filter (is_open after) xs) ≡ filter (machine.stops_now after) xs
    stops_same xs =
        filter_both (tree.may_stop life.tree) (is_open after) xs
        ∙ filter_agree _ (machine.stops_now after) (λ c. ap (λ b. b && is_open after c) (may_stop_as life after behind.parts c) ∙ sym (stops_as after c)) xs

    -- the contexts that are to stop
    pub stops_come : filter (tree.may_stop life.tree) life.tree.to_stop ≡ coming deployed_contexts machine.stops_now history new
    stops_come =
        ap (filter (tree.may_stop life.tree)) behind.coming.to_stop ∙ stops_same (lasting (awaited deployed_contexts machine.stops_now) history) ∙ sym (comes deployed_contexts machine.stops_now)

    not_both : (a b : Bool) → (not a && b) ≡ (not (a && b) && b)
    not_both true true = refl
    not_both true false = refl
    not_both false true = refl
    not_both false false = refl

    others_same : (xs : List ContextId) → filter (λ c. not (tree.may_stop life.tree c)) (filter (is_open after) xs) ≡ filter (is_open after) (filter (λ c. not (machine.stops_now after c)) xs)
    others_same xs =
        filter_both (λ c. not (tree.may_stop life.tree c)) (is_open after) xs
        ∙ filter_agree _ _ (λ c. not_both (tree.may_stop life.tree c) (is_open after c)
        ∙ ap (λ b. not (b && is_open after c) && is_open after c) (may_stop_as life after behind.parts c) ∙ ap (λ b. not b && is_open after c) (sym (stops_as after c))) xs
        ∙ sym (filter_both (λ c. not (machine.stops_now after c)) (is_open after) xs)
        ∙ filter_swap (λ c. not (machine.stops_now after c)) (is_open after) xs

    -- once all that comes was said, the store is that of the history with the entry
    pub life_settled : is_accepted new.entry.reply ≡ true → deployed_ids history new.entry.call ≡ [] → deployed_contexts history new.entry.call ≡ [] →
        LifeStands (record life {
          tree = record life.tree { to_stop = filter (λ c. not (tree.may_stop life.tree c)) life.tree.to_stop };
          deploying = filter (λ id. not (is_deployed life id)) life.deploying;
          ending = filter (λ id. not (is_gone life id)) life.ending;
        }) (history ++ new ∷ [])
    life_settled ok no_ids no_contexts =
        let parts = behind.parts in
        let coming = behind.coming in
        record {
          parts = record {
            loops = parts.loops;
            standard = parts.standard;
            there = parts.there;
            asked = parts.asked;
            known = parts.known;
            live = parts.live;
            starting = parts.starting;
            unstopped = parts.unstopped;
            stops = parts.stops;
            records = parts.records;
            closed = parts.closed;
            earlier = parts.earlier;
          };
          coming = record {
            deploying = ap (filter (λ id. not (is_deployed life id))) coming.deploying
                ∙ filter_alike (λ id. not (is_deployed life id)) (λ id. not (machine.is_deployed after id)) (lasting (awaited deployed_ids machine.is_deployed) history)
                (weaken (λ id. is_deployed life id ≡ machine.is_deployed after id) (λ id. not (is_deployed life id) ≡ not (machine.is_deployed after id)) (lasting (awaited deployed_ids machine.is_deployed) history) (λ id same. ap not same) deployed_each)
                ∙ sym (awaited_less deployed_ids machine.is_deployed ok no_ids);
            ending = ap (filter (λ id. not (is_gone life id))) coming.ending
                ∙ filter_agree (λ id. not (is_gone life id)) (λ id. not (machine_there.is_gone after id)) (λ id. ap not (gone_as life after parts id)) (lasting (awaited deployed_ids machine_there.is_gone) history)
                ∙ sym (awaited_less deployed_ids machine_there.is_gone ok no_ids);
            to_stop = ap (filter (λ c. not (tree.may_stop life.tree c))) coming.to_stop
                ∙ others_same (lasting (awaited deployed_contexts machine.stops_now) history)
                ∙ ap (filter (is_open after)) (sym (awaited_less deployed_contexts machine.stops_now ok no_contexts));
          };
        }

-- ## No two are one

pub deploying_apart : (life : LifeStore) (before now : List Traced) → ComingStands life before now → Apart same_deployment life.deploying
deploying_apart life before now coming = let P : List DeploymentId → Type 0 = Apart same_deployment in subst P (sym coming.deploying) (awaited_apart machine.is_deployed before)

pub ending_apart : (life : LifeStore) (before now : List Traced) → ComingStands life before now → Apart same_deployment life.ending
ending_apart life before now coming = let P : List DeploymentId → Type 0 = Apart same_deployment in subst P (sym coming.ending) (awaited_apart machine_there.is_gone before)

pub stops_apart : (life : LifeStore) (before after : List Traced) → ComingStands life before after → Apart same_context life.tree.to_stop
stops_apart life before after coming =
    let P : List ContextId → Type 0 = Apart same_context in
    subst P (sym coming.to_stop) (Apart-filter same_context (is_open after) (lasting (awaited deployed_contexts machine.stops_now) before) (contexts_apart machine.stops_now before))

-- ## Who is told

is_told : (life : LifeStore) (history : List Traced) → PartsStand life history → (id : DeploymentId) → was_made history id ≡ true → IsTold life history id
is_told life history parts id made =
    record { deploy_told = is_deploy_told life history parts id made; undeploy_told = is_undeploy_told life history parts id made; deploy_result = result_as life history parts id made }

all_told : (life : LifeStore) (history : List Traced) (new : Traced) → PartsStand life (history ++ new ∷ []) → (ids : List DeploymentId) → Each (λ id. was_made history id ≡ true) ids → AreTold life (history ++ new ∷ []) ids
all_told life history new parts ids made =
    weaken (λ id. was_made history id ≡ true) (IsTold life (history ++ new ∷ [])) ids (λ id before. is_told life (history ++ new ∷ []) parts id (stays_made history new id before)) made

pub deploying_told : (life : LifeStore) (history : List Traced) (new : Traced) → IsBehind life history (history ++ new ∷ []) → AreTold life (history ++ new ∷ []) life.deploying
deploying_told life history new behind =
    let P : List DeploymentId → Type 0 = AreTold life (history ++ new ∷ []) in
    subst P (sym behind.coming.deploying) (all_told life history new behind.parts (lasting (awaited deployed_ids machine.is_deployed) history) (awaited_made machine.is_deployed history))

pub ending_told : (life : LifeStore) (history : List Traced) (new : Traced) → IsBehind life history (history ++ new ∷ []) → AreTold life (history ++ new ∷ []) life.ending
ending_told life history new behind =
    let P : List DeploymentId → Type 0 = AreTold life (history ++ new ∷ []) in
    subst P (sym behind.coming.ending) (all_told life history new behind.parts (lasting (awaited deployed_ids machine_there.is_gone) history) (awaited_made machine_there.is_gone history))
