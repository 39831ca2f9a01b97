-- Undeploy, and entries that end a start or a stop.
use Rattle.std.proofs.Common.{◌≡◌, ℕ, ◌<◌, List, [], ◌∷◌, ◌++◌, length, refl, ap, sym, ◌∙◌, subst}
use Rattle.std.specs.Prelude.{ℤ, Bool, true, false, not, ◌||◌, cond, find, map, Option, None, Some}
use Rattle.std.specs.List.{list_any}
use Rattle.std.specs.Option.{option_map, option_or, option_and_then, option_to_list}
use Rattle.std.proofs.lemmas.List.Folds.{find-append}
use Rattle.vx_data.specs.declared.ids.ContextId.{ContextId}
use Rattle.vx_data.specs.declared.ids.DeploymentId.{DeploymentId}
use Rattle.vx_data.specs.declared.ids.PassNo.{PassNo}
use Rattle.vx_data.specs.Ids.{same_context, same_deployment}
use Rattle.vx_message.specs.declared.DoneResult.{DoneResult}
use Rattle.vx_message.specs.declared.DoneResult.TheVariants as results
use Rattle.vx_message.specs.declared.Held.{Held}
use Rattle.vx_message.specs.declared.ItemKind.{ItemKind}
use Rattle.vx_message.specs.declared.ItemKind.TheVariants as kinds
use Rattle.vx_tree.specs.Nodes as tree
use Rattle.vx_tree.proofs.Settled.{settled_again}
use Rattle.vx_call.specs.declared.call.Call.{Call}
use Rattle.vx_call.specs.declared.call.Call.TheVariants as calls
use Rattle.vx_call.specs.declared.history.Mark.{Mark}
use Rattle.vx_call.specs.declared.history.Traced.{Traced}
use Rattle.vx_call.specs.declared.reply.Reply.{Reply}
use Rattle.vx_call.specs.History.{is_accepted, lasting}
use Rattle.vx_call.specs.Names.{next_entry}
use Rattle.vx_call.specs.Loops.{sets_loops}
use Rattle.vx_call.specs.Deployments.{Deployment, deployment_of, deployments}
use Rattle.vx_call.specs.Tells.{Tell, undeploy_tell, deploy_tell_kind, undeploy_tell_kind, told_in}
use Rattle.vx_call.specs.Starts.{Ending, ending, done_by, failure_in, starts_in, stops_in, starter, stopper, start_ended, stop_ended, start_failed, ended_start, ended_stop, deployed_contexts, unstarted, unstopped}
use Rattle.vx_call.specs.Stopping.{stop_kind, stop_made}
use Rattle.vx_call.specs.Held.{holding, is_of_context}
use Rattle.vx_call.specs.Closings.{closes, close_made, closing_by, context_in, open_contexts}
use Rattle.vx_call.specs.Askings.{Asking, asked_by, askings, asked_at}
use Rattle.vx_call.specs.There.{is_deployment, there}
use Rattle.vx_call.specs.Ends.{Failure, failure, failure_kind, stops_now}
use Rattle.vx_call.specs.Coming.{awaited}
use Rattle.vx_call.specs.Refusals as machine
use Rattle.vx_call.specs.declared.reply.Refusal.TheVariants as refusals
use Rattle.vx_call.proofs.Each.{Each, Each-append}
use Rattle.vx_call.proofs.Contexts.{same_context-true}
use Rattle.vx_call.proofs.Found.{same_number}
use Rattle.vx_life.specs.declared.record.DeploymentRecord.{DeploymentRecord}
use Rattle.vx_life.specs.Stores.{LifeStore, telling, failing, started_in, closed_in}
use Rattle.vx_life.specs.Steps.{Asks, Fails}
use Rattle.vx_life.specs.Stands.{node_of, verticles_of, record_of, PartsStand, LifeStands, IsBehind}
use Rattle.vx_life_rows.specs.Moves.{entry_of, DeploysNothing, ends_lives}
use Rattle.vx_life_rows.proofs.Lists.{any_fewer, map_map, map_all, map_or}
use Rattle.vx_life_rows.proofs.Bridge.{asked_in, IsAskedWithParent}
use Rattle.vx_life_rows.proofs.Facts.{was_made, awaited_earlier, unstarted_made}
use Rattle.vx_life_rows.proofs.Left.{kind_more, still_earlier, start_is, stop_is, unstarted_left, unstopped_left, unstarted_less, unstopped_less}
use Rattle.vx_life_rows.proofs.Opens.{same_open, less_open, verticles_less}
use Rattle.vx_life_rows.proofs.Parts.{loops_left, standard_left, deployments_left, known_left, stops_left, closed_left, told_left, gone_told_left, taken_left, outside_made, record_with, failures, failures_left, none_failed, askings_left, there_is, there_moved}
use Rattle.vx_life_rows.proofs.RowStill.{CallEnds, call_ends, deploys_nothing}
use Rattle.vx_life_rows.proofs.RowDeploy.{told_to, or_nothing, any_there}
use Rattle.vx_life_rows.proofs.Asked.{asked_earlier, asked_now, asked_more, made_earlier}

-- what all these leave
pub record LeavesRest (history : List Traced) (new : Traced) (old life : LifeStore) : Type 0 where
  pub deploys : DeploysNothing history new
  pub sets : sets_loops new.entry.call ≡ false
  pub taken : stop_made new.entry.call new.entry.reply ≡ []
  pub shuts : close_made history new.entry.call ≡ []
  pub loops : life.loops ≡ old.loops
  pub standard : life.standard ≡ old.standard
  pub stops : life.stops ≡ old.stops
  pub closed : life.closed ≡ old.closed
  pub known : (d : DeploymentId) → tree.is_known d life.tree.asked ≡ tree.is_known d old.tree.asked

-- ... and what they move
pub record Moves (life : LifeStore) (after : List Traced) : Type 0 where
  pub there : life.tree.there ≡ map node_of (there after)
  pub asked : (d : DeploymentId) → tree.asked_at d life.tree.asked ≡ asked_at after d
  pub live : life.tree.live ≡ verticles_of (open_contexts after)
  pub starting : life.tree.starting ≡ unstarted after
  pub unstopped : life.unstopped ≡ unstopped after
  pub records : life.records ≡ map (record_of after) (deployments after)
  pub asked_earlier : Each (λ (a : Asking). a.deployment.0.0 < length after) (askings after)
  pub told_earlier : Each (λ (t : Tell). t.deployment.0.0 < length after) (lasting undeploy_tell_kind after)

parts_moved : (history : List Traced) (new : Traced) (old life : LifeStore) → LeavesRest history new old life → Moves life (history ++ new ∷ []) → PartsStand old history → PartsStand life (history ++ new ∷ [])
parts_moved history new old life leaves moves parts =
    let Taken : List ContextId → Type 0 = Each (λ (c : ContextId). c.entry.0 < length (history ++ new ∷ [])) in
    record {
      loops = leaves.loops ∙ parts.loops ∙ sym (loops_left history new leaves.sets);
      standard = leaves.standard ∙ parts.standard ∙ sym (standard_left history new leaves.deploys);
      there = moves.there;
      asked = moves.asked;
      known = λ d. leaves.known d ∙ parts.known d ∙ sym (known_left history new leaves.deploys d);
      live = moves.live;
      starting = moves.starting;
      unstopped = moves.unstopped;
      stops = leaves.stops ∙ parts.stops ∙ sym (stops_left history new leaves.deploys leaves.taken);
      records = moves.records;
      closed = leaves.closed ∙ parts.closed ∙ sym (closed_left history new leaves.shuts);
      earlier = record {
        asked = moves.asked_earlier;
        told = moves.told_earlier;
        taken = subst Taken (sym (taken_left history new leaves.taken)) (still_earlier (λ (c : ContextId). c.entry.0) history new (lasting stop_kind history) parts.earlier.taken);
      };
    }

-- ## Undeploy

told_or : (some more : List Tell) (id : DeploymentId) → told_in (some ++ more) id ≡ option_or (told_in some id) (told_in more id)
told_or some more id =
    ap (option_map (λ (t : Tell). t.context)) (find-append (λ (t : Tell). same_deployment id t.deployment) some more)
    ∙ map_or (λ (t : Tell). t.context) (find (λ (t : Tell). same_deployment id t.deployment) some) (find (λ (t : Tell). same_deployment id t.deployment) more)

tells_gone : (history : List Traced) (id : DeploymentId) (tell : Option ContextId) → undeploy_tell history (calls.Undeploy id tell) ≡ told_to id tell
tells_gone history id None = refl
tells_gone history id (Some context) = refl

told_one : (id other : DeploymentId) (tell : Option ContextId) → told_in (told_to id tell) other ≡ cond (same_deployment other id) tell None
told_one id other None = let none : Option ContextId = None in elim (same_deployment other id) as (λ b. none ≡ cond b none none) [ true ↦ refl | false ↦ refl ]
told_one id other (Some context) =
    elim (same_deployment other id) as (λ b. option_map (λ (t : Tell). t.context) (cond b (Some (let t : Tell = record { deployment = id; context = context } in t)) None) ≡ cond b (Some context) None) [ true ↦ refl | false ↦ refl ]

told_entry_earlier : (n : ℕ) (id : DeploymentId) (tell : Option ContextId) → id.0.0 < n → Each (λ (t : Tell). t.deployment.0.0 < n) (told_to id tell)
told_entry_earlier n id None less = tt
told_entry_earlier n id (Some context) less = (less, tt)

-- one is told of a deployment
tells_record : (told gone : List Tell) (failed : List Failure) (id : DeploymentId) (tell : Option ContextId) (d : Deployment) → telling id tell (record_with told gone failed d) ≡ record_with told (gone ++ told_to id tell) failed d
tells_record told gone failed id tell d =
    let kept : Option ContextId → DeploymentRecord = λ o. record { id = d.id; deploy_tell = told_in told d.id; undeploy_tell = o; failure = (record_with told gone failed d).failure } in
    elim (same_deployment id d.id) as (λ b. cond b (kept (option_or (told_in gone d.id) tell)) (kept (told_in gone d.id)) ≡ kept (option_or (told_in gone d.id) (cond b tell None))) [
      | true ↦ refl
      | false ↦ ap kept (sym (or_nothing (told_in gone d.id)))
    ]
    ∙ ap (λ b. kept (option_or (told_in gone d.id) (cond b tell None))) (same_number id.0.0 d.id.0.0)
    ∙ ap (λ o. kept (option_or (told_in gone d.id) o)) (sym (told_one id d.id tell))
    ∙ ap kept (sym (told_or gone (told_to id tell) d.id))

-- a deployment that is not gone was made
there_made : (history : List Traced) (id : DeploymentId) → machine.no_deployment history id ≡ None → was_made history id ≡ true
there_made history id none =
    elim (list_any (is_deployment id) (there history)) as (λ b. list_any (is_deployment id) (there history) ≡ b → machine.refused_if (not b) refusals.NoDeployment ≡ None → was_made history id ≡ true) [
      | true ↦ λ here h. any_there (is_deployment id) (askings history) (open_contexts history) (deployments history) here
      | false ↦ λ gone h. absurd cc
    ] refl none

module _ (history : List Traced) (pass : PassNo) (id : DeploymentId) (tell : Option ContextId) (reply : Reply) (states : List (List ℤ)) (mark : Mark) (ok : is_accepted reply ≡ true)
    (found : machine.no_deployment history id ≡ None) (children : Each (IsAskedWithParent (askings history)) (deployments history)) where
  abbrev undeployed : Traced
  undeployed = entry_of pass (calls.Undeploy id tell) reply states mark

  gone_told_more : lasting undeploy_tell_kind (history ++ undeployed ∷ []) ≡ lasting undeploy_tell_kind history ++ told_to id tell
  gone_told_more = kind_more undeploy_tell_kind history undeployed ok (λ t. refl) ∙ ap (λ ts. lasting undeploy_tell_kind history ++ ts) (tells_gone history id tell)

  told_records : map (telling id tell) (map (record_of history) (deployments history)) ≡ map (record_of (history ++ undeployed ∷ [])) (deployments (history ++ undeployed ∷ []))
  told_records =
      let deploys = deploys_nothing history undeployed refl in
      map_map (telling id tell) (record_of history) (deployments history)
      ∙ map_all (λ d. telling id tell (record_of history d)) (record_with (lasting deploy_tell_kind history) (lasting undeploy_tell_kind history ++ told_to id tell) (failures history))
      (tells_record (lasting deploy_tell_kind history) (lasting undeploy_tell_kind history) (failures history) id tell) (deployments history)
      ∙ sym
      (ap (map (record_of (history ++ undeployed ∷ []))) (deployments_left history undeployed deploys)
      ∙ ap (λ told. map (record_with told (lasting undeploy_tell_kind (history ++ undeployed ∷ [])) (failures (history ++ undeployed ∷ []))) (deployments history)) (told_left history undeployed deploys)
      ∙ ap (λ told. map (record_with (lasting deploy_tell_kind history) told (failures (history ++ undeployed ∷ []))) (deployments history)) gone_told_more
      ∙ ap (λ failed. map (record_with (lasting deploy_tell_kind history) (lasting undeploy_tell_kind history ++ told_to id tell) failed) (deployments history)) (failures_left history undeployed refl))

  -- a deployment is asked to end
  pub life_asked : (old life : LifeStore) → Asks id tell (next_entry history) old life → LifeStands old history → IsBehind life history (history ++ entry_of pass (calls.Undeploy id tell) reply states mark ∷ [])
  life_asked old life step stands =
      let parts = stands.parts in
      let coming = stands.coming in
      let after : List Traced = history ++ undeployed ∷ [] in
      let made = there_made history id found in
      let deploys = deploys_nothing history undeployed refl in
      let live : verticles_of (open_contexts after) ≡ verticles_of (open_contexts history) = outside_made history undeployed deploys (λ c. refl) in
      let asked = asked_now history undeployed id ok refl old parts children life.tree step.notes in
      let Told : List Tell → Type 0 = Each (λ (t : Tell). t.deployment.0.0 < length after) in
      record {
        parts = parts_moved history undeployed old life
            (record {
              deploys = deploys;
              sets = refl;
              taken = refl;
              shuts = refl;
              loops = ap (λ (s : LifeStore). s.loops) step.rest;
              standard = ap (λ (s : LifeStore). s.standard) step.rest;
              stops = ap (λ (s : LifeStore). s.stops) step.rest;
              closed = ap (λ (s : LifeStore). s.closed) step.rest;
              known = step.notes.known;
            })
            (record {
              there = ap (λ (s : LifeStore). s.tree.there) step.rest
                  ∙ ap (λ cs. tree.there_of life.tree.asked cs old.tree.there) (parts.live ∙ sym live)
                  ∙ ap (tree.there_of life.tree.asked (verticles_of (open_contexts after))) parts.there
                  ∙ there_moved old.tree.asked life.tree.asked history after parts.asked asked (deployments_left history undeployed deploys)
                  (asked_more history undeployed id ok refl old parts children life.tree step.notes) (λ d some. ap (list_any (tree.is_instance_of d)) (sym live) ∙ some);
              asked = asked;
              live = ap (λ (s : LifeStore). s.tree.live) step.rest ∙ parts.live ∙ sym live;
              starting = ap (λ (s : LifeStore). s.tree.starting) step.rest ∙ parts.starting ∙ sym (unstarted_left history undeployed ok refl refl);
              unstopped = ap (λ (s : LifeStore). s.unstopped) step.rest ∙ parts.unstopped ∙ sym (unstopped_left history undeployed ok refl refl);
              records = ap (λ (s : LifeStore). s.records) step.rest ∙ ap (map (telling id tell)) parts.records ∙ told_records;
              asked_earlier = asked_earlier history undeployed id ok refl parts.earlier.asked made;
              told_earlier = subst Told (sym gone_told_more)
                  (still_earlier (λ (t : Tell). t.deployment.0.0) history undeployed (lasting undeploy_tell_kind history ++ told_to id tell)
                  (Each-append (λ (t : Tell). t.deployment.0.0 < length history) (lasting undeploy_tell_kind history) (told_to id tell) parts.earlier.told (told_entry_earlier (length history) id tell (made_earlier history id made))));
            }) parts;
        coming = record {
          deploying = ap (λ (s : LifeStore). s.deploying) step.rest ∙ coming.deploying;
          ending = ap (λ (s : LifeStore). s.ending) step.rest ∙ coming.ending;
          to_stop = ap (λ (s : LifeStore). s.tree.to_stop) step.rest ∙ coming.to_stop ∙ sym (same_open history undeployed (λ c. refl) (lasting (awaited deployed_contexts stops_now) history) (awaited_earlier stops_now history));
        };
      }

-- ## What an entry ends is a start or a stop, not both

one_kind : (kind : ItemKind) (ended : Option DoneResult) (one : Ending) → ending (starts_in kind) ended ≡ Some one → ending (stops_in kind) ended ≡ None
one_kind (kinds.Start context) ended one start = refl
one_kind (kinds.Stop context) ended one start = absurd cc
one_kind _ ended one start = refl

one_held : (o : Option Held) (ended : Option DoneResult) (one : Ending) → ending (option_and_then (λ (held : Held). starts_in held.kind) o) ended ≡ Some one → ending (option_and_then (λ (held : Held). stops_in held.kind) o) ended ≡ None
one_held None ended one start = absurd cc
one_held (Some held) ended one start = one_kind held.kind ended one start

pub start_alone : (history : List Traced) (pass : PassNo) (call : Call) (one : Ending) → starter history pass call ≡ Some one → stopper history pass call ≡ None
start_alone history pass (calls.StartDone result) one start = refl
start_alone history pass (calls.Finish end) one start = one_held (holding history pass) (done_by end) one start
start_alone history pass _ one start = absurd cc

stop_alone_in : (history : List Traced) (pass : PassNo) (call : Call) (one : Ending) (o : Option Ending) → starter history pass call ≡ o → stopper history pass call ≡ Some one → o ≡ None
stop_alone_in history pass call one None start stop = refl
stop_alone_in history pass call one (Some other) start stop = absurd (let none : stopper history pass call ≡ None = start_alone history pass call other start in cc)

pub stop_alone : (history : List Traced) (pass : PassNo) (call : Call) (one : Ending) → stopper history pass call ≡ Some one → starter history pass call ≡ None
stop_alone history pass call one stop = stop_alone_in history pass call one (starter history pass call) refl stop

-- a start of a deployment fails
fails_record : (told gone : List Tell) (failed : List Failure) (one : Ending) (d : Deployment) → failing (deployment_of one.context) one.result (record_with told gone failed d) ≡ record_with told gone (failed ++ failure one ∷ []) d
fails_record told gone failed one d =
    let id = deployment_of one.context in
    let test : Failure → Bool = λ (f : Failure). same_deployment d.id f.deployment in
    let result : Failure → DoneResult = λ (f : Failure). f.result in
    let kept : Option DoneResult → DeploymentRecord = λ o. record { id = d.id; deploy_tell = told_in told d.id; undeploy_tell = told_in gone d.id; failure = o } in
    let before : Option DoneResult = option_map result (find test failed) in
    elim (same_deployment id d.id) as (λ b. cond b (kept (option_or before (Some one.result))) (kept before) ≡ kept (option_or before (option_map result (cond b (Some (failure one)) None)))) [
      | true ↦ refl
      | false ↦ ap kept (sym (or_nothing before))
    ]
    ∙ ap (λ b. kept (option_or before (option_map result (cond b (Some (failure one)) None)))) (same_number id.0.0 d.id.0.0)
    ∙ ap kept (sym (ap (option_map result) (find-append test failed (failure one ∷ [])) ∙ map_or result (find test failed) (find test (failure one ∷ []))))

among_made : (history : List Traced) (context : ContextId) (cs : List ContextId) → Each (λ c. was_made history (deployment_of c) ≡ true) cs → list_any (same_context context) cs ≡ true → was_made history (deployment_of context) ≡ true
among_made history context [] each among = absurd cc
among_made history context (c ∷ cs) each among =
    elim (same_context context c) as (λ b. same_context context c ≡ b → (b || list_any (same_context context) cs) ≡ true → was_made history (deployment_of context) ≡ true) [
      | true ↦ λ same found. ap (λ i. was_made history (deployment_of i)) (same_context-true context c same) ∙ each.0
      | false ↦ λ other found. among_made history context cs each.1 found
    ] refl among

-- ## A start that ends

module _ (history : List Traced) (new : Traced) (ok : is_accepted new.entry.reply ≡ true) (ends : ends_lives new.entry.call ≡ true) where
  abbrev next : List Traced
  next = history ++ new ∷ []

  abbrev is : CallEnds history new.entry.pass new.entry.call new.entry.reply
  is = call_ends history new.entry.pass new.entry.call new.entry.reply ends

  abbrev nothing : DeploysNothing history new
  nothing = deploys_nothing history new is.deploys

  rest : (old life : LifeStore) → life.loops ≡ old.loops → life.standard ≡ old.standard → life.stops ≡ old.stops → life.closed ≡ old.closed → ((d : DeploymentId) → tree.is_known d life.tree.asked ≡ tree.is_known d old.tree.asked) → LeavesRest history new old life
  rest old life loops standard stops closed known =
      record { deploys = nothing; sets = is.loops; taken = is.taken; shuts = is.shuts; loops = loops; standard = standard; stops = stops; closed = closed; known = known }

  -- the entry starts nothing that fails
  module _ (none : start_failed history new.entry.pass new.entry.call ≡ None) where
    asks_none : asked_by history new.entry.pass new.entry.call ≡ None
    asks_none = is.asks ∙ ap (option_map (λ (ending : Ending). deployment_of ending.context)) none

    closes_as : closing_by history new.entry.pass new.entry.call ≡ option_map context_in (stop_ended history new.entry.pass new.entry.call)
    closes_as = ap (λ o. option_or (option_map context_in o) (option_map context_in (stop_ended history new.entry.pass new.entry.call))) none

    same_asked : (d : DeploymentId) → asked_at next d ≡ asked_at history d
    same_asked d = ap (λ all. asked_in all d) (askings_left history new asks_none)

    same_records : map (record_of next) (deployments next) ≡ map (record_of history) (deployments history)
    same_records =
        ap (map (record_of next)) (deployments_left history new nothing)
        ∙ ap (λ told. map (record_with told (lasting undeploy_tell_kind next) (failures next)) (deployments history)) (told_left history new nothing)
        ∙ ap (λ told. map (record_with (lasting deploy_tell_kind history) told (failures next)) (deployments history)) (gone_told_left history new is.tells)
        ∙ ap (λ failed. map (record_with (lasting deploy_tell_kind history) (lasting undeploy_tell_kind history) failed) (deployments history)) (failures_left history new none)

    same_asked_earlier : Each (λ (a : Asking). a.deployment.0.0 < length history) (askings history) → Each (λ (a : Asking). a.deployment.0.0 < length next) (askings next)
    same_asked_earlier before =
        let P : List Asking → Type 0 = Each (λ (a : Asking). a.deployment.0.0 < length next) in
        subst P (sym (askings_left history new asks_none)) (still_earlier (λ (a : Asking). a.deployment.0.0) history new (askings history) before)

  same_told_earlier : Each (λ (t : Tell). t.deployment.0.0 < length history) (lasting undeploy_tell_kind history) → Each (λ (t : Tell). t.deployment.0.0 < length next) (lasting undeploy_tell_kind next)
  same_told_earlier before =
      let P : List Tell → Type 0 = Each (λ (t : Tell). t.deployment.0.0 < length next) in
      subst P (sym (gone_told_left history new is.tells)) (still_earlier (λ (t : Tell). t.deployment.0.0) history new (lasting undeploy_tell_kind history) before)

  -- what a start comes to
  module _ (one : Ending) (started : start_ended history new.entry.pass new.entry.call ≡ Some one) where
    its_start : starter history new.entry.pass new.entry.call ≡ Some one
    its_start = (start_is history (starter history new.entry.pass new.entry.call) one started).0

    no_stop : stop_ended history new.entry.pass new.entry.call ≡ None
    no_stop = ap (ended_stop history) (start_alone history new.entry.pass new.entry.call one its_start)

    its_result : start_failed history new.entry.pass new.entry.call ≡ failure_in one one.result
    its_result = ap (option_and_then (λ (ending : Ending). failure_in ending ending.result)) started

    pub start_made : was_made history (deployment_of one.context) ≡ true
    start_made = among_made history one.context (unstarted history) (unstarted_made history) (start_is history (starter history new.entry.pass new.entry.call) one started).1

    -- it ends well
    pub life_started : one.result ≡ results.Ok → (old : LifeStore) → LifeStands old history → IsBehind (record old { tree = started_in one.context old.tree }) history (history ++ new ∷ [])
    life_started well old stands =
        let life : LifeStore = record old { tree = started_in one.context old.tree } in
        let parts = stands.parts in
        let coming = stands.coming in
        let none : start_failed history new.entry.pass new.entry.call ≡ None = its_result ∙ ap (failure_in one) well in
        let closes_none : (c : ContextId) → closes history new.entry.pass new.entry.call c ≡ false = λ c. is.closes c ∙ ap (is_of_context c) (closes_as none ∙ ap (option_map context_in) no_stop) in
        let live : verticles_of (open_contexts next) ≡ verticles_of (open_contexts history) = outside_made history new nothing closes_none in
        let asked : (d : DeploymentId) → tree.asked_at d old.tree.asked ≡ asked_at next d = λ d. parts.asked d ∙ sym (same_asked none d) in
        record {
          parts = parts_moved history new old life (rest old life refl refl refl refl (λ d. refl))
              (record {
                there = parts.there ∙ sym (there_is old.tree.asked history parts.asked) ∙ ap (λ cs. tree.there_of old.tree.asked cs (map node_of (deployments history))) (sym live)
                    ∙ ap (λ ds. tree.there_of old.tree.asked (verticles_of (open_contexts next)) (map node_of ds)) (sym (deployments_left history new nothing)) ∙ there_is old.tree.asked next asked;
                asked = asked;
                live = parts.live ∙ sym live;
                starting = ap (tree.without one.context) parts.starting ∙ sym (unstarted_less history new ok nothing.instances one its_start);
                unstopped = parts.unstopped ∙ sym (unstopped_left history new ok nothing.instances no_stop);
                records = parts.records ∙ sym (same_records none);
                asked_earlier = same_asked_earlier none parts.earlier.asked;
                told_earlier = same_told_earlier parts.earlier.told;
              }) parts;
          coming = record {
            deploying = coming.deploying;
            ending = coming.ending;
            to_stop = coming.to_stop ∙ sym (same_open history new closes_none (lasting (awaited deployed_contexts stops_now) history) (awaited_earlier stops_now history));
          };
        }

    failed_records : start_failed history new.entry.pass new.entry.call ≡ Some one → map (failing (deployment_of one.context) one.result) (map (record_of history) (deployments history)) ≡ map (record_of next) (deployments next)
    failed_records failed =
        map_map (failing (deployment_of one.context) one.result) (record_of history) (deployments history)
        ∙ map_all (λ d. failing (deployment_of one.context) one.result (record_of history d)) (record_with (lasting deploy_tell_kind history) (lasting undeploy_tell_kind history) (failures history ++ failure one ∷ []))
        (fails_record (lasting deploy_tell_kind history) (lasting undeploy_tell_kind history) (failures history) one) (deployments history)
        ∙ sym
        (ap (map (record_of next)) (deployments_left history new nothing)
        ∙ ap (λ told. map (record_with told (lasting undeploy_tell_kind next) (failures next)) (deployments history)) (told_left history new nothing)
        ∙ ap (λ told. map (record_with (lasting deploy_tell_kind history) told (failures next)) (deployments history)) (gone_told_left history new is.tells)
        ∙ ap (λ fs. map (record_with (lasting deploy_tell_kind history) (lasting undeploy_tell_kind history) fs) (deployments history))
        (kind_more failure_kind history new ok (λ f. refl) ∙ ap (λ o. failures history ++ option_to_list (option_map failure o)) failed))

    -- it fails
    pub life_failed : (children : Each (IsAskedWithParent (askings history)) (deployments history)) → start_failed history new.entry.pass new.entry.call ≡ Some one → (old life : LifeStore) → Fails one.context one.result (next_entry history) old life → LifeStands old history →
        IsBehind life history (history ++ new ∷ [])
    life_failed children failed old life step stands =
        let parts = stands.parts in
        let coming = stands.coming in
        let top : DeploymentId = deployment_of one.context in
        let asks : asked_by history new.entry.pass new.entry.call ≡ Some top = is.asks ∙ ap (option_map (λ (ending : Ending). deployment_of ending.context)) failed in
        let closes_one : (c : ContextId) → closes history new.entry.pass new.entry.call c ≡ same_context c one.context =
        λ c. is.closes c ∙ ap (is_of_context c) (ap (λ o. option_or (option_map context_in o) (option_map context_in (stop_ended history new.entry.pass new.entry.call))) failed) in
        let live : verticles_of (open_contexts next) ≡ tree.without one.context (verticles_of (open_contexts history)) = verticles_less history new one.context ok is.none closes_one in
        let left : tree.without one.context old.tree.live ≡ verticles_of (open_contexts next) = ap (tree.without one.context) parts.live ∙ sym live in
        let asked = asked_now history new top ok asks old parts children life.tree step.notes in
        let fewer : (d : DeploymentId) → list_any (tree.is_instance_of d) (verticles_of (open_contexts next)) ≡ true → list_any (tree.is_instance_of d) (verticles_of (open_contexts history)) ≡ true =
        λ d some. any_fewer (tree.is_instance_of d) (λ other. not (same_context one.context other)) (verticles_of (open_contexts history)) (ap (list_any (tree.is_instance_of d)) (sym live) ∙ some) in
        let fewer_old : (d : DeploymentId) → list_any (tree.is_instance_of d) (tree.without one.context old.tree.live) ≡ true → list_any (tree.is_instance_of d) old.tree.live ≡ true =
        λ d some. any_fewer (tree.is_instance_of d) (λ other. not (same_context one.context other)) old.tree.live some in
        record {
          parts = parts_moved history new old life
              (rest old life (ap (λ (s : LifeStore). s.loops) step.rest) (ap (λ (s : LifeStore). s.standard) step.rest) (ap (λ (s : LifeStore). s.stops) step.rest) (ap (λ (s : LifeStore). s.closed) step.rest) step.notes.known)
              (record {
                there = ap (λ (s : LifeStore). s.tree.there) step.rest
                    ∙ settled_again life.tree.asked life.tree.asked old.tree.live (tree.without one.context old.tree.live) (λ d some. some) fewer_old old.tree.there
                    ∙ ap (λ cs. tree.there_of life.tree.asked cs old.tree.there) left
                    ∙ ap (tree.there_of life.tree.asked (verticles_of (open_contexts next))) parts.there
                    ∙ there_moved old.tree.asked life.tree.asked history next parts.asked asked (deployments_left history new nothing) (asked_more history new top ok asks old parts children life.tree step.notes) fewer;
                asked = asked;
                live = ap (λ (s : LifeStore). s.tree.live) step.rest ∙ left;
                starting = ap (λ (s : LifeStore). s.tree.starting) step.rest ∙ ap (tree.without one.context) parts.starting ∙ sym (unstarted_less history new ok nothing.instances one its_start);
                unstopped = ap (λ (s : LifeStore). s.unstopped) step.rest ∙ parts.unstopped ∙ sym (unstopped_left history new ok nothing.instances no_stop);
                records = ap (λ (s : LifeStore). s.records) step.rest ∙ ap (map (failing top one.result)) parts.records ∙ failed_records failed;
                asked_earlier = asked_earlier history new top ok asks parts.earlier.asked start_made;
                told_earlier = same_told_earlier parts.earlier.told;
              }) parts;
          coming = record {
            deploying = ap (λ (s : LifeStore). s.deploying) step.rest ∙ coming.deploying;
            ending = ap (λ (s : LifeStore). s.ending) step.rest ∙ coming.ending;
            to_stop = ap (λ (s : LifeStore). s.tree.to_stop) step.rest ∙ ap (tree.without one.context) coming.to_stop ∙ sym (less_open history new one.context ok is.none closes_one (lasting (awaited deployed_contexts stops_now) history));
          };
        }

  -- ## A stop that ends

  -- the stop of a context ends
  pub life_stopped : (one : Ending) → stop_ended history new.entry.pass new.entry.call ≡ Some one → (old : LifeStore) → LifeStands old history →
      IsBehind (record old { tree = closed_in one.context old.tree; unstopped = tree.without one.context old.unstopped }) history (history ++ new ∷ [])
  life_stopped one stopped old stands =
      let life : LifeStore = record old { tree = closed_in one.context old.tree; unstopped = tree.without one.context old.unstopped } in
      let parts = stands.parts in
      let coming = stands.coming in
      let its_stop : stopper history new.entry.pass new.entry.call ≡ Some one = (stop_is history (stopper history new.entry.pass new.entry.call) one stopped).0 in
      let no_start : start_ended history new.entry.pass new.entry.call ≡ None = ap (ended_start history) (stop_alone history new.entry.pass new.entry.call one its_stop) in
      let none : start_failed history new.entry.pass new.entry.call ≡ None = none_failed history new no_start in
      let closes_one : (c : ContextId) → closes history new.entry.pass new.entry.call c ≡ same_context c one.context = λ c. is.closes c ∙ ap (is_of_context c) (closes_as none ∙ ap (option_map context_in) stopped) in
      let live : verticles_of (open_contexts next) ≡ tree.without one.context (verticles_of (open_contexts history)) = verticles_less history new one.context ok is.none closes_one in
      let left : tree.without one.context old.tree.live ≡ verticles_of (open_contexts next) = ap (tree.without one.context) parts.live ∙ sym live in
      let asked : (d : DeploymentId) → tree.asked_at d old.tree.asked ≡ asked_at next d = λ d. parts.asked d ∙ sym (same_asked none d) in
      let fewer : (d : DeploymentId) → list_any (tree.is_instance_of d) (verticles_of (open_contexts next)) ≡ true → list_any (tree.is_instance_of d) (verticles_of (open_contexts history)) ≡ true =
      λ d some. any_fewer (tree.is_instance_of d) (λ other. not (same_context one.context other)) (verticles_of (open_contexts history)) (ap (list_any (tree.is_instance_of d)) (sym live) ∙ some) in
      record {
        parts = parts_moved history new old life (rest old life refl refl refl refl (λ d. refl))
            (record {
              there = ap (λ cs. tree.there_of old.tree.asked cs old.tree.there) left
                  ∙ ap (tree.there_of old.tree.asked (verticles_of (open_contexts next))) parts.there
                  ∙ there_moved old.tree.asked old.tree.asked history next parts.asked asked (deployments_left history new nothing) (λ d some. some) fewer;
              asked = asked;
              live = left;
              starting = parts.starting ∙ sym (unstarted_left history new ok nothing.instances no_start);
              unstopped = ap (tree.without one.context) parts.unstopped ∙ sym (unstopped_less history new ok nothing.instances one its_stop);
              records = parts.records ∙ sym (same_records none);
              asked_earlier = same_asked_earlier none parts.earlier.asked;
              told_earlier = same_told_earlier parts.earlier.told;
            }) parts;
        coming = record {
          deploying = coming.deploying;
          ending = coming.ending;
          to_stop = ap (tree.without one.context) coming.to_stop ∙ sym (less_open history new one.context ok is.none closes_one (lasting (awaited deployed_contexts stops_now) history));
        };
      }

-- ## What is known of it beforehand

-- the deployment of a start that an entry ends is known
pub known_start : (history : List Traced) (life : LifeStore) (pass : PassNo) (call : Call) (one : Ending) → PartsStand life history → start_ended history pass call ≡ Some one → tree.is_known (deployment_of one.context) life.tree.asked ≡ true
known_start history life pass call one parts started =
    parts.known (deployment_of one.context) ∙ among_made history one.context (unstarted history) (unstarted_made history) (start_is history (starter history pass call) one started).1

-- a deployment that is not gone is known
pub known_there : (history : List Traced) (life : LifeStore) (id : DeploymentId) → PartsStand life history → machine.no_deployment history id ≡ None → tree.is_known id life.tree.asked ≡ true
known_there history life id parts found = parts.known id ∙ there_made history id found
