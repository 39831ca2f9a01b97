-- Close.
use Rattle.std.proofs.Common.{◌≡◌, ◌<◌, List, [], ◌∷◌, ◌++◌, length, refl, ap, sym, ◌∙◌, subst}
use Rattle.std.specs.Prelude.{ℤ, true, false, not, ◌||◌, filter, find, map, is_none, None, Some}
use Rattle.std.specs.List.{list_any}
use Rattle.std.specs.Option.{option_or}
use Rattle.std.proofs.lemmas.List.Folds.{find-append}
use Rattle.vx_data.specs.declared.ids.ContextId.{ContextId}
use Rattle.vx_data.specs.declared.ids.DeploymentId.{DeploymentId}
use Rattle.vx_data.specs.declared.ids.EntryNo.{EntryNo}
use Rattle.vx_data.specs.declared.ids.PassNo.{PassNo}
use Rattle.vx_message.specs.declared.Context.{Context}
use Rattle.vx_tree.specs.Nodes as tree
use Rattle.vx_call.specs.declared.call.Call.TheVariants as calls
use Rattle.vx_call.specs.declared.history.Mark.{Mark}
use Rattle.vx_call.specs.declared.history.Traced.{Traced}
use Rattle.vx_call.specs.declared.reply.Reply.{Reply}
use Rattle.vx_call.specs.History.{is_accepted, lasting}
use Rattle.vx_call.specs.Names.{next_entry}
use Rattle.vx_call.specs.Contexts.{is_context_of}
use Rattle.vx_call.specs.Deployments.{Deployment, deployment_of, deployments, deployed_ids}
use Rattle.vx_call.specs.Tells.{Tell, deploy_tell_kind, undeploy_tell_kind}
use Rattle.vx_call.specs.Starts.{ids_of_contexts, deployed_contexts}
use Rattle.vx_call.specs.Stopping.{stop_kind}
use Rattle.vx_call.specs.Closings.{close_kind, open_context_kind, open_contexts, is_open, is_open_in}
use Rattle.vx_call.specs.Askings.{Asking, is_asking_of, askings, asked_at}
use Rattle.vx_call.specs.There.{is_deployment, is_instance_of, has_open, is_child_of, stays, there, is_gone}
use Rattle.vx_call.specs.Ends.{is_deployed, stops_now}
use Rattle.vx_call.specs.Coming.{awaited}
use Rattle.vx_call.specs.Refusals as machine
use Rattle.vx_call.proofs.Each.{Each, Each-both, weaken}
use Rattle.vx_call.proofs.Contexts.{same_context-true}
use Rattle.vx_call.proofs.Filters.{filter_no}
use Rattle.vx_call.proofs.Gone.{there_while}
use Rattle.vx_call.proofs.Once.{each_any}
use Rattle.vx_life.specs.Stores.{LifeStore}
use Rattle.vx_life.specs.Stands.{node_of, verticles_of, record_of, LifeStands}
use Rattle.vx_life_rows.specs.Moves.{entry_of, DeploysNothing}
use Rattle.vx_life_rows.proofs.Lists.{or_none, not_so, all_each}
use Rattle.vx_life_rows.proofs.Bridge.{NoOutside, asked_in}
use Rattle.vx_life_rows.proofs.Facts.{was_made, no_outside, open_made, awaited_of_made, same_self}
use Rattle.vx_life_rows.proofs.Left.{kind_less, kind_more, still_earlier, unstarted_left, unstopped_left}
use Rattle.vx_life_rows.proofs.Parts.{loops_left, standard_left, deployments_left, known_left, stops_left, told_left, gone_told_left, taken_left, record_with, failures, failures_left, askings_left, awaited_left, there_moved}
use Rattle.vx_life_rows.proofs.RowStill.{deploys_nothing}
use Rattle.vx_life_rows.proofs.RowDeploy.{any_find}

none_there : (ds : List Deployment) → machine.still_there ds ≡ None → ds ≡ []
none_there [] none = refl
none_there (d ∷ ds) none = absurd cc

-- ## No deployment is there

module _ (history : List Traced) (none : machine.still_deployed history ≡ None) where
  nothing_there : there history ≡ []
  nothing_there = none_there (there history) none

  -- no context of a deployment is open
  none_open : (id : DeploymentId) → was_made history id ≡ true → has_open (open_contexts history) id ≡ false
  none_open id made =
      let Stays : Deployment → Type 0 = λ d. list_any (is_deployment d.id) (there history) ≡ stays (askings history) (open_contexts history) d (there history) in
      let it = any_find id Stays (deployments history) (there_while history) made in
      let d : Deployment = it.0 in
      let gone : stays (askings history) (open_contexts history) d (there history) ≡ false = sym it.1 ∙ ap (list_any (is_deployment d.id)) nothing_there in
      ap (has_open (open_contexts history)) it.2
      ∙ (or_none (has_open (open_contexts history) d.id) (list_any (is_child_of d.id) (there history)) (or_none (not (list_any (is_asking_of d.id) (askings history))) _ gone).1).0

  -- so none of those that are open is a verticle's
  no_verticle : Each (λ (c : Context). is_none c.maker ≡ false) (open_contexts history)
  no_verticle =
      let Open : Context → Type 0 = λ c. has_open (open_contexts history) (deployment_of c.id) ≡ true in
      let Made : Context → Type 0 = λ c. is_none c.maker ≡ true → was_made history (deployment_of c.id) ≡ true in
      Each-both Open Made (λ (c : Context). is_none c.maker ≡ false) (open_contexts history)
      (λ c here made. not_so (is_none c.maker) (λ own. let e : true ≡ false = sym here ∙ none_open (deployment_of c.id) (made own) in cc))
      (each_any (λ (a b : Context). is_instance_of (deployment_of a.id) b.id) (λ (c : Context). same_self (deployment_of c.id)) (open_contexts history)) (open_made history)

  pub none_live : verticles_of (open_contexts history) ≡ []
  none_live = ap ids_of_contexts (filter_no (λ (c : Context). is_none c.maker) (open_contexts history) no_verticle)

  -- an outside context has another name than one of a verticle
  other_names : (id : ContextId) (cs : List Context) → Each (λ (c : Context). is_none c.maker ≡ false) cs → Each (λ (c : Context). is_none c.maker ≡ false → is_instance_of (deployment_of id) c.id ≡ false) cs → list_any (is_context_of id) cs ≡ false
  other_names id [] outside differs = refl
  other_names id (c ∷ cs) outside differs =
      ap (λ b. b || list_any (is_context_of id) cs)
      (not_so (is_context_of id c) (λ same.
      let e : is_instance_of (deployment_of id) c.id ≡ true = ap (λ i. is_instance_of (deployment_of id) i) (sym (same_context-true id c.id same)) ∙ same_self (deployment_of id) in
      let f : true ≡ false = sym e ∙ differs.0 outside.0 in cc))
      ∙ other_names id cs outside.1 differs.1

  verticle_closed : (id : ContextId) → was_made history (deployment_of id) ≡ true → is_open history id ≡ false
  verticle_closed id made =
      let it = any_find (deployment_of id) (NoOutside (open_contexts history)) (deployments history) (no_outside history) made in
      other_names id (open_contexts history) no_verticle (subst (λ (i : DeploymentId). Each (λ (c : Context). is_none c.maker ≡ false → is_instance_of i c.id ≡ false) (open_contexts history)) (sym it.2) it.1)

  -- and no stop is still to come
  pub none_to_stop : filter (is_open history) (lasting (awaited deployed_contexts stops_now) history) ≡ []
  none_to_stop =
      filter_no (is_open history) (lasting (awaited deployed_contexts stops_now) history)
      (weaken (λ id. was_made history (deployment_of id) ≡ true) (λ id. is_open history id ≡ false) (lasting (awaited deployed_contexts stops_now) history) (λ id made. verticle_closed id made) (awaited_of_made stops_now history))

-- ## The row

module _ (history : List Traced) (pass : PassNo) (reply : Reply) (states : List (List ℤ)) (mark : Mark) (ok : is_accepted reply ≡ true) (none : machine.still_deployed history ≡ None) where
  abbrev closing : Traced
  closing = entry_of pass calls.Close reply states mark

  abbrev after : List Traced
  after = history ++ closing ∷ []

  none_left : (cs : List Context) → filter (λ (c : Context). not true) cs ≡ []
  none_left cs = filter_no (λ (c : Context). false) cs (all_each (λ (c : Context). false ≡ false) (λ c. refl) cs)

  all_closed : open_contexts after ≡ []
  all_closed = kind_less open_context_kind history closing ok refl ∙ none_left (open_contexts history)

  closed_records : map (record_of after) (deployments after) ≡ map (record_of history) (deployments history)
  closed_records =
      let nothing = deploys_nothing history closing refl in
      ap (map (record_of after)) (deployments_left history closing nothing)
      ∙ ap (λ told. map (record_with told (lasting undeploy_tell_kind after) (failures after)) (deployments history)) (told_left history closing nothing)
      ∙ ap (λ told. map (record_with (lasting deploy_tell_kind history) told (failures after)) (deployments history)) (gone_told_left history closing refl)
      ∙ ap (λ failed. map (record_with (lasting deploy_tell_kind history) (lasting undeploy_tell_kind history) failed) (deployments history)) (failures_left history closing refl)

  -- the hub is closed, where no deployment is there
  pub life_closed : (life : LifeStore) → LifeStands life history → LifeStands (record life { closed = option_or life.closed (Some (next_entry history)) }) (history ++ entry_of pass calls.Close reply states mark ∷ [])
  life_closed life stands =
      let parts = stands.parts in
      let coming = stands.coming in
      let nothing : DeploysNothing history closing = deploys_nothing history closing refl in
      let live : life.tree.live ≡ [] = parts.live ∙ none_live history none in
      let left : verticles_of (open_contexts after) ≡ [] = ap verticles_of all_closed in
      let asked : (d : DeploymentId) → tree.asked_at d life.tree.asked ≡ asked_at after d = λ d. parts.asked d ∙ sym (ap (λ all. asked_in all d) (askings_left history closing refl)) in
      let fewer : (d : DeploymentId) → list_any (tree.is_instance_of d) (verticles_of (open_contexts after)) ≡ true → list_any (tree.is_instance_of d) (verticles_of (open_contexts history)) ≡ true =
      λ d some. absurd (let e : false ≡ true = sym (ap (list_any (tree.is_instance_of d)) left) ∙ some in cc) in
      let gone : map node_of (there after) ≡ [] =
      sym (there_moved life.tree.asked life.tree.asked history after parts.asked asked (deployments_left history closing nothing) (λ d some. some) fewer)
      ∙ ap (λ ds. tree.there_of life.tree.asked (verticles_of (open_contexts after)) (map node_of ds)) (nothing_there history none) in
      let Asked : List Asking → Type 0 = Each (λ (a : Asking). a.deployment.0.0 < length after) in
      let Told : List Tell → Type 0 = Each (λ (t : Tell). t.deployment.0.0 < length after) in
      let Taken : List ContextId → Type 0 = Each (λ (c : ContextId). c.entry.0 < length after) in
      record {
        parts = record {
          loops = parts.loops ∙ sym (loops_left history closing refl);
          standard = parts.standard ∙ sym (standard_left history closing nothing);
          there = parts.there ∙ ap (map node_of) (nothing_there history none) ∙ sym gone;
          asked = asked;
          known = λ d. parts.known d ∙ sym (known_left history closing nothing d);
          live = live ∙ sym left;
          starting = parts.starting ∙ sym (unstarted_left history closing ok refl refl);
          unstopped = parts.unstopped ∙ sym (unstopped_left history closing ok refl refl);
          stops = parts.stops ∙ sym (stops_left history closing nothing refl);
          records = parts.records ∙ sym closed_records;
          closed = ap (λ o. option_or o (Some (next_entry history))) parts.closed
              ∙ sym (ap (find (λ (at : EntryNo). true)) (kind_more close_kind history closing ok (λ at. refl)) ∙ find-append (λ (at : EntryNo). true) (lasting close_kind history) (next_entry history ∷ []));
          earlier = record {
            asked = subst Asked (sym (askings_left history closing refl)) (still_earlier (λ (a : Asking). a.deployment.0.0) history closing (askings history) parts.earlier.asked);
            told = subst Told (sym (gone_told_left history closing refl)) (still_earlier (λ (t : Tell). t.deployment.0.0) history closing (lasting undeploy_tell_kind history) parts.earlier.told);
            taken = subst Taken (sym (taken_left history closing refl)) (still_earlier (λ (c : ContextId). c.entry.0) history closing (lasting stop_kind history) parts.earlier.taken);
          };
        };
        coming = record {
          deploying = coming.deploying ∙ sym (awaited_left deployed_ids is_deployed history closing refl refl);
          ending = coming.ending ∙ sym (awaited_left deployed_ids is_gone history closing refl refl);
          to_stop = coming.to_stop ∙ none_to_stop history none
              ∙ sym
              (ap (λ cs. filter (is_open_in cs) (lasting (awaited deployed_contexts stops_now) after)) all_closed
              ∙ filter_no (λ (id : ContextId). false) (lasting (awaited deployed_contexts stops_now) after) (all_each (λ (id : ContextId). false ≡ false) (λ id. refl) (lasting (awaited deployed_contexts stops_now) after)));
        };
      }
