-- Entries that move nothing in the lives of verticles, and those that are refused.
use Rattle.std.proofs.Common.{◌≡◌, ℕ, ◌+◌, ◌<◌, List, [], ◌∷◌, ◌++◌, length, refl, ap, sym, ◌∙◌, subst, arith}
use Rattle.std.specs.Prelude.{ℤ, true, false, not, ◌||◌, ◌&&◌, cond, fold, filter, find, map, is_some, is_none, None}
use Rattle.std.specs.List.{list_any}
use Rattle.std.specs.Option.{option_map, option_or}
use Rattle.std.proofs.lemmas.List.{length_push}
use Rattle.std.proofs.lemmas.List.Folds.{list_any-append}
use Rattle.vx_data.specs.declared.ids.ContextId.{ContextId}
use Rattle.vx_data.specs.declared.ids.DeploymentId.{DeploymentId}
use Rattle.vx_data.specs.declared.ids.PassNo.{PassNo}
use Rattle.vx_data.specs.Ids.{same_context}
use Rattle.vx_message.specs.declared.Context.{Context}
use Rattle.vx_tree.specs.Nodes as tree
use Rattle.vx_call.specs.declared.call.Call.{Call}
use Rattle.vx_call.specs.declared.call.Call.TheVariants as calls
use Rattle.vx_call.specs.declared.history.Traced.{Traced}
use Rattle.vx_call.specs.declared.reply.Reply.{Reply}
use Rattle.vx_call.specs.declared.reply.Reply.TheVariants as replies
use Rattle.vx_call.specs.declared.reply.Task.TheVariants as tasks
use Rattle.vx_call.specs.declared.history.Mark.{Mark}
use Rattle.vx_message.specs.declared.Lane.{Lane}
use Rattle.vx_call.specs.History.{is_accepted, lasting}
use Rattle.vx_call.specs.Loops.{loops_kind, loops, first_or, standard_kind, sets_loops, standard_made}
use Rattle.vx_call.specs.Contexts.{context_made, context_kind, contexts}
use Rattle.vx_call.specs.Deployments.{deployment_of, deployment_made, deployment_kind, deployments, deployed_ids}
use Rattle.vx_call.specs.Tells.{Tell, deploy_tell, undeploy_tell, deploy_tell_kind, undeploy_tell_kind}
use Rattle.vx_call.specs.Starts.{Ending, ended_start, ended_stop, start_ended, stop_ended, start_failed, deployed_contexts, unstarted_kind, unstopped_kind}
use Rattle.vx_call.specs.Stopping.{stop_kind, stop_made}
use Rattle.vx_call.specs.Closings.{closes, closing_by, context_in, close_made, close_kind, open_context_kind, open_contexts, is_open, is_open_in}
use Rattle.vx_call.specs.Held.{is_of_context}
use Rattle.vx_call.specs.Askings.{Asking, asked_by, asking_kind, askings, asked_at}
use Rattle.vx_call.specs.There.{is_deployment, there, is_gone, there_of}
use Rattle.vx_call.specs.Ends.{failure_kind, is_deployed, stops_now}
use Rattle.vx_call.specs.Coming.{awaited, moves_on}
use Rattle.vx_call.proofs.Each.{Each, Each-append}
use Rattle.vx_call.proofs.Contexts.{same_context-swap}
use Rattle.vx_call.proofs.Filters.{filter_no}
use Rattle.vx_call.proofs.Lasting.{lasting-append}
use Rattle.vx_call.proofs.Quiet.{is_loud, quiet_call, quiet_closes, quiet_asks}
use Rattle.vx_life.specs.Stores.{LifeStore, with_taken}
use Rattle.vx_life.specs.declared.stop.Stop.{Stop}
use Rattle.vx_life.specs.Stands.{node_of, verticles_of, stop_of, record_of, AreEarlier, PartsStand, ComingStands, LifeStands}
use Rattle.vx_life_rows.specs.Moves.{entry_of, DeploysNothing, IsCalm, IsStill, is_deploy, ends_lives}
use Rattle.vx_life_rows.proofs.Bridge.{asked_in}
use Rattle.vx_life_rows.proofs.Facts.{awaited_earlier}
use Rattle.vx_life_rows.proofs.Lists.{or_false, or_second, all_each, map_all, map_map}
use Rattle.vx_life_rows.proofs.Left.{kind_more, refused_left, still_earlier, unstarted_left, unstopped_left}
use Rattle.vx_life_rows.proofs.Opens.{same_open}
use Rattle.vx_life_rows.proofs.Parts.{stop_with, loops_left, standard_left, deployments_left, known_left, verticles_left, stops_left, closed_left, told_left, gone_told_left, taken_left, outside_made, record_with, failures, failures_left, none_failed, askings_left, there_is, awaited_left}

-- ## Refused

module _ (history : List Traced) (new : Traced) (refused : is_accepted new.entry.reply ≡ false) where
  same_asked : (id : DeploymentId) → asked_at (history ++ new ∷ []) id ≡ asked_at history id
  same_asked id = ap (λ all. asked_in all id) (refused_left asking_kind history new refused)

  same_contexts : open_contexts (history ++ new ∷ []) ≡ open_contexts history
  same_contexts = refused_left open_context_kind history new refused

  same_deployments : deployments (history ++ new ∷ []) ≡ deployments history
  same_deployments = refused_left deployment_kind history new refused

  refused_there : there (history ++ new ∷ []) ≡ there history
  refused_there =
      ap (λ xs. there_of xs (open_contexts (history ++ new ∷ [])) (deployments (history ++ new ∷ []))) (refused_left asking_kind history new refused)
      ∙ ap (λ xs. there_of (askings history) xs (deployments (history ++ new ∷ []))) same_contexts
      ∙ ap (there_of (askings history) (open_contexts history)) same_deployments

  refused_stops : map (stop_of (history ++ new ∷ [])) (verticles_of (contexts (history ++ new ∷ []))) ≡ map (stop_of history) (verticles_of (contexts history))
  refused_stops =
      ap (λ cs. map (stop_of (history ++ new ∷ [])) (verticles_of cs)) (refused_left context_kind history new refused)
      ∙ ap (λ taken. map (stop_with taken) (verticles_of (contexts history))) (refused_left stop_kind history new refused)

  refused_records : map (record_of (history ++ new ∷ [])) (deployments (history ++ new ∷ [])) ≡ map (record_of history) (deployments history)
  refused_records =
      ap (map (record_of (history ++ new ∷ []))) same_deployments
      ∙ ap (λ told. map (record_with told (lasting undeploy_tell_kind (history ++ new ∷ [])) (failures (history ++ new ∷ []))) (deployments history)) (refused_left deploy_tell_kind history new refused)
      ∙ ap (λ told. map (record_with (lasting deploy_tell_kind history) told (failures (history ++ new ∷ []))) (deployments history)) (refused_left undeploy_tell_kind history new refused)
      ∙ ap (λ failed. map (record_with (lasting deploy_tell_kind history) (lasting undeploy_tell_kind history) failed) (deployments history)) (refused_left failure_kind history new refused)

  refused_earlier : AreEarlier history → AreEarlier (history ++ new ∷ [])
  refused_earlier earlier =
      let Asked : List Asking → Type 0 = Each (λ (a : Asking). a.deployment.0.0 < length (history ++ new ∷ [])) in
      let Told : List Tell → Type 0 = Each (λ (t : Tell). t.deployment.0.0 < length (history ++ new ∷ [])) in
      let Taken : List ContextId → Type 0 = Each (λ (c : ContextId). c.entry.0 < length (history ++ new ∷ [])) in
      record {
        asked = subst Asked (sym (refused_left asking_kind history new refused)) (still_earlier (λ (a : Asking). a.deployment.0.0) history new (askings history) earlier.asked);
        told = subst Told (sym (refused_left undeploy_tell_kind history new refused)) (still_earlier (λ (t : Tell). t.deployment.0.0) history new (lasting undeploy_tell_kind history) earlier.told);
        taken = subst Taken (sym (refused_left stop_kind history new refused)) (still_earlier (λ (c : ContextId). c.entry.0) history new (lasting stop_kind history) earlier.taken);
      }

  -- an entry that is refused leaves the store
  pub life_refused : (life : LifeStore) → LifeStands life history → LifeStands life (history ++ new ∷ [])
  life_refused life stands =
      let parts = stands.parts in
      let coming = stands.coming in
      record {
        parts = record {
          loops = parts.loops ∙ sym (ap (first_or 2) (refused_left loops_kind history new refused));
          standard = parts.standard ∙ sym (ap (fold (λ all count. all + count) 0) (refused_left standard_kind history new refused));
          there = parts.there ∙ sym (ap (map node_of) refused_there);
          asked = λ id. parts.asked id ∙ sym (same_asked id);
          known = λ id. parts.known id ∙ sym (ap (list_any (is_deployment id)) same_deployments);
          live = parts.live ∙ sym (ap verticles_of same_contexts);
          starting = parts.starting ∙ sym (refused_left unstarted_kind history new refused);
          unstopped = parts.unstopped ∙ sym (refused_left unstopped_kind history new refused);
          stops = parts.stops ∙ sym refused_stops;
          records = parts.records ∙ sym refused_records;
          closed = parts.closed ∙ sym (ap (find (λ at. true)) (refused_left close_kind history new refused));
          earlier = refused_earlier parts.earlier;
        };
        coming = record {
          deploying = coming.deploying ∙ sym (refused_left (awaited deployed_ids is_deployed) history new refused);
          ending = coming.ending ∙ sym (refused_left (awaited deployed_ids is_gone) history new refused);
          to_stop = coming.to_stop ∙ sym
              (ap (filter (is_open (history ++ new ∷ []))) (refused_left (awaited deployed_contexts stops_now) history new refused)
              ∙ ap (λ cs. filter (is_open_in cs) (lasting (awaited deployed_contexts stops_now) history)) same_contexts);
        };
      }

-- ## Which entries are still

-- what a call is that ends starts and stops
pub record CallEnds (history : List Traced) (pass : PassNo) (call : Call) (reply : Reply) : Type 0 where
  pub deploys : is_deploy call ≡ false
  pub loops : sets_loops call ≡ false
  pub taken : stop_made call reply ≡ []
  pub shuts : close_made history call ≡ []
  pub tells : undeploy_tell history call ≡ []
  pub asks : asked_by history pass call ≡ option_map (λ (ending : Ending). deployment_of ending.context) (start_failed history pass call)
  pub closes : (context : ContextId) → closes history pass call context ≡ is_of_context context (closing_by history pass call)
  pub none : context_made history pass call ≡ []

pub call_ends : (history : List Traced) (pass : PassNo) (call : Call) (reply : Reply) → ends_lives call ≡ true → CallEnds history pass call reply
call_ends history pass (calls.StartDone result) reply ends = record { deploys = refl; loops = refl; taken = refl; shuts = refl; tells = refl; asks = refl; closes = λ context. refl; none = refl }
call_ends history pass calls.StopDone reply ends = record { deploys = refl; loops = refl; taken = refl; shuts = refl; tells = refl; asks = refl; closes = λ context. refl; none = refl }
call_ends history pass (calls.Finish end) reply ends = record { deploys = refl; loops = refl; taken = refl; shuts = refl; tells = refl; asks = refl; closes = λ context. refl; none = refl }
call_ends history pass _ reply ends = absurd cc

-- the same, of the parts of an entry
record CallDeploysNothing (history : List Traced) (pass : PassNo) (call : Call) : Type 0 where
  pub standard : standard_made call ≡ []
  pub deployments : deployment_made history pass call ≡ []
  pub ids : deployed_ids history call ≡ []
  pub instances : deployed_contexts history call ≡ []
  pub outside : Each (λ (context : Context). is_none context.maker ≡ false) (context_made history pass call)
  pub told : deploy_tell history call ≡ []

call_deploys : (history : List Traced) (pass : PassNo) (call : Call) → is_deploy call ≡ false → CallDeploysNothing history pass call
call_deploys history pass (calls.Deploy worker pool tell count) other = absurd cc
call_deploys history pass calls.NewContext other = record { standard = refl; deployments = refl; ids = refl; instances = refl; outside = (refl, tt); told = refl }
call_deploys history pass _ other = record { standard = refl; deployments = refl; ids = refl; instances = refl; outside = tt; told = refl }

-- all calls but Deploy
pub deploys_nothing : (history : List Traced) (new : Traced) → is_deploy new.entry.call ≡ false → DeploysNothing history new
deploys_nothing history new other =
    let d = call_deploys history new.entry.pass new.entry.call other in
    record { standard = d.standard; deployments = d.deployments; ids = d.ids; instances = d.instances; outside = d.outside; told = d.told }

quiet_tells : (history : List Traced) (call : Call) → is_loud call ≡ false → undeploy_tell history call ≡ []
quiet_tells history (calls.Undeploy deployment tell) quiet = absurd cc
quiet_tells history _ quiet = refl

quiet_shuts : (history : List Traced) (call : Call) → is_loud call ≡ false → close_made history call ≡ []
quiet_shuts history calls.Close quiet = absurd cc
quiet_shuts history _ quiet = refl

-- a quiet call that neither sets loops nor deploys, and hands out no stop
pub quiet_still : (history : List Traced) (new : Traced) → is_loud new.entry.call ≡ false → is_deploy new.entry.call ≡ false → sets_loops new.entry.call ≡ false → stop_made new.entry.call new.entry.reply ≡ [] → IsStill history new
quiet_still history new quiet other loops stop =
    let q = quiet_call history new.entry.pass new.entry.call quiet in
    record {
      calm = record {
        deploys = deploys_nothing history new other;
        shuts = quiet_shuts history new.entry.call quiet;
        tells = quiet_tells history new.entry.call quiet;
        asks = quiet_asks history new q;
        starts = ap (ended_start history) q.starts;
        stops = ap (ended_stop history) q.stops;
        closes = quiet_closes history new q;
      };
      loops = loops;
      taken = stop;
    }

-- a call that ends starts or stops, where none is pending
pub ends_none : (history : List Traced) (new : Traced) → ends_lives new.entry.call ≡ true → start_ended history new.entry.pass new.entry.call ≡ None → stop_ended history new.entry.pass new.entry.call ≡ None → IsStill history new
ends_none history new ends no_start no_stop =
    let e = call_ends history new.entry.pass new.entry.call new.entry.reply ends in
    let failed = none_failed history new no_start in
    record {
      calm = record {
        deploys = deploys_nothing history new e.deploys;
        shuts = e.shuts;
        tells = e.tells;
        asks = e.asks ∙ ap (option_map (λ (ending : Ending). deployment_of ending.context)) failed;
        starts = no_start;
        stops = no_stop;
        closes = λ context. e.closes context ∙ ap (is_of_context context)
            (ap (λ o. option_or (option_map context_in o) (option_map context_in (stop_ended history new.entry.pass new.entry.call))) failed ∙ ap (option_map context_in) no_stop);
      };
      loops = e.loops;
      taken = e.taken;
    }

-- ## Calm

module _ (history : List Traced) (new : Traced) (calm : IsCalm history new) where
  calm_moves : moves_on history new.entry.pass new.entry.call ≡ false
  calm_moves =
      ap (λ o. is_some o || (is_some (start_ended history new.entry.pass new.entry.call) || is_some (stop_ended history new.entry.pass new.entry.call))) calm.asks
      ∙ ap (λ o. is_some o || is_some (stop_ended history new.entry.pass new.entry.call)) calm.starts
      ∙ ap is_some calm.stops

  calm_asked : (id : DeploymentId) → asked_at (history ++ new ∷ []) id ≡ asked_at history id
  calm_asked id = ap (λ all. asked_in all id) (askings_left history new calm.asks)

  calm_records : map (record_of (history ++ new ∷ [])) (deployments (history ++ new ∷ [])) ≡ map (record_of history) (deployments history)
  calm_records =
      ap (map (record_of (history ++ new ∷ []))) (deployments_left history new calm.deploys)
      ∙ ap (λ told. map (record_with told (lasting undeploy_tell_kind (history ++ new ∷ [])) (failures (history ++ new ∷ []))) (deployments history)) (told_left history new calm.deploys)
      ∙ ap (λ told. map (record_with (lasting deploy_tell_kind history) told (failures (history ++ new ∷ []))) (deployments history)) (gone_told_left history new calm.tells)
      ∙ ap (λ failed. map (record_with (lasting deploy_tell_kind history) (lasting undeploy_tell_kind history) failed) (deployments history)) (failures_left history new (none_failed history new calm.starts))

  calm_there : (life : LifeStore) → PartsStand life history → map node_of (there (history ++ new ∷ [])) ≡ map node_of (there history)
  calm_there life parts =
      let after = history ++ new ∷ [] in
      sym (there_is life.tree.asked after (λ id. parts.asked id ∙ sym (calm_asked id)))
      ∙ ap (λ live. tree.there_of life.tree.asked live (map node_of (deployments after))) (outside_made history new calm.deploys calm.closes)
      ∙ ap (λ ds. tree.there_of life.tree.asked (verticles_of (open_contexts history)) (map node_of ds)) (deployments_left history new calm.deploys)
      ∙ there_is life.tree.asked history parts.asked

  calm_earlier : AreEarlier history → Each (λ (c : ContextId). c.entry.0 < length (history ++ new ∷ [])) (lasting stop_kind (history ++ new ∷ [])) → AreEarlier (history ++ new ∷ [])
  calm_earlier earlier taken =
      let Asked : List Asking → Type 0 = Each (λ (a : Asking). a.deployment.0.0 < length (history ++ new ∷ [])) in
      let Told : List Tell → Type 0 = Each (λ (t : Tell). t.deployment.0.0 < length (history ++ new ∷ [])) in
      record {
        asked = subst Asked (sym (askings_left history new calm.asks)) (still_earlier (λ (a : Asking). a.deployment.0.0) history new (askings history) earlier.asked);
        told = subst Told (sym (gone_told_left history new calm.tells)) (still_earlier (λ (t : Tell). t.deployment.0.0) history new (lasting undeploy_tell_kind history) earlier.told);
        taken = taken;
      }

  calm_coming : (life : LifeStore) → ComingStands life history history → ComingStands life (history ++ new ∷ []) (history ++ new ∷ [])
  calm_coming life coming = record {
    deploying = coming.deploying ∙ sym (awaited_left deployed_ids is_deployed history new calm.deploys.ids calm_moves);
    ending = coming.ending ∙ sym (awaited_left deployed_ids is_gone history new calm.deploys.ids calm_moves);
    to_stop = coming.to_stop ∙ sym
        (ap (filter (is_open (history ++ new ∷ []))) (awaited_left deployed_contexts stops_now history new calm.deploys.instances calm_moves)
        ∙ same_open history new calm.closes (lasting (awaited deployed_contexts stops_now) history) (awaited_earlier stops_now history));
  }

  -- an entry that moves nothing but the loops and the stops that were taken
  pub life_calm : (life : LifeStore) (count : ℕ) (stops : List Stop) → is_accepted new.entry.reply ≡ true → count ≡ loops (history ++ new ∷ []) → stops ≡ map (stop_of (history ++ new ∷ [])) (verticles_of (contexts (history ++ new ∷ []))) →
      Each (λ (c : ContextId). c.entry.0 < length (history ++ new ∷ [])) (lasting stop_kind (history ++ new ∷ [])) → LifeStands life history → LifeStands (record life { loops = count; stops = stops }) (history ++ new ∷ [])
  life_calm life count stops ok counts is_stops taken stands =
      let parts = stands.parts in
      record {
        parts = record {
          loops = counts;
          standard = parts.standard ∙ sym (standard_left history new calm.deploys);
          there = parts.there ∙ sym (calm_there life parts);
          asked = λ id. parts.asked id ∙ sym (calm_asked id);
          known = λ id. parts.known id ∙ sym (known_left history new calm.deploys id);
          live = parts.live ∙ sym (outside_made history new calm.deploys calm.closes);
          starting = parts.starting ∙ sym (unstarted_left history new ok calm.deploys.instances calm.starts);
          unstopped = parts.unstopped ∙ sym (unstopped_left history new ok calm.deploys.instances calm.stops);
          stops = is_stops;
          records = parts.records ∙ sym calm_records;
          closed = parts.closed ∙ sym (closed_left history new calm.shuts);
          earlier = calm_earlier parts.earlier taken;
        };
        coming = (let c = calm_coming life stands.coming in record { deploying = c.deploying; ending = c.ending; to_stop = c.to_stop });
      }

-- ## Still

-- an entry that moves nothing leaves the store
pub life_still : (history : List Traced) (new : Traced) → IsStill history new → (life : LifeStore) → LifeStands life history → LifeStands life (history ++ new ∷ [])
life_still history new still life stands =
    let parts = stands.parts in
    let calm = still.calm in
    let Taken : List ContextId → Type 0 = Each (λ (c : ContextId). c.entry.0 < length (history ++ new ∷ [])) in
    elim (is_accepted new.entry.reply) as (λ b. is_accepted new.entry.reply ≡ b → LifeStands life (history ++ new ∷ [])) [
      | true ↦ λ ok.
          life_calm history new calm life life.loops life.stops ok (parts.loops ∙ sym (loops_left history new still.loops)) (parts.stops ∙ sym (stops_left history new calm.deploys still.taken))
          (subst Taken (sym (taken_left history new still.taken)) (still_earlier (λ (c : ContextId). c.entry.0) history new (lasting stop_kind history) parts.earlier.taken)) stands
      | false ↦ λ refused. life_refused history new refused life stands
    ] refl

-- ## SetLoops, and stops that are taken

-- so many loops take turns
pub life_loops : (history : List Traced) (pass : PassNo) (count : ℕ) (reply : Reply) (states : List (List ℤ)) (mark : Mark) → is_accepted reply ≡ true → (life : LifeStore) → LifeStands life history →
    LifeStands (record life { loops = count }) (history ++ entry_of pass (calls.SetLoops count) reply states mark ∷ [])
life_loops history pass count reply states mark ok life stands =
    let new : Traced = entry_of pass (calls.SetLoops count) reply states mark in
    let Taken : List ContextId → Type 0 = Each (λ (c : ContextId). c.entry.0 < length (history ++ new ∷ [])) in
    let none : filter (λ (n : ℕ). false) (lasting loops_kind history) ≡ [] = filter_no (λ (n : ℕ). false) (lasting loops_kind history) (all_each (λ (n : ℕ). false ≡ false) (λ n. refl) (lasting loops_kind history)) in
    let set : loops (history ++ new ∷ []) ≡ count =
    ap (first_or 2)
    (lasting-append loops_kind history new ∙ ap (λ b. filter (λ n. not (b && true)) (lasting loops_kind history) ++ cond b (count ∷ []) []) ok ∙ ap (λ xs. xs ++ count ∷ []) none) in
    let deploys = deploys_nothing history new refl in
    life_calm history new (record { deploys = deploys; shuts = refl; tells = refl; asks = refl; starts = refl; stops = refl; closes = λ context. refl }) life count life.stops ok (sym set)
    (stands.parts.stops ∙ sym (stops_left history new deploys refl))
    (subst Taken (sym (taken_left history new refl)) (still_earlier (λ (c : ContextId). c.entry.0) history new (lasting stop_kind history) stands.parts.earlier.taken)) stands

taken_more : (context : ContextId) (taken : List ContextId) (one : ContextId) → stop_with (taken ++ context ∷ []) one ≡ with_taken context (stop_with taken one)
taken_more context taken one =
    ap (λ b. let s : Stop = record { context = one; taken = b } in s)
    (list_any-append (same_context one) taken (context ∷ []) ∙ ap (λ b. list_any (same_context one) taken || (b || false)) (same_context-swap one context))
    ∙ elim (same_context context one) as (λ b. (let s : Stop = record { context = one; taken = list_any (same_context one) taken || (b || false) } in s) ≡ cond b (record { context = one; taken = true }) (stop_with taken one)) [
      | true ↦ ap (λ b. let s : Stop = record { context = one; taken = b } in s) (or_second (list_any (same_context one) taken) true refl)
      | false ↦ ap (λ b. let s : Stop = record { context = one; taken = b } in s) (or_false (list_any (same_context one) taken))
    ]

-- the stop of a context is handed out, which an entry before made
pub life_taken : (history : List Traced) (pass : PassNo) (lane : Lane) (context : ContextId) (states : List (List ℤ)) (mark : Mark) → context.entry.0 < length history → (life : LifeStore) → LifeStands life history →
    LifeStands (record life { stops = map (with_taken context) life.stops }) (history ++ entry_of pass (calls.Take lane) (replies.Task (tasks.Stop context)) states mark ∷ [])
life_taken history pass lane context states mark before life stands =
    let new : Traced = entry_of pass (calls.Take lane) (replies.Task (tasks.Stop context)) states mark in
    let Taken : List ContextId → Type 0 = Each (λ (c : ContextId). c.entry.0 < length (history ++ new ∷ [])) in
    let deploys = deploys_nothing history new refl in
    let vs = verticles_of (contexts history) in
    let more : lasting stop_kind (history ++ new ∷ []) ≡ lasting stop_kind history ++ context ∷ [] = kind_more stop_kind history new refl (λ c. refl) in
    let all : map (with_taken context) life.stops ≡ map (stop_of (history ++ new ∷ [])) (verticles_of (contexts (history ++ new ∷ []))) =
    ap (map (with_taken context)) stands.parts.stops ∙ map_map (with_taken context) (stop_of history) vs
    ∙ sym (map_all (stop_with (lasting stop_kind history ++ context ∷ [])) (λ c. with_taken context (stop_of history c)) (taken_more context (lasting stop_kind history)) vs)
    ∙ sym (ap (map (stop_of (history ++ new ∷ []))) (verticles_left history new deploys) ∙ ap (λ taken. map (stop_with taken) vs) more) in
    life_calm history new (record { deploys = deploys; shuts = refl; tells = refl; asks = refl; starts = refl; stops = refl; closes = λ c. refl }) life life.loops (map (with_taken context) life.stops) refl
    (stands.parts.loops ∙ sym (loops_left history new refl)) all
    (subst Taken (sym more)
    (Each-append (λ (c : ContextId). c.entry.0 < length (history ++ new ∷ [])) (lasting stop_kind history) (context ∷ [])
    (still_earlier (λ (c : ContextId). c.entry.0) history new (lasting stop_kind history) stands.parts.earlier.taken) (let e = length_push history new in omega arith, tt))) stands
