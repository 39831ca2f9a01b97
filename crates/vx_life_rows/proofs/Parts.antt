-- What an entry that makes nothing of the lives of verticles leaves, part by part.
use Rattle.std.proofs.Common.{◌≡◌, ℕ, ◌+◌, List, [], ◌∷◌, ◌++◌, refl, ap, sym, ◌∙◌}
use Rattle.std.specs.Prelude.{Bool, true, false, fold, find, map, is_some, Option, None}
use Rattle.std.specs.List.{list_any}
use Rattle.std.specs.Option.{option_map, option_and_then, option_to_list}
use Rattle.vx_data.specs.declared.ids.ContextId.{ContextId}
use Rattle.vx_data.specs.declared.ids.DeploymentId.{DeploymentId}
use Rattle.vx_data.specs.declared.ids.EntryNo.{EntryNo}
use Rattle.vx_data.specs.Ids.{same_context, same_deployment}
use Rattle.vx_tree.specs.Nodes as tree
use Rattle.vx_tree.proofs.Settled.{settled_again}
use Rattle.vx_call.specs.declared.call.Call.{Call}
use Rattle.vx_call.specs.declared.call.Call.TheVariants as calls
use Rattle.vx_call.specs.declared.history.Traced.{Traced}
use Rattle.vx_call.specs.History.{is_accepted, made_by, lasting}
use Rattle.vx_call.specs.Loops.{loops_made, sets_loops, loops_kind, loops, first_or, standard_kind, standard_instances}
use Rattle.vx_call.specs.Contexts.{context_kind, contexts}
use Rattle.vx_call.specs.Deployments.{Deployment, deployment_kind, deployments}
use Rattle.vx_call.specs.Tells.{Tell, undeploy_tell, deploy_tell_kind, undeploy_tell_kind, told_in}
use Rattle.vx_call.specs.Starts.{Ending, failure_in, start_ended, start_failed}
use Rattle.vx_call.specs.Stopping.{stop_made, stop_kind}
use Rattle.vx_call.specs.Closings.{closes, close_made, close_kind, hub_closed_at, open_context_kind, open_contexts}
use Rattle.vx_call.specs.Askings.{asked_by, askings_below, asking_kind, askings, asked_at}
use Rattle.vx_call.specs.There.{is_deployment, there}
use Rattle.vx_call.specs.Ends.{Failure, failure, failure_kind}
use Rattle.vx_call.specs.Coming.{awaited, came_if, moves_on}
use Rattle.vx_call.proofs.Each.{accepted}
use Rattle.vx_call.proofs.Contexts.{contexts-append}
use Rattle.vx_life.specs.declared.record.DeploymentRecord.{DeploymentRecord}
use Rattle.vx_life.specs.declared.stop.Stop.{Stop}
use Rattle.vx_life.specs.Stands.{node_of, verticles_of, stop_of, record_of}
use Rattle.vx_life_rows.specs.Moves.{DeploysNothing}
use Rattle.vx_life_rows.proofs.Bridge.{same_there}
use Rattle.vx_life_rows.proofs.Facts.{no_outside}
use Rattle.vx_life_rows.proofs.Left.{kind_left}
use Rattle.vx_life_rows.proofs.Opens.{outside_only, open_more}

no_loops : (call : Call) → sets_loops call ≡ false → loops_made call ≡ []
no_loops (calls.SetLoops count) none = absurd cc
no_loops _ none = refl

pub loops_left : (history : List Traced) (new : Traced) → sets_loops new.entry.call ≡ false → loops (history ++ new ∷ []) ≡ loops history
loops_left history new none = ap (first_or 2) (kind_left loops_kind history new (no_loops new.entry.call none) (λ count. none))

pub taken_left : (history : List Traced) (new : Traced) → stop_made new.entry.call new.entry.reply ≡ [] → lasting stop_kind (history ++ new ∷ []) ≡ lasting stop_kind history
taken_left history new none = kind_left stop_kind history new none (λ context. refl)

pub closed_left : (history : List Traced) (new : Traced) → close_made history new.entry.call ≡ [] → hub_closed_at (history ++ new ∷ []) ≡ hub_closed_at history
closed_left history new none = ap (find (λ at. true)) (kind_left close_kind history new none (λ at. refl))

pub gone_told_left : (history : List Traced) (new : Traced) → undeploy_tell history new.entry.call ≡ [] → lasting undeploy_tell_kind (history ++ new ∷ []) ≡ lasting undeploy_tell_kind history
gone_told_left history new none = kind_left undeploy_tell_kind history new none (λ tell. refl)

-- stops, by the list of those that were taken
abbrev pub stop_with : List ContextId → ContextId → Stop
stop_with taken context = record { context = context; taken = list_any (same_context context) taken }

module _ (history : List Traced) (new : Traced) (makes : DeploysNothing history new) where
  pub standard_left : standard_instances (history ++ new ∷ []) ≡ standard_instances history
  standard_left = ap (fold (λ all count. all + count) 0) (kind_left standard_kind history new makes.standard (λ count. refl))

  pub deployments_left : deployments (history ++ new ∷ []) ≡ deployments history
  deployments_left = kind_left deployment_kind history new makes.deployments (λ d. refl)

  pub known_left : (id : DeploymentId) → list_any (is_deployment id) (deployments (history ++ new ∷ [])) ≡ list_any (is_deployment id) (deployments history)
  known_left id = ap (list_any (is_deployment id)) deployments_left

  pub verticles_left : verticles_of (contexts (history ++ new ∷ [])) ≡ verticles_of (contexts history)
  verticles_left = ap verticles_of (contexts-append history new) ∙ outside_only (contexts history) (made_by context_kind history new) (accepted _ (is_accepted new.entry.reply) _ (λ ok. makes.outside))

  pub stops_left : stop_made new.entry.call new.entry.reply ≡ [] → map (stop_of (history ++ new ∷ [])) (verticles_of (contexts (history ++ new ∷ []))) ≡ map (stop_of history) (verticles_of (contexts history))
  stops_left none = ap (map (stop_of (history ++ new ∷ []))) verticles_left ∙ ap (λ taken. map (stop_with taken) (verticles_of (contexts history))) (taken_left history new none)

  pub told_left : lasting deploy_tell_kind (history ++ new ∷ []) ≡ lasting deploy_tell_kind history
  told_left = kind_left deploy_tell_kind history new makes.told (λ tell. refl)

  pub outside_made : ((id : ContextId) → closes history new.entry.pass new.entry.call id ≡ false) → verticles_of (open_contexts (history ++ new ∷ [])) ≡ verticles_of (open_contexts history)
  outside_made closes_none =
      ap verticles_of (open_more history new closes_none) ∙ outside_only (open_contexts history) (made_by open_context_kind history new) (accepted _ (is_accepted new.entry.reply) _ (λ ok. makes.outside))

-- ## Records

-- what is kept of a deployment, by the lists that tell of it
abbrev pub record_with : List Tell → List Tell → List Failure → Deployment → DeploymentRecord
record_with told gone failures d = record {
  id = d.id;
  deploy_tell = told_in told d.id;
  undeploy_tell = told_in gone d.id;
  failure = option_map (λ (f : Failure). f.result) (find (λ (f : Failure). same_deployment d.id f.deployment) failures);
}

abbrev pub failures : List Traced → List Failure
failures history = lasting failure_kind history

pub records_of : (history : List Traced) → map (record_of history) (deployments history) ≡ map (record_with (lasting deploy_tell_kind history) (lasting undeploy_tell_kind history) (failures history)) (deployments history)
records_of history = refl

-- an entry with no failed start
pub failures_left : (history : List Traced) (new : Traced) → start_failed history new.entry.pass new.entry.call ≡ None → failures (history ++ new ∷ []) ≡ failures history
failures_left history new none = kind_left failure_kind history new (ap (λ o. option_to_list (option_map failure o)) none) (λ f. refl)

pub none_failed : (history : List Traced) (new : Traced) → start_ended history new.entry.pass new.entry.call ≡ None → start_failed history new.entry.pass new.entry.call ≡ None
none_failed history new none = ap (option_and_then (λ (ending : Ending). failure_in ending ending.result)) none

-- ## Asked

pub askings_left : (history : List Traced) (new : Traced) → asked_by history new.entry.pass new.entry.call ≡ None → askings (history ++ new ∷ []) ≡ askings history
askings_left history new none = kind_left asking_kind history new (ap (askings_below history) none) (λ asking. refl)

-- ## There

pub there_is : (asked : List (ℕ × Option EntryNo)) (history : List Traced) → ((id : DeploymentId) → tree.asked_at id asked ≡ asked_at history id) →
    tree.there_of asked (verticles_of (open_contexts history)) (map node_of (deployments history)) ≡ map node_of (there history)
there_is asked history same = same_there asked (askings history) (open_contexts history) same (deployments history) (no_outside history)

-- as more deployments are asked to end and contexts are closed
pub there_moved : (old_asked new_asked : List (ℕ × Option EntryNo)) (history after : List Traced) → ((id : DeploymentId) → tree.asked_at id old_asked ≡ asked_at history id) → ((id : DeploymentId) → tree.asked_at id new_asked ≡ asked_at after id) →
    deployments after ≡ deployments history → ((id : DeploymentId) → is_some (tree.asked_at id old_asked) ≡ true → is_some (tree.asked_at id new_asked) ≡ true) →
    ((id : DeploymentId) → list_any (tree.is_instance_of id) (verticles_of (open_contexts after)) ≡ true → list_any (tree.is_instance_of id) (verticles_of (open_contexts history)) ≡ true) →
    tree.there_of new_asked (verticles_of (open_contexts after)) (map node_of (there history)) ≡ map node_of (there after)
there_moved old_asked new_asked history after old_same new_same same more fewer =
    ap (tree.there_of new_asked (verticles_of (open_contexts after))) (sym (there_is old_asked history old_same))
    ∙ settled_again old_asked new_asked (verticles_of (open_contexts history)) (verticles_of (open_contexts after)) more fewer (map node_of (deployments history))
    ∙ ap (λ ds. tree.there_of new_asked (verticles_of (open_contexts after)) (map node_of ds)) (sym same)
    ∙ there_is new_asked after new_same

-- ## What is awaited

-- an entry that brings no deployment on
pub awaited_left : {A : Type 0} (made : List Traced → Call → List A) (came : List Traced → A → Bool) (history : List Traced) (new : Traced) → made history new.entry.call ≡ [] → moves_on history new.entry.pass new.entry.call ≡ false →
    lasting (awaited made came) (history ++ new ∷ []) ≡ lasting (awaited made came) history
awaited_left made came history new none still = kind_left (awaited made came) history new none (λ x. ap (came_if came (history ++ new ∷ []) x) still)
