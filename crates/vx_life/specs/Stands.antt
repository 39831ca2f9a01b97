-- The histories that the lives of verticles stand for.
use Rattle.std.specs.Prelude.{◌≡◌, ◌<◌, is_none, List, length, map, filter}
use Rattle.std.specs.List.{list_any}
use Rattle.std.specs.Option.{option_map}
use Rattle.vx_data.specs.declared.ids.ContextId.{ContextId}
use Rattle.vx_data.specs.declared.ids.DeploymentId.{DeploymentId}
use Rattle.vx_message.specs.declared.Context.{Context}
use Rattle.vx_tree.specs.declared.node.Node.{Node}
use Rattle.vx_tree.specs.Nodes as tree
use Rattle.vx_call.specs.declared.history.Traced.{Traced}
use Rattle.vx_call.specs.History.{lasting}
use Rattle.vx_call.specs.Loops.{loops, standard_instances}
use Rattle.vx_call.specs.Contexts.{contexts}
use Rattle.vx_call.specs.Deployments.{Deployment, deployments}
use Rattle.vx_call.specs.Tells.{Tell, deploy_tell_kind, undeploy_tell_kind, told_in}
use Rattle.vx_call.specs.Starts.{ids_of_contexts, deployed_contexts, unstarted, unstopped}
use Rattle.vx_call.specs.Stopping.{stop_kind, stop_taken}
use Rattle.vx_call.specs.Closings.{open_contexts, is_open, hub_closed_at}
use Rattle.vx_call.specs.Askings.{Asking, askings, asked_at}
use Rattle.vx_call.specs.There.{is_deployment, there, is_gone}
use Rattle.vx_call.specs.Deployments.{deployed_ids}
use Rattle.vx_call.specs.Ends.{Failure, first_failure, is_deployed, stops_now}
use Rattle.vx_call.specs.Coming.{awaited}
use Rattle.vx_call.proofs.Each.{Each}
use Rattle.vx_life.specs.declared.record.DeploymentRecord.{DeploymentRecord}
use Rattle.vx_life.specs.declared.stop.Stop.{Stop}
use Rattle.vx_life.specs.Stores.{LifeStore}

-- ## What the store has of a thing

abbrev pub node_of : Deployment → Node
node_of deployment = record { id = deployment.id; parent = deployment.parent }

-- the names of those that are of verticles
abbrev pub verticles_of : List Context → List ContextId
verticles_of contexts = ids_of_contexts (filter (λ (context : Context). is_none context.maker) contexts)

abbrev pub stop_of : List Traced → ContextId → Stop
stop_of history context = record { context = context; taken = stop_taken history context }

abbrev pub record_of : List Traced → Deployment → DeploymentRecord
record_of history deployment = record {
  id = deployment.id;
  deploy_tell = told_in (lasting deploy_tell_kind history) deployment.id;
  undeploy_tell = told_in (lasting undeploy_tell_kind history) deployment.id;
  failure = option_map (λ (failure : Failure). failure.result) (first_failure history deployment.id);
}

-- ## The parts

-- deployments that were asked, those of whose end one is told, and stops that were taken are of entries before
pub record AreEarlier (history : List Traced) : Type 0 where
  pub asked : Each (λ (asking : Asking). asking.deployment.0.0 < length history) (askings history)
  pub told : Each (λ (tell : Tell). tell.deployment.0.0 < length history) (lasting undeploy_tell_kind history)
  pub taken : Each (λ (context : ContextId). context.entry.0 < length history) (lasting stop_kind history)

-- all but what is still to come
pub record PartsStand (life : LifeStore) (history : List Traced) : Type 0 where
  pub loops : life.loops ≡ loops history
  pub standard : life.standard ≡ standard_instances history
  pub there : life.tree.there ≡ map node_of (there history)
  pub asked : (id : DeploymentId) → tree.asked_at id life.tree.asked ≡ asked_at history id
  pub known : (id : DeploymentId) → tree.is_known id life.tree.asked ≡ list_any (is_deployment id) (deployments history)
  pub live : life.tree.live ≡ verticles_of (open_contexts history)
  pub starting : life.tree.starting ≡ unstarted history
  pub unstopped : life.unstopped ≡ unstopped history
  pub stops : life.stops ≡ map (stop_of history) (verticles_of (contexts history))
  pub records : life.records ≡ map (record_of history) (deployments history)
  pub closed : life.closed ≡ hub_closed_at history
  pub earlier : AreEarlier history

-- what was still to come after the one history, without the stops of contexts that are closed after the other
pub record ComingStands (life : LifeStore) (before after : List Traced) : Type 0 where
  pub deploying : life.deploying ≡ lasting (awaited deployed_ids is_deployed) before
  pub ending : life.ending ≡ lasting (awaited deployed_ids is_gone) before
  pub to_stop : life.tree.to_stop ≡ filter (is_open after) (lasting (awaited deployed_contexts stops_now) before)

pub record LifeStands (life : LifeStore) (history : List Traced) : Type 0 where
  pub parts : PartsStand life history
  pub coming : ComingStands life history history

-- The store between an entry and what comes with it: all else is that of the history with the entry, and what is still to
-- come that of the history before.
pub record IsBehind (life : LifeStore) (before after : List Traced) : Type 0 where
  pub parts : PartsStand life after
  pub coming : ComingStands life before after
