-- What is kept of the lives of verticles.
use Rattle.std.specs.Prelude.{ℕ, Bool, true, false, not, ◌&&◌, if◌then◌else◌, is_some, List, [], map, filter, find, Option, None, Some}
use Rattle.std.specs.List.{list_any}
use Rattle.std.specs.Option.{option_or, option_and_then}
use Rattle.vx_data.specs.declared.ids.ContextId.{ContextId}
use Rattle.vx_data.specs.declared.ids.DeploymentId.{DeploymentId}
use Rattle.vx_data.specs.declared.ids.EntryNo.{EntryNo}
use Rattle.vx_data.specs.Ids.{same_context, same_deployment}
use Rattle.vx_message.specs.declared.DoneResult.{DoneResult}
use Rattle.vx_message.specs.declared.DoneResult.TheVariants as results
use Rattle.vx_tree.specs.Nodes.{TreeStore, contexts_of, is_instance_of, is_there, there_of, without}
use Rattle.vx_life.specs.declared.record.DeploymentRecord.{DeploymentRecord}
use Rattle.vx_life.specs.declared.stop.Stop.{Stop}

-- How many event loops take turns, and how many standard instances were made. The deployments that are there. The contexts
-- of verticles whose stop did not end, and all of them, with whether the stop was taken. All deployments, with who is told
-- of them. Those whose end of deploying is still to come, and those whose being gone is. The entry that closed the hub.
pub record LifeStore : Type 0 where
  pub loops : ℕ
  pub standard : ℕ
  pub tree : TreeStore
  pub unstopped : List ContextId
  pub stops : List Stop
  pub records : List DeploymentRecord
  pub deploying : List DeploymentId
  pub ending : List DeploymentId
  pub closed : Option EntryNo

-- no deployments, and two event loops
abbrev pub no_lives : LifeStore
no_lives = record {
  loops = 2;
  standard = 0;
  tree = record { there = []; asked = []; live = []; starting = []; to_stop = [] };
  unstopped = [];
  stops = [];
  records = [];
  deploying = [];
  ending = [];
  closed = None;
}

-- ## Who is told

abbrev pub is_record_of : DeploymentId → DeploymentRecord → Bool
is_record_of id kept = same_deployment id kept.id

abbrev pub deploy_told : DeploymentId → List DeploymentRecord → Option ContextId
deploy_told id records = option_and_then (λ (kept : DeploymentRecord). kept.deploy_tell) (find (is_record_of id) records)

abbrev pub undeploy_told : DeploymentId → List DeploymentRecord → Option ContextId
undeploy_told id records = option_and_then (λ (kept : DeploymentRecord). kept.undeploy_tell) (find (is_record_of id) records)

-- how the first start of a deployment that failed did
abbrev pub failure_of : DeploymentId → List DeploymentRecord → Option DoneResult
failure_of id records = option_and_then (λ (kept : DeploymentRecord). kept.failure) (find (is_record_of id) records)

-- what is kept of a deployment, with the context that is told that it is gone, where none was noted
abbrev pub telling : DeploymentId → Option ContextId → DeploymentRecord → DeploymentRecord
telling id tell kept = if is_record_of id kept then record kept { undeploy_tell = option_or kept.undeploy_tell tell } else kept

-- ... and with how a start failed, where none was noted
abbrev pub failing : DeploymentId → DoneResult → DeploymentRecord → DeploymentRecord
failing id result kept = if is_record_of id kept then record kept { failure = option_or kept.failure (Some result) } else kept

-- ## Stops

abbrev pub with_taken : ContextId → Stop → Stop
with_taken context stop = if same_context context stop.context then record stop { taken = true } else stop

-- whether the stop of a context was taken
abbrev pub is_taken : ContextId → List Stop → Bool
is_taken context stops = list_any (λ (stop : Stop). same_context context stop.context && stop.taken) stops

abbrev pub untaken : ContextId → Stop
untaken context = record { context = context; taken = false }

-- so many contexts of a deployment, from this number on, whose stops were not taken
abbrev pub stops_of : DeploymentId → ℕ → ℕ → List Stop
stops_of id number count = map untaken (contexts_of id number count)

-- ## The tree

-- the start of a context is over
abbrev pub started_in : ContextId → TreeStore → TreeStore
started_in context tree = record tree { starting = without context tree.starting }

-- a context is closed
abbrev pub closed_in : ContextId → TreeStore → TreeStore
closed_in context tree =
    record tree { there = there_of tree.asked (without context tree.live) tree.there; live = without context tree.live; to_stop = without context tree.to_stop }

-- ## What comes

-- no such deployment, or one that is gone
abbrev pub is_gone : LifeStore → DeploymentId → Bool
is_gone life id = not (is_there id life.tree.there)

-- how deploying ended, by the first failure, whether a start is pending, and whether the deployment is gone
abbrev pub deployed_with : Option DoneResult → Bool → Bool → Option DoneResult
deployed_with None pending gone = if pending then None else Some results.Ok
deployed_with (Some failure) pending gone = if gone then Some failure else None

abbrev pub deploy_result : LifeStore → DeploymentId → Option DoneResult
deploy_result life id = deployed_with (failure_of id life.records) (list_any (is_instance_of id) life.tree.starting) (is_gone life id)

abbrev pub is_deployed : LifeStore → DeploymentId → Bool
is_deployed life id = is_some (deploy_result life id)

-- the deployments without this one
abbrev pub without_id : DeploymentId → List DeploymentId → List DeploymentId
without_id id ids = filter (λ other. not (same_deployment id other)) ids

abbrev pub without_any_id : Option DeploymentId → List DeploymentId → List DeploymentId
without_any_id None ids = ids
without_any_id (Some id) ids = without_id id ids
