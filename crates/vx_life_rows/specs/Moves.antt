-- What an entry does to the lives of verticles.
use Rattle.std.specs.Prelude.{◌≡◌, ℤ, Bool, true, false, is_none, List, [], None, Some}
use Rattle.std.specs.List.{list_any}
use Rattle.vx_data.specs.declared.ids.ContextId.{ContextId}
use Rattle.vx_data.specs.declared.ids.DeploymentId.{DeploymentId}
use Rattle.vx_data.specs.declared.ids.PassNo.{PassNo}
use Rattle.vx_message.specs.declared.Context.{Context}
use Rattle.vx_call.specs.declared.call.Call.{Call}
use Rattle.vx_call.specs.declared.call.Call.TheVariants as calls
use Rattle.vx_call.specs.declared.reply.Reply.{Reply}
use Rattle.vx_call.specs.declared.history.Mark.{Mark}
use Rattle.vx_call.specs.declared.history.Traced.{Traced}
pub use Rattle.vx_call.specs.History.{entry_of}
use Rattle.vx_call.specs.Loops.{sets_loops, standard_made}
use Rattle.vx_call.specs.Contexts.{context_made}
use Rattle.vx_call.specs.Deployments.{Deployment, deployment_made, deployed_ids, deployments}
use Rattle.vx_call.specs.Tells.{deploy_tell, undeploy_tell}
use Rattle.vx_call.specs.Starts.{deployed_contexts, start_ended, stop_ended}
use Rattle.vx_call.specs.Stopping.{stop_made}
use Rattle.vx_call.specs.Closings.{closes, close_made}
use Rattle.vx_call.specs.Askings.{asked_by, is_asking_of, askings}
use Rattle.vx_call.proofs.Each.{Each}

-- the entry deploys nothing; contexts that it makes are outside ones
pub record DeploysNothing (history : List Traced) (new : Traced) : Type 0 where
  pub standard : standard_made new.entry.call ≡ []
  pub deployments : deployment_made history new.entry.pass new.entry.call ≡ []
  pub ids : deployed_ids history new.entry.call ≡ []
  pub instances : deployed_contexts history new.entry.call ≡ []
  pub outside : Each (λ (context : Context). is_none context.maker ≡ false) (context_made history new.entry.pass new.entry.call)
  pub told : deploy_tell history new.entry.call ≡ []

-- the entry deploys nothing, doesn't close the hub, tells nobody of an Undeploy, asks no deployment to end, ends no start and
-- no stop, and closes no context
pub record IsCalm (history : List Traced) (new : Traced) : Type 0 where
  pub deploys : DeploysNothing history new
  pub shuts : close_made history new.entry.call ≡ []
  pub tells : undeploy_tell history new.entry.call ≡ []
  pub asks : asked_by history new.entry.pass new.entry.call ≡ None
  pub starts : start_ended history new.entry.pass new.entry.call ≡ None
  pub stops : stop_ended history new.entry.pass new.entry.call ≡ None
  pub closes : (context : ContextId) → closes history new.entry.pass new.entry.call context ≡ false

-- the entry moves nothing in the lives of verticles: it sets no loops and hands out no stop either
pub record IsStill (history : List Traced) (new : Traced) : Type 0 where
  pub calm : IsCalm history new
  pub loops : sets_loops new.entry.call ≡ false
  pub taken : stop_made new.entry.call new.entry.reply ≡ []

abbrev pub is_deploy : Call → Bool
is_deploy (calls.Deploy worker pool tell count) = true
is_deploy _ = false

-- the calls that may end a start or a stop
abbrev pub ends_lives : Call → Bool
ends_lives (calls.StartDone result) = true
ends_lives calls.StopDone = true
ends_lives (calls.Finish end) = true
ends_lives _ = false

-- of a deployment that was asked to end each child was asked too: so it is in legal histories
abbrev pub AreAskedWithParents : List Traced → Type 0
AreAskedWithParents history =
    Each (λ (d : Deployment). (parent : DeploymentId) → d.parent ≡ Some parent → list_any (is_asking_of parent) (askings history) ≡ true → list_any (is_asking_of d.id) (askings history) ≡ true) (deployments history)
