-- What the calls of a hub promise, each in one record.
use Rattle.std.specs.Prelude.{◌≡◌, ◌<◌, ℤ, true, List, [], Result, IfOk, IfErr, IsOk, OnErr, Option}
use Rattle.vx_data.specs.declared.ids.ContextId.{ContextId}
use Rattle.vx_data.specs.declared.ids.DeploymentId.{DeploymentId}
use Rattle.vx_data.specs.declared.ids.PassNo.{PassNo}
use Rattle.vx_message.specs.declared.Lane.{Lane}
use Rattle.vx_call.specs.declared.call.Call.{Call}
use Rattle.vx_call.specs.declared.call.End.{End}
use Rattle.vx_call.specs.declared.call.Call.TheVariants as calls
use Rattle.vx_call.specs.declared.reply.Refusal.{Refusal}
use Rattle.vx_call.specs.declared.reply.Reply.{Reply}
use Rattle.vx_call.specs.declared.reply.Reply.TheVariants as replies
use Rattle.vx_call.specs.declared.unmade.Unmade.{Unmade}
use Rattle.vx_call.specs.declared.history.Traced.{Traced}
use Rattle.vx_call.specs.Passes.{passes}
use Rattle.vx_call.specs.Plain.{takes_no_memory}
use Rattle.vx_instances.specs.Instances.{gives, handler_in}
use Rattle.vx_hub.specs.declared.verticles.DeployRefused.{DeployRefused}
use Rattle.vx_hub.specs.declared.verticles.FinishRefused.{FinishRefused}
use Rattle.vx_hub.specs.declared.verticles.Why.TheVariants as whys
use Rattle.vx_hub.specs.Stands.{StandsFor, Meets, Keeps}
use Rattle.vx_hub.specs.Stores.{HubStore}

-- a plain call
pub record Steps (old new : HubStore) (pass : PassNo) (call : Call) (result : Result Reply Unmade) : Type 0 where
  pub answered : IfOk result (λ reply. Meets old new pass call reply [])
  pub keeps : OnErr result (Keeps old new)
  pub comes_back : IfErr result (λ unmade. unmade.call ≡ call)
  pub sure : takes_no_memory call ≡ true → IsOk result

-- a Take
pub record Takes (old new : HubStore) (pass : PassNo) (lane : Lane) (reply : Reply) (context : Option ContextId) (state : Option (List ℤ)) : Type 0 where
  pub answered : Meets old new pass (calls.Take lane) reply []
  pub on_context : (history : List Traced) → StandsFor old history → pass.0 < passes history → context ≡ handler_in history reply
  pub gives : (history : List Traced) → StandsFor old history → pass.0 < passes history → state ≡ gives history (calls.Take lane) reply

-- what a look finds, in place of a call
pub record Finds {R : Type 0} (old new : HubStore) (find : List Traced → R) (result : R) : Type 0 where
  pub same : new ≡ old
  pub found : (history : List Traced) → StandsFor old history → result ≡ find history

module _ {V : Type 0} where
  -- a Finish
  pub record Finishes (old new : HubStore) (pass : PassNo) (end : End) (states : List (List ℤ)) (result : Result Unit (FinishRefused V)) : Type 0 where
    pub done : IfOk result (λ _. Meets old new pass (calls.Finish end) replies.Done states)
    pub refused : IfErr result (λ refused. Meets old new pass (calls.Finish end) (replies.Refused refused.why) states)

  -- a Deploy: where memory ran out, it is `Err`
  pub record Deploys (old new : HubStore) (pass : PassNo) (call : Call) (states : List (List ℤ)) (result : Result (Result DeploymentId (DeployRefused V)) (DeployRefused V)) : Type 0 where
    pub done : IfOk result (λ answer. IfOk answer (λ id. Meets old new pass call (replies.Deployment id) states))
    pub refused : IfOk result (λ answer. IfErr answer (λ refused. (why : Refusal) → refused.why ≡ whys.Refused why → Meets old new pass call (replies.Refused why) states))
    pub sure : IfOk result (λ answer. IfErr answer (λ refused. (refused.why ≡ whys.NoMemory → ⊥)))
    pub keeps : IfErr result (λ refused. Keeps old new)
    pub without : IfErr result (λ refused. refused.why ≡ whys.NoMemory)
