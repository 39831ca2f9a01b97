-- The calls that the closing of the hub refuses are those that do not outlive it.
use Rattle.std.proofs.Common.{◌≡◌, List, refl}
use Rattle.std.specs.Prelude.{cond, None}
use Rattle.vx_call.specs.declared.call.Call.{Call}
use Rattle.vx_call.specs.declared.call.Call.TheVariants as calls
use Rattle.vx_call.specs.declared.history.Traced.{Traced}
use Rattle.vx_call.specs.Closings.{hub_closed_at}
use Rattle.vx_call.specs.Refusals.{shut, shut_since}
use Rattle.vx_hub.specs.Shutting.{outlives}

pub shut_as : (history : List Traced) (call : Call) → cond (outlives call) None (shut_since (hub_closed_at history)) ≡ shut history call
shut_as history calls.NewPass = refl
shut_as history (calls.Take lane) = refl
shut_as history (calls.Finish end) = refl
shut_as history (calls.FrameIn conn frame) = refl
shut_as history (calls.TakeOut conn) = refl
shut_as history (calls.CloseConn conn) = refl
shut_as history _ = refl
