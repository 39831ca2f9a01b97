-- Calls that are made behind the closing of the hub too.
use Rattle.std.specs.Prelude.{Bool, true, false}
use Rattle.vx_call.specs.declared.call.Call.{Call}
use Rattle.vx_call.specs.declared.call.Call.TheVariants as calls

abbrev pub outlives : Call → Bool
outlives calls.NewPass = true
outlives (calls.Take lane) = true
outlives (calls.Finish end) = true
outlives (calls.FrameIn conn frame) = true
outlives (calls.TakeOut conn) = true
outlives (calls.CloseConn conn) = true
outlives _ = false
