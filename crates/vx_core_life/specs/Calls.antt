-- The plain calls of verticles.
use Rattle.std.specs.Prelude.{Bool, true, false}
use Rattle.vx_call.specs.declared.call.Call.{Call}
use Rattle.vx_call.specs.declared.call.Call.TheVariants as calls

abbrev pub is_life_call : Call → Bool
is_life_call (calls.SetLoops count) = true
is_life_call (calls.AddPool name size) = true
is_life_call (calls.Undeploy deployment tell) = true
is_life_call (calls.StartDone result) = true
is_life_call calls.StopDone = true
is_life_call calls.Close = true
is_life_call _ = false
