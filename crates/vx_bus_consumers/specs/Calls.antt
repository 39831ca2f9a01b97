-- The calls that consumers come, go and pause by.
use Rattle.std.specs.Prelude.{Bool, true, false}
use Rattle.vx_call.specs.declared.call.Call.{Call}
use Rattle.vx_call.specs.declared.call.Call.TheVariants as calls

abbrev pub is_consumer_call : Call → Bool
is_consumer_call (calls.Register context address limit) = true
is_consumer_call (calls.Unregister id) = true
is_consumer_call (calls.Pause id) = true
is_consumer_call (calls.Resume id) = true
is_consumer_call (calls.Fetch id count) = true
is_consumer_call _ = false
