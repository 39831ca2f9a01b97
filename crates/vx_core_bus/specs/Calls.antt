-- The calls that the bus makes.
use Rattle.std.specs.Prelude.{Bool, true, false, ◌||◌}
use Rattle.vx_call.specs.declared.call.Call.{Call}
use Rattle.vx_call.specs.declared.call.Call.TheVariants as calls
use Rattle.vx_bus_consumers.specs.Calls.{is_consumer_call}
use Rattle.vx_bus_send.specs.Calls.{is_sending_call}

-- codecs and rules come and go
abbrev pub is_interceptor_call : Call → Bool
is_interceptor_call (calls.AddCodec name form) = true
is_interceptor_call (calls.RemoveCodec name) = true
is_interceptor_call (calls.AddRule side condition verdict) = true
is_interceptor_call (calls.RemoveRule id) = true
is_interceptor_call _ = false

abbrev pub is_bus_call : Call → Bool
is_bus_call call = is_consumer_call call || (is_sending_call call || is_interceptor_call call)
