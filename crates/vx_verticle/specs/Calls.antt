-- The calls that acts come to. Where a call names a context, it is that of the handler whose act it is.
use Rattle.std.specs.Prelude.{Bool, true, false, if◌then◌else◌, Option, None, Some}
use Rattle.vx_data.specs.declared.ids.ContextId.{ContextId}
use Rattle.vx_call.specs.declared.call.Call.{Call}
use Rattle.vx_call.specs.declared.call.Call.TheVariants as calls
use Rattle.vx_verticle.specs.declared.plain.PlainAct.{PlainAct}
use Rattle.vx_verticle.specs.declared.plain.PlainAct.TheVariants as plain

-- the context that is told
abbrev pub told_to : ContextId → Bool → Option ContextId
told_to context tell = if tell then Some context else None

abbrev pub call_of : ContextId → PlainAct → Call
call_of context (plain.Undeploy deployment tell) = calls.Undeploy deployment (told_to context tell)
call_of context (plain.StartDone ended) = calls.StartDone ended
call_of context plain.StopDone = calls.StopDone
call_of context (plain.Register address limit) = calls.Register context address limit
call_of context (plain.Unregister consumer) = calls.Unregister consumer
call_of context (plain.Pause consumer) = calls.Pause consumer
call_of context (plain.Resume consumer) = calls.Resume consumer
call_of context (plain.Fetch consumer count) = calls.Fetch consumer count
call_of context (plain.Send address body options) = calls.Send address body options
call_of context (plain.Publish address body options) = calls.Publish address body options
call_of context (plain.Request address body options timeout) = calls.Request context address body options timeout None
call_of context (plain.Reply message body options) = calls.Reply message body options
call_of context (plain.Fail message code text) = calls.Fail message code text
call_of context (plain.ReplyRequest message body options timeout) = calls.ReplyRequest message context body options timeout
call_of context (plain.SetTimer delay periodic) = calls.SetTimer context delay periodic
call_of context (plain.CancelTimer timer) = calls.CancelTimer timer
call_of context plain.NewPromise = calls.NewPromise
call_of context (plain.Complete promise value) = calls.Complete promise value
call_of context (plain.FailPromise promise code) = calls.FailPromise promise code
call_of context (plain.Compose kind parts) = calls.Compose kind parts
call_of context (plain.Await promise) = calls.Await context promise
call_of context (plain.AddCodec name form) = calls.AddCodec name form
call_of context (plain.RemoveCodec name) = calls.RemoveCodec name
call_of context (plain.AddRule side condition verdict) = calls.AddRule side condition verdict
call_of context (plain.RemoveRule rule) = calls.RemoveRule rule
call_of context (plain.Listen host port) = calls.Listen context host port

-- acts that send a message or settle one
abbrev pub is_message_act : PlainAct → Bool
is_message_act (plain.Send address body options) = true
is_message_act (plain.Publish address body options) = true
is_message_act (plain.Request address body options timeout) = true
is_message_act (plain.Reply message body options) = true
is_message_act (plain.Fail message code text) = true
is_message_act (plain.ReplyRequest message body options timeout) = true
is_message_act _ = false

-- acts on consumers, codecs, rules and servers
abbrev pub is_bus_act : PlainAct → Bool
is_bus_act (plain.Register address limit) = true
is_bus_act (plain.Unregister consumer) = true
is_bus_act (plain.Pause consumer) = true
is_bus_act (plain.Resume consumer) = true
is_bus_act (plain.Fetch consumer count) = true
is_bus_act (plain.AddCodec name form) = true
is_bus_act (plain.RemoveCodec name) = true
is_bus_act (plain.AddRule side condition verdict) = true
is_bus_act (plain.RemoveRule rule) = true
is_bus_act (plain.Listen host port) = true
is_bus_act _ = false

-- acts on deployments, timers and promises
abbrev pub is_life_act : PlainAct → Bool
is_life_act (plain.Undeploy deployment tell) = true
is_life_act (plain.StartDone ended) = true
is_life_act plain.StopDone = true
is_life_act (plain.SetTimer delay periodic) = true
is_life_act (plain.CancelTimer timer) = true
is_life_act plain.NewPromise = true
is_life_act (plain.Complete promise value) = true
is_life_act (plain.FailPromise promise code) = true
is_life_act (plain.Compose kind parts) = true
is_life_act (plain.Await promise) = true
is_life_act _ = false
