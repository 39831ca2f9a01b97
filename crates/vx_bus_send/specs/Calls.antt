-- The calls that send a message or an outcome. With a Request comes no handler that is called once.
use Rattle.std.specs.Prelude.{Bool, true, false, None}
use Rattle.vx_call.specs.declared.call.Call.{Call}
use Rattle.vx_call.specs.declared.call.Call.TheVariants as calls

abbrev pub is_sending_call : Call → Bool
is_sending_call (calls.Send address body options) = true
is_sending_call (calls.Publish address body options) = true
is_sending_call (calls.Request context address body options timeout None) = true
is_sending_call (calls.Reply message body options) = true
is_sending_call (calls.Fail message code text) = true
is_sending_call (calls.ReplyRequest message context body options timeout) = true
is_sending_call _ = false
