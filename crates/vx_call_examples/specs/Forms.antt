-- Short forms of names, calls and replies, for the worked examples.
use Rattle.std.specs.Prelude.{ℕ, pos, codes, Bool, true, false, List, [], None, Some, Option}
use Rattle.vx_data.specs.declared.ids.EntryNo.{EntryNo}
use Rattle.vx_data.specs.declared.ids.PassNo.{PassNo}
use Rattle.vx_data.specs.declared.ids.ContextId.{ContextId}
use Rattle.vx_data.specs.declared.ids.ConsumerId.{ConsumerId}
use Rattle.vx_data.specs.declared.ids.MessageId.{MessageId}
use Rattle.vx_data.specs.declared.ids.DeploymentId.{DeploymentId}
use Rattle.vx_data.specs.declared.ids.TimerId.{TimerId}
use Rattle.vx_data.specs.declared.ids.QueuedId.{QueuedId}
use Rattle.vx_data.specs.declared.ids.PoolId.{PoolId}
use Rattle.vx_data.specs.declared.ids.PromiseId.{PromiseId}
use Rattle.vx_data.specs.declared.ids.ServerId.{ServerId}
use Rattle.vx_data.specs.declared.ids.ConnId.{ConnId}
use Rattle.vx_data.specs.Tree.{Tree}
use Rattle.vx_data.specs.Tree as tree
use Rattle.vx_message.specs.declared.Options.{Options}
use Rattle.vx_message.specs.declared.Lane.TheVariants as lanes
use Rattle.vx_message.specs.declared.JobResult.{JobResult}
use Rattle.vx_message.specs.declared.JobResult.TheVariants as job_results
use Rattle.vx_message.specs.declared.Outcome.{Outcome}
use Rattle.vx_message.specs.declared.frame.FrameMessage.{FrameMessage}
use Rattle.vx_message.specs.declared.frame.InFrame.{InFrame}
use Rattle.vx_message.specs.declared.frame.InFrame.TheVariants as frames
use Rattle.vx_message.specs.declared.frame.OutFrame.{OutFrame}
use Rattle.vx_message.specs.declared.frame.OutFrame.TheVariants as outgoing
use Rattle.vx_call.specs.declared.call.Call.{Call}
use Rattle.vx_call.specs.declared.call.Call.TheVariants as calls
use Rattle.vx_call.specs.declared.call.End.TheVariants as ends
use Rattle.vx_call.specs.declared.reply.To.TheVariants as reached
use Rattle.vx_call.specs.declared.reply.Task.{Task}
use Rattle.vx_call.specs.declared.reply.Task.TheVariants as tasks
use Rattle.vx_call.specs.declared.reply.Refusal.{Refusal}
use Rattle.vx_call.specs.declared.reply.Reply.{Reply}
use Rattle.vx_call.specs.declared.reply.Reply.TheVariants as replies
use Rattle.vx_call.specs.Runs.{By}

-- ## Names of things, by the entry that made them

abbrev pub pass_0 : PassNo
pass_0 = record { 0 = 0 }

abbrev pub entry : ℕ → EntryNo
entry n = record { 0 = n }

abbrev pub context : ℕ → ContextId
context n = record { entry = entry n; instance = 0 }

abbrev pub consumer : ℕ → ConsumerId
consumer n = record { 0 = entry n }

abbrev pub message : ℕ → MessageId
message n = record { 0 = entry n }

abbrev pub instance : ℕ → ℕ → ContextId
instance n i = record { entry = entry n; instance = i }

abbrev pub deployment : ℕ → DeploymentId
deployment n = record { 0 = entry n }

abbrev pub timer : ℕ → TimerId
timer n = record { 0 = entry n }

abbrev pub queued : ℕ → QueuedId
queued n = record { 0 = entry n }

abbrev pub pool : ℕ → PoolId
pool n = record { 0 = entry n }

abbrev pub pass : ℕ → PassNo
pass n = record { 0 = n }

abbrev pub promise : ℕ → PromiseId
promise n = record { 0 = entry n }

abbrev pub server : ℕ → ServerId
server n = record { 0 = entry n }

abbrev pub conn : ℕ → ConnId
conn n = record { 0 = entry n }

-- ## Calls and replies

abbrev pub by : ℕ → Call → By
by n call = record { pass = pass n; call = call }

-- a message without headers and without a codec
abbrev pub plain : Options
plain = record { headers = []; codec = None }

abbrev pub register : List ℕ → Call
register address = calls.Register (context 0) address 1000

abbrev pub send : List ℕ → ℕ → Call
send address number = calls.Send address (tree.int (pos number)) plain

abbrev pub take : Call
take = calls.Take (lanes.Own (context 0))

abbrev pub finish : Call
finish = calls.Finish ends.Done

abbrev pub sent_to : ℕ → Reply
sent_to n = replies.Sent (reached.Consumer (consumer n))

-- the task of a consumer that gets a message, which is a request or not
abbrev pub handed : ℕ → ℕ → List ℕ → Tree → Bool → Reply
handed n m address body request = replies.Task (tasks.Deliver (consumer n) (record { id = message m; address = address; headers = []; body = body; request = request; publish = false }))

abbrev pub delivered : ℕ → ℕ → List ℕ → Tree → Reply
delivered n m address body = handed n m address body false

-- a request of context 0 to the consumers at "a", whose body is 1
abbrev pub ask_a : ℕ → Call
ask_a timeout = calls.Request (context 0) (codes "a") (tree.int (pos 1)) plain timeout None

abbrev pub asked_of : ℕ → Reply
asked_of n = replies.Asked (reached.Consumer (consumer n))

abbrev pub requested : ℕ → ℕ → Reply
requested n m = handed n m (codes "a") (tree.int (pos 1)) true

abbrev pub ended : ℕ → Outcome → Reply
ended m outcome = replies.Task (tasks.Outcome (message m) outcome)

abbrev pub refused : Refusal → Reply
refused refusal = replies.Refused refusal

-- ## Of verticles

abbrev pub deploy : ContextId → ℕ → Call
deploy tell count = calls.Deploy false None (Some tell) count

abbrev pub take_loop : ℕ → Call
take_loop n = calls.Take (lanes.Loop n)

abbrev pub take_pool : Call
take_pool = calls.Take lanes.Pool

abbrev pub take_own : ℕ → Call
take_own n = calls.Take (lanes.Own (context n))

abbrev pub task : Task → Reply
task it = replies.Task it

abbrev pub done : Reply
done = replies.Done

-- ## Of promises and servers

abbrev pub promised : ℕ → Reply
promised n = replies.Promise (promise n)

abbrev pub serving : ℕ → Reply
serving n = replies.Server (server n)

abbrev pub accepted_by : ℕ → Reply
accepted_by n = replies.Accepted (server n)

abbrev pub awaiting : ℕ → Reply
awaiting n = replies.Queued (queued n)

abbrev pub promise_end : ℕ → ℕ → JobResult → Reply
promise_end q p result = task (tasks.PromiseEnd (queued q) (promise p) result)

abbrev pub value : ℕ → JobResult
value n = job_results.Value (pos n)

abbrev pub failure : ℕ → JobResult
failure n = job_results.Fail (pos n)

abbrev pub complete : ℕ → ℕ → Call
complete p n = calls.Complete (promise p) (pos n)

abbrev pub break : ℕ → ℕ → Call
break p n = calls.FailPromise (promise p) (pos n)

abbrev pub await : ℕ → Call
await p = calls.Await (context 0) (promise p)

abbrev pub listen : ℕ → Call
listen port = calls.Listen (context 0) (codes "h") port

abbrev pub accepted : ℕ → Call
accepted n = calls.Accepted (server n)

-- ## Of connections

abbrev pub number : ℕ → Tree
number n = tree.int (pos n)

abbrev pub opens : List (List ℕ) → List (List ℕ) → Call
opens inbound outbound = calls.OpenConn (record { inbound = inbound; outbound = outbound })

abbrev pub frame : ℕ → InFrame → By
frame n f = by 0 (calls.FrameIn (conn n) f)

abbrev pub out : ℕ → By
out n = by 0 (calls.TakeOut (conn n))

abbrev pub error : ℕ → List ℕ → Reply
error n text = replies.Frame (outgoing.Err text)

abbrev pub gave : OutFrame → Reply
gave f = replies.Frame f

abbrev pub take_by : ℕ → ℕ → By
take_by pass n = by pass (calls.Take (lanes.Own (context n)))

abbrev pub finish_by : ℕ → By
finish_by pass = by pass (calls.Finish ends.Done)

abbrev pub frame_message : List ℕ → List (List ℕ × List ℕ) → Tree → FrameMessage
frame_message address headers body = record { address = address; headers = headers; body = body }

abbrev pub send_frame : List ℕ → Option (List ℕ) → List (List ℕ × List ℕ) → Tree → InFrame
send_frame address reply headers body = frames.Send (frame_message address headers body) reply

abbrev pub message_frame : List ℕ → List (List ℕ × List ℕ) → Tree → Option MessageId → Bool → OutFrame
message_frame address headers body reply publish = outgoing.Message (frame_message address headers body) reply publish

abbrev pub reply_frame : List ℕ → List (List ℕ × List ℕ) → Tree → Option MessageId → OutFrame
reply_frame address headers body again = outgoing.Reply (frame_message address headers body) again
