-- The text of replies. It is this project's own.
use Rattle.std.specs.Prelude.{ℕ, ◌+◌, ◌==◌, ℤ, List, [], ◌∷◌, ◌++◌, length, flat_map, codes, if◌then◌else◌, Some, None}
use Rattle.std.specs.Fmt.{decimal, signed_decimal}
use Rattle.vx_data.specs.declared.ids.EntryNo.{EntryNo}
use Rattle.vx_data.specs.declared.ids.ContextId.{ContextId}
use Rattle.vx_data.specs.declared.ids.ConsumerId.{ConsumerId}
use Rattle.vx_data.specs.BodyText.{body_text, quoted}
use Rattle.vx_data.specs.Tree.{Tree}
use Rattle.vx_message.specs.declared.Message.{Message}
use Rattle.vx_message.specs.declared.frame.OutFrame.{OutFrame}
use Rattle.vx_message.specs.declared.DoneResult.{DoneResult}
use Rattle.vx_message.specs.declared.DoneResult.TheVariants as dones
use Rattle.vx_message.specs.declared.JobResult.{JobResult}
use Rattle.vx_message.specs.declared.JobResult.TheVariants as jobs
use Rattle.vx_message.specs.declared.Owner.{Owner}
use Rattle.vx_message.specs.declared.Owner.TheVariants as owners
use Rattle.vx_message.specs.declared.FailureKind.{FailureKind}
use Rattle.vx_message.specs.declared.FailureKind.TheVariants as failures
use Rattle.vx_message.specs.declared.Outcome.{Outcome}
use Rattle.vx_message.specs.declared.Outcome.TheVariants as outcomes
use Rattle.vx_frame_write.specs.Outgoing.{frame_json}
use Rattle.vx_call.specs.declared.reply.Reply.{Reply}
use Rattle.vx_call.specs.declared.reply.Reply.TheVariants as replies
use Rattle.vx_call.specs.declared.reply.To.{To}
use Rattle.vx_call.specs.declared.reply.To.TheVariants as reached
use Rattle.vx_call.specs.declared.reply.Task.{Task}
use Rattle.vx_call.specs.declared.reply.Task.TheVariants as tasks
use Rattle.vx_call.specs.declared.reply.Refusal.{Refusal}
use Rattle.vx_call.specs.declared.reply.Refusal.TheVariants as refusals
use Rattle.vx_call.specs.declared.history.Traced.{Traced}

-- a context is named by its entry, and by its number there where that is not 0
abbrev pub context_text : ContextId → List ℕ
context_text context = if context.instance == 0 then decimal context.entry.0 else decimal context.entry.0 ++ (codes "." ++ decimal context.instance)

abbrev pub owner_text : Owner → List ℕ
owner_text (owners.Pass pass) = codes "pass " ++ decimal pass.0
owner_text (owners.Context context) = codes "context " ++ context_text context
owner_text (owners.Conn conn) = codes "connection " ++ decimal conn.0.0

abbrev pub refusal_text : Refusal → List ℕ
refusal_text refusals.NoContext = codes "refused 1 no context"
refusal_text (refusals.ContextClosed entry) = codes "refused 2 context closed " ++ decimal entry.0
refusal_text refusals.NoConsumer = codes "refused 3 no consumer"
refusal_text (refusals.NotYours owner) = codes "refused 4 not yours " ++ owner_text owner
refusal_text refusals.NotHolding = codes "refused 5 not holding"
refusal_text (refusals.Holding entry) = codes "refused 6 holding " ++ decimal entry.0
refusal_text (refusals.LaneHeld pass) = codes "refused 7 lane held " ++ decimal pass.0
refusal_text refusals.NoLane = codes "refused 8 no lane"
refusal_text refusals.BadAddress = codes "refused 9 bad address"
refusal_text (refusals.TooLarge limit) = codes "refused 10 too large " ++ decimal limit
refusal_text refusals.NoMessage = codes "refused 11 no message"
refusal_text refusals.NotRequest = codes "refused 12 not request"
refusal_text (refusals.Late entry) = codes "refused 13 late " ++ decimal entry.0
refusal_text refusals.NoDeployment = codes "refused 14 no deployment"
refusal_text (refusals.Stopping entry) = codes "refused 15 stopping " ++ decimal entry.0
refusal_text refusals.BadCount = codes "refused 16 bad count"
refusal_text refusals.BadDelay = codes "refused 17 bad delay"
refusal_text refusals.NoTimer = codes "refused 18 no timer"
refusal_text refusals.NoCodec = codes "refused 19 no codec"
refusal_text (refusals.CodecTaken entry) = codes "refused 20 codec taken " ++ decimal entry.0
refusal_text refusals.NoRule = codes "refused 21 no rule"
refusal_text refusals.NoPromise = codes "refused 22 no promise"
refusal_text (refusals.Settled entry) = codes "refused 23 settled " ++ decimal entry.0
refusal_text refusals.NoServer = codes "refused 24 no server"
refusal_text refusals.NoConnection = codes "refused 25 no connection"
refusal_text (refusals.ConnClosed entry) = codes "refused 26 connection closed " ++ decimal entry.0
refusal_text (refusals.StillDeployed deployment) = codes "refused 27 still deployed " ++ decimal deployment.0.0
refusal_text (refusals.HostClosed entry) = codes "refused 28 host closed " ++ decimal entry.0
refusal_text refusals.NotPending = codes "refused 29 not pending"
refusal_text refusals.Spent = codes "refused 30 spent"
refusal_text (refusals.PoolTaken entry) = codes "refused 31 pool taken " ++ decimal entry.0
refusal_text refusals.NoPool = codes "refused 32 no pool"

-- what a message reached
abbrev pub to_text : To → List ℕ
to_text reached.None = codes "to none"
to_text reached.Stopped = codes "stopped"
to_text (reached.Lost consumer) = codes "lost " ++ decimal consumer.0.0
to_text (reached.Consumer consumer) = codes "to " ++ decimal consumer.0.0
to_text reached.Asker = codes "to asker"

-- what was done with the message of this entry, and what it reached
abbrev pub message_text : List ℕ → EntryNo → To → List ℕ
message_text verb at to = verb ++ (codes " " ++ (decimal at.0 ++ (codes " " ++ to_text to)))

abbrev pub consumer_text : ConsumerId → List ℕ
consumer_text consumer = codes " " ++ decimal consumer.0.0

abbrev pub all_text : List ConsumerId → List ℕ
all_text [] = codes " none"
all_text (consumer ∷ consumers) = flat_map consumer_text (consumer ∷ consumers)

abbrev pub published_text : EntryNo → List ConsumerId → List ℕ
published_text at consumers = codes "published " ++ (decimal at.0 ++ (codes " to" ++ all_text consumers))

-- a word for each header: a plus sign, and the name and the value in quotes, with an equals sign between them
abbrev pub header_text : List ℕ × List ℕ → List ℕ
header_text header = codes "+" ++ (quoted header.0 ++ (codes "=" ++ (quoted header.1 ++ codes " ")))

-- the headers of a message and its body
abbrev pub content_text : List (List ℕ × List ℕ) → Tree → List ℕ
content_text headers body = flat_map header_text headers ++ body_text body

abbrev pub delivery_text : ConsumerId → Message → List ℕ
delivery_text consumer message =
    (if message.request then codes "request " else codes "deliver ") ++ (decimal consumer.0.0 ++ (codes " " ++ (decimal message.id.0.0 ++ (codes " " ++ content_text message.headers message.body))))

-- the code of a failure is printed as it is, and the text of its receiver in quotes
abbrev pub failure_text : FailureKind → ℤ → List ℕ → List ℕ
failure_text failures.Timeout code text = codes "timeout " ++ signed_decimal code
failure_text failures.NoHandlers code text = codes "no_handlers " ++ signed_decimal code
failure_text failures.RecipientFailure code text = codes "recipient_failure " ++ (signed_decimal code ++ (codes " " ++ quoted text))

abbrev pub outcome_text : Outcome → List ℕ
outcome_text (outcomes.Ok headers body None) = codes "ok " ++ content_text headers body
outcome_text (outcomes.Ok headers body (Some again)) = codes "again " ++ (decimal again.0.0 ++ (codes " " ++ content_text headers body))
outcome_text (outcomes.Failed failure) = failure_text failure.kind failure.code failure.text

-- how blocking code or a promise ended
abbrev pub job_result_text : JobResult → List ℕ
job_result_text (jobs.Value value) = codes "value " ++ signed_decimal value
job_result_text (jobs.Fail code) = codes "fail " ++ signed_decimal code
job_result_text jobs.NoMemory = codes "nomemory"

-- a word, the number of what ended, and how it ended
abbrev pub job_end_text : List ℕ → ℕ → JobResult → List ℕ
job_end_text word number ended = word ++ (codes " " ++ (decimal number ++ (codes " " ++ job_result_text ended)))

-- how the starts of a deployment ended
abbrev pub done_result_text : DoneResult → List ℕ
done_result_text dones.Ok = codes "ok"
done_result_text (dones.Fail code) = codes "fail " ++ signed_decimal code
done_result_text dones.NoMemory = codes "nomemory"

abbrev pub deploy_end_text : ℕ → DoneResult → List ℕ
deploy_end_text number ended = codes "deployend " ++ (decimal number ++ (codes " " ++ done_result_text ended))

abbrev pub task_text : Task → List ℕ
task_text (tasks.Start context) = codes "start " ++ context_text context
task_text (tasks.Deliver consumer message) = delivery_text consumer message
task_text (tasks.Outcome request outcome) = codes "outcome " ++ (decimal request.0.0 ++ (codes " " ++ outcome_text outcome))
task_text (tasks.Fire timer) = codes "fire " ++ decimal timer.0.0
task_text (tasks.Run queued) = codes "run " ++ decimal queued.0.0
task_text (tasks.Job queued) = codes "job " ++ decimal queued.0.0
task_text (tasks.JobDone queued ended) = job_end_text (codes "jobdone") queued.0.0 ended
task_text (tasks.Connected server at) = codes "connected " ++ (decimal server.0.0 ++ (codes " " ++ decimal at.0))
task_text (tasks.PromiseEnd awaited promise ended) = job_end_text (codes "promiseend") promise.0.0 ended
task_text (tasks.DeployEnd deployment ended) = deploy_end_text deployment.0.0 ended
task_text (tasks.UndeployEnd deployment) = codes "undeployend " ++ decimal deployment.0.0
task_text (tasks.Stop context) = codes "stop " ++ context_text context

-- a frame that goes out: the length of its JSON in bytes, and the JSON
abbrev pub outgoing_text : OutFrame → List ℕ
outgoing_text frame = codes "frame " ++ (decimal (length (frame_json frame)) ++ (codes " " ++ frame_json frame))

-- THE TABLE: the text of the reply to the call of this entry
abbrev pub reply_text : EntryNo → Reply → List ℕ
reply_text at (replies.Pass pass) = codes "pass " ++ decimal pass.0
reply_text at (replies.Context context) = codes "context " ++ context_text context
reply_text at (replies.Pool pool) = codes "pool " ++ decimal pool.0.0
reply_text at (replies.Deployment deployment) = codes "deployment " ++ decimal deployment.0.0
reply_text at (replies.Consumer consumer) = codes "consumer " ++ decimal consumer.0.0
reply_text at (replies.Sent to) = message_text (codes "sent") at to
reply_text at (replies.Published consumers) = published_text at consumers
reply_text at (replies.Asked to) = message_text (codes "asked") at to
reply_text at (replies.Timer timer) = codes "timer " ++ decimal timer.0.0
reply_text at (replies.Queued queued) = codes "queued " ++ decimal queued.0.0
reply_text at (replies.Promise promise) = codes "promise " ++ decimal promise.0.0
reply_text at (replies.Codec codec) = codes "codec " ++ decimal codec.0.0
reply_text at (replies.Rule rule) = codes "rule " ++ decimal rule.0.0
reply_text at (replies.Connection conn) = codes "connection " ++ decimal conn.0.0
reply_text at (replies.Frame frame) = outgoing_text frame
reply_text at replies.NoFrame = codes "no frame"
reply_text at (replies.Server server) = codes "server " ++ decimal server.0.0
reply_text at (replies.Accepted server) = codes "accepted " ++ (decimal at.0 ++ (codes " by " ++ decimal server.0.0))
reply_text at (replies.Task task) = task_text task
reply_text at replies.Idle = codes "idle"
reply_text at replies.Stopped = codes "stopped"
reply_text at replies.Done = codes "ok"
reply_text at (replies.Fired count) = codes "fired " ++ decimal count
reply_text at (replies.Refused refusal) = refusal_text refusal

abbrev pub reply_line : EntryNo → Reply → List ℕ
reply_line at reply = reply_text at reply ++ 10 ∷ []

abbrev pub text_from : ℕ → List Traced → List ℕ
text_from number [] = []
text_from number (new ∷ after) = reply_line (record { 0 = number }) new.entry.reply ++ text_from (number + 1) after

-- the text of a history: the line of each reply
abbrev pub text : List Traced → List ℕ
text history = text_from 0 history
