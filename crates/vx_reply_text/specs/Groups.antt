-- Which replies, tasks and refusals each function writes, for private clauses.
use Rattle.std.specs.Prelude.{Bool, true, false}
use Rattle.vx_call.specs.declared.reply.Reply.{Reply}
use Rattle.vx_call.specs.declared.reply.Reply.TheVariants as replies
use Rattle.vx_call.specs.declared.reply.Task.{Task}
use Rattle.vx_call.specs.declared.reply.Task.TheVariants as tasks
use Rattle.vx_call.specs.declared.reply.Refusal.{Refusal}
use Rattle.vx_call.specs.declared.reply.Refusal.TheVariants as refusals

-- ## Refusals

-- all but those about contexts, their lanes and tasks
abbrev pub is_of_no_lane : Refusal → Bool
is_of_no_lane refusals.NoContext = false
is_of_no_lane (refusals.ContextClosed entry) = false
is_of_no_lane (refusals.NotYours owner) = false
is_of_no_lane refusals.NotHolding = false
is_of_no_lane (refusals.Holding entry) = false
is_of_no_lane (refusals.LaneHeld pass) = false
is_of_no_lane refusals.NoLane = false
is_of_no_lane (refusals.PoolTaken entry) = false
is_of_no_lane refusals.NoPool = false
is_of_no_lane _ = true

-- those about promises, servers or connections, and that the history is spent
abbrev pub is_last : Refusal → Bool
is_last refusals.NoPromise = true
is_last (refusals.Settled entry) = true
is_last refusals.NoServer = true
is_last refusals.NoConnection = true
is_last (refusals.ConnClosed entry) = true
is_last refusals.Spent = true
is_last _ = false

-- these, and those about deployments, timers, counts or the hub itself
abbrev pub is_of_life_or_last : Refusal → Bool
is_of_life_or_last refusals.NoDeployment = true
is_of_life_or_last (refusals.Stopping entry) = true
is_of_life_or_last refusals.BadCount = true
is_of_life_or_last refusals.BadDelay = true
is_of_life_or_last refusals.NoTimer = true
is_of_life_or_last (refusals.StillDeployed deployment) = true
is_of_life_or_last (refusals.HostClosed entry) = true
is_of_life_or_last refusals.NotPending = true
is_of_life_or_last refusal = is_last refusal

-- ## Tasks

-- those that say no more than what they are about
abbrev pub names_alone : Task → Bool
names_alone (tasks.Start context) = true
names_alone (tasks.Fire timer) = true
names_alone (tasks.Run queued) = true
names_alone (tasks.Job queued) = true
names_alone (tasks.UndeployEnd deployment) = true
names_alone (tasks.Stop context) = true
names_alone _ = false

-- ## Replies

-- those that are no more than a word, or a word and the number of an entry
abbrev pub is_short : Reply → Bool
is_short (replies.Pass pass) = false
is_short (replies.Context context) = false
is_short (replies.Sent to) = false
is_short (replies.Published consumers) = false
is_short (replies.Asked to) = false
is_short (replies.Accepted server) = false
is_short (replies.Frame frame) = false
is_short (replies.Task task) = false
is_short (replies.Refused refusal) = false
is_short _ = true

-- of them the names of what was made, but servers and connections
abbrev pub names_made : Reply → Bool
names_made (replies.Pool pool) = true
names_made (replies.Deployment deployment) = true
names_made (replies.Consumer consumer) = true
names_made (replies.Timer timer) = true
names_made (replies.Queued queued) = true
names_made (replies.Promise promise) = true
names_made (replies.Codec codec) = true
names_made (replies.Rule rule) = true
names_made _ = false
