-- Why calls are refused. All of this file is this project's own.
use Rattle.std.specs.Prelude.{ℕ, ◌+◌, ◌==◌, ◌^◌, nat_lt, nat_le, is_none, Bool, not, ◌||◌, if◌then◌else◌, List, [], ◌∷◌, length, find, Option, None, Some}
use Rattle.std.specs.List.{list_any}
use Rattle.std.specs.Option.{option_or}
use Rattle.vx_data.specs.Bodies.{tree_depth}
use Rattle.vx_data.specs.BodyText.{body_text}
use Rattle.vx_data.specs.HeaderLists.{header_bytes}
use Rattle.vx_data.specs.Tree.{Tree}
use Rattle.vx_data.specs.declared.ids.RuleId.{RuleId}
use Rattle.vx_data.specs.declared.ids.PassNo.{PassNo}
use Rattle.vx_data.specs.declared.ids.ContextId.{ContextId}
use Rattle.vx_data.specs.declared.ids.ConsumerId.{ConsumerId}
use Rattle.vx_data.specs.declared.ids.MessageId.{MessageId}
use Rattle.vx_data.specs.declared.ids.EntryNo.{EntryNo}
use Rattle.vx_data.specs.declared.ids.DeploymentId.{DeploymentId}
use Rattle.vx_data.specs.declared.ids.TimerId.{TimerId}
use Rattle.vx_data.specs.declared.ids.ConnId.{ConnId}
use Rattle.vx_data.specs.declared.ids.PromiseId.{PromiseId}
use Rattle.vx_data.specs.declared.ids.ServerId.{ServerId}
use Rattle.vx_message.specs.declared.Given.{Given}
use Rattle.vx_message.specs.declared.Context.{Context}
use Rattle.vx_message.specs.declared.Pool.{Pool}
use Rattle.vx_message.specs.declared.Owner.{Owner}
use Rattle.vx_message.specs.declared.Owner.TheVariants as owners
use Rattle.vx_message.specs.declared.frame.Permits.{Permits}
use Rattle.vx_message.specs.declared.Held.{Held}
use Rattle.vx_message.specs.declared.Options.{Options}
use Rattle.vx_message.specs.declared.rules.Codec.{Codec}
use Rattle.vx_message.specs.declared.rules.CodecForm.{CodecForm}
use Rattle.vx_message.specs.declared.rules.CodecForm.TheVariants as forms
use Rattle.vx_message.specs.declared.rules.Side.{Side}
use Rattle.vx_message.specs.declared.rules.Verdict.{Verdict}
use Rattle.vx_message.specs.Rules.{rules_of, verdict_bytes}
use Rattle.vx_message.specs.declared.Lane.{Lane}
use Rattle.vx_message.specs.declared.Lane.TheVariants as lanes
use Rattle.vx_call.specs.declared.reply.Refusal.{Refusal}
use Rattle.vx_call.specs.declared.reply.Refusal.TheVariants as refusals
use Rattle.vx_call.specs.declared.reply.Reply.{Reply}
use Rattle.vx_call.specs.declared.reply.Reply.TheVariants as replies
use Rattle.vx_call.specs.declared.history.Traced.{Traced}
use Rattle.vx_call.specs.declared.history.Consumer.{Consumer}
use Rattle.vx_call.specs.Contexts.{context_at, is_context, is_outside}
use Rattle.vx_call.specs.declared.call.Call.{Call}
use Rattle.vx_call.specs.declared.call.Call.TheVariants as calls
use Rattle.vx_message.specs.Lanes.{same_lane}
use Rattle.vx_call.specs.Connections.{connection_at, shut_at}
use Rattle.vx_call.specs.Pools.{pools, pool_at, pool_named}
use Rattle.vx_call.specs.Deployments.{held_deployment, Deployment}
use Rattle.vx_call.specs.Starts.{unstarted}
use Rattle.vx_call.specs.Stopping.{stop_taken}
use Rattle.vx_call.specs.Closings.{closed_at, hub_closed_at}
use Rattle.vx_call.specs.Askings.{asked_at}
use Rattle.vx_call.specs.There.{is_gone, there}
use Rattle.vx_call.specs.Fires.{timer_at}
use Rattle.vx_call.specs.Timers.{Timer}
use Rattle.vx_call.specs.Consumers.{live}
use Rattle.vx_call.specs.Promises.{is_promise, is_composite}
use Rattle.vx_call.specs.Completions.{Completion, completion_at}
use Rattle.vx_call.specs.Servers.{server_at}
use Rattle.vx_call.specs.Given.{given}
use Rattle.vx_call.specs.Settled.{settled_at}
use Rattle.vx_call.specs.Held.{holding, held, held_context, is_of_context}
use Rattle.vx_data.specs.Ids.{same_context}
use Rattle.vx_call.specs.Codecs.{codecs, codec_at}
use Rattle.vx_call.specs.Rules.{rules, rule_at}

abbrev pub refused_if : Bool → Refusal → Option Refusal
refused_if test refusal = if test then Some refusal else None

-- the refusal, or the reply where there is none
abbrev pub unless_refused : Option Refusal → Reply → Reply
unless_refused None reply = reply
unless_refused (Some refusal) reply = replies.Refused refusal

-- 2 ^ 48 entries are all that a history has
abbrev pub is_spent : List Traced → Bool
is_spent history = nat_le (2 ^ 48) (length history)

abbrev pub spent : List Traced → Option Refusal
spent history = refused_if (is_spent history) refusals.Spent

-- ## What is there, and whose it is

abbrev pub no_context : List Traced → ContextId → Option Refusal
no_context history context = refused_if (not (is_context history context)) refusals.NoContext

abbrev pub foreign_to : Option ContextId → PassNo → Context → Option PassNo → Option Refusal
foreign_to handler pass context (Some maker) = refused_if (not (maker.0 == pass.0)) (refusals.NotYours (owners.Pass maker))
foreign_to handler pass context None = refused_if (not (is_of_context context.id handler)) (refusals.NotYours (owners.Context context.id))

abbrev pub foreign : Option ContextId → PassNo → Option Context → Option Refusal
foreign handler pass None = None
foreign handler pass (Some context) = foreign_to handler pass context context.maker

-- an outside context belongs to the pass that made it, that of a verticle to the pass that holds a handler task of it
abbrev pub not_your_context : List Traced → PassNo → ContextId → Option Refusal
not_your_context history pass context = foreign (held_context history pass) pass (context_at history context)

-- a context that may be named
abbrev pub if_named : (ContextId → Option Refusal) → Option ContextId → Option Refusal
if_named refusal None = None
if_named refusal (Some context) = refusal context

-- ## What is closed

abbrev pub closed_since : Option EntryNo → Option Refusal
closed_since None = None
closed_since (Some at) = Some (refusals.ContextClosed at)

abbrev pub context_closed : List Traced → ContextId → Option Refusal
context_closed history context = closed_since (closed_at history context)

-- the pass holds a handler task of a context that is closed
abbrev pub holder_closed : List Traced → PassNo → Option Refusal
holder_closed history pass = if_named (context_closed history) (held_context history pass)

-- the named context is closed, or that of the task which the pass holds
abbrev pub closed : List Traced → PassNo → ContextId → Option Refusal
closed history pass context = option_or (context_closed history context) (holder_closed history pass)

abbrev pub closed_if_named : List Traced → PassNo → Option ContextId → Option Refusal
closed_if_named history pass context = option_or (if_named (context_closed history) context) (holder_closed history pass)

abbrev pub shut_since : Option EntryNo → Option Refusal
shut_since None = None
shut_since (Some at) = Some (refusals.HostClosed at)

-- once the hub is closed, only passes are made, tasks finished, and the frames taken that wait on connections
abbrev pub shut : List Traced → Call → Option Refusal
shut history calls.NewPass = None
shut history (calls.Take lane) = None
shut history (calls.Finish end) = None
shut history (calls.FrameIn conn frame) = None
shut history (calls.TakeOut conn) = None
shut history (calls.CloseConn conn) = None
shut history _ = shut_since (hub_closed_at history)

-- ## Lanes

-- an event loop is there below number 16, a named pool once it was added, the lane of an outside context with it
abbrev pub no_lane : List Traced → Lane → Option Refusal
no_lane history (lanes.Loop loop) = refused_if (nat_le 16 loop) refusals.NoLane
no_lane history lanes.Pool = None
no_lane history (lanes.Named pool) = refused_if (is_none (pool_at history pool)) refusals.NoLane
no_lane history (lanes.Own context) = refused_if (not (is_outside (context_at history context))) refusals.NoLane

-- the lane of an outside context belongs to the context's maker
abbrev pub not_your_lane : List Traced → PassNo → Lane → Option Refusal
not_your_lane history pass (lanes.Own context) = not_your_context history pass context
not_your_lane history pass _ = None

abbrev pub lane_held_by : Option Held → Option Refusal
lane_held_by None = None
lane_held_by (Some held) = Some (refusals.LaneHeld held.pass)

-- a task of the event loop is held
abbrev pub lane_held : List Traced → Lane → Option Refusal
lane_held history (lanes.Loop loop) = lane_held_by (find (λ (h : Held). same_lane (lanes.Loop loop) h.lane) (held history))
lane_held history _ = None

-- ## Consumers

abbrev pub no_consumer : List Traced → ConsumerId → Option Refusal
no_consumer history id = refused_if (is_none (live history id)) refusals.NoConsumer

-- what a context owns belongs to the context's owner, and what a connection owns to no pass
abbrev pub not_your_owner : List Traced → PassNo → Owner → Option Refusal
not_your_owner history pass (owners.Context context) = not_your_context history pass context
not_your_owner history pass (owners.Conn conn) = Some (refusals.NotYours (owners.Conn conn))
not_your_owner history pass (owners.Pass other) = None

-- a consumer belongs to the owner of its context
abbrev pub not_your_handler : List Traced → PassNo → Option Consumer → Option Refusal
not_your_handler history pass None = None
not_your_handler history pass (Some consumer) = not_your_owner history pass consumer.owner

abbrev pub not_your_consumer : List Traced → PassNo → ConsumerId → Option Refusal
not_your_consumer history pass id = not_your_handler history pass (live history id)

-- ## Requests that were given out

abbrev pub no_message : List Traced → MessageId → Option Refusal
no_message history message = refused_if (is_none (given history message)) refusals.NoMessage

abbrev pub no_asker : Option Given → Option Refusal
no_asker None = None
no_asker (Some given) = refused_if (not given.request) refusals.NotRequest

abbrev pub not_request : List Traced → MessageId → Option Refusal
not_request history message = no_asker (given history message)

abbrev pub not_your_receiver : List Traced → PassNo → Option ContextId → Option Refusal
not_your_receiver history pass None = None
not_your_receiver history pass (Some context) = not_your_context history pass context

-- a message belongs to the owner of the context whose handler got it
abbrev pub not_your_given : List Traced → PassNo → Option Given → Option Refusal
not_your_given history pass None = None
not_your_given history pass (Some given) = not_your_receiver history pass given.receiver

abbrev pub not_your_message : List Traced → PassNo → MessageId → Option Refusal
not_your_message history pass message = not_your_given history pass (given history message)

abbrev pub after_end : Option EntryNo → Option Refusal
after_end None = None
after_end (Some at) = Some (refusals.Late at)

-- a request ends once
abbrev pub late : List Traced → MessageId → Option Refusal
late history message = after_end (settled_at history message)

-- ## Tasks that passes hold

abbrev pub holding_refusal : Option Held → Option Refusal
holding_refusal None = None
holding_refusal (Some held) = Some (refusals.Holding held.at)

abbrev pub already_holding : List Traced → PassNo → Option Refusal
already_holding history pass = holding_refusal (holding history pass)

abbrev pub not_holding : List Traced → PassNo → Option Refusal
not_holding history pass = refused_if (is_none (holding history pass)) refusals.NotHolding

-- the pass holds no handler task
abbrev pub no_handler : List Traced → PassNo → Option Refusal
no_handler history pass = refused_if (is_none (held_context history pass)) refusals.NotHolding

-- ## Deployments

-- the deployment is not there, or is gone
abbrev pub no_deployment : List Traced → DeploymentId → Option Refusal
no_deployment history id = refused_if (is_gone history id) refusals.NoDeployment

-- the task that the pass holds is of no verticle
abbrev pub no_verticle : List Traced → PassNo → Option Refusal
no_verticle history pass = refused_if (is_none (held_deployment history pass)) refusals.NoDeployment

abbrev pub stopping_since : Option EntryNo → Option Refusal
stopping_since None = None
stopping_since (Some at) = Some (refusals.Stopping at)

-- the deployment was asked to end
abbrev pub stopping : List Traced → DeploymentId → Option Refusal
stopping history id = stopping_since (asked_at history id)

abbrev pub stopping_if : List Traced → Option DeploymentId → Option Refusal
stopping_if history None = None
stopping_if history (Some id) = stopping history id

-- the deployment of the verticle that makes the call was asked to end
abbrev pub holder_stopping : List Traced → PassNo → Option Refusal
holder_stopping history pass = stopping_if history (held_deployment history pass)

-- the start of the verticle that makes the call has ended
abbrev pub start_not_pending : List Traced → PassNo → Option Refusal
start_not_pending history pass =
    if_named (λ context. refused_if (not (list_any (same_context context) (unstarted history))) refusals.NotPending) (held_context history pass)

-- the stop of the verticle that makes the call was not taken
abbrev pub stop_not_pending : List Traced → PassNo → Option Refusal
stop_not_pending history pass = if_named (λ context. refused_if (not (stop_taken history context)) refusals.NotPending) (held_context history pass)

abbrev pub still_there : List Deployment → Option Refusal
still_there [] = None
still_there (deployment ∷ others) = Some (refusals.StillDeployed deployment.id)

abbrev pub still_deployed : List Traced → Option Refusal
still_deployed history = still_there (there history)

-- ## Pools and timers

abbrev pub pool_taken_by : Option Pool → Option Refusal
pool_taken_by None = None
pool_taken_by (Some pool) = Some (refusals.PoolTaken pool.id.0)

abbrev pub pool_taken : List Traced → List ℕ → Option Refusal
pool_taken history name = pool_taken_by (pool_named history name)

-- there are at most eight pools
abbrev pub many_pools : List Traced → Option Refusal
many_pools history = refused_if (nat_le 8 (length (pools history))) refusals.BadCount

-- a deployment may name a pool that is there
abbrev pub no_pool : List Traced → Option (List ℕ) → Option Refusal
no_pool history None = None
no_pool history (Some name) = refused_if (is_none (pool_named history name)) refusals.NoPool

abbrev pub no_timer : List Traced → TimerId → Option Refusal
no_timer history id = refused_if (is_none (timer_at history id)) refusals.NoTimer

abbrev pub not_your_alarm : List Traced → PassNo → Option Timer → Option Refusal
not_your_alarm history pass None = None
not_your_alarm history pass (Some timer) = not_your_context history pass timer.context

-- a timer belongs to the owner of its context
abbrev pub not_your_timer : List Traced → PassNo → TimerId → Option Refusal
not_your_timer history pass id = not_your_alarm history pass (timer_at history id)

-- ## Promises and servers

abbrev pub no_promise : List Traced → PromiseId → Option Refusal
no_promise history id = refused_if (not (is_promise history id)) refusals.NoPromise

-- one of the parts is not there
abbrev pub no_part : List Traced → List PromiseId → Option Refusal
no_part history parts = refused_if (list_any (λ part. not (is_promise history part)) parts) refusals.NoPromise

-- a composite is settled by its parts alone
abbrev pub by_parts : List Traced → PromiseId → Option Refusal
by_parts history id = refused_if (is_composite history id) refusals.NotPending

abbrev pub settled_by_entry : Option Completion → Option Refusal
settled_by_entry None = None
settled_by_entry (Some completion) = Some (refusals.Settled completion.at)

-- a promise is settled once
abbrev pub already_settled : List Traced → PromiseId → Option Refusal
already_settled history id = settled_by_entry (completion_at history id)

-- the server is not there, or its context is closed
abbrev pub no_server : List Traced → ServerId → Option Refusal
no_server history id = refused_if (is_none (server_at history id)) refusals.NoServer

-- ## Form

-- an address has 1 to 1,024 bytes
abbrev pub is_bad_address : List ℕ → Bool
is_bad_address address = (length address == 0) || nat_lt 1024 (length address)

abbrev pub bad_address : List ℕ → Option Refusal
bad_address address = refused_if (is_bad_address address) refusals.BadAddress

-- at most so much
abbrev pub over : ℕ → ℕ → Option Refusal
over limit amount = refused_if (nat_lt limit amount) (refusals.TooLarge limit)

-- the text of a failure has at most 65,536 bytes
abbrev pub long_failure : List ℕ → Option Refusal
long_failure text = over 65536 (length text)

-- a message, or a reply, has a body of at most 1,048,576 bytes of JSON text and of depth 100, and at most 1,024 headers
-- of 65,536 bytes
abbrev pub too_large : Tree → Options → Option Refusal
too_large body options =
    option_or (over 1048576 (length (body_text body)))
    (option_or (over 100 (tree_depth body))
    (option_or (over 1024 (length options.headers)) (over 65536 (header_bytes options.headers))))

-- at most 1 to 100,000 messages are held for a consumer as they arrive
abbrev pub bad_limit : ℕ → Option Refusal
bad_limit limit = refused_if ((limit == 0) || nat_lt 100000 limit) refusals.BadCount

-- from 1 to so many
abbrev pub bad_count : ℕ → ℕ → Option Refusal
bad_count most count = refused_if ((count == 0) || nat_lt most count) refusals.BadCount

abbrev pub bad_fetch : ℕ → Option Refusal
bad_fetch count = refused_if (count == 0) refusals.BadCount

abbrev pub bad_port : ℕ → Option Refusal
bad_port port = refused_if (port == 0) refusals.BadCount

-- a timeout is 1 to 1,000,000,000,000 ms
abbrev pub bad_delay : ℕ → Option Refusal
bad_delay timeout = refused_if ((timeout == 0) || nat_lt 1000000000000 timeout) refusals.BadDelay

-- ## Codecs and rules

abbrev pub no_codec : List Traced → List ℕ → Option Refusal
no_codec history name = refused_if (is_none (codec_at history name)) refusals.NoCodec

-- a message may name a codec that is there
abbrev pub no_such_codec : List Traced → Option (List ℕ) → Option Refusal
no_such_codec history None = None
no_such_codec history (Some name) = no_codec history name

abbrev pub taken_by : Option Codec → Option Refusal
taken_by None = None
taken_by (Some codec) = Some (refusals.CodecTaken codec.id.0)

abbrev pub codec_taken : List Traced → List ℕ → Option Refusal
codec_taken history name = taken_by (codec_at history name)

-- the keys that a codec's form names
abbrev pub keys_of : CodecForm → List (List ℕ)
keys_of forms.Copy = []
keys_of (forms.KeepKeys keys) = keys
keys_of (forms.DropKeys keys) = keys
keys_of (forms.Wrap key) = key ∷ []

-- a form names at most 64 keys
abbrev pub many_keys : CodecForm → Option Refusal
many_keys form = over 64 (length (keys_of form))

-- a key has at most 1,024 bytes
abbrev pub long_key : CodecForm → Option Refusal
long_key form = refused_if (list_any (λ key. nat_lt 1024 (length key)) (keys_of form)) (refusals.TooLarge 1024)

-- there are at most 256 codecs
abbrev pub many_codecs : List Traced → Option Refusal
many_codecs history = over 256 (length (codecs history) + 1)

-- what a rule adds has at most 1,024 bytes
abbrev pub long_addition : Verdict → Option Refusal
long_addition verdict = over 1024 (verdict_bytes verdict)

-- a side has at most 64 rules
abbrev pub many_rules : List Traced → Side → Option Refusal
many_rules history side = over 64 (length (rules_of side (rules history)) + 1)

abbrev pub no_rule : List Traced → RuleId → Option Refusal
no_rule history id = refused_if (is_none (rule_at history id)) refusals.NoRule

-- ## Connections

abbrev pub no_connection : List Traced → ConnId → Option Refusal
no_connection history conn = refused_if (is_none (connection_at history conn)) refusals.NoConnection

abbrev pub after_shutting : Option EntryNo → Option Refusal
after_shutting None = None
after_shutting (Some at) = Some (refusals.ConnClosed at)

abbrev pub conn_closed : List Traced → ConnId → Option Refusal
conn_closed history conn = after_shutting (shut_at history conn)

-- at most 256 addresses each way
abbrev pub many_permits : Permits → Option Refusal
many_permits permits = option_or (over 256 (length permits.inbound)) (over 256 (length permits.outbound))

abbrev pub bad_permits : Permits → Option Refusal
bad_permits permits = refused_if (list_any is_bad_address permits.inbound || list_any is_bad_address permits.outbound) refusals.BadAddress
