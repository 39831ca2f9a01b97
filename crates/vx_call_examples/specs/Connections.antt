-- Worked examples of connections: calls from the empty history on, and the machine's replies to them.
use Rattle.std.specs.Prelude.{ℕ, pos, negsuc, codes, true, false, List, [], ◌∷◌, None, Some, replicate}
use Rattle.vx_data.specs.Tree.{Tree}
use Rattle.vx_data.specs.Tree as tree
use Rattle.vx_message.specs.declared.Lane.TheVariants as lanes
use Rattle.vx_message.specs.declared.Outcome.TheVariants as outcomes
use Rattle.vx_message.specs.declared.FailureKind.TheVariants as failures
use Rattle.vx_message.specs.declared.DoneResult.TheVariants as results
use Rattle.vx_message.specs.declared.Owner.TheVariants as owners
use Rattle.vx_message.specs.declared.frame.InFrame.TheVariants as frames
use Rattle.vx_message.specs.declared.frame.OutFrame.TheVariants as outgoing
use Rattle.vx_call.specs.declared.call.Call.TheVariants as calls
use Rattle.vx_call.specs.declared.reply.To.TheVariants as reached
use Rattle.vx_call.specs.declared.reply.Task.TheVariants as tasks
use Rattle.vx_call.specs.declared.reply.Refusal.TheVariants as refusals
use Rattle.vx_call.specs.declared.reply.Reply.{Reply}
use Rattle.vx_call.specs.declared.reply.Reply.TheVariants as replies
use Rattle.vx_call.specs.Runs.{By}
use Rattle.vx_call.specs.Settled.{timeout, no_handlers}
use Rattle.vx_call_examples.specs.Forms.{entry, context, consumer, message, conn, by, plain, number, opens, frame, out, error, gave, take_by, finish_by, send_frame, message_frame, reply_frame}

-- ## A ping, and a frame of no type

abbrev pub pings : List By
pings = by 0 (opens [] []) ∷ frame 0 frames.Ping ∷ out 0 ∷ out 0 ∷ frame 0 frames.UnknownType ∷ out 0 ∷ []

abbrev pub pings_replies : List Reply
pings_replies = replies.Connection (conn 0) ∷ replies.Done ∷ gave outgoing.Pong ∷ replies.NoFrame ∷ replies.Done ∷ error 0 (codes "unknown_type") ∷ []

-- ## A length that is refused

abbrev pub too_long : List By
too_long = by 0 (opens [] []) ∷ frame 0 (frames.TooLong 1048577) ∷ out 0 ∷ out 0 ∷ by 0 (calls.CloseConn (conn 0)) ∷ []

abbrev pub too_long_replies : List Reply
too_long_replies = replies.Connection (conn 0) ∷ replies.Done ∷ error 0 (codes "frame_too_long") ∷ replies.Refused (refusals.ConnClosed (entry 1)) ∷ replies.Refused (refusals.ConnClosed (entry 1)) ∷ []

-- ## A verticle that echoes

abbrev pub one : Tree
one = tree.object (tree.member (codes "n") (number 1) tree.no_members)

abbrev pub echo : List By
echo =
    by 0 (calls.Deploy false None None 1) ∷ by 0 (calls.Take (lanes.Loop 0)) ∷ by 0 (calls.Register (context 0) (codes "echo") 1000) ∷ finish_by 0
    ∷ by 0 (opens (codes "echo" ∷ []) (codes "news" ∷ []))
    ∷ frame 4 (frames.Register (codes "news"))
    ∷ frame 4 (send_frame (codes "echo") (Some (codes "r1")) [] one)
    ∷ by 0 (calls.Take (lanes.Loop 0)) ∷ by 0 (calls.Reply (message 6) one plain) ∷ finish_by 0
    ∷ out 4 ∷ by 0 (calls.Publish (codes "news") (tree.boolean true) plain) ∷ out 4
    ∷ frame 4 (send_frame (codes "other") None [] (number 1)) ∷ out 4 ∷ []

abbrev pub echo_replies : List Reply
echo_replies =
    replies.Deployment (record { 0 = entry 0 }) ∷ replies.Task (tasks.Start (context 0)) ∷ replies.Consumer (consumer 2) ∷ replies.Done
    ∷ replies.Connection (conn 4)
    ∷ replies.Done
    ∷ replies.Done
    ∷ replies.Task (tasks.Deliver (consumer 2) (record { id = message 6; address = codes "echo"; headers = []; body = one; request = true; publish = false })) ∷ replies.Done ∷ replies.Done
    ∷ gave (reply_frame (codes "r1") [] one None) ∷ replies.Published (consumer 5 ∷ []) ∷ gave (message_frame (codes "news") [] (tree.boolean true) None true)
    ∷ replies.Done ∷ error 4 (codes "access_denied") ∷ []

-- ## A request to a connection, which asks again

abbrev pub asked : List By
asked =
    by 0 (opens [] (codes "a" ∷ [])) ∷ frame 0 (frames.Register (codes "a")) ∷ frame 0 (frames.Register (codes "a")) ∷ by 0 calls.NewContext
    ∷ by 0 (calls.Request (context 3) (codes "a") (number 1) plain 30000 None) ∷ out 0
    ∷ frame 0 (send_frame (codes "__vertx.reply.4") (Some (codes "r")) [] (number 7)) ∷ take_by 0 3
    ∷ by 0 (calls.Reply (message 6) (number 8) plain) ∷ finish_by 0 ∷ out 0
    ∷ frame 0 (send_frame (codes "__vertx.reply.4") None [] (number 9)) ∷ out 0
    ∷ frame 0 (frames.Unregister (codes "a")) ∷ frame 0 (frames.Unregister (codes "a")) ∷ out 0 ∷ frame 0 (frames.Register (codes "b")) ∷ out 0
    ∷ by 0 (calls.Send (codes "a") (number 1) plain) ∷ []

abbrev pub asked_replies : List Reply
asked_replies =
    replies.Connection (conn 0) ∷ replies.Done ∷ replies.Done ∷ replies.Context (context 3)
    ∷ replies.Asked (reached.Consumer (consumer 1)) ∷ gave (message_frame (codes "a") [] (number 1) (Some (message 4)) false)
    ∷ replies.Done ∷ replies.Task (tasks.Outcome (message 4) (outcomes.Ok [] (number 7) (Some (message 6))))
    ∷ replies.Done ∷ replies.Done ∷ gave (reply_frame (codes "r") [] (number 8) None)
    ∷ replies.Done ∷ error 0 (codes "access_denied")
    ∷ replies.Done ∷ replies.Done ∷ error 0 (codes "unknown_address") ∷ replies.Done ∷ error 0 (codes "access_denied")
    ∷ replies.Sent reached.None ∷ []

-- ## A verticle stops whose consumer held a connection's request; then the hub closes

abbrev pub no_handlers_at : List ℕ → Reply
no_handlers_at address = gave (outgoing.Failed address (record { kind = failures.NoHandlers; code = negsuc 0; text = codes "no_handlers" }))

abbrev pub stopped : List By
stopped =
    by 0 (calls.Deploy false None None 1) ∷ by 0 (calls.Take (lanes.Loop 0)) ∷ by 0 (calls.Register (context 0) (codes "e") 1000) ∷ by 0 (calls.Pause (consumer 2)) ∷ finish_by 0
    ∷ by 0 (opens (codes "e" ∷ []) []) ∷ frame 5 (send_frame (codes "e") (Some (codes "r")) [] (number 1))
    ∷ by 0 (calls.Undeploy (record { 0 = entry 0 }) None) ∷ by 0 (calls.Take (lanes.Loop 0)) ∷ out 5 ∷ finish_by 0 ∷ out 5
    ∷ frame 5 (send_frame (codes "e") (Some (codes "s")) [] (number 2)) ∷ frame 5 frames.Ping ∷ by 0 calls.Close
    ∷ frame 5 frames.Ping ∷ out 5 ∷ out 5 ∷ out 5 ∷ by 0 (calls.CloseConn (conn 5)) ∷ by 0 (opens [] []) ∷ out 9 ∷ frame 9 frames.Ping ∷ []

abbrev pub stopped_replies : List Reply
stopped_replies =
    replies.Deployment (record { 0 = entry 0 }) ∷ replies.Task (tasks.Start (context 0)) ∷ replies.Consumer (consumer 2) ∷ replies.Done ∷ replies.Done
    ∷ replies.Connection (conn 5) ∷ replies.Done
    ∷ replies.Done ∷ replies.Task (tasks.Stop (context 0)) ∷ replies.NoFrame ∷ replies.Done ∷ no_handlers_at (codes "r")
    ∷ replies.Done ∷ replies.Done ∷ replies.Done
    ∷ replies.Refused (refusals.ConnClosed (entry 14)) ∷ no_handlers_at (codes "s") ∷ gave outgoing.Pong ∷ replies.Refused (refusals.ConnClosed (entry 14))
    ∷ replies.Refused (refusals.ConnClosed (entry 14)) ∷ replies.Refused (refusals.HostClosed (entry 14)) ∷ replies.Refused refusals.NoConnection ∷ replies.Refused refusals.NoConnection ∷ []

-- ## Requests both ways and a timer are due at once; a connection closes that waits for a reply

abbrev pub both_ways : List By
both_ways =
    by 0 calls.NewContext ∷ by 0 (calls.Register (context 0) (codes "a") 1000) ∷ by 0 (opens (codes "a" ∷ []) (codes "b" ∷ []))
    ∷ frame 2 (send_frame (codes "a") (Some (codes "r")) [] (number 1)) ∷ frame 2 (frames.Register (codes "b"))
    ∷ by 0 (calls.Request (context 0) (codes "b") (number 2) plain 30000 None) ∷ by 0 (calls.SetTimer (context 0) 30000 false) ∷ by 0 (calls.Advance 30000)
    ∷ out 2 ∷ out 2 ∷ take_by 0 0 ∷ by 0 (calls.Reply (message 3) (number 3) plain) ∷ finish_by 0 ∷ take_by 0 0 ∷ finish_by 0 ∷ take_by 0 0 ∷ finish_by 0
    ∷ by 0 (calls.Unregister (consumer 4)) ∷ frame 2 (send_frame (codes "a") (Some (codes "r")) [] (number 4)) ∷ by 0 (calls.CloseConn (conn 2))
    ∷ take_by 0 0 ∷ by 0 (calls.Reply (message 18) (number 5) plain) ∷ finish_by 0
    ∷ by 0 (calls.Request (context 0) (codes "b") (number 6) plain 30000 None) ∷ by 0 (calls.Unregister (consumer 4)) ∷ take_by 0 0 ∷ []

abbrev pub asks_at_a : ℕ → ℕ → Reply
asks_at_a m n = replies.Task (tasks.Deliver (consumer 1) (record { id = message m; address = codes "a"; headers = []; body = number n; request = true; publish = false }))

abbrev pub both_ways_replies : List Reply
both_ways_replies =
    replies.Context (context 0) ∷ replies.Consumer (consumer 1) ∷ replies.Connection (conn 2)
    ∷ replies.Done ∷ replies.Done
    ∷ replies.Asked (reached.Consumer (consumer 4)) ∷ replies.Timer (record { 0 = entry 6 }) ∷ replies.Fired 3
    ∷ gave (message_frame (codes "b") [] (number 2) (Some (message 5)) false) ∷ gave (outgoing.Failed (codes "r") (record { kind = failures.Timeout; code = negsuc 0; text = codes "timeout" }))
    ∷ asks_at_a 3 1 ∷ replies.Refused (refusals.Late (entry 7)) ∷ replies.Done
    ∷ replies.Task (tasks.Outcome (message 5) timeout) ∷ replies.Done ∷ replies.Task (tasks.Fire (record { 0 = entry 6 })) ∷ replies.Done
    ∷ replies.Refused (refusals.NotYours (owners.Conn (conn 2))) ∷ replies.Done ∷ replies.Done
    ∷ asks_at_a 18 4 ∷ replies.Refused (refusals.Late (entry 19)) ∷ replies.Done
    ∷ replies.Asked reached.None ∷ replies.Refused refusals.NoConsumer ∷ replies.Task (tasks.Outcome (message 23) no_handlers) ∷ []

-- ## A verticle whose start failed opens no connection, and permits have their limits

abbrev pub late_opener : List By
late_opener =
    by 0 (calls.Deploy false None None 1) ∷ by 0 (calls.Take (lanes.Loop 0)) ∷ by 0 (calls.StartDone (results.Fail (pos 7))) ∷ by 0 (opens [] []) ∷ finish_by 0
    ∷ by 0 (opens ([] ∷ []) []) ∷ by 0 (opens [] (replicate 257 [])) ∷ by 0 (opens (codes "a" ∷ []) []) ∷ []

abbrev pub late_opener_replies : List Reply
late_opener_replies =
    replies.Deployment (record { 0 = entry 0 }) ∷ replies.Task (tasks.Start (context 0)) ∷ replies.Done ∷ replies.Refused (refusals.ContextClosed (entry 2)) ∷ replies.Done
    ∷ replies.Refused refusals.BadAddress ∷ replies.Refused (refusals.TooLarge 256) ∷ replies.Connection (conn 7) ∷ []
