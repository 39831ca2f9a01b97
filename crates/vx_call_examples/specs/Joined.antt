-- A worked example of promises, a server and a connection of the bridge together, and the machine's replies.
use Rattle.std.specs.Prelude.{ℕ, codes, true, false, List, [], ◌∷◌, None, Some}
use Rattle.vx_message.specs.declared.Compose.TheVariants as ways
use Rattle.vx_message.specs.declared.frame.InFrame.TheVariants as frames
use Rattle.vx_call.specs.declared.call.Call.TheVariants as calls
use Rattle.vx_call.specs.declared.reply.Task.TheVariants as tasks
use Rattle.vx_call.specs.declared.reply.Refusal.TheVariants as refusals
use Rattle.vx_call.specs.declared.reply.Reply.{Reply}
use Rattle.vx_call.specs.declared.reply.Reply.TheVariants as replies
use Rattle.vx_call.specs.Runs.{By}
use Rattle.vx_call_examples.specs.Forms.{entry, context, consumer, message, promise, conn, by, plain, promised, serving, accepted_by, awaiting, promise_end, value, complete, await, listen, accepted, number, opens, frame, out, gave, take_by, finish_by, send_frame, reply_frame}

-- the handler of a frame's request settles a promise and replies; later the connection closes while its request waits
abbrev pub joined : List By
joined =
    by 0 calls.NewContext ∷ by 0 (calls.Register (context 0) (codes "a") 1000) ∷ by 0 (opens (codes "a" ∷ []) [])
    ∷ by 0 calls.NewPromise ∷ by 0 (await 3)
    ∷ frame 2 (send_frame (codes "a") (Some (codes "r")) [] (number 1)) ∷ take_by 0 0
    ∷ by 0 (complete 3 9) ∷ by 0 (calls.Reply (message 5) (number 2) plain) ∷ finish_by 0 ∷ out 2 ∷ take_by 0 0 ∷ finish_by 0
    ∷ by 0 (listen 80) ∷ by 0 (accepted 13)
    ∷ frame 2 (send_frame (codes "a") (Some (codes "r")) [] (number 3)) ∷ take_by 0 0 ∷ finish_by 0
    ∷ by 0 (calls.CloseConn (conn 2)) ∷ take_by 0 0 ∷ by 0 (calls.Reply (message 15) (number 4) plain)
    ∷ by 0 (calls.Compose ways.All (promise 3 ∷ [])) ∷ by 0 (await 21) ∷ finish_by 0 ∷ take_by 0 0 ∷ finish_by 0
    ∷ by 0 (opens [] []) ∷ by 0 calls.NewPromise ∷ by 0 (await 27) ∷ by 0 calls.Close
    ∷ frame 26 frames.Ping ∷ by 0 (complete 27 1) ∷ by 0 (accepted 13) ∷ take_by 0 0 ∷ []

abbrev pub asks_a : ℕ → ℕ → Reply
asks_a m n = replies.Task (tasks.Deliver (consumer 1) (record { id = message m; address = codes "a"; headers = []; body = number n; request = true; publish = false }))

abbrev pub joined_replies : List Reply
joined_replies =
    replies.Context (context 0) ∷ replies.Consumer (consumer 1) ∷ replies.Connection (conn 2)
    ∷ promised 3 ∷ awaiting 4
    ∷ replies.Done ∷ asks_a 5 1
    ∷ replies.Done ∷ replies.Done ∷ replies.Done ∷ gave (reply_frame (codes "r") [] (number 2) None) ∷ promise_end 4 3 (value 9) ∷ replies.Done
    ∷ serving 13 ∷ accepted_by 13
    ∷ replies.Done ∷ replies.Task (tasks.Connected (record { 0 = entry 13 }) (entry 14)) ∷ replies.Done
    ∷ replies.Done ∷ asks_a 15 3 ∷ replies.Refused (refusals.Late (entry 18))
    ∷ promised 21 ∷ awaiting 22 ∷ replies.Done ∷ promise_end 22 21 (value 1) ∷ replies.Done
    ∷ replies.Connection (conn 26) ∷ promised 27 ∷ awaiting 28 ∷ replies.Done
    ∷ replies.Refused (refusals.ConnClosed (entry 29)) ∷ replies.Refused (refusals.HostClosed (entry 29)) ∷ replies.Refused (refusals.HostClosed (entry 29)) ∷ replies.Stopped ∷ []
