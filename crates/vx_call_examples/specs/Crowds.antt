-- Worked examples of a connection on which as many frames wait as may: calls, and the machine's replies to them.
use Rattle.std.specs.Prelude.{ℕ, codes, List, [], ◌∷◌, ◌++◌, Some, replicate}
use Rattle.vx_message.specs.declared.frame.InFrame.TheVariants as frames
use Rattle.vx_message.specs.declared.frame.OutFrame.TheVariants as outgoing
use Rattle.vx_call.specs.declared.call.Call.TheVariants as calls
use Rattle.vx_call.specs.declared.reply.To.TheVariants as reached
use Rattle.vx_call.specs.declared.reply.Refusal.TheVariants as refusals
use Rattle.vx_call.specs.declared.reply.Reply.{Reply}
use Rattle.vx_call.specs.declared.reply.Reply.TheVariants as replies
use Rattle.vx_call.specs.declared.history.Deed.TheVariants as deeds
use Rattle.vx_call.specs.declared.history.Traced.{Traced}
use Rattle.vx_call.specs.History.{plain_entry}
use Rattle.vx_call.specs.Runs.{By, history_by}
use Rattle.vx_call_examples.specs.Forms.{pass_0, context, consumer, conn, by, plain, number, opens, frame, out, gave, send_frame}

abbrev pub ping : By
ping = frame 0 frames.Ping

abbrev pub is_closed_at : ℕ → Reply
is_closed_at n = replies.Refused (refusals.ConnClosed (record { 0 = n }))

-- an entry that sends as many frames on connection 0 as may wait
abbrev pub crowd : Traced
crowd = plain_entry pass_0 (calls.FrameIn (conn 0) frames.Ping) replies.Done (record { deed = deeds.Answers outgoing.Pong; frames = replicate 10000 (record { conn = conn 0; frame = outgoing.Pong }); shut = [] })

-- the history of calls, with such an entry behind them
abbrev pub crowded : List By → List Traced
crowded calls = history_by [] calls ++ crowd ∷ []

-- ## One frame too many: it is not added, and its entry closes the connection

abbrev pub one_connection : List By
one_connection = by 0 (opens [] []) ∷ []

abbrev pub one_more : List By
one_more = ping ∷ ping ∷ out 0 ∷ []

abbrev pub one_more_replies : List Reply
one_more_replies = replies.Done ∷ is_closed_at 2 ∷ gave outgoing.Pong ∷ []

-- how many frames went out on the connection
abbrev pub frames_out : ℕ
frames_out = 10000

-- ## Two requests whose time is up at once: the frame of the first closes the connection, and the second, which it ends,
-- doesn't count. What the connection had registered is gone.

abbrev pub two_asked : List By
two_asked =
    by 0 (opens (codes "a" ∷ []) (codes "n" ∷ []))
    ∷ frame 0 (frames.Register (codes "n"))
    ∷ by 0 calls.NewContext
    ∷ by 0 (calls.Register (context 2) (codes "a") 1000)
    ∷ frame 0 (send_frame (codes "a") (Some (codes "r1")) [] (number 1))
    ∷ frame 0 (send_frame (codes "a") (Some (codes "r2")) [] (number 2))
    ∷ []

abbrev pub two_time_out : List By
two_time_out =
    by 0 (calls.Send (codes "n") (number 3) plain)
    ∷ by 0 (calls.Advance 30000)
    ∷ by 0 (calls.Send (codes "n") (number 4) plain)
    ∷ ping
    ∷ by 0 (calls.Advance 60000)
    ∷ []

abbrev pub two_time_out_replies : List Reply
two_time_out_replies = replies.Sent (reached.Lost (consumer 1)) ∷ replies.Fired 1 ∷ replies.Sent reached.None ∷ is_closed_at 8 ∷ replies.Fired 0 ∷ []

-- ## A request that nobody hears: the frame of its failure closes the connection

abbrev pub one_permit : List By
one_permit = by 0 (opens (codes "a" ∷ []) []) ∷ []

abbrev pub unheard : List By
unheard = frame 0 (send_frame (codes "a") (Some (codes "r")) [] (number 1)) ∷ ping ∷ out 0 ∷ []

abbrev pub unheard_replies : List Reply
unheard_replies = replies.Done ∷ is_closed_at 2 ∷ gave outgoing.Pong ∷ []
