-- What a frame does that comes in. (Vert.x TCP EventBus bridge manual, "Message format", "Security": by default no
-- address is permitted. The order of the tests and the texts of errors are this project's own.)
use Rattle.std.specs.Prelude.{ℕ, nat_lt, Bool, false, ◌&&◌, ◌||◌, if◌then◌else◌, List, ◌++◌, length, find, codes, Option, None, Some}
use Rattle.std.specs.List.{list_any}
use Rattle.std.specs.Fmt.{decimal}
use Rattle.std.specs.Str.{bytes_eq}
use Rattle.vx_data.specs.Bodies.{tree_depth}
use Rattle.vx_data.specs.BodyText.{body_text}
use Rattle.vx_data.specs.HeaderLists.{header_bytes}
use Rattle.vx_data.specs.Ids.{same_message}
use Rattle.vx_data.specs.Tree.{Tree}
use Rattle.vx_data.specs.declared.ids.ConnId.{ConnId}
use Rattle.vx_data.specs.declared.ids.MessageId.{MessageId}
use Rattle.vx_message.specs.declared.frame.InFrame.{InFrame}
use Rattle.vx_message.specs.declared.frame.InFrame.TheVariants as frames
use Rattle.vx_message.specs.declared.frame.OutFrame.{OutFrame}
use Rattle.vx_message.specs.declared.frame.OutFrame.TheVariants as outgoing
use Rattle.vx_call.specs.declared.call.Call.{Call}
use Rattle.vx_call.specs.declared.call.Call.TheVariants as calls
use Rattle.vx_call.specs.declared.history.Consumer.{Consumer}
use Rattle.vx_call.specs.declared.history.Deed.{Deed}
use Rattle.vx_call.specs.declared.history.Deed.TheVariants as deeds
use Rattle.vx_call.specs.declared.history.Traced.{Traced}
use Rattle.vx_call.specs.Connections.{connection_at, may_send, may_register, outs}
use Rattle.vx_call.specs.Consumers.{registered_at}
use Rattle.vx_call.specs.Requests.{Open, unsettled}

abbrev pub error : List ℕ → Deed
error text = deeds.Answers (outgoing.Err text)

-- ## Replies to messages that went out

-- the address of the reply to a message
abbrev pub reply_address : MessageId → List ℕ
reply_address id = codes "__vertx.reply." ++ decimal id.0.0

-- whether the frame took the message out, for a reply to come
abbrev pub carries : MessageId → OutFrame → Bool
carries id (outgoing.Message message (Some reply) publish) = same_message id reply
carries id (outgoing.Reply message (Some again)) = same_message id again
carries id _ = false

-- whether the address is that of the reply to this request, and the request went out on the connection
abbrev pub answers_to : List Traced → ConnId → List ℕ → Open → Bool
answers_to before conn address request = bytes_eq address (reply_address request.id) && list_any (carries request.id) (outs before conn)

-- the open request that a frame to this address replies to
abbrev pub replied_to : List Traced → ConnId → List ℕ → Option Open
replied_to before conn address = find (answers_to before conn address) (unsettled before)

-- ## Limits of messages

abbrev pub is_long : Option (List ℕ) → Bool
is_long None = false
is_long (Some reply) = nat_lt 1024 (length reply)

abbrev pub is_large : List (List ℕ × List ℕ) → Tree → Bool
is_large headers body = nat_lt 1048576 (length (body_text body)) || nat_lt 100 (tree_depth body) || nat_lt 1024 (length headers) || nat_lt 65536 (header_bytes headers)

-- ## Frames

abbrev pub sends : List ℕ → Option (List ℕ) → List (List ℕ × List ℕ) → Tree → Deed
sends address None headers body = deeds.Sends address headers body
sends address (Some at) headers body = deeds.Requests address headers body at

-- a frame that is no reply wants the permission
abbrev pub sends_on : List Traced → ConnId → Option Open → List ℕ → Option (List ℕ) → List (List ℕ × List ℕ) → Tree → Deed
sends_on before conn (Some request) address reply headers body = deeds.Replies request.id headers body reply
sends_on before conn None address reply headers body = if may_send (connection_at before conn) address then sends address reply headers body else error (codes "access_denied")

abbrev pub registering : Option Consumer → List ℕ → Deed
registering (Some consumer) address = deeds.Nothing
registering None address = deeds.Registers address

abbrev pub unregistering : Option Consumer → Deed
unregistering (Some consumer) = deeds.Unregisters consumer.id
unregistering None = error (codes "unknown_address")

abbrev pub deed_of_frame : List Traced → ConnId → InFrame → Deed
deed_of_frame before conn frames.Ping = deeds.Answers outgoing.Pong
deed_of_frame before conn frames.UnknownType = error (codes "unknown_type")
deed_of_frame before conn frames.NoAddress = error (codes "address_required")
deed_of_frame before conn frames.Large = error (codes "too_large")
deed_of_frame before conn frames.BadJson = error (codes "bad_json")
deed_of_frame before conn (frames.TooLong length) = error (codes "frame_too_long")
deed_of_frame before conn (frames.Register address) =
    if may_register (connection_at before conn) address then registering (registered_at before conn address) address else error (codes "access_denied")
deed_of_frame before conn (frames.Unregister address) =
    if may_register (connection_at before conn) address then unregistering (registered_at before conn address) else error (codes "access_denied")
deed_of_frame before conn (frames.Send message reply) =
    if is_large message.headers message.body || is_long reply then error (codes "too_large")
    else sends_on before conn (replied_to before conn message.address) message.address reply message.headers message.body
deed_of_frame before conn (frames.Publish message) =
    if is_large message.headers message.body then error (codes "too_large")
    else if may_send (connection_at before conn) message.address then deeds.Publishes message.address message.headers message.body
    else error (codes "access_denied")

-- what a call does, where it is a frame
abbrev pub deed_of : List Traced → Call → Deed
deed_of before (calls.FrameIn conn frame) = deed_of_frame before conn frame
deed_of before _ = deeds.Nothing
