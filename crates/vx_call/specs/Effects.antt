-- What an entry has to do with connections: the frames that it sends, and the connections that it closes. (This project's
-- own.)
use Rattle.std.specs.Prelude.{not, if◌then◌else◌, List, [], ◌∷◌, ◌++◌, map, filter, flat_map, Option, None, Some}
use Rattle.vx_data.specs.declared.ids.ConnId.{ConnId}
use Rattle.vx_data.specs.declared.ids.PassNo.{PassNo}
use Rattle.vx_message.specs.declared.Message.{Message}
use Rattle.vx_message.specs.declared.Owner.{Owner}
use Rattle.vx_message.specs.declared.Owner.TheVariants as owners
use Rattle.vx_message.specs.declared.frame.InFrame.{InFrame}
use Rattle.vx_message.specs.declared.frame.InFrame.TheVariants as frames
use Rattle.vx_message.specs.declared.frame.OutFrame.{OutFrame}
use Rattle.vx_message.specs.declared.frame.OutFrame.TheVariants as outs
use Rattle.vx_call.specs.declared.call.Call.{Call}
use Rattle.vx_call.specs.declared.call.Call.TheVariants as calls
use Rattle.vx_call.specs.declared.reply.Reply.{Reply}
use Rattle.vx_call.specs.declared.history.Consumer.{Consumer}
use Rattle.vx_call.specs.declared.history.Deed.{Deed}
use Rattle.vx_call.specs.declared.history.Deed.TheVariants as deeds
use Rattle.vx_call.specs.declared.history.Mark.{Mark}
use Rattle.vx_call.specs.declared.history.Sending.{Sending}
use Rattle.vx_call.specs.declared.history.Traced.{Traced}
use Rattle.vx_call.specs.History.{is_accepted, no_mark}
use Rattle.vx_call.specs.Connections.{Connection, is_one_of, open_connections}
use Rattle.vx_call.specs.Deeds.{deed_of}
use Rattle.vx_call.specs.Mailboxes.{accepting}
use Rattle.vx_call.specs.Messages.{received}
use Rattle.vx_call.specs.Sendings.{Sent, nothing_sent, send_all}
use Rattle.vx_call.specs.Settled.{settled_made, sending_of}

-- what a frame is answered with
abbrev pub answered_by : ConnId → Deed → List Sending
answered_by conn (deeds.Answers frame) = record { conn = conn; frame = frame } ∷ []
answered_by conn _ = []

abbrev pub answered : Call → Deed → List Sending
answered (calls.FrameIn conn frame) deed = answered_by conn deed
answered _ deed = []

-- a message as a frame: a request names itself, for a reply
abbrev pub message_frame : Message → OutFrame
message_frame message =
    outs.Message (record { address = message.address; headers = message.headers; body = message.body }) (if message.request then Some message.id else None) message.publish

abbrev pub message_out : Message → Owner → List Sending
message_out message (owners.Conn conn) = record { conn = conn; frame = message_frame message } ∷ []
message_out message _ = []

-- a message for the connections among the consumers that accept it, in order of registration
abbrev pub messages_out : Option Message → List Consumer → List Sending
messages_out None consumers = []
messages_out (Some message) consumers = flat_map (λ (consumer : Consumer). message_out message consumer.owner) consumers

-- what an entry would send, in order: the answer to a frame, its message, and outcomes of requests of connections
abbrev pub sendings : List Traced → PassNo → Call → Deed → List Sending
sendings before pass call deed = answered call deed ++ messages_out (received before call deed) (accepting before call deed) ++ flat_map sending_of (settled_made before pass call deed)

-- a frame that is none, and a CloseConn, close their connection, a Close all that are open
abbrev pub connections_closed_by : ConnId → InFrame → List ConnId
connections_closed_by conn frames.BadJson = conn ∷ []
connections_closed_by conn (frames.TooLong length) = conn ∷ []
connections_closed_by conn _ = []

abbrev pub connections_closed : List Traced → Call → List ConnId
connections_closed before (calls.FrameIn conn frame) = connections_closed_by conn frame
connections_closed before (calls.CloseConn conn) = conn ∷ []
connections_closed before calls.Close = map (λ (connection : Connection). connection.id) (open_connections before)
connections_closed before _ = []

abbrev pub with_others : List ConnId → List ConnId → List ConnId
with_others shut others = shut ++ filter (λ conn. not (is_one_of shut conn)) others

abbrev pub mark_with : Deed → Sent → List ConnId → Mark
mark_with deed sent others = record { deed = deed; frames = sent.frames; shut = with_others sent.shut others }

abbrev pub mark_of : List Traced → PassNo → Call → Mark
mark_of before pass call = mark_with (deed_of before call) (send_all before nothing_sent (sendings before pass call (deed_of before call))) (connections_closed before call)

-- the mark of the next entry: a refused call does nothing
abbrev pub marked : List Traced → PassNo → Call → Reply → Mark
marked before pass call reply = if is_accepted reply then mark_of before pass call else no_mark
