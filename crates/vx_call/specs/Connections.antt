-- Connections of the bridge, and the frames that go out on them. (Vert.x TCP EventBus bridge manual, "Using the TCP
-- EventBus bridge". That frames wait until they are taken, and how many may, is this project's own.) What an entry sends
-- and closes stands in its mark: the notions here read the marks, and Effects.antt says what the marks are.
use Rattle.std.specs.Prelude.{ℕ, ◌-◌, Bool, false, List, [], ◌∷◌, length, map, filter, find, slice_get, Option, None, Some}
use Rattle.std.specs.List.{list_any, count_by}
use Rattle.std.specs.Option.{option_map}
use Rattle.std.specs.Str.{bytes_eq}
use Rattle.vx_data.specs.declared.ids.ConnId.{ConnId}
use Rattle.vx_data.specs.declared.ids.EntryNo.{EntryNo}
use Rattle.vx_data.specs.Ids.{same_conn}
use Rattle.vx_message.specs.declared.frame.OutFrame.{OutFrame}
use Rattle.vx_message.specs.declared.frame.Permits.{Permits}
use Rattle.vx_call.specs.declared.call.Call.{Call}
use Rattle.vx_call.specs.declared.call.Call.TheVariants as calls
use Rattle.vx_call.specs.declared.reply.Reply.{Reply}
use Rattle.vx_call.specs.declared.reply.Reply.TheVariants as replies
use Rattle.vx_call.specs.declared.history.Sending.{Sending}
use Rattle.vx_call.specs.declared.history.Traced.{Traced}
use Rattle.vx_call.specs.History.{Kind, lasting}
use Rattle.vx_call.specs.Names.{next_conn, next_entry}

abbrev pub is_one_of : List ConnId → ConnId → Bool
is_one_of conns conn = list_any (same_conn conn) conns

-- ## Connections

pub record Connection : Type 0 where
  pub id : ConnId
  pub permits : Permits

abbrev pub connection_made : List Traced → Call → List Connection
connection_made before (calls.OpenConn permits) = record { id = next_conn before; permits = permits } ∷ []
connection_made before _ = []

abbrev pub connection_kind : Kind Connection
connection_kind = record {
  made = λ before new. connection_made before new.entry.call;
  ended = λ before new connection. false;
}

-- the connection of this name, open or closed
abbrev pub connection_at : List Traced → ConnId → Option Connection
connection_at history id = find (λ (connection : Connection). same_conn id connection.id) (lasting connection_kind history)

-- ## Closings

-- the connections that are open, in the order of opening: the one test for all ways to close one is the entry's mark
abbrev pub open_connection_kind : Kind Connection
open_connection_kind = record {
  made = λ before new. connection_made before new.entry.call;
  ended = λ before new connection. is_one_of new.mark.shut connection.id;
}

abbrev pub open_connections : List Traced → List Connection
open_connections history = lasting open_connection_kind history

-- a connection that was closed, and the entry that closed it
pub record Shutting : Type 0 where
  pub conn : ConnId
  pub at : EntryNo

abbrev pub shutting_kind : Kind Shutting
shutting_kind = record {
  made = λ before new. map (λ conn. record { conn = conn; at = next_entry before }) new.mark.shut;
  ended = λ before new shutting. false;
}

-- the entry that closed a connection
abbrev pub shut_at : List Traced → ConnId → Option EntryNo
shut_at history id = option_map (λ (shutting : Shutting). shutting.at) (find (λ (shutting : Shutting). same_conn id shutting.conn) (lasting shutting_kind history))

-- ## Frames that go out

abbrev pub sending_kind : Kind Sending
sending_kind = record {
  made = λ before new. new.mark.frames;
  ended = λ before new sending. false;
}

abbrev pub is_sent_to : ConnId → Sending → Bool
is_sent_to conn sending = same_conn conn sending.conn

-- the frames that the entries send to a connection, in order
abbrev pub outs : List Traced → ConnId → List OutFrame
outs history conn = map (λ (sending : Sending). sending.frame) (filter (is_sent_to conn) (lasting sending_kind history))

abbrev pub hands_frame : ConnId → Call → Reply → Bool
hands_frame conn (calls.TakeOut other) (replies.Frame frame) = same_conn conn other
hands_frame conn _ _ = false

-- how many of them were taken
abbrev pub taken_out : List Traced → ConnId → ℕ
taken_out history conn = count_by (λ (new : Traced). hands_frame conn new.entry.call new.entry.reply) history

-- how many wait
abbrev pub waiting_out : List Traced → ConnId → ℕ
waiting_out history conn = length (outs history conn) - taken_out history conn

-- the first that was not taken
abbrev pub next_out : List Traced → ConnId → Option OutFrame
next_out history conn = slice_get (outs history conn) (taken_out history conn)

-- so many frames may wait on a connection
abbrev pub max_waiting : ℕ
max_waiting = 10000

-- ## What the other side may use

abbrev pub may_send : Option Connection → List ℕ → Bool
may_send None address = false
may_send (Some connection) address = list_any (bytes_eq address) connection.permits.inbound

abbrev pub may_register : Option Connection → List ℕ → Bool
may_register None address = false
may_register (Some connection) address = list_any (bytes_eq address) connection.permits.outbound
