-- The frames that wait on connections, and the entries that closed them.
use Rattle.std.specs.Prelude.{◌≡◌, ◌<◌, ◌≤◌, ℕ, nat_eq, Bool, List, [], map, length, slice_index_or, is_some, Option, None, Some}
use Rattle.std.specs.Map.{lookup}
use Rattle.vx_data.specs.declared.ids.ConnId.{ConnId}
use Rattle.vx_data.specs.declared.ids.EntryNo.{EntryNo}
use Rattle.vx_message.specs.declared.frame.OutFrame.{OutFrame}
use Rattle.vx_outs.specs.declared.outs.Conn.{Conn}
use Rattle.vx_outs.specs.Queues.{max_waiting}

-- the frames that wait on a connection, in order, and the entry that closed it
pub record Out : Type 0 where
  pub frames : List OutFrame
  pub closed : Option EntryNo

-- the connections that were opened, by their numbers, and for how many more frames there is room
pub record OutStore : Type 0 where
  pub conns : List (ℕ × Out)
  pub room : ℕ

abbrev pub out_at : ConnId → List (ℕ × Out) → Option Out
out_at conn conns = lookup (nat_eq conn.0.0) conns

abbrev pub is_there : ConnId → List (ℕ × Out) → Bool
is_there conn conns = is_some (out_at conn conns)

abbrev pub waiting_in : Option Out → List OutFrame
waiting_in None = []
waiting_in (Some out) = out.frames

abbrev pub closing_in : Option Out → Option EntryNo
closing_in None = None
closing_in (Some out) = out.closed

-- the frames that wait on a connection, in order
abbrev pub frames_at : ConnId → List (ℕ × Out) → List OutFrame
frames_at conn conns = waiting_in (out_at conn conns)

-- the entry that closed a connection
abbrev pub closed_at : ConnId → List (ℕ × Out) → Option EntryNo
closed_at conn conns = closing_in (out_at conn conns)

-- ## How the store keeps them

abbrev pub out_of : List (List OutFrame) → Conn → Out
out_of queues conn = record { frames = slice_index_or queues conn.queue []; closed = conn.closed }

abbrev pub conns_of : List (ℕ × Conn) → List (List OutFrame) → List (ℕ × Out)
conns_of entries queues = map (λ (entry : ℕ × Conn). (entry.0, out_of queues entry.1)) entries

abbrev pub conn_at : ConnId → List (ℕ × Conn) → Option Conn
conn_at conn entries = lookup (nat_eq conn.0.0) entries

abbrev pub queue_of : Option Conn → Option ℕ
queue_of None = None
queue_of (Some conn) = Some conn.queue

abbrev pub closing_of : Option Conn → Option EntryNo
closing_of None = None
closing_of (Some conn) = conn.closed

abbrev pub frames_of : Option Conn → List (List OutFrame) → List OutFrame
frames_of None queues = []
frames_of (Some conn) queues = slice_index_or queues conn.queue []

-- each connection has a queue, no two have the same one, and no more frames wait than may
pub record IsQueued (entries : List (ℕ × Conn)) (queues : List (List OutFrame)) : Type 0 where
  pub within : (conn : ConnId) (queue : ℕ) → queue_of (conn_at conn entries) ≡ Some queue → queue < length queues
  pub own : (conn other : ConnId) (queue : ℕ) → queue_of (conn_at conn entries) ≡ Some queue → queue_of (conn_at other entries) ≡ Some queue → conn.0.0 ≡ other.0.0
  pub few : (conn : ConnId) → length (frames_of (conn_at conn entries) queues) ≤ max_waiting
