-- Frames that one entry sends. (That a frame which finds too many waiting is not added, and closes its connection, is
-- this project's own.)
use Rattle.std.specs.Prelude.{ℕ, ◌+◌, nat_le, Bool, ◌||◌, if◌then◌else◌, List, [], ◌∷◌, ◌++◌, fold, is_some}
use Rattle.std.specs.List.{count_by}
use Rattle.vx_message.specs.declared.frame.OutFrame.{OutFrame}
use Rattle.vx_message.specs.declared.frame.OutFrame.TheVariants as outs
use Rattle.vx_message.specs.declared.Outcome.{Outcome}
use Rattle.vx_message.specs.declared.Outcome.TheVariants as outcomes
use Rattle.vx_data.specs.declared.ids.ConnId.{ConnId}
use Rattle.vx_call.specs.declared.history.Sending.{Sending}
use Rattle.vx_call.specs.declared.history.Traced.{Traced}
use Rattle.vx_call.specs.Askers.{Asker}
use Rattle.vx_call.specs.Askers as askers
use Rattle.vx_call.specs.Connections.{shut_at, is_sent_to, is_one_of, waiting_out, max_waiting}

-- what an entry has sent so far, and the connections that it closed by frames that were not added
pub record Sent : Type 0 where
  pub frames : List Sending
  pub shut : List ConnId

abbrev pub nothing_sent : Sent
nothing_sent = record { frames = []; shut = [] }

-- how many frames wait on a connection, those of this entry included
abbrev pub waiting_with : List Traced → Sent → ConnId → ℕ
waiting_with before sent conn = waiting_out before conn + count_by (is_sent_to conn) sent.frames

abbrev pub is_shut : List Traced → Sent → ConnId → Bool
is_shut before sent conn = is_some (shut_at before conn) || is_one_of sent.shut conn

-- A frame that finds its connection closed is not added. One that finds as many frames waiting as may wait is not added,
-- and closes it.
abbrev pub send_out : List Traced → Sent → Sending → Sent
send_out before sent sending =
    if is_shut before sent sending.conn then sent
    else if nat_le max_waiting (waiting_with before sent sending.conn) then record sent { shut = sent.shut ++ sending.conn ∷ [] }
    else record sent { frames = sent.frames ++ sending ∷ [] }

-- frames one after another
abbrev pub send_all : List Traced → Sent → List Sending → Sent
send_all before sent sendings = fold (send_out before) sent sendings

-- the frame of an outcome, at the address that the request named
abbrev pub outcome_frame : List ℕ → Outcome → OutFrame
outcome_frame at (outcomes.Ok headers body again) = outs.Reply (record { address = at; headers = headers; body = body }) again
outcome_frame at (outcomes.Failed failure) = outs.Failed at failure

-- a context gets an outcome as a task, a connection as a frame
abbrev pub outcome_sending : Asker → Outcome → List Sending
outcome_sending (askers.context id) outcome = []
outcome_sending (askers.connection conn at) outcome = record { conn = conn; frame = outcome_frame at outcome } ∷ []
