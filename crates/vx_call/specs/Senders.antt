-- Who sends. (Vert.x core manual, "Message ordering": a handler gets the messages of any one sender in the order of
-- sending. That the sender is the context whose handler runs, and else the caller, is this project's own.)
use Rattle.std.specs.Prelude.{ℕ, List, take, slice_get, Option, None, Some}
use Rattle.vx_data.specs.declared.ids.ContextId.{ContextId}
use Rattle.vx_data.specs.declared.ids.PassNo.{PassNo}
use Rattle.vx_call.specs.declared.call.Call.{Call}
use Rattle.vx_call.specs.declared.call.Call.TheVariants as calls
use Rattle.vx_call.specs.declared.history.Traced.{Traced}
use Rattle.vx_call.specs.Held.{held_context}

-- a context, whose handler makes the call, or a pass that runs no handler
pub data Sender : Type 0 where
  Context : ContextId → Sender
  Pass : PassNo → Sender

abbrev pub sender_in : Option ContextId → PassNo → Sender
sender_in None pass = Pass pass
sender_in (Some context) pass = Context context

-- a frame that comes in is sent by the pass that brings it, whatever it runs
abbrev pub runs_for : List Traced → PassNo → Call → Option ContextId
runs_for before pass (calls.FrameIn conn frame) = None
runs_for before pass _ = held_context before pass

abbrev pub sender_by : List Traced → Option Traced → Option Sender
sender_by before None = None
sender_by before (Some new) = Some (sender_in (runs_for before new.entry.pass new.entry.call) new.entry.pass)

-- the sender of what the entry of this number sends
abbrev pub sender : List Traced → ℕ → Option Sender
sender history number = sender_by (take number history) (slice_get history number)
