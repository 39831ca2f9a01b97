-- Verticles that are handed out with a task, and come back at its end, as the hub's stores have it.
use Rattle.std.specs.Prelude.{ℕ, nat_le, ℤ, ◌==◌, Bool, true, false, if◌then◌else◌, List, find, Option, None, Some}
use Rattle.std.specs.Option.{option_and_then}
use Rattle.vx_data.specs.declared.ids.ContextId.{ContextId}
use Rattle.vx_data.specs.declared.ids.PassNo.{PassNo}
use Rattle.vx_message.specs.declared.Context.{Context}
use Rattle.vx_message.specs.declared.Held.{Held}
use Rattle.vx_call.specs.declared.call.Call.{Call}
use Rattle.vx_call.specs.declared.call.Call.TheVariants as calls
use Rattle.vx_call.specs.declared.reply.Reply.{Reply}
use Rattle.vx_call.specs.declared.reply.Reply.TheVariants as replies
use Rattle.vx_call.specs.Contexts.{is_context_of, is_verticle}
use Rattle.vx_call.specs.Held.{context_held}
use Rattle.vx_context.specs.Stores.{ContextStore}
use Rattle.vx_core_life.specs.Moving.{is_open_in}
use Rattle.vx_instances.specs.Kept.{Kept, put_at, without}

-- the context whose handler the pass holds
abbrev pub held_context_in : List Held → PassNo → Option ContextId
held_context_in held pass = option_and_then context_held (find (λ (h : Held). h.pass.0 == pass.0) held)

abbrev pub is_verticle_in : List Context → Option ContextId → Bool
is_verticle_in made None = false
is_verticle_in made (Some id) = is_verticle (find (is_context_of id) made)

-- whether the task that the pass holds handed a verticle out
abbrev pub gave_in : ContextStore → PassNo → Bool
gave_in contexts pass = is_verticle_in contexts.made (held_context_in contexts.held pass)

-- the context whose handler a reply hands out, where the pass holds it then
abbrev pub handed_in : Reply → Option ContextId → Option ContextId
handed_in (replies.Task task) context = context
handed_in _ context = None

-- the context whose handler the pass runs, where the call may end its start or its stop
abbrev pub ending_in : Call → Option ContextId → Option ContextId
ending_in (calls.StartDone result) context = context
ending_in calls.StopDone context = context
ending_in _ context = None

-- what is kept without this context, where it is closed
abbrev pub left_open : ContextStore → Option ContextId → List Kept → List Kept
left_open contexts None kept = kept
left_open contexts (Some context) kept = if is_open_in contexts context then kept else without context kept

-- a Deploy of so many verticles is answered so: at most 64 are deployed
abbrev pub settles : Reply → ℕ → Bool
settles (replies.Deployment id) count = nat_le count 64
settles (replies.Refused why) count = true
settles _ count = false

-- what is kept once a verticle with this state came back, if one did
abbrev pub kept_back : Option ContextId → Option (List ℤ) → List Kept → List Kept
kept_back None state kept = kept
kept_back (Some context) None kept = kept
kept_back (Some context) (Some state) kept = put_at context (Some state) kept
