-- The verticles that a hub keeps. (Vert.x core manual, "Standard verticles", "Worker verticles": a verticle is its
-- instances, each with a context of its own. That the hub hands a verticle out with a task, and gets it back at the end of
-- it, is this project's own.)
use Rattle.std.specs.Prelude.{◌≡◌, ℤ, Bool, if◌then◌else◌, is_some, is_none, List, map, filter, Option, None, Some}
use Rattle.vx_data.specs.declared.ids.PassNo.{PassNo}
use Rattle.vx_data.specs.declared.ids.ContextId.{ContextId}
use Rattle.vx_message.specs.declared.Context.{Context}
use Rattle.vx_call.specs.declared.call.Call.{Call}
use Rattle.vx_call.specs.declared.call.Call.TheVariants as calls
use Rattle.vx_call.specs.declared.reply.Reply.{Reply}
use Rattle.vx_call.specs.declared.reply.Reply.TheVariants as replies
use Rattle.vx_call.specs.declared.history.Traced.{Traced}
use Rattle.vx_call.specs.Closings.{open_contexts}
use Rattle.vx_call.specs.Contexts.{context_at, is_verticle}
use Rattle.vx_call.specs.Deployments.{held_deployment}
use Rattle.vx_call.specs.Given.{context_of, mode_of}
use Rattle.vx_call.specs.Held.{handler_context, runs}
use Rattle.vx_call.specs.States.{state_at}
use Rattle.vx_instances.specs.Kept.{Kept}

-- a context, with the state of its verticle unless a handler of it runs
abbrev pub kept_of : List Traced → Context → Kept
kept_of history context = record { context = context.id; state = if runs history context.id then None else state_at history context.id }

-- the context is one of a verticle
abbrev pub is_of_verticle : Context → Bool
is_of_verticle context = is_none context.maker

-- the open contexts of verticles, in the order of making, each with its state unless a handler of it runs
abbrev pub instances : List Traced → List Kept
instances history = map (kept_of history) (filter is_of_verticle (open_contexts history))

-- what is kept is what the history says
abbrev pub InstancesStand : List Kept → List Traced → Type 0
InstancesStand kept history = kept ≡ instances history

-- ## What is handed out, and comes back

-- the context whose handler a reply hands out
abbrev pub handler_in : List Traced → Reply → Option ContextId
handler_in history (replies.Task task) = handler_context (mode_of history task) (context_of history task)
handler_in history _ = None

abbrev pub verticle_state : List Traced → Option ContextId → Option (List ℤ)
verticle_state history None = None
verticle_state history (Some context) = if is_verticle (context_at history context) then state_at history context else None

-- the state of the verticle that a call hands out: a Take of a handler's task hands out the verticle of its context
abbrev pub gives : List Traced → Call → Reply → Option (List ℤ)
gives history (calls.Take lane) reply = verticle_state history (handler_in history reply)
gives history _ reply = None

-- whether the task that the pass holds handed a verticle out
abbrev pub gave : List Traced → PassNo → Bool
gave history pass = is_some (held_deployment history pass)
