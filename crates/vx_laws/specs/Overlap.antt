-- Handlers of one context never overlap, nor do tasks of one event loop. (Vert.x core manual, "Standard verticles",
-- "Worker verticles": never two handlers of one context at once; "Reactor and Multi-Reactor": an event loop runs one
-- handler at a time. That a pass takes a task, and finishes it, is this project's own.)
use Rattle.std.specs.Prelude.{◌≡◌, ◌==◌, ◌&&◌, ℕ, Bool, true, false, List, ◌∷◌, ◌++◌}
use Rattle.std.specs.List.{list_any}
use Rattle.vx_data.specs.declared.ids.ContextId.{ContextId}
use Rattle.vx_data.specs.declared.ids.PassNo.{PassNo}
use Rattle.vx_message.specs.declared.Lane.TheVariants as lanes
use Rattle.vx_call.specs.declared.call.Call.{Call}
use Rattle.vx_call.specs.declared.call.Call.TheVariants as calls
use Rattle.vx_call.specs.declared.reply.Reply.{Reply}
use Rattle.vx_call.specs.declared.reply.Reply.TheVariants as replies
use Rattle.vx_call.specs.declared.history.Traced.{Traced}
use Rattle.vx_call.specs.History.{is_accepted}
use Rattle.vx_call.specs.Given.{context_of, mode_of}
use Rattle.vx_call.specs.Held.{is_of_context, handler_context}

-- a Take that hands out a handler's task of the context: one of its handlers begins
abbrev pub starts : ContextId → List Traced → Call → Reply → Bool
starts context before (calls.Take lane) (replies.Task task) = is_of_context context (handler_context (mode_of before task) (context_of before task))
starts context before _ _ = false

abbrev pub is_start : ContextId → List Traced → Traced → Bool
is_start context before new = starts context before new.entry.call new.entry.reply

-- a Finish
abbrev pub finishes : Call → Bool
finishes (calls.Finish end) = true
finishes _ = false

-- a Finish of the pass that is not refused: the task that it runs ends
abbrev pub is_finish_of : PassNo → Traced → Bool
is_finish_of pass new = is_accepted new.entry.reply && (finishes new.entry.call && (pass.0 == new.entry.pass.0))

-- Where two handlers of one context begin, the one that began first has ended in between: its pass has finished it.
abbrev pub HandlersNeverOverlap : List Traced → Type 0
HandlersNeverOverlap history =
    (context : ContextId) (before between after : List Traced) (first second : Traced) → history ≡ before ++ first ∷ (between ++ second ∷ after) →
    is_start context before first ≡ true → is_start context (before ++ first ∷ between) second ≡ true → list_any (is_finish_of first.entry.pass) between ≡ true

-- a Take that hands out a task of the event loop
abbrev pub runs_loop : ℕ → Call → Reply → Bool
runs_loop loop (calls.Take (lanes.Loop other)) (replies.Task task) = loop == other
runs_loop loop _ _ = false

abbrev pub is_run_of : ℕ → Traced → Bool
is_run_of loop new = runs_loop loop new.entry.call new.entry.reply

-- Where two tasks of one event loop begin, the one that began first has ended in between.
abbrev pub LoopsNeverOverlap : List Traced → Type 0
LoopsNeverOverlap history =
    (loop : ℕ) (before between after : List Traced) (first second : Traced) → history ≡ before ++ first ∷ (between ++ second ∷ after) →
    is_run_of loop first ≡ true → is_run_of loop second ≡ true → list_any (is_finish_of first.entry.pass) between ≡ true
