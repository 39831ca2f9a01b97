-- What holds of the verticles that are kept, in every legal history.
use Rattle.std.specs.Prelude.{◌≡◌, ℤ, true, if◌then◌else◌, is_some, List, [], ◌∷◌, ◌++◌, None, Some}
use Rattle.vx_data.specs.declared.ids.ContextId.{ContextId}
use Rattle.vx_data.specs.declared.ids.PassNo.{PassNo}
use Rattle.vx_message.specs.declared.Lane.{Lane}
use Rattle.vx_call.specs.declared.call.Call.{Call}
use Rattle.vx_call.specs.declared.call.Call.TheVariants as calls
use Rattle.vx_call.specs.declared.call.End.{End}
use Rattle.vx_call.specs.declared.reply.Reply.{Reply}
use Rattle.vx_call.specs.declared.reply.Reply.TheVariants as replies
use Rattle.vx_call.specs.declared.reply.Task.{Task}
use Rattle.vx_call.specs.declared.history.Mark.{Mark}
use Rattle.vx_call.specs.declared.history.Traced.{Traced}
use Rattle.vx_call.specs.Closings.{is_open}
use Rattle.vx_call.specs.Contexts.{context_at, is_verticle}
use Rattle.vx_call.specs.History.{entry_of}
use Rattle.vx_call.specs.Held.{held_context}
use Rattle.vx_call.specs.Machine.{MayFollow}
use Rattle.vx_call.specs.States.{state_at}
use Rattle.vx_instances.specs.Kept.{state_in, state_if}
use Rattle.vx_instances.specs.Instances.{instances, handler_in, gives}

-- Where a Take hands out a handler's task of a verticle, the verticle is kept, with the state that it hands out.
abbrev pub HandsOutWhatIsKept : List Traced → Type 0
HandsOutWhatIsKept history =
    (new : Traced) (lane : Lane) (task : Task) → MayFollow history new → new.entry.call ≡ calls.Take lane → new.entry.reply ≡ replies.Task task →
    state_if (handler_in history (replies.Task task)) (instances history) ≡ gives history (calls.Take lane) (replies.Task task)

-- Each open context of a verticle has a state.
abbrev pub EachHasState : List Traced → Type 0
EachHasState history = (context : ContextId) → is_open history context ≡ true → is_verticle (context_at history context) ≡ true → is_some (state_at history context) ≡ true

-- Where a Finish gives a verticle back, it is kept with that state as long as its context is open, and else not at all.
abbrev pub KeepsWhatComesBack : List Traced → Type 0
KeepsWhatComesBack history =
    (pass : PassNo) (end : End) (state : List ℤ) (mark : Mark) (context : ContextId) → held_context history pass ≡ Some context → is_verticle (context_at history context) ≡ true →
    state_in context (instances (history ++ entry_of pass (calls.Finish end) replies.Done (state ∷ []) mark ∷ []))
    ≡ (if is_open (history ++ entry_of pass (calls.Finish end) replies.Done (state ∷ []) mark ∷ []) context then Some state else None)
