-- What a call of a host adds to what its pass knows.
use Rattle.std.specs.Prelude.{◌≡◌, ℤ, Option, false, if◌then◌else◌, List, [], ◌∷◌, ◌++◌, length}
use Rattle.std.specs.List.{enumerate_from}
use Rattle.vx_data.specs.declared.ids.ContextId.{ContextId}
use Rattle.vx_data.specs.declared.ids.PassNo.{PassNo}
use Rattle.vx_message.specs.declared.Lane.{Lane}
use Rattle.vx_call.specs.declared.call.Call.{Call}
use Rattle.vx_call.specs.declared.call.Call.TheVariants as calls
use Rattle.vx_call.specs.declared.reply.Reply.{Reply}
use Rattle.vx_call.specs.declared.reply.Reply.TheVariants as replies
use Rattle.vx_call.specs.declared.history.Traced.{Traced}
use Rattle.vx_call.specs.History.{is_accepted, entry_of}
use Rattle.vx_call.specs.Effects.{marked}
use Rattle.vx_call.specs.Refusals.{is_spent}
use Rattle.vx_call.specs.Passes.{passes}
use Rattle.vx_call.specs.Machine.{answer, IsLegal}
use Rattle.vx_call.specs.Unchanged.{IsUnchanged}
use Rattle.vx_instances.specs.Instances.{gives, handler_in}
use Rattle.vx_turn.specs.Entries.{GrewByOthers}
use Rattle.vx_turn.specs.Caller.{Caller, mine_of, own_of, Came, SameEntries}
use Rattle.vx_hub.specs.Passes.{pass_of}
use Rattle.vx_host.specs.Turns.{pass_no}

-- the entry of a call, its reply and the states that go with it, where the history is not spent
abbrev pub call_entry : List Traced → PassNo → Call → Reply → List (List ℤ) → List Traced
call_entry history pass call reply states = if is_spent history then [] else entry_of pass call reply states (marked history pass call reply) ∷ []

-- the entry that the machine makes of a call
abbrev pub machine_entry : List Traced → PassNo → Call → List (List ℤ) → List Traced
machine_entry history pass call states = call_entry history pass call (answer history pass call) states

-- The call stands at the end of the history that its pass has seen then. The reply is the machine's, and the history is legal.
pub record Called (before : Caller Traced) (call : Call) (reply : Reply) (states : List (List ℤ)) (after : Caller Traced) : Type 0 where
  pub number : after.number ≡ before.number
  pub numbers : after.numbers ≡ before.numbers
  -- the history that the call found: all that the pass had seen, and behind it what others did since
  pub history : List Traced
  pub found : GrewByOthers pass_of before.numbers before.seen history
  -- the machine gives this reply there
  pub answered : reply ≡ answer history (pass_no before) call
  -- the pass has seen that history and behind it the call's entry, which it has none of where the history is spent
  pub seen : after.seen ≡ history ++ call_entry history (pass_no before) call reply states
  pub is_legal : IsLegal after.seen
  -- the entry is all that the pass's entries have more, and it is their last
  pub mine : mine_of pass_of after ≡ mine_of pass_of before ++ enumerate_from (length history) (call_entry history (pass_no before) call reply states)
  pub own : own_of pass_of after ≡ own_of pass_of before ++ enumerate_from (length history) (call_entry history (pass_no before) call reply states)
  -- a refused call changes nothing else
  pub refused : is_accepted reply ≡ false → IsUnchanged history after.seen

-- A Take stands so. It says the context whose handler the task is, where it is a handler's, and the state is that of the
-- verticle which it hands out, if it hands one out.
pub record Took (before : Caller Traced) (lane : Lane) (reply : Reply) (context : Option ContextId) (state : Option (List ℤ)) (after : Caller Traced) : Type 0 where
  pub called : Called before (calls.Take lane) reply [] after
  pub on_context : context ≡ handler_in called.history reply
  pub gives : state ≡ gives called.history (calls.Take lane) reply

-- where the reply hands out a task
abbrev pub IfTask : Reply → Type 0 → Type 0
IfTask (replies.Task task) P = P
IfTask _ P = Unit {0}

-- The pass came to its turn and made no entry. It has seen the whole history, which is legal and begins with all that it had seen.
pub record AddedNothing (before after : Caller Traced) : Type 0 where
  pub came : Came IsLegal pass_of passes before after
  pub entries : SameEntries pass_of before after
