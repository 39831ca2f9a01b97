-- What a script's lines add to a history where verticles work too, over the kinds that a maker knows. It is the definition for
-- lines that work; so far no line does. (This project's own.)
use Rattle.std.specs.Prelude.{◌≡◌, ◌⊎◌, ℤ, Bool, true, false, List, [], ◌∷◌, ◌++◌, length, All}
use Rattle.std.specs.List.{enumerate_from}
use Rattle.std.specs.Option.{option_to_list}
use Rattle.vx_data.specs.declared.ids.PassNo.{PassNo}
use Rattle.vx_message.specs.declared.Lane.{Lane}
use Rattle.vx_call.specs.declared.call.Call.TheVariants as calls
use Rattle.vx_call.specs.declared.call.End.TheVariants as ends
use Rattle.vx_call.specs.declared.reply.Reply.{Reply}
use Rattle.vx_call.specs.declared.reply.Reply.TheVariants as replies
use Rattle.vx_call.specs.declared.history.Traced.{Traced}
use Rattle.vx_call.specs.Machine.{answer, IsLegal}
use Rattle.vx_call.specs.Runs.{played}
use Rattle.vx_verticle.specs.declared.verticle.ActResult.TheVariants as outcomes
use Rattle.vx_verticle.specs.Played.{Meaning, Played}
use Rattle.vx_line.specs.declared.command.Command.{Command}
use Rattle.vx_line.specs.declared.instruction.Instruction.{Instruction}
use Rattle.vx_line.specs.declared.instruction.Instruction.TheVariants as does
use Rattle.vx_line.specs.Made.{first_call}
use Rattle.vx_script.specs.Playing.{played_with, state_held}

-- whether a Take gave a task
abbrev pub gave_task : Reply → Bool
gave_task (replies.Task task) = true
gave_task _ = false

module _ {R : Type 0} (m : Meaning R) where
  -- The history grows by a played stretch, in which no memory ran out.
  pub record Works (before : List Traced) (pass : PassNo) (lane : Lane) (after : List Traced) : Type 0 where
    pub stretch : List Traced
    pub more : after ≡ before ++ stretch
    pub is_legal : IsLegal after
    pub is_played : Played m after pass lane (length before) (enumerate_from (length before) stretch)
    pub each_made : All (λ result. result ≡ outcomes.NoMemory → ⊥) is_played.results
    pub sure : is_played.end ≡ ends.NoMemory → ⊥

  -- What an instruction adds: a Deploy comes with states that the maker permits; a Finish gives back the state that the Take
  -- found; work on a lane that gives no task is a Take alone.
  abbrev pub Follows : List Traced → PassNo → Instruction → List Traced → Type 0
  Follows before pass (does.Call call) after = after ≡ played before pass call
  Follows before pass (does.Deploy options spec instances) after =
      (states : List (List ℤ)) × (length states ≡ instances) × All (m.makes spec) states × (after ≡ played_with before pass (first_call (does.Deploy options spec instances)) states)
  Follows before pass (does.Take lane) after = after ≡ played before pass (calls.Take lane)
  Follows before pass (does.Finish end) after = after ≡ played_with before pass (calls.Finish end) (option_to_list (state_held before pass))
  Follows before pass (does.Work lane) after =
      ((gave_task (answer before pass (calls.Take lane)) ≡ false) × (after ≡ played before pass (calls.Take lane))) ⊎ Works before pass lane after

  -- The instructions lead from one history to another.
  abbrev pub Lead : List Traced → List Command → List Traced → Type 0
  Lead before [] after = after ≡ before
  Lead before (command ∷ commands) after = (between : List Traced) × Follows before command.pass command.instruction between × Lead between commands after
