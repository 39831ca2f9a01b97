-- The history of a script: passes have the instructions of its lines done, each call answered by the machine.
use Rattle.std.specs.Prelude.{ℕ, ℤ, ◌==◌, Bool, false, List, [], ◌∷◌, replicate, unwrap_or, Option}
use Rattle.std.specs.Option.{option_to_list}
use Rattle.vx_data.specs.declared.ids.PassNo.{PassNo}
use Rattle.vx_call.specs.declared.call.Call.{Call}
use Rattle.vx_call.specs.declared.call.Call.TheVariants as calls
use Rattle.vx_call.specs.declared.history.Traced.{Traced}
use Rattle.vx_call.specs.Held.{held_context}
use Rattle.vx_call.specs.Machine.{answer, extended_with}
use Rattle.vx_instances.specs.Instances.{verticle_state}
use Rattle.vx_kinds.specs.Hosts.{first_state}
use Rattle.vx_line.specs.declared.command.Command.{Command}
use Rattle.vx_line.specs.declared.instruction.Instruction.{Instruction}
use Rattle.vx_line.specs.declared.instruction.Instruction.TheVariants as does
use Rattle.vx_line.specs.Made.{first_call}

-- whether a call deploys so many verticles
abbrev pub deploys_so_many : Call → ℕ → Bool
deploys_so_many (calls.Deploy worker pool tell count) instances = count == instances
deploys_so_many _ instances = false

-- the state of the verticle whose handler task a pass holds
abbrev pub state_held : List Traced → PassNo → Option (List ℤ)
state_held before pass = verticle_state before (held_context before pass)

-- The states that go with an instruction: a Deploy comes with the first state of the kind for each instance, and a Finish
-- gives back the state that the verticle has, since no line changes one.
abbrev pub states_with : List Traced → PassNo → Instruction → List (List ℤ)
states_with before pass (does.Deploy options spec instances) = replicate instances (unwrap_or (first_state spec) [])
states_with before pass (does.Finish end) = option_to_list (state_held before pass)
states_with before pass _ = []

-- the history after a call that comes with these states, with the machine's reply
abbrev pub played_with : List Traced → PassNo → Call → List (List ℤ) → List Traced
played_with before pass call states = extended_with before pass call (answer before pass call) states

-- the history after an instruction of a pass: one entry, with the machine's reply
abbrev pub behind : List Traced → Command → List Traced
behind before command = played_with before command.pass (first_call command.instruction) (states_with before command.pass command.instruction)

-- the history after the instructions of passes
abbrev pub history_from : List Traced → List Command → List Traced
history_from history [] = history
history_from history (command ∷ commands) = history_from (behind history command) commands

abbrev pub history_of : List Command → List Traced
history_of commands = history_from [] commands
