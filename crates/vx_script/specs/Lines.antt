-- The calls of all lines, or the first line that is in no form.
use Rattle.std.specs.Prelude.{◌≡◌, ℕ, ◌+◌, ◌<◌, true, List, [], ◌∷◌, ◌++◌, Option, Some, None, Result, Ok, Err, ◌⊎◌}
use Rattle.std.specs.List.{AllByRecursion}
use Rattle.std.specs.Option.{option_to_list}
use Rattle.std.specs.Str.Lines as text
use Rattle.vx_call.specs.declared.call.Call.{Call}
use Rattle.vx_call.specs.declared.call.Call.TheVariants as calls
use Rattle.vx_line.specs.declared.command.Command.{Command}
use Rattle.vx_line.specs.declared.scope.Scope.TheVariants.{Made}
use Rattle.vx_line.specs.Made.{first_call, is_made}
use Rattle.vx_line.specs.declared.fault.LineWhy.{LineWhy}
use Rattle.vx_words.specs.declared.fault.LineFault.{LineFault}
use Rattle.vx_words.specs.declared.fault.LineFault.TheVariants as faults
use Rattle.vx_script.specs.declared.fault.ScriptFault.{ScriptFault}
use Rattle.vx_script.specs.declared.fault.ScriptFault.TheVariants as scripts
use Rattle.vx_line.specs.Lines.{IsLine, said_at}
use Rattle.vx_line.specs.Reasons.{reason}

-- the number of a line, from 1, and why it is in no form
abbrev pub Bad : Type 0
Bad = ℕ × LineWhy

-- how many passes are there after a call, and after what a line says
abbrev pub passes_with : ℕ → Call → ℕ
passes_with passes calls.NewPass = passes + 1
passes_with passes _ = passes

abbrev pub passes_after : ℕ → Option Command → ℕ
passes_after passes None = passes
passes_after passes (Some command) = passes_with passes (first_call command.instruction)

-- ## What a script says

-- calls, and then those that follow
abbrev pub with_front : List Command → Result (List Command) Bad → Result (List Command) Bad
with_front front (Ok commands) = Ok (front ++ commands)
with_front front (Err bad) = Err bad

-- what one line says, and then what the others give
abbrev pub with_line : Option (Option Command) → Bad → (Option Command → Result (List Command) Bad) → Result (List Command) Bad
with_line None bad more = Err bad
with_line (Some said) bad more = with_front (option_to_list said) (more said)

-- the calls of lines, where there are so many passes and the first line has this number
unfoldable pub commands_from : ℕ → ℕ → List (List ℕ) → Result (List Command) Bad
commands_from passes number [] = Ok []
commands_from passes number (line ∷ lines) = with_line (said_at Made passes line) (number, reason Made passes line) (λ said. commands_from (passes_after passes said) (number + 1) lines)

-- The calls of a script, or its first line in no form, and why. A line ends with a newline, the last one perhaps without;
-- one carriage return before a newline is dropped. One pass is there at first.
unfoldable pub commands_of : List ℕ → Result (List Command) Bad
commands_of bytes = commands_from 1 1 (text.lines bytes)

-- what the calls of a script are where a function failed; nothing is said where memory ran out
abbrev pub ScriptFails : ScriptFault → Result (List Command) Bad → Type 0
ScriptFails scripts.NoMemory read = Unit {0}
ScriptFails (scripts.BadLine number why) read = read ≡ Err (number, why)

-- the fault of a line with its number, where there are so many passes
abbrev pub numbered : ℕ → ℕ → List ℕ → LineFault → ScriptFault
numbered number passes line faults.NoMemory = scripts.NoMemory
numbered number passes line faults.Misfit = scripts.BadLine number (reason Made passes line)

-- what a line adds to the calls before it, and to the passes
pub record Adds (said : Option (Option Command)) (old new : List Command) (before after : ℕ) : Type 0 where
  pub what : Option Command
  pub is : said ≡ Some what
  pub added : new ≡ old ++ option_to_list what
  pub passes : after ≡ passes_after before what

-- Each call is of a pass that is there when it is made.
abbrev pub AreThere : ℕ → List Command → Type 0
AreThere passes [] = Unit {0}
AreThere passes (command ∷ commands) = (command.pass.0 < passes) × AreThere (passes_with passes (first_call command.instruction)) commands

-- Each instruction is one that the hub makes so far.
abbrev pub AreMade : List Command → Type 0
AreMade = AllByRecursion (λ (command : Command). is_made command.instruction ≡ true)

-- ## The same in the words of the grammar

-- The lines make these calls, in order, where there are so many passes.
abbrev pub Make : ℕ → List (List ℕ) → List Command → Type 0
Make passes [] commands = commands ≡ []
Make passes (line ∷ lines) commands =
    (said : Option Command) × (rest : List Command) × IsLine Made passes said line × (commands ≡ option_to_list said ++ rest) × Make (passes_after passes said) lines rest

-- The line is in no form.
abbrev pub IsBad : ℕ → List ℕ → Type 0
IsBad passes line = (said : Option Command) → IsLine Made passes said line → ⊥

-- The line with this number is the first in no form, for this reason, where there are so many passes and the first line
-- has the number `from`.
abbrev pub IsFirstBad : ℕ → ℕ → List (List ℕ) → Bad → Type 0
IsFirstBad passes from [] bad = ⊥
IsFirstBad passes from (line ∷ lines) bad =
    (IsBad passes line × (bad ≡ (from, reason Made passes line)))
    ⊎ ((said : Option Command) × IsLine Made passes said line × IsFirstBad (passes_after passes said) (from + 1) lines bad)
