-- What a script did to its source and its sink, by its status.
use Rattle.std.specs.Prelude.{◌≡◌, ℕ, List, Option, Ok, Err, ◌⊎◌}
use Rattle.std.specs.Io.KnownBytes.{Consumes, Keeps, Appends}
use Rattle.vx_io.specs.Reading.{ReadsAll, ReadsSome, ReadsTooMany}
use Rattle.vx_io.specs.Writing.{AppendsFront}
use Rattle.vx_line.specs.declared.command.Command.{Command}
use Rattle.vx_script.specs.Lines.{commands_of}
use Rattle.vx_reply_text.specs.Replies.{text}
use Rattle.vx_script.specs.Playing.{history_of}
use Rattle.vx_script.specs.declared.status.Status.{Status}
use Rattle.vx_script.specs.declared.status.Status.TheVariants.{Done, Usage, BadLine, ReadFault, WriteFault, TooLong, NoMemory}
use Rattle.vx_script.specs.declared.limit.TheConstants.{LIMIT}

-- All was read, and its lines make these calls.
pub record ReadsCommands (old new : Option (List ℕ)) (bytes : List ℕ) (commands : List Command) : Type 0 where
  pub read : ReadsAll LIMIT old new bytes
  pub made : commands_of bytes ≡ Ok commands

-- `left` and `held` are what the source has left and what the sink holds, before and after, where they tell it.
abbrev pub IsOutcome : Option (List ℕ) → Option (List ℕ) → Option (List ℕ) → Option (List ℕ) → Status → Type 0
-- the text of the history of all lines is written, and nothing else
IsOutcome left left' held held' Done = (bytes : List ℕ) × (commands : List Command) × ReadsCommands left left' bytes commands × Appends held held' (text (history_of commands))
-- nothing is read or written
IsOutcome left left' held held' Usage = Keeps left left' × Keeps held held'
-- all was read, the line is the first in no form, and nothing is written
IsOutcome left left' held held' (BadLine line why) = (bytes : List ℕ) × ReadsAll LIMIT left left' bytes × (commands_of bytes ≡ Err (line, why)) × Keeps held held'
-- nothing is written
IsOutcome left left' held held' ReadFault = ReadsSome LIMIT left left' × Keeps held held'
-- so many bytes were read, more than a script may have, and nothing is written
IsOutcome left left' held held' (TooLong count) = ReadsTooMany LIMIT left left' count × Keeps held held'
-- a front of the text is written
IsOutcome left left' held held' WriteFault = (bytes : List ℕ) × (commands : List Command) × ReadsCommands left left' bytes commands × AppendsFront held held' (text (history_of commands))
-- nothing is written, or a front of the text
IsOutcome left left' held held' NoMemory = ((bytes : List ℕ) × Consumes left left' bytes × Keeps held held')
    ⊎ ((bytes : List ℕ) × (commands : List Command) × ReadsCommands left left' bytes commands × AppendsFront held held' (text (history_of commands)))

-- done, or out of memory
abbrev pub IsSettled : Status → Type 0
IsSettled Done = Unit {0}
IsSettled NoMemory = Unit {0}
IsSettled _ = ⊥
