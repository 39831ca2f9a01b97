-- Whole lines: which instruction of which pass a line spells, and the same read from left to right. A tail is what is left behind a
-- word: it is empty or begins with a space. The language is this project's own.
use Rattle.std.specs.Prelude.{◌≡◌, ℕ, List, [], ◌∷◌, ◌++◌, Bool, true, ◌==◌, if◌then◌else◌, IsTrue, replicate, Option, Some, None, ◌⊎◌}
use Rattle.std.specs.Str.{IsUtf8, is_utf8}
use Rattle.vx_line.specs.declared.command.Command.{Command}
use Rattle.vx_line.specs.declared.instruction.Instruction.{Instruction}
use Rattle.vx_line.specs.declared.scope.Scope.{Scope}
use Rattle.vx_words.specs.Grammar.{Follow, NamesPass, Values}
use Rattle.vx_words.specs.Reading.{behind_word, first_word, pass_at, without_spaces, ◌>>=◌}
use Rattle.vx_line.specs.Grammar.{Chosen, Choose, Form, forms}
use Rattle.vx_line.specs.Reading.{form_by}
use Rattle.vx_line.specs.Tables.{is_on}

-- Empty lines and those that begin with # make no call.
abbrev pub is_silent : List ℕ → Bool
is_silent [] = true
is_silent (b ∷ bs) = b == 35

-- ## In the words of the grammar

-- Where there are so many passes, the line has this form, which is on, and has this done. Spaces may stand before its first word.
pub record IsOfForm (scope : Scope) (form : Form) (passes : ℕ) (command : Command) (line : List ℕ) : Type 0 where
  pub spaces : ℕ
  pub naming : List ℕ
  pub tail : List ℕ
  pub rest : List ℕ
  pub chosen : Chosen form.options
  pub values : Values form.tokens form.ending
  pub begins : line ≡ replicate spaces 32 ++ (naming ++ (form.word ++ tail))
  pub names : NamesPass passes command.pass naming
  pub on : IsTrue (is_on scope form.word tail)
  pub choose : Choose form.options chosen rest tail
  pub follow : Follow form.tokens form.ending values rest
  pub makes : command.instruction ≡ form.make chosen values

abbrev pub IsOfOne : List Form → Scope → ℕ → Command → List ℕ → Type 0
IsOfOne [] scope passes command line = ⊥
IsOfOne (form ∷ more) scope passes command line = IsOfForm scope form passes command line ⊎ IsOfOne more scope passes command line

-- Where there are so many passes, the line says this: an instruction of a pass, or none where it is empty or a comment. All is
-- UTF-8.
abbrev pub IsLine : Scope → ℕ → Option Command → List ℕ → Type 0
IsLine scope passes None line = IsUtf8 line × IsTrue (is_silent line)
IsLine scope passes (Some command) line = IsUtf8 line × IsOfOne forms scope passes command line

-- ## Read from left to right

-- what a line has done, by its first word and what stands behind it
unfoldable pub instruction_at : Scope → List ℕ → List ℕ → Option Instruction
instruction_at scope word tail = if is_on scope word tail then form_by forms word tail else None

-- the same with its pass, from its first word on
unfoldable pub command_at : Scope → ℕ → List ℕ → Option Command
command_at scope passes bytes =
    pass_at passes bytes >>= λ x. (instruction_at scope (first_word x.1) (behind_word x.1) >>= λ instruction. Some (record { pass = x.0; instruction = instruction }))

-- what a line says, where there are so many passes: an instruction, or none
unfoldable pub said_at : Scope → ℕ → List ℕ → Option (Option Command)
said_at scope passes line =
    if is_utf8 line then (if is_silent line then Some None else (command_at scope passes (without_spaces line) >>= λ command. Some (Some command))) else None
