-- Why a line in no form is bad. The language is this project's own.
use Rattle.std.specs.Prelude.{ℕ, List, Bool, if◌then◌else◌}
use Rattle.std.specs.List.{list_any}
use Rattle.std.specs.Str.{bytes_eq, is_utf8}
use Rattle.vx_line.specs.declared.fault.LineWhy.{LineWhy}
use Rattle.vx_line.specs.declared.fault.LineWhy.TheVariants.{Utf8, Pass, Word, Unbuilt, Form}
use Rattle.vx_line.specs.declared.scope.Scope.{Scope}
use Rattle.vx_line.specs.Grammar as grammar
use Rattle.vx_line.specs.Grammar.{forms}
use Rattle.vx_line.specs.Tables.{is_on}
use Rattle.vx_words.specs.Reading.{without_spaces, first_word, behind_word, names_pass, behind_pass}

-- a command that is read
abbrev pub is_command : List ℕ → Bool
is_command word = list_any (λ (form : grammar.Form). bytes_eq word form.word) forms

unfoldable pub word_reason : Scope → List ℕ → List ℕ → LineWhy
word_reason scope word tail = if is_on scope word tail then (if is_command word then Form else Word) else Unbuilt

-- the same of a line from its first word on
unfoldable pub command_reason : Scope → ℕ → List ℕ → LineWhy
command_reason scope passes bytes =
    if names_pass passes bytes then word_reason scope (first_word (behind_pass bytes)) (behind_word (behind_pass bytes)) else Pass

-- The first of these reasons that holds: it is no UTF-8; it names no pass that is there; its command is no word of any
-- version; its command, an option, its first piece or its kind is not on; it misfits the form of its command.
unfoldable pub reason : Scope → ℕ → List ℕ → LineWhy
reason scope passes line = if is_utf8 line then command_reason scope passes (without_spaces line) else Utf8
