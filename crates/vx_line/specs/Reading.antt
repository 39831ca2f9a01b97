-- Reading the forms of lines from left to right. A tail is what is left behind a word: it is empty or begins with a space.
use Rattle.std.specs.Prelude.{ℕ, ℤ, List, [], ◌∷◌, ◌++◌, length, map, zero, suc, Bool, Option, Some, None, if◌then◌else◌}
use Rattle.std.specs.List.{list_all, list_any}
use Rattle.std.specs.Str.{bytes_eq}
use Rattle.vx_data.specs.HeaderLists.{too_many}
use Rattle.vx_line.specs.declared.instruction.Instruction.{Instruction}
use Rattle.vx_words.specs.Grammar.{begins_with, Token, TokenValue}
use Rattle.vx_line.specs.Grammar.{Optional, One, Many, name_of, Choice, Chosen, option_name, texts_of, Form}
use Rattle.vx_words.specs.Reading.{behind_spaces, behind_word, first_word, header_in, signed_in, token_in, values_at, ◌>>=◌}

-- ## Options

-- the option at the front of a tail, and the tail behind it
unfoldable pub option_at : List ℕ → Option (List ℕ × List ℕ)
option_at tail = do
  bytes ← behind_spaces tail
  if begins_with 43 bytes then Some (first_word bytes, behind_word bytes) else None

-- the words of the options at the front, and the tail behind them
pub record Taken : Type 0 where
  pub words : List (List ℕ)
  pub rest : List ℕ

abbrev pub with_option : (List ℕ → Taken) → List ℕ → Option (List ℕ × List ℕ) → Taken
with_option more tail None = record { words = []; rest = tail }
with_option more tail (Some word) = record { words = word.0 ∷ (more word.1).words; rest = (more word.1).rest }

-- the same in at most so many turns
unfoldable pub options_in : ℕ → List ℕ → Taken
options_in zero tail = record { words = []; rest = tail }
options_in (suc turns) tail = with_option (options_in turns) tail (option_at tail)

unfoldable pub options_of : List ℕ → Taken
options_of tail = options_in (length tail) tail

-- whether a word has one of these names
abbrev pub is_known : List (List ℕ) → List ℕ → Bool
is_known names word = list_any (bytes_eq (option_name word)) names

-- the tail behind the options, where all of them have these names
unfoldable pub behind_options : List (List ℕ) → List ℕ → Option (List ℕ)
behind_options names tail = if list_all (is_known names) (options_of tail).words then Some (options_of tail).rest else None

-- the one text, if there is one
abbrev pub one_of : List (List ℕ) → Option (Option (List ℕ))
one_of [] = Some None
one_of (text ∷ []) = Some (Some text)
one_of (text ∷ another ∷ texts) = None

-- what it says
abbrev pub told_in : (token : Token) → Option (List ℕ) → Option (Option (TokenValue token))
told_in token None = Some None
told_in token (Some text) = token_in token text >>= λ value. Some (Some value)

-- what each text says
abbrev pub each_in : (token : Token) → List (List ℕ) → Option (List (TokenValue token))
each_in token [] = Some []
each_in token (text ∷ texts) = token_in token text >>= λ value. (each_in token texts >>= λ values. Some (value ∷ values))

-- headers with one more, which is spelled by a text
abbrev pub header_onto : List (List ℕ × List ℕ) → List ℕ → Option (List (List ℕ × List ℕ))
header_onto headers text = header_in text >>= λ header. (if too_many (headers ++ header ∷ []) then None else Some (headers ++ header ∷ []))

-- numbers with one more, which is spelled by a text
abbrev pub number_onto : List ℤ → List ℕ → Option (List ℤ)
number_onto numbers text = signed_in 63 text >>= λ number. Some (numbers ++ number ∷ [])

-- what the words of an option choose
abbrev pub choice_in : (option : Optional) → List (List ℕ) → Option (Choice option)
choice_in (One name token) words = one_of (texts_of name words) >>= told_in token
choice_in (Many name token fit) words = each_in token (texts_of name words) >>= λ values. (if fit values then Some values else None)

abbrev pub chosen_in : (options : List Optional) → List (List ℕ) → Option (Chosen options)
chosen_in [] words = Some tt
chosen_in (option ∷ options) words = choice_in option words >>= λ value. (chosen_in options words >>= λ chosen. Some (value, chosen))

-- what the options at the front choose, and the tail behind them
abbrev pub options_at : (options : List Optional) → List ℕ → Option (Chosen options × List ℕ)
options_at [] tail = Some (tt, tail)
options_at (option ∷ options) tail =
    behind_options (map name_of (option ∷ options)) tail >>= λ rest. (chosen_in (option ∷ options) (options_of tail).words >>= λ chosen. Some (chosen, rest))

-- ## Forms

-- what a line of this form has done, by what stands behind its first word
abbrev pub form_at : Form → List ℕ → Option Instruction
form_at form tail = options_at form.options tail >>= λ x. (values_at form.tokens form.ending x.1 >>= λ values. Some (form.make x.0 values))

-- the same of the form with this first word
abbrev pub form_by : List Form → List ℕ → List ℕ → Option Instruction
form_by [] word tail = None
form_by (form ∷ more) word tail = if bytes_eq word form.word then form_at form tail else form_by more word tail
