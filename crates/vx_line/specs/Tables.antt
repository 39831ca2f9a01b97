-- Which commands are on. The language is this project's own.
use Rattle.std.specs.Prelude.{List, [], ◌∷◌, map, Bool, ◌||◌, ◌&&◌, not, ℕ, codes}
use Rattle.std.specs.List.{list_any}
use Rattle.std.specs.Str.{bytes_eq}
use Rattle.vx_line.specs.declared.scope.Scope.{Scope}
use Rattle.vx_line.specs.declared.scope.Scope.TheVariants as scopes
use Rattle.vx_line.specs.Grammar.{option_name}
use Rattle.vx_words.specs.Reading.{without_spaces, first_word}
use Rattle.vx_line.specs.Reading.{options_of}

abbrev pub is_one_of : List (List ℕ) → List ℕ → Bool
is_one_of words word = list_any (bytes_eq word) words

-- a command, and an option that stands behind it
abbrev pub Pair : Type 0
Pair = List ℕ × List ℕ

-- ## What later versions read

abbrev pub later : List (List ℕ)
later =
    codes "timer" ∷ codes "every" ∷ codes "cancel" ∷ codes "run" ∷ codes "block" ∷ codes "promise" ∷ codes "complete" ∷ codes "break" ∷ codes "compose" ∷ codes "await" ∷ codes "listen" ∷ codes "accepted"
    ∷ codes "open" ∷ codes "shut" ∷ codes "frame" ∷ codes "json" ∷ codes "out" ∷ []

abbrev pub later_options : List Pair
later_options = (codes "request", codes "+once") ∷ []

-- kinds that a deploy names
abbrev pub later_kinds : List (List ℕ)
later_kinds = codes "ticker" ∷ codes "blocker" ∷ codes "late" ∷ []

-- ## What is read and is not on: the hub does not make it yet

abbrev pub off : List (List ℕ)
off = codes "work" ∷ []

-- ## What is on

-- An option at the front of the tail has this name.
unfoldable pub has_option : List ℕ → List ℕ → Bool
has_option name tail = list_any (bytes_eq name) (map option_name (options_of tail).words)

abbrev pub has_later_option : List ℕ → List ℕ → Bool
has_later_option word tail = list_any (λ (pair : Pair). bytes_eq word pair.0 && has_option pair.1 tail) later_options

-- The first piece behind the options is a kind to come.
abbrev pub has_later_kind : List ℕ → List ℕ → Bool
has_later_kind word tail = bytes_eq word (codes "deploy") && is_one_of later_kinds (first_word (without_spaces (options_of tail).rest))

-- only a later version reads the command, or what stands behind it
abbrev pub is_later : List ℕ → List ℕ → Bool
is_later word tail = is_one_of later word || has_later_option word tail || has_later_kind word tail

-- it is read, and the hub does not make it yet
abbrev pub is_off : List ℕ → Bool
is_off word = is_one_of off word

-- whether the command, with what stands behind it, is one of these
abbrev pub is_on : Scope → List ℕ → List ℕ → Bool
is_on scopes.Made word tail = not (is_later word tail) && not (is_off word)
is_on scopes.Read word tail = not (is_later word tail)
