-- What calls of a tally add to what a pass knows.
use Rattle.std.specs.Prelude.{◌≡◌, ℕ, List, [], ◌∷◌, ◌++◌, length, map, Option, Some, None}
use Rattle.std.specs.List.{range_with_len, enumerate_from}
use Rattle.vx_turn.specs.Entries.{Foreign}
use Rattle.vx_turn.specs.Caller.{Caller, mine_of}
use Rattle.vx_tally.specs.declared.tally.Entry.{Entry}
use Rattle.vx_tally.specs.declared.tally.Entry.TheVariants.{Added, Opened}
use Rattle.vx_tally.specs.Tallies.{IsLegal, pass_of, addition}

-- the entries of an addition that was told this sum, or none
abbrev pub said : ℕ → ℕ → ℕ → Option ℕ → List Entry
said pass amount label None = []
said pass amount label (Some sum) = addition pass amount label sum ∷ []

-- The call stands at the end of a legal history, behind all that was seen before and what others did since; it is all that the pass's own entries have more
pub record Called (before : Caller Entry) (amount label : ℕ) (told : Option ℕ) (after : Caller Entry) : Type 0 where
  pub number : after.number ≡ before.number
  pub numbers : after.numbers ≡ before.numbers
  pub between : List Entry
  pub others : Foreign pass_of before.numbers between
  pub seen : after.seen ≡ (before.seen ++ between) ++ said before.number amount label told
  pub is_legal : IsLegal after.seen
  pub mine : mine_of pass_of after ≡ mine_of pass_of before ++ enumerate_from (length (before.seen ++ between)) (said before.number amount label told)

-- the amount of an addition
abbrev pub amount_in : ℕ × Entry → Option ℕ
amount_in (index, Added a) = Some a.amount
amount_in (index, Opened pass number) = None

-- these entries, and then n additions, of the amounts from 0 on in order
abbrev pub AddsInOrder : List (ℕ × Entry) → ℕ → List (ℕ × Entry) → Type 0
AddsInOrder before n after = (more : List (ℕ × Entry)) × (after ≡ before ++ more) × (map amount_in more ≡ map Some (range_with_len 0 n))
