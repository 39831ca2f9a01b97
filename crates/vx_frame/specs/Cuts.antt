-- What stands at the front of a stream, for private clauses.
use Rattle.std.specs.Prelude.{◌≡◌, ◌+◌, ◌<◌, ◌≤◌, ℕ, ◌^◌, List, ◌++◌, length}
use Rattle.vx_message.specs.Framing.{prefix, framed}
use Rattle.vx_frame.specs.Streams.{max_len}
use Rattle.vx_frame.specs.declared.cut.Cut.{Cut}
use Rattle.vx_frame.specs.declared.cut.Cut.TheVariants as cuts

-- neither a whole frame nor a length that is refused
pub record IsShort (held : List ℕ) : Type 0 where
  pub whole : (json more : List ℕ) → length json ≤ max_len → held ≡ framed json ++ more → ⊥
  pub refused : (n : ℕ) (more : List ℕ) → max_len < n → n < 2 ^ 32 → held ≡ prefix n ++ more → ⊥
  pub few : length held < max_len + 4

abbrev pub IsCut : List ℕ → Cut → Type 0
IsCut held cuts.Part = IsShort held
IsCut held (cuts.Refused n) = (more : List ℕ) × (max_len < n) × (n < 2 ^ 32) × (held ≡ prefix n ++ more)
IsCut held (cuts.Whole json) = (more : List ℕ) × (length json.now ≤ max_len) × (held ≡ framed json.now ++ more)
