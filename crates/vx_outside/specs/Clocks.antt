-- What a clock in memory holds.
use Rattle.std.specs.Prelude.{ℕ}

-- The moment that it is, and the last answer, in milliseconds.
pub record Times : Type 0 where
  pub now : ℕ
  pub last : ℕ
