-- A tally as contracts see it.
use Rattle.std.specs.Prelude.{ℕ, Option}

pub record Kept : Type 0 where
  pub sum : ℕ
  pub entries : ℕ
  pub passes : ℕ
  pub last : Option ℕ
