-- The consumers at each address, and how many choices were made there.
use Rattle.std.specs.Prelude.{ℕ, ◌==◌, Bool, if◌then◌else◌, List, [], ◌∷◌, length}
use Rattle.std.specs.Str.{bytes_eq}
use Rattle.vx_data.specs.declared.ids.ConsumerId.{ConsumerId}

-- The consumers at an address, in the order of their registration, and the choices since the address last had none.
pub record RingAt : Type 0 where
  pub address : List ℕ
  pub consumers : List ConsumerId
  pub choices : ℕ

abbrev pub is_empty : List ConsumerId → Bool
is_empty consumers = length consumers == 0

-- the consumers at an address: none where it has no ring
abbrev pub consumers_at : List ℕ → List RingAt → List ConsumerId
consumers_at address [] = []
consumers_at address (ring ∷ rings) = if bytes_eq address ring.address then ring.consumers else consumers_at address rings

-- the choices at an address: 0 where it has no ring
abbrev pub choices_at : List ℕ → List RingAt → ℕ
choices_at address [] = 0
choices_at address (ring ∷ rings) = if bytes_eq address ring.address then ring.choices else choices_at address rings
