-- The rings as the map keeps them.
use Rattle.std.specs.Prelude.{◌≡◌, ℕ, false, List, [], map, Option, None, Some, IfSome}
use Rattle.std.specs.Str.{bytes_eq}
use Rattle.std.specs.Map.{lookup}
use Rattle.vx_data.specs.declared.ids.ConsumerId.{ConsumerId}
use Rattle.vx_ring.specs.declared.ring.Ring.{Ring}
use Rattle.vx_ring.specs.Rings.{RingAt, is_empty}

abbrev pub rings_of : List (List ℕ × Ring) → List RingAt
rings_of entries = map (λ (entry : List ℕ × Ring). record { address = entry.0; consumers = entry.1.consumers.items; choices = entry.1.choices }) entries

-- the ring at an address
abbrev pub ring_at : List ℕ → List (List ℕ × Ring) → Option Ring
ring_at address entries = lookup (bytes_eq address) entries

abbrev pub consumers_of : Option Ring → List ConsumerId
consumers_of None = []
consumers_of (Some ring) = ring.consumers.items

abbrev pub choices_of : Option Ring → ℕ
choices_of None = 0
choices_of (Some ring) = ring.choices

-- each ring that is kept has a consumer
abbrev pub HaveConsumers : List (List ℕ × Ring) → Type 0
HaveConsumers entries = (address : List ℕ) → IfSome (ring_at address entries) (λ ring. is_empty ring.consumers.items ≡ false)
