-- What the rings say of an address is what the map has there.
use Rattle.std.proofs.Common.{◌≡◌, refl, ℕ, Bool, true, false, cond, if◌then◌else◌, List, [], ◌∷◌, filter, Some, None, arith, tests}
use Rattle.std.specs.Str.{bytes_eq}
use Rattle.std.proofs.lemmas.Slice.Eq.{bytes_eq-Decides}
use Rattle.vx_data.specs.declared.ids.ConsumerId.{ConsumerId}
use Rattle.vx_ring.specs.declared.ring.Ring.{Ring}
use Rattle.vx_ring.specs.Rings.{is_empty, consumers_at, choices_at}
use Rattle.vx_ring.specs.Entries.{rings_of, ring_at, consumers_of, choices_of}

pub consumers_kept : (a : List ℕ) (entries : List (List ℕ × Ring)) → consumers_at a (rings_of entries) ≡ consumers_of (ring_at a entries)
consumers_kept a [] = refl
consumers_kept a (entry ∷ entries) =
    elim (bytes_eq a entry.0) as (λ b. cond b entry.1.consumers.items (consumers_at a (rings_of entries)) ≡ consumers_of (cond b (Some entry.1) (ring_at a entries))) [
      | true ↦ refl
      | false ↦ consumers_kept a entries
    ]

pub choices_kept : (a : List ℕ) (entries : List (List ℕ × Ring)) → choices_at a (rings_of entries) ≡ choices_of (ring_at a entries)
choices_kept a [] = refl
choices_kept a (entry ∷ entries) =
    elim (bytes_eq a entry.0) as (λ b. cond b entry.1.choices (choices_at a (rings_of entries)) ≡ choices_of (cond b (Some entry.1) (ring_at a entries))) [
      | true ↦ refl
      | false ↦ choices_kept a entries
    ]

-- an empty list of consumers has none
pub none_left : (consumers : List ConsumerId) → is_empty consumers ≡ true → consumers ≡ []
none_left [] empty = refl
none_left (consumer ∷ consumers) empty = absurd (grind (arith, tests, empty))

-- where a ring's last consumer goes, and the ring with it
pub last_goes : (keep : ConsumerId → Bool) (address : List ℕ) (old written new : List (List ℕ × Ring)) (ring left : Ring)
    → Some ring ≡ ring_at address old → filter keep ring.consumers.items ≡ []
    → ((a : List ℕ) → ring_at a written ≡ cond (bytes_eq address a) (Some left) (ring_at a old))
    → ((a : List ℕ) → ring_at a new ≡ cond (bytes_eq address a) None (ring_at a written))
    → (a : List ℕ) → consumers_of (ring_at a new) ≡ (if bytes_eq a address then filter keep (consumers_of (ring_at a old)) else consumers_of (ring_at a old))
last_goes keep address old written new ring left there none as_written as_removed a =
    grind (arith, tests, as_written a, as_removed a, bytes_eq-Decides a address, bytes_eq-Decides address a)
