-- Fewer are left, where some are left out.
use Rattle.std.proofs.Common.{◌+◌, ◌≤◌, ◌≡◌, suc, List, [], ◌∷◌, length, arith}
use Rattle.std.specs.Prelude.{Bool, true, false, not, cond, filter, find, is_some, Some}

pub filter_shorter : {X : Type 0} (p : X → Bool) (xs : List X) → length (filter p xs) ≤ length xs
filter_shorter p [] = omega arith
filter_shorter p (x ∷ xs) =
    let rest = filter_shorter p xs in
    elim (p x) as (λ b. length (cond b (x ∷ filter p xs) (filter p xs)) ≤ suc (length xs)) [ true ↦ omega arith | false ↦ omega arith ]

-- fewer are left, once one was found
pub fewer_left : {X : Type 0} (p : X → Bool) (xs : List X) → is_some (find p xs) ≡ true → length (filter (λ x. not (p x)) xs) + 1 ≤ length xs
fewer_left p [] found = absurd cc
fewer_left p (x ∷ xs) found =
    let rest = filter_shorter (λ y. not (p y)) xs in
    elim (p x) as (λ b. is_some (cond b (Some x) (find p xs)) ≡ true → length (cond (not b) (x ∷ filter (λ y. not (p y)) xs) (filter (λ y. not (p y)) xs)) + 1 ≤ suc (length xs)) [
      | true ↦ λ h. omega arith
      | false ↦ λ h. (let behind = fewer_left p xs h in omega arith)
    ] found
