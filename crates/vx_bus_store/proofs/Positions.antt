-- The first element that passes a test, and its place.
use Rattle.std.proofs.Common.{◌≡◌, ℕ, ◌<◌, zero, suc, List, [], ◌∷◌, length, get_or, refl, ap, sym, ◌∙◌, arith}
use Rattle.std.proofs.lemmas.Bool.{ltb-false}
use Rattle.std.specs.Prelude.{Bool, true, false, cond, ◌||◌, Some, None, position, find, is_some, remove, slice_get, nat_lt}
use Rattle.std.specs.List.{position_or_len, list_any}
use Rattle.std.proofs.lemmas.List.Folds.{find_at}
use Rattle.std.proofs.lemmas.List.Quantifiers.{position-Some}
use Rattle.std.proofs.lemmas.Option.{cond_some, slice_get-get_or, slice_get_past}
use Rattle.vx_bus_store.specs.Stores.{without_first}

pub find_from_position : {X : Type 0} (p : X → Bool) (xs : List X) (i : ℕ) (d : X) → position p xs ≡ Some i → find p xs ≡ Some (get_or xs i d)
find_from_position p xs i d h =
    let e = cond_some (nat_lt (position_or_len p xs) (length xs)) (position_or_len p xs) i h in
    find_at p xs ∙ ap (slice_get xs) e.1 ∙ slice_get-get_or xs i d (position-Some p xs i d h).0

cond_none : {X : Type 0} (b : Bool) (x : X) → cond b (Some x) None ≡ None → b ≡ false
cond_none true x h = cc
cond_none false x h = refl

pub find_from_no_position : {X : Type 0} (p : X → Bool) (xs : List X) → position p xs ≡ None → find p xs ≡ None
find_from_no_position p xs h =
    find_at p xs ∙ slice_get_past xs (position_or_len p xs) (ltb-false (position_or_len p xs) (length xs) (cond_none _ _ h))

-- where a test passes at a place and not before, that place's element is the first that passes
remove_first : {X : Type 0} (p : X → Bool) (xs : List X) (i : ℕ) (d : X) → i < length xs → p (get_or xs i d) ≡ true →
    ((k : ℕ) → k < i → p (get_or xs k d) ≡ false) → remove xs i ≡ without_first p xs
remove_first p [] i d inside here before = absurd (omega arith)
remove_first p (x ∷ xs) zero d inside here before = ap (λ b. cond b xs (x ∷ without_first p xs)) (sym here)
remove_first p (x ∷ xs) (suc i) d inside here before =
    ap (λ ys. x ∷ ys) (remove_first p xs i d (omega arith) here (λ k h. before (suc k) (omega arith)))
    ∙ ap (λ b. cond b xs (x ∷ without_first p xs)) (sym (before 0 (omega arith)))

pub remove_from_position : {X : Type 0} (p : X → Bool) (xs : List X) (i : ℕ) (d : X) → position p xs ≡ Some i → remove xs i ≡ without_first p xs
remove_from_position p xs i d h =
    let at = position-Some p xs i d h in
    remove_first p xs i d at.0 at.1 at.2

-- one is found where any passes
pub find-any : {X : Type 0} (p : X → Bool) (xs : List X) → is_some (find p xs) ≡ list_any p xs
find-any p [] = refl
find-any p (x ∷ xs) = elim (p x) as (λ b. is_some (cond b (Some x) (find p xs)) ≡ (b || list_any p xs)) [ true ↦ refl | false ↦ find-any p xs ]
