-- Things that are said one after another: always the first that passes a test, until there is none.
use Rattle.std.proofs.Common.{◌≡◌, List, [], ◌∷◌, refl, ap, sym, ◌∙◌}
use Rattle.std.specs.Prelude.{Bool, true, false, not, cond, filter, find, None, Some}
use Rattle.vx_call.proofs.Each.{Each}
use Rattle.vx_call.proofs.Apart.{Apart, Apart-filter}
use Rattle.vx_call.proofs.Found.{find_passes}
use Rattle.vx_life_rows.specs.Said.{IsSaid, IsAllSaid}
use Rattle.vx_life_rows.proofs.Lists.{not_so}

module _ {A : Type 0} (same : A → A → Bool) (itself : (x : A) → same x x ≡ true) (one : (x y : A) → same x y ≡ true → x ≡ y) (test : A → Bool) where
  abbrev others : A → List A → List A
  others x xs = filter (λ y. not (same x y)) xs

  all_stay : (x : A) (xs : List A) → Each (λ y. same x y ≡ false) xs → others x xs ≡ xs
  all_stay x [] apart = refl
  all_stay x (y ∷ ys) apart = ap (λ b. cond (not b) (y ∷ others x ys) (others x ys)) apart.0 ∙ ap (λ rest. y ∷ rest) (all_stay x ys apart.1)

  -- one that fails is not the one that passes
  another : (x y : A) → test y ≡ false → test x ≡ true → same x y ≡ false
  another x y fails passes = not_so (same x y) (λ is. let e : true ≡ false = sym passes ∙ ap test (one x y is) ∙ fails in cc)

  -- the first that passes, and then the others
  first_said : (xs : List A) (x : A) → Apart same xs → find test xs ≡ Some x → filter test xs ≡ x ∷ filter test (others x xs)
  first_said [] x apart found = absurd cc
  first_said (y ∷ ys) x apart found =
      elim (test y) as (λ b. test y ≡ b → cond b (Some y) (find test ys) ≡ Some x → cond b (y ∷ filter test ys) (filter test ys) ≡ x ∷ filter test (others x (y ∷ ys))) [
        | true ↦ λ passes here.
            (let e : y ≡ x = cc in
            ap (λ rest. y ∷ filter test rest) (sym (all_stay y ys apart.0)) ∙ ap (λ b. y ∷ filter test (cond (not b) (y ∷ others y ys) (others y ys))) (sym (itself y)) ∙ ap (λ z. z ∷ filter test (others z (y ∷ ys))) e)
        | false ↦ λ fails later.
            (let passes : test x ≡ true = find_passes test ys x later in
            first_said ys x apart.1 later
            ∙ ap (λ rest. x ∷ rest)
            (sym (ap (λ b. filter test (cond (not b) (y ∷ others x ys) (others x ys))) (another x y fails passes) ∙ ap (λ b. cond b (y ∷ filter test (others x ys)) (filter test (others x ys))) fails)))
      ] refl found

  left_same : (x : A) → test x ≡ true → (xs : List A) → filter (λ y. not (test y)) (others x xs) ≡ filter (λ y. not (test y)) xs
  left_same x passes [] = refl
  left_same x passes (y ∷ ys) =
      elim (same x y) as (λ b. same x y ≡ b → filter (λ z. not (test z)) (cond (not b) (y ∷ others x ys) (others x ys)) ≡ cond (not (test y)) (y ∷ filter (λ z. not (test z)) ys) (filter (λ z. not (test z)) ys)) [
        | true ↦ λ is. left_same x passes ys ∙ sym (ap (λ b. cond (not b) (y ∷ filter (λ z. not (test z)) ys) (filter (λ z. not (test z)) ys)) (ap test (sym (one x y is)) ∙ passes))
        | false ↦ λ other. ap (λ rest. cond (not (test y)) (y ∷ rest) rest) (left_same x passes ys)
      ] refl

  -- those that fail stay
  rest_stays : (xs : List A) (x : A) → find test xs ≡ Some x → filter (λ y. not (test y)) (others x xs) ≡ filter (λ y. not (test y)) xs
  rest_stays xs x found = left_same x (find_passes test xs x found) xs

  others_apart : (xs : List A) (x : A) → Apart same xs → Apart same (others x xs)
  others_apart xs x apart = Apart-filter same (λ y. not (same x y)) xs apart

  none_passes : (xs : List A) → find test xs ≡ None → Each (λ x. test x ≡ false) xs
  none_passes [] none = tt
  none_passes (y ∷ ys) none =
      elim (test y) as (λ b. test y ≡ b → cond b (Some y) (find test ys) ≡ None → Each (λ x. test x ≡ false) (y ∷ ys)) [
        | true ↦ λ passes h. absurd cc
        | false ↦ λ fails h. (fails, none_passes ys h)
      ] refl none

  nothing_left : (xs : List A) → Each (λ x. test x ≡ false) xs → (filter test xs ≡ []) × (filter (λ x. not (test x)) xs ≡ xs)
  nothing_left [] each = (refl, refl)
  nothing_left (y ∷ ys) each =
      let rest = nothing_left ys each.1 in (
        ap (λ b. cond b (y ∷ filter test ys) (filter test ys)) each.0 ∙ rest.0,
        ap (λ b. cond (not b) (y ∷ filter (λ x. not (test x)) ys) (filter (λ x. not (test x)) ys)) each.0 ∙ ap (λ zs. y ∷ zs) rest.1,
      )

  pub is_said : (xs : List A) (x : A) → Apart same xs → find test xs ≡ Some x → IsSaid same test x xs
  is_said xs x apart found = record { first = first_said xs x apart found; rest = rest_stays xs x found; apart = others_apart xs x apart }

  -- where none passes, all was said
  pub is_all_said : (xs : List A) → find test xs ≡ None → IsAllSaid test xs
  is_all_said xs none = let both = nothing_left xs (none_passes xs none) in record { none = both.0; rest = both.1 }
