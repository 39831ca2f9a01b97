-- How many of an address are left where some are left out.
use Rattle.std.proofs.Common.{◌≡◌, ℕ, suc, List, [], ◌∷◌, length, refl, ap, sym, ◌∙◌}
use Rattle.std.specs.Prelude.{Bool, true, false, not, cond, filter}
use Rattle.std.specs.List.{count_by}
use Rattle.std.specs.Str.{bytes_eq}
use Rattle.std.proofs.lemmas.List.Sums.{length-filter}
use Rattle.std.proofs.lemmas.Slice.Eq.{bytes_eq-Decides}

kept_step : (here gone all : Bool) (n m : ℕ) → (here ≡ true → gone ≡ all) → n ≡ cond all 0 m → cond (not gone) (cond here (suc n) n) n ≡ cond all 0 (cond here (suc m) m)
kept_step true true true n m same h = h
kept_step true true false n m same h = let e : true ≡ false = same refl in cc
kept_step true false true n m same h = let e : false ≡ true = same refl in cc
kept_step true false false n m same h = ap suc h
kept_step false true true n m same h = h
kept_step false true false n m same h = h
kept_step false false true n m same h = h
kept_step false false false n m same h = h

length_chosen : (p : List ℕ → Bool) (b : Bool) (x : List ℕ) (xs : List (List ℕ)) →
    length (filter p (cond b (x ∷ xs) xs)) ≡ cond b (cond (p x) (suc (length (filter p xs))) (length (filter p xs))) (length (filter p xs))
length_chosen p false x xs = refl
length_chosen p true x xs = elim (p x) as (λ v. length (cond v (x ∷ filter p xs) (filter p xs)) ≡ cond v (suc (length (filter p xs))) (length (filter p xs))) [ true ↦ refl | false ↦ refl ]

length_kept : (q : List ℕ → Bool) (a : List ℕ) (xs : List (List ℕ)) → length (filter (bytes_eq a) (filter (λ x. not (q x)) xs)) ≡ cond (q a) 0 (length (filter (bytes_eq a) xs))
length_kept q a [] = elim (q a) as (λ b. ◌≡◌ {A = ℕ} 0 (cond b 0 0)) [ true ↦ refl | false ↦ refl ]
length_kept q a (x ∷ xs) =
    length_chosen (bytes_eq a) (not (q x)) x (filter (λ x. not (q x)) xs)
    ∙ kept_step (bytes_eq a x) (q x) (q a) _ _ (λ h. ap q (sym ((bytes_eq-Decides a x).0 h))) (length_kept q a xs)
    ∙ ap (cond (q a) 0) (sym (length_chosen (bytes_eq a) true x xs))

-- how many are left of one address: all or none
pub count_kept : (q : List ℕ → Bool) (a : List ℕ) (xs : List (List ℕ)) → count_by (bytes_eq a) (filter (λ x. not (q x)) xs) ≡ cond (q a) 0 (count_by (bytes_eq a) xs)
count_kept q a xs = sym (length-filter (bytes_eq a) (filter (λ x. not (q x)) xs)) ∙ length_kept q a xs ∙ ap (cond (q a) 0) (length-filter (bytes_eq a) xs)
