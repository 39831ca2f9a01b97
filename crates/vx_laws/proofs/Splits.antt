-- Lists, cut at an index.
use Rattle.std.proofs.Common.{◌≡◌, ℕ, ◌<◌, zero, suc, List, [], ◌∷◌, ◌++◌, length, refl, ap, ◌∙◌, arith}
use Rattle.std.specs.Prelude.{slice_get, Some}
use Rattle.vx_call.proofs.Each.{Each}

-- what stands before an index, at it and behind it
pub record Split {A : Type 0} (xs : List A) (i : ℕ) (x : A) : Type 0 where
  pub before : List A
  pub after : List A
  pub parts : xs ≡ before ++ x ∷ after
  pub at : length before ≡ i

pub split_at : {A : Type 0} (xs : List A) (i : ℕ) (x : A) → slice_get xs i ≡ Some x → Split xs i x
split_at [] i x h = cc
split_at {A} (y ∷ xs) zero x h = record { before = []; after = xs; parts = (let e : y ≡ x = cc in ap (λ (z : A). z ∷ xs) e); at = refl }
split_at {A} (y ∷ xs) (suc i) x h =
    let rest = split_at xs i x h in
    record { before = y ∷ rest.before; after = rest.after; parts = ap (λ (l : List A). y ∷ l) rest.parts; at = ap suc rest.at }

pub slice_get-at : {A : Type 0} (before after : List A) (x : A) → slice_get (before ++ x ∷ after) (length before) ≡ Some x
slice_get-at [] after x = refl
slice_get-at (y ∷ before) after x = slice_get-at before after x

pub slice_get-front : {A : Type 0} (xs ys : List A) (i : ℕ) (x : A) → slice_get xs i ≡ Some x → slice_get (xs ++ ys) i ≡ Some x
slice_get-front [] ys i x h = cc
slice_get-front (y ∷ xs) ys zero x h = h
slice_get-front (y ∷ xs) ys (suc i) x h = slice_get-front xs ys i x h

-- of two cuts of one list, the later is behind the earlier
pub later_cut : {A : Type 0} (before after : List A) (x : A) (other rest : List A) (y : A) → before ++ x ∷ after ≡ other ++ y ∷ rest → length before < length other →
    (middle : List A) × (other ≡ before ++ x ∷ middle)
later_cut [] after x [] rest y same lt = absurd (omega arith)
later_cut {A} [] after x (z ∷ other) rest y same lt = (other, (let e : z ≡ x = cc in ap (λ (w : A). w ∷ other) e))
later_cut (z ∷ before) after x [] rest y same lt = absurd (omega arith)
later_cut {A} (z ∷ before) after x (w ∷ other) rest y same lt =
    let e : w ≡ z = cc in
    let inner : before ++ x ∷ after ≡ other ++ y ∷ rest = cc in
    let cut = later_cut before after x other rest y inner (omega arith) in
    (cut.0, ap (λ (v : A). v ∷ other) e ∙ ap (λ (l : List A). z ∷ l) cut.1)

-- two cuts at one index are one
pub record SameCut {A : Type 0} (before other : List A) (x y : A) : Type 0 where
  pub fronts : before ≡ other
  pub items : x ≡ y

pub same_cut : {A : Type 0} (before after : List A) (x : A) (other rest : List A) (y : A) → before ++ x ∷ after ≡ other ++ y ∷ rest → length before ≡ length other → SameCut before other x y
same_cut [] after x [] rest y same at = record { fronts = refl; items = cc }
same_cut [] after x (z ∷ other) rest y same at = absurd (omega arith)
same_cut (z ∷ before) after x [] rest y same at = absurd (omega arith)
same_cut {A} (z ∷ before) after x (w ∷ other) rest y same at =
    let e : z ≡ w = cc in
    let inner : before ++ x ∷ after ≡ other ++ y ∷ rest = cc in
    let cut = same_cut before after x other rest y inner (omega arith) in
    record { fronts = ap (λ (v : A). v ∷ before) e ∙ ap (λ (l : List A). w ∷ l) cut.fronts; items = cut.items }

-- what holds of any
pub Each-any : {X : Type 0} (P : X → Type 0) (xs : List X) → ((x : X) → P x) → Each P xs
Each-any P [] any = tt
Each-any P (x ∷ xs) any = (any x, Each-any P xs any)
