-- Things that are announced once, and come once.
use Rattle.std.proofs.lemmas.Bool.{or_right}
use Rattle.std.proofs.Common.{◌≡◌, ℕ, ◌<◌, List, [], ◌∷◌, ◌++◌, length, refl, ap, ◌∙◌, arith}
use Rattle.std.specs.Prelude.{Bool, true, false, not, cond, ◌||◌, filter}
use Rattle.std.specs.List.{list_any}
use Rattle.std.proofs.lemmas.List.Folds.{list_any-append}
use Rattle.vx_call.specs.declared.history.Traced.{Traced}
use Rattle.vx_call.specs.History.{Kind, made_by, ended_by, lasting}
use Rattle.vx_call.proofs.Lasting.{lasting-append}
use Rattle.vx_call.proofs.Each.{Each, weaken}

-- whether one of these passes a test
pub any_none : {A : Type 0} (test : A → Bool) (xs : List A) → Each (λ x. test x ≡ false) xs → list_any test xs ≡ false
any_none test [] none = refl
any_none test (x ∷ xs) none = ap (λ b. b || list_any test xs) none.0 ∙ any_none test xs none.1

pub any_here : {A : Type 0} (test : A → Bool) (x : A) (xs : List A) → test x ≡ true → list_any test (x ∷ xs) ≡ true
any_here test x xs here = ap (λ b. b || list_any test xs) here

or_neither : (a b : Bool) → (a || b) ≡ false → (a ≡ false) × (b ≡ false)
or_neither true b h = absurd cc
or_neither false b h = (refl, h)

pub any_each : {A : Type 0} (test : A → Bool) (xs : List A) → list_any test xs ≡ false → Each (λ x. test x ≡ false) xs
any_each test [] none = tt
any_each test (x ∷ xs) none = let both = or_neither (test x) (list_any test xs) none in (both.0, any_each test xs both.1)

-- each of these passes its own test, so one of them does
pub each_any : {A : Type 0} (test : A → A → Bool) → ((x : A) → test x x ≡ true) → (xs : List A) → Each (λ x. list_any (test x) xs ≡ true) xs
each_any test reflexive [] = tt
each_any test reflexive (x ∷ xs) = (
  any_here (test x) x xs (reflexive x),
  weaken (λ y. list_any (test y) xs ≡ true) (λ y. list_any (test y) (x ∷ xs) ≡ true) xs (λ y later. ap (λ b. test y x || b) later ∙ or_right (test y x) true refl) (each_any test reflexive xs),
)

any_filter : {A : Type 0} (test p : A → Bool) (xs : List A) → list_any test xs ≡ false → list_any test (filter p xs) ≡ false
any_filter test p [] none = refl
any_filter test p (x ∷ xs) none =
    let both = or_neither (test x) (list_any test xs) none in
    elim (p x) as (λ b. list_any test (cond b (x ∷ filter p xs) (filter p xs)) ≡ false) [
      | true ↦ ap (λ b. b || list_any test (filter p xs)) both.0 ∙ any_filter test p xs both.1
      | false ↦ any_filter test p xs both.1
    ]

-- where all that pass the test are ended, none is left
left_out : {A : Type 0} (test ended : A → Bool) (xs : List A) → ((x : A) → test x ≡ true → ended x ≡ true) → list_any test (filter (λ x. not (ended x)) xs) ≡ false
left_out test ended [] all = refl
left_out test ended (x ∷ xs) all =
    elim (ended x) as (λ b. ended x ≡ b → list_any test (cond (not b) (x ∷ filter (λ y. not (ended y)) xs) (filter (λ y. not (ended y)) xs)) ≡ false) [
      | true ↦ λ gone. left_out test ended xs all
      | false ↦ λ stays.
          (elim (test x) as (λ b. test x ≡ b → (b || list_any test (filter (λ y. not (ended y)) xs)) ≡ false) [
            | true ↦ λ passes. (let e = all x passes in absurd cc)
            | false ↦ λ fails. left_out test ended xs all
          ] refl)
    ] refl

left_out_each : {A : Type 0} (test ended : A → Bool) (xs : List A) → Each (λ x. test x ≡ true → ended x ≡ true) xs → list_any test (filter (λ x. not (ended x)) xs) ≡ false
left_out_each test ended [] all = refl
left_out_each test ended (x ∷ xs) all =
    elim (ended x) as (λ b. ended x ≡ b → list_any test (cond (not b) (x ∷ filter (λ y. not (ended y)) xs) (filter (λ y. not (ended y)) xs)) ≡ false) [
      | true ↦ λ gone. left_out_each test ended xs all.1
      | false ↦ λ stays.
          (elim (test x) as (λ b. test x ≡ b → (b || list_any test (filter (λ y. not (ended y)) xs)) ≡ false) [
            | true ↦ λ passes. (let e = all.0 passes in absurd cc)
            | false ↦ λ fails. left_out_each test ended xs all.1
          ] refl)
    ] refl

-- what an entry makes has other names
new_names : {A : Type 0} (kind : Kind A) (test : A → Bool) (key : A → ℕ) (n : ℕ) → ((x : A) → test x ≡ true → key x ≡ n) → ((history : List Traced) (new : Traced) → Each (λ x. key x ≡ length history) (made_by kind history new)) →
    (history : List Traced) (new : Traced) → n < length history → list_any test (made_by kind history new) ≡ false
new_names kind test key n names keyed history new before =
    any_none test (made_by kind history new)
    (weaken (λ x. key x ≡ length history) (λ x. test x ≡ false) (made_by kind history new)
    (λ x e. elim (test x) as (λ b. test x ≡ b → b ≡ false) [ true ↦ λ passes. (let same = names x passes in absurd (omega arith)) | false ↦ λ fails. refl ] refl) (keyed history new))

-- what is there no more stays away
pub stays_away : {A : Type 0} (kind : Kind A) (test : A → Bool) (key : A → ℕ) (n : ℕ) → ((x : A) → test x ≡ true → key x ≡ n) → ((history : List Traced) (new : Traced) → Each (λ x. key x ≡ length history) (made_by kind history new)) →
    (history : List Traced) (new : Traced) → n < length history → list_any test (lasting kind history) ≡ false → list_any test (lasting kind (history ++ new ∷ [])) ≡ false
stays_away kind test key n names keyed history new before none =
    ap (list_any test) (lasting-append kind history new)
    ∙ list_any-append test (filter (λ x. not (ended_by kind history new x)) (lasting kind history)) (made_by kind history new)
    ∙ ap (λ b. b || list_any test (made_by kind history new)) (any_filter test (λ x. not (ended_by kind history new x)) (lasting kind history) none)
    ∙ new_names kind test key n names keyed history new before

-- what an entry ends is there no more
pub goes_away : {A : Type 0} (kind : Kind A) (test : A → Bool) (key : A → ℕ) (n : ℕ) → ((x : A) → test x ≡ true → key x ≡ n) → ((history : List Traced) (new : Traced) → Each (λ x. key x ≡ length history) (made_by kind history new)) →
    (history : List Traced) (new : Traced) → n < length history → ((x : A) → test x ≡ true → ended_by kind history new x ≡ true) → list_any test (lasting kind (history ++ new ∷ [])) ≡ false
goes_away kind test key n names keyed history new before ends =
    ap (list_any test) (lasting-append kind history new)
    ∙ list_any-append test (filter (λ x. not (ended_by kind history new x)) (lasting kind history)) (made_by kind history new)
    ∙ ap (λ b. b || list_any test (made_by kind history new)) (left_out test (ended_by kind history new) (lasting kind history) ends)
    ∙ new_names kind test key n names keyed history new before

-- the same, where those that are there are known
pub goes_away_each : {A : Type 0} (kind : Kind A) (test : A → Bool) (key : A → ℕ) (n : ℕ) → ((x : A) → test x ≡ true → key x ≡ n) → ((history : List Traced) (new : Traced) → Each (λ x. key x ≡ length history) (made_by kind history new)) →
    (history : List Traced) (new : Traced) → n < length history → Each (λ x. test x ≡ true → ended_by kind history new x ≡ true) (lasting kind history) → list_any test (lasting kind (history ++ new ∷ [])) ≡ false
goes_away_each kind test key n names keyed history new before ends =
    ap (list_any test) (lasting-append kind history new)
    ∙ list_any-append test (filter (λ x. not (ended_by kind history new x)) (lasting kind history)) (made_by kind history new)
    ∙ ap (λ b. b || list_any test (made_by kind history new)) (left_out_each test (ended_by kind history new) (lasting kind history) ends)
    ∙ new_names kind test key n names keyed history new before

-- what an entry does not make, and no earlier one has the name of
pub not_made : {A : Type 0} (kind : Kind A) (test : A → Bool) (history : List Traced) (new : Traced) → Each (λ x. test x ≡ false) (lasting kind history) → made_by kind history new ≡ [] → list_any test (lasting kind (history ++ new ∷ [])) ≡ false
not_made kind test history new others none =
    ap (list_any test) (lasting-append kind history new)
    ∙ list_any-append test (filter (λ x. not (ended_by kind history new x)) (lasting kind history)) (made_by kind history new)
    ∙ ap (λ b. b || list_any test (made_by kind history new)) (any_filter test (λ x. not (ended_by kind history new x)) (lasting kind history) (any_none test (lasting kind history) others))
    ∙ ap (list_any test) none
