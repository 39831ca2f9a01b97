-- What a tally stands for.
use Rattle.std.specs.Prelude.{◌≡◌, ℕ, ◌+◌, ◌%◌, ◌^◌, ◌≤◌, List, [], ◌∷◌, ◌++◌, length, refl, Option, Some, None}
use Rattle.std.proofs.Common.{arith}
use Rattle.vx_tally.specs.declared.tally.Entry.{Entry}
use Rattle.vx_tally.specs.declared.tally.Entry.TheVariants.{Added, Opened}
use Rattle.vx_tally.specs.Kept.{Kept}

abbrev pub addition : ℕ → ℕ → ℕ → ℕ → Entry
addition pass amount label sum = Added record { pass = pass; amount = amount; label = label; sum = sum }

abbrev pub opens : ℕ → ℕ → Entry
opens pass number = Opened pass number

abbrev pub pass_of : Entry → ℕ
pass_of (Added a) = a.pass
pass_of (Opened pass number) = pass

abbrev pub opened_in : List Entry → ℕ
opened_in [] = 0
opened_in (Added a ∷ es) = opened_in es
opened_in (Opened pass number ∷ es) = opened_in es + 1

abbrev pub passes_of : List Entry → ℕ
passes_of h = opened_in h + 1

-- each addition is told the sum so far, from t on
abbrev pub LegalFrom : ℕ → List Entry → Type 0
LegalFrom t [] = Unit {0}
LegalFrom t (Added a ∷ es) = (a.sum ≡ (t + a.amount) % 2 ^ 64) × LegalFrom a.sum es
LegalFrom t (Opened pass number ∷ es) = LegalFrom t es

abbrev pub IsLegal : List Entry → Type 0
IsLegal = LegalFrom 0

-- the sum after a history that begins at t
abbrev pub sum_from : ℕ → List Entry → ℕ
sum_from t [] = t
sum_from t (Added a ∷ es) = sum_from a.sum es
sum_from t (Opened pass number ∷ es) = sum_from t es

-- the label of the last addition, or else this one
abbrev pub last_from : Option ℕ → List Entry → Option ℕ
last_from l [] = l
last_from l (Added a ∷ es) = last_from (Some a.label) es
last_from l (Opened pass number ∷ es) = last_from l es

abbrev pub last_label : List Entry → Option ℕ
last_label = last_from None

pub record StandsFor (t : Kept) (h : List Entry) : Type 0 where
  pub sum : t.sum ≡ sum_from 0 h
  pub entries : t.entries ≡ length h
  pub passes : t.passes ≡ passes_of h
  pub last : t.last ≡ last_label h

pub opened_in-append : (h k : List Entry) → opened_in (h ++ k) ≡ opened_in h + opened_in k
opened_in-append [] k = omega arith
opened_in-append (Added a ∷ es) k = opened_in-append es k
opened_in-append (Opened pass number ∷ es) k = omega (arith, opened_in-append es k)

pub passes_rise : (h more : List Entry) → passes_of h ≤ passes_of (h ++ more)
passes_rise h more = omega (arith, opened_in-append h more)

pub opened_by : (pass number : ℕ) → pass_of (opens pass number) ≡ pass
opened_by pass number = refl

pub one_more : (h : List Entry) (pass : ℕ) → passes_of (h ++ opens pass (passes_of h) ∷ []) ≡ passes_of h + 1
one_more h pass = omega (arith, opened_in-append h (opens pass (passes_of h) ∷ []))
