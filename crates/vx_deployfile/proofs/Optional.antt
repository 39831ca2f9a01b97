-- Fields that may be left out: what is written of them is read as the value that was read, and is no longer than the field that was there.
use Rattle.std.proofs.Common.{◌≡◌, refl, sym, ◌∙◌, ap, ℕ, ℤ, ◌≤◌, ◌⊎◌, inl, inr, ⊎_elim, List, [], ◌∷◌, map, Bool, true, false, ◌==◌, Option, Some, None, option_map, Ok, Err, if◌then◌else◌, arith, subst}
use Rattle.std.specs.Cmp.Lexicographic.{bytes_decides}
use Rattle.std.specs.Str.{bytes_eq}
use Rattle.std.proofs.lemmas.Bool.Decides.{Decides-eqb}
use Rattle.vx_data.specs.Bodies.{elements}
use Rattle.vx_data.specs.Tree.{Tree, boolean, int, text, array, Elements}
use Rattle.vx_deployfile.specs.declared.fault.FileWhy.TheVariants.{Range}
use Rattle.vx_deployfile.specs.declared.fault.Place.{Place}
use Rattle.vx_deployfile.specs.declared.file.PoolPlan.{PoolPlan}
use Rattle.vx_deployfile.specs.Fields.{misfit, array_in, number_in, number_or, text_in, name_in, name_or, flag_in, numbers_in}
use Rattle.vx_deployfile.specs.Files.{has_pool, if_pool, named_pool, numbers_or_none, if_suits}
use Rattle.vx_deployfile.specs.Kinds.{suits}
use Rattle.vx_deployfile.specs.Texts.{number, unless, unless_same, unless_empty, if_true}
use Rattle.vx_deployfile.specs.Verdicts.{Verdict, ◌>>=◌}
use Rattle.vx_deployfile.proofs.Making.{taken}
use Rattle.vx_deployfile.proofs.Sizes.{array_parts, smaller_array}
use Rattle.vx_deployfile.proofs.Steps.{ok_same, then_ok, onward, if_ok, array_read, text_read, number_read, number_fits, name_read, flag_there, numbers_read, numbers_again}

either : {R : Type 0} (test : Bool) → (test ≡ true → R) → (test ≡ false → R) → R
either true here there = here refl
either false here there = there refl

-- a field that is written as it was
pub same_taken : (name : List ℕ) (o p : Option Tree) → o ≡ p → taken name p ≤ taken name o
same_taken name o p is = omega (arith, ap (taken name) is)

if_taken : (test : Bool) (name : List ℕ) (t : Tree) (o : Option Tree) → o ≡ Some t → taken name (if test then None else Some t) ≤ taken name o
if_taken true name t o is = omega arith
if_taken false name t o is = same_taken name o (Some t) is

none_taken : (test : Bool) (name : List ℕ) (t : Tree) (o : Option Tree) → test ≡ true → taken name (if test then None else Some t) ≤ taken name o
none_taken true name t o is = omega arith
none_taken false name t o is = absurd (cc)

-- ---- numbers

module _ (otherwise : ℕ) (place : Place) (least most n : ℕ) where
  number_there : (o : Option Tree) → number_or otherwise place least most o ≡ Ok n → (otherwise ≡ n) ⊎ ((o ≡ Some (number n)) × (number_in place least most (number n) ≡ Ok n))
  number_there None h = inl (ok_same otherwise n h)
  number_there (Some t) h = let found = number_read place least most n t h in inr (ap Some found.is, number_fits place least most n found.low found.high)

  at_default : otherwise ≡ n → number_or otherwise place least most (unless otherwise n) ≡ Ok n
  at_default same = ap (λ test. number_or otherwise place least most (if test then None else Some (number n))) ((Decides-eqb n otherwise).1 (sym same)) ∙ ap Ok same

  at_other : number_in place least most (number n) ≡ Ok n → number_or otherwise place least most (unless otherwise n) ≡ Ok n
  at_other fits =
      either (n == otherwise) (λ yes. at_default (sym ((Decides-eqb n otherwise).0 yes)))
      (λ no. ap (λ test. number_or otherwise place least most (if test then None else Some (number n))) no ∙ fits)

  pub unless_again : (o : Option Tree) → number_or otherwise place least most o ≡ Ok n → number_or otherwise place least most (unless otherwise n) ≡ Ok n
  unless_again o h = ⊎_elim at_default (λ there. at_other there.1) (number_there o h)

  pub unless_small : (name : List ℕ) (o : Option Tree) → number_or otherwise place least most o ≡ Ok n → taken name (unless otherwise n) ≤ taken name o
  unless_small name o h =
      ⊎_elim (λ same. none_taken (n == otherwise) name (number n) o ((Decides-eqb n otherwise).1 (sym same))) (λ there. if_taken (n == otherwise) name (number n) o there.0) (number_there o h)

-- ---- texts

module _ (other : List ℕ) (place : Place) (s : List ℕ) where
  name_there : (o : Option Tree) → name_or other place o ≡ Ok s → (other ≡ s) ⊎ ((o ≡ Some (text s)) × (name_in place (text s) ≡ Ok s))
  name_there None h = inl (ok_same other s h)
  name_there (Some t) h = let found = name_read place s t h in inr (ap Some found.is, found.fits)

  at_same : other ≡ s → name_or other place (unless_same other s) ≡ Ok s
  at_same same = ap (λ test. name_or other place (if test then None else Some (text s))) ((bytes_decides s other).1 (sym same)) ∙ ap Ok same

  at_another : name_in place (text s) ≡ Ok s → name_or other place (unless_same other s) ≡ Ok s
  at_another fits =
      either (bytes_eq s other) (λ yes. at_same (sym ((bytes_decides s other).0 yes)))
      (λ no. ap (λ test. name_or other place (if test then None else Some (text s))) no ∙ fits)

  pub same_again : (o : Option Tree) → name_or other place o ≡ Ok s → name_or other place (unless_same other s) ≡ Ok s
  same_again o h = ⊎_elim at_same (λ there. at_another there.1) (name_there o h)

  pub same_small : (name : List ℕ) (o : Option Tree) → name_or other place o ≡ Ok s → taken name (unless_same other s) ≤ taken name o
  same_small name o h =
      ⊎_elim (λ same. none_taken (bytes_eq s other) name (text s) o ((bytes_decides s other).1 (sym same))) (λ there. if_taken (bytes_eq s other) name (text s) o there.0) (name_there o h)

-- ---- truth values

pub flag_again : (place : Place) (flag : Bool) → flag_in place (if_true flag) ≡ Ok flag
flag_again place true = refl
flag_again place false = refl

pub flag_small : (place : Place) (flag : Bool) (name : List ℕ) (o : Option Tree) → flag_in place o ≡ Ok flag → taken name (if_true flag) ≤ taken name o
flag_small place true name o h = same_taken name o (Some (boolean true)) (flag_there place o h)
flag_small place false name o h = omega arith

-- ---- names of pools

module _ (place : Place) (pools : List PoolPlan) where
  pool_fits : (s : List ℕ) → has_pool pools s ≡ true → named_pool place pools (Some (text s)) ≡ Ok (Some s)
  pool_fits s is = ap (λ test. if test then Ok (Some s) else Err (misfit place Range)) is

  pub pool_again : (named : Option (List ℕ)) (o : Option Tree) → named_pool place pools o ≡ Ok named → named_pool place pools (option_map text named) ≡ Ok named
  pool_again named None h = subst (λ (p : Option (List ℕ)). named_pool place pools (option_map text p) ≡ Ok p) (ok_same None named h) refl
  pool_again named (Some t) h =
      let given = then_ok (text_in place t) (if_pool place pools) named h in
      let found = if_ok (has_pool pools given.0) (Some given.0) named (misfit place Range) given.2 in
      subst (λ (p : Option (List ℕ)). named_pool place pools (option_map text p) ≡ Ok p) found.1 (pool_fits given.0 found.0)

  pub pool_small : (named : Option (List ℕ)) (name : List ℕ) (o : Option Tree) → named_pool place pools o ≡ Ok named → taken name (option_map text named) ≤ taken name o
  pool_small named name None h = subst (λ (p : Option (List ℕ)). taken name (option_map text p) ≤ 0) (ok_same None named h) (omega arith)
  pool_small named name (Some t) h =
      let given = then_ok (text_in place t) (if_pool place pools) named h in
      let found = if_ok (has_pool pools given.0) (Some given.0) named (misfit place Range) given.2 in
      subst (λ (p : Option (List ℕ)). taken name (option_map text p) ≤ taken name (Some t)) found.1 (same_taken name (Some t) (Some (text given.0)) (ap Some (text_read place given.0 t given.1)))

-- ---- arrays

pub empty_small : (ts : List Tree) (es : Elements) (name : List ℕ) (o : Option Tree) → o ≡ Some (array es) → array_parts (elements ts) ≤ array_parts es → taken name (unless_empty ts) ≤ taken name o
empty_small [] es name o is small = omega arith
empty_small (t ∷ ts) es name o is small = omega (arith, ap (taken name) is, smaller_array (elements (t ∷ ts)) es small)

pub none_small : (ts : List Tree) (name : List ℕ) (o : Option Tree) → [] ≡ ts → taken name (unless_empty ts) ≤ taken name o
none_small [] name o is = omega arith
none_small (t ∷ ts) name o is = absurd (cc)

numbers_fit : (place : Place) (ns : List ℤ) → numbers_or_none place (unless_empty (map int ns)) ≡ Ok ns
numbers_fit place [] = refl
numbers_fit place (n ∷ ns) = numbers_again place (n ∷ ns)

numbers_small : (place : Place) (ns : List ℤ) (name : List ℕ) (o : Option Tree) → numbers_or_none place o ≡ Ok ns → taken name (unless_empty (map int ns)) ≤ taken name o
numbers_small place ns name None h = none_small (map int ns) name None (ap (map int) (ok_same [] ns h))
numbers_small place ns name (Some t) h =
    let given = then_ok (array_in place t) (numbers_in place) ns h in
    let is : t ≡ array (elements (map int ns)) = array_read place given.0 t given.1 ∙ ap array (numbers_read place ns given.0 given.2) in
    empty_small (map int ns) (elements (map int ns)) name (Some t) (ap Some is) (omega arith)

-- the numbers that go to a kind
abbrev pub config_at : Place → List ℕ → Option Tree → Verdict (List ℤ)
config_at place kind o = numbers_or_none place o >>= if_suits place kind

pub config_again : (place : Place) (kind : List ℕ) (ns : List ℤ) (o : Option Tree) → config_at place kind o ≡ Ok ns → config_at place kind (unless_empty (map int ns)) ≡ Ok ns
config_again place kind ns o h =
    let given = then_ok (numbers_or_none place o) (if_suits place kind) ns h in
    let found = if_ok (suits kind given.0) given.0 ns (misfit place Range) given.2 in
    onward (numbers_or_none place (unless_empty (map int ns))) (if_suits place kind) ns (Ok ns) (numbers_fit place ns) (subst (λ (ms : List ℤ). if_suits place kind ms ≡ Ok ns) found.1 given.2)

pub config_small : (place : Place) (kind : List ℕ) (ns : List ℤ) (name : List ℕ) (o : Option Tree) → config_at place kind o ≡ Ok ns → taken name (unless_empty (map int ns)) ≤ taken name o
config_small place kind ns name o h =
    let given = then_ok (numbers_or_none place o) (if_suits place kind) ns h in
    let found = if_ok (suits kind given.0) given.0 ns (misfit place Range) given.2 in
    subst (λ (ms : List ℤ). taken name (unless_empty (map int ms)) ≤ taken name o) found.1 (numbers_small place given.0 name o given.1)

pub config_suits : (place : Place) (kind : List ℕ) (ns : List ℤ) (o : Option Tree) → config_at place kind o ≡ Ok ns → suits kind ns ≡ true
config_suits place kind ns o h =
    let given = then_ok (numbers_or_none place o) (if_suits place kind) ns h in
    let found = if_ok (suits kind given.0) given.0 ns (misfit place Range) given.2 in
    subst (λ (ms : List ℤ). suits kind ms ≡ true) found.1 found.0
