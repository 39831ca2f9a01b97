-- The contexts that are to stop, one after another.
use Rattle.std.proofs.Common.{◌≡◌, ℕ, ◌==◌, List, [], ◌∷◌, refl, ap, sym, ◌∙◌, arith}
use Rattle.std.specs.Prelude.{Bool, true, false, cond, not, ◌&&◌, ◌||◌, filter, find, None, Some}
use Rattle.std.specs.List.{list_any}
use Rattle.std.proofs.lemmas.Bool.{eq-eqb}
use Rattle.std.proofs.lemmas.Bool.Decides.{nat_tests}
use Rattle.vx_data.specs.declared.ids.ContextId.{ContextId}
use Rattle.vx_data.specs.Ids.{same_context}
use Rattle.vx_tree.specs.Nodes.{without, AreApart}

same_itself : (context : ContextId) → same_context context context ≡ true
same_itself context = ap (λ b. b && (context.instance == context.instance)) (eq-eqb context.entry.0 context.entry.0 refl) ∙ eq-eqb context.instance context.instance refl

or_no : (a b : Bool) → (a || b) ≡ false → (a ≡ false) × (b ≡ false)
or_no true b h = absurd cc
or_no false b h = (refl, h)

-- where a context isn't, all stay
all_stay : (context : ContextId) (contexts : List ContextId) → list_any (same_context context) contexts ≡ false → without context contexts ≡ contexts
all_stay context [] none = refl
all_stay context (other ∷ contexts) none =
    let both = or_no (same_context context other) (list_any (same_context context) contexts) none in
    ap (λ b. cond (not b) (other ∷ without context contexts) (without context contexts)) both.0 ∙ ap (λ rest. other ∷ rest) (all_stay context contexts both.1)

same_number : (n m : ℕ) → (n == m) ≡ true → n ≡ m
same_number n m same = grind (arith, nat_tests)

and_both : (a b : Bool) → (a && b) ≡ true → (a ≡ true) × (b ≡ true)
and_both true b h = (refl, h)
and_both false b h = absurd cc

same_one : (a b : ContextId) → same_context a b ≡ true → a ≡ b
same_one a b same =
    let both = and_both (a.entry.0 == b.entry.0) (a.instance == b.instance) same in
    let entry : a.entry.0 ≡ b.entry.0 = same_number a.entry.0 b.entry.0 both.0 in
    let instance : a.instance ≡ b.instance = same_number a.instance b.instance both.1 in
    ap (λ n. record { entry = record { 0 = n }; instance = a.instance }) entry ∙ ap (λ n. record { entry = b.entry; instance = n }) instance

module _ (test : ContextId → Bool) where
  find_passes : (contexts : List ContextId) (next : ContextId) → find test contexts ≡ Some next → test next ≡ true
  find_passes [] next = λ found. absurd cc
  find_passes (context ∷ contexts) next =
      elim (test context) as (λ b. test context ≡ b → cond b (Some context) (find test contexts) ≡ Some next → test next ≡ true) [
        | true ↦ λ passes found. (let e : context ≡ next = cc in ap test (sym e) ∙ passes)
        | false ↦ λ passes found. find_passes contexts next found
      ] refl

  pub none_left : (contexts : List ContextId) → find test contexts ≡ None → filter test contexts ≡ []
  none_left [] = λ none. refl
  none_left (context ∷ contexts) =
      elim (test context) as (λ b. cond b (Some context) (find test contexts) ≡ None → cond b (context ∷ filter test contexts) (filter test contexts) ≡ []) [
        | true ↦ λ none. absurd cc
        | false ↦ λ none. none_left contexts none
      ]

  -- a context that fails stays, and is not the one that passes
  other_one : (context next : ContextId) → test context ≡ false → test next ≡ true → same_context next context ≡ false
  other_one context next fails passes =
      elim (same_context next context) as (λ b. same_context next context ≡ b → b ≡ false) [
        | true ↦ λ same. (let e : true ≡ false = sym passes ∙ ap test (same_one next context same) ∙ fails in e)
        | false ↦ λ same. refl
      ] refl

  next_left : (context next : ContextId) (contexts : List ContextId) → test context ≡ false → test next ≡ true → filter test (without next (context ∷ contexts)) ≡ filter test (without next contexts)
  next_left context next contexts fails passes =
      ap (λ b. filter test (cond (not b) (context ∷ without next contexts) (without next contexts))) (other_one context next fails passes)
      ∙ ap (λ b. cond b (context ∷ filter test (without next contexts)) (filter test (without next contexts))) fails

  pub next_first : (contexts : List ContextId) (next : ContextId) → AreApart contexts → find test contexts ≡ Some next → filter test contexts ≡ next ∷ filter test (without next contexts)
  next_first [] next apart = λ found. absurd cc
  next_first (context ∷ contexts) next apart =
      elim (test context) as (λ b. test context ≡ b → cond b (Some context) (find test contexts) ≡ Some next → cond b (context ∷ filter test contexts) (filter test contexts) ≡ next ∷ filter test (without next (context ∷ contexts))) [
        | true ↦ λ passes found. (let e : context ≡ next = cc in
            ap (λ rest. context ∷ filter test rest) (sym (all_stay context contexts apart.0))
            ∙ ap (λ b. context ∷ filter test (cond (not b) (context ∷ without context contexts) (without context contexts))) (sym (same_itself context))
            ∙ ap (λ c. c ∷ filter test (without c (context ∷ contexts))) e)
        | false ↦ λ fails found. next_first contexts next apart.1 found ∙ ap (λ rest. next ∷ rest) (sym (next_left context next contexts fails (find_passes contexts next found)))
      ] refl
