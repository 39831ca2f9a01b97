-- The first home of a context, by what is there.
use Rattle.std.proofs.Common.{subst, ◌≡◌, ℕ, ◌<◌, ◌≤◌, suc, ◌+◌, List, [], ◌∷◌, length, set, get_or, refl, ap, sym, ◌∙◌, arith, map}
use Rattle.std.specs.Prelude.{Bool, true, false, not, cond, Option, Some, None, nat_lt, ℤ, remove}
use Rattle.std.specs.List.{position_or_len, position}
use Rattle.std.proofs.lemmas.Option.{cond_some}
use Rattle.std.proofs.lemmas.Bool.{ltb-false, ltb-true}
use Rattle.vx_data.specs.declared.ids.ContextId.{ContextId}
use Rattle.vx_data.specs.declared.ids.EntryNo.{EntryNo}
use Rattle.vx_data.specs.Ids.{same_context}
use Rattle.vx_instances.specs.declared.homes.Home.{Home}
use Rattle.vx_instances.specs.Kept.{Kept, put_at, state_in, without, kept_from, numbered}

one_more : (n : ℕ) → suc n ≡ 1 + n
one_more n = omega arith

cond_none : {X : Type 0} (b : Bool) (x : X) → cond b (Some x) None ≡ None → b ≡ false
cond_none true x h = cc
cond_none false x h = refl

module _ {B : Type 0} (view : B → Kept) (context : ContextId) where
  abbrev is_there : B → Bool
  is_there b = same_context context (view b).context

  abbrev at : List B → ℕ
  at xs = position_or_len is_there xs

  -- a context that has no home
  pub record Nowhere (kept : List Kept) : Type 0 where
    pub state : state_in context kept ≡ None
    pub put : (state : Option (List ℤ)) → put_at context state kept ≡ kept
    pub away : without context kept ≡ kept

  none_there : (xs : List B) → length xs ≤ at xs → Nowhere (map view xs)
  none_there [] h = record { state = refl; put = λ state. refl; away = refl }
  none_there (x ∷ xs) h =
      elim (is_there x) as (λ b. is_there x ≡ b → suc (length xs) ≤ cond (not b) (1 + at xs) 0 → Nowhere (view x ∷ map view xs)) [
        | true ↦ λ here h. absurd (omega (arith, h))
        | false ↦ λ other h.
            (let rest = none_there xs (omega (arith, h)) in record {
              state = ap (λ b. cond b (view x).state (state_in context (map view xs))) other ∙ rest.state;
              put = λ state. ap (λ b. cond b (record { context = (view x).context; state = state } ∷ map view xs) (view x ∷ put_at context state (map view xs))) other ∙ ap (λ ys. view x ∷ ys) (rest.put state);
              away = ap (λ b. cond b (map view xs) (view x ∷ without context (map view xs))) other ∙ ap (λ ys. view x ∷ ys) rest.away;
            })
      ] refl h

  -- the state at the home of the context
  state_there : (xs : List B) (d : B) → at xs < length xs → state_in context (map view xs) ≡ (view (get_or xs (at xs) d)).state
  state_there [] d h = absurd (omega (arith, h))
  state_there (x ∷ xs) d h =
      elim (is_there x) as (λ b. cond (not b) (1 + at xs) 0 < suc (length xs) → cond b (view x).state (state_in context (map view xs)) ≡ (view (get_or (x ∷ xs) (cond (not b) (1 + at xs) 0) d)).state) [
        | true ↦ λ h. refl
        | false ↦ λ h. state_there xs d (omega (arith, h)) ∙ ap (λ n. (view (get_or (x ∷ xs) n d)).state) (one_more (at xs))
      ] h

  -- a write at the home of the context
  put_there : (xs : List B) (d y : B) (state : Option (List ℤ)) → at xs < length xs → view y ≡ record { context = (view (get_or xs (at xs) d)).context; state = state } → put_at context state (map view xs) ≡ map view (set xs (at xs) y)
  put_there [] d y state h is = absurd (omega (arith, h))
  put_there (x ∷ xs) d y state h is =
      elim (is_there x) as (λ b. cond (not b) (1 + at xs) 0 < suc (length xs) → view y ≡ record { context = (view (get_or (x ∷ xs) (cond (not b) (1 + at xs) 0) d)).context; state = state } → cond b (record { context = (view x).context; state = state } ∷ map view xs) (view x ∷ put_at context state (map view xs)) ≡ map view (set (x ∷ xs) (cond (not b) (1 + at xs) 0) y)) [
        | true ↦ λ h is. ap (λ (p : Kept). p ∷ map view xs) (sym is)
        | false ↦ λ h is.
            ap (λ ys. view x ∷ ys) (put_there xs d y state (omega (arith, h)) (is ∙ ap (λ n. record { context = (view (get_or (x ∷ xs) n d)).context; state = state }) (sym (one_more (at xs)))))
            ∙ ap (λ n. map view (set (x ∷ xs) n y)) (one_more (at xs))
      ] h is

  -- the home of the context goes
  away_there : (xs : List B) → at xs < length xs → without context (map view xs) ≡ map view (remove xs (at xs))
  away_there [] h = absurd (omega (arith, h))
  away_there (x ∷ xs) h =
      elim (is_there x) as (λ b. cond (not b) (1 + at xs) 0 < suc (length xs) → cond b (map view xs) (view x ∷ without context (map view xs)) ≡ map view (remove (x ∷ xs) (cond (not b) (1 + at xs) 0))) [
        | true ↦ λ h. refl
        | false ↦ λ h.
            ap (λ ys. view x ∷ ys) (away_there xs (omega (arith, h)))
            ∙ ap (λ n. map view (remove (x ∷ xs) n)) (one_more (at xs))
      ] h

  -- the same, where the code found a home or none
  pub none_found : (xs ys : List B) → None ≡ position is_there ys → ys ≡ xs → Nowhere (map view xs)
  none_found xs ys h same = none_there xs (ltb-false (at xs) (length xs) (cond_none _ _ (ap (position is_there) (sym same) ∙ sym h)))

  found_at : (xs ys : List B) (i : ℕ) → Some i ≡ position is_there ys → ys ≡ xs → at xs ≡ i
  found_at xs ys i h same = (cond_some (nat_lt (at xs) (length xs)) (at xs) i (ap (position is_there) (sym same) ∙ sym h)).1

  pub state_found : (xs ys : List B) (i : ℕ) (d : B) → Some i ≡ position is_there ys → ys ≡ xs → i < length xs → state_in context (map view xs) ≡ (view (get_or xs i d)).state
  state_found xs ys i d h same less =
      let e = found_at xs ys i h same in
      state_there xs d (subst (λ n. n < length xs) (sym e) less) ∙ ap (λ n. (view (get_or xs n d)).state) e

  pub put_found : (xs ys : List B) (i : ℕ) (d y : B) (state : Option (List ℤ)) → Some i ≡ position is_there ys → ys ≡ xs → i < length xs → view y ≡ record { context = (view (get_or xs i d)).context; state = state } → put_at context state (map view xs) ≡ map view (set xs i y)
  put_found xs ys i d y state h same less is =
      let e = found_at xs ys i h same in
      put_there xs d y state (subst (λ n. n < length xs) (sym e) less) (is ∙ ap (λ n. record { context = (view (get_or xs n d)).context; state = state }) (sym e))
      ∙ ap (λ n. map view (set xs n y)) e

  pub away_found : (xs ys : List B) (i : ℕ) → Some i ≡ position is_there ys → ys ≡ xs → i < length xs → without context (map view xs) ≡ map view (remove xs i)
  away_found xs ys i h same less =
      let e = found_at xs ys i h same in
      away_there xs (subst (λ n. n < length xs) (sym e) less) ∙ ap (λ n. map view (remove xs n)) e

-- where a context was found is within the list
pub found_within : {B : Type 0} (p : B → Bool) (xs ys : List B) (i : ℕ) → Some i ≡ position p ys → ys ≡ xs → i < length xs
found_within p xs ys i h same =
    let e = cond_some (nat_lt (position_or_len p xs) (length xs)) (position_or_len p xs) i (ap (position p) (sym same) ∙ sym h) in
    subst (λ n. n < length xs) e.1 (ltb-true (position_or_len p xs) (length xs) e.0)

-- what is seen of numbered homes
pub seen_numbered : {V : Type 0} (view : Home V → Kept) (state : V → List ℤ) → ((context : ContextId) (verticle : V) → view (record { context = context; verticle = Some verticle }) ≡ record { context = context; state = Some (state verticle) }) →
    (entry : EntryNo) (number : ℕ) (verticles : List V) → map view (numbered entry number verticles) ≡ kept_from entry number (map state verticles)
seen_numbered view state sees entry number [] = refl
seen_numbered view state sees entry number (verticle ∷ verticles) =
    let context : ContextId = record { entry = entry; instance = number } in
    ap (λ kept. kept ∷ map view (numbered entry (number + 1) verticles)) (sees context verticle)
    ∙ ap (λ rest. record { context = context; state = Some (state verticle) } ∷ rest) (seen_numbered view state sees entry (number + 1) verticles)
