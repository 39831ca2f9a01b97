-- What is kept of a list of contexts, and how it changes with the history.
use Rattle.std.proofs.Common.{◌≡◌, List, [], ◌∷◌, refl, ap, sym, ◌∙◌}
use Rattle.std.specs.Prelude.{true, false, not, cond, ◌||◌, ℤ, filter, map, Option, None, Some}
use Rattle.std.specs.List.{list_any}
use Rattle.vx_data.specs.declared.ids.ContextId.{ContextId}
use Rattle.vx_data.specs.Ids.{same_context}
use Rattle.vx_message.specs.declared.Context.{Context}
use Rattle.vx_call.specs.declared.history.Traced.{Traced}
use Rattle.vx_call.specs.Contexts.{is_context_of}
use Rattle.vx_call.specs.Held.{runs, is_of_context}
use Rattle.vx_call.specs.States.{state_at}
use Rattle.vx_call.proofs.Each.{Each, weaken}
use Rattle.vx_call.proofs.Apart.{Apart}
use Rattle.vx_call.proofs.Contexts.{same_by_id, same_context-swap, same_context-true}
use Rattle.vx_instances.specs.Kept.{Kept, put_at, state_in, without, without_any}
use Rattle.vx_instances.specs.Instances.{kept_of}

pub map_each : {A B : Type 0} (f g : A → B) (xs : List A) → Each (λ x. f x ≡ g x) xs → map f xs ≡ map g xs
map_each f g [] same = refl
map_each f g (x ∷ xs) same = ap (λ y. y ∷ map f xs) same.0 ∙ ap (λ ys. g x ∷ ys) (map_each f g xs same.1)

pub each_any : {A : Type 0} (P : A → Type 0) (xs : List A) → ((x : A) → P x) → Each P xs
each_any P [] any = tt
each_any P (x ∷ xs) any = (any x, each_any P xs any)

-- a context that is apart from another is not that
apart_away : (id : ContextId) (c d : Context) → same_context id c.id ≡ true → same_by_id c d ≡ false → same_context id d.id ≡ false
apart_away id c d its other = ap (λ i. same_context i d.id) (same_context-true id c.id its) ∙ other

-- ## One changes

module _ (before after : List Traced) (id : ContextId) (state : Option (List ℤ))
    (others : (c : Context) → same_context id c.id ≡ false → kept_of after c ≡ kept_of before c)
    (its : (c : Context) → same_context id c.id ≡ true → kept_of after c ≡ record { context = c.id; state = state }) where
  -- what is kept of contexts that are apart, where this one has another state
  pub put_map : (cs : List Context) → Apart same_by_id cs → map (kept_of after) cs ≡ put_at id state (map (kept_of before) cs)
  put_map [] apart = refl
  put_map (c ∷ cs) apart =
      elim (same_context id c.id) as (λ b. same_context id c.id ≡ b →
      kept_of after c ∷ map (kept_of after) cs ≡ cond b (record { context = c.id; state = state } ∷ map (kept_of before) cs) (kept_of before c ∷ put_at id state (map (kept_of before) cs))) [
        | true ↦ λ here.
            ap (λ (k : Kept). k ∷ map (kept_of after) cs) (its c here)
            ∙ ap (λ ks. record { context = c.id; state = state } ∷ ks) (map_each (kept_of after) (kept_of before) cs (weaken (λ d. same_by_id c d ≡ false) (λ d. kept_of after d ≡ kept_of before d) cs (λ d other. others d (apart_away id c d here other)) apart.0))
        | false ↦ λ other. ap (λ (k : Kept). k ∷ map (kept_of after) cs) (others c other) ∙ ap (λ ks. kept_of before c ∷ ks) (put_map cs apart.1)
      ] refl

-- ## One goes

all_stay : (id : ContextId) (cs : List Context) → Each (λ c. same_context id c.id ≡ false) cs → filter (λ (c : Context). not (is_of_context c.id (Some id))) cs ≡ cs
all_stay id [] other = refl
all_stay id (c ∷ cs) other =
    let rest = filter (λ (d : Context). not (is_of_context d.id (Some id))) cs in
    ap (λ b. cond (not b) (c ∷ rest) rest) (same_context-swap c.id id ∙ other.0) ∙ ap (λ ds. c ∷ ds) (all_stay id cs other.1)

gone_map : (history : List Traced) (id : ContextId) (cs : List Context) → Apart same_by_id cs → map (kept_of history) (filter (λ (c : Context). not (is_of_context c.id (Some id))) cs) ≡ without id (map (kept_of history) cs)
gone_map history id [] apart = refl
gone_map history id (c ∷ cs) apart =
    let rest = filter (λ (d : Context). not (is_of_context d.id (Some id))) cs in
    ap (λ b. map (kept_of history) (cond (not b) (c ∷ rest) rest)) (same_context-swap c.id id)
    ∙ elim (same_context id c.id) as (λ b. same_context id c.id ≡ b → map (kept_of history) (cond (not b) (c ∷ rest) rest) ≡ cond b (map (kept_of history) cs) (kept_of history c ∷ without id (map (kept_of history) cs))) [
      | true ↦ λ here. ap (map (kept_of history)) (all_stay id cs (weaken (λ d. same_by_id c d ≡ false) (λ (d : Context). same_context id d.id ≡ false) cs (λ d other. apart_away id c d here other) apart.0))
      | false ↦ λ other. ap (λ ks. kept_of history c ∷ ks) (gone_map history id cs apart.1)
    ] refl

stay_none : (cs : List Context) → filter (λ (c : Context). not (is_of_context c.id None)) cs ≡ cs
stay_none [] = refl
stay_none (c ∷ cs) = ap (λ ds. c ∷ ds) (stay_none cs)

-- what is kept of contexts that are apart, without one that goes, if one does
pub without_map : (history : List Traced) (o : Option ContextId) (cs : List Context) → Apart same_by_id cs → map (kept_of history) (filter (λ (c : Context). not (is_of_context c.id o)) cs) ≡ without_any o (map (kept_of history) cs)
without_map history None cs apart = ap (map (kept_of history)) (stay_none cs)
without_map history (Some id) cs apart = gone_map history id cs apart

-- ## One is found, or is not there

abbrev its_state : List Traced → ContextId → Option (List ℤ)
its_state history id = cond (runs history id) None (state_at history id)

pub state_map : (history : List Traced) (id : ContextId) (cs : List Context) → list_any (is_context_of id) cs ≡ true → state_in id (map (kept_of history) cs) ≡ its_state history id
state_map history id [] any = absurd cc
state_map history id (c ∷ cs) any =
    elim (same_context id c.id) as (λ b. same_context id c.id ≡ b → (b || list_any (is_context_of id) cs) ≡ true → cond b (its_state history c.id) (state_in id (map (kept_of history) cs)) ≡ its_state history id) [
      | true ↦ λ here any. ap (its_state history) (sym (same_context-true id c.id here))
      | false ↦ λ other any. state_map history id cs any
    ] refl any

-- a context that is not there
pub record IsAway (id : ContextId) (kept : List Kept) : Type 0 where
  pub state : state_in id kept ≡ None
  pub put : (state : Option (List ℤ)) → put_at id state kept ≡ kept
  pub gone : without id kept ≡ kept

pub away_map : (history : List Traced) (id : ContextId) (cs : List Context) → list_any (is_context_of id) cs ≡ false → IsAway id (map (kept_of history) cs)
away_map history id [] none = record { state = refl; put = λ state. refl; gone = refl }
away_map history id (c ∷ cs) none =
    let ks = map (kept_of history) cs in
    elim (same_context id c.id) as (λ b. same_context id c.id ≡ b → (b || list_any (is_context_of id) cs) ≡ false → IsAway id (kept_of history c ∷ ks)) [
      | true ↦ λ here any. absurd cc
      | false ↦ λ other none.
          (let rest = away_map history id cs none in record {
            state = ap (λ b. cond b (kept_of history c).state (state_in id ks)) other ∙ rest.state;
            put = λ state. ap (λ b. cond b (record { context = c.id; state = state } ∷ ks) (kept_of history c ∷ put_at id state ks)) other ∙ ap (λ ys. kept_of history c ∷ ys) (rest.put state);
            gone = ap (λ b. cond b ks (kept_of history c ∷ without id ks)) other ∙ ap (λ ys. kept_of history c ∷ ys) rest.gone;
          })
    ] refl none
