-- Why calls are refused.
use Rattle.std.proofs.Common.{◌≡◌, List, [], ◌∷◌, refl, ap, sym, ◌∙◌}
use Rattle.std.specs.Prelude.{Bool, true, false, ◌||◌, ◌&&◌, cond, filter, find, map, is_none, is_some, Option, None, Some}
use Rattle.std.specs.List.{list_any}
use Rattle.vx_data.specs.declared.ids.ContextId.{ContextId}
use Rattle.vx_data.specs.declared.ids.PassNo.{PassNo}
use Rattle.vx_data.specs.Ids.{same_context}
use Rattle.vx_message.specs.declared.Context.{Context}
use Rattle.vx_call.specs.declared.history.Traced.{Traced}
use Rattle.vx_call.specs.Contexts.{contexts, context_at, is_context_of, is_verticle}
use Rattle.vx_call.specs.Deployments.{deployment_of, deployment_of_held, held_deployment}
use Rattle.vx_call.specs.Held.{held_context}
use Rattle.vx_call.specs.Stopping.{stop_taken}
use Rattle.vx_call.proofs.Contexts.{same_context-true}
use Rattle.vx_life.specs.declared.stop.Stop.{Stop}
use Rattle.vx_life.specs.Stores.{LifeStore, is_taken}
use Rattle.vx_life.specs.Stands.{verticles_of, stop_of, PartsStand}
use Rattle.vx_life_rows.proofs.Lists.{any_map, or_second}

-- ## Stops that were taken

here : (s a b rest : Bool) → (s ≡ true → a ≡ b) → ((s && a) || (rest && b)) ≡ ((s || rest) && b)
here false a b rest is = refl
here true true true rest is = refl
here true true false rest is = absurd (let e : true ≡ false = is refl in cc)
here true false true rest is = absurd (let e : false ≡ true = is refl in cc)
here true false false true is = refl
here true false false false is = refl

taken_of : (test : ContextId → Bool) (context : ContextId) (all : List ContextId) → list_any (λ c. same_context context c && test c) all ≡ (list_any (same_context context) all && test context)
taken_of test context [] = refl
taken_of test context (c ∷ all) =
    ap (λ b. (same_context context c && test c) || b) (taken_of test context all)
    ∙ here (same_context context c) (test c) (test context) (list_any (same_context context) all) (λ same. ap test (sym (same_context-true context c same)))

-- a verticle's context is among those of verticles
named_verticle : (id : ContextId) (all : List Context) (o : Option Context) → find (is_context_of id) all ≡ o → is_verticle o ≡ true → list_any (same_context id) (verticles_of all) ≡ true
named_verticle id [] None found own = absurd cc
named_verticle id [] (Some c) found own = absurd cc
named_verticle id (c ∷ all) o found own =
    elim (is_context_of id c) as (λ b. is_context_of id c ≡ b → cond b (Some c) (find (is_context_of id) all) ≡ o → list_any (same_context id) (verticles_of (c ∷ all)) ≡ true) [
      | true ↦ λ same is.
          (let mine : is_none c.maker ≡ true = ap is_verticle is ∙ own in
          ap (λ b. list_any (same_context id) (map (λ (x : Context). x.id) (cond b (c ∷ filter (λ (x : Context). is_none x.maker) all) (filter (λ (x : Context). is_none x.maker) all)))) mine
          ∙ ap (λ b. b || list_any (same_context id) (verticles_of all)) same)
      | false ↦ λ other is.
          (let rest = named_verticle id all o is own in
          elim (is_none c.maker) as (λ b. list_any (same_context id) (map (λ (x : Context). x.id) (cond b (c ∷ filter (λ (x : Context). is_none x.maker) all) (filter (λ (x : Context). is_none x.maker) all))) ≡ true) [
            | true ↦ or_second (same_context id c.id) (list_any (same_context id) (verticles_of all)) rest
            | false ↦ rest
          ])
    ] refl found

holds_verticle : (history : List Traced) (context : ContextId) (o : Option ContextId) → o ≡ Some context → is_some (deployment_of_held history o) ≡ true → is_verticle (context_at history context) ≡ true
holds_verticle history context None is some = absurd cc
holds_verticle history context (Some c) is some =
    (let e : c ≡ context = cc in
    ap (λ i. is_verticle (context_at history i)) (sym e)
    ∙ elim (is_verticle (context_at history c)) as (λ b. is_some (cond b (Some (deployment_of c)) None) ≡ true → b ≡ true) [ true ↦ λ h. refl | false ↦ λ h. absurd cc ] some)

pub taken_as : (life : LifeStore) (history : List Traced) (pass : PassNo) (context : ContextId) → PartsStand life history → held_context history pass ≡ Some context → is_some (held_deployment history pass) ≡ true → is_taken context life.stops ≡ stop_taken history context
taken_as life history pass context parts held some =
    ap (is_taken context) parts.stops
    ∙ any_map (λ (s : Stop). same_context context s.context && s.taken) (stop_of history) (verticles_of (contexts history))
    ∙ taken_of (stop_taken history) context (verticles_of (contexts history))
    ∙ ap (λ b. b && stop_taken history context)
    (named_verticle context (contexts history) (context_at history context) refl (holds_verticle history context (held_context history pass) held some))
