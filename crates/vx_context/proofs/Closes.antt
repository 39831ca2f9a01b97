-- Contexts close: what the store then keeps of them is that of the history with the entry which closes them.
use Rattle.std.proofs.Common.{◌≡◌, List, [], ◌∷◌, ◌++◌, refl, ap, sym, ◌∙◌}
use Rattle.std.specs.Prelude.{true, false, ◌&&◌, cond, map, find, is_some, is_none, None, Some}
use Rattle.std.specs.Option.{option_or}
use Rattle.vx_data.specs.declared.ids.ContextId.{ContextId}
use Rattle.vx_data.specs.Ids.{same_context}
use Rattle.vx_message.specs.declared.Context.{Context}
use Rattle.vx_call.specs.declared.history.Traced.{Traced}
use Rattle.vx_call.specs.History.{made_by}
use Rattle.vx_call.specs.Names.{next_entry}
use Rattle.vx_call.specs.Contexts.{is_context, is_context_of}
use Rattle.vx_call.specs.Closings.{closing, closing_kind, closed_at, open_contexts, is_open}
use Rattle.vx_call.proofs.Contexts.{same_context-true}
use Rattle.vx_call.proofs.Closed.{open_is, closed_by_one, closed_by_all}
use Rattle.vx_context.specs.Stores.{ContextStore, closed_in}
use Rattle.vx_context.specs.Stands.{ContextsStand}

-- what the store says is open is
pub open_stands : (store : ContextStore) (history : List Traced) (id : ContextId) → ContextsStand store history → (is_some (find (is_context_of id) store.made) && is_none (closed_in id store.closings)) ≡ is_open history id
open_stands store history id stands =
    ap (λ all. is_some (find (is_context_of id) all) && is_none (closed_in id store.closings)) stands.made
    ∙ ap (λ o. is_context history id && is_none o) (stands.closings id)
    ∙ sym (open_is history id)

named_there : (history : List Traced) (id context : ContextId) → is_context history context ≡ true → (same_context id context && is_context history id) ≡ same_context id context
named_there history id context there =
    elim (same_context id context) as (λ b. same_context id context ≡ b → (b && is_context history id) ≡ b) [
      | true ↦ λ same. ap (is_context history) (same_context-true id context same) ∙ there
      | false ↦ λ differs. refl
    ] refl

-- one that is there closes
pub closings_one : (old new_store : ContextStore) (history : List Traced) (new : Traced) (context : ContextId) → ContextsStand old history → is_context history context ≡ true → made_by closing_kind history new ≡ closing history context ∷ [] →
    ((other : ContextId) → closed_in other new_store.closings
    ≡ option_or (closed_in other old.closings) (cond (same_context other context && is_some (find (is_context_of other) old.made)) (Some (next_entry history)) None)) →
    (id : ContextId) → closed_in id new_store.closings ≡ closed_at (history ++ new ∷ []) id
closings_one old new_store history new context stands there one closes id =
    closes id
    ∙ ap (λ o. option_or o (cond (same_context id context && is_some (find (is_context_of id) old.made)) (Some (next_entry history)) None)) (stands.closings id)
    ∙ ap (λ all. option_or (closed_at history id) (cond (same_context id context && is_some (find (is_context_of id) all)) (Some (next_entry history)) None)) stands.made
    ∙ ap (λ b. option_or (closed_at history id) (cond b (Some (next_entry history)) None)) (named_there history id context there)
    ∙ sym (closed_by_one history new id context one)

-- all close
pub closings_all : (old new_store : ContextStore) (history : List Traced) (new : Traced) → ContextsStand old history → made_by closing_kind history new ≡ map (λ (context : Context). closing history context.id) (open_contexts history) →
    ((other : ContextId) → closed_in other new_store.closings ≡ option_or (closed_in other old.closings) (cond (is_some (find (is_context_of other) old.made)) (Some (next_entry history)) None)) →
    (id : ContextId) → closed_in id new_store.closings ≡ closed_at (history ++ new ∷ []) id
closings_all old new_store history new stands all closes id =
    closes id
    ∙ ap (λ o. option_or o (cond (is_some (find (is_context_of id) old.made)) (Some (next_entry history)) None)) (stands.closings id)
    ∙ ap (λ made. option_or (closed_at history id) (cond (is_some (find (is_context_of id) made)) (Some (next_entry history)) None)) stands.made
    ∙ sym (closed_by_all history new id all)
