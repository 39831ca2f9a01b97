-- What the store keeps of contexts that were closed.
use Rattle.std.proofs.Common.{◌≡◌, List, [], ◌∷◌, ◌++◌, refl, ap, sym, ◌∙◌}
use Rattle.std.specs.Prelude.{Bool, true, false, ◌&&◌, cond, map, find, is_some, Option, None, Some}
use Rattle.std.specs.Option.{option_map, option_or, option_and_then}
use Rattle.vx_data.specs.declared.ids.ContextId.{ContextId}
use Rattle.vx_data.specs.declared.ids.EntryNo.{EntryNo}
use Rattle.vx_data.specs.Ids.{same_context}
use Rattle.vx_message.specs.declared.Context.{Context}
use Rattle.vx_call.specs.Contexts.{is_context_of}
use Rattle.vx_call.proofs.Contexts.{same_context-true, same_context-swap}
use Rattle.vx_context.specs.declared.contexts.Kept.{Kept}
use Rattle.vx_context.specs.Stores.{context_of, is_kept_of, closed_in, closed_then, closed_by, kept_open}

pub find_context : (id : ContextId) (kept : List Kept) → find (is_context_of id) (map context_of kept) ≡ option_map context_of (find (is_kept_of id) kept)
find_context id [] = refl
find_context id (first ∷ others) =
    elim (is_kept_of id first) as (λ b. cond b (Some first.context) (find (is_context_of id) (map context_of others)) ≡ option_map context_of (cond b (Some first) (find (is_kept_of id) others))) [
      | true ↦ refl
      | false ↦ find_context id others
    ]

-- ## Contexts are added

none_closed : (id : ContextId) (more : List Context) → closed_in id (map kept_open more) ≡ None
none_closed id [] = refl
none_closed id (context ∷ more) =
    elim (is_context_of id context) as (λ b. option_and_then (λ (kept : Kept). kept.closed) (cond b (Some (kept_open context)) (find (is_kept_of id) (map kept_open more))) ≡ None) [
      | true ↦ refl
      | false ↦ none_closed id more
    ]

-- those that come are open
pub closed_with_more : (id : ContextId) (kept : List Kept) (more : List Context) → closed_in id (kept ++ map kept_open more) ≡ closed_in id kept
closed_with_more id [] more = none_closed id more
closed_with_more id (first ∷ others) more =
    elim (is_kept_of id first) as (λ b. option_and_then (λ (kept : Kept). kept.closed) (cond b (Some first) (find (is_kept_of id) (others ++ map kept_open more)))
    ≡ option_and_then (λ (kept : Kept). kept.closed) (cond b (Some first) (find (is_kept_of id) others))) [
      | true ↦ refl
      | false ↦ closed_with_more id others more
    ]

pub made_more : (more : List Context) → map context_of (map kept_open more) ≡ more
made_more [] = refl
made_more (context ∷ more) = ap (λ all. context ∷ all) (made_more more)

-- ## Contexts close

pub same_contexts : (f : Kept → Kept) → ((kept : Kept) → (f kept).context ≡ kept.context) → (kept : List Kept) → map context_of (map f kept) ≡ map context_of kept
same_contexts f same [] = refl
same_contexts f same (first ∷ others) = ap (λ context. context ∷ map context_of (map f others)) (same first) ∙ ap (λ all. first.context ∷ all) (same_contexts f same others)

pub same_context_then : (id : ContextId) (at : EntryNo) (kept : Kept) → (closed_by id at kept).context ≡ kept.context
same_context_then id at kept = elim (is_kept_of id kept) as (λ b. context_of (cond b (closed_then at kept) kept) ≡ kept.context) [ true ↦ refl | false ↦ refl ]

or_none : {X : Type 0} (o : Option X) → option_or o None ≡ o
or_none None = refl
or_none (Some x) = refl

-- the entry at which a context is closed by a change of each, at which those that pass a test are closed
closed_where : (other : ContextId) (at : EntryNo) (f : Kept → Kept) (closes : Bool) → ((kept : Kept) → (f kept).context ≡ kept.context) →
    ((kept : Kept) → is_kept_of other kept ≡ true → (f kept).closed ≡ option_or kept.closed (cond closes (Some at) None)) → (all : List Kept) →
    closed_in other (map f all) ≡ option_or (closed_in other all) (cond (closes && is_some (find (is_context_of other) (map context_of all))) (Some at) None)
closed_where other at f closes same is [] = elim closes as (λ b. None ≡ cond {A = Option EntryNo} (b && false) (Some at) None) [ true ↦ refl | false ↦ refl ]
closed_where other at f closes same is (first ∷ others) =
    let closed : Option Kept → Option EntryNo = λ o. option_and_then (λ (kept : Kept). kept.closed) o in
    let there : Option Context → Option EntryNo = λ o. cond (closes && is_some o) (Some at) None in
    ap (λ (context : Context). closed (cond (is_context_of other context) (Some (f first)) (find (is_kept_of other) (map f others)))) (same first)
    ∙ elim (is_kept_of other first) as (λ b. (b ≡ true → (f first).closed ≡ option_or first.closed (cond closes (Some at) None)) →
    closed (cond b (Some (f first)) (find (is_kept_of other) (map f others)))
    ≡ option_or (closed (cond b (Some first) (find (is_kept_of other) others))) (there (cond b (Some first.context) (find (is_context_of other) (map context_of others))))) [
      | true ↦ λ here. here refl ∙ elim closes as (λ c. option_or first.closed (cond c (Some at) None) ≡ option_or first.closed (cond (c && true) (Some at) None)) [ true ↦ refl | false ↦ refl ]
      | false ↦ λ there. closed_where other at f closes same is others
    ] (is first)

is_closed : (id other : ContextId) (at : EntryNo) (kept : Kept) → is_kept_of other kept ≡ true → (closed_by id at kept).closed ≡ option_or kept.closed (cond (same_context other id) (Some at) None)
is_closed id other at kept here =
    let named : same_context other id ≡ is_kept_of id kept = ap (λ name. same_context name id) (same_context-true other kept.context.id here) ∙ same_context-swap kept.context.id id in
    elim (is_kept_of id kept) as (λ b. (λ (k : Kept). k.closed) (cond b (closed_then at kept) kept) ≡ option_or kept.closed (cond b (Some at) None)) [ true ↦ refl | false ↦ sym (or_none kept.closed) ]
    ∙ ap (λ b. option_or kept.closed (cond b (Some at) None)) (sym named)

-- one is closed
pub closed_one : (other id : ContextId) (at : EntryNo) (all : List Kept) →
    closed_in other (map (closed_by id at) all) ≡ option_or (closed_in other all) (cond (same_context other id && is_some (find (is_context_of other) (map context_of all))) (Some at) None)
closed_one other id at all = closed_where other at (closed_by id at) (same_context other id) (same_context_then id at) (is_closed id other at) all

-- each is closed
pub closed_each : (other : ContextId) (at : EntryNo) (all : List Kept) → closed_in other (map (closed_then at) all) ≡ option_or (closed_in other all) (cond (is_some (find (is_context_of other) (map context_of all))) (Some at) None)
closed_each other at all = closed_where other at (closed_then at) true (λ kept. refl) (λ kept here. refl) all
