-- The contexts that are open behind an entry.
use Rattle.std.proofs.Common.{◌≡◌, ◌<◌, List, [], ◌∷◌, ◌++◌, length, refl, ap, sym, ◌∙◌, append-nil, arith}
use Rattle.std.specs.Prelude.{Bool, true, false, cond, not, ◌||◌, ◌&&◌, ◌==◌, filter, is_none}
use Rattle.std.specs.List.{list_any}
use Rattle.std.proofs.lemmas.List.{map-append}
use Rattle.std.proofs.lemmas.List.Elements.{filter-append, filter_agree}
use Rattle.std.proofs.lemmas.List.Folds.{list_any-append}
use Rattle.vx_data.specs.declared.ids.ContextId.{ContextId}
use Rattle.vx_data.specs.Ids.{same_context}
use Rattle.vx_message.specs.declared.Context.{Context}
use Rattle.vx_tree.specs.Nodes.{without}
use Rattle.vx_call.specs.declared.history.Traced.{Traced}
use Rattle.vx_call.specs.History.{is_accepted, made_by}
use Rattle.vx_call.specs.Contexts.{context_made, contexts, is_context_of}
use Rattle.vx_call.specs.Starts.{ids_of_contexts}
use Rattle.vx_call.specs.Closings.{closes, open_context_kind, open_contexts, is_open, is_open_in}
use Rattle.vx_call.proofs.Lasting.{lasting_more, and_false}
use Rattle.vx_call.proofs.Each.{Each, weaken}
use Rattle.vx_call.proofs.Contexts.{context_key, same_context-swap, same_context-true, new_contexts_apart}
use Rattle.vx_call.proofs.Filters.{filter_no, filter-map, filter_swap, filter_alike}
use Rattle.vx_call.proofs.Found.{earlier_name}
use Rattle.vx_call.proofs.Once.{any_none}
use Rattle.vx_life.specs.Stands.{verticles_of}
use Rattle.vx_life_rows.proofs.Lists.{or_false, filter_both}
use Rattle.vx_life_rows.proofs.Left.{none_ended, kind_less}

abbrev is_own : Context → Bool
is_own context = is_none context.maker

-- those of verticles, of two lists in one
pub verticles-append : (some more : List Context) → verticles_of (some ++ more) ≡ verticles_of some ++ verticles_of more
verticles-append some more = ap ids_of_contexts (filter-append is_own some more) ∙ map-append (λ (context : Context). context.id) (filter is_own some) (filter is_own more)

-- outside ones are none of them
pub outside_only : (contexts more : List Context) → Each (λ (c : Context). is_none c.maker ≡ false) more → verticles_of (contexts ++ more) ≡ verticles_of contexts
outside_only contexts more outside = verticles-append contexts more ∙ ap (λ xs. verticles_of contexts ++ ids_of_contexts xs) (filter_no is_own more outside) ∙ append-nil (verticles_of contexts)

-- all but the one of this name
abbrev but : ContextId → List Context → List Context
but id contexts = filter (λ (c : Context). not (same_context c.id id)) contexts

same_but : (id : ContextId) (ids : List ContextId) → filter (λ other. not (same_context other id)) ids ≡ without id ids
same_but id [] = refl
same_but id (other ∷ ids) =
    ap (λ b. cond (not b) (other ∷ filter (λ o. not (same_context o id)) ids) (filter (λ o. not (same_context o id)) ids)) (same_context-swap other id)
    ∙ ap (λ xs. cond (not (same_context id other)) (other ∷ xs) xs) (same_but id ids)

pub verticles_but : (id : ContextId) (contexts : List Context) → verticles_of (but id contexts) ≡ without id (verticles_of contexts)
verticles_but id contexts =
    ap ids_of_contexts (filter_swap is_own (λ (c : Context). not (same_context c.id id)) contexts)
    ∙ sym (filter-map (λ other. not (same_context other id)) (λ (c : Context). c.id) (filter is_own contexts))
    ∙ same_but id (verticles_of contexts)

but_one : (s k t rest : Bool) → (s ≡ true → k ≡ t) → cond (not k) (s || (not t && rest)) (not t && rest) ≡ (not t && (s || rest))
but_one false true t rest same = refl
but_one false false t rest same = refl
but_one true true true rest same = refl
but_one true true false rest same = absurd (let e : true ≡ false = same refl in cc)
but_one true false true rest same = absurd (let e : false ≡ true = same refl in cc)
but_one true false false rest same = refl

open_but : (id other : ContextId) (contexts : List Context) → is_open_in (but id contexts) other ≡ (not (same_context id other) && is_open_in contexts other)
open_but id other [] = sym (and_false (not (same_context id other)))
open_but id other (c ∷ contexts) =
    let s = same_context other c.id in
    let k = same_context c.id id in
    let t = same_context id other in
    elim k as (λ b. is_open_in (cond (not b) (c ∷ but id contexts) (but id contexts)) other ≡ cond (not b) (s || is_open_in (but id contexts) other) (is_open_in (but id contexts) other)) [ true ↦ refl | false ↦ refl ]
    ∙ ap (λ rest. cond (not k) (s || rest) rest) (open_but id other contexts)
    ∙ but_one s k t (is_open_in contexts other) (λ same. same_context-swap c.id id ∙ ap (same_context id) (sym (same_context-true other c.id same)))

-- ## An entry that closes none

module _ (history : List Traced) (new : Traced) (closes_none : (id : ContextId) → closes history new.entry.pass new.entry.call id ≡ false) where
  pub open_more : open_contexts (history ++ new ∷ []) ≡ open_contexts history ++ made_by open_context_kind history new
  open_more = lasting_more open_context_kind history new (λ (c : Context). none_ended open_context_kind history new c (closes_none c.id))

  -- a context of an entry before is open as it was
  pub still_open : (id : ContextId) → id.entry.0 < length history → is_open (history ++ new ∷ []) id ≡ is_open history id
  still_open id before =
      ap (list_any (is_context_of id)) open_more ∙ list_any-append (is_context_of id) (open_contexts history) (made_by open_context_kind history new)
      ∙ ap (λ b. is_open history id || b)
      (any_none (is_context_of id) (made_by open_context_kind history new)
      (weaken (λ c. context_key c ≡ length history) (λ c. is_context_of id c ≡ false) (made_by open_context_kind history new)
      (λ (c : Context) now. ap (λ b. b && (id.instance == c.id.instance)) (earlier_name id.entry.0 c.id.entry.0 (let e : c.id.entry.0 ≡ length history = now in omega arith))) (new_contexts_apart history new).keyed))
      ∙ or_false (is_open history id)

  pub same_open : (ids : List ContextId) → Each (λ (id : ContextId). id.entry.0 < length history) ids → filter (is_open (history ++ new ∷ [])) ids ≡ filter (is_open history) ids
  same_open ids earlier =
      filter_alike (is_open (history ++ new ∷ [])) (is_open history) ids
      (weaken (λ (id : ContextId). id.entry.0 < length history) (λ id. is_open (history ++ new ∷ []) id ≡ is_open history id) ids (λ id before. still_open id before) earlier)

-- ## An entry that closes one, and makes none

module _ (history : List Traced) (new : Traced) (closed : ContextId) (ok : is_accepted new.entry.reply ≡ true) (none : context_made history new.entry.pass new.entry.call ≡ [])
    (closes_one : (id : ContextId) → closes history new.entry.pass new.entry.call id ≡ same_context id closed) where
  pub open_less : open_contexts (history ++ new ∷ []) ≡ but closed (open_contexts history)
  open_less =
      kind_less open_context_kind history new ok none ∙ filter_agree _ _ (λ (c : Context). ap not (closes_one c.id)) (open_contexts history)

  pub verticles_less : verticles_of (open_contexts (history ++ new ∷ [])) ≡ without closed (verticles_of (open_contexts history))
  verticles_less = ap verticles_of open_less ∙ verticles_but closed (open_contexts history)

  pub less_open : (ids : List ContextId) → filter (is_open (history ++ new ∷ [])) ids ≡ without closed (filter (is_open history) ids)
  less_open ids =
      filter_agree _ _ (λ id. ap (λ cs. is_open_in cs id) open_less ∙ open_but closed id (open_contexts history)) ids
      ∙ sym (filter_both (λ id. not (same_context closed id)) (is_open history) ids)
