-- Contexts that were closed: each was made before, and is open no more.
use Rattle.std.proofs.Common.{◌≡◌, ℕ, List, [], ◌∷◌, ◌++◌, length, refl, ap, sym, ◌∙◌, subst, arith}
use Rattle.std.specs.Prelude.{Bool, true, false, not, ◌&&◌, ◌||◌, cond, filter, find, map, is_some, is_none, Option, None, Some}
use Rattle.std.specs.List.{list_any}
use Rattle.std.specs.Option.{option_map, option_or, option_and_then, option_to_list}
use Rattle.std.proofs.lemmas.List.Folds.{find-append}
use Rattle.vx_data.specs.declared.ids.ContextId.{ContextId}
use Rattle.vx_data.specs.declared.ids.EntryNo.{EntryNo}
use Rattle.vx_data.specs.declared.ids.PassNo.{PassNo}
use Rattle.vx_data.specs.Ids.{same_context}
use Rattle.vx_message.specs.declared.Context.{Context}
use Rattle.vx_message.specs.declared.DoneResult.{DoneResult}
use Rattle.vx_message.specs.declared.DoneResult.TheVariants as results
use Rattle.vx_call.specs.declared.call.Call.{Call}
use Rattle.vx_call.specs.declared.call.Call.TheVariants as calls
use Rattle.vx_call.specs.declared.history.Traced.{Traced}
use Rattle.vx_call.specs.History.{made_by, ended_by, is_accepted, lasting}
use Rattle.vx_call.specs.Names.{next_entry}
use Rattle.vx_call.specs.Contexts.{instances, context_made, context_kind, contexts, context_at, is_context, is_context_of}
use Rattle.vx_call.specs.Held.{is_of_context}
use Rattle.vx_call.specs.Starts.{Ending, ending_among, ended_start, ended_stop, failure_in, start_ended, stop_ended, start_failed, starter, stopper, deployed_contexts, unstarted_kind, unstarted, unstopped_kind, unstopped}
use Rattle.vx_call.specs.Closings.{Closing, closing, context_in, closing_by, closes, open_context_kind, open_contexts, is_open, closing_made, closing_kind, is_closing_of, closed_at}
use Rattle.vx_call.proofs.Lasting.{lasting-append, lasting_more, lasting_none, and_false}
use Rattle.vx_call.proofs.Each.{Each, Each-back, Each-map, Each-find, weaken, accepted, by_entries, lasting_each}
use Rattle.vx_call.proofs.Found.{find_passes}
use Rattle.vx_call.proofs.Contexts.{context_key, contexts_found, contexts-append, context_at_earlier, keeps_context_at, new_contexts_apart, same_context-true}

-- ## They were made

abbrev IsThere : List Traced → ContextId → Type 0
IsThere history id = is_context history id ≡ true

-- a context that is there stays
there_more : (history : List Traced) (new : Traced) (id : ContextId) → IsThere history id → IsThere (history ++ new ∷ []) id
there_more history new id there =
    elim (context_at history id) as (λ o. context_at history id ≡ o → is_some o ≡ true → IsThere (history ++ new ∷ []) id) [
      | None ↦ λ nobody some. absurd cc
      | Some context ↦ λ found some. ap is_some (keeps_context_at history new id context found)
    ] refl there

-- those that an entry makes are there behind it
new_there : (history : List Traced) (new : Traced) → Each (λ (c : Context). IsThere (history ++ new ∷ []) c.id) (made_by context_kind history new)
new_there history new =
    let after = history ++ new ∷ [] in
    let P : List Context → Type 0 = Each (λ (c : Context). IsThere after c.id) in
    Each-back (λ (c : Context). IsThere after c.id) (contexts history) (made_by context_kind history new)
    (subst P (contexts-append history new) (weaken (λ (c : Context). context_at after c.id ≡ Some c) (λ (c : Context). IsThere after c.id) (contexts after) (λ c found. ap is_some found) (contexts_found after)))

pub open_there : (history : List Traced) → Each (λ (c : Context). is_context history c.id ≡ true) (open_contexts history)
open_there = lasting_each open_context_kind (λ history (c : Context). IsThere history c.id) (λ history new c stays there. there_more history new c.id there) new_there

deployed_there : (history : List Traced) (new : Traced) (call : Call) → new.entry.call ≡ call → is_accepted new.entry.reply ≡ true → Each (IsThere (history ++ new ∷ [])) (deployed_contexts history call)
deployed_there history new (calls.Deploy worker pool tell count) is_call ok =
    let after = history ++ new ∷ [] in
    let P : List Context → Type 0 = Each (λ (c : Context). IsThere after c.id) in
    let made : made_by context_kind history new ≡ instances history worker pool 0 count =
    ap (λ b. cond b (context_made history new.entry.pass new.entry.call) []) ok ∙ ap (context_made history new.entry.pass) is_call in
    Each-map (IsThere after) (λ (c : Context). c.id) (instances history worker pool 0 count) (subst P made (new_there history new))
deployed_there history new _ is_call ok = tt

unstarted_there : (history : List Traced) → Each (IsThere history) (unstarted history)
unstarted_there = lasting_each unstarted_kind IsThere (λ history new id stays there. there_more history new id there)
    (λ history new. accepted (IsThere (history ++ new ∷ [])) (is_accepted new.entry.reply) (deployed_contexts history new.entry.call) (λ ok. deployed_there history new new.entry.call refl ok))

unstopped_there : (history : List Traced) → Each (IsThere history) (unstopped history)
unstopped_there = lasting_each unstopped_kind IsThere (λ history new id stays there. there_more history new id there)
    (λ history new. accepted (IsThere (history ++ new ∷ [])) (is_accepted new.entry.reply) (deployed_contexts history new.entry.call) (λ ok. deployed_there history new new.entry.call refl ok))

any_there : (history : List Traced) (id : ContextId) (all : List ContextId) → Each (IsThere history) all → list_any (same_context id) all ≡ true → IsThere history id
any_there history id [] each any = absurd cc
any_there history id (other ∷ others) each any =
    elim (same_context id other) as (λ b. same_context id other ≡ b → (b || list_any (same_context id) others) ≡ true → IsThere history id) [
      | true ↦ λ same some. (let P : ContextId → Type 0 = IsThere history in subst P (sym (same_context-true id other same)) each.0)
      | false ↦ λ differs some. any_there history id others each.1 some
    ] refl any

among_there : (history : List Traced) (all : List ContextId) (ending found : Ending) → Each (IsThere history) all → ending_among all ending ≡ Some found → IsThere history found.context
among_there history all ending found each is =
    elim (list_any (same_context ending.context) all) as (λ b. list_any (same_context ending.context) all ≡ b → cond b (Some ending) None ≡ Some found → IsThere history found.context) [
      | true ↦ λ any some.
          (let same : ending ≡ found = cc in
          let P : Ending → Type 0 = λ e. IsThere history e.context in
          subst P same (any_there history ending.context all each any))
      | false ↦ λ none some. absurd cc
    ] refl is

started_there : (history : List Traced) (o : Option Ending) (found : Ending) → ended_start history o ≡ Some found → IsThere history found.context
started_there history None found is = absurd cc
started_there history (Some ending) found is = among_there history (unstarted history) ending found (unstarted_there history) is

stopped_there : (history : List Traced) (o : Option Ending) (found : Ending) → ended_stop history o ≡ Some found → IsThere history found.context
stopped_there history None found is = absurd cc
stopped_there history (Some ending) found is = among_there history (unstopped history) ending found (unstopped_there history) is

failed_is : (ending found : Ending) (result : DoneResult) → failure_in ending result ≡ Some found → ending ≡ found
failed_is ending found results.Ok is = absurd cc
failed_is ending found _ is = cc

failed_there : (history : List Traced) (o : Option Ending) (found : Ending) → ((ending : Ending) → o ≡ Some ending → IsThere history ending.context) →
    option_and_then (λ (ending : Ending). failure_in ending ending.result) o ≡ Some found → IsThere history found.context
failed_there history None found there is = absurd cc
failed_there history (Some ending) found there is =
    let P : Ending → Type 0 = λ e. IsThere history e.context in subst P (failed_is ending found ending.result is) (there ending refl)

closing_there_of : (history : List Traced) (failed stopped : Option Ending) (context : ContextId) → ((ending : Ending) → failed ≡ Some ending → IsThere history ending.context) → ((ending : Ending) → stopped ≡ Some ending → IsThere history ending.context) →
    option_or (option_map context_in failed) (option_map context_in stopped) ≡ Some context → IsThere history context
closing_there_of history None None context of_failed of_stopped is = absurd cc
closing_there_of history None (Some ending) context of_failed of_stopped is =
    let same : ending.context ≡ context = cc in let P : ContextId → Type 0 = IsThere history in subst P same (of_stopped ending refl)
closing_there_of history (Some ending) stopped context of_failed of_stopped is =
    let same : ending.context ≡ context = cc in let P : ContextId → Type 0 = IsThere history in subst P same (of_failed ending refl)

-- the context of a verticle that an entry closes is there
pub closing_there : (history : List Traced) (pass : PassNo) (call : Call) (context : ContextId) → closing_by history pass call ≡ Some context → is_context history context ≡ true
closing_there history pass call context is =
    closing_there_of history (start_failed history pass call) (stop_ended history pass call) context
    (λ ending failed. failed_there history (start_ended history pass call) ending (λ e started. started_there history (starter history pass call) e started) failed)
    (λ ending stopped. stopped_there history (stopper history pass call) ending stopped) is

one_there : (history : List Traced) (o : Option ContextId) → ((context : ContextId) → o ≡ Some context → IsThere history context) → Each (λ (c : Closing). IsThere history c.context) (option_to_list (option_map (closing history) o))
one_there history None there = tt
one_there history (Some context) there = (there context refl, tt)

made_there : (history : List Traced) (pass : PassNo) (call : Call) → Each (λ (c : Closing). IsThere history c.context) (closing_made history pass call)
made_there history pass calls.Close =
    Each-map (λ (c : Closing). IsThere history c.context) (λ (context : Context). closing history context.id) (open_contexts history) (open_there history)
made_there history pass call = one_there history (closing_by history pass call) (closing_there history pass call)

pub closings_there : (history : List Traced) → Each (λ (c : Closing). is_context history c.context ≡ true) (lasting closing_kind history)
closings_there = lasting_each closing_kind (λ history (c : Closing). IsThere history c.context) (λ history new c stays there. there_more history new c.context there)
    (λ history new. accepted (λ (c : Closing). IsThere (history ++ new ∷ []) c.context) (is_accepted new.entry.reply) (closing_made history new.entry.pass new.entry.call)
    (λ ok. weaken (λ (c : Closing). IsThere history c.context) (λ (c : Closing). IsThere (history ++ new ∷ []) c.context) (closing_made history new.entry.pass new.entry.call)
    (λ c there. there_more history new c.context there) (made_there history new.entry.pass new.entry.call)))

-- a context that is not there is not closed
pub not_closed_yet : (history : List Traced) (id : ContextId) → is_context history id ≡ false → closed_at history id ≡ None
not_closed_yet history id away =
    let all = lasting closing_kind history in
    elim (find (is_closing_of id) all) as (λ o. find (is_closing_of id) all ≡ o → option_map (λ (c : Closing). c.at) o ≡ None) [
      | None ↦ λ none. refl
      | Some c ↦ λ found.
          (let there : IsThere history c.context = Each-find (λ (c : Closing). IsThere history c.context) (is_closing_of id) all c (closings_there history) found in
          let same : id ≡ c.context = same_context-true id c.context (find_passes (is_closing_of id) all c found) in
          let no : true ≡ false = sym there ∙ sym (ap (is_context history) same) ∙ away in absurd cc)
    ] refl

-- ## What an entry closes

abbrev pub closed_among : ContextId → List Closing → Option EntryNo
closed_among id all = option_map (λ (c : Closing). c.at) (find (is_closing_of id) all)

option_map-or : {X Y : Type 0} (f : X → Y) (a b : Option X) → option_map f (option_or a b) ≡ option_or (option_map f a) (option_map f b)
option_map-or f None b = refl
option_map-or f (Some x) b = refl

-- the entry that closed a context stays it, and else it is one that does
pub closed_more : (history : List Traced) (new : Traced) (id : ContextId) → closed_at (history ++ new ∷ []) id ≡ option_or (closed_at history id) (closed_among id (made_by closing_kind history new))
closed_more history new id =
    ap (closed_among id) (lasting_more closing_kind history new (λ c. and_false (is_accepted new.entry.reply)))
    ∙ ap (option_map (λ (c : Closing). c.at)) (find-append (is_closing_of id) (lasting closing_kind history) (made_by closing_kind history new))
    ∙ option_map-or (λ (c : Closing). c.at) (find (is_closing_of id) (lasting closing_kind history)) (find (is_closing_of id) (made_by closing_kind history new))

one_among : (history : List Traced) (id : ContextId) (o : Option ContextId) → closed_among id (option_to_list (option_map (closing history) o)) ≡ cond (is_of_context id o) (Some (next_entry history)) None
one_among history id None = refl
one_among history id (Some context) = elim (same_context id context) as (λ b. option_map (λ (c : Closing). c.at) (cond b (Some (closing history context)) None) ≡ cond b (Some (next_entry history)) None) [ true ↦ refl | false ↦ refl ]

each_among : (history : List Traced) (id : ContextId) (all : List Context) → closed_among id (map (λ (context : Context). closing history context.id) all) ≡ cond (list_any (is_context_of id) all) (Some (next_entry history)) None
each_among history id [] = refl
each_among history id (context ∷ others) =
    elim (is_context_of id context) as (λ b. option_map (λ (c : Closing). c.at) (cond b (Some (closing history context.id)) (find (is_closing_of id) (map (λ (c : Context). closing history c.id) others)))
    ≡ cond (b || list_any (is_context_of id) others) (Some (next_entry history)) None) [ true ↦ refl | false ↦ each_among history id others ]

-- an open context is closed by a call that closes one of this name
made_among : (history : List Traced) (pass : PassNo) (call : Call) (id : ContextId) → is_open history id ≡ true → closed_among id (closing_made history pass call) ≡ cond (closes history pass call id) (Some (next_entry history)) None
made_among history pass calls.Close id opened = each_among history id (open_contexts history) ∙ ap (λ b. cond b (Some (next_entry history)) None) opened
made_among history pass call id opened = one_among history id (closing_by history pass call)

-- ## Open contexts are those that were not closed

or_false : (b : Bool) → (b || false) ≡ b
or_false true = refl
or_false false = refl

and_true : (b : Bool) → (b && true) ≡ b
and_true true = refl
and_true false = refl

any_append : {A : Type 0} (p : A → Bool) (xs ys : List A) → list_any p (xs ++ ys) ≡ (list_any p xs || list_any p ys)
any_append p [] ys = refl
any_append p (x ∷ xs) ys = elim (p x) as (λ b. (b || list_any p (xs ++ ys)) ≡ ((b || list_any p xs) || list_any p ys)) [ true ↦ refl | false ↦ any_append p xs ys ]

any_found : {A : Type 0} (p : A → Bool) (xs : List A) → is_some (find p xs) ≡ list_any p xs
any_found p [] = refl
any_found p (x ∷ xs) = elim (p x) as (λ b. is_some (cond b (Some x) (find p xs)) ≡ (b || list_any p xs)) [ true ↦ refl | false ↦ any_found p xs ]

any_kept : (history : List Traced) (new : Traced) (id : ContextId) (all : List Context) →
    list_any (is_context_of id) (filter (λ c. not (ended_by open_context_kind history new c)) all)
    ≡ (list_any (is_context_of id) all && not (is_accepted new.entry.reply && closes history new.entry.pass new.entry.call id))
any_kept history new id [] = refl
any_kept history new id (context ∷ others) =
    let p = is_context_of id in
    let ends : Context → Bool = λ c. ended_by open_context_kind history new c in
    let kept : List Context = filter (λ c. not (ends c)) others in
    let e = is_accepted new.entry.reply && closes history new.entry.pass new.entry.call id in
    let rest : list_any p kept ≡ (list_any p others && not e) = any_kept history new id others in
    elim (p context) as (λ b. p context ≡ b → list_any p (cond (not (ends context)) (context ∷ kept) kept) ≡ ((b || list_any p others) && not e)) [
      | true ↦ λ here.
          ap (λ i. list_any p (cond (not (is_accepted new.entry.reply && closes history new.entry.pass new.entry.call i)) (context ∷ kept) kept)) (sym (same_context-true id context.id here))
          ∙ elim e as (λ b. list_any p kept ≡ (list_any p others && not b) → list_any p (cond (not b) (context ∷ kept) kept) ≡ not b) [
            | true ↦ λ r. r ∙ and_false (list_any p others)
            | false ↦ λ r. ap (λ b. b || list_any p kept) here
          ] rest
      | false ↦ λ there.
          elim (ends context) as (λ b. list_any p (cond (not b) (context ∷ kept) kept) ≡ (list_any p others && not e)) [
            | true ↦ rest
            | false ↦ ap (λ b. b || list_any p kept) there ∙ rest
          ]
    ] refl

away_among : (history : List Traced) (id : ContextId) (all : List Closing) → Each (λ (c : Closing). IsThere history c.context) all → is_context history id ≡ false → closed_among id all ≡ None
away_among history id [] each away = refl
away_among history id (c ∷ others) each away =
    elim (is_closing_of id c) as (λ b. is_closing_of id c ≡ b → option_map (λ (c : Closing). c.at) (cond b (Some c) (find (is_closing_of id) others)) ≡ None) [
      | true ↦ λ here. (let no : true ≡ false = sym each.0 ∙ sym (ap (is_context history) (same_context-true id c.context here)) ∙ away in absurd cc)
      | false ↦ λ there. away_among history id others each.1 away
    ] refl

any_of : (id : ContextId) (n : ℕ) (all : List Context) → Each (λ c. context_key c ≡ n) all → list_any (is_context_of id) all ≡ true → id.entry.0 ≡ n
any_of id n [] each any = absurd cc
any_of id n (context ∷ others) each any =
    elim (is_context_of id context) as (λ b. is_context_of id context ≡ b → (b || list_any (is_context_of id) others) ≡ true → id.entry.0 ≡ n) [
      | true ↦ λ here some. ap (λ (i : ContextId). i.entry.0) (same_context-true id context.id here) ∙ each.0
      | false ↦ λ there some. any_of id n others each.1 some
    ] refl any

-- a context that an entry makes was not there before
not_there : (history : List Traced) (id : ContextId) → id.entry.0 ≡ length history → is_context history id ≡ false
not_there history id late =
    elim (context_at history id) as (λ o. context_at history id ≡ o → is_some o ≡ false) [
      | None ↦ λ nobody. refl
      | Some context ↦ λ found. (let before = context_at_earlier history id context found in absurd (omega (arith, late)))
    ] refl

both_ways : (k m o e : Bool) (c n : Option EntryNo) → o ≡ (k && is_none c) → (k ≡ false → (c ≡ None) × (n ≡ None)) → (m ≡ true → k ≡ false) → (o ≡ true → is_none n ≡ not e) →
    ((o && not e) || m) ≡ ((k || m) && is_none (option_or c n))
both_ways true true o e c n is away made closes = absurd (let no : true ≡ false = made refl in cc)
both_ways true false true e None n is away made closes = or_false (not e) ∙ sym (closes refl)
both_ways true false false e None n is away made closes = absurd cc
both_ways true false true e (Some x) n is away made closes = absurd cc
both_ways true false false e (Some x) n is away made closes = refl
both_ways false m true e c n is away made closes = absurd cc
both_ways false true false e c n is away made closes = sym (ap (λ o. is_none (option_or o n)) (away refl).0 ∙ ap is_none (away refl).1)
both_ways false false false e c n is away made closes = refl

none_where : (b : Bool) (at : EntryNo) → is_none (cond b (Some at) None) ≡ not b
none_where true at = refl
none_where false at = refl

pub open_is : (history : List Traced) (id : ContextId) → is_open history id ≡ (is_context history id && is_none (closed_at history id))
open_is history id =
    by_entries (λ history. is_open history id ≡ (is_context history id && is_none (closed_at history id)))
    (ap (list_any (is_context_of id)) (lasting_none open_context_kind) ∙ sym (ap (λ all. is_some (find (is_context_of id) all) && is_none (closed_at [] id)) (lasting_none context_kind)))
    (λ history new before.
    let p = is_context_of id in
    let accepted_so = is_accepted new.entry.reply in
    let made = made_by context_kind history new in
    let closings = made_by closing_kind history new in
    let e = accepted_so && closes history new.entry.pass new.entry.call id in
    let all_there : Each (λ (c : Closing). IsThere history c.context) closings =
    accepted (λ (c : Closing). IsThere history c.context) accepted_so (closing_made history new.entry.pass new.entry.call) (λ ok. made_there history new.entry.pass new.entry.call) in
    let closes_so : is_open history id ≡ true → is_none (closed_among id closings) ≡ not e = λ opened.
    elim accepted_so as (λ b. is_none (closed_among id (cond b (closing_made history new.entry.pass new.entry.call) [])) ≡ not (b && closes history new.entry.pass new.entry.call id)) [
      | true ↦ ap is_none (made_among history new.entry.pass new.entry.call id opened) ∙ none_where (closes history new.entry.pass new.entry.call id) (next_entry history)
      | false ↦ refl
    ] in
    ap (list_any p) (lasting-append open_context_kind history new)
    ∙ any_append p (filter (λ c. not (ended_by open_context_kind history new c)) (open_contexts history)) made
    ∙ ap (λ b. b || list_any p made) (any_kept history new id (open_contexts history))
    ∙ both_ways (is_context history id) (list_any p made) (is_open history id) e (closed_at history id) (closed_among id closings) before
    (λ away. (not_closed_yet history id away, away_among history id closings all_there away))
    (λ any. not_there history id (any_of id (length history) made (new_contexts_apart history new).keyed any))
    closes_so
    ∙ sym (ap (λ all. is_some (find p all) && is_none (closed_at (history ++ new ∷ []) id)) (contexts-append history new)
    ∙ ap (λ b. b && is_none (closed_at (history ++ new ∷ []) id)) (any_found p (contexts history ++ made) ∙ any_append p (contexts history) made ∙ ap (λ b. b || list_any p made) (sym (any_found p (contexts history))))
    ∙ ap (λ o. (is_context history id || list_any p made) && is_none o) (closed_more history new id))) history

-- ## The ways to close

-- an entry that closes one context
pub closed_by_one : (history : List Traced) (new : Traced) (id context : ContextId) → made_by closing_kind history new ≡ closing history context ∷ [] →
    closed_at (history ++ new ∷ []) id ≡ option_or (closed_at history id) (cond (same_context id context) (Some (next_entry history)) None)
closed_by_one history new id context one = closed_more history new id ∙ ap (λ made. option_or (closed_at history id) (closed_among id made)) one ∙ ap (option_or (closed_at history id)) (one_among history id (Some context))

or_open : (k o : Bool) (c : Option EntryNo) (at : EntryNo) → o ≡ (k && is_none c) → option_or c (cond o (Some at) None) ≡ option_or c (cond k (Some at) None)
or_open k o None at is = ap (λ b. cond b (Some at) None) (is ∙ and_true k)
or_open k o (Some x) at is = refl

-- an entry that closes each open context
pub closed_by_all : (history : List Traced) (new : Traced) (id : ContextId) → made_by closing_kind history new ≡ map (λ (context : Context). closing history context.id) (open_contexts history) →
    closed_at (history ++ new ∷ []) id ≡ option_or (closed_at history id) (cond (is_context history id) (Some (next_entry history)) None)
closed_by_all history new id all =
    closed_more history new id
    ∙ ap (λ made. option_or (closed_at history id) (closed_among id made)) all
    ∙ ap (option_or (closed_at history id)) (each_among history id (open_contexts history))
    ∙ or_open (is_context history id) (is_open history id) (closed_at history id) (next_entry history) (open_is history id)
