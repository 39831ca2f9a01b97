-- What an entry leaves of the things that tell of the lives of verticles, and what it makes of them.
use Rattle.std.proofs.Common.{◌≡◌, ℕ, ◌<◌, List, [], ◌∷◌, ◌++◌, length, refl, ap, ◌∙◌, subst, append-nil, arith}
use Rattle.std.specs.Prelude.{true, false, cond, not, ◌&&◌, filter, Option, None, Some}
use Rattle.std.specs.List.{list_any}
use Rattle.std.specs.Option.{option_and_then}
use Rattle.std.proofs.lemmas.List.{length_push}
use Rattle.std.proofs.lemmas.List.Elements.{filter_agree}
use Rattle.vx_data.specs.declared.ids.ContextId.{ContextId}
use Rattle.vx_data.specs.Ids.{same_context}
use Rattle.vx_tree.specs.Nodes.{without}
use Rattle.vx_call.specs.declared.history.Traced.{Traced}
use Rattle.vx_call.specs.History.{Kind, is_accepted, made_by, ended_by, lasting}
use Rattle.vx_call.specs.Starts.{Ending, is_ending, ending_among, ended_start, ended_stop, starter, stopper, start_ended, stop_ended, unstarted_kind, unstopped_kind, unstarted, unstopped, deployed_contexts}
use Rattle.vx_call.specs.Contexts.{contexts}
use Rattle.vx_call.proofs.Lasting.{lasting-append, lasting_same, lasting_more, filter_all, and_false}
use Rattle.vx_call.proofs.Each.{Each, weaken}
use Rattle.vx_call.proofs.Contexts.{same_context-swap}
use Rattle.vx_call.proofs.Filters.{filter_every}
use Rattle.vx_call.proofs.Once.{any_each}
use Rattle.vx_life_rows.proofs.Lists.{if_nothing}

-- ## Any kind

pub none_made : {A : Type 0} (kind : Kind A) (history : List Traced) (new : Traced) → kind.made history new ≡ [] → made_by kind history new ≡ []
none_made kind history new none = ap (λ xs. cond (is_accepted new.entry.reply) xs []) none ∙ if_nothing (is_accepted new.entry.reply)

pub none_ended : {A : Type 0} (kind : Kind A) (history : List Traced) (new : Traced) (x : A) → kind.ended history new x ≡ false → ended_by kind history new x ≡ false
none_ended kind history new x stays = ap (λ b. is_accepted new.entry.reply && b) stays ∙ and_false (is_accepted new.entry.reply)

-- an entry that makes none of a kind and ends none
pub kind_left : {A : Type 0} (kind : Kind A) (history : List Traced) (new : Traced) → kind.made history new ≡ [] → ((x : A) → kind.ended history new x ≡ false) → lasting kind (history ++ new ∷ []) ≡ lasting kind history
kind_left kind history new none stays = lasting_same kind history new (none_made kind history new none) (λ x. none_ended kind history new x (stays x))

-- an entry that is refused
pub refused_left : {A : Type 0} (kind : Kind A) (history : List Traced) (new : Traced) → is_accepted new.entry.reply ≡ false → lasting kind (history ++ new ∷ []) ≡ lasting kind history
refused_left kind history new refused =
    lasting_same kind history new (ap (λ b. cond b (kind.made history new) []) refused) (λ x. ap (λ b. b && kind.ended history new x) refused)

-- an entry that is accepted, and makes none of a kind
pub kind_less : {A : Type 0} (kind : Kind A) (history : List Traced) (new : Traced) → is_accepted new.entry.reply ≡ true → kind.made history new ≡ [] →
    lasting kind (history ++ new ∷ []) ≡ filter (λ x. not (kind.ended history new x)) (lasting kind history)
kind_less kind history new ok none =
    lasting-append kind history new ∙ ap (λ xs. filter (λ x. not (ended_by kind history new x)) (lasting kind history) ++ xs) (none_made kind history new none) ∙ append-nil _
    ∙ filter_agree _ _ (λ x. ap (λ b. not (b && kind.ended history new x)) ok) (lasting kind history)

-- ... and ends none
pub kind_more : {A : Type 0} (kind : Kind A) (history : List Traced) (new : Traced) → is_accepted new.entry.reply ≡ true → ((x : A) → kind.ended history new x ≡ false) →
    lasting kind (history ++ new ∷ []) ≡ lasting kind history ++ kind.made history new
kind_more kind history new ok stays =
    lasting_more kind history new (λ x. none_ended kind history new x (stays x)) ∙ ap (λ b. lasting kind history ++ cond b (kind.made history new) []) ok

-- things of an entry before are of an entry before the next one
pub still_earlier : {A : Type 0} (key : A → ℕ) (history : List Traced) (new : Traced) (xs : List A) → Each (λ x. key x < length history) xs → Each (λ x. key x < length (history ++ new ∷ [])) xs
still_earlier key history new xs earlier = weaken (λ x. key x < length history) (λ x. key x < length (history ++ new ∷ [])) xs (λ x less. let e = length_push history new in omega arith) earlier

-- ## Starts and stops

-- those that a start, or a stop, which may have ended before, is left out of
pub left_out : (contexts : List ContextId) (one : Option Ending) → option_and_then (ending_among contexts) one ≡ None → filter (λ c. not (is_ending c one)) contexts ≡ contexts
left_out contexts None none = filter_all (λ c. true) (λ c. refl) contexts
left_out contexts (Some ending) none =
    filter_every (λ c. not (same_context c ending.context)) contexts
    (weaken (λ c. same_context ending.context c ≡ false) (λ c. not (same_context c ending.context) ≡ true) contexts (λ c differs. ap not (same_context-swap c ending.context ∙ differs))
    (any_each (same_context ending.context) contexts
    (elim (list_any (same_context ending.context) contexts) as (λ b. cond b (Some ending) None ≡ None → b ≡ false) [ true ↦ λ h. absurd cc | false ↦ λ h. refl ] none)))

started_none : (history : List Traced) (o : Option Ending) → ended_start history o ≡ None → option_and_then (ending_among (unstarted history)) o ≡ None
started_none history None none = refl
started_none history (Some ending) none = none

stopped_none : (history : List Traced) (o : Option Ending) → ended_stop history o ≡ None → option_and_then (ending_among (unstopped history)) o ≡ None
stopped_none history None none = refl
stopped_none history (Some ending) none = none

module _ (history : List Traced) (new : Traced) (ok : is_accepted new.entry.reply ≡ true) (none : deployed_contexts history new.entry.call ≡ []) where
  -- an entry that ends no start
  pub unstarted_left : start_ended history new.entry.pass new.entry.call ≡ None → unstarted (history ++ new ∷ []) ≡ unstarted history
  unstarted_left no_start =
      kind_less unstarted_kind history new ok none ∙ left_out (unstarted history) (starter history new.entry.pass new.entry.call) (started_none history (starter history new.entry.pass new.entry.call) no_start)

  pub unstopped_left : stop_ended history new.entry.pass new.entry.call ≡ None → unstopped (history ++ new ∷ []) ≡ unstopped history
  unstopped_left no_stop =
      kind_less unstopped_kind history new ok none ∙ left_out (unstopped history) (stopper history new.entry.pass new.entry.call) (stopped_none history (stopper history new.entry.pass new.entry.call) no_stop)

  -- an entry that ends the start of a context
  pub unstarted_less : (one : Ending) → starter history new.entry.pass new.entry.call ≡ Some one → unstarted (history ++ new ∷ []) ≡ without one.context (unstarted history)
  unstarted_less one is_one =
      kind_less unstarted_kind history new ok none
      ∙ ap (λ o. filter (λ c. not (is_ending c o)) (unstarted history)) is_one
      ∙ filter_agree _ _ (λ c. ap not (same_context-swap c one.context)) (unstarted history)

  pub unstopped_less : (one : Ending) → stopper history new.entry.pass new.entry.call ≡ Some one → unstopped (history ++ new ∷ []) ≡ without one.context (unstopped history)
  unstopped_less one is_one =
      kind_less unstopped_kind history new ok none
      ∙ ap (λ o. filter (λ c. not (is_ending c o)) (unstopped history)) is_one
      ∙ filter_agree _ _ (λ c. ap not (same_context-swap c one.context)) (unstopped history)

-- the start that an entry ends was not ended before
pub start_is : (history : List Traced) (o : Option Ending) (one : Ending) → ended_start history o ≡ Some one → (o ≡ Some one) × (list_any (same_context one.context) (unstarted history) ≡ true)
start_is history None one ended = absurd cc
start_is history (Some ending) one ended =
    elim (list_any (same_context ending.context) (unstarted history)) as (λ b. list_any (same_context ending.context) (unstarted history) ≡ b → cond b (Some ending) None ≡ Some one → (Some ending ≡ Some one) × (list_any (same_context one.context) (unstarted history) ≡ true)) [
      | true ↦ λ among is_one. (is_one, (let e : ending ≡ one = cc in subst (λ (x : Ending). list_any (same_context x.context) (unstarted history) ≡ true) e among))
      | false ↦ λ not_among is_one. absurd cc
    ] refl ended

pub stop_is : (history : List Traced) (o : Option Ending) (one : Ending) → ended_stop history o ≡ Some one → (o ≡ Some one) × (list_any (same_context one.context) (unstopped history) ≡ true)
stop_is history None one ended = absurd cc
stop_is history (Some ending) one ended =
    elim (list_any (same_context ending.context) (unstopped history)) as (λ b. list_any (same_context ending.context) (unstopped history) ≡ b → cond b (Some ending) None ≡ Some one → (Some ending ≡ Some one) × (list_any (same_context one.context) (unstopped history) ≡ true)) [
      | true ↦ λ among is_one. (is_one, (let e : ending ≡ one = cc in subst (λ (x : Ending). list_any (same_context x.context) (unstopped history) ≡ true) e among))
      | false ↦ λ not_among is_one. absurd cc
    ] refl ended
