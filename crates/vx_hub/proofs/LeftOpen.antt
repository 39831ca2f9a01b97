-- The verticle of a context that closes goes with it: what the hub leaves out by its stores is what the history says.
use Rattle.std.proofs.Common.{◌≡◌, List, [], ◌∷◌, ◌++◌, refl, ap, sym, ◌∙◌}
use Rattle.std.specs.Prelude.{true, false, not, ◌&&◌, ◌||◌, ◌==◌, cond, is_some, is_none, filter, find, Option, None, Some}
use Rattle.std.specs.List.{list_any}
use Rattle.std.proofs.lemmas.List.{append-nil}
use Rattle.std.proofs.lemmas.List.Elements.{filter_agree}
use Rattle.std.specs.Option.{option_map, option_or, option_and_then}
use Rattle.vx_data.specs.declared.ids.ContextId.{ContextId}
use Rattle.vx_data.specs.declared.ids.PassNo.{PassNo}
use Rattle.vx_data.specs.Ids.{same_context}
use Rattle.vx_message.specs.declared.Context.{Context}
use Rattle.vx_message.specs.declared.DoneResult.{DoneResult}
use Rattle.vx_message.specs.declared.DoneResult.TheVariants as results
use Rattle.vx_message.specs.declared.Held.{Held}
use Rattle.vx_message.specs.declared.ItemKind.{ItemKind}
use Rattle.vx_message.specs.declared.Lane.{Lane}
use Rattle.vx_call.specs.declared.call.Call.{Call}
use Rattle.vx_call.specs.declared.call.Call.TheVariants as calls
use Rattle.vx_call.specs.declared.reply.Reply.{Reply}
use Rattle.vx_call.specs.declared.reply.Reply.TheVariants as replies
use Rattle.vx_call.specs.declared.reply.Task.{Task}
use Rattle.vx_call.specs.declared.reply.Task.TheVariants as tasks
use Rattle.vx_call.specs.declared.history.Traced.{Traced}
use Rattle.vx_call.specs.History.{is_accepted}
use Rattle.vx_call.specs.Contexts.{contexts, context_made, is_context, is_context_of}
use Rattle.vx_call.specs.Held.{context_held, held, held_context, held_kind, held_made, holding, is_of_context}
use Rattle.vx_call.specs.Starts.{Ending, ending, done_by, starts_in, stops_in, unstarted, unstopped, ended_start, ended_stop, failure_in, start_failed, stop_ended}
use Rattle.vx_call.specs.Closings.{context_in, closing_by, closes, open_context_kind, open_contexts, is_open}
use Rattle.vx_call.proofs.Closed.{open_is}
use Rattle.vx_call.proofs.Contexts.{same_context-swap}
use Rattle.vx_call.proofs.Each.{Each, Each-find, Each-filter, accepted, lasting_each}
use Rattle.vx_call.proofs.Once.{any_each, any_none}
use Rattle.vx_call.proofs.Lasting.{lasting-append}
use Rattle.vx_context.specs.Stores.{ContextStore, closed_in}
use Rattle.vx_context.specs.Stands.{ContextsStand}
use Rattle.vx_core_life.specs.Moving as moving
use Rattle.vx_instances.specs.Instances.{instances, is_of_verticle}
use Rattle.vx_instances.specs.Kept.{Kept, without, without_any}
use Rattle.vx_instances.proofs.Maps.{away_map}
use Rattle.vx_instances.proofs.Rows.{may_end, refused_same, verticles}
use Rattle.vx_hub.specs.Handing.{left_open}

-- ## What closes is the context whose handler the pass runs

-- a start or a stop that a pass holds is a handler's task of its context
record IsOfItsContext (held : Held) : Type 0 where
  pub start : (context : ContextId) → starts_in held.kind ≡ Some context → context_held held ≡ Some context
  pub stop : (context : ContextId) → stops_in held.kind ≡ Some context → context_held held ≡ Some context

task_of_its : (history : List Traced) (pass : PassNo) (lane : Lane) (task : Task) → Each IsOfItsContext (held_made history pass (calls.Take lane) (replies.Task task))
task_of_its history pass lane (tasks.Start context) = (record { start = λ c is. is; stop = λ c is. absurd cc }, tt)
task_of_its history pass lane (tasks.Stop context) = (record { start = λ c is. absurd cc; stop = λ c is. is }, tt)
task_of_its history pass lane _ = (record { start = λ c is. absurd cc; stop = λ c is. absurd cc }, tt)

made_of_its : (history : List Traced) (pass : PassNo) (call : Call) (reply : Reply) → Each IsOfItsContext (held_made history pass call reply)
made_of_its history pass (calls.Take lane) (replies.Task task) = task_of_its history pass lane task
made_of_its history pass _ _ = tt

held_of_its : (history : List Traced) → Each IsOfItsContext (held history)
held_of_its = lasting_each held_kind (λ history h. IsOfItsContext h) (λ history new h stays its. its)
    (λ history new. accepted IsOfItsContext (is_accepted new.entry.reply) (held_made history new.entry.pass new.entry.call new.entry.reply) (λ ok. made_of_its history new.entry.pass new.entry.call new.entry.reply))

-- the start that fails, if one does, is the one that was to end
start_named : (history : List Traced) (o : Option ContextId) (result : Option DoneResult) (context : ContextId) →
    option_map context_in (option_and_then (λ (e : Ending). failure_in e e.result) (ended_start history (ending o result))) ≡ Some context → o ≡ Some context
start_named history None result context is = absurd cc
start_named history (Some c) None context is = absurd cc
start_named history (Some c) (Some result) context is =
    elim (list_any (same_context c) (unstarted history)) as (λ b. option_map context_in (option_and_then (λ (e : Ending). failure_in e e.result) (cond b (Some (record { context = c; result = result })) None)) ≡ Some context → Some c ≡ Some context) [
      | true ↦ failed result
      | false ↦ λ none. absurd cc
    ] is
  where
    failed : (r : DoneResult) → option_map context_in (failure_in (record { context = c; result = r }) r) ≡ Some context → Some c ≡ Some context
    failed results.Ok none = absurd cc
    failed _ its = its

-- the stop that ends, if one does, is the one that was to end
stop_named : (history : List Traced) (o : Option ContextId) (result : Option DoneResult) (context : ContextId) → option_map context_in (ended_stop history (ending o result)) ≡ Some context → o ≡ Some context
stop_named history None result context is = absurd cc
stop_named history (Some c) None context is = absurd cc
stop_named history (Some c) (Some result) context is =
    elim (list_any (same_context c) (unstopped history)) as (λ b. option_map context_in (cond b (Some (record { context = c; result = result })) None) ≡ Some context → Some c ≡ Some context) [
      | true ↦ λ its. its
      | false ↦ λ none. absurd cc
    ] is

one_or_other : (a b : Option ContextId) (context : ContextId) (P : Type 0) → (a ≡ Some context → P) → (b ≡ Some context → P) → option_or a b ≡ Some context → P
one_or_other None b context P first second is = second is
one_or_other (Some c) b context P first second is = first is

held_named : (history : List Traced) (o : Option Held) (ends : ItemKind → Option ContextId) (context : ContextId) → ((h : Held) → o ≡ Some h → ends h.kind ≡ Some context → context_held h ≡ Some context) →
    option_and_then (λ (h : Held). ends h.kind) o ≡ Some context → option_and_then context_held o ≡ Some context
held_named history None ends context its is = absurd cc
held_named history (Some h) ends context its is = its h refl is

-- the context that a call closes, if it closes one, is that whose handler the pass runs
pub closes_held : (history : List Traced) (pass : PassNo) (call : Call) (context : ContextId) → closing_by history pass call ≡ Some context → held_context history pass ≡ Some context
closes_held history pass (calls.StartDone result) context is =
    let held = held_context history pass in
    one_or_other (option_map context_in (start_failed history pass (calls.StartDone result))) None context (held ≡ Some context) (start_named history held (Some result) context) (λ none. absurd cc) is
closes_held history pass calls.StopDone context is =
    let held = held_context history pass in
    one_or_other None (option_map context_in (stop_ended history pass calls.StopDone)) context (held ≡ Some context) (λ none. absurd cc) (stop_named history held (Some results.Ok) context) is
closes_held history pass (calls.Finish end) context is =
    let o = holding history pass in
    let its : (h : Held) → o ≡ Some h → IsOfItsContext h = λ h found. Each-find IsOfItsContext (λ (x : Held). x.pass.0 == pass.0) (held history) h (held_of_its history) found in
    let started : option_and_then (λ (h : Held). starts_in h.kind) o ≡ Some context → held_context history pass ≡ Some context = held_named history o starts_in context (λ h found. (its h found).start context) in
    let stopped : option_and_then (λ (h : Held). stops_in h.kind) o ≡ Some context → held_context history pass ≡ Some context = held_named history o stops_in context (λ h found. (its h found).stop context) in
    one_or_other (option_map context_in (start_failed history pass (calls.Finish end))) (option_map context_in (stop_ended history pass (calls.Finish end))) context (held_context history pass ≡ Some context)
    (λ failed. started (start_named history (option_and_then (λ (h : Held). starts_in h.kind) o) (done_by end) context failed))
    (λ ended. stopped (stop_named history (option_and_then (λ (h : Held). stops_in h.kind) o) (done_by end) context ended)) is
closes_held history pass _ context is = absurd cc

-- ## It is not open behind the entry, and nothing is kept of a context that is not open

none_passes : (id : ContextId) (cs : List Context) → list_any (is_context_of id) (filter (λ (c : Context). not (same_context c.id id)) cs) ≡ false
none_passes id [] = refl
none_passes id (c ∷ cs) =
    let rest = filter (λ (x : Context). not (same_context x.id id)) cs in
    elim (same_context c.id id) as (λ b. same_context c.id id ≡ b → list_any (is_context_of id) (cond (not b) (c ∷ rest) rest) ≡ false) [
      | true ↦ λ here. none_passes id cs
      | false ↦ λ other. ap (λ b. b || list_any (is_context_of id) rest) (same_context-swap id c.id ∙ other) ∙ none_passes id cs
    ] refl

pub away : (history : List Traced) (id : ContextId) → is_open history id ≡ false → without id (instances history) ≡ instances history
away history id shut =
    let IsOther : Context → Type 0 = λ c. is_context_of id c ≡ false in
    (away_map history id (verticles history)
    (any_none (is_context_of id) (verticles history) (Each-filter IsOther IsOther is_of_verticle (open_contexts history) (λ c passes other. other) (any_each (is_context_of id) (open_contexts history) shut)))).gone

pub open_as : (contexts : ContextStore) (history : List Traced) (id : ContextId) → ContextsStand contexts history → moving.is_open_in contexts id ≡ is_open history id
open_as contexts history id stands =
    ap (λ cs. is_some (find (is_context_of id) cs) && is_none (closed_in id contexts.closings)) stands.made ∙ ap (λ o. is_context history id && is_none o) (stands.closings id) ∙ sym (open_is history id)

module _ (history : List Traced) (new : Traced) (may : may_end new.entry.call ≡ true) where
  abbrev after : List Traced
  after = history ++ new ∷ []

  abbrev closing : Option ContextId
  closing = closing_by history new.entry.pass new.entry.call

  closes_as : (call : Call) → may_end call ≡ true → (id : ContextId) → closes history new.entry.pass call id ≡ is_of_context id (closing_by history new.entry.pass call)
  closes_as (calls.StartDone result) ends id = refl
  closes_as calls.StopDone ends id = refl
  closes_as (calls.Finish end) ends id = refl
  closes_as _ ends id = absurd cc

  makes_none : (call : Call) → may_end call ≡ true → context_made history new.entry.pass call ≡ []
  makes_none (calls.StartDone result) ends = refl
  makes_none calls.StopDone ends = refl
  makes_none (calls.Finish end) ends = refl
  makes_none _ ends = absurd cc

  open_next : is_accepted new.entry.reply ≡ true → open_contexts after ≡ filter (λ (c : Context). not (is_of_context c.id closing)) (open_contexts history)
  open_next ok =
      lasting-append open_context_kind history new
      ∙ ap (λ b. filter (λ (c : Context). not (b && closes history new.entry.pass new.entry.call c.id)) (open_contexts history) ++ cond b (context_made history new.entry.pass new.entry.call) []) ok
      ∙ ap (λ cs. filter (λ (c : Context). not (closes history new.entry.pass new.entry.call c.id)) (open_contexts history) ++ cs) (makes_none new.entry.call may)
      ∙ append-nil _
      ∙ filter_agree (λ (c : Context). not (closes history new.entry.pass new.entry.call c.id)) (λ (c : Context). not (is_of_context c.id closing)) (λ c. ap not (closes_as new.entry.call may c.id)) (open_contexts history)

  -- where none closes each is as open as before
  as_open : is_accepted new.entry.reply ≡ true → closing ≡ None → (id : ContextId) → is_open after id ≡ is_open history id
  as_open ok none id =
      ap (list_any (is_context_of id)) (open_next ok ∙ ap (λ o. filter (λ (c : Context). not (is_of_context c.id o)) (open_contexts history)) none ∙ all_pass (open_contexts history))
    where
      all_pass : (cs : List Context) → filter (λ (c : Context). true) cs ≡ cs
      all_pass [] = refl
      all_pass (c ∷ cs) = ap (λ xs. c ∷ xs) (all_pass cs)

  -- what is kept without this context, where it is not open any more
  abbrev pub remaining : Option ContextId → List Kept → List Kept
  remaining None kept = kept
  remaining (Some id) kept = cond (is_open after id) kept (without id kept)

  none_goes : ((id : ContextId) → is_open after id ≡ is_open history id) → (o : Option ContextId) → remaining o (instances history) ≡ instances history
  none_goes same None = refl
  none_goes same (Some id) =
      elim (is_open history id) as (λ b. is_open history id ≡ b → cond (is_open after id) (instances history) (without id (instances history)) ≡ instances history) [
        | true ↦ λ here. ap (λ b. cond b (instances history) (without id (instances history))) (same id ∙ here)
        | false ↦ λ shut. ap (λ b. cond b (instances history) (without id (instances history))) (same id ∙ shut) ∙ away history id shut
      ] refl

  pub left_is : is_accepted new.entry.reply ≡ true → remaining (held_context history new.entry.pass) (instances history) ≡ without_any closing (instances history)
  left_is ok =
      elim closing as (λ o. closing ≡ o → remaining (held_context history new.entry.pass) (instances history) ≡ without_any o (instances history)) [
        | None ↦ λ none. none_goes (as_open ok none) (held_context history new.entry.pass)
        | Some id ↦ λ its.
            (let shut : is_open after id ≡ false =
            ap (list_any (is_context_of id)) (open_next ok ∙ ap (λ o. filter (λ (c : Context). not (is_of_context c.id o)) (open_contexts history)) its) ∙ none_passes id (open_contexts history) in
            ap (λ o. remaining o (instances history)) (closes_held history new.entry.pass new.entry.call id its) ∙ ap (λ b. cond b (instances history) (without id (instances history))) shut)
      ] refl

  pub left_refused : is_accepted new.entry.reply ≡ false → remaining (held_context history new.entry.pass) (instances history) ≡ instances history
  left_refused refused = none_goes (λ id. ap (list_any (is_context_of id)) (refused_same open_context_kind history new refused)) (held_context history new.entry.pass)

  -- the stores know which contexts are open
  pub left_as : (contexts : ContextStore) → ContextsStand contexts after → (o : Option ContextId) (kept : List Kept) → left_open contexts o kept ≡ remaining o kept
  left_as contexts stands None kept = refl
  left_as contexts stands (Some id) kept = ap (λ b. cond b kept (without id kept)) (open_as contexts after id stands)
