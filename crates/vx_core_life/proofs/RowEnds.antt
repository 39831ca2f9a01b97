-- Starts and stops that end.
use Rattle.std.proofs.Common.{◌≡◌, ℕ, List, [], ◌∷◌, ◌++◌, refl, ap, sym, ◌∙◌, subst, append-nil}
use Rattle.std.specs.Prelude.{Bool, true, false, ◌||◌, cond, map, is_some, Option, None, Some}
use Rattle.std.specs.List.{flat_map, list_any}
use Rattle.std.specs.Option.{option_map, option_or, option_and_then}
use Rattle.vx_data.specs.declared.ids.ContextId.{ContextId}
use Rattle.vx_data.specs.declared.ids.EntryNo.{EntryNo}
use Rattle.vx_data.specs.Ids.{same_context}
use Rattle.vx_message.specs.declared.DoneResult.{DoneResult}
use Rattle.vx_message.specs.declared.DoneResult.TheVariants as results
use Rattle.vx_timer.specs.declared.timers.Timer.{Timer}
use Rattle.vx_tree.specs.Nodes.{without, is_known, deployment_of}
use Rattle.vx_call.specs.declared.history.Traced.{Traced}
use Rattle.vx_call.specs.Askings.{asked_by}
use Rattle.vx_call.specs.Closings.{closing_by, context_in, open_contexts, ClosesOne}
use Rattle.vx_call.specs.Coming.{moves_on, awaited, coming_if}
use Rattle.vx_call.specs.Deployments.{deployed_ids}
use Rattle.vx_call.specs.Ends.{is_deployed, stops_now}
use Rattle.vx_call.specs.Items.{placed}
use Rattle.vx_call.specs.declared.reply.Task.TheVariants as tasks
use Rattle.vx_call.specs.Lives.{Ready, deploy_end, undeploy_end, open_ones, ends_and_stops}
use Rattle.vx_call.specs.Machine.{IsLegal}
use Rattle.vx_call.specs.Starts.{Ending, deployed_contexts, failure_in, start_ended, start_failed, starter, stop_ended, stopper, ended_start, ended_stop, unstarted}
use Rattle.vx_call.specs.There.{is_gone}
use Rattle.vx_call.proofs.Below.{children_asked}
use Rattle.vx_call.proofs.Contexts.{same_context-true}
use Rattle.vx_call.proofs.Each.{Each}
use Rattle.vx_life.specs.Stores.{LifeStore, started_in, closed_in as closed_tree}
use Rattle.vx_life.specs.Stands.{PartsStand, IsBehind}
use Rattle.vx_life.specs.Steps.{Fails}
use Rattle.vx_life_rows.specs.Moves.{IsStill, is_deploy}
use Rattle.vx_life_rows.proofs.Facts.{was_made, unstarted_made}
use Rattle.vx_life_rows.proofs.Left.{start_is, stop_is}
use Rattle.vx_life_rows.proofs.RowStill.{ends_none, life_still, call_ends}
use Rattle.vx_life_rows.proofs.RowEnds.{life_started, life_failed, life_stopped, start_alone, stop_alone}
use Rattle.vx_context.specs.Stores.{ContextStore, item_of}
use Rattle.vx_context.specs.Stands.{IsNext}
use Rattle.vx_bus_store.specs.Stores.{BusStore}
use Rattle.vx_bus_closing.specs.Closing.{BusCloses}
use Rattle.vx_core_life.specs.Ending.{IsOver, MayEnd}
use Rattle.vx_core_life.specs.declared.over.Over.TheVariants as overs
use Rattle.vx_core_life.specs.Moving.{AreApart, tellings, said, telling_items}
use Rattle.vx_core_life.specs.Stands.{AllStand, StandButHeld}
use Rattle.vx_core_life.proofs.EndsOpen.{open_stands}
use Rattle.vx_core_life.proofs.RowMoving.{brought_on}

-- ## Which entries bring deployments on, and close contexts

or_true : (b : Bool) → (b || true) ≡ true
or_true true = refl
or_true false = refl

start_moves : (history : List Traced) (new : Traced) (one : Ending) → start_ended history new.entry.pass new.entry.call ≡ Some one → moves_on history new.entry.pass new.entry.call ≡ true
start_moves history new one started =
    let asked = is_some (asked_by history new.entry.pass new.entry.call) in
    ap (λ o. asked || (is_some o || is_some (stop_ended history new.entry.pass new.entry.call))) started ∙ or_true asked

stop_moves : (history : List Traced) (new : Traced) (one : Ending) → stop_ended history new.entry.pass new.entry.call ≡ Some one → moves_on history new.entry.pass new.entry.call ≡ true
stop_moves history new one stopped =
    let asked = is_some (asked_by history new.entry.pass new.entry.call) in
    let started = is_some (start_ended history new.entry.pass new.entry.call) in
    ap (λ o. asked || (started || is_some o)) stopped ∙ ap (λ b. asked || b) (or_true started) ∙ or_true asked

deploys_none : (history : List Traced) (new : Traced) → MayEnd new → is_deploy new.entry.call ≡ false
deploys_none history new may = (call_ends history new.entry.pass new.entry.call new.entry.reply may.call).deploys

-- an entry that ends a start ends no stop
no_stop : (history : List Traced) (new : Traced) (one : Ending) → start_ended history new.entry.pass new.entry.call ≡ Some one → stop_ended history new.entry.pass new.entry.call ≡ None
no_stop history new one started =
    ap (ended_stop history) (start_alone history new.entry.pass new.entry.call one (start_is history (starter history new.entry.pass new.entry.call) one started).0)

-- what fails has ended
failure_ended : (o : Option Ending) (one : Ending) → option_and_then (λ (e : Ending). failure_in e e.result) o ≡ Some one → o ≡ Some one
failure_ended None one failed = absurd cc
failure_ended (Some e) one failed = ap (λ x. Some x) (failed_is e e.result one failed)
  where
    failed_is : (e : Ending) (result : DoneResult) (one : Ending) → failure_in e result ≡ Some one → e ≡ one
    failed_is e results.Ok one failed = absurd cc
    failed_is e _ one failed = cc

closing_as : (history : List Traced) (new : Traced) (failed stopped : Option Ending) → start_failed history new.entry.pass new.entry.call ≡ failed → stop_ended history new.entry.pass new.entry.call ≡ stopped →
    closing_by history new.entry.pass new.entry.call ≡ option_or (option_map context_in failed) (option_map context_in stopped)
closing_as history new failed stopped is_failed is_stopped =
    ap (λ o. option_or (option_map context_in o) (option_map context_in (stop_ended history new.entry.pass new.entry.call))) is_failed
    ∙ ap (λ o. option_or (option_map context_in failed) (option_map context_in o)) is_stopped

-- ## Nothing ends

nothing_comes : (history : List Traced) (new : Traced) → moves_on history new.entry.pass new.entry.call ≡ false → ends_and_stops history new ≡ []
nothing_comes history new still =
    let after = history ++ new ∷ [] in
    ap (λ b. open_ones (open_contexts after)
    (flat_map (deploy_end after) (coming_if (awaited deployed_ids is_deployed) is_deployed history new b)
    ++ (flat_map (undeploy_end after) (coming_if (awaited deployed_ids is_gone) is_gone history new b)
    ++ map (λ context. let ready : Ready = record { context = context; task = tasks.Stop context } in ready) (coming_if (awaited deployed_contexts stops_now) stops_now history new b)))) still

still_moves : (history : List Traced) (new : Traced) → IsStill history new → moves_on history new.entry.pass new.entry.call ≡ false
still_moves history new still =
    ap (λ o. is_some o || (is_some (start_ended history new.entry.pass new.entry.call) || is_some (stop_ended history new.entry.pass new.entry.call))) still.calm.asks
    ∙ ap (λ o. is_some o || is_some (stop_ended history new.entry.pass new.entry.call)) still.calm.starts
    ∙ ap is_some still.calm.stops

pub nothing_ends : (life : LifeStore) (contexts_then : ContextStore) (timers : List Timer) (bus : BusStore) (history : List Traced) (new : Traced) → AllStand life contexts_then timers bus history → MayEnd new →
    start_ended history new.entry.pass new.entry.call ≡ None → stop_ended history new.entry.pass new.entry.call ≡ None → StandButHeld life contexts_then timers bus contexts_then.held (history ++ new ∷ [])
nothing_ends life contexts_then timers bus history new stands may no_start none_stops =
    let still = ends_none history new may.call no_start none_stops in
    let closes = open_stands history new may (closing_as history new None None (ap (option_and_then (λ (e : Ending). failure_in e e.result)) no_start) none_stops) contexts_then timers bus stands.stores in
    record {
      stored = closes.stored;
      made = closes.made;
      closings = closes.closings;
      held = refl;
      pools = closes.pools;
      waiting = sym (append-nil _)
          ∙ ap (λ ready. contexts_then.waiting ++ map (item_of (history ++ new ∷ [])) (placed history 0 ready)) (sym (nothing_comes history new (still_moves history new still)))
          ∙ closes.waiting;
      timers = closes.timers;
      bus = closes.bus;
      lives = life_still history new still life stands.lives;
    }

-- ## A start ends

module _ (life : LifeStore) (contexts_then : ContextStore) (timers : List Timer) (bus : BusStore) (history : List Traced) (new : Traced) (at : EntryNo) (context : ContextId)
    (stands : AllStand life contexts_then timers bus history) (may : MayEnd new) (is_next : IsNext at history) where
  -- well
  pub ends_well : (now new_life : LifeStore) (new_contexts : ContextStore) → start_ended history new.entry.pass new.entry.call ≡ Some (record { context = context; result = results.Ok }) →
      now ≡ record life { tree = started_in context life.tree } → (AreApart now → new_life ≡ said now) →
      (AreApart now → new_contexts ≡ record contexts_then { waiting = contexts_then.waiting ++ telling_items contexts_then at 0 (tellings now); owed = new_contexts.owed; room = new_contexts.room }) →
      StandButHeld new_life new_contexts timers bus contexts_then.held (history ++ new ∷ [])
  ends_well now new_life new_contexts started is_now is_said is_told =
      let one : Ending = record { context = context; result = results.Ok } in
      let B : LifeStore → Type 0 = λ l. IsBehind l history (history ++ new ∷ []) in
      let behind : IsBehind now history (history ++ new ∷ []) = subst B (sym is_now) (life_started history new may.accepted may.call one started refl life stands.lives) in
      let none = closing_as history new None None (ap (option_and_then (λ (e : Ending). failure_in e e.result)) started) (no_stop history new one started) in
      brought_on now new_life contexts_then new_contexts timers bus contexts_then.held at 0 history new (open_stands history new may none contexts_then timers bus stands.stores) behind may.accepted (deploys_none history new may) (start_moves history new one started) is_next refl is_said is_told

  -- or not: its context closes
  pub failure_closes : (result : DoneResult) → start_failed history new.entry.pass new.entry.call ≡ Some (record { context = context; result = result }) → ClosesOne history new context
  failure_closes result failed =
      let one : Ending = record { context = context; result = result } in
      let started = failure_ended (start_ended history new.entry.pass new.entry.call) one failed in
      record { accepted = may.accepted; mark = may.mark; closing = closing_as history new (Some one) None failed (no_stop history new one started) }

  pub ends_failed : (now new_life : LifeStore) (closed new_contexts : ContextStore) (new_timers : List Timer) (new_bus : BusStore) (place : ℕ) (result : DoneResult) → IsLegal history →
      start_failed history new.entry.pass new.entry.call ≡ Some (record { context = context; result = result }) → BusCloses closed new_timers new_bus history new place → closed.held ≡ contexts_then.held →
      Fails context result at life now → (AreApart now → new_life ≡ said now) →
      (AreApart now → new_contexts ≡ record closed { waiting = closed.waiting ++ telling_items closed at place (tellings now); owed = new_contexts.owed; room = new_contexts.room }) →
      StandButHeld new_life new_contexts new_timers new_bus contexts_then.held (history ++ new ∷ [])
  ends_failed now new_life closed new_contexts new_timers new_bus place result legal failed closes held fails is_said is_told =
      let one : Ending = record { context = context; result = result } in
      let started = failure_ended (start_ended history new.entry.pass new.entry.call) one failed in
      let entry : ℕ → EntryNo = λ n. record { 0 = n } in
      let F : EntryNo → Type 0 = λ e. Fails context result e life now in
      let behind = life_failed history new may.accepted may.call one started (children_asked history legal) failed life now (subst F (ap entry is_next) fails) stands.lives in
      brought_on now new_life closed new_contexts new_timers new_bus contexts_then.held at place history new closes behind may.accepted (deploys_none history new may) (start_moves history new one started) is_next held is_said is_told

  -- ## A stop ends

  no_failure : (one : Ending) → stop_ended history new.entry.pass new.entry.call ≡ Some one → start_failed history new.entry.pass new.entry.call ≡ None
  no_failure one stopped =
      ap (λ o. option_and_then (λ (e : Ending). failure_in e e.result) (ended_start history o)) (stop_alone history new.entry.pass new.entry.call one (stop_is history (stopper history new.entry.pass new.entry.call) one stopped).0)

  pub stop_closes : (result : DoneResult) → stop_ended history new.entry.pass new.entry.call ≡ Some (record { context = context; result = result }) → ClosesOne history new context
  stop_closes result stopped =
      let one : Ending = record { context = context; result = result } in
      record { accepted = may.accepted; mark = may.mark; closing = closing_as history new None (Some one) (no_failure one stopped) stopped }

  pub ends_stop : (now new_life : LifeStore) (closed new_contexts : ContextStore) (new_timers : List Timer) (new_bus : BusStore) (place : ℕ) (result : DoneResult) →
      stop_ended history new.entry.pass new.entry.call ≡ Some (record { context = context; result = result }) → BusCloses closed new_timers new_bus history new place → closed.held ≡ contexts_then.held →
      now ≡ record life { tree = closed_tree context life.tree; unstopped = without context life.unstopped } → (AreApart now → new_life ≡ said now) →
      (AreApart now → new_contexts ≡ record closed { waiting = closed.waiting ++ telling_items closed at place (tellings now); owed = new_contexts.owed; room = new_contexts.room }) →
      StandButHeld new_life new_contexts new_timers new_bus contexts_then.held (history ++ new ∷ [])
  ends_stop now new_life closed new_contexts new_timers new_bus place result stopped closes held is_now is_said is_told =
      let one : Ending = record { context = context; result = result } in
      let B : LifeStore → Type 0 = λ l. IsBehind l history (history ++ new ∷ []) in
      let behind : IsBehind now history (history ++ new ∷ []) = subst B (sym is_now) (life_stopped history new may.accepted may.call one stopped life stands.lives) in
      brought_on now new_life closed new_contexts new_timers new_bus contexts_then.held at place history new closes behind may.accepted (deploys_none history new may) (stop_moves history new one stopped) is_next held is_said is_told

-- ## What is pending

-- what holds of each context of verticles whose start did not end
among : (P : ContextId → Type 0) (context : ContextId) (ids : List ContextId) → Each P ids → list_any (same_context context) ids ≡ true → P context
among P context [] each any = absurd cc
among P context (id ∷ others) each any =
    elim (same_context context id) as (λ b. same_context context id ≡ b → (b || list_any (same_context context) others) ≡ true → P context) [
      | true ↦ λ same found. subst P (sym (same_context-true context id same)) each.0
      | false ↦ λ other found. among P context others each.1 found
    ] refl any

-- its deployment is known
pub known_pending : (history : List Traced) (life : LifeStore) (context : ContextId) → PartsStand life history → list_any (same_context context) life.tree.starting ≡ true → is_known (deployment_of context) life.tree.asked ≡ true
known_pending history life context parts pending =
    parts.known (deployment_of context)
    ∙ among (λ c. was_made history (deployment_of c) ≡ true) context (unstarted history) (unstarted_made history) (sym (ap (list_any (same_context context)) parts.starting) ∙ pending)

-- a start ends, if it is pending
pub start_if : (history : List Traced) (new : Traced) (life : LifeStore) (one : Ending) (pending : Bool) → PartsStand life history → starter history new.entry.pass new.entry.call ≡ Some one → list_any (same_context one.context) life.tree.starting ≡ pending →
    start_ended history new.entry.pass new.entry.call ≡ cond pending (Some one) None
start_if history new life one pending parts starts is_pending =
    ap (ended_start history) starts ∙ ap (λ ids. cond (list_any (same_context one.context) ids) (Some one) None) (sym parts.starting) ∙ ap (λ b. cond b (Some one) None) is_pending

-- ... and a stop
pub stop_if : (history : List Traced) (new : Traced) (life : LifeStore) (one : Ending) (pending : Bool) → PartsStand life history → stopper history new.entry.pass new.entry.call ≡ Some one → list_any (same_context one.context) life.unstopped ≡ pending →
    stop_ended history new.entry.pass new.entry.call ≡ cond pending (Some one) None
stop_if history new life one pending parts stopping is_pending =
    ap (ended_stop history) stopping ∙ ap (λ ids. cond (list_any (same_context one.context) ids) (Some one) None) (sym parts.unstopped) ∙ ap (λ b. cond b (Some one) None) is_pending

-- the stop of a context, with how it ends
pub stopping_of : (context : ContextId) (o : Option Ending) → option_map context_in o ≡ Some context → (result : DoneResult) × (o ≡ Some (record { context = context; result = result }))
stopping_of context None is = absurd cc
stopping_of context (Some one) is =
    let same : one.context ≡ context = cc in
    (one.result, ap (λ c. let e : Ending = record { context = c; result = one.result } in Some e) same)

none_stopping : (o : Option Ending) → None ≡ option_map context_in o → o ≡ None
none_stopping None is = refl
none_stopping (Some one) is = absurd cc

-- ## An entry that ends nothing

-- a start that is not pending
pub no_start_ends : (life : LifeStore) (contexts_then : ContextStore) (timers : List Timer) (bus : BusStore) (history : List Traced) (new : Traced) (one : Ending) → AllStand life contexts_then timers bus history → MayEnd new →
    starter history new.entry.pass new.entry.call ≡ Some one → list_any (same_context one.context) life.tree.starting ≡ false → StandButHeld life contexts_then timers bus contexts_then.held (history ++ new ∷ [])
no_start_ends life contexts_then timers bus history new one stands may starts is_pending =
    nothing_ends life contexts_then timers bus history new stands may (start_if history new life one false stands.lives.parts starts is_pending) (ap (ended_stop history) (start_alone history new.entry.pass new.entry.call one starts))

-- a stop that is not pending
pub no_stop_ends : (life : LifeStore) (contexts_then : ContextStore) (timers : List Timer) (bus : BusStore) (history : List Traced) (new : Traced) (one : Ending) → AllStand life contexts_then timers bus history → MayEnd new →
    stopper history new.entry.pass new.entry.call ≡ Some one → list_any (same_context one.context) life.unstopped ≡ false → StandButHeld life contexts_then timers bus contexts_then.held (history ++ new ∷ [])
no_stop_ends life contexts_then timers bus history new one stands may stopping is_pending =
    nothing_ends life contexts_then timers bus history new stands may (ap (ended_start history) (stop_alone history new.entry.pass new.entry.call one stopping)) (stop_if history new life one false stands.lives.parts stopping is_pending)

-- neither a start nor a stop
pub neither_ends : (life : LifeStore) (contexts_then : ContextStore) (timers : List Timer) (bus : BusStore) (history : List Traced) (new : Traced) → AllStand life contexts_then timers bus history → MayEnd new →
    IsOver history new.entry.pass new.entry.call overs.Nothing → StandButHeld life contexts_then timers bus contexts_then.held (history ++ new ∷ [])
neither_ends life contexts_then timers bus history new stands may is_over =
    nothing_ends life contexts_then timers bus history new stands may (ap (ended_start history) (sym is_over.start)) (ap (ended_stop history) (none_stopping (stopper history new.entry.pass new.entry.call) is_over.stop))
