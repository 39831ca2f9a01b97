-- What the stores stand for once a context has closed, or all have.
use Rattle.std.proofs.Common.{◌≡◌, ℕ, ◌+◌, List, [], ◌∷◌, ◌++◌, length, refl, ap, sym, ◌∙◌, append_assoc, append-nil, arith}
use Rattle.std.specs.Prelude.{Bool, true, false, not, cond, ◌&&◌, map, filter, find, is_some, Option, None, Some}
use Rattle.std.specs.Option.{option_map, option_or}
use Rattle.std.specs.List.{cons_option}
use Rattle.std.proofs.lemmas.List.{map-append}
use Rattle.vx_data.specs.declared.ids.ConsumerId.{ConsumerId}
use Rattle.vx_data.specs.declared.ids.ContextId.{ContextId}
use Rattle.vx_data.specs.declared.ids.EntryNo.{EntryNo}
use Rattle.vx_data.specs.declared.ids.MessageId.{MessageId}
use Rattle.vx_data.specs.declared.ids.PassNo.{PassNo}
use Rattle.vx_data.specs.Ids.{same_context}
use Rattle.vx_message.specs.declared.Context.{Context}
use Rattle.vx_message.specs.declared.Item.{Item}
use Rattle.vx_timer.specs.declared.timers.Timer.{Timer}
use Rattle.vx_ring.specs.Rings as ring
use Rattle.vx_request.specs.declared.leaver.Leaver.{Leaver}
use Rattle.vx_request.specs.declared.leaver.Leaver.TheVariants as leavers
use Rattle.vx_request.specs.declared.requests.OpenRequest.{OpenRequest}
use Rattle.vx_request.specs.Leaving.{has_context}
use Rattle.vx_request.specs.Stores.{is_request, ended_at, given_at}
use Rattle.vx_call.specs.declared.call.Call.{Call}
use Rattle.vx_call.specs.declared.call.Call.TheVariants as calls
use Rattle.vx_call.specs.declared.reply.Reply.TheVariants as replies
use Rattle.vx_call.specs.declared.reply.Task.{Task}
use Rattle.vx_call.specs.declared.history.Consumer.{Consumer}
use Rattle.vx_call.specs.declared.history.Traced.{Traced}
use Rattle.vx_call.specs.History.{plain_entry, no_mark}
use Rattle.vx_call.specs.Built.{is_stored, IsStored, AreStored}
use Rattle.vx_call.specs.Names.{next_entry}
use Rattle.vx_call.specs.Contexts.{contexts as made_contexts, is_context_of}
use Rattle.vx_call.specs.Closings.{ClosesOne}
use Rattle.vx_call.specs.Consumers.{consumers, handlers}
use Rattle.vx_call.specs.Choices.{is_empty, choices}
use Rattle.vx_call.specs.Given.{context_of}
use Rattle.vx_call.specs.Askers.{context_asking}
use Rattle.vx_call.specs.Requests.{Open, unsettled, by_due, closes_asker}
use Rattle.vx_call.specs.Settled.{no_handlers, settlement, settlements, settled_at}
use Rattle.vx_call.specs.Homes.{Heard, heard_by, heard}
use Rattle.vx_call.specs.Lives.{Ready, ready_outcomes, ends_and_stops, life_tasks}
use Rattle.vx_call.specs.Items.{Waiting, outcome_items, outcome_tasks, placed, untaken, waiting}
use Rattle.vx_call.specs.Rows.{ids_of}
use Rattle.vx_call.specs.Machine.{IsLegal}
use Rattle.vx_call.proofs.Each.{Each, Each-filter, weaken}
use Rattle.vx_call.proofs.Filters.{filter_no}
use Rattle.vx_call.proofs.Contexts.{same_context-swap}
use Rattle.vx_call.proofs.Opened.{unsettled_apart}
use Rattle.vx_call.proofs.Stored.{stored_more, IsAskedByContext, unsettled_of_contexts}
use Rattle.vx_call.specs.Held.{held_kind, is_of_context}
use Rattle.vx_call.proofs.Lasting.{lasting_same}
use Rattle.vx_call.proofs.Closing.{may_close_one, closing_one}
use Rattle.vx_call.proofs.ClosedWith as closed
use Rattle.vx_call.proofs.ClosedWith.{is_gone, is_of_gone, asker_gone, failing, ClosesContexts, one_call, one_closes, close_entry, all_close}
use Rattle.vx_call.proofs.OpenAskers.{AsksOpen, askers_open}
use Rattle.vx_call.proofs.Told.{IsTold, untaken_told, told_context}
use Rattle.vx_call.proofs.FirstOutcomes.{hearing, outcomes_placed, outcomes_first, hearing_now}
use Rattle.vx_context.specs.Stores.{ContextStore, closed_in, item_of}
use Rattle.vx_context.specs.Stands.{ContextsStand, IsNext}
use Rattle.vx_call.proofs.Closed.{closing_there}
use Rattle.vx_context.proofs.Items.{contexts_stay, items_left}
use Rattle.vx_context.proofs.Closes.{closings_one, closings_all}
use Rattle.vx_bus_store.specs.declared.bus.Handler.{Handler}
use Rattle.vx_bus_store.specs.Stores.{BusStore, handler_of, row_of, timer_of}
use Rattle.vx_bus_store.specs.Stands.{BusStands, TimersStand, StoresStand}
use Rattle.vx_bus_store.specs.Leaving.{leaves, leaves_at, is_task_of}
use Rattle.vx_bus_store.proofs.Frames.{pools_stay, given_left, codecs_left, rules_left}
use Rattle.vx_bus_store.proofs.LiveChoices.{no_choices}
use Rattle.vx_bus_delivery.specs.Lost.{ended_rows, lost_rows, lost_items, lost_tasks, is_timer_of}
use Rattle.vx_bus_delivery.proofs.Turns.{ring_empty}
use Rattle.vx_bus_delivery.proofs.LostRequests.{items_lost, tasks_lost, timers_lost}
use Rattle.vx_bus_closing.specs.Closing.{Leaves, BusCloses}
use Rattle.vx_bus_closing.proofs.ClosedContexts.{closing_now}
use Rattle.vx_bus_closing.proofs.ClosedRequests.{LeavesWith, HasRequests, rows_ended, rows_left, rows_lost, ended_then}
use Rattle.vx_bus_closing.proofs.ClosedTurns.{in_turn, consumers_stay}
use Rattle.vx_bus_closing.proofs.ClosedTasks.{tasks_stay, items_stay}

-- the outcomes that the entry makes
abbrev pub outcomes : List Traced → Traced → List Waiting
outcomes history new = outcome_items 0 (hearing history new)

failing_of_contexts : (history : List Traced) (new : Traced) → AreStored history → Each IsAskedByContext (failing history new)
failing_of_contexts history new stored =
    Each-filter IsAskedByContext IsAskedByContext (λ (request : Open). not (asker_gone history new request)) (filter (closed.ends_with history new) (unsettled history)) (λ request passes of. of)
    (Each-filter IsAskedByContext IsAskedByContext (closed.ends_with history new) (unsettled history) (λ request passes of. of) (unsettled_of_contexts history stored))

module _ (old new_contexts : ContextStore) (timers new_timers : List Timer) (bus new_bus : BusStore) (history : List Traced) (new : Traced) (at : EntryNo) (leaver : Leaver) (leaving : LeavesWith history new leaver)
    (closes : ClosesContexts history new) (stands : StoresStand old timers bus history) (is_next : at ≡ next_entry history) (loses : Leaves old new_contexts timers new_timers bus new_bus at leaver) where
  has : HasRequests bus history
  has = record { opened = stands.bus.opened; given = stands.bus.given }

  lost : lost_rows leaver bus ≡ map row_of (failing history new)
  lost = rows_lost history new leaver leaving bus has

  pub timers_close : TimersStand new_timers (history ++ new ∷ [])
  timers_close =
      let test = λ (rows : List OpenRequest). filter (λ (timer : Timer). not (is_timer_of rows timer)) in
      loses.timers
      ∙ ap (λ rows. test rows timers) (rows_ended history new leaver leaving bus has)
      ∙ ap (test (map row_of (filter (closed.ends_with history new) (unsettled history)))) stands.timers
      ∙ timers_lost (closed.ends_with history new) (unsettled history) (unsettled_apart history)
      ∙ ap (λ requests. map timer_of (by_due requests)) (sym closes.unsettled)

  turns_close : (a : List ℕ) → ring.consumers_at a new_bus.rings ≡ ids_of (handlers (history ++ new ∷ []) a)
  turns_close a =
      loses.out_of_turn a
      ∙ ap (λ (hs : List Handler). filter (λ (id : ConsumerId). not (leaves_at leaver hs a id)) (ring.consumers_at a bus.rings)) stands.bus.consumers
      ∙ ap (filter (λ (id : ConsumerId). not (leaves_at leaver (map (handler_of history) (consumers history)) a id))) (stands.bus.rings a)
      ∙ in_turn history new leaver leaving closes a

  idle : (a : List ℕ) → is_empty (handlers history a) ≡ true → choices history a ≡ 0
  idle a none = no_choices history a stands.stored none

  idle_ring : (a : List ℕ) → ring.is_empty (ring.consumers_at a bus.rings) ≡ true → ring.choices_at a bus.rings ≡ 0
  idle_ring a none = stands.bus.choices a ∙ idle a (sym (ap ring.is_empty (stands.bus.rings a) ∙ ring_empty (handlers history a)) ∙ none)

  choices_close : (a : List ℕ) → ring.choices_at a new_bus.rings ≡ choices (history ++ new ∷ []) a
  choices_close a =
      loses.choices a (idle_ring a)
      ∙ ap (λ live. cond (ring.is_empty live) 0 (ring.choices_at a bus.rings)) (turns_close a)
      ∙ ap (λ b. cond b 0 (ring.choices_at a bus.rings)) (ring_empty (handlers (history ++ new ∷ []) a))
      ∙ ap (cond (is_empty (handlers (history ++ new ∷ []) a)) 0) (stands.bus.choices a)
      ∙ sym (closes.choices a (idle a))

  pub bus_closes : Each (IsTold history) (untaken history) → BusStands new_bus (history ++ new ∷ [])
  bus_closes told = record {
    consumers = ap (λ (s : BusStore). s.consumers) loses.bus ∙ ap (filter (λ (h : Handler). not (leaves leaver h))) stands.bus.consumers ∙ consumers_stay history new leaver leaving closes;
    rings = turns_close;
    choices = choices_close;
    tasks = ap (λ (s : BusStore). s.tasks) loses.bus
        ∙ ap (λ (hs : List Handler). filter (λ (task : Task). not (is_task_of leaver hs old.waiting task)) bus.tasks ++ lost_tasks (lost_rows leaver bus)) stands.bus.consumers
        ∙ ap (λ (items : List Item). filter (λ (task : Task). not (is_task_of leaver (map (handler_of history) (consumers history)) items task)) bus.tasks ++ lost_tasks (lost_rows leaver bus)) stands.contexts.waiting
        ∙ ap (λ (ts : List Task). filter (λ (task : Task). not (is_task_of leaver (map (handler_of history) (consumers history)) (map (item_of history) (waiting history)) task)) ts ++ lost_tasks (lost_rows leaver bus)) stands.bus.tasks
        ∙ ap (λ ts. ts ++ lost_tasks (lost_rows leaver bus)) (tasks_stay history new leaver leaving told)
        ∙ ap (λ ts. filter (λ task. not (is_of_gone history new (context_of history task))) (untaken history) ++ ts) (ap lost_tasks lost ∙ tasks_lost history (failing history new) (failing_of_contexts history new stands.stored))
        ∙ sym closes.untaken;
    opened = loses.left ∙ rows_left history new leaver leaving bus has ∙ ap (map row_of) (sym closes.unsettled);
    ended = λ id. loses.ended id
        ∙ ap (λ o. option_or o (option_map (λ _. at) (find (is_request id) (ended_rows leaver bus)))) (stands.bus.ended id)
        ∙ ap (λ rows. option_or (settled_at history id) (option_map (λ _. at) (find (is_request id) rows))) (rows_ended history new leaver leaving bus has)
        ∙ ended_then history new id at stands.stored is_next closes;
    given = λ id. ap (λ (s : BusStore). given_at id s.given) loses.bus ∙ stands.bus.given id ∙ sym (given_left history new id closes.given);
    codecs = ap (λ (s : BusStore). s.codecs) loses.bus ∙ stands.bus.codecs ∙ sym (codecs_left history new (record { added = closes.codecs; kept = closes.codecs_kept }));
    rules = ap (λ (s : BusStore). s.rules) loses.bus ∙ stands.bus.rules ∙ sym (rules_left history new (record { added = closes.rules; kept = closes.rules_kept }));
  }

  -- what waits: what waited for others, and the outcomes
  pub items_close : new_contexts.waiting ≡ map (item_of (history ++ new ∷ [])) (filter (λ (w : Waiting). not (is_gone history new w.context)) (waiting history) ++ outcomes history new)
  items_close =
      let stay = filter (λ (w : Waiting). not (is_gone history new w.context)) (waiting history) in
      let made = λ (all : List Context) (e : EntryNo) (rows : List OpenRequest). lost_items all e 0 rows in
      ap (λ (s : ContextStore). s.waiting) loses.contexts
      ∙ ap (λ items. filter (λ (item : Item). not (has_context leaver item.context)) items ++ lost_items old.made at 0 (lost_rows leaver bus)) stands.contexts.waiting
      ∙ ap (λ items. items ++ lost_items old.made at 0 (lost_rows leaver bus)) (items_stay history new leaver leaving (waiting history))
      ∙ ap (λ items. map (item_of history) stay ++ items)
      (ap (made old.made at) lost
      ∙ ap (λ all. made all at (map row_of (failing history new))) stands.contexts.made
      ∙ ap (λ e. made (made_contexts history) e (map row_of (failing history new))) is_next
      ∙ items_lost history 0 (failing history new) (failing_of_contexts history new stands.stored))
      ∙ sym (map-append (item_of history) stay (outcomes history new))
      ∙ sym (items_left history new (record { contexts = closes.contexts; queued = closes.queued }) (stay ++ outcomes history new))

-- ## One context

leaves_one : (history : List Traced) (new : Traced) (context : ContextId) → ClosesOne history new context → LeavesWith history new (leavers.Context context)
leaves_one history new context one = record {
  same = λ other. same_context-swap context other ∙ sym ((closing_one history new.entry.pass new.entry.call (one_call history new context one)).closes other ∙ ap (is_of_context other) one.closing);
  ends = λ given row. refl;
  fails = λ given row. refl;
}

one_stored : (call : Call) → may_close_one call ≡ true → is_stored call ≡ true
one_stored (calls.StartDone result) may = refl
one_stored calls.StopDone may = refl
one_stored (calls.Finish end) may = refl
one_stored _ may = absurd cc

stored_one : (history : List Traced) (new : Traced) (context : ContextId) → ClosesOne history new context → IsStored new
stored_one history new context one = record { call = one_stored new.entry.call (one_call history new context one); mark = one.mark }

next_of : (at : EntryNo) (history : List Traced) → IsNext at history → at ≡ next_entry history
next_of at history is_next = ap (λ n. let e : EntryNo = record { 0 = n } in e) is_next

count_heard : (history : List Traced) (requests : List Open) → Each IsAskedByContext requests → length (map row_of requests) ≡ length (heard (settlements history no_handlers requests))
count_heard history [] asked = refl
count_heard history (request ∷ others) asked =
    let rest = count_heard history others asked.1 in
    let here = settlement history no_handlers request in
    let behind = heard (settlements history no_handlers others) in
    let it : Heard = record { request = request.id; at = next_entry history; context = asked.0.0; outcome = no_handlers } in
    let one : length (cons_option (heard_by here) behind) ≡ length (it ∷ behind) =
    ap (λ asker. length (cons_option (option_map (λ (c : ContextId). record it { context = c }) (context_asking asker)) behind)) asked.0.1 in
    omega (arith, rest, one)

lost_count : (rows : List OpenRequest) (history : List Traced) (requests : List Open) → rows ≡ map row_of requests → Each IsAskedByContext requests → length rows ≡ length (heard (settlements history no_handlers requests))
lost_count rows history requests is asked = ap length is ∙ count_heard history requests asked

pub closes_one : (old new_contexts : ContextStore) (timers new_timers : List Timer) (bus new_bus : BusStore) (at : EntryNo) (context : ContextId) (count : ℕ) (history : List Traced) (new : Traced) →
    Leaves old new_contexts timers new_timers bus new_bus at (leavers.Context context) →
    ((other : ContextId) → closed_in other new_contexts.closings ≡ option_or (closed_in other old.closings) (cond (same_context other context && is_some (find (is_context_of other) old.made)) (Some at) None)) →
    count ≡ length (lost_rows (leavers.Context context) bus) → StoresStand old timers bus history → IsNext at history → IsLegal history →
    ClosesOne history new context → BusCloses new_contexts new_timers new_bus history new count
closes_one old new_contexts timers new_timers bus new_bus at context count history new loses closed_now is_count stands is_next legal one =
    let leaver = leavers.Context context in
    let leaving = leaves_one history new context one in
    let closes = one_closes history new context one in
    let next = next_of at history is_next in
    let after = history ++ new ∷ [] in
    let stay = filter (λ (w : Waiting). not (is_gone history new w.context)) (waiting history) in
    let behind = λ (n : ℕ). placed history n (ends_and_stops history new) in
    let has : HasRequests bus history = record { opened = stands.bus.opened; given = stands.bus.given } in
    let counted : count ≡ length (hearing history new) =
    is_count ∙ lost_count (lost_rows leaver bus) history (failing history new) (rows_lost history new leaver leaving bus has) (failing_of_contexts history new stands.stored) in
    record {
      stored = stored_more history new stands.stored (stored_one history new context one);
      bus = bus_closes old new_contexts timers new_timers bus new_bus history new at leaver leaving closes stands next loses (untaken_told history stands.stored legal);
      timers = timers_close old new_contexts timers new_timers bus new_bus history new at leaver leaving closes stands next loses;
      made = ap (λ (s : ContextStore). s.made) loses.contexts ∙ stands.contexts.made ∙ sym (contexts_stay history new closes.contexts);
      closings = closings_one old new_contexts history new context stands.contexts (closing_there history new.entry.pass new.entry.call context one.closing) (closing_now history new context one)
          (λ other. closed_now other ∙ ap (λ e. option_or (closed_in other old.closings) (cond (same_context other context && is_some (find (is_context_of other) old.made)) (Some e) None)) next);
      pools = ap (λ (s : ContextStore). s.pools) loses.contexts ∙ stands.contexts.pools ∙ sym (pools_stay history new closes.pools);
      waiting = ap (λ items. items ++ map (item_of after) (behind count)) (items_close old new_contexts timers new_timers bus new_bus history new at leaver leaving closes stands next loses)
          ∙ ap (λ n. map (item_of after) (stay ++ outcomes history new) ++ map (item_of after) (behind n)) counted
          ∙ sym (map-append (item_of after) (stay ++ outcomes history new) (behind (length (hearing history new))))
          ∙ ap (map (item_of after))
          (append_assoc stay (outcomes history new) (behind (length (hearing history new)))
          ∙ ap (λ items. stay ++ items)
          (ap (λ items. items ++ behind (length (hearing history new))) (sym (outcomes_placed history 0 (hearing history new) (hearing_now history new)))
          ∙ sym (outcomes_first history new context one (askers_open history legal)))
          ∙ sym closes.waiting);
    }

-- ## All contexts

none_failing : (history : List Traced) (pass : PassNo) → Each IsAskedByContext (unsettled history) → failing history (close_entry pass) ≡ []
none_failing history pass asked =
    let new = close_entry pass in
    let Gone : Open → Type 0 = λ request. not (asker_gone history new request) ≡ false in
    filter_no (λ (request : Open). not (asker_gone history new request)) (filter (closed.ends_with history new) (unsettled history))
    (Each-filter IsAskedByContext Gone (closed.ends_with history new) (unsettled history) (λ request ends by. ap (λ asker. not (closes_asker history pass calls.Close asker)) by.1) asked)

leaves_all : (history : List Traced) (pass : PassNo) → LeavesWith history (close_entry pass) leavers.All
leaves_all history pass = record { same = λ context. refl; ends = λ given row. refl; fails = λ given row. refl }

pub closes_all : (old new_contexts : ContextStore) (timers new_timers : List Timer) (bus new_bus : BusStore) (at : EntryNo) (history : List Traced) (pass : PassNo) → Leaves old new_contexts timers new_timers bus new_bus at leavers.All →
    ((other : ContextId) → closed_in other new_contexts.closings ≡ option_or (closed_in other old.closings) (cond (is_some (find (is_context_of other) old.made)) (Some at) None)) →
    StoresStand old timers bus history → IsNext at history → IsLegal history → StoresStand new_contexts new_timers new_bus (history ++ close_entry pass ∷ [])
closes_all old new_contexts timers new_timers bus new_bus at history pass loses closed_now stands is_next legal =
    let new = close_entry pass in
    let leaving = leaves_all history pass in
    let told = untaken_told history stands.stored legal in
    let asked = unsettled_of_contexts history stands.stored in
    let closes = all_close history pass (weaken (IsTold history) _ (untaken history) (told_context history) told) asked in
    let next = next_of at history is_next in
    let stay = filter (λ (w : Waiting). not (is_gone history new w.context)) (waiting history) in
    record {
      stored = stored_more history new stands.stored (record { call = refl; mark = refl });
      bus = bus_closes old new_contexts timers new_timers bus new_bus history new at leavers.All leaving closes stands next loses told;
      timers = timers_close old new_contexts timers new_timers bus new_bus history new at leavers.All leaving closes stands next loses;
      contexts = record {
        made = ap (λ (s : ContextStore). s.made) loses.contexts ∙ stands.contexts.made ∙ sym (contexts_stay history new closes.contexts);
        closings = closings_all old new_contexts history new stands.contexts refl
            (λ other. closed_now other ∙ ap (λ e. option_or (closed_in other old.closings) (cond (is_some (find (is_context_of other) old.made)) (Some e) None)) next);
        held = ap (λ (s : ContextStore). s.held) loses.contexts ∙ stands.contexts.held ∙ sym (lasting_same held_kind history new refl (λ h. refl));
        pools = ap (λ (s : ContextStore). s.pools) loses.contexts ∙ stands.contexts.pools ∙ sym (pools_stay history new closes.pools);
        waiting = items_close old new_contexts timers new_timers bus new_bus history new at leavers.All leaving closes stands next loses
            ∙ ap (λ made. map (item_of (history ++ new ∷ [])) (stay ++ outcome_items 0 (heard (settlements history no_handlers made)))) (none_failing history pass asked)
            ∙ ap (map (item_of (history ++ new ∷ []))) (sym closes.waiting);
      };
    }
