-- Unregister.
use Rattle.std.proofs.Common.{◌≡◌, ℕ, ◌+◌, ◌≤◌, List, [], ◌++◌, length, refl, ap, sym, ◌∙◌, append-nil, arith}
use Rattle.std.specs.Prelude.{Bool, true, not, ◌||◌, cond, map, filter, find, Option, None, Some}
use Rattle.std.specs.Option.{option_map, option_or}
use Rattle.std.specs.Str.{bytes_eq}
use Rattle.std.proofs.lemmas.List.{map-append}
use Rattle.std.proofs.lemmas.List.Elements.{filter_agree}
use Rattle.std.proofs.lemmas.List.Sums.{length-filter, count_by-le-length}
use Rattle.vx_data.specs.declared.ids.ConsumerId.{ConsumerId}
use Rattle.vx_data.specs.declared.ids.EntryNo.{EntryNo}
use Rattle.vx_data.specs.declared.ids.MessageId.{MessageId}
use Rattle.vx_data.specs.declared.ids.PassNo.{PassNo}
use Rattle.vx_message.specs.declared.Context.{Context}
use Rattle.vx_message.specs.declared.Item.{Item}
use Rattle.vx_timer.specs.declared.timers.Timer.{Timer}
use Rattle.vx_ring.specs.Rings as ring
use Rattle.vx_request.specs.declared.requests.OpenRequest.{OpenRequest}
use Rattle.vx_request.specs.declared.leaver.Leaver.TheVariants as leavers
use Rattle.vx_request.specs.Stores.{is_request, ended_at, given_at, is_lost}
use Rattle.vx_call.specs.declared.call.Call.TheVariants as calls
use Rattle.vx_call.specs.declared.reply.Reply.TheVariants as replies
use Rattle.vx_call.specs.declared.reply.Task.{Task}
use Rattle.vx_call.specs.declared.history.Consumer.{Consumer}
use Rattle.vx_call.specs.declared.history.Traced.{Traced}
use Rattle.vx_call.specs.History.{lasting}
use Rattle.vx_call.specs.Built.{AreStored}
use Rattle.vx_data.specs.Ids.{same_consumer, same_message}
use Rattle.vx_call.specs.Names.{next_entry}
use Rattle.vx_call.specs.Contexts.{contexts as made_contexts}
use Rattle.vx_call.specs.Registered.{is_named}
use Rattle.vx_call.specs.Consumers.{closes_owner, consumers, handlers, live}
use Rattle.vx_call.specs.Given.{given}
use Rattle.vx_call.specs.Requests.{Open, open_kind, unsettled, by_due}
use Rattle.vx_call.specs.Settled.{Settled, no_handlers, settlements, settled_kind, settled_at}
use Rattle.vx_call.specs.Homes.{heard}
use Rattle.vx_call.specs.Mailboxes.{mailbox, move_if}
use Rattle.vx_call.specs.Items.{Waiting, item_kind, waiting, task_kind, untaken, is_for, outcome_items, outcome_tasks}
use Rattle.vx_call.specs.Held.{held_kind}
use Rattle.vx_call.specs.Refusals.{unless_refused}
use Rattle.vx_call.specs.Rows.{consumer_refusal, ids_of}
use Rattle.vx_call.proofs.Lasting.{lasting_same, lasting-append}
use Rattle.vx_call.proofs.Each.{Each, every, Each-filter, weaken, passing, not_true}
use Rattle.vx_call.proofs.Mailboxes.{mailbox_unmoved}
use Rattle.vx_call.proofs.Opened.{unsettled_apart}
use Rattle.vx_call.proofs.Settlings.{settled-append}
use Rattle.vx_call.proofs.Stored.{IsAskedByContext, stored_more, unsettled_of_contexts}
use Rattle.vx_call.proofs.KeepsOpen.{closed_kept}
use Rattle.vx_call.proofs.Dropped.{settled_at_kept}
use Rattle.vx_context.specs.Stores.{closed_in, ContextStore, item_of, is_item_for}
use Rattle.vx_context.specs.Stands.{ContextsStand, IsNext}
use Rattle.vx_context.proofs.Items.{contexts_stay, items_left}
use Rattle.vx_consumer.specs.Mailboxes.{Mailbox, numbers_of, ends}
use Rattle.vx_bus_store.specs.declared.bus.Handler.{Handler}
use Rattle.vx_bus_delivery.specs.Lost.{ended_rows, lost_rows, lost_items, lost_tasks, is_timer_of, EndsRequests}
use Rattle.vx_bus_store.specs.Stores.{BusStore, handler_of, handler_in, names, held_in, row_of, timer_of}
use Rattle.vx_bus_store.specs.Stands.{BusStands, TimersStand, StoresStand, Follows, HavePlaces}
use Rattle.vx_bus_store.proofs.Frames.{pools_stay, owner_open, given_left, codecs_left, rules_left}
use Rattle.vx_bus_store.proofs.Handlers.{handler_is}
use Rattle.vx_bus_store.proofs.HeldCounts.{held_in-filter}
use Rattle.vx_bus_store.proofs.Images.{filter_mapped, map_each}
use Rattle.vx_bus_store.proofs.KeptRequests.{ended_by_call}
use Rattle.vx_bus_consumers.proofs.Selections.{items_without}
use Rattle.vx_bus_consumers.proofs.UnregisterConsumers.{unregister_entry, unregister_keeps, unregistered, live_there, consumers_left, rings_left, choices_left}
use Rattle.vx_bus_consumers.proofs.UnregisterRequests.{ends_with, lost_same}
use Rattle.vx_bus_delivery.proofs.LostRequests.{items_lost, tasks_lost, timers_lost, ends_lost}

-- the requests that end with the consumer, and their outcomes
abbrev lost : List Traced → ConsumerId → List Open
lost history id = filter (ends_with history id) (unsettled history)

abbrev outcomes : List Traced → ConsumerId → List Waiting
outcomes history id = outcome_items 0 (heard (settlements history no_handlers (lost history id)))

-- contexts asked them
lost_of_contexts : (history : List Traced) (id : ConsumerId) → AreStored history → Each IsAskedByContext (lost history id)
lost_of_contexts history id stored = Each-filter IsAskedByContext IsAskedByContext (ends_with history id) (unsettled history) (λ request passes asked. asked) (unsettled_of_contexts history stored)

-- ## The tasks that wait

waits : (history : List Traced) (pass : PassNo) (id : ConsumerId) → waiting (unregistered history pass id) ≡ filter (λ (w : Waiting). not (is_for id w.task)) (waiting history) ++ outcomes history id
waits history pass id = lasting-append item_kind history (unregister_entry pass id)

untaken_left : (history : List Traced) (pass : PassNo) (id : ConsumerId) →
    untaken (unregistered history pass id) ≡ filter (λ (task : Task). not (is_for id task)) (untaken history) ++ outcome_tasks (heard (settlements history no_handlers (lost history id)))
untaken_left history pass id = lasting-append task_kind history (unregister_entry pass id)

-- ## The contexts

contexts_unregistered : (old cancelled new : ContextStore) (history : List Traced) (pass : PassNo) (id : ConsumerId) → ContextsStand old history →
    cancelled ≡ record old { waiting = filter (λ (item : Item). not (is_item_for id item.kind)) old.waiting; room = cancelled.room } →
    new ≡ record cancelled { waiting = cancelled.waiting ++ map (item_of history) (outcomes history id); room = new.room } → ContextsStand new (unregistered history pass id)
contexts_unregistered old cancelled new history pass id stands is_cancelled is_new =
    let entry = unregister_entry pass id in
    let made = map (item_of history) (outcomes history id) in
    record {
      made = ap (λ (s : ContextStore). s.made) is_new ∙ ap (λ (s : ContextStore). s.made) is_cancelled ∙ stands.made ∙ sym (contexts_stay history entry refl);
      closings = λ context. ap (λ (s : ContextStore). closed_in context s.closings) is_new ∙ ap (λ (s : ContextStore). closed_in context s.closings) is_cancelled
          ∙ stands.closings context ∙ sym (closed_kept history entry context (unregister_keeps history pass id));
      held = ap (λ (s : ContextStore). s.held) is_new ∙ ap (λ (s : ContextStore). s.held) is_cancelled ∙ stands.held ∙ sym (lasting_same held_kind history entry refl (λ h. refl));
      pools = ap (λ (s : ContextStore). s.pools) is_new ∙ ap (λ (s : ContextStore). s.pools) is_cancelled ∙ stands.pools ∙ sym (pools_stay history entry refl);
      waiting = ap (λ (s : ContextStore). s.waiting) is_new
          ∙ ap (λ (s : ContextStore). s.waiting ++ made) is_cancelled
          ∙ ap (λ items. filter (λ (item : Item). not (is_item_for id item.kind)) items ++ made) stands.waiting
          ∙ ap (λ items. items ++ made) (items_without history id (waiting history))
          ∙ sym (items_left history entry (record { contexts = refl; queued = refl }) (waiting (unregistered history pass id))
          ∙ ap (map (item_of history)) (waits history pass id)
          ∙ map-append (item_of history) (filter (λ (w : Waiting). not (is_for id w.task)) (waiting history)) (outcomes history id));
    }

-- ## The timers

still_open : (history : List Traced) (pass : PassNo) (id : ConsumerId) → unsettled (unregistered history pass id) ≡ filter (λ request. not (ends_with history id request)) (unsettled history)
still_open history pass id =
    let entry = unregister_entry pass id in
    lasting-append open_kind history entry
    ∙ append-nil _
    ∙ filter_agree _ _ (λ (request : Open). ap not (ended_by_call history entry request (unregister_keeps history pass id).stored)) (unsettled history)

timers_unregistered : (old new : List Timer) (history : List Traced) (pass : PassNo) (id : ConsumerId) → TimersStand old history →
    new ≡ filter (λ (timer : Timer). not (is_timer_of (map row_of (lost history id)) timer)) old → TimersStand new (unregistered history pass id)
timers_unregistered old new history pass id stands is_new =
    is_new
    ∙ ap (filter (λ (timer : Timer). not (is_timer_of (map row_of (lost history id)) timer))) stands
    ∙ timers_lost (ends_with history id) (unsettled history) (unsettled_apart history)
    ∙ ap (λ requests. map timer_of (by_due requests)) (sym (still_open history pass id))

-- ## The bus

mailbox_kept : (history : List Traced) (pass : PassNo) (id : ConsumerId) (consumer : Consumer) → not (is_named id consumer) ≡ true → mailbox (unregistered history pass id) consumer ≡ mailbox history consumer
mailbox_kept history pass id consumer other =
    let entry = unregister_entry pass id in
    mailbox_unmoved history entry consumer
    (ap (λ b. move_if (b || closes_owner history pass entry.entry.call entry.mark consumer.owner) ends) (not_true (is_named id consumer) other)
    ∙ ap (λ b. move_if b ends) (owner_open history entry consumer.owner (unregister_keeps history pass id)))

-- the other handlers stay
handlers_kept : (history : List Traced) (pass : PassNo) (id : ConsumerId) →
    filter (λ (h : Handler). not (names id h)) (map (handler_of history) (consumers history)) ≡ map (handler_of (unregistered history pass id)) (consumers (unregistered history pass id))
handlers_kept history pass id =
    let after = handler_of (unregistered history pass id) in
    let others = filter (λ (c : Consumer). not (is_named id c)) (consumers history) in
    filter_mapped (λ (h : Handler). not (names id h)) (λ (c : Consumer). not (is_named id c)) (handler_of history) (consumers history) (every _ (λ c. refl) (consumers history))
    ∙ sym (map_each after (handler_of history) others
    (weaken (λ c. not (is_named id c) ≡ true) (λ c. after c ≡ handler_of history c) others
    (λ c other. ap (λ (m : Mailbox). (let h : Handler = record { consumer = c; flow = numbers_of m } in h)) (mailbox_kept history pass id c other)) (passing (λ c. not (is_named id c)) (consumers history))))
    ∙ ap (map after) (consumers_left history pass id)

-- what the removal of the consumer made of the bus
pub record Removes (old removed : BusStore) (id : ConsumerId) : Type 0 where
  pub left : removed ≡ record old { consumers = filter (λ (h : Handler). not (names id h)) old.consumers; rings = removed.rings; tasks = filter (λ (task : Task). not (is_for id task)) old.tasks; room = removed.room }
  pub out_of_turn : (h : Handler) → handler_in old.consumers id ≡ Some h → (a : List ℕ) →
      ring.consumers_at a removed.rings ≡ cond (bytes_eq a h.consumer.address) (filter (λ other. not (same_consumer id other)) (ring.consumers_at a old.rings)) (ring.consumers_at a old.rings)
  pub choices : (h : Handler) → handler_in old.consumers id ≡ Some h → (a : List ℕ) →
      ring.choices_at a removed.rings ≡ cond (ring.is_empty (ring.consumers_at a removed.rings)) 0 (ring.choices_at a old.rings)

-- the bus has the requests of the history, and the messages that were given out
record HasRequests (store : BusStore) (history : List Traced) : Type 0 where
  opened : store.requests.waiting ≡ map row_of (unsettled history)
  given : (m : MessageId) → given_at m store.given ≡ given history m

rows_lost : (store : BusStore) (history : List Traced) (id : ConsumerId) → HasRequests store history → filter (is_lost id store.given) store.requests.waiting ≡ map row_of (lost history id)
rows_lost store history id has =
    ap (filter (is_lost id store.given)) has.opened
    ∙ filter_mapped (is_lost id store.given) (ends_with history id) row_of (unsettled history) (every _ (lost_same history store.given id has.given) (unsettled history))

left_rows : (store : BusStore) (history : List Traced) (pass : PassNo) (id : ConsumerId) → HasRequests store history → filter (λ row. not (is_lost id store.given row)) store.requests.waiting ≡ map row_of (unsettled (unregistered history pass id))
left_rows store history pass id has =
    ap (filter (λ row. not (is_lost id store.given row))) has.opened
    ∙ filter_mapped (λ row. not (is_lost id store.given row)) (λ request. not (ends_with history id request)) row_of (unsettled history)
    (every _ (λ request. ap not (lost_same history store.given id has.given request)) (unsettled history))
    ∙ ap (map row_of) (sym (still_open history pass id))

bus_unregistered : (contexts new_contexts : ContextStore) (timers new_timers : List Timer) (old removed new : BusStore) (history : List Traced) (at : EntryNo) (pass : PassNo) (id : ConsumerId) (consumer : Consumer) → AreStored history → BusStands old history →
    at ≡ next_entry history → live history id ≡ Some consumer → Removes old removed id → EndsRequests contexts new_contexts timers new_timers removed new at (leavers.Consumer id) → BusStands new (unregistered history pass id)
bus_unregistered contexts new_contexts timers new_timers old removed new history at pass id consumer stored stands is_next found_there steps done =
    let entry = unregister_entry pass id in
    let keeps = unregister_keeps history pass id in
    let handler = handler_of history consumer in
    let found : handler_in old.consumers id ≡ Some handler = handler_is old history id stands ∙ ap (option_map (handler_of history)) found_there in
    let removed_has : HasRequests removed history = record {
      opened = ap (λ (s : BusStore). s.requests.waiting) steps.left ∙ stands.opened;
      given = λ m. ap (λ (s : BusStore). given_at m s.given) steps.left ∙ stands.given m;
    } in
    let in_turn : (a : List ℕ) → ring.consumers_at a removed.rings ≡ ids_of (handlers (unregistered history pass id) a) = λ a.
    steps.out_of_turn handler found a
    ∙ ap (λ live. cond (bytes_eq a consumer.address) (filter (λ other. not (same_consumer id other)) live) live) (stands.rings a)
    ∙ rings_left history pass id consumer a found_there in
    let end_in = λ (ended : Option EntryNo) (rows : List OpenRequest) (e : EntryNo) (m : MessageId). option_or ended (option_map (λ _. e) (find (is_request m) rows)) in
    record {
      consumers = ap (λ (s : BusStore). s.consumers) done.tasks ∙ ap (λ (s : BusStore). s.consumers) steps.left
          ∙ ap (filter (λ (h : Handler). not (names id h))) stands.consumers ∙ handlers_kept history pass id;
      rings = λ a. ap (λ (s : BusStore). ring.consumers_at a s.rings) done.tasks ∙ in_turn a;
      choices = λ a. ap (λ (s : BusStore). ring.choices_at a s.rings) done.tasks
          ∙ steps.choices handler found a
          ∙ ap (λ live. cond (ring.is_empty live) 0 (ring.choices_at a old.rings)) (in_turn a)
          ∙ ap (cond (ring.is_empty (ids_of (handlers (unregistered history pass id) a))) 0) (stands.choices a)
          ∙ choices_left history pass id a stored;
      tasks = ap (λ (s : BusStore). s.tasks) done.tasks
          ∙ ap (λ rows. removed.tasks ++ lost_tasks rows) (rows_lost removed history id removed_has)
          ∙ ap (λ (s : BusStore). s.tasks ++ lost_tasks (map row_of (lost history id))) steps.left
          ∙ ap (λ tasks. filter (λ (task : Task). not (is_for id task)) tasks ++ lost_tasks (map row_of (lost history id))) stands.tasks
          ∙ ap (λ tasks. filter (λ (task : Task). not (is_for id task)) (untaken history) ++ tasks) (tasks_lost history (lost history id) (lost_of_contexts history id stored))
          ∙ sym (untaken_left history pass id);
      opened = done.left ∙ left_rows removed history pass id removed_has;
      ended = λ m. done.ended m
          ∙ ap (λ ended. end_in ended (ended_rows (leavers.Consumer id) removed) at m) (ap (λ (s : BusStore). ended_at m s.requests.ended) steps.left ∙ stands.ended m)
          ∙ ap (λ rows. end_in (settled_at history m) rows at m) (rows_lost removed history id removed_has)
          ∙ ap (λ e. end_in (settled_at history m) (map row_of (lost history id)) e m) is_next
          ∙ ap (option_or (settled_at history m)) (ends_lost history m [] (lost history id))
          ∙ sym (settled_at_kept history entry m stored keeps);
      given = λ m. ap (λ (s : BusStore). given_at m s.given) done.tasks ∙ removed_has.given m ∙ sym (given_left history entry m refl);
      codecs = ap (λ (s : BusStore). s.codecs) done.tasks ∙ ap (λ (s : BusStore). s.codecs) steps.left ∙ stands.codecs ∙ sym (codecs_left history entry (record { added = refl; kept = λ c. refl }));
      rules = ap (λ (s : BusStore). s.rules) done.tasks ∙ ap (λ (s : BusStore). s.rules) steps.left ∙ stands.rules ∙ sym (rules_left history entry (record { added = refl; kept = λ r. refl }));
    }

-- ## The row

pub unregisters : (contexts cancelled new_contexts : ContextStore) (timers new_timers : List Timer) (bus removed new_bus : BusStore) (history : List Traced) (at : EntryNo) (pass : PassNo) (id : ConsumerId) →
    StoresStand contexts timers bus history → IsNext at history → consumer_refusal history pass id ≡ None →
    cancelled ≡ record contexts { waiting = filter (λ (item : Item). not (is_item_for id item.kind)) contexts.waiting; room = cancelled.room } →
    Removes bus removed id → EndsRequests cancelled new_contexts timers new_timers removed new_bus at (leavers.Consumer id) → Follows new_contexts new_timers new_bus history pass (calls.Unregister id) replies.Done
unregisters contexts cancelled new_contexts timers new_timers bus removed new_bus history at pass id stands is_next free is_cancelled steps done =
    let there = live_there history pass id free in
    let is_at_next : at ≡ next_entry history = ap (λ n. let e : EntryNo = record { 0 = n } in e) is_next in
    let removed_has : HasRequests removed history = record {
      opened = ap (λ (s : BusStore). s.requests.waiting) steps.left ∙ stands.bus.opened;
      given = λ m. ap (λ (s : BusStore). given_at m s.given) steps.left ∙ stands.bus.given m;
    } in
    let rows = rows_lost removed history id removed_has in
    let lost_in = λ (all : List Context) (e : EntryNo). lost_items all e 0 (map row_of (lost history id)) in
    let items : lost_items cancelled.made at 0 (lost_rows (leavers.Consumer id) removed) ≡ map (item_of history) (outcomes history id) =
    ap (lost_items cancelled.made at 0) rows
    ∙ ap (λ all. lost_in all at) (ap (λ (s : ContextStore). s.made) is_cancelled ∙ stands.contexts.made)
    ∙ ap (λ e. lost_in (made_contexts history) e) is_at_next
    ∙ items_lost history 0 (lost history id) (lost_of_contexts history id stands.stored) in
    record {
      answered = sym (ap (λ refusal. unless_refused refusal replies.Done) free);
      stores = record {
        stored = stored_more history (unregister_entry pass id) stands.stored (unregister_keeps history pass id).stored;
        contexts = contexts_unregistered contexts cancelled new_contexts history pass id stands.contexts is_cancelled
            (done.items ∙ ap (λ xs. record cancelled { waiting = cancelled.waiting ++ xs; room = new_contexts.room }) items);
        timers = timers_unregistered timers new_timers history pass id stands.timers
            (done.timers ∙ ap (λ xs. filter (λ (timer : Timer). not (is_timer_of xs timer)) timers) rows);
        bus = bus_unregistered cancelled new_contexts timers new_timers bus removed new_bus history at pass id there.0 stands.stored stands.bus is_at_next there.1 steps done;
      };
    }

-- ## Room

-- to leave some out frees their places
pub none_lost : (p : Item → Bool) (old new : ContextStore) → new ≡ record old { waiting = filter p old.waiting; room = new.room } → old.room + length old.waiting ≤ new.room + length new.waiting → old.room ≤ new.room
none_lost p old new is_new places =
    let left = ap (λ (s : ContextStore). length s.waiting) is_new in
    omega (arith, left, places, length-filter p old.waiting, count_by-le-length p old.waiting)

pub places_removed : (contexts cancelled : ContextStore) (bus removed : BusStore) (id : ConsumerId) → HavePlaces contexts bus →
    removed ≡ record bus { consumers = filter (λ (h : Handler). not (names id h)) bus.consumers; rings = removed.rings; tasks = filter (λ (task : Task). not (is_for id task)) bus.tasks; room = removed.room } →
    contexts.room ≤ cancelled.room → bus.room ≤ removed.room → HavePlaces cancelled removed
places_removed contexts cancelled bus removed id places left items tasks =
    let all : length removed.requests.waiting ≡ length bus.requests.waiting = ap (λ (s : BusStore). length s.requests.waiting) left in
    let held : held_in removed.consumers ≡ held_in (filter (λ (h : Handler). not (names id h)) bus.consumers) = ap (λ (s : BusStore). held_in s.consumers) left in
    let fewer = held_in-filter (λ (h : Handler). not (names id h)) bus.consumers in
    record { items = omega (arith, all, held, fewer, items, places.items); tasks = omega (arith, all, tasks, places.tasks) }
