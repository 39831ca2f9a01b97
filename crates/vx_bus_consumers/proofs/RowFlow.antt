-- Pause, Resume and Fetch.
use Rattle.std.proofs.Common.{◌≡◌, ℕ, ◌+◌, ◌-◌, ◌≤◌, nat_lt, List, [], ◌∷◌, ◌++◌, length, take, drop, refl, ap, sym, ◌∙◌, append-nil, arith}
use Rattle.std.specs.Prelude.{Bool, true, false, not, cond, map, filter, is_some, Option, None, Some}
use Rattle.std.specs.List.{count_by}
use Rattle.std.specs.Option.{option_map}
use Rattle.std.proofs.Math.Bool.{Bool-set}
use Rattle.std.proofs.Math.Bridge.{le_prop}
use Rattle.std.proofs.Math.Logic.{∥∥₁_elim}
use Rattle.std.proofs.lemmas.Bool.Decides.{nat_tests}
use Rattle.std.proofs.lemmas.List.{map-append, length-map}
use Rattle.std.proofs.lemmas.List.Filters.{length-filter_both}
use Rattle.std.proofs.lemmas.List.Sums.{length-filter}
use Rattle.vx_data.specs.declared.ids.ConsumerId.{ConsumerId}
use Rattle.vx_data.specs.declared.ids.ContextId.{ContextId}
use Rattle.vx_data.specs.declared.ids.EntryNo.{EntryNo}
use Rattle.vx_data.specs.declared.ids.PassNo.{PassNo}
use Rattle.vx_data.specs.Ids.{same_consumer}
use Rattle.vx_message.specs.declared.Context.{Context}
use Rattle.vx_message.specs.declared.Held.{Held}
use Rattle.vx_message.specs.declared.Mode.{Mode}
use Rattle.vx_message.specs.declared.Mode.TheVariants as modes
use Rattle.vx_message.specs.declared.Item.{Item}
use Rattle.vx_timer.specs.declared.timers.Timer.{Timer}
use Rattle.vx_consumer.specs.Flows.{Counted, stopped, resumed, fetched, freed, room_more}
use Rattle.vx_consumer.specs.Mailboxes.{Move, moved, after_moves, numbers_of, pauses, resumes, fetches}
use Rattle.vx_consumer.proofs.Numbers.{pause_in_numbers, resume_in_numbers, fetch_in_numbers}
use Rattle.vx_ring.specs.Rings.{consumers_at, choices_at}
use Rattle.vx_request.specs.Stores.{ended_at, given_at}
use Rattle.vx_call.specs.declared.call.Call.TheVariants as calls
use Rattle.vx_call.specs.declared.reply.Refusal.{Refusal}
use Rattle.vx_call.specs.declared.reply.Reply.TheVariants as replies
use Rattle.vx_call.specs.declared.reply.Task.{Task}
use Rattle.vx_call.specs.declared.reply.Task.TheVariants as tasks
use Rattle.vx_call.specs.declared.history.Consumer.{Consumer}
use Rattle.vx_call.specs.declared.history.Traced.{Traced}
use Rattle.vx_call.specs.History.{is_accepted, made_by, ended_by, plain_entry, no_mark}
use Rattle.vx_call.specs.Built.{AreStored}
use Rattle.vx_call.specs.Kinds.{kind_of}
use Rattle.vx_call.specs.Names.{next_entry}
use Rattle.vx_call.specs.Contexts.{contexts as made_contexts, context_at}
use Rattle.vx_call.specs.Pools.{pool_kind}
use Rattle.vx_call.specs.Owners.{is_context_owner, context_owning}
use Rattle.vx_call.specs.Consumers.{consumers, live}
use Rattle.vx_call.specs.Mailboxes.{mailbox, move_if, moves_by}
use Rattle.vx_call.specs.Choices.{choice_kind}
use Rattle.vx_call.specs.Given.{mode_of, given_kind}
use Rattle.vx_call.specs.Settled.{settled_kind}
use Rattle.vx_call.specs.Items.{Waiting, item_kind, waiting, untaken, is_for, made_ready, ready_for, held_tasks, freed_items, freed_by}
use Rattle.vx_call.specs.Held.{held_kind}
use Rattle.vx_call.specs.Refusals.{unless_refused, bad_fetch}
use Rattle.vx_call.specs.Rows.{consumer_refusal, fetch_refusal}
use Rattle.vx_call.proofs.Lasting.{lasting_same, lasting_more, lasting-append}
use Rattle.vx_call.proofs.Each.{Each, Each-take, Each-drop, weaken, passing}
use Rattle.vx_call.proofs.Stored.{stored_more, live_of_context}
use Rattle.vx_call.proofs.KeepsOpen.{KeepsOpen, call_keeps, closed_kept}
use Rattle.vx_call.proofs.Dropped.{settled_at_same}
use Rattle.vx_call.proofs.Consumers.{IsLive, consumers_live, live_found, live_named, same_consumer-swap, same_consumer-true}
use Rattle.vx_call.proofs.Mailboxes.{mailbox_moved}
use Rattle.vx_call.proofs.Ready.{count_ready, count_untaken}
use Rattle.vx_context.specs.Stores.{closed_in, ContextStore, lane_in, item_of, is_item_for}
use Rattle.vx_context.specs.Stands.{ContextsStand, IsNext}
use Rattle.vx_context.proofs.Items.{LeavesItems, contexts_stay, items_left}
use Rattle.vx_bus_store.specs.declared.bus.Handler.{Handler}
use Rattle.vx_bus_store.specs.Stores.{BusStore, handler_of, handler_in, changed, held_in, message_items, row_of}
use Rattle.vx_bus_store.specs.Stands.{BusStands, StoresStand, Follows, HavePlaces, AreOfOneHistory}
use Rattle.vx_bus_store.proofs.Frames.{LeavesConsumers, LeavesRequests, LeavesTasks, LeavesCodecs, LeavesRules, pools_stay, timers_left, requests_left, consumer_kept, consumers_left, rings_left, choices_left, tasks_left, given_left, codecs_left, rules_left}
use Rattle.vx_bus_refusals.proofs.Chains.{none_of_first}
use Rattle.vx_bus_store.proofs.Handlers.{handler_is, handler_there}
use Rattle.vx_bus_delivery.proofs.HeldArrivals.{held_changed, named_once}
use Rattle.vx_bus_store.proofs.HeldCounts.{held_within}
use Rattle.vx_bus_store.proofs.KeptRequests.{request_kept}
use Rattle.vx_bus_consumers.proofs.Selections.{items_without}
use Rattle.vx_bus_consumers.proofs.UnregisterConsumers.{live_there}

-- ## All but a flow stays

-- an entry that leaves all but the flow of a consumer, and which of its messages are ready
pub record LeavesButFlow (history : List Traced) (new : Traced) : Type 0 where
  pub keeps : KeepsOpen history new
  pub items : LeavesItems history new
  pub pools : made_by pool_kind history new ≡ []
  pub held : made_by held_kind history new ≡ []
  pub finished : (held : Held) → ended_by held_kind history new held ≡ false
  pub requests : LeavesRequests history new
  pub consumers : LeavesConsumers history new
  pub choices : made_by choice_kind history new ≡ []
  pub tasks : LeavesTasks history new
  pub settled : made_by settled_kind history new ≡ []
  pub given : made_by given_kind history new ≡ []
  pub codecs : LeavesCodecs history new
  pub rules : LeavesRules history new

-- the stores of such an entry have its items, and its consumers with their flows
pub flows_stand : (contexts new_contexts : ContextStore) (timers : List Timer) (bus new_bus : BusStore) (history : List Traced) (entry : Traced) → LeavesButFlow history entry → StoresStand contexts timers bus history →
    new_contexts ≡ record contexts { waiting = new_contexts.waiting; room = new_contexts.room } → new_contexts.waiting ≡ map (item_of history) (waiting (history ++ entry ∷ [])) →
    new_bus ≡ record bus { consumers = new_bus.consumers } → new_bus.consumers ≡ map (handler_of (history ++ entry ∷ [])) (consumers history) →
    StoresStand new_contexts timers new_bus (history ++ entry ∷ [])
flows_stand contexts new_contexts timers bus new_bus history entry leaves stands is_contexts is_waiting is_bus is_consumers = record {
  stored = stored_more history entry stands.stored leaves.keeps.stored;
  contexts = record {
    made = ap (λ (s : ContextStore). s.made) is_contexts ∙ stands.contexts.made ∙ sym (contexts_stay history entry leaves.items.contexts);
    closings = λ id. ap (λ (s : ContextStore). closed_in id s.closings) is_contexts ∙ stands.contexts.closings id ∙ sym (closed_kept history entry id leaves.keeps);
    held = ap (λ (s : ContextStore). s.held) is_contexts ∙ stands.contexts.held ∙ sym (lasting_same held_kind history entry leaves.held leaves.finished);
    pools = ap (λ (s : ContextStore). s.pools) is_contexts ∙ stands.contexts.pools ∙ sym (pools_stay history entry leaves.pools);
    waiting = is_waiting ∙ sym (items_left history entry leaves.items (waiting (history ++ entry ∷ [])));
  };
  timers = timers_left timers history entry leaves.requests stands.timers;
  bus = record {
    consumers = is_consumers ∙ ap (map (handler_of (history ++ entry ∷ []))) (sym (consumers_left history entry leaves.consumers));
    rings = λ address. ap (λ (s : BusStore). consumers_at address s.rings) is_bus ∙ stands.bus.rings address ∙ sym (rings_left history entry address leaves.consumers);
    choices = λ address. ap (λ (s : BusStore). choices_at address s.rings) is_bus ∙ stands.bus.choices address ∙ sym (choices_left history entry address leaves.consumers leaves.choices);
    tasks = ap (λ (s : BusStore). s.tasks) is_bus ∙ stands.bus.tasks ∙ sym (tasks_left history entry leaves.tasks);
    opened = ap (λ (s : BusStore). s.requests.waiting) is_bus ∙ stands.bus.opened ∙ ap (map row_of) (sym (requests_left history entry leaves.requests));
    ended = λ id. ap (λ (s : BusStore). ended_at id s.requests.ended) is_bus ∙ stands.bus.ended id ∙ sym (settled_at_same history entry id stands.stored leaves.keeps leaves.settled);
    given = λ id. ap (λ (s : BusStore). given_at id s.given) is_bus ∙ stands.bus.given id ∙ sym (given_left history entry id leaves.given);
    codecs = ap (λ (s : BusStore). s.codecs) is_bus ∙ stands.bus.codecs ∙ sym (codecs_left history entry leaves.codecs);
    rules = ap (λ (s : BusStore). s.rules) is_bus ∙ stands.bus.rules ∙ sym (rules_left history entry leaves.rules);
  };
}

-- ## The flow

map_both : {A B C : Type 0} (f : B → C) (g : A → B) (h : A → C) (xs : List A) → Each (λ x. f (g x) ≡ h x) xs → map f (map g xs) ≡ map h xs
map_both f g h [] same = refl
map_both f g h (x ∷ xs) same = ap (λ y. y ∷ map f (map g xs)) same.0 ∙ ap (λ ys. h x ∷ ys) (map_both f g h xs same.1)

abbrev with_flow : Consumer → Counted → Handler
with_flow consumer flow = record { consumer = consumer; flow = flow }

-- an entry that moves the mailbox of one consumer alone
abbrev pub MovesOne : List Traced → Traced → ConsumerId → Move → Type 0
MovesOne history new id move = (consumer : Consumer) → IsLive history consumer → mailbox (history ++ new ∷ []) consumer ≡ after_moves (mailbox history consumer) (move_if (same_consumer consumer.id id) move)

-- the change of the flow is that of the numbers
abbrev pub Counts : List Traced → ConsumerId → Move → (Counted → Counted) → Type 0
Counts history id move change = (consumer : Consumer) → IsLive history consumer → id ≡ consumer.id → numbers_of (moved (mailbox history consumer) move) ≡ change (numbers_of (mailbox history consumer))

one_changed : (history : List Traced) (new : Traced) (id : ConsumerId) (move : Move) (change : Counted → Counted) (consumer : Consumer) → MovesOne history new id move → Counts history id move change → IsLive history consumer →
    changed id change (handler_of history consumer) ≡ handler_of (history ++ new ∷ []) consumer
one_changed history new id move change consumer moves counts is_live =
    let box = mailbox history consumer in
    let after : mailbox (history ++ new ∷ []) consumer ≡ after_moves box (move_if (same_consumer id consumer.id) move) =
    moves consumer is_live ∙ ap (λ b. after_moves box (move_if b move)) (same_consumer-swap consumer.id id) in
    elim (same_consumer id consumer.id) as (λ b. same_consumer id consumer.id ≡ b →
    cond b (with_flow consumer (change (numbers_of box))) (with_flow consumer (numbers_of box)) ≡ with_flow consumer (numbers_of (after_moves box (move_if b move)))) [
      | true ↦ λ same. ap (with_flow consumer) (sym (counts consumer is_live (same_consumer-true id consumer.id same)))
      | false ↦ λ other. refl
    ] refl ∙ ap (λ m. with_flow consumer (numbers_of m)) (sym after)

-- the handlers after the entry
pub flows_changed : (history : List Traced) (new : Traced) (id : ConsumerId) (move : Move) (change : Counted → Counted) → MovesOne history new id move → Counts history id move change →
    map (changed id change) (map (handler_of history) (consumers history)) ≡ map (handler_of (history ++ new ∷ [])) (consumers history)
flows_changed history new id move change moves counts =
    map_both (changed id change) (handler_of history) (handler_of (history ++ new ∷ [])) (consumers history)
    (weaken (IsLive history) (λ c. changed id change (handler_of history c) ≡ handler_of (history ++ new ∷ []) c) (consumers history)
    (λ c is_live. one_changed history new id move change c moves counts is_live) (consumers_live history))

-- ## Pause

-- the context of a live consumer
context_there : (history : List Traced) (consumer : Consumer) → AreStored history → IsLive history consumer → (context : ContextId) × (context_owning consumer.owner ≡ Some context)
context_there history consumer stored is_live = let home = live_of_context history consumer stored is_live in (home.0, ap context_owning home.1)

-- as many were not taken as are ready and held
pub count_for : (bus : BusStore) (history : List Traced) (id : ConsumerId) (consumer : Consumer) → AreStored history → BusStands bus history → live history id ≡ Some consumer →
    length (filter (is_for id) bus.tasks) ≡ length (mailbox history consumer).ready + length (mailbox history consumer).held
count_for bus history id consumer stored stands there =
    let is_live = live_found history id consumer there in
    let home = context_there history consumer stored is_live in
    ap (λ tasks. length (filter (is_for id) tasks)) stands.tasks
    ∙ length-filter (is_for id) (untaken history)
    ∙ ap (λ k. count_by (is_for k) (untaken history)) (live_named history id consumer there)
    ∙ count_untaken history consumer home.0 home.1 is_live

-- the mailbox of a live consumer is moved as an accepted entry says
moved_so : (history : List Traced) (new : Traced) (id : ConsumerId) (move : Move) → AreStored history →
    ((consumer : Consumer) → cond (is_accepted new.entry.reply) (moves_by consumer history new.entry.pass new.entry.call new.mark new.entry.reply) [] ≡ move_if (same_consumer consumer.id id) move) →
    MovesOne history new id move
moved_so history new id move stored moves consumer is_live =
    mailbox_moved history new consumer (ap is_context_owner (live_of_context history consumer stored is_live).1) is_live ∙ ap (after_moves (mailbox history consumer)) (moves consumer)

abbrev pause_entry : PassNo → ConsumerId → Traced
pause_entry pass id = plain_entry pass (calls.Pause id) replies.Done no_mark

pause_leaves : (history : List Traced) (pass : PassNo) (id : ConsumerId) → LeavesButFlow history (pause_entry pass id)
pause_leaves history pass id =
    let entry = pause_entry pass id in
    let keeps : KeepsOpen history entry = call_keeps history entry (record { call = refl; mark = refl }) refl in
    record {
      keeps = keeps;
      items = record { contexts = refl; queued = refl };
      pools = refl;
      held = refl;
      finished = λ h. refl;
      requests = record { opened = refl; settled = λ r. request_kept history entry r keeps refl };
      consumers = record { registered = refl; kept = λ c. consumer_kept history entry c keeps refl };
      choices = refl;
      tasks = record { made = refl; kept = λ t. refl };
      settled = refl;
      given = refl;
      codecs = record { added = refl; kept = λ c. refl };
      rules = record { added = refl; kept = λ r. refl };
    }

pub pauses_so : (contexts cancelled : ContextStore) (timers : List Timer) (bus new_bus : BusStore) (history : List Traced) (pass : PassNo) (id : ConsumerId) → StoresStand contexts timers bus history →
    consumer_refusal history pass id ≡ None → cancelled ≡ record contexts { waiting = filter (λ (item : Item). not (is_item_for id item.kind)) contexts.waiting; room = cancelled.room } →
    new_bus ≡ record bus { consumers = map (changed id (λ (flow : Counted). stopped (length (filter (is_for id) bus.tasks) - flow.held) flow)) bus.consumers } →
    Follows cancelled timers new_bus history pass (calls.Pause id) replies.Done
pauses_so contexts cancelled timers bus new_bus history pass id stands free is_contexts is_bus =
    let entry = pause_entry pass id in
    let count = length (filter (is_for id) bus.tasks) in
    let change : Counted → Counted = λ flow. stopped (count - flow.held) flow in
    let counts : Counts history id pauses change = λ consumer is_live named.
    (let all = count_for bus history id consumer stands.stored stands.bus (ap (live history) named ∙ is_live) in
    let box = mailbox history consumer in
    let left : length box.ready ≡ count - length box.held = omega (arith, all) in
    pause_in_numbers box ∙ ap (λ n. stopped n (numbers_of box)) left) in
    let moves : MovesOne history entry id pauses = moved_so history entry id pauses stands.stored (λ consumer. refl) in
    let is_consumers = ap (λ (s : BusStore). s.consumers) is_bus in
    let is_waiting = ap (λ (s : ContextStore). s.waiting) is_contexts in
    record {
      answered = sym (ap (λ refusal. unless_refused refusal replies.Done) free);
      stores = flows_stand contexts cancelled timers bus new_bus history entry (pause_leaves history pass id) stands
          (is_contexts ∙ ap (λ items. (let s : ContextStore = record contexts { waiting = items; room = cancelled.room } in s)) (sym is_waiting))
          (is_waiting
          ∙ ap (filter (λ (item : Item). not (is_item_for id item.kind))) stands.contexts.waiting
          ∙ items_without history id (waiting history)
          ∙ ap (map (item_of history)) (sym (lasting-append item_kind history entry ∙ append-nil _)))
          (is_bus ∙ ap (λ handlers. (let s : BusStore = record bus { consumers = handlers } in s)) (sym is_consumers))
          (is_consumers ∙ ap (map (changed id change)) stands.bus.consumers ∙ flows_changed history entry id pauses change moves counts);
    }

-- the ready messages are left out
left_out : (history : List Traced) (id : ConsumerId) (consumer : Consumer) (all left : List Item) → AreStored history → all ≡ map (item_of history) (waiting history) → left ≡ filter (λ (item : Item). not (is_item_for id item.kind)) all →
    live history id ≡ Some consumer → length all ≡ length left + length (mailbox history consumer).ready
left_out history id consumer all left stored is_all is_left there =
    let is_live = live_found history id consumer there in
    let home = context_there history consumer stored is_live in
    let mine : Waiting → Bool = λ item. is_for id item.task in
    let others = filter (λ (item : Waiting). not (mine item)) (waiting history) in
    let kept : length left ≡ length others =
    ap length (is_left ∙ ap (filter (λ (item : Item). not (is_item_for id item.kind))) is_all ∙ items_without history id (waiting history)) ∙ length-map others (item_of history) in
    let total : length all ≡ length (waiting history) = ap length is_all ∙ length-map (waiting history) (item_of history) in
    let ready : length (filter mine (waiting history)) ≡ length (mailbox history consumer).ready =
    length-filter mine (waiting history)
    ∙ ap (λ k. count_by (λ (item : Waiting). is_for k item.task) (waiting history)) (live_named history id consumer there)
    ∙ count_ready history consumer home.0 home.1 is_live in
    omega (arith, kept, total, ready, length-filter_both mine (λ item. not (mine item)) (λ _. refl) (waiting history))

-- where the ready messages are held again, their places are free
pub places_paused : (contexts cancelled : ContextStore) (timers : List Timer) (bus new_bus : BusStore) (pass : PassNo) (id : ConsumerId) (refusal : Option Refusal) → HavePlaces contexts bus → AreOfOneHistory contexts timers bus →
    ((history : List Traced) → ContextsStand contexts history → BusStands bus history → refusal ≡ consumer_refusal history pass id) → refusal ≡ None →
    cancelled ≡ record contexts { waiting = filter (λ (item : Item). not (is_item_for id item.kind)) contexts.waiting; room = cancelled.room } →
    contexts.room + length contexts.waiting ≤ cancelled.room + length cancelled.waiting →
    new_bus ≡ record bus { consumers = map (changed id (λ (flow : Counted). stopped (length (filter (is_for id) bus.tasks) - flow.held) flow)) bus.consumers } → HavePlaces cancelled new_bus
places_paused contexts cancelled timers bus new_bus pass id refusal places one refuses free is_contexts room is_bus =
    let count = length (filter (is_for id) bus.tasks) in
    let change : Counted → Counted = λ flow. stopped (count - flow.held) flow in
    let rows : length new_bus.requests.waiting ≡ length bus.requests.waiting = ap (λ (s : BusStore). length s.requests.waiting) is_bus in
    let tasks_room : new_bus.room ≡ bus.room = ap (λ (s : BusStore). s.room) is_bus in
    let held : held_in new_bus.consumers ≡ held_in (map (changed id change) bus.consumers) = ap (λ (s : BusStore). held_in s.consumers) is_bus in
    record {
      items = ∥∥₁_elim one le_prop (λ p.
          let history = p.0 in
          let stands = p.1 in
          let there = live_there history pass id (sym (refuses history stands.contexts stands.bus) ∙ free) in
          let found = handler_there bus history id there.0 stands.bus there.1 in
          let all = count_for bus history id there.0 stands.stored stands.bus there.1 in
          let freed_places = left_out history id there.0 contexts.waiting cancelled.waiting stands.stored stands.contexts.waiting (ap (λ (s : ContextStore). s.waiting) is_contexts) there.1 in
          let more = held_changed id change bus.consumers (handler_of history there.0) (named_once contexts timers bus one id) found in
          omega (arith, rows, held, all, freed_places, more, room, places.items));
      tasks = omega (arith, rows, tasks_room, places.tasks);
    }

-- ## Messages that are made ready

-- a message for a consumer is a handler's task
message_handled : (history : List Traced) (id : ConsumerId) (task : Task) → is_for id task ≡ true → mode_of history task ≡ modes.Handler
message_handled history id (tasks.Deliver consumer message) mine = refl
message_handled history id _ mine = absurd cc

abbrev AreHandled : List Traced → List Task → Type 0
AreHandled history all = Each (λ task. mode_of history task ≡ modes.Handler) all

ready_items : (history : List Traced) (context : ContextId) (place : ℕ) (all : List Task) → AreHandled history all →
    message_items (made_contexts history) (next_entry history) context place all ≡ map (item_of history) (made_ready history context place all)
ready_items history context place [] handled = refl
ready_items history context place (task ∷ others) handled =
    let item : Mode → Item = λ mode.
    record { entry = next_entry history; place = place; context = context; lane = lane_in (context_at history context) mode; mode = mode; kind = kind_of task } in
    ap (λ mode. item mode ∷ message_items (made_contexts history) (next_entry history) context (place + 1) others) (sym handled.0)
    ∙ ap (λ items. item (mode_of history task) ∷ items) (ready_items history context (place + 1) others handled.1)

held_handled : (history : List Traced) (consumer : Consumer) → AreHandled history (held_tasks history consumer)
held_handled history consumer =
    let mine = filter (is_for consumer.id) (untaken history) in
    Each-drop (λ task. mode_of history task ≡ modes.Handler) (length (mailbox history consumer).ready) mine
    (weaken (λ task. is_for consumer.id task ≡ true) (λ task. mode_of history task ≡ modes.Handler) mine (message_handled history consumer.id) (passing (is_for consumer.id) (untaken history)))

-- the messages that there is room for now
freed_waiting : (bus : BusStore) (history : List Traced) (at : EntryNo) (id : ConsumerId) (consumer : Consumer) (context : ContextId) (room : Option ℕ) → AreStored history → BusStands bus history → at ≡ next_entry history →
    live history id ≡ Some consumer → context_owning consumer.owner ≡ Some context →
    (let box = mailbox history consumer in
    let mine = filter (is_for id) bus.tasks in
    message_items (made_contexts history) at context 0 (take (freed room (length box.held)) (drop (length mine - length box.held) mine)) ≡ map (item_of history) (freed_items history room consumer))
freed_waiting bus history at id consumer context room stored stands is_next there owns =
    let box = mailbox history consumer in
    let made = made_contexts history in
    let count = freed room (length box.held) in
    let mine = filter (is_for id) bus.tasks in
    let ready : length mine - length box.held ≡ length box.ready = omega (arith, count_for bus history id consumer stored stands there) in
    let own : mine ≡ filter (is_for consumer.id) (untaken history) = ap (filter (is_for id)) stands.tasks ∙ ap (λ k. filter (is_for k) (untaken history)) (live_named history id consumer there) in
    let free = take count (held_tasks history consumer) in
    let handled : AreHandled history free = Each-take (λ task. mode_of history task ≡ modes.Handler) count (held_tasks history consumer) (held_handled history consumer) in
    ap (λ e. message_items made e context 0 (take count (drop (length mine - length box.held) mine))) is_next
    ∙ ap (λ n. message_items made (next_entry history) context 0 (take count (drop n mine))) ready
    ∙ ap (λ all. message_items made (next_entry history) context 0 (take count (drop (length box.ready) all))) own
    ∙ ready_items history context 0 free handled
    ∙ sym (ap (λ o. map (item_of history) (ready_for history o free)) owns)

-- an entry that makes held messages of a consumer ready, as many as there is room for then
pub record Frees (history : List Traced) (new : Traced) (id : ConsumerId) (move : Move) (room_after : Option ℕ → Option ℕ) (change : Counted → Counted) : Type 0 where
  pub leaves : LeavesButFlow history new
  pub moves : MovesOne history new id move
  pub counts : Counts history id move change
  pub items : made_by item_kind history new ≡ freed_by (λ consumer. freed_items history (room_after (mailbox history consumer).room) consumer) (live history id)
  pub kept : (item : Waiting) → ended_by item_kind history new item ≡ false

pub frees_so : (contexts new_contexts : ContextStore) (timers : List Timer) (bus new_bus : BusStore) (history : List Traced) (new : Traced) (at : EntryNo) (id : ConsumerId) (handler : Handler) (context : ContextId) (held count : ℕ) (move : Move)
    (room_after : Option ℕ → Option ℕ) (change : Counted → Counted) → Frees history new id move room_after change → StoresStand contexts timers bus history → IsNext at history → handler_in bus.consumers id ≡ Some handler →
    context_owning handler.consumer.owner ≡ Some context → held ≡ handler.flow.held → count ≡ freed (room_after handler.flow.room) handler.flow.held → new_bus ≡ record bus { consumers = map (changed id change) bus.consumers } →
    new_contexts ≡ record contexts { waiting = contexts.waiting ++ message_items contexts.made at context 0 (take count (drop (length (filter (is_for id) new_bus.tasks) - held) (filter (is_for id) new_bus.tasks))); room = new_contexts.room } →
    (consumer : Consumer) → live history id ≡ Some consumer → StoresStand new_contexts timers new_bus (history ++ new ∷ [])
frees_so contexts new_contexts timers bus new_bus history new at id handler context held count move room_after change frees stands is_next found owns is_held is_count is_bus is_contexts consumer there =
    let same : Some handler ≡ Some (handler_of history consumer) = sym found ∙ handler_there bus history id consumer stands.bus there in
    let is_handler : handler ≡ handler_of history consumer = cc in
    let home : context_owning consumer.owner ≡ Some context = sym (ap (λ (h : Handler). context_owning h.consumer.owner) is_handler) ∙ owns in
    let made : List Context → List Task → ℕ → ℕ → List Item = λ all tasks k n. message_items all at context 0 (take n (drop (length (filter (is_for id) tasks) - k) (filter (is_for id) tasks))) in
    let freed_of : Handler → ℕ = λ h. freed (room_after h.flow.room) h.flow.held in
    let entry : at ≡ next_entry history = ap (λ n. (let e : EntryNo = record { 0 = n } in e)) is_next in
    let is_consumers = ap (λ (s : BusStore). s.consumers) is_bus in
    let is_waiting = ap (λ (s : ContextStore). s.waiting) is_contexts in
    let items : made contexts.made new_bus.tasks held count ≡ map (item_of history) (made_by item_kind history new) =
    ap (λ all. made all new_bus.tasks held count) stands.contexts.made
    ∙ ap (λ (s : BusStore). made (made_contexts history) s.tasks held count) is_bus
    ∙ ap (λ k. made (made_contexts history) bus.tasks k count) is_held
    ∙ ap (λ n. made (made_contexts history) bus.tasks handler.flow.held n) is_count
    ∙ ap (λ (h : Handler). made (made_contexts history) bus.tasks h.flow.held (freed_of h)) is_handler
    ∙ freed_waiting bus history at id consumer context (room_after (mailbox history consumer).room) stands.stored stands.bus entry there home
    ∙ ap (map (item_of history)) (sym (frees.items ∙ ap (freed_by (λ c. freed_items history (room_after (mailbox history c).room) c)) there)) in
    flows_stand contexts new_contexts timers bus new_bus history new frees.leaves stands
    (is_contexts ∙ ap (λ waits. (let s : ContextStore = record contexts { waiting = waits; room = new_contexts.room } in s)) (sym is_waiting))
    (is_waiting
    ∙ ap (λ waits. waits ++ made contexts.made new_bus.tasks held count) stands.contexts.waiting
    ∙ ap (λ waits. map (item_of history) (waiting history) ++ waits) items
    ∙ sym (ap (map (item_of history)) (lasting_more item_kind history new frees.kept) ∙ map-append (item_of history) (waiting history) (made_by item_kind history new)))
    (is_bus ∙ ap (λ handlers. (let s : BusStore = record bus { consumers = handlers } in s)) (sym is_consumers))
    (is_consumers ∙ ap (map (changed id change)) stands.bus.consumers ∙ flows_changed history new id move change frees.moves frees.counts)

-- ## Resume

abbrev resume_entry : PassNo → ConsumerId → Traced
resume_entry pass id = plain_entry pass (calls.Resume id) replies.Done no_mark

resume_frees : (history : List Traced) (pass : PassNo) (id : ConsumerId) → AreStored history → Frees history (resume_entry pass id) id resumes (λ room. None) resumed
resume_frees history pass id stored =
    let entry = resume_entry pass id in
    let keeps : KeepsOpen history entry = call_keeps history entry (record { call = refl; mark = refl }) refl in
    record {
      leaves = record {
        keeps = keeps;
        items = record { contexts = refl; queued = refl };
        pools = refl;
        held = refl;
        finished = λ h. refl;
        requests = record { opened = refl; settled = λ r. request_kept history entry r keeps refl };
        consumers = record { registered = refl; kept = λ c. consumer_kept history entry c keeps refl };
        choices = refl;
        tasks = record { made = refl; kept = λ t. refl };
        settled = refl;
        given = refl;
        codecs = record { added = refl; kept = λ c. refl };
        rules = record { added = refl; kept = λ r. refl };
      };
      moves = moved_so history entry id resumes stored (λ consumer. refl);
      counts = λ consumer is_live named. resume_in_numbers (mailbox history consumer);
      items = refl;
      kept = λ item. refl;
    }

pub resumes_so : (contexts new_contexts : ContextStore) (timers : List Timer) (bus new_bus : BusStore) (history : List Traced) (at : EntryNo) (pass : PassNo) (id : ConsumerId) (held : ℕ) (handler : Handler) (context : ContextId) →
    StoresStand contexts timers bus history → IsNext at history → consumer_refusal history pass id ≡ None → handler_in bus.consumers id ≡ Some handler → context_owning handler.consumer.owner ≡ Some context → held ≡ handler.flow.held →
    new_bus ≡ record bus { consumers = map (changed id resumed) bus.consumers } →
    new_contexts ≡ record contexts { waiting = contexts.waiting ++ message_items contexts.made at context 0 (take held (drop (length (filter (is_for id) new_bus.tasks) - held) (filter (is_for id) new_bus.tasks))); room = new_contexts.room } →
    Follows new_contexts timers new_bus history pass (calls.Resume id) replies.Done
resumes_so contexts new_contexts timers bus new_bus history at pass id held handler context stands is_next free found owns is_held is_bus is_contexts =
    let there = live_there history pass id free in
    record {
      answered = sym (ap (λ refusal. unless_refused refusal replies.Done) free);
      stores = frees_so contexts new_contexts timers bus new_bus history (resume_entry pass id) at id handler context held held resumes (λ room. None) resumed (resume_frees history pass id stands.stored)
          stands is_next found owns is_held is_held is_bus is_contexts there.0 there.1;
    }

-- ## Fetch

abbrev fetch_entry : PassNo → ConsumerId → ℕ → Traced
fetch_entry pass id more = plain_entry pass (calls.Fetch id more) replies.Done no_mark

fetch_frees : (history : List Traced) (pass : PassNo) (id : ConsumerId) (more : ℕ) → AreStored history → Frees history (fetch_entry pass id more) id (fetches more) (room_more more) (fetched more)
fetch_frees history pass id more stored =
    let entry = fetch_entry pass id more in
    let keeps : KeepsOpen history entry = call_keeps history entry (record { call = refl; mark = refl }) refl in
    record {
      leaves = record {
        keeps = keeps;
        items = record { contexts = refl; queued = refl };
        pools = refl;
        held = refl;
        finished = λ h. refl;
        requests = record { opened = refl; settled = λ r. request_kept history entry r keeps refl };
        consumers = record { registered = refl; kept = λ c. consumer_kept history entry c keeps refl };
        choices = refl;
        tasks = record { made = refl; kept = λ t. refl };
        settled = refl;
        given = refl;
        codecs = record { added = refl; kept = λ c. refl };
        rules = record { added = refl; kept = λ r. refl };
      };
      moves = moved_so history entry id (fetches more) stored (λ consumer. refl);
      counts = λ consumer is_live named. fetch_in_numbers more (mailbox history consumer);
      items = refl;
      kept = λ item. refl;
    }

pub fetches_so : (contexts new_contexts : ContextStore) (timers : List Timer) (bus new_bus : BusStore) (history : List Traced) (at : EntryNo) (pass : PassNo) (id : ConsumerId) (more held count : ℕ) (handler : Handler) (context : ContextId) →
    StoresStand contexts timers bus history → IsNext at history → fetch_refusal history pass id more ≡ None → handler_in bus.consumers id ≡ Some handler → context_owning handler.consumer.owner ≡ Some context → held ≡ handler.flow.held →
    count ≡ freed (room_more more handler.flow.room) handler.flow.held → new_bus ≡ record bus { consumers = map (changed id (fetched more)) bus.consumers } →
    new_contexts ≡ record contexts { waiting = contexts.waiting ++ message_items contexts.made at context 0 (take count (drop (length (filter (is_for id) new_bus.tasks) - held) (filter (is_for id) new_bus.tasks))); room = new_contexts.room } →
    Follows new_contexts timers new_bus history pass (calls.Fetch id more) replies.Done
fetches_so contexts new_contexts timers bus new_bus history at pass id more held count handler context stands is_next free found owns is_held is_count is_bus is_contexts =
    let there = live_there history pass id (none_of_first (consumer_refusal history pass id) (bad_fetch more) free) in
    record {
      answered = sym (ap (λ refusal. unless_refused refusal replies.Done) free);
      stores = frees_so contexts new_contexts timers bus new_bus history (fetch_entry pass id more) at id handler context held count (fetches more) (room_more more) (fetched more) (fetch_frees history pass id more stands.stored)
          stands is_next found owns is_held is_count is_bus is_contexts there.0 there.1;
    }

-- ## Places, where messages are made ready

-- no more are freed than are held
pub freed_few : (room : Option ℕ) (held : ℕ) → freed room held ≤ held
freed_few None held = omega arith
freed_few (Some room) held = elim (nat_lt room held) as (λ b. nat_lt room held ≡ b → cond b room held ≤ held) [ true ↦ λ less. grind (arith, nat_tests) | false ↦ λ more. omega arith ] refl

-- there are places for those that are freed
pub places_enough : (contexts : ContextStore) (bus : BusStore) (id : ConsumerId) (handler : Handler) (count : ℕ) → HavePlaces contexts bus → handler_in bus.consumers id ≡ Some handler → count ≤ handler.flow.held → count ≤ contexts.room
places_enough contexts bus id handler count places found few = omega (arith, few, places.items, held_within id bus.consumers handler found)

pub places_freed : (contexts new_contexts : ContextStore) (timers : List Timer) (bus new_bus : BusStore) (id : ConsumerId) (handler : Handler) (count : ℕ) (change : Counted → Counted) → HavePlaces contexts bus → AreOfOneHistory contexts timers bus →
    handler_in bus.consumers id ≡ Some handler → new_bus ≡ record bus { consumers = map (changed id change) bus.consumers } → (change handler.flow).held + count ≡ handler.flow.held → contexts.room ≤ new_contexts.room + count → HavePlaces new_contexts new_bus
places_freed contexts new_contexts timers bus new_bus id handler count change places one found is_bus is_count room =
    let rows : length new_bus.requests.waiting ≡ length bus.requests.waiting = ap (λ (s : BusStore). length s.requests.waiting) is_bus in
    let tasks_room : new_bus.room ≡ bus.room = ap (λ (s : BusStore). s.room) is_bus in
    let held : held_in new_bus.consumers ≡ held_in (map (changed id change) bus.consumers) = ap (λ (s : BusStore). held_in s.consumers) is_bus in
    let less = held_changed id change bus.consumers handler (named_once contexts timers bus one id) found in
    record { items = omega (arith, rows, held, less, is_count, room, places.items); tasks = omega (arith, rows, tasks_room, places.tasks) }

-- the consumer of a call that is not refused has a handler
pub not_missing : (contexts : ContextStore) (timers : List Timer) (bus : BusStore) (pass : PassNo) (id : ConsumerId) → AreOfOneHistory contexts timers bus →
    ((history : List Traced) → ContextsStand contexts history → BusStands bus history → consumer_refusal history pass id ≡ None) → handler_in bus.consumers id ≡ None → ⊥
not_missing contexts timers bus pass id one free missing =
    let wrong : true ≡ false = ∥∥₁_elim one (Bool-set true false) (λ p.
    (let there = live_there p.0 pass id (free p.0 p.1.contexts p.1.bus) in
    ap is_some (sym (handler_there bus p.0 id there.0 p.1.bus there.1) ∙ missing))) in
    cc

-- a handler is of a context
pub not_homeless : (contexts : ContextStore) (timers : List Timer) (bus : BusStore) (id : ConsumerId) (handler : Handler) → AreOfOneHistory contexts timers bus → handler_in bus.consumers id ≡ Some handler →
    context_owning handler.consumer.owner ≡ None → ⊥
not_homeless contexts timers bus id handler one found homeless =
    let wrong : true ≡ false = ∥∥₁_elim one (Bool-set true false) (λ p.
    elim (live p.0 id) as (λ o. live p.0 id ≡ o → option_map (handler_of p.0) o ≡ Some handler → true ≡ false) [
      | None ↦ λ none some. cc
      | Some consumer ↦ λ there some.
          (let home = context_there p.0 consumer p.1.stored (live_found p.0 id consumer there) in
          let same : handler_of p.0 consumer ≡ handler = cc in
          ap is_some (sym home.1 ∙ ap (λ (h : Handler). context_owning h.consumer.owner) same ∙ homeless))
    ] refl (sym (handler_is bus p.0 id p.1.bus) ∙ found)) in
    cc
