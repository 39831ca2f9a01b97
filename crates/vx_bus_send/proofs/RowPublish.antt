-- Publish.
use Rattle.std.proofs.Common.{◌≡◌, ℕ, ◌+◌, ◌≤◌, suc, List, [], ◌∷◌, ◌++◌, length, refl, ap, sym, ◌∙◌, arith}
use Rattle.std.specs.Prelude.{true, false, cond, filter, find, map, is_some, Option, None, Some}
use Rattle.std.specs.Option.{option_and_then}
use Rattle.std.proofs.lemmas.List.{append-nil}
use Rattle.vx_data.specs.declared.ids.EntryNo.{EntryNo}
use Rattle.vx_data.specs.declared.ids.PassNo.{PassNo}
use Rattle.vx_data.specs.declared.ids.ConsumerId.{ConsumerId}
use Rattle.vx_data.specs.declared.ids.ContextId.{ContextId}
use Rattle.vx_data.specs.Tree.{Tree}
use Rattle.vx_message.specs.declared.Item.{Item}
use Rattle.vx_message.specs.declared.ItemKind.TheVariants as kinds
use Rattle.vx_message.specs.declared.Message.{Message}
use Rattle.vx_message.specs.declared.Options.{Options}
use Rattle.vx_message.specs.declared.rules.Side.TheVariants as sides
use Rattle.vx_timer.specs.declared.timers.Timer.{Timer}
use Rattle.vx_consumer.specs.declared.flow.Arrive.{Arrive}
use Rattle.vx_consumer.specs.declared.flow.Arrive.TheVariants as arrives
use Rattle.vx_consumer.specs.Flows.{counted}
use Rattle.vx_ring.specs.Rings.{consumers_at, choices_at}
use Rattle.vx_request.specs.Stores.{ended_at, given_at}
use Rattle.vx_call.specs.declared.call.Call.TheVariants as calls
use Rattle.vx_call.specs.declared.reply.Reply.TheVariants as replies
use Rattle.vx_call.specs.declared.reply.Task.{Task}
use Rattle.vx_call.specs.declared.history.Consumer.{Consumer}
use Rattle.vx_call.specs.declared.history.Deed.TheVariants as deeds
use Rattle.vx_call.specs.declared.history.Traced.{Traced}
use Rattle.vx_call.specs.History.{plain_entry, no_mark}
use Rattle.vx_call.specs.Built.{AreStored}
use Rattle.vx_call.specs.Contexts as contexts_of
use Rattle.vx_call.specs.Owners.{context_owning, is_context_owner}
use Rattle.vx_call.specs.Homes.{homes}
use Rattle.vx_call.specs.Names.{next_entry}
use Rattle.vx_call.specs.Registered.{is_named}
use Rattle.vx_call.specs.Consumers.{consumers, handlers, is_at}
use Rattle.vx_call.specs.Rules.{passed}
use Rattle.vx_call.specs.Messages.{sent, received}
use Rattle.vx_call.specs.Arrivals.{reached, reaches}
use Rattle.vx_call.specs.Mailboxes.{arrival_at, is_ready, is_accepted, readied, accepting}
use Rattle.vx_call.specs.Requests.{unsettled, by_due}
use Rattle.vx_call.specs.Items.{item_by, deliveries, delivered, delivery_tasks}
use Rattle.vx_call.specs.Refusals.{unless_refused}
use Rattle.vx_call.specs.Rows.{ids_of, send_refusal}
use Rattle.vx_call.proofs.Each.{Each, Each-both, Each-find, weaken, passing}
use Rattle.vx_call.proofs.Found.{find_passes, find_kept}
use Rattle.vx_call.proofs.Filters.{filter-map}
use Rattle.vx_call.proofs.Consumers.{IsLive, handlers_live, same_consumer-true}
use Rattle.vx_call.specs.Consumers as live_ones
use Rattle.vx_call.proofs.Arrivals.{accepting_live}
use Rattle.vx_call.proofs.Stored.{live_of_context}
use Rattle.vx_call.proofs.KeepsOpen.{KeepsOpen, call_keeps}
use Rattle.vx_call.proofs.Mailboxes.{mailbox_moved}
use Rattle.vx_context.specs.Stores.{ContextStore, item_of, handler_item}
use Rattle.vx_context.specs.Stands.{IsNext}
use Rattle.vx_bus_store.specs.declared.bus.Handler.{Handler}
use Rattle.vx_bus_store.specs.declared.bus.Recipient.{Recipient}
use Rattle.vx_bus_delivery.specs.declared.passages.Passage.{Passage}
use Rattle.vx_bus_delivery.specs.declared.passages.Passage.TheVariants as passages
use Rattle.vx_bus_send.specs.declared.publish.Parcel.{Parcel}
use Rattle.vx_bus_delivery.specs.Passages.{passage_of}
use Rattle.vx_bus_send.specs.Published.{parcel_for, parcel_items, parcel_task, ready_count}
use Rattle.vx_bus_store.specs.Stores.{BusStore, handler_of, recipient_of, home_item, next_arrival, is_handler_at, changed_at, arrived, held_in, message_in, passed_in, timer_of}
use Rattle.vx_bus_store.specs.Stands.{BusStands, StoresStand, Follows, HavePlaces, HaveRoom}
use Rattle.vx_bus_store.proofs.Images.{filter_mapped}
use Rattle.vx_bus_store.proofs.Frames.{consumer_kept, choices_left}
use Rattle.vx_bus_send.proofs.Stays.{request_stays, arrives_here, home_first}
use Rattle.vx_bus_send.proofs.Destinations.{passage_is}
use Rattle.vx_bus_send.proofs.Passing.{IsPassed, GoesOut, goes_out, with_arrival, handlers_after}
use Rattle.vx_bus_send.proofs.Sending.{same_items, all_ended}

-- ## The entry

abbrev entry_of : PassNo → List ℕ → Tree → Options → List ConsumerId → Traced
entry_of pass address body options names = plain_entry pass (calls.Publish address body options) (replies.Published names) no_mark

passed_publish : (history : List Traced) (pass : PassNo) (address : List ℕ) (body : Tree) (options : Options) (names : List ConsumerId) → AreStored history →
    IsPassed history (entry_of pass address body options names) (calls.Publish address body options)
passed_publish history pass address body options names stored =
    let entry = entry_of pass address body options names in
    let keeps : KeepsOpen history entry = call_keeps history entry (record { call = refl; mark = refl }) refl in
    record {
      contexts = record { keeps = keeps; items = record { contexts = refl; queued = refl }; pools = refl; held = refl; finished = λ held. refl };
      consumers = record { registered = refl; kept = λ consumer. consumer_kept history entry consumer keeps refl };
      given = refl;
      codecs = record { added = refl; kept = λ codec. refl };
      rules = record { added = refl; kept = λ rule. refl };
      tasks = refl;
      untaken = λ task. refl;
      items = refl;
      kept = λ item. refl;
      settled = refl;
      opened = refl;
      closed = λ request. request_stays history entry request keeps;
      moves = λ consumer is_live. mailbox_moved history entry consumer (ap is_context_owner (live_of_context history consumer stored is_live).1) is_live;
    }

-- ## Whom it reaches

-- a consumer at the address, and no other
reaches_at : (history : List Traced) (address : List ℕ) (consumer : Consumer) → IsLive history consumer → is_at address consumer ≡ is_some (find (is_named consumer.id) (handlers history address))
reaches_at history address consumer is_live =
    let named = is_named consumer.id in
    elim (is_at address consumer) as (λ b. is_at address consumer ≡ b → b ≡ is_some (find named (handlers history address))) [
      | true ↦ λ here. sym (ap is_some (find_kept named (is_at address) (consumers history) consumer is_live here))
      | false ↦ λ away.
          (elim (find named (handlers history address)) as (λ o. find named (handlers history address) ≡ o → false ≡ is_some o) [
            | None ↦ λ nobody. refl
            | Some other ↦ λ found.
                (let At : Consumer → Type 0 = λ c. IsLive history c × (is_at address c ≡ true) in
                let of_all : Each At (handlers history address) =
                Each-both (IsLive history) (λ c. is_at address c ≡ true) At (handlers history address) (λ c is_one there. (is_one, there)) (handlers_live history address) (passing (is_at address) (consumers history)) in
                let there = Each-find At named (handlers history address) other of_all found in
                let one : consumer.id ≡ other.id = same_consumer-true consumer.id other.id (find_passes named (handlers history address) other found) in
                let both : Some consumer ≡ Some other = sym is_live ∙ ap (live_ones.live history) one ∙ there.0 in
                let same : consumer ≡ other = cc in
                let e : true ≡ false = sym there.1 ∙ sym (ap (is_at address) same) ∙ away in
                cc)
          ] refl)
    ] refl

-- ## The messages

-- what the bus makes for these consumers
abbrev parcels_for : List Traced → Message → List Consumer → List Parcel
parcels_for history message all = map (parcel_for message) (map recipient_of (map (handler_of history) all))

recipients_are : (bus : BusStore) (history : List Traced) (address : List ℕ) → AreStored history → BusStands bus history →
    map recipient_of (filter (λ (h : Handler). is_accepted (next_arrival h)) (filter (is_handler_at address) bus.consumers))
    ≡ map recipient_of (map (handler_of history) (filter (λ consumer. is_accepted (arrival_at history consumer)) (handlers history address)))
recipients_are bus history address stored stands =
    let accepts = λ (h : Handler). is_accepted (next_arrival h) in
    let accepting_now = λ (consumer : Consumer). is_accepted (arrival_at history consumer) in
    ap (λ all. map recipient_of (filter accepts (filter (is_handler_at address) all))) stands.consumers
    ∙ ap (λ all. map recipient_of (filter accepts all)) (filter-map (is_handler_at address) (handler_of history) (consumers history))
    ∙ ap (map recipient_of)
    (filter_mapped accepts accepting_now (handler_of history) (handlers history address)
    (weaken (IsLive history) (λ consumer. accepts (handler_of history consumer) ≡ accepting_now consumer) (handlers history address)
    (λ consumer is_live. ap is_accepted (sym (arrives_here history consumer stored is_live))) (handlers_live history address)))

items_for : (history : List Traced) (message : Message) (place : ℕ) (all : List Consumer) → AreStored history → Each (IsLive history) all →
    parcel_items (contexts_of.contexts history) (next_entry history) place (parcels_for history message (filter (λ consumer. is_accepted (arrival_at history consumer)) all))
    ≡ map (item_of history) (deliveries history message place (homes (filter (λ consumer. is_ready (arrival_at history consumer)) all)))
items_for history message place [] stored lives = refl
items_for history message place (consumer ∷ others) stored lives =
    let accepted = filter (λ c. is_accepted (arrival_at history c)) others in
    let ready = filter (λ c. is_ready (arrival_at history c)) others in
    let made = contexts_of.contexts history in
    let owned = live_of_context history consumer stored lives.0 in
    let kind = kinds.Deliver consumer.id message.id in
    let behind : ℕ → List Item = λ next. parcel_items made (next_entry history) next (parcels_for history message accepted) in
    let its : Option ContextId → List Item = λ home. home_item made (next_entry history) place home kind in
    let first : Arrive → List Item = λ a. cond (is_ready a) (its (context_owning consumer.owner)) [] ++ behind (cond (is_ready a) (place + 1) place) in
    let here : next_arrival (handler_of history consumer) ≡ arrival_at history consumer = sym (arrives_here history consumer stored lives.0) in
    elim (arrival_at history consumer) as (λ a. arrival_at history consumer ≡ a →
    parcel_items made (next_entry history) place (parcels_for history message (cond (is_accepted a) (consumer ∷ accepted) accepted))
    ≡ map (item_of history) (deliveries history message place (homes (cond (is_ready a) (consumer ∷ ready) ready)))) [
      | arrives.Ready ↦ λ is_a. ap first (here ∙ is_a)
          ∙ ap (λ owner. its (context_owning owner) ++ behind (place + 1)) owned.1
          ∙ ap (λ items. handler_item made (next_entry history) place owned.0 kind ∷ items) (items_for history message (place + 1) others stored lives.1)
          ∙ sym (home_first (λ all. map (item_of history) (deliveries history message place all)) history consumer ready stored lives.0)
      | arrives.Held ↦ λ is_a. ap first (here ∙ is_a) ∙ items_for history message place others stored lives.1
      | arrives.Lost ↦ λ is_a. items_for history message place others stored lives.1
    ] refl

tasks_for : (history : List Traced) (message : Message) (all : List Consumer) → AreStored history → Each (IsLive history) all → map parcel_task (parcels_for history message all) ≡ delivery_tasks (Some message) (homes all)
tasks_for history message [] stored lives = refl
tasks_for history message (consumer ∷ others) stored lives =
    ap (λ tasks. parcel_task (parcel_for message (recipient_of (handler_of history consumer))) ∷ tasks) (tasks_for history message others stored lives.1)
    ∙ sym (home_first (delivery_tasks (Some message)) history consumer others stored lives.0)

names_of : (history : List Traced) (all : List Consumer) → map (λ (r : Recipient). r.consumer) (map recipient_of (map (handler_of history) all)) ≡ ids_of all
names_of history [] = refl
names_of history (consumer ∷ others) = ap (λ names. consumer.id ∷ names) (names_of history others)

-- ## The room

pub few_ready : (parcels : List Parcel) → ready_count parcels ≤ length parcels
few_ready [] = omega arith
few_ready (parcel ∷ others) =
    let rest = few_ready others in
    elim (is_ready parcel.recipient.arrive) as (λ b. cond b (ready_count others + 1) (ready_count others) ≤ suc (length others)) [ true ↦ omega arith | false ↦ omega arith ]

-- each message that is accepted is held, or made ready
pub held_at : (message : Message) (address : List ℕ) (all : List Handler) →
    (let parcels = map (parcel_for message) (map recipient_of (filter (λ (h : Handler). is_accepted (next_arrival h)) (filter (is_handler_at address) all))) in
    held_in (map (changed_at address arrived) all) + ready_count parcels ≡ held_in all + length parcels)
held_at message address [] = refl
held_at message address (handler ∷ others) =
    let accepts = λ (h : Handler). is_accepted (next_arrival h) in
    let parcels = λ (hs : List Handler). map (parcel_for message) (map recipient_of hs) in
    let rest = filter accepts (filter (is_handler_at address) others) in
    let behind = held_at message address others in
    let after = held_in (map (changed_at address arrived) others) in
    elim (is_handler_at address handler) as (λ b.
    ((let h : Handler = cond b (record { consumer = handler.consumer; flow = arrived handler.flow }) handler in h).flow.held + after) + ready_count (parcels (filter accepts (cond b (handler ∷ filter (is_handler_at address) others) (filter (is_handler_at address) others))))
    ≡ (handler.flow.held + held_in others) + length (parcels (filter accepts (cond b (handler ∷ filter (is_handler_at address) others) (filter (is_handler_at address) others))))) [
      | true ↦
          (let first : Arrive → ℕ = λ a. cond (is_ready a) (ready_count (parcels rest) + 1) (ready_count (parcels rest)) in
          elim (next_arrival handler) as (λ a. next_arrival handler ≡ a →
          ((counted a handler.flow).held + after) + ready_count (parcels (cond (is_accepted a) (handler ∷ rest) rest)) ≡ (handler.flow.held + held_in others) + length (parcels (cond (is_accepted a) (handler ∷ rest) rest))) [
            | arrives.Ready ↦ λ is_a. (let count : ready_count (parcels (handler ∷ rest)) ≡ ready_count (parcels rest) + 1 = ap first is_a in omega (arith, behind, count))
            | arrives.Held ↦ λ is_a. (let count : ready_count (parcels (handler ∷ rest)) ≡ ready_count (parcels rest) = ap first is_a in omega (arith, behind, count))
            | arrives.Lost ↦ λ is_a. omega (arith, behind)
          ] refl)
      | false ↦ omega (arith, behind)
    ]

-- ## No rule lets it arrive

stopped : (history : List Traced) (s : Option Message) → ((message : Message) → passage_of s (option_and_then (passed history sides.In) s) ≡ passages.Arrives message → ⊥) → option_and_then (passed history sides.In) s ≡ None
stopped history None never = refl
stopped history (Some m) never =
    elim (passed history sides.In m) as (λ o. ((message : Message) → passage_of (Some m) o ≡ passages.Arrives message → ⊥) → o ≡ None) [ None ↦ λ h. refl | Some message ↦ λ h. absurd (h message refl) ] never

arrived_so : (s r : Option Message) (message : Message) → passage_of s r ≡ passages.Arrives message → r ≡ Some message
arrived_so None r message is_passage = cc
arrived_so (Some m) None message is_passage = cc
arrived_so (Some m) (Some other) message is_passage = cc

map_same : {A B : Type 0} (f : A → B) (all : List A) → map (λ y. y) (map f all) ≡ map f all
map_same f [] = refl
map_same f (x ∷ others) = ap (λ ys. f x ∷ ys) (map_same f others)

-- what the bus found of the message
abbrev pub IsPublished : BusStore → EntryNo → List ℕ → Tree → Options → Passage → Type 0
IsPublished bus at address body options passage =
    (let message = message_in bus at address body options false true in
    passage ≡ passage_of (passed_in bus sides.Out message) (option_and_then (passed_in bus sides.In) (passed_in bus sides.Out message)))

pub publishes_nothing : (contexts : ContextStore) (timers : List Timer) (bus : BusStore) (history : List Traced) (at : EntryNo) (pass : PassNo) (address : List ℕ) (body : Tree) (options : Options) (passage : Passage) →
    StoresStand contexts timers bus history → IsNext at history → send_refusal history pass address body options ≡ None → IsPublished bus at address body options passage → ((message : Message) → passage ≡ passages.Arrives message → ⊥) →
    Follows contexts timers bus history pass (calls.Publish address body options) (replies.Published [])
publishes_nothing contexts timers bus history at pass address body options passage stands is_next accepted found never =
    let call = calls.Publish address body options in
    let entry = entry_of pass address body options [] in
    let passed_entry = passed_publish history pass address body options [] stands.stored in
    let is_passage : passage ≡ passage_of (sent history call deeds.Nothing) (received history call deeds.Nothing) = found ∙ passage_is bus history at call address body options false true stands.bus is_next refl in
    let none : received history call deeds.Nothing ≡ None = stopped history (sent history call deeds.Nothing) (λ message is_one. never message (is_passage ∙ is_one)) in
    let nobody : reached history call deeds.Nothing ≡ [] = ap (λ o. cond (is_some o) (handlers history address) []) none in
    let nobody_accepts : accepting history call deeds.Nothing ≡ [] = ap (filter (λ consumer. is_accepted (arrival_at history consumer))) nobody in
    let never_reaches : (consumer : Consumer) → reaches history call deeds.Nothing consumer.id ≡ false = λ consumer. ap (λ cs. is_some (find (is_named consumer.id) cs)) nobody in
    let out : GoesOut contexts contexts timers bus bus history entry call = record {
      items = same_items contexts contexts history (item_by history entry call) refl (append-nil _ ∙ ap (λ o. delivered history o (homes (readied history call deeds.Nothing))) none);
      timers = stands.timers ∙ ap (λ requests. map timer_of (by_due requests)) (sym (append-nil (unsettled history)));
      consumers = stands.bus.consumers
          ∙ sym (map_same (handler_of history) (consumers history))
          ∙ handlers_after history entry call (λ h. h) passed_entry (λ consumer is_live. ap (λ b. cond b (with_arrival (handler_of history consumer)) (handler_of history consumer)) (sym (never_reaches consumer)));
      in_turn = λ a. refl;
      choices = λ a. stands.bus.choices a ∙ sym (choices_left history entry a passed_entry.consumers refl);
      tasks = sym (append-nil bus.tasks) ∙ ap (λ made. bus.tasks ++ made) (sym (append-nil _ ∙ ap (λ o. delivery_tasks o (homes (accepting history call deeds.Nothing))) none));
      opened = sym (append-nil bus.requests.waiting);
      ended = λ id. stands.bus.ended id ∙ all_ended history id;
      given = λ id. refl;
      codecs = refl;
      rules = refl;
    } in
    record {
      answered = ap (λ cs. replies.Published (ids_of cs)) (sym nobody_accepts) ∙ sym (ap (λ refusal. unless_refused refusal (replies.Published (ids_of (accepting history call deeds.Nothing)))) accepted);
      stores = goes_out contexts contexts timers timers bus bus history entry call passed_entry stands out;
    }

-- ## It arrives

pub publishes : (contexts new_contexts : ContextStore) (timers : List Timer) (old bus arrived_bus new_bus : BusStore) (history : List Traced) (at : EntryNo) (pass : PassNo) (address : List ℕ) (body : Tree) (options : Options) (passage : Passage)
    (message : Message) (recipients : List Recipient) (parcels : List Parcel) (names : List ConsumerId) →
    BusStands old history → StoresStand contexts timers bus history → IsNext at history → send_refusal history pass address body options ≡ None → IsPublished old at address body options passage → passage ≡ passages.Arrives message →
    recipients ≡ map recipient_of (filter (λ (h : Handler). is_accepted (next_arrival h)) (filter (is_handler_at address) old.consumers)) →
    parcels ≡ map (parcel_for message) recipients → names ≡ map (λ (r : Recipient). r.consumer) recipients →
    arrived_bus ≡ record bus { consumers = map (changed_at address arrived) bus.consumers } →
    new_contexts ≡ record contexts { waiting = contexts.waiting ++ parcel_items contexts.made at 0 parcels; room = new_contexts.room } →
    new_bus ≡ record arrived_bus { tasks = arrived_bus.tasks ++ map parcel_task parcels; room = new_bus.room } →
    Follows new_contexts timers new_bus history pass (calls.Publish address body options) (replies.Published names)
publishes contexts new_contexts timers old bus arrived_bus new_bus history at pass address body options passage message recipients parcels names was stands is_next accepted found arrives_now is_recipients is_parcels is_names is_arrived is_contexts is_bus =
    let call = calls.Publish address body options in
    let entry = entry_of pass address body options names in
    let passed_entry = passed_publish history pass address body options names stands.stored in
    let is_passage : passage ≡ passage_of (sent history call deeds.Nothing) (received history call deeds.Nothing) = found ∙ passage_is old history at call address body options false true was is_next refl in
    let is_message : received history call deeds.Nothing ≡ Some message = arrived_so (sent history call deeds.Nothing) (received history call deeds.Nothing) message (sym is_passage ∙ arrives_now) in
    let all : reached history call deeds.Nothing ≡ handlers history address = ap (λ o. cond (is_some o) (handlers history address) []) is_message in
    let accepters : accepting history call deeds.Nothing ≡ filter (λ consumer. is_accepted (arrival_at history consumer)) (handlers history address) = ap (filter (λ consumer. is_accepted (arrival_at history consumer))) all in
    let are : recipients ≡ map recipient_of (map (handler_of history) (accepting history call deeds.Nothing)) =
    is_recipients ∙ recipients_are old history address stands.stored was ∙ ap (λ cs. map recipient_of (map (handler_of history) cs)) (sym accepters) in
    let each : parcels ≡ parcels_for history message (accepting history call deeds.Nothing) = is_parcels ∙ ap (map (parcel_for message)) are in
    let is_at_next : at ≡ next_entry history = ap (λ n. let e : EntryNo = record { 0 = n } in e) is_next in
    let items : parcel_items contexts.made at 0 parcels ≡ map (item_of history) (item_by history entry call) =
    ap (λ made. parcel_items made at 0 parcels) stands.contexts.made
    ∙ ap (λ e. parcel_items (contexts_of.contexts history) e 0 parcels) is_at_next
    ∙ ap (parcel_items (contexts_of.contexts history) (next_entry history) 0) (each ∙ ap (parcels_for history message) accepters)
    ∙ items_for history message 0 (handlers history address) stands.stored (handlers_live history address)
    ∙ ap (λ cs. map (item_of history) (deliveries history message 0 (homes (filter (λ consumer. is_ready (arrival_at history consumer)) cs)))) (sym all)
    ∙ ap (λ o. map (item_of history) (delivered history o (homes (readied history call deeds.Nothing)))) (sym is_message)
    ∙ ap (map (item_of history)) (sym (append-nil _)) in
    let made : map parcel_task parcels ≡ delivery_tasks (received history call deeds.Nothing) (homes (accepting history call deeds.Nothing)) =
    ap (map parcel_task) each
    ∙ tasks_for history message (accepting history call deeds.Nothing) stands.stored (accepting_live history call deeds.Nothing)
    ∙ ap (λ o. delivery_tasks o (homes (accepting history call deeds.Nothing))) (sym is_message) in
    let same_rings : new_bus.rings ≡ bus.rings = ap (λ (s : BusStore). s.rings) is_bus ∙ ap (λ (s : BusStore). s.rings) is_arrived in
    let reaches_them : (consumer : Consumer) → IsLive history consumer → is_at address consumer ≡ reaches history call deeds.Nothing consumer.id = λ consumer is_live.
    reaches_at history address consumer is_live ∙ sym (ap (λ cs. is_some (find (is_named consumer.id) cs)) all) in
    let out : GoesOut contexts new_contexts timers bus new_bus history entry call = record {
      items = is_contexts ∙ ap (λ xs. record contexts { waiting = contexts.waiting ++ xs; room = new_contexts.room }) items;
      timers = stands.timers ∙ ap (λ requests. map timer_of (by_due requests)) (sym (append-nil (unsettled history)));
      consumers = ap (λ (s : BusStore). s.consumers) is_bus ∙ ap (λ (s : BusStore). s.consumers) is_arrived ∙ ap (map (changed_at address arrived)) stands.bus.consumers
          ∙ handlers_after history entry call (changed_at address arrived) passed_entry
          (λ consumer is_live. ap (λ b. cond b (with_arrival (handler_of history consumer)) (handler_of history consumer)) (reaches_them consumer is_live));
      in_turn = λ a. ap (consumers_at a) same_rings;
      choices = λ a. ap (choices_at a) same_rings ∙ stands.bus.choices a ∙ sym (choices_left history entry a passed_entry.consumers refl);
      tasks = ap (λ (s : BusStore). s.tasks) is_bus ∙ ap (λ (s : BusStore). s.tasks ++ map parcel_task parcels) is_arrived ∙ ap (λ xs. bus.tasks ++ xs) (made ∙ sym (append-nil _));
      opened = ap (λ (s : BusStore). s.requests.waiting) is_bus ∙ ap (λ (s : BusStore). s.requests.waiting) is_arrived ∙ sym (append-nil bus.requests.waiting);
      ended = λ id. ap (λ (s : BusStore). ended_at id s.requests.ended) is_bus ∙ ap (λ (s : BusStore). ended_at id s.requests.ended) is_arrived ∙ stands.bus.ended id ∙ all_ended history id;
      given = λ id. ap (λ (s : BusStore). given_at id s.given) is_bus ∙ ap (λ (s : BusStore). given_at id s.given) is_arrived;
      codecs = ap (λ (s : BusStore). s.codecs) is_bus ∙ ap (λ (s : BusStore). s.codecs) is_arrived;
      rules = ap (λ (s : BusStore). s.rules) is_bus ∙ ap (λ (s : BusStore). s.rules) is_arrived;
    } in
    record {
      answered = ap replies.Published (is_names ∙ ap (map (λ (r : Recipient). r.consumer)) are ∙ names_of history (accepting history call deeds.Nothing))
          ∙ sym (ap (λ refusal. unless_refused refusal (replies.Published (ids_of (accepting history call deeds.Nothing)))) accepted);
      stores = goes_out contexts new_contexts timers timers bus new_bus history entry call passed_entry stands out;
    }

-- the places that are left
pub places_published : (contexts new_contexts : ContextStore) (old bus arrived_bus new_bus : BusStore) (address : List ℕ) (message : Message) (recipients : List Recipient) (parcels : List Parcel) (made : List Task) (count : ℕ) → old.consumers ≡ bus.consumers →
    recipients ≡ map recipient_of (filter (λ (h : Handler). is_accepted (next_arrival h)) (filter (is_handler_at address) old.consumers)) → parcels ≡ map (parcel_for message) recipients →
    arrived_bus ≡ record bus { consumers = map (changed_at address arrived) bus.consumers } → new_bus ≡ record arrived_bus { tasks = made; room = new_bus.room } →
    count ≡ length parcels → HaveRoom contexts bus count → contexts.room ≤ new_contexts.room + ready_count parcels → arrived_bus.room ≤ new_bus.room + length parcels → HavePlaces new_contexts new_bus
places_published contexts new_contexts old bus arrived_bus new_bus address message recipients parcels made count same is_recipients is_parcels is_arrived is_bus is_count had items tasks =
    let accepts = λ (h : Handler). is_accepted (next_arrival h) in
    let all : parcels ≡ map (parcel_for message) (map recipient_of (filter accepts (filter (is_handler_at address) bus.consumers))) =
    is_parcels ∙ ap (map (parcel_for message)) is_recipients ∙ ap (λ hs. map (parcel_for message) (map recipient_of (filter accepts (filter (is_handler_at address) hs)))) same in
    let counts = ap ready_count all in
    let lengths = ap (λ (ps : List Parcel). length ps) all in
    let held_more = held_at message address bus.consumers in
    let held : held_in new_bus.consumers ≡ held_in (map (changed_at address arrived) bus.consumers) = ap (λ (s : BusStore). held_in s.consumers) is_bus ∙ ap (λ (s : BusStore). held_in s.consumers) is_arrived in
    let waits : length new_bus.requests.waiting ≡ length bus.requests.waiting = ap (λ (s : BusStore). length s.requests.waiting) is_bus ∙ ap (λ (s : BusStore). length s.requests.waiting) is_arrived in
    let room : arrived_bus.room ≡ bus.room = ap (λ (s : BusStore). s.room) is_arrived in
    record { items = omega (arith, had.items, items, counts, lengths, held_more, held, waits, is_count); tasks = omega (arith, had.tasks, tasks, waits, room, is_count) }
