-- A message that is sent to one consumer: what Send and Request have in common.
use Rattle.std.proofs.Common.{◌≡◌, ℕ, ◌+◌, ◌-◌, ◌<◌, ◌^◌, min, List, [], ◌∷◌, ◌++◌, length, refl, ap, sym, ◌∙◌, subst}
use Rattle.std.specs.Prelude.{Bool, true, false, not, ◌&&◌, cond, filter, find, map, is_some, Option, None, Some}
use Rattle.std.specs.List.{cons_option}
use Rattle.std.specs.Option.{option_map, option_and_then, option_or}
use Rattle.std.specs.Str.{bytes_eq}
use Rattle.std.proofs.lemmas.List.{append-nil}
use Rattle.vx_data.specs.declared.ids.EntryNo.{EntryNo}
use Rattle.vx_data.specs.declared.ids.MessageId.{MessageId}
use Rattle.vx_data.specs.Tree.{Tree}
use Rattle.vx_message.specs.declared.Context.{Context}
use Rattle.vx_message.specs.declared.Item.{Item}
use Rattle.vx_message.specs.declared.ItemKind.TheVariants as kinds
use Rattle.vx_message.specs.declared.Message.{Message}
use Rattle.vx_message.specs.declared.Options.{Options}
use Rattle.vx_message.specs.declared.rules.Side.TheVariants as sides
use Rattle.vx_consumer.specs.declared.flow.Arrive.{Arrive}
use Rattle.vx_call.specs.declared.call.Call.{Call}
use Rattle.vx_call.specs.declared.reply.Task.TheVariants as tasks
use Rattle.vx_call.specs.declared.reply.To.{To}
use Rattle.vx_call.specs.declared.history.Consumer.{Consumer}
use Rattle.vx_call.specs.declared.history.Deed.TheVariants as deeds
use Rattle.vx_call.specs.declared.history.Traced.{Traced}
use Rattle.vx_call.specs.Built.{AreStored}
use Rattle.vx_call.specs.History.{made_by, lasting}
use Rattle.vx_call.specs.Consumers.{consumers}
use Rattle.vx_call.specs.Choices.{choice_kind, chosen_at, choices}
use Rattle.vx_call.specs.Settled.{settled_kind, settled_at}
use Rattle.vx_call.specs.Owners.{context_owning}
use Rattle.vx_call.specs.Contexts.{contexts}
use Rattle.vx_call.specs.Names.{next_entry}
use Rattle.vx_call.specs.Homes.{homes}
use Rattle.vx_call.specs.Messages.{message_to, message_of, sent, received}
use Rattle.vx_call.specs.Mailboxes.{arrival_at, is_ready, is_accepted, readied, accepting}
use Rattle.vx_call.specs.Items.{Waiting, delivered, deliveries, delivery_tasks}
use Rattle.vx_call.specs.Rows.{destination}
use Rattle.vx_context.specs.Stores.{ContextStore, item_of}
use Rattle.vx_context.specs.Stands.{ContextsStand, IsNext}
use Rattle.vx_call.proofs.Arrivals.{choice_live}
use Rattle.vx_call.proofs.Settlings.{is_settled_as}
use Rattle.vx_call.proofs.Dropped.{or_none}
use Rattle.vx_ring.specs.Rings as rings
use Rattle.vx_ring.specs.Rings.{RingAt, consumers_at, choices_at}
use Rattle.vx_bus_delivery.specs.declared.passages.Passage.{Passage}
use Rattle.vx_bus_delivery.specs.declared.passages.Passage.TheVariants as passages
use Rattle.vx_bus_delivery.specs.Passages.{passage_of, is_sent}
use Rattle.vx_bus_delivery.specs.Deliveries.{destination_in, PassesOn}
use Rattle.vx_bus_store.specs.Stores.{BusStore, handler_of, message_in, passed_in, recipient_of, home_item, ready_item}
use Rattle.vx_bus_store.specs.Stands.{BusStands}
use Rattle.vx_bus_delivery.specs.Deliveries.{Accepts}
use Rattle.vx_bus_send.proofs.Stays.{home_with, home_first, arrives_here}
use Rattle.vx_bus_send.proofs.Settling.{at_of}
use Rattle.vx_bus_delivery.proofs.Turns.{choices_counted}
use Rattle.vx_bus_send.proofs.Destinations.{passage_is, destination_is}
use Rattle.vx_bus_store.proofs.Handlers.{handler_there}
use Rattle.vx_bus_send.proofs.Passing.{Misses, Meets}

-- ## The passage

pub is_sent_so : (s r : Option Message) → is_sent (passage_of s r) ≡ is_some s
is_sent_so None r = refl
is_sent_so (Some m) None = refl
is_sent_so (Some m) (Some message) = refl

arrives_so : (s r : Option Message) (message : Message) → is_some s ≡ true → r ≡ Some message → passage_of s r ≡ passages.Arrives message
arrives_so None r message was_sent is_received = cc
arrives_so (Some m) None message was_sent is_received = cc
arrives_so (Some m) (Some other) message was_sent is_received = cc

-- what the bus found of the message of a call, before it did anything
pub record IsFound (bus : BusStore) (at : EntryNo) (address : List ℕ) (body : Tree) (options : Options) (request : Bool) (passage : Passage) (to : To) : Type 0 where
  pub passes : (let message = message_in bus at address body options request false in
      passage ≡ passage_of (passed_in bus sides.Out message) (option_and_then (passed_in bus sides.In) (passed_in bus sides.Out message)))
  pub goes : to ≡ destination_in bus passage address

-- it is what the machine says
pub record IsTrue (history : List Traced) (call : Call) (address : List ℕ) (passage : Passage) (to : To) : Type 0 where
  pub passes : passage ≡ passage_of (sent history call deeds.Nothing) (received history call deeds.Nothing)
  pub goes : to ≡ destination history call address

pub found_true : (bus : BusStore) (history : List Traced) (at : EntryNo) (call : Call) (address : List ℕ) (body : Tree) (options : Options) (request : Bool) (passage : Passage) (to : To) → AreStored history → BusStands bus history → IsNext at history →
    message_of history call deeds.Nothing ≡ Some (message_to history address body options request false) → IsFound bus at address body options request passage to → IsTrue history call address passage to
found_true bus history at call address body options request passage to stored stands is_next is_message found =
    let is_passage = found.passes ∙ passage_is bus history at call address body options request false stands is_next is_message in
    record {
      passes = is_passage;
      goes = found.goes ∙ ap (λ p. destination_in bus p address) is_passage ∙ destination_is bus history call address stored stands;
    }

-- the choices then
pub choices_passed : (contexts new_contexts : ContextStore) (old bus new_bus : BusStore) (history : List Traced) (entry : Traced) (at : EntryNo) (call : Call) (address : List ℕ) (passage : Passage) (to : To) →
    BusStands old history → length history < 2 ^ 48 → consumers (history ++ entry ∷ []) ≡ consumers history → made_by choice_kind history entry ≡ chosen_at history (is_some (sent history call deeds.Nothing)) address →
    PassesOn contexts new_contexts bus new_bus at passage address to → IsTrue history call address passage to → bus.rings ≡ old.rings → (a : List ℕ) → choices_at a new_bus.rings ≡ choices (history ++ entry ∷ []) a
choices_passed contexts new_contexts old bus new_bus history entry at call address passage to stands small same made passes is_true kept =
    let Counts : Bool → List RingAt → Type 0 = λ b before. (a : List ℕ) → choices_at a new_bus.rings
    ≡ cond (b && (bytes_eq a address && not (rings.is_empty (consumers_at a before)))) (min (choices_at a before + 1) (2 ^ 64 - 1)) (choices_at a before) in
    let From : Bool → Type 0 = λ b. Counts b bus.rings in
    let Of : List RingAt → Type 0 = Counts (is_some (sent history call deeds.Nothing)) in
    choices_counted old new_bus history entry address (is_some (sent history call deeds.Nothing)) stands small same made
    (subst Of kept (subst From (ap is_sent is_true.passes ∙ is_sent_so (sent history call deeds.Nothing) (received history call deeds.Nothing)) passes.choices))

-- ## What stays

-- the items that wait, where none is added
pub same_items : (contexts new_contexts : ContextStore) (history : List Traced) (call_items : List Waiting) → new_contexts ≡ contexts → call_items ≡ [] →
    new_contexts ≡ record contexts { waiting = contexts.waiting ++ map (item_of history) call_items; room = new_contexts.room }
same_items contexts new_contexts history call_items is_new none =
    is_new
    ∙ ap (λ waiting. record contexts { waiting = waiting }) (sym (append-nil contexts.waiting) ∙ ap (λ items. contexts.waiting ++ map (item_of history) items) (sym none))
    ∙ ap (λ room. record contexts { waiting = contexts.waiting ++ map (item_of history) call_items; room = room }) (sym (ap (λ (s : ContextStore). s.room) is_new))

-- the requests that have ended, where none ends
pub all_ended : (history : List Traced) (id : MessageId) → settled_at history id ≡ option_or (settled_at history id) None
all_ended history id = sym (or_none (settled_at history id))

-- ## Nobody accepts it

none_delivered : (history : List Traced) (o : Option Message) → delivered history o [] ≡ []
none_delivered history None = refl
none_delivered history (Some message) = refl

none_made : (o : Option Message) → delivery_tasks o [] ≡ []
none_made None = refl
none_made (Some message) = refl

pub missed_items : (history : List Traced) (call : Call) (to : To) → Misses history call to → delivered history (received history call deeds.Nothing) (homes (readied history call deeds.Nothing)) ≡ []
missed_items history call to misses = ap (λ cs. delivered history (received history call deeds.Nothing) (homes cs)) misses.ready ∙ none_delivered history (received history call deeds.Nothing)

pub missed_tasks : (history : List Traced) (call : Call) (to : To) → Misses history call to → delivery_tasks (received history call deeds.Nothing) (homes (accepting history call deeds.Nothing)) ≡ []
missed_tasks history call to misses = ap (λ cs. delivery_tasks (received history call deeds.Nothing) (homes cs)) misses.accepted ∙ none_made (received history call deeds.Nothing)

-- ## One accepts it

pub met_accepting : (history : List Traced) (call : Call) (address : List ℕ) (to : To) (meets : Meets history call address to) → accepting history call deeds.Nothing ≡ meets.consumer ∷ []
met_accepting history call address to meets =
    ap (filter (λ consumer. is_accepted (arrival_at history consumer))) meets.alone ∙ ap (λ b. cond b (meets.consumer ∷ []) []) meets.accepts

pub met_tasks : (history : List Traced) (call : Call) (address : List ℕ) (to : To) → AreStored history → (meets : Meets history call address to) →
    delivery_tasks (received history call deeds.Nothing) (homes (accepting history call deeds.Nothing)) ≡ tasks.Deliver meets.consumer.id meets.message ∷ []
met_tasks history call address to stored meets =
    ap (λ o. delivery_tasks o (homes (accepting history call deeds.Nothing))) meets.received
    ∙ ap (λ cs. delivery_tasks (Some meets.message) (homes cs)) (met_accepting history call address to meets)
    ∙ home_first (delivery_tasks (Some meets.message)) history meets.consumer [] stored (choice_live history address meets.consumer meets.chosen)

one_item : (history : List Traced) (message : Message) (consumer : Consumer) (b : Bool) →
    cond b (home_item (contexts history) (next_entry history) 0 (context_owning consumer.owner) (kinds.Deliver consumer.id message.id)) []
    ≡ map (item_of history) (deliveries history message 0 (homes (cond b (consumer ∷ []) [])))
one_item history message consumer true =
    elim (context_owning consumer.owner) as (λ o. home_item (contexts history) (next_entry history) 0 o (kinds.Deliver consumer.id message.id)
    ≡ map (item_of history) (deliveries history message 0 (cons_option (option_map (home_with consumer) o) []))) [ None ↦ refl | Some context ↦ refl ]
one_item history message consumer false = refl

pub met_items : (store : ContextStore) (history : List Traced) (call : Call) (address : List ℕ) (to : To) (at : EntryNo) → AreStored history → ContextsStand store history → (meets : Meets history call address to) → IsNext at history →
    ready_item store.made at 0 (recipient_of (handler_of history meets.consumer)) meets.message.id ≡ map (item_of history) (delivered history (received history call deeds.Nothing) (homes (readied history call deeds.Nothing)))
met_items store history call address to at stored stands meets is_next =
    let consumer = meets.consumer in
    let entry : ℕ → EntryNo = λ n. record { 0 = n } in
    let item : Arrive → List Item = λ a. cond (is_ready a) (home_item (contexts history) (next_entry history) 0 (context_owning consumer.owner) (kinds.Deliver consumer.id meets.message.id)) [] in
    ap (λ (all : List Context). ready_item all at 0 (recipient_of (handler_of history consumer)) meets.message.id) stands.made
    ∙ ap (λ n. ready_item (contexts history) (entry n) 0 (recipient_of (handler_of history consumer)) meets.message.id) is_next
    ∙ ap item (sym (arrives_here history consumer stored (choice_live history address consumer meets.chosen)))
    ∙ one_item history meets.message consumer (is_ready (arrival_at history consumer))
    ∙ sym (ap (λ cs. map (item_of history) (delivered history (Some meets.message) (homes cs))) (ap (filter (λ c. is_ready (arrival_at history c))) meets.alone))
    ∙ sym (ap (λ o. map (item_of history) (delivered history o (homes (readied history call deeds.Nothing)))) meets.received)

-- the consumer is given the message
pub met_accepts : (contexts new_contexts : ContextStore) (bus new_bus : BusStore) (history : List Traced) (at : EntryNo) (call : Call) (address : List ℕ) (passage : Passage) (to : To) → BusStands bus history →
    PassesOn contexts new_contexts bus new_bus at passage address to → IsTrue history call address passage to → (meets : Meets history call address to) →
    Accepts contexts new_contexts (record bus { rings = new_bus.rings }) new_bus at (recipient_of (handler_of history meets.consumer)) meets.message
met_accepts contexts new_contexts bus new_bus history at call address passage to stands passes is_true meets =
    passes.arrives meets.consumer.id meets.message (handler_of history meets.consumer) meets.goes
    (is_true.passes ∙ arrives_so (sent history call deeds.Nothing) (received history call deeds.Nothing) meets.message meets.is_sent meets.received)
    (handler_there bus history meets.consumer.id meets.consumer stands (choice_live history address meets.consumer meets.chosen))
