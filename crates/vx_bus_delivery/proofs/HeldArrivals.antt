-- How many messages are held, where one more arrives.
use Rattle.std.proofs.Common.{◌≡◌, ℕ, ◌+◌, ◌≤◌, List, [], ◌∷◌, ◌++◌, length, refl, ap, sym, ◌∙◌, arith}
use Rattle.std.specs.Prelude.{true, false, nat_le, cond, map, filter, Option, None, Some}
use Rattle.std.specs.Option.{option_map}
use Rattle.std.proofs.Math.Bool.{Bool-set}
use Rattle.std.proofs.Math.Logic.{∥∥₁_elim}
use Rattle.std.proofs.lemmas.Bool.Decides.{nat_tests}
use Rattle.std.proofs.lemmas.List.{length-map}
use Rattle.vx_data.specs.Ids.{same_consumer}
use Rattle.vx_timer.specs.declared.timers.Timer.{Timer}
use Rattle.vx_call.specs.declared.history.Consumer.{Consumer}
use Rattle.vx_call.specs.declared.history.Traced.{Traced}
use Rattle.vx_data.specs.declared.ids.ConsumerId.{ConsumerId}
use Rattle.vx_data.specs.declared.ids.ContextId.{ContextId}
use Rattle.vx_data.specs.declared.ids.EntryNo.{EntryNo}
use Rattle.vx_data.specs.declared.ids.MessageId.{MessageId}
use Rattle.vx_message.specs.declared.Context.{Context}
use Rattle.vx_message.specs.declared.Item.{Item}
use Rattle.vx_message.specs.declared.ItemKind.{ItemKind}
use Rattle.vx_consumer.specs.declared.flow.Arrive.{Arrive}
use Rattle.vx_consumer.specs.declared.flow.Arrive.TheVariants as arrives
use Rattle.vx_consumer.specs.Flows.{Counted, counted}
use Rattle.vx_call.specs.Consumers.{consumers}
use Rattle.vx_call.specs.Registered.{is_named}
use Rattle.vx_call.specs.Mailboxes.{is_ready, is_accepted}
use Rattle.vx_call.specs.Rows.{arrived_at}
use Rattle.vx_call.proofs.Found.{find_passes}
use Rattle.vx_call.proofs.Each.{weaken}
use Rattle.vx_call.proofs.Apart.{Apart}
use Rattle.vx_call.proofs.Filters.{filter_no, filter-map}
use Rattle.vx_call.proofs.Consumers.{same_by_name, same_consumer-true, consumers_apart}
use Rattle.vx_bus_store.specs.declared.bus.Handler.{Handler}
use Rattle.vx_bus_store.specs.declared.bus.Recipient.{Recipient}
use Rattle.vx_call.specs.declared.reply.Task.{Task}
use Rattle.vx_call.specs.declared.reply.Task.TheVariants as tasks
use Rattle.vx_call.specs.declared.reply.To.TheVariants as reached
use Rattle.vx_message.specs.declared.Message.{Message}
use Rattle.vx_context.specs.Stores.{ContextStore}
use Rattle.vx_bus_delivery.specs.declared.passages.Passage.{Passage}
use Rattle.vx_bus_delivery.specs.declared.passages.Passage.TheVariants as passages
use Rattle.vx_bus_store.specs.Stores.{BusStore, handler_of, names, handler_in, changed, arrived, held_in, next_arrival, recipient_of, home_item, ready_item, AreNamedOnce}
use Rattle.vx_bus_delivery.specs.Deliveries.{IsAcceptedBy, turn_in, arrival_of, destination_of, destination_in}
use Rattle.vx_bus_store.specs.Stands.{BusStands, HaveRoom, AreOfOneHistory}
use Rattle.vx_bus_delivery.specs.Deliveries.{Accepts}

-- ## A handler by its name

-- the handler that accepts the message
pub record IsThere (handlers : List Handler) (id : ConsumerId) : Type 0 where
  pub handler : Handler
  pub found : handler_in handlers id ≡ Some handler
  pub accepts : is_accepted (next_arrival handler) ≡ true

there_is : (handlers : List Handler) (id : ConsumerId) (o : Option Handler) → handler_in handlers id ≡ o → option_map (λ (h : Handler). is_accepted (next_arrival h)) o ≡ Some true → IsThere handlers id
there_is handlers id None found accepts = cc
there_is handlers id (Some handler) found accepts = record { handler = handler; found = found; accepts = cc }

pub there : (handlers : List Handler) (id : ConsumerId) → IsAcceptedBy handlers id → IsThere handlers id
there handlers id accepts = there_is handlers id (handler_in handlers id) refl accepts

-- it has the name by which it is found
pub named_so : (handlers : List Handler) (id : ConsumerId) (handler : Handler) → handler_in handlers id ≡ Some handler → id ≡ handler.consumer.id
named_so handlers id handler found = same_consumer-true id handler.consumer.id (find_passes (names id) handlers handler found)

-- ## The count

none_named : (id : ConsumerId) (f : Counted → Counted) (handlers : List Handler) → length (filter (names id) handlers) ≤ 0 → map (changed id f) handlers ≡ handlers
none_named id f [] none = refl
none_named id f (handler ∷ others) none =
    elim (names id handler) as (λ b. length (cond b (handler ∷ filter (names id) others) (filter (names id) others)) ≤ 0 →
    (let first : Handler = cond b (record { consumer = handler.consumer; flow = f handler.flow }) handler in first) ∷ map (changed id f) others ≡ handler ∷ others) [
      | true ↦ λ some. absurd (omega arith)
      | false ↦ λ few. ap (λ hs. handler ∷ hs) (none_named id f others few)
    ] none

-- the change of one handler's flow changes the count by as much
pub held_changed : (id : ConsumerId) (f : Counted → Counted) (handlers : List Handler) (handler : Handler) → length (filter (names id) handlers) ≤ 1 → handler_in handlers id ≡ Some handler →
    held_in (map (changed id f) handlers) + handler.flow.held ≡ held_in handlers + (f handler.flow).held
held_changed id f [] handler once found = cc
held_changed id f (first ∷ others) handler once found =
    elim (names id first) as (λ b. length (cond b (first ∷ filter (names id) others) (filter (names id) others)) ≤ 1 → cond b (Some first) (handler_in others id) ≡ Some handler →
    ((let h : Handler = cond b (record { consumer = first.consumer; flow = f first.flow }) first in h).flow.held + held_in (map (changed id f) others)) + handler.flow.held
    ≡ (first.flow.held + held_in others) + (f handler.flow).held) [
      | true ↦ λ few here.
          (let same : first ≡ handler = cc in
          let rest : held_in (map (changed id f) others) ≡ held_in others = ap held_in (none_named id f others (omega arith)) in
          let flow = ap (λ (h : Handler). h.flow.held) same in
          let after = ap (λ (h : Handler). (f h.flow).held) same in
          omega (arith, rest, flow, after))
      | false ↦ λ few later.
          (let rest = held_changed id f others handler few later in
          omega (arith, rest))
    ] once found

one_at_home : (made : List Context) (at : EntryNo) (place : ℕ) (home : Option ContextId) (kind : ItemKind) → length (home_item made at place home kind) ≤ 1
one_at_home made at place None kind = omega arith
one_at_home made at place (Some context) kind = omega arith

one_more_of : (a : Arrive) (flow : Counted) (items : List Item) → length items ≤ 1 → is_accepted a ≡ true → (counted a flow).held + length (cond (is_ready a) items []) ≤ flow.held + 1
one_more_of arrives.Ready flow items few accepts = omega (arith, few)
one_more_of arrives.Held flow items few accepts = omega arith
one_more_of arrives.Lost flow items few accepts = cc

-- a message that is accepted is held, or made ready, where a context's handler gets it
pub one_more : (made : List Context) (handler : Handler) (at : EntryNo) (place : ℕ) (message : MessageId) → is_accepted (next_arrival handler) ≡ true →
    (arrived handler.flow).held + length (ready_item made at place (recipient_of handler) message) ≤ handler.flow.held + 1
one_more made handler at place message accepts = one_more_of (next_arrival handler) handler.flow _ (one_at_home made at place (recipient_of handler).home _) accepts

-- ## Each consumer is there once

few_named : (id : ConsumerId) (all : List Consumer) → Apart same_by_name all → length (filter (is_named id) all) ≤ 1
few_named id [] apart = omega arith
few_named id (first ∷ others) apart =
    elim (is_named id first) as (λ b. is_named id first ≡ b → length (cond b (first ∷ filter (is_named id) others) (filter (is_named id) others)) ≤ 1) [
      | true ↦ λ here.
          (let none : filter (is_named id) others ≡ [] =
          filter_no (is_named id) others
          (weaken (λ c. same_by_name first c ≡ false) (λ c. is_named id c ≡ false) others (λ c other. ap (λ k. same_consumer k c.id) (same_consumer-true id first.id here) ∙ other) apart.0) in
          let count = ap length none in
          omega (arith, count))
      | false ↦ λ elsewhere. few_named id others apart.1
    ] refl

once_in : (bus : BusStore) (history : List Traced) → BusStands bus history → AreNamedOnce bus.consumers
once_in bus history stands id =
    let same : length (filter (names id) bus.consumers) ≡ length (filter (is_named id) (consumers history)) =
    ap (λ handlers. length (filter (names id) handlers)) stands.consumers
    ∙ ap length (filter-map (names id) (handler_of history) (consumers history))
    ∙ length-map (filter (is_named id) (consumers history)) (handler_of history) in
    let few = few_named id (consumers history) (consumers_apart history) in
    omega (arith, same, few)

as_test : (n : ℕ) → n ≤ 1 → nat_le n 1 ≡ true
as_test n h = grind (arith, nat_tests)

from_test : (n : ℕ) → nat_le n 1 ≡ true → n ≤ 1
from_test n h = grind (arith, nat_tests)

pub named_once : (contexts : ContextStore) (timers : List Timer) (bus : BusStore) → AreOfOneHistory contexts timers bus → AreNamedOnce bus.consumers
named_once contexts timers bus one id =
    let count = length (filter (names id) bus.consumers) in
    from_test count (∥∥₁_elim one (Bool-set (nat_le count 1) true) (λ p. as_test count (once_in bus p.0 p.1.bus id)))

-- ## A message is accepted

-- what is given to a recipient
pub accepts_so : (contexts new_contexts : ContextStore) (bus arrived_bus new_bus : BusStore) (at : EntryNo) (id : ConsumerId) (recipient : Recipient) (message : Message) (handler : Handler) →
    Some recipient ≡ option_map recipient_of (handler_in bus.consumers id) → handler_in bus.consumers id ≡ Some handler →
    arrived_bus ≡ record bus { consumers = map (changed id arrived) bus.consumers } →
    new_contexts ≡ record contexts { waiting = contexts.waiting ++ ready_item contexts.made at 0 recipient message.id; room = new_contexts.room } →
    new_bus ≡ record arrived_bus { tasks = arrived_bus.tasks ++ tasks.Deliver recipient.consumer message ∷ []; room = new_bus.room } →
    Accepts contexts new_contexts bus new_bus at (recipient_of handler) message
accepts_so contexts new_contexts bus arrived_bus new_bus at id recipient message handler is_recipient found is_arrived is_contexts is_bus =
    let some : Some recipient ≡ Some (recipient_of handler) = is_recipient ∙ ap (option_map recipient_of) found in
    let same : recipient ≡ recipient_of handler = cc in
    record {
      items = is_contexts ∙ ap (λ (r : Recipient). (let s : ContextStore = record contexts { waiting = contexts.waiting ++ ready_item contexts.made at 0 r message.id; room = new_contexts.room } in s)) same;
      bus = is_bus
          ∙ ap (λ (s : BusStore). (let t : BusStore = record s { tasks = s.tasks ++ tasks.Deliver recipient.consumer message ∷ []; room = new_bus.room } in t)) is_arrived
          ∙ ap (λ (r : Recipient). (let t : BusStore = record bus { consumers = map (changed id arrived) bus.consumers; tasks = bus.tasks ++ tasks.Deliver r.consumer message ∷ []; room = new_bus.room } in t)) same
          ∙ ap (λ k. (let t : BusStore = record bus { consumers = map (changed k arrived) bus.consumers; tasks = bus.tasks ++ tasks.Deliver handler.consumer.id message ∷ []; room = new_bus.room } in t))
          (named_so bus.consumers id handler found);
    }

-- what else the bus keeps stays
pub accepts_alone : (contexts new_contexts : ContextStore) (bus new_bus : BusStore) (at : EntryNo) (recipient : Recipient) (message : Message) → Accepts contexts new_contexts bus new_bus at recipient message →
    new_bus ≡ record bus { consumers = new_bus.consumers; tasks = new_bus.tasks; room = new_bus.room }
accepts_alone contexts new_contexts bus new_bus at recipient message done =
    let made = bus.tasks ++ tasks.Deliver recipient.consumer message ∷ [] in
    done.bus
    ∙ ap (λ handlers. record bus { consumers = handlers; tasks = made; room = new_bus.room }) (sym (ap (λ (s : BusStore). s.consumers) done.bus))
    ∙ ap (λ all. record bus { consumers = new_bus.consumers; tasks = all; room = new_bus.room }) (sym (ap (λ (s : BusStore). s.tasks) done.bus))

-- the room that is left for others
pub room_left : (contexts new_contexts : ContextStore) (bus arrived_bus new_bus : BusStore) (at : EntryNo) (id : ConsumerId) (recipient : Recipient) (message : MessageId) (made : List Task) (more : ℕ) →
    AreNamedOnce bus.consumers → IsAcceptedBy bus.consumers id → Some recipient ≡ option_map recipient_of (handler_in bus.consumers id) →
    arrived_bus ≡ record bus { consumers = map (changed id arrived) bus.consumers } → new_bus ≡ record arrived_bus { tasks = made; room = new_bus.room } →
    contexts.room ≤ new_contexts.room + length (ready_item contexts.made at 0 recipient message) → arrived_bus.room ≤ new_bus.room + 1 →
    HaveRoom contexts bus (more + 1) → HaveRoom new_contexts new_bus more
room_left contexts new_contexts bus arrived_bus new_bus at id recipient message made more once accepts is_recipient is_arrived is_bus items tasks had =
    let it = there bus.consumers id accepts in
    let some : Some recipient ≡ Some (recipient_of it.handler) = is_recipient ∙ ap (option_map recipient_of) it.found in
    let same : recipient ≡ recipient_of it.handler = cc in
    let ready = ap (λ (r : Recipient). length (ready_item contexts.made at 0 r message)) same in
    let counts = held_changed id arrived bus.consumers it.handler (once id) it.found in
    let one = one_more contexts.made it.handler at 0 message it.accepts in
    let held : held_in new_bus.consumers ≡ held_in (map (changed id arrived) bus.consumers) = ap (λ (s : BusStore). held_in s.consumers) is_bus ∙ ap (λ (s : BusStore). held_in s.consumers) is_arrived in
    let waits : length new_bus.requests.waiting ≡ length bus.requests.waiting = ap (λ (s : BusStore). length s.requests.waiting) is_bus ∙ ap (λ (s : BusStore). length s.requests.waiting) is_arrived in
    let room : arrived_bus.room ≡ bus.room = ap (λ (s : BusStore). s.room) is_arrived in
    record { items = omega (arith, ready, counts, one, held, waits, items, had.items); tasks = omega (arith, waits, room, tasks, had.tasks) }

-- ## What a message reaches accepts it

accepts_of : (handlers : List Handler) (id other : ConsumerId) (o : Option Handler) → handler_in handlers id ≡ o → arrival_of o ≡ reached.Consumer other → IsAcceptedBy handlers other
accepts_of handlers id other None found goes = cc
accepts_of handlers id other (Some handler) found goes =
    let accepts = λ (o : Option Handler). option_map (λ (h : Handler). is_accepted (next_arrival h)) o in
    elim (next_arrival handler) as (λ a. next_arrival handler ≡ a → arrived_at handler.consumer a ≡ reached.Consumer other → IsAcceptedBy handlers other) [
      | arrives.Ready ↦ λ is_ready here.
          (let same : handler.consumer.id ≡ other = cc in
          ap (λ k. accepts (handler_in handlers k)) (sym same ∙ sym (named_so handlers id handler found)) ∙ ap accepts found ∙ ap (λ a. Some (is_accepted a)) is_ready)
      | arrives.Held ↦ λ is_held here.
          (let same : handler.consumer.id ≡ other = cc in
          ap (λ k. accepts (handler_in handlers k)) (sym same ∙ sym (named_so handlers id handler found)) ∙ ap accepts found ∙ ap (λ a. Some (is_accepted a)) is_held)
      | arrives.Lost ↦ λ is_lost here. absurd cc
    ] refl goes

pub destination_accepts : (bus : BusStore) (passage : Passage) (address : List ℕ) (id : ConsumerId) → destination_in bus passage address ≡ reached.Consumer id → IsAcceptedBy bus.consumers id
destination_accepts bus passages.Unsent address id goes = absurd cc
destination_accepts bus passages.Unreceived address id goes =
    elim (turn_in bus address) as (λ o. destination_of bus passages.Unreceived o ≡ reached.Consumer id → IsAcceptedBy bus.consumers id) [ None ↦ λ h. absurd cc | Some k ↦ λ h. absurd cc ] goes
destination_accepts bus (passages.Arrives message) address id goes =
    elim (turn_in bus address) as (λ o. destination_of bus (passages.Arrives message) o ≡ reached.Consumer id → IsAcceptedBy bus.consumers id) [
      | None ↦ λ h. absurd cc
      | Some k ↦ λ h. accepts_of bus.consumers k id (handler_in bus.consumers k) refl h
    ] goes
