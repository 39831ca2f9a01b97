use Rattle.std.proofs.Common.{◌≡◌, length, ap, sym, ◌∙◌, subst, arith}
use Rattle.vx_message.specs.declared.Message.{Message}
use Rattle.vx_ring.specs.Rings.{consumers_at, choices_at}
use Rattle.vx_bus_store.specs.Stores.{BusStore, handler_in, recipient_of, held_in}
use Rattle.vx_bus_delivery.specs.Deliveries.{IsAcceptedBy}
use Rattle.vx_bus_delivery.specs.Deliveries.{Accepts}
use Rattle.vx_bus_delivery.proofs.HeldArrivals.{there, accepts_alone}
use Rattle.vx_bus_delivery.proofs.deliver.pass_on.Goals as goal

-- the consumer accepts the message, as the choice leaves it
accepts : (c : goal.After-deliver) → IsAcceptedBy c.count_choice.new.bus.consumers c.in-Consumer-Arrives.consumer
accepts c =
    let P : BusStore → Type 0 = λ s. IsAcceptedBy s.consumers c.in-Consumer-Arrives.consumer in
    subst P (sym c.count_choice.ensures.same) (c.requires.accepts c.in-Consumer-Arrives.consumer c.in-Consumer-Arrives.is-0)

-- what else the bus keeps stays
kept : (c : goal.After-deliver) → c.deliver.new.bus ≡ record c.count_choice.new.bus { consumers = c.deliver.new.bus.consumers; tasks = c.deliver.new.bus.tasks; room = c.deliver.new.bus.room }
kept c =
    let it = there c.count_choice.new.bus.consumers c.in-Consumer-Arrives.consumer (accepts c) in
    accepts_alone c.args.contexts.now c.deliver.new.contexts c.count_choice.new.bus c.deliver.new.bus c.args.at (recipient_of it.handler) c.in-Consumer-Arrives.message (c.deliver.ensures.accepts it.handler it.found)

pub returns-in-Consumer-Arrives-clause-passes : goal.returns-in-Consumer-Arrives-clause-passes
returns-in-Consumer-Arrives-clause-passes c =
    let rings = ap (λ (s : BusStore). s.rings) (kept c) in
    let counted : c.count_choice.new.bus ≡ record c.args.bus.now { rings = c.deliver.new.bus.rings } = c.count_choice.ensures.same ∙ ap (λ rs. record c.args.bus.now { rings = rs }) (sym rings) in
    record {
      arrives = λ id message handler is_to is_passage found.
          (let same : c.in-Consumer-Arrives.consumer ≡ id = (let e = sym c.in-Consumer-Arrives.is-0 ∙ is_to in cc) in
          let one : c.in-Consumer-Arrives.message ≡ message = (let e = sym c.in-Consumer-Arrives.is-1 ∙ is_passage in cc) in
          let P : Message → Type 0 = Accepts c.args.contexts.now c.deliver.new.contexts (record c.args.bus.now { rings = c.deliver.new.bus.rings }) c.deliver.new.bus c.args.at (recipient_of handler) in
          let Q : BusStore → Type 0 = λ s. Accepts c.args.contexts.now c.deliver.new.contexts s c.deliver.new.bus c.args.at (recipient_of handler) c.in-Consumer-Arrives.message in
          subst P one (subst Q counted
          (c.deliver.ensures.accepts handler (ap (λ (s : BusStore). handler_in s.consumers c.in-Consumer-Arrives.consumer) c.count_choice.ensures.same ∙ ap (handler_in c.args.bus.now.consumers) same ∙ found))));
      contexts = λ nobody. absurd (nobody c.in-Consumer-Arrives.consumer c.in-Consumer-Arrives.is-0);
      bus = λ nobody. absurd (nobody c.in-Consumer-Arrives.consumer c.in-Consumer-Arrives.is-0);
      in_turn = λ a. ap (consumers_at a) rings ∙ c.count_choice.ensures.consumers a;
      choices = λ a. ap (choices_at a) rings ∙ c.count_choice.ensures.choices a;
    }

pub returns-in-Consumer-Arrives-clause-room : goal.returns-in-Consumer-Arrives-clause-room
returns-in-Consumer-Arrives-clause-room c = λ id more is_to had.
    let waits = ap (λ (s : BusStore). length s.requests.waiting) c.count_choice.ensures.same in
    let held = ap (λ (s : BusStore). held_in s.consumers) c.count_choice.ensures.same in
    let room = ap (λ (s : BusStore). s.room) c.count_choice.ensures.same in
    c.deliver.ensures.room more (record { items = omega (arith, had.items, waits, held); tasks = omega (arith, had.tasks, waits, room) })

pub returns-in-Consumer-Arrives-clause-requests : goal.returns-in-Consumer-Arrives-clause-requests
returns-in-Consumer-Arrives-clause-requests c = ap (λ (s : BusStore). s.requests) (kept c) ∙ ap (λ (s : BusStore). s.requests) c.count_choice.ensures.same
