use Rattle.std.proofs.Common.{length, refl, ap, sym, ◌∙◌, subst, arith}
use Rattle.std.proofs.lemmas.List.{length_push}
use Rattle.vx_call.specs.declared.reply.To.TheVariants as reached
use Rattle.vx_bus_store.specs.Stores.{BusStore, AreNamedOnce, held_in}
use Rattle.vx_bus_delivery.specs.Deliveries.{IsAcceptedBy}
use Rattle.vx_bus_delivery.proofs.HeldArrivals.{named_once, destination_accepts}
use Rattle.vx_bus_send.proofs.RowRequest.{asks_nobody, asks}
use Rattle.vx_bus_send.proofs.request.ask.Goals as goal

pub pass_on-requires-clause-once : goal.pass_on-requires-clause-once
pass_on-requires-clause-once c =
    let P : BusStore → Type 0 = λ s. AreNamedOnce s.consumers in
    subst P (sym c.prepare_request.ensures.same_bus) (named_once c.args.contexts.now c.args.timers.now c.args.bus.now c.requires.one)

pub pass_on-requires-clause-accepts : goal.pass_on-requires-clause-accepts
pass_on-requires-clause-accepts c = λ id goes.
    let P : BusStore → Type 0 = λ s. IsAcceptedBy s.consumers id in
    subst P (sym c.prepare_request.ensures.same_bus)
    (destination_accepts c.args.bus.now c.in_ok-passage.passage c.args.address.now id (sym c.destination-to.ensures ∙ c.in-Consumer.is ∙ goes))

pub pass_on-requires-in_default : goal.pass_on-requires-in_default
pass_on-requires-in_default c =
    let P : BusStore → Type 0 = λ s. AreNamedOnce s.consumers in
    record {
      places = c.ask_nobody.ensures.places;
      room = λ id goes. absurd (c.in_default.not-Consumer id goes);
      once = subst P (sym c.in_ok-ask_nobody-in_default.ensures.ok.tasks) (named_once c.args.contexts.now c.args.timers.now c.args.bus.now c.requires.one);
      accepts = λ id goes. absurd (c.in_default.not-Consumer id goes);
    }

pub returns-in_ok-prepare_request-in-Consumer-clause-ok :
    goal.returns-in_ok-prepare_request-in-Consumer-clause-ok
returns-in_ok-prepare_request-in-Consumer-clause-ok c = λ history pass now timeout stands is_at is_due accepted.
    asks c.prepare_request.new.contexts c.pass_on.new.contexts c.args.timers.now c.prepare_request.new.timers c.args.bus.now c.prepare_request.new.bus c.pass_on.new.bus c.open.new.self
    history c.args.at now c.args.due pass c.args.context c.args.address.now c.args.body.now c.args.options.now timeout c.in_ok-passage.passage (reached.Consumer c.in-Consumer.consumer) c.in-Consumer.consumer c.home-home.result
    stands.bus (c.prepare_request.ensures.keeps history c.args.timers.now stands) is_at c.requires.small is_due accepted
    (record { passes = c.in_ok-passage.ensures; goes = sym c.in-Consumer.is ∙ c.destination-to.ensures }) refl
    c.in_ok-prepare_request-in-Consumer.ensures.timer c.pass_on.ensures.passes c.open.ensures c.home-home.ensures

pub returns-in_ok-prepare_request-in-Consumer-clause-places :
    goal.returns-in_ok-prepare_request-in-Consumer-clause-places
returns-in_ok-prepare_request-in-Consumer-clause-places c =
    let left = c.pass_on.ensures.room c.in-Consumer.consumer 1 refl c.in_ok-prepare_request-in-Consumer.ensures.room in
    let longer = ap (λ (s : BusStore). length s.requests.waiting) c.open.ensures ∙ length_push c.pass_on.new.bus.requests.waiting _ in
    let held = ap (λ (s : BusStore). held_in s.consumers) c.open.ensures in
    record { items = omega (arith, left.items, held, longer); tasks = omega (arith, left.tasks, longer, ap (λ (s : BusStore). s.room) c.open.ensures) }

pub returns-in_ok-ask_nobody-in_default : goal.returns-in_ok-ask_nobody-in_default
returns-in_ok-ask_nobody-in_default c = record {
  ok = λ history pass now timeout stands is_at is_due accepted.
      asks_nobody c.args.contexts.now c.ask_nobody.new.contexts c.pass_on-in_default.new.contexts c.args.timers.now c.args.bus.now c.ask_nobody.new.bus c.pass_on-in_default.new.bus
      history c.args.at pass c.args.context c.args.address.now c.args.body.now c.args.options.now timeout c.in_ok-passage.passage c.destination-to.result stands is_at.next c.requires.small accepted
      (record { passes = c.in_ok-passage.ensures; goes = c.destination-to.ensures }) c.in_default.not-Consumer c.in_ok-ask_nobody-in_default.ensures.ok c.pass_on-in_default.ensures.passes;
  err = tt;
  places = c.pass_on-in_default.ensures.places;
  owed = c.pass_on-in_default.ensures.owed ∙ c.ask_nobody.ensures.owed;
}
