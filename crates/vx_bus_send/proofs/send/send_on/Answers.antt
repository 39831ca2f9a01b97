use Rattle.std.proofs.Common.{sym, ◌∙◌, subst}
use Rattle.vx_bus_store.specs.Stores.{BusStore, AreNamedOnce}
use Rattle.vx_bus_delivery.specs.Deliveries.{IsAcceptedBy}
use Rattle.vx_bus_delivery.proofs.HeldArrivals.{named_once, destination_accepts}
use Rattle.vx_bus_send.proofs.RowSend.{sends}
use Rattle.vx_bus_send.proofs.send.send_on.Goals as goal

pub pass_on-requires-clause-once : goal.pass_on-requires-clause-once
pass_on-requires-clause-once c =
    let P : BusStore → Type 0 = λ s. AreNamedOnce s.consumers in
    subst P (sym c.make_room.ensures.same_bus) (named_once c.args.contexts.now c.args.timers.now c.args.bus.now c.requires.one)

pub pass_on-requires-clause-accepts : goal.pass_on-requires-clause-accepts
pass_on-requires-clause-accepts c = λ id goes.
    let P : BusStore → Type 0 = λ s. IsAcceptedBy s.consumers id in
    subst P (sym c.make_room.ensures.same_bus) (destination_accepts c.args.bus.now c.in_ok-passage.passage c.args.address.now id (sym c.destination-to.ensures ∙ goes))

pub returns-clause-ok : goal.returns-clause-ok
returns-clause-ok c = λ history stands is_next accepted.
    sends c.make_room.new.contexts c.pass_on.new.contexts c.args.timers.now c.args.bus.now c.make_room.new.bus c.pass_on.new.bus history c.args.at c.args.pass
    c.args.address.now c.args.body.now c.args.options.now c.in_ok-passage.passage c.destination-to.result
    stands.bus (c.make_room.ensures.keeps history c.args.timers.now stands) is_next c.requires.small accepted
    (record { passes = c.in_ok-passage.ensures; goes = c.destination-to.ensures }) c.pass_on.ensures.passes
