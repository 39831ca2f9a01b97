use Rattle.std.proofs.Common.{map, refl, ap, sym, ◌∙◌, arith}
use Rattle.vx_bus_store.specs.declared.bus.Recipient.{Recipient}
use Rattle.vx_bus_send.specs.Published.{parcel_for}
use Rattle.vx_bus_store.specs.Stores.{BusStore}
use Rattle.vx_bus_send.proofs.RowPublish.{few_ready, publishes_nothing, publishes, places_published}
use Rattle.vx_bus_send.proofs.publish.publish_on.Goals as goal

pub returns-in_default : goal.returns-in_default
returns-in_default c = record {
  ok = λ history stands is_next accepted. rw c.new.ensures.items
      (publishes_nothing c.args.contexts.now c.args.timers.now c.args.bus.now history c.args.at c.args.pass c.args.address.now c.args.body.now c.args.options.now c.in_ok-message.field-0
      stands is_next accepted c.in_ok-message.ensures c.in_default.not-Arrives);
  err = tt;
  places = c.requires.places;
  owed = refl;
}

pub deliver_each-requires-clause-items : goal.deliver_each-requires-clause-items
deliver_each-requires-clause-items c = omega (arith, few_ready c.in_ok-parcels.parcels.items, c.in_ok-make_room.ensures.room.items, c.len.ensures)

pub returns-clause-ok : goal.returns-clause-ok
returns-clause-ok c = λ history stands is_next accepted.
    publishes c.make_room.new.contexts c.deliver_each.new.contexts c.args.timers.now c.args.bus.now c.make_room.new.bus c.arrive_at.new.self c.deliver_each.new.bus history c.args.at c.args.pass
    c.args.address.now c.args.body.now c.args.options.now c.in_ok-message.field-0 c.in-Arrives.message c.in_ok-recipients.recipients.items c.in_ok-parcels.parcels.items c.in_ok-reached.reached.items
    stands.bus (c.make_room.ensures.keeps history c.args.timers.now stands) is_next accepted c.in_ok-message.ensures c.in-Arrives.is c.in_ok-recipients.ensures
    (c.in_ok-parcels.ensures ∙ ap (map (parcel_for c.in-Arrives.message)) c.deref.ensures.value) (c.in_ok-reached.ensures ∙ ap (map (λ (r : Recipient). r.consumer)) c.deref-2.ensures.value)
    c.arrive_at.ensures c.deliver_each.ensures.items c.deliver_each.ensures.tasks

pub returns-clause-places : goal.returns-clause-places
returns-clause-places c =
    places_published c.make_room.new.contexts c.deliver_each.new.contexts c.args.bus.now c.make_room.new.bus c.arrive_at.new.self c.deliver_each.new.bus c.args.address.now c.in-Arrives.message
    c.in_ok-recipients.recipients.items c.in_ok-parcels.parcels.items _ c.len.result (sym (ap (λ (s : BusStore). s.consumers) c.make_room.ensures.same_bus)) c.in_ok-recipients.ensures
    (c.in_ok-parcels.ensures ∙ ap (map (parcel_for c.in-Arrives.message)) c.deref.ensures.value) c.arrive_at.ensures c.deliver_each.ensures.tasks (omega (arith, c.len.ensures)) c.in_ok-make_room.ensures.room
    c.deliver_each.ensures.items_room c.deliver_each.ensures.tasks_room
