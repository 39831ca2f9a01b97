use Rattle.std.proofs.Common.{arith}
use Rattle.vx_bus_delivery.proofs.HeldArrivals.{accepts_so, room_left}
use Rattle.vx_bus_delivery.proofs.deliver.deliver.Goals as goal

pub returns-clause-accepts : goal.returns-clause-accepts
returns-clause-accepts c = λ h found.
    accepts_so c.args.contexts.now c.hand.new.contexts c.args.bus.now c.arrive.new.self c.hand.new.bus c.args.at c.args.consumer c.in-Some.recipient c.args.message h
    c.in-Some.ensures found c.arrive.ensures c.hand.ensures.items c.hand.ensures.tasks

pub returns-clause-room : goal.returns-clause-room
returns-clause-room c = λ more had.
    room_left c.args.contexts.now c.hand.new.contexts c.args.bus.now c.arrive.new.self c.hand.new.bus c.args.at c.args.consumer c.in-Some.recipient c.args.message.id _ more
    c.requires.once c.requires.accepts c.in-Some.ensures c.arrive.ensures c.hand.ensures.tasks c.hand.ensures.items_room c.hand.ensures.tasks_room had

pub returns-clause-places : goal.returns-clause-places
returns-clause-places c =
    let left = room_left c.args.contexts.now c.hand.new.contexts c.args.bus.now c.arrive.new.self c.hand.new.bus c.args.at c.args.consumer c.in-Some.recipient c.args.message.id _ 0
    c.requires.once c.requires.accepts c.in-Some.ensures c.arrive.ensures c.hand.ensures.tasks c.hand.ensures.items_room c.hand.ensures.tasks_room c.requires.room in
    record { items = omega (arith, left.items); tasks = omega (arith, left.tasks) }
