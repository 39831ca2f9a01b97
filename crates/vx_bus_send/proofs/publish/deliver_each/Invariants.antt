use Rattle.std.proofs.Common.{◌≡◌, ◌+◌, ◌≤◌, ◌++◌, length, map}
use Rattle.std.specs.Vec.Iter.{into_iter_items}
use Rattle.vx_bus_send.specs.Published.{parcel_items, parcel_task, ready_count}
use Rattle.vx_bus_send.proofs.publish.deliver_each.Given as goal

abbrev pub invariant-loop-recipient : goal.invariant-loop-recipient
invariant-loop-recipient l =
    let rest = into_iter_items l.recipient-iterator in
    let all = l.fn.parcels.items in
    record {
      contexts : l.contexts ≡ record l.initial.contexts { waiting = l.contexts.waiting; room = l.contexts.room };
      bus : l.bus ≡ record l.initial.bus { tasks = l.bus.tasks; room = l.bus.room };
      items : l.contexts.waiting ++ parcel_items l.initial.contexts.made l.at l.place rest ≡ l.initial.contexts.waiting ++ parcel_items l.initial.contexts.made l.at 0 all;
      tasks : l.bus.tasks ++ map parcel_task rest ≡ l.initial.bus.tasks ++ map parcel_task all;
      place : l.place + ready_count rest ≡ ready_count all;
      items_room : l.initial.contexts.room + ready_count rest ≤ l.contexts.room + ready_count all;
      tasks_room : l.initial.bus.room + length rest ≤ l.bus.room + length all;
    }
