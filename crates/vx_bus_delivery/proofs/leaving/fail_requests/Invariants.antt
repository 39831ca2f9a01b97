use Rattle.std.proofs.Common.{◌≡◌, ◌+◌, ◌≤◌, ◌++◌, length, take, filter}
use Rattle.vx_request.specs.Leaving.{fails_with}
use Rattle.vx_bus_delivery.specs.Lost.{lost_items, lost_tasks}
use Rattle.vx_bus_delivery.proofs.leaving.fail_requests.Given as goal

abbrev pub invariant-loop-index : goal.invariant-loop-index
invariant-loop-index l =
    let lost = filter (fails_with l.leaver l.initial.bus.given) (take l.index l.initial.bus.requests.waiting) in
    record {
      items : l.contexts ≡ record l.initial.contexts { waiting = l.initial.contexts.waiting ++ lost_items l.initial.contexts.made l.at 0 lost; room = l.contexts.room };
      tasks : l.bus ≡ record l.initial.bus { tasks = l.initial.bus.tasks ++ lost_tasks lost; room = l.bus.room };
      place : l.place ≡ length lost;
      items_room : l.initial.contexts.room ≤ l.contexts.room + length lost;
      tasks_room : l.initial.bus.room ≤ l.bus.room + length lost;
    }
