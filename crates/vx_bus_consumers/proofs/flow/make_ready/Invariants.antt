use Rattle.std.proofs.Common.{◌≡◌, ◌+◌, ◌≤◌, ◌++◌, length, filter, take, drop}
use Rattle.vx_call.specs.Items.{is_for}
use Rattle.vx_bus_store.specs.Stores.{message_items}
use Rattle.vx_bus_consumers.proofs.flow.make_ready.Given as goal

abbrev pub invariant-loop-place : goal.invariant-loop-place
invariant-loop-place l =
    let freed = take l.count (drop l.ready (filter (is_for l.fn.consumer) l.bus.tasks)) in
    record {
      items : l.contexts ≡ record l.initial.contexts { waiting = l.initial.contexts.waiting ++ message_items l.initial.contexts.made l.at l.context 0 (take (length l.yielded) freed); room = l.contexts.room };
      room : l.initial.contexts.room ≤ l.contexts.room + length l.yielded;
    }
