use Rattle.std.proofs.Common.{◌≡◌, take}
use Rattle.vx_bus_store.specs.Stores.{held_in}
use Rattle.vx_bus_store.proofs.flows.held_count.Given as goal

abbrev pub invariant-loop-handler : goal.invariant-loop-handler
invariant-loop-handler l = l.count ≡ held_in (take l.handler-index l.handler-items)
