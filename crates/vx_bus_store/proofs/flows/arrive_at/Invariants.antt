use Rattle.vx_bus_store.specs.Stores.{changed_at, arrived}
use Rattle.vx_context.proofs.Changes.{IsChanged}
use Rattle.vx_bus_store.proofs.flows.arrive_at.Given as goal

abbrev pub invariant-loop-handler : goal.invariant-loop-handler
invariant-loop-handler l = IsChanged (changed_at l.address arrived) l.initial.handler-items l.handler-index l.handler-items
