use Rattle.vx_bus_store.specs.Stores.{changed}
use Rattle.vx_bus_store.specs.FlowChanges.{flow_after}
use Rattle.vx_context.proofs.Changes.{IsChanged}
use Rattle.vx_bus_store.proofs.flows.change_flow.Given as goal

abbrev pub invariant-loop-handler : goal.invariant-loop-handler
invariant-loop-handler l = IsChanged (changed l.id (flow_after l.change)) l.initial.handler-items l.handler-index l.handler-items
