-- What is done to the flow of a consumer.
use Rattle.std.specs.Prelude.{◌-◌}
use Rattle.vx_consumer.specs.Flows.{Counted, resumed, fetched, stopped}
use Rattle.vx_bus_store.specs.declared.flows.Change.{Change}
use Rattle.vx_bus_store.specs.declared.flows.Change.TheVariants as changes
use Rattle.vx_bus_store.specs.Stores.{arrived}

abbrev pub flow_after : Change → Counted → Counted
flow_after changes.Arrive = arrived
flow_after (changes.Pause untaken) = λ flow. stopped (untaken - flow.held) flow
flow_after changes.Resume = resumed
flow_after (changes.Fetch count) = fetched count
