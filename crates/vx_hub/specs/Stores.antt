-- What the hub contains, however it keeps it.
use Rattle.std.specs.Prelude.{ℕ, List}
use Rattle.vx_timer.specs.declared.timers.Timer.{Timer}
use Rattle.vx_life.specs.Stores.{LifeStore}
use Rattle.vx_context.specs.Stores.{ContextStore}
use Rattle.vx_bus_store.specs.Stores.{BusStore}
use Rattle.vx_instances.specs.Kept.{Kept}
use Rattle.vx_hub.specs.Counts.{Counted}

-- what is counted, how many passes there are, the moment in ms, the stores, and the verticles that are kept
pub record HubStore : Type 0 where
  pub counts : Counted
  pub passes : ℕ
  pub now : ℕ
  pub life : LifeStore
  pub contexts : ContextStore
  pub timers : List Timer
  pub bus : BusStore
  pub instances : List Kept
