use Rattle.std.proofs.Common.{◌≡◌, List}
use Rattle.vx_call.specs.declared.history.Traced.{Traced}
use Rattle.vx_context.specs.Stands.{IsNext}
use Rattle.vx_bus_store.specs.Stands.{StoresStand, HavePlaces}
use Rattle.vx_hub.specs.Advancing.{Advanced}
use Rattle.vx_hub.proofs.rows.advance.time_out_due.Given as goal

abbrev pub invariant-loop-place : goal.invariant-loop-place
invariant-loop-place l =
    ((history : List Traced) → StoresStand l.fn.contexts l.fn.timers l.fn.bus history → IsNext l.fn.at history →
    Advanced l.fn.contexts l.contexts l.timers l.fn.bus l.bus history l.fn.now l.place)
    × HavePlaces l.contexts l.bus × (l.contexts.owed ≡ l.fn.contexts.owed)
