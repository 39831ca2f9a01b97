use Rattle.std.proofs.Common.{arith, length, ◌<◌}
use Rattle.vx_bus_store.specs.Stores.{changed_at, arrived}
use Rattle.vx_context.proofs.Changes.{changed_more}
use Rattle.vx_bus_store.proofs.flows.arrive_at.Goals as goal
use Rattle.vx_bus_store.proofs.flows.arrive_at.Goals.{then-is, else-is}

pub loop-handler-preserved : goal.loop-handler-preserved
loop-handler-preserved c =
    let change = changed_at c.args.address.now arrived in
    let xs = c.deref_mut-handler-items.result.now in
    let inside : c.loop-handler.handler-index < length xs = omega arith in
    let handler = c.handler-item.result in
    let here = c.handler-item.is in
    let test = c.is.ensures in
    elim c.if-is.branch [
      | then-is w ↦
          (let yes = w.if-is.true in
          let counts = w.arrive.ensures.counted in
          let arrives = w.arrive.ensures.arrives in
          changed_more change xs _ _ _ handler _ inside c.loop-handler.invariant here (grind arith) w.handler-items-is)
      | else-is w ↦
          (let no = w.if-is.false in
          changed_more change xs _ _ _ handler _ inside c.loop-handler.invariant here (grind arith) w.handler-items-is)
    ]
