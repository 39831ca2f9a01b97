use Rattle.std.proofs.Common.{arith, length, ◌<◌}
use Rattle.vx_bus_store.proofs.HeldCounts.{held_in_more}
use Rattle.vx_bus_store.proofs.flows.held_count.Goals as goal

pub loop-handler-preserved : goal.loop-handler-preserved
loop-handler-preserved c =
    let inside : c.loop-handler.handler-index < length c.deref-handler-items.result.now = omega arith in
    let more = held_in_more c.deref-handler-items.result.now c.loop-handler.handler-index c.handler-item.result inside c.handler-item.is in
    let before = c.loop-handler.invariant in
    let held = c.held-held.ensures in
    let sum = c.checked_add.ensures in
    let was = c.ok_or.ensures in
    let is = c.in_ok-count.ensures in
    grind arith
