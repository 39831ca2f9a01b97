use Rattle.std.proofs.Common.{arith, length, ◌<◌}
use Rattle.vx_bus_store.specs.Stores.{changed}
use Rattle.vx_bus_store.specs.FlowChanges.{flow_after}
use Rattle.vx_context.proofs.Changes.{changed_more}
use Rattle.vx_bus_store.proofs.flows.change_flow.Goals as goal
use Rattle.vx_bus_store.proofs.flows.change_flow.Goals.{then-eq, else-eq}

pub loop-handler-preserved : goal.loop-handler-preserved
loop-handler-preserved c =
    let change = changed c.args.id (flow_after c.args.change) in
    let xs = c.deref_mut-handler-items.result.now in
    let inside : c.loop-handler.handler-index < length xs = omega arith in
    let handler = c.handler-item.result in
    let here = c.handler-item.is in
    let test = c.eq.ensures in
    elim c.if-eq.branch [
      | then-eq w ↦
          (let yes = w.if-eq.true in
          let applied = w.apply.ensures in
          changed_more change xs _ _ _ handler _ inside c.loop-handler.invariant here (grind arith) w.handler-items-is)
      | else-eq w ↦
          (let no = w.if-eq.false in
          changed_more change xs _ _ _ handler _ inside c.loop-handler.invariant here (grind arith) w.handler-items-is)
    ]
