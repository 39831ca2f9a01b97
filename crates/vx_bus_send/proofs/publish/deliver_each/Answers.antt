use Rattle.std.proofs.Common.{rules, ◌≤◌, length, arith}
use Rattle.vx_bus_send.proofs.RowPublish.{few_ready}
use Rattle.vx_bus_send.proofs.publish.deliver_each.Goals as goal

pub overflow_add-place : goal.overflow_add-place
overflow_add-place c =
    let few = few_ready c.args.parcels.items in
    let small : c.loop-recipient.place ≤ length c.args.parcels.items = omega (arith, few, c.loop-recipient.invariant.place) in
    search (rules, small)
