use Rattle.std.proofs.Common.{[], arith}
use Rattle.vx_data.specs.Bodies.{elements}
use Rattle.vx_deployfile.specs.declared.fault.Place.TheVariants.{Deployment}
use Rattle.vx_deployfile.specs.Files.{each, planned_in}
use Rattle.vx_deployfile.proofs.Lists.{each_over}
use Rattle.vx_deployfile.proofs.deployment.deployments_of.Goals as goal

pub returns-then-i-ge-MAX_DEPLOYMENTS : goal.returns-then-i-ge-MAX_DEPLOYMENTS
returns-then-i-ge-MAX_DEPLOYMENTS c =
    rw c.bad.ensures (each_over Deployment 64 (λ place earlier item. planned_in c.args.version c.args.pools.now place item) c.loop-i.plans.items c.args.items.now c.loop-i.i c.index-items-i.result
    (each Deployment 64 (λ place earlier item. planned_in c.args.version c.args.pools.now place item) [] (elements c.args.items.now))
    c.loop-i-test.true c.index-items-i.is (omega (arith, c.loop-i.invariant.count, c.loop-i.invariant.few, c.if-i-ge-MAX_DEPLOYMENTS.true)) c.loop-i.invariant.rest)
