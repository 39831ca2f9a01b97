use Rattle.std.proofs.Common.{[], arith}
use Rattle.vx_data.specs.Bodies.{elements}
use Rattle.vx_deployfile.specs.declared.fault.Place.TheVariants.{Pool}
use Rattle.vx_deployfile.specs.Files.{each, pool_in}
use Rattle.vx_deployfile.proofs.Lists.{each_over}
use Rattle.vx_deployfile.proofs.pool.pools_of.Goals as goal

pub returns-then-i-ge-MAX_POOLS : goal.returns-then-i-ge-MAX_POOLS
returns-then-i-ge-MAX_POOLS c =
    rw c.bad.ensures (each_over Pool 8 pool_in c.loop-i.pools.items c.args.items.now c.loop-i.i c.index-items-i.result (each Pool 8 pool_in [] (elements c.args.items.now))
    c.loop-i-test.true c.index-items-i.is (omega (arith, c.loop-i.invariant.count, c.loop-i.invariant.few, c.if-i-ge-MAX_POOLS.true)) c.loop-i.invariant.rest)
