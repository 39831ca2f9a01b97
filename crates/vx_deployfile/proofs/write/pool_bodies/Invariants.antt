use Rattle.std.proofs.Common.{◌≡◌, map, take}
use Rattle.vx_deployfile.specs.Texts.{pool_tree}
use Rattle.vx_deployfile.proofs.write.pool_bodies.Given as goal

abbrev pub invariant-loop-pool : goal.invariant-loop-pool
invariant-loop-pool l = l.items.items ≡ map pool_tree (take l.pool-index l.pools)
