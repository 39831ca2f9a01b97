use Rattle.std.proofs.Common.{◌≡◌, ◌≤◌, [], length, drop}
use Rattle.vx_data.specs.Bodies.{elements}
use Rattle.vx_deployfile.specs.declared.fault.Place.TheVariants.{Pool}
use Rattle.vx_deployfile.specs.Files.{each, pool_in}
use Rattle.vx_deployfile.proofs.pool.pools_of.Given as goal

-- the pools so far, and those that are still to come
abbrev pub invariant-loop-i : goal.invariant-loop-i
invariant-loop-i l = record {
  count : length l.pools.items ≡ l.i;
  few : l.i ≤ 8;
  rest : each Pool 8 pool_in l.pools.items (elements (drop l.i l.items)) ≡ each Pool 8 pool_in [] (elements l.items);
}
