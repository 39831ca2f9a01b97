use Rattle.std.proofs.Common.{◌≡◌, ◌+◌, ◌≤◌, ◌++◌, length}
use Rattle.std.specs.Prelude.{vec_len, vec_capacity}
use Rattle.std.specs.Vec.Iter.{into_iter_items}
use Rattle.vx_instances.specs.Kept.{numbered}
use Rattle.vx_instances.proofs.homes.settle_in.Given as goal

abbrev pub invariant-loop-verticle : goal.invariant-loop-verticle
invariant-loop-verticle g l =
    let rest = into_iter_items l.verticle-iterator in
    let all = l.fn.verticles.items in
    record {
      items : l.homes.items ++ numbered l.entry l.instance rest ≡ l.initial.homes.items ++ numbered l.entry 0 all;
      count : l.instance + length rest ≡ length all;
      room : vec_len l.homes + length rest ≤ vec_capacity l.homes;
    }
