use Rattle.std.proofs.Common.{◌≡◌, ◌+◌, ◌≤◌, ◌++◌}
use Rattle.std.specs.Prelude.{vec_len, vec_capacity}
use Rattle.vx_life.specs.Stores.{stops_of}
use Rattle.vx_life.proofs.stop.append_stops.Given as goal

abbrev pub invariant-loop-instance : goal.invariant-loop-instance
invariant-loop-instance l = record {
  items : l.stops.items ≡ l.initial.stops.items ++ stops_of l.id 0 l.instance;
  len : vec_len l.stops ≡ vec_len l.initial.stops + l.instance;
  capacity : vec_capacity l.initial.stops ≤ vec_capacity l.stops;
}
