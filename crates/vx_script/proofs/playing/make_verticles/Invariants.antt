use Rattle.std.proofs.Common.{◌≡◌, [], map, replicate, unwrap_or}
use Rattle.vx_kinds.specs.Hosts.{first_state, state_in}
use Rattle.vx_script.proofs.playing.make_verticles.Given as goal

abbrev pub invariant-loop : goal.invariant-loop
invariant-loop l = map state_in l.verticles.items ≡ replicate l.counter (unwrap_or (first_state l.fn.spec) [])
