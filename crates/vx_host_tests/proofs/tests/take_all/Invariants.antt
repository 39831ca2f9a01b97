use Rattle.std.proofs.Common.{◌≡◌}
use Rattle.vx_turn.specs.Passes.{place_of}
use Rattle.vx_host_tests.proofs.tests.take_all.Given as goal

abbrev pub invariant-loop : goal.invariant-loop
invariant-loop g l = place_of l.pass ≡ place_of l.initial.pass
