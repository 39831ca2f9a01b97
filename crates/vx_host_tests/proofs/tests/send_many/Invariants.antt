use Rattle.std.proofs.Common.{◌≡◌}
use Rattle.vx_turn.specs.Passes.{place_of}
use Rattle.vx_host_tests.proofs.tests.send_many.Given as goal

abbrev pub invariant-loop-number : goal.invariant-loop-number
invariant-loop-number g l = place_of l.pass ≡ place_of l.initial.pass
