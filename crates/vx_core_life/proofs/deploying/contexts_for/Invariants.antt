use Rattle.std.proofs.Common.{◌≡◌}
use Rattle.vx_core_life.specs.Starting.{new_contexts}
use Rattle.vx_core_life.proofs.deploying.contexts_for.Given as goal

abbrev pub invariant-loop-instance : goal.invariant-loop-instance
invariant-loop-instance l = l.made.items ≡ new_contexts l.life l.worker l.pool l.id l.instance
