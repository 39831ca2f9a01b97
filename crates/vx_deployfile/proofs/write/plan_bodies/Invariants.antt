use Rattle.std.proofs.Common.{◌≡◌, map, take}
use Rattle.vx_deployfile.specs.Texts.{planned_tree}
use Rattle.vx_deployfile.proofs.write.plan_bodies.Given as goal

abbrev pub invariant-loop-plan : goal.invariant-loop-plan
invariant-loop-plan l = l.items.items ≡ map planned_tree (take l.plan-index l.plans)
