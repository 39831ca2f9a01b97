use Rattle.std.proofs.Common.{◌≡◌, ◌≤◌, [], length, drop}
use Rattle.vx_data.specs.Bodies.{elements}
use Rattle.vx_deployfile.specs.declared.fault.Place.TheVariants.{Deployment}
use Rattle.vx_deployfile.specs.Files.{each, planned_in}
use Rattle.vx_deployfile.proofs.deployment.deployments_of.Given as goal

-- the deployments so far, and those that are still to come
abbrev pub invariant-loop-i : goal.invariant-loop-i
invariant-loop-i l = record {
  count : length l.plans.items ≡ l.i;
  few : l.i ≤ 64;
  rest : each Deployment 64 (λ place earlier item. planned_in l.version l.pools place item) l.plans.items (elements (drop l.i l.items)) ≡ each Deployment 64 (λ place earlier item. planned_in l.version l.pools place item) [] (elements l.items);
}
