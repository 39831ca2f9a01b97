use Rattle.std.proofs.Common.{ap, sym, ◌∙◌}
use Rattle.std.specs.Prelude.{None, Some}
use Rattle.vx_call.specs.Pools.{pool_lane}
use Rattle.vx_core_life.proofs.NamedPools.{lane_named}
use Rattle.vx_core_life.proofs.pools.pool_lane.Goals as goal

pub returns-in-Some-named : goal.returns-in-Some-named
returns-in-Some-named c = λ history stands.
    lane_named c.args.contexts.now history c.in-Some.name c.named.result (Some c.in-Some-named.id) stands c.named.ensures c.in-Some-named.is ∙ ap (pool_lane history) (sym c.in-Some.is)

pub returns-in-None-named : goal.returns-in-None-named
returns-in-None-named c = λ history stands.
    lane_named c.args.contexts.now history c.in-Some.name c.named.result None stands c.named.ensures c.in-None-named.is ∙ ap (pool_lane history) (sym c.in-Some.is)
