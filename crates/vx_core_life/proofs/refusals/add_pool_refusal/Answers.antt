use Rattle.std.proofs.Common.{ap, ◌∙◌}
use Rattle.vx_call.specs.Refusals.{bad_count}
use Rattle.vx_bus_refusals.proofs.Chains.{first, more, last}
use Rattle.vx_core_life.proofs.refusals.add_pool_refusal.Goals as goal

pub returns : goal.returns
returns c = λ history contexts.
    last (more (more (more (first (c.holder_closed.ensures history contexts)) c.or.ensures c.bad_address.ensures) c.or-2.ensures (c.bad_count.ensures ∙ ap (bad_count 20) c.from.ensures)) c.or-3.ensures (c.pool_taken.ensures history contexts)) c.or-4.ensures (c.many_pools.ensures history contexts)
