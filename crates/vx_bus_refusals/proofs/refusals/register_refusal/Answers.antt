use Rattle.vx_bus_refusals.proofs.Chains.{first, more, last}
use Rattle.vx_bus_refusals.proofs.refusals.register_refusal.Goals as goal

pub returns : goal.returns
returns c = λ history contexts. last (more (more (more (first (c.no_context.ensures history contexts)) c.or.ensures (c.not_your_context.ensures history contexts)) c.or-2.ensures (c.closed.ensures history contexts)) c.or-3.ensures c.bad_address.ensures) c.or-4.ensures c.bad_limit.ensures
