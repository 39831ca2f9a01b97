use Rattle.vx_bus_refusals.proofs.Chains.{first, more, last}
use Rattle.vx_bus_refusals.proofs.refusals.request_refusal.Goals as goal

pub returns : goal.returns
returns c = λ history contexts bus. last (more (more (more (more (more (first (c.no_context.ensures history contexts)) c.or.ensures (c.no_such_codec.ensures history bus)) c.or-2.ensures (c.not_your_context.ensures history contexts)) c.or-3.ensures (c.closed.ensures history contexts)) c.or-4.ensures c.bad_address.ensures) c.or-5.ensures c.too_large.ensures) c.or-6.ensures c.bad_delay.ensures
