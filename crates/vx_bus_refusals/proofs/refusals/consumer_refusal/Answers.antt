use Rattle.vx_bus_refusals.proofs.Chains.{first, more, last}
use Rattle.vx_bus_refusals.proofs.refusals.consumer_refusal.Goals as goal

pub returns : goal.returns
returns c = λ history contexts bus. last (more (first (c.no_consumer.ensures history bus)) c.or.ensures (c.not_your_consumer.ensures history contexts bus)) c.or-2.ensures (c.holder_closed.ensures history contexts)
