use Rattle.vx_bus_refusals.proofs.Chains.{first, more, last}
use Rattle.vx_bus_refusals.proofs.refusals.send_refusal.Goals as goal

pub returns : goal.returns
returns c = λ history contexts bus. last (more (more (first (c.no_such_codec.ensures history bus)) c.or.ensures (c.holder_closed.ensures history contexts)) c.or-2.ensures c.bad_address.ensures) c.or-3.ensures c.too_large.ensures
