use Rattle.vx_bus_refusals.proofs.Chains.{first, more, last}
use Rattle.vx_bus_refusals.proofs.refusals.reply_refusal.Goals as goal

pub returns : goal.returns
returns c = λ history contexts bus. last (more (more (more (more (more (first (c.no_message.ensures history bus)) c.or.ensures (c.not_request.ensures history bus)) c.or-2.ensures (c.no_such_codec.ensures history bus)) c.or-3.ensures (c.not_your_message.ensures history contexts bus)) c.or-4.ensures (c.holder_closed.ensures history contexts)) c.or-5.ensures c.too_large.ensures) c.or-6.ensures (c.late.ensures history bus)
