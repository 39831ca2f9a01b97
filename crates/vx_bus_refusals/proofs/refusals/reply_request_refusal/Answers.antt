use Rattle.vx_bus_refusals.proofs.Chains.{first, more, last}
use Rattle.vx_bus_refusals.proofs.refusals.reply_request_refusal.Goals as goal

pub returns : goal.returns
returns c = λ history contexts bus. last (more (more (more (more (more (more (more (more (first (c.no_message.ensures history bus)) c.or.ensures (c.not_request.ensures history bus)) c.or-2.ensures (c.no_context.ensures history contexts)) c.or-3.ensures (c.no_such_codec.ensures history bus)) c.or-4.ensures (c.not_your_message.ensures history contexts bus)) c.or-5.ensures (c.not_your_context.ensures history contexts)) c.or-6.ensures (c.closed.ensures history contexts)) c.or-7.ensures c.too_large.ensures) c.or-8.ensures c.bad_delay.ensures) c.or-9.ensures (c.late.ensures history bus)
