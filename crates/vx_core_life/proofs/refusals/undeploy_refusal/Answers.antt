use Rattle.vx_bus_refusals.proofs.Chains.{first, more, last}
use Rattle.vx_core_life.proofs.refusals.undeploy_refusal.Goals as goal

pub returns : goal.returns
returns c = λ history contexts lives. last (more (more (more (first (c.no_deployment.ensures history lives)) c.or.ensures (c.no_named_context.ensures history contexts)) c.or-2.ensures (c.not_your_named.ensures history contexts)) c.or-3.ensures (c.closed_if_named.ensures history contexts)) c.or-4.ensures (c.stopping.ensures history lives)
