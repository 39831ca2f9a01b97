use Rattle.vx_bus_refusals.proofs.Chains.{first, last}
use Rattle.vx_bus_refusals.proofs.refusals.fetch_refusal.Goals as goal

pub returns : goal.returns
returns c = λ history contexts bus. last (first (c.consumer_refusal.ensures history contexts bus)) c.or.ensures c.bad_fetch.ensures
