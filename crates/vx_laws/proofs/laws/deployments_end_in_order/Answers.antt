use Rattle.vx_laws.proofs.Undeploying.{end_in_order}
use Rattle.vx_laws.proofs.laws.deployments_end_in_order.Goals as goal

pub returns : goal.returns
returns c = end_in_order
