use Rattle.vx_laws.proofs.Deliveries.{delivered_once}
use Rattle.vx_laws.proofs.laws.messages_are_delivered_once.Goals as goal

pub returns : goal.returns
returns c = delivered_once
