use Rattle.vx_laws.proofs.Order.{take_in_order}
use Rattle.vx_laws.proofs.laws.messages_are_taken_in_order.Goals as goal

pub returns : goal.returns
returns c = take_in_order
