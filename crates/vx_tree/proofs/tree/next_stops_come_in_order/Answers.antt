use Rattle.vx_tree.specs.Nodes.{may_stop}
use Rattle.vx_tree.proofs.Stops.{next_first, none_left}
use Rattle.vx_tree.proofs.tree.next_stops_come_in_order.Goals as goal

pub returns-clause-next : goal.returns-clause-next
returns-clause-next c = λ tree next apart found. next_first (may_stop tree) tree.to_stop next apart found

pub returns-clause-last : goal.returns-clause-last
returns-clause-last c = λ tree none. none_left (may_stop tree) tree.to_stop none
