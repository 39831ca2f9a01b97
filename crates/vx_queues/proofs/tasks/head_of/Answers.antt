use Rattle.std.proofs.Common.{sym}
use Rattle.vx_queues.proofs.Splits.{no_head, head_is}
use Rattle.vx_queues.proofs.tasks.head_of.Goals as goal

pub returns-in-Some : goal.returns-in-Some
returns-in-Some c = sym (head_is c.args.items.now.lists c.args.queue c.in-Some.first.0 c.task_at.result c.in-Some.ensures.first c.task_at.ensures)

pub returns-in-None : goal.returns-in-None
returns-in-None c = sym (no_head c.args.items.now.lists c.args.queue c.in-None.ensures.first)
