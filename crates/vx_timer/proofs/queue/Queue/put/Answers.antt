use Rattle.vx_timer.proofs.Queues.{gap_stands, puts_at}
use Rattle.vx_timer.proofs.queue.Queue.put.Goals as goal

pub insert-requires-clause-before : goal.insert-requires-clause-before
insert-requires-clause-before c = gap_stands _ c.args.timer _ c.first_later-before.ensures

pub returns-clause-puts : goal.returns-clause-puts
returns-clause-puts c =
    rw (← c.self.view_is, c.in-Some.is)
    (puts_at c.self.inside.store.lists c.insert.new.self.lists c.in-Some.list.0 c.insert.result.0 c.args.timer _ (rw c.in-Some.is at c.self.invariant).0 c.first_later-before.ensures c.insert.ensures.place)
