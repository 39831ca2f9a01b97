use Rattle.vx_timer.proofs.Queues.{removed_at}
use Rattle.vx_timer.proofs.queue.Queue.remove.Goals as goal

pub returns-clause-left : goal.returns-clause-left
returns-clause-left c before after timer split =
    removed_at c.self.inside.list c.self.inside.store.lists c.remove.new.self.lists c.args.item.0 before after timer c.self.invariant (rw (← c.self.view_is) at split)
    (λ n b a t is. (c.remove.ensures.place n b a t is).0)
