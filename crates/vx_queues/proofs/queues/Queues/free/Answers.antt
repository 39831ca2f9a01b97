use Rattle.std.proofs.Common.{true, List, sym, subst}
use Rattle.vx_queues.specs.declared.queues.Queue.{Queue}
use Rattle.vx_queues.specs.Stores.{IsOrdered}
use Rattle.vx_queues.proofs.Returning.{as_it_was}
use Rattle.vx_queues.proofs.queues.Queues.free.Goals as goal

pub come_back-requires-clause-aside : goal.come_back-requires-clause-aside
come_back-requires-clause-aside c =
    let O : List Queue → Type 0 = λ queues. IsOrdered queues c.self.inside.items.lists c.self.inside.lanes in
    subst O (sym (as_it_was c.self.inside.queues.items c.args.queue true (rw (← c.self.view_is) at c.requires.busy))) c.self.invariant
