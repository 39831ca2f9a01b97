use Rattle.vx_timer.proofs.Queues.{no_first, first_at}
use Rattle.vx_timer.proofs.queue.Queue.first.Goals as goal

pub returns-in_err-item-clause-none : goal.returns-in_err-item-clause-none
returns-in_err-item-clause-none c = rw (c.from_residual-in_err-item.ensures, ← c.self.view_is, c.in_ok-self.was) (no_first _ c.in_err-item.ensures.first)

pub returns-clause-first : goal.returns-clause-first
returns-clause-first c = rw (← c.self.view_is, c.in_ok-self.was) (first_at _ _ _ c.in_ok-item.ensures.first (c.timer_at.ensures c.in_ok-self.field-0.0))
