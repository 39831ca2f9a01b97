use Rattle.std.proofs.Common.{◌≤◌, ◌-◌, get_or, []}
use Rattle.vx_items.specs.Items.{number_of}
use Rattle.vx_timer.proofs.Queues.{Walk}
use Rattle.vx_timer.proofs.queue.first_later.Given as goal

abbrev pub invariant-loop-step : goal.invariant-loop-step
invariant-loop-step l = record {
  walk : Walk (get_or l.store.lists l.fn.list.0 []) l.timer (number_of l.earlier) (number_of l.later) (l.count - l._step);
  within : l._step ≤ l.count;
}
