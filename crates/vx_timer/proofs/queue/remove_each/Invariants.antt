use Rattle.std.proofs.Common.{◌≡◌, ◌≤◌, ◌-◌, get_or, [], length}
use Rattle.vx_items.specs.Items.{number_of}
use Rattle.vx_timer.proofs.Queues.{Sweep}
use Rattle.vx_timer.proofs.queue.remove_each.Given as goal

abbrev pub invariant-loop-step : goal.invariant-loop-step
invariant-loop-step l = record {
  sweep : Sweep (get_or l.fn.store.lists l.fn.list.0 []) (get_or l.store.lists l.fn.list.0 []) l.id (number_of l.rest) l.found (l.count - l._step);
  lists : length l.store.lists ≡ length l.fn.store.lists;
  within : l._step ≤ l.count;
}
