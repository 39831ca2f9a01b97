use Rattle.std.proofs.Common.{◌≤◌, ◌-◌}
use Rattle.vx_items.specs.Items.{number_of}
use Rattle.vx_queues.specs.Leaving.{is_left_out}
use Rattle.vx_queues.proofs.Leaving.{Sweep}
use Rattle.vx_queues.proofs.tasks.remove_each.Given as goal

abbrev pub invariant-loop-step : goal.invariant-loop-step
invariant-loop-step l = record {
  sweep : Sweep l.fn.items.lists l.items.lists l.queue (is_left_out l.which) (number_of l.rest) (l.count - l._step);
  within : l._step ≤ l.count;
  room : l.fn.items.room ≤ l.items.room;
}
