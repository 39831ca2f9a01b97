use Rattle.std.proofs.Common.{◌≤◌, ◌-◌, get_or, [], length}
use Rattle.vx_queues.specs.Stores.{all_values}
use Rattle.vx_queues.specs.Lanes.{head_in}
use Rattle.vx_queues.proofs.Gaps.{Walk}
use Rattle.vx_queues.proofs.lanes.first_later.Given as goal

abbrev pub invariant-loop-step : goal.invariant-loop-step
invariant-loop-step l = record {
  walk : Walk (head_in (all_values l.items.lists)) (get_or l.lanes.lists l.lane []) l.queue l.next (length l.queues.items - l._step);
  within : l._step ≤ length l.queues.items;
}
