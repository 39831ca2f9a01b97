use Rattle.std.proofs.Common.{◌∙◌}
use Rattle.vx_queues.specs.Stores.{all_values}
use Rattle.vx_queues.proofs.Laning.{next_is}
use Rattle.vx_queues.proofs.queues.Queues.next.Goals as goal

pub returns : goal.returns
returns c =
    rw (← c.self.view_is)
    (c.first.ensures.first ∙ next_is c.self.inside.queues.items (all_values c.self.inside.items.lists) _ c.self.inside.lanes c.args.lane c.self.invariant.laned c.self.invariant.kept.split)
