use Rattle.std.proofs.Common.{sym, ◌∙◌}
use Rattle.std.proofs.Math.ListN.{length-set}
use Rattle.vx_queues.specs.Stores.{all_values}
use Rattle.vx_queues.proofs.Splits.{kept_same}
use Rattle.vx_queues.proofs.Returning.{stands_there, stands_out, laned_out, laned_aside}
use Rattle.vx_queues.proofs.lanes.step_aside.Goals as goal

pub remove-requires : goal.remove-requires
remove-requires c = stands_there c.args.queues.now.items (all_values c.args.items.now.lists) c.args.lanes.now c.args.queue c.requires.ordered.laned (sym c.stands.ensures ∙ c.if-stands.true)

pub returns-then-stands-clause-aside : goal.returns-then-stands-clause-aside
returns-then-stands-clause-aside c = record {
  kept = kept_same _ _ _ c.requires.ordered.kept (length-set c.args.queues.now.items c.args.queue _);
  laned = laned_out c.args.queues.now.items (all_values c.args.items.now.lists) c.args.lanes.now _ c.args.queue c.requires.ordered.laned c.requires.there c.remove.ensures.lists c.remove.ensures.places;
}

pub returns-else-stands-clause-aside : goal.returns-else-stands-clause-aside
returns-else-stands-clause-aside c = record {
  kept = kept_same _ _ _ c.requires.ordered.kept (length-set c.args.queues.now.items c.args.queue _);
  laned = laned_aside c.args.queues.now.items (all_values c.args.items.now.lists) c.args.lanes.now c.args.queue c.requires.ordered.laned c.requires.there (stands_out c.args.queues.now.items (all_values c.args.items.now.lists) c.args.queue (sym c.stands.ensures ∙ c.if-stands.false));
}
