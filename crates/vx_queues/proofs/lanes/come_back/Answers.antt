use Rattle.std.proofs.Common.{sym, ◌∙◌, ap, arith}
use Rattle.std.proofs.Math.ListN.{length-set}
use Rattle.vx_queues.specs.declared.queues.Queue.{Queue}
use Rattle.vx_queues.specs.Stores.{all_values}
use Rattle.vx_queues.proofs.Splits.{kept_same}
use Rattle.vx_queues.proofs.Gaps.{gap_there}
use Rattle.vx_queues.proofs.Returning.{own_lane, aside_nowhere, laned_back, laned_idle}
use Rattle.vx_queues.proofs.lanes.come_back.Goals as goal

pub first_later-later-requires-clause-lane : goal.first_later-later-requires-clause-lane
first_later-later-requires-clause-lane c =
    let a = own_lane c.args.queues.now.items (all_values c.args.items.now.lists) c.args.lanes.now c.args.queue c.requires.aside.laned c.requires.there in
    let b = ap (λ (q : Queue). q.lane) c.queue_of-own.ensures in
    omega (arith, a, b)

pub insert-requires-clause-new : goal.insert-requires-clause-new
insert-requires-clause-new c = aside_nowhere c.args.queues.now.items (all_values c.args.items.now.lists) c.args.lanes.now c.args.queue c.requires.aside.laned c.requires.there

pub insert-requires-clause-before : goal.insert-requires-clause-before
insert-requires-clause-before c = gap_there _ _ _ _ c.first_later-later.ensures

pub returns-in-Some-clause-back : goal.returns-in-Some-clause-back
returns-in-Some-clause-back c = record {
  kept = kept_same _ _ _ c.requires.aside.kept (length-set c.args.queues.now.items c.args.queue _ ∙ sym (length-set c.args.queues.now.items c.args.queue _));
  laned = laned_back c.args.queues.now.items (all_values c.args.items.now.lists) c.args.lanes.now _ c.args.queue c.queue_of-own.result.lane c.in-Some.first c.first_later-later.result c.requires.aside.laned c.requires.there
      (ap (λ (q : Queue). q.lane) c.queue_of-own.ensures) (sym c.in-Some.ensures) c.first_later-later.ensures c.insert.ensures.lists c.insert.ensures.places;
}

pub returns-in_default-clause-back : goal.returns-in_default-clause-back
returns-in_default-clause-back c = record {
  kept = kept_same _ _ _ c.requires.aside.kept (length-set c.args.queues.now.items c.args.queue _ ∙ sym (length-set c.args.queues.now.items c.args.queue _));
  laned = laned_idle c.args.queues.now.items (all_values c.args.items.now.lists) c.args.lanes.now c.args.queue c.requires.aside.laned c.requires.there (sym c.head_of.ensures ∙ c.in_default.is);
}
