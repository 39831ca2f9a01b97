use Rattle.std.proofs.Common.{sym, ◌∙◌, ap, subst, List, [], get_or, set, true, Some}
use Rattle.vx_items.proofs.Entries.{value_at_some}
use Rattle.vx_queues.specs.declared.queues.Waiting.{Waiting}
use Rattle.vx_queues.specs.declared.queues.Queue.{Queue}
use Rattle.std.proofs.Math.ListN.{length-set}
use Rattle.vx_queues.specs.Stores.{all_values}
use Rattle.vx_queues.specs.Lanes.{IsLaned}
use Rattle.vx_queues.proofs.Splits.{kept_as, merged_as, as_it_is, kept_take, head_at, first_taken, some_first, values_take, head_value, kept_queues}
use Rattle.vx_queues.proofs.Laning.{laned_take, stands_in_lane}
use Rattle.vx_queues.proofs.queues.Queues.take.Goals as goal

pub unwrap-first-requires : goal.unwrap-first-requires
unwrap-first-requires c = some_first c.self.inside.items.lists _ c.args.queue c.first.result c.self.invariant.kept.split c.first.ensures.first (rw (← c.self.view_is) at c.requires.waits)

pub remove-requires : goal.remove-requires
remove-requires c =
    let head = (head_at (get_or c.self.inside.items.lists c.args.queue []) c.unwrap-first.result c.first.result c.first.ensures.first c.unwrap-first.ensures) in
    stands_in_lane c.self.inside.queues.items (all_values c.self.inside.items.lists) c.self.inside.lanes c.args.queue head.value c.self.invariant.laned (head_value c.self.inside.items.lists c.args.queue _ head) (rw (← c.self.view_is) at c.requires.free)

pub remove-requires-2 : goal.remove-requires-2
remove-requires-2 c = let head = (head_at (get_or c.self.inside.items.lists c.args.queue []) c.unwrap-first.result c.first.result c.first.ensures.first c.unwrap-first.ensures) in value_at_some _ c.self.inside.items.lists c.args.queue [] head.rest head.is

pub invariant_of-self : goal.invariant_of-self
invariant_of-self c =
    let head = (head_at (get_or c.self.inside.items.lists c.args.queue []) c.unwrap-first.result c.first.result c.first.ensures.first c.unwrap-first.ensures) in
    let own : Queue = record { lane = c.queue_of-own.result.lane; busy = true } in
    let queues' : List Queue = set c.self.inside.queues.items c.args.queue own in
    let L : List (List Waiting) → Type 0 = λ ls. IsLaned queues' ls c.remove.new.self in
    record {
      kept = kept_as _ _ _ (kept_queues c.self.inside.queues.items queues' _ _ (kept_take c.self.inside.queues.items c.self.inside.items.lists c.remove-2.new.self.lists _ c.args.queue _ head (as_it_is _ _ c.self.invariant.kept) (rw (← c.self.view_is) at c.requires.queue) (c.remove-2.ensures.place c.args.queue [] head.rest head.value head.is).0) (length-set c.self.inside.queues.items c.args.queue own));
      laned = subst L (values_take c.self.inside.items.lists c.remove-2.new.self.lists c.args.queue _ head (c.remove-2.ensures.place c.args.queue [] head.rest head.value head.is).0)
          (laned_take c.self.inside.queues.items (all_values c.self.inside.items.lists) c.self.inside.lanes c.remove.new.self c.args.queue c.queue_of-own.result.lane c.self.invariant.laned
          (rw (← c.self.view_is) at c.requires.queue) (ap (λ (r : Queue). r.lane) c.queue_of-own.ensures) c.remove.ensures.lists c.remove.ensures.places);
    }

pub returns-clause-item : goal.returns-clause-item
returns-clause-item c =
    let head = (head_at (get_or c.self.inside.items.lists c.args.queue []) c.unwrap-first.result c.first.result c.first.ensures.first c.unwrap-first.ensures) in
    rw (← c.self.view_is)
    (first_taken c.self.inside.queues.items c.self.inside.items.lists _ c.args.queue _ head (as_it_is _ _ c.self.invariant.kept)
    ∙ ap Some (sym (c.remove-2.ensures.place c.args.queue [] head.rest head.value head.is).1))

pub returns-clause-waiting : goal.returns-clause-waiting
returns-clause-waiting c = let head = (head_at (get_or c.self.inside.items.lists c.args.queue []) c.unwrap-first.result c.first.result c.first.ensures.first c.unwrap-first.ensures) in rw (← c.self.view_is) (merged_as _ _ _ (kept_take c.self.inside.queues.items c.self.inside.items.lists c.remove-2.new.self.lists _ c.args.queue _ head (as_it_is _ _ c.self.invariant.kept) (rw (← c.self.view_is) at c.requires.queue) (c.remove-2.ensures.place c.args.queue [] head.rest head.value head.is).0))
