use Rattle.std.proofs.Common.{◌∙◌, ap, subst, ◌&&◌, not, List, arith}
use Rattle.vx_queues.specs.declared.queues.Waiting.{Waiting}
use Rattle.vx_queues.specs.Stores.{all_values}
use Rattle.vx_queues.specs.Lanes.{IsLaned}
use Rattle.vx_queues.proofs.Splits.{kept_as, merged_as, as_it_is, kept_put, values_put, values_len, none_waits}
use Rattle.vx_queues.proofs.Laning.{laned_put, new_to_lanes}
use Rattle.vx_queues.proofs.queues.Queues.put.Goals as goal

pub line_up-requires-clause-new : goal.line_up-requires-clause-new
line_up-requires-clause-new c sure =
    new_to_lanes c.self.inside.queues.items (all_values c.self.inside.items.lists) c.self.inside.lanes c.args.item.queue c.comes_in-comes.result (not c.queue_of-own.result.busy) c.self.invariant.laned
    (c.comes_in-comes.ensures ∙ ap (λ b. b && not c.queue_of-own.result.busy) (none_waits c.self.inside.items.lists c.args.item.queue c.first.result c.first.ensures.first)) sure

pub invariant_of-self : goal.invariant_of-self
invariant_of-self c =
    let L : List (List Waiting) → Type 0 = λ ls. IsLaned c.self.inside.queues.items ls c.line_up.new.lanes in
    let within = rw (← c.self.view_is) at c.requires.queue in
    let same = values_len c.self.inside.items.lists _ c.self.invariant.kept.one_each in
    record {
      kept = kept_as _ _ _ (kept_put c.self.inside.queues.items c.self.inside.items.lists c.add.new.self.lists _ _ c.args.item (as_it_is _ _ c.self.invariant.kept) (rw (← c.self.view_is) at c.requires.queue) (rw (← c.self.view_is) at c.requires.last) c.add.ensures.lists);
      laned = subst L (values_put c.self.inside.items.lists c.add.new.self.lists _ c.args.item c.add.ensures.lists)
          (laned_put c.self.inside.queues.items (all_values c.self.inside.items.lists) _ c.self.inside.lanes c.line_up.new.lanes c.args.item c.comes_in-comes.result c.self.invariant.laned c.self.invariant.kept.split
          (omega (arith, within, same)) within (rw (← c.self.view_is) at c.requires.last)
          (rw c.queue_of-own.ensures at (c.comes_in-comes.ensures ∙ ap (λ b. b && not c.queue_of-own.result.busy) (none_waits c.self.inside.items.lists c.args.item.queue c.first.result c.first.ensures.first)))
          (rw c.queue_of-own.ensures at c.line_up.ensures.lists) c.line_up.ensures.places);
    }

pub returns-clause-waiting : goal.returns-clause-waiting
returns-clause-waiting c = rw (← c.self.view_is) (merged_as _ _ _ (kept_put c.self.inside.queues.items c.self.inside.items.lists c.add.new.self.lists _ _ c.args.item (as_it_is _ _ c.self.invariant.kept) (rw (← c.self.view_is) at c.requires.queue) (rw (← c.self.view_is) at c.requires.last) c.add.ensures.lists))
