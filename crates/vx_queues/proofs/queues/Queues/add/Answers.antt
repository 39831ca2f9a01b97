use Rattle.std.proofs.Common.{◌≡◌, subst, ◌+◌, List, [], ◌∷◌, ◌++◌, length, rules, false, ◌≤◌}
use Rattle.vx_queues.specs.declared.queues.Waiting.{Waiting}
use Rattle.vx_queues.specs.Stores.{all_values}
use Rattle.vx_queues.specs.Lanes.{IsLaned}
use Rattle.vx_queues.proofs.Splits.{kept_as, merged_as, as_it_is, kept_list, values_list, values_len}
use Rattle.vx_queues.proofs.Laning.{laned_add}
use Rattle.vx_queues.proofs.queues.Queues.add.Goals as goal

pub invariant_of-self-2 : goal.invariant_of-self-2
invariant_of-self-2 c =
    let len : length c.push.new.self.items ≡ length c.self.inside.queues.items + 1 = search rules in
    let L : List (List Waiting) → Type 0 = λ ls. IsLaned c.push.new.self.items ls c.grow.new.self in
    let queues : c.push.new.self.items ≡ c.self.inside.queues.items ++ record { lane = c.args.lane; busy = false } ∷ [] = search rules in
    let enough : length c.self.inside.queues.items + 1 ≤ c.grow.new.self.places = search rules in
    record {
      kept = kept_as _ _ _ (kept_list c.self.inside.queues.items _ _ _ _ (as_it_is _ _ c.self.invariant.kept) len c.in_ok-list.ensures.lists);
      laned = subst L (values_list _ _ c.in_ok-list.ensures.lists)
          (rw queues (laned_add c.self.inside.queues.items (all_values c.self.inside.items.lists) c.self.inside.lanes c.grow.new.self c.args.lane c.self.invariant.laned
          (values_len _ _ c.self.invariant.kept.one_each) (rw (← c.self.view_is) at c.requires) c.in_ok-grow.ensures.lists enough));
    }

pub returns-clause-waiting : goal.returns-clause-waiting
returns-clause-waiting c =
    let len : length c.push.new.self.items ≡ length c.self.inside.queues.items + 1 = search rules in
    rw (← c.self.view_is) (merged_as _ _ _ (kept_list c.self.inside.queues.items _ _ _ _ (as_it_is _ _ c.self.invariant.kept) len c.in_ok-list.ensures.lists))
