use Rattle.std.proofs.Common.{List, sym, ◌∙◌, subst, true, ap, filter, not, get_or, []}
use Rattle.vx_queues.specs.declared.queues.Queue.{Queue}
use Rattle.vx_queues.specs.declared.queues.Waiting.{Waiting}
use Rattle.vx_queues.specs.Stores.{IsOrdered, all_values, values}
use Rattle.vx_queues.specs.Lanes.{as_busy, IsLaned}
use Rattle.vx_queues.specs.Leaving.{is_left_out}
use Rattle.vx_queues.proofs.Splits.{as_it_is, kept_as, merged_as}
use Rattle.vx_queues.proofs.Leaving.{kept_left, laned_left}
use Rattle.vx_queues.proofs.Returning.{as_it_was, was_true}
use Rattle.std.proofs.Math.ListN.{length-set}
use Rattle.vx_queues.proofs.queues.Queues.leave_out.Goals as goal

pub come_back-requires-clause-aside : goal.come_back-requires-clause-aside
come_back-requires-clause-aside c =
    let queues = c.self.inside.queues.items in
    let k = c.args.queue in
    let lists = c.self.inside.items.lists in
    let within = rw (← c.self.view_is) at c.requires.queue in
    let aside = c.step_aside.ensures.aside in
    let tasks = filter (λ (task : Waiting). not (is_left_out c.args.which task)) (values (get_or lists k [])) in
    let L : List (List Waiting) → Type 0 = λ ls. IsLaned (as_busy k queues) ls c.step_aside.new.lanes in
    record {
      kept = kept_as _ _ _ (kept_left (as_busy k queues) lists c.remove_each.new.items.lists _ k (is_left_out c.args.which) (as_it_is _ _ aside.kept) (rw (length-set queues k _) within) c.remove_each.ensures.len c.remove_each.ensures.lists);
      laned = subst L (sym c.remove_each.ensures.lists) (laned_left queues (all_values lists) c.step_aside.new.lanes k tasks aside.laned within);
    }

pub invariant_of-self-else-not-own : goal.invariant_of-self-else-not-own
invariant_of-self-else-not-own c =
    let queues = c.self.inside.queues.items in
    let k = c.args.queue in
    let lists = c.self.inside.items.lists in
    let within = rw (← c.self.view_is) at c.requires.queue in
    let aside = c.step_aside.ensures.aside in
    let tasks = filter (λ (task : Waiting). not (is_left_out c.args.which task)) (values (get_or lists k [])) in
    let L : List (List Waiting) → Type 0 = λ ls. IsLaned (as_busy k queues) ls c.step_aside.new.lanes in
    let O : List Queue → Type 0 = λ qs. IsOrdered qs c.remove_each.new.items.lists c.step_aside.new.lanes in
    subst O (as_it_was queues k true (ap (λ (q : Queue). q.busy) (sym c.queue_of-own.ensures) ∙ was_true c.queue_of-own.result.busy c.if-not-own.false)) (record {
      kept = kept_as _ _ _ (kept_left (as_busy k queues) lists c.remove_each.new.items.lists _ k (is_left_out c.args.which) (as_it_is _ _ aside.kept) (rw (length-set queues k _) within) c.remove_each.ensures.len c.remove_each.ensures.lists);
      laned = subst L (sym c.remove_each.ensures.lists) (laned_left queues (all_values lists) c.step_aside.new.lanes k tasks aside.laned within);
    })

pub returns-then-not-own-clause-waiting : goal.returns-then-not-own-clause-waiting
returns-then-not-own-clause-waiting c =
    let within = rw (← c.self.view_is) at c.requires.queue in
    rw (← c.self.view_is) (merged_as c.self.inside.queues.items _ _ (kept_left c.self.inside.queues.items c.self.inside.items.lists c.remove_each.new.items.lists _ c.args.queue (is_left_out c.args.which) (as_it_is _ _ c.self.invariant.kept) within c.remove_each.ensures.len c.remove_each.ensures.lists))

pub returns-else-not-own-clause-waiting : goal.returns-else-not-own-clause-waiting
returns-else-not-own-clause-waiting c =
    let within = rw (← c.self.view_is) at c.requires.queue in
    rw (← c.self.view_is) (merged_as c.self.inside.queues.items _ _ (kept_left c.self.inside.queues.items c.self.inside.items.lists c.remove_each.new.items.lists _ c.args.queue (is_left_out c.args.which) (as_it_is _ _ c.self.invariant.kept) within c.remove_each.ensures.len c.remove_each.ensures.lists))
