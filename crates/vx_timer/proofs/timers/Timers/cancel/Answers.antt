use Rattle.std.proofs.Common.{sym, ◌∙◌, ap, [], ◌∷◌}
use Rattle.vx_items.proofs.Entries.{value_at_some}
use Rattle.vx_timer.specs.Queued.{timers_in}
use Rattle.vx_timer.proofs.Queues.{entry_of}
use Rattle.vx_timer.proofs.Named.{found_named, none_there, none_found, keeps_all, named_cancelled, kept_without}
use Rattle.vx_timer.proofs.timers.Timers.cancel.Goals as goal

pub invariant_of-self : goal.invariant_of-self
invariant_of-self c =
    let repeated = c.if-self.true in
    kept_without c.args.id _ _ _ _ _ c.self.invariant c.remove_each.ensures.left (λ once. absurd (cc))

pub remove-requires : goal.remove-requires
remove-requires c =
    let found = found_named _ _ _ _ (c.self.invariant.named c.if-self.false) c.in-Some.ensures.item in
    value_at_some (entry_of c.in-Some.item.0 found.timer) (c.self.inside.queue.entries ∷ []) 0 found.before found.after found.is

pub invariant_of-self-in-Some : goal.invariant_of-self-in-Some
invariant_of-self-in-Some c =
    let are = c.self.invariant.named c.if-self.false in
    let found = found_named c.args.id _ _ _ are c.in-Some.ensures.item in
    let left = c.remove.ensures.left found.before found.after found.timer found.is in
    kept_without c.args.id _ _ _ _ _ c.self.invariant (ap timers_in left ∙ sym found.left) (λ once. named_cancelled _ _ _ _ _ _ found left are c.forget.ensures.forgotten)

pub returns-in-Some-clause-found : goal.returns-in-Some-clause-found
returns-in-Some-clause-found c = rw (← c.self.view_is) (sym (found_named c.args.id _ _ _ (c.self.invariant.named c.if-self.false) c.in-Some.ensures.item).found)

pub returns-in-Some-clause-left : goal.returns-in-Some-clause-left
returns-in-Some-clause-left c =
    let found = found_named c.args.id _ _ _ (c.self.invariant.named c.if-self.false) c.in-Some.ensures.item in
    rw (← c.self.view_is) (ap timers_in (c.remove.ensures.left found.before found.after found.timer found.is) ∙ sym found.left)

pub returns-in-None-clause-found : goal.returns-in-None-clause-found
returns-in-None-clause-found c =
    rw (← c.self.view_is) (sym (none_found c.args.id _ (none_there c.args.id _ _ (c.self.invariant.named c.if-self.false) c.in-None.ensures.item)))

pub returns-in-None-clause-left : goal.returns-in-None-clause-left
returns-in-None-clause-left c =
    rw (← c.self.view_is) (sym (keeps_all c.args.id _ (none_there c.args.id _ _ (c.self.invariant.named c.if-self.false) c.in-None.ensures.item)))
