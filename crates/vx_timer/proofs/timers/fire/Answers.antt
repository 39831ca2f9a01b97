use Rattle.std.proofs.Common.{◌≡◌, ◌<◌, List, ◌∷◌, refl, sym, ap, subst, true, All}
use Rattle.vx_timer.specs.declared.timers.Timer.{Timer}
use Rattle.vx_timer.specs.Order.{are_in_order, are_periods}
use Rattle.vx_timer.specs.Queued.{timers_in, AreNamed}
use Rattle.vx_timer.proofs.Orders.{all_behind, behind_first, periods_behind, first_period, again_keeps_order, again_keeps_periods}
use Rattle.vx_timer.proofs.Queues.{Entries}
use Rattle.vx_timer.proofs.Named.{first_goes}
use Rattle.vx_timer.proofs.timers.fire.Goals as goal

abbrev Ordered : List Timer → Type 0
Ordered timers = are_in_order timers ≡ true

abbrev HavePeriods : List Timer → Type 0
HavePeriods timers = are_periods timers ≡ true

pub returns-then-first-now-clause-later : goal.returns-then-first-now-clause-later
returns-then-first-now-clause-later c =
    let now = c.args.now in
    let Later : List Timer → Type 0 = λ timers. All (λ (timer : Timer). now < timer.due) timers in
    let timers = ap timers_in c.in_ok-item.ensures.first.is in
    subst Later (sym timers) (all_behind now c.in_ok-item.first _ (subst Ordered timers c.requires.ordered) c.if-first-now.true)

pub set_again-requires-clause-ordered : goal.set_again-requires-clause-ordered
set_again-requires-clause-ordered c =
    let goes = first_goes _ _ _ _ c.in_ok-item.ensures.first c.remove.ensures.left in
    behind_first c.in_ok-item.first _ (subst Ordered (ap timers_in goes) c.requires.ordered)

pub returns-clause-ordered : goal.returns-clause-ordered
returns-clause-ordered c =
    let first = c.in_ok-item.first in
    let goes = first_goes _ _ _ _ c.in_ok-item.ensures.first c.remove.ensures.left in
    subst Ordered (sym c.set_again.ensures.again)
    (again_keeps_order c.args.now first first.period _ (behind_first first _ (subst Ordered (ap timers_in goes) c.requires.ordered)))

pub returns-clause-periods : goal.returns-clause-periods
returns-clause-periods c =
    let first = c.in_ok-item.first in
    let goes = first_goes _ _ _ _ c.in_ok-item.ensures.first c.remove.ensures.left in
    let others : List Timer = timers_in c.remove.new.self.entries in
    let periods : are_periods (first ∷ others) ≡ true = subst HavePeriods (ap timers_in goes) c.requires.periods in
    subst HavePeriods (sym c.set_again.ensures.again) (again_keeps_periods c.args.now first first.period others (first_period first others periods) (periods_behind first others periods))

pub returns-clause-named : goal.returns-clause-named
returns-clause-named c are =
    let goes = first_goes _ _ _ _ c.in_ok-item.ensures.first c.remove.ensures.left in
    let Named : Entries → Type 0 = λ es. AreNamed es c.args.names.now.entries in
    c.set_again.ensures.named c.in_ok-item.item.0 (subst Named goes are)

pub returns-clause-fires : goal.returns-clause-fires
returns-clause-fires c =
    record {
      timer = c.in_ok-item.first;
      others = timers_in c.remove.new.self.entries;
      first = ap timers_in (first_goes _ _ _ _ c.in_ok-item.ensures.first c.remove.ensures.left);
      is_due = c.if-first-now.false;
      due_at = refl;
      named = refl;
      stays = c.set_again.ensures.again;
    }
