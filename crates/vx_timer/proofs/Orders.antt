-- Putting a timer among timers in order.
use Rattle.std.proofs.Common.{◌≡◌, refl, ◌∙◌, ap, ℕ, zero, suc, ◌<◌, Bool, true, false, List, [], ◌∷◌, ◌++◌, length, cond, Option, Some, None, arith, ◌⊎◌, inl, inr, ⊎_elim, filter}
use Rattle.std.specs.Prelude.{All}
use Rattle.std.proofs.lemmas.Bool.{cases_Bool}
use Rattle.vx_timer.specs.declared.timers.Timer.{Timer}
use Rattle.vx_timer.specs.Order.{comes_before, put, are_in_order, is_period, are_periods, again, next_due}

-- of two timers one comes first at most
pub comes_once : (a b : Timer) → comes_before a b ≡ true → comes_before b a ≡ false
comes_once a b first = grind (arith, first)

-- a timer that does not come before the first one is put behind it
behind_step : (b : Bool) (timer first other : Timer) (others : List Timer) → comes_before timer other ≡ b → comes_before timer first ≡ false →
    are_in_order (first ∷ other ∷ others) ≡ true → are_in_order (other ∷ put timer others) ≡ true ⊎ (b ≡ true) →
    are_in_order (first ∷ (cond b (timer ∷ other ∷ others) (other ∷ put timer others))) ≡ true
behind_step true timer first other others at behind ordered rest = grind (arith, at, behind, ordered, comes_once timer other)
behind_step false timer first other others at behind ordered (inl rest) = grind (arith, ordered, rest)
behind_step false timer first other others at behind ordered (inr none) = grind (arith, none)

pub put_behind : (timer first : Timer) (others : List Timer) → comes_before timer first ≡ false → are_in_order (first ∷ others) ≡ true → are_in_order (first ∷ put timer others) ≡ true
put_behind timer first [] behind ordered = grind (arith, behind)
put_behind timer first (other ∷ others) behind ordered =
    behind_step (comes_before timer other) timer first other others refl behind ordered
    (⊎_elim (λ is. inr is) (λ not_before. inl (put_behind timer other others not_before (grind (arith, ordered)))) (cases_Bool (comes_before timer other)))

put_step : (b : Bool) (timer other : Timer) (others : List Timer) → comes_before timer other ≡ b → are_in_order (other ∷ others) ≡ true →
    are_in_order (cond b (timer ∷ other ∷ others) (other ∷ put timer others)) ≡ true
put_step true timer other others at ordered = grind (arith, ordered, comes_once timer other at)
put_step false timer other others at ordered = put_behind timer other others at ordered

pub put_keeps_order : (timer : Timer) (timers : List Timer) → are_in_order timers ≡ true → are_in_order (put timer timers) ≡ true
put_keeps_order timer [] ordered = refl
put_keeps_order timer (other ∷ others) ordered = put_step (comes_before timer other) timer other others refl ordered

pub behind_first : (first : Timer) (others : List Timer) → are_in_order (first ∷ others) ≡ true → are_in_order others ≡ true
behind_first first [] ordered = refl
behind_first first (second ∷ others) ordered = grind (arith, ordered)

-- a timer that does not come before one comes before none that stands before that one
not_later : (timer first last : Timer) (others behind : List Timer) → are_in_order (first ∷ others ++ last ∷ behind) ≡ true → comes_before timer last ≡ false → comes_before timer first ≡ false
not_later timer first last [] behind ordered past = grind (arith, ordered, past)
not_later timer first last (other ∷ others) behind ordered past =
    let next = not_later timer other last others behind (behind_first first (other ∷ others ++ last ∷ behind) ordered) past in grind (arith, ordered, next)

past_step : (b : Bool) (timer other : Timer) (others : List Timer) → b ≡ false → cond b (timer ∷ other ∷ others) (other ∷ put timer others) ≡ other ∷ put timer others
past_step true timer other others past = absurd (cc)
past_step false timer other others past = refl

-- so it goes past all of them
pub put_past : (timer last : Timer) (others behind : List Timer) → are_in_order (others ++ last ∷ behind) ≡ true → comes_before timer last ≡ false →
    put timer (others ++ last ∷ behind) ≡ others ++ last ∷ put timer behind
put_past timer last [] behind ordered past = past_step (comes_before timer last) timer last behind past
put_past timer last (other ∷ others) behind ordered past =
    past_step (comes_before timer other) timer other (others ++ last ∷ behind) (not_later timer other last others behind ordered past)
    ∙ ap (λ timers. other ∷ timers) (put_past timer last others behind (behind_first other (others ++ last ∷ behind) ordered) past)

first_step : (b : Bool) (timer other : Timer) (others : List Timer) → b ≡ true → cond b (timer ∷ other ∷ others) (other ∷ put timer others) ≡ timer ∷ other ∷ others
first_step true timer other others before = refl
first_step false timer other others before = absurd (cc)

pub put_first : (timer other : Timer) (others : List Timer) → comes_before timer other ≡ true → put timer (other ∷ others) ≡ timer ∷ other ∷ others
put_first timer other others before = first_step (comes_before timer other) timer other others before

-- the first of timers in order comes before none of those behind the second
skip_second : (first second : Timer) (others : List Timer) → are_in_order (first ∷ second ∷ others) ≡ true → are_in_order (first ∷ others) ≡ true
skip_second first second [] ordered = refl
skip_second first second (third ∷ others) ordered = grind (arith, ordered)

left_step : (b : Bool) (keep : Timer → Bool) (first : Timer) (others : List Timer) → keep first ≡ b → are_in_order (first ∷ filter keep others) ≡ true →
    are_in_order (filter keep others) ≡ true → are_in_order (cond b (first ∷ filter keep others) (filter keep others)) ≡ true
left_step true keep first others kept with_first without = with_first
left_step false keep first others kept with_first without = without

left_behind : (keep : Timer → Bool) (first : Timer) (timers : List Timer) → are_in_order (first ∷ timers) ≡ true → are_in_order (first ∷ filter keep timers) ≡ true
left_behind keep first [] ordered = refl
left_behind keep first (second ∷ others) ordered =
    elim (keep second) as (λ b. are_in_order (first ∷ cond b (second ∷ filter keep others) (filter keep others)) ≡ true) [
      | true ↦ grind (arith, ordered, left_behind keep second others (grind (arith, ordered)))
      | false ↦ left_behind keep first others (skip_second first second others ordered)
    ]

-- timers in order stay so where some are left out
pub left_in_order : (keep : Timer → Bool) (timers : List Timer) → are_in_order timers ≡ true → are_in_order (filter keep timers) ≡ true
left_in_order keep [] ordered = refl
left_in_order keep (first ∷ others) ordered =
    elim (keep first) as (λ b. are_in_order (cond b (first ∷ filter keep others) (filter keep others)) ≡ true) [
      | true ↦ left_behind keep first others ordered
      | false ↦ left_in_order keep others (behind_first first others ordered)
    ]

-- the periods stay within their bounds
pub put_keeps_periods : (timer : Timer) (timers : List Timer) → is_period timer.period ≡ true → are_periods timers ≡ true → are_periods (put timer timers) ≡ true
put_keeps_periods timer [] period periods = grind (arith, period)
put_keeps_periods timer (other ∷ others) period periods =
    elim (comes_before timer other) as (λ b. are_periods (cond b (timer ∷ other ∷ others) (other ∷ put timer others)) ≡ true) [
      | true ↦ grind (arith, period, periods)
      | false ↦ grind (arith, periods, put_keeps_periods timer others period (grind (arith, periods)))
    ]

pub left_with_periods : (keep : Timer → Bool) (timers : List Timer) → are_periods timers ≡ true → are_periods (filter keep timers) ≡ true
left_with_periods keep [] periods = refl
left_with_periods keep (first ∷ others) periods =
    elim (keep first) as (λ b. are_periods (cond b (first ∷ filter keep others) (filter keep others)) ≡ true) [
      | true ↦ grind (arith, periods, left_with_periods keep others (grind (arith, periods)))
      | false ↦ left_with_periods keep others (grind (arith, periods))
    ]

pub periods_behind : (first : Timer) (others : List Timer) → are_periods (first ∷ others) ≡ true → are_periods others ≡ true
periods_behind first others periods = grind (arith, periods)

-- the period of the first timer is within its bounds
pub first_period : (first : Timer) (others : List Timer) → are_periods (first ∷ others) ≡ true → is_period first.period ≡ true
first_period first others periods = grind (arith, periods)

-- a timer that fired is put back in order
pub again_keeps_order : (now : ℕ) (timer : Timer) (period : Option ℕ) (others : List Timer) → are_in_order others ≡ true → are_in_order (again now timer period others) ≡ true
again_keeps_order now timer None others ordered = ordered
again_keeps_order now timer (Some period) others ordered = put_keeps_order (record timer { due = next_due timer.due period now }) others ordered

pub again_keeps_periods : (now : ℕ) (timer : Timer) (period : Option ℕ) (others : List Timer) → is_period timer.period ≡ true → are_periods others ≡ true → are_periods (again now timer period others) ≡ true
again_keeps_periods now timer None others period periods = periods
again_keeps_periods now timer (Some length) others period periods = put_keeps_periods (record timer { due = next_due timer.due length now }) others period periods

-- where the first timer is not due, none is
pub all_behind : (now : ℕ) (first : Timer) (others : List Timer) → are_in_order (first ∷ others) ≡ true → now < first.due → All (λ (timer : Timer). now < timer.due) (first ∷ others)
all_behind now first others ordered later zero d less = later
all_behind now first [] ordered later (suc k) d less = absurd (omega (arith, less))
all_behind now first (second ∷ others) ordered later (suc k) d less =
    all_behind now second others (behind_first first (second ∷ others) ordered) (grind (arith, ordered, later)) k d (omega (arith, less))
