-- Timers by (due moment, id).
use Rattle.std.specs.Prelude.{◌≡◌, ℕ, ◌+◌, ◌-◌, ◌*◌, ◌/◌, ◌==◌, ◌≤◌, nat_lt, nat_le, Bool, true, not, ◌&&◌, ◌||◌, if◌then◌else◌, List, [], ◌∷◌, Option, None, Some}
use Rattle.std.specs.List.{list_all}
use Rattle.vx_data.specs.declared.ids.EntryNo.{EntryNo}
use Rattle.vx_timer.specs.declared.timers.Timer.{Timer}

-- whether the first is due before the second, or at the same moment and has the lesser id
abbrev pub comes_before : Timer → Timer → Bool
comes_before a b = nat_lt a.due b.due || ((a.due == b.due) && nat_lt a.id.0 b.id.0)

-- the timers with one more, which stands before the first that it comes before
abbrev pub put : Timer → List Timer → List Timer
put timer [] = timer ∷ []
put timer (other ∷ others) = if comes_before timer other then timer ∷ other ∷ others else other ∷ put timer others

-- whether none comes before the one that it stands behind
abbrev pub are_in_order : List Timer → Bool
are_in_order [] = true
are_in_order (timer ∷ []) = true
are_in_order (timer ∷ other ∷ others) = not (comes_before other timer) && are_in_order (other ∷ others)

-- the first moment past now among the due moment and its multiples of the period on
abbrev pub next_due : ℕ → ℕ → ℕ → ℕ
next_due due period now = due + ((now - due) / period + 1) * period

-- what stays of a timer that fired: a periodic one is due again past now
abbrev pub again : ℕ → Timer → Option ℕ → List Timer → List Timer
again now timer None others = others
again now timer (Some period) others = put (record timer { due = next_due timer.due period now }) others

-- a period is 1 to 1,000,000,000,000 ms
abbrev pub is_period : Option ℕ → Bool
is_period None = true
is_period (Some period) = nat_lt 0 period && nat_le period 1000000000000

abbrev pub are_periods : List Timer → Bool
are_periods timers = list_all (λ (timer : Timer). is_period timer.period) timers

abbrev pub is_named : EntryNo → Timer → Bool
is_named id timer = id.0 == timer.id.0

-- The first timer is due, and this is what fired and what stays.
pub record Fires (now : ℕ) (old new : List Timer) (due : ℕ) (id : EntryNo) : Type 0 where
  pub timer : Timer
  pub others : List Timer
  pub first : old ≡ timer ∷ others
  pub is_due : timer.due ≤ now
  pub due_at : timer.due ≡ due
  pub named : timer.id ≡ id
  pub stays : new ≡ again now timer timer.period others

-- the moment of the first timer
abbrev pub first_due : List Timer → Option ℕ
first_due [] = None
first_due (timer ∷ others) = Some timer.due
