-- Timers fire when they are due, and no more often. (Vert.x core manual, "Executing periodic and delayed actions",
-- "Cancelling timers". That at most one fire of a periodic timer waits is this project's own.)
use Rattle.std.specs.Prelude.{◌≡◌, ◌≤◌, ◌<◌, ◌+◌, ℕ, true, false, List, ◌++◌, length, filter, slice_get, take, Some}
use Rattle.vx_data.specs.declared.ids.TimerId.{TimerId}
use Rattle.vx_message.specs.declared.Lane.{Lane}
use Rattle.vx_call.specs.declared.call.Call.TheVariants as calls
use Rattle.vx_call.specs.declared.reply.Task.TheVariants as tasks
use Rattle.vx_call.specs.declared.history.Traced.{Traced}
use Rattle.vx_call.specs.History.{is_accepted}
use Rattle.vx_call.specs.Time.{now}
use Rattle.vx_call.specs.Timers.{Timer, timer_set, due_at}
use Rattle.vx_call.specs.Items.{Waiting, is_fire_of, waiting}
use Rattle.vx_laws.specs.Entries.{TakesAt}

-- Two Takes that hand out the fire of a timer that fires once are one entry.
abbrev pub FiresOnce : List Traced → Type 0
FiresOnce history =
    (i j : ℕ) (lane other_lane : Lane) (id : TimerId) (timer : Timer) → timer_set history id ≡ Some timer → timer.periodic ≡ false →
    TakesAt history i lane (tasks.Fire id) → TakesAt history j other_lane (tasks.Fire id) → i ≡ j

-- A Take hands out the fire of a timer only where its delay has passed since it was set.
abbrev pub FiresWhenDue : List Traced → Type 0
FiresWhenDue history =
    (i : ℕ) (lane : Lane) (id : TimerId) (timer : Timer) → timer_set history id ≡ Some timer → TakesAt history i lane (tasks.Fire id) →
    timer.set + timer.delay ≤ now (take i history)

-- Of two fires of a timer, the later one is taken only where the timer was due again since the earlier one was taken.
abbrev pub FiresAgainWhenDue : List Traced → Type 0
FiresAgainWhenDue history =
    (i j : ℕ) (lane other_lane : Lane) (id : TimerId) (timer : Timer) → timer_set history id ≡ Some timer →
    TakesAt history i lane (tasks.Fire id) → TakesAt history j other_lane (tasks.Fire id) → i < j → due_at (now (take i history)) timer ≤ now (take j history)

-- Behind a CancelTimer of a timer, no Take hands out its fire.
abbrev pub TakesNoneCancelled : List Traced → Type 0
TakesNoneCancelled history =
    (i j : ℕ) (lane : Lane) (id : TimerId) (entry : Traced) → slice_get history i ≡ Some entry → entry.entry.call ≡ calls.CancelTimer id →
    is_accepted entry.entry.reply ≡ true → TakesAt history j lane (tasks.Fire id) → j < i

-- At most one fire of a timer waits.
abbrev pub OneFireWaits : List Traced → Type 0
OneFireWaits history =
    (before after : List Traced) (id : TimerId) → history ≡ before ++ after → length (filter (λ (item : Waiting). is_fire_of id item.task) (waiting before)) ≤ 1

-- Timers fire in time: what is said above, together.
pub record FiresInTime (history : List Traced) : Type 0 where
  pub once : FiresOnce history
  pub when_due : FiresWhenDue history
  pub again : FiresAgainWhenDue history
  pub cancelled : TakesNoneCancelled history
  pub one_waits : OneFireWaits history
