-- What contracts see of queues, however they are kept.
use Rattle.std.specs.Prelude.{◌≡◌, ℕ, Bool, true, false, List, [], ◌∷◌, length, map}
use Rattle.vx_items.specs.Items.{Entry}
use Rattle.vx_items.specs.Rings.{Rings}
use Rattle.vx_queues.specs.declared.queues.Waiting.{Waiting}
use Rattle.vx_queues.specs.declared.queues.Queue.{Queue}
use Rattle.vx_queues.specs.Order.{merged, IsSplit}
use Rattle.vx_queues.specs.Lanes.{IsLaned}

-- the queues in the order of making, how many lanes there are, the tasks that wait, and for how many more there is room
pub record QueueStore : Type 0 where
  pub queues : List Queue
  pub lanes : ℕ
  pub waiting : List Waiting
  pub room : ℕ

-- the values of a list, and of lists
abbrev pub values : List (Entry Waiting) → List Waiting
values entries = map (λ (e : Entry Waiting). e.value) entries

abbrev pub all_values : List (List (Entry Waiting)) → List (List Waiting)
all_values lists = map values lists

-- how it is kept: a list for each queue, and all of them together in order
pub record IsKept (queues : List Queue) (lists : List (List (Entry Waiting))) : Type 0 where
  pub one_each : length lists ≡ length queues
  pub split : IsSplit (all_values lists) (merged (all_values lists))

-- whether there is a first one, and the rest
abbrev pub has_some : List Waiting → Bool
has_some [] = false
has_some (item ∷ items) = true

abbrev pub tail : List Waiting → List Waiting
tail [] = []
tail (item ∷ items) = items

-- the lists of the queues, and those of the lanes
pub record IsOrdered (queues : List Queue) (lists : List (List (Entry Waiting))) (lanes : Rings) : Type 0 where
  pub kept : IsKept queues lists
  pub laned : IsLaned queues (all_values lists) lanes
