-- Lanes: of each, the queues whose tasks may be taken from it now, in the order of their first tasks.
use Rattle.std.specs.Prelude.{◌≡◌, ℕ, ◌<◌, ◌≤◌, Bool, true, false, not, ◌==◌, ◌&&◌, List, [], ◌∷◌, length, slice_index_or, slice_set, ◌++◌, Option, Some, None, is_some, if◌then◌else◌}
use Rattle.vx_items.specs.Lists.{count}
use Rattle.vx_items.specs.Lists as items
use Rattle.vx_items.specs.Rings.{Rings}
use Rattle.vx_queues.specs.declared.queues.Waiting.{Waiting}
use Rattle.vx_queues.specs.declared.queues.Queue.{Queue}
use Rattle.vx_queues.specs.Order.{before}

-- in place of a queue that is not there
abbrev pub absent : Queue
absent = record { lane = 0; busy = true }

abbrev pub queue_at : List Queue → ℕ → Queue
queue_at queues k = slice_index_or queues k absent

abbrev pub first_of : List Waiting → Option Waiting
first_of [] = None
first_of (item ∷ items) = Some item

-- the first task of a queue
abbrev pub head_in : List (List Waiting) → ℕ → Option Waiting
head_in lists k = first_of (slice_index_or lists k [])

-- whether the tasks of the queue may be taken from the lane now
abbrev pub takes_from : Queue → ℕ → Bool
takes_from queue lane = (queue.lane == lane) && not queue.busy

abbrev pub is_ready : List Queue → ℕ → Waiting → Bool
is_ready queues lane item = takes_from (queue_at queues item.queue) lane

abbrev pub queue_of : Option Waiting → Option ℕ
queue_of None = None
queue_of (Some item) = Some item.queue

-- whether the queue stands in its lane: it is not busy, and has a task
abbrev pub stands_in : List Queue → List (List Waiting) → ℕ → Bool
stands_in queues lists k = not (queue_at queues k).busy && is_some (head_in lists k)

-- how often the queue stands in the lane's list
abbrev pub standing : Queue → ℕ → Option Waiting → ℕ
standing queue lane None = 0
standing queue lane (Some item) = if takes_from queue lane then 1 else 0

abbrev pub HeadBefore : Option Waiting → Option Waiting → Type 0
HeadBefore None b = ⊥
HeadBefore (Some a) None = ⊥
HeadBefore (Some a) (Some b) = before a b ≡ true

abbrev pub AllHeads : (ℕ → Option Waiting) → ℕ → List ℕ → Type 0
AllHeads head k [] = Unit {0}
AllHeads head k (j ∷ js) = HeadBefore (head k) (head j) × AllHeads head k js

abbrev pub HeadsInOrder : (ℕ → Option Waiting) → List ℕ → Type 0
HeadsInOrder head [] = Unit {0}
HeadsInOrder head (k ∷ ks) = AllHeads head k ks × HeadsInOrder head ks

-- each lane has its queues, in order
pub record Laned (queue : ℕ → Queue) (head : ℕ → Option Waiting) (lists : List (List ℕ)) : Type 0 where
  pub counts : (k lane : ℕ) → count k (slice_index_or lists lane []) ≡ standing (queue k) lane (head k)
  pub ordered : (lane : ℕ) → HeadsInOrder head (slice_index_or lists lane [])

pub record IsLaned (queues : List Queue) (lists : List (List Waiting)) (lanes : Rings) : Type 0 where
  pub places : length queues ≤ lanes.places
  pub there : (k : ℕ) → k < length queues → (queue_at queues k).lane < length lanes.lists
  pub laned : Laned (queue_at queues) (head_in lists) lanes.lists

-- the queues, where this one counts as busy, or as free
abbrev pub as_busy : ℕ → List Queue → List Queue
as_busy k queues = slice_set queues k (record { lane = (queue_at queues k).lane; busy = true })

abbrev pub as_free : ℕ → List Queue → List Queue
as_free k queues = slice_set queues k (record { lane = (queue_at queues k).lane; busy = false })

-- the first of these queues has its first task behind
abbrev pub BeginsBehind : (ℕ → Option Waiting) → Option Waiting → List ℕ → Type 0
BeginsBehind head x [] = Unit {0}
BeginsBehind head x (j ∷ js) = HeadBefore x (head j)

-- where a queue comes back: behind those whose first tasks come before its own
pub record Gap (head : ℕ → Option Waiting) (ks : List ℕ) (k : ℕ) (other : Option ℕ) : Type 0 where
  pub front : List ℕ
  pub back : List ℕ
  pub is : ks ≡ front ++ back
  pub next : other ≡ items.first_of back
  pub earlier : (j : ℕ) → 0 < count j front → HeadBefore (head j) (head k)
  pub later : BeginsBehind head (head k) back
