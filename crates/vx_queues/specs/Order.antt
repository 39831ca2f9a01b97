-- Tasks that wait, by (entry, place).
use Rattle.std.specs.Prelude.{◌≡◌, ℕ, Bool, true, ◌==◌, ◌&&◌, ◌||◌, nat_lt, List, [], ◌∷◌, ◌++◌, filter, slice_index_or, if◌then◌else◌}
use Rattle.vx_queues.specs.declared.queues.Waiting.{Waiting}

-- whether the first comes before the second
abbrev pub before : Waiting → Waiting → Bool
before a b = nat_lt a.task.entry.0 b.task.entry.0 || ((a.task.entry.0 == b.task.entry.0) && nat_lt a.task.place b.task.place)

abbrev pub is_of : ℕ → Waiting → Bool
is_of queue item = queue == item.queue

-- ## The tasks of several lists as one list in order

abbrev pub put : Waiting → List Waiting → List Waiting
put item [] = item ∷ []
put item (other ∷ others) = if before item other then item ∷ other ∷ others else other ∷ put item others

abbrev pub sorted : List Waiting → List Waiting
sorted [] = []
sorted (item ∷ items) = put item (sorted items)

abbrev pub flat : List (List Waiting) → List Waiting
flat [] = []
flat (list ∷ lists) = list ++ flat lists

abbrev pub merged : List (List Waiting) → List Waiting
merged lists = sorted (flat lists)

-- ## Order

abbrev pub AllAfter : Waiting → List Waiting → Type 0
AllAfter item [] = Unit {0}
AllAfter item (other ∷ others) = (before item other ≡ true) × AllAfter item others

abbrev pub InOrder : List Waiting → Type 0
InOrder [] = Unit {0}
InOrder (item ∷ items) = AllAfter item items × InOrder items

-- the item comes after all of them
abbrev pub AllBefore : List Waiting → Waiting → Type 0
AllBefore [] item = Unit {0}
AllBefore (other ∷ others) item = (before other item ≡ true) × AllBefore others item

-- the items without the first of the queue
abbrev pub drop_first : ℕ → List Waiting → List Waiting
drop_first queue [] = []
drop_first queue (item ∷ items) = if is_of queue item then items else item ∷ drop_first queue items

-- the lists are those of the queues, and the items are all of theirs in order
pub record IsSplit (lists : List (List Waiting)) (items : List Waiting) : Type 0 where
  pub in_order : InOrder items
  pub parts : (queue : ℕ) → slice_index_or lists queue [] ≡ filter (is_of queue) items
