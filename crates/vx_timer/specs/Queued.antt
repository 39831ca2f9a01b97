-- Timers as items of a list, and how they are found by their ids.
use Rattle.std.specs.Prelude.{◌≡◌, ℕ, ◌<◌, ◌≤◌, nat_eq, if◌then◌else◌, List, [], ◌∷◌, ◌++◌, length, map, slice_index_or, Bool, true, false, Option, None, Some}
use Rattle.std.specs.Map.{lookup}
use Rattle.vx_items.specs.declared.store.ItemId.{ItemId}
use Rattle.vx_items.specs.declared.store.ListId.{ListId}
use Rattle.vx_items.specs.Items.{Entry, first_id, number_of}
use Rattle.vx_items.specs.Lists.{count}
use Rattle.vx_timer.specs.declared.timers.Timer.{Timer}
use Rattle.vx_timer.specs.Order.{put, are_in_order, are_periods}

-- the timers in order, each with its item's number, and for how many more there is room
pub record Queued : Type 0 where
  pub entries : List (Entry Timer)
  pub room : ℕ

abbrev pub timers_in : List (Entry Timer) → List Timer
timers_in entries = map (λ (entry : Entry Timer). entry.value) entries

-- there is no list yet, or one, which has all
abbrev pub IsListed : Option ListId → List (List (Entry Timer)) → Type 0
IsListed None lists = lists ≡ []
IsListed (Some list) lists = (list.0 < length lists) × (length lists ≡ 1)

abbrev pub entries_of : Option ListId → List (List (Entry Timer)) → List (Entry Timer)
entries_of None lists = []
entries_of (Some list) lists = slice_index_or lists list.0 []

-- the room of the list, if there is one
abbrev pub room_of : Option ListId → ℕ → ℕ
room_of None room = 0
room_of (Some list) room = room

-- where a timer comes among others in order: right before the item, or last
pub record Gap (entries : List (Entry Timer)) (timer : Timer) (before : Option ℕ) : Type 0 where
  pub front : List (Entry Timer)
  pub back : List (Entry Timer)
  pub is : entries ≡ front ++ back
  pub first : before ≡ first_id back
  pub timers : put timer (timers_in entries) ≡ timers_in front ++ timer ∷ timers_in back

-- one timer more stands among the others, in order
pub record Puts (old new : List (Entry Timer)) (entry : Entry Timer) : Type 0 where
  pub front : List (Entry Timer)
  pub back : List (Entry Timer)
  pub was : old ≡ front ++ back
  pub is : new ≡ front ++ entry ∷ back
  pub timers : timers_in new ≡ put entry.value (timers_in old)

-- the timer is the first one
pub record IsFirst (entries : List (Entry Timer)) (item : ℕ) (timer : Timer) : Type 0 where
  pub rest : List (Entry Timer)
  pub is : entries ≡ record { id = item; value = timer } ∷ rest

-- ## By their ids

abbrev pub ids_in : List (Entry Timer) → List ℕ
ids_in entries = map (λ (entry : Entry Timer). entry.value.id.0) entries

-- the number of the item of the first timer of the id
abbrev pub item_named : ℕ → List (Entry Timer) → Option ℕ
item_named id [] = None
item_named id (entry ∷ entries) = if nat_eq id entry.value.id.0 then Some entry.id else item_named id entries

-- the item of an id
abbrev pub item_at : ℕ → List (ℕ × ItemId) → Option ItemId
item_at id names = lookup (nat_eq id) names

-- no two timers have the same id, and each is found by its own
pub record AreNamed (entries : List (Entry Timer)) (names : List (ℕ × ItemId)) : Type 0 where
  pub named : (id : ℕ) → number_of (item_at id names) ≡ item_named id entries
  pub once : (id : ℕ) → count id (ids_in entries) ≤ 1

-- timers in order, where each is found by its id as long as no two have had the same one
pub record AreKept (entries : List (Entry Timer)) (names : List (ℕ × ItemId)) (repeated : Bool) : Type 0 where
  pub ordered : are_in_order (timers_in entries) ≡ true
  pub periods : are_periods (timers_in entries) ≡ true
  pub named : repeated ≡ false → AreNamed entries names
