-- What contracts see of a store: its lists, each as its items in order, and the room.
use Rattle.std.specs.Prelude.{◌≡◌, ◌≢◌, ℕ, ◌+◌, ◌<◌, ◌≤◌, List, [], ◌∷◌, length, map, Option, Some, None, IsSome, nat_eq, slice_index_or, if◌then◌else◌, refl}
use Rattle.std.specs.Coded.{Coded, code_by, coded×, coded_ℕ, coded_list}
use Rattle.vx_items.specs.declared.store.ItemId.{ItemId}
use Rattle.vx_items.specs.Lists.{count, total, total_len, first_of, last_of}
use Rattle.vx_items.specs.Rings.{Rings}

-- an item's number, and its value
pub record Entry (T : Type 0) : Type 0 where
  pub id : ℕ
  pub value : T

-- the lists, and for how many more items there is room
pub record Items (T : Type 0) : Type 0 where
  pub lists : List (List (Entry T))
  pub room : ℕ

abbrev pub entry_code : {T : Type 0} → Coded T → Coded (Entry T)
entry_code {T} code = code_by (ℕ × T) (coded× coded_ℕ code) (λ e. (e.id, e.value)) (λ p. record { id = p.0; value = p.1 }) (λ _. refl)

abbrev pub items_code : {T : Type 0} → Coded T → Coded (Items T)
items_code {T} code = code_by (List (List (Entry T)) × ℕ) (coded× (coded_list (coded_list (entry_code code))) coded_ℕ) (λ s. (s.lists, s.room)) (λ p. record { lists = p.0; room = p.1 }) (λ _. refl)

-- the item's number, if there is one
abbrev pub number_of : Option ItemId → Option ℕ
number_of None = None
number_of (Some item) = Some item.0

module _ {T : Type 0} where
  -- the value of an item in a list
  abbrev pub value_in : List (Entry T) → ℕ → Option T
  value_in [] x = None
  value_in (entry ∷ entries) x = if nat_eq x entry.id then Some entry.value else value_in entries x

  abbrev pub or_else : Option T → Option T → Option T
  or_else None other = other
  or_else (Some value) other = Some value

  -- the value of an item, if it is there
  abbrev pub value_at : List (List (Entry T)) → ℕ → Option T
  value_at [] x = None
  value_at (list ∷ lists) x = or_else (value_in list x) (value_at lists x)

  -- a list without an item
  abbrev pub leave_out : ℕ → List (Entry T) → List (Entry T)
  leave_out x [] = []
  leave_out x (entry ∷ entries) = if nat_eq x entry.id then leave_out x entries else entry ∷ leave_out x entries

  -- a list with an item right before another one, or at its end
  abbrev pub put_before : Option ℕ → Entry T → List (Entry T) → List (Entry T)
  put_before before item [] = item ∷ []
  put_before None item (entry ∷ entries) = entry ∷ put_before None item entries
  put_before (Some other) item (entry ∷ entries) = if nat_eq other entry.id then item ∷ entry ∷ entries else entry ∷ put_before (Some other) item entries

  -- the item stands in the list, if one is named
  abbrev pub StandsIn : Option ℕ → List (Entry T) → Type 0
  StandsIn None entries = Unit {0}
  StandsIn (Some item) entries = IsSome (value_in entries item)

  -- another item stands in the list, if one is named
  abbrev pub StandsBefore : ℕ → Option ℕ → List (Entry T) → Type 0
  StandsBefore item None entries = Unit {0}
  StandsBefore item (Some other) entries = (other ≢ item) × IsSome (value_in entries other)

  -- the items' numbers
  abbrev pub ids : List (Entry T) → List ℕ
  ids entries = map (λ (entry : Entry T). entry.id) entries

  -- how many items there are
  abbrev pub item_count : List (List (Entry T)) → ℕ
  item_count [] = 0
  item_count (list ∷ lists) = length list + item_count lists

  -- the first item of a list
  abbrev pub first_id : List (Entry T) → Option ℕ
  first_id entries = first_of (ids entries)

  -- the last item of a list
  abbrev pub last_id : List (Entry T) → Option ℕ
  last_id entries = last_of (ids entries)

  -- ## How the store keeps them

  abbrev pub entry_onto : ℕ → Option T → List (Entry T) → List (Entry T)
  entry_onto x None entries = entries
  entry_onto x (Some value) entries = record { id = x; value = value } ∷ entries

  -- the items of these numbers, with their values
  abbrev pub entries : List (Option T) → List ℕ → List (Entry T)
  entries values [] = []
  entries values (x ∷ xs) = entry_onto x (slice_index_or values x None) (entries values xs)

  abbrev pub occupied : Option T → ℕ
  occupied None = 0
  occupied (Some value) = 1

  -- each value stands in one list, and each place without one is free
  pub record IsStored (values : List (Option T)) (free : List ℕ) (capacity : ℕ) (links : Rings) : Type 0 where
    pub filled : (x : ℕ) → total x links.lists ≡ occupied (slice_index_or values x None)
    pub vacant : (x : ℕ) → 0 < count x free → total x links.lists ≡ 0
    pub once : (x : ℕ) → count x free ≤ 1
    pub within : (x : ℕ) → 0 < count x free → x < length values
    pub places : length values ≤ links.places
    pub len : total_len links.lists + length free ≡ length values
    pub capacity_fits : length values ≤ capacity
