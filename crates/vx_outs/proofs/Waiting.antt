-- Queues as lists of items.
use Rattle.std.proofs.Common.{◌≡◌, refl, sym, ◌∙◌, ap, ℕ, zero, suc, ◌+◌, ◌-◌, ◌<◌, List, [], ◌∷◌, ◌++◌, length, map, drop, get_or, set, slice_get, Some, arith, length-append}
use Rattle.std.proofs.lemmas.List.{map-set, map-append, length-map, get_or_default}
use Rattle.vx_message.specs.declared.frame.OutFrame.{OutFrame}
use Rattle.vx_items.specs.Items.{Entry, first_id}
use Rattle.vx_outs.specs.Queues.{frames_in, length_of}

abbrev pub Entries : Type 0
Entries = List (Entry OutFrame)

abbrev pub entry_of : ℕ → OutFrame → Entry OutFrame
entry_of item frame = record { id = item; value = frame }

-- what one queue of many has
pub queue_at : (lists : List Entries) (queue : ℕ) → get_or (map frames_in lists) queue [] ≡ frames_in (get_or lists queue [])
queue_at [] queue = refl
queue_at (list ∷ lists) zero = refl
queue_at (list ∷ lists) (suc queue) = queue_at lists queue

items_at : (lists : List Entries) (queue : ℕ) → get_or (map length_of lists) queue 0 ≡ length (get_or lists queue [])
items_at [] queue = refl
items_at (list ∷ lists) zero = refl
items_at (list ∷ lists) (suc queue) = items_at lists queue

frame_count : (entries : Entries) → length (frames_in entries) ≡ length entries
frame_count [] = refl
frame_count (entry ∷ entries) = omega (arith, frame_count entries)

-- how many frames it has
pub length_at : (lists : List Entries) (queue : ℕ) → get_or (map length_of lists) queue 0 ≡ length (get_or (map frames_in lists) queue [])
length_at lists queue = items_at lists queue ∙ sym (frame_count (get_or lists queue [])) ∙ sym (ap length (queue_at lists queue))

-- the lengths that are kept are those of the queues
module _ (lists : List Entries) (lengths : List ℕ) (kept : lengths ≡ map length_of lists) (queue : ℕ) (within : queue < length (map frames_in lists)) where
  pub read_length : (value : ℕ) → value ≡ get_or lengths queue value → value ≡ get_or (map length_of lists) queue 0
  read_length value read =
      let many : length (map frames_in lists) ≡ length lists = length-map _ _ in
      let as_many : length (map length_of lists) ≡ length lists = length-map _ _ in
      let same = ap length kept in
      read ∙ get_or_default lengths queue value 0 (omega (arith, within, many, as_many, same)) ∙ ap (λ ns. get_or ns queue 0) kept

-- ## A frame goes last

pub pushed : (lists : List Entries) (queue : ℕ) (entry : Entry OutFrame) →
    map frames_in (set lists queue (get_or lists queue [] ++ entry ∷ [])) ≡ set (map frames_in lists) queue (get_or (map frames_in lists) queue [] ++ entry.value ∷ [])
pushed lists queue entry =
    map-set frames_in lists queue (get_or lists queue [] ++ entry ∷ [])
    ∙ ap (set (map frames_in lists) queue) (map-append (λ (e : Entry OutFrame). e.value) (get_or lists queue []) (entry ∷ []) ∙ ap (λ frames. frames ++ entry.value ∷ []) (sym (queue_at lists queue)))

pub pushed_length : (lists : List Entries) (queue : ℕ) (entry : Entry OutFrame) →
    set (map length_of lists) queue (get_or (map length_of lists) queue 0 + 1) ≡ map length_of (set lists queue (get_or lists queue [] ++ entry ∷ []))
pushed_length lists queue entry =
    let longer : get_or (map length_of lists) queue 0 + 1 ≡ length (get_or lists queue [] ++ entry ∷ []) =
    omega (arith, items_at lists queue, length-append (get_or lists queue []) (entry ∷ [])) in
    ap (set (map length_of lists) queue) longer ∙ sym (map-set length_of lists queue (get_or lists queue [] ++ entry ∷ []))

-- ## The first frame goes

-- items whose first is this one
pub record HasFirst (entries : Entries) (item : ℕ) : Type 0 where
  pub frame : OutFrame
  pub rest : Entries
  pub is : entries ≡ entry_of item frame ∷ rest

pub first_there : (entries : Entries) (item : ℕ) → Some item ≡ first_id entries → HasFirst entries item
first_there [] item first = absurd (cc)
first_there (entry ∷ entries) item first =
    let same : item ≡ entry.id = cc in
    record { frame = entry.value; rest = entries; is = ap (λ (i : ℕ). entry_of i entry.value ∷ entries) (sym same) }

module _ (lists : List Entries) (queue item : ℕ) (first : HasFirst (get_or lists queue []) item) where
  here : get_or (map frames_in lists) queue [] ≡ first.frame ∷ frames_in first.rest
  here = queue_at lists queue ∙ ap frames_in first.is

  pub popped_first : Some first.frame ≡ slice_get (get_or (map frames_in lists) queue []) 0
  popped_first = sym (ap (λ frames. slice_get frames 0) here)

  pub popped_left : map frames_in (set lists queue first.rest) ≡ set (map frames_in lists) queue (drop 1 (get_or (map frames_in lists) queue []))
  popped_left = map-set frames_in lists queue first.rest ∙ ap (set (map frames_in lists) queue) (sym (ap (drop 1) here))

  longer : get_or (map length_of lists) queue 0 ≡ length first.rest + 1
  longer = let count = ap (λ (entries : Entries). length entries) first.is in omega (arith, items_at lists queue, count)

  pub popped_length : set (map length_of lists) queue (get_or (map length_of lists) queue 0 - 1) ≡ map length_of (set lists queue first.rest)
  popped_length =
      let shorter : get_or (map length_of lists) queue 0 - 1 ≡ length first.rest = omega (arith, longer) in
      ap (set (map length_of lists) queue) shorter ∙ sym (map-set length_of lists queue first.rest)
