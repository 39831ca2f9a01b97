-- Tasks are left out of one queue.
use Rattle.std.proofs.Common.{◌≡◌, ◌≢◌, refl, sym, ◌∙◌, ap, subst, ℕ, zero, suc, ◌≤◌, ◌<◌, Bool, true, false, not, ◌&&◌, List, [], ◌∷◌, ◌++◌, length, filter, get_or, set, cond, Option, Some, None, IsSome, arith, append-nil, ⊎_elim}
use Rattle.std.proofs.lemmas.List.{append_assoc, map-append, get_or-set_same, get_or-set_other, set-set, set-get_or, map-set, length-map}
use Rattle.std.proofs.lemmas.List.Elements.{filter-append}
use Rattle.std.proofs.lemmas.Bool.Decides.{nat_tests}
use Rattle.vx_items.specs.Items.{Entry, first_id, item_count, value_at}
use Rattle.vx_items.specs.Rings.{Rings}
use Rattle.vx_items.proofs.Entries.{value_at_some}
use Rattle.vx_queues.specs.declared.queues.Waiting.{Waiting}
use Rattle.vx_queues.specs.declared.queues.Queue.{Queue}
use Rattle.vx_queues.specs.Order.{is_of, IsSplit}
use Rattle.vx_queues.specs.Stores.{values, all_values}
use Rattle.vx_queues.specs.Lanes.{queue_at, first_of, head_in, standing, IsLaned, as_busy, absent}
use Rattle.vx_queues.proofs.Merging.{same_or_not}
use Rattle.vx_queues.proofs.Lining.{laned_quiet}
use Rattle.vx_queues.proofs.Laning.{busy_nowhere, order_filter}
use Rattle.vx_queues.proofs.Splits.{KeptAs, values_at}

abbrev pub Entries : Type 0
Entries = List (Entry Waiting)

abbrev pub entry_of : ℕ → Waiting → Entry Waiting
entry_of item task = record { id = item; value = task }

pub values-append : (front back : Entries) → values (front ++ back) ≡ values front ++ values back
values-append front back = map-append (λ (entry : Entry Waiting). entry.value) front back

pub length-le-count : (lists : List Entries) (n : ℕ) → length (get_or lists n []) ≤ item_count lists
length-le-count [] n = omega arith
length-le-count (l ∷ ls) zero = omega arith
length-le-count (l ∷ ls) (suc n) = omega (arith, length-le-count ls n)

-- ## The sweep through a queue

-- what the sweep has passed is left without those that are left out, and what is still to come is at most as many as there
-- are steps; the other queues are as they were
pub record Sweep (old now : List Entries) (k : ℕ) (left_out : Waiting → Bool) (next : Option ℕ) (steps : ℕ) : Type 0 where
  pub passed : Entries
  pub kept : Entries
  pub rest : Entries
  pub was : get_or old k [] ≡ passed ++ rest
  pub is : now ≡ set old k (kept ++ rest)
  pub kept_is : values kept ≡ filter (λ task. not (left_out task)) (values passed)
  pub first : next ≡ first_id rest
  pub short : length rest ≤ steps

pub sweep_start : (old : List Entries) (k : ℕ) (left_out : Waiting → Bool) (next : Option ℕ) (steps : ℕ) → next ≡ first_id (get_or old k []) → length (get_or old k []) ≤ steps → Sweep old old k left_out next steps
sweep_start old k left_out next steps first short =
    record { passed = []; kept = []; rest = get_or old k []; was = refl; is = sym (set-get_or old k []); kept_is = refl; first = first; short = short }

-- the item that the sweep has come to
record Comes (entries : Entries) (item : ℕ) : Type 0 where
  pub task : Waiting
  pub others : Entries
  pub is : entries ≡ entry_of item task ∷ others

comes : (entries : Entries) (item : ℕ) → Some item ≡ first_id entries → Comes entries item
comes [] item first = absurd (cc)
comes (e ∷ es) item first = let same : item ≡ e.id = cc in record { task = e.value; others = es; is = ap (λ (i : ℕ). entry_of i e.value ∷ es) (sym same) }

-- what one step of the sweep goes past
record Passes (old now : List Entries) (k item : ℕ) (passed kept rest : Entries) (found : Waiting) : Type 0 where
  pub others : Entries
  pub rest_is : rest ≡ entry_of item found ∷ others
  pub was : get_or old k [] ≡ (passed ++ entry_of item found ∷ []) ++ others
  pub is : get_or now k [] ≡ kept ++ entry_of item found ∷ others

passes : (old now : List Entries) (k item : ℕ) (passed kept rest : Entries) (found : Waiting) → k < length old → get_or old k [] ≡ passed ++ rest → now ≡ set old k (kept ++ rest) → Some item ≡ first_id rest →
    ((list : ℕ) (before after : Entries) (t : Waiting) → get_or now list [] ≡ before ++ entry_of item t ∷ after → found ≡ t) → Passes old now k item passed kept rest found
passes old now k item passed kept rest found within was is first read =
    let next = comes rest item first in
    let now_is : get_or now k [] ≡ kept ++ entry_of item next.task ∷ next.others =
    ap (λ (ls : List Entries). get_or ls k []) is ∙ get_or-set_same old k (kept ++ rest) [] within ∙ ap (λ (es : Entries). kept ++ es) next.is in
    let same : found ≡ next.task = read k kept next.others next.task now_is in
    let P : Waiting → Type 0 = λ t. Passes old now k item passed kept rest t in
    subst P (sym same) (record {
      others = next.others;
      rest_is = next.is;
      was = was ∙ ap (λ (es : Entries). passed ++ es) next.is ∙ sym (append_assoc passed (entry_of item next.task ∷ []) next.others);
      is = now_is;
    })

abbrev stays : (Waiting → Bool) → Waiting → Bool
stays left_out task = not (left_out task)

pub sweep_keep : (old now : List Entries) (k : ℕ) (left_out : Waiting → Bool) (next then : Option ℕ) (steps less item : ℕ) (found : Waiting) → k < length old → Sweep old now k left_out next steps → next ≡ Some item →
    ((list : ℕ) (before after : Entries) (t : Waiting) → get_or now list [] ≡ before ++ entry_of item t ∷ after → found ≡ t) → left_out found ≡ false →
    ((list : ℕ) (before after : Entries) (t : Waiting) → get_or now list [] ≡ before ++ entry_of item t ∷ after → then ≡ first_id after) → steps ≡ suc less → Sweep old now k left_out then less
sweep_keep old now k left_out next then steps less item found within sweep at read other then_is fuel =
    let here = passes old now k item sweep.passed sweep.kept sweep.rest found within sweep.was sweep.is (sym at ∙ sweep.first) read in
    let e : Entry Waiting = entry_of item found in
    let p : Waiting → Bool = stays left_out in
    record {
      passed = sweep.passed ++ e ∷ [];
      kept = sweep.kept ++ e ∷ [];
      rest = here.others;
      was = here.was;
      is = sweep.is ∙ ap (λ (es : Entries). set old k (sweep.kept ++ es)) here.rest_is ∙ ap (set old k) (sym (append_assoc sweep.kept (e ∷ []) here.others));
      kept_is = values-append sweep.kept (e ∷ []) ∙ ap (λ ts. ts ++ found ∷ []) sweep.kept_is
          ∙ ap (λ b. filter p (values sweep.passed) ++ cond (not b) (found ∷ []) []) (sym other)
          ∙ sym (filter-append p (values sweep.passed) (found ∷ [])) ∙ sym (ap (filter p) (values-append sweep.passed (e ∷ [])));
      first = then_is k sweep.kept here.others found here.is;
      short = let a = sweep.short in let b = ap (λ (es : Entries). length es) here.rest_is in omega (arith, a, b, fuel);
    }

pub sweep_drop : (old now now' : List Entries) (k : ℕ) (left_out : Waiting → Bool) (next then : Option ℕ) (steps less item : ℕ) (found : Waiting) → k < length old → Sweep old now k left_out next steps → next ≡ Some item →
    ((list : ℕ) (before after : Entries) (t : Waiting) → get_or now list [] ≡ before ++ entry_of item t ∷ after → found ≡ t) → left_out found ≡ true →
    ((list : ℕ) (before after : Entries) (t : Waiting) → get_or now list [] ≡ before ++ entry_of item t ∷ after → then ≡ first_id after) →
    ((list : ℕ) (before after : Entries) (t : Waiting) → get_or now list [] ≡ before ++ entry_of item t ∷ after → now' ≡ set now list (before ++ after)) → steps ≡ suc less → Sweep old now' k left_out then less
sweep_drop old now now' k left_out next then steps less item found within sweep at read out then_is removed fuel =
    let here = passes old now k item sweep.passed sweep.kept sweep.rest found within sweep.was sweep.is (sym at ∙ sweep.first) read in
    let e : Entry Waiting = entry_of item found in
    let p : Waiting → Bool = stays left_out in
    record {
      passed = sweep.passed ++ e ∷ [];
      kept = sweep.kept;
      rest = here.others;
      was = here.was;
      is = removed k sweep.kept here.others found here.is ∙ ap (λ (ls : List Entries). set ls k (sweep.kept ++ here.others)) sweep.is ∙ set-set old k (sweep.kept ++ sweep.rest) (sweep.kept ++ here.others);
      kept_is = sweep.kept_is ∙ sym (append-nil (filter p (values sweep.passed)))
          ∙ ap (λ b. filter p (values sweep.passed) ++ cond (not b) (found ∷ []) []) (sym out)
          ∙ sym (filter-append p (values sweep.passed) (found ∷ [])) ∙ sym (ap (filter p) (values-append sweep.passed (e ∷ [])));
      first = then_is k sweep.kept here.others found here.is;
      short = let a = sweep.short in let b = ap (λ (es : Entries). length es) here.rest_is in omega (arith, a, b, fuel);
    }

-- the item that the sweep has come to is there
pub sweep_there : (old now : List Entries) (k : ℕ) (left_out : Waiting → Bool) (next : Option ℕ) (steps item : ℕ) → k < length old → Sweep old now k left_out next steps → next ≡ Some item → IsSome (value_at now item)
sweep_there old now k left_out next steps item within sweep at =
    let here = comes sweep.rest item (sym at ∙ sweep.first) in
    let is : get_or now k [] ≡ sweep.kept ++ entry_of item here.task ∷ here.others =
    ap (λ (ls : List Entries). get_or ls k []) sweep.is ∙ get_or-set_same old k (sweep.kept ++ sweep.rest) [] within ∙ ap (λ (es : Entries). sweep.kept ++ es) here.is in
    value_at_some (entry_of item here.task) now k sweep.kept here.others is

nothing_first : (entries : Entries) → None ≡ first_id entries → entries ≡ []
nothing_first [] first = refl
nothing_first (e ∷ es) first = absurd (cc)

nothing_short : (entries : Entries) → length entries ≤ 0 → entries ≡ []
nothing_short [] short = refl
nothing_short (e ∷ es) short = absurd (omega (arith, short))

swept : (old now : List Entries) (k : ℕ) (left_out : Waiting → Bool) (next : Option ℕ) (steps : ℕ) (sweep : Sweep old now k left_out next steps) → sweep.rest ≡ [] →
    all_values now ≡ set (all_values old) k (filter (stays left_out) (values (get_or old k [])))
swept old now k left_out next steps sweep none =
    ap all_values (sweep.is ∙ ap (λ (es : Entries). set old k (sweep.kept ++ es)) none)
    ∙ map-set values old k (sweep.kept ++ [])
    ∙ ap (λ (es : Entries). set (all_values old) k (values es)) (append-nil sweep.kept)
    ∙ ap (set (all_values old) k) (sweep.kept_is ∙ ap (λ (es : Entries). filter (stays left_out) (values es)) (sym (append-nil sweep.passed) ∙ ap (λ (es : Entries). sweep.passed ++ es) (sym none) ∙ sym sweep.was))

pub sweep_none : (old now : List Entries) (k : ℕ) (left_out : Waiting → Bool) (next : Option ℕ) (steps : ℕ) → Sweep old now k left_out next steps → next ≡ None →
    all_values now ≡ set (all_values old) k (filter (stays left_out) (values (get_or old k [])))
sweep_none old now k left_out next steps sweep none = swept old now k left_out next steps sweep (nothing_first sweep.rest (sym none ∙ sweep.first))

pub sweep_spent : (old now : List Entries) (k : ℕ) (left_out : Waiting → Bool) (next : Option ℕ) (steps : ℕ) → Sweep old now k left_out next steps → steps ≡ 0 →
    all_values now ≡ set (all_values old) k (filter (stays left_out) (values (get_or old k [])))
sweep_spent old now k left_out next steps sweep spent = swept old now k left_out next steps sweep (nothing_short sweep.rest (let a = sweep.short in omega (arith, a, spent)))

-- ## The tasks of all queues

keep_own_step : (b c : Bool) (p : Waiting → Bool) (k : ℕ) (w : Waiting) (ws : List Waiting) → is_of k w ≡ b → p w ≡ c →
    filter (is_of k) (filter (λ x. not (is_of k x && p x)) ws) ≡ filter (λ x. not (p x)) (filter (is_of k) ws) →
    filter (is_of k) (cond (not (b && c)) (w ∷ filter (λ x. not (is_of k x && p x)) ws) (filter (λ x. not (is_of k x && p x)) ws)) ≡ filter (λ x. not (p x)) (cond b (w ∷ filter (is_of k) ws) (filter (is_of k) ws))
keep_own_step true true p k w ws is out rest = rw out rest
keep_own_step true false p k w ws is out rest = rw (is, out) (ap (λ xs. w ∷ xs) rest)
keep_own_step false c p k w ws is out rest = rw is rest

keep_own : (p : Waiting → Bool) (k : ℕ) (ws : List Waiting) → filter (is_of k) (filter (λ x. not (is_of k x && p x)) ws) ≡ filter (λ x. not (p x)) (filter (is_of k) ws)
keep_own p k [] = refl
keep_own p k (w ∷ ws) = keep_own_step (is_of k w) (p w) p k w ws refl refl (keep_own p k ws)

keep_other_step : (b c d : Bool) (p : Waiting → Bool) (k j : ℕ) (w : Waiting) (ws : List Waiting) → is_of k w ≡ b → is_of j w ≡ d → j ≢ k →
    filter (is_of j) (filter (λ x. not (is_of k x && p x)) ws) ≡ filter (is_of j) ws →
    filter (is_of j) (cond (not (b && c)) (w ∷ filter (λ x. not (is_of k x && p x)) ws) (filter (λ x. not (is_of k x && p x)) ws)) ≡ cond d (w ∷ filter (is_of j) ws) (filter (is_of j) ws)
keep_other_step true c true p k j w ws is js apart rest = absurd (apart (grind (arith, nat_tests, is, js)))
keep_other_step true true false p k j w ws is js apart rest = rest
keep_other_step true false false p k j w ws is js apart rest = rw js rest
keep_other_step false c true p k j w ws is js apart rest = rw js (ap (λ xs. w ∷ xs) rest)
keep_other_step false c false p k j w ws is js apart rest = rw js rest

keep_other : (p : Waiting → Bool) (k j : ℕ) (ws : List Waiting) → j ≢ k → filter (is_of j) (filter (λ x. not (is_of k x && p x)) ws) ≡ filter (is_of j) ws
keep_other p k j [] apart = refl
keep_other p k j (w ∷ ws) apart = keep_other_step (is_of k w) (p w) (is_of j w) p k j w ws refl refl apart (keep_other p k j ws apart)

split_keep : (lists : List (List Waiting)) (ws : List Waiting) (k : ℕ) (p : Waiting → Bool) → IsSplit lists ws → k < length lists →
    IsSplit (set lists k (filter (λ x. not (p x)) (get_or lists k []))) (filter (λ x. not (is_of k x && p x)) ws)
split_keep lists ws k p split within =
    let left : List Waiting = filter (λ x. not (is_of k x && p x)) ws in
    record {
      in_order = order_filter (λ x. not (is_of k x && p x)) ws split.in_order;
      parts = λ j. ⊎_elim
          (λ (same : j ≡ k).
          let P : ℕ → Type 0 = λ i. get_or (set lists k (filter (λ x. not (p x)) (get_or lists k []))) i [] ≡ filter (is_of i) left in
          subst P (sym same) (get_or-set_same lists k _ [] within ∙ ap (filter (λ x. not (p x))) (split.parts k) ∙ sym (keep_own p k ws)))
          (λ (apart : j ≢ k). get_or-set_other lists k j _ [] apart ∙ split.parts j ∙ sym (keep_other p k j ws apart))
          (same_or_not j k);
    }

pub kept_left : (queues : List Queue) (lists lists' : List Entries) (ws : List Waiting) (k : ℕ) (p : Waiting → Bool) → KeptAs queues lists ws → k < length queues → length lists' ≡ length lists →
    all_values lists' ≡ set (all_values lists) k (filter (λ x. not (p x)) (values (get_or lists k []))) → KeptAs queues lists' (filter (λ x. not (is_of k x && p x)) ws)
kept_left queues lists lists' ws k p kept within len is =
    let S : List (List Waiting) → Type 0 = λ ls. IsSplit ls (filter (λ x. not (is_of k x && p x)) ws) in
    let in_lists : k < length (all_values lists) = let a = length-map lists values in let b = kept.one_each in omega (arith, a, b, within) in
    record {
      one_each = len ∙ kept.one_each;
      split = subst S (ap (λ xs. set (all_values lists) k (filter (λ x. not (p x)) xs)) (values_at lists k) ∙ sym is) (split_keep (all_values lists) ws k p kept.split in_lists);
    }

-- the lanes stay where the queue stands aside
pub laned_left : (queues : List Queue) (lists : List (List Waiting)) (lanes : Rings) (k : ℕ) (tasks : List Waiting) → IsLaned (as_busy k queues) lists lanes → k < length queues → IsLaned (as_busy k queues) (set lists k tasks) lanes
laned_left queues lists lanes k tasks laned within =
    let all : List Queue = as_busy k queues in
    let own = (queue_at queues k).lane in
    let here : queue_at all k ≡ record { lane = own; busy = true } = get_or-set_same queues k _ absent within in
    let none : (o : Option Waiting) (lane : ℕ) → standing (queue_at all k) lane o ≡ 0 = λ o lane. ap (λ c. standing c lane o) here ∙ busy_nowhere own lane o in
    record {
      places = laned.places;
      there = laned.there;
      laned = laned_quiet (queue_at all) (queue_at all) (head_in lists) (head_in (set lists k tasks)) lanes.lists k laned.laned (λ j apart. refl)
          (λ j apart. ap first_of (get_or-set_other lists k j tasks [] apart)) (λ lane. none (head_in lists k) lane) (λ lane. none (head_in (set lists k tasks) k) lane);
    }
