-- Timers in order as items of a list, and how they are found by their ids.
use Rattle.std.proofs.Common.{◌≡◌, refl, sym, ◌∙◌, ap, subst, ℕ, zero, suc, ◌≤◌, ◌<◌, Bool, true, false, not, List, [], ◌∷◌, ◌++◌, length, cond, get_or, set, ◌||◌, Option, Some, None, IsSome, filter, arith, append-nil, length-append}
use Rattle.std.specs.List.{list_any}
use Rattle.std.proofs.lemmas.List.{append_assoc, map-append, get_or-set_same}
use Rattle.std.proofs.lemmas.List.Elements.{filter-append}
use Rattle.std.proofs.lemmas.List.Folds.{list_any-append}
use Rattle.vx_data.specs.declared.ids.EntryNo.{EntryNo}
use Rattle.vx_items.specs.declared.store.ListId.{ListId}
use Rattle.vx_items.specs.Items.{Entry, first_id, last_id, item_count, value_in, value_at, StandsIn}
use Rattle.vx_items.specs.Lists.{one}
use Rattle.vx_items.proofs.Entries.{in_some, value_at_some}
use Rattle.vx_timer.specs.declared.timers.Timer.{Timer}
use Rattle.vx_timer.specs.Order.{comes_before, put, are_in_order, is_named}
use Rattle.vx_timer.specs.Queued.{timers_in, IsListed, entries_of, Gap, Puts, IsFirst}
use Rattle.vx_timer.proofs.Orders.{put_past, put_first}

abbrev pub Entries : Type 0
Entries = List (Entry Timer)

abbrev pub entry_of : ℕ → Timer → Entry Timer
entry_of item timer = record { id = item; value = timer }

pub timers_in-append : (front back : Entries) → timers_in (front ++ back) ≡ timers_in front ++ timers_in back
timers_in-append front back = map-append (λ (entry : Entry Timer). entry.value) front back

-- ## The one list

only_list : (lists : List Entries) (n : ℕ) → n < length lists → length lists ≡ 1 → lists ≡ get_or lists n [] ∷ []
only_list [] n within one = absurd (omega (arith, one))
only_list (l ∷ []) zero within one = refl
only_list (l ∷ []) (suc n) within one = absurd (omega (arith, within))
only_list (l ∷ m ∷ ms) n within one = absurd (omega (arith, one))

pub listed_count : (list : Option ListId) (lists : List Entries) → IsListed list lists → item_count lists ≡ length (entries_of list lists)
listed_count None lists listed = ap item_count listed
listed_count (Some list) lists listed = ap item_count (only_list lists list.0 listed.0 listed.1) ∙ omega arith

pub length-le-count : (lists : List Entries) (n : ℕ) → length (get_or lists n []) ≤ item_count lists
length-le-count [] n = omega arith
length-le-count (l ∷ ls) zero = omega arith
length-le-count (l ∷ ls) (suc n) = omega (arith, length-le-count ls n)

-- ## Where a timer comes

-- a list whose last item is this one
record LastSplit (entries : Entries) (item : ℕ) : Type 0 where
  pub before : Entries
  pub timer : Timer
  pub is : entries ≡ before ++ entry_of item timer ∷ []

split_last : (entries : Entries) (item : ℕ) → Some item ≡ last_id entries → LastSplit entries item
split_last [] item last = absurd (cc)
split_last (e ∷ []) item last = let same : item ≡ e.id = cc in record { before = []; timer = e.value; is = ap (λ (i : ℕ). entry_of i e.value ∷ []) (sym same) }
split_last (e ∷ f ∷ fs) item last = let rest = split_last (f ∷ fs) item last in record { before = e ∷ rest.before; timer = rest.timer; is = ap (λ (es : Entries). e ∷ es) rest.is }

-- the timer comes before those that the walk has passed, and what stands before them is at most as many steps
pub record Walk (entries : Entries) (timer : Timer) (earlier later : Option ℕ) (steps : ℕ) : Type 0 where
  pub front : Entries
  pub back : Entries
  pub is : entries ≡ front ++ back
  pub last : earlier ≡ last_id front
  pub first : later ≡ first_id back
  pub behind : put timer (timers_in back) ≡ timer ∷ timers_in back
  pub short : length front ≤ steps

pub walk_start : (entries : Entries) (timer : Timer) (earlier : Option ℕ) (steps : ℕ) → earlier ≡ last_id entries → length entries ≤ steps → Walk entries timer earlier None steps
walk_start entries timer earlier steps last short =
    record { front = entries; back = []; is = sym (append-nil entries); last = last; first = refl; behind = refl; short = short }

gap_before_all : (entries : Entries) (timer : Timer) (later : Option ℕ) (front back : Entries) → entries ≡ front ++ back → later ≡ first_id back → put timer (timers_in back) ≡ timer ∷ timers_in back → front ≡ [] →
    Gap entries timer later
gap_before_all entries timer later front back is first behind none =
    let all : entries ≡ back = is ∙ ap (λ (es : Entries). es ++ back) none in
    record { front = []; back = back; is = all; first = first; timers = ap (λ (es : Entries). put timer (timers_in es)) all ∙ behind }

no_last : (entries : Entries) → None ≡ last_id entries → entries ≡ []
no_last [] last = refl
no_last (e ∷ []) last = absurd (cc)
no_last (e ∷ f ∷ fs) last = let rest = no_last (f ∷ fs) last in absurd (cc)

pub walk_none : (entries : Entries) (timer : Timer) (earlier later : Option ℕ) (steps : ℕ) → Walk entries timer earlier later steps → earlier ≡ None → Gap entries timer later
walk_none entries timer earlier later steps walk none =
    gap_before_all entries timer later walk.front walk.back walk.is walk.first walk.behind (no_last walk.front (sym none ∙ walk.last))

-- what stands before the item that the walk has come to, and what stands behind it
record Reached (entries : Entries) (item : ℕ) (front back : Entries) : Type 0 where
  pub before : Entries
  pub timer : Timer
  pub front_is : front ≡ before ++ entry_of item timer ∷ []
  pub is : entries ≡ before ++ entry_of item timer ∷ back

reached : (entries : Entries) (item : ℕ) (front back : Entries) → entries ≡ front ++ back → Some item ≡ last_id front → Reached entries item front back
reached entries item front back is last =
    let split = split_last front item last in
    record { before = split.before; timer = split.timer; front_is = split.is; is = is ∙ ap (λ (es : Entries). es ++ back) split.is ∙ append_assoc split.before (entry_of item split.timer ∷ []) back }

pub walk_stop : (entries : Entries) (timer : Timer) (earlier later : Option ℕ) (steps item : ℕ) (found : Timer) → are_in_order (timers_in entries) ≡ true → Walk entries timer earlier later steps → earlier ≡ Some item →
    ((before after : Entries) (t : Timer) → entries ≡ before ++ entry_of item t ∷ after → found ≡ t) → comes_before timer found ≡ false → Gap entries timer later
walk_stop entries timer earlier later steps item found ordered walk at read past =
    let here = reached entries item walk.front walk.back walk.is (sym at ∙ walk.last) in
    let same : found ≡ here.timer = read here.before walk.back here.timer here.is in
    let parts : timers_in entries ≡ timers_in here.before ++ here.timer ∷ timers_in walk.back = ap timers_in here.is ∙ timers_in-append here.before (entry_of item here.timer ∷ walk.back) in
    let O : List Timer → Type 0 = λ ts. are_in_order ts ≡ true in
    let P : Timer → Type 0 = λ t. comes_before timer t ≡ false in
    let front_timers : timers_in walk.front ≡ timers_in here.before ++ here.timer ∷ [] = ap timers_in here.front_is ∙ timers_in-append here.before (entry_of item here.timer ∷ []) in
    record {
      front = walk.front;
      back = walk.back;
      is = walk.is;
      first = walk.first;
      timers = ap (put timer) parts
          ∙ put_past timer here.timer (timers_in here.before) (timers_in walk.back) (subst O parts ordered) (subst P same past)
          ∙ ap (λ ts. timers_in here.before ++ here.timer ∷ ts) walk.behind
          ∙ sym (append_assoc (timers_in here.before) (here.timer ∷ []) (timer ∷ timers_in walk.back))
          ∙ sym (ap (λ ts. ts ++ timer ∷ timers_in walk.back) front_timers);
    }

pub walk_on : (entries : Entries) (timer : Timer) (earlier later prev : Option ℕ) (steps less item : ℕ) (found : Timer) → Walk entries timer earlier later steps → earlier ≡ Some item →
    ((before after : Entries) (t : Timer) → entries ≡ before ++ entry_of item t ∷ after → found ≡ t) → comes_before timer found ≡ true →
    ((before after : Entries) (t : Timer) → entries ≡ before ++ entry_of item t ∷ after → prev ≡ last_id before) → steps ≡ suc less →
    Walk entries timer prev (Some item) less
walk_on entries timer earlier later prev steps less item found walk at read before_it prev_is fuel =
    let here = reached entries item walk.front walk.back walk.is (sym at ∙ walk.last) in
    let same : found ≡ here.timer = read here.before walk.back here.timer here.is in
    let P : Timer → Type 0 = λ t. comes_before timer t ≡ true in
    record {
      front = here.before;
      back = entry_of item here.timer ∷ walk.back;
      is = here.is;
      last = prev_is here.before walk.back here.timer here.is;
      first = refl;
      behind = put_first timer here.timer (timers_in walk.back) (subst P same before_it);
      short = let a = walk.short in let b = ap (λ (es : Entries). length es) here.front_is in let d = length-append here.before (entry_of item here.timer ∷ []) in omega (arith, a, b, d, fuel);
    }

-- the item before which a timer is put stands in the list
stands_step : (entries front back : Entries) (before : Option ℕ) → entries ≡ front ++ back → before ≡ first_id back → StandsIn before entries
stands_step entries front [] before is first = let S : Option ℕ → Type 0 = λ o. StandsIn o entries in subst S (sym first) tt
stands_step entries front (b ∷ bs) before is first =
    let S : Option ℕ → Type 0 = λ o. StandsIn o entries in
    let V : Entries → Type 0 = λ es. IsSome (value_in es b.id) in
    subst S (sym first) (subst V (sym is) (in_some b front bs))

pub gap_stands : (entries : Entries) (timer : Timer) (before : Option ℕ) → Gap entries timer before → StandsIn before entries
gap_stands entries timer before gap = stands_step entries gap.front gap.back before gap.is gap.first

pub puts_at : (lists lists' : List Entries) (n item : ℕ) (timer : Timer) (before : Option ℕ) → n < length lists → Gap (get_or lists n []) timer before →
    ((front back : Entries) → get_or lists n [] ≡ front ++ back → before ≡ first_id back → lists' ≡ set lists n (front ++ entry_of item timer ∷ back)) →
    Puts (get_or lists n []) (get_or lists' n []) (entry_of item timer)
puts_at lists lists' n item timer before within gap placed =
    let is : get_or lists' n [] ≡ gap.front ++ entry_of item timer ∷ gap.back = ap (λ (ls : List Entries). get_or ls n []) (placed gap.front gap.back gap.is gap.first) ∙ get_or-set_same lists n (gap.front ++ entry_of item timer ∷ gap.back) [] within in
    record {
      front = gap.front;
      back = gap.back;
      was = gap.is;
      is = is;
      timers = ap timers_in is ∙ timers_in-append gap.front (entry_of item timer ∷ gap.back) ∙ sym gap.timers;
    }

-- ## The timers of an id are taken out

-- what the sweep has passed is left without the timers of the id, and what is still to come is at most as many steps
pub record Sweep (old now : Entries) (id : EntryNo) (rest : Option ℕ) (found : Bool) (steps : ℕ) : Type 0 where
  pub passed : Entries
  pub kept : Entries
  pub left : Entries
  pub was : old ≡ passed ++ left
  pub is : now ≡ kept ++ left
  pub kept_is : timers_in kept ≡ filter (λ timer. not (is_named id timer)) (timers_in passed)
  pub first : rest ≡ first_id left
  pub found_is : found ≡ list_any (is_named id) (timers_in passed)
  pub short : length left ≤ steps

pub sweep_start : (old : Entries) (id : EntryNo) (rest : Option ℕ) (steps : ℕ) → rest ≡ first_id old → length old ≤ steps → Sweep old old id rest false steps
sweep_start old id rest steps first short =
    record { passed = []; kept = []; left = old; was = refl; is = refl; kept_is = refl; first = first; found_is = refl; short = short }

pub no_first : (entries : Entries) → None ≡ first_id entries → entries ≡ []
no_first [] first = refl
no_first (e ∷ es) first = absurd (cc)

-- the item that the sweep has come to
pub record Comes (entries : Entries) (item : ℕ) : Type 0 where
  pub timer : Timer
  pub others : Entries
  pub is : entries ≡ entry_of item timer ∷ others

comes : (entries : Entries) (item : ℕ) → Some item ≡ first_id entries → Comes entries item
comes [] item first = absurd (cc)
comes (e ∷ es) item first = let same : item ≡ e.id = cc in record { timer = e.value; others = es; is = ap (λ (i : ℕ). entry_of i e.value ∷ es) (sym same) }

or_false : (b : Bool) → (b || false) ≡ b
or_false true = refl
or_false false = refl

or_true : (b : Bool) → (b || true) ≡ true
or_true true = refl
or_true false = refl

-- what one step of the sweep goes past
record Passes (old now : Entries) (item : ℕ) (passed kept left : Entries) (found : Timer) : Type 0 where
  pub others : Entries
  pub left_is : left ≡ entry_of item found ∷ others
  pub was : old ≡ (passed ++ entry_of item found ∷ []) ++ others
  pub is : now ≡ kept ++ entry_of item found ∷ others

passes : (old now : Entries) (item : ℕ) (passed kept left : Entries) (found : Timer) → old ≡ passed ++ left → now ≡ kept ++ left → Some item ≡ first_id left →
    ((before after : Entries) (t : Timer) → now ≡ before ++ entry_of item t ∷ after → found ≡ t) → Passes old now item passed kept left found
passes old now item passed kept left found was is first read =
    let next = comes left item first in
    let now_is : now ≡ kept ++ entry_of item next.timer ∷ next.others = is ∙ ap (λ (es : Entries). kept ++ es) next.is in
    let same : found ≡ next.timer = read kept next.others next.timer now_is in
    let P : Timer → Type 0 = λ t. Passes old now item passed kept left t in
    subst P (sym same) (record {
      others = next.others;
      left_is = next.is;
      was = was ∙ ap (λ (es : Entries). passed ++ es) next.is ∙ sym (append_assoc passed (entry_of item next.timer ∷ []) next.others);
      is = now_is;
    })

pub sweep_keep : (old now : Entries) (id : EntryNo) (rest next : Option ℕ) (some : Bool) (steps less item : ℕ) (found : Timer) → Sweep old now id rest some steps → rest ≡ Some item →
    ((before after : Entries) (t : Timer) → now ≡ before ++ entry_of item t ∷ after → found ≡ t) → is_named id found ≡ false →
    ((before after : Entries) (t : Timer) → now ≡ before ++ entry_of item t ∷ after → next ≡ first_id after) → steps ≡ suc less → Sweep old now id next some less
sweep_keep old now id rest next some steps less item found sweep at read other next_is fuel =
    let here = passes old now item sweep.passed sweep.kept sweep.left found sweep.was sweep.is (sym at ∙ sweep.first) read in
    let e : Entry Timer = entry_of item found in
    let p : Timer → Bool = λ timer. not (is_named id timer) in
    record {
      passed = sweep.passed ++ e ∷ [];
      kept = sweep.kept ++ e ∷ [];
      left = here.others;
      was = here.was;
      is = here.is ∙ sym (append_assoc sweep.kept (e ∷ []) here.others);
      kept_is = timers_in-append sweep.kept (e ∷ []) ∙ ap (λ ts. ts ++ found ∷ []) sweep.kept_is
          ∙ ap (λ b. filter p (timers_in sweep.passed) ++ cond (not b) (found ∷ []) []) (sym other)
          ∙ sym (filter-append p (timers_in sweep.passed) (found ∷ [])) ∙ sym (ap (filter p) (timers_in-append sweep.passed (e ∷ [])));
      first = next_is sweep.kept here.others found here.is;
      found_is = sweep.found_is ∙ sym (or_false (list_any (is_named id) (timers_in sweep.passed)))
          ∙ ap (λ b. list_any (is_named id) (timers_in sweep.passed) || (b || false)) (sym other)
          ∙ sym (list_any-append (is_named id) (timers_in sweep.passed) (found ∷ [])) ∙ sym (ap (list_any (is_named id)) (timers_in-append sweep.passed (e ∷ [])));
      short = let a = sweep.short in let b = ap (λ (es : Entries). length es) here.left_is in omega (arith, a, b, fuel);
    }

pub sweep_drop : (old now now' : Entries) (id : EntryNo) (rest next : Option ℕ) (some : Bool) (steps less item : ℕ) (found : Timer) → Sweep old now id rest some steps → rest ≡ Some item →
    ((before after : Entries) (t : Timer) → now ≡ before ++ entry_of item t ∷ after → found ≡ t) → is_named id found ≡ true →
    ((before after : Entries) (t : Timer) → now ≡ before ++ entry_of item t ∷ after → next ≡ first_id after) →
    ((before after : Entries) (t : Timer) → now ≡ before ++ entry_of item t ∷ after → now' ≡ before ++ after) → steps ≡ suc less → Sweep old now' id next true less
sweep_drop old now now' id rest next some steps less item found sweep at read same next_is removed fuel =
    let here = passes old now item sweep.passed sweep.kept sweep.left found sweep.was sweep.is (sym at ∙ sweep.first) read in
    let e : Entry Timer = entry_of item found in
    let p : Timer → Bool = λ timer. not (is_named id timer) in
    record {
      passed = sweep.passed ++ e ∷ [];
      kept = sweep.kept;
      left = here.others;
      was = here.was;
      is = removed sweep.kept here.others found here.is;
      kept_is = sweep.kept_is ∙ sym (append-nil (filter p (timers_in sweep.passed)))
          ∙ ap (λ b. filter p (timers_in sweep.passed) ++ cond (not b) (found ∷ []) []) (sym same)
          ∙ sym (filter-append p (timers_in sweep.passed) (found ∷ [])) ∙ sym (ap (filter p) (timers_in-append sweep.passed (e ∷ [])));
      first = next_is sweep.kept here.others found here.is;
      found_is = sym (or_true (list_any (is_named id) (timers_in sweep.passed)))
          ∙ ap (λ b. list_any (is_named id) (timers_in sweep.passed) || (b || false)) (sym same)
          ∙ sym (list_any-append (is_named id) (timers_in sweep.passed) (found ∷ [])) ∙ sym (ap (list_any (is_named id)) (timers_in-append sweep.passed (e ∷ [])));
      short = let a = sweep.short in let b = ap (λ (es : Entries). length es) here.left_is in omega (arith, a, b, fuel);
    }

-- ## What a loop has come to is there

pub walk_there : (lists : List Entries) (n : ℕ) (timer : Timer) (earlier later : Option ℕ) (steps item : ℕ) → Walk (get_or lists n []) timer earlier later steps → earlier ≡ Some item → IsSome (value_at lists item)
walk_there lists n timer earlier later steps item walk at =
    let here = reached (get_or lists n []) item walk.front walk.back walk.is (sym at ∙ walk.last) in
    value_at_some (entry_of item here.timer) lists n here.before walk.back here.is

pub sweep_there : (old : Entries) (lists : List Entries) (n : ℕ) (id : EntryNo) (rest : Option ℕ) (found : Bool) (steps item : ℕ) → Sweep old (get_or lists n []) id rest found steps → rest ≡ Some item → IsSome (value_at lists item)
sweep_there old lists n id rest found steps item sweep at =
    let next = comes sweep.left item (sym at ∙ sweep.first) in
    value_at_some (entry_of item next.timer) lists n sweep.kept next.others (sweep.is ∙ ap (λ (es : Entries). sweep.kept ++ es) next.is)

-- ## Through the queue's list

none_split : (before : Entries) (e : Entry Timer) (after : Entries) → [] ≡ before ++ e ∷ after → ⊥
none_split [] e after is = cc
none_split (f ∷ fs) e after is = cc

pub removed_at : (list : Option ListId) (lists lists' : List Entries) (item : ℕ) (before after : Entries) (timer : Timer) → IsListed list lists →
    entries_of list lists ≡ before ++ entry_of item timer ∷ after →
    ((n : ℕ) (b a : Entries) (t : Timer) → get_or lists n [] ≡ b ++ entry_of item t ∷ a → lists' ≡ set lists n (b ++ a)) → entries_of list lists' ≡ before ++ after
removed_at None lists lists' item before after timer listed is removed = absurd (none_split before (entry_of item timer) after is)
removed_at (Some list) lists lists' item before after timer listed is removed =
    ap (λ (ls : List Entries). get_or ls list.0 []) (removed list.0 before after timer is) ∙ get_or-set_same lists list.0 (before ++ after) [] listed.0

pub first_at : (entries : Entries) (item : ℕ) (found : Timer) → Some item ≡ first_id entries →
    ((before after : Entries) (t : Timer) → entries ≡ before ++ entry_of item t ∷ after → found ≡ t) → IsFirst entries item found
first_at entries item found first read =
    let next = comes entries item first in
    let same = read [] next.others next.timer next.is in
    record { rest = next.others; is = next.is ∙ ap (λ (t : Timer). entry_of item t ∷ next.others) (sym same) }
