-- How the timers of a queue are found by their ids.
use Rattle.std.proofs.Common.{◌≡◌, refl, sym, ◌∙◌, ap, subst, ℕ, ◌+◌, ◌≤◌, Bool, true, false, not, List, [], ◌∷◌, ◌++◌, cond, nat_eq, Option, Some, None, is_some, filter, arith, ⊎_elim}
use Rattle.std.specs.List.{list_any}
use Rattle.std.proofs.lemmas.List.{map-append}
use Rattle.std.proofs.lemmas.Bool.{cases_Bool}
use Rattle.std.proofs.lemmas.Bool.Decides.{nat_tests}
use Rattle.vx_data.specs.declared.ids.EntryNo.{EntryNo}
use Rattle.vx_items.specs.declared.store.ItemId.{ItemId}
use Rattle.vx_items.specs.Items.{Entry, number_of}
use Rattle.vx_items.specs.Lists.{one, count}
use Rattle.vx_items.proofs.Counts.{one_same, count-append}
use Rattle.vx_timer.specs.declared.timers.Timer.{Timer}
use Rattle.vx_timer.specs.Order.{is_named, is_period, are_in_order, are_periods}
use Rattle.vx_timer.specs.Queued.{timers_in, Puts, IsFirst, ids_in, item_named, item_at, AreNamed, AreKept}
use Rattle.vx_timer.proofs.Orders.{put_keeps_order, put_keeps_periods, left_in_order, left_with_periods}
use Rattle.vx_timer.proofs.Queues.{Entries, entry_of}

count-ids : (id : ℕ) (front back : Entries) → count id (ids_in (front ++ back)) ≡ count id (ids_in front) + count id (ids_in back)
count-ids id front back = ap (count id) (map-append (λ (entry : Entry Timer). entry.value.id.0) front back) ∙ count-append id (ids_in front) (ids_in back)

-- ## Whether an id is there

pub not_named : (id : ℕ) (es : Entries) → count id (ids_in es) ≡ 0 → item_named id es ≡ None
not_named id [] none = refl
not_named id (e ∷ es) none =
    let other : nat_eq id e.value.id.0 ≡ false = grind (arith, nat_tests, none) in
    rw other (not_named id es (omega (arith, none)))

none_step : (b : Bool) (item n : ℕ) (rest : Option ℕ) → cond b (Some item) rest ≡ None → (rest ≡ None → n ≡ 0) → cond b 1 0 + n ≡ 0
none_step true item n rest is later = absurd (cc)
none_step false item n rest is later = let none = later is in omega (arith, none)

pub none_named : (id : ℕ) (es : Entries) → item_named id es ≡ None → count id (ids_in es) ≡ 0
none_named id [] is = refl
none_named id (e ∷ es) is = none_step (nat_eq id e.value.id.0) e.id (count id (ids_in es)) (item_named id es) is (none_named id es)

between_step : (b c : Bool) (v x y z : Option ℕ) → (b ≡ true → c ≡ false) → z ≡ cond c x y → cond b v z ≡ cond c x (cond b v y)
between_step true true v x y z apart is = absurd (let e = apart refl in cc)
between_step true false v x y z apart is = refl
between_step false c v x y z apart is = is

named_between : (id : ℕ) (front back : Entries) (e : Entry Timer) → count e.value.id.0 (ids_in (front ++ back)) ≡ 0 →
    item_named id (front ++ e ∷ back) ≡ cond (nat_eq id e.value.id.0) (Some e.id) (item_named id (front ++ back))
named_between id [] back e none = refl
named_between id (f ∷ fs) back e none =
    between_step (nat_eq id f.value.id.0) (nat_eq id e.value.id.0) (Some f.id) (Some e.id) (item_named id (fs ++ back)) (item_named id (fs ++ e ∷ back))
    (λ same. grind (arith, nat_tests, none, same))
    (named_between id fs back e (omega (arith, none)))

-- ## A timer more

pub put_ordered : (old new : Entries) (entry : Entry Timer) → Puts old new entry → are_in_order (timers_in old) ≡ true → are_in_order (timers_in new) ≡ true
put_ordered old new entry puts ordered =
    let Ordered : List Timer → Type 0 = λ timers. are_in_order timers ≡ true in
    subst Ordered (sym puts.timers) (put_keeps_order entry.value (timers_in old) ordered)

pub put_periods : (old new : Entries) (entry : Entry Timer) → Puts old new entry → is_period entry.value.period ≡ true → are_periods (timers_in old) ≡ true → are_periods (timers_in new) ≡ true
put_periods old new entry puts period periods =
    let Periods : List Timer → Type 0 = λ timers. are_periods timers ≡ true in
    subst Periods (sym puts.timers) (put_keeps_periods entry.value (timers_in old) period periods)

number_step : (b : Bool) (item : ItemId) (n : ℕ) (o : Option ItemId) (p : Option ℕ) → item.0 ≡ n → (b ≡ false → number_of o ≡ p) → number_of (cond b (Some item) o) ≡ cond b (Some n) p
number_step true item n o p same rest = ap Some same
number_step false item n o p same rest = rest refl

once_step : (b : Bool) (x id n m : ℕ) → nat_eq x id ≡ b → (x ≡ id → n ≡ 0) → n ≤ 1 → m ≡ cond b 1 0 + n → m ≤ 1
once_step true x id n m is none few more = let z = none (grind (arith, nat_tests, is)) in omega (arith, z, more)
once_step false x id n m is none few more = omega (arith, few, more)

pub named_put : (old new : Entries) (entry : Entry Timer) (names names' : List (ℕ × ItemId)) (item : ItemId) → item.0 ≡ entry.id → Puts old new entry →
    count entry.value.id.0 (ids_in old) ≡ 0 → ((x : ℕ) → count x (ids_in old) ≤ 1) →
    ((x : ℕ) → nat_eq x entry.value.id.0 ≡ false → number_of (item_at x names) ≡ item_named x old) →
    ((x : ℕ) → item_at x names' ≡ cond (nat_eq x entry.value.id.0) (Some item) (item_at x names)) → AreNamed new names'
named_put old new entry names names' item same puts none few named noted =
    let N : Entries → Type 0 = λ es. count entry.value.id.0 (ids_in es) ≡ 0 in
    let none' = subst N puts.was none in
    record {
      named = λ x. ap number_of (noted x)
          ∙ number_step (nat_eq x entry.value.id.0) item entry.id (item_at x names) (item_named x old) same (named x)
          ∙ ap (λ (es : Entries). cond (nat_eq x entry.value.id.0) (Some entry.id) (item_named x es)) puts.was
          ∙ sym (named_between x puts.front puts.back entry none')
          ∙ sym (ap (item_named x) puts.is);
      once = λ x.
          let a = ap (λ (es : Entries). count x (ids_in es)) puts.is in
          let b = count-ids x puts.front (entry ∷ puts.back) in
          let d = ap (λ (es : Entries). count x (ids_in es)) puts.was in
          let e = count-ids x puts.front puts.back in
          once_step (nat_eq x entry.value.id.0) x entry.value.id.0 (count x (ids_in old)) (count x (ids_in new)) refl
          (λ (is : x ≡ entry.value.id.0). let c = ap (λ y. count y (ids_in old)) is in omega (arith, c, none))
          (few x) (omega (arith, a, b, d, e));
    }

no_item : (o : Option ItemId) → is_some o ≡ false → number_of o ≡ None
no_item None none = refl
no_item (Some item) none = absurd (cc)

some_item : (o : Option ItemId) (n : ℕ) → number_of o ≡ Some n → is_some o ≡ true
some_item None n is = absurd (cc)
some_item (Some item) n is = refl

-- a timer is set whose id has none
pub named_set : (old new : Entries) (entry : Entry Timer) (names names' : List (ℕ × ItemId)) (item : ItemId) → item.0 ≡ entry.id → Puts old new entry → AreNamed old names →
    is_some (item_at entry.value.id.0 names) ≡ false → ((x : ℕ) → item_at x names' ≡ cond (nat_eq x entry.value.id.0) (Some item) (item_at x names)) → AreNamed new names'
named_set old new entry names names' item same puts are none noted =
    named_put old new entry names names' item same puts
    (none_named entry.value.id.0 old (sym (are.named entry.value.id.0) ∙ no_item (item_at entry.value.id.0 names) none)) are.once (λ x _. are.named x) noted

-- the first timer is put among the others again
pub named_again : (old new : Entries) (first : ℕ) (timer again : Timer) (names names' : List (ℕ × ItemId)) (item : ItemId) → again.id.0 ≡ timer.id.0 → Puts old new (entry_of item.0 again) →
    AreNamed (entry_of first timer ∷ old) names →
    (is_some (item_at timer.id.0 names) ≡ true → (x : ℕ) → item_at x names' ≡ cond (nat_eq x timer.id.0) (Some item) (item_at x names)) → AreNamed new names'
named_again old new first timer again names names' item same_id puts are noted =
    let none : count timer.id.0 (ids_in old) ≡ 0 = let a = are.once timer.id.0 in omega (arith, a, one_same timer.id.0) in
    let here : nat_eq timer.id.0 timer.id.0 ≡ true = grind (arith, nat_tests) in
    let found : number_of (item_at timer.id.0 names) ≡ Some first = are.named timer.id.0 ∙ ap (λ b. cond b (Some first) (item_named timer.id.0 old)) here in
    let written = noted (some_item (item_at timer.id.0 names) first found) in
    let C : ℕ → Type 0 = λ id. count id (ids_in old) ≡ 0 in
    let W : ℕ → Type 0 = λ id. (x : ℕ) → item_at x names' ≡ cond (nat_eq x id) (Some item) (item_at x names) in
    let N : ℕ → Type 0 = λ id. (x : ℕ) → nat_eq x id ≡ false → number_of (item_at x names) ≡ item_named x old in
    named_put old new (entry_of item.0 again) names names' item refl puts (subst C (sym same_id) none)
    (λ x. let a = are.once x in omega (arith, a))
    (subst N (sym same_id) (λ x other. are.named x ∙ ap (λ b. cond b (Some first) (item_named x old)) other))
    (subst W (sym same_id) written)

forgotten_step : (b : Bool) (o : Option ItemId) (p : Option ℕ) → (b ≡ true → p ≡ None) → (b ≡ false → number_of o ≡ p) → number_of (cond b None o) ≡ p
forgotten_step true o p none rest = sym (none refl)
forgotten_step false o p none rest = rest refl

-- an id is forgotten that has no timer any more
pub named_without : (es : Entries) (id : ℕ) (names names' : List (ℕ × ItemId)) → count id (ids_in es) ≡ 0 → ((x : ℕ) → count x (ids_in es) ≤ 1) →
    ((x : ℕ) → nat_eq x id ≡ false → number_of (item_at x names) ≡ item_named x es) → ((x : ℕ) → item_at x names' ≡ cond (nat_eq x id) None (item_at x names)) → AreNamed es names'
named_without es id names names' none few named forgotten =
    record {
      named = λ x. ap number_of (forgotten x)
          ∙ forgotten_step (nat_eq x id) (item_at x names) (item_named x es)
          (λ same. not_named x es (let is : x ≡ id = grind (arith, nat_tests, same) in let c = ap (λ y. count y (ids_in es)) is in omega (arith, c, none)))
          (named x);
      once = few;
    }

-- the first timer goes
pub named_rest : (first : ℕ) (timer : Timer) (rest : Entries) (names names' : List (ℕ × ItemId)) → AreNamed (entry_of first timer ∷ rest) names →
    ((x : ℕ) → item_at x names' ≡ cond (nat_eq x timer.id.0) None (item_at x names)) → AreNamed rest names'
named_rest first timer rest names names' are forgotten =
    named_without rest timer.id.0 names names' (let a = are.once timer.id.0 in omega (arith, a, one_same timer.id.0)) (λ x. let a = are.once x in omega (arith, a))
    (λ x other. are.named x ∙ ap (λ b. cond b (Some first) (item_named x rest)) other) forgotten

-- ## A timer is taken out by its id

keep_step : (b : Bool) (timer : Timer) (kept rest : List Timer) → b ≡ false → kept ≡ rest → cond (not b) (timer ∷ kept) kept ≡ timer ∷ rest
keep_step true timer kept rest other same = absurd (cc)
keep_step false timer kept rest other same = ap (λ ts. timer ∷ ts) same

pub keeps_all : (id : EntryNo) (es : Entries) → count id.0 (ids_in es) ≡ 0 → filter (λ timer. not (is_named id timer)) (timers_in es) ≡ timers_in es
keeps_all id [] none = refl
keeps_all id (e ∷ es) none =
    keep_step (is_named id e.value) e.value (filter (λ timer. not (is_named id timer)) (timers_in es)) (timers_in es) (grind (arith, nat_tests, none)) (keeps_all id es (omega (arith, none)))

pub none_found : (id : EntryNo) (es : Entries) → count id.0 (ids_in es) ≡ 0 → list_any (is_named id) (timers_in es) ≡ false
none_found id [] none = refl
none_found id (e ∷ es) none =
    let other : is_named id e.value ≡ false = grind (arith, nat_tests, none) in
    rw other (none_found id es (omega (arith, none)))

-- where the timer of an item stands, and what is left without it
pub record Cancelled (id : EntryNo) (item : ℕ) (es : Entries) : Type 0 where
  pub before : Entries
  pub after : Entries
  pub timer : Timer
  pub is : es ≡ before ++ entry_of item timer ∷ after
  pub left : filter (λ t. not (is_named id t)) (timers_in es) ≡ timers_in (before ++ after)
  pub found : list_any (is_named id) (timers_in es) ≡ true
  pub named : (x : ℕ) → nat_eq x id.0 ≡ false → item_named x (before ++ after) ≡ item_named x es
  pub gone : count id.0 (ids_in (before ++ after)) ≡ 0
  pub fewer : (x : ℕ) → count x (ids_in (before ++ after)) ≤ count x (ids_in es)

cancelled_here : (id : EntryNo) (item : ℕ) (e : Entry Timer) (es : Entries) → nat_eq id.0 e.value.id.0 ≡ true → e.id ≡ item → count id.0 (ids_in (e ∷ es)) ≤ 1 → Cancelled id item (e ∷ es)
cancelled_here id item e es same at once =
    let none : count id.0 (ids_in es) ≡ 0 = let o : one id.0 e.value.id.0 ≡ 1 = grind (arith, nat_tests, same) in omega (arith, o, once) in
    let named : is_named id e.value ≡ true = grind (arith, nat_tests, same) in
    record {
      before = [];
      after = es;
      timer = e.value;
      is = ap (λ (i : ℕ). entry_of i e.value ∷ es) at;
      left = ap (λ b. cond (not b) (e.value ∷ filter (λ t. not (is_named id t)) (timers_in es)) (filter (λ t. not (is_named id t)) (timers_in es))) named ∙ keeps_all id es none;
      found = rw named;
      named = λ x other. sym (ap (λ b. cond b (Some e.id) (item_named x es)) (let o : nat_eq x e.value.id.0 ≡ false = grind (arith, nat_tests, same, other) in o));
      gone = none;
      fewer = λ x. omega arith;
    }

cancelled_later : (id : EntryNo) (item : ℕ) (e : Entry Timer) (es : Entries) → nat_eq id.0 e.value.id.0 ≡ false → Cancelled id item es → Cancelled id item (e ∷ es)
cancelled_later id item e es other rest =
    let not_this : is_named id e.value ≡ false = grind (arith, nat_tests, other) in
    let none : one id.0 e.value.id.0 ≡ 0 = grind (arith, nat_tests, other) in
    record {
      before = e ∷ rest.before;
      after = rest.after;
      timer = rest.timer;
      is = ap (λ (fs : Entries). e ∷ fs) rest.is;
      left = keep_step (is_named id e.value) e.value (filter (λ t. not (is_named id t)) (timers_in es)) (timers_in (rest.before ++ rest.after)) not_this rest.left;
      found = rw not_this rest.found;
      named = λ x apart. ap (cond (nat_eq x e.value.id.0) (Some e.id)) (rest.named x apart);
      gone = let g = rest.gone in omega (arith, g, none);
      fewer = λ x. let f = rest.fewer x in omega (arith, f);
    }

pub cancelled : (id : EntryNo) (item : ℕ) (es : Entries) → item_named id.0 es ≡ Some item → count id.0 (ids_in es) ≤ 1 → Cancelled id item es
cancelled id item [] is once = absurd (cc)
cancelled id item (e ∷ es) is once =
    ⊎_elim
    (λ (same : nat_eq id.0 e.value.id.0 ≡ true).
    let at : Some e.id ≡ Some item = sym (ap (λ b. cond b (Some e.id) (item_named id.0 es)) same) ∙ is in
    cancelled_here id item e es same (cc) once)
    (λ (other : nat_eq id.0 e.value.id.0 ≡ false).
    cancelled_later id item e es other
    (cancelled id item es (sym (ap (λ b. cond b (Some e.id) (item_named id.0 es)) other) ∙ is) (omega (arith, once))))
    (cases_Bool (nat_eq id.0 e.value.id.0))

pub named_cancelled : (id : EntryNo) (item : ℕ) (es left : Entries) (names names' : List (ℕ × ItemId)) (c : Cancelled id item es) → left ≡ c.before ++ c.after → AreNamed es names →
    ((x : ℕ) → item_at x names' ≡ cond (nat_eq x id.0) None (item_at x names)) → AreNamed left names'
named_cancelled id item es left names names' c is are forgotten =
    let A : Entries → Type 0 = λ fs. AreNamed fs names' in
    subst A (sym is) (named_without (c.before ++ c.after) id.0 names names' c.gone (λ x. let a = c.fewer x in let b = are.once x in omega (arith, a, b))
    (λ x other. are.named x ∙ sym (c.named x other)) forgotten)

pub found_named : (id : EntryNo) (item : ItemId) (es : Entries) (names : List (ℕ × ItemId)) → AreNamed es names → Some item ≡ item_at id.0 names → Cancelled id item.0 es
found_named id item es names are is = cancelled id item.0 es (sym (are.named id.0) ∙ sym (ap number_of is)) (are.once id.0)

pub none_there : (id : EntryNo) (es : Entries) (names : List (ℕ × ItemId)) → AreNamed es names → None ≡ item_at id.0 names → count id.0 (ids_in es) ≡ 0
none_there id es names are is = none_named id.0 es (sym (are.named id.0) ∙ sym (ap number_of is))

pub kept_without : (id : EntryNo) (es left : Entries) (names names' : List (ℕ × ItemId)) (repeated : Bool) → AreKept es names repeated → timers_in left ≡ filter (λ timer. not (is_named id timer)) (timers_in es) →
    (repeated ≡ false → AreNamed left names') → AreKept left names' repeated
kept_without id es left names names' repeated kept is named =
    let Ordered : List Timer → Type 0 = λ timers. are_in_order timers ≡ true in
    let Periods : List Timer → Type 0 = λ timers. are_periods timers ≡ true in
    let keeps : Timer → Bool = λ timer. not (is_named id timer) in
    record {
      ordered = subst Ordered (sym is) (left_in_order keeps (timers_in es) kept.ordered);
      periods = subst Periods (sym is) (left_with_periods keeps (timers_in es) kept.periods);
      named = named;
    }

-- the first timer is taken out
pub first_goes : (old new : Entries) (item : ℕ) (timer : Timer) → IsFirst old item timer → ((before after : Entries) (t : Timer) → old ≡ before ++ entry_of item t ∷ after → new ≡ before ++ after) →
    old ≡ entry_of item timer ∷ new
first_goes old new item timer first removed = first.is ∙ ap (λ (es : Entries). entry_of item timer ∷ es) (sym (removed [] first.rest timer first.is))
