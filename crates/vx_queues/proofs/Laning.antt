-- How the lanes follow what happens to queues and their tasks.
use Rattle.std.proofs.Common.{◌≡◌, ◌≢◌, refl, sym, ◌∙◌, ap, subst, ℕ, zero, suc, ◌+◌, ◌≤◌, ◌<◌, Bool, true, false, not, ◌&&◌, ◌==◌, List, [], ◌∷◌, ◌++◌, length, map, filter, find, get_or, set, cond, Option, Some, None, is_none, arith, length-append, ◌⊎◌, inl, inr, ⊎_elim}
use Rattle.std.proofs.lemmas.List.{get_or-set_same, get_or-set_other, length-map, get_or_past}
use Rattle.std.proofs.Math.ListN.{length-set}
use Rattle.std.proofs.lemmas.Bool.Decides.{nat_tests}
use Rattle.vx_items.specs.Lists.{one, count, total, without, with_before}
use Rattle.vx_items.specs.Lists as items
use Rattle.vx_items.specs.Rings.{Rings}
use Rattle.vx_items.proofs.Counts.{one_same, one_other, count-le-total}
use Rattle.vx_queues.specs.declared.queues.Waiting.{Waiting}
use Rattle.vx_queues.specs.declared.queues.Queue.{Queue}
use Rattle.vx_queues.specs.Order.{before, is_of, AllAfter, InOrder, AllBefore, IsSplit}
use Rattle.vx_queues.specs.Stores.{tail}
use Rattle.vx_queues.specs.Lanes.{absent, queue_at, first_of, head_in, takes_from, is_ready, queue_of, standing, HeadBefore, HeadsInOrder, AllHeads, Laned, IsLaned}
use Rattle.vx_queues.proofs.Merging.{same_or_not, comes_once, of_own, after_filter}
use Rattle.vx_queues.proofs.Lining.{heads_on, laned_quiet, laned_last, laned_leaves, stands_nowhere}

no_bool : (b : Bool) → ◌≡◌ {A = ℕ} (cond (b && false) 1 0) 0
no_bool true = refl
no_bool false = refl

yes_bool : (b : Bool) → b && true ≡ b
yes_bool true = refl
yes_bool false = refl

-- a busy queue stands nowhere, and one without tasks neither
pub busy_nowhere : (own lane : ℕ) (o : Option Waiting) → standing (record { lane = own; busy = true }) lane o ≡ 0
busy_nowhere own lane None = refl
busy_nowhere own lane (Some x) = no_bool (own == lane)

one_turned : (x y : ℕ) → one x y ≡ one y x
one_turned x y = ⊎_elim
    (λ (same : x ≡ y). ap (λ z. one z y) same ∙ sym (ap (one y) same))
    (λ (apart : x ≢ y). one_other x y apart ∙ sym (one_other y x (λ e. apart (sym e))))
    (same_or_not x y)

pub free_stands : (own lane : ℕ) (x : Waiting) → standing (record { lane = own; busy = false }) lane (Some x) ≡ one lane own
free_stands own lane x =
    ap (λ b. cond b 1 0) (yes_bool (own == lane)) ∙ one_turned own lane

pub laned_same : (queue : ℕ → Queue) (head head' : ℕ → Option Waiting) (lists : List (List ℕ)) → Laned queue head lists → ((j : ℕ) → head' j ≡ head j) → Laned queue head' lists
laned_same queue head head' lists laned heads =
    record {
      counts = λ j lane. laned.counts j lane ∙ ap (standing (queue j) lane) (sym (heads j));
      ordered = λ lane. heads_on head head' (get_or lists lane []) (λ j some. heads j) (laned.ordered lane);
    }

-- ## A queue is added

queues_more : (queues : List Queue) (c : Queue) (j : ℕ) → j ≢ length queues → queue_at (queues ++ c ∷ []) j ≡ queue_at queues j
queues_more [] c zero apart = absurd (apart refl)
queues_more [] c (suc j) apart = refl
queues_more (m ∷ ms) c zero apart = refl
queues_more (m ∷ ms) c (suc j) apart = queues_more ms c j (λ e. apart (ap suc e))

queues_last : (queues : List Queue) (c : Queue) → queue_at (queues ++ c ∷ []) (length queues) ≡ c
queues_last [] c = refl
queues_last (m ∷ ms) c = queues_last ms c

lists_more : (lists : List (List Waiting)) (j : ℕ) → head_in (lists ++ [] ∷ []) j ≡ head_in lists j
lists_more [] zero = refl
lists_more [] (suc j) = refl
lists_more (l ∷ ls) zero = refl
lists_more (l ∷ ls) (suc j) = lists_more ls j

pub laned_add : (queues : List Queue) (lists : List (List Waiting)) (lanes lanes' : Rings) (own : ℕ) → IsLaned queues lists lanes → length lists ≡ length queues → own < length lanes.lists → lanes'.lists ≡ lanes.lists → length queues + 1 ≤ lanes'.places →
    IsLaned (queues ++ record { lane = own; busy = false } ∷ []) (lists ++ [] ∷ []) lanes'
laned_add queues lists lanes lanes' own laned one_each within same places =
    let c : Queue = record { lane = own; busy = false } in
    let n : ℕ = length queues in
    let none : head_in lists n ≡ None = ap first_of (get_or_past lists n [] (omega (arith, one_each))) in
    let none' : head_in (lists ++ [] ∷ []) n ≡ None = lists_more lists n ∙ none in
    let len = length-append queues (c ∷ []) in
    let L : List (List ℕ) → Type 0 = Laned (queue_at (queues ++ c ∷ [])) (head_in (lists ++ [] ∷ [])) in
    record {
      places = omega (arith, places, len);
      there = λ k k_within. ⊎_elim
          (λ (at : k ≡ n). let a = ap (λ i. (queue_at (queues ++ c ∷ []) i).lane) at in let b = ap (λ (m : Queue). m.lane) (queues_last queues c) in let d = ap (λ (ls : List (List ℕ)). length ls) same in omega (arith, a, b, d, within))
          (λ (apart : k ≢ n). let a = ap (λ (m : Queue). m.lane) (queues_more queues c k apart) in let b = laned.there k (omega (arith, k_within, len, apart)) in let d = ap (λ (ls : List (List ℕ)). length ls) same in omega (arith, a, b, d))
          (same_or_not k n);
      laned = subst L (sym same) (laned_quiet (queue_at queues) (queue_at (queues ++ c ∷ [])) (head_in lists) (head_in (lists ++ [] ∷ [])) lanes.lists n laned.laned
          (λ j apart. queues_more queues c j apart) (λ j apart. lists_more lists j)
          (λ lane. ap (standing (queue_at queues n) lane) none) (λ lane. ap (standing (queue_at (queues ++ c ∷ []) n) lane) none'));
    }

-- ## A lane is added

lane_more : (lists : List (List ℕ)) (i : ℕ) → get_or (lists ++ [] ∷ []) i [] ≡ get_or lists i []
lane_more [] zero = refl
lane_more [] (suc i) = refl
lane_more (y ∷ ys) zero = refl
lane_more (y ∷ ys) (suc i) = lane_more ys i

pub laned_lane : (queues : List Queue) (lists : List (List Waiting)) (lanes lanes' : Rings) → IsLaned queues lists lanes → lanes'.lists ≡ lanes.lists ++ [] ∷ [] → lanes'.places ≡ lanes.places → IsLaned queues lists lanes'
laned_lane queues lists lanes lanes' laned is places =
    let at : (lane : ℕ) → get_or lanes'.lists lane [] ≡ get_or lanes.lists lane [] = λ lane. ap (λ (ls : List (List ℕ)). get_or ls lane []) is ∙ lane_more lanes.lists lane in
    let H : List ℕ → Type 0 = HeadsInOrder (head_in lists) in
    record {
      places = let a = laned.places in omega (arith, a, places);
      there = λ k within. let a = laned.there k within in let b = ap (λ (ls : List (List ℕ)). length ls) is in let d = length-append lanes.lists ([] ∷ []) in omega (arith, a, b, d);
      laned = record {
        counts = λ k lane. ap (count k) (at lane) ∙ laned.laned.counts k lane;
        ordered = λ lane. subst H (sym (at lane)) (laned.laned.ordered lane);
      };
    }

-- ## A task is added

all_before_filter_step : (b : Bool) (w x : Waiting) (ws : List Waiting) → before w x ≡ true → AllBefore ws x → AllBefore (cond b (w ∷ ws) ws) x
all_before_filter_step true w x ws first rest = (first, rest)
all_before_filter_step false w x ws first rest = rest

all_before_filter : (p : Waiting → Bool) (ws : List Waiting) (x : Waiting) → AllBefore ws x → AllBefore (filter p ws) x
all_before_filter p [] x all = tt
all_before_filter p (w ∷ ws) x all = all_before_filter_step (p w) w x (filter p ws) all.0 (all_before_filter p ws x all.1)

first_before : (ws : List Waiting) (x : Waiting) (o : Option Waiting) → AllBefore ws x → first_of ws ≡ o → (c : Queue) (lane : ℕ) → 0 < standing c lane o → HeadBefore o (Some x)
first_before ws x None all is c lane some = absurd (omega (arith, some))
first_before [] x (Some a) all is c lane some = absurd (cc)
first_before (w ∷ ws) x (Some a) all is c lane some = let same : w ≡ a = cc in let B : Waiting → Type 0 = λ y. before y x ≡ true in subst B same all.0

abbrev pub or_new : Option Waiting → Waiting → Option Waiting
or_new None x = Some x
or_new (Some h) x = Some h

first_push : (xs : List Waiting) (x : Waiting) (o : Option Waiting) → first_of xs ≡ o → first_of (xs ++ x ∷ []) ≡ or_new o x
first_push [] x None is = refl
first_push [] x (Some h) is = absurd (cc)
first_push (y ∷ ys) x None is = absurd (cc)
first_push (y ∷ ys) x (Some h) is = is

-- the lists of the lanes as a queue gets a task
put_step : (o : Option Waiting) (c : Queue) (b : Bool) (queues : List Queue) (head head' : ℕ → Option Waiting) (lists lists' : List (List ℕ)) (k : ℕ) (x : Waiting) → Laned (queue_at queues) head lists →
    head k ≡ o → queue_at queues k ≡ c → c.busy ≡ b → c.lane < length lists → ((j : ℕ) → j ≢ k → head' j ≡ head j) → head' k ≡ or_new o x →
    ((j lane : ℕ) → 0 < standing (queue_at queues j) lane (head j) → HeadBefore (head j) (Some x)) →
    lists' ≡ cond (is_none o && not b) (set lists c.lane (with_before None k (get_or lists c.lane []))) lists → Laned (queue_at queues) head' lists'
put_step (Some h) c b queues head head' lists lists' k x laned at is busy within heads own last same =
    let L : List (List ℕ) → Type 0 = Laned (queue_at queues) head' in
    subst L (sym same) (laned_same (queue_at queues) head head' lists laned (λ j. ⊎_elim
    (λ (here : j ≡ k). let P : ℕ → Type 0 = λ i. head' i ≡ head i in subst P (sym here) (own ∙ sym at))
    (λ (apart : j ≢ k). heads j apart) (same_or_not j k)))
put_step None c true queues head head' lists lists' k x laned at is busy within heads own last same =
    let L : List (List ℕ) → Type 0 = Laned (queue_at queues) head' in
    let shape : queue_at queues k ≡ record { lane = c.lane; busy = true } = is ∙ ap (λ r. record { lane = c.lane; busy = r }) busy in
    subst L (sym same) (laned_quiet (queue_at queues) (queue_at queues) head head' lists k laned (λ j apart. refl) heads
    (λ lane. ap (standing (queue_at queues k) lane) at)
    (λ lane. ap (λ m. standing m lane (head' k)) shape ∙ busy_nowhere c.lane lane (head' k)))
put_step None c false queues head head' lists lists' k x laned at is busy within heads own last same =
    let L : List (List ℕ) → Type 0 = Laned (queue_at queues) head' in
    let shape : queue_at queues k ≡ record { lane = c.lane; busy = false } = is ∙ ap (λ r. record { lane = c.lane; busy = r }) busy in
    let B : Option Waiting → Option Waiting → Type 0 = HeadBefore in
    let nowhere : (lane : ℕ) → standing (queue_at queues k) lane (head k) ≡ 0 = λ lane. ap (standing (queue_at queues k) lane) at in
    subst L (sym same) (laned_last (queue_at queues) (queue_at queues) head head' lists k c.lane laned within (λ j apart. refl) heads nowhere
    (λ lane. ap (λ m. standing m lane (head' k)) shape ∙ ap (standing (record { lane = c.lane; busy = false }) lane) own ∙ free_stands c.lane lane x)
    (λ j some. let a = laned.counts j c.lane in let z = nowhere c.lane in
    let apart : j ≢ k = λ e. let u = ap (λ i. standing (queue_at queues i) c.lane (head i)) e in omega (arith, some, a, z, u) in
    subst (λ (p : Option Waiting). B p (head' k)) (sym (heads j apart)) (subst (λ (q : Option Waiting). B (head j) q) (sym own) (last j c.lane (omega (arith, some, a))))))

put_len : (b : Bool) (lists : List (List ℕ)) (lane : ℕ) (xs : List ℕ) → length (cond b (set lists lane xs) lists) ≡ length lists
put_len true lists lane xs = length-set lists lane xs
put_len false lists lane xs = refl

pub laned_put : (queues : List Queue) (lists : List (List Waiting)) (ws : List Waiting) (lanes lanes' : Rings) (x : Waiting) (comes : Bool) → IsLaned queues lists lanes → IsSplit lists ws → x.queue < length lists → x.queue < length queues → AllBefore ws x →
    comes ≡ is_none (head_in lists x.queue) && not (queue_at queues x.queue).busy →
    lanes'.lists ≡ cond comes (set lanes.lists (queue_at queues x.queue).lane (with_before None x.queue (get_or lanes.lists (queue_at queues x.queue).lane []))) lanes.lists →
    lanes'.places ≡ lanes.places →
    IsLaned queues (set lists x.queue (get_or lists x.queue [] ++ x ∷ [])) lanes'
laned_put queues lists ws lanes lanes' x comes laned split within in_made last is same places =
    let k : ℕ = x.queue in
    let c : Queue = queue_at queues k in
    let lists' : List (List Waiting) = set lists k (get_or lists k [] ++ x ∷ []) in
    let there = laned.there k in_made in
    let len = put_len comes lanes.lists c.lane (with_before None k (get_or lanes.lists c.lane [])) in
    let same_len : length lanes'.lists ≡ length lanes.lists = ap (λ (ls : List (List ℕ)). length ls) same ∙ len in
    record {
      places = let a = laned.places in omega (arith, a, places);
      there = λ j j_within. let a = laned.there j j_within in omega (arith, a, same_len);
      laned = put_step (head_in lists k) c c.busy queues (head_in lists) (head_in lists') lanes.lists lanes'.lists k x laned.laned refl refl refl there
          (λ j apart. ap first_of (get_or-set_other lists k j _ [] apart))
          (ap first_of (get_or-set_same lists k _ [] within) ∙ first_push (get_or lists k []) x (head_in lists k) refl)
          (λ j lane some. first_before (filter (is_of j) ws) x (head_in lists j) (all_before_filter (is_of j) ws x last) (sym (ap first_of (split.parts j))) (queue_at queues j) lane some)
          (same ∙ ap (λ b. cond b (set lanes.lists c.lane (with_before None k (get_or lanes.lists c.lane []))) lanes.lists) is);
    }

-- a queue without tasks stands nowhere
was_none : (o : Option Waiting) (b : Bool) → is_none o && b ≡ true → o ≡ None
was_none None b sure = refl
was_none (Some x) b sure = absurd (cc)

pub new_to_lanes : (queues : List Queue) (lists : List (List Waiting)) (lanes : Rings) (k : ℕ) (comes b : Bool) → IsLaned queues lists lanes → comes ≡ is_none (head_in lists k) && b → comes ≡ true → total k lanes.lists ≡ 0
new_to_lanes queues lists lanes k comes b laned is sure =
    let none : head_in lists k ≡ None = was_none (head_in lists k) b (sym is ∙ sure) in
    stands_nowhere k lanes.lists (λ lane. laned.laned.counts k lane ∙ ap (standing (queue_at queues k) lane) none)

-- ## A task is taken

pub laned_take : (queues : List Queue) (lists : List (List Waiting)) (lanes lanes' : Rings) (k own : ℕ) → IsLaned queues lists lanes → k < length queues → own ≡ (queue_at queues k).lane → lanes'.lists ≡ map (without k) lanes.lists → lanes'.places ≡ lanes.places →
    IsLaned (set queues k (record { lane = own; busy = true })) (set lists k (tail (get_or lists k []))) lanes'
laned_take queues lists lanes lanes' k own laned in_made own_is same places =
    let queues' : List Queue = set queues k (record { lane = own; busy = true }) in
    let lists' : List (List Waiting) = set lists k (tail (get_or lists k [])) in
    let len : length queues' ≡ length queues = length-set queues k _ in
    let lanes_len : length lanes'.lists ≡ length lanes.lists = ap (λ (ls : List (List ℕ)). length ls) same ∙ length-map lanes.lists (without k) in
    let own_at : queue_at queues' k ≡ record { lane = own; busy = true } = get_or-set_same queues k _ absent in_made in
    let L : List (List ℕ) → Type 0 = Laned (queue_at queues') (head_in lists') in
    record {
      places = let a = laned.places in omega (arith, a, places, len);
      there = λ j j_within. ⊎_elim
          (λ (at : j ≡ k). let P : ℕ → Type 0 = λ i. (queue_at queues' i).lane < length lanes'.lists in
          subst P (sym at) (let a = ap (λ (c : Queue). c.lane) own_at in let b = laned.there k in_made in omega (arith, a, b, own_is, lanes_len)))
          (λ (apart : j ≢ k). let a = ap (λ (c : Queue). c.lane) (get_or-set_other queues k j (record { lane = own; busy = true }) absent apart) in let b = laned.there j (omega (arith, j_within, len)) in omega (arith, a, b, lanes_len))
          (same_or_not j k);
      laned = subst L (sym same) (laned_leaves (queue_at queues) (queue_at queues') (head_in lists) (head_in lists') lanes.lists k laned.laned
          (λ j apart. get_or-set_other queues k j _ absent apart)
          (λ j apart. ap first_of (get_or-set_other lists k j _ [] apart))
          (λ lane. ap (λ c. standing c lane (head_in lists' k)) own_at ∙ busy_nowhere own lane (head_in lists' k)));
    }

-- a queue with tasks that is not busy stands in its lane
pub stands_in_lane : (queues : List Queue) (lists : List (List Waiting)) (lanes : Rings) (k : ℕ) (x : Waiting) → IsLaned queues lists lanes → head_in lists k ≡ Some x → (queue_at queues k).busy ≡ false → 0 < total k lanes.lists
stands_in_lane queues lists lanes k x laned head free =
    let own : ℕ = (queue_at queues k).lane in
    let a = laned.laned.counts k own in
    let b = ap (standing (queue_at queues k) own) head in
    let d = ap (λ r. standing (record { lane = own; busy = r }) own (Some x)) free in
    let e = free_stands own own x in
    let f = count-le-total k lanes.lists own in
    omega (arith, a, b, d, e, f, one_same own)

-- ## The first of a lane

abbrev pub In : Waiting → List Waiting → Type 0
In w [] = ⊥
In w (x ∷ xs) = (w ≡ x) ⊎ In w xs

pub in_after : (x w : Waiting) (xs : List Waiting) → AllAfter x xs → In w xs → before x w ≡ true
in_after x w [] all there = absurd there
in_after x w (y ∷ ys) all (inl same) = let B : Waiting → Type 0 = λ z. before x z ≡ true in subst B (sym same) all.0
in_after x w (y ∷ ys) all (inr later) = in_after x w ys all.1 later

-- the least one that passes is found
differ : (b : Bool) → b ≡ true → b ≡ false → ⊥
differ true sure unsure = cc
differ false sure unsure = cc

both_ways : (a b : Waiting) → before a b ≡ true → before b a ≡ true → ⊥
both_ways a b first second = differ (before b a) second (comes_once a b first)

find_step : (b : Bool) (p : Waiting → Bool) (h x : Waiting) (xs : List Waiting) → p x ≡ b → AllAfter x xs → p h ≡ true → (h ≡ x) ⊎ In h xs → (p x ≡ true → (x ≡ h) ⊎ (before h x ≡ true)) → (In h xs → find p xs ≡ Some h) → cond b (Some x) (find p xs) ≡ Some h
find_step true p h x xs is all passes there least later =
    ⊎_elim (λ (same : x ≡ h). ap Some same)
    (λ (less : before h x ≡ true). ⊎_elim (λ (same : h ≡ x). ap Some (sym same)) (λ (sits : In h xs). absurd (both_ways h x less (in_after x h xs all sits))) there)
    (least is)
find_step false p h x xs is all passes there least later =
    ⊎_elim (λ (same : h ≡ x). absurd (differ (p x) (ap p (sym same) ∙ passes) is)) (λ (sits : In h xs). later sits) there

find_least : (p : Waiting → Bool) (h : Waiting) (ws : List Waiting) → InOrder ws → p h ≡ true → In h ws → ((w : Waiting) → In w ws → p w ≡ true → (w ≡ h) ⊎ (before h w ≡ true)) → find p ws ≡ Some h
find_least p h [] ordered passes there least = absurd there
find_least p h (x ∷ xs) ordered passes there least =
    find_step (p x) p h x xs refl ordered.0 passes there (least x (inl refl)) (λ sits. find_least p h xs ordered.1 passes sits (λ w w_in. least w (inr w_in)))

find_none : (p : Waiting → Bool) (ws : List Waiting) → ((w : Waiting) → In w ws → p w ≡ false) → find p ws ≡ None
find_none p [] none = refl
find_none p (x ∷ xs) none = let no = none x (inl refl) in rw no (find_none p xs (λ w sits. none w (inr sits)))

-- a task stands among those of its queue
in_filter_step : (b : Bool) (w x : Waiting) (xs : List Waiting) → In w xs → In w (cond b (x ∷ xs) xs)
in_filter_step true w x xs there = inr there
in_filter_step false w x xs there = there

in_filter : (w : Waiting) (ws : List Waiting) → In w ws → In w (filter (is_of w.queue) ws)
in_filter w [] there = absurd there
in_filter w (x ∷ xs) (inl same) = let P : Waiting → Type 0 = λ y. In w (filter (is_of w.queue) (y ∷ xs)) in subst P same (let Q : List Waiting → Type 0 = In w in subst Q (sym (of_own w xs)) (inl refl))
in_filter w (x ∷ xs) (inr later) = in_filter_step (is_of w.queue x) w x (filter (is_of w.queue) xs) (in_filter w xs later)

filter_in_step : (b : Bool) (p : Waiting → Bool) (w x : Waiting) (xs ys : List Waiting) → p x ≡ b → (In w xs → In w ys × (p w ≡ true)) → In w (cond b (x ∷ xs) xs) → In w (x ∷ ys) × (p w ≡ true)
filter_in_step true p w x xs ys is later (inl same) = (inl same, ap p same ∙ is)
filter_in_step true p w x xs ys is later (inr there) = let rest = later there in (inr rest.0, rest.1)
filter_in_step false p w x xs ys is later there = let rest = later there in (inr rest.0, rest.1)

pub filter_in : (p : Waiting → Bool) (w : Waiting) (ws : List Waiting) → In w (filter p ws) → In w ws × (p w ≡ true)
filter_in p w [] there = absurd there
filter_in p w (x ∷ xs) there = filter_in_step (p x) p w x (filter p xs) xs refl (filter_in p w xs) there

before_both : (a b c : Waiting) → before a b ≡ true → before b c ≡ true → before a c ≡ true
before_both a b c first second = grind (arith, nat_tests, first, second)

order_filter_step : (b : Bool) (p : Waiting → Bool) (x : Waiting) (xs : List Waiting) → AllAfter x (filter p xs) → InOrder (filter p xs) → InOrder (cond b (x ∷ filter p xs) (filter p xs))
order_filter_step true p x xs all rest = (all, rest)
order_filter_step false p x xs all rest = rest

pub order_filter : (p : Waiting → Bool) (ws : List Waiting) → InOrder ws → InOrder (filter p ws)
order_filter p [] ordered = tt
order_filter p (x ∷ xs) ordered = order_filter_step (p x) p x xs (after_filter x p xs ordered.0) (order_filter p xs ordered.1)

-- the first of tasks in order
record FirstOf (xs : List Waiting) (w : Waiting) : Type 0 where
  pub item : Waiting
  pub is : first_of xs ≡ Some item
  pub least : (w ≡ item) ⊎ (before item w ≡ true)

first_least : (xs : List Waiting) (w : Waiting) → InOrder xs → In w xs → FirstOf xs w
first_least [] w ordered there = absurd there
first_least (x ∷ xs) w ordered (inl same) = record { item = x; is = refl; least = inl same }
first_least (x ∷ xs) w ordered (inr later) = record { item = x; is = refl; least = inr (in_after x w xs ordered.0 later) }

pub first_in : (xs : List Waiting) (h : Waiting) → first_of xs ≡ Some h → In h xs
first_in [] h is = absurd (cc)
first_in (x ∷ xs) h is = let same : h ≡ x = cc in inl same

heads_at : (head : ℕ → Option Waiting) (k j : ℕ) (js : List ℕ) → AllHeads head k js → 0 < count j js → HeadBefore (head k) (head j)
heads_at head k j [] all some = absurd (omega (arith, some))
heads_at head k j (i ∷ is) all some = ⊎_elim
    (λ (same : i ≡ j). let P : ℕ → Type 0 = λ n. HeadBefore (head k) (head n) in subst P same all.0)
    (λ (apart : i ≢ j). let o = one_other j i (λ e. apart (sym e)) in heads_at head k j is all.1 (omega (arith, some, o)))
    (same_or_not i j)

no_stand : (b : Bool) → ◌≡◌ {A = ℕ} 0 (cond b 1 0) → b ≡ false
no_stand true is = absurd (omega (arith, is))
no_stand false is = refl

yes_stand : (b : Bool) → ◌<◌ 0 (cond b 1 0) → b ≡ true
yes_stand true is = refl
yes_stand false is = absurd (omega (arith, is))

pub record Stands (c : Queue) (lane : ℕ) (o : Option Waiting) : Type 0 where
  pub item : Waiting
  pub is : o ≡ Some item
  pub takes : takes_from c lane ≡ true

pub stands : (c : Queue) (lane : ℕ) (o : Option Waiting) → 0 < standing c lane o → Stands c lane o
stands c lane None some = absurd (omega (arith, some))
stands c lane (Some x) some = record { item = x; is = refl; takes = yes_stand (takes_from c lane) some }

next_step : (queues : List Queue) (lists : List (List Waiting)) (ws : List Waiting) (lane : ℕ) (ks : List ℕ) → IsSplit lists ws → ((k : ℕ) → count k ks ≡ standing (queue_at queues k) lane (head_in lists k)) → HeadsInOrder (head_in lists) ks →
    items.first_of ks ≡ queue_of (find (is_ready queues lane) ws)
next_step queues lists ws lane [] split counts ordered =
    let none : (w : Waiting) → In w ws → is_ready queues lane w ≡ false = λ w sits.
    let first = first_least (filter (is_of w.queue) ws) w (order_filter (is_of w.queue) ws split.in_order) (in_filter w ws sits) in
    let head : head_in lists w.queue ≡ Some first.item = ap first_of (split.parts w.queue) ∙ first.is in
    no_stand (takes_from (queue_at queues w.queue) lane) (counts w.queue ∙ ap (standing (queue_at queues w.queue) lane) head) in
    sym (ap queue_of (find_none (is_ready queues lane) ws none))
next_step queues lists ws lane (k ∷ ks) split counts ordered =
    let stand = stands (queue_at queues k) lane (head_in lists k) (let a = counts k in omega (arith, a, one_same k)) in
    let h : Waiting = stand.item in
    let in_part : In h (filter (is_of k) ws) = first_in (filter (is_of k) ws) h (sym (ap first_of (split.parts k)) ∙ stand.is) in
    let parts = filter_in (is_of k) h ws in_part in
    let own : k ≡ h.queue = grind (arith, nat_tests, parts.1) in
    let passes : is_ready queues lane h ≡ true = ap (λ i. takes_from (queue_at queues i) lane) (sym own) ∙ stand.takes in
    let least : (w : Waiting) → In w ws → is_ready queues lane w ≡ true → (w ≡ h) ⊎ (before h w ≡ true) = λ w sits ready.
    let j : ℕ = w.queue in
    let first = first_least (filter (is_of j) ws) w (order_filter (is_of j) ws split.in_order) (in_filter w ws sits) in
    let g : Waiting = first.item in
    let head : head_in lists j ≡ Some g = ap first_of (split.parts j) ∙ first.is in
    let there : count j (k ∷ ks) ≡ 1 = counts j ∙ ap (standing (queue_at queues j) lane) head ∙ ap (λ b. cond b 1 0) ready in
    ⊎_elim
    (λ (same : j ≡ k). let e : Some g ≡ Some h = sym head ∙ ap (head_in lists) same ∙ stand.is in let gh : g ≡ h = cc in
    let P : Waiting → Type 0 = λ i. (w ≡ i) ⊎ (before i w ≡ true) in subst P gh first.least)
    (λ (apart : j ≢ k). let o = one_other j k apart in
    let B : Option Waiting → Option Waiting → Type 0 = HeadBefore in
    let between : before h g ≡ true = subst (λ (a : Option Waiting). B a (Some g)) stand.is (subst (λ (b : Option Waiting). B (head_in lists k) b) head (heads_at (head_in lists) k j ks ordered.0 (omega (arith, there, o)))) in
    inr (⊎_elim (λ (same : w ≡ g). let Q : Waiting → Type 0 = λ i. before h i ≡ true in subst Q (sym same) between) (λ (less : before g w ≡ true). before_both h g w between less) first.least))
    (same_or_not j k) in
    ap Some own ∙ sym (ap queue_of (find_least (is_ready queues lane) h ws split.in_order passes parts.0 least))

pub next_is : (queues : List Queue) (lists : List (List Waiting)) (ws : List Waiting) (lanes : Rings) (lane : ℕ) → IsLaned queues lists lanes → IsSplit lists ws → items.first_of (get_or lanes.lists lane []) ≡ queue_of (find (is_ready queues lane) ws)
next_is queues lists ws lanes lane laned split = next_step queues lists ws lane (get_or lanes.lists lane []) split (λ k. laned.laned.counts k lane) (laned.laned.ordered lane)
