-- A queue that comes back into its lane, at the place of its first task.
use Rattle.std.proofs.Common.{◌≡◌, ◌≢◌, refl, sym, ◌∙◌, ap, subst, ℕ, ◌≤◌, ◌<◌, Bool, true, false, List, [], ◌∷◌, ◌++◌, length, get_or, set, nat_eq, Option, Some, None, arith, ⊎_elim}
use Rattle.std.specs.Prelude.{map, not, ◌&&◌, is_some}
use Rattle.std.proofs.lemmas.List.{get_or-set_same, get_or-set_other, length-map, set-get_or}
use Rattle.std.proofs.Math.ListN.{length-set}
use Rattle.std.proofs.lemmas.Bool.Decides.{nat_tests}
use Rattle.vx_items.specs.Lists.{one, count, total, without, with_before}
use Rattle.vx_items.specs.Rings.{Rings}
use Rattle.vx_items.specs.Lists as items
use Rattle.vx_items.proofs.Counts.{one_same, count-append, count-le-total}
use Rattle.vx_queues.specs.declared.queues.Waiting.{Waiting}
use Rattle.vx_queues.specs.declared.queues.Queue.{Queue}
use Rattle.vx_queues.specs.Order.{before}
use Rattle.vx_queues.specs.Lanes.{absent, queue_at, head_in, stands_in, standing, HeadBefore, AllHeads, HeadsInOrder, Laned, IsLaned, as_busy, as_free, BeginsBehind, Gap}
use Rattle.vx_queues.proofs.Merging.{same_or_not}
use Rattle.vx_queues.proofs.Lining.{standing-le, counts_put, laned_quiet, laned_leaves, stands_nowhere}
use Rattle.vx_queues.proofs.Laning.{busy_nowhere, free_stands}

before_both : (a b c : Waiting) → before a b ≡ true → before b c ≡ true → before a c ≡ true
before_both a b c first second = grind (arith, nat_tests, first, second)

heads_both : (a b c : Option Waiting) → HeadBefore a b → HeadBefore b c → HeadBefore a c
heads_both None b c first second = absurd first
heads_both (Some a) None c first second = absurd first
heads_both (Some a) (Some b) None first second = absurd second
heads_both (Some a) (Some b) (Some c) first second = before_both a b c first second

put_at : (k j : ℕ) (fs js : List ℕ) → count j fs ≡ 0 → with_before (Some j) k (fs ++ j ∷ js) ≡ fs ++ k ∷ j ∷ js
put_at k j [] js none = let same : nat_eq j j ≡ true = grind (arith, nat_tests) in rw same
put_at k j (f ∷ fs) js none =
    let other : nat_eq j f ≡ false = grind (arith, nat_tests, none) in
    rw other (ap (λ xs. f ∷ xs) (put_at k j fs js (omega (arith, none))))

put_end : (k : ℕ) (fs : List ℕ) → with_before None k (fs ++ []) ≡ fs ++ k ∷ []
put_end k [] = refl
put_end k (f ∷ fs) = ap (λ xs. f ∷ xs) (put_end k fs)

put_gap : (k : ℕ) (other : Option ℕ) (fs back : List ℕ) → other ≡ items.first_of back → ((j : ℕ) → count j (fs ++ back) ≤ 1) → with_before other k (fs ++ back) ≡ fs ++ k ∷ back
put_gap k other fs [] is once = ap (λ o. with_before o k (fs ++ [])) is ∙ put_end k fs
put_gap k other fs (j ∷ js) is once =
    ap (λ o. with_before o k (fs ++ j ∷ js)) is ∙ put_at k j fs js (let a = once j in let b = count-append j fs (j ∷ js) in omega (arith, a, b, one_same j))

all_behind : (head : ℕ → Option Waiting) (k j : ℕ) (js : List ℕ) → HeadBefore (head k) (head j) → AllHeads head j js → AllHeads head k js
all_behind head k j [] first all = tt
all_behind head k j (i ∷ is) first all = (heads_both (head k) (head j) (head i) first all.0, all_behind head k j is first all.1)

all_back : (head : ℕ → Option Waiting) (k : ℕ) (back : List ℕ) → BeginsBehind head (head k) back → HeadsInOrder head back → AllHeads head k back
all_back head k [] later ordered = tt
all_back head k (j ∷ js) later ordered = (later, all_behind head k j js later ordered.0)

all_with : (head : ℕ → Option Waiting) (f k : ℕ) (fs back : List ℕ) → AllHeads head f (fs ++ back) → HeadBefore (head f) (head k) → AllHeads head f (fs ++ k ∷ back)
all_with head f k [] back all first = (first, all)
all_with head f k (g ∷ gs) back all first = (all.0, all_with head f k gs back all.1 first)

order_with : (head : ℕ → Option Waiting) (k : ℕ) (fs back : List ℕ) → HeadsInOrder head (fs ++ back) → ((j : ℕ) → 0 < count j fs → HeadBefore (head j) (head k)) → BeginsBehind head (head k) back → HeadsInOrder head (fs ++ k ∷ back)
order_with head k [] back ordered earlier later = (all_back head k back later ordered, ordered)
order_with head k (f ∷ fs) back ordered earlier later =
    (all_with head f k fs back ordered.0 (earlier f (omega (arith, one_same f))), order_with head k fs back ordered.1 (λ j some. earlier j (omega (arith, some))) later)

-- a queue that stood nowhere stands at its place
pub laned_at : (queue queue' : ℕ → Queue) (head : ℕ → Option Waiting) (lists : List (List ℕ)) (k own : ℕ) (other : Option ℕ) → Laned queue head lists → own < length lists →
    ((j : ℕ) → j ≢ k → queue' j ≡ queue j) → ((lane : ℕ) → standing (queue k) lane (head k) ≡ 0) → ((lane : ℕ) → standing (queue' k) lane (head k) ≡ one lane own) →
    Gap head (get_or lists own []) k other → Laned queue' head (set lists own (with_before other k (get_or lists own [])))
laned_at queue queue' head lists k own other laned within queues none stands gap =
    let xs : List ℕ = with_before other k (get_or lists own []) in
    let H : List ℕ → Type 0 = HeadsInOrder head in
    let once : (j : ℕ) → count j (gap.front ++ gap.back) ≤ 1 = λ j. let a = laned.counts j own in let b = standing-le (queue j) own (head j) in let d = ap (count j) gap.is in omega (arith, a, b, d) in
    let placed : xs ≡ gap.front ++ k ∷ gap.back = ap (with_before other k) gap.is ∙ put_gap k other gap.front gap.back gap.next once in
    record {
      counts = counts_put queue queue' head head lists k own other laned within queues (λ j apart. refl) none stands;
      ordered = λ lane. ⊎_elim
          (λ (at : lane ≡ own). let P : ℕ → Type 0 = λ l. HeadsInOrder head (get_or (set lists own xs) l []) in
          subst P (sym at) (subst H (sym (get_or-set_same lists own xs [] within ∙ placed)) (order_with head k gap.front gap.back (subst H gap.is (laned.ordered own)) gap.earlier gap.later)))
          (λ (away : lane ≢ own). subst H (sym (get_or-set_other lists own lane xs [] away)) (laned.ordered lane))
          (same_or_not lane own);
    }

-- ## A queue stands aside, and comes back

-- what its queue is where it counts as busy, or as free
busy_at : (queues : List Queue) (k : ℕ) → k < length queues → queue_at (as_busy k queues) k ≡ record { lane = (queue_at queues k).lane; busy = true }
busy_at queues k within = get_or-set_same queues k _ absent within

free_at : (queues : List Queue) (k : ℕ) → k < length queues → queue_at (as_free k queues) k ≡ record { lane = (queue_at queues k).lane; busy = false }
free_at queues k within = get_or-set_same queues k _ absent within

pub none_aside : (queues : List Queue) (k : ℕ) → k < length queues → (o : Option Waiting) (lane : ℕ) → standing (queue_at (as_busy k queues) k) lane o ≡ 0
none_aside queues k within o lane = ap (λ c. standing c lane o) (busy_at queues k within) ∙ busy_nowhere (queue_at queues k).lane lane o

others_free : (queues : List Queue) (k j : ℕ) → j ≢ k → queue_at (as_free k queues) j ≡ queue_at (as_busy k queues) j
others_free queues k j apart = get_or-set_other queues k j _ absent apart ∙ sym (get_or-set_other queues k j _ absent apart)

-- the lanes of queues, where one changes and keeps its lane
there_set : (queues : List Queue) (lanes : ℕ) (k : ℕ) (busy : Bool) → ((j : ℕ) → j < length queues → (queue_at queues j).lane < lanes) →
    (j : ℕ) → j < length (set queues k (record { lane = (queue_at queues k).lane; busy = busy })) → (queue_at (set queues k (record { lane = (queue_at queues k).lane; busy = busy })) j).lane < lanes
there_set queues lanes k busy there j within =
    let q : Queue = record { lane = (queue_at queues k).lane; busy = busy } in
    let in_old : j < length queues = let a = length-set queues k q in omega (arith, a, within) in
    ⊎_elim
    (λ (same : j ≡ k).
    let at : queue_at (set queues k q) k ≡ q = get_or-set_same queues k q absent (let a = same in omega (arith, a, in_old)) in
    let a = ap (λ (c : Queue). c.lane) (ap (queue_at (set queues k q)) same ∙ at) in
    let b = there k (omega (arith, same, in_old)) in
    omega (arith, a, b))
    (λ (apart : j ≢ k). let a = ap (λ (c : Queue). c.lane) (get_or-set_other queues k j q absent apart) in let b = there j in_old in omega (arith, a, b))
    (same_or_not j k)

lane_aside : (queues : List Queue) (k j : ℕ) → j < length queues → (queue_at (as_busy k queues) j).lane ≡ (queue_at queues j).lane
lane_aside queues k j within = ⊎_elim
    (λ (same : j ≡ k). let P : ℕ → Type 0 = λ i. (queue_at (as_busy k queues) i).lane ≡ (queue_at queues i).lane in
    subst P (sym same) (ap (λ (c : Queue). c.lane) (busy_at queues k (omega (arith, same, within)))))
    (λ (apart : j ≢ k). ap (λ (c : Queue). c.lane) (get_or-set_other queues k j _ absent apart))
    (same_or_not j k)

there_free : (queues : List Queue) (lanes : ℕ) (k : ℕ) → ((j : ℕ) → j < length (as_busy k queues) → (queue_at (as_busy k queues) j).lane < lanes) → (j : ℕ) → j < length (as_free k queues) → (queue_at (as_free k queues) j).lane < lanes
there_free queues lanes k there =
    there_set queues lanes k false (λ j within. let a = lane_aside queues k j within in let b = length-set queues k (record { lane = (queue_at queues k).lane; busy = true }) in let d = there j (omega (arith, within, b)) in omega (arith, a, d))

-- a queue that is busy already, or has no task, stands in no lane
pub laned_aside : (queues : List Queue) (lists : List (List Waiting)) (lanes : Rings) (k : ℕ) → IsLaned queues lists lanes → k < length queues → ((lane : ℕ) → standing (queue_at queues k) lane (head_in lists k) ≡ 0) → IsLaned (as_busy k queues) lists lanes
laned_aside queues lists lanes k laned within none = record {
  places = let a = laned.places in let b = length-set queues k (record { lane = (queue_at queues k).lane; busy = true }) in omega (arith, a, b);
  there = there_set queues (length lanes.lists) k true laned.there;
  laned = laned_quiet (queue_at queues) (queue_at (as_busy k queues)) (head_in lists) (head_in lists) lanes.lists k laned.laned
      (λ j apart. get_or-set_other queues k j _ absent apart) (λ j apart. refl) none (none_aside queues k within (head_in lists k));
}

-- one that stands in its lane is taken out of it
pub laned_out : (queues : List Queue) (lists : List (List Waiting)) (lanes lanes' : Rings) (k : ℕ) → IsLaned queues lists lanes → k < length queues → lanes'.lists ≡ map (without k) lanes.lists → lanes'.places ≡ lanes.places → IsLaned (as_busy k queues) lists lanes'
laned_out queues lists lanes lanes' k laned within same places =
    let len : length lanes'.lists ≡ length lanes.lists = ap (λ (ls : List (List ℕ)). length ls) same ∙ length-map lanes.lists (without k) in
    let L : List (List ℕ) → Type 0 = Laned (queue_at (as_busy k queues)) (head_in lists) in
    record {
      places = let a = laned.places in let b = length-set queues k (record { lane = (queue_at queues k).lane; busy = true }) in omega (arith, a, b, places);
      there = λ j j_within. let a = there_set queues (length lanes.lists) k true laned.there j j_within in omega (arith, a, len);
      laned = subst L (sym same) (laned_leaves (queue_at queues) (queue_at (as_busy k queues)) (head_in lists) (head_in lists) lanes.lists k laned.laned
          (λ j apart. get_or-set_other queues k j _ absent apart) (λ j apart. refl) (none_aside queues k within (head_in lists k)));
    }

-- one without tasks comes back to no lane
pub laned_idle : (queues : List Queue) (lists : List (List Waiting)) (lanes : Rings) (k : ℕ) → IsLaned (as_busy k queues) lists lanes → k < length queues → head_in lists k ≡ None → IsLaned (as_free k queues) lists lanes
laned_idle queues lists lanes k laned within none = record {
  places = let a = laned.places in let b = length-set queues k (record { lane = (queue_at queues k).lane; busy = true }) in let d = length-set queues k (record { lane = (queue_at queues k).lane; busy = false }) in omega (arith, a, b, d);
  there = there_free queues (length lanes.lists) k laned.there;
  laned = laned_quiet (queue_at (as_busy k queues)) (queue_at (as_free k queues)) (head_in lists) (head_in lists) lanes.lists k laned.laned
      (others_free queues k) (λ j apart. refl) (none_aside queues k within (head_in lists k)) (λ lane. ap (standing (queue_at (as_free k queues) k) lane) none);
}

-- one with a first task comes back at its place
pub laned_back : (queues : List Queue) (lists : List (List Waiting)) (lanes lanes' : Rings) (k own : ℕ) (first : Waiting) (other : Option ℕ) → IsLaned (as_busy k queues) lists lanes → k < length queues → own ≡ (queue_at queues k).lane → head_in lists k ≡ Some first →
    Gap (head_in lists) (get_or lanes.lists own []) k other → lanes'.lists ≡ set lanes.lists own (with_before other k (get_or lanes.lists own [])) → lanes'.places ≡ lanes.places → IsLaned (as_free k queues) lists lanes'
laned_back queues lists lanes lanes' k own first other laned within own_is head gap same places =
    let len : length lanes'.lists ≡ length lanes.lists = ap (λ (ls : List (List ℕ)). length ls) same ∙ length-set lanes.lists own _ in
    let L : List (List ℕ) → Type 0 = Laned (queue_at (as_free k queues)) (head_in lists) in
    let b = length-set queues k (record { lane = (queue_at queues k).lane; busy = true }) in
    record {
      places = let a = laned.places in let d = length-set queues k (record { lane = (queue_at queues k).lane; busy = false }) in omega (arith, a, b, d, places);
      there = λ j j_within. let a = there_free queues (length lanes.lists) k laned.there j j_within in omega (arith, a, len);
      laned = subst L (sym same) (laned_at (queue_at (as_busy k queues)) (queue_at (as_free k queues)) (head_in lists) lanes.lists k own other laned.laned
          (let a = laned.there k (omega (arith, within, b)) in let d = lane_aside queues k k within in omega (arith, a, d, own_is))
          (others_free queues k) (none_aside queues k within (head_in lists k))
          (λ lane. ap (λ c. standing c lane (head_in lists k)) (free_at queues k within) ∙ ap (standing (record { lane = (queue_at queues k).lane; busy = false }) lane) head ∙ free_stands (queue_at queues k).lane lane first ∙ ap (one lane) (sym own_is))
          gap);
    }

-- a queue that stands aside stands nowhere
pub aside_nowhere : (queues : List Queue) (lists : List (List Waiting)) (lanes : Rings) (k : ℕ) → IsLaned (as_busy k queues) lists lanes → k < length queues → total k lanes.lists ≡ 0
aside_nowhere queues lists lanes k laned within = stands_nowhere k lanes.lists (λ lane. laned.laned.counts k lane ∙ none_aside queues k within (head_in lists k) lane)

-- its lane is there
pub own_lane : (queues : List Queue) (lists : List (List Waiting)) (lanes : Rings) (k : ℕ) → IsLaned (as_busy k queues) lists lanes → k < length queues → (queue_at queues k).lane < length lanes.lists
own_lane queues lists lanes k laned within =
    let b = length-set queues k (record { lane = (queue_at queues k).lane; busy = true }) in
    let a = laned.there k (omega (arith, within, b)) in
    let d = lane_aside queues k k within in
    omega (arith, a, d)

-- ## As it is

pub as_it_was : (queues : List Queue) (k : ℕ) (busy : Bool) → (queue_at queues k).busy ≡ busy → set queues k (record { lane = (queue_at queues k).lane; busy = busy }) ≡ queues
as_it_was queues k busy is = ap (λ b. set queues k (record { lane = (queue_at queues k).lane; busy = b })) (sym is) ∙ set-get_or queues k absent

-- ## Whether it stands in its lane

in_step : (o : Option Waiting) (queue : Queue) (b : Bool) → queue.busy ≡ b → (not b && is_some o) ≡ true → standing queue queue.lane o ≡ 1
in_step None queue true is sure = absurd (cc)
in_step None queue false is sure = absurd (cc)
in_step (Some x) queue true is sure = absurd (cc)
in_step (Some x) queue false is sure =
    ap (λ b. standing (record { lane = queue.lane; busy = b }) queue.lane (Some x)) is ∙ free_stands queue.lane queue.lane x ∙ one_same queue.lane

pub stands_there : (queues : List Queue) (lists : List (List Waiting)) (lanes : Rings) (k : ℕ) → IsLaned queues lists lanes → stands_in queues lists k ≡ true → 0 < total k lanes.lists
stands_there queues lists lanes k laned sure =
    let own = (queue_at queues k).lane in
    let a = in_step (head_in lists k) (queue_at queues k) (queue_at queues k).busy refl sure in
    let b = laned.laned.counts k own in
    let d = count-le-total k lanes.lists own in
    omega (arith, a, b, d)

out_step : (o : Option Waiting) (queue : Queue) (b : Bool) (lane : ℕ) → queue.busy ≡ b → (not b && is_some o) ≡ false → standing queue lane o ≡ 0
out_step None queue b lane is sure = refl
out_step (Some x) queue true lane is sure = ap (λ b. standing (record { lane = queue.lane; busy = b }) lane (Some x)) is ∙ busy_nowhere queue.lane lane (Some x)
out_step (Some x) queue false lane is sure = absurd (cc)

pub stands_out : (queues : List Queue) (lists : List (List Waiting)) (k : ℕ) → stands_in queues lists k ≡ false → (lane : ℕ) → standing (queue_at queues k) lane (head_in lists k) ≡ 0
stands_out queues lists k sure lane = out_step (head_in lists k) (queue_at queues k) (queue_at queues k).busy lane refl sure

pub was_true : (b : Bool) → not b ≡ false → b ≡ true
was_true true is = refl
was_true false is = absurd (cc)
