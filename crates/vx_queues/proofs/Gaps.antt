-- Where a queue comes back into its lane: the walk along the lane.
use Rattle.std.proofs.Common.{◌≡◌, ◌≢◌, refl, sym, ◌∙◌, ap, subst, ℕ, zero, suc, ◌≤◌, ◌<◌, Bool, true, false, List, [], ◌∷◌, ◌++◌, length, filter, get_or, Option, Some, None, arith, ◌⊎◌, inl, inr, ⊎_elim}
use Rattle.std.proofs.lemmas.List.{append_assoc, get_or_past}
use Rattle.std.proofs.lemmas.Bool.Decides.{nat_tests}
use Rattle.vx_items.specs.Lists.{one, count, total, HasBefore}
use Rattle.vx_items.specs.Lists as items
use Rattle.vx_items.specs.Rings.{Rings}
use Rattle.vx_items.proofs.Counts.{one_same, one_is, count-append, no_more}
use Rattle.vx_queues.specs.declared.queues.Waiting.{Waiting}
use Rattle.vx_queues.specs.declared.queues.Queue.{Queue}
use Rattle.vx_queues.specs.Order.{before, is_of, InOrder, IsSplit}
use Rattle.vx_queues.specs.Lanes.{absent, queue_at, first_of, head_in, standing, HeadBefore, IsLaned, BeginsBehind, Gap}
use Rattle.vx_queues.proofs.Lining.{standing-le}
use Rattle.vx_queues.proofs.Laning.{In, in_after, first_in, filter_in, stands, busy_nowhere}

-- ## Of two tasks of different queues one comes first

one_comes : (a b : Waiting) (ws : List Waiting) → InOrder ws → In a ws → In b ws → (a ≡ b) ⊎ ((before a b ≡ true) ⊎ (before b a ≡ true))
one_comes a b [] ordered there here = absurd there
one_comes a b (w ∷ ws) ordered (inl a_is) (inl b_is) = inl (a_is ∙ sym b_is)
one_comes a b (w ∷ ws) ordered (inl a_is) (inr here) = let B : Waiting → Type 0 = λ x. before x b ≡ true in inr (inl (subst B (sym a_is) (in_after w b ws ordered.0 here)))
one_comes a b (w ∷ ws) ordered (inr there) (inl b_is) = let B : Waiting → Type 0 = λ x. before x a ≡ true in inr (inr (subst B (sym b_is) (in_after w a ws ordered.0 there)))
one_comes a b (w ∷ ws) ordered (inr there) (inr here) = one_comes a b ws ordered.1 there here

-- the first task of a queue is one of its tasks
record Heads (lists : List (List Waiting)) (ws : List Waiting) (k : ℕ) (x : Waiting) : Type 0 where
  pub sits : In x ws
  pub own : k ≡ x.queue

heads : (lists : List (List Waiting)) (ws : List Waiting) (k : ℕ) (x : Waiting) → IsSplit lists ws → head_in lists k ≡ Some x → Heads lists ws k x
heads lists ws k x split head =
    let parts = filter_in (is_of k) x ws (first_in (filter (is_of k) ws) x (sym (ap first_of (split.parts k)) ∙ head)) in
    record { sits = parts.0; own = grind (arith, nat_tests, parts.1) }

truth : (b : Bool) → b ≡ true → b ≡ false → ⊥
truth true sure unsure = cc
truth false sure unsure = cc

-- where the first task of one queue does not come before that of another, it comes behind
pub comes_behind : (lists : List (List Waiting)) (ws : List Waiting) (k j : ℕ) (x h : Waiting) → IsSplit lists ws → head_in lists k ≡ Some x → head_in lists j ≡ Some h → k ≢ j → before x h ≡ false → before h x ≡ true
comes_behind lists ws k j x h split at there apart past =
    let a = heads lists ws k x split at in
    let b = heads lists ws j h split there in
    ⊎_elim
    (λ (same : x ≡ h). absurd (apart (a.own ∙ ap (λ (w : Waiting). w.queue) same ∙ sym b.own)))
    (λ (order : (before x h ≡ true) ⊎ (before h x ≡ true)). ⊎_elim (λ (first : before x h ≡ true). absurd (truth (before x h) first past)) (λ (second : before h x ≡ true). second) order)
    (one_comes x h ws split.in_order a.sits b.sits)

pub heads_are : (a b : Option Waiting) (x h : Waiting) → a ≡ Some x → b ≡ Some h → before x h ≡ true → HeadBefore a b
heads_are a b x h a_is b_is first =
    let B : Option Waiting → Option Waiting → Type 0 = HeadBefore in
    subst (λ (o : Option Waiting). B o b) (sym a_is) (subst (λ (o : Option Waiting). B (Some x) o) (sym b_is) first)

-- ## Those that stand in a lane

-- a queue that stands in a lane has a first task
pub record Standing (queues : List Queue) (lists : List (List Waiting)) (j : ℕ) : Type 0 where
  pub head : Waiting
  pub is : head_in lists j ≡ Some head
  pub within : j < length queues

out_of : (queues : List Queue) (lane : ℕ) (o : Option Waiting) (j : ℕ) → length queues ≤ j → standing (queue_at queues j) lane o ≡ 0
out_of queues lane o j past = ap (λ c. standing c lane o) (get_or_past queues j absent past) ∙ busy_nowhere 0 lane o

in_or_past : (j n : ℕ) → (j < n) ⊎ (n ≤ j)
in_or_past zero zero = inr (omega arith)
in_or_past zero (suc n) = inl (omega arith)
in_or_past (suc j) zero = inr (omega arith)
in_or_past (suc j) (suc n) = ⊎_elim (λ (less : j < n). inl (omega (arith, less))) (λ (more : n ≤ j). inr (omega (arith, more))) (in_or_past j n)

pub standing_there : (queues : List Queue) (lists : List (List Waiting)) (lanes : Rings) (lane j : ℕ) → IsLaned queues lists lanes → 0 < count j (get_or lanes.lists lane []) → Standing queues lists j
standing_there queues lists lanes lane j laned some =
    let counted = laned.laned.counts j lane in
    let stand = stands (queue_at queues j) lane (head_in lists j) (omega (arith, some, counted)) in
    record {
      head = stand.item;
      is = stand.is;
      within = ⊎_elim (λ (less : j < length queues). less) (λ (past : length queues ≤ j). let none = out_of queues lane (head_in lists j) j past in absurd (omega (arith, some, counted, none))) (in_or_past j (length queues));
    }

-- a lane has no more queues than there are
pub lane_short : (queues : List Queue) (lists : List (List Waiting)) (lanes : Rings) (lane : ℕ) → IsLaned queues lists lanes → length (get_or lanes.lists lane []) ≤ length queues
lane_short queues lists lanes lane laned =
    let ks : List ℕ = get_or lanes.lists lane [] in
    let all = no_more (length queues) (ks ∷ []) (λ j some. (standing_there queues lists lanes lane j laned (omega (arith, some))).within)
    (λ j. let a = laned.laned.counts j lane in let b = standing-le (queue_at queues j) lane (head_in lists j) in omega (arith, a, b)) in
    omega (arith, all)

-- ## The walk

-- the walk has passed those whose first tasks come before that of the queue, and those still to come are at most as many
-- as there are steps
pub record Walk (head : ℕ → Option Waiting) (ks : List ℕ) (k : ℕ) (next : Option ℕ) (steps : ℕ) : Type 0 where
  pub front : List ℕ
  pub rest : List ℕ
  pub is : ks ≡ front ++ rest
  pub first : next ≡ items.first_of rest
  pub earlier : (j : ℕ) → 0 < count j front → HeadBefore (head j) (head k)
  pub short : length rest ≤ steps

pub walk_start : (head : ℕ → Option Waiting) (ks : List ℕ) (k : ℕ) (next : Option ℕ) (steps : ℕ) → next ≡ items.first_of ks → length ks ≤ steps → Walk head ks k next steps
walk_start head ks k next steps first short = record { front = []; rest = ks; is = refl; first = first; earlier = λ j some. absurd (omega (arith, some)); short = short }

gap_end : (head : ℕ → Option Waiting) (ks : List ℕ) (k : ℕ) (next : Option ℕ) (steps : ℕ) (walk : Walk head ks k next steps) → walk.rest ≡ [] → Gap head ks k None
gap_end head ks k next steps walk none = record {
  front = walk.front;
  back = [];
  is = walk.is ∙ ap (λ xs. walk.front ++ xs) none;
  next = refl;
  earlier = walk.earlier;
  later = tt;
}

nothing_first : (xs : List ℕ) → None ≡ items.first_of xs → xs ≡ []
nothing_first [] first = refl
nothing_first (x ∷ xs) first = absurd (cc)

nothing_short : (xs : List ℕ) → length xs ≤ 0 → xs ≡ []
nothing_short [] short = refl
nothing_short (x ∷ xs) short = absurd (omega (arith, short))

pub walk_none : (head : ℕ → Option Waiting) (ks : List ℕ) (k : ℕ) (next : Option ℕ) (steps : ℕ) → Walk head ks k next steps → next ≡ None → Gap head ks k None
walk_none head ks k next steps walk none = gap_end head ks k next steps walk (nothing_first walk.rest (sym none ∙ walk.first))

pub walk_spent : (head : ℕ → Option Waiting) (ks : List ℕ) (k : ℕ) (next : Option ℕ) (steps : ℕ) → Walk head ks k next steps → steps ≡ 0 → Gap head ks k None
walk_spent head ks k next steps walk spent = gap_end head ks k next steps walk (nothing_short walk.rest (let a = walk.short in omega (arith, a, spent)))

-- the queue that the walk has come to
pub record Comes (xs : List ℕ) (j : ℕ) : Type 0 where
  pub others : List ℕ
  pub is : xs ≡ j ∷ others

comes : (xs : List ℕ) (j : ℕ) → Some j ≡ items.first_of xs → Comes xs j
comes [] j first = absurd (cc)
comes (x ∷ xs) j first = let same : j ≡ x = cc in record { others = xs; is = ap (λ i. i ∷ xs) (sym same) }

-- it stands in the lane
pub walk_there : (head : ℕ → Option Waiting) (ks : List ℕ) (k : ℕ) (next : Option ℕ) (steps j : ℕ) → Walk head ks k next steps → next ≡ Some j → 0 < count j ks
walk_there head ks k next steps j walk at =
    let here = comes walk.rest j (sym at ∙ walk.first) in
    let a = ap (count j) (walk.is ∙ ap (λ xs. walk.front ++ xs) here.is) in
    let b = count-append j walk.front (j ∷ here.others) in
    omega (arith, a, b, one_same j)

pub walk_stop : (head : ℕ → Option Waiting) (ks : List ℕ) (k : ℕ) (next : Option ℕ) (steps j : ℕ) → Walk head ks k next steps → next ≡ Some j → HeadBefore (head k) (head j) → Gap head ks k (Some j)
walk_stop head ks k next steps j walk at behind =
    let here = comes walk.rest j (sym at ∙ walk.first) in
    let B : List ℕ → Type 0 = BeginsBehind head (head k) in
    record { front = walk.front; back = walk.rest; is = walk.is; next = sym at ∙ walk.first; earlier = walk.earlier; later = subst B (sym here.is) behind }

front_step : (head : ℕ → Option Waiting) (fs : List ℕ) (k j : ℕ) → ((i : ℕ) → 0 < count i fs → HeadBefore (head i) (head k)) → HeadBefore (head j) (head k) → (i : ℕ) → 0 < count i (fs ++ j ∷ []) → HeadBefore (head i) (head k)
front_step head fs k j earlier first i some =
    let counted = count-append i fs (j ∷ []) in
    ⊎_elim
    (λ (less : 0 < count i fs). earlier i less)
    (λ (more : count i fs ≤ 0). let same : i ≡ j = one_is i j (omega (arith, some, counted, more)) in let P : ℕ → Type 0 = λ n. HeadBefore (head n) (head k) in subst P (sym same) first)
    (in_or_past 0 (count i fs))

pub walk_on : (head : ℕ → Option Waiting) (ks : List ℕ) (k : ℕ) (next then : Option ℕ) (steps less j : ℕ) → Walk head ks k next steps → next ≡ Some j → HeadBefore (head j) (head k) →
    ((front back : List ℕ) → ks ≡ front ++ j ∷ back → then ≡ items.first_of back) → steps ≡ suc less → Walk head ks k then less
walk_on head ks k next then steps less j walk at first then_is fuel =
    let here = comes walk.rest j (sym at ∙ walk.first) in
    let split : ks ≡ walk.front ++ j ∷ here.others = walk.is ∙ ap (λ xs. walk.front ++ xs) here.is in
    record {
      front = walk.front ++ j ∷ [];
      rest = here.others;
      is = split ∙ sym (append_assoc walk.front (j ∷ []) here.others);
      first = then_is walk.front here.others split;
      earlier = front_step head walk.front k j walk.earlier first;
      short = let a = walk.short in let b = ap (λ (xs : List ℕ). length xs) here.is in omega (arith, a, b, fuel);
    }

-- the queue before which another comes stands in the lane
pub gap_there : (head : ℕ → Option Waiting) (ks : List ℕ) (k : ℕ) (other : Option ℕ) → Gap head ks k other → HasBefore other ks
gap_there head ks k None gap = tt
gap_there head ks k (Some j) gap =
    let here = comes gap.back j gap.next in
    let a = ap (count j) (gap.is ∙ ap (λ xs. gap.front ++ xs) here.is) in
    let b = count-append j gap.front (j ∷ here.others) in
    omega (arith, a, b, one_same j)
