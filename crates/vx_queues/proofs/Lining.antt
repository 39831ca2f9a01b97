-- How the queues of the lanes change.
use Rattle.std.proofs.Common.{◌≡◌, ◌≢◌, refl, sym, ◌∙◌, ap, subst, ℕ, suc, ◌+◌, ◌≤◌, ◌<◌, Bool, true, false, List, [], ◌∷◌, length, map, get_or, set, cond, nat_eq, Option, Some, None, arith, ⊎_elim}
use Rattle.std.proofs.lemmas.List.{get_or-set_same, get_or-set_other}
use Rattle.std.proofs.Math.ListN.{get_or-map}
use Rattle.vx_items.specs.Lists.{one, count, total, without, with_before}
use Rattle.vx_items.proofs.Counts.{one_same, one_other, count_with, count_without_same, count_without_other}
use Rattle.vx_queues.specs.declared.queues.Waiting.{Waiting}
use Rattle.vx_queues.specs.declared.queues.Queue.{Queue}
use Rattle.vx_queues.specs.Order.{before}
use Rattle.vx_queues.specs.Lanes.{takes_from, standing, HeadBefore, AllHeads, HeadsInOrder, Laned}
use Rattle.vx_queues.proofs.Merging.{same_or_not}

heads_all : (head head' : ℕ → Option Waiting) (k : ℕ) (ks : List ℕ) → head' k ≡ head k → ((j : ℕ) → 0 < count j ks → head' j ≡ head j) → AllHeads head k ks → AllHeads head' k ks
heads_all head head' k [] own same all = tt
heads_all head head' k (j ∷ js) own same all =
    let B : Option Waiting → Option Waiting → Type 0 = HeadBefore in (
      subst (λ (a : Option Waiting). B a (head' j)) (sym own) (subst (λ (b : Option Waiting). B (head k) b) (sym (same j (omega (arith, one_same j)))) all.0),
      heads_all head head' k js own (λ i some. same i (omega (arith, some))) all.1,
    )

-- the order stays where the first tasks of those that stand there stay
pub heads_on : (head head' : ℕ → Option Waiting) (ks : List ℕ) → ((j : ℕ) → 0 < count j ks → head' j ≡ head j) → HeadsInOrder head ks → HeadsInOrder head' ks
heads_on head head' [] same ordered = tt
heads_on head head' (k ∷ ks) same ordered = (
  heads_all head head' k ks (same k (omega (arith, one_same k))) (λ j some. same j (omega (arith, some))) ordered.0,
  heads_on head head' ks (λ j some. same j (omega (arith, some))) ordered.1,
)

standing_step : (b : Bool) → cond b 1 0 ≤ 1
standing_step true = omega arith
standing_step false = omega arith

pub standing-le : (queue : Queue) (lane : ℕ) (o : Option Waiting) → standing queue lane o ≤ 1
standing-le queue lane None = omega arith
standing-le queue lane (Some x) = standing_step (takes_from queue lane)

not_count : (j k : ℕ) (ks : List ℕ) → count k ks ≡ 0 → 0 < count j ks → j ≢ k
not_count j k ks none some e = let a = ap (λ i. count i ks) e in omega (arith, none, some, a)

-- ## A queue whose first task changes, and that stands nowhere before and after

pub laned_quiet : (queue queue' : ℕ → Queue) (head head' : ℕ → Option Waiting) (lists : List (List ℕ)) (k : ℕ) → Laned queue head lists →
    ((j : ℕ) → j ≢ k → queue' j ≡ queue j) → ((j : ℕ) → j ≢ k → head' j ≡ head j) →
    ((lane : ℕ) → standing (queue k) lane (head k) ≡ 0) → ((lane : ℕ) → standing (queue' k) lane (head' k) ≡ 0) → Laned queue' head' lists
laned_quiet queue queue' head head' lists k laned queues heads none none' =
    record {
      counts = λ j lane. ⊎_elim
          (λ (same : j ≡ k). let P : ℕ → Type 0 = λ i. count i (get_or lists lane []) ≡ standing (queue' i) lane (head' i) in subst P (sym same) (laned.counts k lane ∙ none lane ∙ sym (none' lane)))
          (λ (apart : j ≢ k). laned.counts j lane ∙ ap (λ c. standing c lane (head j)) (sym (queues j apart)) ∙ ap (standing (queue' j) lane) (sym (heads j apart)))
          (same_or_not j k);
      ordered = λ lane. heads_on head head' (get_or lists lane []) (λ j some. heads j (not_count j k (get_or lists lane []) (laned.counts k lane ∙ none lane) some)) (laned.ordered lane);
    }

-- ## A queue is put last

last_all : (head : ℕ → Option Waiting) (k j : ℕ) (js : List ℕ) → AllHeads head k js → HeadBefore (head k) (head j) → AllHeads head k (with_before None j js)
last_all head k j [] all last = (last, tt)
last_all head k j (i ∷ is) all last = (all.0, last_all head k j is all.1 last)

put_last : (head : ℕ → Option Waiting) (k : ℕ) (ks : List ℕ) → HeadsInOrder head ks → ((j : ℕ) → 0 < count j ks → HeadBefore (head j) (head k)) → HeadsInOrder head (with_before None k ks)
put_last head k [] ordered last = (tt, tt)
put_last head k (j ∷ js) ordered last =
    (last_all head j k js ordered.0 (last j (omega (arith, one_same j))), put_last head k js ordered.1 (λ i some. last i (omega (arith, some))))

pub counts_put : (queue queue' : ℕ → Queue) (head head' : ℕ → Option Waiting) (lists : List (List ℕ)) (k own : ℕ) (before : Option ℕ) → Laned queue head lists → own < length lists →
    ((j : ℕ) → j ≢ k → queue' j ≡ queue j) → ((j : ℕ) → j ≢ k → head' j ≡ head j) →
    ((lane : ℕ) → standing (queue k) lane (head k) ≡ 0) → ((lane : ℕ) → standing (queue' k) lane (head' k) ≡ one lane own) →
    (j lane : ℕ) → count j (get_or (set lists own (with_before before k (get_or lists own []))) lane []) ≡ standing (queue' j) lane (head' j)
counts_put queue queue' head head' lists k own before laned within queues heads none stands j lane =
    let xs : List ℕ = with_before before k (get_or lists own []) in
    let others : j ≢ k → count j (get_or lists lane []) ≡ standing (queue' j) lane (head' j) =
    λ apart. laned.counts j lane ∙ ap (λ c. standing c lane (head j)) (sym (queues j apart)) ∙ ap (standing (queue' j) lane) (sym (heads j apart)) in
    ⊎_elim
    (λ (at : lane ≡ own).
    let G : ℕ → Type 0 = λ l. count j (get_or (set lists own xs) l []) ≡ standing (queue' j) l (head' j) in
    subst G (sym at) (ap (count j) (get_or-set_same lists own xs [] within) ∙ count_with before j k (get_or lists own []) ∙ ⊎_elim
    (λ (same : j ≡ k). let P : ℕ → Type 0 = λ i. count i (get_or lists own []) + one i k ≡ standing (queue' i) own (head' i) in
    subst P (sym same) (let a = laned.counts k own in let b = none own in let d = stands own in let o = one_same k in let p = one_same own in omega (arith, a, b, d, o, p)))
    (λ (apart : j ≢ k). let Q : ℕ → Type 0 = λ l. count j (get_or lists l []) ≡ standing (queue' j) l (head' j) in
    let a = subst Q at (others apart) in let o = one_other j k apart in omega (arith, a, o))
    (same_or_not j k)))
    (λ (away : lane ≢ own). ap (count j) (get_or-set_other lists own lane xs [] away) ∙ ⊎_elim
    (λ (same : j ≡ k). let P : ℕ → Type 0 = λ i. count i (get_or lists lane []) ≡ standing (queue' i) lane (head' i) in
    subst P (sym same) (let a = laned.counts k lane in let b = none lane in let d = stands lane in let o = one_other lane own away in omega (arith, a, b, d, o)))
    (λ (apart : j ≢ k). others apart)
    (same_or_not j k))
    (same_or_not lane own)

pub laned_last : (queue queue' : ℕ → Queue) (head head' : ℕ → Option Waiting) (lists : List (List ℕ)) (k own : ℕ) → Laned queue head lists → own < length lists →
    ((j : ℕ) → j ≢ k → queue' j ≡ queue j) → ((j : ℕ) → j ≢ k → head' j ≡ head j) →
    ((lane : ℕ) → standing (queue k) lane (head k) ≡ 0) → ((lane : ℕ) → standing (queue' k) lane (head' k) ≡ one lane own) →
    ((j : ℕ) → 0 < count j (get_or lists own []) → HeadBefore (head' j) (head' k)) →
    Laned queue' head' (set lists own (with_before None k (get_or lists own [])))
laned_last queue queue' head head' lists k own laned within queues heads none stands last =
    let xs : List ℕ = with_before None k (get_or lists own []) in
    let on : (lane : ℕ) → HeadsInOrder head' (get_or lists lane []) = λ lane. heads_on head head' (get_or lists lane []) (λ j some. heads j (not_count j k (get_or lists lane []) (laned.counts k lane ∙ none lane) some)) (laned.ordered lane) in
    let H : List ℕ → Type 0 = HeadsInOrder head' in
    record {
      counts = counts_put queue queue' head head' lists k own None laned within queues heads none stands;
      ordered = λ lane. ⊎_elim
          (λ (at : lane ≡ own). let P : ℕ → Type 0 = λ l. HeadsInOrder head' (get_or (set lists own xs) l []) in
          subst P (sym at) (subst H (sym (get_or-set_same lists own xs [] within)) (put_last head' k (get_or lists own []) (on own) last)))
          (λ (away : lane ≢ own). subst H (sym (get_or-set_other lists own lane xs [] away)) (on lane))
          (same_or_not lane own);
    }

-- ## A queue leaves

all_without_step : (b : Bool) (head : ℕ → Option Waiting) (i x : ℕ) (js js' : List ℕ) → HeadBefore (head i) (head x) → AllHeads head i js' → AllHeads head i (cond b js' (x ∷ js'))
all_without_step true head i x js js' first rest = rest
all_without_step false head i x js js' first rest = (first, rest)

all_without : (head : ℕ → Option Waiting) (i k : ℕ) (js : List ℕ) → AllHeads head i js → AllHeads head i (without k js)
all_without head i k [] all = tt
all_without head i k (j ∷ js) all = all_without_step (nat_eq k j) head i j js (without k js) all.0 (all_without head i k js all.1)

heads_without_step : (b : Bool) (head : ℕ → Option Waiting) (x : ℕ) (js' : List ℕ) → AllHeads head x js' → HeadsInOrder head js' → HeadsInOrder head (cond b js' (x ∷ js'))
heads_without_step true head x js' all rest = rest
heads_without_step false head x js' all rest = (all, rest)

heads_without : (head : ℕ → Option Waiting) (k : ℕ) (ks : List ℕ) → HeadsInOrder head ks → HeadsInOrder head (without k ks)
heads_without head k [] ordered = tt
heads_without head k (j ∷ js) ordered = heads_without_step (nat_eq k j) head j (without k js) (all_without head j k js ordered.0) (heads_without head k js ordered.1)

pub laned_leaves : (queue queue' : ℕ → Queue) (head head' : ℕ → Option Waiting) (lists : List (List ℕ)) (k : ℕ) → Laned queue head lists →
    ((j : ℕ) → j ≢ k → queue' j ≡ queue j) → ((j : ℕ) → j ≢ k → head' j ≡ head j) → ((lane : ℕ) → standing (queue' k) lane (head' k) ≡ 0) → Laned queue' head' (map (without k) lists)
laned_leaves queue queue' head head' lists k laned queues heads none =
    let at : (lane : ℕ) → get_or (map (without k) lists) lane [] ≡ without k (get_or lists lane []) = λ lane. get_or-map (without k) lists lane [] in
    let H : List ℕ → Type 0 = HeadsInOrder head' in
    record {
      counts = λ j lane. ap (count j) (at lane) ∙ ⊎_elim
          (λ (same : j ≡ k). let P : ℕ → Type 0 = λ i. count i (without k (get_or lists lane [])) ≡ standing (queue' i) lane (head' i) in
          subst P (sym same) (count_without_same k (get_or lists lane []) ∙ sym (none lane)))
          (λ (apart : j ≢ k). count_without_other k j (get_or lists lane []) (λ e. apart (sym e)) ∙ laned.counts j lane ∙ ap (λ c. standing c lane (head j)) (sym (queues j apart)) ∙ ap (standing (queue' j) lane) (sym (heads j apart)))
          (same_or_not j k);
      ordered = λ lane. subst H (sym (at lane)) (heads_on head head' (without k (get_or lists lane []))
          (λ j some. heads j (not_count j k (without k (get_or lists lane [])) (count_without_same k (get_or lists lane [])) some))
          (heads_without head k (get_or lists lane []) (laned.ordered lane)));
    }

-- a queue that stands in no lane stands nowhere
pub stands_nowhere : (k : ℕ) (lists : List (List ℕ)) → ((lane : ℕ) → count k (get_or lists lane []) ≡ 0) → total k lists ≡ 0
stands_nowhere k [] none = refl
stands_nowhere k (l ∷ ls) none = let a = none 0 in omega (arith, a, stands_nowhere k ls (λ lane. none (suc lane)))
