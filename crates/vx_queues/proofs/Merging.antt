-- The tasks of all queues in order are those of any list that is in order and has each queue's tasks as its own.
use Rattle.std.proofs.Common.{◌≡◌, ◌≢◌, refl, sym, ◌∙◌, ap, subst, ℕ, zero, suc, ◌<◌, Bool, true, false, List, [], ◌∷◌, ◌++◌, length, filter, get_or, set, cond, nat_eq, arith, ◌⊎◌, inl, inr, ⊎_elim}
use Rattle.std.proofs.lemmas.List.{get_or-set_same, get_or-set_other}
use Rattle.std.proofs.lemmas.Bool.{cases_Bool}
use Rattle.std.proofs.lemmas.Bool.Decides.{nat_tests}
use Rattle.vx_queues.specs.declared.queues.Waiting.{Waiting}
use Rattle.vx_queues.specs.Order.{before, is_of, put, sorted, flat, merged, AllAfter, InOrder, IsSplit}

-- of two tasks one comes first at most
pub comes_once : (a b : Waiting) → before a b ≡ true → before b a ≡ false
comes_once a b first = grind (arith, nat_tests, first)

pub after_both : (w : Waiting) (xs ys : List Waiting) → AllAfter w xs → AllAfter w ys → AllAfter w (xs ++ ys)
after_both w [] ys a b = b
after_both w (x ∷ xs) ys a b = (a.0, after_both w xs ys a.1 b)

pub after_front : (w : Waiting) (xs ys : List Waiting) → AllAfter w (xs ++ ys) → AllAfter w xs
after_front w [] ys a = tt
after_front w (x ∷ xs) ys a = (a.0, after_front w xs ys a.1)

pub after_back : (w : Waiting) (xs ys : List Waiting) → AllAfter w (xs ++ ys) → AllAfter w ys
after_back w [] ys a = a
after_back w (x ∷ xs) ys a = after_back w xs ys a.1

after_filter_step : (b : Bool) (w x : Waiting) (xs : List Waiting) → before w x ≡ true → AllAfter w xs → AllAfter w (cond b (x ∷ xs) xs)
after_filter_step true w x xs a rest = (a, rest)
after_filter_step false w x xs a rest = rest

pub after_filter : (w : Waiting) (p : Waiting → Bool) (xs : List Waiting) → AllAfter w xs → AllAfter w (filter p xs)
after_filter w p [] a = tt
after_filter w p (x ∷ xs) a = after_filter_step (p x) w x (filter p xs) a.0 (after_filter w p xs a.1)

after_put_step : (b : Bool) (w x y : Waiting) (ys zs : List Waiting) → before w x ≡ true → before w y ≡ true → AllAfter w ys → AllAfter w zs → AllAfter w (cond b (x ∷ y ∷ ys) (y ∷ zs))
after_put_step true w x y ys zs a b rest rest' = (a, (b, rest))
after_put_step false w x y ys zs a b rest rest' = (b, rest')

after_put : (w x : Waiting) (ys : List Waiting) → before w x ≡ true → AllAfter w ys → AllAfter w (put x ys)
after_put w x [] a rest = (a, tt)
after_put w x (y ∷ ys) a rest = after_put_step (before x y) w x y ys (put x ys) a rest.0 rest.1 (after_put w x ys a rest.1)

pub after_sorted : (w : Waiting) (xs : List Waiting) → AllAfter w xs → AllAfter w (sorted xs)
after_sorted w [] a = tt
after_sorted w (x ∷ xs) a = after_put w x (sorted xs) a.0 (after_sorted w xs a.1)

-- the first of all stands first
put_first : (w : Waiting) (ys : List Waiting) → AllAfter w ys → put w ys ≡ w ∷ ys
put_first w [] a = refl
put_first w (y ∷ ys) a = let first = a.0 in rw first

put_behind : (w a : Waiting) (ys : List Waiting) → before w a ≡ true → put a (w ∷ ys) ≡ w ∷ put a ys
put_behind w a ys first = let behind = comes_once w a first in rw behind

pub sorted_first : (w : Waiting) (xs ys : List Waiting) → AllAfter w (xs ++ ys) → sorted (xs ++ w ∷ ys) ≡ w ∷ sorted (xs ++ ys)
sorted_first w [] ys all = put_first w (sorted ys) (after_sorted w ys all)
sorted_first w (x ∷ xs) ys all = ap (put x) (sorted_first w xs ys all.1) ∙ put_behind w x (sorted (xs ++ ys)) all.0

-- ## Lists of lists

-- what stands before the first task of a list, and behind it
pub record FlatAt (lists : List (List Waiting)) (list : ℕ) (w : Waiting) (rest : List Waiting) : Type 0 where
  pub front : List Waiting
  pub back : List Waiting
  pub is : flat lists ≡ front ++ w ∷ back
  pub without : flat (set lists list rest) ≡ front ++ back

none_some : (w : Waiting) (rest : List Waiting) → [] ≡ w ∷ rest → ⊥
none_some w rest is = cc

append3 : (xs ys zs : List Waiting) → xs ++ (ys ++ zs) ≡ (xs ++ ys) ++ zs
append3 [] ys zs = refl
append3 (x ∷ xs) ys zs = ap (λ rest. x ∷ rest) (append3 xs ys zs)

pub flat_at : (lists : List (List Waiting)) (list : ℕ) (w : Waiting) (rest : List Waiting) → get_or lists list [] ≡ w ∷ rest → FlatAt lists list w rest
flat_at [] list w rest is = absurd (none_some w rest is)
flat_at (l ∷ ls) zero w rest is = record { front = []; back = rest ++ flat ls; is = ap (λ xs. xs ++ flat ls) is; without = refl }
flat_at (l ∷ ls) (suc list) w rest is =
    let at = flat_at ls list w rest is in
    record { front = l ++ at.front; back = at.back; is = ap (λ xs. l ++ xs) at.is ∙ append3 l at.front (w ∷ at.back); without = ap (λ xs. l ++ xs) at.without ∙ append3 l at.front at.back }

flat_none : (lists : List (List Waiting)) → ((k : ℕ) → get_or lists k [] ≡ []) → flat lists ≡ []
flat_none [] none = refl
flat_none (l ∷ ls) none = ap (λ xs. xs ++ flat ls) (none 0) ∙ flat_none ls (λ k. none (suc k))

after_flat : (w : Waiting) (lists : List (List Waiting)) → ((k : ℕ) → AllAfter w (get_or lists k [])) → AllAfter w (flat lists)
after_flat w [] all = tt
after_flat w (l ∷ ls) all = after_both w l (flat ls) (all 0) (after_flat w ls (λ k. all (suc k)))

within_list : (lists : List (List Waiting)) (k : ℕ) (w : Waiting) (rest : List Waiting) → get_or lists k [] ≡ w ∷ rest → k < length lists
within_list [] k w rest is = absurd (none_some w rest is)
within_list (l ∷ ls) zero w rest is = omega arith
within_list (l ∷ ls) (suc k) w rest is = omega (arith, within_list ls k w rest is)

-- ## The parts of a list

pub of_own : (w : Waiting) (ws : List Waiting) → filter (is_of w.queue) (w ∷ ws) ≡ w ∷ filter (is_of w.queue) ws
of_own w ws = let same : nat_eq w.queue w.queue ≡ true = grind (arith, nat_tests) in rw same

pub of_other : (k : ℕ) (w : Waiting) (ws : List Waiting) → k ≢ w.queue → filter (is_of k) (w ∷ ws) ≡ filter (is_of k) ws
of_other k w ws apart = let other : nat_eq k w.queue ≡ false = grind (arith, nat_tests, apart) in rw other

pub same_or_not : (x y : ℕ) → (x ≡ y) ⊎ (x ≢ y)
same_or_not x y =
    ⊎_elim
    (λ (same : nat_eq x y ≡ true). inl (grind (arith, nat_tests, same)))
    (λ (other : nat_eq x y ≡ false). inr (λ e. grind (arith, nat_tests, other, e)))
    (cases_Bool (nat_eq x y))

-- without the first task of all, the lists are those of the others
parts_behind : (w : Waiting) (ws : List Waiting) (lists : List (List Waiting)) → ((k : ℕ) → get_or lists k [] ≡ filter (is_of k) (w ∷ ws)) → (k : ℕ) →
    get_or (set lists w.queue (filter (is_of w.queue) ws)) k [] ≡ filter (is_of k) ws
parts_behind w ws lists parts k =
    ⊎_elim
    (λ (same : k ≡ w.queue).
    let P : ℕ → Type 0 = λ j. get_or (set lists w.queue (filter (is_of w.queue) ws)) j [] ≡ filter (is_of j) ws in
    subst P (sym same) (get_or-set_same lists w.queue (filter (is_of w.queue) ws) [] (within_list lists w.queue w (filter (is_of w.queue) ws) (parts w.queue ∙ of_own w ws))))
    (λ (apart : k ≢ w.queue).
    get_or-set_other lists w.queue k (filter (is_of w.queue) ws) [] apart ∙ parts k ∙ of_other k w ws apart)
    (same_or_not k w.queue)

pub merged_is : (ws : List Waiting) (lists : List (List Waiting)) → InOrder ws → ((k : ℕ) → get_or lists k [] ≡ filter (is_of k) ws) → merged lists ≡ ws
merged_is [] lists ordered parts = ap sorted (flat_none lists parts)
merged_is (w ∷ ws) lists ordered parts =
    let rest : List Waiting = filter (is_of w.queue) ws in
    let lists' : List (List Waiting) = set lists w.queue rest in
    let at = flat_at lists w.queue w rest (parts w.queue ∙ of_own w ws) in
    let parts' = parts_behind w ws lists parts in
    let A : List Waiting → Type 0 = AllAfter w in
    let all : A (flat lists') = after_flat w lists' (λ k. subst A (sym (parts' k)) (after_filter w (is_of k) ws ordered.0)) in
    ap sorted at.is ∙ sorted_first w at.front at.back (subst A at.without all) ∙ ap (λ xs. w ∷ sorted xs) (sym at.without) ∙ ap (λ xs. w ∷ xs) (merged_is ws lists' ordered.1 parts')

pub split_merged : (ws : List Waiting) (lists : List (List Waiting)) → IsSplit lists ws → IsSplit lists (merged lists)
split_merged ws lists split =
    let S : List Waiting → Type 0 = IsSplit lists in
    subst S (sym (merged_is ws lists split.in_order split.parts)) split
