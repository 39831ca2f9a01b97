-- How the lists of queues change as a task is added or taken.
use Rattle.std.proofs.Common.{◌≡◌, ◌≢◌, refl, sym, ◌∙◌, ap, subst, ℕ, zero, suc, ◌+◌, ◌<◌, Bool, true, false, List, [], ◌∷◌, ◌++◌, length, filter, get_or, set, cond, Option, Some, None, IsSome, is_none, arith, length-append, ⊎_elim}
use Rattle.std.proofs.lemmas.List.{get_or-set_same, get_or-set_other, length-map, map-set}
use Rattle.std.proofs.Math.ListN.{get_or-map, length-set}
use Rattle.std.proofs.lemmas.Bool.Decides.{nat_tests}
use Rattle.vx_items.specs.Items.{Entry, first_id, number_of}
use Rattle.vx_items.specs.declared.store.ItemId.{ItemId}
use Rattle.vx_queues.specs.declared.queues.Waiting.{Waiting}
use Rattle.vx_queues.specs.declared.queues.Queue.{Queue}
use Rattle.vx_queues.specs.Order.{before, is_of, AllAfter, InOrder, AllBefore, drop_first, IsSplit, merged}
use Rattle.vx_queues.specs.Stores.{values, all_values, IsKept, tail, has_some}
use Rattle.vx_queues.specs.Lanes.{first_of}
use Rattle.vx_queues.proofs.Merging.{merged_is, split_merged, same_or_not, of_own, of_other}

filter_push_step : (b : Bool) (x : Waiting) (xs ys zs : List Waiting) → ys ≡ xs ++ zs → cond b (x ∷ ys) ys ≡ cond b (x ∷ xs) xs ++ zs
filter_push_step true x xs ys zs is = ap (λ ws. x ∷ ws) is
filter_push_step false x xs ys zs is = is

filter_push : (p : Waiting → Bool) (ws : List Waiting) (x : Waiting) → filter p (ws ++ x ∷ []) ≡ filter p ws ++ filter p (x ∷ [])
filter_push p [] x = refl
filter_push p (w ∷ ws) x = filter_push_step (p w) w (filter p ws) (filter p (ws ++ x ∷ [])) (filter p (x ∷ [])) (filter_push p ws x)

after_push : (w : Waiting) (ws : List Waiting) (x : Waiting) → AllAfter w ws → before w x ≡ true → AllAfter w (ws ++ x ∷ [])
after_push w [] x all last = (last, tt)
after_push w (y ∷ ys) x all last = (all.0, after_push w ys x all.1 last)

order_push : (ws : List Waiting) (x : Waiting) → InOrder ws → AllBefore ws x → InOrder (ws ++ x ∷ [])
order_push [] x ordered last = (tt, tt)
order_push (w ∷ ws) x ordered last = (after_push w ws x ordered.0 last.0, order_push ws x ordered.1 last.1)

append_none : (xs : List Waiting) → xs ++ [] ≡ xs
append_none [] = refl
append_none (x ∷ xs) = ap (λ ys. x ∷ ys) (append_none xs)

-- a task is added at the end
pub split_push : (lists : List (List Waiting)) (ws : List Waiting) (x : Waiting) → IsSplit lists ws → x.queue < length lists → AllBefore ws x →
    IsSplit (set lists x.queue (get_or lists x.queue [] ++ x ∷ [])) (ws ++ x ∷ [])
split_push lists ws x split within last =
    record {
      in_order = order_push ws x split.in_order last;
      parts = λ k. ⊎_elim
          (λ (same : k ≡ x.queue).
          let P : ℕ → Type 0 = λ j. get_or (set lists x.queue (get_or lists x.queue [] ++ x ∷ [])) j [] ≡ filter (is_of j) (ws ++ x ∷ []) in
          subst P (sym same) (get_or-set_same lists x.queue _ [] within ∙ ap (λ xs. xs ++ x ∷ []) (split.parts x.queue) ∙ sym (filter_push (is_of x.queue) ws x ∙ ap (λ ys. filter (is_of x.queue) ws ++ ys) (of_own x []))))
          (λ (apart : k ≢ x.queue).
          get_or-set_other lists x.queue k _ [] apart ∙ split.parts k ∙ sym (filter_push (is_of k) ws x ∙ ap (λ ys. filter (is_of k) ws ++ ys) (of_other k x [] apart) ∙ append_none (filter (is_of k) ws)))
          (same_or_not k x.queue);
    }

drop_after_step : (b : Bool) (w x : Waiting) (xs ys : List Waiting) → before w x ≡ true → AllAfter w xs → AllAfter w ys → AllAfter w (cond b xs (x ∷ ys))
drop_after_step true w x xs ys a all rest = all
drop_after_step false w x xs ys a all rest = (a, rest)

drop_after : (w : Waiting) (k : ℕ) (ws : List Waiting) → AllAfter w ws → AllAfter w (drop_first k ws)
drop_after w k [] all = tt
drop_after w k (x ∷ xs) all = drop_after_step (is_of k x) w x xs (drop_first k xs) all.0 all.1 (drop_after w k xs all.1)

order_drop_step : (b : Bool) (x : Waiting) (xs ys : List Waiting) → InOrder (x ∷ xs) → AllAfter x ys → InOrder ys → InOrder (cond b xs (x ∷ ys))
order_drop_step true x xs ys ordered all rest = ordered.1
order_drop_step false x xs ys ordered all rest = (all, rest)

order_drop : (k : ℕ) (ws : List Waiting) → InOrder ws → InOrder (drop_first k ws)
order_drop k [] ordered = tt
order_drop k (x ∷ xs) ordered = order_drop_step (is_of k x) x xs (drop_first k xs) ordered (drop_after x k xs ordered.0) (order_drop k xs ordered.1)

-- the first task of a queue is taken
drop_own_step : (b : Bool) (k : ℕ) (w : Waiting) (ws : List Waiting) → is_of k w ≡ b → filter (is_of k) (drop_first k ws) ≡ tail (filter (is_of k) ws) →
    filter (is_of k) (cond b ws (w ∷ drop_first k ws)) ≡ tail (cond b (w ∷ filter (is_of k) ws) (filter (is_of k) ws))
drop_own_step true k w ws is rest = refl
drop_own_step false k w ws is rest = rw is rest

drop_own : (k : ℕ) (ws : List Waiting) → filter (is_of k) (drop_first k ws) ≡ tail (filter (is_of k) ws)
drop_own k [] = refl
drop_own k (w ∷ ws) = drop_own_step (is_of k w) k w ws refl (drop_own k ws)

drop_other_step : (b c : Bool) (k j : ℕ) (w : Waiting) (ws : List Waiting) → is_of k w ≡ b → is_of j w ≡ c → j ≢ k → filter (is_of j) (drop_first k ws) ≡ filter (is_of j) ws →
    filter (is_of j) (cond b ws (w ∷ drop_first k ws)) ≡ cond c (w ∷ filter (is_of j) ws) (filter (is_of j) ws)
drop_other_step true true k j w ws is js apart rest = absurd (apart (grind (arith, nat_tests, is, js)))
drop_other_step true false k j w ws is js apart rest = refl
drop_other_step false true k j w ws is js apart rest = rw js (ap (λ xs. w ∷ xs) rest)
drop_other_step false false k j w ws is js apart rest = rw js rest

drop_other : (k j : ℕ) (ws : List Waiting) → j ≢ k → filter (is_of j) (drop_first k ws) ≡ filter (is_of j) ws
drop_other k j [] apart = refl
drop_other k j (w ∷ ws) apart = drop_other_step (is_of k w) (is_of j w) k j w ws refl refl apart (drop_other k j ws apart)

pub split_drop : (lists : List (List Waiting)) (ws : List Waiting) (k : ℕ) → IsSplit lists ws → k < length lists → IsSplit (set lists k (tail (get_or lists k []))) (drop_first k ws)
split_drop lists ws k split within =
    record {
      in_order = order_drop k ws split.in_order;
      parts = λ j. ⊎_elim
          (λ (same : j ≡ k).
          let P : ℕ → Type 0 = λ i. get_or (set lists k (tail (get_or lists k []))) i [] ≡ filter (is_of i) (drop_first k ws) in
          subst P (sym same) (get_or-set_same lists k _ [] within ∙ ap tail (split.parts k) ∙ sym (drop_own k ws)))
          (λ (apart : j ≢ k). get_or-set_other lists k j _ [] apart ∙ split.parts j ∙ sym (drop_other k j ws apart))
          (same_or_not j k);
    }

-- ## Lists of entries

get_or_list : (lists : List (List Waiting)) (i : ℕ) → get_or (lists ++ [] ∷ []) i [] ≡ get_or lists i []
get_or_list [] zero = refl
get_or_list [] (suc i) = refl
get_or_list (y ∷ ys) zero = refl
get_or_list (y ∷ ys) (suc i) = get_or_list ys i

pub split_list : (lists : List (List Waiting)) (ws : List Waiting) → IsSplit lists ws → IsSplit (lists ++ [] ∷ []) ws
split_list lists ws split = record { in_order = split.in_order; parts = λ k. get_or_list lists k ∙ split.parts k }

-- the lists are those of these tasks
pub record KeptAs (queues : List Queue) (lists : List (List (Entry Waiting))) (ws : List Waiting) : Type 0 where
  pub one_each : length lists ≡ length queues
  pub split : IsSplit (all_values lists) ws

pub kept_as : (queues : List Queue) (lists : List (List (Entry Waiting))) (ws : List Waiting) → KeptAs queues lists ws → IsKept queues lists
kept_as queues lists ws kept = record { one_each = kept.one_each; split = split_merged ws (all_values lists) kept.split }

pub merged_as : (queues : List Queue) (lists : List (List (Entry Waiting))) (ws : List Waiting) → KeptAs queues lists ws → merged (all_values lists) ≡ ws
merged_as queues lists ws kept = merged_is ws (all_values lists) kept.split.in_order kept.split.parts

values_push : (es : List (Entry Waiting)) (e : Entry Waiting) → values (es ++ e ∷ []) ≡ values es ++ e.value ∷ []
values_push [] e = refl
values_push (f ∷ fs) e = ap (λ xs. f.value ∷ xs) (values_push fs e)

pub values_at : (lists : List (List (Entry Waiting))) (k : ℕ) → get_or (all_values lists) k [] ≡ values (get_or lists k [])
values_at lists k = get_or-map values lists k []

pub kept_put : (queues : List Queue) (lists lists' : List (List (Entry Waiting))) (ws : List Waiting) (id : ℕ) (item : Waiting) → KeptAs queues lists ws → item.queue < length queues → AllBefore ws item →
    lists' ≡ set lists item.queue (get_or lists item.queue [] ++ record { id = id; value = item } ∷ []) → KeptAs queues lists' (ws ++ item ∷ [])
kept_put queues lists lists' ws id item kept within last is =
    let k : ℕ = item.queue in
    let e : Entry Waiting = record { id = id; value = item } in
    let S : List (List Waiting) → Type 0 = λ ls. IsSplit ls (ws ++ item ∷ []) in
    let in_lists : k < length (all_values lists) = let a = length-map lists values in let b = kept.one_each in omega (arith, a, b, within) in
    let same : set (all_values lists) k (get_or (all_values lists) k [] ++ item ∷ []) ≡ all_values lists' =
    ap (λ xs. set (all_values lists) k (xs ++ item ∷ [])) (values_at lists k)
    ∙ ap (set (all_values lists) k) (sym (values_push (get_or lists k []) e))
    ∙ sym (map-set values lists k (get_or lists k [] ++ e ∷ []))
    ∙ sym (ap all_values is) in
    record {
      one_each = ap (λ (ls : List (List (Entry Waiting))). length ls) is ∙ length-set lists k _ ∙ kept.one_each;
      split = subst S same (split_push (all_values lists) ws item kept.split in_lists last);
    }

-- the first entry of a list
pub record Head (es : List (Entry Waiting)) (id : ℕ) : Type 0 where
  pub value : Waiting
  pub rest : List (Entry Waiting)
  pub is : es ≡ record { id = id; value = value } ∷ rest

pub head_of : (es : List (Entry Waiting)) (id : ℕ) → first_id es ≡ Some id → Head es id
head_of [] id is = absurd (cc)
head_of (e ∷ es) id is = let same : e.id ≡ id = cc in record { value = e.value; rest = es; is = ap (λ n. record { id = n; value = e.value } ∷ es) same }

pub head_at : (es : List (Entry Waiting)) (first : ItemId) (found : Option ItemId) → number_of found ≡ first_id es → found ≡ Some first → Head es first.0
head_at es first found ids is = head_of es first.0 (sym ids ∙ ap number_of is)

pub kept_take : (queues : List Queue) (lists lists' : List (List (Entry Waiting))) (ws : List Waiting) (k id : ℕ) (head : Head (get_or lists k []) id) → KeptAs queues lists ws → k < length queues →
    lists' ≡ set lists k head.rest → KeptAs queues lists' (drop_first k ws)
kept_take queues lists lists' ws k id head kept within is =
    let S : List (List Waiting) → Type 0 = λ ls. IsSplit ls (drop_first k ws) in
    let in_lists : k < length (all_values lists) = let a = length-map lists values in let b = kept.one_each in omega (arith, a, b, within) in
    let same : set (all_values lists) k (tail (get_or (all_values lists) k [])) ≡ all_values lists' =
    ap (λ xs. set (all_values lists) k (tail xs)) (values_at lists k ∙ ap values head.is)
    ∙ sym (map-set values lists k head.rest)
    ∙ sym (ap all_values is) in
    record {
      one_each = ap (λ (ls : List (List (Entry Waiting))). length ls) is ∙ length-set lists k _ ∙ kept.one_each;
      split = subst S same (split_drop (all_values lists) ws k kept.split in_lists);
    }

pub first_taken : (queues : List Queue) (lists : List (List (Entry Waiting))) (ws : List Waiting) (k id : ℕ) (head : Head (get_or lists k []) id) → KeptAs queues lists ws → first_of (filter (is_of k) ws) ≡ Some head.value
first_taken queues lists ws k id head kept = ap first_of (sym (kept.split.parts k) ∙ values_at lists k ∙ ap values head.is)

all_values_more : (lists : List (List (Entry Waiting))) → all_values (lists ++ [] ∷ []) ≡ all_values lists ++ [] ∷ []
all_values_more [] = refl
all_values_more (l ∷ ls) = ap (λ xs. values l ∷ xs) (all_values_more ls)

pub kept_list : (queues queues' : List Queue) (lists lists' : List (List (Entry Waiting))) (ws : List Waiting) → KeptAs queues lists ws → length queues' ≡ length queues + 1 → lists' ≡ lists ++ [] ∷ [] → KeptAs queues' lists' ws
kept_list queues queues' lists lists' ws kept len is =
    let S : List (List Waiting) → Type 0 = λ ls. IsSplit ls ws in
    record {
      one_each = let a = ap (λ (ls : List (List (Entry Waiting))). length ls) is in let b = length-append lists ([] ∷ []) in let d = kept.one_each in omega (arith, a, b, d, len);
      split = subst S (sym (ap all_values is ∙ all_values_more lists)) (split_list (all_values lists) ws kept.split);
    }

pub as_it_is : (queues : List Queue) (lists : List (List (Entry Waiting))) → IsKept queues lists → KeptAs queues lists (merged (all_values lists))
as_it_is queues lists kept = record { one_each = kept.one_each; split = kept.split }

no_value : (es : List (Entry Waiting)) → None ≡ first_id es → first_of (values es) ≡ None
no_value [] none = refl
no_value (e ∷ es) none = absurd (cc)

none_there : (es : List (Entry Waiting)) → None ≡ first_id es → es ≡ []
none_there [] none = refl
none_there (e ∷ es) none = absurd (cc)

has_none : (ws : List Waiting) → ws ≡ [] → has_some ws ≡ true → ⊥
has_none [] none some = cc
has_none (w ∷ ws) none some = cc

-- ## The values of lists that change

pub values_put : (lists lists' : List (List (Entry Waiting))) (id : ℕ) (item : Waiting) → lists' ≡ set lists item.queue (get_or lists item.queue [] ++ record { id = id; value = item } ∷ []) →
    set (all_values lists) item.queue (get_or (all_values lists) item.queue [] ++ item ∷ []) ≡ all_values lists'
values_put lists lists' id item is =
    let k : ℕ = item.queue in
    let e : Entry Waiting = record { id = id; value = item } in
    ap (λ xs. set (all_values lists) k (xs ++ item ∷ [])) (values_at lists k)
    ∙ ap (set (all_values lists) k) (sym (values_push (get_or lists k []) e))
    ∙ sym (map-set values lists k (get_or lists k [] ++ e ∷ []))
    ∙ sym (ap all_values is)

pub values_take : (lists lists' : List (List (Entry Waiting))) (k id : ℕ) (head : Head (get_or lists k []) id) → lists' ≡ set lists k head.rest → set (all_values lists) k (tail (get_or (all_values lists) k [])) ≡ all_values lists'
values_take lists lists' k id head is =
    ap (λ xs. set (all_values lists) k (tail xs)) (values_at lists k ∙ ap values head.is)
    ∙ sym (map-set values lists k head.rest)
    ∙ sym (ap all_values is)

pub values_list : (lists lists' : List (List (Entry Waiting))) → lists' ≡ lists ++ [] ∷ [] → all_values lists ++ [] ∷ [] ≡ all_values lists'
values_list lists lists' is = sym (ap all_values is ∙ all_values_more lists)

pub values_len : (lists : List (List (Entry Waiting))) (queues : List Queue) → length lists ≡ length queues → length (all_values lists) ≡ length queues
values_len lists queues is = length-map lists values ∙ is

none_first : (es : List (Entry Waiting)) → is_none (first_id es) ≡ is_none (first_of (values es))
none_first [] = refl
none_first (e ∷ es) = refl

-- whether a queue has no task
pub none_waits : (lists : List (List (Entry Waiting))) (k : ℕ) (found : Option ItemId) → number_of found ≡ first_id (get_or lists k []) → is_none (number_of found) ≡ is_none (first_of (get_or (all_values lists) k []))
none_waits lists k found is = ap (λ (o : Option ℕ). is_none o) is ∙ none_first (get_or lists k []) ∙ sym (ap (λ xs. is_none (first_of xs)) (values_at lists k))

pub head_value : (lists : List (List (Entry Waiting))) (k id : ℕ) (head : Head (get_or lists k []) id) → first_of (get_or (all_values lists) k []) ≡ Some head.value
head_value lists k id head = ap first_of (values_at lists k ∙ ap values head.is)

pub kept_queues : (queues queues' : List Queue) (lists : List (List (Entry Waiting))) (ws : List Waiting) → KeptAs queues lists ws → length queues' ≡ length queues → KeptAs queues' lists ws
kept_queues queues queues' lists ws kept same = record { one_each = kept.one_each ∙ sym same; split = kept.split }

-- the first task of a queue, by the first item of its list
pub no_head : (lists : List (List (Entry Waiting))) (k : ℕ) → None ≡ first_id (get_or lists k []) → first_of (get_or (all_values lists) k []) ≡ None
no_head lists k none = ap first_of (values_at lists k) ∙ no_value (get_or lists k []) none

pub head_is : (lists : List (List (Entry Waiting))) (k id : ℕ) (found : Waiting) → Some id ≡ first_id (get_or lists k []) →
    ((list : ℕ) (before after : List (Entry Waiting)) (task : Waiting) → get_or lists list [] ≡ before ++ record { id = id; value = task } ∷ after → found ≡ task) →
    first_of (get_or (all_values lists) k []) ≡ Some found
head_is lists k id found first read =
    let head = head_of (get_or lists k []) id (sym first) in
    head_value lists k id head ∙ ap Some (sym (read k [] head.rest head.value head.is))

-- where tasks of a queue wait there is a first one
pub some_first : (lists : List (List (Entry Waiting))) (ws : List Waiting) (k : ℕ) (found : Option ItemId) → IsSplit (all_values lists) ws → number_of found ≡ first_id (get_or lists k []) → has_some (filter (is_of k) ws) ≡ true → IsSome found
some_first lists ws k None split first some =
    let none : filter (is_of k) ws ≡ [] = sym (split.parts k) ∙ values_at lists k ∙ ap values (none_there (get_or lists k []) first) in
    absurd (has_none (filter (is_of k) ws) none some)
some_first lists ws k (Some item) split first some = refl

-- as many queues, with the same lists
pub kept_same : (queues queues' : List Queue) (lists : List (List (Entry Waiting))) → IsKept queues lists → length queues' ≡ length queues → IsKept queues' lists
kept_same queues queues' lists kept same = record { one_each = kept.one_each ∙ sym same; split = kept.split }
