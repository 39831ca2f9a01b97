-- Items of a list, by their numbers and by their values.
use Rattle.std.proofs.Common.{◌≡◌, ◌≢◌, refl, sym, ◌∙◌, ap, subst, ℕ, zero, suc, ◌+◌, ◌≤◌, ◌<◌, Bool, true, false, List, [], ◌∷◌, ◌++◌, map, get_or, set, cond, nat_eq, Option, Some, None, IsSome, arith}
use Rattle.std.proofs.Math.ListN.{get_or-map}
use Rattle.std.proofs.lemmas.List.{map-set, map-append, append-nil}
use Rattle.std.proofs.lemmas.Bool.Decides.{nat_tests}
use Rattle.vx_items.specs.Lists.{one, count, total, without, with_before}
use Rattle.vx_items.specs.Items.{Entry, value_in, or_else, value_at, leave_out, put_before, ids, first_id, entry_onto, entries, occupied}
use Rattle.vx_items.proofs.Counts.{one_same}

not_same_step : (b : Bool) (n : ℕ) → 0 < n → cond b 1 0 + n ≤ 1 → b ≡ false
not_same_step true n some once = absurd (omega (arith, some, once))
not_same_step false n some once = refl

not_same : (x y n : ℕ) → 0 < n → one x y + n ≤ 1 → nat_eq x y ≡ false
not_same x y n some once = not_same_step (nat_eq x y) n some once

module _ {T : Type 0} where
  -- only the value of one item differs
  abbrev pub SameBut : ℕ → List (Option T) → List (Option T) → Type 0
  SameBut x values values' = (y : ℕ) → y ≢ x → get_or values' y None ≡ get_or values y None

  -- each item of the list has a value
  abbrev pub AllFilled : List (Option T) → List ℕ → Type 0
  AllFilled values xs = (y : ℕ) → 0 < count y xs → occupied (get_or values y None) ≡ 1

  pub filled_behind : (values : List (Option T)) (x : ℕ) (xs : List ℕ) → AllFilled values (x ∷ xs) → AllFilled values xs
  filled_behind values x xs all y some = all y (omega (arith, some))

  pub entries_same : (x : ℕ) (values values' : List (Option T)) → SameBut x values values' → (xs : List ℕ) → count x xs ≡ 0 → entries values' xs ≡ entries values xs
  entries_same x values values' same [] none = refl
  entries_same x values values' same (y ∷ ys) none =
      let apart : y ≢ x = λ e. let o = ap (one x) e in omega (arith, none, one_same x, o) in
      ap (λ v. entry_onto y v (entries values' ys)) (same y apart) ∙ ap (entry_onto y (get_or values y None)) (entries_same x values values' same ys (omega (arith, none)))

  pub lists_same : (x : ℕ) (values values' : List (Option T)) → SameBut x values values' → (lists : List (List ℕ)) → total x lists ≡ 0 → map (entries values') lists ≡ map (entries values) lists
  lists_same x values values' same [] none = refl
  lists_same x values values' same (l ∷ ls) none =
      ap (λ es. es ∷ map (entries values') ls) (entries_same x values values' same l (omega (arith, none)))
      ∙ ap (λ rest. entries values l ∷ rest) (lists_same x values values' same ls (omega (arith, none)))

  leave_same : (x y : ℕ) (v : Option T) (es : List (Entry T)) → nat_eq x y ≡ true → leave_out x (entry_onto y v es) ≡ leave_out x es
  leave_same x y None es is = refl
  leave_same x y (Some v) es is = rw is

  leave_other : (x y : ℕ) (v : Option T) (es : List (Entry T)) → nat_eq x y ≡ false → leave_out x (entry_onto y v es) ≡ entry_onto y v (leave_out x es)
  leave_other x y None es is = refl
  leave_other x y (Some v) es is = rw is

  without_step : (b : Bool) (x y : ℕ) (values values' : List (Option T)) (ys : List ℕ) → nat_eq x y ≡ b → SameBut x values values' →
      entries values' (without x ys) ≡ leave_out x (entries values ys) →
      entries values' (cond b (without x ys) (y ∷ without x ys)) ≡ leave_out x (entry_onto y (get_or values y None) (entries values ys))
  without_step true x y values values' ys is same rest = rest ∙ sym (leave_same x y (get_or values y None) (entries values ys) is)
  without_step false x y values values' ys is same rest =
      let apart : y ≢ x = λ e. grind (arith, nat_tests, is, e) in
      ap (λ v. entry_onto y v (entries values' (without x ys))) (same y apart) ∙ ap (entry_onto y (get_or values y None)) rest
      ∙ sym (leave_other x y (get_or values y None) (entries values ys) is)

  pub entries_without : (x : ℕ) (values values' : List (Option T)) → SameBut x values values' → (xs : List ℕ) → entries values' (without x xs) ≡ leave_out x (entries values xs)
  entries_without x values values' same [] = refl
  entries_without x values values' same (y ∷ ys) = without_step (nat_eq x y) x y values values' ys refl same (entries_without x values values' same ys)

  pub lists_without : (x : ℕ) (values values' : List (Option T)) → SameBut x values values' → (lists : List (List ℕ)) → map (entries values') (map (without x) lists) ≡ map (leave_out x) (map (entries values) lists)
  lists_without x values values' same [] = refl
  lists_without x values values' same (l ∷ ls) =
      ap (λ es. es ∷ map (entries values') (map (without x) ls)) (entries_without x values values' same l)
      ∙ ap (λ rest. leave_out x (entries values l) ∷ rest) (lists_without x values values' same ls)

  -- ## An item is put into a list

  onto_some : (x : ℕ) (v : Option T) (value : T) (es : List (Entry T)) → v ≡ Some value → entry_onto x v es ≡ record { id = x; value = value } ∷ es
  onto_some x v value es is = ap (λ u. entry_onto x u es) is

  put_last_onto : (y : ℕ) (v : Option T) (e : Entry T) (es : List (Entry T)) → put_before None e (entry_onto y v es) ≡ entry_onto y v (put_before None e es)
  put_last_onto y None e es = refl
  put_last_onto y (Some v) e es = refl

  put_onto : (b : Bool) (z y item : ℕ) (v : Option T) (value : T) (ys : List ℕ) (es : List (Entry T)) (values : List (Option T)) → nat_eq z y ≡ b → occupied v ≡ 1 →
      v ≡ get_or values y None → get_or values item None ≡ Some value → entries values ys ≡ es →
      entries values (with_before (Some z) item ys) ≡ put_before (Some z) (record { id = item; value = value }) es →
      entries values (cond b (item ∷ y ∷ ys) (y ∷ with_before (Some z) item ys)) ≡ put_before (Some z) (record { id = item; value = value }) (entry_onto y v es)
  put_onto b z y item None value ys es values is some at there same rest = absurd (omega (arith, some))
  put_onto true z y item (Some w) value ys es values is some at there same rest =
      rw is (onto_some item _ value _ there ∙ ap (λ rest. record { id = item; value = value } ∷ rest) (onto_some y _ w _ (sym at) ∙ ap (λ zs. record { id = y; value = w } ∷ zs) same))
  put_onto false z y item (Some w) value ys es values is some at there same rest =
      rw is (onto_some y _ w _ (sym at) ∙ ap (λ zs. record { id = y; value = w } ∷ zs) rest)

  pub entries_put : (before : Option ℕ) (item : ℕ) (value : T) (values : List (Option T)) → get_or values item None ≡ Some value → (xs : List ℕ) → AllFilled values xs →
      entries values (with_before before item xs) ≡ put_before before (record { id = item; value = value }) (entries values xs)
  entries_put before item value values there [] all = onto_some item _ value [] there
  entries_put None item value values there (y ∷ ys) all =
      ap (entry_onto y (get_or values y None)) (entries_put None item value values there ys (filled_behind values y ys all))
      ∙ sym (put_last_onto y (get_or values y None) (record { id = item; value = value }) (entries values ys))
  entries_put (Some z) item value values there (y ∷ ys) all =
      put_onto (nat_eq z y) z y item (get_or values y None) value ys (entries values ys) values refl (all y (omega (arith, one_same y))) refl there refl
      (entries_put (Some z) item value values there ys (filled_behind values y ys all))

  pub lists_put : (before : Option ℕ) (item : ℕ) (value : T) (values : List (Option T)) (lists : List (List ℕ)) (list : ℕ) → get_or values item None ≡ Some value →
      AllFilled values (get_or lists list []) →
      map (entries values) (set lists list (with_before before item (get_or lists list [])))
      ≡ set (map (entries values) lists) list (put_before before (record { id = item; value = value }) (get_or (map (entries values) lists) list []))
  lists_put before item value values lists list there all =
      map-set (entries values) lists list (with_before before item (get_or lists list []))
      ∙ ap (set (map (entries values) lists) list)
      (entries_put before item value values there (get_or lists list []) all
      ∙ ap (put_before before (record { id = item; value = value })) (sym (get_or-map (entries values) lists list [])))

  pub put_at_end : (e : Entry T) (es : List (Entry T)) → put_before None e es ≡ es ++ e ∷ []
  put_at_end e [] = refl
  put_at_end e (f ∷ fs) = ap (λ rest. f ∷ rest) (put_at_end e fs)

  -- ## Values by number

  abbrev pub here : ℕ → Option T → Option T
  here zero v = None
  here (suc n) v = v

  here_none : (n : ℕ) → here n None ≡ None
  here_none zero = refl
  here_none (suc n) = refl

  in_onto_other : (x y : ℕ) (v : Option T) (es : List (Entry T)) → nat_eq x y ≡ false → value_in (entry_onto y v es) x ≡ value_in es x
  in_onto_other x y None es is = refl
  in_onto_other x y (Some v) es is = rw is

  in_onto_same : (x y n : ℕ) (v : Option T) (es : List (Entry T)) → nat_eq x y ≡ true → value_in es x ≡ here n v → value_in (entry_onto y v es) x ≡ v
  in_onto_same x y n None es is rest = rest ∙ here_none n
  in_onto_same x y n (Some v) es is rest = rw is

  in_step : (b : Bool) (x y n : ℕ) (values : List (Option T)) (es : List (Entry T)) → nat_eq x y ≡ b → value_in es x ≡ here n (get_or values x None) →
      value_in (entry_onto y (get_or values y None) es) x ≡ here (cond b 1 0 + n) (get_or values x None)
  in_step true x y n values es is rest =
      let e : x ≡ y = grind (arith, nat_tests, is) in
      let at : get_or values y None ≡ get_or values x None = ap (λ z. get_or values z None) (sym e) in
      let one_more : 1 + n ≡ suc n = omega arith in
      ap (λ v. value_in (entry_onto y v es) x) at ∙ in_onto_same x y n (get_or values x None) es is rest ∙ sym (ap (λ m. here m (get_or values x None)) one_more)
  in_step false x y n values es is rest =
      let no_more : 0 + n ≡ n = omega arith in
      in_onto_other x y (get_or values y None) es is ∙ rest ∙ sym (ap (λ m. here m (get_or values x None)) no_more)

  pub value_in_entries : (values : List (Option T)) (x : ℕ) (xs : List ℕ) → value_in (entries values xs) x ≡ here (count x xs) (get_or values x None)
  value_in_entries values x [] = refl
  value_in_entries values x (y ∷ ys) = in_step (nat_eq x y) x y (count x ys) values (entries values ys) refl (value_in_entries values x ys)

  here_both : (a b : ℕ) (v : Option T) → or_else (here a v) (here b v) ≡ here (a + b) v
  here_both zero b v = ap (λ m. here m v) (let e : b ≡ 0 + b = omega arith in e)
  here_both (suc a) zero None = ap (λ m. here m None) (let e : suc a ≡ suc a + 0 = omega arith in e)
  here_both (suc a) (suc b) None = sym (here_none (suc a + suc b))
  here_both (suc a) b (Some v) = ap (λ m. here m (Some v)) (let e : suc (a + b) ≡ suc a + b = omega arith in e)

  pub value_at_entries : (values : List (Option T)) (x : ℕ) (lists : List (List ℕ)) → value_at (map (entries values) lists) x ≡ here (total x lists) (get_or values x None)
  value_at_entries values x [] = refl
  value_at_entries values x (l ∷ ls) =
      ap (λ v. or_else v (value_at (map (entries values) ls) x)) (value_in_entries values x l)
      ∙ ap (or_else (here (count x l) (get_or values x None))) (value_at_entries values x ls)
      ∙ here_both (count x l) (total x ls) (get_or values x None)

  here_occupied : (v : Option T) → here (occupied v) v ≡ v
  here_occupied None = refl
  here_occupied (Some v) = refl

  pub value_is : (values : List (Option T)) (lists : List (List ℕ)) (x : ℕ) → total x lists ≡ occupied (get_or values x None) → value_at (map (entries values) lists) x ≡ get_or values x None
  value_is values lists x filled =
      value_at_entries values x lists ∙ ap (λ n. here n (get_or values x None)) filled ∙ here_occupied (get_or values x None)

  here_some : (n : ℕ) (v : Option T) → IsSome (here n v) → 0 < n
  here_some zero v some = cc
  here_some (suc n) v some = omega arith

  -- an item with a value in a list stands in it
  pub stands_in : (values : List (Option T)) (x : ℕ) (xs : List ℕ) → IsSome (value_in (entries values xs) x) → 0 < count x xs
  stands_in values x xs some =
      let S : Option T → Type 0 = IsSome in
      here_some (count x xs) (get_or values x None) (subst S (value_in_entries values x xs) some)

  -- ## No item stands in two places

  abbrev tail : List (Entry T) → List (Entry T)
  tail [] = []
  tail (e ∷ es) = es

  none_split : (before : List (Entry T)) (e : Entry T) (after : List (Entry T)) → [] ≡ before ++ e ∷ after → ⊥
  none_split [] e after is = cc
  none_split (f ∷ fs) e after is = cc

  in_some_step : (b : Bool) (v : T) (w : Option T) → IsSome w → IsSome (cond b (Some v) w)
  in_some_step true v w some = refl
  in_some_step false v w some = some

  abbrev first_value : List (Entry T) → Option T
  first_value [] = None
  first_value (e ∷ es) = Some e.value

  ids_onto : (y : ℕ) (v : Option T) (es : List (Entry T)) → occupied v ≡ 1 → ids (entry_onto y v es) ≡ y ∷ ids es
  ids_onto y None es some = absurd (omega (arith, some))
  ids_onto y (Some v) es some = refl

  pub ids_are : (values : List (Option T)) (xs : List ℕ) → AllFilled values xs → ids (entries values xs) ≡ xs
  ids_are values [] all = refl
  ids_are values (y ∷ ys) all =
      ids_onto y (get_or values y None) (entries values ys) (all y (omega (arith, one_same y)))
      ∙ ap (λ zs. y ∷ zs) (ids_are values ys (filled_behind values y ys all))

  -- the numbers of a list are split as its items are
  pub numbers_split : (values : List (Option T)) (xs : List ℕ) (before : List (Entry T)) (e : Entry T) (after : List (Entry T)) → AllFilled values xs →
      entries values xs ≡ before ++ e ∷ after → xs ≡ ids before ++ e.id ∷ ids after
  numbers_split values xs before e after all is = sym (ids_are values xs all) ∙ ap ids is ∙ map-append (λ (f : Entry T). f.id) before (e ∷ after)

  pub all_ids : (values : List (Option T)) (lists : List (List ℕ)) → ((y : ℕ) → 0 < total y lists → occupied (get_or values y None) ≡ 1) → map ids (map (entries values) lists) ≡ lists
  all_ids values [] all = refl
  all_ids values (l ∷ ls) all =
      ap (λ xs. xs ∷ map ids (map (entries values) ls)) (ids_are values l (λ y some. all y (omega (arith, some))))
      ∙ ap (λ xss. l ∷ xss) (all_ids values ls (λ y some. all y (omega (arith, some))))

  leave_none : (x : ℕ) (es : List (Entry T)) → count x (ids es) ≡ 0 → leave_out x es ≡ es
  leave_none x [] none = refl
  leave_none x (e ∷ es) none =
      let other : nat_eq x e.id ≡ false = grind (arith, nat_tests, none) in
      rw other (ap (λ fs. e ∷ fs) (leave_none x es (omega (arith, none))))

  count_here : (e : Entry T) (before after : List (Entry T)) → 0 < count e.id (ids (before ++ e ∷ after))
  count_here e [] after = omega (arith, one_same e.id)
  count_here e (f ∷ fs) after = omega (arith, count_here e fs after)

  leave_one : (e : Entry T) (before after : List (Entry T)) → count e.id (ids (before ++ e ∷ after)) ≤ 1 → leave_out e.id (before ++ e ∷ after) ≡ before ++ after
  leave_one e [] after once =
      let same : nat_eq e.id e.id ≡ true = grind (arith, nat_tests) in
      rw same (leave_none e.id after (omega (arith, once, one_same e.id)))
  leave_one e (f ∷ fs) after once =
      let here = count_here e fs after in
      let other : nat_eq e.id f.id ≡ false = not_same e.id f.id (count e.id (ids (fs ++ e ∷ after))) here once in
      rw other (ap (λ gs. f ∷ gs) (leave_one e fs after (omega (arith, once))))

  leave_lists : (x : ℕ) (lists : List (List (Entry T))) → total x (map ids lists) ≡ 0 → map (leave_out x) lists ≡ lists
  leave_lists x [] none = refl
  leave_lists x (l ∷ ls) none =
      ap (λ es. es ∷ map (leave_out x) ls) (leave_none x l (omega (arith, none))) ∙ ap (λ rest. l ∷ rest) (leave_lists x ls (omega (arith, none)))

  -- an item that is taken out leaves a gap in its list alone
  total_here : (e : Entry T) (lists : List (List (Entry T))) (list : ℕ) (before after : List (Entry T)) → get_or lists list [] ≡ before ++ e ∷ after → 0 < total e.id (map ids lists)
  total_here e [] list before after is = absurd (none_split before e after is)
  total_here e (l ∷ ls) zero before after is = let a = ap (λ es. count e.id (ids es)) is in omega (arith, a, count_here e before after)
  total_here e (l ∷ ls) (suc list) before after is = omega (arith, total_here e ls list before after is)

  pub leave_at : (e : Entry T) (lists : List (List (Entry T))) (list : ℕ) (before after : List (Entry T)) → total e.id (map ids lists) ≤ 1 → get_or lists list [] ≡ before ++ e ∷ after →
      map (leave_out e.id) lists ≡ set lists list (before ++ after)
  leave_at e [] list before after once is = absurd (none_split before e after is)
  leave_at e (l ∷ ls) zero before after once is =
      let c = count_here e before after in
      let here = ap (λ es. count e.id (ids es)) is in
      ap (λ es. es ∷ map (leave_out e.id) ls) (ap (leave_out e.id) is ∙ leave_one e before after (omega (arith, once, here)))
      ∙ ap (λ rest. (before ++ after) ∷ rest) (leave_lists e.id ls (omega (arith, once, here, c)))
  leave_at e (l ∷ ls) (suc list) before after once is =
      let c = total_here e ls list before after is in
      ap (λ es. es ∷ map (leave_out e.id) ls) (leave_none e.id l (omega (arith, once, c)))
      ∙ ap (λ rest. l ∷ rest) (leave_at e ls list before after (omega (arith, once)) is)

  pub in_some : (e : Entry T) (before after : List (Entry T)) → IsSome (value_in (before ++ e ∷ after) e.id)
  in_some e [] after = let same : nat_eq e.id e.id ≡ true = grind (arith, nat_tests) in rw same
  in_some e (f ∷ fs) after = in_some_step (nat_eq e.id f.id) f.value (value_in (fs ++ e ∷ after) e.id) (in_some e fs after)

  or_some : (v w : Option T) → IsSome w → IsSome (or_else v w)
  or_some None w some = some
  or_some (Some v) w some = refl

  or_first : (v w : Option T) → IsSome v → IsSome (or_else v w)
  or_first None w some = cc
  or_first (Some v) w some = refl

  -- an item of a list is there
  pub value_at_some : (e : Entry T) (lists : List (List (Entry T))) (list : ℕ) (before after : List (Entry T)) → get_or lists list [] ≡ before ++ e ∷ after → IsSome (value_at lists e.id)
  value_at_some e [] list before after is = absurd (none_split before e after is)
  value_at_some e (l ∷ ls) zero before after is =
      let S : List (Entry T) → Type 0 = λ es. IsSome (value_in es e.id) in
      or_first (value_in l e.id) (value_at ls e.id) (subst S (sym is) (in_some e before after))
  value_at_some e (l ∷ ls) (suc list) before after is = or_some (value_in l e.id) (value_at ls e.id) (value_at_some e ls list before after is)

  -- ## The value of an item, by its place

  at_onto : (values : List (Option T)) (y : ℕ) (v : Option T) (es : List (Entry T)) → get_or values y None ≡ v → (before : List (Entry T)) (e : Entry T) (after : List (Entry T)) → entry_onto y v es ≡ before ++ e ∷ after →
      ((before' : List (Entry T)) → es ≡ before' ++ e ∷ after → get_or values e.id None ≡ Some e.value) → get_or values e.id None ≡ Some e.value
  at_onto values y None es at before e after is later = later before is
  at_onto values y (Some v) es at [] e after is later =
      let first : Some y ≡ Some e.id = ap first_id is in
      let id : y ≡ e.id = cc in
      let read : Some v ≡ Some e.value = ap first_value is in
      ap (λ z. get_or values z None) (sym id) ∙ at ∙ read
  at_onto values y (Some v) es at (f ∷ fs) e after is later = later fs (ap tail is)

  entries_at : (values : List (Option T)) (e : Entry T) (xs : List ℕ) (before after : List (Entry T)) → entries values xs ≡ before ++ e ∷ after → get_or values e.id None ≡ Some e.value
  entries_at values e [] before after is = absurd (none_split before e after is)
  entries_at values e (y ∷ ys) before after is = at_onto values y (get_or values y None) (entries values ys) refl before e after is (λ before' later. entries_at values e ys before' after later)

  pub value_there : (values : List (Option T)) (e : Entry T) (lists : List (List ℕ)) (list : ℕ) (before after : List (Entry T)) → get_or (map (entries values) lists) list [] ≡ before ++ e ∷ after → get_or values e.id None ≡ Some e.value
  value_there values e lists list before after is = entries_at values e (get_or lists list []) before after (sym (get_or-map (entries values) lists list []) ∙ is)

  -- ## An item is put before another one

  put_first : (e b : Entry T) (bs : List (Entry T)) → put_before (Some b.id) e (b ∷ bs) ≡ e ∷ b ∷ bs
  put_first e b bs = let same : nat_eq b.id b.id ≡ true = grind (arith, nat_tests) in rw same

  put_behind : (e b f : Entry T) (fs bs : List (Entry T)) → count b.id (ids (f ∷ fs ++ b ∷ bs)) ≤ 1 → put_before (Some b.id) e (fs ++ b ∷ bs) ≡ fs ++ e ∷ b ∷ bs →
      put_before (Some b.id) e (f ∷ fs ++ b ∷ bs) ≡ f ∷ fs ++ e ∷ b ∷ bs
  put_behind e b f fs bs once rest =
      let other : nat_eq b.id f.id ≡ false = not_same b.id f.id (count b.id (ids (fs ++ b ∷ bs))) (count_here b fs bs) once in
      rw other (ap (λ gs. f ∷ gs) rest)

  put_at_first : (e b : Entry T) (fs bs : List (Entry T)) → count b.id (ids (fs ++ b ∷ bs)) ≤ 1 → put_before (Some b.id) e (fs ++ b ∷ bs) ≡ fs ++ e ∷ b ∷ bs
  put_at_first e b [] bs once = put_first e b bs
  put_at_first e b (f ∷ fs) bs once = put_behind e b f fs bs once (put_at_first e b fs bs (omega (arith, once)))

  -- where the one before which it is put begins the rest of a list, it is put in between
  pub put_at : (e : Entry T) (es front back : List (Entry T)) (before : Option ℕ) → ((x : ℕ) → count x (ids es) ≤ 1) → es ≡ front ++ back → before ≡ first_id back →
      put_before before e es ≡ front ++ e ∷ back
  put_at e es front [] before once is first =
      ap (λ (o : Option ℕ). put_before o e es) first ∙ put_at_end e es ∙ ap (λ fs. fs ++ e ∷ []) (is ∙ append-nil front)
  put_at e es front (b ∷ bs) before once is first =
      ap (λ (o : Option ℕ). put_before o e es) first ∙ ap (put_before (Some b.id) e) is
      ∙ put_at_first e b front bs (let a = ap (λ fs. count b.id (ids fs)) is in let o = once b.id in omega (arith, a, o))
