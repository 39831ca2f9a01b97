-- How a store keeps its values in lists.
use Rattle.std.proofs.Common.{◌≡◌, ◌≢◌, refl, sym, ◌∙◌, ap, subst, ℕ, zero, suc, ◌+◌, ◌≤◌, ◌<◌, true, false, List, [], ◌∷◌, ◌++◌, length, map, get_or, set, nat_eq, Option, Some, None, IsSome, IfSome, option_to_list, arith, length-append, ◌⊎◌, inl, inr, ⊎_elim}
use Rattle.std.proofs.Math.ListN.{length-set, get_or-map}
use Rattle.std.proofs.lemmas.List.{get_or-set_same, get_or-set_other, get_or_past, get_or_default, length-map}
use Rattle.std.proofs.lemmas.Bool.{cases_Bool}
use Rattle.std.proofs.lemmas.Bool.Decides.{nat_tests}
use Rattle.vx_items.specs.Lists.{one, count, total, total_len, without, with_before, HasBefore}
use Rattle.vx_items.specs.Rings.{Rings}
use Rattle.vx_items.specs.declared.store.ItemId.{ItemId}
use Rattle.vx_items.specs.Items.{number_of, Entry, occupied, IsStored, entries, entry_onto, value_at, value_in, put_before, leave_out, ids, item_count, first_id, StandsIn, StandsBefore}
use Rattle.vx_items.proofs.Counts.{one_same, one_other, one-le, count-append, count-le-total, total_with, total_len_with, total_without_same, total_without_other, total_len_without, total_more, total_len_more, total-le-len, total_left, count_without_other}
use Rattle.vx_items.proofs.Entries.{SameBut, AllFilled, value_is, lists_same, lists_without, lists_put, stands_in, ids_are, all_ids, leave_at, put_at, value_there}

pub same_or_not : (x y : ℕ) → (x ≡ y) ⊎ (x ≢ y)
same_or_not x y =
    ⊎_elim
    (λ (same : nat_eq x y ≡ true). inl (grind (arith, nat_tests, same)))
    (λ (other : nat_eq x y ≡ false). inr (λ e. grind (arith, nat_tests, other, e)))
    (cases_Bool (nat_eq x y))

pub not_yet : (n c : ℕ) → (0 < c → n < n) → c ≡ 0
not_yet n zero h = refl
not_yet n (suc c) h = absurd (let a = h (omega arith) in omega (arith, a))

not_both : (a b : ℕ) → (0 < a → b ≡ 0) → 0 < b → a ≡ 0
not_both zero b h some = refl
not_both (suc a) b h some = absurd (let e = h (omega arith) in omega (arith, e, some))

module _ {T : Type 0} where
  occupied-le : (v : Option T) → occupied v ≤ 1
  occupied-le None = omega arith
  occupied-le (Some v) = omega arith

  pub occupied_some : (v : Option T) → 0 < occupied v → IsSome v
  occupied_some None some = absurd (omega (arith, some))
  occupied_some (Some v) some = refl

  pub some_occupied : (v : Option T) → IsSome v → occupied v ≡ 1
  some_occupied None some = cc
  some_occupied (Some v) some = refl

  pub none_occupied : (v : Option T) → occupied v ≡ 0 → v ≡ None
  none_occupied None none = refl
  none_occupied (Some v) none = absurd (omega (arith, none))

  pub all_filled : (values : List (Option T)) (free : List ℕ) (capacity : ℕ) (links : Rings) → IsStored values free capacity links → (list : ℕ) → AllFilled values (get_or links.lists list [])
  all_filled values free capacity links stored list y some =
      let a = stored.filled y in let b = count-le-total y links.lists list in let d = occupied-le (get_or values y None) in omega (arith, a, b, d, some)

  -- what contracts say of an item, and what the store has
  pub at_is : (values : List (Option T)) (free : List ℕ) (capacity : ℕ) (links : Rings) → IsStored values free capacity links → (x : ℕ) → value_at (map (entries values) links.lists) x ≡ get_or values x None
  at_is values free capacity links stored x = value_is values links.lists x (stored.filled x)

  pub record Here (values : List (Option T)) (links : Rings) (x : ℕ) : Type 0 where
    pub some : IsSome (get_or values x None)
    pub stands : 0 < total x links.lists
    pub within : x < length values

  some_within : (values : List (Option T)) (x : ℕ) → IsSome (get_or values x None) → x < length values
  some_within [] x some = cc
  some_within (v ∷ vs) zero some = omega arith
  some_within (v ∷ vs) (suc x) some = let h = some_within vs x some in omega (arith, h)

  pub is_here : (values : List (Option T)) (free : List ℕ) (capacity : ℕ) (links : Rings) → IsStored values free capacity links → (x : ℕ) → IsSome (value_at (map (entries values) links.lists) x) → Here values links x
  is_here values free capacity links stored x some =
      let S : Option T → Type 0 = IsSome in
      let there = subst S (at_is values free capacity links stored x) some in
      let o = some_occupied (get_or values x None) there in
      let f = stored.filled x in
      record { some = there; stands = omega (arith, o, f); within = some_within values x there }

  pub set_same_but : (x : ℕ) (v : Option T) (values : List (Option T)) → SameBut x values (set values x v)
  set_same_but x v values y apart = get_or-set_other values x y v None apart

  pub stored_add : (values : List (Option T)) (free : List ℕ) (capacity : ℕ) (links links' : Rings) (item list : ℕ) (before : Option ℕ) (value : T) → IsStored values (free ++ item ∷ []) capacity links → list < length links.lists →
      links'.lists ≡ set links.lists list (with_before before item (get_or links.lists list [])) → links'.places ≡ links.places →
      IsStored (set values item (Some value)) free capacity links'
  stored_add values free capacity links links' item list before value stored within lists_is places_is =
      let counts : (x : ℕ) → count x (free ++ item ∷ []) ≡ count x free + (one x item + 0) = λ x. count-append x free (item ∷ []) in
      let totals : (x : ℕ) → total x links'.lists ≡ total x links.lists + one x item = λ x. ap (total x) lists_is ∙ total_with x item before links.lists list within in
      let here : 0 < count item (free ++ item ∷ []) = let a = counts item in let o = one_same item in omega (arith, a, o) in
      let in_values : item < length values = stored.within item here in
      let len : length (set values item (Some value)) ≡ length values = length-set values item (Some value) in
      let free_len = length-append free (item ∷ []) in
      record {
        filled = λ x. ⊎_elim
            (λ (same : x ≡ item).
            let F : ℕ → Type 0 = λ y. total y links'.lists ≡ occupied (get_or (set values item (Some value)) y None) in
            subst F (sym same) (let a = totals item in let b = stored.vacant item here in let o = one_same item in
            let v = ap occupied (get_or-set_same values item (Some value) None in_values) in omega (arith, a, b, o, v)))
            (λ (apart : x ≢ item). let a = totals x in let b = stored.filled x in let o = one_other x item apart in
            let v = ap occupied (get_or-set_other values item x (Some value) None apart) in omega (arith, a, b, o, v))
            (same_or_not x item);
        vacant = λ x some. let a = totals x in let b = counts x in let d = stored.once x in let e = stored.vacant x (omega (arith, b, some)) in omega (arith, a, b, d, e, some);
        once = λ x. let b = counts x in let d = stored.once x in omega (arith, b, d);
        within = λ x some. let b = counts x in let h = stored.within x (omega (arith, b, some)) in omega (arith, h, len);
        places = let a = stored.places in omega (arith, a, len, places_is);
        len = let a = stored.len in let b = ap total_len lists_is in let d = total_len_with item before links.lists list within in omega (arith, a, b, d, len, free_len);
        capacity_fits = let a = stored.capacity_fits in omega (arith, a, len);
      }

  none_more : (values : List (Option T)) (x : ℕ) → get_or (values ++ None ∷ []) x None ≡ get_or values x None
  none_more [] zero = refl
  none_more [] (suc x) = refl
  none_more (v ∷ vs) zero = refl
  none_more (v ∷ vs) (suc x) = none_more vs x

  pub entries_more : (values : List (Option T)) (xs : List ℕ) → entries (values ++ None ∷ []) xs ≡ entries values xs
  entries_more values [] = refl
  entries_more values (y ∷ ys) =
      ap (λ v. entry_onto y v (entries (values ++ None ∷ []) ys)) (none_more values y) ∙ ap (entry_onto y (get_or values y None)) (entries_more values ys)

  pub lists_more : (values : List (Option T)) (lists : List (List ℕ)) → map (entries (values ++ None ∷ [])) lists ≡ map (entries values) lists
  lists_more values [] = refl
  lists_more values (l ∷ ls) = ap (λ es. es ∷ map (entries (values ++ None ∷ [])) ls) (entries_more values l) ∙ ap (λ rest. entries values l ∷ rest) (lists_more values ls)

  pub stored_place : (values : List (Option T)) (free : List ℕ) (capacity capacity' : ℕ) (links links' : Rings) → IsStored values free capacity links →
      links'.lists ≡ links.lists → length values + 1 ≤ links'.places → length values + 1 ≤ capacity' →
      IsStored (values ++ None ∷ []) (free ++ length values ∷ []) capacity' links'
  stored_place values free capacity capacity' links links' stored lists_is places enough =
      let n : ℕ = length values in
      let len : length (values ++ None ∷ []) ≡ n + 1 = length-append values (None ∷ []) in
      let counts : (x : ℕ) → count x (free ++ n ∷ []) ≡ count x free + (one x n + 0) = λ x. count-append x free (n ∷ []) in
      let totals : (x : ℕ) → total x links'.lists ≡ total x links.lists = λ x. ap (total x) lists_is in
      let past : occupied (get_or values n None) ≡ 0 = ap occupied (get_or_past values n None (omega arith)) in
      record {
        filled = λ x. let a = totals x in let b = stored.filled x in let d = ap occupied (none_more values x) in omega (arith, a, b, d);
        vacant = λ x some. ⊎_elim
            (λ (same : x ≡ n). let Z : ℕ → Type 0 = λ y. total y links'.lists ≡ 0 in subst Z (sym same) (let a = totals n in let b = stored.filled n in omega (arith, a, b, past)))
            (λ (apart : x ≢ n). let a = totals x in let b = counts x in let o = one_other x n apart in let e = stored.vacant x (omega (arith, b, o, some)) in omega (arith, a, e))
            (same_or_not x n);
        once = λ x. ⊎_elim
            (λ (same : x ≡ n). let Z : ℕ → Type 0 = λ y. count y (free ++ n ∷ []) ≤ 1 in subst Z (sym same)
            (let b = counts n in let o = one-le n n in let e : count n free ≡ 0 = not_yet n (count n free) (stored.within n) in omega (arith, b, o, e)))
            (λ (apart : x ≢ n). let b = counts x in let o = one_other x n apart in let d = stored.once x in omega (arith, b, o, d))
            (same_or_not x n);
        within = λ x some. ⊎_elim
            (λ (same : x ≡ n). omega (arith, same, len))
            (λ (apart : x ≢ n). let b = counts x in let o = one_other x n apart in let e = stored.within x (omega (arith, b, o, some)) in omega (arith, e, len))
            (same_or_not x n);
        places = omega (arith, places, len);
        len = let a = stored.len in let b = ap total_len lists_is in let d = length-append free (n ∷ []) in omega (arith, a, b, d, len);
        capacity_fits = omega (arith, enough, len);
      }

  pub stored_list : (values : List (Option T)) (free : List ℕ) (capacity : ℕ) (links links' : Rings) → IsStored values free capacity links → links'.lists ≡ links.lists ++ [] ∷ [] → links'.places ≡ links.places →
      IsStored values free capacity links'
  stored_list values free capacity links links' stored lists_is places_is =
      let totals : (x : ℕ) → total x links'.lists ≡ total x links.lists = λ x. ap (total x) lists_is ∙ total_more x links.lists in
      record {
        filled = λ x. totals x ∙ stored.filled x;
        vacant = λ x some. totals x ∙ stored.vacant x some;
        once = stored.once;
        within = stored.within;
        places = let a = stored.places in omega (arith, a, places_is);
        len = let a = stored.len in let b = ap total_len lists_is in let d = total_len_more links.lists in omega (arith, a, b, d);
        capacity_fits = stored.capacity_fits;
      }

  -- what stays while an item is taken out
  pub record Leaves (values : List (Option T)) (free : List ℕ) (capacity : ℕ) (item : ℕ) : Type 0 where
    pub room : length free < capacity
    pub not_free : count item free ≡ 0

  pub leaves : (values : List (Option T)) (free : List ℕ) (capacity : ℕ) (links : Rings) (item : ℕ) → IsStored values free capacity links → 0 < total item links.lists → Leaves values free capacity item
  leaves values free capacity links item stored stands =
      record {
        room = let a = stored.len in let b = total-le-len item links.lists in let d = stored.capacity_fits in omega (arith, a, b, d, stands);
        not_free = not_both (count item free) (total item links.lists) (stored.vacant item) stands;
      }

  pub stored_remove : (values : List (Option T)) (free : List ℕ) (capacity capacity' : ℕ) (links links' : Rings) (item : ℕ) → IsStored values free capacity links → 0 < total item links.lists → item < length values →
      links'.lists ≡ map (without item) links.lists → links'.places ≡ links.places → length values ≤ capacity' →
      IsStored (set values item None) (free ++ item ∷ []) capacity' links'
  stored_remove values free capacity capacity' links links' item stored stands in_values lists_is places_is enough =
      let counts : (x : ℕ) → count x (free ++ item ∷ []) ≡ count x free + (one x item + 0) = λ x. count-append x free (item ∷ []) in
      let len : length (set values item None) ≡ length values = length-set values item None in
      let none : total item links'.lists ≡ 0 = ap (total item) lists_is ∙ total_without_same item links.lists in
      let others : (x : ℕ) → x ≢ item → total x links'.lists ≡ total x links.lists = λ x apart. ap (total x) lists_is ∙ total_without_other item x links.lists (λ e. apart (sym e)) in
      let left = leaves values free capacity links item stored stands in
      record {
        filled = λ x. ⊎_elim
            (λ (same : x ≡ item).
            let F : ℕ → Type 0 = λ y. total y links'.lists ≡ occupied (get_or (set values item None) y None) in
            subst F (sym same) (none ∙ sym (ap occupied (get_or-set_same values item None None in_values))))
            (λ (apart : x ≢ item). others x apart ∙ stored.filled x ∙ sym (ap occupied (get_or-set_other values item x None None apart)))
            (same_or_not x item);
        vacant = λ x some. ⊎_elim
            (λ (same : x ≡ item). let Z : ℕ → Type 0 = λ y. total y links'.lists ≡ 0 in subst Z (sym same) none)
            (λ (apart : x ≢ item). let b = counts x in let o = one_other x item apart in others x apart ∙ stored.vacant x (omega (arith, b, o, some)))
            (same_or_not x item);
        once = λ x. ⊎_elim
            (λ (same : x ≡ item). let Z : ℕ → Type 0 = λ y. count y (free ++ item ∷ []) ≤ 1 in subst Z (sym same) (let b = counts item in let o = one-le item item in let e = left.not_free in omega (arith, b, o, e)))
            (λ (apart : x ≢ item). let b = counts x in let o = one_other x item apart in let d = stored.once x in omega (arith, b, o, d))
            (same_or_not x item);
        within = λ x some. ⊎_elim
            (λ (same : x ≡ item). omega (arith, same, len, in_values))
            (λ (apart : x ≢ item). let b = counts x in let o = one_other x item apart in let e = stored.within x (omega (arith, b, o, some)) in omega (arith, e, len))
            (same_or_not x item);
        places = let a = stored.places in omega (arith, a, len, places_is);
        len = let a = stored.len in let b = ap total_len lists_is in let d = total_len_without item links.lists in let e = length-append free (item ∷ []) in
            let f = stored.filled item in let g = occupied-le (get_or values item None) in omega (arith, a, b, d, e, f, g, len, stands);
        capacity_fits = omega (arith, enough, len);
      }

  pub stored_move : (values : List (Option T)) (free : List ℕ) (capacity : ℕ) (links links' : Rings) (item list : ℕ) (before : Option ℕ) → IsStored values free capacity links → 0 < total item links.lists → list < length links.lists →
      links'.lists ≡ set (map (without item) links.lists) list (with_before before item (get_or (map (without item) links.lists) list [])) → links'.places ≡ links.places →
      IsStored values free capacity links'
  stored_move values free capacity links links' item list before stored stands within lists_is places_is =
      let in_lists : list < length (map (without item) links.lists) = let a = length-map links.lists (without item) in omega (arith, a, within) in
      let f = stored.filled item in
      let g = occupied-le (get_or values item None) in
      let totals : (x : ℕ) → total x links'.lists ≡ total x links.lists = λ x. ap (total x) lists_is ∙ total_with x item before (map (without item) links.lists) list in_lists ∙ ⊎_elim
      (λ (same : x ≡ item). let Z : ℕ → Type 0 = λ y. total y (map (without item) links.lists) + one y item ≡ total y links.lists in subst Z (sym same)
      (let a = total_without_same item links.lists in let o = one_same item in omega (arith, a, o, f, g, stands)))
      (λ (apart : x ≢ item). let a = total_without_other item x links.lists (λ e. apart (sym e)) in let o = one_other x item apart in omega (arith, a, o))
      (same_or_not x item) in
      record {
        filled = λ x. totals x ∙ stored.filled x;
        vacant = λ x some. totals x ∙ stored.vacant x some;
        once = stored.once;
        within = stored.within;
        places = let a = stored.places in omega (arith, a, places_is);
        len = let a = stored.len in let b = ap total_len lists_is in let d = total_len_with item before (map (without item) links.lists) list in_lists in let e = total_len_without item links.lists in omega (arith, a, b, d, e, f, g, stands);
        capacity_fits = stored.capacity_fits;
      }

  -- ## What contracts see

  pub stored_popped : (values : List (Option T)) (free free' : List ℕ) (capacity capacity' : ℕ) (links : Rings) (item : ℕ) (popped : Option ℕ) → IsStored values free capacity links →
      free ≡ free' ++ option_to_list popped → popped ≡ Some item → capacity' ≡ capacity → IsStored values (free' ++ item ∷ []) capacity' links
  stored_popped values free free' capacity capacity' links item popped stored is some same =
      let P : List ℕ → Type 0 = λ zs. IsStored values zs capacity' links in
      let Q : ℕ → Type 0 = λ n. IsStored values free n links in
      subst P (is ∙ ap (λ (o : Option ℕ). free' ++ option_to_list o) some) (subst Q (sym same) stored)

  pub record NewItem (values : List (Option T)) (links : Rings) (item : ℕ) : Type 0 where
    pub within : item < length values
    pub place : item < links.places
    pub new : total item links.lists ≡ 0
    pub room : total_len links.lists < links.places
    pub none : get_or values item None ≡ None

  pub new_item : (values : List (Option T)) (free : List ℕ) (capacity : ℕ) (links : Rings) (item : ℕ) → IsStored values (free ++ item ∷ []) capacity links → NewItem values links item
  new_item values free capacity links item stored =
      let counts = count-append item free (item ∷ []) in
      let o = one_same item in
      let here : 0 < count item (free ++ item ∷ []) = omega (arith, counts, o) in
      let w = stored.within item here in
      let v = stored.vacant item here in
      let p = stored.places in
      let l = stored.len in
      let n = length-append free (item ∷ []) in
      record { within = w; place = omega (arith, w, p); new = v; room = omega (arith, l, n, p); none = none_occupied (get_or values item None) (let f = stored.filled item in omega (arith, f, v)) }

  filled_still : (values : List (Option T)) (free : List ℕ) (capacity : ℕ) (links : Rings) (item list : ℕ) (value : T) → IsStored values (free ++ item ∷ []) capacity links → AllFilled (set values item (Some value)) (get_or links.lists list [])
  filled_still values free capacity links item list value stored y some =
      let new = (new_item values free capacity links item stored).new in
      let apart : y ≢ item = λ e. let t = ap (λ z. count z (get_or links.lists list [])) e in let a = count-le-total item links.lists list in omega (arith, some, t, a, new) in
      ap occupied (get_or-set_other values item y (Some value) None apart) ∙ all_filled values (free ++ item ∷ []) capacity links stored list y some

  pub listed : (values : List (Option T)) (free : List ℕ) (capacity : ℕ) (links links' : Rings) (item list : ℕ) (before : Option ℕ) (value : T) → IsStored values (free ++ item ∷ []) capacity links → list < length links.lists →
      links'.lists ≡ set links.lists list (with_before before item (get_or links.lists list [])) →
      map (entries (set values item (Some value))) links'.lists
      ≡ set (map (entries values) links.lists) list (put_before before (record { id = item; value = value }) (get_or (map (entries values) links.lists) list []))
  listed values free capacity links links' item list before value stored within lists_is =
      let values' : List (Option T) = set values item (Some value) in
      let new = new_item values free capacity links item stored in
      let same = lists_same item values values' (set_same_but item (Some value) values) links.lists new.new in
      ap (map (entries values')) lists_is
      ∙ lists_put before item value values' links.lists list (get_or-set_same values item (Some value) None new.within) (filled_still values free capacity links item list value stored)
      ∙ ap (λ (ls : List (List (Entry T))). set ls list (put_before before (record { id = item; value = value }) (get_or ls list []))) same

  -- no item stands twice in a list
  pub once_in : (values : List (Option T)) (free : List ℕ) (capacity : ℕ) (links : Rings) → IsStored values free capacity links → (list x : ℕ) → count x (ids (get_or (map (entries values) links.lists) list [])) ≤ 1
  once_in values free capacity links stored list x =
      let numbers = ap ids (get_or-map (entries values) links.lists list []) ∙ ids_are values (get_or links.lists list []) (all_filled values free capacity links stored list) in
      let a = ap (count x) numbers in
      let b = count-le-total x links.lists list in
      let f = stored.filled x in
      let d = occupied-le (get_or values x None) in
      omega (arith, a, b, f, d)

  filled_without : (values : List (Option T)) (free : List ℕ) (capacity : ℕ) (links : Rings) (item list : ℕ) → IsStored values free capacity links → AllFilled values (get_or (map (without item) links.lists) list [])
  filled_without values free capacity links item list stored y some =
      let f = stored.filled y in
      let a = count-le-total y (map (without item) links.lists) list in
      let b = total_left item y links.lists in
      let d = occupied-le (get_or values y None) in
      omega (arith, some, f, a, b, d)

  pub moved : (values : List (Option T)) (free : List ℕ) (capacity : ℕ) (links links' : Rings) (item list : ℕ) (before : Option ℕ) (value : T) → IsStored values free capacity links → get_or values item None ≡ Some value →
      links'.lists ≡ set (map (without item) links.lists) list (with_before before item (get_or (map (without item) links.lists) list [])) →
      map (entries values) links'.lists
      ≡ set (map (leave_out item) (map (entries values) links.lists)) list (put_before before (record { id = item; value = value }) (get_or (map (leave_out item) (map (entries values) links.lists)) list []))
  moved values free capacity links links' item list before value stored there lists_is =
      let left = lists_without item values values (λ y apart. refl) links.lists in
      ap (map (entries values)) lists_is
      ∙ lists_put before item value values (map (without item) links.lists) list there (filled_without values free capacity links item list stored)
      ∙ ap (λ (ls : List (List (Entry T))). set ls list (put_before before (record { id = item; value = value }) (get_or ls list []))) left

  -- ## The other item before which one is put

  pub has_place : (values : List (Option T)) (lists : List (List ℕ)) (list : ℕ) (before : Option ℕ) → StandsIn before (get_or (map (entries values) lists) list []) → HasBefore before (get_or lists list [])
  has_place values lists list None stands = tt
  has_place values lists list (Some z) stands =
      let S : List (Entry T) → Type 0 = λ es. IsSome (value_in es z) in
      stands_in values z (get_or lists list []) (subst S (get_or-map (entries values) lists list []) stands)

  pub has_before : (values : List (Option T)) (lists : List (List ℕ)) (item list : ℕ) (before : Option ℕ) → StandsBefore item before (get_or (map (entries values) lists) list []) → HasBefore before (get_or (map (without item) lists) list [])
  has_before values lists item list None stands = tt
  has_before values lists item list (Some z) stands =
      let S : List (Entry T) → Type 0 = λ es. IsSome (value_in es z) in
      let here = stands_in values z (get_or lists list []) (subst S (get_or-map (entries values) lists list []) stands.1) in
      let c = count_without_other item z (get_or lists list []) (λ e. stands.0 (sym e)) in
      let C : List ℕ → Type 0 = λ xs. 0 < count z xs in
      subst C (sym (get_or-map (without item) lists list [])) (omega (arith, here, c))

  -- ## A place that is read

  pub read_is : (values : List (Option T)) (x : ℕ) (v : Option T) → v ≡ get_or values x v → x < length values → get_or values x None ≡ v
  read_is values x v is within = sym (is ∙ get_or_default values x v None within)

  pub not_none : (v : Option T) → IsSome v → v ≡ None → ⊥
  not_none None some none = cc
  not_none (Some v) some none = cc

  -- ## An item by its place

  pub once_at : (values : List (Option T)) (free : List ℕ) (capacity : ℕ) (links : Rings) → IsStored values free capacity links → (x : ℕ) → total x (map ids (map (entries values) links.lists)) ≤ 1
  once_at values free capacity links stored x =
      let a = ap (total x) (all_ids values links.lists (λ y some. let f = stored.filled y in let d = occupied-le (get_or values y None) in omega (arith, f, d, some))) in
      let f = stored.filled x in let d = occupied-le (get_or values x None) in
      omega (arith, a, f, d)

  once_left : (values : List (Option T)) (free : List ℕ) (capacity : ℕ) (links : Rings) → IsStored values free capacity links → (item list x : ℕ) →
      count x (ids (get_or (map (leave_out item) (map (entries values) links.lists)) list [])) ≤ 1
  once_left values free capacity links stored item list x =
      let left = map (without item) links.lists in
      let numbers = ap (λ (ls : List (List (Entry T))). ids (get_or ls list [])) (sym (lists_without item values values (λ y apart. refl) links.lists))
      ∙ ap ids (get_or-map (entries values) left list []) ∙ ids_are values (get_or left list []) (filled_without values free capacity links item list stored) in
      let a = ap (count x) numbers in
      let b = count-le-total x left list in
      let d = total_left item x links.lists in
      let f = stored.filled x in
      let g = occupied-le (get_or values x None) in
      omega (arith, a, b, d, f, g)

  -- an item that is moved leaves its place in its list, and stands at another one
  pub moved_at : (values : List (Option T)) (free : List ℕ) (capacity : ℕ) (links links' : Rings) (e : Entry T) (list from : ℕ) (before : Option ℕ) (left right front back : List (Entry T)) → IsStored values free capacity links →
      links'.lists ≡ set (map (without e.id) links.lists) list (with_before before e.id (get_or (map (without e.id) links.lists) list [])) →
      get_or (map (entries values) links.lists) from [] ≡ left ++ e ∷ right →
      get_or (set (map (entries values) links.lists) from (left ++ right)) list [] ≡ front ++ back → before ≡ first_id back →
      map (entries values) links'.lists ≡ set (set (map (entries values) links.lists) from (left ++ right)) list (front ++ e ∷ back)
  moved_at values free capacity links links' e list from before left right front back stored lists_is stands at first =
      let lists : List (List (Entry T)) = map (entries values) links.lists in
      let gone : map (leave_out e.id) lists ≡ set lists from (left ++ right) = leave_at e lists from left right (once_at values free capacity links stored e.id) stands in
      let once : (x : ℕ) → count x (ids (get_or (set lists from (left ++ right)) list [])) ≤ 1 =
      λ x. let a = ap (λ (ls : List (List (Entry T))). count x (ids (get_or ls list []))) gone in let b = once_left values free capacity links stored e.id list x in omega (arith, a, b) in
      moved values free capacity links links' e.id list before e.value stored (value_there values e links.lists from left right stands) lists_is
      ∙ ap (λ (ls : List (List (Entry T))). set ls list (put_before before e (get_or ls list []))) gone
      ∙ ap (set (set lists from (left ++ right)) list) (put_at e _ front back before once at first)

  some_is : (v w : T) (o : Option T) → o ≡ Some v → o ≡ Some w → v ≡ w
  some_is v w o a b = let e : Some v ≡ Some w = sym a ∙ b in cc

  pub same_value : (values : List (Option T)) (lists : List (List ℕ)) (e : Entry T) (list : ℕ) (before after : List (Entry T)) (found : T) →
      get_or (map (entries values) lists) list [] ≡ before ++ e ∷ after → get_or values e.id None ≡ Some found → found ≡ e.value
  same_value values lists e list before after found is read = some_is found e.value (get_or values e.id None) read (value_there values e lists list before after is)

  -- ## An item that is found

  pub there_at : (values : List (Option T)) (free : List ℕ) (capacity : ℕ) (links : Rings) → IsStored values free capacity links → (found : Option ItemId) (number : Option ℕ) → number_of found ≡ number →
      IfSome number (λ x. 0 < total x links.lists) → IfSome found (λ (item : ItemId). IsSome (value_at (map (entries values) links.lists) item.0))
  there_at values free capacity links stored None number is stands = tt
  there_at values free capacity links stored (Some item) number is stands =
      let F : Option ℕ → Type 0 = λ o. IfSome o (λ x. 0 < total x links.lists) in
      let here : 0 < total item.0 links.lists = subst F (sym is) stands in
      let S : Option T → Type 0 = IsSome in
      let f = stored.filled item.0 in
      subst S (sym (at_is values free capacity links stored item.0)) (occupied_some (get_or values item.0 None) (omega (arith, here, f)))

  -- ## How many items there are

  length_entries : (values : List (Option T)) (xs : List ℕ) → AllFilled values xs → length (entries values xs) ≡ length xs
  length_entries values xs all = sym (length-map (entries values xs) (λ (e : Entry T). e.id)) ∙ ap (λ (ys : List ℕ). length ys) (ids_are values xs all)

  counted : (values : List (Option T)) (lists : List (List ℕ)) → ((y : ℕ) → 0 < total y lists → occupied (get_or values y None) ≡ 1) → item_count (map (entries values) lists) ≡ total_len lists
  counted values [] all = refl
  counted values (l ∷ ls) all =
      let here = length_entries values l (λ y some. all y (omega (arith, some))) in
      let rest = counted values ls (λ y some. all y (omega (arith, some))) in
      omega (arith, here, rest)

  pub count_is : (values : List (Option T)) (free : List ℕ) (capacity : ℕ) (links : Rings) → IsStored values free capacity links → item_count (map (entries values) links.lists) + length free ≡ length values
  count_is values free capacity links stored =
      let a = counted values links.lists (λ y some. let f = stored.filled y in let d = occupied-le (get_or values y None) in omega (arith, f, d, some)) in
      let b = stored.len in
      omega (arith, a, b)
