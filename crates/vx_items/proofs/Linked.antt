-- How the links of lists stay those of lists.
use Rattle.std.proofs.Common.{◌≡◌, ◌≢◌, refl, sym, ◌∙◌, ap, subst, ℕ, zero, suc, ◌+◌, ◌≤◌, ◌<◌, Bool, true, false, List, [], ◌∷◌, ◌++◌, length, map, get_or, set, nat_eq, Option, Some, None, IfSome, arith, length-append, ⊎_elim}
use Rattle.std.proofs.lemmas.List.{ext_get_or, get_or-map, get_or-set_same, get_or-set_other, get_or_push, get_or_past, get_or_default, length-map}
use Rattle.std.proofs.Math.ListN.{length-set}
use Rattle.std.proofs.lemmas.Bool.{cases_Bool}
use Rattle.std.proofs.lemmas.Bool.Decides.{nat_tests}
use Rattle.vx_items.specs.declared.nodes.Node.{Node}
use Rattle.vx_items.specs.declared.nodes.Node.TheVariants.{Item, End}
use Rattle.vx_items.specs.declared.nodes.Link.{Link}
use Rattle.vx_items.specs.Nodes.{next_of, prev_of, unlinked, IsThere, node_before, item_of, Changes, Unlinks, LinksBefore}
use Rattle.vx_items.specs.Lists.{one, count, total, without, with_before, first_of, last_of, HasBefore}
use Rattle.vx_items.specs.Rings.{Path, walk, rings, IsLinked}
use Rattle.vx_items.specs.Growing.{SameReads}
use Rattle.vx_items.proofs.Counts.{one_same, count-append, split_at, without_none, without_one, total-set, count-le-total, counts-le-total, list_with, length-le-total, total_more, total_left, no_more}
use Rattle.vx_items.proofs.Paths.{last_node, first_node, last_apart, last_is_not, first_apart, first_is_not, front_of, back_of, next_in, prev_in, walked, kept, ring_without, ring_with}

-- a walk of each list gives the lists
pub rings_are : (links ends : List Link) (lists : List (List ℕ)) → IsLinked links ends lists → rings links ends ≡ lists
rings_are links ends lists linked =
    ext_get_or [] _ _ (length-map ends _ ∙ sym linked.ends_match) (λ list within.
    let in_ends : list < length ends = omega (arith, within, length-map ends (λ (end : Link). walk (length links) (next_of links ends) end.next)) in
    let in_lists : list < length lists = omega (arith, in_ends, linked.ends_match) in
    get_or-map (λ (end : Link). walk (length links) (next_of links ends) end.next) ends list unlinked [] in_ends
    ∙ walked (next_of links ends) (prev_of links ends) (End list) (get_or lists list []) list (length links) (linked.paths list in_lists)
    (omega (arith, length-le-total lists list, no_more (length links) lists linked.within linked.once)))

pub rings_linked : (links ends : List Link) (lists : List (List ℕ)) → IsLinked links ends lists → IsLinked links ends (rings links ends)
rings_linked links ends lists linked =
    let P : List (List ℕ) → Type 0 = IsLinked links ends in
    subst P (sym (rings_are links ends lists linked)) linked

-- ## The nodes of a ring are there

pub items_there : (links ends : List Link) (lists : List (List ℕ)) → IsLinked links ends lists → (list x : ℕ) → 0 < count x (get_or lists list []) → x < length links
items_there links ends lists linked list x there = linked.within x (omega (arith, there, count-le-total x lists list))

pub last_there : (links ends : List Link) (p : Node) (fs : List ℕ) → IsThere links ends p → ((x : ℕ) → 0 < count x fs → x < length links) → IsThere links ends (last_node p fs)
last_there links ends p [] there all = there
last_there links ends p (x ∷ xs) there all = last_there links ends (Item x) xs (all x (omega (arith, one_same x))) (λ y some. all y (omega (arith, some)))

pub first_there : (links ends : List Link) (e : Node) (bs : List ℕ) → IsThere links ends e → ((x : ℕ) → 0 < count x bs → x < length links) → IsThere links ends (first_node bs e)
first_there links ends e [] there all = there
first_there links ends e (x ∷ xs) there all = all x (omega (arith, one_same x))

-- ## Places in a list

-- what stands before the place at which an item is put, and what stands behind it
pub record PlaceBefore (before : Option ℕ) (x : ℕ) (xs : List ℕ) : Type 0 where
  pub front : List ℕ
  pub back : List ℕ
  pub is : xs ≡ front ++ back
  pub put : with_before before x xs ≡ front ++ x ∷ back
  pub node : (list : ℕ) → first_node back (End list) ≡ node_before before list

append_none : (xs : List ℕ) → xs ≡ xs ++ []
append_none [] = refl
append_none (x ∷ xs) = ap (λ ys. x ∷ ys) (append_none xs)

put_last : (x : ℕ) (xs : List ℕ) → with_before None x xs ≡ xs ++ x ∷ []
put_last x [] = refl
put_last x (y ∷ ys) = ap (λ zs. y ∷ zs) (put_last x ys)

put_other : (z x y : ℕ) (ys zs : List ℕ) → nat_eq z y ≡ false → with_before (Some z) x ys ≡ zs → with_before (Some z) x (y ∷ ys) ≡ y ∷ zs
put_other z x y ys zs other is = rw other (ap (λ ws. y ∷ ws) is)

there_later : (z y : ℕ) (ys : List ℕ) → nat_eq z y ≡ false → 0 < count z (y ∷ ys) → 0 < count z ys
there_later z y ys other has = let o : one z y ≡ 0 = grind (arith, nat_tests, other) in omega (arith, has, o)

put_step : (b : Bool) (z x y : ℕ) (ys : List ℕ) → nat_eq z y ≡ b → (b ≡ false → PlaceBefore (Some z) x ys) → PlaceBefore (Some z) x (y ∷ ys)
put_step true z x y ys is rest =
    let e : y ≡ z = grind (arith, nat_tests, is) in
    record { front = []; back = y ∷ ys; is = refl; put = rw is; node = λ list. ap Item e }
put_step false z x y ys is later =
    let rest = later refl in
    record { front = y ∷ rest.front; back = rest.back; is = ap (λ zs. y ∷ zs) rest.is; put = put_other z x y ys (rest.front ++ x ∷ rest.back) is rest.put; node = rest.node }

pub place_before : (before : Option ℕ) (x : ℕ) (xs : List ℕ) → HasBefore before xs → PlaceBefore before x xs
place_before None x xs has = record { front = xs; back = []; is = append_none xs; put = put_last x xs; node = λ list. refl }
place_before (Some z) x [] has = absurd (omega (arith, has))
place_before (Some z) x (y ∷ ys) has =
    put_step (nat_eq z y) z x y ys refl (λ other. place_before (Some z) x ys (there_later z y ys other has))

-- ## An item is put into a list

one_total : (lists : List (List ℕ)) (item x : ℕ) → total item lists ≡ 0 → (n : ℕ) → n ≡ total x lists + one x item → total x lists ≤ 1 → n ≤ 1
one_total lists item x new n is once =
    ⊎_elim
    (λ (same : nat_eq x item ≡ true). let e : x ≡ item = grind (arith, nat_tests, same) in let z = ap (λ y. total y lists) e in let o : one x item ≤ 1 = grind (arith, nat_tests, same) in omega (arith, is, new, z, o))
    (λ (other : nat_eq x item ≡ false). let o : one x item ≡ 0 = grind (arith, nat_tests, other) in omega (arith, is, once, o))
    (cases_Bool (nat_eq x item))

within_total : (lists : List (List ℕ)) (item x len len' : ℕ) → item < len → len' ≡ len → (0 < total x lists → x < len) → (n : ℕ) → n ≡ total x lists + one x item → 0 < n → x < len'
within_total lists item x len len' there same w n is some =
    ⊎_elim
    (λ (eq : nat_eq x item ≡ true). let e : x ≡ item = grind (arith, nat_tests, eq) in omega (arith, e, there, same))
    (λ (other : nat_eq x item ≡ false). let o : one x item ≡ 0 = grind (arith, nat_tests, other) in let h = w (omega (arith, is, some, o)) in omega (arith, h, same))
    (cases_Bool (nat_eq x item))

lengths : (item : ℕ) (xs xs' fs bs : List ℕ) → xs ≡ fs ++ bs → xs' ≡ fs ++ item ∷ bs → length xs' ≡ length xs + 1
lengths item xs xs' fs bs is is' =
    let a = ap (λ (zs : List ℕ). length zs) is in let b = ap (λ (zs : List ℕ). length zs) is' in
    omega (arith, a, b, length-append fs bs, length-append fs (item ∷ bs))

-- the other rings stay
other_ring : (next prev next' prev' : Node → Node) (list m item : ℕ) (fs bs zs : List ℕ) → list ≢ m → Changes next prev next' prev' (last_node (End list) fs) (first_node bs (End list)) (Item item) →
    ((x : ℕ) → count x fs + count x bs + count x zs ≤ 1) → count item zs ≡ 0 →
    Path next prev (End m) zs (End m) → Path next' prev' (End m) zs (End m)
other_ring next prev next' prev' list m item fs bs zs apart changes once none path =
    kept next prev next' prev' (last_node (End list) fs) (first_node bs (End list)) (Item item) changes (End m) zs (End m)
    (λ e. last_is_not (End list) (End m) fs (λ h. apart (cc)) refl (sym e)) (λ e. cc)
    (λ e. first_is_not (End m) (End list) bs (λ h. apart (cc)) refl (sym e)) (λ e. cc)
    (last_apart (End list) fs zs refl (λ x. let h = once x in omega (arith, h)))
    (first_apart (End list) bs zs refl (λ x. let h = once x in omega (arith, h)))
    none path

paths_with : (links ends links' ends' : List Link) (lists : List (List ℕ)) (list item : ℕ) (fs bs xs' : List ℕ) (m : ℕ) → IsLinked links ends lists → m < length lists → list < length lists →
    Changes (next_of links ends) (prev_of links ends) (next_of links' ends') (prev_of links' ends') (last_node (End list) fs) (first_node bs (End list)) (Item item) →
    total item lists ≡ 0 → ((x : ℕ) → count x (get_or lists list []) ≡ count x fs + count x bs) →
    Path (next_of links' ends') (prev_of links' ends') (End list) xs' (End list) →
    Path (next_of links' ends') (prev_of links' ends') (End m) (get_or (set lists list xs') m []) (End m)
paths_with links ends links' ends' lists list item fs bs xs' m linked m_within within changes new parts ring =
    let next' = next_of links' ends' in
    let prev' = prev_of links' ends' in
    let Q : List ℕ → Type 0 = λ zs. Path next' prev' (End m) zs (End m) in
    ⊎_elim
    (λ (same : nat_eq m list ≡ true).
    let e : list ≡ m = grind (arith, nat_tests, same) in
    let R : ℕ → Type 0 = λ k. Path next' prev' (End k) (get_or (set lists list xs') k []) (End k) in
    let S : List ℕ → Type 0 = λ zs. Path next' prev' (End list) zs (End list) in
    subst R e (subst S (sym (get_or-set_same lists list xs' [] within)) ring))
    (λ (other : nat_eq m list ≡ false).
    let apart : m ≢ list = grind (arith, nat_tests, other) in
    let apart' : list ≢ m = λ e. apart (sym e) in
    subst Q (sym (get_or-set_other lists list m xs' [] apart))
    (other_ring (next_of links ends) (prev_of links ends) next' prev' list m item fs bs (get_or lists m []) apart' changes
    (λ x. let a = counts-le-total x lists list m apart' in let b = linked.once x in let d = parts x in omega (arith, a, b, d))
    (let a = count-le-total item lists m in omega (arith, a, new))
    (linked.paths m m_within)))
    (cases_Bool (nat_eq m list))

pub linked_with : (links ends links' ends' : List Link) (lists : List (List ℕ)) (list item : ℕ) (before : Option ℕ) → IsLinked links ends lists →
    length links' ≡ length links → length ends' ≡ length ends → list < length lists → item < length links → total item lists ≡ 0 →
    HasBefore before (get_or lists list []) →
    LinksBefore (next_of links ends) (prev_of links ends) (next_of links' ends') (prev_of links' ends') item (node_before before list) →
    IsLinked links' ends' (set lists list (with_before before item (get_or lists list [])))
linked_with links ends links' ends' lists list item before linked same_links same_ends within there new has links_before =
    let place = place_before before item (get_or lists list []) has in
    let fs = place.front in
    let bs = place.back in
    let xs' : List ℕ = with_before before item (get_or lists list []) in
    let next = next_of links ends in
    let prev = prev_of links ends in
    let next' = next_of links' ends' in
    let prev' = prev_of links' ends' in
    let first : Node = first_node bs (End list) in
    let L : Node → Type 0 = LinksBefore next prev next' prev' item in
    let links_first : L first = subst L (sym (place.node list)) links_before in
    let P : List ℕ → Type 0 = λ zs. Path next prev (End list) zs (End list) in
    let path : P (fs ++ bs) = subst P place.is (linked.paths list within) in
    let before_is : prev first ≡ last_node (End list) fs = prev_in next prev (End list) fs first (front_of next prev (End list) fs bs (End list) path) in
    let C : Node → Type 0 = λ b. Changes next prev next' prev' b first (Item item) in
    let changes : C (last_node (End list) fs) = subst C before_is links_first.changes in
    let parts : (x : ℕ) → count x (get_or lists list []) ≡ count x fs + count x bs = λ x. ap (count x) place.is ∙ count-append x fs bs in
    let parts' : (x : ℕ) → count x xs' ≡ count x fs + (one x item + count x bs) = λ x. ap (count x) place.put ∙ count-append x fs (item ∷ bs) in
    let once_here : (x : ℕ) → count x (fs ++ bs) ≤ 1 = λ x. let a = count-append x fs bs in let b = parts x in let d = count-le-total x lists list in let e = linked.once x in omega (arith, a, b, d, e) in
    let none_here : count item (fs ++ bs) ≡ 0 = let a = count-append item fs bs in let b = parts item in let d = count-le-total item lists list in omega (arith, a, b, d, new) in
    let P' : List ℕ → Type 0 = λ zs. Path next' prev' (End list) zs (End list) in
    let ring : P' xs' = subst P' (sym place.put) (ring_with next prev next' prev' list item fs bs links_first once_here none_here path) in
    let len : length (set lists list xs') ≡ length lists = length-set lists list xs' in
    let totals : (x : ℕ) → total x (set lists list xs') ≡ total x lists + one x item = λ x. let a = total-set x lists list xs' within in let b = parts x in let d = parts' x in omega (arith, a, b, d) in
    record {
      ends_match = len ∙ linked.ends_match ∙ sym same_ends;
      paths = λ m m_within. paths_with links ends links' ends' lists list item fs bs xs' m linked (omega (arith, m_within, len)) within changes new (λ x. parts x) ring;
      once = λ x. let a = totals x in let b = linked.once x in one_total lists item x new (total x (set lists list xs')) a b;
      within = λ x some. let a = totals x in let w = linked.within x in within_total lists item x (length links) (length links') there same_links w (total x (set lists list xs')) a some;
    }

-- the node before which it is put, and the one before that
pub record Gap (links ends : List Link) (node : Node) : Type 0 where
  pub node_there : IsThere links ends node
  pub prev_there : IsThere links ends (prev_of links ends node)

pub gap : (links ends : List Link) (lists : List (List ℕ)) (list : ℕ) (before : Option ℕ) → IsLinked links ends lists → list < length lists → HasBefore before (get_or lists list []) → Gap links ends (node_before before list)
gap links ends lists list before linked within has =
    let place = place_before before 0 (get_or lists list []) has in
    let fs = place.front in
    let bs = place.back in
    let next = next_of links ends in
    let prev = prev_of links ends in
    let P : List ℕ → Type 0 = λ zs. Path next prev (End list) zs (End list) in
    let path : P (fs ++ bs) = subst P place.is (linked.paths list within) in
    let parts : (x : ℕ) → count x (get_or lists list []) ≡ count x fs + count x bs = λ x. ap (count x) place.is ∙ count-append x fs bs in
    let T : Node → Type 0 = IsThere links ends in
    let end : T (End list) = let b = linked.ends_match in omega (arith, within, b) in
    let prev_is = prev_in next prev (End list) fs (first_node bs (End list)) (front_of next prev (End list) fs bs (End list) path) in
    let G : Node → Type 0 = Gap links ends in
    subst G (place.node list) (record {
      node_there = first_there links ends (End list) bs end (λ x some. items_there links ends lists linked list x (let a = parts x in omega (arith, a, some)));
      prev_there = subst T (sym prev_is) (last_there links ends (End list) fs end (λ x some. items_there links ends lists linked list x (let a = parts x in omega (arith, a, some))));
    })

-- ## An item is taken out

-- where the item stands
pub record PlaceOf (item : ℕ) (lists : List (List ℕ)) : Type 0 where
  pub list : ℕ
  pub within : list < length lists
  pub front : List ℕ
  pub back : List ℕ
  pub is : get_or lists list [] ≡ front ++ item ∷ back

pub place_of : (item : ℕ) (lists : List (List ℕ)) → 0 < total item lists → PlaceOf item lists
place_of item lists there =
    let with = list_with item lists there in
    let split = split_at item (get_or lists with.list []) with.has in
    record { list = with.list; within = with.within; front = split.before; back = split.after; is = split.is }

-- both neighbours of an item of a list
pub record Neighbours (links ends : List Link) (item : ℕ) : Type 0 where
  pub here : item < length links
  pub next : IsThere links ends (next_of links ends (Item item))
  pub prev : IsThere links ends (prev_of links ends (Item item))

pub neighbours : (links ends : List Link) (lists : List (List ℕ)) (item : ℕ) → IsLinked links ends lists → 0 < total item lists → Neighbours links ends item
neighbours links ends lists item linked there =
    let place = place_of item lists there in
    let fs = place.front in
    let bs = place.back in
    let list = place.list in
    let next = next_of links ends in
    let prev = prev_of links ends in
    let P : List ℕ → Type 0 = λ zs. Path next prev (End list) zs (End list) in
    let path : P (fs ++ item ∷ bs) = subst P place.is (linked.paths list place.within) in
    let parts : (x : ℕ) → count x (get_or lists list []) ≡ count x fs + (one x item + count x bs) = λ x. ap (count x) place.is ∙ count-append x fs (item ∷ bs) in
    let T : Node → Type 0 = IsThere links ends in
    let end : T (End list) = let a = place.within in let b = linked.ends_match in omega (arith, a, b) in
    let next_is = next_in next prev (Item item) bs (End list) (back_of next prev (End list) fs (item ∷ bs) (End list) path).2 in
    let prev_is = prev_in next prev (End list) fs (Item item) (front_of next prev (End list) fs (item ∷ bs) (End list) path) in
    record {
      here = linked.within item there;
      next = subst T (sym next_is) (first_there links ends (End list) bs end (λ x some. items_there links ends lists linked list x (let a = parts x in omega (arith, a, some))));
      prev = subst T (sym prev_is) (last_there links ends (End list) fs end (λ x some. items_there links ends lists linked list x (let a = parts x in omega (arith, a, some))));
    }

paths_without : (links ends links' ends' : List Link) (lists : List (List ℕ)) (item m : ℕ) (place : PlaceOf item lists) → IsLinked links ends lists → m < length lists →
    Unlinks (next_of links ends) (prev_of links ends) (next_of links' ends') (prev_of links' ends') item →
    Path (next_of links' ends') (prev_of links' ends') (End m) (without item (get_or lists m [])) (End m)
paths_without links ends links' ends' lists item m place linked m_within un =
    let fs = place.front in
    let bs = place.back in
    let list = place.list in
    let next = next_of links ends in
    let prev = prev_of links ends in
    let next' = next_of links' ends' in
    let prev' = prev_of links' ends' in
    let P : List ℕ → Type 0 = λ zs. Path next prev (End list) zs (End list) in
    let path : P (fs ++ item ∷ bs) = subst P place.is (linked.paths list place.within) in
    let parts : (x : ℕ) → count x (get_or lists list []) ≡ count x fs + (one x item + count x bs) = λ x. ap (count x) place.is ∙ count-append x fs (item ∷ bs) in
    let here : (x : ℕ) → count x fs + (one x item + count x bs) ≤ 1 = λ x. let a = parts x in let b = count-le-total x lists list in let d = linked.once x in omega (arith, a, b, d) in
    let Q : List ℕ → Type 0 = λ zs. Path next' prev' (End m) zs (End m) in
    ⊎_elim
    (λ (same : nat_eq m list ≡ true).
    let e : list ≡ m = grind (arith, nat_tests, same) in
    let S : List ℕ → Type 0 = λ zs. Path next' prev' (End list) zs (End list) in
    let R : ℕ → Type 0 = λ k. Path next' prev' (End k) (without item (get_or lists k [])) (End k) in
    let h = here item in
    let o = one_same item in
    let left : without item (get_or lists list []) ≡ fs ++ bs = ap (without item) place.is ∙ without_one item fs bs (omega (arith, h, o)) (omega (arith, h, o)) in
    subst R e (subst S (sym left) (ring_without next prev next' prev' list item fs bs un (λ x. let a = here x in let b = count-append x fs (item ∷ bs) in omega (arith, a, b)) path)))
    (λ (other : nat_eq m list ≡ false).
    let apart : m ≢ list = grind (arith, nat_tests, other) in
    let apart' : list ≢ m = λ e. apart (sym e) in
    let both : (x : ℕ) → count x fs + (one x item + count x bs) + count x (get_or lists m []) ≤ 1 = λ x. let a = counts-le-total x lists list m apart' in let b = linked.once x in let d = parts x in omega (arith, a, b, d) in
    let none : count item (get_or lists m []) ≡ 0 = let a = both item in let o = one_same item in omega (arith, a, o) in
    let next_is = next_in next prev (Item item) bs (End list) (back_of next prev (End list) fs (item ∷ bs) (End list) path).2 in
    let prev_is = prev_in next prev (End list) fs (Item item) (front_of next prev (End list) fs (item ∷ bs) (End list) path) in
    let C : Node → Node → Type 0 = λ b a. Changes next prev next' prev' b a (Item item) in
    let changes = subst (λ (b : Node). C b (first_node bs (End list))) prev_is (subst (λ (a : Node). C (prev (Item item)) a) next_is un.changes) in
    subst Q (sym (without_none item (get_or lists m []) none))
    (other_ring next prev next' prev' list m item fs bs (get_or lists m []) apart' changes (λ x. let a = both x in omega (arith, a)) none (linked.paths m m_within)))
    (cases_Bool (nat_eq m list))

pub linked_without : (links ends links' ends' : List Link) (lists : List (List ℕ)) (item : ℕ) → IsLinked links ends lists →
    length links' ≡ length links → length ends' ≡ length ends → 0 < total item lists →
    Unlinks (next_of links ends) (prev_of links ends) (next_of links' ends') (prev_of links' ends') item →
    IsLinked links' ends' (map (without item) lists)
linked_without links ends links' ends' lists item linked same_links same_ends there un =
    let len : length (map (without item) lists) ≡ length lists = length-map lists (without item) in
    let Q : ℕ → List ℕ → Type 0 = λ m zs. Path (next_of links' ends') (prev_of links' ends') (End m) zs (End m) in
    record {
      ends_match = len ∙ linked.ends_match ∙ sym same_ends;
      paths = λ m m_within. let w : m < length lists = omega (arith, m_within, len) in
          subst (Q m) (sym (get_or-map (without item) lists m [] [] w)) (paths_without links ends links' ends' lists item m (place_of item lists there) linked w un);
      once = λ x. let a = total_left item x lists in let b = linked.once x in omega (arith, a, b);
      within = λ x some. let a = total_left item x lists in let w = linked.within x (omega (arith, a, some)) in omega (arith, w, same_links);
    }

-- ## More lists, and more places

same_paths : (next prev next' prev' : Node → Node) (n : ℕ) → Changes next prev next' prev' (End n) (End n) (End n) → (m : ℕ) (zs : List ℕ) → m ≢ n → Path next prev (End m) zs (End m) → Path next' prev' (End m) zs (End m)
same_paths next prev next' prev' n changes m zs apart path =
    let not : End m ≢ End n = λ e. apart (cc) in
    kept next prev next' prev' (End n) (End n) (End n) changes (End m) zs (End m) not not not not refl refl refl path

get_or_more : (xs : List Link) (x : Link) (i : ℕ) → i ≢ length xs → get_or (xs ++ x ∷ []) i unlinked ≡ get_or xs i unlinked
get_or_more [] x zero apart = absurd (apart refl)
get_or_more [] x (suc i) apart = refl
get_or_more (y ∷ ys) x zero apart = refl
get_or_more (y ∷ ys) x (suc i) apart = get_or_more ys x i (λ e. apart (ap suc e))

next_same : (links ends : List Link) (end : Link) (node : Node) → node ≢ End (length ends) → next_of links (ends ++ end ∷ []) node ≡ next_of links ends node
next_same links ends end (Item x) apart = refl
next_same links ends end (End l) apart = ap (λ (k : Link). k.next) (get_or_more ends end l (λ e. apart (ap End e)))

prev_same : (links ends : List Link) (end : Link) (node : Node) → node ≢ End (length ends) → prev_of links (ends ++ end ∷ []) node ≡ prev_of links ends node
prev_same links ends end (Item x) apart = refl
prev_same links ends end (End l) apart = ap (λ (k : Link). k.prev) (get_or_more ends end l (λ e. apart (ap End e)))

more_changes : (links ends : List Link) (end : Link) → Changes (next_of links ends) (prev_of links ends) (next_of links (ends ++ end ∷ [])) (prev_of links (ends ++ end ∷ [])) (End (length ends)) (End (length ends)) (End (length ends))
more_changes links ends end = record { nexts = λ node apart _. next_same links ends end node apart; prevs = λ node apart _. prev_same links ends end node apart }

get_or_list : (lists : List (List ℕ)) (i : ℕ) → get_or (lists ++ [] ∷ []) i [] ≡ get_or lists i []
get_or_list [] zero = refl
get_or_list [] (suc i) = refl
get_or_list (y ∷ ys) zero = refl
get_or_list (y ∷ ys) (suc i) = get_or_list ys i

pub linked_more : (links ends : List Link) (lists : List (List ℕ)) (end : Link) → IsLinked links ends lists → end.next ≡ End (length ends) → end.prev ≡ End (length ends) →
    IsLinked links (ends ++ end ∷ []) (lists ++ [] ∷ [])
linked_more links ends lists end linked forth back =
    let n : ℕ = length ends in
    let ends' : List Link = ends ++ end ∷ [] in
    let Q : ℕ → List ℕ → Type 0 = λ m zs. Path (next_of links ends') (prev_of links ends') (End m) zs (End m) in
    let read : get_or ends' n unlinked ≡ end = get_or_push ends end unlinked n refl in
    let fresh : Q n [] = (ap (λ (l : Link). l.next) read ∙ forth, ap (λ (l : Link). l.prev) read ∙ back) in
    record {
      ends_match = length-append lists ([] ∷ []) ∙ ap (λ k. k + 1) linked.ends_match ∙ sym (length-append ends (end ∷ []));
      paths = λ m m_within. subst (Q m) (sym (get_or_list lists m))
          (⊎_elim
          (λ (same : nat_eq m n ≡ true).
          let e : n ≡ m = grind (arith, nat_tests, same) in
          let past : get_or lists m [] ≡ [] = get_or_past lists m [] (let a = linked.ends_match in omega (arith, a, e)) in
          subst (Q m) (sym past) (let R : ℕ → Type 0 = λ k. Q k [] in subst R e fresh))
          (λ (other : nat_eq m n ≡ false).
          let apart : m ≢ n = grind (arith, nat_tests, other) in
          same_paths (next_of links ends) (prev_of links ends) (next_of links ends') (prev_of links ends') n (more_changes links ends end) m (get_or lists m []) apart
          (linked.paths m (let a = linked.ends_match in let b = length-append lists ([] ∷ []) in omega (arith, a, b, m_within, apart))))
          (cases_Bool (nat_eq m n)));
      once = λ x. let a = total_more x lists in let b = linked.once x in omega (arith, a, b);
      within = λ x some. linked.within x (let a = total_more x lists in omega (arith, a, some));
    }

grown_next : (links links' ends : List Link) → SameReads links links' → (node : Node) → next_of links' ends node ≡ next_of links ends node
grown_next links links' ends same (Item x) = ap (λ (l : Link). l.next) (same.reads x)
grown_next links links' ends same (End l) = refl

grown_prev : (links links' ends : List Link) → SameReads links links' → (node : Node) → prev_of links' ends node ≡ prev_of links ends node
grown_prev links links' ends same (Item x) = ap (λ (l : Link). l.prev) (same.reads x)
grown_prev links links' ends same (End l) = refl

pub linked_grown : (links links' ends : List Link) (lists : List (List ℕ)) → IsLinked links ends lists → SameReads links links' → IsLinked links' ends lists
linked_grown links links' ends lists linked same =
    let changes : Changes (next_of links ends) (prev_of links ends) (next_of links' ends) (prev_of links' ends) (End (length lists)) (End (length lists)) (End (length lists)) =
    record { nexts = λ node _ _. grown_next links links' ends same node; prevs = λ node _ _. grown_prev links links' ends same node } in
    record {
      ends_match = linked.ends_match;
      paths = λ m m_within. same_paths (next_of links ends) (prev_of links ends) (next_of links' ends) (prev_of links' ends) (length lists) changes m (get_or lists m []) (λ e. omega (arith, e, m_within)) (linked.paths m m_within);
      once = linked.once;
      within = λ x some. let a = linked.within x some in let b = same.kept in omega (arith, a, b);
    }

-- ## What stands where

first_item : (xs : List ℕ) (list : ℕ) → item_of (first_node xs (End list)) ≡ first_of xs
first_item [] list = refl
first_item (x ∷ xs) list = refl

pub first_is : (links ends : List Link) (lists : List (List ℕ)) (list : ℕ) (link : Link) → IsLinked links ends lists → list < length lists → link ≡ get_or ends list link →
    item_of link.next ≡ first_of (get_or lists list [])
first_is links ends lists list link linked within is =
    let in_ends : list < length ends = let a = linked.ends_match in omega (arith, within, a) in
    ap (λ (l : Link). item_of l.next) (is ∙ get_or_default ends list link unlinked in_ends)
    ∙ ap item_of (next_in (next_of links ends) (prev_of links ends) (End list) (get_or lists list []) (End list) (linked.paths list within))
    ∙ first_item (get_or lists list []) list

some_item : (before : List ℕ) (item : ℕ) (after : List ℕ) → 0 < length (before ++ item ∷ after)
some_item [] item after = omega arith
some_item (x ∷ xs) item after = omega arith

within_list : (lists : List (List ℕ)) (list : ℕ) (before : List ℕ) (item : ℕ) (after : List ℕ) → get_or lists list [] ≡ before ++ item ∷ after → list < length lists
within_list [] list before item after split =
    absurd (let a = ap (λ (xs : List ℕ). length xs) split in let b = some_item before item after in omega (arith, a, b))
within_list (l ∷ ls) zero before item after split = omega arith
within_list (l ∷ ls) (suc list) before item after split = let h = within_list ls list before item after split in omega (arith, h)

pub next_is : (links ends : List Link) (lists : List (List ℕ)) (item : ℕ) (link : Link) → IsLinked links ends lists → item < length links → link ≡ get_or links item link →
    (list : ℕ) (before after : List ℕ) → get_or lists list [] ≡ before ++ item ∷ after → item_of link.next ≡ first_of after
next_is links ends lists item link linked here is list before after split =
    let next = next_of links ends in
    let prev = prev_of links ends in
    let within : list < length lists = within_list lists list before item after split in
    let P : List ℕ → Type 0 = λ zs. Path next prev (End list) zs (End list) in
    let path : P (before ++ item ∷ after) = subst P split (linked.paths list within) in
    ap (λ (l : Link). item_of l.next) (is ∙ get_or_default links item link unlinked here)
    ∙ ap item_of (next_in next prev (Item item) after (End list) (back_of next prev (End list) before (item ∷ after) (End list) path).2)
    ∙ first_item after list

last_item : (x : ℕ) (xs : List ℕ) → item_of (last_node (Item x) xs) ≡ last_of (x ∷ xs)
last_item x [] = refl
last_item x (y ∷ ys) = last_item y ys

last_of_path : (xs : List ℕ) (list : ℕ) → item_of (last_node (End list) xs) ≡ last_of xs
last_of_path [] list = refl
last_of_path (x ∷ xs) list = last_item x xs

pub last_is : (links ends : List Link) (lists : List (List ℕ)) (list : ℕ) (link : Link) → IsLinked links ends lists → list < length lists → link ≡ get_or ends list link →
    item_of link.prev ≡ last_of (get_or lists list [])
last_is links ends lists list link linked within is =
    let in_ends : list < length ends = let a = linked.ends_match in omega (arith, within, a) in
    ap (λ (l : Link). item_of l.prev) (is ∙ get_or_default ends list link unlinked in_ends)
    ∙ ap item_of (prev_in (next_of links ends) (prev_of links ends) (End list) (get_or lists list []) (End list) (linked.paths list within))
    ∙ last_of_path (get_or lists list []) list

pub prev_is : (links ends : List Link) (lists : List (List ℕ)) (item : ℕ) (link : Link) → IsLinked links ends lists → item < length links → link ≡ get_or links item link →
    (list : ℕ) (before after : List ℕ) → get_or lists list [] ≡ before ++ item ∷ after → item_of link.prev ≡ last_of before
prev_is links ends lists item link linked here is list before after split =
    let next = next_of links ends in
    let prev = prev_of links ends in
    let within : list < length lists = within_list lists list before item after split in
    let P : List ℕ → Type 0 = λ zs. Path next prev (End list) zs (End list) in
    let path : P (before ++ item ∷ after) = subst P split (linked.paths list within) in
    ap (λ (l : Link). item_of l.prev) (is ∙ get_or_default links item link unlinked here)
    ∙ ap item_of (prev_in next prev (End list) before (Item item) (front_of next prev (End list) before (item ∷ after) (End list) path))
    ∙ last_of_path before list

-- ## What is found stands in a list

head_stands : (x y : ℕ) (ys : List ℕ) → Some x ≡ Some y → 0 < count x (y ∷ ys)
head_stands x y ys is =
    let same : x ≡ y = cc in
    let C : ℕ → Type 0 = λ z. 0 < count z (y ∷ ys) in
    subst C (sym same) (omega (arith, one_same y))

pub first_stands : (xs : List ℕ) (found : Option ℕ) → found ≡ first_of xs → IfSome found (λ x. 0 < count x xs)
first_stands xs None is = tt
first_stands [] (Some x) is = absurd (cc)
first_stands (y ∷ ys) (Some x) is = head_stands x y ys is

pub last_stands : (xs : List ℕ) (found : Option ℕ) → found ≡ last_of xs → IfSome found (λ x. 0 < count x xs)
last_stands xs None is = tt
last_stands [] (Some x) is = absurd (cc)
last_stands (y ∷ []) (Some x) is = head_stands x y [] is
last_stands (y ∷ z ∷ zs) (Some x) is = let later = last_stands (z ∷ zs) (Some x) is in omega (arith, later)

pub in_lists : (lists : List (List ℕ)) (list : ℕ) (found : Option ℕ) → IfSome found (λ x. 0 < count x (get_or lists list [])) → IfSome found (λ x. 0 < total x lists)
in_lists lists list None stands = tt
in_lists lists list (Some x) stands = omega (arith, stands, count-le-total x lists list)

pub behind_in_lists : (item : ℕ) (lists : List (List ℕ)) (place : PlaceOf item lists) (found : Option ℕ) → IfSome found (λ x. 0 < count x place.back) → IfSome found (λ x. 0 < total x lists)
behind_in_lists item lists place None stands = tt
behind_in_lists item lists place (Some x) stands =
    let a = ap (count x) place.is in
    let b = count-append x place.front (item ∷ place.back) in
    let d = count-le-total x lists place.list in
    omega (arith, stands, a, b, d)

pub before_in_lists : (item : ℕ) (lists : List (List ℕ)) (place : PlaceOf item lists) (found : Option ℕ) → IfSome found (λ x. 0 < count x place.front) → IfSome found (λ x. 0 < total x lists)
before_in_lists item lists place None stands = tt
before_in_lists item lists place (Some x) stands =
    let a = ap (count x) place.is in
    let b = count-append x place.front (item ∷ place.back) in
    let d = count-le-total x lists place.list in
    omega (arith, stands, a, b, d)
