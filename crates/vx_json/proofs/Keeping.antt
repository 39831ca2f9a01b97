-- What the reader keeps of a value, against the body of the value.
use Rattle.std.proofs.Common.{◌≡◌, refl, sym, ◌∙◌, ap, ℕ, suc, max, ◌<◌, ◌≤◌, ◌⊎◌, inl, inr, List, [], ◌∷◌, map, Bool, true, false, cond, nat_cmp, Ordering, Less, Equal, Greater, arith}
use mathlib.Core.Path.{subst}
use Rattle.std.specs.Cmp.Lexicographic.{slice_cmp}
use Rattle.std.specs.List.{AllByRecursion}
use Rattle.std.specs.Ordering.{match_ordering}
use Rattle.std.specs.Prelude.{nat_le}
use Rattle.std.proofs.lemmas.Bool.Decides.{nat_tests}
use Rattle.vx_data.specs.Tree.{Tree, null, boolean, int, text, bytes, array, object, Elements, no_elements, element, Members, no_members, member}
use Rattle.vx_data.specs.Bodies.{elements, tree_depth, deepest_element, deepest_member, put, put_all, gathered}
use Rattle.vx_json.specs.Grammar.{settled, settled_elements, settled_members}
use Rattle.vx_json.specs.Keeps.{Keeps}
use Rattle.vx_json.specs.Reading.{kept_array, kept_object, first_deep, is_deep}

-- the reader's value of each value of a text
abbrev mutual
  pub kept : Tree → Tree
  kept null = null
  kept (boolean b) = boolean b
  kept (int n) = int n
  kept (text s) = text s
  kept (bytes s) = bytes s
  kept (array es) = kept_array (kept_elements es)
  kept (object ms) = kept_object (kept_members ms)

  pub kept_elements : Elements → List Tree
  kept_elements no_elements = []
  kept_elements (element t es) = kept t ∷ kept_elements es

  pub kept_members : Members → List (List ℕ × Tree)
  kept_members no_members = []
  kept_members (member k t ms) = (k, kept t) ∷ kept_members ms

side : (test : Bool) (n : ℕ) → test ≡ nat_le n 100 → (n ≤ 100) ⊎ (100 < n)
side true n is = inl (grind (arith, nat_tests))
side false n is = inr (grind (arith, nat_tests))

pub within_or_deep : (n : ℕ) → (n ≤ 100) ⊎ (100 < n)
within_or_deep n = side (nat_le n 100) n refl

bound_at : (k s : Tree) → Keeps k s → (tree_depth s ≤ 100) ⊎ (100 < tree_depth s) → tree_depth k ≤ 101
bound_at k s h (inl small) = let same = ap tree_depth (h.exact small) in omega (arith, same)
bound_at k s h (inr large) = omega (arith, h.deep large)

pub bounded : (k s : Tree) → Keeps k s → tree_depth k ≤ 101
bounded k s h = bound_at k s h (within_or_deep (tree_depth s))

abbrev IsBounded : Tree → Type 0
IsBounded k = tree_depth k ≤ 101

keeps_itself : (t : Tree) → tree_depth t ≡ 0 → Keeps t t
keeps_itself t flat = record { exact = λ _. refl; deep = λ large. absurd (omega arith) }

-- ---- arrays

abbrev AllKeep : List Tree → Elements → Type 0
AllKeep [] no_elements = Unit {0}
AllKeep [] (element s ss) = ⊥
AllKeep (k ∷ ks) no_elements = ⊥
AllKeep (k ∷ ks) (element s ss) = Keeps k s × AllKeep ks ss

elements_exact : (ks : List Tree) (ss : Elements) → AllKeep ks ss → deepest_element ss ≤ 100 → elements ks ≡ ss
elements_exact [] no_elements h small = refl
elements_exact [] (element s ss) h small = absurd h
elements_exact (k ∷ ks) no_elements h small = absurd h
elements_exact (k ∷ ks) (element s ss) h small = λ i. element (h.0.exact (omega arith) i) (elements_exact ks ss h.1 (omega arith) i)

deeper : (k s : Tree) → Keeps k s → 100 < tree_depth s → 100 < tree_depth k
deeper k s h large = omega (arith, h.deep large)

deep_among : (s : Tree) (k : Tree) (rest kept_rest : ℕ) → Keeps k s → (tree_depth s ≤ 100) ⊎ (100 < tree_depth s) → (100 < rest → 100 < kept_rest) → 100 < max (tree_depth s) rest → 100 < max (tree_depth k) kept_rest
deep_among s k rest kept_rest h (inl small) more large = omega (arith, more (omega arith))
deep_among s k rest kept_rest h (inr here) more large = omega (arith, h.deep here)

elements_deep : (ks : List Tree) (ss : Elements) → AllKeep ks ss → 100 < deepest_element ss → 100 < deepest_element (elements ks)
elements_deep [] no_elements h large = absurd (omega arith)
elements_deep [] (element s ss) h large = absurd h
elements_deep (k ∷ ks) no_elements h large = absurd h
elements_deep (k ∷ ks) (element s ss) h large = deep_among s k (deepest_element ss) (deepest_element (elements ks)) h.0 (within_or_deep (tree_depth s)) (elements_deep ks ss h.1) large

all_bounded : (ks : List Tree) (ss : Elements) → AllKeep ks ss → AllByRecursion IsBounded ks
all_bounded [] no_elements h = tt
all_bounded [] (element s ss) h = absurd h
all_bounded (k ∷ ks) no_elements h = absurd h
all_bounded (k ∷ ks) (element s ss) h = (bounded k s h.0, all_bounded ks ss h.1)

first_chosen : (test : Bool) (k : Tree) (ks : List Tree) → test ≡ is_deep k → IsBounded k → (100 < deepest_element (elements ks) → tree_depth (first_deep ks) ≡ 101) → 100 < max (tree_depth k) (deepest_element (elements ks)) → tree_depth (cond test k (first_deep ks)) ≡ 101
first_chosen true k ks is bound more large = let deep : 100 < tree_depth k = grind (arith, nat_tests) in omega (arith, deep)
first_chosen false k ks is bound more large = let flat : tree_depth k ≤ 100 = grind (arith, nat_tests) in more (omega arith)

first_deep_depth : (ks : List Tree) → AllByRecursion IsBounded ks → 100 < deepest_element (elements ks) → tree_depth (first_deep ks) ≡ 101
first_deep_depth [] all large = absurd (omega arith)
first_deep_depth (k ∷ ks) all large = first_chosen (is_deep k) k ks refl all.0 (first_deep_depth ks all.1) large

-- the whole, or one in its place where a part is too deep
part : (deepest below : ℕ) (whole stand s : Tree) → tree_depth s ≡ suc below → (below ≤ 100 → whole ≡ s) → (below ≤ 100 → deepest ≡ below) → (100 < below → 100 < deepest) → (100 < deepest → tree_depth stand ≡ 101)
    → (below ≤ 100) ⊎ (100 < below) → Keeps (cond (nat_le deepest 100) whole stand) s
part deepest below whole stand s depth same equal large stands (inl small) =
    let test : nat_le deepest 100 ≡ true = let e = equal small in grind (arith, nat_tests) in
    subst (λ k. Keeps k s) (sym (ap (λ t. cond t whole stand) test ∙ same small)) (record { exact = λ _. refl; deep = λ h. omega arith })
part deepest below whole stand s depth same equal large stands (inr deep) =
    let over = large deep in
    let test : nat_le deepest 100 ≡ false = grind (arith, nat_tests) in
    subst (λ k. Keeps k s) (sym (ap (λ t. cond t whole stand) test)) (record { exact = λ h. absurd (omega arith); deep = λ h. stands over })

array_keeps : (ks : List Tree) (ss : Elements) → AllKeep ks ss → Keeps (kept_array ks) (array ss)
unfolding kept_array
array_keeps ks ss h = part (deepest_element (elements ks)) (deepest_element ss) (array (elements ks)) (first_deep ks) (array ss) refl
    (λ small. ap array (elements_exact ks ss h small)) (λ small. ap deepest_element (elements_exact ks ss h small)) (elements_deep ks ss h) (first_deep_depth ks (all_bounded ks ss h))
    (within_or_deep (deepest_element ss))

-- ---- objects

abbrev MembersKeep : Members → Members → Type 0
MembersKeep no_members no_members = Unit {0}
MembersKeep no_members (member l u ns) = ⊥
MembersKeep (member k t ms) no_members = ⊥
MembersKeep (member k t ms) (member l u ns) = (k ≡ l) × Keeps t u × MembersKeep ms ns

members_exact : (ms ns : Members) → MembersKeep ms ns → deepest_member ns ≤ 100 → ms ≡ ns
members_exact no_members no_members h small = refl
members_exact no_members (member l u ns) h small = absurd h
members_exact (member k t ms) no_members h small = absurd h
members_exact (member k t ms) (member l u ns) h small = λ i. member (h.0 i) (h.1.exact (omega arith) i) (members_exact ms ns h.2 (omega arith) i)

members_deep : (ms ns : Members) → MembersKeep ms ns → 100 < deepest_member ns → 100 < deepest_member ms
members_deep no_members no_members h large = absurd (omega arith)
members_deep no_members (member l u ns) h large = absurd h
members_deep (member k t ms) no_members h large = absurd h
members_deep (member k t ms) (member l u ns) h large = deep_among u t (deepest_member ns) (deepest_member ms) h.1 (within_or_deep (tree_depth u)) (members_deep ms ns h.2) large

put_chosen : (o : Ordering) (key k l : List ℕ) (t u x y : Tree) (ms ns more less : Members) → k ≡ l → Keeps t u → MembersKeep ms ns → Keeps x y → MembersKeep more less
    → MembersKeep (match_ordering o (member key x (member k t ms)) (member key x ms) (member k t more)) (match_ordering o (member key y (member l u ns)) (member key y ns) (member l u less))
put_chosen Less key k l t u x y ms ns more less same h rest new again = (refl, new, (same, h, rest))
put_chosen Equal key k l t u x y ms ns more less same h rest new again = (refl, new, rest)
put_chosen Greater key k l t u x y ms ns more less same h rest new again = (same, h, again)

put_keeps : (key : List ℕ) (x y : Tree) (ms ns : Members) → Keeps x y → MembersKeep ms ns → MembersKeep (put key x ms) (put key y ns)
put_keeps key x y no_members no_members new h = (refl, new, tt)
put_keeps key x y no_members (member l u ns) new h = absurd h
put_keeps key x y (member k t ms) no_members new h = absurd h
put_keeps key x y (member k t ms) (member l u ns) new h =
    subst (λ o. MembersKeep (match_ordering (slice_cmp nat_cmp key k) (member key x (member k t ms)) (member key x ms) (member k t (put key x ms))) (match_ordering o (member key y (member l u ns)) (member key y ns) (member l u (put key y ns))))
    (ap (slice_cmp nat_cmp key) h.0)
    (put_chosen (slice_cmp nat_cmp key k) key k l t u x y ms ns (put key x ms) (put key y ns) h.0 h.1 h.2 new (put_keeps key x y ms ns new h.2))

-- what is put in is no deeper than what was there and what came
put_deepest_chosen : (o : Ordering) (key k : List ℕ) (x t : Tree) (ms more : Members) → deepest_member more ≤ max (tree_depth x) (deepest_member ms)
    → deepest_member (match_ordering o (member key x (member k t ms)) (member key x ms) (member k t more)) ≤ max (tree_depth x) (max (tree_depth t) (deepest_member ms))
put_deepest_chosen Less key k x t ms more h = omega arith
put_deepest_chosen Equal key k x t ms more h = omega arith
put_deepest_chosen Greater key k x t ms more h = omega arith

put_deepest : (key : List ℕ) (x : Tree) (ms : Members) → deepest_member (put key x ms) ≤ max (tree_depth x) (deepest_member ms)
put_deepest key x no_members = omega arith
put_deepest key x (member k t ms) = put_deepest_chosen (slice_cmp nat_cmp key k) key k x t ms (put key x ms) (put_deepest key x ms)

all_deepest : (ps : List (List ℕ × Tree)) (found : Members) → deepest_member (put_all ps found) ≤ max (deepest_element (elements (map (λ p. p.1) ps))) (deepest_member found)
all_deepest [] found = omega arith
all_deepest (p ∷ ps) found = omega (arith, all_deepest ps (put p.0 p.1 found), put_deepest p.0 p.1 found)

object_keeps : (ps : List (List ℕ × Tree)) (ns : Members) → MembersKeep (gathered ps) ns → AllByRecursion IsBounded (map (λ p. p.1) ps) → Keeps (kept_object ps) (object ns)
unfolding kept_object
object_keeps ps ns h all = part (deepest_member (gathered ps)) (deepest_member ns) (object (gathered ps)) (first_deep (map (λ p. p.1) ps)) (object ns) refl
    (λ small. ap object (members_exact (gathered ps) ns h small)) (λ small. ap deepest_member (members_exact (gathered ps) ns h small)) (members_deep (gathered ps) ns h)
    (λ large. first_deep_depth (map (λ p. p.1) ps) all (omega (arith, all_deepest ps no_members)))
    (within_or_deep (deepest_member ns))

mutual
  pub keeps : (t : Tree) → Keeps (kept t) (settled t)
  keeps null = keeps_itself null refl
  keeps (boolean b) = keeps_itself (boolean b) refl
  keeps (int n) = keeps_itself (int n) refl
  keeps (text s) = keeps_itself (text s) refl
  keeps (bytes s) = keeps_itself (bytes s) refl
  keeps (array es) = array_keeps (kept_elements es) (settled_elements es) (keeps_elements es)
  keeps (object ms) = object_keeps (kept_members ms) (settled_members ms no_members) (keeps_members ms no_members no_members tt) (members_bounded ms)

  keeps_elements : (es : Elements) → AllKeep (kept_elements es) (settled_elements es)
  keeps_elements no_elements = tt
  keeps_elements (element t es) = (keeps t, keeps_elements es)

  keeps_members : (ms found settled_found : Members) → MembersKeep found settled_found → MembersKeep (put_all (kept_members ms) found) (settled_members ms settled_found)
  keeps_members no_members found settled_found h = h
  keeps_members (member k t ms) found settled_found h = keeps_members ms (put k (kept t) found) (put k (settled t) settled_found) (put_keeps k (kept t) (settled t) found settled_found (keeps t) h)

  members_bounded : (ms : Members) → AllByRecursion IsBounded (map (λ p. p.1) (kept_members ms))
  members_bounded no_members = tt
  members_bounded (member k t ms) = (bounded (kept t) (settled t) (keeps t), members_bounded ms)
