-- Headers under their names.
use Rattle.std.proofs.Common.{◌≡◌, ◌≢◌, refl, sym, ◌∙◌, ap, ℕ, zero, suc, List, [], ◌∷◌, ◌++◌, map, length, get_or, arith, Ordering, Less, Equal, Greater, nat_cmp}
use Rattle.std.specs.Cmp.Lexicographic.{slice_cmp}
use Rattle.std.specs.Ordering.{match_ordering}
use Rattle.vx_data.specs.Tree.{Tree, null, text, array, Members, no_members, member, object}
use Rattle.vx_data.specs.Bodies.{elements, members, put, put_all, gathered}
use Rattle.vx_frame_write.specs.Outgoing.{values_named, values_tree, headers_tree}
use Rattle.vx_frame_write.specs.Written.{without_values, valued}

abbrev pub under : List (List ℕ × List ℕ) → List ℕ → Tree
under pairs k = values_tree (values_named k pairs)

put_chosen : (pairs : List (List ℕ × List ℕ)) (o : Ordering) (k l : List ℕ) (u : Tree) (ms more less : Members) → less ≡ valued pairs more
    → match_ordering o (member k (under pairs k) (member l (under pairs l) (valued pairs ms))) (member k (under pairs k) (valued pairs ms)) (member l (under pairs l) less)
    ≡ valued pairs (match_ordering o (member k null (member l u ms)) (member k null ms) (member l u more))
put_chosen pairs Less k l u ms more less is = refl
put_chosen pairs Equal k l u ms more less is = refl
put_chosen pairs Greater k l u ms more less is = ap (member l (under pairs l)) is

put_valued : (pairs : List (List ℕ × List ℕ)) (k : List ℕ) (ms : Members) → put k (under pairs k) (valued pairs ms) ≡ valued pairs (put k null ms)
put_valued pairs k no_members = refl
put_valued pairs k (member l u ms) = put_chosen pairs (slice_cmp nat_cmp k l) k l u ms (put k null ms) (put k (under pairs k) (valued pairs ms)) (put_valued pairs k ms)

all_valued : (pairs ps : List (List ℕ × List ℕ)) (found : Members) → put_all (map (λ (pair : List ℕ × List ℕ). (pair.0, under pairs pair.0)) ps) (valued pairs found) ≡ valued pairs (put_all (without_values ps) found)
all_valued pairs [] found = refl
all_valued pairs (p ∷ ps) found = ap (put_all (map (λ (pair : List ℕ × List ℕ). (pair.0, under pairs pair.0)) ps)) (put_valued pairs p.0 found) ∙ all_valued pairs ps (put p.0 null found)

-- the names, each with its values, are the headers
pub headers_are : (pairs : List (List ℕ × List ℕ)) → object (valued pairs (gathered (without_values pairs))) ≡ headers_tree pairs
headers_are pairs = ap object (sym (all_valued pairs pairs no_members))

-- ---- one name after another

pub members_valued : (pairs : List (List ℕ × List ℕ)) (names : List (List ℕ × Tree)) → members (map (λ (p : List ℕ × Tree). (p.0, under pairs p.0)) names) ≡ valued pairs (members names)
members_valued pairs [] = refl
members_valued pairs (p ∷ ps) = ap (member p.0 (under pairs p.0)) (members_valued pairs ps)

-- ---- one value or several

pub one_text : (texts : List (List ℕ)) (items : List Tree) (only : Tree) → items ≡ map text texts → length items ≡ 1 → only ≡ get_or items 0 only → only ≡ values_tree texts
one_text [] items only are one is = let long = ap length are in absurd (omega arith)
one_text (t ∷ []) items only are one is = is ∙ ap (λ (xs : List Tree). get_or xs 0 only) are
one_text (t ∷ u ∷ us) items only are one is = let long = ap length are in absurd (omega arith)

pub many_texts : (texts : List (List ℕ)) (items : List Tree) → items ≡ map text texts → length items ≢ 1 → array (elements items) ≡ values_tree texts
many_texts [] items are many = ap (λ (xs : List Tree). array (elements xs)) are
many_texts (t ∷ []) items are many = absurd (many (ap length are))
many_texts (t ∷ u ∷ us) items are many = ap (λ (xs : List Tree). array (elements xs)) are
