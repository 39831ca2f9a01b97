-- The headers of an object's fields, each name with its texts.
use Rattle.std.proofs.Common.{◌≡◌, refl, sym, ◌∙◌, ap, ℕ, zero, suc, ◌<◌, ◌≤◌, List, [], ◌∷◌, ◌++◌, length, take, get_or, map, Ordering, Less, Equal, Greater, nat_cmp, arith}
use mathlib.Core.Path.{subst}
use Rattle.std.specs.Cmp.Lexicographic.{slice_cmp}
use Rattle.std.specs.Ordering.{match_ordering}
use Rattle.vx_data.specs.Tree.{Tree, null, boolean, int, text, bytes, array, object, Elements, no_elements, element, Members, no_members, member}
use Rattle.vx_data.specs.Bodies.{elements, put, put_all, gathered}
use Rattle.vx_json.specs.Grammar.{settled, settled_members}
use Rattle.vx_json_parts.specs.declared.part.Part.{Part}
use Rattle.vx_json_parts.specs.Parts.{IsPart, AreFields}
use Rattle.vx_frame_read.specs.Fields.{texts_tree, text_pairs, element_pairs, value_pairs, member_pairs, all_pairs}
use Rattle.vx_frame_read.specs.HeaderPairs.{values_of, named, pairs_of}

-- ---- texts in place of the values

abbrev pub valued : Members → Members
valued no_members = no_members
valued (member k t ms) = member k (texts_tree (values_of t)) (valued ms)

abbrev pub valued_fields : Members → List (List ℕ × Tree)
valued_fields no_members = []
valued_fields (member k t ms) = (k, texts_tree (values_of (settled t))) ∷ valued_fields ms

put_chosen : (o : Ordering) (k l : List ℕ) (t u : Tree) (ms more less : Members) → less ≡ valued more
    → match_ordering o (member k (texts_tree (values_of t)) (member l (texts_tree (values_of u)) (valued ms))) (member k (texts_tree (values_of t)) (valued ms)) (member l (texts_tree (values_of u)) less)
    ≡ valued (match_ordering o (member k t (member l u ms)) (member k t ms) (member l u more))
put_chosen Less k l t u ms more less is = refl
put_chosen Equal k l t u ms more less is = refl
put_chosen Greater k l t u ms more less is = ap (member l (texts_tree (values_of u))) is

put_valued : (k : List ℕ) (t : Tree) (ms : Members) → put k (texts_tree (values_of t)) (valued ms) ≡ valued (put k t ms)
put_valued k t no_members = refl
put_valued k t (member l u ms) = put_chosen (slice_cmp nat_cmp k l) k l t u ms (put k t ms) (put k (texts_tree (values_of t)) (valued ms)) (put_valued k t ms)

all_valued : (ms found : Members) → put_all (valued_fields ms) (valued found) ≡ valued (settled_members ms found)
all_valued no_members found = refl
all_valued (member k t ms) found = ap (put_all (valued_fields ms)) (put_valued k (settled t) found) ∙ all_valued ms (put k (settled t) found)

-- ---- the pairs of these texts

element_pairs_are : (name : List ℕ) (values : List (List ℕ)) → element_pairs name (elements (map text values)) ≡ named name values
element_pairs_are name [] = refl
element_pairs_are name (value ∷ values) = ap (λ (xs : List (List ℕ × List ℕ)). (name, value) ∷ xs) (element_pairs_are name values)

member_pairs_are : (ms : Members) → member_pairs (valued ms) ≡ pairs_of ms
member_pairs_are no_members = refl
member_pairs_are (member k t ms) = λ i. element_pairs_are k (values_of t) i ++ member_pairs_are ms i

pub pairs_are : (ms : Members) (body : Tree) → body ≡ object (gathered (valued_fields ms)) → all_pairs body ≡ pairs_of (settled_members ms no_members)
pairs_are ms body is = ap all_pairs is ∙ ap member_pairs (all_valued ms no_members) ∙ member_pairs_are (settled_members ms no_members)

-- ---- one field after another

pub next_field : (ms : Members) (fields : List (List ℕ × Part)) (i : ℕ) (field : List ℕ × Part) (xs : List (List ℕ × Tree)) (value : Tree) → AreFields ms fields → i < length fields → field ≡ get_or fields i field
    → ((t : Tree) → IsPart t field.1 → value ≡ texts_tree (values_of (settled t))) → xs ≡ take i (valued_fields ms) → xs ++ (field.0, value) ∷ [] ≡ take (suc i) (valued_fields ms)
next_field no_members [] i field xs value are within is found so_far = absurd (omega arith)
next_field no_members (f ∷ fs) i field xs value are within is found so_far = absurd are
next_field (member k t ms) [] i field xs value are within is found so_far = absurd are
next_field (member k t ms) (f ∷ fs) zero field xs value are within is found so_far =
    let here : (k, value) ≡ (k, texts_tree (values_of (settled t))) = ap (λ (v : Tree). (k, v)) (found t (subst (λ (g : List ℕ × Part). IsPart t g.1) (sym is) are.1)) in
    ap (λ (ys : List (List ℕ × Tree)). ys ++ (field.0, value) ∷ []) so_far ∙ ap (λ (name : List ℕ). (name, value) ∷ []) (ap (λ (g : List ℕ × Part). g.0) is ∙ are.0) ∙ ap (λ (p : List ℕ × Tree). p ∷ []) here
next_field (member k t ms) (f ∷ fs) (suc i) field xs value are within is found so_far =
    ap (λ (ys : List (List ℕ × Tree)). ys ++ (field.0, value) ∷ []) so_far
    ∙ ap (λ (ys : List (List ℕ × Tree)). (k, texts_tree (values_of (settled t))) ∷ ys) (next_field ms fs i field (take i (valued_fields ms)) value are.2 (omega arith) is found refl)

pub all_fields : (ms : Members) (fields : List (List ℕ × Part)) (i : ℕ) → AreFields ms fields → length fields ≤ i → take i (valued_fields ms) ≡ valued_fields ms
all_fields no_members [] zero are long = refl
all_fields no_members [] (suc i) are long = refl
all_fields no_members (f ∷ fs) i are long = absurd are
all_fields (member k t ms) [] i are long = absurd are
all_fields (member k t ms) (f ∷ fs) zero are long = absurd (omega arith)
all_fields (member k t ms) (f ∷ fs) (suc i) are long = ap (λ (xs : List (List ℕ × Tree)). (k, texts_tree (values_of (settled t))) ∷ xs) (all_fields ms fs i are.2 (omega arith))
