-- The outlines of values, from their parts.
use Rattle.std.proofs.Common.{◌≡◌, refl, sym, ◌∙◌, ap, ℕ, zero, suc, ◌<◌, ◌≤◌, List, [], ◌∷◌, ◌++◌, length, take, get_or, add-one, ◌+◌, Result, Ok, Err, Ordering, Less, Equal, Greater, nat_cmp, arith}
use mathlib.Core.Path.{subst}
use Rattle.std.specs.Cmp.Lexicographic.{slice_cmp}
use Rattle.std.specs.Ordering.{match_ordering}
use Rattle.vx_data.specs.Tree.{Tree, null, boolean, int, text, bytes, array, object, Elements, no_elements, element, Members, no_members, member}
use Rattle.vx_data.specs.Bodies.{tree_depth, put, put_all, gathered, elements}
use Rattle.vx_deployfile.specs.Outlines.{cut, cut_elements, cut_members, outline, item_outlines, field_outlines}
use Rattle.vx_json.specs.Grammar.{settled, settled_elements, settled_members, IsValue}
use Rattle.vx_json_parts.specs.Parts.{IsPart, AreItems, AreFields}
use Rattle.vx_json_parts.specs.declared.part.Part.{Part}
use Rattle.vx_json_parts.specs.declared.part.Form.TheVariants as forms
use Rattle.vx_json_parts.specs.Forms.{form_of}
use Rattle.std.specs.Prelude.{IfOk}

-- ---- arrays and objects from their parts

pub items_outlined : (n : ℕ) (es : Elements) → elements (item_outlines n es) ≡ cut_elements n (settled_elements es)
items_outlined n no_elements = refl
items_outlined n (element t es) = ap (element (outline n t)) (items_outlined n es)

put_chosen : (n : ℕ) (o : Ordering) (k l : List ℕ) (t u : Tree) (ms more less : Members) → less ≡ cut_members n more
    → match_ordering o (member k (cut n t) (member l (cut n u) (cut_members n ms))) (member k (cut n t) (cut_members n ms)) (member l (cut n u) less)
    ≡ cut_members n (match_ordering o (member k t (member l u ms)) (member k t ms) (member l u more))
put_chosen n Less k l t u ms more less is = refl
put_chosen n Equal k l t u ms more less is = refl
put_chosen n Greater k l t u ms more less is = ap (member l (cut n u)) is

put_cut : (n : ℕ) (k : List ℕ) (t : Tree) (ms : Members) → put k (cut n t) (cut_members n ms) ≡ cut_members n (put k t ms)
put_cut n k t no_members = refl
put_cut n k t (member l u ms) = put_chosen n (slice_cmp nat_cmp k l) k l t u ms (put k t ms) (put k (cut n t) (cut_members n ms)) (put_cut n k t ms)

all_cut : (n : ℕ) (ms found : Members) → put_all (field_outlines n ms) (cut_members n found) ≡ cut_members n (settled_members ms found)
all_cut n no_members found = refl
all_cut n (member k t ms) found = ap (put_all (field_outlines n ms)) (put_cut n k (settled t) found) ∙ all_cut n ms (put k (settled t) found)

pub fields_outlined : (n : ℕ) (ms : Members) → gathered (field_outlines n ms) ≡ cut_members n (settled_members ms no_members)
fields_outlined n ms = all_cut n ms no_members

-- ---- one after another

head_parts : {A : Type 0} (x y : A) (xs ys : List A) → x ∷ xs ≡ y ∷ ys → (x ≡ y) × (xs ≡ ys)
head_parts x y xs ys h = ((cc), (cc))

-- the next item
pub next_item : (n : ℕ) (es : Elements) (parts : List Part) (i : ℕ) (part : Part) (xs : List Tree) (value : Tree) → AreItems es parts → i < length parts → part ≡ get_or parts i part
    → ((t : Tree) → IsPart t part → value ≡ outline n t) → xs ≡ take i (item_outlines n es) → xs ++ value ∷ [] ≡ take (suc i) (item_outlines n es)
next_item n no_elements [] i part xs value are within here made h = absurd (omega arith)
next_item n no_elements (p ∷ ps) i part xs value are within here made h = absurd are
next_item n (element t es) [] i part xs value are within here made h = absurd are
next_item n (element t es) (p ∷ ps) zero part xs value are within here made h =
    let is : IsPart t part = subst (IsPart t) (sym here) are.0 in
    ap (λ (ys : List Tree). ys ++ value ∷ []) h ∙ ap (λ s. s ∷ []) (made t is)
next_item n (element t es) (p ∷ ps) (suc i) part [] value are within here made h = absurd (cc)
next_item n (element t es) (p ∷ ps) (suc i) part (x ∷ xs) value are within here made h =
    let heads = head_parts x (outline n t) xs (take i (item_outlines n es)) h in
    λ j. heads.0 j ∷ next_item n es ps i part xs value are.1 (omega arith) here made heads.1 j

pub next_field : (n : ℕ) (ms : Members) (fields : List (List ℕ × Part)) (i : ℕ) (field : List ℕ × Part) (xs : List (List ℕ × Tree)) (value : Tree) → AreFields ms fields → i < length fields → field ≡ get_or fields i field
    → ((t : Tree) → IsPart t field.1 → value ≡ outline n t) → xs ≡ take i (field_outlines n ms) → xs ++ (field.0, value) ∷ [] ≡ take (suc i) (field_outlines n ms)
next_field n no_members [] i field xs value are within here made h = absurd (omega arith)
next_field n no_members (f ∷ fs) i field xs value are within here made h = absurd are
next_field n (member k t ms) [] i field xs value are within here made h = absurd are
next_field n (member k t ms) (f ∷ fs) zero field xs value are within here made h =
    let is : IsPart t field.1 = subst (λ (g : List ℕ × Part). IsPart t g.1) (sym here) are.1 in
    let key : field.0 ≡ k = ap (λ (g : List ℕ × Part). g.0) here ∙ are.0 in
    ap (λ (ys : List (List ℕ × Tree)). ys ++ (field.0, value) ∷ []) h ∙ (λ j. (key j, made t is j) ∷ [])
next_field n (member k t ms) (f ∷ fs) (suc i) field [] value are within here made h = absurd (cc)
next_field n (member k t ms) (f ∷ fs) (suc i) field (x ∷ xs) value are within here made h =
    let heads = head_parts x (k, outline n t) xs (take i (field_outlines n ms)) h in
    λ j. heads.0 j ∷ next_field n ms fs i field xs value are.2 (omega arith) here made heads.1 j

pub all_items : (n : ℕ) (es : Elements) (parts : List Part) (i : ℕ) → AreItems es parts → length parts ≤ i → take i (item_outlines n es) ≡ item_outlines n es
all_items n no_elements [] zero are long = refl
all_items n no_elements [] (suc i) are long = refl
all_items n no_elements (p ∷ ps) i are long = absurd are
all_items n (element t es) [] i are long = absurd are
all_items n (element t es) (p ∷ ps) zero are long = absurd (omega arith)
all_items n (element t es) (p ∷ ps) (suc i) are long = ap (λ (xs : List Tree). outline n t ∷ xs) (all_items n es ps i are.1 (omega arith))

pub all_fields : (n : ℕ) (ms : Members) (fields : List (List ℕ × Part)) (i : ℕ) → AreFields ms fields → length fields ≤ i → take i (field_outlines n ms) ≡ field_outlines n ms
all_fields n no_members [] zero are long = refl
all_fields n no_members [] (suc i) are long = refl
all_fields n no_members (f ∷ fs) i are long = absurd are
all_fields n (member k t ms) [] i are long = absurd are
all_fields n (member k t ms) (f ∷ fs) zero are long = absurd (omega arith)
all_fields n (member k t ms) (f ∷ fs) (suc i) are long = ap (λ (xs : List (List ℕ × Tree)). (k, outline n t) ∷ xs) (all_fields n ms fs i are.2 (omega arith))

-- ---- whole values

pub whole_array : (levels n : ℕ) (es : Elements) → levels ≡ suc n → array (elements (item_outlines n es)) ≡ outline levels (array es)
whole_array levels n es is = ap array (items_outlined n es) ∙ ap (λ k. cut k (array (settled_elements es))) (sym is)

pub whole_object : (n : ℕ) (ms : Members) → object (gathered (field_outlines n ms)) ≡ outline (n + 1) (object ms)
whole_object n ms = ap object (fields_outlined n ms) ∙ ap (λ k. cut k (object (settled_members ms no_members))) (sym (add-one n))

if_ok : {A E : Type 0} (P Q : A → Type 0) (r : Result A E) → ((x : A) → P x → Q x) → IfOk r P → IfOk r Q
if_ok P Q (Ok x) f h = f x h
if_ok P Q (Err e) f h = tt

scalar_kept : (n : ℕ) (t : Tree) (part : Part) → IsPart t part → form_of t ≡ forms.Scalar → part.body ≡ outline n t
scalar_kept n null part h is = h.keeps.exact (omega arith)
scalar_kept n (boolean b) part h is = h.keeps.exact (omega arith)
scalar_kept n (int i) part h is = h.keeps.exact (omega arith)
scalar_kept n (text s) part h is = h.keeps.exact (omega arith)
scalar_kept n (bytes s) part h is = h.keeps.exact (omega arith)
scalar_kept n (array es) part h is = absurd (cc)
scalar_kept n (object ms) part h is = absurd (cc)

pub scalar_outlined : {E : Type 0} (n : ℕ) (t : Tree) (part : Part) (r : Result Tree E) → IsPart t part → form_of t ≡ forms.Scalar → IfOk r (λ body. body ≡ part.body) → IfOk r (λ body. body ≡ outline n t)
scalar_outlined n t part r h is copied = if_ok (λ body. body ≡ part.body) (λ body. body ≡ outline n t) r (λ body same. same ∙ scalar_kept n t part h is) copied

pub array_outlined : {E : Type 0} (n : ℕ) (t : Tree) (part : Part) (r : Result Tree E) → IsPart t part → form_of t ≡ forms.Array
    → ((es : Elements) → IsValue (array es) part.text.now → tree_depth (array es) ≤ 127 → IfOk r (λ body. body ≡ outline n (array es))) → IfOk r (λ body. body ≡ outline n t)
array_outlined n null part r h is made = absurd (cc)
array_outlined n (boolean b) part r h is made = absurd (cc)
array_outlined n (int i) part r h is made = absurd (cc)
array_outlined n (text s) part r h is made = absurd (cc)
array_outlined n (bytes s) part r h is made = absurd (cc)
array_outlined n (array es) part r h is made = made es h.stands h.nests
array_outlined n (object ms) part r h is made = absurd (cc)

pub object_outlined : {E : Type 0} (n : ℕ) (t : Tree) (part : Part) (r : Result Tree E) → IsPart t part → form_of t ≡ forms.Object
    → ((ms : Members) → IsValue (object ms) part.text.now → tree_depth (object ms) ≤ 127 → IfOk r (λ body. body ≡ outline n (object ms))) → IfOk r (λ body. body ≡ outline n t)
object_outlined n null part r h is made = absurd (cc)
object_outlined n (boolean b) part r h is made = absurd (cc)
object_outlined n (int i) part r h is made = absurd (cc)
object_outlined n (text s) part r h is made = absurd (cc)
object_outlined n (bytes s) part r h is made = absurd (cc)
object_outlined n (array es) part r h is made = absurd (cc)
object_outlined n (object ms) part r h is made = made ms h.stands h.nests
