-- The compact texts of parts.
use Rattle.std.proofs.Common.{◌≡◌, refl, sym, ◌∙◌, ap, ℕ, zero, suc, ◌<◌, ◌≤◌, List, [], ◌∷◌, ◌++◌, length, take, get_or, map, Ordering, Less, Equal, Greater, nat_cmp, true, false, ◌⊎◌, inl, inr, arith, Some}
use mathlib.Core.Path.{subst}
use Rattle.std.specs.Cmp.Lexicographic.{slice_cmp}
use Rattle.std.specs.Ordering.{match_ordering}
use Rattle.vx_data.specs.Tree.{Tree, null, boolean, int, text, bytes, array, object, Elements, no_elements, element, Members, no_members, member}
use Rattle.vx_data.specs.Bodies.{tree_depth, deepest_element, deepest_member, put, put_all, gathered}
use Rattle.vx_data.specs.BodyText.{body_text, quoted, joined, element_texts, member_texts}
use Rattle.vx_json_parts.specs.Compact.{text_in, spelled, spelled_items, spelled_fields, spelled_texts}
use Rattle.vx_json_parts.specs.Forms.{form_of, begins_with}
use Rattle.vx_json_parts.specs.declared.part.Form.TheVariants as forms
use Rattle.vx_json.specs.Grammar.{settled, settled_elements, settled_members, IsValue}
use Rattle.vx_json.specs.Keeps.{Keeps}
use Rattle.vx_json_parts.specs.Parts.{IsPart, AreItems, AreFields}
use Rattle.vx_json_parts.specs.Reading.{fields_of, items_of}
use Rattle.vx_json_parts.specs.Seen.{parts_seen, fields_seen}
use Rattle.vx_json_parts.specs.declared.part.Part.{Part}
use Rattle.vx_json_parts.proofs.ReadParts.{kept_part, kept_field, are_items, are_fields}
use Rattle.vx_json.proofs.Keeping.{within_or_deep}
use Rattle.vx_json.proofs.RoundTrip.{unpadded}
use Rattle.vx_json_parts.proofs.TakeParts.{fields_stand, items_stand, same_list}

-- ---- the texts of texts

pub item_texts_are : (es : Elements) → map text_in (spelled_items es) ≡ element_texts (settled_elements es)
item_texts_are no_elements = refl
item_texts_are (element t es) = ap (λ (xs : List (List ℕ)). body_text (settled t) ∷ xs) (item_texts_are es)

-- members with their texts in place of them
abbrev spelled_in : Members → Members
spelled_in no_members = no_members
spelled_in (member k t ms) = member k (bytes (body_text t)) (spelled_in ms)

put_chosen : (o : Ordering) (k l : List ℕ) (t u : Tree) (ms more less : Members) → less ≡ spelled_in more
    → match_ordering o (member k (bytes (body_text t)) (member l (bytes (body_text u)) (spelled_in ms))) (member k (bytes (body_text t)) (spelled_in ms)) (member l (bytes (body_text u)) less)
    ≡ spelled_in (match_ordering o (member k t (member l u ms)) (member k t ms) (member l u more))
put_chosen Less k l t u ms more less is = refl
put_chosen Equal k l t u ms more less is = refl
put_chosen Greater k l t u ms more less is = ap (member l (bytes (body_text u))) is

put_spelled : (k : List ℕ) (t : Tree) (ms : Members) → put k (bytes (body_text t)) (spelled_in ms) ≡ spelled_in (put k t ms)
put_spelled k t no_members = refl
put_spelled k t (member l u ms) = put_chosen (slice_cmp nat_cmp k l) k l t u ms (put k t ms) (put k (bytes (body_text t)) (spelled_in ms)) (put_spelled k t ms)

all_spelled : (ms found : Members) → put_all (spelled_fields ms) (spelled_in found) ≡ spelled_in (settled_members ms found)
all_spelled no_members found = refl
all_spelled (member k t ms) found = ap (put_all (spelled_fields ms)) (put_spelled k (settled t) found) ∙ all_spelled ms (put k (settled t) found)

texts_spelled : (ms : Members) → spelled_texts (spelled_in ms) ≡ member_texts ms
texts_spelled no_members = refl
texts_spelled (member k t ms) = ap (λ (xs : List (List ℕ)). (quoted k ++ 58 ∷ body_text t) ∷ xs) (texts_spelled ms)

pub field_texts_are : (ms : Members) → spelled_texts (gathered (spelled_fields ms)) ≡ member_texts (settled_members ms no_members)
field_texts_are ms = ap spelled_texts (all_spelled ms no_members) ∙ texts_spelled (settled_members ms no_members)

-- ---- what is read of a value

pub items_there : {V : Type 0} (items : V → List Part) (n : ℕ) (bs : List ℕ) (es : Elements) (v : V) → n ≤ 127 → items_of n bs ≡ Some (parts_seen (items v)) → IsValue (array es) bs → tree_depth (array es) ≤ n → AreItems es (items v)
items_there items n bs es v small h is deep =
    let stood = items_stand n es bs (unpadded (IsValue (array es)) bs is) deep in
    subst (λ ns. AreItems ns (items v)) stood.are (are_items n stood.parts (items v) small stood.stand (same_list (parts_seen (items v)) (map kept_part stood.parts) (sym h ∙ stood.was)))

pub fields_there : {V : Type 0} (items : V → List (List ℕ × Part)) (n : ℕ) (bs : List ℕ) (ms : Members) (v : V) → n ≤ 127 → fields_of n bs ≡ Some (fields_seen (items v)) → IsValue (object ms) bs → tree_depth (object ms) ≤ n → AreFields ms (items v)
fields_there items n bs ms v small h is deep =
    let stood = fields_stand n ms bs (unpadded (IsValue (object ms)) bs is) deep in
    subst (λ ns. AreFields ns (items v)) stood.are (are_fields n stood.parts (items v) small stood.stand (same_list (fields_seen (items v)) (map kept_field stood.parts) (sym h ∙ stood.was)))

-- ---- one after another

head_parts : {A : Type 0} (x y : A) (xs ys : List A) → x ∷ xs ≡ y ∷ ys → (x ≡ y) × (xs ≡ ys)
head_parts x y xs ys h = ((cc), (cc))

-- the next item's text
pub next_item : (es : Elements) (parts : List Part) (i n : ℕ) (part : Part) (xs : List Tree) (value : List ℕ) → AreItems es parts → i < length parts → part ≡ get_or parts i part → deepest_element es ≤ n
    → ((t : Tree) → IsPart t part → tree_depth t ≤ n → value ≡ body_text (settled t)) → xs ≡ take i (spelled_items es) → xs ++ bytes value ∷ [] ≡ take (suc i) (spelled_items es)
next_item no_elements [] i n part xs value are within here deep written h = absurd (omega arith)
next_item no_elements (p ∷ ps) i n part xs value are within here deep written h = absurd are
next_item (element t es) [] i n part xs value are within here deep written h = absurd are
next_item (element t es) (p ∷ ps) zero n part xs value are within here deep written h =
    let is : IsPart t part = subst (IsPart t) (sym here) are.0 in
    ap (λ (ys : List Tree). ys ++ bytes value ∷ []) h ∙ ap (λ (s : List ℕ). bytes s ∷ []) (written t is (omega arith))
next_item (element t es) (p ∷ ps) (suc i) n part [] value are within here deep written h = absurd (cc)
next_item (element t es) (p ∷ ps) (suc i) n part (x ∷ xs) value are within here deep written h =
    let heads = head_parts x (spelled t) xs (take i (spelled_items es)) h in
    λ j. heads.0 j ∷ next_item es ps i n part xs value are.1 (omega arith) here (omega arith) written heads.1 j

pub next_field : (ms : Members) (fields : List (List ℕ × Part)) (i n : ℕ) (field : List ℕ × Part) (xs : List (List ℕ × Tree)) (value : List ℕ) → AreFields ms fields → i < length fields → field ≡ get_or fields i field → deepest_member ms ≤ n
    → ((t : Tree) → IsPart t field.1 → tree_depth t ≤ n → value ≡ body_text (settled t)) → xs ≡ take i (spelled_fields ms) → xs ++ (field.0, bytes value) ∷ [] ≡ take (suc i) (spelled_fields ms)
next_field no_members [] i n field xs value are within here deep written h = absurd (omega arith)
next_field no_members (f ∷ fs) i n field xs value are within here deep written h = absurd are
next_field (member k t ms) [] i n field xs value are within here deep written h = absurd are
next_field (member k t ms) (f ∷ fs) zero n field xs value are within here deep written h =
    let is : IsPart t field.1 = subst (λ (g : List ℕ × Part). IsPart t g.1) (sym here) are.1 in
    let key : field.0 ≡ k = ap (λ (g : List ℕ × Part). g.0) here ∙ are.0 in
    ap (λ (ys : List (List ℕ × Tree)). ys ++ (field.0, bytes value) ∷ []) h ∙ (λ j. (key j, bytes (written t is (omega arith) j)) ∷ [])
next_field (member k t ms) (f ∷ fs) (suc i) n field [] value are within here deep written h = absurd (cc)
next_field (member k t ms) (f ∷ fs) (suc i) n field (x ∷ xs) value are within here deep written h =
    let heads = head_parts x (k, spelled t) xs (take i (spelled_fields ms)) h in
    λ j. heads.0 j ∷ next_field ms fs i n field xs value are.2 (omega arith) here (omega arith) written heads.1 j

pub all_items : (es : Elements) (parts : List Part) (i : ℕ) → AreItems es parts → length parts ≤ i → take i (spelled_items es) ≡ spelled_items es
all_items no_elements [] zero are long = refl
all_items no_elements [] (suc i) are long = refl
all_items no_elements (p ∷ ps) i are long = absurd are
all_items (element t es) [] i are long = absurd are
all_items (element t es) (p ∷ ps) zero are long = absurd (omega arith)
all_items (element t es) (p ∷ ps) (suc i) are long = ap (λ (xs : List Tree). spelled t ∷ xs) (all_items es ps i are.1 (omega arith))

pub all_fields : (ms : Members) (fields : List (List ℕ × Part)) (i : ℕ) → AreFields ms fields → length fields ≤ i → take i (spelled_fields ms) ≡ spelled_fields ms
all_fields no_members [] zero are long = refl
all_fields no_members [] (suc i) are long = refl
all_fields no_members (f ∷ fs) i are long = absurd are
all_fields (member k t ms) [] i are long = absurd are
all_fields (member k t ms) (f ∷ fs) zero are long = absurd (omega arith)
all_fields (member k t ms) (f ∷ fs) (suc i) are long = ap (λ (xs : List (List ℕ × Tree)). (k, spelled t) ∷ xs) (all_fields ms fs i are.2 (omega arith))

-- ---- values that are deeper than a body

pub data IsNested (t : Tree) (bs : List ℕ) : Type 0 where
  is_array : (es : Elements) → t ≡ array es → IsValue (array es) bs → IsNested t bs
  is_object : (ms : Members) → t ≡ object ms → IsValue (object ms) bs → IsNested t bs

pub nested : (t : Tree) (bs : List ℕ) → IsValue t bs → 0 < tree_depth (settled t) → IsNested t bs
nested null bs is deep = absurd (omega arith)
nested (boolean b) bs is deep = absurd (omega arith)
nested (int n) bs is deep = absurd (omega arith)
nested (text s) bs is deep = absurd (omega arith)
nested (bytes s) bs is deep = absurd (omega arith)
nested (array es) bs is deep = is_array es refl is
nested (object ms) bs is deep = is_object ms refl is

deep_side : (k s : Tree) → Keeps k s → (tree_depth s ≤ 100) ⊎ (100 < tree_depth s) → 100 < tree_depth k → 0 < tree_depth s
deep_side k s h (inl small) deep = let same = ap tree_depth (h.exact small) in absurd (omega arith)
deep_side k s h (inr large) deep = omega arith

pub deep_value : (k s : Tree) → Keeps k s → 100 < tree_depth k → 0 < tree_depth s
deep_value k s h deep = deep_side k s h (within_or_deep (tree_depth s)) deep

no_object_begins : (bs : List ℕ) (ms : Members) → IsValue (object ms) bs → begins_with 91 bs ≡ true → ⊥
no_object_begins bs ms is h = let other : begins_with 91 bs ≡ false = ap (begins_with 91) is.1 in cc

array_begins : (bs : List ℕ) (es : Elements) → IsValue (array es) bs → begins_with 91 bs ≡ false → ⊥
array_begins bs es is h = let other : begins_with 91 bs ≡ true = ap (begins_with 91) is.1 in cc

list_text : (t : Tree) (es : Elements) (texts : List Tree) (old : List ℕ) → t ≡ array es → texts ≡ spelled_items es → old ++ 91 ∷ (joined (map text_in texts) ++ 93 ∷ []) ≡ old ++ body_text (settled t)
list_text t es texts old same are = ap (λ (xs : List Tree). old ++ 91 ∷ (joined (map text_in xs) ++ 93 ∷ [])) are ∙ ap (λ (xs : List (List ℕ)). old ++ 91 ∷ (joined xs ++ 93 ∷ [])) (item_texts_are es) ∙ ap (λ u. old ++ body_text (settled u)) (sym same)

object_text : (t : Tree) (ms : Members) (old : List ℕ) → t ≡ object ms → old ++ 123 ∷ (joined (spelled_texts (gathered (spelled_fields ms))) ++ 125 ∷ []) ≡ old ++ body_text (settled t)
object_text t ms old same = ap (λ (xs : List (List ℕ)). old ++ 123 ∷ (joined xs ++ 125 ∷ [])) (field_texts_are ms) ∙ ap (λ u. old ++ body_text (settled u)) (sym same)

-- the array of a value that begins with a bracket
pub array_there : (t : Tree) (bs : List ℕ) (texts : List Tree) (old : List ℕ) (n : ℕ) → begins_with 91 bs ≡ true → tree_depth t ≤ suc n → ((es : Elements) → IsValue (array es) bs → deepest_element es ≤ n → texts ≡ spelled_items es)
    → IsNested t bs → old ++ 91 ∷ (joined (map text_in texts) ++ 93 ∷ []) ≡ old ++ body_text (settled t)
array_there t bs texts old n begins deep found (is_array es same is) = list_text t es texts old same (found es is (let d = ap tree_depth same in omega arith))
array_there t bs texts old n begins deep found (is_object ms same is) = absurd (no_object_begins bs ms is begins)

-- the object of one that does not
pub record ObjectThere (t : Tree) (bs : List ℕ) (n : ℕ) : Type 0 where
  pub ms : Members
  pub is : IsValue (object ms) bs
  pub deep : deepest_member ms ≤ n
  pub written : (old : List ℕ) → old ++ 123 ∷ (joined (spelled_texts (gathered (spelled_fields ms))) ++ 125 ∷ []) ≡ old ++ body_text (settled t)

pub object_there : (t : Tree) (bs : List ℕ) (n : ℕ) → begins_with 91 bs ≡ false → tree_depth t ≤ suc n → IsNested t bs → ObjectThere t bs n
object_there t bs n begins deep (is_array es same is) = absurd (array_begins bs es is begins)
object_there t bs n begins deep (is_object ms same is) = record { ms = ms; is = is; deep = (let d = ap tree_depth same in omega arith); written = λ old. object_text t ms old same }

-- ---- forms

array_form : (t : Tree) (bs : List ℕ) → begins_with 91 bs ≡ true → IsNested t bs → forms.Array ≡ form_of t
array_form t bs begins (is_array es same is) = sym (ap form_of same)
array_form t bs begins (is_object ms same is) = absurd (no_object_begins bs ms is begins)

object_form : (t : Tree) (bs : List ℕ) → begins_with 91 bs ≡ false → IsNested t bs → forms.Object ≡ form_of t
object_form t bs begins (is_array es same is) = absurd (array_begins bs es is begins)
object_form t bs begins (is_object ms same is) = sym (ap form_of same)

settled_form : (t : Tree) → form_of (settled t) ≡ form_of t
settled_form null = refl
settled_form (boolean b) = refl
settled_form (int n) = refl
settled_form (text s) = refl
settled_form (bytes s) = refl
settled_form (array es) = refl
settled_form (object ms) = refl

flat_form : (k s : Tree) → Keeps k s → (tree_depth s ≤ 100) ⊎ (100 < tree_depth s) → tree_depth k ≤ 100 → form_of k ≡ form_of s
flat_form k s h (inl small) flat = ap form_of (h.exact small)
flat_form k s h (inr deep) flat = let kept = h.deep deep in absurd (omega arith)

pub form_is : (t : Tree) (part : Part) → IsPart t part → tree_depth part.body ≤ 100 → form_of part.body ≡ form_of t
form_is t part h flat = flat_form part.body (settled t) h.keeps (within_or_deep (tree_depth (settled t))) flat ∙ settled_form t

pub deep_array : (t : Tree) (part : Part) → IsPart t part → 100 < tree_depth part.body → begins_with 91 part.text.now ≡ true → forms.Array ≡ form_of t
deep_array t part h deep begins = array_form t part.text.now begins (nested t part.text.now h.stands (deep_value part.body (settled t) h.keeps deep))

pub deep_object : (t : Tree) (part : Part) → IsPart t part → 100 < tree_depth part.body → begins_with 91 part.text.now ≡ false → forms.Object ≡ form_of t
deep_object t part h deep begins = object_form t part.text.now begins (nested t part.text.now h.stands (deep_value part.body (settled t) h.keeps deep))
