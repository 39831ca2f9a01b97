-- An object that is made of fields: what is found in it by name, and how long its text is beside that of an object with the same fields.
use Rattle.std.proofs.Common.{◌≡◌, refl, sym, ◌∙◌, ap, ℕ, ◌+◌, ◌≤◌, List, [], ◌∷◌, ◌++◌, append_assoc, append-nil, length, Bool, true, false, not, ◌&&◌, Option, Some, None, Result, IfOk, if◌then◌else◌, Ordering, Less, Equal, Greater, nat_cmp, arith, subst}
use Rattle.std.specs.Cmp.Lexicographic.{slice_cmp, texts_ties, same_text}
use Rattle.std.specs.Ordering.{match_ordering, is_eq}
use Rattle.std.specs.Str.{bytes_eq}
use Rattle.std.proofs.lemmas.Map.Lookups.{exact_bytes}
use Rattle.vx_data.specs.BodyText.{body_text}
use Rattle.vx_data.specs.Tree.{Tree, object, Members, no_members, member}
use Rattle.vx_data.specs.Bodies.{put, put_all, gathered}
use Rattle.vx_deployfile.specs.Fields.{field}
use Rattle.vx_deployfile.specs.Texts.{Fields, if_there, those_there, made_of}
use Rattle.vx_deployfile.proofs.Sizes.{weight, object_parts, one_member, put_small, smaller_object}

either : {R : Type 0} (test : Bool) → (test ≡ true → R) → (test ≡ false → R) → R
either true here there = here refl
either false here there = there refl

clash : {R : Type 0} (test : Bool) → test ≡ true → test ≡ false → R
clash test is not_so = absurd (cc)

same_name : (name key : List ℕ) → bytes_eq name key ≡ true → name ≡ key
same_name name key h = same_text name key (sym h)

-- ---- what is found by name

-- the value that is put in for a name, in place of the one before it
abbrev pub chosen : Bool → Option Tree → Option Tree → Option Tree
chosen false value before = before
chosen true None before = before
chosen true (Some t) before = Some t

abbrev pub looked_up : List ℕ → Fields → Option Tree → Option Tree
looked_up name [] before = before
looked_up name (f ∷ fs) before = looked_up name fs (chosen (bytes_eq name f.0) f.1 before)

pub the_one : (o : Option Tree) → chosen true o None ≡ o
the_one None = refl
the_one (Some t) = refl

abbrev first_of : Bool → Tree → Option Tree → Option Tree
first_of test t others = if test then Some t else others

-- a name that is one key is not another
apart : (name k l : List ℕ) → bytes_eq name l ≡ true → bytes_eq k l ≡ false → bytes_eq name k ≡ false
apart name k l is differs =
    either (bytes_eq name k) (λ yes. clash (bytes_eq k l) (subst (λ (key : List ℕ). bytes_eq key l ≡ true) (same_name name k yes) is) differs) (λ no. no)

-- by the order of the keys, where the name is that of the key that is put in, that of the first one, or neither
put_found : (o : Ordering) (name k l : List ℕ) (t u : Tree) (ms more : Members) → slice_cmp nat_cmp k l ≡ o → field name more ≡ first_of (bytes_eq name k) t (field name ms)
    → field name (match_ordering o (member k t (member l u ms)) (member k t ms) (member l u more)) ≡ first_of (bytes_eq name k) t (field name (member l u ms))
put_found Less name k l t u ms more order h = refl
put_found Equal name k l t u ms more order h =
    let same : k ≡ l = exact_bytes k l order in
    either (bytes_eq name k)
    (λ yes. ap (λ test. first_of test t (field name ms)) yes ∙ sym (ap (λ test. first_of test t (field name (member l u ms))) yes))
    (λ no.
    let other : bytes_eq name l ≡ false = subst (λ (key : List ℕ). bytes_eq name key ≡ false) same no in
    ap (λ (test : Bool). first_of test t (field name ms)) no ∙ sym (ap (λ test. first_of test t (field name (member l u ms))) no ∙ ap (λ test. first_of test u (field name ms)) other))
put_found Greater name k l t u ms more order h =
    either (bytes_eq name l)
    (λ yes.
    let other : bytes_eq name k ≡ false = apart name k l yes (texts_ties k l ∙ ap is_eq order) in
    ap (λ test. first_of test u (field name more)) yes ∙ sym (ap (λ test. first_of test t (field name (member l u ms))) other ∙ ap (λ test. first_of test u (field name ms)) yes))
    (λ no.
    ap (λ test. first_of test u (field name more)) no ∙ h ∙ sym (ap (λ others. first_of (bytes_eq name k) t others) (ap (λ test. first_of test u (field name ms)) no)))

field_put : (name k : List ℕ) (t : Tree) (ms : Members) → field name (put k t ms) ≡ first_of (bytes_eq name k) t (field name ms)
field_put name k t no_members = refl
field_put name k t (member l u ms) = put_found (slice_cmp nat_cmp k l) name k l t u ms (put k t ms) refl (field_put name k t ms)

taken_in : (test : Bool) (t : Tree) (before : Option Tree) → first_of test t before ≡ chosen test (Some t) before
taken_in true t before = refl
taken_in false t before = refl

left_out : (test : Bool) (before : Option Tree) → before ≡ chosen test None before
left_out true before = refl
left_out false before = refl

found_behind : (name key : List ℕ) (o : Option Tree) (fs : Fields) (found : Members) → ((found : Members) → field name (put_all (those_there fs) found) ≡ looked_up name fs (field name found))
    → field name (put_all (those_there ((key, o) ∷ fs)) found) ≡ looked_up name fs (chosen (bytes_eq name key) o (field name found))
found_behind name key None fs found more = more found ∙ ap (looked_up name fs) (left_out (bytes_eq name key) (field name found))
found_behind name key (Some t) fs found more = more (put key t found) ∙ ap (looked_up name fs) (field_put name key t found ∙ taken_in (bytes_eq name key) t (field name found))

all_found : (name : List ℕ) (fs : Fields) (found : Members) → field name (put_all (those_there fs) found) ≡ looked_up name fs (field name found)
all_found name [] found = refl
all_found name (f ∷ fs) found = found_behind name f.0 f.1 fs found (all_found name fs)

pub field_made : (name : List ℕ) (fs : Fields) → field name (made_of fs) ≡ looked_up name fs None
field_made name fs = all_found name fs no_members

-- ---- how long it is

-- how much of an object's text a field takes, where it is there
abbrev pub taken : List ℕ → Option Tree → ℕ
taken name None = 0
taken name (Some t) = weight name t

abbrev pub all_taken : Fields → ℕ
all_taken [] = 0
all_taken (f ∷ fs) = taken f.0 f.1 + all_taken fs

put_behind : (key : List ℕ) (o : Option Tree) (fs : Fields) (found : Members) → ((found : Members) → object_parts (put_all (those_there fs) found) ≤ all_taken fs + object_parts found)
    → object_parts (put_all (those_there ((key, o) ∷ fs)) found) ≤ taken key o + all_taken fs + object_parts found
put_behind key None fs found more = omega (arith, more found)
put_behind key (Some t) fs found more = omega (arith, more (put key t found), put_small key t found)

all_put_small : (fs : Fields) (found : Members) → object_parts (put_all (those_there fs) found) ≤ all_taken fs + object_parts found
all_put_small [] found = omega arith
all_put_small (f ∷ fs) found = put_behind f.0 f.1 fs found (all_put_small fs)

-- the members without the first of this name
abbrev without : List ℕ → Members → Members
without name no_members = no_members
without name (member k t ms) = if bytes_eq name k then ms else member k t (without name ms)

taken_at : (test : Bool) (name k : List ℕ) (t : Tree) (ms less : Members) → (test ≡ true → name ≡ k) → taken name (field name ms) + object_parts less ≡ object_parts ms
    → taken name (first_of test t (field name ms)) + object_parts (if test then ms else member k t less) ≡ weight k t + object_parts ms
taken_at true name k t ms less same h = ap (λ (key : List ℕ). weight key t + object_parts ms) (same refl)
taken_at false name k t ms less same h = omega (arith, one_member k t less, h)

taken_out : (name : List ℕ) (ms : Members) → taken name (field name ms) + object_parts (without name ms) ≡ object_parts ms
taken_out name no_members = refl
taken_out name (member k t ms) = taken_at (bytes_eq name k) name k t ms (without name ms) (same_name name k) (taken_out name ms) ∙ sym (one_member k t ms)

apart_at : (test : Bool) (name other k : List ℕ) (t : Tree) (ms less : Members) → (test ≡ true → bytes_eq name k ≡ false) → field name less ≡ field name ms
    → field name (if test then ms else member k t less) ≡ first_of (bytes_eq name k) t (field name ms)
apart_at true name other k t ms less differs h = sym (ap (λ test. first_of test t (field name ms)) (differs refl))
apart_at false name other k t ms less differs h = ap (first_of (bytes_eq name k) t) h

field_without : (name other : List ℕ) (ms : Members) → bytes_eq name other ≡ false → field name (without other ms) ≡ field name ms
field_without name other no_members h = refl
field_without name other (member k t ms) h =
    apart_at (bytes_eq other k) name other k t ms (without other ms) (λ is. subst (λ (key : List ℕ). bytes_eq name key ≡ false) (same_name other k is) h) (field_without name other ms h)

-- how much the fields of these names take
abbrev named : List (List ℕ) → Members → ℕ
named [] ms = 0
named (name ∷ names) ms = taken name (field name ms) + named names ms

abbrev is_apart : List ℕ → List (List ℕ) → Bool
is_apart other [] = true
is_apart other (name ∷ names) = not (bytes_eq name other) && is_apart other names

abbrev pub are_apart : List (List ℕ) → Bool
are_apart [] = true
are_apart (name ∷ names) = is_apart name names && are_apart names

both : (a b : Bool) → (a && b) ≡ true → (a ≡ true) × (b ≡ true)
both true b h = (refl, h)
both false b h = absurd (cc)

denied : (a : Bool) → not a ≡ true → a ≡ false
denied true h = absurd (cc)
denied false h = refl

named_without : (names : List (List ℕ)) (other : List ℕ) (ms : Members) → is_apart other names ≡ true → named names (without other ms) ≡ named names ms
named_without [] other ms h = refl
named_without (name ∷ names) other ms h =
    let parts = both (not (bytes_eq name other)) (is_apart other names) h in
    λ i. taken name (field_without name other ms (denied (bytes_eq name other) parts.0) i) + named_without names other ms parts.1 i

named_within : (names : List (List ℕ)) (ms : Members) → are_apart names ≡ true → named names ms ≤ object_parts ms
named_within [] ms h = omega arith
named_within (name ∷ names) ms h =
    let parts = both (is_apart name names) (are_apart names) h in
    omega (arith, taken_out name ms, named_without names name ms parts.0, named_within names (without name ms) parts.1)

abbrev pub names_of : Fields → List (List ℕ)
names_of [] = []
names_of (f ∷ fs) = f.0 ∷ names_of fs

-- each field takes no more than that of its name in the object
abbrev pub AreSmaller : Fields → Members → Type 0
AreSmaller [] ms = Unit {0}
AreSmaller (f ∷ fs) ms = (taken f.0 f.1 ≤ taken f.0 (field f.0 ms)) × AreSmaller fs ms

smaller_named : (fs : Fields) (ms : Members) → AreSmaller fs ms → all_taken fs ≤ named (names_of fs) ms
smaller_named [] ms less = omega arith
smaller_named (f ∷ fs) ms less = omega (arith, less.0, smaller_named fs ms less.1)

-- An object that is made of fields is no longer than one whose fields of these names take as much.
pub made_small : (fs : Fields) (ms : Members) → are_apart (names_of fs) ≡ true → AreSmaller fs ms → length (body_text (object (made_of fs))) ≤ length (body_text (object ms))
made_small fs ms apart less =
    smaller_object (made_of fs) ms (omega (arith, all_put_small fs no_members, named_within (names_of fs) ms apart, smaller_named fs ms less))

-- ---- how it is made

pub object_made : {E : Type 0} (result : Result Tree E) (pairs : List (List ℕ × Tree)) (fs : Fields) → pairs ≡ those_there fs → IfOk result (λ body. body ≡ object (gathered pairs)) → IfOk result (λ body. body ≡ object (made_of fs))
object_made result pairs fs is made = subst (λ (ps : List (List ℕ × Tree)). IfOk result (λ body. body ≡ object (gathered ps))) is made

both_there : (fs gs : Fields) → those_there (fs ++ gs) ≡ those_there fs ++ those_there gs
both_there [] gs = refl
both_there (f ∷ fs) gs = ap (λ (ps : List (List ℕ × Tree)). if_there f.0 f.1 ++ ps) (both_there fs gs) ∙ sym (append_assoc (if_there f.0 f.1) (those_there fs) (those_there gs))

-- one more field
pub put_after : (old new : List (List ℕ × Tree)) (front : Fields) (name : List ℕ) (value o : Option Tree) → old ≡ those_there front → new ≡ old ++ if_there name value → value ≡ o → new ≡ those_there (front ++ (name, o) ∷ [])
put_after old new front name value o before is same =
    is ∙ (λ i. before i ++ if_there name (same i)) ∙ ap (λ (ps : List (List ℕ × Tree)). those_there front ++ ps) (sym (append-nil (if_there name o))) ∙ sym (both_there front ((name, o) ∷ []))
