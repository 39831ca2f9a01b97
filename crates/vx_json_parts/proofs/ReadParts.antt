-- The parts of arrays and objects: what is read stands there, in its bytes, and what stands there is read.
use Rattle.std.proofs.Common.{◌≡◌, refl, sym, ◌∙◌, ap, ℕ, zero, suc, ◌-◌, ◌<◌, ◌≤◌, ◌⊎◌, inl, inr, List, [], ◌∷◌, ◌++◌, length, take, map, true, false, Option, Some, None, option_map, option_and_then, arith, append_assoc, append-nil, length-append, take_all}
use mathlib.Core.Path.{subst}
use Rattle.std.specs.Bool.{◌==◌}
use Rattle.std.specs.List.{AllByRecursion}
use Rattle.std.proofs.lemmas.Bool.Decides.{Decides-eqb}
use Rattle.std.proofs.lemmas.Option.{option_and_then_some}
use Rattle.std.proofs.lemmas.List.{take-append-le}
use Rattle.vx_data.specs.Tree.{Tree, array, object, Elements, no_elements, element, Members, no_members, member}
use Rattle.vx_data.specs.Bodies.{tree_depth, deepest_element, deepest_member}
use Rattle.vx_json.specs.Grammar.{settled, IsBlank, IsPadded, IsPair, IsValue, AreElements, AreMoreElements, AreMembers, AreMoreMembers}
use Rattle.vx_json.specs.Texts.{IsQuoted}
use Rattle.vx_json.specs.Keeps.{Keeps}
use Rattle.vx_json_parts.specs.Parts.{IsPart, AreItems, AreFields}
use Rattle.vx_json_parts.specs.Seen.{part_seen, parts_seen, field_seen, fields_seen}
use Rattle.vx_json.specs.Reading.{skip, after, items_at, list_begun, list_at, quoted_at, value_at}
use Rattle.vx_json_parts.specs.Reading.{part_at, field_at, if_all, whole_list, fields_of, items_of}
use Rattle.vx_json_parts.specs.declared.part.Part.{Part}
use Rattle.vx_json.proofs.Keeping.{kept, keeps}
use Rattle.vx_json.proofs.Options.{read, chosen, some_pair}
use Rattle.vx_json.proofs.Separated.{AreMore}
use Rattle.vx_json.proofs.SoundTexts.{Fronts, after_front, quoted_sound}
use Rattle.vx_json.proofs.SoundValues.{skip_sound, padded_before, FoundItem, FoundItems, items_sound, IsSound, value_sound}

-- ---- one part

-- a value with the bytes in which it stands
abbrev pub Stood : Type 0
Stood = Tree × List ℕ

abbrev pub Named : Type 0
Named = List ℕ × (Tree × List ℕ)

abbrev pub StandsIn : Stood → List ℕ → Type 0
StandsIn p inner = IsValue p.0 inner × (inner ≡ p.1)

abbrev pub PartIn : ℕ → Stood → List ℕ → Type 0
PartIn n p all = IsPadded (StandsIn p) all × (tree_depth p.0 ≤ n)

abbrev pub FieldIn : ℕ → Named → List ℕ → Type 0
FieldIn n p all = IsPair p.0 (StandsIn p.1) all × (tree_depth p.1.0 ≤ n)

abbrev pub kept_part : Stood → Stood
kept_part p = (kept p.0, p.1)

abbrev pub kept_field : Named → Named
kept_field p = (p.0, kept_part p.1)

record Mapped {A B : Type 0} (f : A → B) (o : Option A) (b : B) : Type 0 where
  a : A
  was : o ≡ Some a
  is : b ≡ f a

mapped : {A B : Type 0} (f : A → B) (o : Option A) (b : B) → option_map f o ≡ Some b → Mapped f o b
mapped f None b h = absurd (cc)
mapped f (Some a) b h = record { a = a; was = refl; is = (cc) }

pub front_of : (bs front rest : List ℕ) → bs ≡ front ++ rest → take (length bs - length rest) bs ≡ front
front_of bs front rest is =
    let n : length bs - length rest ≡ length front = omega (arith, ap length is, length-append front rest) in
    ap (λ k. take k bs) n ∙ ap (take (length front)) is ∙ take-append-le (length front) front rest (omega arith) ∙ take_all (length front) front (omega arith)

abbrev pub with_text : List ℕ → Tree × List ℕ → (Tree × List ℕ) × List ℕ
with_text start v = ((v.0, take (length start - length v.1) start), v.1)

-- a value behind white space
record FoundPart (n : ℕ) (bs : List ℕ) (k : Stood) (rest : List ℕ) : Type 0 where
  tree : Tree
  front : List ℕ
  blank : List ℕ
  is_blank : IsBlank blank
  spelled : bs ≡ blank ++ (front ++ rest)
  is : IsValue tree front
  nests : tree_depth tree ≤ n
  same : k ≡ (kept tree, front)

found_part : (n : ℕ) (bs : List ℕ) (k : Stood) (rest : List ℕ) → IsSound n (value_at n) → part_at (value_at n) bs ≡ read k rest → FoundPart n bs k rest
unfolding part_at
found_part n bs k rest sound h =
    let got = mapped (with_text (skip bs)) (value_at n (skip bs)) (k, rest) h in
    let found = sound (skip bs) got.a.0 got.a.1 got.was in
    let skipped = skip_sound bs in
    let behind : rest ≡ got.a.1 = ap (λ (p : Stood × List ℕ). p.1) got.is in
    record {
      tree = found.tree;
      front = found.front;
      blank = skipped.blank;
      is_blank = skipped.is_blank;
      spelled = skipped.spelled ∙ ap (λ (r : List ℕ). skipped.blank ++ r) (found.spelled ∙ ap (λ (r : List ℕ). found.front ++ r) (sym behind));
      is = found.is;
      nests = found.nests;
      same = ap (λ (p : Stood × List ℕ). p.0) got.is ∙ (λ i. (found.same i, front_of (skip bs) found.front got.a.1 found.spelled i));
    }

part_sound : (n : ℕ) (bs : List ℕ) (k : Stood) (rest : List ℕ) → part_at (value_at n) bs ≡ read k rest → FoundItem (PartIn n) kept_part bs k rest
part_sound n bs k rest h =
    let found = found_part n bs k rest (value_sound n) h in
    record {
      item = (found.tree, found.front);
      here = found.blank ++ found.front;
      spelled = found.spelled ∙ sym (append_assoc found.blank found.front rest);
      is = λ blank is_blank. (record { before = found.blank; inner = found.front; after = blank; spelled = append_assoc found.blank found.front blank; blank_before = found.is_blank; is_inner = (found.is, refl); blank_after = is_blank }, found.nests);
      same = found.same;
    }

field_with : (n : ℕ) (bs : List ℕ) (key : List ℕ) (behind colon : List ℕ) (p : Named) (rest : List ℕ) → Fronts (IsQuoted key) (skip bs) behind → after (58 ∷ []) (skip behind) ≡ Some colon
    → option_map {U = Named × List ℕ} (λ v. ((key, v.0), v.1)) (part_at (value_at n) colon) ≡ read p rest → FoundItem (FieldIn n) kept_field bs p rest
field_with n bs key behind colon p rest quoted begins h =
    let before = skip_sound bs in
    let between = skip_sound behind in
    let got = mapped {B = Named × List ℕ} (λ v. ((key, v.0), v.1)) (part_at (value_at n) colon) (p, rest) h in
    let last : rest ≡ got.a.1 = ap (λ (q : Named × List ℕ). q.1) got.is in
    let found = found_part n colon got.a.0 got.a.1 (value_sound n) got.was in
    record {
      item = (key, (found.tree, found.front));
      here = (before.blank ++ (quoted.front ++ between.blank)) ++ 58 ∷ (found.blank ++ found.front);
      spelled = before.spelled ∙ ap (λ (r : List ℕ). before.blank ++ r) (quoted.spelled ∙ ap (λ (r : List ℕ). quoted.front ++ r) (between.spelled ∙ ap (λ (r : List ℕ). between.blank ++ r) (after_front (58 ∷ []) (skip behind) colon begins
          ∙ ap (λ (r : List ℕ). 58 ∷ r) (found.spelled ∙ ap (λ (r : List ℕ). found.blank ++ (found.front ++ r)) (sym last))))) ∙ simp append_assoc;
      is = λ blank is_blank. (
        record {
          name = before.blank ++ (quoted.front ++ between.blank);
          rest = found.blank ++ (found.front ++ blank);
          spelled = simp append_assoc;
          is_name = record { before = before.blank; inner = quoted.front; after = between.blank; spelled = refl; blank_before = before.is_blank; is_inner = quoted.is; blank_after = between.is_blank };
          is_rest = record { before = found.blank; inner = found.front; after = blank; spelled = refl; blank_before = found.is_blank; is_inner = (found.is, refl); blank_after = is_blank };
        },
        found.nests,
      );
      same = ap (λ (q : Named × List ℕ). q.0) got.is ∙ ap (λ (s : Stood). (key, s)) found.same;
    }

abbrev pub field_rest : ℕ → List ℕ → List ℕ → Option (Named × List ℕ)
field_rest n key colon = option_map {U = Named × List ℕ} (λ v. ((key, v.0), v.1)) (part_at (value_at n) colon)

field_sound : (n : ℕ) (bs : List ℕ) (p : Named) (rest : List ℕ) → field_at (value_at n) bs ≡ read p rest → FoundItem (FieldIn n) kept_field bs p rest
unfolding field_at
field_sound n bs p rest h =
    option_and_then_some (λ k. option_and_then (field_rest n k.0) (after (58 ∷ []) (skip k.1))) (quoted_at (skip bs)) (p, rest) h (λ k quoted g.
    option_and_then_some (field_rest n k.0) (after (58 ∷ []) (skip k.1)) (p, rest) g (λ colon begins e.
    field_with n bs k.0 k.1 colon p rest (quoted_sound (skip bs) k.0 k.1 quoted) begins e))

-- ---- all of a list

-- each value stands in its bytes
abbrev pub EachStands : ℕ → List Stood → Type 0
EachStands n ps = AllByRecursion (λ (p : Stood). IsValue p.0 p.1 × (tree_depth p.0 ≤ n)) ps

abbrev pub EachFieldStands : ℕ → List Named → Type 0
EachFieldStands n ps = AllByRecursion (λ (p : Named). IsValue p.1.0 p.1.1 × (tree_depth p.1.0 ≤ n)) ps

abbrev pub trees_of : List Stood → Elements
trees_of [] = no_elements
trees_of (p ∷ ps) = element p.0 (trees_of ps)

abbrev pub fields_in : List Named → Members
fields_in [] = no_members
fields_in (p ∷ ps) = member p.0 p.1.0 (fields_in ps)

stood_here : (p : Stood) (all : List ℕ) → IsPadded (StandsIn p) all → IsValue p.0 p.1
stood_here p all is = subst (IsValue p.0) is.is_inner.1 is.is_inner.0

padded_value : (p : Stood) (all : List ℕ) → IsPadded (StandsIn p) all → IsPadded (IsValue p.0) all
padded_value p all is = record { before = is.before; inner = is.inner; after = is.after; spelled = is.spelled; blank_before = is.blank_before; is_inner = is.is_inner.0; blank_after = is.blank_after }

pair_value : (p : Named) (all : List ℕ) → IsPair p.0 (StandsIn p.1) all → IsPair p.0 (IsValue p.1.0) all
pair_value p all is = record { name = is.name; rest = is.rest; spelled = is.spelled; is_name = is.is_name; is_rest = padded_value p.1 is.rest is.is_rest }

more_trees : (n : ℕ) (ps : List Stood) (all : List ℕ) → AreMore (PartIn n) ps all → AreMoreElements (trees_of ps) all × (deepest_element (trees_of ps) ≤ n) × EachStands n ps
more_trees n [] all h = (h, omega arith, tt)
more_trees n (p ∷ ps) all h =
    let others = more_trees n ps h.1 h.4 in
    ((h.0, h.1, h.2, padded_value p h.0 h.3.0, others.0), omega (arith, h.3.1, others.1), ((stood_here p h.0 h.3.0, h.3.1), others.2))

more_named : (n : ℕ) (ps : List Named) (all : List ℕ) → AreMore (FieldIn n) ps all → AreMoreMembers (fields_in ps) all × (deepest_member (fields_in ps) ≤ n) × EachFieldStands n ps
more_named n [] all h = (h, omega arith, tt)
more_named n (p ∷ ps) all h =
    let others = more_named n ps h.1 h.4 in
    ((h.0, h.1, h.2, pair_value p h.0 h.3.0, others.0), omega (arith, h.3.1, others.1), ((stood_here p.1 h.3.0.rest h.3.0.is_rest, h.3.1), others.2))

-- a whole list inside its brackets
record FoundTrees (n : ℕ) (bs : List ℕ) (ks : List Stood) (rest : List ℕ) : Type 0 where
  parts : List Stood
  inside : List ℕ
  spelled : bs ≡ inside ++ 93 ∷ rest
  are : AreElements (trees_of parts) inside
  nests : deepest_element (trees_of parts) ≤ n
  stand : EachStands n parts
  same : ks ≡ map kept_part parts

record FoundNamed (n : ℕ) (bs : List ℕ) (ks : List Named) (rest : List ℕ) : Type 0 where
  parts : List Named
  inside : List ℕ
  spelled : bs ≡ inside ++ 125 ∷ rest
  are : AreMembers (fields_in parts) inside
  nests : deepest_member (fields_in parts) ≤ n
  stand : EachFieldStands n parts
  same : ks ≡ map kept_field parts

begun_trees : (n : ℕ) (blank bs : List ℕ) (ks : List Stood) (rest : List ℕ) → IsBlank blank → FoundItems (PartIn n) kept_part 93 bs ks rest → FoundTrees n (blank ++ bs) ks rest
begun_trees n blank bs ks rest is_blank found =
    let others = more_trees n found.others found.are.more found.are.others in
    let first = found.are.first in
    record {
      parts = found.first ∷ found.others;
      inside = blank ++ found.inside;
      spelled = ap (λ (r : List ℕ). blank ++ r) found.spelled ∙ sym (append_assoc blank found.inside (93 ∷ rest));
      are = (blank ++ found.are.here, found.are.more, ap (λ (r : List ℕ). blank ++ r) found.are.spelled ∙ sym (append_assoc blank found.are.here found.are.more), padded_before (IsValue found.first.0) blank found.are.here is_blank (padded_value found.first found.are.here first.0), others.0);
      nests = omega (arith, first.1, others.1);
      stand = ((stood_here found.first found.are.here first.0, first.1), others.2);
      same = found.same;
    }

pair_before : (key : List ℕ) (P : List ℕ → Type 0) (blank all : List ℕ) → IsBlank blank → IsPair key P all → IsPair key P (blank ++ all)
pair_before key P blank all h k = record {
  name = blank ++ k.name;
  rest = k.rest;
  spelled = ap (λ (r : List ℕ). blank ++ r) k.spelled ∙ sym (append_assoc blank k.name (58 ∷ k.rest));
  is_name = padded_before (IsQuoted key) blank k.name h k.is_name;
  is_rest = k.is_rest;
}

begun_named : (n : ℕ) (blank bs : List ℕ) (ks : List Named) (rest : List ℕ) → IsBlank blank → FoundItems (FieldIn n) kept_field 125 bs ks rest → FoundNamed n (blank ++ bs) ks rest
begun_named n blank bs ks rest is_blank found =
    let others = more_named n found.others found.are.more found.are.others in
    let first = found.are.first in
    record {
      parts = found.first ∷ found.others;
      inside = blank ++ found.inside;
      spelled = ap (λ (r : List ℕ). blank ++ r) found.spelled ∙ sym (append_assoc blank found.inside (125 ∷ rest));
      are = (blank ++ found.are.here, found.are.more, ap (λ (r : List ℕ). blank ++ r) found.are.spelled ∙ sym (append_assoc blank found.are.here found.are.more), pair_before found.first.0 (IsValue found.first.1.0) blank found.are.here is_blank (pair_value found.first found.are.here first.0), others.0);
      nests = omega (arith, first.1, others.1);
      stand = ((stood_here found.first.1 first.0.rest first.0.is_rest, first.1), others.2);
      same = found.same;
    }

trees_chosen : (n b : ℕ) (blank bs : List ℕ) (ks : List Stood) (rest : List ℕ) → IsBlank blank
    → ((b == 93) ≡ true) × (read [] bs ≡ read ks rest) ⊎ ((b == 93) ≡ false) × (items_at 93 (part_at (value_at n)) (length (b ∷ bs)) (b ∷ bs) ≡ read ks rest) → FoundTrees n (blank ++ b ∷ bs) ks rest
trees_chosen n b blank bs ks rest is_blank (inl h) =
    let parts = some_pair ([], bs) ks rest h.1 in
    record { parts = []; inside = blank; spelled = λ i. blank ++ (Decides-eqb b 93).0 h.0 i ∷ parts.1 i; are = is_blank; nests = omega arith; stand = tt; same = sym parts.0 }
trees_chosen n b blank bs ks rest is_blank (inr h) = begun_trees n blank (b ∷ bs) ks rest is_blank (items_sound (PartIn n) kept_part 93 (part_at (value_at n)) (part_sound n) (length (b ∷ bs)) (b ∷ bs) ks rest h.1)

named_chosen : (n b : ℕ) (blank bs : List ℕ) (ks : List Named) (rest : List ℕ) → IsBlank blank
    → ((b == 125) ≡ true) × (read [] bs ≡ read ks rest) ⊎ ((b == 125) ≡ false) × (items_at 125 (field_at (value_at n)) (length (b ∷ bs)) (b ∷ bs) ≡ read ks rest) → FoundNamed n (blank ++ b ∷ bs) ks rest
named_chosen n b blank bs ks rest is_blank (inl h) =
    let parts = some_pair ([], bs) ks rest h.1 in
    record { parts = []; inside = blank; spelled = λ i. blank ++ (Decides-eqb b 125).0 h.0 i ∷ parts.1 i; are = is_blank; nests = omega arith; stand = tt; same = sym parts.0 }
named_chosen n b blank bs ks rest is_blank (inr h) = begun_named n blank (b ∷ bs) ks rest is_blank (items_sound (FieldIn n) kept_field 125 (field_at (value_at n)) (field_sound n) (length (b ∷ bs)) (b ∷ bs) ks rest h.1)

trees_begun : (n : ℕ) (blank bs : List ℕ) (ks : List Stood) (rest : List ℕ) → IsBlank blank → list_begun 93 (part_at (value_at n)) bs ≡ read ks rest → FoundTrees n (blank ++ bs) ks rest
trees_begun n blank [] ks rest is_blank h = absurd (cc)
trees_begun n blank (b ∷ bs) ks rest is_blank h = trees_chosen n b blank bs ks rest is_blank (chosen (b == 93) (read [] bs) (items_at 93 (part_at (value_at n)) (length (b ∷ bs)) (b ∷ bs)) (read ks rest) h)

named_begun : (n : ℕ) (blank bs : List ℕ) (ks : List Named) (rest : List ℕ) → IsBlank blank → list_begun 125 (field_at (value_at n)) bs ≡ read ks rest → FoundNamed n (blank ++ bs) ks rest
named_begun n blank [] ks rest is_blank h = absurd (cc)
named_begun n blank (b ∷ bs) ks rest is_blank h = named_chosen n b blank bs ks rest is_blank (chosen (b == 125) (read [] bs) (items_at 125 (field_at (value_at n)) (length (b ∷ bs)) (b ∷ bs)) (read ks rest) h)

trees_sound : (n : ℕ) (bs : List ℕ) (ks : List Stood) (rest : List ℕ) → list_at 93 (part_at (value_at n)) bs ≡ read ks rest → FoundTrees n bs ks rest
unfolding list_at
trees_sound n bs ks rest h = let skipped = skip_sound bs in subst (λ (xs : List ℕ). FoundTrees n xs ks rest) (sym skipped.spelled) (trees_begun n skipped.blank (skip bs) ks rest skipped.is_blank h)

named_sound : (n : ℕ) (bs : List ℕ) (ks : List Named) (rest : List ℕ) → list_at 125 (field_at (value_at n)) bs ≡ read ks rest → FoundNamed n bs ks rest
unfolding list_at
named_sound n bs ks rest h = let skipped = skip_sound bs in subst (λ (xs : List ℕ). FoundNamed n xs ks rest) (sym skipped.spelled) (named_begun n skipped.blank (skip bs) ks rest skipped.is_blank h)

-- ---- whole texts

nothing_left : {A : Type 0} (x y : A) (rest : List ℕ) → if_all x rest ≡ Some y → (rest ≡ []) × (x ≡ y)
nothing_left x y [] h = (refl, (cc))
nothing_left x y (b ∷ bs) h = absurd (cc)

pub record ReadFields (n : ℕ) (text : List ℕ) (ks : List Named) : Type 0 where
  pub parts : List Named
  pub is : IsPadded (IsValue (object (fields_in parts))) text
  pub nests : deepest_member (fields_in parts) < n
  pub stand : EachFieldStands n parts
  pub same : ks ≡ map kept_field parts

pub record ReadItems (n : ℕ) (text : List ℕ) (ks : List Stood) : Type 0 where
  pub parts : List Stood
  pub is : IsPadded (IsValue (array (trees_of parts))) text
  pub nests : deepest_element (trees_of parts) < n
  pub stand : EachStands n parts
  pub same : ks ≡ map kept_part parts

less_stood : (n : ℕ) (ps : List Stood) → EachStands n ps → EachStands (suc n) ps
less_stood n [] h = tt
less_stood n (p ∷ ps) h = ((h.0.0, omega (arith, h.0.1)), less_stood n ps h.1)

less_named : (n : ℕ) (ps : List Named) → EachFieldStands n ps → EachFieldStands (suc n) ps
less_named n [] h = tt
less_named n (p ∷ ps) h = ((h.0.0, omega (arith, h.0.1)), less_named n ps h.1)

pub fields_sound : (n : ℕ) (text : List ℕ) (ks : List Named) → fields_of n text ≡ Some ks → ReadFields n text ks
unfolding fields_of
fields_sound zero text ks h = absurd (cc)
fields_sound (suc n) text ks h =
    option_and_then_some (whole_list 125 (field_at (value_at n))) (after (123 ∷ []) (skip text)) ks h (λ inside begins g.
    option_and_then_some (λ p. if_all p.0 (skip p.1)) (list_at 125 (field_at (value_at n)) inside) ks g (λ p listed e.
    let before = skip_sound text in
    let behind = skip_sound p.1 in
    let last = nothing_left p.0 ks (skip p.1) e in
    let found = named_sound n inside p.0 p.1 listed in
    record {
      parts = found.parts;
      is = record {
        before = before.blank;
        inner = 123 ∷ (found.inside ++ 125 ∷ []);
        after = behind.blank;
        spelled = before.spelled ∙ ap (λ (r : List ℕ). before.blank ++ r) (after_front (123 ∷ []) (skip text) inside begins ∙ ap (λ (r : List ℕ). 123 ∷ r) (found.spelled
            ∙ ap (λ (r : List ℕ). found.inside ++ 125 ∷ r) (behind.spelled ∙ ap (λ (r : List ℕ). behind.blank ++ r) last.0 ∙ append-nil behind.blank) ∙ sym (append_assoc found.inside (125 ∷ []) behind.blank)));
        blank_before = before.is_blank;
        is_inner = (found.inside, refl, found.are);
        blank_after = behind.is_blank;
      };
      nests = omega (arith, found.nests);
      stand = less_named n found.parts found.stand;
      same = sym last.1 ∙ found.same;
    }))

pub items_sound_of : (n : ℕ) (text : List ℕ) (ks : List Stood) → items_of n text ≡ Some ks → ReadItems n text ks
unfolding items_of
items_sound_of zero text ks h = absurd (cc)
items_sound_of (suc n) text ks h =
    option_and_then_some (whole_list 93 (part_at (value_at n))) (after (91 ∷ []) (skip text)) ks h (λ inside begins g.
    option_and_then_some (λ p. if_all p.0 (skip p.1)) (list_at 93 (part_at (value_at n)) inside) ks g (λ p listed e.
    let before = skip_sound text in
    let behind = skip_sound p.1 in
    let last = nothing_left p.0 ks (skip p.1) e in
    let found = trees_sound n inside p.0 p.1 listed in
    record {
      parts = found.parts;
      is = record {
        before = before.blank;
        inner = 91 ∷ (found.inside ++ 93 ∷ []);
        after = behind.blank;
        spelled = before.spelled ∙ ap (λ (r : List ℕ). before.blank ++ r) (after_front (91 ∷ []) (skip text) inside begins ∙ ap (λ (r : List ℕ). 91 ∷ r) (found.spelled
            ∙ ap (λ (r : List ℕ). found.inside ++ 93 ∷ r) (behind.spelled ∙ ap (λ (r : List ℕ). behind.blank ++ r) last.0 ∙ append-nil behind.blank) ∙ sym (append_assoc found.inside (93 ∷ []) behind.blank)));
        blank_before = before.is_blank;
        is_inner = (found.inside, refl, found.are);
        blank_after = behind.is_blank;
      };
      nests = omega (arith, found.nests);
      stand = less_stood n found.parts found.stand;
      same = sym last.1 ∙ found.same;
    }))

-- ---- what clauses say of it

part_of : (t : Tree) (text : List ℕ) (part : Part) → part_seen part ≡ (kept t, text) → IsValue t text → tree_depth t ≤ 127 → IsPart t part
part_of t text part same stands nests = record {
  stands = subst (IsValue t) (sym (ap (λ (p : Stood). p.1) same)) stands;
  nests = nests;
  keeps = subst (λ k. Keeps k (settled t)) (sym (ap (λ (p : Stood). p.0) same)) (keeps t);
}

head_of : {A : Type 0} (x y : A) (xs ys : List A) → x ∷ xs ≡ y ∷ ys → (x ≡ y) × (xs ≡ ys)
head_of x y xs ys h = ((cc), (cc))

pub are_items : (n : ℕ) (ps : List Stood) (parts : List Part) → n ≤ 127 → EachStands n ps → parts_seen parts ≡ map kept_part ps → AreItems (trees_of ps) parts
are_items n [] [] small stand same = tt
are_items n [] (part ∷ parts) small stand same = absurd (cc)
are_items n (p ∷ ps) [] small stand same = absurd (cc)
are_items n (p ∷ ps) (part ∷ parts) small stand same =
    let both = head_of (part_seen part) (kept_part p) (parts_seen parts) (map kept_part ps) same in
    (part_of p.0 p.1 part both.0 stand.0.0 (omega (arith, stand.0.1)), are_items n ps parts small stand.1 both.1)

pub are_fields : (n : ℕ) (ps : List Named) (fields : List (List ℕ × Part)) → n ≤ 127 → EachFieldStands n ps → fields_seen fields ≡ map kept_field ps → AreFields (fields_in ps) fields
are_fields n [] [] small stand same = tt
are_fields n [] (field ∷ fields) small stand same = absurd (cc)
are_fields n (p ∷ ps) [] small stand same = absurd (cc)
are_fields n (p ∷ ps) (field ∷ fields) small stand same =
    let both = head_of (field_seen field) (kept_field p) (fields_seen fields) (map kept_field ps) same in
    (ap (λ (q : Named). q.0) both.0, part_of p.1.0 p.1.1 field.1 (ap (λ (q : Named). q.1) both.0) stand.0.0 (omega (arith, stand.0.1)), are_fields n ps fields small stand.1 both.1)
