-- The parts of arrays and objects that stand in a text are read, each with its bytes.
use Rattle.std.proofs.Common.{◌≡◌, refl, sym, ◌∙◌, ap, ℕ, zero, suc, ◌≤◌, List, [], ◌∷◌, ◌++◌, length, map, Some, Result, Ok, Err, option_map, option_and_then, arith, append_assoc, append-nil}
use mathlib.Core.Path.{subst}
use Rattle.std.specs.List.{AllByRecursion}
use Rattle.vx_data.specs.Tree.{Tree, array, object, Elements, no_elements, element, Members, no_members, member}
use Rattle.vx_data.specs.Bodies.{tree_depth, deepest_element, deepest_member}
use Rattle.std.specs.Prelude.{IfOk, MatchResult}
use Rattle.vx_json.specs.Grammar.{IsBlank, IsPadded, IsPair, IsValue, AreElements, AreMoreElements, AreMembers, AreMoreMembers, IsJson}
use Rattle.vx_json.specs.Gives.{Gives}
use Rattle.vx_json_parts.specs.Parts.{AreItems, AreFields}
use Rattle.vx_json_parts.specs.Seen.{parts_seen, fields_seen}
use Rattle.vx_json_parts.specs.declared.part.Part.{Part}
use Rattle.vx_json.specs.declared.fault.JsonFault.{JsonFault}
use Rattle.vx_json.specs.declared.fault.JsonFault.TheVariants.{BadJson, Deep, NoMemory}
use Rattle.vx_json.specs.Reading.{skip, after, items_at, list_at, quoted_at, value_at}
use Rattle.vx_json_parts.specs.Reading.{part_at, field_at, if_all, whole_list, fields_of, items_of}
use Rattle.vx_json.proofs.Keeping.{kept}
use Rattle.vx_json.proofs.Options.{read}
use Rattle.vx_json.proofs.Separated.{AreMore, Separated}
use Rattle.vx_json.proofs.CompleteTexts.{after_word, quoted_takes}
use Rattle.vx_json.proofs.CompleteValues.{complete, skip_over, skip_to, skip_value, starts, Starts, stops_at_blank, regroup, Takes, items_take, few_items, no_items, some_items}
use Rattle.vx_json_parts.proofs.ReadParts.{Stood, Named, StandsIn, PartIn, FieldIn, kept_part, kept_field, front_of, with_text, field_rest, EachStands, EachFieldStands, trees_of, fields_in, fields_sound, items_sound_of, are_items, are_fields}

part_taken : (n : ℕ) (p : Stood) → Takes (PartIn n) kept_part (part_at (value_at n)) p
unfolding part_at
part_taken n p here rest is stops =
    let inner = is.0.inner in
    let behind : List ℕ = is.0.after ++ rest in
    record {
      blank = is.0.after;
      is_blank = is.0.blank_after;
      was =
          ap (λ (xs : List ℕ). option_map {U = Stood × List ℕ} (with_text (skip (xs ++ rest))) (value_at n (skip (xs ++ rest)))) is.0.spelled
          ∙ ap (λ (xs : List ℕ). option_map {U = Stood × List ℕ} (with_text (skip xs)) (value_at n (skip xs))) (regroup is.0.before inner is.0.after rest)
          ∙ ap (λ (xs : List ℕ). option_map {U = Stood × List ℕ} (with_text xs) (value_at n xs)) (skip_value is.0.before inner behind is.0.blank_before (starts p.0 inner is.0.is_inner.0))
          ∙ ap (option_map {U = Stood × List ℕ} (with_text (inner ++ behind))) (complete p.0 n inner behind is.0.is_inner.0 is.1 (stops_at_blank is.0.after rest is.0.blank_after stops))
          ∙ ap (λ (text : List ℕ). read (kept p.0, text) behind) (front_of (inner ++ behind) inner behind refl ∙ is.0.is_inner.1);
    }

field_taken : (n : ℕ) (p : Named) → Takes (FieldIn n) kept_field (field_at (value_at n)) p
unfolding field_at
field_taken n p here rest is stops =
    let name = is.0.is_name in
    let quote : Starts name.inner = record { first = 34; more = _; spelled = name.is_inner.spelled; not_blank = refl; not_closing = refl } in
    let behind : List ℕ = is.0.rest ++ rest in
    let whole : here ++ rest ≡ name.before ++ (name.inner ++ (name.after ++ 58 ∷ behind)) = ap (λ (xs : List ℕ). xs ++ rest) (is.0.spelled ∙ ap (λ (xs : List ℕ). xs ++ 58 ∷ is.0.rest) name.spelled) ∙ simp append_assoc in
    let taken = part_taken n p.1 is.0.rest rest (is.0.is_rest, is.1) stops in
    record {
      blank = taken.blank;
      is_blank = taken.is_blank;
      was =
          ap (λ (xs : List ℕ). option_and_then (λ k. option_and_then (field_rest n k.0) (after (58 ∷ []) (skip k.1))) (quoted_at (skip xs))) whole
          ∙ ap (λ (xs : List ℕ). option_and_then (λ k. option_and_then (field_rest n k.0) (after (58 ∷ []) (skip k.1))) (quoted_at xs)) (skip_value name.before name.inner (name.after ++ 58 ∷ behind) name.blank_before quote)
          ∙ ap (option_and_then (λ k. option_and_then (field_rest n k.0) (after (58 ∷ []) (skip k.1)))) (quoted_takes p.0 name.inner (name.after ++ 58 ∷ behind) name.is_inner)
          ∙ ap (λ (xs : List ℕ). option_and_then (field_rest n p.0) (after (58 ∷ []) xs)) (skip_to name.after behind 58 name.blank_after refl)
          ∙ ap (option_and_then (field_rest n p.0)) (after_word (58 ∷ []) behind)
          ∙ ap (option_map {U = Named × List ℕ} (λ v. ((p.0, v.0), v.1))) taken.was;
    }

taken_parts : (n : ℕ) (ps : List Stood) → AllByRecursion (Takes (PartIn n) kept_part (part_at (value_at n))) ps
taken_parts n [] = tt
taken_parts n (p ∷ ps) = (part_taken n p, taken_parts n ps)

taken_fields : (n : ℕ) (ps : List Named) → AllByRecursion (Takes (FieldIn n) kept_field (field_at (value_at n))) ps
taken_fields n [] = tt
taken_fields n (p ∷ ps) = (field_taken n p, taken_fields n ps)

-- ---- the values of a text with their bytes

abbrev stood_more : (es : Elements) (all : List ℕ) → AreMoreElements es all → List Stood
stood_more no_elements all h = []
stood_more (element t es) all h = (t, h.3.inner) ∷ stood_more es h.1 h.4

abbrev named_more : (ms : Members) (all : List ℕ) → AreMoreMembers ms all → List Named
named_more no_members all h = []
named_more (member k t ms) all h = (k, (t, h.3.is_rest.inner)) ∷ named_more ms h.1 h.4

stands_padded : (t : Tree) (all : List ℕ) (is : IsPadded (IsValue t) all) → IsPadded (StandsIn (t, is.inner)) all
stands_padded t all is = record { before = is.before; inner = is.inner; after = is.after; spelled = is.spelled; blank_before = is.blank_before; is_inner = (is.is_inner, refl); blank_after = is.blank_after }

stands_pair : (k : List ℕ) (t : Tree) (all : List ℕ) (is : IsPair k (IsValue t) all) → IsPair k (StandsIn (t, is.is_rest.inner)) all
stands_pair k t all is = record { name = is.name; rest = is.rest; spelled = is.spelled; is_name = is.is_name; is_rest = stands_padded t is.rest is.is_rest }

more_parts : (n : ℕ) (es : Elements) (all : List ℕ) (h : AreMoreElements es all) → deepest_element es ≤ n → AreMore (PartIn n) (stood_more es all h) all
more_parts n no_elements all h deep = h
more_parts n (element t es) all h deep = (h.0, h.1, h.2, (stands_padded t h.0 h.3, omega arith), more_parts n es h.1 h.4 (omega arith))

more_fields : (n : ℕ) (ms : Members) (all : List ℕ) (h : AreMoreMembers ms all) → deepest_member ms ≤ n → AreMore (FieldIn n) (named_more ms all h) all
more_fields n no_members all h deep = h
more_fields n (member k t ms) all h deep = (h.0, h.1, h.2, (stands_pair k t h.0 h.3, omega arith), more_fields n ms h.1 h.4 (omega arith))

trees_more : (es : Elements) (all : List ℕ) (h : AreMoreElements es all) → trees_of (stood_more es all h) ≡ es
trees_more no_elements all h = refl
trees_more (element t es) all h = ap (element t) (trees_more es h.1 h.4)

fields_more : (ms : Members) (all : List ℕ) (h : AreMoreMembers ms all) → fields_in (named_more ms all h) ≡ ms
fields_more no_members all h = refl
fields_more (member k t ms) all h = ap (member k t) (fields_more ms h.1 h.4)

stand_more : (n : ℕ) (es : Elements) (all : List ℕ) (h : AreMoreElements es all) → deepest_element es ≤ n → EachStands n (stood_more es all h)
stand_more n no_elements all h deep = tt
stand_more n (element t es) all h deep = ((h.3.is_inner, omega arith), stand_more n es h.1 h.4 (omega arith))

named_stand : (n : ℕ) (ms : Members) (all : List ℕ) (h : AreMoreMembers ms all) → deepest_member ms ≤ n → EachFieldStands n (named_more ms all h)
named_stand n no_members all h deep = tt
named_stand n (member k t ms) all h deep = ((h.3.is_rest.is_inner, omega arith), named_stand n ms h.1 h.4 (omega arith))

-- ---- lists in their brackets

record TakenItems (n : ℕ) (es : Elements) (bs rest : List ℕ) : Type 0 where
  parts : List Stood
  are : trees_of parts ≡ es
  stand : EachStands n parts
  was : list_at 93 (part_at (value_at n)) bs ≡ read (map kept_part parts) rest

record TakenFields (n : ℕ) (ms : Members) (bs rest : List ℕ) : Type 0 where
  parts : List Named
  are : fields_in parts ≡ ms
  stand : EachFieldStands n parts
  was : list_at 125 (field_at (value_at n)) bs ≡ read (map kept_field parts) rest

elements_taken : (n : ℕ) (es : Elements) (inside rest : List ℕ) → AreElements es inside → deepest_element es ≤ n → TakenItems n es (inside ++ 93 ∷ rest) rest
elements_taken n no_elements inside rest are deep = record { parts = []; are = refl; stand = tt; was = no_items 93 (part_at (value_at n)) inside rest (refl, refl) are }
elements_taken n (element t es) inside rest are deep =
    let padded = are.3 in
    let begins = starts t padded.inner padded.is_inner in
    let first : Stood = (t, padded.inner) in
    let others = stood_more es are.1 are.4 in
    let own : List ℕ = padded.inner ++ padded.after in
    let behind : List ℕ = own ++ are.1 in
    let front : inside ++ 93 ∷ rest ≡ padded.before ++ (padded.inner ++ (padded.after ++ (are.1 ++ 93 ∷ rest)))
    = ap (λ (xs : List ℕ). xs ++ 93 ∷ rest) (are.2 ∙ ap (λ (xs : List ℕ). xs ++ are.1) padded.spelled) ∙ simp append_assoc in
    let passed : skip (inside ++ 93 ∷ rest) ≡ behind ++ 93 ∷ rest
    = ap skip front ∙ skip_value padded.before padded.inner (padded.after ++ (are.1 ++ 93 ∷ rest)) padded.blank_before begins ∙ simp append_assoc in
    let headed : behind ++ 93 ∷ rest ≡ begins.first ∷ (begins.more ++ (padded.after ++ (are.1 ++ 93 ∷ rest)))
    = simp append_assoc (ap (λ (xs : List ℕ). xs ++ (padded.after ++ (are.1 ++ 93 ∷ rest))) begins.spelled) in
    let parts : Separated (PartIn n) first others behind = record {
      here = own;
      more = are.1;
      spelled = refl;
      first = (record { before = []; inner = padded.inner; after = padded.after; spelled = refl; blank_before = tt; is_inner = (padded.is_inner, refl); blank_after = padded.blank_after }, omega arith);
      others = more_parts n es are.1 are.4 (omega arith);
    } in
    record {
      parts = first ∷ others;
      are = ap (element t) (trees_more es are.1 are.4);
      stand = ((padded.is_inner, omega arith), stand_more n es are.1 are.4 (omega arith));
      was =
          some_items 93 (part_at (value_at n)) (inside ++ 93 ∷ rest) begins.first (begins.more ++ (padded.after ++ (are.1 ++ 93 ∷ rest))) (passed ∙ headed) begins.not_closing
          ∙ ap (λ (xs : List ℕ). items_at 93 (part_at (value_at n)) (length xs) xs) (sym headed)
          ∙ items_take (PartIn n) kept_part (part_at (value_at n)) 93 (refl, refl) refl (length (behind ++ 93 ∷ rest)) first others behind rest (taken_parts n (first ∷ others)) parts (few_items (PartIn n) first others behind 93 rest parts);
    }

members_taken : (n : ℕ) (ms : Members) (inside rest : List ℕ) → AreMembers ms inside → deepest_member ms ≤ n → TakenFields n ms (inside ++ 125 ∷ rest) rest
members_taken n no_members inside rest are deep = record { parts = []; are = refl; stand = tt; was = no_items 125 (field_at (value_at n)) inside rest (refl, refl) are }
members_taken n (member k t ms) inside rest are deep =
    let held = are.3 in
    let name = held.is_name in
    let quote : Starts name.inner = record { first = 34; more = _; spelled = name.is_inner.spelled; not_blank = refl; not_closing = refl } in
    let first : Named = (k, (t, held.is_rest.inner)) in
    let others = named_more ms are.1 are.4 in
    let own : List ℕ = (name.inner ++ name.after) ++ 58 ∷ held.rest in
    let behind : List ℕ = own ++ are.1 in
    let tail : List ℕ = name.after ++ 58 ∷ (held.rest ++ (are.1 ++ 125 ∷ rest)) in
    let front : inside ++ 125 ∷ rest ≡ name.before ++ (name.inner ++ tail)
    = ap (λ (xs : List ℕ). xs ++ 125 ∷ rest) (are.2 ∙ ap (λ (xs : List ℕ). xs ++ are.1) (held.spelled ∙ ap (λ (xs : List ℕ). xs ++ 58 ∷ held.rest) name.spelled)) ∙ simp append_assoc in
    let passed : skip (inside ++ 125 ∷ rest) ≡ behind ++ 125 ∷ rest
    = ap skip front ∙ skip_value name.before name.inner tail name.blank_before quote ∙ simp append_assoc in
    let grouped : behind ++ 125 ∷ rest ≡ name.inner ++ tail = simp append_assoc in
    let headed : behind ++ 125 ∷ rest ≡ quote.first ∷ (quote.more ++ tail) = grouped ∙ ap (λ (xs : List ℕ). xs ++ tail) quote.spelled in
    let stands = stands_padded t held.rest held.is_rest in
    let parts : Separated (FieldIn n) first others behind = record {
      here = own;
      more = are.1;
      spelled = refl;
      first = (
        record {
          name = name.inner ++ name.after;
          rest = held.rest;
          spelled = refl;
          is_name = record { before = []; inner = name.inner; after = name.after; spelled = refl; blank_before = tt; is_inner = name.is_inner; blank_after = name.blank_after };
          is_rest = stands;
        },
        omega arith,
      );
      others = more_fields n ms are.1 are.4 (omega arith);
    } in
    record {
      parts = first ∷ others;
      are = ap (member k t) (fields_more ms are.1 are.4);
      stand = ((held.is_rest.is_inner, omega arith), named_stand n ms are.1 are.4 (omega arith));
      was =
          some_items 125 (field_at (value_at n)) (inside ++ 125 ∷ rest) quote.first (quote.more ++ tail) (passed ∙ headed) refl
          ∙ ap (λ (xs : List ℕ). items_at 125 (field_at (value_at n)) (length xs) xs) (sym headed)
          ∙ items_take (FieldIn n) kept_field (field_at (value_at n)) 125 (refl, refl) refl (length (behind ++ 125 ∷ rest)) first others behind rest (taken_fields n (first ∷ others)) parts (few_items (FieldIn n) first others behind 125 rest parts);
    }

-- ---- whole texts

pub record StandFields (n : ℕ) (ms : Members) (text : List ℕ) : Type 0 where
  pub parts : List Named
  pub are : fields_in parts ≡ ms
  pub stand : EachFieldStands n parts
  pub was : fields_of n text ≡ Some (map kept_field parts)

pub record StandItems (n : ℕ) (es : Elements) (text : List ℕ) : Type 0 where
  pub parts : List Stood
  pub are : trees_of parts ≡ es
  pub stand : EachStands n parts
  pub was : items_of n text ≡ Some (map kept_part parts)

skip_blank : (blank : List ℕ) → IsBlank blank → skip blank ≡ []
unfolding skip
skip_blank blank h = ap skip (sym (append-nil blank)) ∙ skip_over blank [] h

more_stood : (n : ℕ) (ps : List Stood) → EachStands n ps → EachStands (suc n) ps
more_stood n [] h = tt
more_stood n (p ∷ ps) h = ((h.0.0, omega (arith, h.0.1)), more_stood n ps h.1)

more_named_stand : (n : ℕ) (ps : List Named) → EachFieldStands n ps → EachFieldStands (suc n) ps
more_named_stand n [] h = tt
more_named_stand n (p ∷ ps) h = ((h.0.0, omega (arith, h.0.1)), more_named_stand n ps h.1)

pub fields_stand : (n : ℕ) (ms : Members) (text : List ℕ) → IsPadded (IsValue (object ms)) text → tree_depth (object ms) ≤ n → StandFields n ms text
unfolding fields_of
fields_stand zero ms text is deep = absurd (omega arith)
fields_stand (suc n) ms text is deep =
    let inside = is.is_inner.0 in
    let taken = members_taken n ms inside is.after is.is_inner.2 (omega arith) in
    let begun : skip text ≡ 123 ∷ (inside ++ 125 ∷ is.after)
    = ap skip is.spelled ∙ skip_value is.before is.inner is.after is.blank_before (starts (object ms) is.inner is.is_inner) ∙ ap (λ (xs : List ℕ). xs ++ is.after) is.is_inner.1 ∙ ap (λ (xs : List ℕ). 123 ∷ xs) (append_assoc inside (125 ∷ []) is.after) in
    record {
      parts = taken.parts;
      are = taken.are;
      stand = more_named_stand n taken.parts taken.stand;
      was =
          ap (λ (xs : List ℕ). option_and_then (whole_list 125 (field_at (value_at n))) (after (123 ∷ []) xs)) begun
          ∙ ap (option_and_then (whole_list 125 (field_at (value_at n)))) (after_word (123 ∷ []) (inside ++ 125 ∷ is.after))
          ∙ ap (option_and_then (λ (p : List Named × List ℕ). if_all p.0 (skip p.1))) taken.was
          ∙ ap (if_all (map kept_field taken.parts)) (skip_blank is.after is.blank_after);
    }

pub items_stand : (n : ℕ) (es : Elements) (text : List ℕ) → IsPadded (IsValue (array es)) text → tree_depth (array es) ≤ n → StandItems n es text
unfolding items_of
items_stand zero es text is deep = absurd (omega arith)
items_stand (suc n) es text is deep =
    let inside = is.is_inner.0 in
    let taken = elements_taken n es inside is.after is.is_inner.2 (omega arith) in
    let begun : skip text ≡ 91 ∷ (inside ++ 93 ∷ is.after)
    = ap skip is.spelled ∙ skip_value is.before is.inner is.after is.blank_before (starts (array es) is.inner is.is_inner) ∙ ap (λ (xs : List ℕ). xs ++ is.after) is.is_inner.1 ∙ ap (λ (xs : List ℕ). 91 ∷ xs) (append_assoc inside (93 ∷ []) is.after) in
    record {
      parts = taken.parts;
      are = taken.are;
      stand = more_stood n taken.parts taken.stand;
      was =
          ap (λ (xs : List ℕ). option_and_then (whole_list 93 (part_at (value_at n))) (after (91 ∷ []) xs)) begun
          ∙ ap (option_and_then (whole_list 93 (part_at (value_at n)))) (after_word (91 ∷ []) (inside ++ 93 ∷ is.after))
          ∙ ap (option_and_then (λ (p : List Stood × List ℕ). if_all p.0 (skip p.1))) taken.was
          ∙ ap (if_all (map kept_part taken.parts)) (skip_blank is.after is.blank_after);
    }

-- ---- answers

pub same_list : {A : Type 0} (xs ys : List A) → Some xs ≡ Some ys → xs ≡ ys
same_list xs ys h = cc

pub fields_found : {V : Type 0} (items : V → List (List ℕ × Part)) (text : List ℕ) (r : Result V JsonFault) → Gives (λ v. fields_seen (items v)) r (fields_of 127 text) → IfOk r (λ v. (ms : Members) × IsJson (object ms) text × AreFields ms (items v))
fields_found items text (Ok v) h =
    let got = fields_sound 127 text (fields_seen (items v)) h in
    (fields_in got.parts, (got.is, omega (arith, got.nests)), are_fields 127 got.parts (items v) (omega arith) got.stand got.same)
fields_found items text (Err e) h = tt

pub fields_only : {V : Type 0} (items : V → List (List ℕ × Part)) (text : List ℕ) (r : Result V JsonFault) → Gives (λ v. fields_seen (items v)) r (fields_of 127 text) → (ms : Members) → IsJson (object ms) text → MatchResult r (λ v. AreFields ms (items v)) (λ e. e ≡ NoMemory)
fields_only items text (Ok v) h ms is =
    let stood = fields_stand 127 ms text is.0 is.1 in
    subst (λ ns. AreFields ns (items v)) stood.are (are_fields 127 stood.parts (items v) (omega arith) stood.stand (same_list (fields_seen (items v)) (map kept_field stood.parts) (sym h ∙ stood.was)))
fields_only items text (Err BadJson) h ms is = let stood = fields_stand 127 ms text is.0 is.1 in let some = stood.was in absurd (cc)
fields_only items text (Err Deep) h ms is = absurd h
fields_only items text (Err NoMemory) h ms is = refl

pub items_found : {V : Type 0} (items : V → List Part) (text : List ℕ) (r : Result V JsonFault) → Gives (λ v. parts_seen (items v)) r (items_of 127 text) → IfOk r (λ v. (es : Elements) × IsJson (array es) text × AreItems es (items v))
items_found items text (Ok v) h =
    let got = items_sound_of 127 text (parts_seen (items v)) h in
    (trees_of got.parts, (got.is, omega (arith, got.nests)), are_items 127 got.parts (items v) (omega arith) got.stand got.same)
items_found items text (Err e) h = tt

pub items_only : {V : Type 0} (items : V → List Part) (text : List ℕ) (r : Result V JsonFault) → Gives (λ v. parts_seen (items v)) r (items_of 127 text) → (es : Elements) → IsJson (array es) text → MatchResult r (λ v. AreItems es (items v)) (λ e. e ≡ NoMemory)
items_only items text (Ok v) h es is =
    let stood = items_stand 127 es text is.0 is.1 in
    subst (λ ns. AreItems ns (items v)) stood.are (are_items 127 stood.parts (items v) (omega arith) stood.stand (same_list (parts_seen (items v)) (map kept_part stood.parts) (sym h ∙ stood.was)))
items_only items text (Err BadJson) h es is = let stood = items_stand 127 es text is.0 is.1 in let some = stood.was in absurd (cc)
items_only items text (Err Deep) h es is = absurd h
items_only items text (Err NoMemory) h es is = refl
