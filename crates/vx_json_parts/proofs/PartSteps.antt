-- The steps of reading the parts of a text.
use Rattle.std.proofs.Common.{◌≡◌, refl, ◌∙◌, ap, ℕ, zero, suc, ◌≤◌, List, [], ◌∷◌, length, true, false, Option, Some, None, option_and_then, arith, length-append}
use Rattle.std.specs.Bool.{◌==◌}
use Rattle.std.proofs.lemmas.Bool.Decides.{Decides-eqb}
use Rattle.vx_data.specs.Tree.{Tree}
use Rattle.vx_json.specs.Reading.{skip, after, list_begun, list_at, value_at}
use Rattle.vx_json_parts.specs.Reading.{part_at, field_at, if_all, whole_list, fields_of, items_of}
use Rattle.vx_json.proofs.SoundValues.{value_sound}
use Rattle.vx_json_parts.proofs.ReadParts.{Stood, Named}

-- what is behind a value is no longer than the value and what is behind it
pub rest_is_shorter : (room : ℕ) (start : List ℕ) (k : Tree) (rest : List ℕ) → value_at room start ≡ Some (k, rest) → length rest ≤ length start
rest_is_shorter room start k rest h =
    let found = value_sound room start k rest h in
    omega (arith, ap length found.spelled, length-append found.front rest)

module _ {A : Type 0} (closing : ℕ) (item : List ℕ → Option (A × List ℕ)) where
  unread : (inside : List ℕ) → list_begun closing item (skip inside) ≡ None → whole_list closing item inside ≡ None
  unfolding list_at
  unread inside h = ap (option_and_then (λ (p : List A × List ℕ). if_all p.0 (skip p.1))) h

  if_all_none : (xs : List A) (rest : List ℕ) → (length rest == 0) ≡ false → if_all xs rest ≡ None
  if_all_none xs [] h = absurd (cc)
  if_all_none xs (b ∷ bs) h = refl

  if_all_some : (xs : List A) (rest : List ℕ) → (length rest == 0) ≡ true → if_all xs rest ≡ Some xs
  if_all_some xs [] h = refl
  if_all_some xs (b ∷ bs) h = let none : length (b ∷ bs) ≡ 0 = (Decides-eqb (length (b ∷ bs)) 0).0 h in absurd (omega arith)

  more_behind : (inside : List ℕ) (xs : List A) (rest : List ℕ) → list_begun closing item (skip inside) ≡ Some (xs, rest) → (length (skip rest) == 0) ≡ false → whole_list closing item inside ≡ None
  unfolding list_at
  more_behind inside xs rest h k = ap (option_and_then (λ (p : List A × List ℕ). if_all p.0 (skip p.1))) h ∙ if_all_none xs (skip rest) k

  none_behind : (inside : List ℕ) (xs : List A) (rest : List ℕ) → list_begun closing item (skip inside) ≡ Some (xs, rest) → (length (skip rest) == 0) ≡ true → whole_list closing item inside ≡ Some xs
  unfolding list_at
  none_behind inside xs rest h k = ap (option_and_then (λ (p : List A × List ℕ). if_all p.0 (skip p.1))) h ∙ if_all_some xs (skip rest) k

-- ---- members

pub no_object : (n : ℕ) (text : List ℕ) → after (123 ∷ []) (skip text) ≡ None → fields_of n text ≡ None
unfolding fields_of
no_object zero text h = refl
no_object (suc n) text h = ap (option_and_then (whole_list 125 (field_at (value_at n)))) h

pub no_room_for_fields : (n : ℕ) (text : List ℕ) → n ≡ 0 → fields_of n text ≡ None
unfolding fields_of
no_room_for_fields n text h = ap (λ m. fields_of m text) h

begun_fields : (n depth : ℕ) (text inside : List ℕ) → n ≡ suc depth → after (123 ∷ []) (skip text) ≡ Some inside → fields_of n text ≡ whole_list 125 (field_at (value_at depth)) inside
unfolding fields_of
begun_fields n depth text inside is h = ap (λ m. fields_of m text) is ∙ ap (option_and_then (whole_list 125 (field_at (value_at depth)))) h

module _ (n depth : ℕ) (text inside : List ℕ) (is : n ≡ suc depth) (begins : after (123 ∷ []) (skip text) ≡ Some inside) where
  pub fields_unread : list_begun 125 (field_at (value_at depth)) (skip inside) ≡ None → fields_of n text ≡ None
  fields_unread h = begun_fields n depth text inside is begins ∙ unread 125 (field_at (value_at depth)) inside h

  pub fields_and_more : (xs : List Named) (rest : List ℕ) → list_begun 125 (field_at (value_at depth)) (skip inside) ≡ Some (xs, rest) → (length (skip rest) == 0) ≡ false → fields_of n text ≡ None
  fields_and_more xs rest h k = begun_fields n depth text inside is begins ∙ more_behind 125 (field_at (value_at depth)) inside xs rest h k

  pub fields_alone : (xs : List Named) (rest : List ℕ) → list_begun 125 (field_at (value_at depth)) (skip inside) ≡ Some (xs, rest) → (length (skip rest) == 0) ≡ true → fields_of n text ≡ Some xs
  fields_alone xs rest h k = begun_fields n depth text inside is begins ∙ none_behind 125 (field_at (value_at depth)) inside xs rest h k

-- ---- items

pub no_array_there : (n : ℕ) (text : List ℕ) → after (91 ∷ []) (skip text) ≡ None → items_of n text ≡ None
unfolding items_of
no_array_there zero text h = refl
no_array_there (suc n) text h = ap (option_and_then (whole_list 93 (part_at (value_at n)))) h

pub no_room_for_items : (n : ℕ) (text : List ℕ) → n ≡ 0 → items_of n text ≡ None
unfolding items_of
no_room_for_items n text h = ap (λ m. items_of m text) h

begun_items : (n depth : ℕ) (text inside : List ℕ) → n ≡ suc depth → after (91 ∷ []) (skip text) ≡ Some inside → items_of n text ≡ whole_list 93 (part_at (value_at depth)) inside
unfolding items_of
begun_items n depth text inside is h = ap (λ m. items_of m text) is ∙ ap (option_and_then (whole_list 93 (part_at (value_at depth)))) h

module _ (n depth : ℕ) (text inside : List ℕ) (is : n ≡ suc depth) (begins : after (91 ∷ []) (skip text) ≡ Some inside) where
  pub items_unread : list_begun 93 (part_at (value_at depth)) (skip inside) ≡ None → items_of n text ≡ None
  items_unread h = begun_items n depth text inside is begins ∙ unread 93 (part_at (value_at depth)) inside h

  pub items_and_more : (xs : List Stood) (rest : List ℕ) → list_begun 93 (part_at (value_at depth)) (skip inside) ≡ Some (xs, rest) → (length (skip rest) == 0) ≡ false → items_of n text ≡ None
  items_and_more xs rest h k = begun_items n depth text inside is begins ∙ more_behind 93 (part_at (value_at depth)) inside xs rest h k

  pub items_alone : (xs : List Stood) (rest : List ℕ) → list_begun 93 (part_at (value_at depth)) (skip inside) ≡ Some (xs, rest) → (length (skip rest) == 0) ≡ true → items_of n text ≡ Some xs
  items_alone xs rest h k = begun_items n depth text inside is begins ∙ none_behind 93 (part_at (value_at depth)) inside xs rest h k
