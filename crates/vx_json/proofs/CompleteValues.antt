-- What stands as a value is read.
use Rattle.std.proofs.Common.{◌≡◌, refl, sym, ◌∙◌, ap, ℕ, zero, suc, ◌^◌, ◌<◌, ◌≤◌, List, [], ◌∷◌, ◌++◌, length, map, Bool, true, false, cond, Option, None, option_map, option_and_then, arith, append_assoc, append-nil, length-append}
use mathlib.Core.Path.{subst}
use mir.Syntax.{w64}
use lib.Signed.{mag}
use Rattle.std.specs.Bool.{◌==◌}
use Rattle.std.specs.Fmt.{signed_decimal}
use Rattle.std.specs.List.{AllByRecursion}
use Rattle.std.specs.Prelude.{codes, FitsSigned, ℤ}
use Rattle.std.proofs.lemmas.Bool.Decides.{Decides-eqb, nat_tests}
use Rattle.vx_data.specs.Tree.{Tree, null, boolean, int, text, bytes, array, object, Elements, no_elements, element, Members, no_members, member}
use Rattle.vx_data.specs.Bodies.{tree_depth, deepest_element, deepest_member}
use Rattle.vx_json.specs.Grammar.{is_blank, IsBlank, IsValue, AreElements, AreMoreElements, AreMembers, AreMoreMembers}
use Rattle.vx_json.specs.Reading.{Reader, skip, after, is_numeral, next_first, next_at, more_or_last, items_at, list_begun, list_at, element_at, pair_at, quoted_at, text_at, number_at, seen_as, with_front, word_at, scalar_at, array_at, object_at, value_with, value_at, kept_array, kept_object}
use Rattle.vx_json.proofs.Keeping.{kept, kept_elements, kept_members}
use Rattle.vx_json.proofs.Options.{read}
use Rattle.vx_json.proofs.Separated.{AreMore, Separated}
use Rattle.vx_json.proofs.CompleteTexts.{after_word, text_takes, quoted_tail, quoted_takes, Stops, decimal_numeral, some_decimal, number_takes}
use Rattle.vx_json.proofs.SoundValues.{ElementAt, PairAt, kept_pair}

-- ---- white space

pub skip_over : (blank rest : List ℕ) → IsBlank blank → skip (blank ++ rest) ≡ skip rest
unfolding skip
skip_over [] rest h = refl
skip_over (b ∷ bs) rest h = ap (λ test. cond test (skip (bs ++ rest)) (b ∷ (bs ++ rest))) h.0 ∙ skip_over bs rest h.1

skip_none : (b : ℕ) (bs : List ℕ) → is_blank b ≡ false → skip (b ∷ bs) ≡ b ∷ bs
unfolding skip
skip_none b bs h = ap (λ test. cond test (skip bs) (b ∷ bs)) h

-- white space, and then a byte that is none
pub skip_to : (blank bs : List ℕ) (b : ℕ) → IsBlank blank → is_blank b ≡ false → skip (blank ++ b ∷ bs) ≡ b ∷ bs
skip_to blank bs b h k = skip_over blank (b ∷ bs) h ∙ skip_none b bs k

blank_is_no_numeral : (b : ℕ) → is_blank b ≡ true → is_numeral b ≡ false
blank_is_no_numeral b h = grind (arith, nat_tests)

numeral_is_no_blank : (b : ℕ) → is_numeral b ≡ true → is_blank b ≡ false
numeral_is_no_blank b h = grind (arith, nat_tests)

pub stops_at_blank : (blank rest : List ℕ) → IsBlank blank → Stops rest → Stops (blank ++ rest)
stops_at_blank [] rest h stops = stops
stops_at_blank (b ∷ bs) rest h stops = blank_is_no_numeral b h.0

-- ---- items

abbrev Closing : ℕ → Type 0
Closing closing = (is_blank closing ≡ false) × ((closing == 44) ≡ false)

next_closed : (closing : ℕ) (blank rest : List ℕ) → Closing closing → IsBlank blank → next_at closing (blank ++ closing ∷ rest) ≡ read false rest
unfolding next_at
next_closed closing blank rest is h =
    ap (next_first closing) (skip_to blank rest closing h is.0)
    ∙ ap (λ test. cond test (read true rest) (cond (closing == closing) (read false rest) None)) is.1
    ∙ ap (λ test. cond test (read false rest) None) ((Decides-eqb closing closing).1 refl)

next_more : (closing : ℕ) (blank rest : List ℕ) → IsBlank blank → next_at closing (blank ++ 44 ∷ rest) ≡ read true rest
unfolding next_at
next_more closing blank rest h = ap (next_first closing) (skip_to blank rest 44 h refl)

module _ {A B : Type 0} (P : A → List ℕ → Type 0) (f : A → B) (item : Reader B) where
  -- an item is read, up to white space behind it
  pub record Taken (x : A) (bs rest : List ℕ) : Type 0 where
    pub blank : List ℕ
    pub is_blank : IsBlank blank
    pub was : item bs ≡ read (f x) (blank ++ rest)

  abbrev pub Takes : A → Type 0
  Takes x = (here rest : List ℕ) → P x here → Stops rest → Taken x (here ++ rest) rest

  module _ (closing : ℕ) (is : Closing closing) (stops : is_numeral closing ≡ false) where
    abbrev going_on : ℕ → Reader (List B)
    going_on turns = items_at closing item (suc turns)

    turn : (turns : ℕ) (x : A) (bs rest : List ℕ) (more : Bool) (others : List ℕ) → (taken : Taken x bs rest) → next_at closing (taken.blank ++ rest) ≡ read more others → going_on turns bs ≡ more_or_last (f x) (items_at closing item turns) (more, others)
    unfolding items_at
    turn turns x bs rest more others taken next =
        ap (option_and_then (λ p. option_and_then (more_or_last p.0 (items_at closing item turns)) (next_at closing p.1))) taken.was
        ∙ ap (option_and_then (more_or_last (f x) (items_at closing item turns))) next

    pub items_take : (turns : ℕ) (x : A) (xs : List A) (inside rest : List ℕ) → AllByRecursion Takes (x ∷ xs) → Separated P x xs inside → length xs < turns → items_at closing item turns (inside ++ closing ∷ rest) ≡ read (map f (x ∷ xs)) rest
    items_take zero x xs inside rest all parts few = absurd (omega arith)
    items_take (suc turns) x [] inside rest all parts few =
        let only : inside ≡ parts.here = parts.spelled ∙ ap (λ (r : List ℕ). parts.here ++ r) parts.others ∙ append-nil parts.here in
        let taken = all.0 parts.here (closing ∷ rest) parts.first stops in
        ap (λ (r : List ℕ). items_at closing item (suc turns) (r ++ closing ∷ rest)) only
        ∙ turn turns x (parts.here ++ closing ∷ rest) (closing ∷ rest) false rest taken (next_closed closing taken.blank rest is taken.is_blank)
    items_take (suc turns) x (y ∷ ys) inside rest all parts few =
        let next = parts.others in
        let behind : List ℕ = (next.0 ++ next.1) ++ closing ∷ rest in
        let whole : inside ++ closing ∷ rest ≡ parts.here ++ 44 ∷ behind = ap (λ (r : List ℕ). r ++ closing ∷ rest) (parts.spelled ∙ ap (λ (r : List ℕ). parts.here ++ r) next.2) ∙ append_assoc parts.here (44 ∷ (next.0 ++ next.1)) (closing ∷ rest) in
        let taken = all.0 parts.here (44 ∷ behind) parts.first refl in
        ap (items_at closing item (suc turns)) whole
        ∙ turn turns x (parts.here ++ 44 ∷ behind) (44 ∷ behind) true behind taken (next_more closing taken.blank behind taken.is_blank)
        ∙ ap (with_front (f x ∷ [])) (items_take turns y ys (next.0 ++ next.1) rest all.1 (record { here = next.0; more = next.1; spelled = refl; first = next.3; others = next.4 }) (omega arith))

-- there are no more items than bytes
few_more : {A : Type 0} (P : A → List ℕ → Type 0) (xs : List A) (more : List ℕ) → AreMore P xs more → length xs ≤ length more
few_more P [] more h = omega arith
few_more P (x ∷ xs) more h = omega (arith, ap length h.2, length-append h.0 h.1, few_more P xs h.1 h.4)

pub few_items : {A : Type 0} (P : A → List ℕ → Type 0) (x : A) (xs : List A) (inside : List ℕ) (closing : ℕ) (rest : List ℕ) → Separated P x xs inside → length xs < length (inside ++ closing ∷ rest)
few_items P x xs inside closing rest parts = omega (arith, ap length parts.spelled, length-append parts.here parts.more, few_more P xs parts.more parts.others, length-append inside (closing ∷ rest))

-- ---- how a value begins

pub record Starts (front : List ℕ) : Type 0 where
  pub first : ℕ
  pub more : List ℕ
  pub spelled : front ≡ first ∷ more
  pub not_blank : is_blank first ≡ false
  pub not_closing : (first == 93) ≡ false

numeral_not_closing : (b : ℕ) → is_numeral b ≡ true → (b == 93) ≡ false
numeral_not_closing b h = grind (arith, nat_tests)

starts_number : (ds : List ℕ) → AllByRecursion (λ b. is_numeral b ≡ true) ds → 0 < length ds → Starts ds
starts_number [] all some = absurd (omega arith)
starts_number (d ∷ ds) all some = record { first = d; more = ds; spelled = refl; not_blank = numeral_is_no_blank d all.0; not_closing = numeral_not_closing d all.0 }

starts_bool : (b : Bool) (front : List ℕ) → IsValue (boolean b) front → Starts front
starts_bool true front h = record { first = 116; more = codes "rue"; spelled = h; not_blank = refl; not_closing = refl }
starts_bool false front h = record { first = 102; more = codes "alse"; spelled = h; not_blank = refl; not_closing = refl }

fits_small : (n : ℤ) → FitsSigned w64 n → mag n < 2 ^ 63
fits_small n h = h.sfits

pub starts : (t : Tree) (front : List ℕ) → IsValue t front → Starts front
starts null front h = record { first = 110; more = codes "ull"; spelled = h; not_blank = refl; not_closing = refl }
starts (boolean b) front h = starts_bool b front h
starts (int n) front h = subst Starts (sym h.0) (starts_number (signed_decimal n) (decimal_numeral n (fits_small n h.1)) (some_decimal n (fits_small n h.1)))
starts (text s) front h = record { first = 34; more = _; spelled = h.spelled; not_blank = refl; not_closing = refl }
starts (bytes s) front h = absurd h
starts (array es) front h = record { first = 91; more = _; spelled = h.1; not_blank = refl; not_closing = refl }
starts (object ms) front h = record { first = 123; more = _; spelled = h.1; not_blank = refl; not_closing = refl }

pub regroup : (a b c d : List ℕ) → (a ++ (b ++ c)) ++ d ≡ a ++ (b ++ (c ++ d))
regroup a b c d = simp append_assoc

-- white space, and then a value
pub skip_value : (before inner rest : List ℕ) → IsBlank before → Starts inner → skip (before ++ (inner ++ rest)) ≡ inner ++ rest
skip_value before inner rest h begins =
    ap (λ (xs : List ℕ). skip (before ++ (xs ++ rest))) begins.spelled ∙ skip_to before (begins.more ++ rest) begins.first h begins.not_blank ∙ ap (λ (xs : List ℕ). xs ++ rest) (sym begins.spelled)

-- ---- values

abbrev pub IsComplete : Tree → Type 0
IsComplete t = (n : ℕ) (front rest : List ℕ) → IsValue t front → tree_depth t ≤ n → Stops rest → value_at n (front ++ rest) ≡ read (kept t) rest

element_taken : (n : ℕ) (t : Tree) → IsComplete t → Takes (ElementAt n) kept (element_at (value_at n)) t
unfolding element_at
element_taken n t complete here rest is stops = record {
  blank = is.0.after;
  is_blank = is.0.blank_after;
  was =
      ap (λ (xs : List ℕ). value_at n (skip (xs ++ rest))) is.0.spelled
      ∙ ap (λ (xs : List ℕ). value_at n (skip xs)) (regroup is.0.before is.0.inner is.0.after rest)
      ∙ ap (value_at n) (skip_value is.0.before is.0.inner (is.0.after ++ rest) is.0.blank_before (starts t is.0.inner is.0.is_inner))
      ∙ complete n is.0.inner (is.0.after ++ rest) is.0.is_inner is.1 (stops_at_blank is.0.after rest is.0.blank_after stops);
}

abbrev value_part : ℕ → List ℕ → List ℕ → Option ((List ℕ × Tree) × List ℕ)
value_part n key colon = option_map {U = (List ℕ × Tree) × List ℕ} (λ v. ((key, v.0), v.1)) (value_at n (skip colon))

pair_taken : (n : ℕ) (p : List ℕ × Tree) → IsComplete p.1 → Takes (PairAt n) kept_pair (pair_at (value_at n)) p
unfolding pair_at
pair_taken n p complete here rest is stops =
    let name = is.0.is_name in
    let lead = is.0.is_rest in
    let quote : Starts name.inner = record { first = 34; more = _; spelled = name.is_inner.spelled; not_blank = refl; not_closing = refl } in
    let behind : List ℕ = is.0.rest ++ rest in
    let whole : here ++ rest ≡ name.before ++ (name.inner ++ (name.after ++ 58 ∷ behind)) = ap (λ (xs : List ℕ). xs ++ rest) (is.0.spelled ∙ ap (λ (xs : List ℕ). xs ++ 58 ∷ is.0.rest) name.spelled) ∙ simp append_assoc in
    record {
      blank = lead.after;
      is_blank = lead.blank_after;
      was =
          ap (λ (xs : List ℕ). option_and_then (λ k. option_and_then (value_part n k.0) (after (58 ∷ []) (skip k.1))) (quoted_at (skip xs))) whole
          ∙ ap (λ (xs : List ℕ). option_and_then (λ k. option_and_then (value_part n k.0) (after (58 ∷ []) (skip k.1))) (quoted_at xs)) (skip_value name.before name.inner (name.after ++ 58 ∷ behind) name.blank_before quote)
          ∙ ap (option_and_then (λ k. option_and_then (value_part n k.0) (after (58 ∷ []) (skip k.1)))) (quoted_takes p.0 name.inner (name.after ++ 58 ∷ behind) name.is_inner)
          ∙ ap (λ (xs : List ℕ). option_and_then (value_part n p.0) (after (58 ∷ []) xs)) (skip_to name.after behind 58 name.blank_after refl)
          ∙ ap (option_and_then (value_part n p.0)) (after_word (58 ∷ []) behind)
          ∙ ap (λ (xs : List ℕ). value_part n p.0 (xs ++ rest)) lead.spelled
          ∙ ap (value_part n p.0) (regroup lead.before lead.inner lead.after rest)
          ∙ ap (λ (xs : List ℕ). option_map {U = (List ℕ × Tree) × List ℕ} (λ v. ((p.0, v.0), v.1)) (value_at n xs)) (skip_value lead.before lead.inner (lead.after ++ rest) lead.blank_before (starts p.1 lead.inner lead.is_inner))
          ∙ ap (option_map {U = (List ℕ × Tree) × List ℕ} (λ v. ((p.0, v.0), v.1))) (complete n lead.inner (lead.after ++ rest) lead.is_inner is.1 (stops_at_blank lead.after rest lead.blank_after stops));
    }

-- ---- arrays

abbrev list_of : Elements → List Tree
list_of no_elements = []
list_of (element t es) = t ∷ list_of es

listed : (es : Elements) → map kept (list_of es) ≡ kept_elements es
listed no_elements = refl
listed (element t es) = ap (λ (ks : List Tree). kept t ∷ ks) (listed es)

more_listed : (n : ℕ) (es : Elements) (all : List ℕ) → AreMoreElements es all → deepest_element es ≤ n → AreMore (ElementAt n) (list_of es) all
more_listed n no_elements all h deep = h
more_listed n (element t es) all h deep = (h.0, h.1, h.2, (h.3, omega arith), more_listed n es h.1 h.4 (omega arith))

pub no_items : (closing : ℕ) {A : Type 0} (item : Reader A) (inside rest : List ℕ) → Closing closing → IsBlank inside → list_at closing item (inside ++ closing ∷ rest) ≡ read [] rest
unfolding list_at
no_items closing item inside rest is h =
    ap (list_begun closing item) (skip_to inside rest closing h is.0)
    ∙ ap (λ test. cond test (read [] rest) (items_at closing item (length (closing ∷ rest)) (closing ∷ rest))) ((Decides-eqb closing closing).1 refl)

-- some items, when the white space before them is passed
pub some_items : (closing : ℕ) {A : Type 0} (item : Reader A) (bs : List ℕ) (first : ℕ) (more : List ℕ) → skip bs ≡ first ∷ more → (first == closing) ≡ false → list_at closing item bs ≡ items_at closing item (length (first ∷ more)) (first ∷ more)
unfolding list_at
some_items closing item bs first more is h =
    ap (list_begun closing item) is ∙ ap (λ test. cond test (read [] more) (items_at closing item (length (first ∷ more)) (first ∷ more))) h

taken_elements : (n : ℕ) (ts : List Tree) → AllByRecursion IsComplete ts → AllByRecursion (Takes (ElementAt n) kept (element_at (value_at n))) ts
taken_elements n [] all = tt
taken_elements n (t ∷ ts) all = (element_taken n t all.0, taken_elements n ts all.1)

elements_take : (n : ℕ) (t : Tree) (es : Elements) (inside rest : List ℕ) → AllByRecursion IsComplete (t ∷ list_of es) → AreElements (element t es) inside → deepest_element (element t es) ≤ n
    → list_at 93 (element_at (value_at n)) (inside ++ 93 ∷ rest) ≡ read (kept_elements (element t es)) rest
elements_take n t es inside rest all are deep =
    let padded = are.3 in
    let begins = starts t padded.inner padded.is_inner in
    let own : List ℕ = padded.inner ++ padded.after in
    let behind : List ℕ = own ++ are.1 in
    let front : inside ++ 93 ∷ rest ≡ padded.before ++ (padded.inner ++ (padded.after ++ (are.1 ++ 93 ∷ rest)))
    = ap (λ (xs : List ℕ). xs ++ 93 ∷ rest) (are.2 ∙ ap (λ (xs : List ℕ). xs ++ are.1) padded.spelled) ∙ simp append_assoc in
    let passed : skip (inside ++ 93 ∷ rest) ≡ behind ++ 93 ∷ rest
    = ap skip front ∙ skip_value padded.before padded.inner (padded.after ++ (are.1 ++ 93 ∷ rest)) padded.blank_before begins ∙ simp append_assoc in
    let headed : behind ++ 93 ∷ rest ≡ begins.first ∷ (begins.more ++ (padded.after ++ (are.1 ++ 93 ∷ rest)))
    = simp append_assoc (ap (λ (xs : List ℕ). xs ++ (padded.after ++ (are.1 ++ 93 ∷ rest))) begins.spelled) in
    let parts : Separated (ElementAt n) t (list_of es) behind = record {
      here = own;
      more = are.1;
      spelled = refl;
      first = (record { before = []; inner = padded.inner; after = padded.after; spelled = refl; blank_before = tt; is_inner = padded.is_inner; blank_after = padded.blank_after }, omega arith);
      others = more_listed n es are.1 are.4 (omega arith);
    } in
    some_items 93 (element_at (value_at n)) (inside ++ 93 ∷ rest) begins.first (begins.more ++ (padded.after ++ (are.1 ++ 93 ∷ rest))) (passed ∙ headed) begins.not_closing
    ∙ ap (λ (xs : List ℕ). items_at 93 (element_at (value_at n)) (length xs) xs) (sym headed)
    ∙ items_take (ElementAt n) kept (element_at (value_at n)) 93 (refl, refl) refl (length (behind ++ 93 ∷ rest)) t (list_of es) behind rest (taken_elements n (t ∷ list_of es) all) parts (few_items (ElementAt n) t (list_of es) behind 93 rest parts)
    ∙ ap (λ (ks : List Tree). read (kept t ∷ ks) rest) (listed es)

-- ---- objects

abbrev pairs_of : Members → List (List ℕ × Tree)
pairs_of no_members = []
pairs_of (member k t ms) = (k, t) ∷ pairs_of ms

paired : (ms : Members) → map kept_pair (pairs_of ms) ≡ kept_members ms
paired no_members = refl
paired (member k t ms) = ap (λ (ks : List (List ℕ × Tree)). (k, kept t) ∷ ks) (paired ms)

more_paired : (n : ℕ) (ms : Members) (all : List ℕ) → AreMoreMembers ms all → deepest_member ms ≤ n → AreMore (PairAt n) (pairs_of ms) all
more_paired n no_members all h deep = h
more_paired n (member k t ms) all h deep = (h.0, h.1, h.2, (h.3, omega arith), more_paired n ms h.1 h.4 (omega arith))

taken_pairs : (n : ℕ) (ps : List (List ℕ × Tree)) → AllByRecursion (λ p. IsComplete p.1) ps → AllByRecursion (Takes (PairAt n) kept_pair (pair_at (value_at n))) ps
taken_pairs n [] all = tt
taken_pairs n (p ∷ ps) all = (pair_taken n p all.0, taken_pairs n ps all.1)

members_take : (n : ℕ) (k : List ℕ) (t : Tree) (ms : Members) (inside rest : List ℕ) → AllByRecursion (λ p. IsComplete p.1) ((k, t) ∷ pairs_of ms) → AreMembers (member k t ms) inside → deepest_member (member k t ms) ≤ n
    → list_at 125 (pair_at (value_at n)) (inside ++ 125 ∷ rest) ≡ read (kept_members (member k t ms)) rest
members_take n k t ms inside rest all are deep =
    let p : List ℕ × Tree = (k, t) in
    let held = are.3 in
    let name = held.is_name in
    let quote : Starts name.inner = record { first = 34; more = _; spelled = name.is_inner.spelled; not_blank = refl; not_closing = refl } in
    let own : List ℕ = (name.inner ++ name.after) ++ 58 ∷ held.rest in
    let behind : List ℕ = own ++ are.1 in
    let tail : List ℕ = name.after ++ 58 ∷ (held.rest ++ (are.1 ++ 125 ∷ rest)) in
    let front : inside ++ 125 ∷ rest ≡ name.before ++ (name.inner ++ tail)
    = ap (λ (xs : List ℕ). xs ++ 125 ∷ rest) (are.2 ∙ ap (λ (xs : List ℕ). xs ++ are.1) (held.spelled ∙ ap (λ (xs : List ℕ). xs ++ 58 ∷ held.rest) name.spelled)) ∙ simp append_assoc in
    let passed : skip (inside ++ 125 ∷ rest) ≡ behind ++ 125 ∷ rest
    = ap skip front ∙ skip_value name.before name.inner tail name.blank_before quote ∙ simp append_assoc in
    let grouped : behind ++ 125 ∷ rest ≡ name.inner ++ tail = simp append_assoc in
    let headed : behind ++ 125 ∷ rest ≡ quote.first ∷ (quote.more ++ tail) = grouped ∙ ap (λ (xs : List ℕ). xs ++ tail) quote.spelled in
    let parts : Separated (PairAt n) p (pairs_of ms) behind = record {
      here = own;
      more = are.1;
      spelled = refl;
      first = (
        record {
          name = name.inner ++ name.after;
          rest = held.rest;
          spelled = refl;
          is_name = record { before = []; inner = name.inner; after = name.after; spelled = refl; blank_before = tt; is_inner = name.is_inner; blank_after = name.blank_after };
          is_rest = held.is_rest;
        },
        omega arith,
      );
      others = more_paired n ms are.1 are.4 (omega arith);
    } in
    some_items 125 (pair_at (value_at n)) (inside ++ 125 ∷ rest) quote.first (quote.more ++ tail) (passed ∙ headed) refl
    ∙ ap (λ (xs : List ℕ). items_at 125 (pair_at (value_at n)) (length xs) xs) (sym headed)
    ∙ items_take (PairAt n) kept_pair (pair_at (value_at n)) 125 (refl, refl) refl (length (behind ++ 125 ∷ rest)) p (pairs_of ms) behind rest (taken_pairs n (p ∷ pairs_of ms) all) parts (few_items (PairAt n) p (pairs_of ms) behind 125 rest parts)
    ∙ ap (λ (ks : List (List ℕ × Tree)). read ((k, kept t) ∷ ks) rest) (paired ms)

-- ---- scalars

not_this : (b other : ℕ) → is_numeral b ≡ true → is_numeral other ≡ false → (b == other) ≡ false
not_this b other h k = grind (arith, nat_tests)

with_scalar : (arrays objects : Reader Tree) (bs : List ℕ) (b : ℕ) → is_numeral b ≡ true → value_with arrays objects (b ∷ bs) ≡ seen_as int (number_at (b ∷ bs))
unfolding scalar_at
with_scalar arrays objects bs b h =
    ap (λ test. cond test (arrays bs) (cond (b == 123) (objects bs) (scalar_at (b ∷ bs)))) (not_this b 91 h refl)
    ∙ ap (λ test. cond test (objects bs) (scalar_at (b ∷ bs))) (not_this b 123 h refl)
    ∙ ap (λ test. cond test (seen_as text (text_at bs)) (cond (b == 110) (word_at (codes "ull") null bs) (cond (b == 116) (word_at (codes "rue") (boolean true) bs) (cond (b == 102) (word_at (codes "alse") (boolean false) bs) (seen_as int (number_at (b ∷ bs))))))) (not_this b 34 h refl)
    ∙ ap (λ test. cond test (word_at (codes "ull") null bs) (cond (b == 116) (word_at (codes "rue") (boolean true) bs) (cond (b == 102) (word_at (codes "alse") (boolean false) bs) (seen_as int (number_at (b ∷ bs)))))) (not_this b 110 h refl)
    ∙ ap (λ test. cond test (word_at (codes "rue") (boolean true) bs) (cond (b == 102) (word_at (codes "alse") (boolean false) bs) (seen_as int (number_at (b ∷ bs))))) (not_this b 116 h refl)
    ∙ ap (λ test. cond test (word_at (codes "alse") (boolean false) bs) (seen_as int (number_at (b ∷ bs)))) (not_this b 102 h refl)

with_number : (arrays objects : Reader Tree) (bs rest : List ℕ) → AllByRecursion (λ b. is_numeral b ≡ true) bs → 0 < length bs → value_with arrays objects (bs ++ rest) ≡ seen_as int (number_at (bs ++ rest))
with_number arrays objects [] rest all some = absurd (omega arith)
with_number arrays objects (b ∷ bs) rest all some = with_scalar arrays objects (bs ++ rest) b all.0

-- the values that are no arrays and no objects, whatever those are
scalar_takes : (arrays objects : Reader Tree) (t : Tree) (front rest : List ℕ) → IsValue t front → tree_depth t ≡ 0 → Stops rest → value_with arrays objects (front ++ rest) ≡ read t rest
unfolding scalar_at
scalar_takes arrays objects null front rest is flat stops = ap (λ (xs : List ℕ). value_with arrays objects (xs ++ rest)) is ∙ ap (option_map {U = Tree × List ℕ} (λ r. (null, r))) (after_word (codes "ull") rest)
scalar_takes arrays objects (boolean true) front rest is flat stops = ap (λ (xs : List ℕ). value_with arrays objects (xs ++ rest)) is ∙ ap (option_map {U = Tree × List ℕ} (λ r. (boolean true, r))) (after_word (codes "rue") rest)
scalar_takes arrays objects (boolean false) front rest is flat stops = ap (λ (xs : List ℕ). value_with arrays objects (xs ++ rest)) is ∙ ap (option_map {U = Tree × List ℕ} (λ r. (boolean false, r))) (after_word (codes "alse") rest)
scalar_takes arrays objects (int n) front rest is flat stops =
    ap (λ (xs : List ℕ). value_with arrays objects (xs ++ rest)) is.0
    ∙ with_number arrays objects (signed_decimal n) rest (decimal_numeral n (fits_small n is.1)) (some_decimal n (fits_small n is.1))
    ∙ ap (seen_as int) (number_takes n rest (fits_small n is.1) stops)
scalar_takes arrays objects (text s) front rest is flat stops =
    ap (value_with arrays objects) (quoted_tail s front is rest) ∙ ap (seen_as text) (text_takes is.pieces s rest is.each is.stands is.utf8)
scalar_takes arrays objects (bytes s) front rest is flat stops = absurd is
scalar_takes arrays objects (array es) front rest is flat stops = absurd (omega arith)
scalar_takes arrays objects (object ms) front rest is flat stops = absurd (omega arith)

scalar_complete : (t : Tree) → tree_depth t ≡ 0 → t ≡ kept t → IsComplete t
unfolding value_at
scalar_complete t flat same zero front rest is deep stops = scalar_takes (λ bs. None) (λ bs. None) t front rest is flat stops ∙ ap (λ k. read k rest) same
scalar_complete t flat same (suc n) front rest is deep stops = scalar_takes (array_at (value_at n)) (object_at (value_at n)) t front rest is flat stops ∙ ap (λ k. read k rest) same

-- ---- all values

array_parts : (n : ℕ) (es : Elements) (inside rest : List ℕ) → AllByRecursion IsComplete (list_of es) → AreElements es inside → deepest_element es ≤ n → list_at 93 (element_at (value_at n)) (inside ++ 93 ∷ rest) ≡ read (kept_elements es) rest
array_parts n no_elements inside rest all are deep = no_items 93 (element_at (value_at n)) inside rest (refl, refl) are
array_parts n (element t es) inside rest all are deep = elements_take n t es inside rest all are deep

object_parts : (n : ℕ) (ms : Members) (inside rest : List ℕ) → AllByRecursion (λ p. IsComplete p.1) (pairs_of ms) → AreMembers ms inside → deepest_member ms ≤ n → list_at 125 (pair_at (value_at n)) (inside ++ 125 ∷ rest) ≡ read (kept_members ms) rest
object_parts n no_members inside rest all are deep = no_items 125 (pair_at (value_at n)) inside rest (refl, refl) are
object_parts n (member k t ms) inside rest all are deep = members_take n k t ms inside rest all are deep

array_complete : (es : Elements) → AllByRecursion IsComplete (list_of es) → IsComplete (array es)
unfolding value_at
array_complete es all zero front rest is deep stops = absurd (omega arith)
array_complete es all (suc n) front rest is deep stops =
    ap (λ (xs : List ℕ). value_at (suc n) (xs ++ rest)) is.1
    ∙ ap (λ (xs : List ℕ). array_at (value_at n) xs) (append_assoc is.0 (93 ∷ []) rest)
    ∙ ap (seen_as kept_array) (array_parts n es is.0 rest all is.2 (omega arith))

object_complete : (ms : Members) → AllByRecursion (λ p. IsComplete p.1) (pairs_of ms) → IsComplete (object ms)
unfolding value_at
object_complete ms all zero front rest is deep stops = absurd (omega arith)
object_complete ms all (suc n) front rest is deep stops =
    ap (λ (xs : List ℕ). value_at (suc n) (xs ++ rest)) is.1
    ∙ ap (λ (xs : List ℕ). object_at (value_at n) xs) (append_assoc is.0 (125 ∷ []) rest)
    ∙ ap (seen_as kept_object) (object_parts n ms is.0 rest all is.2 (omega arith))

mutual
  pub complete : (t : Tree) → IsComplete t
  complete null = scalar_complete null refl refl
  complete (boolean b) = scalar_complete (boolean b) refl refl
  complete (int n) = scalar_complete (int n) refl refl
  complete (text s) = scalar_complete (text s) refl refl
  complete (bytes s) = λ n front rest is deep stops. absurd is
  complete (array es) = array_complete es (complete_elements es)
  complete (object ms) = object_complete ms (complete_members ms)

  complete_elements : (es : Elements) → AllByRecursion IsComplete (list_of es)
  complete_elements no_elements = tt
  complete_elements (element t es) = (complete t, complete_elements es)

  complete_members : (ms : Members) → AllByRecursion (λ p. IsComplete p.1) (pairs_of ms)
  complete_members no_members = tt
  complete_members (member k t ms) = (complete t, complete_members ms)
