-- Digits, and what `parse` makes of them.
use Rattle.std.proofs.Common.{◌≡◌, ℕ, ◌^◌, ◌<◌, ◌≤◌, List, [], ◌∷◌, length, Bool, true, false, cond, ◌&&◌, ◌==◌, nat_le, nat_lt, ℤ, pos, neg_ℤ, Some, None, Result, Ok, Err, OkIff, refl, ap, arith, rules, tests, subst}
use mir.Syntax.{w32, w64}
use Rattle.std.specs.List.{list_all}
use Rattle.std.specs.Char.{is_ascii_digit}
use Rattle.std.specs.Result.{result_ok}
use Rattle.std.specs.Str.{IsUtf8}
use Rattle.std.specs.Str.Parse.{digits_value, ParsesUnsigned, ParsesSigned}
use Rattle.std.proofs.lemmas.Bool.{and_parts}
use Rattle.std.proofs.lemmas.Bool.Decides.{nat_tests}
use Rattle.std.proofs.lemmas.Str.{IsUtf8-from_ascii}
use Rattle.std.proofs.lemmas.Str.Parse.{IsNumeralModel, IsDigitsTest, numerals_by_value, parse_digits, parse_signed_minus, parse_signed_digits}
use Rattle.vx_words.specs.Grammar.{is_digits}
use Rattle.vx_words.specs.Reading.{number_in, negative_in, positive_in, behind_minus, signed_in}
use Rattle.vx_words.proofs.Texts.{ascii_at, ascii_utf8}
use Rattle.vx_words.proofs.Words.{is_same}

test : IsDigitsTest (λ ds. list_all is_ascii_digit ds ≡ true)
test = search rules

pub own : IsNumeralModel (λ ds. list_all is_ascii_digit ds ≡ true) (digits_value 10)
own = numerals_by_value _ test

digit_low : (b : ℕ) → is_ascii_digit b ≡ true → b < 128
digit_low b h = grind (arith, tests)

pub some_by : (n : ℕ) → nat_le 1 n ≡ true → 0 < n
some_by n h = grind (arith, tests)

pub few_by : (n m : ℕ) → nat_le n m ≡ true → n ≤ m
few_by n m h = grind (arith, tests)

-- 1 to 20 digits are some, and digits all
pub digits_parts : (text : List ℕ) → is_digits text ≡ true → (list_all is_ascii_digit text ≡ true) × (0 < length text)
digits_parts text d =
    let p = and_parts (nat_le 1 (length text) && nat_le (length text) 20) (list_all is_ascii_digit text) d in
    let q = and_parts (nat_le 1 (length text)) (nat_le (length text) 20) p.0 in
    (p.1, some_by (length text) q.0)

all_utf8 : (text : List ℕ) → list_all is_ascii_digit text ≡ true → IsUtf8 text
all_utf8 text h = IsUtf8-from_ascii text (ascii_at is_ascii_digit digit_low text h)

pub digits_utf8 : (text : List ℕ) → is_digits text ≡ true → IsUtf8 text
digits_utf8 text d = all_utf8 text (digits_parts text d).0

is_under : (n m : ℕ) → n < m → nat_lt n m ≡ true
is_under n m h = grind (arith, nat_tests)

not_under : (n m : ℕ) → (n < m → ⊥) → nat_lt n m ≡ false
not_under n m h = by_test (nat_lt n m) refl
  where
    by_test : (b : Bool) → nat_lt n m ≡ b → b ≡ false
    by_test true e = let k : n < m = grind (arith, nat_tests) in absurd (h k)
    by_test false e = refl

pub is_within : (n m : ℕ) → n ≤ m → nat_le n m ≡ true
is_within n m h = grind (arith, nat_tests)

not_within : (n m : ℕ) → (n ≤ m → ⊥) → nat_le n m ≡ false
not_within n m h = by_test (nat_le n m) refl
  where
    by_test : (b : Bool) → nat_le n m ≡ b → b ≡ false
    by_test true e = let k : n ≤ m = grind (arith, nat_tests) in absurd (h k)
    by_test false e = refl

-- a number without a sign
pub number_parsed : {E : Type 0} (bits : ℕ) (text digits : List ℕ) (r : Result ℕ E) → digits ≡ text → ParsesUnsigned bits 10 digits r → is_digits text ≡ true → result_ok r ≡ number_in bits text
unfolding number_in
number_parsed {E} bits text digits r e h d =
    let p = digits_parts text d in
    by_result r (parse_digits own bits text r (subst (λ (v : List ℕ). ParsesUnsigned bits 10 v r) e h) p.0)
  where
    by_result : (r : Result ℕ E) → OkIff r ((0 < length text) × (digits_value 10 text < 2 ^ bits)) (digits_value 10 text) → result_ok r ≡ cond (is_digits text && nat_lt (digits_value 10 text) (2 ^ bits)) (Some (digits_value 10 text)) None
    by_result (Ok x) k = rw (d, is_under (digits_value 10 text) (2 ^ bits) k.0.1) (ap Some k.1)
    by_result (Err x) k = rw (d, not_under (digits_value 10 text) (2 ^ bits) (λ u. k ((digits_parts text d).1, u))) refl

-- a number with a minus sign, and one without
minus_parsed : {E : Type 0} (bits : ℕ) (text : List ℕ) (r : Result ℤ E) → is_digits text ≡ true → OkIff r ((list_all is_ascii_digit text ≡ true) × (0 < length text) × (digits_value 10 text ≤ 2 ^ bits)) (neg_ℤ (pos (digits_value 10 text))) → result_ok r ≡ negative_in bits text
minus_parsed bits text (Ok x) d k = rw (d, is_within (digits_value 10 text) (2 ^ bits) k.0.2) (ap Some k.1)
minus_parsed bits text (Err x) d k = let p = digits_parts text d in rw (d, not_within (digits_value 10 text) (2 ^ bits) (λ u. k (p.0, p.1, u))) refl

plain_parsed : {E : Type 0} (bits : ℕ) (text : List ℕ) (r : Result ℤ E) → is_digits text ≡ true → OkIff r ((0 < length text) × (digits_value 10 text < 2 ^ bits)) (pos (digits_value 10 text)) → result_ok r ≡ positive_in bits text
plain_parsed bits text (Ok x) d k = rw (d, is_under (digits_value 10 text) (2 ^ bits) k.0.1) (ap Some k.1)
plain_parsed bits text (Err x) d k = rw (d, not_under (digits_value 10 text) (2 ^ bits) (λ u. k ((digits_parts text d).1, u))) refl

pub code_parsed : {E : Type 0} (text numeral : List ℕ) (r : Result ℤ E) → numeral ≡ text → ParsesSigned w32 10 numeral r → is_digits (behind_minus text) ≡ true → result_ok r ≡ signed_in 31 text
unfolding signed_in
code_parsed [] numeral r e h d = absurd (cc)
code_parsed {E} (b ∷ bs) numeral r e h d = by_sign (b == 45) refl d
  where
    parsed : ParsesSigned w32 10 (b ∷ bs) r
    parsed = subst (λ (v : List ℕ). ParsesSigned w32 10 v r) e h

    by_sign : (minus : Bool) → b == 45 ≡ minus → is_digits (cond minus bs (b ∷ bs)) ≡ true → result_ok r ≡ cond minus (negative_in 31 bs) (positive_in 31 (b ∷ bs))
    by_sign true s d = minus_parsed 31 bs r d (parse_signed_minus own w32 (b ∷ bs) r parsed (is_same b 45 s))
    by_sign false s d = plain_parsed 31 (b ∷ bs) r d (parse_signed_digits own w32 (b ∷ bs) r parsed (digits_parts (b ∷ bs) d).0)

pub value_parsed : {E : Type 0} (text numeral : List ℕ) (r : Result ℤ E) → numeral ≡ text → ParsesSigned w64 10 numeral r → is_digits (behind_minus text) ≡ true → result_ok r ≡ signed_in 63 text
unfolding signed_in
value_parsed [] numeral r e h d = absurd (cc)
value_parsed {E} (b ∷ bs) numeral r e h d = by_sign (b == 45) refl d
  where
    parsed : ParsesSigned w64 10 (b ∷ bs) r
    parsed = subst (λ (v : List ℕ). ParsesSigned w64 10 v r) e h

    by_sign : (minus : Bool) → b == 45 ≡ minus → is_digits (cond minus bs (b ∷ bs)) ≡ true → result_ok r ≡ cond minus (negative_in 63 bs) (positive_in 63 (b ∷ bs))
    by_sign true s d = minus_parsed 63 bs r d (parse_signed_minus own w64 (b ∷ bs) r parsed (is_same b 45 s))
    by_sign false s d = plain_parsed 63 (b ∷ bs) r d (parse_signed_digits own w64 (b ∷ bs) r parsed (digits_parts (b ∷ bs) d).0)

pub no_signed : (bits : ℕ) (text : List ℕ) → is_digits (behind_minus text) ≡ false → None ≡ signed_in bits text
unfolding signed_in
no_signed bits [] d = refl
no_signed bits (b ∷ bs) d = by_sign (b == 45) d
  where
    by_sign : (minus : Bool) → is_digits (cond minus bs (b ∷ bs)) ≡ false → None ≡ cond minus (negative_in bits bs) (positive_in bits (b ∷ bs))
    by_sign true d = rw d refl
    by_sign false d = rw d refl

minus_low : (b : ℕ) (bs : List ℕ) → b == 45 ≡ true → list_all is_ascii_digit bs ≡ true → IsUtf8 (b ∷ bs)
minus_low b bs s h = ascii_utf8 (b ∷ bs) (rw (first, digits_low bs h) refl)
  where
    first : nat_lt b 128 ≡ true
    first = grind (arith, tests, nat_tests)

    digits_low : (ds : List ℕ) → list_all is_ascii_digit ds ≡ true → list_all (λ c. nat_lt c 128) ds ≡ true
    digits_low [] k = refl
    digits_low (d ∷ ds) k =
        let p = and_parts (is_ascii_digit d) (list_all is_ascii_digit ds) k in
        rw (is_under d 128 (digit_low d p.0), digits_low ds p.1) refl

pub signed_utf8 : (text : List ℕ) → is_digits (behind_minus text) ≡ true → IsUtf8 text
signed_utf8 [] d = absurd (cc)
signed_utf8 (b ∷ bs) d = by_sign (b == 45) refl d
  where
    by_sign : (minus : Bool) → b == 45 ≡ minus → is_digits (cond minus bs (b ∷ bs)) ≡ true → IsUtf8 (b ∷ bs)
    by_sign true s d = minus_low b bs s (digits_parts bs d).0
    by_sign false s d = digits_utf8 (b ∷ bs) d
