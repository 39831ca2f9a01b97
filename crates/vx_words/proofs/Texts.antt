-- Bytes that are UTF-8.
use Rattle.std.proofs.Common.{◌≡◌, ℕ, ◌<◌, List, [], ◌∷◌, Bool, true, false, cond, nat_lt, arith, refl, sym, ap, Result, Ok, Err, MatchResult, is_ok, Bor, zero, suc, Some, None}
use Rattle.std.specs.Prelude.{slice_index, ◌↔◌}
use Rattle.std.specs.Str.{IsUtf8, is_utf8, IsValidUpTo, valid_up_to}
use Rattle.std.specs.List.{list_all}
use Rattle.std.specs.declared.str.Utf8Error.{Utf8Error}
use Rattle.std.proofs.lemmas.Bool.{and_parts}
use Rattle.std.proofs.lemmas.Bool.Decides.{nat_tests}
use Rattle.std.proofs.lemmas.Str.{IsUtf8-from_ascii, IsUtf8-from_is_utf8, is_utf8-from_IsUtf8}
use Rattle.vx_data.specs.declared.text.TextFault.{TextFault}
use Rattle.vx_data.specs.declared.text.TextFault.TheVariants.{BadText}
use Rattle.vx_words.specs.Reading.{text_in}

pub utf8_test : (bs : List ℕ) (r : Result (Bor (List ℕ)) Utf8Error) →
    MatchResult r (λ s. (s.now ≡ bs) × IsUtf8 bs) (λ e. (IsUtf8 bs → ⊥) × IsValidUpTo bs (valid_up_to e)) → is_ok r ≡ is_utf8 bs
utf8_test bs (Ok s) h = sym (is_utf8-from_IsUtf8 bs h.1)
utf8_test bs (Err e) h = by_test (is_utf8 bs) (λ yes. h.0 (IsUtf8-from_is_utf8 bs yes))
  where
    by_test : (b : Bool) → (b ≡ true → ⊥) → false ≡ b
    by_test true never = absurd (never refl)
    by_test false never = refl

-- a test that holds of no byte above ASCII
pub ascii_at : (p : ℕ → Bool) → ((b : ℕ) → p b ≡ true → b < 128) → (bs : List ℕ) → list_all p bs ≡ true → (i : ℕ) → slice_index bs i < 128
ascii_at p low [] h i = omega arith
ascii_at p low (b ∷ bs) h zero = low b (and_parts (p b) (list_all p bs) h).0
ascii_at p low (b ∷ bs) h (suc i) = ascii_at p low bs (and_parts (p b) (list_all p bs) h).1 i

pub ascii_utf8 : (bs : List ℕ) → list_all (λ b. nat_lt b 128) bs ≡ true → IsUtf8 bs
ascii_utf8 bs h = IsUtf8-from_ascii bs (ascii_at (λ b. nat_lt b 128) low bs h)
  where
    low : (b : ℕ) → nat_lt b 128 ≡ true → b < 128
    low b k = grind (arith, nat_tests)

-- what a text is made of
pub text_read : (bs text : List ℕ) (r : Result (List ℕ) TextFault) → r ≡ Ok text → text ≡ bs → (r ≡ Err BadText) ↔ (¬ (IsUtf8 bs)) → text_in bs ≡ Some text
unfolding text_in
text_read bs text r ok e h = by_test (is_utf8 bs) refl
  where
    by_test : (b : Bool) → is_utf8 bs ≡ b → cond b (Some bs) None ≡ Some text
    by_test true u = ap Some (sym e)
    by_test false u =
        let not_utf8 : ¬ (IsUtf8 bs) = (λ i. let t = is_utf8-from_IsUtf8 bs i in cc) in
        let bad : r ≡ Err BadText = h.1 not_utf8 in
        cc

pub text_refused : (bs : List ℕ) (r : Result (List ℕ) TextFault) → r ≡ Err BadText → (r ≡ Err BadText) ↔ (¬ (IsUtf8 bs)) → text_in bs ≡ None
unfolding text_in
text_refused bs r bad h = by_test (is_utf8 bs) refl
  where
    by_test : (b : Bool) → is_utf8 bs ≡ b → cond b (Some bs) None ≡ None
    by_test true u = absurd (h.0 bad (IsUtf8-from_is_utf8 bs u))
    by_test false u = refl
