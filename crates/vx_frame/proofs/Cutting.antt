-- Where frames end.
use Rattle.std.proofs.Common.{◌≡◌, refl, sym, ◌∙◌, ap, ℕ, zero, suc, ◌+◌, ◌-◌, ◌^◌, ◌<◌, ◌≤◌, List, [], ◌∷◌, ◌++◌, length, take, drop, get_or, arith, append_assoc, length-append}
use mathlib.Core.Path.{subst}
use Rattle.std.specs.Int.{w32, from_be_bytes, to_be_bytes}
use Rattle.std.proofs.lemmas.List.{take_at, drop_at, take-append-drop, length-take}
use Rattle.std.proofs.lemmas.Nat.{be_bytes_4, from_be_bytes-to_be_bytes_4}
use Rattle.vx_message.specs.Framing.{prefix, framed}
use Rattle.vx_frame.specs.Cuts.{IsShort}
use Rattle.vx_frame.specs.Streams.{max_len}

pub length_4 : (n : ℕ) → length (prefix n) ≡ 4
unfolding prefix
length_4 n = refl

-- a length is read from its bytes
pub number_of_prefix : (n : ℕ) → n < 2 ^ 32 → from_be_bytes w32 (prefix n) ≡ n
unfolding prefix
number_of_prefix n small = from_be_bytes-to_be_bytes_4 n small

pub prefix_of_number : (bs : List ℕ) (n : ℕ) → length bs ≡ 4 → ((i : ℕ) → get_or bs i 0 < 256) → n ≡ from_be_bytes w32 bs → prefix n ≡ bs
unfolding prefix
prefix_of_number bs n four small is = be_bytes_4 bs n four small is

-- two lengths at the front of one stream are one
pub same_number : (m n : ℕ) (xs ys : List ℕ) → m < 2 ^ 32 → n < 2 ^ 32 → prefix m ++ xs ≡ prefix n ++ ys → (m ≡ n) × (xs ≡ ys)
same_number m n xs ys small_m small_n same =
    let front : prefix m ≡ prefix n = sym (take_at (prefix m) xs 4 (length_4 m)) ∙ ap (take 4) same ∙ take_at (prefix n) ys 4 (length_4 n) in
    let behind : xs ≡ ys = sym (drop_at (prefix m) xs 4 (length_4 m)) ∙ ap (drop 4) same ∙ drop_at (prefix n) ys 4 (length_4 n) in
    (sym (number_of_prefix m small_m) ∙ ap (from_be_bytes w32) front ∙ number_of_prefix n small_n, behind)

-- two frames at the front of one stream are one
pub same_json : (xs ys more less : List ℕ) → length xs ≤ max_len → length ys ≤ max_len → framed xs ++ more ≡ framed ys ++ less → (xs ≡ ys) × (more ≡ less)
same_json xs ys more less small_x small_y same =
    let regrouped : prefix (length xs) ++ (xs ++ more) ≡ prefix (length ys) ++ (ys ++ less) = sym (append_assoc (prefix (length xs)) xs more) ∙ same ∙ append_assoc (prefix (length ys)) ys less in
    let parts = same_number (length xs) (length ys) (xs ++ more) (ys ++ less) (omega arith) (omega arith) regrouped in
    let front : xs ≡ ys = sym (take_at xs more (length xs) refl) ∙ ap (take (length xs)) parts.1 ∙ take_at ys less (length xs) (sym parts.0) in
    let behind : more ≡ less = sym (drop_at xs more (length xs) refl) ∙ ap (drop (length xs)) parts.1 ∙ drop_at ys less (length xs) (sym parts.0) in
    (front, behind)

-- no frame stands where a refused length does
pub not_both : (xs more ys : List ℕ) (n : ℕ) → length xs ≤ max_len → max_len < n → n < 2 ^ 32 → framed xs ++ more ≡ prefix n ++ ys → ⊥
not_both xs more ys n small large fits same =
    let regrouped : prefix (length xs) ++ (xs ++ more) ≡ prefix n ++ ys = sym (append_assoc (prefix (length xs)) xs more) ∙ same in
    let parts = same_number (length xs) n (xs ++ more) ys (omega arith) fits regrouped in
    absurd (omega (arith, parts.0))

-- ---- less than a whole frame

too_short : (n : ℕ) (more held : List ℕ) → length held < 4 → held ≡ prefix n ++ more → ⊥
too_short n more held few is = let whole = ap length is in absurd (omega (arith, length-append (prefix n) more, length_4 n))

pub short_prefix : (held : List ℕ) → length held < 4 → IsShort held
short_prefix held few = record {
  whole = λ json more small is. too_short (length json) (json ++ more) held few (is ∙ append_assoc (prefix (length json)) json more);
  refused = λ n more large fits is. too_short n more held few is;
  few = omega arith;
}

missing : (n : ℕ) (rest json more : List ℕ) → n ≤ max_len → length rest < n → length json ≤ max_len → prefix n ++ rest ≡ framed json ++ more → ⊥
missing n rest json more within few small same =
    let parts = same_number n (length json) rest (json ++ more) (omega arith) (omega arith) (same ∙ append_assoc (prefix (length json)) json more) in
    let long = ap length parts.1 in
    absurd (omega (arith, length-append json more, parts.0))

not_refused : (n m : ℕ) (rest more : List ℕ) → n ≤ max_len → max_len < m → m < 2 ^ 32 → prefix n ++ rest ≡ prefix m ++ more → ⊥
not_refused n m rest more within large fits same =
    let parts = same_number n m rest more (omega arith) fits same in
    absurd (omega (arith, parts.0))

pub short_json : (held rest : List ℕ) (n : ℕ) → held ≡ prefix n ++ rest → n ≤ max_len → length rest < n → IsShort held
short_json held rest n is within few =
    let whole = ap length is in
    record {
      whole = λ json more small same. missing n rest json more within few small (sym is ∙ same);
      refused = λ m more large fits same. not_refused n m rest more within large fits (sym is ∙ same);
      few = omega (arith, length-append (prefix n) rest, length_4 n);
    }

-- ---- a whole frame

pub whole_json : (held rest json : List ℕ) (n : ℕ) → held ≡ prefix n ++ rest → json ≡ take n rest → n ≤ length rest → held ≡ framed json ++ drop n rest
whole_json held rest json n is front within =
    let long : length json ≡ n = ap length front ∙ omega (arith, length-take n rest) in
    let regrouped : prefix n ++ rest ≡ (prefix n ++ json) ++ drop n rest = ap (λ (xs : List ℕ). prefix n ++ xs) (sym (take-append-drop n rest)) ∙ sym (append_assoc (prefix n) (take n rest) (drop n rest)) ∙ ap (λ (xs : List ℕ). (prefix n ++ xs) ++ drop n rest) (sym front) in
    is ∙ regrouped ∙ ap (λ k. (prefix k ++ json) ++ drop n rest) (sym long)

-- ---- a length and what is behind it

pub parted : (held front rest : List ℕ) (n : ℕ) → front ≡ take 4 held → rest ≡ drop 4 held → prefix n ≡ front → held ≡ prefix n ++ rest
parted held front rest n is_front is_rest is = sym (take-append-drop 4 held) ∙ (λ i. sym (is ∙ is_front) i ++ sym is_rest i)

pub four_bytes : (bs : List ℕ) → length bs ≡ 4 → get_or bs 0 0 ∷ get_or bs 1 0 ∷ get_or bs 2 0 ∷ get_or bs 3 0 ∷ [] ≡ bs
four_bytes [] four = absurd (omega arith)
four_bytes (a ∷ []) four = absurd (omega arith)
four_bytes (a ∷ b ∷ []) four = absurd (omega arith)
four_bytes (a ∷ b ∷ d ∷ []) four = absurd (omega arith)
four_bytes (a ∷ b ∷ d ∷ e ∷ []) four = refl
four_bytes (a ∷ b ∷ d ∷ e ∷ f ∷ bs) four = absurd (omega arith)
