-- Words and spaces: what reading takes, and that it takes again what was spelled.
use Rattle.std.proofs.Common.{◌≡◌, ℕ, ◌+◌, ◌-◌, ◌<◌, zero, suc, List, [], ◌∷◌, ◌++◌, length, length-append, take, drop, replicate, Bool, true, false, cond, not, ◌==◌, nat_le, rules, arith, refl, sym, ◌∙◌, ap, tests, ◌⊎◌, inl, inr, Option, Some, None, subst}
use Rattle.std.specs.List.{prefix_len}
use Rattle.std.proofs.Math.Seq.{take-append_seam, drop-append_seam}
use Rattle.std.proofs.lemmas.Bool.{and_parts}
use Rattle.std.proofs.lemmas.Bool.Decides.{nat_tests}
use Rattle.std.proofs.lemmas.List.{take-append-drop, length-replicate}
use Rattle.vx_words.specs.Grammar.{is_blank, has_no, is_word}
use Rattle.vx_words.specs.Reading.{word_len, spaces_len, place_of, split_word, first_word, behind_word, without_spaces, behind_spaces, word_at, ◌>>=◌}

-- no byte is this one
abbrev pub HasNo : ℕ → List ℕ → Type 0
HasNo letter [] = Unit {0}
HasNo letter (b ∷ bs) = (b == letter ≡ false) × HasNo letter bs

-- nothing, or a space comes first
abbrev pub IsTail : List ℕ → Type 0
IsTail [] = Unit {0}
IsTail (b ∷ bs) = b ≡ 32

-- no space comes first
abbrev pub Begins : List ℕ → Type 0
Begins [] = Unit {0}
Begins (b ∷ bs) = b == 32 ≡ false

-- the same by tests
pub is_false : (t : Bool) → not t ≡ true → t ≡ false
is_false true h = sym h
is_false false h = refl

pub has_no_by : (letter : ℕ) (text : List ℕ) → has_no letter text ≡ true → HasNo letter text
has_no_by letter [] h = tt
has_no_by letter (b ∷ bs) h = let p = and_parts (not (b == letter)) (has_no letter bs) h in (is_false (b == letter) p.0, has_no_by letter bs p.1)

pub has_no_all : (letter : ℕ) (text : List ℕ) → HasNo letter text → has_no letter text ≡ true
has_no_all letter [] h = refl
has_no_all letter (b ∷ bs) h = rw (h.0, has_no_all letter bs h.1) refl

-- a word: some bytes, and no space among them
pub word_parts : (text : List ℕ) → is_word text ≡ true → (0 < length text) × HasNo 32 text
word_parts text h =
    let p = and_parts (nat_le 1 (length text)) (has_no 32 text) h in
    let some : 0 < length text = grind (arith, nat_tests, p.0) in
    (some, has_no_by 32 text p.1)

pub is_word_by : (text : List ℕ) → 0 < length text → HasNo 32 text → is_word text ≡ true
is_word_by text some h =
    let t : nat_le 1 (length text) ≡ true = grind (arith, nat_tests) in
    rw (t, has_no_all 32 text h) refl

pub begins_word : (text rest : List ℕ) → HasNo 32 text → 0 < length text → Begins (text ++ rest)
begins_word [] rest p q = absurd (omega arith)
begins_word (b ∷ bs) rest p q = p.0

pub len_of_word : (text rest : List ℕ) → HasNo 32 text → IsTail rest → word_len (text ++ rest) ≡ length text
len_of_word [] [] p q = refl
len_of_word [] (b ∷ bs) p q = rw q refl
len_of_word (b ∷ bs) rest p q = rw (p.0, len_of_word bs rest p.1 q) (omega arith)

pub len_of_spaces : (n : ℕ) (rest : List ℕ) → Begins rest → spaces_len (replicate n 32 ++ rest) ≡ n
len_of_spaces zero [] q = refl
len_of_spaces zero (b ∷ bs) q = rw q refl
len_of_spaces (suc n) rest q = rw (len_of_spaces n rest q) (omega arith)

-- a step that may fail, and went well
pub bind_some : {A B : Type 0} (r : Option A) (f : A → Option B) (y : B) → (r >>= f) ≡ Some y → (x : A) × (r ≡ Some x) × (f x ≡ Some y)
bind_some (Some x) f y h = (x, refl, h)
bind_some None f y h = cc

pub guard_some : {A : Type 0} (b : Bool) (r : Option A) (y : A) → cond b r None ≡ Some y → (b ≡ true) × (r ≡ Some y)
guard_some true r y h = (refl, h)
guard_some false r y h = cc

pub chosen : {A : Type 0} (b : Bool) (x y z : A) → cond b x y ≡ z → ((b ≡ true) × (x ≡ z)) ⊎ ((b ≡ false) × (y ≡ z))
chosen true x y z h = inl (refl, h)
chosen false x y z h = inr (refl, h)

refused_some : {A : Type 0} (b : Bool) (r : Option A) (y : A) → cond b None r ≡ Some y → (b ≡ false) × (r ≡ Some y)
refused_some true r y h = cc
refused_some false r y h = (refl, h)

pub is_same : (a b : ℕ) → a == b ≡ true → a ≡ b
is_same a b h = search (rules, tests)

-- spaces, and what stands behind them
first_space : (b : ℕ) (bs : List ℕ) (t : Bool) → b == 32 ≡ t → bs ≡ replicate (spaces_len bs) 32 ++ drop (spaces_len bs) bs →
    b ∷ bs ≡ replicate (cond t (1 + spaces_len bs) 0) 32 ++ drop (cond t (1 + spaces_len bs) 0) (b ∷ bs)
first_space b bs true e h =
    let s : 1 + spaces_len bs ≡ suc (spaces_len bs) = omega arith in
    rw (s, is_same b 32 e) (ap (λ t. 32 ∷ t) h)
first_space b bs false e h = refl

pub spaces_front : (bs : List ℕ) → bs ≡ replicate (spaces_len bs) 32 ++ drop (spaces_len bs) bs
spaces_front [] = refl
spaces_front (b ∷ bs) = first_space b bs (b == 32) refl (spaces_front bs)

positive : (n : ℕ) → n == 0 ≡ false → n - 1 + 1 ≡ n
positive zero h = cc
positive (suc n) h = omega arith

pub spaces_take : (tail bytes : List ℕ) → behind_spaces tail ≡ Some bytes → (n : ℕ) × (tail ≡ replicate (n + 1) 32 ++ bytes)
unfolding behind_spaces
spaces_take tail bytes h =
    let g = refused_some (spaces_len tail == 0) (Some (drop (spaces_len tail) tail)) bytes h in
    let e : drop (spaces_len tail) tail ≡ bytes = cc in
    (spaces_len tail - 1, rw (positive (spaces_len tail) g.0, ← e) (spaces_front tail))

not_zero : (n : ℕ) → (suc n == 0) ≡ false
not_zero n = search (rules, tests)

-- a tail that is not empty begins with spaces
pub tail_spaces : (b : ℕ) (bs : List ℕ) → b ≡ 32 → spaces_len (b ∷ bs) == 0 ≡ false
tail_spaces b bs q = let s : 1 + spaces_len bs ≡ suc (spaces_len bs) = omega arith in rw q (rw s (not_zero (spaces_len bs)))

drop_spaces : (n : ℕ) (bytes : List ℕ) → drop n (replicate n 32 ++ bytes) ≡ bytes
drop_spaces zero bytes = refl
drop_spaces (suc n) bytes = drop_spaces n bytes

pub spaces_again : (n : ℕ) (bytes : List ℕ) → Begins bytes → behind_spaces (replicate (n + 1) 32 ++ bytes) ≡ Some bytes
unfolding behind_spaces
spaces_again n bytes b =
    let s : n + 1 ≡ suc n = omega arith in
    rw (len_of_spaces (n + 1) bytes b) (rw s (ap (λ t. cond t None (Some (drop n (replicate n 32 ++ bytes)))) (not_zero n) ∙ ap Some (drop_spaces n bytes)))

-- spaces at the front of a line, of which there may be none
pub without_spaces_again : (n : ℕ) (bytes : List ℕ) → Begins bytes → without_spaces (replicate n 32 ++ bytes) ≡ bytes
without_spaces_again n bytes b = rw (len_of_spaces n bytes b) (drop_spaces n bytes)

-- What stands before the first letter of its kind has none.
pub front_has_no : (letter : ℕ) (bs : List ℕ) → HasNo letter (take (place_of letter bs) bs)
front_has_no letter [] = tt
front_has_no letter (b ∷ bs) = at_first b bs (b == letter) refl (front_has_no letter bs)
  where
    at_first : (b : ℕ) (bs : List ℕ) (t : Bool) → b == letter ≡ t → HasNo letter (take (place_of letter bs) bs) → HasNo letter (take (cond (not t) (1 + place_of letter bs) 0) (b ∷ bs))
    at_first b bs true e h = tt
    at_first b bs false e h = let s : 1 + place_of letter bs ≡ suc (place_of letter bs) = omega arith in rw s (e, h)

-- a word, and the tail behind it
pub first_again : (text rest : List ℕ) → HasNo 32 text → IsTail rest → first_word (text ++ rest) ≡ text
first_again text rest p q = rw (len_of_word text rest p q) (take-append_seam text rest)

pub behind_again : (text rest : List ℕ) → HasNo 32 text → IsTail rest → behind_word (text ++ rest) ≡ rest
behind_again text rest p q = rw (len_of_word text rest p q) (drop-append_seam text rest)

split_again : (text rest : List ℕ) → is_word text ≡ true → IsTail rest → split_word (text ++ rest) ≡ Some (text, rest)
split_again [] rest h q = cc
split_again (b ∷ bs) rest h q = let p = word_parts (b ∷ bs) h in rw (first_again (b ∷ bs) rest p.1 q, behind_again (b ∷ bs) rest p.1 q) refl

pub word_again : (n : ℕ) (text rest : List ℕ) → is_word text ≡ true → IsTail rest → word_at (replicate (n + 1) 32 ++ (text ++ rest)) ≡ Some (text, rest)
unfolding word_at
word_again n text rest h q = let p = word_parts text h in rw (spaces_again n (text ++ rest) (begins_word text rest p.1 p.0)) (split_again text rest h q)

-- spaces and anything behind them are a tail
pub spaces_tail : (n : ℕ) (tail rest : List ℕ) → tail ≡ replicate (n + 1) 32 ++ rest → IsTail tail
spaces_tail n tail rest e = let s : n + 1 ≡ suc n = omega arith in subst IsTail (sym e) (rw s refl)

-- nothing but spaces is a tail
pub blank_tail : (rest : List ℕ) → is_blank rest ≡ true → IsTail rest
blank_tail [] h = tt
blank_tail (b ∷ bs) h = is_same b 32 (and_parts (b == 32) (is_blank bs) h).0

-- what is left behind a word is a tail
pub behind_tail : (bs : List ℕ) → IsTail (behind_word bs)
behind_tail [] = tt
behind_tail (b ∷ bs) = at_first b bs (b == 32) refl (behind_tail bs)
  where
    at_first : (b : ℕ) (bs : List ℕ) (t : Bool) → b == 32 ≡ t → IsTail (behind_word bs) → IsTail (drop (cond (not t) (1 + word_len bs) 0) (b ∷ bs))
    at_first b bs true e h = is_same b 32 e
    at_first b bs false e h = let s : 1 + word_len bs ≡ suc (word_len bs) = omega arith in rw s h

-- behind the spaces at the front no space comes first
pub spaces_end : (bs : List ℕ) → Begins (without_spaces bs)
spaces_end [] = tt
spaces_end (b ∷ bs) = at_first b bs (b == 32) refl (spaces_end bs)
  where
    at_first : (b : ℕ) (bs : List ℕ) (t : Bool) → b == 32 ≡ t → Begins (without_spaces bs) → Begins (drop (cond t (1 + spaces_len bs) 0) (b ∷ bs))
    at_first b bs true e h = let s : 1 + spaces_len bs ≡ suc (spaces_len bs) = omega arith in rw s h
    at_first b bs false e h = e

pub behind_is : (tail bytes : List ℕ) → behind_spaces tail ≡ Some bytes → without_spaces tail ≡ bytes
unfolding behind_spaces
behind_is tail bytes h = let g = refused_some (spaces_len tail == 0) (Some (without_spaces tail)) bytes h in cc

-- a word that is read
pub record IsWord (tail : List ℕ) (w : List ℕ × List ℕ) : Type 0 where
  pub spaces : ℕ
  pub split : tail ≡ replicate (spaces + 1) 32 ++ (w.0 ++ w.1)
  pub is : is_word w.0 ≡ true
  pub behind : IsTail w.1

some_first : (b : ℕ) (bs : List ℕ) → b == 32 ≡ false → 0 < length (first_word (b ∷ bs))
some_first b bs e = let s : 1 + word_len bs ≡ suc (word_len bs) = omega arith in rw (e, s) (omega arith)

split_take : (bytes : List ℕ) (w : List ℕ × List ℕ) → split_word bytes ≡ Some w → Begins bytes → (bytes ≡ w.0 ++ w.1) × (is_word w.0 ≡ true) × IsTail w.1
split_take [] w h first = cc
split_take (b ∷ bs) w h first =
    let e : (first_word (b ∷ bs), behind_word (b ∷ bs)) ≡ w = cc in
    subst (λ (v : List ℕ × List ℕ). (b ∷ bs ≡ v.0 ++ v.1) × (is_word v.0 ≡ true) × IsTail v.1) e
    (sym (take-append-drop (word_len (b ∷ bs)) (b ∷ bs)), is_word_by (first_word (b ∷ bs)) (some_first b bs first) (front_has_no 32 (b ∷ bs)), behind_tail (b ∷ bs))

pub word_take : (tail : List ℕ) (w : List ℕ × List ℕ) → word_at tail ≡ Some w → IsWord tail w
unfolding word_at
word_take tail w h =
    let g = bind_some (behind_spaces tail) split_word w h in
    let p = spaces_take tail g.0 g.1 in
    let first : Begins g.0 = subst Begins (behind_is tail g.0 g.1) (spaces_end tail) in
    let k = split_take g.0 w g.2 first in
    record { spaces = p.0; split = p.1 ∙ ap (λ t. replicate (p.0 + 1) 32 ++ t) k.0; is = k.1; behind = k.2 }

-- A letter stands where the first one is, and what has none is cut there.
pub letter_found : (letter : ℕ) (bs : List ℕ) (q : ℕ) (tail : List ℕ) → drop (prefix_len (λ b. not (b == letter)) bs) bs ≡ q ∷ tail → q ≡ letter
letter_found letter [] q tail h = cc
letter_found letter (b ∷ bs) q tail h = at_first b (b == letter) refl (letter_found letter bs q tail) h
  where
    len : ℕ
    len = prefix_len (λ b. not (b == letter)) bs

    at_first : (b : ℕ) (t : Bool) → b == letter ≡ t → (drop len bs ≡ q ∷ tail → q ≡ letter) → drop (cond (not t) (1 + len) 0) (b ∷ bs) ≡ q ∷ tail → q ≡ letter
    at_first b true e ih h = let s : b ≡ q = cc in sym s ∙ is_same b letter e
    at_first b false e ih h = let s : 1 + len ≡ suc len = omega arith in ih (rw s at h)

pub cut_letter : (letter : ℕ) (inner rest : List ℕ) → letter == letter ≡ true → HasNo letter inner →
    (take (prefix_len (λ b. not (b == letter)) (inner ++ letter ∷ rest)) (inner ++ letter ∷ rest) ≡ inner) × (drop (prefix_len (λ b. not (b == letter)) (inner ++ letter ∷ rest)) (inner ++ letter ∷ rest) ≡ letter ∷ rest)
cut_letter letter [] rest same h = (rw same refl, rw same refl)
cut_letter letter (b ∷ bs) rest same h =
    let ih = cut_letter letter bs rest same h.1 in
    let len : ℕ = prefix_len (λ b. not (b == letter)) (bs ++ letter ∷ rest) in
    let s : 1 + len ≡ suc len = omega arith in
    (rw (h.0, s) (ap (λ t. b ∷ t) ih.0), rw (h.0, s) ih.1)

pub cut_nothing : (letter : ℕ) (inner : List ℕ) → HasNo letter inner → (take (prefix_len (λ b. not (b == letter)) inner) inner ≡ inner) × (drop (prefix_len (λ b. not (b == letter)) inner) inner ≡ [])
cut_nothing letter [] h = (refl, refl)
cut_nothing letter (b ∷ bs) h =
    let ih = cut_nothing letter bs h.1 in
    let len : ℕ = prefix_len (λ b. not (b == letter)) bs in
    let s : 1 + len ≡ suc len = omega arith in
    (rw (h.0, s) (ap (λ t. b ∷ t) ih.0), rw (h.0, s) ih.1)

-- each word shortens what is left
pub word_shorter : (tail : List ℕ) (w : List ℕ × List ℕ) → word_at tail ≡ Some w → length w.1 < length tail
word_shorter tail w h =
    let p = word_take tail w h in
    omega (arith, ap length p.split, length-append (replicate (p.spaces + 1) 32) (w.0 ++ w.1), length-append w.0 w.1, length-replicate {A = ℕ} (p.spaces + 1) 32)

-- behind spaces alone nothing stands
pub blank_end : (tail : List ℕ) → is_blank tail ≡ true → without_spaces tail ≡ []
blank_end [] h = refl
blank_end (b ∷ bs) h =
    let p = and_parts (b == 32) (is_blank bs) h in
    let s : 1 + spaces_len bs ≡ suc (spaces_len bs) = omega arith in
    rw (p.0, s) (blank_end bs p.1)
