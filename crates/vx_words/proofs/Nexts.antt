-- The next word, and the end of a line: what is read is spelled so, and what is spelled so is read.
use Rattle.std.proofs.Common.{◌≡◌, ℕ, ◌+◌, List, [], ◌++◌, replicate, Bool, true, false, cond, ◌==◌, refl, ◌∙◌, ap, Some, None, subst}
use Rattle.std.specs.Str.{bytes_eq}
use Rattle.std.proofs.lemmas.Slice.Eq.{bytes_eq-Decides}
use Rattle.vx_words.specs.Grammar.{is_blank, is_word, NoMore, Next, Token, TokenValue, SpellsToken, AWord}
use Rattle.vx_words.specs.Reading.{spaces_len, behind_spaces, without_spaces, split_word, word_at, token_in, token_at, end_at, last_at, ◌>>=◌}
use Rattle.vx_words.proofs.Words.{IsTail, bind_some, guard_some, spaces_tail, word_take, word_again, blank_tail, blank_end}
use Rattle.vx_words.proofs.Tokens.{token_take, token_again}

-- ## The end

pub end_take : (tail : List ℕ) (x : Unit {0}) → end_at tail ≡ Some x → NoMore tail
unfolding end_at
end_take tail x h = (guard_some (is_blank tail) (Some tt) x h).0

pub end_again : (tail : List ℕ) → NoMore tail → end_at tail ≡ Some tt
unfolding end_at
end_again tail h = rw h refl

-- no word follows
pub no_word : (tail : List ℕ) → is_blank tail ≡ true → word_at tail ≡ None
unfolding word_at behind_spaces
no_word tail h = by_test (spaces_len tail == 0) (blank_end tail h)
  where
    by_test : (b : Bool) → without_spaces tail ≡ [] → (cond b None (Some (without_spaces tail)) >>= split_word) ≡ None
    by_test true e = refl
    by_test false e = rw e refl

-- ## The next word

-- A word that spells a value stands behind spaces, and a rest follows.
pub record Spelled (token : Token) (value : TokenValue token) (rest tail : List ℕ) : Type 0 where
  pub spaces : ℕ
  pub word : List ℕ
  pub split : tail ≡ replicate (spaces + 1) 32 ++ (word ++ rest)
  pub is : is_word word ≡ true
  pub spells : SpellsToken token value word

pub value_take : (token : Token) (tail : List ℕ) (x : TokenValue token × List ℕ) → token_at token tail ≡ Some x → Spelled token x.0 x.1 tail
value_take token tail x h =
    let g = bind_some (word_at tail) _ x h in
    let k = bind_some (token_in token g.0.0) _ x g.2 in
    let p = word_take tail g.0 g.1 in
    let e : (k.0, g.0.1) ≡ x = cc in
    let e0 : k.0 ≡ x.0 = ap (λ (v : TokenValue token × List ℕ). v.0) e in
    let e1 : g.0.1 ≡ x.1 = ap (λ (v : TokenValue token × List ℕ). v.1) e in
    record {
      spaces = p.spaces;
      word = g.0.0;
      split = p.split ∙ ap (λ t. replicate (p.spaces + 1) 32 ++ (g.0.0 ++ t)) e1;
      is = p.is;
      spells = token_take token g.0.0 x.0 (k.1 ∙ ap Some e0);
    }

pub next_tail : (token : Token) (value : TokenValue token) (More : List ℕ → Type 0) (tail : List ℕ) → Next token value More tail → IsTail tail
next_tail token value More tail s = spaces_tail s.0 tail (s.1 ++ s.2) s.3

-- a certain word
pub keyword_take : (tail : List ℕ) (w : List ℕ × List ℕ) (word : List ℕ) (More : List ℕ → Type 0) → word_at tail ≡ Some w → bytes_eq w.0 word ≡ true → More w.1 → Next (AWord word) tt More tail
keyword_take tail w word More h same more = let p = word_take tail w h in (p.spaces, w.0, w.1, p.split, p.is, (bytes_eq-Decides w.0 word).0 same, more)

pub keyword_again : (tail word : List ℕ) (More : List ℕ → Type 0) → (s : Next (AWord word) tt More tail) → IsTail s.2 → word_at tail ≡ Some (word, s.2)
keyword_again tail word More s q = ap word_at s.3 ∙ word_again s.0 s.1 s.2 s.4 q ∙ ap (λ (v : List ℕ). Some (v, s.2)) s.5

-- ## The last word

last_take : (token : Token) (tail : List ℕ) (value : TokenValue token) → last_at token tail ≡ Some value → Next token value NoMore tail
last_take token tail value h =
    let x = bind_some (token_at token tail) _ value h in
    let y = bind_some (end_at x.0.1) _ value x.2 in
    let e : x.0.0 ≡ value = cc in
    let p = value_take token tail x.0 x.1 in
    subst (λ (v : TokenValue token). Next token v NoMore tail) e (p.spaces, p.word, x.0.1, p.split, p.is, p.spells, end_take x.0.1 y.0 y.1)

last_again : (token : Token) (value : TokenValue token) (tail : List ℕ) → Next token value NoMore tail → last_at token tail ≡ Some value
last_again token value tail s = rw (s.3) (rw (word_again s.0 s.1 s.2 s.4 (blank_tail s.2 s.6)) (rw (token_again token value s.1 s.5) (rw (end_again s.2 s.6) refl)))

-- ## A certain word, and then one that says something, or none

pub named_take : {A : Type 0} (tail : List ℕ) (w : List ℕ × List ℕ) (word : List ℕ) (token : Token) (make : TokenValue token → A) (a : A) → word_at tail ≡ Some w → bytes_eq w.0 word ≡ true → (last_at token w.1 >>= λ value. Some (make value)) ≡ Some a →
    (value : TokenValue token) × (make value ≡ a) × Next (AWord word) tt (Next token value NoMore) tail
named_take tail w word token make a h same said =
    let k = bind_some (last_at token w.1) (λ value. Some (make value)) a said in
    let e : make k.0 ≡ a = cc in
    (k.0, e, keyword_take tail w word (Next token k.0 NoMore) h same (last_take token w.1 k.0 k.1))

pub alone_take : {A : Type 0} (tail : List ℕ) (w : List ℕ × List ℕ) (word : List ℕ) (made a : A) → word_at tail ≡ Some w → bytes_eq w.0 word ≡ true → (end_at w.1 >>= λ _. Some made) ≡ Some a → (made ≡ a) × Next (AWord word) tt NoMore tail
alone_take tail w word made a h same said =
    let k = bind_some (end_at w.1) (λ _. Some made) a said in
    let e : made ≡ a = cc in
    (e, keyword_take tail w word NoMore h same (end_take w.1 k.0 k.1))

pub named_again : {A : Type 0} (tail word : List ℕ) (token : Token) (value : TokenValue token) (make : TokenValue token → A) → (s : Next (AWord word) tt (Next token value NoMore) tail) → (word_at tail ≡ Some (word, s.2)) × ((last_at token s.2 >>= λ value. Some (make value)) ≡ Some (make value))
named_again tail word token value make s = (keyword_again tail word (Next token value NoMore) s (next_tail token value NoMore s.2 s.6), rw (last_again token value s.2 s.6) refl)

pub alone_again : {A : Type 0} (tail word : List ℕ) (made : A) → (s : Next (AWord word) tt NoMore tail) → (word_at tail ≡ Some (word, s.2)) × ((end_at s.2 >>= λ _. Some made) ≡ Some made)
alone_again tail word made s = (keyword_again tail word NoMore s (blank_tail s.2 s.6), rw (end_again s.2 s.6) refl)
