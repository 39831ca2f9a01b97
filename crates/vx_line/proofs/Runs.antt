-- The options at the front of a tail.
use Rattle.std.proofs.Common.{◌≡◌, ℕ, ◌+◌, ◌<◌, ◌≤◌, zero, suc, List, [], ◌∷◌, ◌++◌, map, length, drop, replicate, Bool, true, false, cond, not, ◌==◌, ◌||◌, ◌&&◌, refl, sym, ◌∙◌, ap, arith, Option, Some, None, IsTrue, subst}
use Rattle.std.specs.Str.{bytes_eq}
use Rattle.std.specs.List.{list_any, list_all}
use Rattle.std.proofs.lemmas.Bool.{and_parts}
use Rattle.vx_words.specs.Grammar.{begins_with, has_no, is_word, Token, TokenValue}
use Rattle.vx_line.specs.Grammar.{is_plain, is_option, option_name, option_text, texts_of, name_of, Optional, One, Many, Choice, Chosen, Run, SpellAll, Tells, TellAll, Choose}
use Rattle.vx_words.specs.Reading.{spaces_len, behind_spaces, split_word, word_at, first_word, behind_word, word_len, without_spaces, token_in, ◌>>=◌}
use Rattle.vx_line.specs.Reading.{option_at, Taken, with_option, options_in, options_of, behind_options, is_known, one_of, told_in, each_in, choice_in, chosen_in, options_at}
use Rattle.vx_line.specs.Tables.{has_option}
use Rattle.vx_words.proofs.Words.{IsTail, bind_some, guard_some, is_false, has_no_all, has_no_by, word_parts, begins_word, first_again, behind_again, spaces_again, spaces_tail, tail_spaces, word_take, word_shorter}
use Rattle.std.proofs.lemmas.List.{take-append-drop}
use Rattle.vx_words.proofs.Tokens.{token_take, token_again}

-- an option stands behind spaces, and begins with a plus sign
split_plus : (bytes : List ℕ) → begins_with 43 bytes ≡ true → split_word bytes ≡ Some (first_word bytes, behind_word bytes)
split_plus [] h = cc
split_plus (b ∷ bs) h = refl

front_plus : (front behind bytes : List ℕ) → bytes ≡ front ++ behind → is_word front ≡ true → begins_with 43 bytes ≡ true → begins_with 43 front ≡ true
front_plus [] behind bytes e word h = cc
front_plus (b ∷ bs) behind bytes e word h = ap (begins_with 43) (sym e) ∙ h

pub option_take : (tail : List ℕ) (w : List ℕ × List ℕ) → option_at tail ≡ Some w → (word_at tail ≡ Some w) × (begins_with 43 w.0 ≡ true)
unfolding option_at word_at
option_take tail w h =
    let g = bind_some (behind_spaces tail) _ w h in
    let k = guard_some (begins_with 43 g.0) (Some (first_word g.0, behind_word g.0)) w g.2 in
    let word : word_at tail ≡ Some w = rw g.1 (split_plus g.0 k.0 ∙ k.1) in
    let e : (first_word g.0, behind_word g.0) ≡ w = cc in
    let first : begins_with 43 (first_word g.0) ≡ true =
    front_plus (first_word g.0) (behind_word g.0) g.0 (sym (take-append-drop (word_len g.0) g.0)) (ap (λ (v : List ℕ × List ℕ). is_word v.0) e ∙ (word_take tail w word).is) k.0 in
    (word, ap (λ (v : List ℕ × List ℕ). begins_with 43 v.0) (sym e) ∙ first)

pub option_is : (tail bytes front back : List ℕ) → behind_spaces tail ≡ Some bytes → begins_with 43 bytes ≡ true → front ≡ first_word bytes → back ≡ behind_word bytes → option_at tail ≡ Some (front, back)
unfolding option_at
option_is tail bytes front back e plus f b = rw e (rw plus (rw (f, b) refl))

pub option_shorter : (tail : List ℕ) (w : List ℕ × List ℕ) → option_at tail ≡ Some w → length w.1 < length tail
option_shorter tail w h = word_shorter tail w (option_take tail w h).0

-- enough turns make no difference
enough : (n m : ℕ) (tail : List ℕ) → length tail ≤ n → length tail ≤ m → options_in n tail ≡ options_in m tail
unfolding options_in option_at behind_spaces
enough zero zero tail p q = refl
enough zero (suc m) [] p q = refl
enough zero (suc m) (b ∷ bs) p q = absurd (omega arith)
enough (suc n) zero [] p q = refl
enough (suc n) zero (b ∷ bs) p q = absurd (omega arith)
enough (suc n) (suc m) tail p q = by_option (option_at tail) refl (λ rest. enough n m rest)
  where
    by_option : (o : Option (List ℕ × List ℕ)) → option_at tail ≡ o → ((rest : List ℕ) → length rest ≤ n → length rest ≤ m → options_in n rest ≡ options_in m rest) →
        with_option (options_in n) tail o ≡ with_option (options_in m) tail o
    by_option None e again = refl
    by_option (Some w) e again =
        let s = option_shorter tail w e in
        ap (λ (t : Taken). record { words = w.0 ∷ t.words; rest = t.rest }) (again w.1 (omega (arith, s)) (omega (arith, s)))

-- one option, and those behind it
pub options_more : (tail : List ℕ) (w : List ℕ × List ℕ) → option_at tail ≡ Some w → options_of tail ≡ record { words = w.0 ∷ (options_of w.1).words; rest = (options_of w.1).rest }
unfolding options_of options_in
options_more tail w e = by_turns (length tail) refl
  where
    by_turns : (n : ℕ) → length tail ≡ n → options_in n tail ≡ record { words = w.0 ∷ (options_in (length w.1) w.1).words; rest = (options_in (length w.1) w.1).rest }
    by_turns zero f = let s = option_shorter tail w e in absurd (omega (arith, s))
    by_turns (suc n) f =
        let s = option_shorter tail w e in
        let same : options_in n w.1 ≡ options_in (length w.1) w.1 = enough n (length w.1) w.1 (omega (arith, s)) (omega arith) in
        ap (with_option (options_in n) tail) e ∙ ap (λ (t : Taken). record { words = w.0 ∷ t.words; rest = t.rest }) same

-- none
pub options_none : (tail : List ℕ) → option_at tail ≡ None → options_of tail ≡ record { words = []; rest = tail }
unfolding options_of options_in
options_none tail e = by_turns (length tail)
  where
    by_turns : (n : ℕ) → options_in n tail ≡ record { words = []; rest = tail }
    by_turns zero = refl
    by_turns (suc n) = ap (with_option (options_in n) tail) e

-- the names of the options
pub named_more : (name tail : List ℕ) (w : List ℕ × List ℕ) → option_at tail ≡ Some w → has_option name tail ≡ (bytes_eq name (option_name w.0) || has_option name w.1)
unfolding has_option
named_more name tail w e = ap (λ (t : Taken). list_any (bytes_eq name) (map option_name t.words)) (options_more tail w e)

pub named_none : (name tail : List ℕ) → option_at tail ≡ None → has_option name tail ≡ false
unfolding has_option
named_none name tail e = ap (λ (t : Taken). list_any (bytes_eq name) (map option_name t.words)) (options_none tail e)

-- what stands behind the options
pub behind_known : (names : List (List ℕ)) (tail : List ℕ) (w : List ℕ × List ℕ) → option_at tail ≡ Some w → is_known names w.0 ≡ true → behind_options names tail ≡ behind_options names w.1
unfolding behind_options
behind_known names tail w e k = rw (options_more tail w e) (rw k refl)

pub behind_unknown : (names : List (List ℕ)) (tail : List ℕ) (w : List ℕ × List ℕ) → option_at tail ≡ Some w → is_known names w.0 ≡ false → behind_options names tail ≡ None
unfolding behind_options
behind_unknown names tail w e k = rw (options_more tail w e) (rw k refl)

pub behind_none : (names : List (List ℕ)) (tail : List ℕ) → option_at tail ≡ None → behind_options names tail ≡ Some tail
unfolding behind_options
behind_none names tail e = rw (options_none tail e) refl

-- what the words of one name say
pub texts_named : (name tail : List ℕ) (w : List ℕ × List ℕ) → option_at tail ≡ Some w → bytes_eq (option_name w.0) name ≡ true →
    texts_of name (options_of tail).words ≡ option_text w.0 ∷ texts_of name (options_of w.1).words
texts_named name tail w e k = ap (λ (t : Taken). texts_of name t.words) (options_more tail w e) ∙ rw k refl

pub texts_other : (name tail : List ℕ) (w : List ℕ × List ℕ) → option_at tail ≡ Some w → bytes_eq (option_name w.0) name ≡ false → texts_of name (options_of tail).words ≡ texts_of name (options_of w.1).words
texts_other name tail w e k = ap (λ (t : Taken). texts_of name t.words) (options_more tail w e) ∙ rw k refl

pub texts_none : (name tail : List ℕ) → option_at tail ≡ None → texts_of name (options_of tail).words ≡ []
texts_none name tail e = ap (λ (t : Taken). texts_of name t.words) (options_none tail e)

-- what the options of one name say, each one
abbrev pub each_at : (token : Token) → List ℕ → List ℕ → Option (List (TokenValue token))
each_at token name tail = each_in token (texts_of name (options_of tail).words)

pub each_next : (token : Token) (name tail : List ℕ) (w : List ℕ × List ℕ) (its text : List ℕ) → option_at tail ≡ Some w → its ≡ option_name w.0 → text ≡ option_text w.0 → bytes_eq its name ≡ true →
    each_at token name tail ≡ (token_in token text >>= λ value. (each_at token name w.1 >>= λ values. Some (value ∷ values)))
each_next token name tail w its text e n t k =
    ap (each_in token) (texts_named name tail w e (ap (λ v. bytes_eq v name) (sym n) ∙ k)) ∙ ap (λ v. token_in token v >>= λ value. (each_at token name w.1 >>= λ values. Some (value ∷ values))) (sym t)

pub each_other : (token : Token) (name tail : List ℕ) (w : List ℕ × List ℕ) (its : List ℕ) → option_at tail ≡ Some w → its ≡ option_name w.0 → bytes_eq its name ≡ false → each_at token name tail ≡ each_at token name w.1
each_other token name tail w its e n k = ap (each_in token) (texts_other name tail w e (ap (λ v. bytes_eq v name) (sym n) ∙ k))

pub each_none : (token : Token) (name tail : List ℕ) → option_at tail ≡ None → each_at token name tail ≡ Some []
each_none token name tail e = ap (each_in token) (texts_none name tail e)

-- the tail behind the options
pub rest_next : (tail : List ℕ) (w : List ℕ × List ℕ) → option_at tail ≡ Some w → (options_of tail).rest ≡ (options_of w.1).rest
rest_next tail w e = ap (λ (t : Taken). t.rest) (options_more tail w e)

pub rest_last : (tail : List ℕ) → option_at tail ≡ None → (options_of tail).rest ≡ tail
rest_last tail e = ap (λ (t : Taken). t.rest) (options_none tail e)

-- ## No option

plain_first : (tail : List ℕ) → is_plain tail ≡ not (begins_with 43 (without_spaces tail))
plain_first [] = refl
plain_first (b ∷ bs) = at_first (b == 32) (plain_first bs)
  where
    at_first : (t : Bool) → is_plain bs ≡ not (begins_with 43 (without_spaces bs)) → cond t (is_plain bs) (not (b == 43)) ≡ not (begins_with 43 (drop (cond t (1 + spaces_len bs) 0) (b ∷ bs)))
    at_first true h = let s : 1 + spaces_len bs ≡ suc (spaces_len bs) = omega arith in rw s h
    at_first false h = refl

-- where the rest is plain no option follows
abbrev plus_word : List ℕ → Option (List ℕ × List ℕ)
plus_word bytes = cond (begins_with 43 bytes) (Some (first_word bytes, behind_word bytes)) None

pub no_option : (tail : List ℕ) → is_plain tail ≡ true → option_at tail ≡ None
unfolding option_at behind_spaces
no_option tail h = by_test (spaces_len tail == 0)
  where
    by_test : (b : Bool) → (cond b None (Some (without_spaces tail)) >>= plus_word) ≡ None
    by_test true = refl
    by_test false = rw (is_false (begins_with 43 (without_spaces tail)) (sym (plain_first tail) ∙ h)) refl

-- where none follows the rest is plain
plain_bytes : (bytes : List ℕ) (w : List ℕ × List ℕ) → cond (begins_with 43 bytes) (Some w) None ≡ None → not (begins_with 43 bytes) ≡ true
plain_bytes bytes w h = by_test (begins_with 43 bytes) h
  where
    by_test : (b : Bool) → cond b (Some w) None ≡ None → not b ≡ true
    by_test true e = cc
    by_test false e = refl

pub plain_none : (tail : List ℕ) → IsTail tail → option_at tail ≡ None → is_plain tail ≡ true
unfolding option_at behind_spaces
plain_none [] q h = refl
plain_none (b ∷ bs) q h = let f = tail_spaces b bs q in plain_first (b ∷ bs) ∙ plain_bytes (without_spaces (b ∷ bs)) _ (rw f at h)

-- ## What options choose: what is read is spelled so, and what is spelled so is read.

run_take : (names : List (List ℕ)) (n : ℕ) (tail : List ℕ) → IsTail tail → length tail ≤ n → list_all (is_known names) (options_in n tail).words ≡ true → Run names (options_in n tail).words (options_in n tail).rest tail
unfolding options_in
run_take names zero [] q few h = (refl, refl)
run_take names zero (b ∷ bs) q few h = absurd (omega arith)
run_take names (suc n) tail q few h = by_option (option_at tail) refl h (λ rest. run_take names n rest)
  where
    by_option : (o : Option (List ℕ × List ℕ)) → option_at tail ≡ o → list_all (is_known names) (with_option (options_in n) tail o).words ≡ true →
        ((rest : List ℕ) → IsTail rest → length rest ≤ n → list_all (is_known names) (options_in n rest).words ≡ true → Run names (options_in n rest).words (options_in n rest).rest rest) →
        Run names (with_option (options_in n) tail o).words (with_option (options_in n) tail o).rest tail
    by_option None e h again = (refl, plain_none tail q e)
    by_option (Some w) e h again =
        let k = option_take tail w e in
        let p = word_take tail w k.0 in
        let s = option_shorter tail w e in
        let a = and_parts (is_known names w.0) (list_all (is_known names) (options_in n w.1).words) h in
        let is : is_option names w.0 ≡ true = rw (k.1, has_no_all 32 w.0 (word_parts w.0 p.is).1, a.0) refl in
        (p.spaces, w.1, p.split, is, again w.1 p.behind (omega (arith, s)) a.1)

one_take : (token : Token) (texts : List (List ℕ)) (value : Option (TokenValue token)) → (one_of texts >>= told_in token) ≡ Some value → (name : List ℕ) (words : List (List ℕ)) → texts_of name words ≡ texts → Tells (One name token) value words
one_take token [] value h name words e = let v : None ≡ value = cc in subst (λ (u : Option (TokenValue token)). Tells (One name token) u words) v e
one_take token (text ∷ []) value h name words e =
    let b = bind_some (token_in token text) _ value h in
    let v : Some b.0 ≡ value = cc in
    subst (λ (u : Option (TokenValue token)). Tells (One name token) u words) v (text, e, token_take token text b.0 b.1)
one_take token (text ∷ another ∷ texts) value h name words e = cc

each_take : (token : Token) (texts : List (List ℕ)) (values : List (TokenValue token)) → each_in token texts ≡ Some values → SpellAll token values texts
each_take token [] values h = let e : [] ≡ values = cc in subst (λ (v : List (TokenValue token)). SpellAll token v []) e refl
each_take token (text ∷ texts) values h =
    let v = bind_some (token_in token text) _ values h in
    let vs = bind_some (each_in token texts) _ values v.2 in
    let e : v.0 ∷ vs.0 ≡ values = cc in
    subst (λ (u : List (TokenValue token)). SpellAll token u (text ∷ texts)) e (text, texts, refl, token_take token text v.0 v.1, each_take token texts vs.0 vs.1)

tells_take : (option : Optional) (words : List (List ℕ)) (value : Choice option) → choice_in option words ≡ Some value → Tells option value words
tells_take (One name token) words value h = one_take token (texts_of name words) value h name words refl
tells_take (Many name token fit) words values h =
    let v = bind_some (each_in token (texts_of name words)) _ values h in
    let k = guard_some (fit v.0) (Some v.0) values v.2 in
    let e : v.0 ≡ values = cc in
    subst (λ (u : List (TokenValue token)). SpellAll token u (texts_of name words) × IsTrue (fit u)) e (each_take token (texts_of name words) v.0 v.1, k.0)

tell_take : (options : List Optional) (words : List (List ℕ)) (chosen : Chosen options) → chosen_in options words ≡ Some chosen → TellAll options chosen words
tell_take [] words chosen h = tt
tell_take (option ∷ options) words chosen h =
    let v = bind_some (choice_in option words) _ chosen h in
    let vs = bind_some (chosen_in options words) _ chosen v.2 in
    let e : (v.0, vs.0) ≡ chosen = cc in
    subst (λ (c : Chosen (option ∷ options)). TellAll (option ∷ options) c words) e (tells_take option words v.0 v.1, tell_take options words vs.0 vs.1)

pub options_take : (options : List Optional) (tail : List ℕ) (x : Chosen options × List ℕ) → IsTail tail → options_at options tail ≡ Some x → Choose options x.0 x.1 tail
unfolding options_of behind_options
options_take [] tail x q h = ap (λ (v : Chosen [] × List ℕ). v.1) (let e : (tt, tail) ≡ x = cc in e)
options_take (option ∷ options) tail x q h =
    let all = option ∷ options in
    let names = map name_of all in
    let words = (options_of tail).words in
    let b = bind_some (behind_options names tail) _ x h in
    let g = guard_some (list_all (is_known names) words) (Some (options_of tail).rest) b.0 b.1 in
    let c = bind_some (chosen_in all words) _ x b.2 in
    let rest : (options_of tail).rest ≡ b.0 = cc in
    let e : (c.0, b.0) ≡ x = cc in
    let run : Run names words b.0 tail = subst (λ (v : List ℕ). Run names words v tail) rest (run_take names (length tail) tail q (omega arith) g.0) in
    subst (λ (v : Chosen all × List ℕ). Choose all v.0 v.1 tail) e (words, run, tell_take all words c.0 c.1)

-- ## Spelled, and so read

run_tail : (names : List (List ℕ)) (words : List (List ℕ)) (rest tail : List ℕ) → IsTail rest → Run names words rest tail → IsTail tail
run_tail names [] rest tail q r = subst IsTail (sym r.0) q
run_tail names (w ∷ ws) rest tail q r = spaces_tail r.0 tail (w ++ r.1) r.2

pub choose_tail : (options : List Optional) (chosen : Chosen options) (rest tail : List ℕ) → IsTail rest → Choose options chosen rest tail → IsTail tail
choose_tail [] chosen rest tail q c = subst IsTail (sym c) q
choose_tail (option ∷ options) chosen rest tail q c = run_tail (map name_of (option ∷ options)) c.0 rest tail q c.1

begins_plus : (w behind : List ℕ) → begins_with 43 w ≡ true → (begins_with 43 (w ++ behind) ≡ true) × (0 < length w)
begins_plus [] behind h = cc
begins_plus (b ∷ bs) behind h = (h, omega arith)

option_again : (names : List (List ℕ)) (n : ℕ) (w behind : List ℕ) → is_option names w ≡ true → IsTail behind → (option_at (replicate (n + 1) 32 ++ (w ++ behind)) ≡ Some (w, behind)) × (is_known names w ≡ true)
unfolding option_at
option_again names n w behind h q =
    let a = and_parts (begins_with 43 w && has_no 32 w) (is_known names w) h in
    let b = and_parts (begins_with 43 w) (has_no 32 w) a.0 in
    let letters = has_no_by 32 w b.1 in
    let plus = begins_plus w behind b.0 in
    (rw (spaces_again n (w ++ behind) (begins_word w behind letters plus.1)) (rw (plus.0) (rw (first_again w behind letters q, behind_again w behind letters q) refl)), a.1)

record IsRead (names : List (List ℕ)) (words : List (List ℕ)) (rest tail : List ℕ) : Type 0 where
  behind : behind_options names tail ≡ Some rest
  words_are : (options_of tail).words ≡ words

run_again : (names : List (List ℕ)) (words : List (List ℕ)) (rest tail : List ℕ) → IsTail rest → Run names words rest tail → IsRead names words rest tail
run_again names [] rest tail q r =
    let none : option_at tail ≡ None = ap option_at r.0 ∙ no_option rest r.1 in
    record { behind = behind_none names tail none ∙ ap Some r.0; words_are = ap (λ (t : Taken). t.words) (options_none tail none) }
run_again names (w ∷ ws) rest tail q r =
    let o = option_again names r.0 w r.1 r.3 (run_tail names ws rest r.1 q r.4) in
    let one : option_at tail ≡ Some (w, r.1) = ap option_at r.2 ∙ o.0 in
    let more = run_again names ws rest r.1 q r.4 in
    record {
      behind = behind_known names tail (w, r.1) one o.1 ∙ more.behind;
      words_are = ap (λ (t : Taken). t.words) (options_more tail (w, r.1) one) ∙ ap (λ (v : List (List ℕ)). w ∷ v) more.words_are;
    }

each_again : (token : Token) (values : List (TokenValue token)) (texts : List (List ℕ)) → SpellAll token values texts → each_in token texts ≡ Some values
each_again token [] texts s = rw s refl
each_again token (value ∷ values) texts s = rw s.2 (rw (token_again token value s.0 s.3) (rw (each_again token values s.1 s.4) refl))

tells_again : (option : Optional) (words : List (List ℕ)) (value : Choice option) → Tells option value words → choice_in option words ≡ Some value
tells_again (One name token) words None h = rw h refl
tells_again (One name token) words (Some value) h = rw h.1 (rw (token_again token value h.0 h.2) refl)
tells_again (Many name token fit) words values h = rw (each_again token values (texts_of name words) h.0) (rw h.1 refl)

tell_again : (options : List Optional) (words : List (List ℕ)) (chosen : Chosen options) → TellAll options chosen words → chosen_in options words ≡ Some chosen
tell_again [] words chosen h = refl
tell_again (option ∷ options) words chosen h = rw (tells_again option words chosen.0 h.0) (rw (tell_again options words chosen.1 h.1) refl)

pub options_again : (options : List Optional) (chosen : Chosen options) (rest tail : List ℕ) → IsTail rest → Choose options chosen rest tail → options_at options tail ≡ Some (chosen, rest)
options_again [] chosen rest tail q c = ap (λ (v : List ℕ). Some (tt, v)) c
options_again (option ∷ options) chosen rest tail q c =
    let all = option ∷ options in
    let k = run_again (map name_of all) c.0 rest tail q c.1 in
    rw k.behind (rw k.words_are (rw (tell_again all c.0 chosen c.2) refl))
