-- What one word says: what is read is spelled so, and what is spelled so is read.
use Rattle.std.proofs.Common.{◌≡◌, ℕ, ◌^◌, ℤ, pos, neg_ℤ, List, [], ◌∷◌, ◌++◌, take, drop, true, false, ◌==◌, nat_lt, nat_le, arith, refl, sym, ◌∙◌, ap, tests, Option, Some, None, inl, inr, subst, codes}
use Rattle.std.specs.List.{list_all}
use Rattle.std.specs.Char.{is_ascii_digit}
use Rattle.std.specs.Str.{bytes_eq, is_utf8}
use Rattle.std.specs.Str.Parse.{digits_value}
use Rattle.std.proofs.lemmas.Bool.{and_parts}
use Rattle.std.proofs.lemmas.List.{take-append-drop, append-nil}
use Rattle.std.proofs.lemmas.Slice.Eq.{bytes_eq-Decides}
use Rattle.std.proofs.lemmas.Str.{IsUtf8-from_is_utf8, is_utf8-from_IsUtf8}
use Rattle.vx_data.specs.declared.ids.ContextId.{ContextId}
use Rattle.vx_json.specs.Reading.{after}
use Rattle.vx_message.specs.declared.rules.Condition.{Condition}
use Rattle.vx_message.specs.declared.rules.Condition.TheVariants.{Any, At, Has}
use Rattle.vx_message.specs.declared.rules.Side.{Side}
use Rattle.vx_message.specs.declared.rules.Side.TheVariants as sides
use Rattle.vx_message.specs.declared.rules.Verdict.{Verdict}
use Rattle.vx_message.specs.declared.rules.Verdict.TheVariants.{Stop, Add}
use Rattle.vx_words.specs.Grammar.{is_digits, is_number, SpellsNumber, SpellsAtMost, SpellsContext, is_negated, SpellsSigned, SpellsText, SpellsHeader, SpellsSide, SpellsCondition, SpellsVerdict, Token, AWord, ANumber, AtMost, AContext, ASigned, AText, AKnown, AHeader, ASide, ACondition, AVerdict, TokenValue, SpellsToken}
use Rattle.vx_words.specs.Reading.{place_of, number_in, at_most_in, instance_in, context_in, negative_in, positive_in, signed_in, text_in, value_in, header_in, side_in, has_in, at_in, condition_in, verdict_in, token_in}
use Rattle.vx_words.proofs.Digits.{digits_parts}
use Rattle.vx_words.proofs.Words.{HasNo, has_no_by, has_no_all, bind_some, guard_some, chosen, is_same, letter_found, front_has_no, cut_letter, cut_nothing}

-- ## Read, and so spelled

number_take : (bits : ℕ) (text : List ℕ) (n : ℕ) → number_in bits text ≡ Some n → SpellsNumber bits n text
unfolding number_in
number_take bits text n h =
    let k = guard_some (is_number bits text) (Some (digits_value 10 text)) n h in
    let e : digits_value 10 text ≡ n = cc in
    (k.0, sym e)

instance_take : (text front back : List ℕ) (entry instance : ℕ) (x : ContextId) → text ≡ front ++ back → ((q : ℕ) (tail : List ℕ) → back ≡ q ∷ tail → q ≡ 46) → number_in 64 front ≡ Some entry → instance_in back ≡ Some instance →
    x ≡ record { entry = record { 0 = entry }; instance = instance } → SpellsContext x text
instance_take text front [] entry instance x split point e i made =
    let whole : text ≡ front = split ∙ append-nil front in
    let n = number_take 64 front entry e in
    let zero : 0 ≡ instance = cc in
    inl (rw (made, whole) n, rw made (sym zero))
instance_take text front (q ∷ digits) entry instance x split point e i made =
    inr (front, digits, split ∙ ap (λ b. front ++ b ∷ digits) (point q digits refl), rw made (number_take 64 front entry e), rw made (number_take 32 digits instance i))

context_take : (text : List ℕ) (x : ContextId) → context_in text ≡ Some x → SpellsContext x text
unfolding context_in
context_take text x h =
    let front = take (place_of 46 text) text in
    let back = drop (place_of 46 text) text in
    let e = bind_some (number_in 64 front) _ x h in
    let i = bind_some (instance_in back) _ x e.2 in
    let made : record { entry = record { 0 = e.0 }; instance = i.0 } ≡ x = cc in
    instance_take text front back e.0 i.0 x (sym (take-append-drop (place_of 46 text) text)) (λ q tail k. letter_found 46 text q tail k) e.1 i.1 (sym made)

at_most_take : (limit : ℕ) (text : List ℕ) (n : ℕ) → at_most_in limit text ≡ Some n → SpellsAtMost limit n text
unfolding at_most_in
at_most_take limit text n h =
    let k = bind_some (number_in 32 text) _ n h in
    let g = guard_some (nat_le k.0 limit) (Some k.0) n k.2 in
    let e : k.0 ≡ n = cc in
    subst (λ (v : ℕ). SpellsAtMost limit v text) e (number_take 32 text k.0 k.1, g.0)

signed_take : (bits : ℕ) (text : List ℕ) (x : ℤ) → signed_in bits text ≡ Some x → SpellsSigned bits x text
unfolding signed_in
signed_take bits [] x h = cc
signed_take bits (b ∷ bs) x h =
    elim (chosen (b == 45) (negative_in bits bs) (positive_in bits (b ∷ bs)) (Some x) h) [
      | inl w ↦
          (let k = guard_some (is_negated bits bs) (Some (neg_ℤ (pos (digits_value 10 bs)))) x w.1 in
          let e : neg_ℤ (pos (digits_value 10 bs)) ≡ x = cc in
          inr (bs, ap (λ t. t ∷ bs) (is_same b 45 w.0), k.0, sym e))
      | inr w ↦
          (let k = guard_some (is_number bits (b ∷ bs)) (Some (pos (digits_value 10 (b ∷ bs)))) x w.1 in
          let e : pos (digits_value 10 (b ∷ bs)) ≡ x = cc in
          inl (k.0, sym e))
    ]

pub text_take : (text x : List ℕ) → text_in text ≡ Some x → SpellsText x text
unfolding text_in
text_take text x h =
    let k = guard_some (is_utf8 text) (Some text) x h in
    let e : text ≡ x = cc in
    (sym e, IsUtf8-from_is_utf8 text k.0)

value_take : (text front back name : List ℕ) (value : List ℕ) → text ≡ front ++ back → ((q : ℕ) (tail : List ℕ) → back ≡ q ∷ tail → q ≡ 61) → HasNo 61 front → text_in front ≡ Some name → value_in back ≡ Some value →
    SpellsHeader (name, value) text
value_take text front [] name value split sign clear n v = cc
value_take text front (q ∷ tail) name value split sign clear n v =
    let f = text_take front name n in
    let b = text_take tail value v in
    let whole : text ≡ name ++ 61 ∷ value = split ∙ ap (λ b. front ++ b ∷ tail) (sign q tail refl) ∙ ap (λ (t : List ℕ). t ++ 61 ∷ tail) (sym f.0) ∙ ap (λ (t : List ℕ). name ++ 61 ∷ t) (sym b.0) in
    (whole, rw f.0 (has_no_all 61 front clear), rw f.0 f.1, rw b.0 b.1)

header_take : (text : List ℕ) (x : List ℕ × List ℕ) → header_in text ≡ Some x → SpellsHeader x text
unfolding header_in
header_take text x h =
    let front = take (place_of 61 text) text in
    let back = drop (place_of 61 text) text in
    let n = bind_some (text_in front) _ x h in
    let v = bind_some (value_in back) _ x n.2 in
    let made : (n.0, v.0) ≡ x = cc in
    subst (λ (p : List ℕ × List ℕ). SpellsHeader p text) made
    (value_take text front back n.0 v.0 (sym (take-append-drop (place_of 61 text) text)) (λ q tail k. letter_found 61 text q tail k) (front_has_no 61 text) n.1 v.1)

side_take : (text : List ℕ) (x : Side) → side_in text ≡ Some x → SpellsSide x text
unfolding side_in
side_take text x h =
    elim (chosen (bytes_eq text (codes "in")) _ _ (Some x) h) [
      | inl w ↦ (let e : sides.In ≡ x = cc in subst (λ (v : Side). SpellsSide v text) e ((bytes_eq-Decides text (codes "in")).0 w.0))
      | inr w ↦
          (let k = guard_some (bytes_eq text (codes "out")) (Some sides.Out) x w.1 in
          let e : sides.Out ≡ x = cc in
          subst (λ (v : Side). SpellsSide v text) e ((bytes_eq-Decides text (codes "out")).0 k.0))
    ]

-- what follows a front
after_take : (front text rest : List ℕ) → after front text ≡ Some rest → text ≡ front ++ rest
unfolding after
after_take [] text rest h = let e : text ≡ rest = cc in e
after_take (f ∷ fs) [] rest h = cc
after_take (f ∷ fs) (b ∷ bs) rest h =
    let k = guard_some (b == f) (after fs bs) rest h in
    ap (λ c. c ∷ bs) (is_same b f k.0) ∙ ap (λ (t : List ℕ). f ∷ t) (after_take fs bs rest k.1)

has_take : (text : List ℕ) (x : Condition) → has_in text ≡ Some x → SpellsCondition x text
has_take text x h =
    let a = bind_some (after (codes "has:") text) _ x h in
    let t = bind_some (text_in a.0) _ x a.2 in
    let s = text_take a.0 t.0 t.1 in
    let e : Has t.0 ≡ x = cc in
    subst (λ (v : Condition). SpellsCondition v text) e (after_take (codes "has:") text a.0 a.1 ∙ ap (λ (u : List ℕ). codes "has:" ++ u) (sym s.0), rw s.0 s.1)

at_take : (found : Option (List ℕ)) (text : List ℕ) (x : Condition) → after (codes "at:") text ≡ found → at_in found text ≡ Some x → SpellsCondition x text
at_take None text x f h = has_take text x h
at_take (Some address) text x f h =
    let t = bind_some (text_in address) _ x h in
    let s = text_take address t.0 t.1 in
    let e : At t.0 ≡ x = cc in
    subst (λ (v : Condition). SpellsCondition v text) e (after_take (codes "at:") text address f ∙ ap (λ (u : List ℕ). codes "at:" ++ u) (sym s.0), rw s.0 s.1)

condition_take : (text : List ℕ) (x : Condition) → condition_in text ≡ Some x → SpellsCondition x text
unfolding condition_in
condition_take text x h =
    elim (chosen (bytes_eq text (codes "any")) _ _ (Some x) h) [
      | inl w ↦ (let e : Any ≡ x = cc in subst (λ (v : Condition). SpellsCondition v text) e ((bytes_eq-Decides text (codes "any")).0 w.0))
      | inr w ↦ at_take (after (codes "at:") text) text x refl w.1
    ]

verdict_take : (text : List ℕ) (x : Verdict) → verdict_in text ≡ Some x → SpellsVerdict x text
unfolding verdict_in
verdict_take text x h =
    elim (chosen (bytes_eq text (codes "stop")) _ _ (Some x) h) [
      | inl w ↦ (let e : Stop ≡ x = cc in subst (λ (v : Verdict). SpellsVerdict v text) e ((bytes_eq-Decides text (codes "stop")).0 w.0))
      | inr w ↦
          (let a = bind_some (after (codes "add:") text) _ x w.1 in
          let t = bind_some (header_in a.0) _ x a.2 in
          let e : Add t.0.0 t.0.1 ≡ x = cc in
          subst (λ (v : Verdict). SpellsVerdict v text) e (a.0, after_take (codes "add:") text a.0 a.1, header_take a.0 t.0 t.1))
    ]

pub token_take : (token : Token) (text : List ℕ) (x : TokenValue token) → token_in token text ≡ Some x → SpellsToken token x text
token_take (AWord word) text x h = (bytes_eq-Decides text word).0 (guard_some (bytes_eq text word) (Some tt) x h).0
token_take (ANumber bits) text x h = number_take bits text x h
token_take (AtMost limit) text x h = at_most_take limit text x h
token_take AContext text x h = context_take text x h
token_take (ASigned bits) text x h = signed_take bits text x h
token_take AText text x h = text_take text x h
token_take (AKnown test) text x h = let k = guard_some (test text) (text_in text) x h in (k.0, text_take text x k.1)
token_take AHeader text x h = header_take text x h
token_take ASide text x h = side_take text x h
token_take ACondition text x h = condition_take text x h
token_take AVerdict text x h = verdict_take text x h

-- ## Spelled, and so read

digit_letters : (b : ℕ) → is_ascii_digit b ≡ true → (b == 32 ≡ false) × (b == 45 ≡ false) × (b == 46 ≡ false)
digit_letters b h = (grind (arith, tests), grind (arith, tests), grind (arith, tests))

pub digits_no_space : (text : List ℕ) → list_all is_ascii_digit text ≡ true → HasNo 32 text
digits_no_space [] h = tt
digits_no_space (b ∷ bs) h = let p = and_parts (is_ascii_digit b) (list_all is_ascii_digit bs) h in ((digit_letters b p.0).0, digits_no_space bs p.1)

digits_no_point : (text : List ℕ) → list_all is_ascii_digit text ≡ true → HasNo 46 text
digits_no_point [] h = tt
digits_no_point (b ∷ bs) h = let p = and_parts (is_ascii_digit b) (list_all is_ascii_digit bs) h in ((digit_letters b p.0).2, digits_no_point bs p.1)

number_digits : (bits n : ℕ) (text : List ℕ) → SpellsNumber bits n text → list_all is_ascii_digit text ≡ true
number_digits bits n text s = (digits_parts text (and_parts (is_digits text) (nat_lt (digits_value 10 text) (2 ^ bits)) s.0).0).0

number_again : (bits n : ℕ) (text : List ℕ) → SpellsNumber bits n text → number_in bits text ≡ Some n
unfolding number_in
number_again bits n text s = rw (s.0, s.1) refl

context_again : (x : ContextId) (text : List ℕ) → SpellsContext x text → context_in text ≡ Some x
unfolding context_in
context_again x text (inl s) =
    let c = cut_nothing 46 text (digits_no_point text (number_digits 64 x.entry.0 text s.0)) in
    rw (c.0, c.1) (rw (number_again 64 x.entry.0 text s.0) (ap (λ (n : ℕ). Some (record { entry = x.entry; instance = n })) (sym s.1)))
context_again x text (inr s) =
    let c = cut_letter 46 s.0 s.1 refl (digits_no_point s.0 (number_digits 64 x.entry.0 s.0 s.3)) in
    rw s.2 (rw (c.0, c.1) (rw (number_again 64 x.entry.0 s.0 s.3) (rw (number_again 32 x.instance s.1 s.4) refl)))

at_most_again : (limit n : ℕ) (text : List ℕ) → SpellsAtMost limit n text → at_most_in limit text ≡ Some n
unfolding at_most_in
at_most_again limit n text s = rw (number_again 32 n text s.0) (rw s.1 refl)

signed_again : (bits : ℕ) (x : ℤ) (text : List ℕ) → SpellsSigned bits x text → signed_in bits text ≡ Some x
unfolding signed_in
signed_again bits x [] (inl s) = absurd (cc (s.0))
signed_again bits x (b ∷ bs) (inl s) =
    let digits = digits_parts (b ∷ bs) (and_parts (is_digits (b ∷ bs)) (nat_lt (digits_value 10 (b ∷ bs)) (2 ^ bits)) s.0).0 in
    let first : is_ascii_digit b ≡ true = (and_parts (is_ascii_digit b) (list_all is_ascii_digit bs) digits.0).0 in
    rw ((digit_letters b first).1) (rw s.0 (ap Some (sym s.1)))
signed_again bits x text (inr s) = rw s.1 (rw s.2 (ap Some (sym s.3)))

pub text_again : (x text : List ℕ) → SpellsText x text → text_in text ≡ Some x
unfolding text_in
text_again x text s = rw (is_utf8-from_IsUtf8 text s.1) (ap Some (sym s.0))

header_again : (x : List ℕ × List ℕ) (text : List ℕ) → SpellsHeader x text → header_in text ≡ Some x
unfolding header_in
header_again x text s =
    let c = cut_letter 61 x.0 x.1 refl (has_no_by 61 x.0 s.1) in
    rw s.0 (rw (c.0, c.1) (rw (text_again x.0 x.0 (refl, s.2)) (rw (text_again x.1 x.1 (refl, s.3)) refl)))

side_again : (x : Side) (text : List ℕ) → SpellsSide x text → side_in text ≡ Some x
unfolding side_in
side_again sides.In text s = rw s refl
side_again sides.Out text s = rw s refl

condition_again : (x : Condition) (text : List ℕ) → SpellsCondition x text → condition_in text ≡ Some x
unfolding condition_in after
condition_again Any text s = rw s refl
condition_again (At address) text s = rw s.0 (rw (text_again address address (refl, s.1)) refl)
condition_again (Has name) text s = rw s.0 (rw (text_again name name (refl, s.1)) refl)

verdict_again : (x : Verdict) (text : List ℕ) → SpellsVerdict x text → verdict_in text ≡ Some x
unfolding verdict_in after
verdict_again Stop text s = rw s refl
verdict_again (Add name value) text s = rw s.1 (rw (header_again (name, value) s.0 s.2) refl)

pub token_again : (token : Token) (x : TokenValue token) (text : List ℕ) → SpellsToken token x text → token_in token text ≡ Some x
token_again (AWord word) x text s = rw s (rw ((bytes_eq-Decides word word).1 refl) refl)
token_again (ANumber bits) x text s = number_again bits x text s
token_again (AtMost limit) x text s = at_most_again limit x text s
token_again AContext x text s = context_again x text s
token_again (ASigned bits) x text s = signed_again bits x text s
token_again AText x text s = text_again x text s
token_again (AKnown test) x text s = rw s.0 (text_again x text s.1)
token_again AHeader x text s = header_again x text s
token_again ASide x text s = side_again x text s
token_again ACondition x text s = condition_again x text s
token_again AVerdict x text s = verdict_again x text s
