-- How a line ends: what is read is spelled so, and what is spelled so is read.
use Rattle.std.proofs.Common.{◌≡◌, ℕ, ◌+◌, ◌<◌, ◌≤◌, zero, suc, List, [], ◌∷◌, ◌++◌, length, replicate, true, false, not, ◌==◌, nat_le, arith, refl, sym, ◌∙◌, ap, Option, Some, None, Ok, Err, subst, inl, inr, codes}
use Rattle.std.specs.Str.{IsUtf8, bytes_eq}
use Rattle.std.proofs.lemmas.Slice.Eq.{bytes_eq-Decides}
use Rattle.vx_data.specs.Tree.{Tree}
use Rattle.vx_data.specs.Bodies.{tree_depth}
use Rattle.vx_json.specs.Grammar.{IsJson, settled}
use Rattle.vx_json.specs.Answers.{IsAnswer}
use Rattle.vx_json.specs.declared.fault.JsonFault.{JsonFault}
use Rattle.vx_json.specs.declared.fault.JsonFault.TheVariants.{BadJson, Deep}
use Rattle.vx_json.specs.Reading.{json_of}
use Rattle.vx_json.proofs.Keeping.{kept, keeps}
use Rattle.vx_json.proofs.Documents.{json_sound, json_complete, answer_body}
use Rattle.vx_message.specs.declared.rules.CodecForm.{CodecForm}
use Rattle.vx_message.specs.declared.rules.CodecForm.TheVariants.{Copy, KeepKeys, DropKeys, Wrap}
use Rattle.vx_words.specs.Grammar.{begins_with, AText, SpellsBody, form_words, AreWords, Ending, Nothing, TheRest, ABody, ACodecForm, ALane, AnEnd, AResult, EndValue, Ends}
use Rattle.vx_words.specs.Reading.{behind_spaces, word_at, text_in, token_at, end_at, rest_at, body_in, body_at, with_word, words_in, words_at, codec_form_by, codec_form_at, ending_at, ◌>>=◌}
use Rattle.vx_words.proofs.Words.{IsTail, Begins, is_false, spaces_tail, bind_some, guard_some, chosen, is_same, spaces_take, spaces_again, spaces_end, behind_is, word_take, word_again, word_shorter, blank_tail}
use Rattle.vx_words.proofs.Texts.{ascii_utf8}
use Rattle.vx_words.proofs.Digits.{few_by, is_within}
use Rattle.vx_words.proofs.Tokens.{text_take, text_again}
use Rattle.vx_words.proofs.Nexts.{no_word, end_take, end_again}
use Rattle.vx_words.proofs.Lanes.{lane_take, lane_again, lane_tail, task_end_take, task_end_again, task_end_tail, result_take, result_again, result_tail}

-- ## Bodies

pub body_take : (text : List ℕ) (body : Tree) → body_in text ≡ Some body → SpellsBody body text
unfolding body_in
body_take text body h =
    let j = bind_some (json_of text) _ body h in
    let k = guard_some (nat_le (tree_depth j.0) 100) (Some j.0) body j.2 in
    let e : j.0 ≡ body = cc in
    let found = json_sound text j.0 j.1 in
    let answer : IsAnswer found.tree (Ok j.0) = answer_body found.tree j.0 found.same (few_by (tree_depth j.0) 100 k.0) in
    (found.tree, found.is, subst (λ (v : Tree). IsAnswer found.tree (Ok v)) e answer)

pub body_again : (text : List ℕ) (body : Tree) → SpellsBody body text → body_in text ≡ Some body
unfolding body_in
body_again text body s =
    let value = s.0 in
    let small : tree_depth (settled value) ≤ 100 = subst (λ (v : Tree). tree_depth v ≤ 100) s.2.0 s.2.1 in
    let same : kept value ≡ body = (keeps value).exact small ∙ sym s.2.0 in
    rw (json_complete text value s.1) (rw same (rw (is_within (tree_depth body) 100 s.2.1) refl))

none_by : (text : List ℕ) → ((body : Tree) → body_in text ≡ Some body → ⊥) → body_in text ≡ None
none_by text never = by_value (body_in text) refl
  where
    by_value : (o : Option Tree) → body_in text ≡ o → o ≡ None
    by_value None e = refl
    by_value (Some body) e = absurd (never body e)

-- a text that is no JSON, or is too deep
pub body_bad : (text : List ℕ) (fault : JsonFault) → fault ≡ BadJson → ((value : Tree) → IsJson value text → IsAnswer value (Err fault)) → body_in text ≡ None
body_bad text fault bad only = none_by text (λ body e. let s = body_take text body e in subst (λ (v : JsonFault). IsAnswer s.0 (Err v)) bad (only s.0 s.1))

pub body_deep : (text : List ℕ) (fault : JsonFault) → fault ≡ Deep → ((value : Tree) → IsJson value text → IsAnswer value (Err fault)) → body_in text ≡ None
body_deep text fault deep only =
    none_by text (λ body e.
    let s = body_take text body e in
    let over : 100 < tree_depth (settled s.0) = subst (λ (v : JsonFault). IsAnswer s.0 (Err v)) deep (only s.0 s.1) in
    absurd (omega (arith, over, s.2.1, ap tree_depth s.2.0)))

-- ## Words to the end

none_take : (tail : List ℕ) (words : List (List ℕ)) → (end_at tail >>= λ _. Some []) ≡ Some words → AreWords words tail
none_take tail words h =
    let x = bind_some (end_at tail) _ words h in
    let e : [] ≡ words = cc in
    subst (λ (v : List (List ℕ)). AreWords v tail) e (end_take tail x.0 x.1)

words_take : (turns : ℕ) (tail : List ℕ) (words : List (List ℕ)) → words_in turns tail ≡ Some words → AreWords words tail
unfolding words_in
words_take zero tail words h = none_take tail words h
words_take (suc turns) tail words h = by_word (word_at tail) refl h (λ rest more. words_take turns rest more)
  where
    by_word : (o : Option (List ℕ × List ℕ)) → word_at tail ≡ o → with_word (words_in turns) tail o ≡ Some words → ((rest : List ℕ) (more : List (List ℕ)) → words_in turns rest ≡ Some more → AreWords more rest) → AreWords words tail
    by_word None e h again = none_take tail words h
    by_word (Some w) e h again =
        let t = bind_some (text_in w.0) _ words h in
        let m = bind_some (words_in turns w.1) _ words t.2 in
        let same : t.0 ∷ m.0 ≡ words = cc in
        let s = text_take w.0 t.0 t.1 in
        let p = word_take tail w e in
        subst (λ (v : List (List ℕ)). AreWords v tail) same (subst (λ (v : List ℕ). AreWords (v ∷ m.0) tail) (sym s.0) (p.spaces, w.1, p.split, p.is, s.1, again w.1 m.0 m.1))

-- enough turns make no difference
words_enough : (n m : ℕ) (tail : List ℕ) → length tail ≤ n → length tail ≤ m → words_in n tail ≡ words_in m tail
unfolding words_in word_at behind_spaces
words_enough zero zero tail p q = refl
words_enough zero (suc m) [] p q = refl
words_enough zero (suc m) (b ∷ bs) p q = absurd (omega arith)
words_enough (suc n) zero [] p q = refl
words_enough (suc n) zero (b ∷ bs) p q = absurd (omega arith)
words_enough (suc n) (suc m) tail p q = by_word (word_at tail) refl (λ rest. words_enough n m rest)
  where
    by_word : (o : Option (List ℕ × List ℕ)) → word_at tail ≡ o → ((rest : List ℕ) → length rest ≤ n → length rest ≤ m → words_in n rest ≡ words_in m rest) → with_word (words_in n) tail o ≡ with_word (words_in m) tail o
    by_word None e again = refl
    by_word (Some w) e again =
        let s = word_shorter tail w e in
        ap (λ (more : Option (List (List ℕ))). text_in w.0 >>= λ text. (more >>= λ texts. Some (text ∷ texts))) (again w.1 (omega (arith, s)) (omega (arith, s)))

-- one word, and those behind it
words_more : (tail : List ℕ) (w : List ℕ × List ℕ) → word_at tail ≡ Some w → words_at tail ≡ (text_in w.0 >>= λ text. (words_at w.1 >>= λ texts. Some (text ∷ texts)))
unfolding words_at words_in
words_more tail w e = by_turns (length tail) refl
  where
    by_turns : (n : ℕ) → length tail ≡ n → words_in n tail ≡ (text_in w.0 >>= λ text. (words_in (length w.1) w.1 >>= λ texts. Some (text ∷ texts)))
    by_turns zero f = let s = word_shorter tail w e in absurd (omega (arith, s))
    by_turns (suc n) f =
        let s = word_shorter tail w e in
        let same : words_in n w.1 ≡ words_in (length w.1) w.1 = words_enough n (length w.1) w.1 (omega (arith, s)) (omega arith) in
        ap (with_word (words_in n) tail) e ∙ ap (λ (more : Option (List (List ℕ))). text_in w.0 >>= λ text. (more >>= λ texts. Some (text ∷ texts))) same

-- none
words_none : (tail : List ℕ) → word_at tail ≡ None → words_at tail ≡ (end_at tail >>= λ _. Some [])
unfolding words_at words_in
words_none tail e = by_turns (length tail)
  where
    by_turns : (n : ℕ) → words_in n tail ≡ (end_at tail >>= λ _. Some [])
    by_turns zero = refl
    by_turns (suc n) = ap (with_word (words_in n) tail) e

pub words_bad : (tail : List ℕ) (w : List ℕ × List ℕ) → word_at tail ≡ Some w → text_in w.0 ≡ None → words_at tail ≡ None
words_bad tail w e h = words_more tail w e ∙ rw h refl

pub words_next : (tail : List ℕ) (w : List ℕ × List ℕ) (text : List ℕ) → word_at tail ≡ Some w → text_in w.0 ≡ Some text → words_at tail ≡ (words_at w.1 >>= λ texts. Some (text ∷ texts))
words_next tail w text e h = words_more tail w e ∙ rw h refl

pub words_unended : (tail : List ℕ) → word_at tail ≡ None → end_at tail ≡ None → words_at tail ≡ None
words_unended tail e h = words_none tail e ∙ rw h refl

pub words_ended : (tail : List ℕ) → word_at tail ≡ None → end_at tail ≡ Some tt → words_at tail ≡ Some []
words_ended tail e h = words_none tail e ∙ rw h refl

words_tail : (words : List (List ℕ)) (tail : List ℕ) → AreWords words tail → IsTail tail
words_tail [] tail s = blank_tail tail s
words_tail (word ∷ words) tail s = spaces_tail s.0 tail (word ++ s.1) s.2

word_here : (words : List (List ℕ)) (word tail : List ℕ) → (s : AreWords (word ∷ words) tail) → word_at tail ≡ Some (word, s.1)
word_here words word tail s = ap word_at s.2 ∙ word_again s.0 word s.1 s.3 (words_tail words s.1 s.5)

words_again : (turns : ℕ) (words : List (List ℕ)) (tail : List ℕ) → length tail ≤ turns → AreWords words tail → words_in turns tail ≡ Some words
unfolding words_in
words_again zero [] tail few s = rw (end_again tail s) refl
words_again (suc turns) [] tail few s = rw (no_word tail s) (rw (end_again tail s) refl)
words_again zero (word ∷ words) tail few s = let k = word_shorter tail (word, s.1) (word_here words word tail s) in absurd (omega (arith, k))
words_again (suc turns) (word ∷ words) tail few s =
    let k = word_shorter tail (word, s.1) (word_here words word tail s) in
    rw (word_here words word tail s) (rw (text_again word word (refl, s.4)) (rw (words_again turns words s.1 (omega (arith, k)) s.5) refl))

pub all_words_take : (tail : List ℕ) (words : List (List ℕ)) → words_at tail ≡ Some words → AreWords words tail
unfolding words_at
all_words_take tail words h = words_take (length tail) tail words h

pub all_words_again : (tail : List ℕ) (words : List (List ℕ)) → AreWords words tail → words_at tail ≡ Some words
unfolding words_at
all_words_again tail words s = words_again (length tail) words tail (omega arith) s

-- ## The form of a codec

-- a form's words are its first one and others
first_form : (tail : List ℕ) (w : List ℕ × List ℕ) (word : List ℕ) (words : List (List ℕ)) → word_at tail ≡ Some w → w.0 ≡ word → IsUtf8 word → AreWords words w.1 → AreWords (word ∷ words) tail
first_form tail w word words e same utf8 s =
    let p = word_take tail w e in
    subst (λ (v : List ℕ). AreWords (v ∷ words) tail) same (p.spaces, w.1, p.split, p.is, subst IsUtf8 (sym same) utf8, s)

keep_parts : (tail : List ℕ) (form : CodecForm) (make : List (List ℕ) → CodecForm) → (words_at tail >>= λ keys. Some (make keys)) ≡ Some form → (keys : List (List ℕ)) × (make keys ≡ form) × AreWords keys tail
keep_parts tail form make h =
    let k = bind_some (words_at tail) (λ keys. Some (make keys)) form h in
    let e : make k.0 ≡ form = cc in
    (k.0, e, all_words_take tail k.0 k.1)

wrap_parts : (tail : List ℕ) (form : CodecForm) → (token_at AText tail >>= λ key. (end_at key.1 >>= λ _. Some (Wrap key.0))) ≡ Some form → (key : List ℕ) × (Wrap key ≡ form) × AreWords (key ∷ []) tail
wrap_parts tail form h =
    let k = bind_some (token_at AText tail) _ form h in
    let x = bind_some (end_at k.0.1) _ form k.2 in
    let e : Wrap k.0.0 ≡ form = cc in
    let w = bind_some (word_at tail) _ k.0 k.1 in
    let t = bind_some (text_in w.0.0) _ k.0 w.2 in
    let s = text_take w.0.0 t.0 t.1 in
    let made : (t.0, w.0.1) ≡ k.0 = cc in
    let key : w.0.0 ≡ k.0.0 = sym s.0 ∙ ap (λ (v : List ℕ × List ℕ). v.0) made in
    let rest : w.0.1 ≡ k.0.1 = ap (λ (v : List ℕ × List ℕ). v.1) made in
    (k.0.0, e, first_form tail w.0 k.0.0 [] w.1 key (subst IsUtf8 key s.1) (subst (λ (v : List ℕ). AreWords [] v) (sym rest) (end_take k.0.1 x.0 x.1)))

form_by_take : (word rest : List ℕ) (form : CodecForm) → codec_form_by word rest ≡ Some form → (first : List ℕ) × (others : List (List ℕ)) × (word ≡ first) × IsUtf8 first × (form_words form ≡ first ∷ others) × AreWords others rest
form_by_take word rest form h =
    elim (chosen (bytes_eq word (codes "copy")) _ _ (Some form) h) [
      | inl w ↦
          (let x = bind_some (end_at rest) _ form w.1 in
          let e : Copy ≡ form = cc in
          (codes "copy", [], (bytes_eq-Decides word (codes "copy")).0 w.0, ascii_utf8 (codes "copy") refl, ap form_words (sym e), end_take rest x.0 x.1))
      | inr v ↦ (elim (chosen (bytes_eq word (codes "keep")) _ _ (Some form) v.1) [
        | inl w ↦ (let k = keep_parts rest form KeepKeys w.1 in (codes "keep", k.0, (bytes_eq-Decides word (codes "keep")).0 w.0, ascii_utf8 (codes "keep") refl, ap form_words (sym k.1), k.2))
        | inr v ↦ (elim (chosen (bytes_eq word (codes "drop")) _ _ (Some form) v.1) [
          | inl w ↦ (let k = keep_parts rest form DropKeys w.1 in (codes "drop", k.0, (bytes_eq-Decides word (codes "drop")).0 w.0, ascii_utf8 (codes "drop") refl, ap form_words (sym k.1), k.2))
          | inr v ↦
              (let g = guard_some (bytes_eq word (codes "wrap")) _ form v.1 in
              let k = wrap_parts rest form g.1 in
              (codes "wrap", k.0 ∷ [], (bytes_eq-Decides word (codes "wrap")).0 g.0, ascii_utf8 (codes "wrap") refl, ap form_words (sym k.1), k.2))
        ])
      ])
    ]

codec_form_take : (tail : List ℕ) (form : CodecForm) → codec_form_at tail ≡ Some form → AreWords (form_words form) tail
unfolding codec_form_at
codec_form_take tail form h =
    let w = bind_some (word_at tail) _ form h in
    let k = form_by_take w.0.0 w.0.1 form w.2 in
    subst (λ (v : List (List ℕ)). AreWords v tail) (sym k.4) (first_form tail w.0 k.0 k.1 w.1 k.2 k.3 k.5)

key_again : (key tail : List ℕ) → AreWords (key ∷ []) tail → (token_at AText tail >>= λ key. (end_at key.1 >>= λ _. Some (Wrap key.0))) ≡ Some (Wrap key)
key_again key tail s = rw (word_here [] key tail s) (rw (text_again key key (refl, s.4)) (rw (end_again s.1 s.5) refl))

codec_form_again : (form : CodecForm) (tail : List ℕ) → AreWords (form_words form) tail → codec_form_at tail ≡ Some form
unfolding codec_form_at
codec_form_again Copy tail s = rw (word_here [] (codes "copy") tail s) (rw (end_again s.1 s.5) refl)
codec_form_again (KeepKeys keys) tail s = rw (word_here keys (codes "keep") tail s) (rw (all_words_again s.1 keys s.5) refl)
codec_form_again (DropKeys keys) tail s = rw (word_here keys (codes "drop") tail s) (rw (all_words_again s.1 keys s.5) refl)
codec_form_again (Wrap key) tail s = rw (word_here (key ∷ []) (codes "wrap") tail s) (key_again key s.1 s.5)

-- ## Any ending

first_space : (bs : List ℕ) → Begins bs → begins_with 32 bs ≡ false
first_space [] h = refl
first_space (b ∷ bs) h = h

first_no_space : (bs : List ℕ) → begins_with 32 bs ≡ false → Begins bs
first_no_space [] h = tt
first_no_space (b ∷ bs) h = h

rest_take : (tail text : List ℕ) → rest_at tail ≡ Some text → Ends TheRest text tail
unfolding rest_at
rest_take [] text h = let e : [] ≡ text = cc in inl (sym e, refl)
rest_take (b ∷ bs) text h =
    let g = bind_some (behind_spaces (b ∷ bs)) text_in text h in
    let s = text_take g.0 text g.2 in
    let p = spaces_take (b ∷ bs) g.0 g.1 in
    let first : begins_with 32 g.0 ≡ false = first_space g.0 (subst Begins (behind_is (b ∷ bs) g.0 g.1) (spaces_end (b ∷ bs))) in
    let test : not (begins_with 32 g.0) ≡ true = rw first refl in
    subst (λ (v : List ℕ). Ends TheRest v (b ∷ bs)) (sym s.0) (inr (p.0, p.1, test, s.1))

rest_some : (n : ℕ) (text tail : List ℕ) → tail ≡ replicate (suc n) 32 ++ text → behind_spaces tail ≡ Some text → IsUtf8 text → rest_at tail ≡ Some text
unfolding rest_at
rest_some n text [] e b u = absurd (cc)
rest_some n text (c ∷ cs) e b u = rw b (text_again text text (refl, u))

rest_again : (text tail : List ℕ) → Ends TheRest text tail → rest_at tail ≡ Some text
unfolding rest_at
rest_again text tail (inl s) = rw (s.1, s.0) refl
rest_again text tail (inr s) =
    let n : s.0 + 1 ≡ suc s.0 = omega arith in
    let b : behind_spaces tail ≡ Some text = ap behind_spaces s.1 ∙ spaces_again s.0 text (first_no_space text (is_false (begins_with 32 text) s.2)) in
    rest_some s.0 text tail (s.1 ∙ ap (λ k. replicate k 32 ++ text) n) b s.3

body_at_take : (tail : List ℕ) (body : Tree) → body_at tail ≡ Some body → Ends ABody body tail
unfolding body_at
body_at_take [] body h = cc
body_at_take (b ∷ bs) body h = let g = guard_some (b == 32) (body_in bs) body h in (bs, ap (λ c. c ∷ bs) (is_same b 32 g.0), body_take bs body g.1)

body_at_again : (tail : List ℕ) (body : Tree) → Ends ABody body tail → body_at tail ≡ Some body
unfolding body_at
body_at_again tail body s = rw s.1 (body_again s.0 body s.2)

pub ends_take : (ending : Ending) (tail : List ℕ) (value : EndValue ending) → ending_at ending tail ≡ Some value → Ends ending value tail
ends_take Nothing tail value h = end_take tail value h
ends_take TheRest tail value h = rest_take tail value h
ends_take ABody tail value h = body_at_take tail value h
ends_take ACodecForm tail value h = codec_form_take tail value h
ends_take ALane tail value h = lane_take tail value h
ends_take AnEnd tail value h = task_end_take tail value h
ends_take AResult tail value h = result_take tail value h

pub ends_again : (ending : Ending) (value : EndValue ending) (tail : List ℕ) → Ends ending value tail → ending_at ending tail ≡ Some value
ends_again Nothing value tail s = end_again tail s
ends_again TheRest value tail s = rest_again value tail s
ends_again ABody value tail s = body_at_again tail value s
ends_again ACodecForm value tail s = codec_form_again value tail s
ends_again ALane value tail s = lane_again value tail s
ends_again AnEnd value tail s = task_end_again value tail s
ends_again AResult value tail s = result_again value tail s

-- an ending is empty or begins with a space
pub ends_tail : (ending : Ending) (value : EndValue ending) (tail : List ℕ) → Ends ending value tail → IsTail tail
ends_tail Nothing value tail s = blank_tail tail s
ends_tail TheRest value tail (inl s) = subst IsTail (sym s.1) tt
ends_tail TheRest value tail (inr s) = spaces_tail s.0 tail value s.1
ends_tail ABody value tail s = subst IsTail (sym s.1) refl
ends_tail ACodecForm value tail s = words_tail (form_words value) tail s
ends_tail ALane value tail s = lane_tail value tail s
ends_tail AnEnd value tail s = task_end_tail value tail s
ends_tail AResult value tail s = result_tail value tail s
