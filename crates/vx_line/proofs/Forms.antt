-- Each form of a line, and whole lines: what is read is spelled so, and what is spelled so is read.
use Rattle.std.proofs.Common.{◌≡◌, ℕ, ◌+◌, ◌<◌, zero, suc, List, [], ◌∷◌, ◌++◌, length, replicate, Bool, true, false, cond, ◌==◌, arith, refl, sym, ◌∙◌, ap, Option, Some, None, inl, inr, append_assoc, subst}
use Rattle.std.specs.List.{AllByRecursion}
use Rattle.std.specs.Str.{is_utf8, bytes_eq}
use Rattle.std.specs.Str.Parse.{digits_value}
use Rattle.std.proofs.lemmas.Bool.{and_parts}
use Rattle.std.proofs.lemmas.List.{take-append-drop}
use Rattle.std.proofs.lemmas.Slice.Eq.{bytes_eq-Decides}
use Rattle.std.proofs.lemmas.Str.{IsUtf8-from_is_utf8, is_utf8-from_IsUtf8}
use Rattle.vx_data.specs.declared.ids.PassNo.{PassNo}
use Rattle.vx_line.specs.declared.command.Command.{Command}
use Rattle.vx_line.specs.declared.instruction.Instruction.{Instruction}
use Rattle.vx_line.specs.declared.scope.Scope.{Scope}
use Rattle.vx_words.specs.Grammar.{begins_with, is_word, is_digits, NamesPass, is_pass, is_number}
use Rattle.vx_line.specs.Grammar.{Form, forms}
use Rattle.vx_words.specs.Reading.{word_len, spaces_len, first_word, behind_word, without_spaces, values_at, names_pass, pass_of, behind_pass, pass_at}
use Rattle.vx_line.specs.Reading.{options_at, form_at, form_by}
use Rattle.vx_line.specs.Tables.{is_on}
use Rattle.vx_line.specs.Lines.{IsOfForm, IsOfOne, is_silent, IsLine, instruction_at, command_at, said_at}
use Rattle.vx_words.proofs.Words.{IsTail, Begins, bind_some, guard_some, chosen, is_same, begins_word, behind_tail, word_parts, spaces_tail, spaces_front, without_spaces_again, first_again, behind_again}
use Rattle.vx_words.proofs.Digits.{digits_parts}
use Rattle.vx_words.proofs.Tokens.{digits_no_space}
use Rattle.vx_line.proofs.Runs.{options_take, choose_tail, options_again}
use Rattle.vx_words.proofs.Values.{values_take, follows_tail, values_again}

-- ## What stands behind the pass

-- The form is found by its word, which begins no comment and names no pass.
record IsFound (form : Form) : Type 0 where
  found : (tail : List ℕ) → form_by forms form.word tail ≡ form_at form tail
  word : is_word form.word ≡ true
  speaks : (tail : List ℕ) → is_silent (form.word ++ tail) ≡ false
  no_pass : (tail : List ℕ) → begins_with 64 (form.word ++ tail) ≡ false

all_found : AllByRecursion IsFound forms
all_found = (record { found = λ _. refl; word = refl; speaks = λ _. refl; no_pass = λ _. refl }, (record { found = λ _. refl; word = refl; speaks = λ _. refl; no_pass = λ _. refl }, (record { found = λ _. refl; word = refl; speaks = λ _. refl; no_pass = λ _. refl }, (record { found = λ _. refl; word = refl; speaks = λ _. refl; no_pass = λ _. refl }, (record { found = λ _. refl; word = refl; speaks = λ _. refl; no_pass = λ _. refl }, (record { found = λ _. refl; word = refl; speaks = λ _. refl; no_pass = λ _. refl }, (record { found = λ _. refl; word = refl; speaks = λ _. refl; no_pass = λ _. refl }, (record { found = λ _. refl; word = refl; speaks = λ _. refl; no_pass = λ _. refl }, (record { found = λ _. refl; word = refl; speaks = λ _. refl; no_pass = λ _. refl }, (record { found = λ _. refl; word = refl; speaks = λ _. refl; no_pass = λ _. refl }, (record { found = λ _. refl; word = refl; speaks = λ _. refl; no_pass = λ _. refl }, (record { found = λ _. refl; word = refl; speaks = λ _. refl; no_pass = λ _. refl }, (record { found = λ _. refl; word = refl; speaks = λ _. refl; no_pass = λ _. refl }, (record { found = λ _. refl; word = refl; speaks = λ _. refl; no_pass = λ _. refl }, (record { found = λ _. refl; word = refl; speaks = λ _. refl; no_pass = λ _. refl }, (record { found = λ _. refl; word = refl; speaks = λ _. refl; no_pass = λ _. refl }, (record { found = λ _. refl; word = refl; speaks = λ _. refl; no_pass = λ _. refl }, (record { found = λ _. refl; word = refl; speaks = λ _. refl; no_pass = λ _. refl }, (record { found = λ _. refl; word = refl; speaks = λ _. refl; no_pass = λ _. refl }, (record { found = λ _. refl; word = refl; speaks = λ _. refl; no_pass = λ _. refl }, (record { found = λ _. refl; word = refl; speaks = λ _. refl; no_pass = λ _. refl }, (record { found = λ _. refl; word = refl; speaks = λ _. refl; no_pass = λ _. refl }, (record { found = λ _. refl; word = refl; speaks = λ _. refl; no_pass = λ _. refl }, (record { found = λ _. refl; word = refl; speaks = λ _. refl; no_pass = λ _. refl }, (record { found = λ _. refl; word = refl; speaks = λ _. refl; no_pass = λ _. refl }, (record { found = λ _. refl; word = refl; speaks = λ _. refl; no_pass = λ _. refl }, (record { found = λ _. refl; word = refl; speaks = λ _. refl; no_pass = λ _. refl }, (record { found = λ _. refl; word = refl; speaks = λ _. refl; no_pass = λ _. refl }, tt))))))))))))))))))))))))))))

-- What stands before a form's tail: spaces, a pass, and the form's word, which is on.
record Framed (scope : Scope) (passes : ℕ) (pass : PassNo) (word tail line : List ℕ) : Type 0 where
  spaces : ℕ
  naming : List ℕ
  begins : line ≡ replicate spaces 32 ++ (naming ++ (word ++ tail))
  names : NamesPass passes pass naming
  on : is_on scope word tail ≡ true

-- ## Read, and so spelled

form_by_take : (fs : List Form) (scope : Scope) (passes : ℕ) (pass : PassNo) (word tail line : List ℕ) (done : Instruction) → IsTail tail → Framed scope passes pass word tail line → form_by fs word tail ≡ Some done →
    IsOfOne fs scope passes (record { pass = pass; instruction = done }) line
form_by_take [] scope passes pass word tail line done q framed h = cc
form_by_take (f ∷ fs) scope passes pass word tail line done q framed h =
    elim (chosen (bytes_eq word f.word) (form_at f tail) (form_by fs word tail) (Some done) h) [
      | inl w ↦
          (let x = bind_some (options_at f.options tail) _ done w.1 in
          let y = bind_some (values_at f.tokens f.ending x.0.1) (λ values. Some (f.make x.0.0 values)) done x.2 in
          let s : word ≡ f.word = (bytes_eq-Decides word f.word).0 w.0 in
          let m : f.make x.0.0 y.0 ≡ done = cc in
          inl (record {
            spaces = framed.spaces;
            naming = framed.naming;
            tail = tail;
            rest = x.0.1;
            chosen = x.0.0;
            values = y.0;
            begins = framed.begins ∙ ap (λ t. replicate framed.spaces 32 ++ (framed.naming ++ (t ++ tail))) s;
            names = framed.names;
            on = subst (λ (w : List ℕ). is_on scope w tail ≡ true) s framed.on;
            choose = options_take f.options tail x.0 q x.1;
            follow = values_take f.tokens f.ending x.0.1 y.0 y.1;
            makes = sym m;
          }))
      | inr w ↦ inr (form_by_take fs scope passes pass word tail line done q framed w.1)
    ]

instruction_some : (scope : Scope) (rest : List ℕ) (done : Instruction) → instruction_at scope (first_word rest) (behind_word rest) ≡ Some done → 0 < length rest
unfolding instruction_at
instruction_some scope [] done h =
    let g = guard_some (is_on scope (first_word []) (behind_word [])) (form_by forms (first_word []) (behind_word [])) done h in
    let none : None ≡ Some done = g.1 in
    absurd (cc (none))
instruction_some scope (b ∷ bs) done h = omega arith

-- spaces at the front, of which there are some before anything else
some_spaces : (tail : List ℕ) → IsTail tail → 0 < length (without_spaces tail) → (n : ℕ) × (tail ≡ replicate (n + 1) 32 ++ without_spaces tail)
some_spaces [] q p = absurd (omega arith)
some_spaces (b ∷ bs) q p =
    let one : b == 32 ≡ true = rw q refl in
    let s : 1 + spaces_len bs ≡ suc (spaces_len bs) = omega arith in
    let t : spaces_len bs + 1 ≡ suc (spaces_len bs) = omega arith in
    (spaces_len bs, rw t (rw (one, s) (rw q (ap (λ u. 32 ∷ u) (spaces_front bs)))))

pass_take : (passes : ℕ) (bytes : List ℕ) → names_pass passes bytes ≡ true → 0 < length (behind_pass bytes) → (naming : List ℕ) × (bytes ≡ naming ++ behind_pass bytes) × NamesPass passes (pass_of bytes) naming
pass_take passes [] h p = ([], refl, inl (refl, refl))
pass_take passes (b ∷ bs) h p = by_sign (b == 64) refl h p
  where
    by_sign : (t : Bool) → b == 64 ≡ t → cond t (is_pass passes (first_word bs)) true ≡ true → 0 < length (cond t (without_spaces (behind_word bs)) (b ∷ bs)) →
        (naming : List ℕ) × (b ∷ bs ≡ naming ++ cond t (without_spaces (behind_word bs)) (b ∷ bs)) × NamesPass passes (record { 0 = cond t (digits_value 10 (first_word bs)) 0 }) naming
    by_sign false e h p = ([], refl, inl (refl, refl))
    by_sign true e h p =
        let word = first_word bs in
        let rest = without_spaces (behind_word bs) in
        let s = some_spaces (behind_word bs) (behind_tail bs) p in
        let whole : bs ≡ (word ++ replicate (s.0 + 1) 32) ++ rest = sym (take-append-drop (word_len bs) bs) ∙ ap (λ t. word ++ t) s.1 ∙ sym (append_assoc word (replicate (s.0 + 1) 32) rest) in
        let all : b ∷ bs ≡ 64 ∷ ((word ++ replicate (s.0 + 1) 32) ++ rest) = ap (λ t. t ∷ bs) (is_same b 64 e) ∙ ap (λ t. 64 ∷ t) whole in
        (64 ∷ word ++ replicate (s.0 + 1) 32, all, inr (word, s.0, refl, h, refl))

-- the frame of what stands behind the pass
framed_at : (scope : Scope) (passes n : ℕ) (pass : PassNo) (line bytes naming behind rest : List ℕ) → line ≡ replicate n 32 ++ bytes → bytes ≡ naming ++ behind → behind ≡ rest → NamesPass passes pass naming →
    is_on scope (first_word rest) (behind_word rest) ≡ true → Framed scope passes pass (first_word rest) (behind_word rest) line
framed_at scope passes n pass line bytes naming behind rest e f g names on = record {
  spaces = n;
  naming = naming;
  begins = e ∙ ap (λ t. replicate n 32 ++ t) (f ∙ ap (λ t. naming ++ t) (g ∙ sym (take-append-drop (word_len rest) rest)));
  names = names;
  on = on;
}

behind_take : (scope : Scope) (passes : ℕ) (line bytes : List ℕ) (n : ℕ) (pass : PassNo) (rest : List ℕ) (done : Instruction) → line ≡ replicate n 32 ++ bytes → names_pass passes bytes ≡ true → pass_of bytes ≡ pass → behind_pass bytes ≡ rest →
    instruction_at scope (first_word rest) (behind_word rest) ≡ Some done → IsOfOne forms scope passes (record { pass = pass; instruction = done }) line
unfolding instruction_at
behind_take scope passes line bytes n pass rest done e g p b h =
    let some : 0 < length (behind_pass bytes) = subst (λ (v : List ℕ). 0 < length v) (sym b) (instruction_some scope rest done h) in
    let t = pass_take passes bytes g some in
    let on = guard_some (is_on scope (first_word rest) (behind_word rest)) (form_by forms (first_word rest) (behind_word rest)) done h in
    let framed = framed_at scope passes n pass line bytes t.0 (behind_pass bytes) rest e t.1 b (subst (λ (v : PassNo). NamesPass passes v t.0) p t.2) on.0 in
    form_by_take forms scope passes pass (first_word rest) (behind_word rest) line done (behind_tail rest) framed on.1

command_take : (scope : Scope) (passes : ℕ) (line bytes : List ℕ) (n : ℕ) (command : Command) → line ≡ replicate n 32 ++ bytes → command_at scope passes bytes ≡ Some command → IsOfOne forms scope passes command line
unfolding command_at
command_take scope passes line bytes n command e h =
    let p = bind_some (pass_at passes bytes) _ command h in
    let g = guard_some (names_pass passes bytes) (Some (pass_of bytes, behind_pass bytes)) p.0 p.1 in
    let same : (pass_of bytes, behind_pass bytes) ≡ p.0 = cc in
    let c = bind_some (instruction_at scope (first_word p.0.1) (behind_word p.0.1)) _ command p.2 in
    let made : record { pass = p.0.0; instruction = c.0 } ≡ command = cc in
    subst (λ (v : Command). IsOfOne forms scope passes v line) made
    (behind_take scope passes line bytes n p.0.0 p.0.1 c.0 e g.0 (ap (λ (v : PassNo × List ℕ). v.0) same) (ap (λ (v : PassNo × List ℕ). v.1) same) c.1)

-- ## Spelled, and so read

-- Only one form has this instruction, of all.
record Chosen (scope : Scope) (passes : ℕ) (command : Command) (line : List ℕ) : Type 0 where
  form : Form
  is_found : IsFound form
  has : IsOfForm scope form passes command line

chosen_form : (fs : List Form) (scope : Scope) (passes : ℕ) (command : Command) (line : List ℕ) → AllByRecursion IsFound fs → IsOfOne fs scope passes command line → Chosen scope passes command line
chosen_form [] scope passes command line all one = absurd one
chosen_form (f ∷ fs) scope passes command line all (inl has) = record { form = f; is_found = all.0; has = has }
chosen_form (f ∷ fs) scope passes command line all (inr one) = chosen_form fs scope passes command line all.1 one

unnamed : (passes : ℕ) (rest : List ℕ) → begins_with 64 rest ≡ false → pass_at passes rest ≡ Some (record { 0 = 0 }, rest)
unnamed passes [] h = refl
unnamed passes (b ∷ bs) h = rw h refl

named_again : (passes : ℕ) (digits rest : List ℕ) (n : ℕ) → is_pass passes digits ≡ true → Begins rest → pass_at passes (64 ∷ (digits ++ (replicate (n + 1) 32 ++ rest))) ≡ Some (record { 0 = digits_value 10 digits }, rest)
named_again passes digits rest n h b =
    let spaces = replicate (n + 1) 32 ++ rest in
    let letters = digits_no_space digits (digits_parts digits (and_parts (is_digits digits) _ (and_parts (is_number 64 digits) _ h).0).0).0 in
    let word : first_word (digits ++ spaces) ≡ digits = first_again digits spaces letters (spaces_tail n spaces rest refl) in
    let tail : behind_word (digits ++ spaces) ≡ spaces = behind_again digits spaces letters (spaces_tail n spaces rest refl) in
    rw (word, tail) (rw h (rw (without_spaces_again (n + 1) rest b) refl))

pass_again : (passes : ℕ) (pass : PassNo) (naming rest : List ℕ) → NamesPass passes pass naming → Begins rest → begins_with 64 rest ≡ false → pass_at passes (naming ++ rest) ≡ Some (pass, rest)
pass_again passes pass naming rest (inl s) b first = rw (s.0, s.1) (unnamed passes rest first)
pass_again passes pass naming rest (inr s) b first =
    let regrouped : naming ++ rest ≡ 64 ∷ (s.0 ++ (replicate (s.1 + 1) 32 ++ rest)) = ap (λ t. t ++ rest) s.2 ∙ ap (λ t. 64 ∷ t) (append_assoc s.0 (replicate (s.1 + 1) 32) rest) in
    ap (pass_at passes) regrouped ∙ rw s.4 (named_again passes s.0 rest s.1 s.3 b)

naming_begins : (passes : ℕ) (pass : PassNo) (naming rest : List ℕ) → NamesPass passes pass naming → Begins rest → Begins (naming ++ rest)
naming_begins passes pass naming rest (inl s) b = rw s.0 b
naming_begins passes pass naming rest (inr s) b = rw s.2 refl

naming_speaks : (passes : ℕ) (pass : PassNo) (naming rest : List ℕ) → NamesPass passes pass naming → is_silent rest ≡ false → is_silent (naming ++ rest) ≡ false
naming_speaks passes pass naming rest (inl s) b = rw s.0 b
naming_speaks passes pass naming rest (inr s) b = rw s.2 refl

speaks_behind : (n : ℕ) (bytes : List ℕ) → is_silent bytes ≡ false → is_silent (replicate n 32 ++ bytes) ≡ false
speaks_behind zero bytes h = h
speaks_behind (suc n) bytes h = refl

form_again : (scope : Scope) (form : Form) (passes : ℕ) (command : Command) (line : List ℕ) → (has : IsOfForm scope form passes command line) → form_at form has.tail ≡ Some command.instruction
form_again scope form passes command line has =
    let q = follows_tail form.tokens form.ending has.values has.rest has.follow in
    rw (options_again form.options has.chosen has.rest has.tail q has.choose) (rw (values_again form.tokens form.ending has.values has.rest has.follow) (ap Some (sym has.makes)))

command_again : (scope : Scope) (passes : ℕ) (line : List ℕ) (command : Command) → Chosen scope passes command line → (command_at scope passes (without_spaces line) ≡ Some command) × (is_silent line ≡ false)
unfolding command_at instruction_at
command_again scope passes line command c =
    let form = c.form in
    let has = c.has in
    let word = form.word in
    let rest = word ++ has.tail in
    let parts = word_parts word c.is_found.word in
    let letters = parts.1 in
    let q = choose_tail form.options has.chosen has.rest has.tail (follows_tail form.tokens form.ending has.values has.rest has.follow) has.choose in
    let begins = begins_word word has.tail letters parts.0 in
    let bytes : without_spaces line ≡ has.naming ++ rest = ap without_spaces has.begins ∙ without_spaces_again has.spaces (has.naming ++ rest) (naming_begins passes command.pass has.naming rest has.names begins) in
    let pass : pass_at passes (without_spaces line) ≡ Some (command.pass, rest) = ap (pass_at passes) bytes ∙ pass_again passes command.pass has.naming rest has.names begins (c.is_found.no_pass has.tail) in
    let done : form_by forms word has.tail ≡ Some command.instruction = c.is_found.found has.tail ∙ form_again scope form passes command line has in
    let silent : is_silent line ≡ false = ap is_silent has.begins ∙ speaks_behind has.spaces (has.naming ++ rest) (naming_speaks passes command.pass has.naming rest has.names (c.is_found.speaks has.tail)) in
    (rw pass (rw (first_again word has.tail letters q, behind_again word has.tail letters q) (rw (has.on) (rw done refl))), silent)

-- ## A line

pub line_take : (scope : Scope) (passes : ℕ) (line : List ℕ) (said : Option Command) → said_at scope passes line ≡ Some said → IsLine scope passes said line
unfolding said_at
line_take scope passes line None h =
    let g = guard_some (is_utf8 line) _ None h in
    elim (chosen (is_silent line) _ _ _ g.1) [
      | inl w ↦ (IsUtf8-from_is_utf8 line g.0, w.0)
      | inr w ↦ (let x = bind_some (command_at scope passes (without_spaces line)) _ None w.1 in absurd (cc))
    ]
line_take scope passes line (Some command) h =
    let g = guard_some (is_utf8 line) _ (Some command) h in
    elim (chosen (is_silent line) _ _ _ g.1) [
      | inl w ↦ absurd (cc)
      | inr w ↦ (let x = bind_some (command_at scope passes (without_spaces line)) _ (Some command) w.1 in
          let e : x.0 ≡ command = cc in
          (IsUtf8-from_is_utf8 line g.0, command_take scope passes line (without_spaces line) (spaces_len line) command (spaces_front line) (x.1 ∙ ap Some e)))
    ]

pub line_again : (scope : Scope) (passes : ℕ) (line : List ℕ) (said : Option Command) → IsLine scope passes said line → said_at scope passes line ≡ Some said
unfolding said_at
line_again scope passes line None s = rw (is_utf8-from_IsUtf8 line s.0) (rw s.1 refl)
line_again scope passes line (Some command) s =
    let c = command_again scope passes line command (chosen_form forms scope passes command line all_found s.1) in
    rw (is_utf8-from_IsUtf8 line s.0) (rw c.1 (rw c.0 refl))
