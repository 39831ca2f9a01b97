-- All lines of a script, in the words of the grammar.
use Rattle.std.proofs.Common.{◌≡◌, ℕ, ◌+◌, List, [], ◌∷◌, ◌++◌, refl, sym, ap, Option, Some, None, Result, Ok, Err, inl, inr}
use Rattle.std.specs.Option.{option_to_list}
use Rattle.vx_line.specs.declared.command.Command.{Command}
use Rattle.vx_line.specs.declared.scope.Scope.TheVariants.{Made}
use Rattle.vx_line.specs.Lines.{said_at}
use Rattle.vx_line.specs.Reasons.{reason}
use Rattle.vx_script.specs.Lines.{Bad, passes_after, with_front, with_line, commands_from, Make, IsBad, IsFirstBad}
use Rattle.vx_line.proofs.Forms.{line_take, line_again}

front_ok : (front : List Command) (r : Result (List Command) Bad) (commands : List Command) → with_front front r ≡ Ok commands → (rest : List Command) × (r ≡ Ok rest) × (commands ≡ front ++ rest)
front_ok front (Ok rest) commands h = (rest, refl, cc)
front_ok front (Err e) commands h = cc

front_err : (front : List Command) (r : Result (List Command) Bad) (b : Bad) → with_front front r ≡ Err b → r ≡ Err b
front_err front (Ok rest) b h = cc
front_err front (Err e) b h = h

makes_line : (passes : ℕ) (line : List ℕ) (r : Option (Option Command)) (bad : Bad) (m : Option Command → Result (List Command) Bad) (lines : List (List ℕ)) (commands : List Command) →
    said_at Made passes line ≡ r → with_line r bad m ≡ Ok commands → ((said : Option Command) (cs : List Command) → m said ≡ Ok cs → Make (passes_after passes said) lines cs) → Make passes (line ∷ lines) commands
makes_line passes line None bad m lines commands e h ih = cc
makes_line passes line (Some said) bad m lines commands e h ih =
    let f = front_ok (option_to_list said) (m said) commands h in
    (said, f.0, line_take Made passes line said e, f.2, ih said f.0 f.1)

pub commands_take : (passes n : ℕ) (lines : List (List ℕ)) (commands : List Command) → commands_from passes n lines ≡ Ok commands → Make passes lines commands
unfolding commands_from
commands_take passes n [] commands h = cc
commands_take passes n (line ∷ lines) commands h =
    makes_line passes line (said_at Made passes line) (n, reason Made passes line) (λ said. commands_from (passes_after passes said) (n + 1) lines) lines commands refl h
    (λ said cs k. commands_take (passes_after passes said) (n + 1) lines cs k)

pub commands_again : (passes n : ℕ) (lines : List (List ℕ)) (commands : List Command) → Make passes lines commands → commands_from passes n lines ≡ Ok commands
unfolding commands_from
commands_again passes n [] commands h = ap Ok (sym h)
commands_again passes n (line ∷ lines) commands w =
    rw (line_again Made passes line w.0 w.2) (rw (commands_again (passes_after passes w.0) (n + 1) lines w.1 w.4) (ap Ok (sym w.3)))

no_form : (passes : ℕ) (line : List ℕ) → said_at Made passes line ≡ None → IsBad passes line
no_form passes line e = λ said is. let k = line_again Made passes line said is in cc

bad_line : (passes n : ℕ) (line : List ℕ) (r : Option (Option Command)) (m : Option Command → Result (List Command) Bad) (lines : List (List ℕ)) (b : Bad) →
    said_at Made passes line ≡ r → with_line r (n, reason Made passes line) m ≡ Err b → ((said : Option Command) (d : Bad) → m said ≡ Err d → IsFirstBad (passes_after passes said) (n + 1) lines d) → IsFirstBad passes n (line ∷ lines) b
bad_line passes n line None m lines b e h ih = let k : (n, reason Made passes line) ≡ b = cc in inl (no_form passes line e, sym k)
bad_line passes n line (Some said) m lines b e h ih = inr (said, line_take Made passes line said e, ih said b (front_err (option_to_list said) (m said) b h))

pub bad_take : (passes n : ℕ) (lines : List (List ℕ)) (b : Bad) → commands_from passes n lines ≡ Err b → IsFirstBad passes n lines b
unfolding commands_from
bad_take passes n [] b h = cc
bad_take passes n (line ∷ lines) b h =
    bad_line passes n line (said_at Made passes line) (λ said. commands_from (passes_after passes said) (n + 1) lines) lines b refl h (λ said d k. bad_take (passes_after passes said) (n + 1) lines d k)

refused : (passes : ℕ) (line : List ℕ) (r : Option (Option Command)) → said_at Made passes line ≡ r → IsBad passes line → said_at Made passes line ≡ None
refused passes line None e h = e
refused passes line (Some said) e h = absurd (h said (line_take Made passes line said e))

pub bad_again : (passes n : ℕ) (lines : List (List ℕ)) (b : Bad) → IsFirstBad passes n lines b → commands_from passes n lines ≡ Err b
unfolding commands_from
bad_again passes n [] b h = absurd h
bad_again passes n (line ∷ lines) b (inl w) = rw (refused passes line (said_at Made passes line) refl w.0) (ap Err (sym w.1))
bad_again passes n (line ∷ lines) b (inr w) = rw (line_again Made passes line w.0 w.1) (rw (bad_again (passes_after passes w.0) (n + 1) lines b w.2) refl)
