-- The first line of a script, and the calls of its lines.
use Rattle.std.proofs.Common.{◌≡◌, ℕ, ◌+◌, ◌-◌, ◌<◌, ◌≤◌, List, [], ◌∷◌, ◌++◌, length, take, drop, Bool, true, false, cond, ◌==◌, rules, arith, refl, sym, ◌∙◌, ap, tests, append_assoc, Result, Ok, Err, subst, length-drop}
use Rattle.std.specs.List.{slice_split, onto_first, position_or_len, All}
use Rattle.std.specs.Option.{option_to_list}
use Rattle.std.specs.Str.Lines.{lines, strip_carriage_return}
use Rattle.std.proofs.lemmas.List.{nil_from_length, append-nil, take_rest, drop-drop}
use Rattle.std.proofs.Math.Seq.{take-length}
use Rattle.std.proofs.lemmas.List.Sums.{fails_before_first, prefix_len-le-length}
use Rattle.std.proofs.lemmas.List.Splits.{slice_split_first, slice_split_none}
use Rattle.vx_line.specs.declared.command.Command.{Command}
use Rattle.vx_words.specs.declared.fault.LineFault.{LineFault}
use Rattle.vx_words.specs.declared.fault.LineFault.TheVariants as faults
use Rattle.vx_line.specs.declared.scope.Scope.TheVariants.{Made}
use Rattle.vx_line.specs.Lines.{said_at}
use Rattle.vx_words.specs.Reading.{Fails}
use Rattle.vx_script.specs.Lines.{Bad, passes_after, with_front, commands_from, commands_of, Adds, numbered, ScriptFails}

abbrev pub newline : ℕ → Bool
newline b = b == 10

not_zero : (n : ℕ) → 0 < n → n == 0 ≡ false
not_zero n h = search (rules, tests)

position_or_len_le : (bs : List ℕ) → position_or_len newline bs ≤ length bs
position_or_len_le bs = prefix_len-le-length _ bs

-- there is a first part
parts : (bs : List ℕ) → (x : List ℕ) × (more : List (List ℕ)) × (slice_split newline bs ≡ x ∷ more)
parts [] = ([], [], refl)
parts (b ∷ bs) = one b bs (newline b) (slice_split newline bs)
  where
    one : (b : ℕ) (bs : List ℕ) (t : Bool) (ps : List (List ℕ)) → (x : List ℕ) × (more : List (List ℕ)) × (cond t ([] ∷ ps) (onto_first b ps) ≡ x ∷ more)
    one b bs true ps = ([], ps, refl)
    one b bs false [] = (b ∷ [], [], refl)
    one b bs false (p ∷ ps) = (b ∷ p, ps, refl)

pub cut_found : (bs : List ℕ) (n : ℕ) → n ≡ position_or_len newline bs → n < length bs → lines bs ≡ strip_carriage_return (take n bs) ∷ lines (drop (n + 1) bs)
cut_found bs n e h =
    let k : position_or_len newline bs < length bs = subst (λ (v : ℕ). v < length bs) e h in
    let s = slice_split_first newline bs 0 k in
    let p = parts (drop (position_or_len newline bs + 1) bs) in
    rw (e, s, p.2) refl

pub cut_last : (bs : List ℕ) → position_or_len newline bs ≡ length bs → 0 < length bs → lines bs ≡ bs ∷ []
cut_last bs e h =
    let all : All (λ x. newline x ≡ false) bs = λ k d within. fails_before_first newline bs k d (subst (λ (v : ℕ). k < v) (sym e) within) in
    rw (slice_split_none newline bs all) (ap (λ t. cond t [] (bs ∷ [])) (not_zero (length bs) h))

-- what the code cuts, in its own words
pub cut_whole : (bs : List ℕ) (n : ℕ) (front back : List ℕ) → n ≡ position_or_len newline bs → 0 < length bs → front ≡ take n bs → back ≡ drop n bs → length back ≡ 0 → lines bs ≡ front ∷ lines back
cut_whole bs n front back e some f g none =
    let k : n ≡ length bs = omega (arith, length-drop n bs, ap length g, position_or_len_le bs) in
    let l : lines bs ≡ bs ∷ [] = cut_last bs (sym e ∙ k) some in
    let h : back ≡ [] = nil_from_length back none in
    let q : front ≡ bs = f ∙ ap (λ v. take v bs) k ∙ take-length bs in
    rw (h, q) l

pub cut_first : (bs : List ℕ) (n : ℕ) (front back line : List ℕ) → n ≡ position_or_len newline bs → front ≡ take n bs → back ≡ drop n bs → line ≡ strip_carriage_return front → 1 ≤ length back →
    lines bs ≡ line ∷ lines (take (length back - 1) (drop 1 back))
cut_first bs n front back line e f g s some =
    let k : n < length bs = omega (arith, length-drop n bs, ap length g) in
    let d : take (length back - 1) (drop 1 back) ≡ drop (n + 1) bs = take_rest back 1 ∙ ap (λ v. drop 1 v) g ∙ drop-drop 1 n bs in
    rw (d, s, f) (cut_found bs n e k)

-- the steps of reading a script
front_twice : (xs ys : List Command) (r : Result (List Command) Bad) → with_front xs (with_front ys r) ≡ with_front (xs ++ ys) r
front_twice xs ys (Ok zs) = ap Ok (sym (append_assoc xs ys zs))
front_twice xs ys (Err e) = refl

-- one line, the rest of which is told as before
pub step : (commands new : List Command) (passes after n : ℕ) (rest line back : List ℕ) (all : Result (List Command) Bad) →
    with_front commands (commands_from passes (n + 1) (lines rest)) ≡ all → lines rest ≡ line ∷ lines back → Adds (said_at Made passes line) commands new passes after →
    with_front new (commands_from after (n + 1 + 1) (lines back)) ≡ all
unfolding commands_from
step commands new passes after n rest line back all h cut a =
    let more = commands_from (passes_after passes a.what) (n + 1 + 1) (lines back) in
    let told : with_front commands (with_front (option_to_list a.what) more) ≡ all = rw a.is at (rw cut at h) in
    rw (a.added, a.passes) (sym (front_twice commands (option_to_list a.what) more) ∙ told)

-- the first line in no form
pub step_bad : (commands : List Command) (passes n : ℕ) (rest line back : List ℕ) (all : Result (List Command) Bad) (e : LineFault) →
    with_front commands (commands_from passes (n + 1) (lines rest)) ≡ all → lines rest ≡ line ∷ lines back → Fails e (said_at Made passes line) → ScriptFails (numbered (n + 1) passes line e) all
unfolding commands_from
step_bad commands passes n rest line back all faults.NoMemory h cut f = tt
step_bad commands passes n rest line back all faults.Misfit h cut f = sym (rw f at (rw cut at h))

pub ends : (commands : List Command) (passes n : ℕ) (rest : List ℕ) (all : Result (List Command) Bad) → with_front commands (commands_from passes (n + 1) (lines rest)) ≡ all → length rest ≡ 0 → all ≡ Ok commands
unfolding commands_from
ends commands passes n rest all h e = let k : rest ≡ [] = nil_from_length rest e in sym (rw k at h) ∙ ap Ok (append-nil commands)

pub begins : (bytes : List ℕ) (commands : List Command) → commands ≡ [] → with_front commands (commands_from 1 (0 + 1) (lines bytes)) ≡ commands_of bytes
unfolding commands_of
begins bytes commands e = rw e (same (commands_from 1 1 (lines bytes)))
  where
    same : (r : Result (List Command) Bad) → with_front [] r ≡ r
    same (Ok cs) = refl
    same (Err b) = refl
