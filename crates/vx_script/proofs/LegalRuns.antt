-- The history of a script is legal.
use Rattle.std.proofs.Common.{◌≡◌, ◌==◌, ℕ, ◌+◌, ◌^◌, ◌<◌, ◌≤◌, List, [], ◌∷◌, ◌++◌, length, length-append, refl, sym, ◌∙◌, ap, arith, Bool, true, false, cond, Option, Some, None, Result, Ok, Err, subst}
use Rattle.std.specs.Prelude.{ℤ, is_some, unwrap_or}
use Rattle.std.specs.Option.{option_to_list}
use Rattle.std.specs.List.{slice_split}
use Rattle.std.specs.Str.Lines.{lines, lines_of_parts}
use Rattle.std.proofs.lemmas.List.{length-replicate}
use Rattle.std.proofs.lemmas.List.Sums.{count_by-le-length}
use Rattle.std.proofs.lemmas.List.Splits.{length-slice_split}
use Rattle.vx_data.specs.declared.ids.PassNo.{PassNo}
use Rattle.vx_call.specs.declared.history.Traced.{Traced}
use Rattle.vx_call.specs.declared.call.Call.{Call}
use Rattle.vx_call.specs.declared.call.Call.TheVariants as calls
use Rattle.vx_call.specs.declared.call.End.{End}
use Rattle.vx_call.specs.Passes.{passes}
use Rattle.vx_call.specs.Plain.{is_plain}
use Rattle.vx_call.specs.States.{states_due}
use Rattle.vx_call.specs.Machine.{IsLegal}
use Rattle.vx_call.proofs.Legal.{legal_none, legal_more}
use Rattle.vx_kinds.specs.Hosts.{first_state}
use Rattle.vx_line.specs.declared.command.Command.{Command}
use Rattle.vx_script.specs.declared.limit.TheConstants.{LIMIT}
use Rattle.vx_line.specs.declared.scope.Scope.TheVariants.{Made}
use Rattle.vx_line.specs.declared.instruction.Instruction.{Instruction}
use Rattle.vx_line.specs.declared.instruction.Instruction.TheVariants as does
use Rattle.vx_line.specs.Lines.{said_at}
use Rattle.vx_line.specs.Made.{first_call, is_made}
use Rattle.vx_line.proofs.Built.{made_plain}
use Rattle.vx_line.specs.Reasons.{reason}
use Rattle.vx_script.specs.Lines.{Bad, passes_after, with_front, with_line, commands_from, commands_of, AreThere, AreMade}
use Rattle.vx_script.specs.Playing.{history_from, history_of, state_held, states_with}
use Rattle.vx_script.proofs.Counts.{passes_more, passes_none}
use Rattle.vx_script.proofs.Histories.{behind_more, following}
use Rattle.vx_script.proofs.HeldOn.{at_first}
use Rattle.vx_script.proofs.Holding.{AllGiven, all_given}
use Rattle.vx_script.proofs.MadeLines.{script_made}
use Rattle.vx_script.proofs.Theres.{script_there}

plain_due : (h : List Traced) (pass : PassNo) (call : Call) → is_plain call ≡ true → 0 ≡ states_due h pass call
plain_due h pass (calls.Deploy worker pool tell count) plain = absurd cc
plain_due h pass (calls.Finish end) plain = absurd cc
plain_due h pass call plain = refl

listed : (o : Option (List ℤ)) → length (option_to_list o) ≡ cond (is_some o) 1 0
listed None = refl
listed (Some state) = refl

-- as many states come with an instruction as go with its call
states_fit : (h : List Traced) (pass : PassNo) (done : Instruction) → AllGiven h → is_made done ≡ true → length (states_with h pass done) ≡ states_due h pass (first_call done)
states_fit h pass (does.Call call) given made = plain_due h pass call (made_plain call made)
states_fit h pass (does.Deploy options spec instances) given made = length-replicate instances (unwrap_or (first_state spec) [])
states_fit h pass (does.Take lane) given made = refl
states_fit h pass (does.Finish end) given made = listed (state_held h pass) ∙ ap (λ b. cond b 1 0) (given pass)
states_fit h pass (does.Work lane) given made = absurd cc

-- the one that ends a task gives back the state that it finds
gives_back : (h : List Traced) (pass : PassNo) (done : Instruction) → is_made done ≡ true → (end : End) → first_call done ≡ calls.Finish end → states_with h pass done ≡ option_to_list (state_held h pass)
gives_back h pass (does.Call call) made end is = absurd (let e : true ≡ false = sym (made_plain call made) ∙ ap is_plain is in cc)
gives_back h pass (does.Deploy options spec instances) made end is = absurd cc
gives_back h pass (does.Take lane) made end is = absurd cc
gives_back h pass (does.Finish other) made end is = refl
gives_back h pass (does.Work lane) made end is = absurd cc

-- a history in which each pass holds a verticle where one was handed out to it
record Runs (h : List Traced) : Type 0 where
  legal : IsLegal h
  given : AllGiven h

runs_on : (h : List Traced) (c : Command) → Runs h → is_made c.instruction ≡ true → length h < 2 ^ 48 → c.pass.0 < passes h → Runs (h ++ following h c ∷ [])
runs_on h c runs made few known =
    let legal = legal_more h (following h c) runs.legal (record { known = known; answered = refl; room = few; stated = states_fit h c.pass c.instruction runs.given made; mark = refl }) in
    record { legal = legal; given = all_given h (following h c) legal (gives_back h c.pass c.instruction made) runs.given }

legal_after : (h : List Traced) (cs : List Command) → Runs h → length h + length cs ≤ 2 ^ 48 → AreThere (passes h) cs → AreMade cs → IsLegal (history_from h cs)
legal_after h [] runs few there are = runs.legal
legal_after h (c ∷ cs) runs few there are =
    let small : length h < 2 ^ 48 = omega arith in
    let longer = h ++ following h c ∷ [] in
    let more : AreThere (passes longer) cs = subst (λ (v : ℕ). AreThere v cs) (sym (passes_more h c.pass (first_call c.instruction) (states_with h c.pass c.instruction) small)) there.1 in
    let rest : IsLegal (history_from longer cs) = legal_after longer cs (runs_on h c runs are.0 small there.0) (omega (arith, length-append h (following h c ∷ []))) more are.1 in
    subst (λ (v : List Traced). IsLegal (history_from v cs)) (sym (behind_more h c small)) rest

one_at_most : (said : Option Command) → length (option_to_list said) ≤ 1
one_at_most None = omega arith
one_at_most (Some c) = omega arith

front_few : (said : Option Command) (r : Result (List Command) Bad) (commands : List Command) (n : ℕ) → with_front (option_to_list said) r ≡ Ok commands → ((cs : List Command) → r ≡ Ok cs → length cs ≤ n) → length commands ≤ n + 1
front_few said (Err e) commands n h ih = cc
front_few said (Ok cs) commands n h ih =
    let e : option_to_list said ++ cs ≡ commands = cc in
    omega (arith, ap length (sym e), length-append (option_to_list said) cs, one_at_most said, ih cs refl)

line_few : (r : Option (Option Command)) (bad : Bad) (m : Option Command → Result (List Command) Bad) (commands : List Command) (n : ℕ) → with_line r bad m ≡ Ok commands → ((said : Option Command) (cs : List Command) → m said ≡ Ok cs → length cs ≤ n) →
    length commands ≤ n + 1
line_few None bad m commands n h ih = cc
line_few (Some said) bad m commands n h ih = front_few said (m said) commands n h (ih said)

-- a line makes one call at most
commands_few : (passes k : ℕ) (ls : List (List ℕ)) (commands : List Command) → commands_from passes k ls ≡ Ok commands → length commands ≤ length ls
unfolding commands_from
commands_few passes k [] commands h = let e : [] ≡ commands = cc in omega (arith, ap length (sym e))
commands_few passes k (line ∷ lines) commands h =
    let n = line_few (said_at Made passes line) (k, reason Made passes line) (λ said. commands_from (passes_after passes said) (k + 1) lines) commands (length lines) h (λ said cs e. commands_few (passes_after passes said) (k + 1) lines cs e) in
    omega (arith, n)

parts_few : (ps : List (List ℕ)) → length (lines_of_parts ps) ≤ length ps
parts_few [] = omega arith
parts_few (x ∷ []) = last x (length x == 0)
  where
    last : (x : List ℕ) (t : Bool) → length (cond t [] (x ∷ [])) ≤ 1
    last x true = omega arith
    last x false = omega arith
parts_few (x ∷ y ∷ more) = omega (arith, parts_few (y ∷ more))

lines_few : (bytes : List ℕ) → length (lines bytes) ≤ length bytes + 1
lines_few bytes = omega (arith, parts_few (slice_split (λ b. b == 10) bytes), length-slice_split (λ b. b == 10) bytes, count_by-le-length (λ b. b == 10) bytes)

pub legal_run : (bytes : List ℕ) (commands : List Command) → length bytes ≤ LIMIT → commands_of bytes ≡ Ok commands → IsLegal (history_of commands)
unfolding commands_of
legal_run bytes commands few made =
    legal_after [] commands (record { legal = legal_none; given = at_first.given }) (omega (arith, commands_few 1 1 (lines bytes) commands made, lines_few bytes)) (subst (λ (v : ℕ). AreThere v commands) (sym passes_none) (script_there bytes commands made))
    (script_made bytes commands made)
