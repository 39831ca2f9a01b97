-- Each call of a script is of a pass that is there.
use Rattle.std.proofs.Common.{◌≡◌, ℕ, ◌<◌, ◌≤◌, List, [], ◌∷◌, ◌++◌, true, nat_lt, sym, arith, Option, Some, None, Ok, subst, inl, inr}
use Rattle.std.specs.Option.{option_to_list}
use Rattle.std.specs.Str.Lines.{lines}
use Rattle.std.specs.Str.Parse.{digits_value}
use Rattle.std.proofs.lemmas.Bool.{and_parts}
use Rattle.std.proofs.lemmas.Bool.Decides.{nat_tests}
use Rattle.vx_data.specs.declared.ids.PassNo.{PassNo}
use Rattle.vx_call.specs.declared.call.Call.{Call}
use Rattle.vx_call.specs.declared.call.Call.TheVariants as calls
use Rattle.vx_line.specs.declared.command.Command.{Command}
use Rattle.vx_line.specs.declared.scope.Scope.TheVariants.{Made}
use Rattle.vx_line.specs.Grammar.{Form, forms}
use Rattle.vx_line.specs.Lines.{IsOfOne, IsLine}
use Rattle.vx_words.specs.Grammar.{is_number, NamesPass}
use Rattle.vx_line.specs.Made.{first_call}
use Rattle.vx_script.specs.Lines.{passes_with, passes_after, commands_of, Make, AreThere}
use Rattle.vx_script.proofs.Scripts.{commands_take}

under : (n m : ℕ) → nat_lt n m ≡ true → n < m
under n m h = grind (arith, nat_tests)

named_there : (passes : ℕ) (pass : PassNo) (naming : List ℕ) → 1 ≤ passes → NamesPass passes pass naming → pass.0 < passes
named_there passes pass naming some (inl s) = subst (λ (v : PassNo). v.0 < passes) (sym s.1) (omega arith)
named_there passes pass naming some (inr s) =
    let t = and_parts (is_number 64 s.0) (nat_lt (digits_value 10 s.0) passes) s.3 in
    subst (λ (v : PassNo). v.0 < passes) (sym s.4) (under (digits_value 10 s.0) passes t.1)

form_there : (fs : List Form) (passes : ℕ) (command : Command) (line : List ℕ) → 1 ≤ passes → IsOfOne fs Made passes command line → command.pass.0 < passes
form_there [] passes command line some one = absurd one
form_there (f ∷ fs) passes command line some (inl has) = named_there passes command.pass has.naming some has.names
form_there (f ∷ fs) passes command line some (inr one) = form_there fs passes command line some one

no_fewer : (passes : ℕ) (call : Call) → passes ≤ passes_with passes call
no_fewer passes calls.NewPass = omega arith
no_fewer passes _ = omega arith

lines_there : (passes : ℕ) (ls : List (List ℕ)) (commands : List Command) → 1 ≤ passes → Make passes ls commands → AreThere passes commands
lines_there passes [] commands some m = subst (AreThere passes) (sym m) tt
lines_there passes (line ∷ ls) commands some m = by_said m.0 m.1 m.2 m.3 (λ after more. lines_there after ls m.1 more) m.4
  where
    by_said : (said : Option Command) (rest : List Command) → IsLine Made passes said line → commands ≡ option_to_list said ++ rest → ((after : ℕ) → 1 ≤ after → Make after ls rest → AreThere after rest) → Make (passes_after passes said) ls rest →
        AreThere passes commands
    by_said None rest is e again make = subst (AreThere passes) (sym e) (again passes some make)
    by_said (Some command) rest is e again make =
        let k = no_fewer passes (first_call command.instruction) in
        subst (AreThere passes) (sym e) (form_there forms passes command line some is.1, again (passes_with passes (first_call command.instruction)) (omega (arith, k)) make)

pub script_there : (bytes : List ℕ) (commands : List Command) → commands_of bytes ≡ Ok commands → AreThere 1 commands
unfolding commands_of
script_there bytes commands h = lines_there 1 (lines bytes) commands (omega arith) (commands_take 1 1 (lines bytes) commands h)
