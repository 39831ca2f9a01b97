-- Each instruction of a script is one that the hub makes so far.
use Rattle.std.proofs.Common.{◌≡◌, ℕ, List, [], ◌∷◌, ◌++◌, sym, Option, Some, None, Ok, subst}
use Rattle.std.specs.Option.{option_to_list}
use Rattle.std.specs.Str.Lines.{lines}
use Rattle.vx_line.specs.declared.command.Command.{Command}
use Rattle.vx_line.specs.declared.scope.Scope.TheVariants.{Made}
use Rattle.vx_line.specs.Lines.{IsLine}
use Rattle.vx_line.proofs.Built.{line_made}
use Rattle.vx_script.specs.Lines.{passes_after, commands_of, Make, AreMade}
use Rattle.vx_script.proofs.Scripts.{commands_take}

lines_made : (passes : ℕ) (ls : List (List ℕ)) (commands : List Command) → Make passes ls commands → AreMade commands
lines_made passes [] commands m = subst AreMade (sym m) tt
lines_made passes (line ∷ ls) commands m = by_said m.0 m.1 m.2 m.3 (lines_made (passes_after passes m.0) ls m.1 m.4)
  where
    by_said : (said : Option Command) (rest : List Command) → IsLine Made passes said line → commands ≡ option_to_list said ++ rest → AreMade rest → AreMade commands
    by_said None rest says e behind = subst AreMade (sym e) behind
    by_said (Some command) rest says e behind = subst AreMade (sym e) (line_made passes line command says, behind)

pub script_made : (bytes : List ℕ) (commands : List Command) → commands_of bytes ≡ Ok commands → AreMade commands
unfolding commands_of
script_made bytes commands h = lines_made 1 (lines bytes) commands (commands_take 1 1 (lines bytes) commands h)
