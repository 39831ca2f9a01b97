use Rattle.std.specs.Prelude.{[]}
use Rattle.vx_call.specs.declared.call.Call.TheVariants as calls
use Rattle.vx_turn.specs.Passes.{caller}
use Rattle.vx_host.specs.Turns.{pass_no}
use Rattle.vx_host.specs.Calls.{machine_entry}
use Rattle.vx_host.proofs.host.Host.take.Given as goal

abbrev pub ghosts-in_turn : goal.ghosts-in_turn
ghosts-in_turn g a = record { adds = λ history. machine_entry history (pass_no (caller a.pass)) (calls.Take a.argument) [] }
