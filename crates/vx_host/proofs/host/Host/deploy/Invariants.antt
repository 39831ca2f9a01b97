use Rattle.std.specs.Prelude.{length, map}
use Rattle.vx_call.specs.declared.call.Call.TheVariants as calls
use Rattle.vx_turn.specs.Passes.{caller}
use Rattle.vx_host.specs.Turns.{pass_no}
use Rattle.vx_host.specs.Calls.{machine_entry}
use Rattle.vx_host.proofs.host.Host.deploy.Given as goal

abbrev pub ghosts-attempt_in_turn : goal.ghosts-attempt_in_turn
ghosts-attempt_in_turn g a = record { adds = λ history. machine_entry history (pass_no (caller a.pass)) (calls.Deploy a.argument.0.worker a.argument.0.pool a.argument.0.tell (length a.argument.1.items)) (map g.V.Verticle.state a.argument.1.items) }
