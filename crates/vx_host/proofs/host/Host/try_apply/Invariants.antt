use Rattle.std.specs.Prelude.{[]}
use Rattle.vx_turn.specs.Passes.{caller}
use Rattle.vx_host.specs.Turns.{pass_no}
use Rattle.vx_host.specs.Calls.{machine_entry}
use Rattle.vx_host.proofs.host.Host.try_apply.Given as goal

abbrev pub ghosts-attempt_at_once : goal.ghosts-attempt_at_once
ghosts-attempt_at_once g a = record { adds = λ history. machine_entry history (pass_no (caller a.pass)) a.argument [] }
