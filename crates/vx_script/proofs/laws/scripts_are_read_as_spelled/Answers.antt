use Rattle.std.specs.Str.Lines.{lines}
use Rattle.vx_script.specs.Lines.{commands_of}
use Rattle.vx_script.proofs.Scripts.{commands_take, commands_again, bad_take, bad_again}
use Rattle.vx_script.proofs.laws.scripts_are_read_as_spelled.Goals as goal

pub returns-clause-commands : goal.returns-clause-commands
unfolding commands_of
returns-clause-commands c = λ bytes commands. (commands_take 1 1 (lines bytes) commands, commands_again 1 1 (lines bytes) commands)

pub returns-clause-bad : goal.returns-clause-bad
unfolding commands_of
returns-clause-bad c = λ bytes bad. (bad_take 1 1 (lines bytes) bad, bad_again 1 1 (lines bytes) bad)
