use Rattle.vx_script.proofs.MadeLines.{script_made}
use Rattle.vx_script.proofs.Theres.{script_there}
use Rattle.vx_script.proofs.running.run.Goals as goal

pub play-requires-clause-there : goal.play-requires-clause-there
play-requires-clause-there g c = script_there c.deref.result.now c.in-Ok-read_script.commands.items c.in-Ok-read_script.ensures.commands

pub play-requires-clause-built : goal.play-requires-clause-built
play-requires-clause-built g c = script_made c.deref.result.now c.in-Ok-read_script.commands.items c.in-Ok-read_script.ensures.commands
