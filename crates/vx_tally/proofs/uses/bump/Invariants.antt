use Rattle.vx_tally.specs.Calls.{said}
use Rattle.vx_tally.proofs.uses.bump.Given as goal

abbrev pub ghost-close : goal.ghost-close
ghost-close g a = said a.pass a.amount a.label a.told
