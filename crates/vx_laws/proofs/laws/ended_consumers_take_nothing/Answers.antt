use Rattle.vx_laws.proofs.Leaving.{take_nothing}
use Rattle.vx_laws.proofs.laws.ended_consumers_take_nothing.Goals as goal

pub returns : goal.returns
returns c = take_nothing
