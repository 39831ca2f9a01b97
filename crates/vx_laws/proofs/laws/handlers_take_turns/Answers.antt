use Rattle.vx_laws.proofs.Turns.{take_turns}
use Rattle.vx_laws.proofs.laws.handlers_take_turns.Goals as goal

pub returns : goal.returns
returns c = take_turns
