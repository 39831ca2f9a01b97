use Rattle.vx_core_life.proofs.Moved.{moved_on}
use Rattle.vx_core_life.proofs.laws.what_comes_is_made_ready.Goals as goal

pub returns : goal.returns
returns c = moved_on
