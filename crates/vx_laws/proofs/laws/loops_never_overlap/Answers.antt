use Rattle.vx_laws.proofs.Overlap.{loops_apart}
use Rattle.vx_laws.proofs.laws.loops_never_overlap.Goals as goal

pub returns : goal.returns
returns c = loops_apart
