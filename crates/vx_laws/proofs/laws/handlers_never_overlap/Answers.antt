use Rattle.vx_laws.proofs.Overlap.{never_overlap}
use Rattle.vx_laws.proofs.laws.handlers_never_overlap.Goals as goal

pub returns : goal.returns
returns c = never_overlap
