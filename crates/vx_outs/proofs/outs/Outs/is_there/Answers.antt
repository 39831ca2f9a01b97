use Rattle.vx_outs.proofs.Conns.{there_kept}
use Rattle.vx_outs.proofs.outs.Outs.is_there.Goals as goal

pub returns : goal.returns
returns c = rw (← c.self.view_is) (simp there_kept c.contains_key.ensures)
