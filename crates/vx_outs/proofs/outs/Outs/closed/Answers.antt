use Rattle.vx_outs.proofs.Conns.{closed_kept}
use Rattle.vx_outs.proofs.outs.Outs.closed.Goals as goal

pub returns : goal.returns
returns c = rw (← c.self.view_is) (simp closed_kept c.closing.ensures)
