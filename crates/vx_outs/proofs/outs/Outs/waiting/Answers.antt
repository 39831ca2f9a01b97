use Rattle.vx_outs.proofs.Conns.{frames_kept}
use Rattle.vx_outs.proofs.outs.Outs.waiting.Goals as goal

pub returns-clause-frames : goal.returns-clause-frames
returns-clause-frames c = rw (← c.self.view_is) (simp frames_kept c.waiting.ensures.frames)
