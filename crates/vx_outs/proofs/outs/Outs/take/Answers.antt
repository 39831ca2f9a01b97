use Rattle.std.proofs.Common.{◌∙◌, sym}
use Rattle.vx_outs.proofs.Conns.{there_kept, frames_kept, closed_kept}
use Rattle.vx_outs.proofs.outs.Outs.take.Goals as goal

pub returns-clause-first : goal.returns-clause-first
returns-clause-first c = rw (← c.self.view_is) (simp frames_kept c.take.ensures.first)

pub returns-clause-there : goal.returns-clause-there
returns-clause-there c = rw (← c.self.view_is) (λ other. there_kept other _ _ ∙ sym (there_kept other _ _))

pub returns-clause-frames : goal.returns-clause-frames
returns-clause-frames c = rw (← c.self.view_is) (simp frames_kept c.take.ensures.frames)

pub returns-clause-closed : goal.returns-clause-closed
returns-clause-closed c = rw (← c.self.view_is) (λ other. closed_kept other _ _ ∙ sym (closed_kept other _ _))
