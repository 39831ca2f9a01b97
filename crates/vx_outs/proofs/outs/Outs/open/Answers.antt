use Rattle.vx_outs.proofs.Conns.{there_kept, frames_kept, closed_kept}
use Rattle.vx_outs.proofs.outs.Outs.open.Goals as goal

pub returns-clause-opened : goal.returns-clause-opened
returns-clause-opened c = rw (← c.self.view_is) (simp there_kept c.open.ensures.opened)

pub returns-clause-without_memory_as_before : goal.returns-clause-without_memory_as_before
returns-clause-without_memory_as_before c = rw (← c.self.view_is) (simp there_kept c.open.ensures.without_memory_as_before)

pub returns-clause-frames : goal.returns-clause-frames
returns-clause-frames c = rw (← c.self.view_is) (simp frames_kept c.open.ensures.frames)

pub returns-clause-closed : goal.returns-clause-closed
returns-clause-closed c = rw (← c.self.view_is) (simp closed_kept c.open.ensures.closed)
