use Rattle.std.proofs.Common.{◌∙◌, sym}
use Rattle.vx_outs.proofs.Conns.{there_kept, frames_kept, closed_kept, same_there, same_frames, same_queued}
use Rattle.vx_outs.proofs.outs.Outs.close.Goals as goal

pub invariant_of-self : goal.invariant_of-self
invariant_of-self c = same_queued c.self.inside.conns.entries _ c.close.ensures.queues c.self.inside.queues.queues c.self.invariant

pub returns-clause-there : goal.returns-clause-there
returns-clause-there c = rw (← c.self.view_is) (λ other. there_kept other _ _ ∙ same_there c.self.inside.conns.entries _ c.close.ensures.queues other ∙ sym (there_kept other _ _))

pub returns-clause-frames : goal.returns-clause-frames
returns-clause-frames c = rw (← c.self.view_is) (λ other. frames_kept other _ _ ∙ same_frames c.self.inside.conns.entries _ c.close.ensures.queues c.self.inside.queues.queues other ∙ sym (frames_kept other _ _))

pub returns-clause-closed : goal.returns-clause-closed
returns-clause-closed c = rw (← c.self.view_is) (simp (closed_kept, there_kept) c.close.ensures.closed)
