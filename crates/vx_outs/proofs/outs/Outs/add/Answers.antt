use Rattle.std.proofs.Common.{◌∙◌, sym}
use Rattle.vx_outs.proofs.Conns.{there_kept, frames_kept, closed_kept}
use Rattle.vx_outs.proofs.outs.Outs.add.Goals as goal

pub add-requires-clause-there : goal.add-requires-clause-there
add-requires-clause-there c = sym (there_kept c.args.conn _ _) ∙ rw (← c.self.view_is) at c.requires.there

pub add-requires-clause-few : goal.add-requires-clause-few
add-requires-clause-few c = rw (← frames_kept c.args.conn c.self.inside.conns.entries c.self.inside.queues.queues) (rw (← c.self.view_is) at c.requires.few)

pub returns-clause-there : goal.returns-clause-there
returns-clause-there c = rw (← c.self.view_is) (λ other. there_kept other _ _ ∙ sym (there_kept other _ _))

pub returns-clause-frames : goal.returns-clause-frames
returns-clause-frames c = rw (← c.self.view_is) (simp frames_kept c.add.ensures.frames)

pub returns-clause-closed : goal.returns-clause-closed
returns-clause-closed c = rw (← c.self.view_is) (λ other. closed_kept other _ _ ∙ sym (closed_kept other _ _))
