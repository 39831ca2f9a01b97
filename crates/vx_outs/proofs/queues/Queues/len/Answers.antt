use Rattle.std.proofs.Common.{◌∙◌}
use Rattle.vx_outs.proofs.Waiting.{length_at, read_length}
use Rattle.vx_outs.proofs.queues.Queues.len.Goals as goal

pub returns : goal.returns
returns c =
    let lists = c.self.inside.frames.lists in
    rw (← c.self.view_is) (read_length lists c.self.inside.lengths.items c.self.invariant c.args.queue (rw (← c.self.view_is) at c.requires) c.index.result.now c.index.ensures ∙ length_at lists c.args.queue)
