use Rattle.std.proofs.Common.{ℕ, ◌+◌, List, sym, ◌∙◌, ap, map, set}
use Rattle.vx_outs.specs.Queues.{frames_in, length_of}
use Rattle.vx_outs.proofs.Waiting.{entry_of, read_length, pushed, pushed_length}
use Rattle.vx_outs.proofs.queues.Queues.push.Goals as goal

pub invariant_of-self : goal.invariant_of-self
invariant_of-self c =
    let lists = c.self.inside.frames.lists in
    let value = c.index_mut.result.now in
    let read = read_length lists c.self.inside.lengths.items c.self.invariant c.args.queue (rw (← c.self.view_is) at c.requires.queue) value c.index_mut.ensures.value in
    ap (λ (ns : List ℕ). set ns c.args.queue (value + 1)) c.self.invariant
    ∙ ap (λ n. set (map length_of lists) c.args.queue (n + 1)) read
    ∙ pushed_length lists c.args.queue (entry_of c.add.result.0 c.args.frame)
    ∙ sym (ap (map length_of) c.add.ensures.lists)

pub returns-clause-added : goal.returns-clause-added
returns-clause-added c =
    rw (← c.self.view_is) (ap (map frames_in) c.add.ensures.lists ∙ pushed c.self.inside.frames.lists c.args.queue (entry_of c.add.result.0 c.args.frame))
