use Rattle.std.proofs.Common.{ℕ, ◌-◌, List, [], sym, ◌∙◌, ap, map, set, get_or, Some}
use Rattle.vx_outs.specs.Queues.{frames_in, length_of}
use Rattle.vx_outs.proofs.Waiting.{read_length, first_there, popped_first, popped_left, popped_length}
use Rattle.vx_outs.proofs.queues.Queues.pop.Goals as goal

pub invariant_of-self : goal.invariant_of-self
invariant_of-self c =
    let lists = c.self.inside.frames.lists in
    let value = c.index_mut.result.now in
    let read = read_length lists c.self.inside.lengths.items c.self.invariant c.args.queue (rw (← c.self.view_is) at c.requires) value c.index_mut.ensures.value in
    let first = first_there (get_or lists c.args.queue []) c.in_ok-first.first.0 c.in_ok-first.ensures.first in
    let removed = c.remove.ensures.place c.args.queue [] first.rest first.frame first.is in
    ap (λ (ns : List ℕ). set ns c.args.queue (value - 1)) c.self.invariant
    ∙ ap (λ n. set (map length_of lists) c.args.queue (n - 1)) read
    ∙ popped_length lists c.args.queue c.in_ok-first.first.0 first
    ∙ sym (ap (map length_of) removed.0)

pub returns-clause-first : goal.returns-clause-first
returns-clause-first c =
    let lists = c.self.inside.frames.lists in
    let first = first_there (get_or lists c.args.queue []) c.in_ok-first.first.0 c.in_ok-first.ensures.first in
    let removed = c.remove.ensures.place c.args.queue [] first.rest first.frame first.is in
    rw (← c.self.view_is) (ap Some removed.1 ∙ popped_first lists c.args.queue c.in_ok-first.first.0 first)

pub returns-clause-left : goal.returns-clause-left
returns-clause-left c =
    let lists = c.self.inside.frames.lists in
    let first = first_there (get_or lists c.args.queue []) c.in_ok-first.first.0 c.in_ok-first.ensures.first in
    let removed = c.remove.ensures.place c.args.queue [] first.rest first.frame first.is in
    rw (← c.self.view_is) (ap (map frames_in) removed.0 ∙ popped_left lists c.args.queue c.in_ok-first.first.0 first)
