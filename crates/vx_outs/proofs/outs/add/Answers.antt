use Rattle.std.proofs.Common.{◌≤◌, ◌<◌, List, [], ◌∷◌, ◌++◌, refl, sym, ◌∙◌, ap, length, get_or, length-append, arith}
use Rattle.vx_message.specs.declared.frame.OutFrame.{OutFrame}
use Rattle.vx_outs.specs.Queues.{max_waiting}
use Rattle.vx_outs.specs.Outs.{conn_at, queue_of, frames_of}
use Rattle.vx_outs.proofs.Conns.{Frames, changed, written_queued}
use Rattle.vx_outs.proofs.outs.add.Goals as goal

pub push-requires-clause-queue : goal.push-requires-clause-queue
push-requires-clause-queue c = c.requires.queued.within c.args.conn _ (sym (ap queue_of c.in-Some.ensures.value))

pub returns-clause-queued : goal.returns-clause-queued
returns-clause-queued c =
    let queues = c.args.queues.now.queues in
    let frames = get_or queues c.in-Some.found.now.queue [] ++ c.args.frame ∷ [] in
    let before : length (get_or queues c.in-Some.found.now.queue []) < max_waiting = rw (← c.in-Some.ensures.value) at c.requires.few in
    let longer = length-append (get_or queues c.in-Some.found.now.queue []) (c.args.frame ∷ []) in
    let few : length frames ≤ max_waiting = omega (arith, before, longer) in
    rw c.push.ensures.added (written_queued c.args.conns.now.entries queues c.requires.queued c.args.conn c.in-Some.found.now (sym c.in-Some.ensures.value) frames few)

pub returns-clause-frames : goal.returns-clause-frames
returns-clause-frames c = λ other.
    let queues = c.args.queues.now.queues in
    ap (λ (qs : Frames). frames_of (conn_at other c.args.conns.now.entries) qs) c.push.ensures.added
    ∙ changed c.args.conns.now.entries queues c.requires.queued c.args.conn c.in-Some.found.now (sym c.in-Some.ensures.value) (get_or queues c.in-Some.found.now.queue [] ++ c.args.frame ∷ [])
    (λ (frames : List OutFrame). frames ++ c.args.frame ∷ []) refl other
