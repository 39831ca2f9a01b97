use Rattle.std.proofs.Common.{◌≡◌, ◌≤◌, List, [], refl, sym, ◌∙◌, ap, length, drop, get_or, length-drop, Some, arith}
use Rattle.vx_message.specs.declared.frame.OutFrame.{OutFrame}
use Rattle.vx_outs.specs.Queues.{max_waiting}
use Rattle.vx_outs.specs.Outs.{conn_at, queue_of, frames_of}
use Rattle.vx_outs.proofs.Conns.{Frames, changed, written_queued}
use Rattle.vx_outs.proofs.outs.take.Goals as goal

pub pop-requires : goal.pop-requires
pop-requires c = c.requires.within c.args.conn _ (ap queue_of (sym c.get.ensures.value ∙ sym c.copied.ensures ∙ c.in_ok-found.was))

pub returns-clause-queued : goal.returns-clause-queued
returns-clause-queued c =
    let queues = c.args.queues.now.queues in
    let here : conn_at c.args.conn c.args.conns.now.entries ≡ Some c.in_ok-found.found = sym c.get.ensures.value ∙ sym c.copied.ensures ∙ c.in_ok-found.was in
    let frames = drop 1 (get_or queues c.in_ok-found.found.queue []) in
    let few_there : length (frames_of (conn_at c.args.conn c.args.conns.now.entries) queues) ≤ max_waiting = c.requires.few c.args.conn in
    let before : length (get_or queues c.in_ok-found.found.queue []) ≤ max_waiting = rw here at few_there in
    let shorter = length-drop 1 (get_or queues c.in_ok-found.found.queue []) in
    let few : length frames ≤ max_waiting = omega (arith, before, shorter) in
    rw c.pop.ensures.left (written_queued c.args.conns.now.entries queues c.requires c.args.conn c.in_ok-found.found here frames few)

pub returns-clause-frames : goal.returns-clause-frames
returns-clause-frames c = λ other.
    let queues = c.args.queues.now.queues in
    let here : conn_at c.args.conn c.args.conns.now.entries ≡ Some c.in_ok-found.found = sym c.get.ensures.value ∙ sym c.copied.ensures ∙ c.in_ok-found.was in
    ap (λ (qs : Frames). frames_of (conn_at other c.args.conns.now.entries) qs) c.pop.ensures.left
    ∙ changed c.args.conns.now.entries queues c.requires c.args.conn c.in_ok-found.found here (drop 1 (get_or queues c.in_ok-found.found.queue []))
    (λ (frames : List OutFrame). drop 1 frames) refl other
