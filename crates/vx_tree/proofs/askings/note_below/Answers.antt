use Rattle.std.proofs.Common.{ap, sym, ◌∙◌, take_all}
use Rattle.vx_tree.specs.Nodes.{asked_at, is_known, is_one_of, below}
use Rattle.vx_tree.specs.Kept.{IsKept}
use Rattle.vx_tree.proofs.Added.{all_of_each}
use Rattle.vx_tree.proofs.Noted.{noted, more_noted, no_more_noted, still_kept}
use Rattle.vx_tree.proofs.askings.note_below.Goals as goal
use Rattle.vx_tree.proofs.askings.note_below.Goals.{then-is_below_asked, else-is_below_asked}

pub loop-node-preserved : goal.loop-node-preserved
loop-node-preserved c =
    let at = c.args.at in
    let old = c.args.asked.now.entries in
    let nodes = c.args.nodes.now in
    let i = c.loop-node.node-index in
    let so_far = c.loop-node.invariant in
    elim c.if-is_below_asked.branch [
      | then-is_below_asked w ↦ record {
        noted = λ d. ap (λ asked. asked_at d asked.entries) w.asked-is ∙ more_noted at old _ _ nodes c.args.top i _ c.loop-node-test.true so_far.noted
            (all_of_each (IsKept old) nodes c.requires.kept.each i _ c.loop-node-test.true) (sym c.is_below_asked.ensures ∙ w.if-is_below_asked.true) w.note-then-is_below_asked.ensures.first d;
        known = λ d. ap (λ asked. is_known d asked.entries) w.asked-is ∙ w.note-then-is_below_asked.ensures.known d ∙ so_far.known d;
      }
      | else-is_below_asked w ↦ record {
        noted = λ d. ap (λ asked. asked_at d asked.entries) w.asked-is ∙ no_more_noted at old _ nodes c.args.top i _ c.loop-node-test.true so_far.noted (sym c.is_below_asked.ensures ∙ w.if-is_below_asked.false) d;
        known = λ d. ap (λ asked. is_known d asked.entries) w.asked-is ∙ so_far.known d;
      }
    ]

pub returns-clause-kept : goal.returns-clause-kept
returns-clause-kept c =
    let at = c.args.at in
    let old = c.args.asked.now.entries in
    let top = c.args.top in
    still_kept at old c.loop-node.asked.entries c.args.nodes.now top
    (λ d. c.loop-node.invariant.noted d ∙ ap (λ nodes. noted at (asked_at d old) (is_one_of (below nodes top) d)) (take_all c.loop-node.node-index c.args.nodes.now c.loop-node-test.false))
    c.loop-node.invariant.known c.requires.kept
