use Rattle.std.proofs.Common.{rules, ◌≡◌, is_none, false, ◌∙◌}
use Rattle.vx_turn.specs.Passes.{caller, seen, mine}
use Rattle.vx_tally.proofs.Calls.{called_prefix, prefix_on, adds_next}
use Rattle.vx_tally.proofs.uses.add_many.Goals as goal

pub loop-amount-preserved : goal.loop-amount-preserved
loop-amount-preserved g c =
    let before = caller c.loop-amount.pass in
    let after = caller c.bump-next.result.0 in
    let called = c.bump-next.ensures.called in
    let told : is_none c.bump-next.result.1 ≡ false = search rules in
    let kept = c.loop-amount.invariant in (
      c.bump-next.ensures.place ∙ kept.0,
      called.number ∙ kept.1,
      called.numbers ∙ kept.2,
      prefix_on (seen c.args.pass) before.seen after.seen kept.3 (called_prefix before after c.loop-amount.amount c.loop-amount.amount c.bump-next.result.1 called),
      adds_next (mine c.args.pass) c.loop-amount.amount c.loop-amount.amount c.bump-next.result.1 before after told kept.4 called,
    )
