use Rattle.std.proofs.Common.{◌+◌, sym, ◌∙◌, ap, arith}
use Rattle.vx_request.specs.Stores.{ended_at}
use Rattle.vx_request.specs.Leaving.{ends_with}
use Rattle.vx_request.proofs.Rows.{fewer_before, ends_one, ends_none, passing_more, failing_more}
use Rattle.vx_request.proofs.requests.end_each.Goals as goal
use Rattle.vx_request.proofs.requests.end_each.Goals.{then-ends_with, else-ends_with}

pub keep_first-requires : goal.keep_first-requires
keep_first-requires c =
    let test = ends_with c.args.leaver c.args.given.now.given in
    let rows = c.args.waiting.now in
    let i = c.loop-row.row-index in
    omega (arith, c.requires, c.loop-row.invariant.room, passing_more test rows i _ c.loop-row-test.true (sym c.ends_with.ensures ∙ c.if-ends_with.true), fewer_before test rows (i + 1))

pub loop-row-preserved : goal.loop-row-preserved
loop-row-preserved c =
    let test = ends_with c.args.leaver c.args.given.now.given in
    let rows = c.args.waiting.now in
    let i = c.loop-row.row-index in
    elim c.if-ends_with.branch [
      | then-ends_with w ↦ let lost = sym c.ends_with.ensures ∙ w.if-ends_with.true in record {
        ended = λ m. ap (λ ended. ended_at m ended.entries) w.ended-is ∙ ends_one test rows i _ c.loop-row-test.true m c.args.at _ _ (c.loop-row.invariant.ended m) _ lost (w.keep_first.ensures.first m.0.0);
        room = rw w.ended-is (omega (arith, c.loop-row.invariant.room, w.keep_first.ensures.room, passing_more test rows i _ c.loop-row-test.true lost));
      }
      | else-ends_with w ↦ let kept = sym c.ends_with.ensures ∙ w.if-ends_with.false in record {
        ended = λ m. ap (λ ended. ended_at m ended.entries) w.ended-is ∙ ends_none test rows i _ c.loop-row-test.true m c.args.at _ _ (c.loop-row.invariant.ended m) kept;
        room = rw w.ended-is (omega (arith, c.loop-row.invariant.room, failing_more test rows i _ c.loop-row-test.true kept));
      }
    ]
