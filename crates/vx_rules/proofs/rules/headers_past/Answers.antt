use Rattle.std.proofs.Common.{◌≡◌, true, false, arith}
use Rattle.std.proofs.lemmas.Grind.{common_steps}
use Rattle.vx_message.specs.Rules.{rules_of, same_side}
use Rattle.vx_rules.specs.Stores.{added_by, additions}
use Rattle.vx_rules.proofs.Limits.{few_enough, small_enough, fit_together, pairs_with_it, bytes_with_it, without_it}
use Rattle.vx_rules.proofs.rules.headers_past.Goals as goal
use Rattle.vx_rules.proofs.rules.headers_past.Goals.{else-eq-via-then-eq+in_ok-goes_on+else-not-branch, else-eq-via-else-eq}

pub goes_on-requires : goal.goes_on-requires
goes_on-requires c =
    let same : same_side c.args.side c.rule-item.result.side ≡ true = grind (arith, common_steps) in
    let few = few_enough c.args.message.now.headers (additions (rules_of c.args.side c.args.rules.now)) c.requires in
    let small = small_enough c.args.message.now.headers (additions (rules_of c.args.side c.args.rules.now)) c.requires in
    let pairs = pairs_with_it c.args.side c.args.rules.now c.loop-rule.rule-index c.rule-item.result c.loop-rule-test.true c.rule-item.is same in
    let bytes = bytes_with_it c.args.side c.args.rules.now c.loop-rule.rule-index c.rule-item.result c.loop-rule-test.true c.rule-item.is same in
    fit_together c.loop-rule.headers (added_by c.rule-item.result.verdict) (omega (arith, few, pairs, c.loop-rule.invariant.pairs)) (omega (arith, small, bytes, c.loop-rule.invariant.bytes))

pub loop-rule-preserved : goal.loop-rule-preserved
loop-rule-preserved c =
    elim c.else-eq.branch [
      | else-eq-via-then-eq+in_ok-goes_on+else-not-branch w ↦
          let same : same_side c.args.side c.rule-item.result.side ≡ true = grind (arith, common_steps) in
          let pairs = pairs_with_it c.args.side c.args.rules.now c.loop-rule.rule-index c.rule-item.result c.loop-rule-test.true c.rule-item.is same in
          let bytes = bytes_with_it c.args.side c.args.rules.now c.loop-rule.rule-index c.rule-item.result c.loop-rule-test.true c.rule-item.is same in
          record {
            same = grind (arith, common_steps);
            pairs = rw w.headers-is (omega (arith, pairs, c.loop-rule.invariant.pairs, w.goes_on.ensures.pairs));
            bytes = rw w.headers-is (omega (arith, bytes, c.loop-rule.invariant.bytes, w.goes_on.ensures.bytes));
          }
      | else-eq-via-else-eq w ↦
          let other : same_side c.args.side c.rule-item.result.side ≡ false = grind (arith, common_steps) in
          let rest = without_it c.args.side c.args.rules.now c.loop-rule.rule-index c.rule-item.result c.loop-rule-test.true c.rule-item.is other in
          record {
            same = grind (arith, common_steps);
            pairs = rw (w.headers-is, ← rest) c.loop-rule.invariant.pairs;
            bytes = rw (w.headers-is, ← rest) c.loop-rule.invariant.bytes;
          }
    ]
