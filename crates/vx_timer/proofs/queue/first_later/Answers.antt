use Rattle.std.proofs.Common.{◌≡◌, ◌-◌, ◌+◌, suc, ap, false, true, arith, rules, tests}
use Rattle.vx_items.specs.Items.{number_of}
use Rattle.vx_timer.specs.Order.{comes_before}
use Rattle.vx_timer.proofs.Queues.{length-le-count, walk_start, walk_none, walk_stop, walk_on, walk_there}
use Rattle.vx_timer.proofs.queue.first_later.Goals as goal

pub loop-step-init : goal.loop-step-init
loop-step-init c =
    let most = length-le-count c.args.store.now.lists c.args.list.0 in
    let count = c.count-count.ensures in
    record { walk = walk_start _ _ _ _ c.last-earlier.ensures.last (omega (arith, most, count)); within = omega arith }

pub returns-in_default : goal.returns-in_default
returns-in_default c = walk_none _ _ _ _ _ c.loop-step.invariant.walk (ap number_of c.in_default.is)

pub timer_at-requires : goal.timer_at-requires
timer_at-requires c = walk_there c.args.store.now.lists c.args.list.0 _ _ _ _ _ c.loop-step.invariant.walk (ap number_of c.in-Some.is)

pub returns-then-not-comes_before : goal.returns-then-not-comes_before
returns-then-not-comes_before c =
    let past : comes_before c.args.timer.now c.timer_at.result ≡ false = search (rules, tests) in
    walk_stop _ _ _ _ _ _ c.timer_at.result c.requires.ordered c.loop-step.invariant.walk (ap number_of c.in-Some.is) (c.timer_at.ensures c.args.list.0) past

pub prev-earlier-requires : goal.prev-earlier-requires
prev-earlier-requires c = walk_there c.args.store.now.lists c.args.list.0 _ _ _ _ _ c.loop-step.invariant.walk (ap number_of c.in-Some.is)

pub loop-step-preserved : goal.loop-step-preserved
loop-step-preserved c =
    let comes : comes_before c.args.timer.now c.timer_at.result ≡ true = search (rules, tests) in
    let less = c.loop-step-test.true in
    let fuel : c.count-count.result - c.loop-step._step ≡ suc (c.count-count.result - (c.loop-step._step + 1)) = omega (arith, less) in
    record {
      walk = walk_on _ _ _ _ _ _ _ _ c.timer_at.result c.loop-step.invariant.walk (ap number_of c.in-Some.is) (c.timer_at.ensures c.args.list.0) comes
          (c.prev-earlier.ensures.prev c.args.list.0) fuel;
      within = omega (arith, less);
    }
