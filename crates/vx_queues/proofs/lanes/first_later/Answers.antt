use Rattle.std.proofs.Common.{◌≡◌, ◌≢◌, ◌-◌, ◌+◌, suc, sym, ◌∙◌, ap, [], length, get_or, arith, true, false}
use Rattle.std.proofs.Math.ListN.{length-set}
use Rattle.vx_items.specs.Lists.{count}
use Rattle.vx_items.proofs.Counts.{count-le-total}
use Rattle.vx_queues.specs.Order.{before, merged}
use Rattle.vx_queues.specs.Stores.{all_values}
use Rattle.vx_queues.specs.Lanes.{queue_at, head_in, as_busy}
use Rattle.vx_queues.proofs.Gaps.{standing_there, lane_short, walk_start, walk_there, walk_stop, walk_on, comes_behind, heads_are}
use Rattle.vx_queues.proofs.Returning.{none_aside}
use Rattle.vx_queues.proofs.lanes.first_later.Goals as goal

pub loop-step-init : goal.loop-step-init
loop-step-init c =
    let queues = c.args.queues.now.items in
    let lists = all_values c.args.items.now.lists in
    let len = length-set queues c.args.queue (record { lane = (queue_at queues c.args.queue).lane; busy = true }) in
    let short = lane_short (as_busy c.args.queue queues) lists c.args.lanes.now c.args.lane c.requires.aside.laned in
    record { walk = walk_start _ _ _ _ _ c.first-next.ensures.first (omega (arith, short, len)); within = omega arith }

pub is_behind-requires : goal.is_behind-requires
is_behind-requires c =
    let queues = c.args.queues.now.items in
    let there = walk_there _ _ _ _ _ c.in-Some.other c.loop-step.invariant.walk c.in-Some.is in
    let stand = standing_there (as_busy c.args.queue queues) (all_values c.args.items.now.lists) c.args.lanes.now c.args.lane c.in-Some.other c.requires.aside.laned there in
    let within = stand.within in
    let one_each = c.requires.aside.kept.one_each in
    omega (arith, within, one_each)

pub returns-then-is_behind : goal.returns-then-is_behind
returns-then-is_behind c =
    let queues = c.args.queues.now.items in
    let walk = c.loop-step.invariant.walk in
    let there = walk_there _ _ _ _ _ c.in-Some.other walk c.in-Some.is in
    let stand = standing_there (as_busy c.args.queue queues) (all_values c.args.items.now.lists) c.args.lanes.now c.args.lane c.in-Some.other c.requires.aside.laned there in
    let first : before c.args.first stand.head ≡ true = sym (c.is_behind.ensures stand.head stand.is) ∙ c.if-is_behind.true in
    walk_stop _ _ _ _ _ c.in-Some.other walk c.in-Some.is (heads_are _ _ _ _ c.requires.first stand.is first)

pub next-next-requires : goal.next-next-requires
next-next-requires c =
    let there = walk_there _ _ _ _ _ c.in-Some.other c.loop-step.invariant.walk c.in-Some.is in
    omega (arith, there, count-le-total c.in-Some.other c.args.lanes.now.lists c.args.lane)

pub loop-step-preserved : goal.loop-step-preserved
loop-step-preserved c =
    let queues = c.args.queues.now.items in
    let lists = all_values c.args.items.now.lists in
    let walk = c.loop-step.invariant.walk in
    let laned = c.requires.aside.laned in
    let there = walk_there _ _ _ _ _ c.in-Some.other walk c.in-Some.is in
    let stand = standing_there (as_busy c.args.queue queues) lists c.args.lanes.now c.args.lane c.in-Some.other laned there in
    let past : before c.args.first stand.head ≡ false = sym (c.is_behind.ensures stand.head stand.is) ∙ c.if-is_behind.false in
    let apart : c.args.queue ≢ c.in-Some.other = λ same.
    let a = laned.laned.counts c.args.queue c.args.lane in
    let b = none_aside queues c.args.queue c.requires.there (head_in lists c.args.queue) c.args.lane in
    let d = ap (λ j. count j (get_or c.args.lanes.now.lists c.args.lane [])) same in
    omega (arith, a, b, d, there) in
    let behind : before stand.head c.args.first ≡ true = comes_behind lists (merged lists) c.args.queue c.in-Some.other c.args.first stand.head c.requires.aside.kept.split c.requires.first stand.is apart past in
    let less = c.loop-step-test.true in
    let fuel : length queues - c.loop-step._step ≡ suc (length queues - (c.loop-step._step + 1)) = omega (arith, less) in
    record {
      walk = walk_on _ _ _ _ _ _ _ c.in-Some.other walk c.in-Some.is (heads_are _ _ _ _ stand.is c.requires.first behind) (c.next-next.ensures.next c.args.lane) fuel;
      within = omega (arith, less);
    }
