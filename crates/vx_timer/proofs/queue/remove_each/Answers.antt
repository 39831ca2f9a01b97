use Rattle.std.proofs.Common.{◌≡◌, ◌-◌, ◌+◌, ◌<◌, suc, refl, ap, ◌∙◌, [], ◌++◌, length, get_or, false, true, arith, rules, tests, List}
use Rattle.std.proofs.lemmas.List.{length-map, get_or-set_same}
use Rattle.vx_items.specs.Items.{number_of}
use Rattle.vx_timer.specs.Order.{is_named}
use Rattle.vx_timer.proofs.Queues.{Entries, length-le-count, sweep_start, sweep_keep, sweep_drop, sweep_there}
use Rattle.vx_timer.proofs.queue.remove_each.Goals.{then-eq, else-eq}
use Rattle.vx_timer.proofs.queue.remove_each.Goals as goal

pub loop-step-init : goal.loop-step-init
loop-step-init c =
    let most = length-le-count c.args.store.now.lists c.args.list.0 in
    let count = c.count-count.ensures in
    record { sweep = sweep_start _ _ _ _ c.first-rest.ensures.first (omega (arith, most, count)); lists = refl; within = omega arith }

pub next-rest-requires : goal.next-rest-requires
next-rest-requires c = sweep_there _ c.loop-step.store.lists c.args.list.0 _ _ _ _ _ c.loop-step.invariant.sweep (ap number_of c.in-Some.is)

pub timer_at-requires : goal.timer_at-requires
timer_at-requires c = sweep_there _ c.loop-step.store.lists c.args.list.0 _ _ _ _ _ c.loop-step.invariant.sweep (ap number_of c.in-Some.is)

pub remove-requires : goal.remove-requires
remove-requires c = sweep_there _ c.loop-step.store.lists c.args.list.0 _ _ _ _ _ c.loop-step.invariant.sweep (ap number_of c.in-Some.is)

pub loop-step-preserved : goal.loop-step-preserved
loop-step-preserved c =
    let n = c.args.list.0 in
    let lists = c.loop-step.store.lists in
    let less = c.loop-step-test.true in
    let same_lists = c.loop-step.invariant.lists in
    let listed = c.requires in
    let within : n < length lists = omega (arith, same_lists, listed) in
    let fuel : c.count-count.result - c.loop-step._step ≡ suc (c.count-count.result - (c.loop-step._step + 1)) = omega (arith, less) in
    elim c.if-eq.branch [
      | then-eq w ↦
          let same : is_named c.args.id c.timer_at.result ≡ true = search (rules, tests) in
          rw (w.store-is, w.found-is) (record {
            sweep = sweep_drop _ _ _ _ _ _ _ _ _ _ c.timer_at.result c.loop-step.invariant.sweep (ap number_of c.in-Some.is) (c.timer_at.ensures n) same
                (c.next-rest.ensures.next n)
                (λ b a t is. ap (λ (ls : List Entries). get_or ls n []) (w.remove.ensures.place n b a t is).0 ∙ get_or-set_same lists n (b ++ a) [] within) fuel;
            lists = ap (λ (ls : List Entries). length ls) w.remove.ensures.lists ∙ length-map _ _ ∙ same_lists;
            within = omega (arith, less);
          })
      | else-eq w ↦
          let other : is_named c.args.id c.timer_at.result ≡ false = search (rules, tests) in
          rw (w.store-is, w.found-is) (record {
            sweep = sweep_keep _ _ _ _ _ _ _ _ _ c.timer_at.result c.loop-step.invariant.sweep (ap number_of c.in-Some.is) (c.timer_at.ensures n) other
                (c.next-rest.ensures.next n) fuel;
            lists = same_lists;
            within = omega (arith, less);
          })
    ]
