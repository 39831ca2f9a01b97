use Rattle.std.proofs.Common.{◌≡◌, ◌+◌, ◌-◌, ◌<◌, ◌++◌, ◌∷◌, [], length, take, drop, filter, ap, sym, ◌∙◌, arith, rules, tests}
use Rattle.std.proofs.Math.ListN.{length-take}
use Rattle.std.proofs.lemmas.List.{take_all, take_more, length_push}
use Rattle.std.proofs.lemmas.List.FromFn.{get_or-enumerate_from, length-enumerate_from}
use Rattle.std.proofs.lemmas.Iterator.{YieldsList-from_slice, YieldsList-from_take}
use Rattle.std.proofs.lemmas.Iterator.Adapters.{YieldsList-from_skip}
use Rattle.std.proofs.lemmas.Iterator.Consumers.{YieldsList-at, YieldsList-from_filter, YieldsList-from_enumerate, YieldsList-turn, YieldsList-end}
use Rattle.vx_call.specs.Items.{is_for}
use Rattle.vx_bus_store.specs.Stores.{message_items}
use Rattle.vx_bus_consumers.proofs.MadeReady.{made_more}
use Rattle.vx_bus_consumers.proofs.flow.make_ready.Goals as goal

pub put-requires : goal.put-requires
put-requires c =
    let tasks = c.args.bus.now.tasks in
    let same = c.tasks.ensures in
    let free = drop c.saturating_sub-ready.result (filter (is_for c.args.consumer) tasks) in
    let freed = take c.args.count free in
    let turn = YieldsList-turn
    (YieldsList-at c.into_iter-place-iterator.ensures.into_iter_gives
    (YieldsList-from_enumerate (YieldsList-at c.enumerate-place-items.ensures.source
    (YieldsList-from_take c.args.count (YieldsList-at c.take.ensures.source
    (YieldsList-from_skip c.saturating_sub-ready.result (YieldsList-at c.skip.ensures.source
    (YieldsList-from_filter _ (is_for c.args.consumer) (YieldsList-at c.filter-messages.ensures.source (YieldsList-from_slice tasks (c.iter.ensures.rest ∙ same)))
    c.filter-messages.ensures.closure (λ x r q k. search (rules, tests))))
    c.skip.ensures.count)) c.take.ensures.count)) c.enumerate-place-items.ensures.count))
    c.loop-place.yielded _ c.loop-place.yielded_by _ _ (c.in-Some.place, c.in-Some.task) c.in-Some.is c.next.ensures.steps in
    let within : length c.loop-place.yielded < length freed = omega (arith, turn.0, length-enumerate_from 0 freed) in
    omega (arith, within, length-take c.args.count free, c.loop-place.invariant.room, c.requires)

pub loop-place-preserved : goal.loop-place-preserved
loop-place-preserved c =
    let tasks = c.args.bus.now.tasks in
    let same = c.tasks.ensures in
    let free = drop c.saturating_sub-ready.result (filter (is_for c.args.consumer) tasks) in
    let freed = take c.args.count free in
    let turn = YieldsList-turn
    (YieldsList-at c.into_iter-place-iterator.ensures.into_iter_gives
    (YieldsList-from_enumerate (YieldsList-at c.enumerate-place-items.ensures.source
    (YieldsList-from_take c.args.count (YieldsList-at c.take.ensures.source
    (YieldsList-from_skip c.saturating_sub-ready.result (YieldsList-at c.skip.ensures.source
    (YieldsList-from_filter _ (is_for c.args.consumer) (YieldsList-at c.filter-messages.ensures.source (YieldsList-from_slice tasks (c.iter.ensures.rest ∙ same)))
    c.filter-messages.ensures.closure (λ x r q k. search (rules, tests))))
    c.skip.ensures.count)) c.take.ensures.count)) c.enumerate-place-items.ensures.count))
    c.loop-place.yielded _ c.loop-place.yielded_by _ _ (c.in-Some.place, c.in-Some.task) c.in-Some.is c.next.ensures.steps in
    let within : length c.loop-place.yielded < length freed = omega (arith, turn.0, length-enumerate_from 0 freed) in
    let n = length c.loop-place.yielded in
    let task = c.in-Some.task.now in
    let here = turn.1 ∙ get_or-enumerate_from 0 freed n (c.in-Some.place, task) within in
    let place : c.in-Some.place ≡ n = omega (arith, ap (λ pair. pair.0) here) in
    let more : take (n + 1) freed ≡ take n freed ++ task ∷ [] = take_more freed n task within ∙ ap (λ t. take n freed ++ t ∷ []) (sym (ap (λ pair. pair.1) here)) in
    let longer = length_push c.loop-place.yielded (c.in-Some.place, c.in-Some.task) in
    record {
      items = made_more c.args.contexts.now c.loop-place.contexts c.put.new.self c.args.at c.args.context c.in-Some.place c.kind_of.result task (take n freed) _
          c.loop-place.invariant.items c.put.ensures.added c.kind_of.ensures (omega (arith, place, length-take n freed, within)) (ap (λ m. take m freed) longer ∙ more);
      room = omega (arith, longer, c.put.ensures.room, c.loop-place.invariant.room);
    }

pub returns-clause-items : goal.returns-clause-items
returns-clause-items c =
    let tasks = c.args.bus.now.tasks in
    let same = c.tasks.ensures in
    let free = drop c.saturating_sub-ready.result (filter (is_for c.args.consumer) tasks) in
    let freed = take c.args.count free in
    let end = YieldsList-end
    (YieldsList-at c.into_iter-place-iterator.ensures.into_iter_gives
    (YieldsList-from_enumerate (YieldsList-at c.enumerate-place-items.ensures.source
    (YieldsList-from_take c.args.count (YieldsList-at c.take.ensures.source
    (YieldsList-from_skip c.saturating_sub-ready.result (YieldsList-at c.skip.ensures.source
    (YieldsList-from_filter _ (is_for c.args.consumer) (YieldsList-at c.filter-messages.ensures.source (YieldsList-from_slice tasks (c.iter.ensures.rest ∙ same)))
    c.filter-messages.ensures.closure (λ x r q k. search (rules, tests))))
    c.skip.ensures.count)) c.take.ensures.count)) c.enumerate-place-items.ensures.count))
    c.loop-place.yielded _ c.loop-place.yielded_by _ _ c.in-None.is c.next.ensures.steps in
    let all : length c.loop-place.yielded ≡ length freed = end.1 ∙ length-enumerate_from 0 freed in
    let ready : c.saturating_sub-ready.result ≡ length (filter (is_for c.args.consumer) tasks) - c.args.held = c.saturating_sub-ready.ensures ∙ ap (λ n. n - c.args.held) c.message_count.ensures in
    c.loop-place.invariant.items
    ∙ ap (λ made. record c.args.contexts.now { waiting = c.args.contexts.now.waiting ++ message_items c.args.contexts.now.made c.args.at c.args.context 0 made; room = c.loop-place.contexts.room })
    (take_all (length c.loop-place.yielded) freed (omega (arith, all)) ∙ ap (λ n. take c.args.count (drop n (filter (is_for c.args.consumer) tasks))) ready)

pub returns-clause-room : goal.returns-clause-room
returns-clause-room c =
    let tasks = c.args.bus.now.tasks in
    let same = c.tasks.ensures in
    let free = drop c.saturating_sub-ready.result (filter (is_for c.args.consumer) tasks) in
    let freed = take c.args.count free in
    let end = YieldsList-end
    (YieldsList-at c.into_iter-place-iterator.ensures.into_iter_gives
    (YieldsList-from_enumerate (YieldsList-at c.enumerate-place-items.ensures.source
    (YieldsList-from_take c.args.count (YieldsList-at c.take.ensures.source
    (YieldsList-from_skip c.saturating_sub-ready.result (YieldsList-at c.skip.ensures.source
    (YieldsList-from_filter _ (is_for c.args.consumer) (YieldsList-at c.filter-messages.ensures.source (YieldsList-from_slice tasks (c.iter.ensures.rest ∙ same)))
    c.filter-messages.ensures.closure (λ x r q k. search (rules, tests))))
    c.skip.ensures.count)) c.take.ensures.count)) c.enumerate-place-items.ensures.count))
    c.loop-place.yielded _ c.loop-place.yielded_by _ _ c.in-None.is c.next.ensures.steps in
    let all : length c.loop-place.yielded ≡ length freed = end.1 ∙ length-enumerate_from 0 freed in
    omega (arith, all, length-take c.args.count free, c.loop-place.invariant.room)
