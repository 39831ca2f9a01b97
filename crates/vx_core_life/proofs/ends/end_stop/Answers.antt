use Rattle.std.proofs.Common.{ap, sym, ◌∙◌, true, arith}
use Rattle.vx_request.specs.declared.leaver.Leaver.TheVariants as leavers
use Rattle.vx_call.specs.Starts.{Ending, stopper}
use Rattle.vx_context.specs.Stores.{ContextStore}
use Rattle.vx_core_life.proofs.EndsPlaces.{count_fits, stopped_owed, places_grow}
use Rattle.vx_core_life.proofs.RowEnds.{stop_closes, ends_stop, stop_if, stopping_of, no_stop_ends}
use Rattle.vx_core_life.proofs.ends.end_stop.Goals as goal

pub returns-then-not-is_unstopped-clause-ends : goal.returns-then-not-is_unstopped-clause-ends
returns-then-not-is_unstopped-clause-ends c = λ history new stands legal is_next may stopping.
    let stop = stopping_of c.args.context (stopper history new.entry.pass new.entry.call) stopping in
    let one : Ending = record { context = c.args.context; result = stop.0 } in
    no_stop_ends c.args.life.now c.args.contexts.now c.args.timers.now c.args.bus.now history new one stands may stop.1 (sym c.is_unstopped.ensures ∙ c.if-not-is_unstopped.true)

pub move_on-requires-clause-owed : goal.move_on-requires-clause-owed
move_on-requires-clause-owed c =
    let less = stopped_owed c.args.context c.args.life.now c.stopped.new.self c.stopped.ensures in
    let same = ap (λ (s : ContextStore). s.owed) c.close_context-count.ensures.leaves.contexts in
    let owed = c.requires.owed in
    omega (arith, less, same, owed)

pub move_on-requires-clause-place : goal.move_on-requires-clause-place
move_on-requires-clause-place c =
    count_fits c.args.life.now c.args.contexts.now c.close_context-count.new.contexts c.args.timers.now c.close_context-count.new.timers c.args.bus.now c.close_context-count.new.bus c.args.at (leavers.Context c.args.context) c.close_context-count.result
    c.requires.one c.close_context-count.ensures.leaves c.close_context-count.ensures.count

pub returns-clause-ends : goal.returns-clause-ends
returns-clause-ends c = λ history new stands legal is_next may stopping.
    let stop = stopping_of c.args.context (stopper history new.entry.pass new.entry.call) stopping in
    let one : Ending = record { context = c.args.context; result = stop.0 } in
    let stopped = stop_if history new c.args.life.now one true stands.lives.parts stop.1 (sym c.is_unstopped.ensures ∙ c.if-not-is_unstopped.false) in
    let closes = c.close_context-count.ensures.closes history new stands.stores is_next legal
    (stop_closes c.args.life.now c.args.contexts.now c.args.timers.now c.args.bus.now history new c.args.at c.args.context stands may is_next stop.0 stopped) in
    ends_stop c.args.life.now c.args.contexts.now c.args.timers.now c.args.bus.now history new c.args.at c.args.context stands may is_next c.stopped.new.self c.move_on.new.life c.close_context-count.new.contexts c.move_on.new.contexts
    c.close_context-count.new.timers c.close_context-count.new.bus c.close_context-count.result stop.0 stopped closes (ap (λ (s : ContextStore). s.held) c.close_context-count.ensures.leaves.contexts)
    c.stopped.ensures c.move_on.ensures.said c.move_on.ensures.told

pub returns-clause-places : goal.returns-clause-places
returns-clause-places c = places_grow c.close_context-count.new.contexts c.move_on.new.contexts c.close_context-count.new.bus c.close_context-count.ensures.places c.move_on.ensures.room
