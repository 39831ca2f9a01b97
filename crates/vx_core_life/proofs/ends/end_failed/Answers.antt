use Rattle.std.proofs.Common.{ap, arith}
use Rattle.std.proofs.Math.Bool.{Bool-set}
use Rattle.std.proofs.Math.Logic.{∥∥₁_elim}
use Rattle.std.specs.Prelude.{true}
use Rattle.vx_request.specs.declared.leaver.Leaver.TheVariants as leavers
use Rattle.vx_tree.specs.Nodes.{is_known, deployment_of}
use Rattle.vx_context.specs.Stores.{ContextStore}
use Rattle.vx_core_life.proofs.EndsPlaces.{count_fits, failed_owed, places_grow}
use Rattle.vx_core_life.proofs.RowEnds.{failure_closes, ends_failed, known_pending}
use Rattle.vx_core_life.proofs.ends.end_failed.Goals as goal

pub start_failed-requires : goal.start_failed-requires
start_failed-requires c =
    ∥∥₁_elim c.requires.one (Bool-set (is_known (deployment_of c.args.context) c.args.life.now.tree.asked) true) (λ p. known_pending p.0 c.args.life.now c.args.context p.1.1.1.lives.parts c.requires.pending)

pub move_on-requires-clause-owed : goal.move_on-requires-clause-owed
move_on-requires-clause-owed c =
    let less = failed_owed c.args.context c.args.failure c.args.at c.args.life.now c.start_failed.new.self c.start_failed.ensures in
    let same = ap (λ (s : ContextStore). s.owed) c.close_context-count.ensures.leaves.contexts in
    let owed = c.requires.owed in
    omega (arith, less, same, owed)

pub move_on-requires-clause-place : goal.move_on-requires-clause-place
move_on-requires-clause-place c =
    count_fits c.args.life.now c.args.contexts.now c.close_context-count.new.contexts c.args.timers.now c.close_context-count.new.timers c.args.bus.now c.close_context-count.new.bus c.args.at (leavers.Context c.args.context) c.close_context-count.result
    c.requires.one c.close_context-count.ensures.leaves c.close_context-count.ensures.count

pub returns-clause-ends : goal.returns-clause-ends
returns-clause-ends c = λ history new stands legal is_next may failed.
    let closes = c.close_context-count.ensures.closes history new stands.stores is_next legal
    (failure_closes c.args.life.now c.args.contexts.now c.args.timers.now c.args.bus.now history new c.args.at c.args.context stands may is_next c.args.failure failed) in
    ends_failed c.args.life.now c.args.contexts.now c.args.timers.now c.args.bus.now history new c.args.at c.args.context stands may is_next c.start_failed.new.self c.move_on.new.life c.close_context-count.new.contexts c.move_on.new.contexts
    c.close_context-count.new.timers c.close_context-count.new.bus c.close_context-count.result c.args.failure legal failed closes (ap (λ (s : ContextStore). s.held) c.close_context-count.ensures.leaves.contexts)
    c.start_failed.ensures c.move_on.ensures.said c.move_on.ensures.told

pub returns-clause-places : goal.returns-clause-places
returns-clause-places c = places_grow c.close_context-count.new.contexts c.move_on.new.contexts c.close_context-count.new.bus c.close_context-count.ensures.places c.move_on.ensures.room
