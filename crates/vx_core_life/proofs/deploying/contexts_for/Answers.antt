use Rattle.std.proofs.Common.{[], ◌∷◌, ◌++◌, ap, sym, ◌∙◌}
use Rattle.std.specs.Prelude.{None}
use Rattle.vx_message.specs.declared.Lane.{Lane}
use Rattle.vx_core_life.specs.Starting.{new_context}
use Rattle.vx_core_life.proofs.NewContexts.{one_more}
use Rattle.vx_core_life.proofs.deploying.contexts_for.Goals as goal

pub loop-instance-preserved : goal.loop-instance-preserved
loop-instance-preserved c =
    let life = c.args.life.now in
    let worker = c.args.worker in
    let pool = c.args.pool in
    let number = c.loop-instance.instance in
    c.in_ok-push.ensures.items
    ∙ ap (λ (lane : Lane). c.loop-instance.made.items ++ record { id = record { entry = c.args.id.0; instance = number }; maker = None; lane = lane; jobs = pool } ∷ []) c.lane_for-lane.ensures
    ∙ ap (λ items. items ++ new_context life worker pool (record { entry = c.args.id.0; instance = number }) ∷ []) c.loop-instance.invariant
    ∙ sym (one_more life worker pool c.args.id number)
