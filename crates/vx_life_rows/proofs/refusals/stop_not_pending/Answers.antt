use Rattle.std.proofs.Common.{ap, sym, ◌∙◌}
use Rattle.std.specs.Prelude.{not}
use Rattle.vx_data.specs.declared.ids.ContextId.{ContextId}
use Rattle.vx_call.specs.declared.reply.Refusal.TheVariants as refusals
use Rattle.vx_call.specs.Refusals as machine
use Rattle.vx_call.specs.Stopping.{stop_taken}
use Rattle.vx_life_rows.proofs.Refuses.{taken_as}
use Rattle.vx_life_rows.proofs.refusals.stop_not_pending.Goals as goal

pub returns-in-Some : goal.returns-in-Some
returns-in-Some c = λ history pass stands held some.
    c.not_taken.ensures
    ∙ ap (λ b. machine.refused_if (not b) refusals.NotPending) (taken_as c.args.life.now history pass c.in-Some.context stands.parts (sym held ∙ c.in-Some.is) some)
    ∙ ap (machine.if_named (λ (context : ContextId). machine.refused_if (not (stop_taken history context)) refusals.NotPending)) (sym c.in-Some.is ∙ held)
