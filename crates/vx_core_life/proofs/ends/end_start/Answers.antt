use Rattle.std.proofs.Common.{ap, sym, ◌∙◌}
use Rattle.std.specs.Prelude.{true, Some}
use Rattle.vx_message.specs.declared.DoneResult.{DoneResult}
use Rattle.vx_call.specs.Starts.{Ending}
use Rattle.vx_core_life.proofs.RowEnds.{start_if, no_start_ends}
use Rattle.vx_core_life.proofs.ends.end_start.Goals as goal

pub returns-then-not-is_unstarted-clause-ends : goal.returns-then-not-is_unstarted-clause-ends
returns-then-not-is_unstarted-clause-ends c = λ history new stands legal is_next may starts.
    let one : Ending = record { context = c.args.context; result = c.args.done } in
    no_start_ends c.args.life.now c.args.contexts.now c.args.timers.now c.args.bus.now history new one stands may starts (sym c.is_unstarted.ensures ∙ c.if-not-is_unstarted.true)

pub returns-in-Ok-clause-ends : goal.returns-in-Ok-clause-ends
returns-in-Ok-clause-ends c = λ history new stands legal is_next may starts.
    let one : Ending = record { context = c.args.context; result = c.args.done } in
    let with_result : DoneResult → Ending = λ result. record { context = c.args.context; result = result } in
    let started = start_if history new c.args.life.now one true stands.lives.parts starts (sym c.is_unstarted.ensures ∙ c.if-not-is_unstarted.false) in
    c.end_well.ensures.ends history new c.args.timers.now c.args.bus.now stands legal is_next may (started ∙ ap (λ result. Some (with_result result)) c.in-Ok.is)
