use Rattle.std.proofs.Common.{refl, ◌∙◌}
use Rattle.vx_hub.proofs.Advancing.{none_advanced, more_advanced, none_due}
use Rattle.vx_hub.proofs.rows.advance.time_out_due.Goals as goal

pub loop-place-init : goal.loop-place-init
loop-place-init c = (λ history stands is_next. none_advanced c.args.contexts.now c.args.timers.now c.args.bus.now history c.args.now stands, c.requires, refl)

pub returns-in-None-clause-advanced : goal.returns-in-None-clause-advanced
returns-in-None-clause-advanced c = λ history stands is_next.
    none_due c.args.contexts.now c.loop-place.contexts c.loop-place.timers c.due.new.self c.args.bus.now c.loop-place.bus history c.args.now c.loop-place.place
    (c.loop-place.invariant.0 history stands is_next) (c.in-None.ensures.none) c.in-None.ensures.later

pub loop-place-preserved : goal.loop-place-preserved
loop-place-preserved c = (
  λ history stands is_next. more_advanced c.args.contexts.now c.loop-place.contexts c.time_out.new.contexts c.loop-place.timers c.due.new.self c.args.bus.now c.loop-place.bus c.time_out.new.bus history c.args.now c.args.at
      c.loop-place.place c.in-Some.field-0-0 c.in-Some.id stands.contexts.made stands.stored is_next (c.loop-place.invariant.0 history stands is_next) (c.in-Some.ensures.fires) c.time_out.ensures.ends,
  c.time_out.ensures.places,
  c.time_out.ensures.owed ∙ c.loop-place.invariant.2,
)

pub returns-in-None-clause-owed : goal.returns-in-None-clause-owed
returns-in-None-clause-owed c = c.loop-place.invariant.2

pub returns-clause-owed : goal.returns-clause-owed
returns-clause-owed c = c.loop-place.invariant.2
