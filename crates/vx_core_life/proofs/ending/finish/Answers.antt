use Rattle.std.proofs.Common.{refl, ap, sym, ◌∙◌}
use Rattle.vx_call.specs.declared.call.Call.TheVariants as calls
use Rattle.vx_call.specs.declared.reply.Reply.TheVariants as replies
use Rattle.vx_call.specs.History.{no_mark}
use Rattle.vx_call.specs.Refusals.{unless_refused}
use Rattle.vx_life_rows.specs.Moves.{entry_of}
use Rattle.vx_core_life.proofs.EndsPlaces.{places_grow}
use Rattle.vx_core_life.proofs.Refused.{refused_with}
use Rattle.vx_core_life.proofs.RowDone.{task_is_finished}
use Rattle.vx_core_life.proofs.ending.finish.Goals as goal

pub returns-in-Some-clause-follows : goal.returns-in-Some-clause-follows
returns-in-Some-clause-follows c = λ history states stands legal is_next.
    refused_with history c.args.pass (calls.Finish c.args.end) c.in-Some.refusal states c.args.life.now c.args.contexts.now c.args.timers.now c.args.bus.now refl stands
    (ap (λ refusal. unless_refused refusal replies.Done) (c.in-Some.ensures history stands.stores.contexts))

pub returns-clause-follows : goal.returns-clause-follows
returns-clause-follows c = λ history states stands legal is_next.
    let free = sym (c.not_holding.ensures history stands.stores.contexts) ∙ c.in_default.is in
    task_is_finished c.args.life.now c.end_over.new.life c.args.contexts.now c.end_over.new.contexts c.args.timers.now c.end_over.new.timers c.args.bus.now c.end_over.new.bus history c.args.pass stands c.args.end states c.finish.new.self free
    (c.end_over.ensures.ends history (entry_of c.args.pass (calls.Finish c.args.end) replies.Done states no_mark) stands legal is_next (record { accepted = refl; mark = refl; call = refl }) (c.held_over-over.ensures history stands.stores.contexts))
    c.finish.ensures.ended

pub returns-clause-places : goal.returns-clause-places
returns-clause-places c = places_grow c.end_over.new.contexts c.finish.new.self c.end_over.new.bus c.end_over.ensures.places c.finish.ensures.room
