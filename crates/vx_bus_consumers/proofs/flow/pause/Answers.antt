use Rattle.std.proofs.Common.{refl, ap, sym, ◌∙◌}
use Rattle.vx_call.specs.declared.call.Call.TheVariants as calls
use Rattle.vx_call.specs.declared.reply.Reply.TheVariants as replies
use Rattle.vx_call.specs.Refusals.{unless_refused}
use Rattle.vx_bus_store.proofs.Frames.{follows_refused}
use Rattle.vx_bus_consumers.proofs.RowFlow.{pauses_so, places_paused}
use Rattle.vx_bus_consumers.proofs.flow.pause.Goals as goal

pub returns-in-Some-clause-follows : goal.returns-in-Some-clause-follows
returns-in-Some-clause-follows c = λ history stands is_next.
    follows_refused c.args.contexts.now c.args.timers.now c.args.bus.now history c.args.pass (calls.Pause c.args.consumer) c.in-Some.refusal refl stands
    (ap (λ refusal. unless_refused refusal replies.Done) (c.in-Some.ensures history stands.contexts stands.bus))

pub returns-clause-follows : goal.returns-clause-follows
returns-clause-follows c = λ history stands is_next.
    pauses_so c.args.contexts.now c.cancel.new.self c.args.timers.now c.args.bus.now c.pause.new.self history c.args.pass c.args.consumer stands
    (sym (c.consumer_refusal.ensures history stands.contexts stands.bus) ∙ c.in_default.is) c.cancel.ensures.left c.pause.ensures

pub returns-clause-places : goal.returns-clause-places
returns-clause-places c = places_paused c.args.contexts.now c.cancel.new.self c.args.timers.now c.args.bus.now c.pause.new.self c.args.pass c.args.consumer c.consumer_refusal.result
    c.requires.places c.requires.one c.consumer_refusal.ensures c.in_default.is c.cancel.ensures.left c.cancel.ensures.room c.pause.ensures
