use Rattle.std.proofs.Common.{refl, ap, sym, ◌∙◌, arith}
use Rattle.vx_call.specs.declared.call.Call.TheVariants as calls
use Rattle.vx_call.specs.declared.reply.Reply.TheVariants as replies
use Rattle.vx_call.specs.Refusals.{unless_refused}
use Rattle.vx_bus_store.proofs.Frames.{follows_refused}
use Rattle.vx_consumer.specs.Flows.{resumed}
use Rattle.vx_bus_consumers.proofs.RowFlow.{resumes_so, places_enough, places_freed, not_missing, not_homeless}
use Rattle.vx_bus_consumers.proofs.flow.resume.Goals as goal

pub returns-in-Some-clause-follows : goal.returns-in-Some-clause-follows
returns-in-Some-clause-follows c = λ history stands is_next.
    follows_refused c.args.contexts.now c.args.timers.now c.args.bus.now history c.args.pass (calls.Resume c.args.consumer) c.in-Some.refusal refl stands
    (ap (λ refusal. unless_refused refusal replies.Done) (c.in-Some.ensures history stands.contexts stands.bus))

pub unreachable-requires : goal.unreachable-requires
unreachable-requires c = not_missing c.args.contexts.now c.args.timers.now c.args.bus.now c.args.pass c.args.consumer c.requires.one
    (λ history contexts bus. sym (c.consumer_refusal.ensures history contexts bus) ∙ c.in_default.is) (sym c.in-None.ensures)

pub unreachable-requires-in-None-home_of : goal.unreachable-requires-in-None-home_of
unreachable-requires-in-None-home_of c = not_homeless c.args.contexts.now c.args.timers.now c.args.bus.now c.args.consumer c.in-Some-handler.handler.now c.requires.one (sym c.in-Some-handler.ensures) (sym c.in-None-home_of.ensures)

pub make_ready-requires : goal.make_ready-requires
make_ready-requires c = places_enough c.args.contexts.now c.args.bus.now c.args.consumer c.in-Some-handler.handler.now c.held-held.result c.requires.places (sym c.in-Some-handler.ensures) (omega (arith, c.held-held.ensures))

pub returns-clause-follows : goal.returns-clause-follows
returns-clause-follows c = λ history stands is_next.
    resumes_so c.args.contexts.now c.make_ready.new.contexts c.args.timers.now c.args.bus.now c.resume.new.self history c.args.at c.args.pass c.args.consumer c.held-held.result c.in-Some-handler.handler.now c.in-Some-home_of.context stands is_next
    (sym (c.consumer_refusal.ensures history stands.contexts stands.bus) ∙ c.in_default.is) (sym c.in-Some-handler.ensures) (sym c.in-Some-home_of.ensures) c.held-held.ensures c.resume.ensures c.make_ready.ensures.items

pub returns-clause-places : goal.returns-clause-places
returns-clause-places c = places_freed c.args.contexts.now c.make_ready.new.contexts c.args.timers.now c.args.bus.now c.resume.new.self c.args.consumer c.in-Some-handler.handler.now c.held-held.result resumed
    c.requires.places c.requires.one (sym c.in-Some-handler.ensures) c.resume.ensures (omega (arith, c.held-held.ensures)) c.make_ready.ensures.room
