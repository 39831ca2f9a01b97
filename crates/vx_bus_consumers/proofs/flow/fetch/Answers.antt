use Rattle.std.proofs.Common.{refl, ap, sym, ◌∙◌, arith}
use Rattle.vx_call.specs.declared.call.Call.TheVariants as calls
use Rattle.vx_call.specs.declared.reply.Reply.TheVariants as replies
use Rattle.vx_call.specs.Refusals.{unless_refused, bad_fetch}
use Rattle.vx_call.specs.Rows.{consumer_refusal}
use Rattle.vx_bus_refusals.proofs.Chains.{none_of_first}
use Rattle.vx_bus_store.proofs.Frames.{follows_refused}
use Rattle.vx_consumer.specs.Flows.{fetched, room_more}
use Rattle.vx_bus_consumers.proofs.RowFlow.{fetches_so, places_enough, places_freed, not_missing, not_homeless, freed_few}
use Rattle.vx_bus_consumers.proofs.flow.fetch.Goals as goal

pub returns-in-Some-clause-follows : goal.returns-in-Some-clause-follows
returns-in-Some-clause-follows c = λ history stands is_next.
    follows_refused c.args.contexts.now c.args.timers.now c.args.bus.now history c.args.pass (calls.Fetch c.args.consumer c.args.count) c.in-Some.refusal refl stands
    (ap (λ refusal. unless_refused refusal replies.Done) (c.in-Some.ensures history stands.contexts stands.bus))

pub unreachable-requires : goal.unreachable-requires
unreachable-requires c = not_missing c.args.contexts.now c.args.timers.now c.args.bus.now c.args.pass c.args.consumer c.requires.one
    (λ history contexts bus. none_of_first (consumer_refusal history c.args.pass c.args.consumer) (bad_fetch c.args.count) (sym (c.fetch_refusal.ensures history contexts bus) ∙ c.in_default.is)) (sym c.in-None.ensures)

pub unreachable-requires-in-None-home_of : goal.unreachable-requires-in-None-home_of
unreachable-requires-in-None-home_of c = not_homeless c.args.contexts.now c.args.timers.now c.args.bus.now c.args.consumer c.in-Some-handler.handler.now c.requires.one (sym c.in-Some-handler.ensures) (sym c.in-None-home_of.ensures)

pub make_ready-requires : goal.make_ready-requires
make_ready-requires c =
    let handler = c.in-Some-handler.handler.now in
    places_enough c.args.contexts.now c.args.bus.now c.args.consumer handler c.freed_by-freed.result c.requires.places (sym c.in-Some-handler.ensures)
    (omega (arith, c.freed_by-freed.ensures, freed_few (room_more c.args.count handler.flow.room) handler.flow.held))

pub returns-clause-follows : goal.returns-clause-follows
returns-clause-follows c = λ history stands is_next.
    fetches_so c.args.contexts.now c.make_ready.new.contexts c.args.timers.now c.args.bus.now c.fetch.new.self history c.args.at c.args.pass c.args.consumer c.args.count c.held-held.result c.freed_by-freed.result c.in-Some-handler.handler.now c.in-Some-home_of.context stands is_next
    (sym (c.fetch_refusal.ensures history stands.contexts stands.bus) ∙ c.in_default.is) (sym c.in-Some-handler.ensures) (sym c.in-Some-home_of.ensures) c.held-held.ensures c.freed_by-freed.ensures c.fetch.ensures c.make_ready.ensures.items

pub returns-clause-places : goal.returns-clause-places
returns-clause-places c =
    let handler = c.in-Some-handler.handler.now in
    places_freed c.args.contexts.now c.make_ready.new.contexts c.args.timers.now c.args.bus.now c.fetch.new.self c.args.consumer handler c.freed_by-freed.result (fetched c.args.count)
    c.requires.places c.requires.one (sym c.in-Some-handler.ensures) c.fetch.ensures
    (omega (arith, c.freed_by-freed.ensures, freed_few (room_more c.args.count handler.flow.room) handler.flow.held)) c.make_ready.ensures.room
