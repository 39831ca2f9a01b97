use Rattle.std.proofs.Common.{refl, ap, sym, ◌∙◌, arith, [], ◌∷◌}
use Rattle.vx_message.specs.declared.Owner.TheVariants as owners
use Rattle.vx_consumer.specs.Flows.{fresh}
use Rattle.vx_call.specs.declared.call.Call.TheVariants as calls
use Rattle.vx_call.specs.declared.reply.Reply.TheVariants as replies
use Rattle.vx_call.specs.Names.{next_consumer}
use Rattle.vx_call.specs.Refusals.{unless_refused}
use Rattle.vx_bus_store.specs.Stores.{BusStore, held_in}
use Rattle.vx_bus_store.proofs.Frames.{follows_refused}
use Rattle.vx_bus_store.proofs.HeldCounts.{held_in-append}
use Rattle.vx_bus_consumers.proofs.RowRegister.{registers}
use Rattle.vx_bus_consumers.proofs.register.register.Goals as goal

pub returns-in-Some-clause-ok : goal.returns-in-Some-clause-ok
returns-in-Some-clause-ok c = λ history stands is_next.
    follows_refused c.args.contexts.now c.args.timers.now c.args.bus.now history c.args.pass (calls.Register c.args.context c.args.address c.args.limit) c.in-Some.refusal refl stands
    (ap (λ refusal. unless_refused refusal (replies.Consumer (next_consumer history))) (c.in-Some.ensures history stands.contexts))

pub returns-in-Ok-clause-ok : goal.returns-in-Ok-clause-ok
returns-in-Ok-clause-ok c = λ history stands is_next.
    registers c.args.contexts.now c.args.timers.now c.args.bus.now c.add.new.self history c.args.at c.args.pass c.args.context c.args.address c.args.limit stands is_next
    (sym (c.register_refusal.ensures history stands.contexts) ∙ c.in_default.is) c.in-Ok.ensures.added c.in-Ok.ensures.in_turn c.in-Ok.ensures.choices

pub returns-in-Ok-clause-places : goal.returns-in-Ok-clause-places
returns-in-Ok-clause-places c =
    let held = ap (λ (s : BusStore). held_in s.consumers) c.in-Ok.ensures.added in
    let more = held_in-append c.args.bus.now.consumers (record { consumer = record { id = record { 0 = c.args.at }; owner = owners.Context c.args.context; address = c.args.address; limit = c.args.limit }; flow = fresh c.args.limit } ∷ []) in
    let rows = ap (λ (s : BusStore). s.requests.waiting) c.in-Ok.ensures.added in
    let room = ap (λ (s : BusStore). s.room) c.in-Ok.ensures.added in
    let had = c.requires.places in
    record { items = grind arith; tasks = grind arith }
