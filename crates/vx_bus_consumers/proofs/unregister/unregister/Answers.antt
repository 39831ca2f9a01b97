use Rattle.std.proofs.Common.{refl, ap, sym, ◌∙◌}
use Rattle.vx_call.specs.declared.call.Call.TheVariants as calls
use Rattle.vx_call.specs.declared.reply.Reply.TheVariants as replies
use Rattle.vx_call.specs.Refusals.{unless_refused}
use Rattle.vx_bus_store.proofs.Frames.{follows_refused}
use Rattle.vx_bus_consumers.proofs.RowUnregister.{Removes, unregisters, none_lost, places_removed}
use Rattle.vx_bus_consumers.proofs.unregister.unregister.Goals as goal

pub returns-in-Some-clause-follows : goal.returns-in-Some-clause-follows
returns-in-Some-clause-follows c = λ history stands is_next.
    follows_refused c.args.contexts.now c.args.timers.now c.args.bus.now history c.args.pass (calls.Unregister c.args.consumer) c.in-Some.refusal refl stands
    (ap (λ refusal. unless_refused refusal replies.Done) (c.in-Some.ensures history stands.contexts stands.bus))

-- what the removal made of the bus
steps : (c : goal.After-end_requests) → Removes c.args.bus.now c.remove.new.self c.args.consumer
steps c = record { left = c.remove.ensures.left; out_of_turn = c.remove.ensures.out_of_turn; choices = c.remove.ensures.choices }

pub returns-clause-follows : goal.returns-clause-follows
returns-clause-follows c = λ history stands is_next.
    unregisters c.args.contexts.now c.cancel.new.self c.end_requests.new.contexts c.args.timers.now c.end_requests.new.timers c.args.bus.now c.remove.new.self c.end_requests.new.bus
    history c.args.at c.args.pass c.args.consumer stands is_next
    (sym (c.consumer_refusal.ensures history stands.contexts stands.bus) ∙ c.in_default.is)
    c.cancel.ensures.left (steps c) c.end_requests.ensures.ends

pub end_requests-requires : goal.end_requests-requires
end_requests-requires c = record {
  places = places_removed c.args.contexts.now c.cancel.new.self c.args.bus.now c.remove.new.self c.args.consumer c.requires.places c.remove.ensures.left
      (none_lost _ c.args.contexts.now c.cancel.new.self c.cancel.ensures.left c.cancel.ensures.room) c.remove.ensures.room;
}
