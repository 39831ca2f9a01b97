use Rattle.std.proofs.Common.{refl, ap, sym, ◌∙◌, subst}
use Rattle.std.specs.Prelude.{List, length}
use Rattle.vx_message.specs.declared.Item.{Item}
use Rattle.vx_request.specs.declared.leaver.Leaver.TheVariants as leavers
use Rattle.vx_context.specs.Stores.{ContextStore, closed_in}
use Rattle.vx_bus_delivery.specs.Lost.{lost_rows}
use Rattle.vx_bus_closing.specs.Closing.{Leaves}
use Rattle.vx_bus_closing.proofs.Losses.{left_so, leaves_so, places_so}
use Rattle.vx_bus_closing.proofs.RowClose.{closes_one}
use Rattle.vx_bus_closing.proofs.closing.close_context.Goals as goal

pub end_requests-requires : goal.end_requests-requires
end_requests-requires c = record {
  places = places_so c.args.contexts.now c.close.new.self c.args.bus.now c.leave.new.self (leavers.Context c.args.context) c.requires.places (left_so c.args.bus.now c.leave.new.self c.items.result.now c.args.contexts.now.waiting (leavers.Context c.args.context) c.items.ensures (record { left = c.leave.ensures.left; out_of_turn = c.leave.ensures.out_of_turn; choices = c.leave.ensures.choices })) c.close.ensures.left c.close.ensures.room c.leave.ensures.room;
}

-- what the stores lost
lost : (c : goal.After-end_requests) → Leaves c.args.contexts.now c.end_requests.new.contexts c.args.timers.now c.end_requests.new.timers c.args.bus.now c.end_requests.new.bus c.args.at (leavers.Context c.args.context)
lost c = leaves_so c.args.contexts.now c.close.new.self c.end_requests.new.contexts c.args.timers.now c.end_requests.new.timers c.args.bus.now c.leave.new.self c.end_requests.new.bus c.args.at (leavers.Context c.args.context)
    (left_so c.args.bus.now c.leave.new.self c.items.result.now c.args.contexts.now.waiting (leavers.Context c.args.context) c.items.ensures (record { left = c.leave.ensures.left; out_of_turn = c.leave.ensures.out_of_turn; choices = c.leave.ensures.choices })) c.close.ensures.left c.end_requests.ensures.ends

pub returns-clause-leaves : goal.returns-clause-leaves
returns-clause-leaves c = lost c

pub returns-clause-closed : goal.returns-clause-closed
returns-clause-closed c = λ other. ap (λ (s : ContextStore). closed_in other s.closings) c.end_requests.ensures.ends.items ∙ c.close.ensures.closed other

pub returns-clause-count : goal.returns-clause-count
returns-clause-count c = c.end_requests.ensures.count ∙ ap length (ap (lost_rows (leavers.Context c.args.context)) c.leave.ensures.left)

pub returns-clause-closes : goal.returns-clause-closes
returns-clause-closes c = λ history new stands is_next legal one.
    closes_one c.args.contexts.now c.end_requests.new.contexts c.args.timers.now c.end_requests.new.timers c.args.bus.now c.end_requests.new.bus c.args.at c.args.context c.end_requests.result history new (lost c)
    (λ other. ap (λ (s : ContextStore). closed_in other s.closings) c.end_requests.ensures.ends.items ∙ c.close.ensures.closed other)
    (c.end_requests.ensures.count ∙ ap length (ap (lost_rows (leavers.Context c.args.context)) c.leave.ensures.left)) stands is_next legal one
