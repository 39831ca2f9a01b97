use Rattle.std.proofs.Common.{◌≡◌, List, [], ◌∷◌, refl, ap, sym, ◌∙◌, subst, arith}
use Rattle.std.specs.Prelude.{◌≤◌, ◌+◌, length, true, not, filter}
use Rattle.vx_message.specs.declared.Item.{Item}
use Rattle.vx_request.specs.declared.leaver.Leaver.TheVariants as leavers
use Rattle.vx_context.specs.Stores.{ContextStore, closed_in}
use Rattle.vx_bus_closing.specs.Closing.{Leaves}
use Rattle.vx_bus_closing.proofs.Losses.{ItemsLeft, left_so, leaves_so, places_so}
use Rattle.vx_bus_closing.proofs.RowClose.{closes_all}
use Rattle.vx_bus_closing.proofs.closing.close_bus.Goals as goal

none : (items : List Item) → [] ≡ filter (λ (item : Item). not true) items
none [] = refl
none (item ∷ items) = none items

-- nothing waits
gone : (old closed : ContextStore) → closed ≡ record old { closings = closed.closings; waiting = []; room = closed.room } → ItemsLeft old closed leavers.All
gone old closed left = left ∙ ap (λ items. record old { closings = closed.closings; waiting = items; room = closed.room }) (none old.waiting)

pub end_requests-requires : goal.end_requests-requires
end_requests-requires c = record {
  places = places_so c.args.contexts.now c.close_all.new.self c.args.bus.now c.leave.new.self leavers.All c.requires.places (left_so c.args.bus.now c.leave.new.self c.items.result.now c.args.contexts.now.waiting leavers.All c.items.ensures (record { left = c.leave.ensures.left; out_of_turn = c.leave.ensures.out_of_turn; choices = c.leave.ensures.choices })) (gone c.args.contexts.now c.close_all.new.self c.close_all.ensures.left) (omega (arith, c.close_all.ensures.room)) c.leave.ensures.room;
}

-- what the stores lost
lost : (c : goal.After-end_requests) → Leaves c.args.contexts.now c.end_requests.new.contexts c.args.timers.now c.end_requests.new.timers c.args.bus.now c.end_requests.new.bus c.args.at leavers.All
lost c = leaves_so c.args.contexts.now c.close_all.new.self c.end_requests.new.contexts c.args.timers.now c.end_requests.new.timers c.args.bus.now c.leave.new.self c.end_requests.new.bus c.args.at leavers.All
    (left_so c.args.bus.now c.leave.new.self c.items.result.now c.args.contexts.now.waiting leavers.All c.items.ensures (record { left = c.leave.ensures.left; out_of_turn = c.leave.ensures.out_of_turn; choices = c.leave.ensures.choices })) (gone c.args.contexts.now c.close_all.new.self c.close_all.ensures.left) c.end_requests.ensures.ends

pub returns-clause-leaves : goal.returns-clause-leaves
returns-clause-leaves c = lost c

pub returns-clause-closed : goal.returns-clause-closed
returns-clause-closed c = λ other. ap (λ (s : ContextStore). closed_in other s.closings) c.end_requests.ensures.ends.items ∙ c.close_all.ensures.closed other

pub returns-clause-stands : goal.returns-clause-stands
returns-clause-stands c = λ history pass stands is_next legal.
    closes_all c.args.contexts.now c.end_requests.new.contexts c.args.timers.now c.end_requests.new.timers c.args.bus.now c.end_requests.new.bus c.args.at history pass (lost c)
    (λ other. ap (λ (s : ContextStore). closed_in other s.closings) c.end_requests.ensures.ends.items ∙ c.close_all.ensures.closed other) stands is_next legal
