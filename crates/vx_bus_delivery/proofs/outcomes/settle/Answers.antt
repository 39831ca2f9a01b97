use Rattle.std.proofs.Common.{◌≡◌, ap, sym, ◌∙◌, length, arith}
use Rattle.std.specs.Prelude.{true, is_some, not, Option, None, Some}
use Rattle.vx_data.specs.declared.ids.ContextId.{ContextId}
use Rattle.vx_request.specs.declared.requests.OpenRequest.{OpenRequest}
use Rattle.vx_request.specs.Stores.{is_request}
use Rattle.vx_bus_store.specs.Stores.{BusStore, asker_in, held_in}
use Rattle.vx_bus_delivery.proofs.Fewer.{fewer_left, filter_shorter}
use Rattle.vx_bus_delivery.proofs.outcomes.settle.Goals as goal

is_there : (found : Option OpenRequest) (asker : ContextId) → asker_in found ≡ Some asker → is_some found ≡ true
is_there None asker h = absurd cc
is_there (Some row) asker h = cc

pub returns-in-Some-clause-room : goal.returns-in-Some-clause-room
returns-in-Some-clause-room c = λ more had.
    let left = ap (λ (s : BusStore). length s.requests.waiting) c.put_outcome.ensures.tasks ∙ ap length c.settle.ensures.left in
    let fewer = fewer_left (is_request c.args.request) c.args.bus.now.requests.waiting (is_there _ c.in-Some.asker (sym c.settle.ensures.asker ∙ c.in-Some.is)) in
    let room = ap (λ (s : BusStore). s.room) c.settle.ensures.same in
    let held = ap (λ (s : BusStore). held_in s.consumers) c.put_outcome.ensures.tasks ∙ ap (λ (s : BusStore). held_in s.consumers) c.settle.ensures.same in
    record { items = omega (arith, c.put_outcome.ensures.items_room); tasks = omega (arith, c.put_outcome.ensures.tasks_room) }

pub returns-in_default-clause-room : goal.returns-in_default-clause-room
returns-in_default-clause-room c = λ more had.
    let left = ap length c.settle.ensures.left in
    let fewer = filter_shorter (λ row. not (is_request c.args.request row)) c.args.bus.now.requests.waiting in
    let room = ap (λ (s : BusStore). s.room) c.settle.ensures.same in
    let held = ap (λ (s : BusStore). held_in s.consumers) c.settle.ensures.same in
    record { items = omega arith; tasks = omega arith }
