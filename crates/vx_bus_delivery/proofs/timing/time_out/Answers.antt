use Rattle.std.proofs.Common.{◌≡◌, not, filter, sym, ap, ◌∙◌, arith, refl, Bool, true, false, ◌&&◌, if◌then◌else◌, Option, None, Some}
use Rattle.std.specs.Option.{option_or, is_some}
use Rattle.vx_data.specs.declared.ids.EntryNo.{EntryNo}
use Rattle.vx_data.specs.Ids.{same_message}
use Rattle.vx_request.specs.Stores.{ended_at}
use Rattle.vx_data.specs.declared.ids.ContextId.{ContextId}
use Rattle.vx_request.specs.declared.requests.OpenRequest.{OpenRequest}
use Rattle.vx_request.specs.Stores.{is_request}
use Rattle.vx_request.proofs.Rows.{some_pass, all_counted, all_stay}
use Rattle.vx_bus_store.specs.Stores.{BusStore, asker_in, held_in}
use Rattle.vx_bus_delivery.proofs.timing.time_out.Goals as goal

asked_found : (found : Option OpenRequest) (asker : ContextId) → asker_in found ≡ Some asker → (row : OpenRequest) × (found ≡ Some row)
asked_found None asker asked = cc
asked_found (Some row) asker asked = (row, refl)

pub returns-in-Some-clause-places : goal.returns-in-Some-clause-places
returns-in-Some-clause-places c =
    let test = is_request c.args.request in
    let rows = c.args.bus.now.requests.waiting in
    let found = asked_found _ _ (sym c.settle.ensures.asker ∙ c.in-Some.is) in
    let passes = some_pass test rows found.0 found.1 in
    let counted = all_counted test rows in
    let left : c.put_outcome.new.bus.requests.waiting ≡ filter (λ row. not (test row)) rows = ap (λ (s : BusStore). s.requests.waiting) c.put_outcome.ensures.tasks ∙ c.settle.ensures.left in
    let same : c.settle.new.self.room ≡ c.args.bus.now.room = ap (λ (s : BusStore). s.room) c.settle.ensures.same in
    let held = ap (λ (s : BusStore). held_in s.consumers) c.put_outcome.ensures.tasks ∙ ap (λ (s : BusStore). held_in s.consumers) c.settle.ensures.same in
    record {
      items = rw left (omega (arith, held, passes, counted, c.requires.items, c.put_outcome.ensures.items_room));
      tasks = rw left (omega (arith, passes, counted, same, c.requires.tasks, c.put_outcome.ensures.tasks_room));
    }

pub returns-in_default-clause-places : goal.returns-in_default-clause-places
returns-in_default-clause-places c =
    let test = is_request c.args.request in
    let rows = c.args.bus.now.requests.waiting in
    let counted = all_counted test rows in
    let same : c.settle.new.self.room ≡ c.args.bus.now.room = ap (λ (s : BusStore). s.room) c.settle.ensures.same in
    let held = ap (λ (s : BusStore). held_in s.consumers) c.settle.ensures.same in
    record {
      items = rw c.settle.ensures.left (omega (arith, held, counted, c.requires.items));
      tasks = rw c.settle.ensures.left (omega (arith, counted, same, c.requires.tasks));
    }

pub returns-in-Some-clause-left_alone : goal.returns-in-Some-clause-left_alone
returns-in-Some-clause-left_alone c closed =
    let asked = ap asker_in (sym closed) ∙ sym c.settle.ensures.asker ∙ c.in-Some.is in
    cc

nothing_more : (named : Bool) (ended : Option EntryNo) (at : EntryNo) → option_or ended (if named && false then Some at else None) ≡ ended
nothing_more true None at = refl
nothing_more true (Some before) at = refl
nothing_more false None at = refl
nothing_more false (Some before) at = refl

pub returns-in_default-clause-left_alone : goal.returns-in_default-clause-left_alone
returns-in_default-clause-left_alone c closed =
    let test = is_request c.args.request in (
      refl,
      record {
        same = c.settle.ensures.same;
        waiting = c.settle.ensures.left ∙ sym (all_stay test c.args.bus.now.requests.waiting closed);
        ended = λ id. c.settle.ensures.ended id
            ∙ ap (λ (found : Option OpenRequest). option_or (ended_at id c.args.bus.now.requests.ended) (if same_message id c.args.request && is_some found then Some c.args.at else None)) closed
            ∙ nothing_more (same_message id c.args.request) (ended_at id c.args.bus.now.requests.ended) c.args.at;
      },
    )
