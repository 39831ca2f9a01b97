use Rattle.std.proofs.Common.{◌≡◌, ◌+◌, ◌<◌, ◌≤◌, [], length, take, get_or, not, refl, ap, sym, ◌∙◌, append-nil, arith, rules}
use Rattle.std.specs.Prelude.{filter}
use Rattle.std.proofs.lemmas.List.{length_push}
use Rattle.vx_request.specs.Leaving.{fails_with}
use Rattle.vx_bus_store.specs.Stores.{BusStore}
use Rattle.vx_bus_delivery.proofs.LostRows.{one_more, none_more, no_more, room_left, contexts_more, bus_more}
use Rattle.vx_bus_delivery.proofs.leaving.fail_requests.Goals as goal
use Rattle.vx_bus_delivery.proofs.leaving.fail_requests.Goals.{then-fails_with, else-fails_with}

pub loop-index-init : goal.loop-index-init
loop-index-init c = record {
  items = ap (λ items. record c.args.contexts.now { waiting = items }) (sym (append-nil c.args.contexts.now.waiting));
  tasks = ap (λ tasks. record c.args.bus.now { tasks = tasks }) (sym (append-nil c.args.bus.now.tasks));
  place = refl;
  items_room = omega arith;
  tasks_room = omega arith;
}

pub put_lost-requires-clause-items : goal.put_lost-requires-clause-items
put_lost-requires-clause-items c =
    let within : c.loop-index.index < length c.args.bus.now.requests.waiting = omega (arith, c.open_count-index-end.ensures) in
    room_left (fails_with c.args.leaver c.args.bus.now.given) c.args.bus.now.requests.waiting c.loop-index.index c.args.contexts.now.room c.loop-index.contexts.room within (omega (arith, c.requires.places.items)) c.loop-index.invariant.items_room

pub put_lost-requires-clause-tasks : goal.put_lost-requires-clause-tasks
put_lost-requires-clause-tasks c =
    let within : c.loop-index.index < length c.args.bus.now.requests.waiting = omega (arith, c.open_count-index-end.ensures) in
    room_left (fails_with c.args.leaver c.args.bus.now.given) c.args.bus.now.requests.waiting c.loop-index.index c.args.bus.now.room c.loop-index.bus.room within c.requires.places.tasks c.loop-index.invariant.tasks_room

pub overflow_add-place : goal.overflow_add-place
overflow_add-place c =
    let within : c.loop-index.index < length c.args.bus.now.requests.waiting = omega (arith, c.open_count-index-end.ensures) in
    let few = no_more (fails_with c.args.leaver c.args.bus.now.given) c.args.bus.now.requests.waiting c.loop-index.index (omega arith) in
    let small : c.loop-index.place ≤ c.loop-index.index = omega (arith, few, c.loop-index.invariant.place) in
    search (rules, small)

pub loop-index-preserved : goal.loop-index-preserved
loop-index-preserved c =
    let rows = c.args.bus.now.requests.waiting in
    let test = fails_with c.args.leaver c.args.bus.now.given in
    let i = c.loop-index.index in
    let row = c.open_at-row.result in
    let same_rows : c.loop-index.bus.requests.waiting ≡ rows = ap (λ (s : BusStore). s.requests.waiting) c.loop-index.invariant.tasks in
    let within : i < length rows = omega (arith, c.open_count-index-end.ensures) in
    let read : row ≡ get_or rows i row = c.open_at-row.ensures ∙ ap (λ xs. get_or xs i row) same_rows in
    let tested : c.fails_with.result ≡ test row = c.fails_with.ensures ∙ ap (λ (s : BusStore). fails_with c.args.leaver s.given row) c.loop-index.invariant.tasks in
    elim c.if-fails_with.branch [
      | then-fails_with w ↦
          (let before = filter test (take i rows) in
          let all = filter test (take (i + 1) rows) in
          let lost = one_more test rows i row within read (sym tested ∙ w.if-fails_with.true) in
          let count = ap length lost ∙ length_push before row in
          record {
            items = rw w.contexts-is (contexts_more c.args.contexts.now c.loop-index.contexts w.put_lost.new.contexts c.args.at c.loop-index.place row before all c.loop-index.invariant.items w.put_lost.ensures.items c.loop-index.invariant.place lost);
            tasks = rw w.bus-is (bus_more c.args.bus.now c.loop-index.bus w.put_lost.new.bus row before all c.loop-index.invariant.tasks w.put_lost.ensures.tasks lost);
            place = omega (arith, w.place-is, count, c.loop-index.invariant.place);
            items_room = rw w.contexts-is (omega (arith, w.put_lost.ensures.items_room, count, c.loop-index.invariant.items_room));
            tasks_room = rw w.bus-is (omega (arith, w.put_lost.ensures.tasks_room, count, c.loop-index.invariant.tasks_room));
          })
      | else-fails_with w ↦
          (let same = none_more test rows i row within read (sym tested ∙ w.if-fails_with.false) in
          record {
            items = rw w.contexts-is (rw same c.loop-index.invariant.items);
            tasks = rw w.bus-is (rw same c.loop-index.invariant.tasks);
            place = rw w.place-is (rw same c.loop-index.invariant.place);
            items_room = rw w.contexts-is (rw same c.loop-index.invariant.items_room);
            tasks_room = rw w.bus-is (rw same c.loop-index.invariant.tasks_room);
          })
    ]
