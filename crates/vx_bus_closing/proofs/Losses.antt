-- What the stores lose, step by step.
use Rattle.std.proofs.Common.{◌≡◌, ℕ, ◌+◌, ◌≤◌, List, [], ◌∷◌, ◌++◌, length, refl, ap, sym, ◌∙◌, subst, arith}
use Rattle.std.specs.Prelude.{Bool, true, not, filter, find, Option, Some, None, if◌then◌else◌}
use Rattle.std.specs.Option.{option_map, option_or}
use Rattle.std.proofs.lemmas.List.Sums.{length-filter, count_by-le-length}
use Rattle.vx_data.specs.declared.ids.ConsumerId.{ConsumerId}
use Rattle.vx_data.specs.declared.ids.EntryNo.{EntryNo}
use Rattle.vx_data.specs.declared.ids.MessageId.{MessageId}
use Rattle.vx_message.specs.declared.Item.{Item}
use Rattle.vx_timer.specs.declared.timers.Timer.{Timer}
use Rattle.vx_ring.specs.Rings.{is_empty, consumers_at, choices_at}
use Rattle.vx_request.specs.declared.leaver.Leaver.{Leaver}
use Rattle.vx_request.specs.Leaving.{has_context, ends_with}
use Rattle.vx_request.specs.Stores.{is_request, ended_at}
use Rattle.vx_call.specs.declared.reply.Task.{Task}
use Rattle.vx_context.specs.Stores.{ContextStore}
use Rattle.vx_bus_store.specs.declared.bus.Handler.{Handler}
use Rattle.vx_bus_store.specs.Stores.{BusStore, held_in}
use Rattle.vx_bus_store.specs.Stands.{HavePlaces}
use Rattle.vx_bus_store.specs.Leaving.{leaves, leaves_at, is_task_of}
use Rattle.vx_bus_store.proofs.HeldCounts.{held_in-filter}
use Rattle.vx_bus_delivery.specs.Lost.{ended_rows, lost_rows, lost_items, lost_tasks, is_timer_of, EndsRequests}
use Rattle.vx_bus_closing.specs.Closing.{Leaves}

-- the consumers and the tasks of the contexts have left the bus
pub record BusLeft (old after : BusStore) (items : List Item) (leaver : Leaver) : Type 0 where
  pub left : after ≡ record old {
    consumers = filter (λ (h : Handler). not (leaves leaver h)) old.consumers;
    rings = after.rings;
    tasks = filter (λ (task : Task). not (is_task_of leaver old.consumers items task)) old.tasks;
    room = after.room;
  }
  pub out_of_turn : (a : List ℕ) → consumers_at a after.rings ≡ filter (λ (id : ConsumerId). not (leaves_at leaver old.consumers a id)) (consumers_at a old.rings)
  pub choices : (a : List ℕ) → (is_empty (consumers_at a old.rings) ≡ true → choices_at a old.rings ≡ 0) →
      choices_at a after.rings ≡ (if is_empty (consumers_at a after.rings) then 0 else choices_at a old.rings)

-- as the bus was told what waits
pub left_so : (old left : BusStore) (items waiting : List Item) (leaver : Leaver) → items ≡ waiting → BusLeft old left items leaver → BusLeft old left waiting leaver
left_so old left items waiting leaver same is_left = let P : List Item → Type 0 = λ all. BusLeft old left all leaver in subst P same is_left

-- and their tasks have left what waits
abbrev pub ItemsLeft : ContextStore → ContextStore → Leaver → Type 0
ItemsLeft old closed leaver = closed ≡ record old { closings = closed.closings; waiting = filter (λ (item : Item). not (has_context leaver item.context)) old.waiting; room = closed.room }

pub leaves_so : (old closed new : ContextStore) (timers new_timers : List Timer) (bus left new_bus : BusStore) (at : EntryNo) (leaver : Leaver) → BusLeft bus left old.waiting leaver → ItemsLeft old closed leaver →
    EndsRequests closed new timers new_timers left new_bus at leaver → Leaves old new timers new_timers bus new_bus at leaver
leaves_so old closed new timers new_timers bus left new_bus at leaver is_left is_closed ends =
    let rows : lost_rows leaver left ≡ lost_rows leaver bus = ap (lost_rows leaver) is_left.left in
    let all : ended_rows leaver left ≡ ended_rows leaver bus = ap (ended_rows leaver) is_left.left in
    let same : new.closings ≡ closed.closings = ap (λ (s : ContextStore). s.closings) ends.items in
    let turns : new_bus.rings ≡ left.rings = ap (λ (s : BusStore). s.rings) ends.tasks in
    record {
      contexts = ends.items
          ∙ ap (λ (s : ContextStore). record s { waiting = s.waiting ++ lost_items s.made at 0 (lost_rows leaver left); room = new.room }) is_closed
          ∙ ap (λ rs. record old { closings = closed.closings; waiting = filter (λ (item : Item). not (has_context leaver item.context)) old.waiting ++ lost_items old.made at 0 rs; room = new.room }) rows
          ∙ ap (λ closings. record old { closings = closings; waiting = filter (λ (item : Item). not (has_context leaver item.context)) old.waiting ++ lost_items old.made at 0 (lost_rows leaver bus); room = new.room }) (sym same);
      timers = ends.timers ∙ ap (λ rs. filter (λ (timer : Timer). not (is_timer_of rs timer)) timers) all;
      bus = ends.tasks
          ∙ ap (λ (s : BusStore). record s { tasks = s.tasks ++ lost_tasks (lost_rows leaver left); requests = new_bus.requests; room = new_bus.room }) is_left.left
          ∙ ap (λ rs. record bus {
            consumers = filter (λ (h : Handler). not (leaves leaver h)) bus.consumers;
            rings = left.rings;
            tasks = filter (λ (task : Task). not (is_task_of leaver bus.consumers old.waiting task)) bus.tasks ++ lost_tasks rs;
            requests = new_bus.requests;
            room = new_bus.room;
          }) rows
          ∙ ap (λ rings. record bus {
            consumers = filter (λ (h : Handler). not (leaves leaver h)) bus.consumers;
            rings = rings;
            tasks = filter (λ (task : Task). not (is_task_of leaver bus.consumers old.waiting task)) bus.tasks ++ lost_tasks (lost_rows leaver bus);
            requests = new_bus.requests;
            room = new_bus.room;
          }) (sym turns);
      out_of_turn = λ a. ap (consumers_at a) turns ∙ is_left.out_of_turn a;
      choices = λ a idle. ap (choices_at a) turns ∙ is_left.choices a idle ∙ ap (λ rings. if is_empty (consumers_at a rings) then 0 else choices_at a bus.rings) (sym turns);
      left = ends.left ∙ ap (λ (s : BusStore). filter (λ row. not (ends_with leaver s.given row)) s.requests.waiting) is_left.left;
      ended = λ id. ends.ended id
          ∙ ap (λ o. option_or o (option_map (λ _. at) (find (is_request id) (ended_rows leaver left)))) (ap (λ (s : BusStore). ended_at id s.requests.ended) is_left.left)
          ∙ ap (λ rs. option_or (ended_at id bus.requests.ended) (option_map (λ _. at) (find (is_request id) rs))) all;
    }

-- there are places for what is left
pub places_so : (old closed : ContextStore) (bus left : BusStore) (leaver : Leaver) → HavePlaces old bus → BusLeft bus left old.waiting leaver → ItemsLeft old closed leaver →
    old.room + length old.waiting ≤ closed.room + length closed.waiting → bus.room ≤ left.room → HavePlaces closed left
places_so old closed bus left leaver places is_left is_closed items tasks =
    let all : length left.requests.waiting ≡ length bus.requests.waiting = ap (λ (s : BusStore). length s.requests.waiting) is_left.left in
    let held : held_in left.consumers ≡ held_in (filter (λ (h : Handler). not (leaves leaver h)) bus.consumers) = ap (λ (s : BusStore). held_in s.consumers) is_left.left in
    let fewer = held_in-filter (λ (h : Handler). not (leaves leaver h)) bus.consumers in
    let p = λ (item : Item). not (has_context leaver item.context) in
    let waits = ap (λ (s : ContextStore). length s.waiting) is_closed in
    let room : old.room ≤ closed.room = omega (arith, waits, items, length-filter p old.waiting, count_by-le-length p old.waiting) in
    record { items = omega (arith, all, held, fewer, room, places.items); tasks = omega (arith, all, tasks, places.tasks) }
