-- The stores as requests end with what leaves: what is done, and that there are places for all that stay.
use Rattle.std.proofs.Common.{◌≡◌, ℕ, suc, ◌+◌, ◌≤◌, List, [], ◌∷◌, ◌++◌, length, refl, ap, sym, ◌∙◌, arith}
use Rattle.std.specs.Prelude.{Bool, true, false, not, cond, ◌&&◌, ◌||◌, filter, find, is_some, Option, None, Some}
use Rattle.std.specs.Option.{option_map, option_or}
use Rattle.std.proofs.lemmas.List.Filters.{length-filter_both}
use Rattle.vx_data.specs.declared.ids.EntryNo.{EntryNo}
use Rattle.vx_data.specs.declared.ids.MessageId.{MessageId}
use Rattle.vx_message.specs.declared.Given.{Given}
use Rattle.vx_timer.specs.declared.timers.Timer.{Timer}
use Rattle.vx_request.specs.declared.leaver.Leaver.{Leaver}
use Rattle.vx_request.specs.declared.leaver.Leaver.TheVariants as leavers
use Rattle.vx_request.specs.declared.requests.OpenRequest.{OpenRequest}
use Rattle.vx_request.specs.Leaving.{has_owner, is_left, ends_with, fails_with}
use Rattle.vx_request.specs.Stores.{is_request, ended_at}
use Rattle.vx_context.specs.Stores.{ContextStore}
use Rattle.vx_bus_store.specs.Stores.{BusStore, held_in}
use Rattle.vx_bus_store.specs.Stands.{HavePlaces}
use Rattle.vx_bus_delivery.specs.Lost.{ended_rows, lost_rows, lost_items, lost_tasks, is_timer_of, EndsRequests}

-- ## What is done

pub ends_requests : (old new : ContextStore) (timers new_timers : List Timer) (bus failed new_bus : BusStore) (at : EntryNo) (leaver : Leaver) →
    new ≡ record old { waiting = old.waiting ++ lost_items old.made at 0 (lost_rows leaver bus); room = new.room } →
    new_timers ≡ filter (λ timer. not (is_timer_of (ended_rows leaver bus) timer)) timers →
    failed ≡ record bus { tasks = bus.tasks ++ lost_tasks (lost_rows leaver bus); room = failed.room } →
    new_bus ≡ record failed { requests = new_bus.requests } →
    new_bus.requests.waiting ≡ filter (λ row. not (ends_with leaver failed.given row)) failed.requests.waiting →
    ((m : MessageId) → ended_at m new_bus.requests.ended ≡ option_or (ended_at m failed.requests.ended) (option_map (λ _. at) (find (is_request m) (filter (ends_with leaver failed.given) failed.requests.waiting)))) →
    EndsRequests old new timers new_timers bus new_bus at leaver
ends_requests old new timers new_timers bus failed new_bus at leaver items is_timers is_failed is_new left ended = record {
  items = items;
  timers = is_timers;
  tasks = is_new
      ∙ ap (λ (s : BusStore). record s { requests = new_bus.requests }) is_failed
      ∙ ap (λ room. record bus { tasks = bus.tasks ++ lost_tasks (lost_rows leaver bus); requests = new_bus.requests; room = room }) (sym (ap (λ (s : BusStore). s.room) is_new));
  left = left ∙ ap (λ (s : BusStore). filter (λ row. not (ends_with leaver s.given row)) s.requests.waiting) is_failed;
  ended = λ m. ended m
      ∙ ap (λ (s : BusStore). option_or (ended_at m s.requests.ended) (option_map (λ _. at) (find (is_request m) (filter (ends_with leaver s.given) s.requests.waiting)))) is_failed;
}

-- ## Places

fewer : {X : Type 0} (p q : X → Bool) → ((x : X) → p x ≡ true → q x ≡ true) → (xs : List X) → length (filter p xs) ≤ length (filter q xs)
fewer p q wider [] = omega arith
fewer {X} p q wider (x ∷ xs) =
    let rest = fewer p q wider xs in
    elim (p x) as (λ b. p x ≡ b → length (cond b (x ∷ filter p xs) (filter p xs)) ≤ length (cond (q x) (x ∷ filter q xs) (filter q xs))) [
      | true ↦ λ passes.
          (let same : length (cond (q x) (x ∷ filter q xs) (filter q xs)) ≡ suc (length (filter q xs)) = ap (λ b. length (cond b (x ∷ filter q xs) (filter q xs))) (wider x passes) in
          omega (arith, rest, same))
      | false ↦ λ fails. elim (q x) as (λ c. length (filter p xs) ≤ length (cond c (x ∷ filter q xs) (filter q xs))) [ true ↦ omega arith | false ↦ rest ]
    ] refl

either : (a b : Bool) → (not a && b) ≡ true → (a || b) ≡ true
either true b h = refl
either false b h = h

-- what fails ends
fails_ends : (leaver : Leaver) (given : List (ℕ × Given)) (row : OpenRequest) → fails_with leaver given row ≡ true → ends_with leaver given row ≡ true
fails_ends (leavers.Consumer consumer) given row fails = fails
fails_ends (leavers.Context context) given row fails = either (has_owner (leavers.Context context) row.asker) (is_left (leavers.Context context) given row) fails
fails_ends leavers.All given row fails = either (has_owner leavers.All row.asker) (is_left leavers.All given row) fails

-- where there were places for all, there are places for those that stay
enough : (ends fails : OpenRequest → Bool) → ((row : OpenRequest) → fails row ≡ true → ends row ≡ true) → (rows : List OpenRequest) (held before after : ℕ) → length rows + held ≤ before →
    before ≤ after + length (filter fails rows) → length (filter (λ row. not (ends row)) rows) + held ≤ after
enough ends fails wider rows held before after all few =
    let less = fewer fails ends wider rows in
    omega (arith, all, few, less, length-filter_both ends (λ row. not (ends row)) (λ _. refl) rows)

pub places_stay : (old new : ContextStore) (timers new_timers : List Timer) (bus failed new_bus : BusStore) (at : EntryNo) (leaver : Leaver) → HavePlaces old bus → EndsRequests old new timers new_timers bus new_bus at leaver →
    old.room ≤ new.room + length (lost_rows leaver bus) → bus.room ≤ failed.room + length (lost_rows leaver bus) → new_bus ≡ record failed { requests = new_bus.requests } → HavePlaces new new_bus
places_stay old new timers new_timers bus failed new_bus at leaver places ends items tasks is_new =
    let rows = bus.requests.waiting in
    let left : length new_bus.requests.waiting ≡ length (filter (λ row. not (ends_with leaver bus.given row)) rows) = ap length ends.left in
    let held : held_in new_bus.consumers ≡ held_in bus.consumers = ap (λ (s : BusStore). held_in s.consumers) ends.tasks in
    let room : new_bus.room ≡ failed.room = ap (λ (s : BusStore). s.room) is_new in
    let wider = fails_ends leaver bus.given in
    record {
      items = omega (arith, left, held, enough (ends_with leaver bus.given) (fails_with leaver bus.given) wider rows (held_in bus.consumers) old.room new.room places.items items);
      tasks = omega (arith, left, room, enough (ends_with leaver bus.given) (fails_with leaver bus.given) wider rows 0 bus.room failed.room (omega (arith, places.tasks)) tasks);
    }
