-- What the stores lose with contexts that close.
use Rattle.std.specs.Prelude.{◌≡◌, ℕ, not, List, [], ◌∷◌, ◌++◌, filter, find, map, if◌then◌else◌, true}
use Rattle.std.specs.Option.{option_map, option_or}
use Rattle.vx_data.specs.declared.ids.ConsumerId.{ConsumerId}
use Rattle.vx_data.specs.declared.ids.ContextId.{ContextId}
use Rattle.vx_data.specs.declared.ids.EntryNo.{EntryNo}
use Rattle.vx_data.specs.declared.ids.MessageId.{MessageId}
use Rattle.vx_message.specs.declared.Item.{Item}
use Rattle.vx_timer.specs.declared.timers.Timer.{Timer}
use Rattle.vx_ring.specs.Rings.{is_empty, consumers_at, choices_at}
use Rattle.vx_request.specs.declared.leaver.Leaver.{Leaver}
use Rattle.vx_request.specs.Leaving.{has_context, ends_with}
use Rattle.vx_request.specs.Stores.{is_request, ended_at}
use Rattle.vx_call.specs.declared.reply.Task.{Task}
use Rattle.vx_call.specs.declared.history.Traced.{Traced}
use Rattle.vx_call.specs.Built.{AreStored}
use Rattle.vx_call.specs.Contexts.{contexts}
use Rattle.vx_call.specs.Pools.{pools}
use Rattle.vx_call.specs.Closings.{closed_at}
use Rattle.vx_call.specs.Lives.{ends_and_stops}
use Rattle.vx_call.specs.Items.{placed, waiting}
use Rattle.vx_context.specs.Stores.{ContextStore, closed_in, item_of}
use Rattle.vx_bus_store.specs.declared.bus.Handler.{Handler}
use Rattle.vx_bus_store.specs.Stores.{BusStore}
use Rattle.vx_bus_store.specs.Stands.{BusStands, TimersStand}
use Rattle.vx_bus_store.specs.Leaving.{leaves, leaves_at, is_task_of}
use Rattle.vx_bus_delivery.specs.Lost.{ended_rows, lost_rows, lost_items, lost_tasks, is_timer_of}

-- The consumers of the contexts that leave have ended, their tasks and the requests that end with them are gone, and the
-- outcomes of those whose asker stays wait for it, in order, at places from 0 on. Places that are owed stay so.
pub record Leaves (old_contexts new_contexts : ContextStore) (old_timers new_timers : List Timer) (old_bus new_bus : BusStore) (at : EntryNo) (leaver : Leaver) : Type 0 where
  pub contexts : new_contexts ≡ record old_contexts {
    closings = new_contexts.closings;
    waiting = filter (λ (item : Item). not (has_context leaver item.context)) old_contexts.waiting ++ lost_items old_contexts.made at 0 (lost_rows leaver old_bus);
    room = new_contexts.room;
  }
  pub timers : new_timers ≡ filter (λ (timer : Timer). not (is_timer_of (ended_rows leaver old_bus) timer)) old_timers
  pub bus : new_bus ≡ record old_bus {
    consumers = filter (λ (h : Handler). not (leaves leaver h)) old_bus.consumers;
    rings = new_bus.rings;
    tasks = filter (λ (task : Task). not (is_task_of leaver old_bus.consumers old_contexts.waiting task)) old_bus.tasks ++ lost_tasks (lost_rows leaver old_bus);
    requests = new_bus.requests;
    room = new_bus.room;
  }
  pub out_of_turn : (a : List ℕ) → consumers_at a new_bus.rings ≡ filter (λ (id : ConsumerId). not (leaves_at leaver old_bus.consumers a id)) (consumers_at a old_bus.rings)
  pub choices : (a : List ℕ) → (is_empty (consumers_at a old_bus.rings) ≡ true → choices_at a old_bus.rings ≡ 0) →
      choices_at a new_bus.rings ≡ (if is_empty (consumers_at a new_bus.rings) then 0 else choices_at a old_bus.rings)
  pub left : new_bus.requests.waiting ≡ filter (λ row. not (ends_with leaver old_bus.given row)) old_bus.requests.waiting
  pub ended : (id : MessageId) → ended_at id new_bus.requests.ended ≡ option_or (ended_at id old_bus.requests.ended) (option_map (λ _. at) (find (is_request id) (ended_rows leaver old_bus)))

-- The bus, the timers, the contexts, which of them are closed, and the pools are those of the history with the entry. So is
-- what waits, once what the entry makes ready behind the outcomes waits too, at places from this one on.
pub record BusCloses (context_store : ContextStore) (timer_list : List Timer) (bus_store : BusStore) (history : List Traced) (new : Traced) (place : ℕ) : Type 0 where
  pub stored : AreStored (history ++ new ∷ [])
  pub bus : BusStands bus_store (history ++ new ∷ [])
  pub timers : TimersStand timer_list (history ++ new ∷ [])
  pub made : context_store.made ≡ contexts (history ++ new ∷ [])
  pub closings : (id : ContextId) → closed_in id context_store.closings ≡ closed_at (history ++ new ∷ []) id
  pub pools : context_store.pools ≡ pools (history ++ new ∷ [])
  pub waiting : context_store.waiting ++ map (item_of (history ++ new ∷ [])) (placed history place (ends_and_stops history new)) ≡ map (item_of (history ++ new ∷ [])) (waiting (history ++ new ∷ []))
