-- What becomes of requests that nobody can answer any more.
use Rattle.std.specs.Prelude.{ℕ, ◌≡◌, ◌+◌, Bool, not, List, [], ◌∷◌, ◌++◌, filter, find}
use Rattle.std.specs.List.{list_any}
use Rattle.std.specs.Option.{option_map, option_or}
use Rattle.vx_data.specs.declared.ids.EntryNo.{EntryNo}
use Rattle.vx_data.specs.declared.ids.MessageId.{MessageId}
use Rattle.vx_message.specs.declared.Context.{Context}
use Rattle.vx_message.specs.declared.Owner.{Owner}
use Rattle.vx_message.specs.declared.Item.{Item}
use Rattle.vx_message.specs.declared.ItemKind.TheVariants as kinds
use Rattle.vx_timer.specs.declared.timers.Timer.{Timer}
use Rattle.vx_timer.specs.Order.{is_named}
use Rattle.vx_request.specs.declared.requests.OpenRequest.{OpenRequest}
use Rattle.vx_request.specs.declared.leaver.Leaver.{Leaver}
use Rattle.vx_request.specs.Leaving.{ends_with, fails_with}
use Rattle.vx_request.specs.Stores.{is_request, ended_at}
use Rattle.vx_call.specs.declared.reply.Task.{Task}
use Rattle.vx_call.specs.Owners.{context_owning}
use Rattle.vx_call.specs.Settled.{no_handlers}
use Rattle.vx_context.specs.Stores.{ContextStore}
use Rattle.vx_bus_store.specs.Stores.{BusStore, home_item}
use Rattle.vx_bus_delivery.specs.Ending.{outcome_tasks}

-- the requests that end with what leaves, by id
abbrev pub ended_rows : Leaver → BusStore → List OpenRequest
ended_rows leaver bus = filter (ends_with leaver bus.given) bus.requests.waiting

-- those of them whose asker stays
abbrev pub lost_rows : Leaver → BusStore → List OpenRequest
lost_rows leaver bus = filter (fails_with leaver bus.given) bus.requests.waiting

-- the item of an outcome, where a context asked
abbrev pub lost_item : List Context → EntryNo → ℕ → MessageId → Owner → List Item
lost_item made at place id asker = home_item made at place (context_owning asker) (kinds.Outcome id)

abbrev pub lost_task : MessageId → Owner → List Task
lost_task id asker = outcome_tasks id no_handlers (context_owning asker)

-- the items of the outcomes of these requests, in order, at places from this one on
abbrev pub lost_items : List Context → EntryNo → ℕ → List OpenRequest → List Item
lost_items made at place [] = []
lost_items made at place (row ∷ rows) = lost_item made at place row.id row.asker ++ lost_items made at (place + 1) rows

abbrev pub lost_tasks : List OpenRequest → List Task
lost_tasks [] = []
lost_tasks (row ∷ rows) = lost_task row.id row.asker ++ lost_tasks rows

-- whether it is the timer of one of these requests
abbrev pub is_timer_of : List OpenRequest → Timer → Bool
is_timer_of rows timer = list_any (λ (row : OpenRequest). is_named row.id.0 timer) rows

-- The requests that end with what leaves have ended, their timers with them, and the outcomes of those whose asker stays wait
-- for it, in order.
pub record EndsRequests (old_contexts new_contexts : ContextStore) (old_timers new_timers : List Timer) (old_bus new_bus : BusStore) (at : EntryNo) (leaver : Leaver) : Type 0 where
  pub items : new_contexts ≡ record old_contexts { waiting = old_contexts.waiting ++ lost_items old_contexts.made at 0 (lost_rows leaver old_bus); room = new_contexts.room }
  pub timers : new_timers ≡ filter (λ timer. not (is_timer_of (ended_rows leaver old_bus) timer)) old_timers
  pub tasks : new_bus ≡ record old_bus { tasks = old_bus.tasks ++ lost_tasks (lost_rows leaver old_bus); requests = new_bus.requests; room = new_bus.room }
  pub left : new_bus.requests.waiting ≡ filter (λ row. not (ends_with leaver old_bus.given row)) old_bus.requests.waiting
  pub ended : (id : MessageId) → ended_at id new_bus.requests.ended ≡ option_or (ended_at id old_bus.requests.ended) (option_map (λ _. at) (find (is_request id) (ended_rows leaver old_bus)))
