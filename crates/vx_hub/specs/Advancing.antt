-- How far an Advance has come with the requests whose time is up.
use Rattle.std.specs.Prelude.{◌≡◌, ℕ, ◌≤◌, ◌<◌, Bool, not, List, ◌++◌, length, take, drop, map, filter, find, All}
use Rattle.std.specs.List.{list_any}
use Rattle.std.specs.Option.{option_map, option_or}
use Rattle.vx_data.specs.declared.ids.MessageId.{MessageId}
use Rattle.vx_timer.specs.declared.timers.Timer.{Timer}
use Rattle.vx_request.specs.Stores.{ended_at}
use Rattle.vx_call.specs.declared.history.Traced.{Traced}
use Rattle.vx_data.specs.Ids.{same_message}
use Rattle.vx_call.specs.Homes.{heard}
use Rattle.vx_call.specs.Names.{next_entry}
use Rattle.vx_call.specs.Requests.{Open, unsettled, by_due}
use Rattle.vx_call.specs.Settled.{timeout, settlements}
use Rattle.vx_call.specs.declared.reply.Task.{Task}
use Rattle.vx_call.specs.Items.{Waiting, outcome_items, outcome_tasks}
use Rattle.vx_context.specs.Stores.{ContextStore, item_of}
use Rattle.vx_bus_store.specs.Stores.{BusStore, row_of, timer_of}

-- the open requests by due moment, of which the first so many have ended
abbrev pub ended_first : List Traced → ℕ → List Open
ended_first history count = take count (by_due (unsettled history))

abbrev pub is_among : List Open → Open → Bool
is_among requests request = list_any (λ (other : Open). same_message other.id request.id) requests

-- what their outcomes wait as
abbrev pub timeouts : List Traced → ℕ → List Waiting
timeouts history count = outcome_items 0 (heard (settlements history timeout (ended_first history count)))

-- their outcomes
abbrev pub timed_out : List Traced → ℕ → List Task
timed_out history count = outcome_tasks (heard (settlements history timeout (ended_first history count)))

-- the first so many of the requests by due moment have ended, each of which was due
pub record Advanced (old_contexts new_contexts : ContextStore) (new_timers : List Timer) (old_bus new_bus : BusStore) (history : List Traced) (moment : ℕ) (count : ℕ) : Type 0 where
  pub within : count ≤ length (by_due (unsettled history))
  pub due : All (λ (request : Open). request.due ≤ moment) (ended_first history count)
  pub items : new_contexts ≡ record old_contexts { waiting = old_contexts.waiting ++ map (item_of history) (timeouts history count); room = new_contexts.room }
  pub timers : new_timers ≡ map timer_of (drop count (by_due (unsettled history)))
  pub tasks : new_bus ≡ record old_bus { tasks = old_bus.tasks ++ timed_out history count; requests = new_bus.requests; room = new_bus.room }
  pub left : new_bus.requests.waiting ≡ map row_of (filter (λ request. not (is_among (ended_first history count) request)) (unsettled history))
  pub ended : (id : MessageId) → ended_at id new_bus.requests.ended ≡ option_or (ended_at id old_bus.requests.ended) (option_map (λ _. next_entry history) (find (λ (request : Open). same_message id request.id) (ended_first history count)))

-- and those behind them are due later
pub record HasAdvanced (old_contexts new_contexts : ContextStore) (new_timers : List Timer) (old_bus new_bus : BusStore) (history : List Traced) (moment : ℕ) (count : ℕ) : Type 0 where
  pub advanced : Advanced old_contexts new_contexts new_timers old_bus new_bus history moment count
  pub later : All (λ (request : Open). moment < request.due) (drop count (by_due (unsettled history)))
