-- What the ending of a request does to the stores.
use Rattle.std.specs.Prelude.{ℕ, ◌≡◌, not, ◌&&◌, if◌then◌else◌, List, [], ◌∷◌, ◌++◌, filter, find, is_some, Option, None, Some}
use Rattle.std.specs.Option.{option_or}
use Rattle.vx_data.specs.declared.ids.EntryNo.{EntryNo}
use Rattle.vx_data.specs.declared.ids.ContextId.{ContextId}
use Rattle.vx_data.specs.declared.ids.MessageId.{MessageId}
use Rattle.vx_message.specs.declared.Context.{Context}
use Rattle.vx_message.specs.declared.Item.{Item}
use Rattle.vx_message.specs.declared.ItemKind.TheVariants as kinds
use Rattle.vx_message.specs.declared.Outcome.{Outcome}
use Rattle.vx_timer.specs.declared.timers.Timer.{Timer}
use Rattle.vx_timer.specs.Order.{is_named}
use Rattle.vx_request.specs.Stores.{is_request, ended_at, given_at}
use Rattle.vx_call.specs.declared.reply.Task.{Task}
use Rattle.vx_call.specs.declared.reply.Task.TheVariants as tasks
use Rattle.vx_data.specs.Ids.{same_message}
use Rattle.vx_call.specs.Settled.{no_handlers, timeout}
use Rattle.vx_context.specs.Stores.{ContextStore, handler_item}
use Rattle.vx_bus_store.specs.Stores.{BusStore, asker_in}

-- ## The outcome of a request, for the context that asked, if one did

abbrev pub outcome_item : List Context → EntryNo → MessageId → ContextId → Item
outcome_item made at request asker = handler_item made at 0 asker (kinds.Outcome request)

abbrev pub outcome_items : List Context → EntryNo → MessageId → Option ContextId → List Item
outcome_items made at request None = []
outcome_items made at request (Some asker) = outcome_item made at request asker ∷ []

abbrev pub outcome_tasks : MessageId → Outcome → Option ContextId → List Task
outcome_tasks request outcome None = []
outcome_tasks request outcome (Some asker) = tasks.Outcome request outcome ∷ []

-- the timers without that of the request, if a context asked
abbrev pub without_timer : MessageId → Option ContextId → List Timer → List Timer
without_timer request None timers = timers
without_timer request (Some asker) timers = filter (λ timer. not (is_named request.0 timer)) timers

-- the context that waits for the outcome of a request, where it is open
abbrev pub asker_there : MessageId → BusStore → Option ContextId
asker_there request bus = asker_in (find (is_request request) bus.requests.waiting)

-- ## What is done

-- the request ends where it is open, its timer with it, and its outcome waits for the asker
pub record Settles (old_contexts new_contexts : ContextStore) (old_timers new_timers : List Timer) (old_bus new_bus : BusStore) (at : EntryNo) (request : MessageId) (outcome : Outcome) : Type 0 where
  pub items : new_contexts ≡ record old_contexts { waiting = old_contexts.waiting ++ outcome_items old_contexts.made at request (asker_there request old_bus); room = new_contexts.room }
  pub timers : new_timers ≡ without_timer request (asker_there request old_bus) old_timers
  pub tasks : new_bus ≡ record old_bus { requests = new_bus.requests; tasks = old_bus.tasks ++ outcome_tasks request outcome (asker_there request old_bus); room = new_bus.room }
  pub left : new_bus.requests.waiting ≡ filter (λ row. not (is_request request row)) old_bus.requests.waiting
  pub ended : (id : MessageId) → ended_at id new_bus.requests.ended
      ≡ option_or (ended_at id old_bus.requests.ended) (if same_message id request && is_some (find (is_request request) old_bus.requests.waiting) then Some at else None)

-- a request's time is up: it ends, and its outcome waits for the asker
pub record TimesOut (old_contexts new_contexts : ContextStore) (old_bus new_bus : BusStore) (at : EntryNo) (place : ℕ) (request : MessageId) (asker : ContextId) : Type 0 where
  pub items : new_contexts ≡ record old_contexts { waiting = old_contexts.waiting ++ handler_item old_contexts.made at place asker (kinds.Outcome request) ∷ []; room = new_contexts.room }
  pub tasks : new_bus ≡ record old_bus { tasks = old_bus.tasks ++ tasks.Outcome request timeout ∷ []; requests = new_bus.requests; room = new_bus.room }
  pub left : new_bus.requests.waiting ≡ filter (λ row. not (is_request request row)) old_bus.requests.waiting
  pub ended : (id : MessageId) → ended_at id new_bus.requests.ended ≡ option_or (ended_at id old_bus.requests.ended) (if same_message id request then Some at else None)

-- a request that is not open stays so, and all else stays
pub record IsLeftAlone (old new : BusStore) : Type 0 where
  pub same : new ≡ record old { requests = new.requests }
  pub waiting : new.requests.waiting ≡ old.requests.waiting
  pub ended : (id : MessageId) → ended_at id new.requests.ended ≡ ended_at id old.requests.ended

-- the request that this entry makes has ended at once, and its outcome waits for the asker
pub record EndsUnheard (old_contexts new_contexts : ContextStore) (old_bus new_bus : BusStore) (at : EntryNo) (asker : ContextId) : Type 0 where
  pub items : new_contexts ≡ record old_contexts { waiting = old_contexts.waiting ++ outcome_item old_contexts.made at (record { 0 = at }) asker ∷ []; room = new_contexts.room }
  pub tasks : new_bus ≡ record old_bus { requests = new_bus.requests; given = new_bus.given; tasks = old_bus.tasks ++ tasks.Outcome (record { 0 = at }) no_handlers ∷ []; room = new_bus.room }
  pub given : (id : MessageId) → given_at id new_bus.given ≡ given_at id old_bus.given
  pub left : new_bus.requests.waiting ≡ old_bus.requests.waiting
  pub ended : (id : MessageId) → ended_at id new_bus.requests.ended ≡ option_or (ended_at id old_bus.requests.ended) (if same_message id (record { 0 = at }) then Some at else None)
