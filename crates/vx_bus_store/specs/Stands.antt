-- The histories that the bus stands for, with the stores that it is lent.
use Rattle.std.specs.Prelude.{◌≡◌, ℕ, ◌≤◌, ◌+◌, not, List, [], ◌∷◌, ◌++◌, length, map}
use Rattle.vx_data.specs.declared.ids.EntryNo.{EntryNo}
use Rattle.vx_data.specs.declared.ids.PassNo.{PassNo}
use Rattle.vx_data.specs.declared.ids.MessageId.{MessageId}
use Rattle.vx_timer.specs.declared.timers.Timer.{Timer}
use Rattle.vx_ring.specs.Rings.{consumers_at, choices_at}
use Rattle.vx_request.specs.Stores.{ended_at, given_at}
use Rattle.vx_call.specs.declared.call.Call.{Call}
use Rattle.vx_call.specs.declared.reply.Reply.{Reply}
use Rattle.vx_call.specs.declared.history.Traced.{Traced}
use Rattle.vx_call.specs.History.{plain_entry, no_mark}
use Rattle.vx_call.specs.Consumers.{consumers, handlers}
use Rattle.vx_call.specs.Choices.{choices}
use Rattle.vx_call.specs.Given.{given}
use Rattle.vx_call.specs.Requests.{unsettled, by_due}
use Rattle.vx_call.specs.Time.{now}
use Rattle.vx_call.specs.Settled.{settled_at}
use Rattle.vx_call.specs.Built.{AreStored}
use Rattle.vx_call.specs.Codecs.{codecs}
use Rattle.vx_call.specs.Rules.{rules}
use Rattle.vx_call.specs.Items.{untaken}
use Rattle.vx_call.specs.Rows.{ids_of}
use Rattle.vx_call.specs.Machine.{row}
use Rattle.vx_context.specs.Stores.{ContextStore}
use Rattle.vx_context.specs.Stands.{ContextsStand, IsNext}
use Rattle.vx_bus_store.specs.Stores.{BusStore, handler_of, held_in, row_of, timer_of}

-- ## The stores, with an equation for each part

pub record BusStands (store : BusStore) (history : List Traced) : Type 0 where
  pub consumers : store.consumers ≡ map (handler_of history) (consumers history)
  pub rings : (address : List ℕ) → consumers_at address store.rings ≡ ids_of (handlers history address)
  pub choices : (address : List ℕ) → choices_at address store.rings ≡ choices history address
  pub tasks : store.tasks ≡ untaken history
  pub opened : store.requests.waiting ≡ map row_of (unsettled history)
  pub ended : (id : MessageId) → ended_at id store.requests.ended ≡ settled_at history id
  pub given : (id : MessageId) → given_at id store.given ≡ given history id
  pub codecs : store.codecs ≡ codecs history
  pub rules : store.rules ≡ rules history

-- the timers are those of the requests that wait, by (due moment, id)
abbrev pub TimersStand : List Timer → List Traced → Type 0
TimersStand timers history = timers ≡ map timer_of (by_due (unsettled history))

-- all three are those of the history, whose calls are those of the event bus and of verticles
pub record StoresStand (context_store : ContextStore) (timer_list : List Timer) (bus_store : BusStore) (history : List Traced) : Type 0 where
  pub stored : AreStored history
  pub contexts : ContextsStand context_store history
  pub timers : TimersStand timer_list history
  pub bus : BusStands bus_store history

-- the stores are those of some history, legal or not
abbrev pub AreOfOneHistory : ContextStore → List Timer → BusStore → Type 0
AreOfOneHistory contexts timers bus = ∥ ((history : List Traced) × StoresStand contexts timers bus history) ∥₁

-- ## Room

-- there is room for the outcome of each request that waits, and for each message that is held to be made ready
pub record HavePlaces (contexts : ContextStore) (bus : BusStore) : Type 0 where
  pub items : length bus.requests.waiting + held_in bus.consumers ≤ contexts.room
  pub tasks : length bus.requests.waiting ≤ bus.room

-- there is room for so many tasks more, beside those
pub record HaveRoom (contexts : ContextStore) (bus : BusStore) (more : ℕ) : Type 0 where
  pub items : length bus.requests.waiting + held_in bus.consumers + more ≤ contexts.room
  pub tasks : length bus.requests.waiting + more ≤ bus.room

-- ## What a row promises

-- the reply is that of the call's row, and the stores are those of the history with this entry
pub record Follows (contexts : ContextStore) (timers : List Timer) (bus : BusStore) (history : List Traced) (pass : PassNo) (call : Call) (reply : Reply) : Type 0 where
  pub answered : reply ≡ row history pass call
  pub stores : StoresStand contexts timers bus (history ++ plain_entry pass call reply no_mark ∷ [])

-- the entry's number and the moment are those of the history
pub record IsAt (at : EntryNo) (moment : ℕ) (history : List Traced) : Type 0 where
  pub next : IsNext at history
  pub now : moment ≡ now history
