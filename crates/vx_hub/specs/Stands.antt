-- The histories that a hub stands for.
use Rattle.std.specs.Prelude.{◌≡◌, ℕ, ◌<◌, ℤ, false, List, [], ◌∷◌, ◌++◌}
use Rattle.vx_data.specs.declared.ids.PassNo.{PassNo}
use Rattle.vx_timer.specs.declared.timers.Timer.{Timer}
use Rattle.vx_call.specs.declared.call.Call.{Call}
use Rattle.vx_call.specs.declared.reply.Reply.{Reply}
use Rattle.vx_call.specs.declared.history.Traced.{Traced}
use Rattle.vx_call.specs.History.{is_accepted}
use Rattle.vx_call.specs.Passes.{passes}
use Rattle.vx_call.specs.Time.{now}
use Rattle.vx_call.specs.Machine.{row, answer, extended_with, IsLegal}
use Rattle.vx_call.specs.Unchanged.{IsUnchanged}
use Rattle.vx_life.specs.Stores.{LifeStore}
use Rattle.vx_context.specs.Stores.{ContextStore}
use Rattle.vx_bus_store.specs.Stores.{BusStore}
use Rattle.vx_core_life.specs.Stands as lives
use Rattle.vx_core_tasks.specs.Named.{NameContexts}
use Rattle.vx_instances.specs.Instances.{InstancesStand}
use Rattle.vx_hub.specs.Counts.{counted}
use Rattle.vx_hub.specs.Stores.{HubStore}

-- ## The hub

-- the number of passes, the moment and the stores are those of the history, whose consumers and requests name contexts
-- that are there
pub record PartsStand (pass_count : ℕ) (moment : ℕ) (life_store : LifeStore) (context_store : ContextStore) (timer_list : List Timer) (bus_store : BusStore) (history : List Traced) : Type 0 where
  pub passes : pass_count ≡ passes history
  pub now : moment ≡ now history
  pub named : NameContexts history
  pub all : lives.AllStand life_store context_store timer_list bus_store history

-- what the hub has counted and its parts are those of the history
pub record HubStands (hub : HubStore) (history : List Traced) : Type 0 where
  pub counts : hub.counts ≡ counted history
  pub parts : PartsStand hub.passes hub.now hub.life hub.contexts hub.timers hub.bus history

-- ... and the verticles that it keeps
pub record AllStand (hub : HubStore) (history : List Traced) : Type 0 where
  pub parts : HubStands hub history
  pub instances : InstancesStand hub.instances history

-- The hub stands for a history: its parts are those of the history, it keeps the verticles that the history says, each with
-- its state, and each reply in the history is the machine's.
pub record StandsFor (hub : HubStore) (history : List Traced) : Type 0 where
  pub parts : HubStands hub history
  pub instances : InstancesStand hub.instances history
  pub legal : IsLegal history

-- ## What a call promises

-- The reply is the machine's, and the hub stands for the history that the call leaves: one more entry, with the states of
-- the verticles that go with it, but none where the history is spent. A refused call changes nothing else.
pub record Answered (new : HubStore) (history : List Traced) (pass : PassNo) (call : Call) (reply : Reply) (states : List (List ℤ)) : Type 0 where
  pub answered : reply ≡ answer history pass call
  pub stands : StandsFor new (extended_with history pass call reply states)
  pub refused : is_accepted reply ≡ false → IsUnchanged history (extended_with history pass call reply states)

-- whatever history the hub stood for, a call of a pass that is there is answered as the machine answers it
abbrev pub Meets : HubStore → HubStore → PassNo → Call → Reply → List (List ℤ) → Type 0
Meets old new pass call reply states = (history : List Traced) → StandsFor old history → pass.0 < passes history → Answered new history pass call reply states

-- the hub stands for whatever it stood for
abbrev pub Keeps : HubStore → HubStore → Type 0
Keeps old new = (history : List Traced) → StandsFor old history → StandsFor new history

-- ## What a row promises

-- the reply is that of the call's row, and the parts are those of the history with this entry
pub record PartsFollow (pass_count : ℕ) (moment : ℕ) (life_store : LifeStore) (context_store : ContextStore) (timer_list : List Timer) (bus_store : BusStore) (history : List Traced) (new : Traced) : Type 0 where
  pub answered : new.entry.reply ≡ row history new.entry.pass new.entry.call
  pub parts : PartsStand pass_count moment life_store context_store timer_list bus_store (history ++ new ∷ [])

-- the hub's parts are those of some history in which each reply is the machine's
abbrev pub IsOfHistory : HubStore → Type 0
IsOfHistory hub = ∥ ((history : List Traced) × (HubStands hub history × IsLegal history)) ∥₁
