-- The histories that the stores of the event bus and of the lives of verticles stand for together.
use Rattle.std.specs.Prelude.{◌≡◌, List, [], ◌∷◌, ◌++◌, map, Result, Ok, Err}
use Rattle.vx_data.specs.declared.ids.ContextId.{ContextId}
use Rattle.vx_data.specs.declared.ids.EntryNo.{EntryNo}
use Rattle.vx_message.specs.declared.Held.{Held}
use Rattle.vx_timer.specs.declared.timers.Timer.{Timer}
use Rattle.vx_call.specs.declared.reply.Refusal.{Refusal}
use Rattle.vx_call.specs.declared.reply.Reply.{Reply}
use Rattle.vx_call.specs.declared.reply.Reply.TheVariants as replies
use Rattle.vx_call.specs.declared.history.Traced.{Traced}
use Rattle.vx_call.specs.Built.{AreStored}
use Rattle.vx_call.specs.Contexts.{contexts}
use Rattle.vx_call.specs.Pools.{pools}
use Rattle.vx_call.specs.Items.{waiting}
use Rattle.vx_call.specs.Closings.{closed_at}
use Rattle.vx_call.specs.Machine.{row, IsLegal}
use Rattle.vx_context.specs.Stores.{ContextStore, closed_in, item_of}
use Rattle.vx_context.specs.Stands.{ContextsStand, IsNext}
use Rattle.vx_bus_store.specs.Stores.{BusStore}
use Rattle.vx_bus_store.specs.Stands.{BusStands, TimersStand, StoresStand}
use Rattle.vx_life.specs.Stores.{LifeStore}
use Rattle.vx_life.specs.Stands.{LifeStands}

-- all are those of the history
pub record AllStand (life_store : LifeStore) (context_store : ContextStore) (timer_list : List Timer) (bus_store : BusStore) (history : List Traced) : Type 0 where
  pub stores : StoresStand context_store timer_list bus_store history
  pub lives : LifeStands life_store history

-- all are those of the history but the tasks that passes hold: these are the ones
pub record StandButHeld (life_store : LifeStore) (context_store : ContextStore) (timer_list : List Timer) (bus_store : BusStore) (tasks : List Held) (history : List Traced) : Type 0 where
  pub stored : AreStored history
  pub made : context_store.made ≡ contexts history
  pub closings : (id : ContextId) → closed_in id context_store.closings ≡ closed_at history id
  pub held : context_store.held ≡ tasks
  pub pools : context_store.pools ≡ pools history
  pub waiting : context_store.waiting ≡ map (item_of history) (waiting history)
  pub timers : TimersStand timer_list history
  pub bus : BusStands bus_store history
  pub lives : LifeStands life_store history

-- all are those of some history in which each reply is the machine's, and the entry of this number comes next
abbrev pub AreAt : EntryNo → LifeStore → ContextStore → List Timer → BusStore → Type 0
AreAt at life contexts timers bus = ∥ ((history : List Traced) × (IsLegal history × (IsNext at history × AllStand life contexts timers bus history))) ∥₁

-- the lives and the contexts are those of some history, legal or not
abbrev pub AreOfOneLife : LifeStore → ContextStore → Type 0
AreOfOneLife life contexts = ∥ ((history : List Traced) × (ContextsStand contexts history × LifeStands life history)) ∥₁

-- What a row promises: the entry's reply is that of the call's row, and the stores are those of the history with this entry.
pub record LivesFollow (life_store : LifeStore) (context_store : ContextStore) (timer_list : List Timer) (bus_store : BusStore) (history : List Traced) (new : Traced) : Type 0 where
  pub answered : new.entry.reply ≡ row history new.entry.pass new.entry.call
  pub all : AllStand life_store context_store timer_list bus_store (history ++ new ∷ [])

-- what the end of a task is answered
abbrev pub finished : Result Unit Refusal → Reply
finished (Ok _) = replies.Done
finished (Err refusal) = replies.Refused refusal
