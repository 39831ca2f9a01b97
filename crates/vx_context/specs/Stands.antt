-- The histories that the store of contexts stands for.
use Rattle.std.specs.Prelude.{◌≡◌, List, [], ◌∷◌, ◌++◌, length, map}
use Rattle.vx_data.specs.declared.ids.ContextId.{ContextId}
use Rattle.vx_data.specs.declared.ids.EntryNo.{EntryNo}
use Rattle.vx_data.specs.declared.ids.PassNo.{PassNo}
use Rattle.vx_call.specs.declared.call.Call.{Call}
use Rattle.vx_call.specs.declared.reply.Reply.{Reply}
use Rattle.vx_call.specs.declared.history.Traced.{Traced}
use Rattle.vx_call.specs.History.{plain_entry, no_mark}
use Rattle.vx_call.specs.Contexts.{contexts}
use Rattle.vx_call.specs.Closings.{closed_at}
use Rattle.vx_call.specs.Pools.{pools}
use Rattle.vx_call.specs.Items.{waiting}
use Rattle.vx_call.specs.Held.{held}
use Rattle.vx_call.specs.Machine.{row}
use Rattle.vx_context.specs.Stores.{ContextStore, closed_in, item_of}

-- the store's parts are those of the history
pub record ContextsStand (store : ContextStore) (history : List Traced) : Type 0 where
  pub made : store.made ≡ contexts history
  pub closings : (id : ContextId) → closed_in id store.closings ≡ closed_at history id
  pub held : store.held ≡ held history
  pub pools : store.pools ≡ pools history
  pub waiting : store.waiting ≡ map (item_of history) (waiting history)

-- What a row promises that moves the contexts alone: the reply is that of the call's row, and the store is that of the
-- history with this entry.
pub record ContextsFollow (store : ContextStore) (history : List Traced) (pass : PassNo) (call : Call) (reply : Reply) : Type 0 where
  pub answered : reply ≡ row history pass call
  pub stands : ContextsStand store (history ++ plain_entry pass call reply no_mark ∷ [])

-- the number is that of the entry which comes next
abbrev pub IsNext : EntryNo → List Traced → Type 0
IsNext at history = at.0 ≡ length history
