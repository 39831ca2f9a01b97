-- What the stores know of contexts before an entry's tasks are made ready.
use Rattle.std.specs.Prelude.{◌≡◌, List, length}
use Rattle.vx_data.specs.declared.ids.ContextId.{ContextId}
use Rattle.vx_data.specs.declared.ids.EntryNo.{EntryNo}
use Rattle.vx_call.specs.declared.history.Traced.{Traced}
use Rattle.vx_call.specs.Contexts.{contexts}
use Rattle.vx_call.specs.Closings.{open_contexts}
use Rattle.vx_call.specs.Closings as closings
use Rattle.vx_context.specs.Stores.{ContextStore}
use Rattle.vx_core_life.specs.Moving.{is_open_in}

-- the stores know the contexts of the history with the entry, which ones are open, and the entry's number
pub record Knows (store : ContextStore) (at : EntryNo) (history after : List Traced) : Type 0 where
  pub made : store.made ≡ contexts after
  pub opened : (context : ContextId) → is_open_in store context ≡ closings.is_open_in (open_contexts after) context
  pub entry : at.0 ≡ length history
