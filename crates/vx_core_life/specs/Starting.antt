-- The verticles that a Deploy makes, as the stores have them.
use Rattle.std.specs.Prelude.{◌≡◌, ℕ, ◌+◌, ◌%◌, Bool, if◌then◌else◌, List, ◌++◌, map, None}
use Rattle.vx_data.specs.declared.ids.ContextId.{ContextId}
use Rattle.vx_data.specs.declared.ids.DeploymentId.{DeploymentId}
use Rattle.vx_data.specs.declared.ids.EntryNo.{EntryNo}
use Rattle.vx_message.specs.declared.Context.{Context}
use Rattle.vx_message.specs.declared.Item.{Item}
use Rattle.vx_message.specs.declared.ItemKind.TheVariants as kinds
use Rattle.vx_message.specs.declared.Lane.{Lane}
use Rattle.vx_message.specs.declared.Lane.TheVariants as lanes
use Rattle.vx_tree.specs.Nodes.{contexts_of}
use Rattle.vx_life.specs.Stores.{LifeStore}
use Rattle.vx_context.specs.Stores.{ContextStore, closed_in, handler_item}

-- the lane of the instance of this number: a worker's is that of its pool, a standard one's an event loop
abbrev pub lane_for : LifeStore → Bool → Lane → ℕ → Lane
lane_for life worker pool number = if worker then pool else lanes.Loop ((life.standard + number) % life.loops)

-- the context of the instance of this name
abbrev pub new_context : LifeStore → Bool → Lane → ContextId → Context
new_context life worker pool id = record { id = id; maker = None; lane = lane_for life worker pool id.instance; jobs = pool }

-- the contexts of so many verticles of a deployment
abbrev pub new_contexts : LifeStore → Bool → Lane → DeploymentId → ℕ → List Context
new_contexts life worker pool id count = map (new_context life worker pool) (contexts_of id 0 count)

-- the start of a verticle, at the place of its number
abbrev pub start_item : List Context → EntryNo → Context → Item
start_item made at context = handler_item made at context.id.instance context.id (kinds.Start context.id)

-- the contexts with those that a Deploy makes
pub record Adds (more : List Context) (old new : ContextStore) : Type 0 where
  pub rest : new ≡ record old { made = old.made ++ more; closings = new.closings }
  pub closed : (id : ContextId) → closed_in id new.closings ≡ closed_in id old.closings

-- ... whose starts wait
abbrev pub Starts : EntryNo → List Context → ContextStore → ContextStore → Type 0
Starts at more old new = new ≡ record old { waiting = old.waiting ++ map (start_item old.made at) more; owed = new.owed; room = new.room }
