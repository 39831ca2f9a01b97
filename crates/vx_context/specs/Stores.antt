-- What the store of contexts contains, however it keeps it.
use Rattle.std.specs.Prelude.{ℕ, Bool, true, false, not, ◌&&◌, if◌then◌else◌, List, length, filter, find, Option, None, Some}
use Rattle.std.specs.List.{list_any}
use Rattle.std.specs.Option.{option_or, option_and_then}
use Rattle.vx_data.specs.declared.ids.ContextId.{ContextId}
use Rattle.vx_data.specs.declared.ids.ConsumerId.{ConsumerId}
use Rattle.vx_data.specs.declared.ids.EntryNo.{EntryNo}
use Rattle.vx_data.specs.declared.ids.PoolId.{PoolId}
use Rattle.vx_message.specs.declared.Context.{Context}
use Rattle.vx_message.specs.declared.Lane.{Lane}
use Rattle.vx_message.specs.declared.Lane.TheVariants as lanes
use Rattle.vx_message.specs.declared.Item.{Item}
use Rattle.vx_message.specs.declared.ItemKind.{ItemKind}
use Rattle.vx_message.specs.declared.ItemKind.TheVariants as kinds
use Rattle.vx_message.specs.declared.Held.{Held}
use Rattle.vx_message.specs.declared.Mode.{Mode}
use Rattle.vx_message.specs.declared.Mode.TheVariants as modes
use Rattle.vx_message.specs.declared.Pool.{Pool}
use Rattle.vx_message.specs.Lanes.{same_lane}
use Rattle.vx_data.specs.Ids.{same_consumer, same_pool}
use Rattle.vx_call.specs.declared.history.Traced.{Traced}
use Rattle.vx_call.specs.Contexts.{is_context_of, context_at}
use Rattle.vx_call.specs.Given.{mode_of}
use Rattle.vx_call.specs.Held.{is_of_context, context_held, ordered_context}
use Rattle.vx_call.specs.Items.{Waiting}
use Rattle.vx_call.specs.Kinds.{kind_of}
use Rattle.vx_call.specs.Next.{is_full_of}
use Rattle.vx_context.specs.declared.contexts.Kept.{Kept}

-- the contexts, the same with the entries that closed them, the named pools, the tasks that are held and those that wait, how
-- many places are owed to tasks that come later, and for how many more that wait there is room
pub record ContextStore : Type 0 where
  pub made : List Context
  pub closings : List Kept
  pub pools : List Pool
  pub held : List Held
  pub waiting : List Item
  pub owed : ℕ
  pub room : ℕ

abbrev pub context_of : Kept → Context
context_of kept = kept.context

abbrev pub is_kept_of : ContextId → Kept → Bool
is_kept_of id kept = is_context_of id kept.context

-- the entry that closed a context
abbrev pub closed_in : ContextId → List Kept → Option EntryNo
closed_in id closings = option_and_then (λ (kept : Kept). kept.closed) (find (is_kept_of id) closings)

-- a context that is closed at this entry, if it was open
abbrev pub closed_then : EntryNo → Kept → Kept
closed_then at kept = record { context = kept.context; closed = option_or kept.closed (Some at) }

-- ... where it is the one of this name
abbrev pub closed_by : ContextId → EntryNo → Kept → Kept
closed_by id at kept = if is_kept_of id kept then closed_then at kept else kept

-- a context that is open
abbrev pub kept_open : Context → Kept
kept_open context = record { context = context; closed = None }

-- the lane of a context's tasks of a mode
abbrev pub lane_in : Option Context → Mode → Lane
lane_in None mode = lanes.Pool
lane_in (Some context) modes.Handler = context.lane
lane_in (Some context) _ = context.jobs

-- what the contexts keep of a task that waits
abbrev pub item_of : List Traced → Waiting → Item
item_of history waiting = record {
  entry = waiting.entry;
  place = waiting.place;
  context = waiting.context;
  lane = lane_in (context_at history waiting.context) (mode_of history waiting.task);
  mode = mode_of history waiting.task;
  kind = kind_of waiting.task;
}

-- a handler's task that waits, on the lane of its context
abbrev pub handler_item : List Context → EntryNo → ℕ → ContextId → ItemKind → Item
handler_item made entry place context kind = record {
  entry = entry;
  place = place;
  context = context;
  lane = lane_in (find (is_context_of context) made) modes.Handler;
  mode = modes.Handler;
  kind = kind;
}

abbrev pub is_pool : PoolId → Pool → Bool
is_pool id pool = same_pool id pool.id

-- whether a handler of the context runs
abbrev pub runs_in : List Held → ContextId → Bool
runs_in held context = list_any (λ (h : Held). is_of_context context (context_held h)) held

-- whether ordered blocking code of the context runs
abbrev pub runs_ordered_in : List Held → ContextId → Bool
runs_ordered_in held context = list_any (λ (h : Held). is_of_context context (ordered_context h.mode h.context)) held

-- whether nothing runs that keeps the item's task from running
abbrev pub may_run_of : List Held → Item → Mode → Bool
may_run_of held item modes.Handler = not (runs_in held item.context)
may_run_of held item modes.Ordered = not (runs_ordered_in held item.context)
may_run_of held item modes.Free = true

abbrev pub may_run_in : List Held → Item → Bool
may_run_in held item = may_run_of held item item.mode

-- whether the task was taken from the lane
abbrev pub is_held_on : Lane → Held → Bool
is_held_on lane h = same_lane lane h.lane

-- whether as many tasks of a named pool are held as it has workers
abbrev pub is_full_in : List Pool → List Held → Lane → Bool
is_full_in pools held (lanes.Named id) = is_full_of (length (filter (is_held_on (lanes.Named id)) held)) (find (is_pool id) pools)
is_full_in pools held _ = false

-- whether the item may be taken from the lane now
abbrev pub is_ready : List Pool → List Held → Lane → Item → Bool
is_ready pools held lane item = not (is_full_in pools held lane) && (same_lane lane item.lane && may_run_in held item)

-- whether it is a message for the consumer
abbrev pub is_item_for : ConsumerId → ItemKind → Bool
is_item_for id (kinds.Deliver consumer message) = same_consumer id consumer
is_item_for id _ = false
