-- Entries that leave what the store keeps of each task that waits.
use Rattle.std.proofs.Common.{◌≡◌, List, [], ◌∷◌, ◌++◌, refl, ap, ◌∙◌}
use Rattle.std.specs.Prelude.{false, map, find}
use Rattle.vx_message.specs.declared.Context.{Context}
use Rattle.vx_message.specs.declared.Item.{Item}
use Rattle.vx_message.specs.declared.Lane.{Lane}
use Rattle.vx_message.specs.declared.Mode.{Mode}
use Rattle.vx_data.specs.Ids.{same_queued}
use Rattle.vx_call.specs.declared.reply.Task.{Task}
use Rattle.vx_call.specs.declared.reply.Task.TheVariants as tasks
use Rattle.vx_call.specs.declared.history.Traced.{Traced}
use Rattle.vx_call.specs.History.{made_by, ended_by, is_accepted}
use Rattle.vx_call.specs.Contexts.{context_kind, contexts, context_at, is_context_of}
use Rattle.vx_call.specs.Given.{mode_in, mode_of}
use Rattle.vx_call.specs.Items.{Waiting}
use Rattle.vx_call.specs.Kinds.{kind_of}
use Rattle.vx_call.specs.Queued.{Queued, queued_kind}
use Rattle.vx_call.proofs.Lasting.{lasting_same, and_false}
use Rattle.vx_context.specs.Stores.{lane_in, item_of}

pub never_ended : (history : List Traced) (new : Traced) (context : Context) → ended_by context_kind history new context ≡ false
never_ended history new context = and_false (is_accepted new.entry.reply)

pub contexts_stay : (history : List Traced) (new : Traced) → made_by context_kind history new ≡ [] → contexts (history ++ new ∷ []) ≡ contexts history
contexts_stay history new none = lasting_same context_kind history new none (never_ended history new)

-- an entry that makes no context, and hands no code to one
pub record LeavesItems (history : List Traced) (new : Traced) : Type 0 where
  pub contexts : made_by context_kind history new ≡ []
  pub queued : made_by queued_kind history new ≡ []

pub mode_left : (history : List Traced) (new : Traced) → made_by queued_kind history new ≡ [] → (task : Task) → mode_of (history ++ new ∷ []) task ≡ mode_of history task
mode_left history new none (tasks.Job id) =
    ap (λ all. mode_in (find (λ (queued : Queued). same_queued id queued.id) all)) (lasting_same queued_kind history new none (λ queued. and_false (is_accepted new.entry.reply)))
mode_left history new none _ = refl

abbrev item_with : Waiting → Lane → Mode → Item
item_with waiting lane mode =
    record { entry = waiting.entry; place = waiting.place; context = waiting.context; lane = lane; mode = mode; kind = kind_of waiting.task }

pub item_left : (history : List Traced) (new : Traced) → LeavesItems history new → (waiting : Waiting) → item_of (history ++ new ∷ []) waiting ≡ item_of history waiting
item_left history new leaves waiting =
    let after = history ++ new ∷ [] in
    let mode = mode_of after waiting.task in
    ap (λ (all : List Context). item_with waiting (lane_in (find (is_context_of waiting.context) all) mode) mode) (contexts_stay history new leaves.contexts)
    ∙ ap (λ (m : Mode). item_with waiting (lane_in (context_at history waiting.context) m) m) (mode_left history new leaves.queued waiting.task)

pub items_left : (history : List Traced) (new : Traced) → LeavesItems history new → (all : List Waiting) → map (item_of (history ++ new ∷ [])) all ≡ map (item_of history) all
items_left history new leaves [] = refl
items_left history new leaves (waiting ∷ others) =
    ap (λ item. item ∷ map (item_of (history ++ new ∷ [])) others) (item_left history new leaves waiting)
    ∙ ap (λ items. item_of history waiting ∷ items) (items_left history new leaves others)
