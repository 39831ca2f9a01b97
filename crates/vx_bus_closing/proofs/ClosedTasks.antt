-- The tasks that are gone with contexts, told from the consumers and from what waits.
use Rattle.std.proofs.Common.{◌≡◌, ℕ, List, [], ◌∷◌, ◌++◌, refl, ap, sym, ◌∙◌}
use Rattle.std.specs.Prelude.{Bool, true, false, not, ◌&&◌, map, filter, find, Option, None, Some}
use Rattle.std.specs.List.{list_any}
use Rattle.std.specs.Option.{option_map}
use Rattle.vx_data.specs.declared.ids.ContextId.{ContextId}
use Rattle.vx_data.specs.declared.ids.MessageId.{MessageId}
use Rattle.vx_message.specs.declared.Item.{Item}
use Rattle.vx_message.specs.declared.Owner.{Owner}
use Rattle.vx_message.specs.declared.Owner.TheVariants as owners
use Rattle.vx_request.specs.declared.leaver.Leaver.{Leaver}
use Rattle.vx_request.specs.Leaving.{has_context, has_owner}
use Rattle.vx_call.specs.declared.reply.Task.{Task}
use Rattle.vx_call.specs.declared.reply.Task.TheVariants as tasks
use Rattle.vx_call.specs.declared.history.Consumer.{Consumer}
use Rattle.vx_call.specs.declared.history.Traced.{Traced}
use Rattle.vx_call.specs.Kinds.{kind_of}
use Rattle.vx_call.specs.Given.{context_of}
use Rattle.vx_call.specs.Registered.{is_named}
use Rattle.vx_call.specs.Consumers.{consumers, live}
use Rattle.vx_call.specs.Items.{Waiting, untaken, waiting}
use Rattle.vx_call.proofs.Each.{Each, every, weaken}
use Rattle.vx_call.proofs.Filters.{filter_alike}
use Rattle.vx_call.proofs.ClosedWith.{is_gone, is_of_gone}
use Rattle.vx_call.proofs.Told.{is_outcome_of, IsTold, owner_in, live_owner_in, is_task_in, is_in, told_in}
use Rattle.vx_context.specs.Stores.{item_of}
use Rattle.vx_bus_store.specs.declared.bus.Handler.{Handler}
use Rattle.vx_bus_store.specs.Stores.{handler_of, handler_in, names}
use Rattle.vx_bus_store.specs.Leaving.{leaves_found, is_item_of_outcome, is_task_of}
use Rattle.vx_bus_store.proofs.Images.{find-map, filter_mapped}
use Rattle.vx_bus_closing.proofs.ClosedRequests.{LeavesWith}
use Rattle.vx_bus_closing.proofs.ClosedTurns.{any_map}

owner_told : (leaver : Leaver) (owner : Owner) → has_owner leaver owner ≡ owner_in (has_context leaver) owner
owner_told leaver (owners.Context context) = refl
owner_told leaver (owners.Conn conn) = refl
owner_told leaver (owners.Pass pass) = refl

found_told : (history : List Traced) (leaver : Leaver) (found : Option Consumer) → leaves_found leaver (option_map (handler_of history) found) ≡ live_owner_in (has_context leaver) found
found_told history leaver None = refl
found_told history leaver (Some consumer) = owner_told leaver consumer.owner

kind_told : (id : MessageId) (task : Task) → is_item_of_outcome id (kind_of task) ≡ is_outcome_of id task
kind_told id (tasks.Outcome request outcome) = refl
kind_told id _ = refl

task_told : (history : List Traced) (leaver : Leaver) (task : Task) →
    is_task_of leaver (map (handler_of history) (consumers history)) (map (item_of history) (waiting history)) task ≡ is_task_in (has_context leaver) history task
task_told history leaver (tasks.Deliver id message) =
    ap (leaves_found leaver) (find-map (handler_of history) (is_named id) (names id) (λ c. refl) (consumers history)) ∙ found_told history leaver (live history id)
task_told history leaver (tasks.Outcome request outcome) =
    any_map (λ (item : Item). is_item_of_outcome request item.kind && has_context leaver item.context) (item_of history) (λ (w : Waiting). is_outcome_of request w.task && has_context leaver w.context)
    (λ w. ap (λ b. b && has_context leaver w.context) (kind_told request w.task)) (waiting history)
task_told history leaver _ = refl

of_gone : (history : List Traced) (new : Traced) (leaver : Leaver) → LeavesWith history new leaver → (of : Option ContextId) → is_in (has_context leaver) of ≡ is_of_gone history new of
of_gone history new leaver leaving None = refl
of_gone history new leaver leaving (Some context) = leaving.same context

pub tasks_stay : (history : List Traced) (new : Traced) (leaver : Leaver) → LeavesWith history new leaver → Each (IsTold history) (untaken history) →
    filter (λ task. not (is_task_of leaver (map (handler_of history) (consumers history)) (map (item_of history) (waiting history)) task)) (untaken history) ≡ filter (λ task. not (is_of_gone history new (context_of history task))) (untaken history)
tasks_stay history new leaver leaving told =
    filter_alike _ _ (untaken history)
    (weaken (IsTold history) (λ task. not (is_task_of leaver (map (handler_of history) (consumers history)) (map (item_of history) (waiting history)) task) ≡ not (is_of_gone history new (context_of history task))) (untaken history)
    (λ task is_told. ap not (task_told history leaver task ∙ told_in (has_context leaver) history task is_told ∙ of_gone history new leaver leaving (context_of history task))) told)

-- what waits for the others
pub items_stay : (history : List Traced) (new : Traced) (leaver : Leaver) → LeavesWith history new leaver → (all : List Waiting) →
    filter (λ (item : Item). not (has_context leaver item.context)) (map (item_of history) all) ≡ map (item_of history) (filter (λ (w : Waiting). not (is_gone history new w.context)) all)
items_stay history new leaver leaving all =
    filter_mapped (λ (item : Item). not (has_context leaver item.context)) (λ (w : Waiting). not (is_gone history new w.context)) (item_of history) all (every _ (λ w. ap not (leaving.same w.context)) all)
