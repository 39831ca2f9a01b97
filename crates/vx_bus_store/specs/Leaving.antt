-- What the bus loses with contexts that leave.
use Rattle.std.specs.Prelude.{ℕ, Bool, false, ◌&&◌, List, Option, None, Some}
use Rattle.std.specs.List.{list_any}
use Rattle.std.specs.Str.{bytes_eq}
use Rattle.vx_data.specs.declared.ids.ConsumerId.{ConsumerId}
use Rattle.vx_data.specs.declared.ids.MessageId.{MessageId}
use Rattle.vx_data.specs.Ids.{same_consumer, same_message}
use Rattle.vx_message.specs.declared.Item.{Item}
use Rattle.vx_message.specs.declared.ItemKind.{ItemKind}
use Rattle.vx_message.specs.declared.ItemKind.TheVariants as kinds
use Rattle.vx_request.specs.declared.leaver.Leaver.{Leaver}
use Rattle.vx_request.specs.Leaving.{has_context, has_owner}
use Rattle.vx_call.specs.declared.reply.Task.{Task}
use Rattle.vx_call.specs.declared.reply.Task.TheVariants as tasks
use Rattle.vx_bus_store.specs.declared.bus.Handler.{Handler}
use Rattle.vx_bus_store.specs.Stores.{handler_in}

-- whether the consumer is one of a context that leaves
abbrev pub leaves : Leaver → Handler → Bool
leaves leaver handler = has_owner leaver handler.consumer.owner

abbrev pub leaves_found : Leaver → Option Handler → Bool
leaves_found leaver None = false
leaves_found leaver (Some handler) = leaves leaver handler

-- whether the consumer of this name is one of those that leave an address
abbrev pub leaves_at : Leaver → List Handler → List ℕ → ConsumerId → Bool
leaves_at leaver handlers address id = list_any (λ (h : Handler). leaves leaver h && (bytes_eq address h.consumer.address && same_consumer h.consumer.id id)) handlers

abbrev pub is_item_of_outcome : MessageId → ItemKind → Bool
is_item_of_outcome id (kinds.Outcome request) = same_message id request
is_item_of_outcome id _ = false

-- whether a task is of a context that leaves: a message is of its consumer's, and an outcome of the one that it waits for
abbrev pub is_task_of : Leaver → List Handler → List Item → Task → Bool
is_task_of leaver handlers items (tasks.Deliver id message) = leaves_found leaver (handler_in handlers id)
is_task_of leaver handlers items (tasks.Outcome request outcome) = list_any (λ (item : Item). is_item_of_outcome request item.kind && has_context leaver item.context) items
is_task_of leaver handlers items _ = false
