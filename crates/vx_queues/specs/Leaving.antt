-- Tasks that are left out of a queue.
use Rattle.std.specs.Prelude.{Bool, true, false}
use Rattle.vx_data.specs.declared.ids.ConsumerId.{ConsumerId}
use Rattle.vx_data.specs.Ids.{same_consumer}
use Rattle.vx_message.specs.declared.ItemKind.{ItemKind}
use Rattle.vx_message.specs.declared.ItemKind.TheVariants as kinds
use Rattle.vx_queues.specs.declared.queues.Waiting.{Waiting}
use Rattle.vx_queues.specs.declared.tasks.Which.{Which}
use Rattle.vx_queues.specs.declared.tasks.Which.TheVariants as ones

abbrev pub is_message_for : ConsumerId → ItemKind → Bool
is_message_for consumer (kinds.Deliver other message) = same_consumer consumer other
is_message_for consumer _ = false

abbrev pub is_left_out : Which → Waiting → Bool
is_left_out ones.All item = true
is_left_out (ones.For consumer) item = is_message_for consumer item.task.kind
