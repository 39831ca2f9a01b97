-- When two names are of the same thing: when the entries that made them are the same one.
use Rattle.std.specs.Prelude.{◌==◌, Bool, ◌&&◌}
use Rattle.vx_data.specs.declared.ids.ContextId.{ContextId}
use Rattle.vx_data.specs.declared.ids.ConsumerId.{ConsumerId}
use Rattle.vx_data.specs.declared.ids.MessageId.{MessageId}
use Rattle.vx_data.specs.declared.ids.DeploymentId.{DeploymentId}
use Rattle.vx_data.specs.declared.ids.TimerId.{TimerId}
use Rattle.vx_data.specs.declared.ids.QueuedId.{QueuedId}
use Rattle.vx_data.specs.declared.ids.PoolId.{PoolId}
use Rattle.vx_data.specs.declared.ids.PromiseId.{PromiseId}
use Rattle.vx_data.specs.declared.ids.ServerId.{ServerId}
use Rattle.vx_data.specs.declared.ids.ConnId.{ConnId}

abbrev pub same_context : ContextId → ContextId → Bool
same_context a b = (a.entry.0 == b.entry.0) && (a.instance == b.instance)

abbrev pub same_consumer : ConsumerId → ConsumerId → Bool
same_consumer a b = a.0.0 == b.0.0

abbrev pub same_message : MessageId → MessageId → Bool
same_message a b = a.0.0 == b.0.0

abbrev pub same_deployment : DeploymentId → DeploymentId → Bool
same_deployment a b = a.0.0 == b.0.0

abbrev pub same_timer : TimerId → TimerId → Bool
same_timer a b = a.0.0 == b.0.0

abbrev pub same_queued : QueuedId → QueuedId → Bool
same_queued a b = a.0.0 == b.0.0

abbrev pub same_pool : PoolId → PoolId → Bool
same_pool a b = a.0.0 == b.0.0

abbrev pub same_promise : PromiseId → PromiseId → Bool
same_promise a b = a.0.0 == b.0.0

abbrev pub same_server : ServerId → ServerId → Bool
same_server a b = a.0.0 == b.0.0

abbrev pub same_conn : ConnId → ConnId → Bool
same_conn a b = a.0.0 == b.0.0
