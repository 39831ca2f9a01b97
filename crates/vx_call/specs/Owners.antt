-- Whom consumers belong to: a context, or a connection of the bridge. (Vert.x core manual, "Registering Handlers"; Vert.x
-- TCP EventBus bridge manual, "Message format", `register`.)
use Rattle.std.specs.Prelude.{Bool, true, false, Option, None, Some}
use Rattle.vx_data.specs.declared.ids.ContextId.{ContextId}
use Rattle.vx_data.specs.declared.ids.ConnId.{ConnId}
use Rattle.vx_message.specs.declared.Owner.{Owner}
use Rattle.vx_message.specs.declared.Owner.TheVariants as owners
use Rattle.vx_data.specs.Ids.{same_conn}

-- the context that owns, if it is no connection
abbrev pub context_owning : Owner → Option ContextId
context_owning (owners.Context context) = Some context
context_owning _ = None

abbrev pub is_context_owner : Owner → Bool
is_context_owner (owners.Context context) = true
is_context_owner _ = false

-- whether this connection owns
abbrev pub is_owned_by : ConnId → Owner → Bool
is_owned_by conn (owners.Conn other) = same_conn conn other
is_owned_by conn _ = false
