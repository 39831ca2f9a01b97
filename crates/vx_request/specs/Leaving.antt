-- What leaves, and the requests that end with it.
use Rattle.std.specs.Prelude.{ℕ, Bool, true, false, not, ◌&&◌, ◌||◌, List, Option, None, Some, is_some}
use Rattle.vx_data.specs.declared.ids.ContextId.{ContextId}
use Rattle.vx_data.specs.Ids.{same_context}
use Rattle.vx_message.specs.declared.Given.{Given}
use Rattle.vx_message.specs.declared.Owner.{Owner}
use Rattle.vx_message.specs.declared.Owner.TheVariants as owners
use Rattle.vx_request.specs.declared.leaver.Leaver.{Leaver}
use Rattle.vx_request.specs.declared.leaver.Leaver.TheVariants as leavers
use Rattle.vx_request.specs.declared.requests.OpenRequest.{OpenRequest}
use Rattle.vx_request.specs.Stores.{given_at, is_lost}

-- whether the context leaves
abbrev pub has_context : Leaver → ContextId → Bool
has_context (leavers.Consumer consumer) context = false
has_context (leavers.Context leaving) context = same_context leaving context
has_context leavers.All context = true

-- whether the owner is a context that leaves
abbrev pub has_owner : Leaver → Owner → Bool
has_owner leaver (owners.Context context) = has_context leaver context
has_owner leaver _ = false

-- whether this is a context, and it leaves
abbrev pub has_home : Leaver → Option ContextId → Bool
has_home leaver None = false
has_home leaver (Some context) = has_context leaver context

-- whether a handler of a context that leaves was to get the request's message, and was not given it
abbrev pub is_left : Leaver → List (ℕ × Given) → OpenRequest → Bool
is_left leaver given row = has_home leaver row.home && not (is_some (given_at row.id given))

-- whether a request ends with what leaves: its asker leaves, or nobody can reply to it any more
abbrev pub ends_with : Leaver → List (ℕ × Given) → OpenRequest → Bool
ends_with (leavers.Consumer consumer) given row = is_lost consumer given row
ends_with leaver given row = has_owner leaver row.asker || is_left leaver given row

-- ... and its asker stays
abbrev pub fails_with : Leaver → List (ℕ × Given) → OpenRequest → Bool
fails_with (leavers.Consumer consumer) given row = is_lost consumer given row
fails_with leaver given row = not (has_owner leaver row.asker) && is_left leaver given row
