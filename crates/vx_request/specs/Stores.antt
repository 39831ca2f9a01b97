-- Requests that wait for their outcome, the entries at which the others ended, and the messages that were given out.
use Rattle.std.specs.Prelude.{ℕ, ◌==◌, nat_eq, Bool, false, not, ◌&&◌, List, Option, None, Some, is_some}
use Rattle.std.specs.Map.{lookup}
use Rattle.vx_data.specs.declared.ids.ConsumerId.{ConsumerId}
use Rattle.vx_data.specs.declared.ids.EntryNo.{EntryNo}
use Rattle.vx_data.specs.declared.ids.MessageId.{MessageId}
use Rattle.vx_data.specs.Ids.{same_message}
use Rattle.vx_message.specs.declared.Given.{Given}
use Rattle.vx_request.specs.declared.requests.OpenRequest.{OpenRequest}

-- the requests that wait, in the order of opening, the others' entries of ending by their numbers, and how many more
-- requests can be opened without taking memory
pub record RequestStore : Type 0 where
  pub waiting : List OpenRequest
  pub ended : List (ℕ × EntryNo)
  pub room : ℕ

-- the messages that were given out, by their numbers, and how many more can be kept without taking memory
pub record GivenStore : Type 0 where
  pub given : List (ℕ × Given)
  pub room : ℕ

-- whether this message is the request
abbrev pub is_request : MessageId → OpenRequest → Bool
is_request id row = same_message id row.id

-- the entry at which a request ended
abbrev pub ended_at : MessageId → List (ℕ × EntryNo) → Option EntryNo
ended_at id ended = lookup (nat_eq id.0.0) ended

-- how a message was given out
abbrev pub given_at : MessageId → List (ℕ × Given) → Option Given
given_at id given = lookup (nat_eq id.0.0) given

-- whether a request reached the consumer
abbrev pub reached : ConsumerId → Option ConsumerId → Bool
reached receiver None = false
reached receiver (Some other) = receiver.0.0 == other.0.0

-- whether a request reached the consumer, and was not given out to a handler
abbrev pub is_lost : ConsumerId → List (ℕ × Given) → OpenRequest → Bool
is_lost receiver given row = reached receiver row.receiver && not (is_some (given_at row.id given))
