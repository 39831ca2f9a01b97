-- The requests that end with a consumer.
use Rattle.std.proofs.Common.{◌≡◌, ℕ, refl, ap}
use Rattle.std.specs.Prelude.{Bool, not, ◌&&◌, ◌==◌, is_some, List, Option, None, Some}
use Rattle.vx_data.specs.declared.ids.ConsumerId.{ConsumerId}
use Rattle.vx_data.specs.declared.ids.MessageId.{MessageId}
use Rattle.vx_message.specs.declared.Given.{Given}
use Rattle.vx_request.specs.Stores.{given_at, reached, is_lost}
use Rattle.vx_call.specs.declared.history.Traced.{Traced}
use Rattle.vx_call.specs.Given.{given}
use Rattle.vx_call.specs.Requests.{Open, is_lost_with}
use Rattle.vx_bus_store.specs.Stores.{row_of}

-- ## Which are lost

-- whether an Unregister settles the request
abbrev pub ends_with : List Traced → ConsumerId → Open → Bool
ends_with history id request = is_lost_with history id request request.receiver

lost_with : (history : List Traced) (store : List (ℕ × Given)) (id : ConsumerId) (request : Open) (receiver : Option ConsumerId) → given_at request.id store ≡ given history request.id →
    (reached id receiver && not (is_some (given_at request.id store))) ≡ is_lost_with history id request receiver
lost_with history store id request None same = refl
lost_with history store id request (Some other) same = ap (λ g. (id.0.0 == other.0.0) && not (is_some g)) same

pub lost_same : (history : List Traced) (store : List (ℕ × Given)) (id : ConsumerId) → ((m : MessageId) → given_at m store ≡ given history m) → (request : Open) → is_lost id store (row_of request) ≡ ends_with history id request
lost_same history store id same request = lost_with history store id request request.receiver (same request.id)
