-- What messages reach, and what is done as they reach it.
use Rattle.std.specs.Prelude.{◌≡◌, [], ◌∷◌, ◌++◌, map, ℕ, ◌+◌, ◌-◌, ◌%◌, ◌^◌, min, true, not, ◌&&◌, if◌then◌else◌, List, length, slice_get, Option, None, Some}
use Rattle.std.specs.Option.{option_map}
use Rattle.std.specs.Str.{bytes_eq}
use Rattle.vx_data.specs.declared.ids.EntryNo.{EntryNo}
use Rattle.vx_data.specs.declared.ids.ConsumerId.{ConsumerId}
use Rattle.vx_ring.specs.Rings.{is_empty, consumers_at, choices_at}
use Rattle.vx_call.specs.declared.reply.To.{To}
use Rattle.vx_call.specs.declared.reply.To.TheVariants as reached
use Rattle.vx_call.specs.Rows.{arrived_at}
use Rattle.vx_bus_store.specs.declared.bus.Handler.{Handler}
use Rattle.vx_call.specs.Mailboxes.{is_accepted}
use Rattle.vx_context.specs.Stores.{ContextStore}
use Rattle.vx_bus_store.specs.Stores.{BusStore, handler_in, next_arrival, recipient_of, changed, arrived, ready_item}
use Rattle.vx_message.specs.declared.Message.{Message}
use Rattle.vx_bus_delivery.specs.declared.passages.Passage.{Passage}
use Rattle.vx_bus_delivery.specs.declared.passages.Passage.TheVariants as passages
use Rattle.vx_bus_delivery.specs.Passages.{is_sent}
use Rattle.vx_bus_store.specs.declared.bus.Recipient.{Recipient}
use Rattle.vx_call.specs.declared.reply.Task.TheVariants as tasks

-- the consumer whose turn it is at an address
abbrev pub turn_in : BusStore → List ℕ → Option ConsumerId
turn_in bus address = slice_get (consumers_at address bus.rings) (choices_at address bus.rings % length (consumers_at address bus.rings))

-- what a message reaches that arrives at the consumer whose turn it is
abbrev pub arrival_of : Option Handler → To
arrival_of None = reached.Stopped
arrival_of (Some handler) = arrived_at handler.consumer (next_arrival handler)

-- what a message reaches behind the rules for messages that are sent
abbrev pub destination_of : BusStore → Passage → Option ConsumerId → To
destination_of bus passage None = reached.None
destination_of bus (passages.Arrives message) (Some id) = arrival_of (handler_in bus.consumers id)
destination_of bus _ (Some id) = reached.Stopped

-- what a message reaches that is sent to one of the consumers at an address
abbrev pub destination_in : BusStore → Passage → List ℕ → To
destination_in bus passages.Unsent address = reached.Stopped
destination_in bus passage address = destination_of bus passage (turn_in bus address)

-- the consumer of this name accepts a message that arrives now
abbrev pub IsAcceptedBy : List Handler → ConsumerId → Type 0
IsAcceptedBy handlers id = option_map (λ (h : Handler). is_accepted (next_arrival h)) (handler_in handlers id) ≡ Some true

-- ## What is done

-- A message arrives at a consumer, which accepts it: it is made ready, or held.
pub record Accepts (old_contexts new_contexts : ContextStore) (old_bus new_bus : BusStore) (at : EntryNo) (recipient : Recipient) (message : Message) : Type 0 where
  pub items : new_contexts ≡ record old_contexts { waiting = old_contexts.waiting ++ ready_item old_contexts.made at 0 recipient message.id; room = new_contexts.room }
  pub bus : new_bus ≡ record old_bus { consumers = map (changed recipient.consumer arrived) old_bus.consumers; tasks = old_bus.tasks ++ tasks.Deliver recipient.consumer message ∷ []; room = new_bus.room }

-- The choice counts where the message is sent. The message is made ready or held where it reaches a consumer; else no more is done.
pub record PassesOn (old_contexts new_contexts : ContextStore) (old_bus new_bus : BusStore) (at : EntryNo) (passage : Passage) (address : List ℕ) (to : To) : Type 0 where
  pub arrives : (id : ConsumerId) (message : Message) (handler : Handler) → to ≡ reached.Consumer id → passage ≡ passages.Arrives message → handler_in old_bus.consumers id ≡ Some handler →
      Accepts old_contexts new_contexts (record old_bus { rings = new_bus.rings }) new_bus at (recipient_of handler) message
  pub contexts : ((id : ConsumerId) → to ≡ reached.Consumer id → ⊥) → new_contexts ≡ old_contexts
  pub bus : ((id : ConsumerId) → to ≡ reached.Consumer id → ⊥) → new_bus ≡ record old_bus { rings = new_bus.rings }
  pub in_turn : (a : List ℕ) → consumers_at a new_bus.rings ≡ consumers_at a old_bus.rings
  pub choices : (a : List ℕ) → choices_at a new_bus.rings
      ≡ (if is_sent passage && (bytes_eq a address && not (is_empty (consumers_at a old_bus.rings))) then min (choices_at a old_bus.rings + 1) (2 ^ 64 - 1) else choices_at a old_bus.rings)
