-- Copies of one message for several consumers.
use Rattle.std.specs.Prelude.{ℕ, ◌+◌, if◌then◌else◌, List, [], ◌∷◌, ◌++◌}
use Rattle.vx_data.specs.declared.ids.EntryNo.{EntryNo}
use Rattle.vx_message.specs.declared.Context.{Context}
use Rattle.vx_message.specs.declared.Item.{Item}
use Rattle.vx_message.specs.declared.Message.{Message}
use Rattle.vx_call.specs.declared.reply.Task.{Task}
use Rattle.vx_call.specs.declared.reply.Task.TheVariants as tasks
use Rattle.vx_call.specs.Mailboxes.{is_ready}
use Rattle.vx_bus_store.specs.declared.bus.Recipient.{Recipient}
use Rattle.vx_bus_send.specs.declared.publish.Parcel.{Parcel}
use Rattle.vx_bus_store.specs.Stores.{ready_item}

-- a message for one of the consumers
abbrev pub parcel_for : Message → Recipient → Parcel
parcel_for message recipient = record { recipient = recipient; message = message }

-- the place behind a message: one further where it is made ready
abbrev pub next_place : ℕ → Parcel → ℕ
next_place place parcel = if is_ready parcel.recipient.arrive then place + 1 else place

-- the items of those of these messages that are made ready, in order, at places from this one on
abbrev pub parcel_items : List Context → EntryNo → ℕ → List Parcel → List Item
parcel_items made at place [] = []
parcel_items made at place (parcel ∷ parcels) = ready_item made at place parcel.recipient parcel.message.id ++ parcel_items made at (next_place place parcel) parcels

-- how many of them are made ready
abbrev pub ready_count : List Parcel → ℕ
ready_count [] = 0
ready_count (parcel ∷ parcels) = next_place (ready_count parcels) parcel

abbrev pub parcel_task : Parcel → Task
parcel_task parcel = tasks.Deliver parcel.recipient.consumer parcel.message
