-- What the bus contains, however it keeps it.
use Rattle.std.specs.Prelude.{◌≡◌, ℕ, ◌+◌, ◌≤◌, length, filter, Bool, true, false, find, is_some, if◌then◌else◌, List, [], ◌∷◌, Option, None, Some}
use Rattle.vx_data.specs.declared.ids.ConsumerId.{ConsumerId}
use Rattle.vx_data.specs.declared.ids.EntryNo.{EntryNo}
use Rattle.vx_data.specs.declared.ids.MessageId.{MessageId}
use Rattle.vx_data.specs.Tree.{Tree}
use Rattle.vx_message.specs.declared.Message.{Message}
use Rattle.vx_message.specs.declared.Options.{Options}
use Rattle.vx_message.specs.declared.Context.{Context}
use Rattle.vx_message.specs.declared.Item.{Item}
use Rattle.vx_message.specs.declared.rules.Codec.{Codec}
use Rattle.vx_message.specs.declared.rules.Rule.{Rule}
use Rattle.vx_message.specs.declared.rules.Side.{Side}
use Rattle.vx_message.specs.Codecs.{is_codec}
use Rattle.vx_message.specs.Rules.{through, rules_of}
use Rattle.vx_consumer.specs.declared.flow.Arrive.{Arrive}
use Rattle.vx_consumer.specs.Flows.{arrival, counted, Counted}
use Rattle.vx_consumer.specs.Mailboxes.{numbers_of}
use Rattle.vx_message.specs.declared.Given.{Given}
use Rattle.vx_message.specs.declared.ItemKind.{ItemKind}
use Rattle.vx_message.specs.declared.Owner.TheVariants as owners
use Rattle.vx_timer.specs.declared.timers.Timer.{Timer}
use Rattle.vx_ring.specs.Rings.{RingAt, consumers_at, choices_at}
use Rattle.vx_request.specs.declared.requests.OpenRequest.{OpenRequest}
use Rattle.vx_request.specs.Stores.{RequestStore, ended_at, given_at}
use Rattle.vx_data.specs.declared.ids.ContextId.{ContextId}
use Rattle.vx_message.specs.declared.Owner.{Owner}
use Rattle.vx_call.specs.declared.history.Consumer.{Consumer}
use Rattle.vx_call.specs.declared.history.Traced.{Traced}
use Rattle.vx_call.specs.Codecs.{coded_by}
use Rattle.vx_call.specs.Askers.{Asker}
use Rattle.vx_call.specs.Askers as askers
use Rattle.vx_call.specs.Consumers.{is_at}
use Rattle.vx_call.specs.Owners.{context_owning}
use Rattle.vx_call.specs.Registered.{is_named}
use Rattle.vx_call.specs.Mailboxes.{mailbox, is_ready}
use Rattle.vx_message.specs.declared.ItemKind.TheVariants as kinds
use Rattle.vx_bus_store.specs.declared.bus.Handler.{Handler}
use Rattle.vx_bus_store.specs.declared.bus.Recipient.{Recipient}
use Rattle.vx_call.specs.declared.reply.Task.{Task}
use Rattle.vx_call.specs.Requests.{Open}
use Rattle.vx_call.specs.Kinds.{kind_of, same_kind}
use Rattle.vx_context.specs.Stores.{handler_item}

-- the live consumers with their flows, whose turn it is at each address, the tasks that were not taken, the requests
-- that wait and those that ended, the messages that were given out, the codecs and the rules, and for how many more tasks
-- there is room
pub record BusStore : Type 0 where
  pub consumers : List Handler
  pub rings : List RingAt
  pub tasks : List Task
  pub requests : RequestStore
  pub given : List (ℕ × Given)
  pub codecs : List Codec
  pub rules : List Rule
  pub room : ℕ

-- ## Consumers

-- what the bus keeps of a consumer: its mailbox in numbers, since the messages are among the tasks
abbrev pub handler_of : List Traced → Consumer → Handler
handler_of history consumer = record { consumer = consumer; flow = numbers_of (mailbox history consumer) }

abbrev pub names : ConsumerId → Handler → Bool
names id handler = is_named id handler.consumer

-- the handler of this name among these
abbrev pub handler_in : List Handler → ConsumerId → Option Handler
handler_in handlers id = find (names id) handlers

abbrev pub is_handler_at : List ℕ → Handler → Bool
is_handler_at address handler = is_at address handler.consumer

-- the context whose handler its messages are for
abbrev pub home_in : Option Handler → Option ContextId
home_in None = None
home_in (Some handler) = context_owning handler.consumer.owner

-- a change of the flow of one consumer
abbrev pub changed : ConsumerId → (Counted → Counted) → Handler → Handler
changed id change handler = if names id handler then record { consumer = handler.consumer; flow = change handler.flow } else handler

-- a message arrived
abbrev pub arrived : Counted → Counted
arrived flow = counted (arrival flow.limit flow.room flow.held) flow

-- a change of the flows of the consumers at an address
abbrev pub changed_at : List ℕ → (Counted → Counted) → Handler → Handler
changed_at address change handler = if is_handler_at address handler then record { consumer = handler.consumer; flow = change handler.flow } else handler

-- each consumer is there once
abbrev pub AreNamedOnce : List Handler → Type 0
AreNamedOnce handlers = (id : ConsumerId) → length (filter (names id) handlers) ≤ 1

-- how many messages are held for all of these together
abbrev pub held_in : List Handler → ℕ
held_in [] = 0
held_in (handler ∷ others) = handler.flow.held + held_in others

-- what becomes of a message that arrives
abbrev pub next_arrival : Handler → Arrive
next_arrival handler = arrival handler.flow.limit handler.flow.room handler.flow.held

-- ## Messages

-- the body as the named codec leaves it
abbrev pub coded_in : List Codec → Option (List ℕ) → Tree → Tree
coded_in codecs None body = body
coded_in codecs (Some name) body = coded_by (find (is_codec name) codecs) body

-- the message that an entry sends, before any rule
abbrev pub message_in : BusStore → EntryNo → List ℕ → Tree → Options → Bool → Bool → Message
message_in bus at address body options request publish = record {
  id = record { 0 = at };
  address = address;
  headers = options.headers;
  body = coded_in bus.codecs options.codec body;
  request = request;
  publish = publish;
}

-- the message behind the rules of a side, if none stops it
abbrev pub passed_in : BusStore → Side → Message → Option Message
passed_in bus side message = through (rules_of side bus.rules) message

-- ## Tasks

-- whether the task is of this kind
abbrev pub is_of_kind : ItemKind → Task → Bool
is_of_kind kind task = same_kind kind (kind_of task)

abbrev pub has_task : ItemKind → List Task → Bool
has_task kind tasks = is_some (find (is_of_kind kind) tasks)

-- the list without the first element that passes
abbrev pub without_first : {A : Type 0} → (A → Bool) → List A → List A
without_first p [] = []
without_first p (x ∷ xs) = if p x then xs else x ∷ without_first p xs

-- whether tasks of this kind are the bus's: the messages for consumers, and the outcomes of requests
abbrev pub is_kept_by_bus : ItemKind → Bool
is_kept_by_bus (kinds.Deliver consumer message) = true
is_kept_by_bus (kinds.Outcome request) = true
is_kept_by_bus _ = false

abbrev pub owner_asking : Asker → Owner
owner_asking (askers.context context) = owners.Context context
owner_asking (askers.connection conn at) = owners.Conn conn

-- what the bus keeps of a request that waits
abbrev pub row_of : Open → OpenRequest
row_of request = record { id = request.id; asker = owner_asking request.asker; receiver = request.receiver; home = request.home }

-- the timer of a request that waits
abbrev pub timer_of : Open → Timer
timer_of request = record { id = request.id.0; due = request.due; period = None }

-- a consumer that a message is for, and what becomes of the message there
abbrev pub recipient_of : Handler → Recipient
recipient_of handler = record { consumer = handler.consumer.id; home = context_owning handler.consumer.owner; arrive = next_arrival handler }

-- the item of a handler's task, where there is a context that it is of
abbrev pub home_item : List Context → EntryNo → ℕ → Option ContextId → ItemKind → List Item
home_item made at place None kind = []
home_item made at place (Some context) kind = handler_item made at place context kind ∷ []

-- the item of a message that arrives at a consumer, where it is made ready
abbrev pub ready_item : List Context → EntryNo → ℕ → Recipient → MessageId → List Item
ready_item made at place recipient message =
    if is_ready recipient.arrive then home_item made at place recipient.home (kinds.Deliver recipient.consumer message) else []

-- the items of a consumer's messages among these tasks, in order, at places from this one on
abbrev pub message_items : List Context → EntryNo → ContextId → ℕ → List Task → List Item
message_items made at context place [] = []
message_items made at context place (task ∷ others) = handler_item made at place context (kind_of task) ∷ message_items made at context (place + 1) others

-- a bus without consumers, tasks and requests
pub record IsEmptyBus (store : BusStore) : Type 0 where
  pub consumers : store.consumers ≡ []
  pub in_turn : (address : List ℕ) → consumers_at address store.rings ≡ []
  pub choices : (address : List ℕ) → choices_at address store.rings ≡ 0
  pub tasks : store.tasks ≡ []
  pub requests : store.requests.waiting ≡ []
  pub ended : (id : MessageId) → ended_at id store.requests.ended ≡ None
  pub given : (id : MessageId) → given_at id store.given ≡ None
  pub codecs : store.codecs ≡ []
  pub rules : store.rules ≡ []

-- the context that asked
abbrev pub asker_in : Option OpenRequest → Option ContextId
asker_in None = None
asker_in (Some row) = context_owning row.asker
