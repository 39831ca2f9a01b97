-- The messages of one consumer that were accepted and not taken: those that are ready, and those that are held. (Vert.x
-- core API, `MessageConsumer.pause`, `resume`, `fetch`. That a Pause holds again what is ready and not taken, is this
-- project's own.)
use Rattle.std.specs.Prelude.{ℕ, not, List, [], ◌∷◌, ◌++◌, length, take, drop, filter, fold, Option, None, Some}
use Rattle.vx_data.specs.declared.ids.MessageId.{MessageId}
use Rattle.vx_data.specs.Ids.{same_message}
use Rattle.vx_consumer.specs.declared.flow.Arrive.{Arrive}
use Rattle.vx_consumer.specs.declared.flow.Arrive.TheVariants as arrives
use Rattle.vx_consumer.specs.Flows.{arrival, room_less, room_more, freed, Counted}

pub record Mailbox : Type 0 where
  -- how many messages may be held as they arrive
  pub limit : ℕ
  -- how many more messages may be made ready: without bound, or so many
  pub room : Option ℕ
  -- the messages that were made ready and not taken since, in order
  pub ready : List MessageId
  -- those that arrived, or were ready at a Pause, and had no room since, in order
  pub held : List MessageId

-- the mailbox of a consumer as it is registered
abbrev pub empty : ℕ → Mailbox
empty limit = record { limit = limit; room = None; ready = []; held = [] }

-- what becomes of a message that arrives
abbrev pub next_arrival : Mailbox → Arrive
next_arrival mailbox = arrival mailbox.limit mailbox.room (length mailbox.held)

abbrev pub put : MessageId → Arrive → Mailbox → Mailbox
put message arrives.Ready mailbox = record mailbox { room = room_less 1 mailbox.room; ready = mailbox.ready ++ message ∷ [] }
put message arrives.Held mailbox = record mailbox { held = mailbox.held ++ message ∷ [] }
put message arrives.Lost mailbox = mailbox

-- with so much room the first held messages are made ready, as many as there is room
abbrev pub opened : Option ℕ → Mailbox → Mailbox
opened room mailbox = record mailbox {
  room = room_less (freed room (length mailbox.held)) room;
  ready = mailbox.ready ++ take (freed room (length mailbox.held)) mailbox.held;
  held = drop (freed room (length mailbox.held)) mailbox.held;
}

-- those of the messages that are others than this one
abbrev pub others : MessageId → List MessageId → List MessageId
others message messages = filter (λ other. not (same_message message other)) messages

-- What happens to a mailbox.
pub data Move : Type 0 where
  -- a message arrives
  arrives_with : MessageId → Move
  -- a Pause
  pauses : Move
  -- a Resume
  resumes : Move
  -- a Fetch of so many
  fetches : ℕ → Move
  -- a Take that hands a message out
  hands : MessageId → Move
  -- the end of the consumer
  ends : Move

-- The mailbox after a move. A Pause holds again every message that is ready and was not taken, and leaves no room. The
-- end of the consumer leaves no message.
abbrev pub moved : Mailbox → Move → Mailbox
moved mailbox (arrives_with message) = put message (next_arrival mailbox) mailbox
moved mailbox pauses = record mailbox { room = Some 0; ready = []; held = mailbox.ready ++ mailbox.held }
moved mailbox resumes = opened None mailbox
moved mailbox (fetches count) = opened (room_more count mailbox.room) mailbox
moved mailbox (hands message) = record mailbox { ready = others message mailbox.ready; held = others message mailbox.held }
moved mailbox ends = record mailbox { ready = []; held = [] }

-- the mailbox after these moves, the first one first
abbrev pub after_moves : Mailbox → List Move → Mailbox
after_moves mailbox moves = fold moved mailbox moves

-- the messages that were accepted and not taken, in order
abbrev pub untaken : Mailbox → List MessageId
untaken mailbox = mailbox.ready ++ mailbox.held

-- a mailbox in numbers
abbrev pub numbers_of : Mailbox → Counted
numbers_of mailbox = record { limit = mailbox.limit; room = mailbox.room; held = length mailbox.held }
