-- How many messages may be made ready for a consumer, and how many are held: in numbers alone. (Vert.x core API,
-- `MessageConsumer.pause`, `resume`, `fetch`, `setMaxBufferedMessages`. That a message past a full buffer is lost, and
-- that one is held while any is, is this project's own.)
use Rattle.std.specs.Prelude.{ℕ, ◌+◌, ◌-◌, ◌^◌, ◌==◌, nat_lt, min, Bool, true, ◌&&◌, if◌then◌else◌, Option, None, Some}
use Rattle.vx_consumer.specs.declared.flow.Arrive.{Arrive}
use Rattle.vx_consumer.specs.declared.flow.Arrive.TheVariants as arrives

-- whether there is room for one more message: None is room without bound
abbrev pub has_room : Option ℕ → Bool
has_room None = true
has_room (Some room) = nat_lt 0 room

-- what becomes of a message that arrives: ready where there is room and none is held, else held where fewer than the
-- limit are held, else lost
abbrev pub arrival : ℕ → Option ℕ → ℕ → Arrive
arrival limit room held =
    if has_room room && (held == 0) then arrives.Ready else (if nat_lt held limit then arrives.Held else arrives.Lost)

-- the room after so many messages were made ready
abbrev pub room_less : ℕ → Option ℕ → Option ℕ
room_less count None = None
room_less count (Some room) = Some (room - count)

-- The room after so many were fetched. It stands still at 2 ^ 128 - 1, which 2 ^ 48 fetches never reach.
abbrev pub room_more : ℕ → Option ℕ → Option ℕ
room_more count None = None
room_more count (Some room) = Some (min (room + count) (2 ^ 128 - 1))

-- how many of the held messages there is room for
abbrev pub freed : Option ℕ → ℕ → ℕ
freed None held = held
freed (Some room) held = if nat_lt room held then room else held

-- how many messages may be held, how many more may be made ready, and how many are held
pub record Counted : Type 0 where
  pub limit : ℕ
  pub room : Option ℕ
  pub held : ℕ

abbrev pub fresh : ℕ → Counted
fresh limit = record { limit = limit; room = None; held = 0 }

-- a message arrived so
abbrev pub counted : Arrive → Counted → Counted
counted arrives.Ready flow = record flow { room = room_less 1 flow.room }
counted arrives.Held flow = record flow { held = flow.held + 1 }
counted arrives.Lost flow = flow

-- so many that were ready are held again, and there is no room
abbrev pub stopped : ℕ → Counted → Counted
stopped waiting flow = record flow { room = Some 0; held = flow.held + waiting }

-- so much room is there, and as many of the held ones are ready
abbrev pub opened : Option ℕ → Counted → Counted
opened room flow = record flow { room = room_less (freed room flow.held) room; held = flow.held - freed room flow.held }

abbrev pub resumed : Counted → Counted
resumed flow = record flow { room = None; held = 0 }

abbrev pub fetched : ℕ → Counted → Counted
fetched count flow = opened (room_more count flow.room) flow
