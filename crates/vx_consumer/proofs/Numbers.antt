-- What the moves of a mailbox do to its numbers, and which of them keep its messages.
use Rattle.std.proofs.Common.{◌≡◌, refl, ◌∙◌, ap, ℕ, [], ◌∷◌, ◌++◌, length, take, drop, append_assoc, arith, length-append, length-drop, Option, None, Some}
use Rattle.std.proofs.lemmas.List.{take-append-drop}
use Rattle.vx_data.specs.declared.ids.MessageId.{MessageId}
use Rattle.vx_consumer.specs.declared.flow.Arrive.{Arrive}
use Rattle.vx_consumer.specs.declared.flow.Arrive.TheVariants as arrives
use Rattle.vx_consumer.specs.Flows.{arrival, counted, stopped, opened, resumed, fetched, freed, room_less, room_more}
use Rattle.vx_consumer.specs.Mailboxes as boxes
use Rattle.vx_consumer.specs.Mailboxes.{Mailbox, next_arrival, put, moved, numbers_of, untaken, pauses, resumes, fetches}

-- what becomes of a message is told by the numbers
pub next_arrival_in_numbers : (m : Mailbox) → next_arrival m ≡ arrival (numbers_of m).limit (numbers_of m).room (numbers_of m).held
next_arrival_in_numbers m = refl

-- a message that becomes this counts so
pub put_in_numbers : (message : MessageId) (arrive : Arrive) (m : Mailbox) → numbers_of (put message arrive m) ≡ counted arrive (numbers_of m)
put_in_numbers message arrives.Ready m = refl
put_in_numbers message arrives.Held m = ap (λ (held : ℕ). record (numbers_of m) { held = held }) (length-append m.held (message ∷ []))
put_in_numbers message arrives.Lost m = refl

-- a message arrives
pub arrival_in_numbers : (message : MessageId) (m : Mailbox) → numbers_of (put message (next_arrival m) m) ≡ counted (next_arrival m) (numbers_of m)
arrival_in_numbers message m = put_in_numbers message (next_arrival m) m

-- a Pause
pub pause_in_numbers : (m : Mailbox) → numbers_of (moved m pauses) ≡ stopped (length m.ready) (numbers_of m)
pause_in_numbers m = ap (λ (held : ℕ). record (numbers_of m) { room = Some 0; held = held }) (omega (arith, length-append m.ready m.held))

opened_in_numbers : (room : Option ℕ) (m : Mailbox) → numbers_of (boxes.opened room m) ≡ opened room (numbers_of m)
opened_in_numbers room m = ap (λ (held : ℕ). record (numbers_of m) { room = room_less (freed room (length m.held)) room; held = held }) (length-drop (freed room (length m.held)) m.held)

-- a Resume
pub resume_in_numbers : (m : Mailbox) → numbers_of (moved m resumes) ≡ resumed (numbers_of m)
resume_in_numbers m = opened_in_numbers None m ∙ ap (λ (held : ℕ). record (numbers_of m) { room = None; held = held }) (omega arith)

-- a Fetch of so many
pub fetch_in_numbers : (count : ℕ) (m : Mailbox) → numbers_of (moved m (fetches count)) ≡ fetched count (numbers_of m)
fetch_in_numbers count m = opened_in_numbers (room_more count m.room) m

opened_untaken : (room : Option ℕ) (m : Mailbox) → untaken (boxes.opened room m) ≡ untaken m
opened_untaken room m =
    let n = freed room (length m.held) in
    append_assoc m.ready (take n m.held) (drop n m.held) ∙ ap (λ held. m.ready ++ held) (take-append-drop n m.held)

-- a Pause, a Resume and a Fetch keep the messages, and their order
pub pause_untaken : (m : Mailbox) → untaken (moved m pauses) ≡ untaken m
pause_untaken m = refl

pub resume_untaken : (m : Mailbox) → untaken (moved m resumes) ≡ untaken m
resume_untaken m = opened_untaken None m

pub fetch_untaken : (count : ℕ) (m : Mailbox) → untaken (moved m (fetches count)) ≡ untaken m
fetch_untaken count m = opened_untaken (room_more count m.room) m
