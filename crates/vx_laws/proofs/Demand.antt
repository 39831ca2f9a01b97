-- A consumer takes no more messages behind a Pause than are fetched for it.
use Rattle.std.proofs.Common.{◌≡◌, ℕ, ◌+◌, ◌-◌, ◌^◌, ◌<◌, ◌≤◌, zero, suc, min, List, [], ◌∷◌, ◌++◌, length, take, refl, ap, sym, ◌∙◌, subst, append_assoc, arith}
use Rattle.std.proofs.Common.{inl, inr}
use Rattle.std.specs.Prelude.{Bool, true, false, not, ◌&&◌, cond, nat_lt, map, Some}
use Rattle.std.specs.List.{list_any}
use Rattle.std.proofs.Math.ListN.{length-take}
use Rattle.std.proofs.lemmas.Bool.Decides.{nat_tests}
use Rattle.std.proofs.lemmas.Bool.{eq-eqb}
use Rattle.std.proofs.lemmas.List.{length-append, length_push}
use Rattle.std.proofs.lemmas.List.Sums.{sum_by-append, length-filter, count_by-le-length}
use Rattle.std.proofs.lemmas.List.Folds.{list_any-append}
use Rattle.vx_data.specs.declared.ids.ConsumerId.{ConsumerId}
use Rattle.vx_data.specs.declared.ids.ContextId.{ContextId}
use Rattle.vx_data.specs.declared.ids.MessageId.{MessageId}
use Rattle.vx_data.specs.declared.ids.PassNo.{PassNo}
use Rattle.vx_data.specs.Ids.{same_consumer, same_message}
use Rattle.vx_message.specs.declared.Lane.{Lane}
use Rattle.vx_message.specs.declared.Message.{Message}
use Rattle.vx_message.specs.declared.Owner.{Owner}
use Rattle.vx_message.specs.declared.Owner.TheVariants as owners
use Rattle.vx_consumer.specs.declared.flow.Arrive.TheVariants as arrives
use Rattle.vx_consumer.specs.Flows.{arrival, room_less, room_more, freed}
use Rattle.vx_consumer.specs.Mailboxes as boxes
use Rattle.vx_consumer.specs.Mailboxes.{Mailbox, Move, arrives_with, pauses, fetches, hands, next_arrival, put, opened, others, moved, after_moves}
use Rattle.vx_call.specs.declared.call.Call.{Call}
use Rattle.vx_call.specs.declared.call.Call.TheVariants as calls
use Rattle.vx_call.specs.declared.reply.Reply.{Reply}
use Rattle.vx_call.specs.declared.reply.Reply.TheVariants as replies
use Rattle.vx_call.specs.declared.reply.Task.TheVariants as tasks
use Rattle.vx_call.specs.declared.history.Consumer.{Consumer}
use Rattle.vx_call.specs.declared.history.Mark.{Mark}
use Rattle.vx_call.specs.declared.history.Traced.{Traced}
use Rattle.vx_call.specs.History.{is_accepted}
use Rattle.vx_call.specs.Names.{next_message}
use Rattle.vx_call.specs.Owners.{context_owning, is_context_owner}
use Rattle.vx_call.specs.Consumers as consumers
use Rattle.vx_call.specs.Consumers.{live}
use Rattle.vx_call.specs.Arrivals.{reaches}
use Rattle.vx_call.specs.Mailboxes.{mailbox, moves_by}
use Rattle.vx_call.specs.Items.{waiting, is_for}
use Rattle.vx_call.specs.Machine.{IsLegal, MayFollow, answer, row}
use Rattle.vx_call.proofs.Each.{by_entries}
use Rattle.vx_call.proofs.Consumers.{live_named, live_found, live_came, same_consumer-true, same_consumer-self}
use Rattle.vx_call.proofs.Homes.{context_owner}
use Rattle.vx_call.proofs.Legal.{legal_front}
use Rattle.vx_call.proofs.Items.{tasks_of}
use Rattle.vx_call.proofs.Mailboxes.{mailbox_moved}
use Rattle.vx_call.proofs.Parts.{own, message_in}
use Rattle.vx_call.proofs.Ready.{stands}
use Rattle.vx_laws.specs.Entries.{hands_to, is_taken_by, taken_in}
use Rattle.vx_laws.specs.Demand.{fetches_for, resumes, fetched_by, is_resumed_by, fetched_in, TakesAsFetched}
use Rattle.vx_laws.proofs.Handed.{waited}
use Rattle.vx_laws.proofs.Takes.{HandsTo, hands_so, one_taken, takes_live, named_earlier, neither_first, neither_last}
use Rattle.vx_laws.proofs.Order.{first_waits}

-- ## One move

-- Of a mailbox with a bound, of which so many messages were taken since the Pause and so many fetched: what was taken,
-- what is ready, and the room that is left come to no more than was fetched.
record Fed (box : Mailbox) (taken fetched : ℕ) : Type 0 where
  pub room : ℕ
  pub bound : box.room ≡ Some room
  pub enough : taken + length box.ready + room ≤ fetched

fed_as : (box : Mailbox) (taken fetched now more : ℕ) → Fed box taken fetched → now ≤ taken → fetched ≤ more → Fed box now more
fed_as box taken fetched now more fed less grown = record { room = fed.room; bound = fed.bound; enough = omega (arith, fed.enough, less, grown) }

later : (n limit : ℕ) → cond (nat_lt n limit) arrives.Held arrives.Lost ≡ arrives.Ready → ⊥
later n limit = elim (nat_lt n limit) as (λ b. cond b arrives.Held arrives.Lost ≡ arrives.Ready → ⊥) [ true ↦ λ h. absurd cc | false ↦ λ h. absurd cc ]

-- what is made ready as it arrives had room
had_room : (room limit n : ℕ) → arrival limit (Some room) n ≡ arrives.Ready → 0 < room
had_room zero limit n ready = absurd (later n limit ready)
had_room (suc room) limit n ready = omega arith

fed_put : (message : MessageId) (box : Mailbox) (taken fetched : ℕ) → Fed box taken fetched → Fed (put message (next_arrival box) box) taken fetched
fed_put message box taken fetched fed =
    elim (next_arrival box) as (λ a. next_arrival box ≡ a → Fed (put message a box) taken fetched) [
      | arrives.Ready ↦ λ ready.
          (let some = had_room fed.room box.limit (length box.held) (sym (ap (λ room. arrival box.limit room (length box.held)) fed.bound) ∙ ready) in
          record { room = fed.room - 1; bound = ap (room_less 1) fed.bound; enough = omega (arith, length_push box.ready message, some, fed.enough) })
      | arrives.Held ↦ λ held. record { room = fed.room; bound = fed.bound; enough = fed.enough }
      | arrives.Lost ↦ λ lost. fed
    ] refl

freed_within : (room held : ℕ) → freed (Some room) held ≤ room
freed_within room held =
    elim (nat_lt room held) as (λ b. nat_lt room held ≡ b → cond b room held ≤ room) [
      | true ↦ λ less. omega arith
      | false ↦ λ not_less. grind (arith, nat_tests)
    ] refl

fed_fetch : (count : ℕ) (box : Mailbox) (taken fetched : ℕ) → Fed box taken fetched → Fed (moved box (fetches count)) taken (fetched + count)
fed_fetch count box taken fetched fed =
    let held = length box.held in
    let more = min (fed.room + count) (2 ^ 128 - 1) in
    let opens : room_more count box.room ≡ Some more = ap (room_more count) fed.bound in
    let frees : freed (room_more count box.room) held ≡ freed (Some more) held = ap (λ room. freed room held) opens in
    let few : more ≤ fed.room + count = omega arith in
    record {
      room = more - freed (Some more) held;
      bound = ap (λ room. room_less (freed room held) room) opens;
      enough = omega (arith, length-append box.ready (take (freed (room_more count box.room) held) box.held), length-take (freed (room_more count box.room) held) box.held, frees, freed_within more held, few, fed.enough);
    }

not_itself : (message : MessageId) (rest : List MessageId) → length (others message (message ∷ rest)) ≤ length rest
not_itself message rest =
    let itself : same_message message message ≡ true = eq-eqb message.0.0 message.0.0 refl in
    let drops : others message (message ∷ rest) ≡ others message rest = ap (λ b. cond (not b) (message ∷ others message rest) (others message rest)) itself in
    omega (arith, ap length drops, length-filter (λ other. not (same_message message other)) rest, count_by-le-length (λ other. not (same_message message other)) rest)

fed_hand : (message : MessageId) (rest : List MessageId) (box : Mailbox) (taken fetched : ℕ) → box.ready ≡ message ∷ rest → Fed box taken fetched → Fed (moved box (hands message)) (taken + 1) fetched
fed_hand message rest box taken fetched first fed = record {
  room = fed.room;
  bound = fed.bound;
  enough = omega (arith, ap (λ ready. length (others message ready)) first, not_itself message rest, ap length first, fed.enough);
}

fed_pause : (box : Mailbox) (taken fetched : ℕ) → taken ≤ fetched → Fed (moved box pauses) taken fetched
fed_pause box taken fetched few = record { room = 0; bound = refl; enough = omega (arith, few) }

fed_end : (box : Mailbox) (taken fetched : ℕ) → Fed box taken fetched → Fed (moved box boxes.ends) taken fetched
fed_end box taken fetched fed = record { room = fed.room; bound = fed.bound; enough = omega (arith, fed.enough) }

-- ## One entry

-- a move that an entry may make
may_move : (P : Mailbox → Type 0) (accepted named : Bool) (box : Mailbox) (move : Move) → P box → P (moved box move) → P (after_moves box (cond accepted (cond named (move ∷ []) []) []))
may_move P true true box move stays goes = goes
may_move P true false box move stays goes = stays
may_move P false named box move stays goes = stays

no_move : (P : Mailbox → Type 0) (accepted : Bool) (box : Mailbox) → P box → P (after_moves box (cond accepted [] []))
no_move P true box stays = stays
no_move P false box stays = stays

not_moved : (P : Mailbox → Type 0) (accepted named : Bool) (box : Mailbox) (move : Move) → (accepted && named) ≡ false → P box → P (after_moves box (cond accepted (cond named (move ∷ []) []) []))
not_moved P true true box move none stays = absurd cc
not_moved P true false box move none stays = stays
not_moved P false named box move none stays = stays

fetch_step : (accepted named : Bool) (count : ℕ) (box : Mailbox) (taken fetched now more : ℕ) → Fed box taken fetched → now ≡ taken + 0 → more ≡ fetched + cond (accepted && named) count 0 →
    Fed (after_moves box (cond accepted (cond named (fetches count ∷ []) []) [])) now more
fetch_step true true count box taken fetched now more fed is_now is_more = fed_as _ taken (fetched + count) now more (fed_fetch count box taken fetched fed) (omega (arith, is_now)) (omega (arith, is_more))
fetch_step true false count box taken fetched now more fed is_now is_more = fed_as box taken fetched now more fed (omega (arith, is_now)) (omega (arith, is_more))
fetch_step false named count box taken fetched now more fed is_now is_more = fed_as box taken fetched now more fed (omega (arith, is_now)) (omega (arith, is_more))

-- what a Take hands to the consumer is the first of its ready messages
abbrev HandsFirst : ConsumerId → Mailbox → Call → Reply → Type 0
HandsFirst id box call reply = (lane : Lane) (message : Message) → call ≡ calls.Take lane → reply ≡ replies.Task (tasks.Deliver id message) → (rest : List MessageId) × (box.ready ≡ message.id ∷ rest)

take_step : (id : ConsumerId) (lane : Lane) (consumer : ConsumerId) (message : Message) (box : Mailbox) (taken fetched now more : ℕ) → HandsFirst id box (calls.Take lane) (replies.Task (tasks.Deliver consumer message)) → Fed box taken fetched →
    now ≡ taken + cond (same_consumer id consumer) 1 0 → more ≡ fetched + 0 → Fed (after_moves box (cond (same_consumer id consumer) (hands message.id ∷ []) [])) now more
take_step id lane consumer message box taken fetched now more first fed is_now is_more =
    elim (same_consumer id consumer) as (λ b. same_consumer id consumer ≡ b → now ≡ taken + cond b 1 0 → Fed (after_moves box (cond b (hands message.id ∷ []) [])) now more) [
      | true ↦ λ mine is_one.
          (let ready = first lane message refl (ap (λ i. replies.Task (tasks.Deliver i message)) (sym (same_consumer-true id consumer mine))) in
          fed_as _ (taken + 1) fetched now more (fed_hand message.id ready.0 box taken fetched ready.1 fed) (omega (arith, is_one)) (omega (arith, is_more)))
      | false ↦ λ another is_none. fed_as box taken fetched now more fed (omega (arith, is_none)) (omega (arith, is_more))
    ] refl is_now

-- what an entry does to a mailbox with a bound
entry_step : (history : List Traced) (consumer : Consumer) (pass : PassNo) (mark : Mark) (box : Mailbox) (call : Call) (reply : Reply) (taken fetched now more : ℕ) → HandsFirst consumer.id box call reply → resumes consumer.id call reply ≡ false → Fed box taken fetched →
    now ≡ taken + cond (hands_to consumer.id call reply) 1 0 → more ≡ fetched + fetches_for consumer.id call reply → Fed (after_moves box (cond (is_accepted reply) (moves_by consumer history pass call mark reply) [])) now more
entry_step history consumer pass mark box (calls.Send address body options) reply taken fetched now more first none fed is_now is_more =
    let same = fed_as box taken fetched now more fed (omega (arith, is_now)) (omega (arith, is_more)) in
    may_move (λ m. Fed m now more) (is_accepted reply) (reaches history (calls.Send address body options) mark.deed consumer.id) box (arrives_with (next_message history)) same (fed_put (next_message history) box now more same)
entry_step history consumer pass mark box (calls.Publish address body options) reply taken fetched now more first none fed is_now is_more =
    let same = fed_as box taken fetched now more fed (omega (arith, is_now)) (omega (arith, is_more)) in
    may_move (λ m. Fed m now more) (is_accepted reply) (reaches history (calls.Publish address body options) mark.deed consumer.id) box (arrives_with (next_message history)) same (fed_put (next_message history) box now more same)
entry_step history consumer pass mark box (calls.Request context address body options timeout once) reply taken fetched now more first none fed is_now is_more =
    let same = fed_as box taken fetched now more fed (omega (arith, is_now)) (omega (arith, is_more)) in
    may_move (λ m. Fed m now more) (is_accepted reply) (reaches history (calls.Request context address body options timeout once) mark.deed consumer.id) box (arrives_with (next_message history)) same
    (fed_put (next_message history) box now more same)
entry_step history consumer pass mark box (calls.Unregister other) reply taken fetched now more first none fed is_now is_more =
    let same = fed_as box taken fetched now more fed (omega (arith, is_now)) (omega (arith, is_more)) in
    may_move (λ m. Fed m now more) (is_accepted reply) (consumers.ends history pass (calls.Unregister other) mark consumer) box boxes.ends same (fed_end box now more same)
entry_step history consumer pass mark box (calls.Pause other) reply taken fetched now more first none fed is_now is_more =
    let same = fed_as box taken fetched now more fed (omega (arith, is_now)) (omega (arith, is_more)) in
    may_move (λ m. Fed m now more) (is_accepted reply) (same_consumer consumer.id other) box pauses same (fed_pause box now more (omega (arith, same.enough)))
entry_step history consumer pass mark box (calls.Resume other) reply taken fetched now more first none fed is_now is_more =
    not_moved (λ m. Fed m now more) (is_accepted reply) (same_consumer consumer.id other) box boxes.resumes none (fed_as box taken fetched now more fed (omega (arith, is_now)) (omega (arith, is_more)))
entry_step history consumer pass mark box (calls.Fetch other count) reply taken fetched now more first none fed is_now is_more =
    fetch_step (is_accepted reply) (same_consumer consumer.id other) count box taken fetched now more fed is_now is_more
entry_step history consumer pass mark box (calls.Take lane) (replies.Task (tasks.Deliver other message)) taken fetched now more first none fed is_now is_more =
    take_step consumer.id lane other message box taken fetched now more first fed is_now is_more
entry_step history consumer pass mark box (calls.Take lane) reply taken fetched now more first none fed is_now is_more =
    no_move (λ m. Fed m now more) (is_accepted reply) box (fed_as box taken fetched now more fed (omega (arith, is_now)) (omega (arith, is_more)))
entry_step history consumer pass mark box (calls.FrameIn conn frame) reply taken fetched now more first none fed is_now is_more =
    let same = fed_as box taken fetched now more fed (omega (arith, is_now)) (omega (arith, is_more)) in
    may_move (λ m. Fed m now more) (is_accepted reply) (reaches history (calls.FrameIn conn frame) mark.deed consumer.id) box (arrives_with (next_message history)) same (fed_put (next_message history) box now more same)
entry_step history consumer pass mark box call reply taken fetched now more first none fed is_now is_more =
    let same = fed_as box taken fetched now more fed (omega (arith, is_now)) (omega (arith, is_more)) in
    may_move (λ m. Fed m now more) (is_accepted reply) (consumers.ends history pass call mark consumer) box boxes.ends same (fed_end box now more same)

-- ## A history

-- what holds of a consumer that was paused: its mailbox, while it is live, where it is of a context, and what it took
record Feeds (now : List Traced) (id : ConsumerId) (taken fetched : ℕ) : Type 0 where
  pub fed : (consumer : Consumer) → live now id ≡ Some consumer → is_context_owner consumer.owner ≡ true → Fed (mailbox now consumer) taken fetched
  pub few : taken ≤ fetched

-- a Take of a legal history hands the consumer the first of its ready messages
hands_first : (now : List Traced) (new : Traced) (id : ConsumerId) (consumer : Consumer) (context : ContextId) → context_owning consumer.owner ≡ Some context → MayFollow now new → live now id ≡ Some consumer →
    HandsFirst id (mailbox now consumer) new.entry.call new.entry.reply
hands_first now new id consumer context owns may is_live lane message is_call is_reply =
    let task = tasks.Deliver id message in
    let found = waited now new.entry.pass lane task (sym is_reply ∙ may.answered ∙ ap (answer now new.entry.pass) is_call) in
    let first = first_waits now lane found.0 id found.1 (ap (is_for id) found.2 ∙ eq-eqb id.0.0 id.0.0 refl) in
    let parts = stands now consumer context owns (live_found now id consumer is_live) in (
      map message_in first.0,
      sym parts.ready ∙ ap (λ i. map message_in (own i (tasks_of (waiting now)))) (sym (live_named now id consumer is_live)) ∙ ap (map message_in) first.1
          ∙ ap (λ t. message_in t ∷ map message_in first.0) found.2,
    )

-- an owner that is a context
the_context : (owner : Owner) → is_context_owner owner ≡ true → (context : ContextId) × (context_owning owner ≡ Some context)
the_context (owners.Context context) is = (context, refl)
the_context _ is = absurd cc

-- so what it takes was fetched
taken_fed : (now : List Traced) (new : Traced) (id : ConsumerId) (taken fetched : ℕ) → IsLegal now → MayFollow now new → Feeds now id taken fetched → HandsTo id new.entry.call new.entry.reply → taken + 1 ≤ fetched
taken_fed now new id taken fetched lawful may feeds hand =
    let home = takes_live now new id lawful may hand in
    let consumer : Consumer = home.consumer in
    let fed = feeds.fed consumer home.is_live (ap is_context_owner (context_owner consumer.owner home.context home.owns)) in
    let ready = hands_first now new id consumer home.context home.owns may home.is_live hand.lane hand.message hand.called hand.replied in
    omega (arith, fed.enough, ap length ready.1)

feeds_on : (now : List Traced) (new : Traced) (id : ConsumerId) (taken fetched after more : ℕ) → id.0.0 < length now → IsLegal now → MayFollow now new → is_resumed_by id new ≡ false → Feeds now id taken fetched →
    after ≡ taken + cond (is_taken_by id new) 1 0 → more ≡ fetched + fetched_by id new → Feeds (now ++ new ∷ []) id after more
feeds_on now new id taken fetched after more earlier lawful may none feeds is_after is_more = record {
  fed = λ consumer is_live of_context.
      (let named : id ≡ consumer.id = live_named (now ++ new ∷ []) id consumer is_live in
      elim (live_came now new consumer (live_found (now ++ new ∷ []) id consumer is_live)) as (λ _. Fed (mailbox (now ++ new ∷ []) consumer) after more) [
        | inl stays ↦
            (let was : live now id ≡ Some consumer = ap (live now) named ∙ stays.was in
            let box = mailbox now consumer in
            let its = the_context consumer.owner of_context in
            let Goal : Mailbox → Type 0 = λ m. Fed m after more in
            subst Goal (sym (mailbox_moved now new consumer of_context stays.was))
            (entry_step now consumer new.entry.pass new.mark box new.entry.call new.entry.reply taken fetched after more
            (subst (λ i. HandsFirst i box new.entry.call new.entry.reply) named (hands_first now new id consumer its.0 its.1 may was))
            (ap (λ i. resumes i new.entry.call new.entry.reply) (sym named) ∙ none) (feeds.fed consumer was of_context)
            (is_after ∙ ap (λ i. taken + cond (hands_to i new.entry.call new.entry.reply) 1 0) named) (is_more ∙ ap (λ i. fetched + fetches_for i new.entry.call new.entry.reply) named)))
        | inr keyed ↦ absurd (omega (arith, earlier, keyed, ap (λ i. i.0.0) named))
      ]);
  few =
      (elim (is_taken_by id new) as (λ b. is_taken_by id new ≡ b → after ≡ taken + cond b 1 0 → after ≤ more) [
        | true ↦ λ its is_one. omega (arith, is_one, is_more, taken_fed now new id taken fetched lawful may feeds (hands_so id new.entry.call new.entry.reply its))
        | false ↦ λ not_its is_none. omega (arith, is_none, is_more, feeds.few)
      ] refl is_after);
}

-- ## From the Pause on

feeds_first : (before : List Traced) (pause : Traced) (id : ConsumerId) → MayFollow before pause → pause.entry.call ≡ calls.Pause id → is_accepted pause.entry.reply ≡ true →
    (id.0.0 < length before) × Feeds (before ++ pause ∷ []) id 0 0
feeds_first before pause id may called done =
    let named = named_earlier before pause id may (ap (row before pause.entry.pass) called) done in (
      named,
      record {
        fed = λ consumer is_live of_context.
            (let same : id ≡ consumer.id = live_named (before ++ pause ∷ []) id consumer is_live in
            let box = mailbox before consumer in
            elim (live_came before pause consumer (live_found (before ++ pause ∷ []) id consumer is_live)) as (λ _. Fed (mailbox (before ++ pause ∷ []) consumer) 0 0) [
              | inl stays ↦
                  (let Goal : Mailbox → Type 0 = λ m. Fed m 0 0 in
                  subst Goal
                  (sym
                  (mailbox_moved before pause consumer of_context stays.was
                  ∙ ap (λ b. after_moves box (cond b (moves_by consumer before pause.entry.pass pause.entry.call pause.mark pause.entry.reply) [])) done
                  ∙ ap (λ call. after_moves box (moves_by consumer before pause.entry.pass call pause.mark pause.entry.reply)) called
                  ∙ ap (λ b. after_moves box (cond b (pauses ∷ []) [])) (ap (same_consumer consumer.id) same ∙ same_consumer-self consumer.id)))
                  (fed_pause box 0 0 (omega arith)))
              | inr keyed ↦ absurd (omega (arith, named, keyed, ap (λ i. i.0.0) same))
            ]);
        few = omega arith;
      },
    )

module _ (history : List Traced) (legal : IsLegal history) (id : ConsumerId) (before : List Traced) (pause : Traced) (called : pause.entry.call ≡ calls.Pause id) (done : is_accepted pause.entry.reply ≡ true) where
  -- after the entries so far
  abbrev Stage : List Traced → Type 0
  Stage since = (after : List Traced) → history ≡ before ++ pause ∷ (since ++ after) → list_any (is_resumed_by id) since ≡ false → (id.0.0 < length before) × Feeds (before ++ pause ∷ since) id (taken_in since id) (fetched_in since id)

  stage : (since : List Traced) → Stage since
  stage =
      by_entries Stage (λ after parts none. feeds_first before pause id (legal before pause after parts) called done)
      (λ since new stages after parts none.
      let now = before ++ pause ∷ since in
      let rest : since ++ new ∷ after ≡ (since ++ new ∷ []) ++ after = sym (append_assoc since (new ∷ []) after) in
      let cut : history ≡ before ++ pause ∷ (since ++ new ∷ after) = parts ∙ ap (λ later. before ++ pause ∷ later) (sym rest) in
      let both = sym (list_any-append (is_resumed_by id) since (new ∷ [])) ∙ none in
      let far = stages (new ∷ after) cut (neither_first (list_any (is_resumed_by id) since) (is_resumed_by id new) both) in
      let split = cut ∙ sym (append_assoc before (pause ∷ since) (new ∷ after)) in
      let may = legal now new after split in
      let lawful : IsLegal now = legal_front now (new ∷ after) (subst (λ (h : List Traced). IsLegal h) split legal) in
      let whole : (before ++ pause ∷ since) ++ new ∷ [] ≡ before ++ pause ∷ (since ++ new ∷ []) = append_assoc before (pause ∷ since) (new ∷ []) in
      let Goal : List Traced → Type 0 = λ h. Feeds h id (taken_in (since ++ new ∷ []) id) (fetched_in (since ++ new ∷ []) id) in (
        far.0,
        subst Goal whole
            (feeds_on now new id (taken_in since id) (fetched_in since id) (taken_in (since ++ new ∷ []) id) (fetched_in (since ++ new ∷ []) id) (omega (arith, far.0, length-append before (pause ∷ since))) lawful may
            (neither_last (list_any (is_resumed_by id) since) (is_resumed_by id new) both) far.1 (one_taken id since new) (omega (arith, sum_by-append (fetched_by id) since (new ∷ [])))),
      ))

pub take_as_fetched : (history : List Traced) → IsLegal history → TakesAsFetched history
take_as_fetched history legal = λ id before since after pause parts called done none. (stage history legal id before pause called done since after parts none).1.few
