-- An entry that makes a message: what it does to the stores.
use Rattle.std.proofs.Common.{◌≡◌, ℕ, List, [], ◌∷◌, ◌++◌, refl, ap, sym, ◌∙◌}
use Rattle.std.proofs.Common.{◌⊎◌, inl, inr}
use Rattle.std.specs.Prelude.{Bool, true, false, cond, filter, find, map, is_some, Option, None, Some}
use Rattle.std.specs.Option.{option_map, option_and_then, option_to_list, option_or}
use Rattle.std.proofs.lemmas.List.{map-append}
use Rattle.vx_data.specs.declared.ids.ConsumerId.{ConsumerId}
use Rattle.vx_data.specs.declared.ids.MessageId.{MessageId}
use Rattle.vx_data.specs.Ids.{same_consumer}
use Rattle.vx_message.specs.declared.Message.{Message}
use Rattle.vx_message.specs.declared.rules.Side.TheVariants as sides
use Rattle.vx_timer.specs.declared.timers.Timer.{Timer}
use Rattle.vx_consumer.specs.declared.flow.Arrive.{Arrive}
use Rattle.vx_consumer.specs.declared.flow.Arrive.TheVariants as arrives
use Rattle.vx_consumer.specs.Flows.{Counted, counted}
use Rattle.vx_consumer.specs.Mailboxes.{Mailbox, arrives_with, after_moves, numbers_of}
use Rattle.vx_consumer.proofs.Numbers.{arrival_in_numbers}
use Rattle.vx_ring.specs.Rings.{consumers_at, choices_at}
use Rattle.vx_request.specs.Stores.{ended_at, given_at}
use Rattle.vx_call.specs.declared.call.Call.{Call}
use Rattle.vx_call.specs.declared.reply.Task.{Task}
use Rattle.vx_call.specs.declared.reply.To.{To}
use Rattle.vx_call.specs.declared.reply.To.TheVariants as reached
use Rattle.vx_call.specs.declared.history.Consumer.{Consumer}
use Rattle.vx_call.specs.declared.history.Deed.TheVariants as deeds
use Rattle.vx_call.specs.declared.history.Traced.{Traced}
use Rattle.vx_call.specs.History.{made_by, ended_by, lasting}
use Rattle.vx_call.specs.Built.{AreStored}
use Rattle.vx_call.specs.Names.{next_message}
use Rattle.vx_call.specs.Registered.{is_named}
use Rattle.vx_call.specs.Consumers.{consumers, live}
use Rattle.vx_call.specs.Rules.{passed}
use Rattle.vx_call.specs.Messages.{sent, received}
use Rattle.vx_call.specs.Arrivals.{addressed, reaches}
use Rattle.vx_call.specs.Arrivals as arrivals
use Rattle.vx_call.specs.Choices.{choices, choice}
use Rattle.vx_call.specs.Mailboxes.{mailbox, move_if, arrival_at, is_ready, is_accepted, readied, accepting}
use Rattle.vx_call.specs.Given.{given_kind}
use Rattle.vx_call.specs.Requests.{Open, open_kind, open_made, unsettled, by_due}
use Rattle.vx_call.specs.Settled.{settled_kind, settled_made, settled_at}
use Rattle.vx_call.specs.Items.{Waiting, item_kind, item_by, waiting, task_kind, task_made, untaken}
use Rattle.vx_call.specs.Rows.{arrived_at, reached_by, destination}
use Rattle.vx_call.proofs.Lasting.{lasting_more}
use Rattle.vx_call.proofs.Stored.{stored_more}
use Rattle.vx_call.proofs.Dropped.{ended_among, settled_at_kept}
use Rattle.vx_call.proofs.Each.{weaken}
use Rattle.vx_call.proofs.Consumers.{IsLive, consumers_live, same_consumer-true, same_consumer-swap}
use Rattle.vx_call.proofs.Arrivals.{choice_live}
use Rattle.vx_call.proofs.Settlings.{is_settled_as, settled-append}
use Rattle.vx_context.specs.Stores.{ContextStore, item_of}
use Rattle.vx_bus_store.specs.declared.bus.Handler.{Handler}
use Rattle.vx_bus_store.specs.Stores.{BusStore, handler_of, next_arrival, changed, arrived, row_of, timer_of}
use Rattle.vx_bus_store.specs.Stands.{StoresStand}
use Rattle.vx_bus_store.proofs.Images.{map-map, map_each}
use Rattle.vx_bus_store.proofs.Frames.{LeavesConsumers, LeavesCodecs, LeavesRules, consumers_left, handlers_by, rings_left, given_left, codecs_left, rules_left}
use Rattle.vx_bus_send.proofs.Stays.{KeepsContexts, contexts_more, arrives_here}
use Rattle.vx_bus_send.proofs.Settling.{at_of}

-- ## The entry

-- an accepted entry whose call makes a message, and does no more than that
pub record IsPassed (history : List Traced) (new : Traced) (call : Call) : Type 0 where
  pub contexts : KeepsContexts history new
  pub consumers : LeavesConsumers history new
  pub given : made_by given_kind history new ≡ []
  pub codecs : LeavesCodecs history new
  pub rules : LeavesRules history new
  pub tasks : made_by task_kind history new ≡ task_made history new.entry.pass call deeds.Nothing
  pub untaken : (task : Task) → ended_by task_kind history new task ≡ false
  pub items : made_by item_kind history new ≡ item_by history new call
  pub kept : (item : Waiting) → ended_by item_kind history new item ≡ false
  pub settled : made_by settled_kind history new ≡ settled_made history new.entry.pass call deeds.Nothing
  pub opened : made_by open_kind history new ≡ open_made history call deeds.Nothing
  pub closed : (one : Open) → ended_by open_kind history new one ≡ false
  pub moves : (consumer : Consumer) → IsLive history consumer →
      mailbox (history ++ new ∷ []) consumer ≡ after_moves (mailbox history consumer) (move_if (reaches history call deeds.Nothing consumer.id) (arrives_with (next_message history)))

-- ## What is done

-- the stores, with what the entry makes
pub record GoesOut (contexts new_contexts : ContextStore) (new_timers : List Timer) (bus new_bus : BusStore) (history : List Traced) (new : Traced) (call : Call) : Type 0 where
  pub items : new_contexts ≡ record contexts { waiting = contexts.waiting ++ map (item_of history) (item_by history new call); room = new_contexts.room }
  pub timers : new_timers ≡ map timer_of (by_due (unsettled history ++ open_made history call deeds.Nothing))
  pub consumers : new_bus.consumers ≡ map (handler_of (history ++ new ∷ [])) (consumers history)
  pub in_turn : (a : List ℕ) → consumers_at a new_bus.rings ≡ consumers_at a bus.rings
  pub choices : (a : List ℕ) → choices_at a new_bus.rings ≡ choices (history ++ new ∷ []) a
  pub tasks : new_bus.tasks ≡ bus.tasks ++ task_made history new.entry.pass call deeds.Nothing
  pub opened : new_bus.requests.waiting ≡ bus.requests.waiting ++ map row_of (open_made history call deeds.Nothing)
  pub ended : (id : MessageId) → ended_at id new_bus.requests.ended ≡ option_or (settled_at history id) (ended_among id (settled_made history new.entry.pass call deeds.Nothing))
  pub given : (id : MessageId) → given_at id new_bus.given ≡ given_at id bus.given
  pub codecs : new_bus.codecs ≡ bus.codecs
  pub rules : new_bus.rules ≡ bus.rules

pub goes_out : (contexts new_contexts : ContextStore) (timers new_timers : List Timer) (bus new_bus : BusStore) (history : List Traced) (new : Traced) (call : Call) → IsPassed history new call →
    StoresStand contexts timers bus history → GoesOut contexts new_contexts new_timers bus new_bus history new call → StoresStand new_contexts new_timers new_bus (history ++ new ∷ [])
goes_out contexts new_contexts timers new_timers bus new_bus history new call passed stands out =
    let same = consumers_left history new passed.consumers in
    let more_open : unsettled (history ++ new ∷ []) ≡ unsettled history ++ open_made history call deeds.Nothing = lasting_more open_kind history new passed.closed ∙ ap (λ made. unsettled history ++ made) passed.opened in
    let more_items : waiting (history ++ new ∷ []) ≡ waiting history ++ item_by history new call = lasting_more item_kind history new passed.kept ∙ ap (λ made. waiting history ++ made) passed.items in
    let more_tasks : untaken (history ++ new ∷ []) ≡ untaken history ++ task_made history new.entry.pass call deeds.Nothing = lasting_more task_kind history new passed.untaken ∙ ap (λ made. untaken history ++ made) passed.tasks in
    record {
      stored = stored_more history new stands.stored passed.contexts.keeps.stored;
      contexts = contexts_more contexts new_contexts history new (item_by history new call) passed.contexts more_items stands.contexts out.items;
      timers = out.timers ∙ ap (λ requests. map timer_of (by_due requests)) (sym more_open);
      bus = record {
        consumers = out.consumers ∙ ap (map (handler_of (history ++ new ∷ []))) (sym same);
        rings = λ a. out.in_turn a ∙ stands.bus.rings a ∙ sym (rings_left history new a passed.consumers);
        choices = out.choices;
        tasks = out.tasks ∙ ap (λ tasks. tasks ++ task_made history new.entry.pass call deeds.Nothing) stands.bus.tasks ∙ sym more_tasks;
        opened = out.opened
            ∙ ap (λ rows. rows ++ map row_of (open_made history call deeds.Nothing)) stands.bus.opened
            ∙ sym (ap (map row_of) more_open ∙ map-append row_of (unsettled history) (open_made history call deeds.Nothing));
        ended = λ id. out.ended id ∙ ap (λ made. option_or (settled_at history id) (ended_among id made)) (sym passed.settled) ∙ sym (settled_at_kept history new id stands.stored passed.contexts.keeps);
        given = λ id. out.given id ∙ stands.bus.given id ∙ sym (given_left history new id passed.given);
        codecs = out.codecs ∙ stands.bus.codecs ∙ sym (codecs_left history new passed.codecs);
        rules = out.rules ∙ stands.bus.rules ∙ sym (rules_left history new passed.rules);
      };
    }

-- ## The mailboxes in numbers

-- the handler, once a message arrived
abbrev pub with_arrival : Handler → Handler
with_arrival handler = record { consumer = handler.consumer; flow = arrived handler.flow }

moved_handler : (consumer : Consumer) (box after : Mailbox) (message : MessageId) (b : Bool) → after ≡ after_moves box (move_if b (arrives_with message)) →
    ◌≡◌ {A = Handler} (record { consumer = consumer; flow = numbers_of after })
    (cond b (record { consumer = consumer; flow = arrived (numbers_of box) }) (record { consumer = consumer; flow = numbers_of box }))
moved_handler consumer box after message true is_after =
    ap (λ (m : Mailbox). (let h : Handler = record { consumer = consumer; flow = numbers_of m } in h)) is_after
    ∙ ap (λ (flow : Counted). (let h : Handler = record { consumer = consumer; flow = flow } in h)) (arrival_in_numbers message box)
moved_handler consumer box after message false is_after = ap (λ (m : Mailbox). (let h : Handler = record { consumer = consumer; flow = numbers_of m } in h)) is_after

-- the handler of a live consumer after the entry
pub handler_after : (history : List Traced) (new : Traced) (call : Call) (consumer : Consumer) → IsPassed history new call → IsLive history consumer →
    handler_of (history ++ new ∷ []) consumer ≡ cond (reaches history call deeds.Nothing consumer.id) (with_arrival (handler_of history consumer)) (handler_of history consumer)
handler_after history new call consumer passed is_live =
    moved_handler consumer (mailbox history consumer) (mailbox (history ++ new ∷ []) consumer) (next_message history) (reaches history call deeds.Nothing consumer.id) (passed.moves consumer is_live)

-- what makes of each live consumer's handler what the entry does
pub handlers_after : (history : List Traced) (new : Traced) (call : Call) (f : Handler → Handler) → IsPassed history new call →
    ((consumer : Consumer) → IsLive history consumer → f (handler_of history consumer) ≡ cond (reaches history call deeds.Nothing consumer.id) (with_arrival (handler_of history consumer)) (handler_of history consumer)) →
    map f (map (handler_of history) (consumers history)) ≡ map (handler_of (history ++ new ∷ [])) (consumers history)
handlers_after history new call f passed same =
    map-map f (handler_of history) (consumers history)
    ∙ map_each (λ c. f (handler_of history c)) (handler_of (history ++ new ∷ [])) (consumers history)
    (weaken (IsLive history) (λ c. f (handler_of history c) ≡ handler_of (history ++ new ∷ []) c) (consumers history)
    (λ c is_live. same c is_live ∙ sym (handler_after history new call c passed is_live)) (consumers_live history))

-- ## A message for one consumer

-- nobody accepts the message
pub record Misses (history : List Traced) (call : Call) (to : To) : Type 0 where
  pub accepted : accepting history call deeds.Nothing ≡ []
  pub ready : readied history call deeds.Nothing ≡ []
  pub lost : (consumer : Consumer) → IsLive history consumer → reaches history call deeds.Nothing consumer.id ≡ true → arrival_at history consumer ≡ arrives.Lost
  pub elsewhere : (id : ConsumerId) → to ≡ reached.Consumer id → ⊥

-- the consumer whose turn it is accepts it
pub record Meets (history : List Traced) (call : Call) (address : List ℕ) (to : To) : Type 0 where
  pub consumer : Consumer
  pub message : Message
  pub is_sent : is_some (sent history call deeds.Nothing) ≡ true
  pub received : received history call deeds.Nothing ≡ Some message
  pub chosen : choice history address ≡ Some consumer
  pub alone : arrivals.reached history call deeds.Nothing ≡ consumer ∷ []
  pub accepts : is_accepted (arrival_at history consumer) ≡ true
  pub goes : to ≡ reached.Consumer consumer.id

reached_so : (history : List Traced) (call : Call) (address : List ℕ) (o : Option Message) (chosen : Option Consumer) → addressed history call deeds.Nothing ≡ option_to_list (choice history address) →
    received history call deeds.Nothing ≡ o → choice history address ≡ chosen → arrivals.reached history call deeds.Nothing ≡ cond (is_some o) (option_to_list chosen) []
reached_so history call address o chosen is_one is_received is_chosen =
    ap (λ r. cond (is_some r) (addressed history call deeds.Nothing) []) is_received ∙ ap (λ cs. cond (is_some o) cs []) (is_one ∙ ap option_to_list is_chosen)

-- where the message arrives nowhere
arrives_nowhere : (history : List Traced) (call : Call) (to : To) → arrivals.reached history call deeds.Nothing ≡ [] → ((id : ConsumerId) → to ≡ reached.Consumer id → ⊥) → Misses history call to
arrives_nowhere history call to none elsewhere = record {
  accepted = ap (filter (λ consumer. is_accepted (arrival_at history consumer))) none;
  ready = ap (filter (λ consumer. is_ready (arrival_at history consumer))) none;
  lost = λ consumer is_live reaches. (let e : false ≡ true = sym (ap (λ cs. is_some (find (is_named consumer.id) cs)) none) ∙ reaches in cc);
  elsewhere = elsewhere;
}

is_named_one : (id : ConsumerId) (consumer : Consumer) → is_some (find (is_named id) (consumer ∷ [])) ≡ same_consumer id consumer.id
is_named_one id consumer = elim (same_consumer id consumer.id) as (λ b. is_some (cond b (Some consumer) None) ≡ b) [ true ↦ refl | false ↦ refl ]

-- where it arrives at one, it reaches those of its name
pub reaches_one : (history : List Traced) (call : Call) (consumer : Consumer) (id : ConsumerId) → arrivals.reached history call deeds.Nothing ≡ consumer ∷ [] → reaches history call deeds.Nothing id ≡ same_consumer id consumer.id
reaches_one history call consumer id one = ap (λ cs. is_some (find (is_named id) cs)) one ∙ is_named_one id consumer

arrives_lost : (history : List Traced) (call : Call) (to : To) (chosen : Consumer) → IsLive history chosen → arrivals.reached history call deeds.Nothing ≡ chosen ∷ [] → arrival_at history chosen ≡ arrives.Lost →
    ((id : ConsumerId) → to ≡ reached.Consumer id → ⊥) → Misses history call to
arrives_lost history call to chosen chosen_live one is_lost elsewhere = record {
  accepted = ap (filter (λ consumer. is_accepted (arrival_at history consumer))) one ∙ ap (λ a. cond (is_accepted a) (chosen ∷ []) []) is_lost;
  ready = ap (filter (λ consumer. is_ready (arrival_at history consumer))) one ∙ ap (λ a. cond (is_ready a) (chosen ∷ []) []) is_lost;
  lost = λ consumer is_live reaches.
      (let named : consumer.id ≡ chosen.id = same_consumer-true consumer.id chosen.id (sym (reaches_one history call chosen consumer.id one) ∙ reaches) in
      let both : Some consumer ≡ Some chosen = sym is_live ∙ ap (live history) named ∙ chosen_live in
      let same : consumer ≡ chosen = cc in
      ap (arrival_at history) same ∙ is_lost);
  elsewhere = elsewhere;
}

nowhere : (history : List Traced) (s : Option Message) (chosen : Option Consumer) (id : ConsumerId) → cond (is_some s) (reached_by history None chosen) reached.Stopped ≡ reached.Consumer id → ⊥
nowhere history None chosen id goes = cc
nowhere history (Some m) None id goes = cc
nowhere history (Some m) (Some consumer) id goes = cc

-- a message that is received was sent
sent_first : (history : List Traced) (s : Option Message) (message : Message) → option_and_then (passed history sides.In) s ≡ Some message → is_some s ≡ true
sent_first history None message is_received = cc
sent_first history (Some m) message is_received = refl

how_one : (history : List Traced) (call : Call) (address : List ℕ) (o : Option Message) (chosen : Option Consumer) → addressed history call deeds.Nothing ≡ option_to_list (choice history address) →
    received history call deeds.Nothing ≡ o → choice history address ≡ chosen → ((consumer : Consumer) → chosen ≡ Some consumer → IsLive history consumer) →
    Misses history call (destination history call address) ⊎ Meets history call address (destination history call address)
how_one history call address None chosen is_one is_received is_chosen lives =
    inl (arrives_nowhere history call (destination history call address) (reached_so history call address None chosen is_one is_received is_chosen)
    (λ id goes. nowhere history (sent history call deeds.Nothing) (choice history address) id (sym (ap (λ r. cond (is_some (sent history call deeds.Nothing)) (reached_by history r (choice history address)) reached.Stopped) is_received) ∙ goes)))
how_one history call address (Some message) None is_one is_received is_chosen lives =
    let to : destination history call address ≡ reached.None =
    ap (λ b. cond b (reached_by history (received history call deeds.Nothing) (choice history address)) reached.Stopped) (sent_first history (sent history call deeds.Nothing) message is_received)
    ∙ ap (reached_by history (received history call deeds.Nothing)) is_chosen in
    inl (arrives_nowhere history call (destination history call address) (reached_so history call address (Some message) None is_one is_received is_chosen)
    (λ id goes. (let e : reached.None ≡ reached.Consumer id = sym to ∙ goes in cc)))
how_one history call address (Some message) (Some consumer) is_one is_received is_chosen lives =
    let was_sent = sent_first history (sent history call deeds.Nothing) message is_received in
    let to : destination history call address ≡ arrived_at consumer (arrival_at history consumer) =
    ap (λ b. cond b (reached_by history (received history call deeds.Nothing) (choice history address)) reached.Stopped) was_sent
    ∙ ap (λ r. reached_by history r (choice history address)) is_received ∙ ap (reached_by history (Some message)) is_chosen in
    let one = reached_so history call address (Some message) (Some consumer) is_one is_received is_chosen in
    let Goal : Type 0 = Misses history call (destination history call address) ⊎ Meets history call address (destination history call address) in
    let meets : is_accepted (arrival_at history consumer) ≡ true → destination history call address ≡ reached.Consumer consumer.id → Goal = λ accepts goes.
    inr (record { consumer = consumer; message = message; is_sent = was_sent; received = is_received; chosen = is_chosen; alone = one; accepts = accepts; goes = goes }) in
    elim (arrival_at history consumer) as (λ a. arrival_at history consumer ≡ a → Goal) [
      | arrives.Ready ↦ λ is_ready. meets (ap is_accepted is_ready) (to ∙ ap (arrived_at consumer) is_ready)
      | arrives.Held ↦ λ is_held. meets (ap is_accepted is_held) (to ∙ ap (arrived_at consumer) is_held)
      | arrives.Lost ↦ λ is_lost.
          inl (arrives_lost history call (destination history call address) consumer (lives consumer refl) one is_lost
          (λ id goes. (let e : reached.Lost consumer.id ≡ reached.Consumer id = sym (to ∙ ap (arrived_at consumer) is_lost) ∙ goes in cc)))
    ] refl

-- nobody accepts a message that is sent to one, or the consumer does whose turn it is
pub how : (history : List Traced) (call : Call) (address : List ℕ) → addressed history call deeds.Nothing ≡ option_to_list (choice history address) →
    Misses history call (destination history call address) ⊎ Meets history call address (destination history call address)
how history call address is_one = how_one history call address (received history call deeds.Nothing) (choice history address) is_one refl refl (choice_live history address)

-- ## The consumers then

lost_stays : (handler : Handler) (a : Arrive) (b : Bool) → (b ≡ true → a ≡ arrives.Lost) → ◌≡◌ {A = Handler} (cond b (record { consumer = handler.consumer; flow = counted a handler.flow }) handler) handler
lost_stays handler a true is_lost = ap (λ (k : Arrive). (let h : Handler = record { consumer = handler.consumer; flow = counted k handler.flow } in h)) (is_lost refl)
lost_stays handler a false is_lost = refl

pub consumers_missed : (history : List Traced) (new : Traced) (call : Call) (to : To) → AreStored history → IsPassed history new call → Misses history call to →
    map (handler_of history) (consumers history) ≡ map (handler_of (history ++ new ∷ [])) (consumers history)
consumers_missed history new call to stored passed misses =
    sym (handlers_by history (handler_of (history ++ new ∷ []))
    (λ consumer is_live. handler_after history new call consumer passed is_live
    ∙ lost_stays (handler_of history consumer) (next_arrival (handler_of history consumer)) (reaches history call deeds.Nothing consumer.id)
    (λ reaches_it. sym (arrives_here history consumer stored is_live) ∙ misses.lost consumer is_live reaches_it)))

pub consumers_met : (history : List Traced) (new : Traced) (call : Call) (consumer : Consumer) → IsPassed history new call → arrivals.reached history call deeds.Nothing ≡ consumer ∷ [] →
    map (changed consumer.id arrived) (map (handler_of history) (consumers history)) ≡ map (handler_of (history ++ new ∷ [])) (consumers history)
consumers_met history new call consumer passed one =
    handlers_after history new call (changed consumer.id arrived) passed
    (λ c is_live. ap (λ b. cond b (with_arrival (handler_of history c)) (handler_of history c)) (same_consumer-swap consumer.id c.id ∙ sym (reaches_one history call consumer c.id one)))
