-- Entries that leave a store: one lemma a store, and one for each part that an entry may leave alone.
use Rattle.std.proofs.Common.{◌≡◌, ℕ, List, [], ◌∷◌, ◌++◌, refl, ap, sym, ◌∙◌}
use Rattle.std.specs.Prelude.{ℤ, Bool, true, false, not, ◌&&◌, ◌||◌, filter, find, map, Option}
use Rattle.std.specs.List.{count_by}
use Rattle.std.specs.Option.{option_map}
use Rattle.std.specs.Str.{bytes_eq}
use Rattle.vx_data.specs.declared.ids.PassNo.{PassNo}
use Rattle.vx_data.specs.declared.ids.MessageId.{MessageId}
use Rattle.vx_data.specs.Ids.{same_message}
use Rattle.vx_message.specs.declared.Held.{Held}
use Rattle.vx_message.specs.declared.Given.{Given}
use Rattle.vx_message.specs.declared.Owner.{Owner}
use Rattle.vx_message.specs.declared.Owner.TheVariants as owners
use Rattle.vx_message.specs.declared.Pool.{Pool}
use Rattle.vx_message.specs.declared.rules.Codec.{Codec}
use Rattle.vx_message.specs.declared.rules.Rule.{Rule}
use Rattle.vx_timer.specs.declared.timers.Timer.{Timer}
use Rattle.vx_consumer.specs.Flows.{Counted}
use Rattle.vx_consumer.specs.Mailboxes.{numbers_of}
use Rattle.vx_call.specs.declared.call.Call.{Call}
use Rattle.vx_call.specs.declared.reply.Refusal.{Refusal}
use Rattle.vx_call.specs.declared.reply.Reply.TheVariants as replies
use Rattle.vx_call.specs.declared.reply.Task.{Task}
use Rattle.vx_call.specs.declared.history.Consumer.{Consumer}
use Rattle.vx_call.specs.declared.history.Traced.{Traced}
use Rattle.vx_call.specs.History.{made_by, ended_by, is_accepted, entry_of, plain_entry, no_mark}
use Rattle.vx_call.specs.declared.history.Mark.{Mark}
use Rattle.vx_call.specs.Built.{is_stored, IsStored, AreStored}
use Rattle.vx_call.specs.Connections.{is_one_of}
use Rattle.vx_call.specs.Closings.{closing_kind}
use Rattle.vx_call.specs.Contexts.{context_kind}
use Rattle.vx_call.specs.Consumers.{ends_by_name, closes_owner, consumer_kind, consumers, handlers, is_at}
use Rattle.vx_call.specs.Pools.{pool_kind, pools}
use Rattle.vx_call.specs.Queued.{queued_kind}
use Rattle.vx_call.specs.Mailboxes.{mailbox}
use Rattle.vx_call.specs.Codecs.{codec_kind, codecs}
use Rattle.vx_call.specs.Rules.{rule_kind, rules}
use Rattle.vx_call.specs.Choices.{choice_kind, choices, is_empty}
use Rattle.vx_call.specs.Given.{given_kind, given}
use Rattle.vx_call.specs.Requests.{Open, open_kind, unsettled, by_due}
use Rattle.vx_call.specs.Settled.{Settled, settled_kind, settled, dropped_kind, settled_at}
use Rattle.vx_call.specs.Items.{Waiting, item_kind, waiting, task_kind, untaken}
use Rattle.vx_call.specs.Held.{held_kind}
use Rattle.vx_call.specs.Rows.{ids_of}
use Rattle.vx_call.specs.Machine.{row}
use Rattle.vx_call.proofs.Lasting.{lasting_same, and_false}
use Rattle.vx_call.proofs.Stored.{stored_more}
use Rattle.vx_call.proofs.KeepsOpen.{KeepsOpen, closed_left}
use Rattle.vx_call.proofs.Dropped.{settled_at_left}
use Rattle.vx_call.proofs.Each.{weaken}
use Rattle.vx_call.proofs.Consumers.{IsLive, consumers_live}
use Rattle.vx_call.proofs.Mailboxes.{mailbox_same}
use Rattle.vx_context.specs.Stores.{ContextStore, item_of}
use Rattle.vx_context.specs.Stands.{ContextsStand}
use Rattle.vx_context.proofs.Items.{LeavesItems, contexts_stay, items_left}
use Rattle.vx_bus_store.specs.declared.bus.Handler.{Handler}
use Rattle.vx_bus_store.specs.Stores.{BusStore, handler_of, row_of, timer_of}
use Rattle.vx_bus_store.specs.Stands.{BusStands, TimersStand, StoresStand, Follows}
use Rattle.vx_bus_store.proofs.Images.{map_each}

-- ## Waiting tasks

-- an entry that makes no task ready, and takes, holds and ends none that wait
pub record LeavesWaiting (history : List Traced) (new : Traced) : Type 0 where
  pub none : made_by item_kind history new ≡ []
  pub kept : (item : Waiting) → ended_by item_kind history new item ≡ false

pub waiting_left : (history : List Traced) (new : Traced) → LeavesWaiting history new → waiting (history ++ new ∷ []) ≡ waiting history
waiting_left history new leaves = lasting_same item_kind history new leaves.none leaves.kept

-- ## The contexts

-- pools are not ended
pub pools_stay : (history : List Traced) (new : Traced) → made_by pool_kind history new ≡ [] → pools (history ++ new ∷ []) ≡ pools history
pools_stay history new none = lasting_same pool_kind history new none (λ pool. and_false (is_accepted new.entry.reply))

-- an entry that makes and closes no context, makes no pool, hands no code to a context, hands out no task, finishes none and leaves those
-- that wait
pub record LeavesContexts (history : List Traced) (new : Traced) : Type 0 where
  pub closings : made_by closing_kind history new ≡ []
  pub items : LeavesItems history new
  pub pools : made_by pool_kind history new ≡ []
  pub held : made_by held_kind history new ≡ []
  pub finished : (held : Held) → ended_by held_kind history new held ≡ false
  pub waiting : LeavesWaiting history new

pub contexts_left : (store : ContextStore) (history : List Traced) (new : Traced) → LeavesContexts history new → ContextsStand store history → ContextsStand store (history ++ new ∷ [])
contexts_left store history new leaves stands = record {
  made = stands.made ∙ sym (contexts_stay history new leaves.items.contexts);
  closings = λ id. stands.closings id ∙ sym (closed_left history new id leaves.closings);
  held = stands.held ∙ sym (lasting_same held_kind history new leaves.held leaves.finished);
  pools = stands.pools ∙ sym (pools_stay history new leaves.pools);
  waiting =
      stands.waiting ∙ ap (map (item_of history)) (sym (waiting_left history new leaves.waiting))
      ∙ sym (items_left history new leaves.items (waiting (history ++ new ∷ [])));
}

-- ## The timers

-- an entry that opens no request and settles none
pub record LeavesRequests (history : List Traced) (new : Traced) : Type 0 where
  pub opened : made_by open_kind history new ≡ []
  pub settled : (request : Open) → ended_by open_kind history new request ≡ false

pub requests_left : (history : List Traced) (new : Traced) → LeavesRequests history new → unsettled (history ++ new ∷ []) ≡ unsettled history
requests_left history new leaves = lasting_same open_kind history new leaves.opened leaves.settled

pub timers_left : (timers : List Timer) (history : List Traced) (new : Traced) → LeavesRequests history new → TimersStand timers history → TimersStand timers (history ++ new ∷ [])
timers_left timers history new leaves stands = stands ∙ ap (λ rs. map timer_of (by_due rs)) (sym (requests_left history new leaves))

-- ## The consumers, and their mailboxes in numbers

-- an entry that registers no consumer and ends none
pub record LeavesConsumers (history : List Traced) (new : Traced) : Type 0 where
  pub registered : made_by consumer_kind history new ≡ []
  pub kept : (consumer : Consumer) → ended_by consumer_kind history new consumer ≡ false

pub consumers_left : (history : List Traced) (new : Traced) → LeavesConsumers history new → consumers (history ++ new ∷ []) ≡ consumers history
consumers_left history new leaves = lasting_same consumer_kind history new leaves.registered leaves.kept

-- no owner is closed
pub owner_open : (history : List Traced) (new : Traced) (owner : Owner) → KeepsOpen history new → closes_owner history new.entry.pass new.entry.call new.mark owner ≡ false
owner_open history new (owners.Context context) keeps = keeps.closes context
owner_open history new (owners.Conn conn) keeps = ap (λ (mark : Mark). is_one_of mark.shut conn) keeps.stored.mark
owner_open history new (owners.Pass pass) keeps = refl

or_false : (b : Bool) → (b || false) ≡ b
or_false true = refl
or_false false = refl

-- so a consumer is ended by its name alone
pub ended_by_name : (history : List Traced) (new : Traced) (consumer : Consumer) → KeepsOpen history new →
    ended_by consumer_kind history new consumer ≡ (is_accepted new.entry.reply && ends_by_name new.entry.call new.mark.deed consumer.id)
ended_by_name history new consumer keeps =
    let named = ends_by_name new.entry.call new.mark.deed consumer.id in
    ap (λ b. is_accepted new.entry.reply && (named || b)) (owner_open history new consumer.owner keeps)
    ∙ ap (λ b. is_accepted new.entry.reply && b) (or_false named)

-- ... and by no call that ends none by name
pub consumer_kept : (history : List Traced) (new : Traced) (consumer : Consumer) → KeepsOpen history new → ends_by_name new.entry.call new.mark.deed consumer.id ≡ false →
    ended_by consumer_kind history new consumer ≡ false
consumer_kept history new consumer keeps none =
    ended_by_name history new consumer keeps ∙ ap (λ b. is_accepted new.entry.reply && b) none ∙ and_false (is_accepted new.entry.reply)

-- an entry that leaves the numbers of each live consumer's mailbox
abbrev pub LeavesNumbers : List Traced → Traced → Type 0
LeavesNumbers history new = (consumer : Consumer) → IsLive history consumer → numbers_of (mailbox (history ++ new ∷ []) consumer) ≡ numbers_of (mailbox history consumer)

-- ... as one does that moves no mailbox
pub numbers_left : (history : List Traced) (new : Traced) → ((consumer : Consumer) → mailbox (history ++ new ∷ []) consumer ≡ mailbox history consumer) → LeavesNumbers history new
numbers_left history new same consumer is_live = ap numbers_of (same consumer)

-- the handlers of live consumers, where each is another function of its numbers
pub handlers_by : (history : List Traced) (after : Consumer → Handler) → ((consumer : Consumer) → IsLive history consumer → after consumer ≡ handler_of history consumer) →
    map after (consumers history) ≡ map (handler_of history) (consumers history)
handlers_by history after same = map_each after (handler_of history) (consumers history) (weaken (IsLive history) (λ c. after c ≡ handler_of history c) (consumers history) same (consumers_live history))

pub handlers_left : (history : List Traced) (new : Traced) → LeavesConsumers history new → LeavesNumbers history new →
    map (handler_of (history ++ new ∷ [])) (consumers (history ++ new ∷ [])) ≡ map (handler_of history) (consumers history)
handlers_left history new leaves numbers =
    ap (map (handler_of (history ++ new ∷ []))) (consumers_left history new leaves)
    ∙ handlers_by history (handler_of (history ++ new ∷ []))
    (λ consumer is_live. ap (λ (flow : Counted). (let h : Handler = record { consumer = consumer; flow = flow } in h)) (numbers consumer is_live))

pub rings_left : (history : List Traced) (new : Traced) (address : List ℕ) → LeavesConsumers history new → ids_of (handlers (history ++ new ∷ []) address) ≡ ids_of (handlers history address)
rings_left history new address leaves = ap (λ cs. ids_of (filter (is_at address) cs)) (consumers_left history new leaves)

-- ## Choices

not_both : (a b : Bool) → (a && (not b && b)) ≡ false
not_both true true = refl
not_both true false = refl
not_both false b = refl

-- where the consumers stay, no address loses its last one
pub none_emptied : (history : List Traced) (new : Traced) → consumers (history ++ new ∷ []) ≡ consumers history → (address : List ℕ) → ended_by choice_kind history new address ≡ false
none_emptied history new same address =
    ap (λ cs. is_accepted new.entry.reply && (not (is_empty (handlers history address)) && is_empty (filter (is_at address) cs))) same
    ∙ not_both (is_accepted new.entry.reply) (is_empty (handlers history address))

pub choices_left : (history : List Traced) (new : Traced) (address : List ℕ) → LeavesConsumers history new → made_by choice_kind history new ≡ [] → choices (history ++ new ∷ []) address ≡ choices history address
choices_left history new address leaves none =
    ap (count_by (bytes_eq address)) (lasting_same choice_kind history new none (none_emptied history new (consumers_left history new leaves)))

-- ## Tasks that were not taken

-- an entry that makes no task, and takes and ends none
pub record LeavesTasks (history : List Traced) (new : Traced) : Type 0 where
  pub made : made_by task_kind history new ≡ []
  pub kept : (task : Task) → ended_by task_kind history new task ≡ false

pub tasks_left : (history : List Traced) (new : Traced) → LeavesTasks history new → untaken (history ++ new ∷ []) ≡ untaken history
tasks_left history new leaves = lasting_same task_kind history new leaves.made leaves.kept

-- ## How requests ended, and what was given out

pub never_settled : (history : List Traced) (new : Traced) (settled : Settled) → ended_by settled_kind history new settled ≡ false
never_settled history new settled = and_false (is_accepted new.entry.reply)

pub outcome_left : (history : List Traced) (new : Traced) (id : MessageId) → made_by settled_kind history new ≡ [] → settled (history ++ new ∷ []) id ≡ settled history id
outcome_left history new id none = ap (find (λ (s : Settled). same_message id s.request)) (lasting_same settled_kind history new none (never_settled history new))

pub never_taken_back : (history : List Traced) (new : Traced) (given : Given) → ended_by given_kind history new given ≡ false
never_taken_back history new given = and_false (is_accepted new.entry.reply)

pub given_left : (history : List Traced) (new : Traced) (id : MessageId) → made_by given_kind history new ≡ [] → given (history ++ new ∷ []) id ≡ given history id
given_left history new id none = ap (find (λ (g : Given). same_message id g.id)) (lasting_same given_kind history new none (never_taken_back history new))

-- ## Codecs and rules

-- an entry that adds no codec and removes none
pub record LeavesCodecs (history : List Traced) (new : Traced) : Type 0 where
  pub added : made_by codec_kind history new ≡ []
  pub kept : (codec : Codec) → ended_by codec_kind history new codec ≡ false

pub codecs_left : (history : List Traced) (new : Traced) → LeavesCodecs history new → codecs (history ++ new ∷ []) ≡ codecs history
codecs_left history new leaves = lasting_same codec_kind history new leaves.added leaves.kept

-- an entry that adds no rule and removes none
pub record LeavesRules (history : List Traced) (new : Traced) : Type 0 where
  pub added : made_by rule_kind history new ≡ []
  pub kept : (rule : Rule) → ended_by rule_kind history new rule ≡ false

pub rules_left : (history : List Traced) (new : Traced) → LeavesRules history new → rules (history ++ new ∷ []) ≡ rules history
rules_left history new leaves = lasting_same rule_kind history new leaves.added leaves.kept

-- ## The bus

-- an entry that leaves all that the bus keeps
pub record LeavesBus (history : List Traced) (new : Traced) : Type 0 where
  pub consumers : LeavesConsumers history new
  pub numbers : LeavesNumbers history new
  pub choices : made_by choice_kind history new ≡ []
  pub tasks : LeavesTasks history new
  pub requests : LeavesRequests history new
  pub settled : made_by settled_kind history new ≡ []
  pub dropped : made_by dropped_kind history new ≡ []
  pub given : made_by given_kind history new ≡ []
  pub codecs : LeavesCodecs history new
  pub rules : LeavesRules history new

pub bus_left : (store : BusStore) (history : List Traced) (new : Traced) → AreStored history → LeavesBus history new → BusStands store history → BusStands store (history ++ new ∷ [])
bus_left store history new stored leaves stands = record {
  consumers = stands.consumers ∙ sym (handlers_left history new leaves.consumers leaves.numbers);
  rings = λ address. stands.rings address ∙ sym (rings_left history new address leaves.consumers);
  choices = λ address. stands.choices address ∙ sym (choices_left history new address leaves.consumers leaves.choices);
  tasks = stands.tasks ∙ sym (tasks_left history new leaves.tasks);
  opened = stands.opened ∙ ap (map row_of) (sym (requests_left history new leaves.requests));
  ended = λ id. stands.ended id ∙ sym (settled_at_left history new id stored leaves.dropped leaves.settled);
  given = λ id. stands.given id ∙ sym (given_left history new id leaves.given);
  codecs = stands.codecs ∙ sym (codecs_left history new leaves.codecs);
  rules = stands.rules ∙ sym (rules_left history new leaves.rules);
}

-- ## Refusals

-- a refused call leaves the contexts
pub refused_contexts : (store : ContextStore) (history : List Traced) (pass : PassNo) (call : Call) (refusal : Refusal) (states : List (List ℤ)) → ContextsStand store history →
    ContextsStand store (history ++ entry_of pass call (replies.Refused refusal) states no_mark ∷ [])
refused_contexts store history pass call refusal states stands = contexts_left store history (entry_of pass call (replies.Refused refusal) states no_mark)
    (record { closings = refl; items = record { contexts = refl; queued = refl }; pools = refl; held = refl; finished = λ h. refl; waiting = record { none = refl; kept = λ w. refl } }) stands

-- ... and the bus
pub refused_bus : (history : List Traced) (pass : PassNo) (call : Call) (refusal : Refusal) (states : List (List ℤ)) → LeavesBus history (entry_of pass call (replies.Refused refusal) states no_mark)
refused_bus history pass call refusal states =
    let entry = entry_of pass call (replies.Refused refusal) states no_mark in
    record {
      consumers = record { registered = refl; kept = λ c. refl };
      numbers = numbers_left history entry (λ consumer. mailbox_same history entry consumer refl);
      choices = refl;
      tasks = record { made = refl; kept = λ t. refl };
      requests = record { opened = refl; settled = λ r. refl };
      settled = refl;
      dropped = refl;
      given = refl;
      codecs = record { added = refl; kept = λ c. refl };
      rules = record { added = refl; kept = λ r. refl };
    }

-- a refused call leaves all stores, whatever states go with it
pub refused_stores_with : (contexts : ContextStore) (timers : List Timer) (bus : BusStore) (history : List Traced) (pass : PassNo) (call : Call) (refusal : Refusal) (states : List (List ℤ)) → is_stored call ≡ true →
    StoresStand contexts timers bus history → StoresStand contexts timers bus (history ++ entry_of pass call (replies.Refused refusal) states no_mark ∷ [])
refused_stores_with contexts timers bus history pass call refusal states is stands =
    let entry = entry_of pass call (replies.Refused refusal) states no_mark in
    let one : IsStored entry = record { call = is; mark = refl } in
    record {
      stored = stored_more history entry stands.stored one;
      contexts = refused_contexts contexts history pass call refusal states stands.contexts;
      timers = timers_left timers history entry (record { opened = refl; settled = λ r. refl }) stands.timers;
      bus = bus_left bus history entry stands.stored (refused_bus history pass call refusal states) stands.bus;
    }

pub refused_stores : (contexts : ContextStore) (timers : List Timer) (bus : BusStore) (history : List Traced) (pass : PassNo) (call : Call) (refusal : Refusal) → is_stored call ≡ true → StoresStand contexts timers bus history →
    StoresStand contexts timers bus (history ++ plain_entry pass call (replies.Refused refusal) no_mark ∷ [])
refused_stores contexts timers bus history pass call refusal is stands = refused_stores_with contexts timers bus history pass call refusal [] is stands

-- a refused call follows, where the refusal is that of its row
pub follows_refused : (contexts : ContextStore) (timers : List Timer) (bus : BusStore) (history : List Traced) (pass : PassNo) (call : Call) (refusal : Refusal) → is_stored call ≡ true → StoresStand contexts timers bus history →
    replies.Refused refusal ≡ row history pass call → Follows contexts timers bus history pass call (replies.Refused refusal)
follows_refused contexts timers bus history pass call refusal is stands answered =
    record { answered = answered; stores = refused_stores contexts timers bus history pass call refusal is stands }
