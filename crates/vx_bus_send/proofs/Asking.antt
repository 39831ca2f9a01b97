-- Requests that are opened: Request and ReplyRequest.
use Rattle.std.proofs.Common.{◌≡◌, ℕ, ◌+◌, ◌<◌, List, [], ◌∷◌, ◌++◌, length, refl, ap, sym, ◌∙◌, subst, arith}
use Rattle.std.specs.Prelude.{true, false, not, cond, filter, find, map, Option, None, Some, Result, Ok, Err, OnOk, OnErr}
use Rattle.std.specs.Result.{is_err}
use Rattle.vx_data.specs.declared.ids.EntryNo.{EntryNo}
use Rattle.vx_data.specs.declared.ids.PassNo.{PassNo}
use Rattle.vx_data.specs.declared.ids.ContextId.{ContextId}
use Rattle.vx_data.specs.declared.ids.ConsumerId.{ConsumerId}
use Rattle.vx_data.specs.declared.ids.MessageId.{MessageId}
use Rattle.vx_data.specs.Tree.{Tree}
use Rattle.vx_message.specs.declared.Options.{Options}
use Rattle.vx_message.specs.declared.Owner.TheVariants as owners
use Rattle.vx_message.specs.declared.Outcome.{Outcome}
use Rattle.vx_message.specs.declared.Outcome.TheVariants as outcomes
use Rattle.vx_consumer.specs.Mailboxes as moves
use Rattle.vx_timer.specs.declared.timers.Timer.{Timer}
use Rattle.vx_timer.specs.Order as timer_order
use Rattle.vx_request.specs.declared.requests.OpenRequest.{OpenRequest}
use Rattle.vx_request.specs.Stores.{is_request, ended_at}
use Rattle.vx_call.specs.declared.call.Call.TheVariants as calls
use Rattle.vx_call.specs.declared.reply.Reply.TheVariants as replies
use Rattle.vx_call.specs.declared.reply.To.TheVariants as reached
use Rattle.vx_call.specs.declared.history.Traced.{Traced}
use Rattle.vx_call.specs.History.{plain_entry, no_mark}
use Rattle.vx_call.specs.Names.{next_message}
use Rattle.vx_call.specs.Time.{now}
use Rattle.vx_call.specs.Given as given
use Rattle.vx_call.specs.Askers.{Asker}
use Rattle.vx_call.specs.Askers as askers
use Rattle.vx_call.specs.Mailboxes.{move_if}
use Rattle.vx_call.specs.Requests.{Open, opened_again, unsettled, by_due}
use Rattle.vx_call.specs.Built.{AreStored}
use Rattle.vx_call.specs.Refusals.{unless_refused, no_context, no_message, not_request, no_such_codec, not_your_message, not_your_context, closed, too_large, bad_delay, after_end}
use Rattle.vx_call.specs.Settled.{replied, settled_at}
use Rattle.vx_call.specs.Rows.{reply_request_refusal}
use Rattle.vx_call.specs.Machine.{row}
use Rattle.vx_call.proofs.Found.{earlier_name}
use Rattle.vx_call.proofs.Below.{second}
use Rattle.vx_call.proofs.Asked.{asks_in, asker_open}
use Rattle.vx_call.proofs.Stored.{stored_more}
use Rattle.vx_call.proofs.KeepsOpen.{KeepsOpen, call_keeps}
use Rattle.vx_call.proofs.Mailboxes.{mailbox_unmoved}
use Rattle.vx_call.proofs.Opened.{open_key, unsettled_earlier}
use Rattle.vx_call.proofs.ByDue.{comes_before, put_in_order, by_due-push_greatest}
use Rattle.vx_context.specs.Stores.{ContextStore}
use Rattle.vx_bus_store.specs.Stores.{BusStore, asker_in, coded_in, timer_of}
use Rattle.vx_bus_store.specs.Stands.{BusStands, TimersStand, StoresStand, Follows, IsAt}
use Rattle.vx_bus_delivery.specs.Ending.{Settles}
use Rattle.vx_bus_store.proofs.Frames.{consumer_kept, numbers_left}
use Rattle.vx_bus_send.proofs.Stays.{settled_alone}
use Rattle.vx_bus_send.proofs.Settling.{coded_same, is_one, one_open, asker_of, asker_known, found_name, found_each, Ends, contexts_settled, timers_settled, bus_settled}

-- ## What a call did, once it is known how it ended

pub on_ok : {T E : Type 0} (result : Result T E) {P : Type 0} → is_err result ≡ false → OnOk result P → P
on_ok (Ok x) ended holds = holds
on_ok (Err e) ended holds = absurd cc

pub on_err : {T E : Type 0} (result : Result T E) {P : Type 0} → is_err result ≡ true → OnErr result P → P
on_err (Ok x) ended holds = absurd cc
on_err (Err e) ended holds = holds

-- ## The timer of the request

put-map : (request : Open) (others : List Open) → timer_order.put (timer_of request) (map timer_of others) ≡ map timer_of (put_in_order request others)
put-map request [] = refl
put-map request (other ∷ others) =
    elim (comes_before request other) as (λ b. cond b (timer_of request ∷ timer_of other ∷ map timer_of others) (timer_of other ∷ timer_order.put (timer_of request) (map timer_of others))
    ≡ map timer_of (cond b (request ∷ other ∷ others) (other ∷ put_in_order request others))) [
      | true ↦ refl
      | false ↦ ap (λ timers. timer_of other ∷ timers) (put-map request others)
    ]

-- the timers, with that of a request that the next entry opens
pub timer_set : (timers new_timers : List Timer) (history : List Traced) (at : EntryNo) (moment timeout : ℕ) (asker : Asker) (receiver : Option ConsumerId) (home : Option ContextId) → TimersStand timers history → IsAt at moment history →
    new_timers ≡ timer_order.put (record { id = at; due = moment + timeout; period = None }) timers →
    new_timers ≡ map timer_of (by_due (unsettled history ++ record { id = next_message history; asker = asker; due = now history + timeout; receiver = receiver; home = home } ∷ []))
timer_set timers new_timers history at moment timeout asker receiver home stands is_at is_new =
    let request : Open = record { id = next_message history; asker = asker; due = now history + timeout; receiver = receiver; home = home } in
    let timer : ℕ → ℕ → Timer = λ n m. record { id = record { 0 = n }; due = m + timeout; period = None } in
    is_new
    ∙ ap (λ n. timer_order.put (timer n moment) timers) is_at.next
    ∙ ap (λ m. timer_order.put (timer (length history) m) timers) is_at.now
    ∙ ap (timer_order.put (timer_of request)) stands
    ∙ put-map request (by_due (unsettled history))
    ∙ sym (ap (map timer_of) (by_due-push_greatest (unsettled history) request (unsettled_earlier history)))

-- ## ReplyRequest

ends_reply_request : (history : List Traced) (pass : PassNo) (message : MessageId) (context : ContextId) (body : Tree) (options : Options) (timeout : ℕ) →
    Ends history (plain_entry pass (calls.ReplyRequest message context body options timeout) (replies.Asked reached.Asker) no_mark) message (replied history body options (Some (next_message history)))
    (opened_again history (askers.context context) timeout message ∷ [])
ends_reply_request history pass message context body options timeout =
    let entry = plain_entry pass (calls.ReplyRequest message context body options timeout) (replies.Asked reached.Asker) no_mark in
    let keeps : KeepsOpen history entry = call_keeps history entry (record { call = refl; mark = refl }) refl in
    record {
      contexts = record { keeps = keeps; items = record { contexts = refl; queued = refl }; pools = refl; held = refl; finished = λ held. refl };
      consumers = record { registered = refl; kept = λ consumer. consumer_kept history entry consumer keeps refl };
      numbers = numbers_left history entry (λ consumer. mailbox_unmoved history entry consumer (ap (λ b. move_if b moves.ends) (consumer_kept history entry consumer keeps refl)));
      choices = refl;
      given = refl;
      codecs = record { added = refl; kept = λ codec. refl };
      rules = record { added = refl; kept = λ rule. refl };
      tasks = refl;
      untaken = λ task. refl;
      items = refl;
      kept = λ item. refl;
      settled = refl;
      opened = refl;
      closed = λ request. settled_alone (is_one message request) request.asker;
    }

-- it is another than the one that it replies to
is_another : (history : List Traced) (message : MessageId) (context : ContextId) (timeout : ℕ) (found : Open) → one_open history message ≡ Some found →
    filter (λ one. not (is_one message one)) (opened_again history (askers.context context) timeout message ∷ []) ≡ opened_again history (askers.context context) timeout message ∷ []
is_another history message context timeout found is_found =
    let same = found_name history message found is_found in
    let before = found_each (λ (request : Open). open_key request < length history) (is_one message) (unsettled history) found (unsettled_earlier history) is_found in
    ap (λ b. cond (not b) (opened_again history (askers.context context) timeout message ∷ []) []) (earlier_name message.0.0 (length history) (omega arith))

unended : (o : Option EntryNo) → after_end o ≡ None → o ≡ None
unended None late = refl
unended (Some at) late = absurd cc

asks_same : (o : Option Open) → asker_of o ≡ asks_in o
asks_same None = refl
asks_same (Some request) = refl

-- one more row in a bus that else stays
opened_part : (old new_bus : BusStore) (row : OpenRequest) →
    new_bus ≡ record old { requests = record old.requests { waiting = old.requests.waiting ++ row ∷ []; room = new_bus.requests.room } } →
    new_bus ≡ record old { requests = new_bus.requests; room = new_bus.room }
opened_part old new_bus row is_new =
    is_new
    ∙ ap (λ requests. record old { requests = requests; room = old.room }) (sym (ap (λ (s : BusStore). s.requests) is_new))
    ∙ ap (λ room. record old { requests = new_bus.requests; room = room }) (sym (ap (λ (s : BusStore). s.room) is_new))

-- a reply that is not late is to a request that has not ended
not_late : (history : List Traced) (pass : PassNo) (message : MessageId) (context : ContextId) (body : Tree) (options : Options) (timeout : ℕ) → reply_request_refusal history pass message context body options timeout ≡ None → settled_at history message ≡ None
not_late history pass message context body options timeout accepted =
    let request = second (no_message history message) _ accepted in
    let named = second (not_request history message) _ request in
    let codec = second (no_context history context) _ named in
    let mine = second (no_such_codec history options.codec) _ codec in
    let yours = second (not_your_message history pass message) _ mine in
    let unclosed = second (not_your_context history pass context) _ yours in
    let small = second (closed history pass context) _ unclosed in
    let delay = second (too_large body options) _ small in
    unended (settled_at history message) (second (bad_delay timeout) _ delay)

-- the context that waits for its outcome gets the reply
home_asked : (bus : BusStore) (history : List Traced) (message : MessageId) → BusStands bus history → AreStored history → settled_at history message ≡ None → asker_in (find (is_request message) bus.requests.waiting) ≡ given.asker history message
home_asked bus history message stands stored unended =
    asker_known bus history message stands ∙ asks_same (one_open history message) ∙ asker_open history message stored unended

pub asks_again : (contexts new_contexts : ContextStore) (timers set_timers new_timers : List Timer) (old bus settled_bus new_bus : BusStore) (history : List Traced) (at : EntryNo) (moment : ℕ) (pass : PassNo) (message : MessageId) (context : ContextId)
    (body : Tree) (options : Options) (timeout : ℕ) (made : Outcome) (home : Option ContextId) → BusStands old history → StoresStand contexts timers bus history → IsAt at moment history → reply_request_refusal history pass message context body options timeout ≡ None →
    made ≡ outcomes.Ok options.headers (coded_in old.codecs options.codec body) (Some (record { 0 = at })) →
    set_timers ≡ timer_order.put (record { id = at; due = moment + timeout; period = None }) timers → Settles contexts new_contexts set_timers new_timers bus settled_bus at message made →
    new_bus ≡ record settled_bus { requests = record settled_bus.requests { waiting = settled_bus.requests.waiting ++ record { id = record { 0 = at }; asker = owners.Context context; receiver = None; home = home } ∷ []; room = new_bus.requests.room } } →
    home ≡ asker_in (find (is_request message) bus.requests.waiting) →
    Follows new_contexts new_timers new_bus history pass (calls.ReplyRequest message context body options timeout) (replies.Asked reached.Asker)
asks_again contexts new_contexts timers set_timers new_timers old bus settled_bus new_bus history at moment pass message context body options timeout made home was stands is_at accepted is_made is_set is_settled is_opened is_home =
    let entry = plain_entry pass (calls.ReplyRequest message context body options timeout) (replies.Asked reached.Asker) no_mark in
    let outcome : Outcome = replied history body options (Some (next_message history)) in
    let opens = opened_again history (askers.context context) timeout message ∷ [] in
    let row : ℕ → OpenRequest = λ n. record { id = record { 0 = record { 0 = n } }; asker = owners.Context context; receiver = None; home = home } in
    let again : ℕ → Tree → Outcome = λ n coded_body. outcomes.Ok options.headers coded_body (Some (record { 0 = record { 0 = n } })) in
    let same : made ≡ outcome =
    is_made ∙ ap (λ n. again n (coded_in old.codecs options.codec body)) is_at.next ∙ ap (again (length history)) (coded_same old history options.codec body was) in
    let P : Outcome → Type 0 = Settles contexts new_contexts set_timers new_timers bus settled_bus at message in
    let settles = subst P same is_settled in
    let ends = ends_reply_request history pass message context body options timeout in
    record {
      answered = ap (λ refusal. unless_refused refusal (replies.Asked reached.Asker)) (sym accepted);
      stores = record {
        stored = stored_more history entry stands.stored ends.contexts.keeps.stored;
        contexts = contexts_settled contexts new_contexts bus history entry at message outcome opens ends is_at.next stands.contexts stands.bus settles.items;
        timers = timers_settled set_timers new_timers bus history entry message outcome opens stands.stored ends stands.bus
            (timer_set timers set_timers history at moment timeout (askers.context context) None (given.asker history message) stands.timers is_at is_set)
            (is_another history message context timeout) settles.timers;
        bus = bus_settled bus new_bus history entry at message outcome opens stands.stored ends is_at.next stands.bus
            (opened_part settled_bus new_bus (row at.0) is_opened ∙ ap (λ (s : BusStore). record s { requests = new_bus.requests; room = new_bus.room }) settles.tasks)
            (ap (λ (s : BusStore). s.requests.waiting) is_opened
            ∙ ap (λ rows. rows ++ row at.0 ∷ []) settles.left
            ∙ ap (λ n. filter (λ other. not (is_request message other)) bus.requests.waiting ++ row n ∷ []) is_at.next
            ∙ ap (λ h. filter (λ other. not (is_request message other)) bus.requests.waiting ++ record (row (length history)) { home = h } ∷ []) (is_home ∙ home_asked bus history message stands.bus stands.stored (not_late history pass message context body options timeout accepted)))
            (λ id. ap (λ (s : BusStore). ended_at id s.requests.ended) is_opened ∙ settles.ended id);
      };
    }
