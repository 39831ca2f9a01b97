-- Register.
use Rattle.std.proofs.Common.{◌≡◌, ℕ, List, [], ◌∷◌, ◌++◌, length, refl, ap, sym, ◌∙◌}
use Rattle.std.specs.Prelude.{true, false, not, ◌&&◌, cond, filter, map, None}
use Rattle.std.specs.List.{count_by}
use Rattle.std.specs.Str.{bytes_eq}
use Rattle.std.proofs.lemmas.List.{append-nil, map-append}
use Rattle.std.proofs.lemmas.List.Elements.{filter-append}
use Rattle.std.proofs.lemmas.Slice.Eq.{bytes_eq-Decides}
use Rattle.vx_data.specs.declared.ids.EntryNo.{EntryNo}
use Rattle.vx_data.specs.declared.ids.PassNo.{PassNo}
use Rattle.vx_data.specs.declared.ids.ContextId.{ContextId}
use Rattle.vx_data.specs.declared.ids.ConsumerId.{ConsumerId}
use Rattle.vx_message.specs.declared.Owner.TheVariants as owners
use Rattle.vx_timer.specs.declared.timers.Timer.{Timer}
use Rattle.vx_ring.specs.Rings.{consumers_at, choices_at}
use Rattle.vx_request.specs.Stores.{ended_at, given_at}
use Rattle.vx_consumer.specs.Flows.{Counted, fresh}
use Rattle.vx_consumer.specs.Mailboxes.{numbers_of, ends}
use Rattle.vx_call.specs.declared.call.Call.TheVariants as calls
use Rattle.vx_call.specs.declared.reply.Reply.TheVariants as replies
use Rattle.vx_call.specs.declared.history.Consumer.{Consumer}
use Rattle.vx_call.specs.declared.history.Traced.{Traced}
use Rattle.vx_call.specs.History.{plain_entry, no_mark}
use Rattle.vx_call.specs.Names.{next_consumer}
use Rattle.vx_call.specs.Consumers.{consumer_kind, consumers, handlers, is_at}
use Rattle.vx_call.specs.Mailboxes.{mailbox, move_if}
use Rattle.vx_call.specs.Choices.{choice_kind, is_empty}
use Rattle.vx_call.specs.Refusals.{unless_refused}
use Rattle.vx_call.specs.Rows.{register_refusal, ids_of}
use Rattle.vx_call.proofs.Stored.{stored_more}
use Rattle.vx_call.proofs.KeepsOpen.{KeepsOpen, call_keeps}
use Rattle.vx_call.proofs.Dropped.{settled_at_same}
use Rattle.vx_call.proofs.Lasting.{lasting_same, lasting_more}
use Rattle.vx_call.proofs.Mailboxes.{mailbox_unmoved, mailbox_new}
use Rattle.vx_context.specs.Stores.{ContextStore}
use Rattle.vx_context.specs.Stands.{IsNext}
use Rattle.vx_bus_store.specs.declared.bus.Handler.{Handler}
use Rattle.vx_bus_store.specs.Stores.{BusStore, handler_of, row_of}
use Rattle.vx_bus_store.specs.Stands.{StoresStand, Follows}
use Rattle.vx_bus_store.proofs.Frames.{contexts_left, timers_left, requests_left, owner_open, consumer_kept, tasks_left, given_left, codecs_left, rules_left, handlers_by, LeavesRequests}
use Rattle.vx_bus_store.proofs.KeptRequests.{request_kept}

-- more consumers leave no address without one
still_live : (cs ds : List Consumer) → (not (is_empty cs) && is_empty (cs ++ ds)) ≡ false
still_live [] ds = refl
still_live (c ∷ cs) ds = refl

-- one consumer more among those at an address
pub handlers_push : (cs : List Consumer) (consumer : Consumer) (a : List ℕ) →
    ids_of (filter (is_at a) (cs ++ consumer ∷ [])) ≡ cond (bytes_eq a consumer.address) (ids_of (filter (is_at a) cs) ++ consumer.id ∷ []) (ids_of (filter (is_at a) cs))
handlers_push cs consumer a =
    let there = ids_of (filter (is_at a) cs) in
    let forth = bytes_eq-Decides a consumer.address in
    let back = bytes_eq-Decides consumer.address a in
    ap ids_of (filter-append (is_at a) cs (consumer ∷ []))
    ∙ map-append (λ (c : Consumer). c.id) (filter (is_at a) cs) (filter (is_at a) (consumer ∷ []))
    ∙ elim (bytes_eq a consumer.address) as (λ b. (b ≡ true → a ≡ consumer.address) → (a ≡ consumer.address → b ≡ true) →
    there ++ ids_of (cond (bytes_eq consumer.address a) (consumer ∷ []) []) ≡ cond b (there ++ consumer.id ∷ []) there) [
      | true ↦ λ same _. ap (λ b. there ++ ids_of (cond b (consumer ∷ []) [])) (back.1 (sym (same refl)))
      | false ↦ λ _ differs.
          elim (bytes_eq consumer.address a) as (λ b. (b ≡ true → consumer.address ≡ a) → there ++ ids_of (cond b (consumer ∷ []) []) ≡ there) [
            | true ↦ λ same. let e : false ≡ true = differs (sym (same refl)) in cc
            | false ↦ λ _. append-nil there
          ] back.0
    ] forth.0 forth.1

abbrev name : ℕ → ConsumerId
name n = record { 0 = record { 0 = n } }

abbrev with_flow : Consumer → Counted → Handler
with_flow consumer flow = record { consumer = consumer; flow = flow }

-- the new handler stands behind the others
handlers_more : (history : List Traced) (entry : Traced) (consumer : Consumer) → consumer.id.0.0 ≡ length history → consumers (history ++ entry ∷ []) ≡ consumers history ++ consumer ∷ [] →
    ((other : Consumer) → mailbox (history ++ entry ∷ []) other ≡ mailbox history other) →
    map (handler_of (history ++ entry ∷ [])) (consumers (history ++ entry ∷ [])) ≡ map (handler_of history) (consumers history) ++ with_flow consumer (fresh consumer.limit) ∷ []
handlers_more history entry consumer is_new more unmoved =
    let after = handler_of (history ++ entry ∷ []) in
    ap (map after) more
    ∙ map-append after (consumers history) (consumer ∷ [])
    ∙ ap (λ hs. hs ++ after consumer ∷ []) (handlers_by history after (λ other is_live. ap (λ m. with_flow other (numbers_of m)) (unmoved other)))
    ∙ ap (λ m. map (handler_of history) (consumers history) ++ with_flow consumer (numbers_of m) ∷ []) (mailbox_new history entry consumer is_new)

-- a new consumer
pub registers : (contexts : ContextStore) (timers : List Timer) (old new : BusStore) (history : List Traced) (at : EntryNo) (pass : PassNo) (context : ContextId) (address : List ℕ) (limit : ℕ) →
    StoresStand contexts timers old history → IsNext at history → register_refusal history pass context address limit ≡ None →
    new ≡ record old { consumers = old.consumers ++ record { consumer = record { id = record { 0 = at }; owner = owners.Context context; address = address; limit = limit }; flow = fresh limit } ∷ []; rings = new.rings } →
    ((a : List ℕ) → consumers_at a new.rings ≡ cond (bytes_eq a address) (consumers_at a old.rings ++ record { 0 = at } ∷ []) (consumers_at a old.rings)) →
    ((a : List ℕ) → choices_at a new.rings ≡ choices_at a old.rings) →
    Follows contexts timers new history pass (calls.Register context address limit) (replies.Consumer (record { 0 = at }))
registers contexts timers old new history at pass context address limit stands is_next free is_new in_turn chosen =
    let consumer = λ (n : ℕ). (let c : Consumer = record { id = name n; owner = owners.Context context; address = address; limit = limit } in c) in
    let entry = plain_entry pass (calls.Register context address limit) (replies.Consumer (name at.0)) no_mark in
    let keeps : KeepsOpen history entry = call_keeps history entry (record { call = refl; mark = refl }) refl in
    let more = lasting_more consumer_kind history entry (λ c. consumer_kept history entry c keeps refl) in
    let requests : LeavesRequests history entry = record { opened = refl; settled = λ r. request_kept history entry r keeps refl } in
    let unmoved : (other : Consumer) → mailbox (history ++ entry ∷ []) other ≡ mailbox history other = λ other.
    mailbox_unmoved history entry other (ap (λ b. move_if b ends) (owner_open history entry other.owner keeps)) in
    record {
      answered = ap (λ n. replies.Consumer (name n)) is_next ∙ sym (ap (λ r. unless_refused r (replies.Consumer (next_consumer history))) free);
      stores = record {
        stored = stored_more history entry stands.stored keeps.stored;
        contexts = contexts_left contexts history entry
            (record {
              closings = refl;
              items = record { contexts = refl; queued = refl };
              pools = refl;
              held = refl;
              finished = λ h. refl;
              waiting = record { none = refl; kept = λ w. refl };
            }) stands.contexts;
        timers = timers_left timers history entry requests stands.timers;
        bus = record {
          consumers = ap (λ (s : BusStore). s.consumers) is_new
              ∙ ap (λ hs. hs ++ with_flow (consumer at.0) (fresh limit) ∷ []) stands.bus.consumers
              ∙ ap (λ n. map (handler_of history) (consumers history) ++ with_flow (consumer n) (fresh limit) ∷ []) is_next
              ∙ sym (handlers_more history entry (consumer (length history)) refl more unmoved);
          rings = λ a. in_turn a
              ∙ ap (λ ids. cond (bytes_eq a address) (ids ++ name at.0 ∷ []) ids) (stands.bus.rings a)
              ∙ ap (λ n. cond (bytes_eq a address) (ids_of (handlers history a) ++ name n ∷ []) (ids_of (handlers history a))) is_next
              ∙ sym (ap (λ cs. ids_of (filter (is_at a) cs)) more ∙ handlers_push (consumers history) (consumer (length history)) a);
          choices = λ a. chosen a ∙ stands.bus.choices a
              ∙ ap (count_by (bytes_eq a)) (sym (lasting_same choice_kind history entry refl (λ b.
              ap (λ cs. not (is_empty (handlers history b)) && is_empty (filter (is_at b) cs)) more
              ∙ ap (λ hs. not (is_empty (handlers history b)) && is_empty hs) (filter-append (is_at b) (consumers history) (consumer (length history) ∷ []))
              ∙ still_live (handlers history b) (filter (is_at b) (consumer (length history) ∷ [])))));
          tasks = ap (λ (s : BusStore). s.tasks) is_new ∙ stands.bus.tasks ∙ sym (tasks_left history entry (record { made = refl; kept = λ t. refl }));
          opened = ap (λ (s : BusStore). s.requests.waiting) is_new ∙ stands.bus.opened ∙ ap (map row_of) (sym (requests_left history entry requests));
          ended = λ id. ap (λ (s : BusStore). ended_at id s.requests.ended) is_new ∙ stands.bus.ended id ∙ sym (settled_at_same history entry id stands.stored keeps refl);
          given = λ id. ap (λ (s : BusStore). given_at id s.given) is_new ∙ stands.bus.given id ∙ sym (given_left history entry id refl);
          codecs = ap (λ (s : BusStore). s.codecs) is_new ∙ stands.bus.codecs ∙ sym (codecs_left history entry (record { added = refl; kept = λ c. refl }));
          rules = ap (λ (s : BusStore). s.rules) is_new ∙ stands.bus.rules ∙ sym (rules_left history entry (record { added = refl; kept = λ r. refl }));
        };
      };
    }
