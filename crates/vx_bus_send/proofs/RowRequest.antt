-- Request.
use Rattle.std.proofs.Common.{◌≡◌, ℕ, ◌+◌, ◌<◌, ◌^◌, List, [], ◌∷◌, ◌++◌, length, refl, ap, sym, ◌∙◌, subst}
use Rattle.std.proofs.Common.{inl, inr}
use Rattle.std.specs.Prelude.{true, false, cond, find, map, Option, None, Some}
use Rattle.std.specs.Option.{option_map, option_or}
use Rattle.std.proofs.lemmas.List.{append-nil}
use Rattle.std.proofs.lemmas.List.Folds.{find-append}
use Rattle.vx_data.specs.declared.ids.EntryNo.{EntryNo}
use Rattle.vx_data.specs.declared.ids.PassNo.{PassNo}
use Rattle.vx_data.specs.declared.ids.ContextId.{ContextId}
use Rattle.vx_data.specs.declared.ids.ConsumerId.{ConsumerId}
use Rattle.vx_data.specs.declared.ids.MessageId.{MessageId}
use Rattle.vx_data.specs.Ids.{same_message}
use Rattle.vx_data.specs.Tree.{Tree}
use Rattle.vx_message.specs.declared.Context.{Context}
use Rattle.vx_message.specs.declared.Item.{Item}
use Rattle.vx_message.specs.declared.Options.{Options}
use Rattle.vx_message.specs.declared.Owner.TheVariants as owners
use Rattle.vx_timer.specs.declared.timers.Timer.{Timer}
use Rattle.vx_timer.specs.Order as timer_order
use Rattle.vx_ring.specs.Rings.{consumers_at, choices_at}
use Rattle.vx_request.specs.declared.requests.OpenRequest.{OpenRequest}
use Rattle.vx_request.specs.Stores.{ended_at, given_at}
use Rattle.vx_call.specs.declared.call.Call.TheVariants as calls
use Rattle.vx_call.specs.declared.reply.Reply.TheVariants as replies
use Rattle.vx_call.specs.declared.reply.Task.{Task}
use Rattle.vx_call.specs.declared.reply.Task.TheVariants as tasks
use Rattle.vx_call.specs.declared.reply.To.{To}
use Rattle.vx_call.specs.declared.reply.To.TheVariants as reached
use Rattle.vx_call.specs.declared.history.Deed.TheVariants as deeds
use Rattle.vx_call.specs.declared.history.Traced.{Traced}
use Rattle.vx_call.specs.History.{plain_entry, no_mark, lasting}
use Rattle.vx_call.specs.Built.{AreStored}
use Rattle.vx_call.specs.Owners.{context_owning, is_context_owner}
use Rattle.vx_call.specs.Askers as askers
use Rattle.vx_call.specs.Contexts as contexts_of
use Rattle.vx_call.specs.Names.{next_entry, next_message}
use Rattle.vx_call.specs.Messages.{received}
use Rattle.vx_call.specs.Mailboxes.{readied, accepting}
use Rattle.vx_call.specs.declared.history.Consumer.{Consumer}
use Rattle.vx_call.specs.Consumers.{live}
use Rattle.vx_call.specs.Choices.{choice}
use Rattle.vx_call.specs.Requests.{opened, unsettled, by_due}
use Rattle.vx_call.specs.Settled.{settled_kind, settled, settled_unheard, settled_made, no_handlers, settled_at}
use Rattle.vx_call.specs.Homes.{homes, heard}
use Rattle.vx_call.specs.Items.{item_by, delivered, delivery_tasks, outcome_items, outcome_tasks}
use Rattle.vx_call.specs.Refusals.{unless_refused}
use Rattle.vx_call.specs.Rows.{destination, request_refusal}
use Rattle.vx_call.proofs.Stored.{live_of_context}
use Rattle.vx_call.proofs.KeepsOpen.{KeepsOpen, call_keeps}
use Rattle.vx_call.proofs.Dropped.{ended_among}
use Rattle.vx_call.proofs.Mailboxes.{mailbox_moved}
use Rattle.vx_call.proofs.Settlings.{unheard, is_settled_as}
use Rattle.vx_context.specs.Stores.{ContextStore, item_of}
use Rattle.vx_bus_delivery.specs.declared.passages.Passage.{Passage}
use Rattle.vx_bus_delivery.specs.Deliveries.{PassesOn}
use Rattle.vx_bus_store.specs.Stores.{BusStore, handler_in, home_in, changed, arrived, row_of, timer_of}
use Rattle.vx_bus_store.specs.Stands.{BusStands, StoresStand, Follows, IsAt}
use Rattle.vx_bus_delivery.specs.Ending.{EndsUnheard, outcome_item}
use Rattle.vx_bus_store.proofs.Frames.{consumer_kept, consumers_left}
use Rattle.vx_bus_store.proofs.Handlers.{handler_there}
use Rattle.vx_call.proofs.Arrivals.{choice_live}
use Rattle.vx_bus_send.proofs.Stays.{all_asked, request_stays}
use Rattle.vx_bus_send.proofs.Settling.{at_of, option_map-or}
use Rattle.vx_bus_send.proofs.Asking.{timer_set}
use Rattle.vx_bus_send.proofs.Passing.{IsPassed, GoesOut, goes_out, Misses, Meets, how, consumers_missed, consumers_met}
use Rattle.vx_bus_send.proofs.Sending.{IsFound, found_true, choices_passed, all_ended, missed_items, missed_tasks, met_accepting, met_items, met_tasks, met_accepts}

abbrev entry_of : PassNo → ContextId → List ℕ → Tree → Options → ℕ → To → Traced
entry_of pass context address body options timeout to = plain_entry pass (calls.Request context address body options timeout None) (replies.Asked to) no_mark

passed_request : (history : List Traced) (pass : PassNo) (context : ContextId) (address : List ℕ) (body : Tree) (options : Options) (timeout : ℕ) (to : To) → AreStored history →
    IsPassed history (entry_of pass context address body options timeout to) (calls.Request context address body options timeout None)
passed_request history pass context address body options timeout to stored =
    let call = calls.Request context address body options timeout None in
    let entry = entry_of pass context address body options timeout to in
    let keeps : KeepsOpen history entry = call_keeps history entry (record { call = refl; mark = refl }) refl in
    record {
      contexts = record { keeps = keeps; items = record { contexts = refl; queued = refl }; pools = refl; held = refl; finished = λ held. refl };
      consumers = record { registered = refl; kept = λ consumer. consumer_kept history entry consumer keeps refl };
      given = refl;
      codecs = record { added = refl; kept = λ codec. refl };
      rules = record { added = refl; kept = λ rule. refl };
      tasks = refl;
      untaken = λ task. refl;
      items = refl;
      kept = λ item. refl;
      settled = refl;
      opened = all_asked (map (opened history (askers.context context) timeout) (accepting history call deeds.Nothing));
      closed = λ request. request_stays history entry request keeps;
      moves = λ consumer is_live. mailbox_moved history entry consumer (ap is_context_owner (live_of_context history consumer stored is_live).1) is_live;
    }

-- ## Nobody accepts it

-- the request has ended at once
one_ended : (bus : BusStore) (history : List Traced) (at : EntryNo) (context : ContextId) (id : MessageId) → BusStands bus history → at.0 ≡ length history →
    option_or (ended_at id bus.requests.ended) (cond (same_message id (record { 0 = at })) (Some at) None)
    ≡ option_or (settled_at history id) (ended_among id (unheard history (askers.context context) ∷ []))
one_ended bus history at context id stands is_next =
    let ended : ℕ → Option EntryNo = λ n. cond (same_message id (record { 0 = record { 0 = n } })) (Some (record { 0 = n })) None in
    ap (λ known. option_or known (ended at.0)) (stands.ended id)
    ∙ ap (λ n. option_or (settled_at history id) (ended n)) is_next
    ∙ ap (option_or (settled_at history id))
    (elim (same_message id (next_message history)) as (λ b. cond b (Some (next_entry history)) None ≡ option_map at_of (cond b (Some (unheard history (askers.context context))) None)) [ true ↦ refl | false ↦ refl ])

pub asks_nobody : (contexts ended_contexts new_contexts : ContextStore) (timers : List Timer) (bus ended_bus new_bus : BusStore) (history : List Traced) (at : EntryNo) (pass : PassNo) (context : ContextId) (address : List ℕ) (body : Tree)
    (options : Options) (timeout : ℕ) (passage : Passage) (to : To) → StoresStand contexts timers bus history → at.0 ≡ length history → at.0 < 2 ^ 48 →
    request_refusal history pass context address body options timeout ≡ None → IsFound bus at address body options true passage to → ((id : ConsumerId) → to ≡ reached.Consumer id → ⊥) →
    EndsUnheard contexts ended_contexts bus ended_bus at context → PassesOn ended_contexts new_contexts ended_bus new_bus at passage address to →
    Follows new_contexts timers new_bus history pass (calls.Request context address body options timeout None) (replies.Asked to)
asks_nobody contexts ended_contexts new_contexts timers bus ended_bus new_bus history at pass context address body options timeout passage to stands is_next small accepted found nobody ends passes =
    let call = calls.Request context address body options timeout None in
    let entry = entry_of pass context address body options timeout to in
    let passed = passed_request history pass context address body options timeout to stands.stored in
    let is_true = found_true bus history at call address body options true passage to stands.stored stands.bus is_next refl found in
    let Small : ℕ → Type 0 = λ n. n < 2 ^ 48 in
    let same_rings = ap (λ (s : BusStore). s.rings) ends.tasks in
    let choices = choices_passed ended_contexts new_contexts bus ended_bus new_bus history entry at call address passage to stands.bus (subst Small is_next small) (consumers_left history entry passed.consumers) refl passes is_true same_rings in
    let item : List Context → ℕ → Item = λ made n. outcome_item made (record { 0 = n }) (record { 0 = record { 0 = n } }) context in
    let task : ℕ → Task = λ n. tasks.Outcome (record { 0 = record { 0 = n } }) no_handlers in
    let same = passes.bus nobody in
    let Goes : Type 0 = GoesOut contexts new_contexts timers bus new_bus history entry call in
    let out : Goes =
    elim (how history call address refl) as (λ _. Goes) [
      | inl missed ↦
          (let Q : To → Type 0 = Misses history call in
          let misses : Misses history call to = subst Q (sym is_true.goes) missed in
          let items : item_by history entry call ≡ outcome_items 0 (heard (unheard history (askers.context context) ∷ [])) =
          ap (λ made. made ++ outcome_items 0 (heard (settled_made history pass call deeds.Nothing))) (missed_items history call to misses) ∙ ap (λ cs. outcome_items 0 (heard (settled_unheard history (askers.context context) cs))) misses.accepted in
          record {
            items = passes.contexts nobody
                ∙ ends.items
                ∙ ap (λ (made : List Context). record contexts { waiting = contexts.waiting ++ item made at.0 ∷ []; room = ended_contexts.room }) stands.contexts.made
                ∙ ap (λ n. record contexts { waiting = contexts.waiting ++ item (contexts_of.contexts history) n ∷ []; room = ended_contexts.room }) is_next
                ∙ ap (λ made. record contexts { waiting = contexts.waiting ++ map (item_of history) made; room = ended_contexts.room }) (sym items)
                ∙ ap (λ room. record contexts { waiting = contexts.waiting ++ map (item_of history) (item_by history entry call); room = room }) (sym (ap (λ (s : ContextStore). s.room) (passes.contexts nobody)));
            timers = stands.timers ∙ ap (λ requests. map timer_of (by_due requests)) (sym (append-nil (unsettled history)))
                ∙ ap (λ cs. map timer_of (by_due (unsettled history ++ map (opened history (askers.context context) timeout) cs))) (sym misses.accepted);
            consumers = ap (λ (s : BusStore). s.consumers) same ∙ ap (λ (s : BusStore). s.consumers) ends.tasks ∙ stands.bus.consumers ∙ consumers_missed history entry call to stands.stored passed misses;
            in_turn = λ a. passes.in_turn a ∙ ap (consumers_at a) same_rings;
            choices = choices;
            tasks = ap (λ (s : BusStore). s.tasks) same
                ∙ ap (λ (s : BusStore). s.tasks) ends.tasks
                ∙ ap (λ n. bus.tasks ++ task n ∷ []) is_next
                ∙ ap (λ made. bus.tasks ++ made)
                (sym (ap (λ made. made ++ outcome_tasks (heard (settled_made history pass call deeds.Nothing))) (missed_tasks history call to misses) ∙ ap (λ cs. outcome_tasks (heard (settled_unheard history (askers.context context) cs))) misses.accepted));
            opened = ap (λ (s : BusStore). s.requests.waiting) same ∙ ends.left ∙ sym (append-nil bus.requests.waiting)
                ∙ ap (λ cs. bus.requests.waiting ++ map row_of (map (opened history (askers.context context) timeout) cs)) (sym misses.accepted);
            ended = λ id. ap (λ (s : BusStore). ended_at id s.requests.ended) same ∙ ends.ended id ∙ one_ended bus history at context id stands.bus is_next
                ∙ ap (λ cs. option_or (settled_at history id) (ended_among id (settled_unheard history (askers.context context) cs))) (sym misses.accepted);
            given = λ id. ap (λ (s : BusStore). given_at id s.given) same ∙ ends.given id;
            codecs = ap (λ (s : BusStore). s.codecs) same ∙ ap (λ (s : BusStore). s.codecs) ends.tasks;
            rules = ap (λ (s : BusStore). s.rules) same ∙ ap (λ (s : BusStore). s.rules) ends.tasks;
          })
      | inr meets ↦ absurd (nobody meets.consumer.id (is_true.goes ∙ meets.goes))
    ] in
    record {
      answered = ap replies.Asked is_true.goes ∙ sym (ap (λ refusal. unless_refused refusal (replies.Asked (destination history call address))) accepted);
      stores = goes_out contexts new_contexts timers timers bus new_bus history entry call passed stands out;
    }

-- ## A consumer accepts it

-- its context is the request's home
home_met : (old : BusStore) (history : List Traced) (id : ConsumerId) (consumer : Consumer) → BusStands old history → consumer.id ≡ id → (address : List ℕ) → choice history address ≡ Some consumer → home_in (handler_in old.consumers id) ≡ context_owning consumer.owner
home_met old history id consumer was named address chosen =
    ap home_in (handler_there old history id consumer was (ap (live history) (sym named) ∙ choice_live history address consumer chosen))

pub asks : (contexts new_contexts : ContextStore) (timers new_timers : List Timer) (old bus given_bus new_bus : BusStore) (history : List Traced) (at : EntryNo) (moment due : ℕ) (pass : PassNo) (context : ContextId) (address : List ℕ) (body : Tree)
    (options : Options) (timeout : ℕ) (passage : Passage) (to : To) (id : ConsumerId) (home : Option ContextId) → BusStands old history → StoresStand contexts timers bus history → IsAt at moment history → at.0 < 2 ^ 48 → due ≡ moment + timeout →
    request_refusal history pass context address body options timeout ≡ None → IsFound old at address body options true passage to → to ≡ reached.Consumer id →
    new_timers ≡ timer_order.put (record { id = at; due = due; period = None }) timers → PassesOn contexts new_contexts bus given_bus at passage address to →
    new_bus ≡ record given_bus { requests = record given_bus.requests { waiting = given_bus.requests.waiting ++ record { id = record { 0 = at }; asker = owners.Context context; receiver = Some id; home = home } ∷ []; room = new_bus.requests.room } } →
    home ≡ home_in (handler_in old.consumers id) →
    Follows new_contexts new_timers new_bus history pass (calls.Request context address body options timeout None) (replies.Asked to)
asks contexts new_contexts timers new_timers old bus given_bus new_bus history at moment due pass context address body options timeout passage to id home was stands comes small is_due accepted found goes is_set passes is_opened is_home =
    let call = calls.Request context address body options timeout None in
    let entry = entry_of pass context address body options timeout to in
    let passed = passed_request history pass context address body options timeout to stands.stored in
    let is_true = found_true old history at call address body options true passage to stands.stored was comes.next refl found in
    let Small : ℕ → Type 0 = λ n. n < 2 ^ 48 in
    let same_rings : new_bus.rings ≡ given_bus.rings = ap (λ (s : BusStore). s.rings) is_opened in
    let choices = choices_passed contexts new_contexts bus bus given_bus history entry at call address passage to stands.bus (subst Small comes.next small) (consumers_left history entry passed.consumers) refl passes is_true refl in
    let row : ℕ → ConsumerId → Option ContextId → OpenRequest = λ n k h. record { id = record { 0 = record { 0 = n } }; asker = owners.Context context; receiver = Some k; home = h } in
    let Goes : Type 0 = GoesOut contexts new_contexts new_timers bus new_bus history entry call in
    let out : Goes =
    elim (how history call address refl) as (λ _. Goes) [
      | inl misses ↦ absurd (misses.elsewhere id (sym is_true.goes ∙ goes))
      | inr met ↦
          (let Q : To → Type 0 = Meets history call address in
          let meets : Meets history call address to = subst Q (sym is_true.goes) met in
          let named : meets.consumer.id ≡ id = (let e : reached.Consumer meets.consumer.id ≡ reached.Consumer id = sym meets.goes ∙ goes in cc) in
          let done = met_accepts contexts new_contexts bus given_bus history at call address passage to stands.bus passes is_true meets in
          let one : accepting history call deeds.Nothing ≡ meets.consumer ∷ [] = met_accepting history call address to meets in
          let items : map (item_of history) (item_by history entry call) ≡ map (item_of history) (delivered history (received history call deeds.Nothing) (homes (readied history call deeds.Nothing))) =
          ap (λ cs. map (item_of history) (delivered history (received history call deeds.Nothing) (homes (readied history call deeds.Nothing)) ++ outcome_items 0 (heard (settled_unheard history (askers.context context) cs)))) one ∙ ap (map (item_of history)) (append-nil _) in
          record {
            items = done.items ∙ ap (λ made. record contexts { waiting = contexts.waiting ++ made; room = new_contexts.room }) (met_items contexts history call address to at stands.stored stands.contexts meets comes.next ∙ sym items);
            timers = timer_set timers new_timers history at moment timeout (askers.context context) (Some meets.consumer.id) (context_owning meets.consumer.owner) stands.timers comes (is_set ∙ ap (λ n. timer_order.put (record { id = at; due = n; period = None }) timers) is_due)
                ∙ ap (λ cs. map timer_of (by_due (unsettled history ++ map (opened history (askers.context context) timeout) cs))) (sym one);
            consumers = ap (λ (s : BusStore). s.consumers) is_opened ∙ ap (λ (s : BusStore). s.consumers) done.bus ∙ ap (map (changed meets.consumer.id arrived)) stands.bus.consumers
                ∙ consumers_met history entry call meets.consumer passed meets.alone;
            in_turn = λ a. ap (consumers_at a) same_rings ∙ passes.in_turn a;
            choices = λ a. ap (choices_at a) same_rings ∙ choices a;
            tasks = ap (λ (s : BusStore). s.tasks) is_opened
                ∙ ap (λ (s : BusStore). s.tasks) done.bus
                ∙ ap (λ made. bus.tasks ++ made)
                (sym (ap (λ cs. delivery_tasks (received history call deeds.Nothing) (homes (accepting history call deeds.Nothing)) ++ outcome_tasks (heard (settled_unheard history (askers.context context) cs))) one ∙ append-nil _ ∙ met_tasks history call address to stands.stored meets));
            opened = ap (λ (s : BusStore). s.requests.waiting) is_opened
                ∙ ap (λ rows. rows ++ row at.0 id home ∷ []) (ap (λ (s : BusStore). s.requests.waiting) done.bus)
                ∙ ap (λ n. bus.requests.waiting ++ row n id home ∷ []) comes.next
                ∙ ap (λ k. bus.requests.waiting ++ row (length history) k home ∷ []) (sym named)
                ∙ ap (λ h. bus.requests.waiting ++ row (length history) meets.consumer.id h ∷ []) (is_home ∙ home_met old history id meets.consumer was named address meets.chosen)
                ∙ ap (λ cs. bus.requests.waiting ++ map row_of (map (opened history (askers.context context) timeout) cs)) (sym one);
            ended = λ m. ap (λ (s : BusStore). ended_at m s.requests.ended) is_opened ∙ ap (λ (s : BusStore). ended_at m s.requests.ended) done.bus ∙ stands.bus.ended m ∙ all_ended history m
                ∙ ap (λ cs. option_or (settled_at history m) (ended_among m (settled_unheard history (askers.context context) cs))) (sym one);
            given = λ m. ap (λ (s : BusStore). given_at m s.given) is_opened ∙ ap (λ (s : BusStore). given_at m s.given) done.bus;
            codecs = ap (λ (s : BusStore). s.codecs) is_opened ∙ ap (λ (s : BusStore). s.codecs) done.bus;
            rules = ap (λ (s : BusStore). s.rules) is_opened ∙ ap (λ (s : BusStore). s.rules) done.bus;
          })
    ] in
    record {
      answered = ap replies.Asked is_true.goes ∙ sym (ap (λ refusal. unless_refused refusal (replies.Asked (destination history call address))) accepted);
      stores = goes_out contexts new_contexts timers new_timers bus new_bus history entry call passed stands out;
    }
