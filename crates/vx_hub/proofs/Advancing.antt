-- The requests whose time is up end one by one.
use Rattle.std.proofs.Common.{◌≡◌, ℕ, ◌+◌, ◌<◌, ◌≤◌, suc, List, [], ◌∷◌, ◌++◌, length, take, drop, refl, ap, sym, ◌∙◌, subst, append_assoc, add-one, arith}
use Rattle.std.specs.Prelude.{true, not, cond, map, filter, find, All, Option, None, Some}
use Rattle.std.specs.Option.{option_map, option_or}
use Rattle.std.proofs.lemmas.List.{append-nil, map-append, length-take-le}
use Rattle.std.proofs.lemmas.List.Folds.{find-append}
use Rattle.std.proofs.lemmas.List.Elements.{filter_agree, All-nil, All-push, All-same}
use Rattle.vx_data.specs.declared.ids.EntryNo.{EntryNo}
use Rattle.vx_data.specs.declared.ids.ContextId.{ContextId}
use Rattle.vx_data.specs.declared.ids.MessageId.{MessageId}
use Rattle.vx_message.specs.declared.Context.{Context}
use Rattle.vx_message.specs.declared.Item.{Item}
use Rattle.vx_message.specs.declared.ItemKind.TheVariants as kinds
use Rattle.vx_timer.specs.declared.timers.Timer.{Timer}
use Rattle.vx_timer.specs.Order.{again, Fires}
use Rattle.vx_request.specs.declared.requests.OpenRequest.{OpenRequest}
use Rattle.vx_request.specs.Stores.{is_request, ended_at}
use Rattle.vx_call.specs.declared.reply.Task.TheVariants as tasks
use Rattle.vx_call.specs.declared.history.Traced.{Traced}
use Rattle.vx_data.specs.Ids.{same_message}
use Rattle.vx_call.specs.Askers as askers
use Rattle.vx_call.specs.Built.{AreStored}
use Rattle.vx_call.specs.Contexts as machine
use Rattle.vx_call.specs.Homes.{Heard, heard}
use Rattle.vx_call.specs.Names.{next_entry}
use Rattle.vx_call.specs.Owners.{context_owning}
use Rattle.vx_call.specs.Requests.{Open, unsettled, by_due}
use Rattle.vx_call.specs.Settled.{timeout, settlements}
use Rattle.vx_call.specs.Items.{outcome_item, outcome_items, outcome_tasks}
use Rattle.vx_call.proofs.Stored.{IsAskedByContext, unsettled_of_contexts}
use Rattle.vx_call.proofs.Each.{Each, Each-take}
use Rattle.vx_call.proofs.Items.{heard_timeout}
use Rattle.vx_call.proofs.Lasting.{filter_all}
use Rattle.vx_call.proofs.Opened.{same_open, same_open-swap, unsettled_apart, Each-by_due, Apart-by_due}
use Rattle.vx_context.specs.Stores.{ContextStore, item_of, handler_item}
use Rattle.vx_context.specs.Stands.{IsNext}
use Rattle.vx_bus_store.specs.Stores.{BusStore, owner_asking, row_of, timer_of, asker_in}
use Rattle.vx_bus_store.specs.Stands.{StoresStand}
use Rattle.vx_bus_delivery.specs.Ending.{TimesOut}
use Rattle.vx_hub.specs.Advancing.{Advanced, HasAdvanced, ended_first, is_among, timeouts, timed_out}
use Rattle.vx_hub.proofs.Requests.{or_none, or_assoc, map-or, map_if, find-map, filter-map, find-filter, filter-both, All-from-map, next_behind, Each-behind, none_before, first_part, same_open-self, found_each, among_more, heard-push, length-heard, outcome_items-push}

-- ## At first, none has ended

pub none_advanced : (contexts : ContextStore) (timers : List Timer) (bus : BusStore) (history : List Traced) (moment : ℕ) → StoresStand contexts timers bus history → Advanced contexts contexts timers bus bus history moment 0
none_advanced contexts timers bus history moment stands =
    let none = λ (waiting : List Item). (let store : ContextStore = record contexts { waiting = waiting; room = contexts.room } in store) in
    record {
      within = omega arith;
      due = All-nil (λ (request : Open). request.due ≤ moment);
      items = sym (ap none (append-nil contexts.waiting));
      timers = stands.timers;
      tasks = sym (ap (λ ts. let store : BusStore = record bus { tasks = ts } in store) (append-nil bus.tasks));
      left = stands.bus.opened ∙ ap (map row_of) (sym (filter_all (λ (request : Open). not (is_among [] request)) (λ request. refl) (unsettled history)));
      ended = λ id. sym (or_none (ended_at id bus.requests.ended));
    }

-- ## One more

-- the request behind those that have ended
abbrev pub IsNextDue : List Traced → ℕ → Open → List Open → Type 0
IsNextDue history count request rest = drop count (by_due (unsettled history)) ≡ request ∷ rest

-- it is that of a context
abbrev pub IsAsked : Open → ContextId → Type 0
IsAsked request context = request.asker ≡ askers.context context

due_of_contexts : (history : List Traced) → AreStored history → Each IsAskedByContext (by_due (unsettled history))
due_of_contexts history stored = Each-by_due IsAskedByContext (unsettled history) (unsettled_of_contexts history stored)

-- its outcome
timeouts_more : (history : List Traced) (count : ℕ) (request : Open) (context : ContextId) (rest : List Open) → AreStored history → IsAsked request context → IsNextDue history count request rest →
    timeouts history (suc count) ≡ timeouts history count ++ outcome_item count (heard_timeout history request context) ∷ []
timeouts_more history count request context rest stored asks left =
    let due = by_due (unsettled history) in
    let next = next_behind due count request rest left in
    let inside = next.inside in
    let before = heard (settlements history timeout (take count due)) in
    let counted : 0 + length before ≡ count =
    let len = length-take-le count due (omega arith) in let same = length-heard history (take count due) (Each-take IsAskedByContext count due (due_of_contexts history stored)) in omega arith in
    ap (λ rs. outcome_items 0 (heard (settlements history timeout rs))) next.front
    ∙ ap (outcome_items 0) (heard-push history (take count due) request context asks)
    ∙ outcome_items-push 0 before (heard_timeout history request context)
    ∙ ap (λ n. timeouts history count ++ outcome_item n (heard_timeout history request context) ∷ []) counted

timed_out_more : (history : List Traced) (count : ℕ) (request : Open) (context : ContextId) (rest : List Open) → IsAsked request context → IsNextDue history count request rest →
    timed_out history (suc count) ≡ timed_out history count ++ tasks.Outcome request.id timeout ∷ []
timed_out_more history count request context rest asks left =
    let due = by_due (unsettled history) in
    let task = λ (h : Heard). tasks.Outcome h.request h.outcome in
    ap (λ rs. outcome_tasks (heard (settlements history timeout rs))) (next_behind due count request rest left).front
    ∙ ap outcome_tasks (heard-push history (take count due) request context asks)
    ∙ map-append task (heard (settlements history timeout (take count due))) (heard_timeout history request context ∷ [])

-- the store finds it, and who asked
asker_there : (old_contexts contexts : ContextStore) (timers : List Timer) (old_bus bus : BusStore) (history : List Traced) (moment count : ℕ) (request : Open) (context : ContextId) (rest : List Open) →
    Advanced old_contexts contexts timers old_bus bus history moment count → IsAsked request context → IsNextDue history count request rest →
    asker_in (find (is_request request.id) bus.requests.waiting) ≡ Some context
asker_there old_contexts contexts timers old_bus bus history moment count request context rest advanced asks left =
    let all = unsettled history in
    let stays = λ (r : Open). not (is_among (ended_first history count) r) in
    let IsFound : Open → Type 0 = λ r. find (same_open r) all ≡ Some r in
    let found : IsFound request = Each-behind IsFound (by_due all) count request rest left (Each-by_due IsFound all (found_each same_open same_open-self same_open-swap all (unsettled_apart history))) in
    let kept : stays request ≡ true = ap not (none_before same_open (by_due all) count request rest left (Apart-by_due all (unsettled_apart history))) in
    ap (λ rows. asker_in (find (is_request request.id) rows)) advanced.left
    ∙ ap asker_in (find-map (is_request request.id) row_of (filter stays all))
    ∙ ap (λ o. asker_in (option_map row_of o)) (find-filter (same_open request) stays all request found kept)
    ∙ ap (λ asker. context_owning (owner_asking asker)) asks

-- what the contexts have then
items_more : (old contexts new : ContextStore) (history : List Traced) (at : EntryNo) (count : ℕ) (request : Open) (context : ContextId) (rest : List Open) → old.made ≡ machine.contexts history → AreStored history →
    IsNext at history → IsAsked request context → IsNextDue history count request rest →
    contexts ≡ record old { waiting = old.waiting ++ map (item_of history) (timeouts history count); room = contexts.room } →
    new ≡ record contexts { waiting = contexts.waiting ++ handler_item contexts.made at count context (kinds.Outcome request.id) ∷ []; room = new.room } →
    new ≡ record old { waiting = old.waiting ++ map (item_of history) (timeouts history (suc count)); room = new.room }
items_more old contexts new history at count request context rest is_made stored is_next asks left is_contexts is_new =
    let item : List Context → ℕ → Item = λ made n. handler_item made (record { 0 = n }) count context (kinds.Outcome request.id) in
    let store = λ (waiting : List Item). (let s : ContextStore = record old { waiting = waiting; room = new.room } in s) in
    let before = map (item_of history) (timeouts history count) in
    is_new
    ∙ ap (λ (s : ContextStore). let more : ContextStore = record s { waiting = s.waiting ++ item s.made at.0 ∷ []; room = new.room } in more) is_contexts
    ∙ ap store
    (append_assoc old.waiting before (item old.made at.0 ∷ [])
    ∙ ap (λ made. old.waiting ++ (before ++ item made at.0 ∷ [])) is_made
    ∙ ap (λ n. old.waiting ++ (before ++ item (machine.contexts history) n ∷ [])) is_next
    ∙ ap (λ ws. old.waiting ++ ws) (sym (map-append (item_of history) (timeouts history count) (outcome_item count (heard_timeout history request context) ∷ [])))
    ∙ ap (λ ws. old.waiting ++ map (item_of history) ws) (sym (timeouts_more history count request context rest stored asks left)))

-- what the bus has then
tasks_more : (old bus new : BusStore) (history : List Traced) (count : ℕ) (request : Open) (context : ContextId) (rest : List Open) → IsAsked request context → IsNextDue history count request rest →
    bus ≡ record old { tasks = old.tasks ++ timed_out history count; requests = bus.requests; room = bus.room } →
    new ≡ record bus { tasks = bus.tasks ++ tasks.Outcome request.id timeout ∷ []; requests = new.requests; room = new.room } →
    new ≡ record old { tasks = old.tasks ++ timed_out history (suc count); requests = new.requests; room = new.room }
tasks_more old bus new history count request context rest asks left is_bus is_new =
    let last = tasks.Outcome request.id timeout in
    is_new
    ∙ ap (λ (s : BusStore). let more : BusStore = record s { tasks = s.tasks ++ last ∷ []; requests = new.requests; room = new.room } in more) is_bus
    ∙ ap (λ ts. let s : BusStore = record old { tasks = ts; requests = new.requests; room = new.room } in s)
    (append_assoc old.tasks (timed_out history count) (last ∷ [])
    ∙ ap (λ ts. old.tasks ++ ts) (sym (timed_out_more history count request context rest asks left)))

-- which requests wait then
left_more : (history : List Traced) (count : ℕ) (request : Open) (rest : List Open) (waiting new_waiting : List OpenRequest) → IsNextDue history count request rest →
    waiting ≡ map row_of (filter (λ r. not (is_among (ended_first history count) r)) (unsettled history)) → new_waiting ≡ filter (λ row. not (is_request request.id row)) waiting →
    new_waiting ≡ map row_of (filter (λ r. not (is_among (ended_first history (suc count)) r)) (unsettled history))
left_more history count request rest waiting new_waiting left is_waiting is_new =
    let all = unsettled history in
    let before = is_among (ended_first history count) in
    let next = next_behind (by_due all) count request rest left in
    is_new
    ∙ ap (filter (λ row. not (is_request request.id row))) is_waiting
    ∙ filter-map (λ row. not (is_request request.id row)) row_of (filter (λ r. not (before r)) all)
    ∙ ap (map row_of)
    (filter-both before (same_open request) all
    ∙ filter_agree _ _ (λ r. ap not (sym (among_more (ended_first history count) request r) ∙ ap (λ rs. is_among rs r) (sym next.front))) all)

-- which have ended then
ended_more : (history : List Traced) (at : EntryNo) (count : ℕ) (request : Open) (rest : List Open) (id : MessageId) (old now new : Option EntryNo) → IsNext at history → IsNextDue history count request rest →
    now ≡ option_or old (option_map (λ _. next_entry history) (find (λ (r : Open). same_message id r.id) (ended_first history count))) →
    new ≡ option_or now (cond (same_message id request.id) (Some at) None) →
    new ≡ option_or old (option_map (λ _. next_entry history) (find (λ (r : Open). same_message id r.id) (ended_first history (suc count))))
ended_more history at count request rest id old now new is_next left is_now is_new =
    let there = λ (r : Open). same_message id r.id in
    let entry = λ (r : Open). next_entry history in
    let numbered = λ (n : ℕ). (let e : EntryNo = record { 0 = n } in e) in
    let before = find there (ended_first history count) in
    let here = same_message id request.id in
    let next = next_behind (by_due (unsettled history)) count request rest left in
    is_new
    ∙ ap (λ o. option_or o (cond here (Some at) None)) is_now
    ∙ or_assoc old (option_map entry before) (cond here (Some at) None)
    ∙ ap (λ n. option_or old (option_or (option_map entry before) (cond here (Some (numbered n)) None))) is_next
    ∙ ap (option_or old)
    (ap (option_or (option_map entry before)) (sym (map_if entry here request))
    ∙ sym (map-or entry before (cond here (Some request) None))
    ∙ ap (option_map entry) (sym (find-append there (ended_first history count) (request ∷ [])) ∙ ap (find there) (sym next.front)))

-- a request behind those that have ended, whose time is up, ends
one_more : (old_contexts contexts new_contexts : ContextStore) (timers : List Timer) (old_bus bus new_bus : BusStore) (history : List Traced) (moment : ℕ) (at : EntryNo) (count : ℕ) (request : Open) (context : ContextId) (rest : List Open) →
    old_contexts.made ≡ machine.contexts history → AreStored history → IsNext at history → Advanced old_contexts contexts timers old_bus bus history moment count → IsAsked request context → IsNextDue history count request rest →
    request.due ≤ moment → TimesOut contexts new_contexts bus new_bus at count request.id context → Advanced old_contexts new_contexts (map timer_of rest) old_bus new_bus history moment (suc count)
one_more old_contexts contexts new_contexts timers old_bus bus new_bus history moment at count request context rest is_made stored is_next advanced asks left is_due ends =
    let next = next_behind (by_due (unsettled history)) count request rest left in
    let inside = next.inside in
    let IsUp : Open → Type 0 = λ r. r.due ≤ moment in
    record {
      within = omega arith;
      due = All-same IsUp (ended_first history (suc count)) (ended_first history count ++ request ∷ []) next.front (All-push IsUp (ended_first history count) request advanced.due is_due);
      items = items_more old_contexts contexts new_contexts history at count request context rest is_made stored is_next asks left advanced.items ends.items;
      timers = ap (map timer_of) (sym next.behind);
      tasks = tasks_more old_bus bus new_bus history count request context rest asks left advanced.tasks ends.tasks;
      left = left_more history count request rest bus.requests.waiting new_bus.requests.waiting left advanced.left ends.left;
      ended = λ id. ended_more history at count request rest id (ended_at id old_bus.requests.ended) (ended_at id bus.requests.ended) (ended_at id new_bus.requests.ended) is_next left (advanced.ended id) (ends.ended id);
    }

-- the first timer fires, and its request ends
pub more_advanced : (old_contexts contexts new_contexts : ContextStore) (timers new_timers : List Timer) (old_bus bus new_bus : BusStore) (history : List Traced) (moment : ℕ) (at : EntryNo) (count due : ℕ) (id : EntryNo) →
    old_contexts.made ≡ machine.contexts history → AreStored history → IsNext at history → Advanced old_contexts contexts timers old_bus bus history moment count → Fires moment timers new_timers due id →
    ((asker : ContextId) → asker_in (find (is_request (record { 0 = id })) bus.requests.waiting) ≡ Some asker → TimesOut contexts new_contexts bus new_bus at count (record { 0 = id }) asker) →
    Advanced old_contexts new_contexts new_timers old_bus new_bus history moment (count + 1)
more_advanced old_contexts contexts new_contexts timers new_timers old_bus bus new_bus history moment at count due id is_made stored is_next advanced fires ends =
    let part = first_part timer_of (drop count (by_due (unsettled history))) fires.timer fires.others (sym advanced.timers ∙ fires.first) in
    let request = part.first in
    let asked : IsAskedByContext request = Each-behind IsAskedByContext (by_due (unsettled history)) count request part.others part.whole (due_of_contexts history stored) in
    let is_up = fires.is_due in
    let due_then : request.due ≡ fires.timer.due = ap (λ (t : Timer). t.due) part.part in
    let named : id ≡ request.id.0 = sym fires.named ∙ sym (ap (λ (t : Timer). t.id) part.part) in
    let Ends : EntryNo → Type 0 = λ n. (asker : ContextId) → asker_in (find (is_request (record { 0 = n })) bus.requests.waiting) ≡ Some asker →
    TimesOut contexts new_contexts bus new_bus at count (record { 0 = n }) asker in
    let ended = subst Ends named ends asked.0 (asker_there old_contexts contexts timers old_bus bus history moment count request asked.0 part.others advanced asked.1 part.whole) in
    let others : new_timers ≡ map timer_of part.others =
    fires.stays ∙ ap (λ p. again moment fires.timer p fires.others) (sym (ap (λ (t : Timer). t.period) part.part)) ∙ sym part.parts in
    let After : List Timer → ℕ → Type 0 = λ ts n. Advanced old_contexts new_contexts ts old_bus new_bus history moment n in
    let One : List Timer → Type 0 = λ ts. After ts (suc count) in
    let More : ℕ → Type 0 = After new_timers in
    subst More (sym (add-one count))
    (subst One (sym others) (one_more old_contexts contexts new_contexts timers old_bus bus new_bus history moment at count request asked.0 part.others is_made stored is_next advanced asked.1 part.whole (omega arith) ended))

-- ## At last, those left are due later

pub none_due : (old_contexts contexts : ContextStore) (timers new_timers : List Timer) (old_bus bus : BusStore) (history : List Traced) (moment count : ℕ) →
    Advanced old_contexts contexts timers old_bus bus history moment count → new_timers ≡ timers → All (λ (timer : Timer). moment < timer.due) timers →
    HasAdvanced old_contexts contexts new_timers old_bus bus history moment count
none_due old_contexts contexts timers new_timers old_bus bus history moment count advanced same later =
    let IsLater : Timer → Type 0 = λ timer. moment < timer.due in
    let rest = drop count (by_due (unsettled history)) in
    let After : List Timer → Type 0 = λ ts. Advanced old_contexts contexts ts old_bus bus history moment count in
    record {
      advanced = subst After (sym same) advanced;
      later = All-from-map IsLater timer_of rest (All-same IsLater (map timer_of rest) timers (sym advanced.timers) later);
    }
