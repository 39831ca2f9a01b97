-- Advance.
use Rattle.std.proofs.Common.{◌≡◌, ℕ, ◌≤◌, ◌<◌, List, [], ◌∷◌, ◌++◌, length, take, drop, refl, ap, sym, ◌∙◌, subst, arith}
use Rattle.std.specs.Prelude.{true, false, not, nat_le, max, map, filter, find}
use Rattle.std.specs.Option.{option_map, option_or}
use Rattle.std.proofs.lemmas.Bool.Decides.{nat_tests}
use Rattle.std.proofs.lemmas.List.{append-nil, map-append, length-map}
use Rattle.std.proofs.lemmas.List.Elements.{All-weaker, filter_agree}
use Rattle.vx_data.specs.declared.ids.PassNo.{PassNo}
use Rattle.vx_data.specs.declared.ids.MessageId.{MessageId}
use Rattle.vx_message.specs.declared.Given.{Given}
use Rattle.vx_timer.specs.declared.timers.Timer.{Timer}
use Rattle.vx_ring.specs.Rings.{consumers_at, choices_at}
use Rattle.vx_request.specs.Stores.{given_at}
use Rattle.vx_call.specs.declared.call.Call.TheVariants as calls
use Rattle.vx_call.specs.declared.reply.Reply.TheVariants as replies
use Rattle.vx_call.specs.declared.history.Deed.TheVariants as deeds
use Rattle.vx_call.specs.declared.history.Traced.{Traced}
use Rattle.vx_call.specs.History.{plain_entry, no_mark}
use Rattle.vx_data.specs.Ids.{same_message}
use Rattle.vx_call.specs.Built.{AreStored}
use Rattle.vx_call.specs.Due.{fired}
use Rattle.vx_call.specs.Homes.{heard}
use Rattle.vx_call.specs.Names.{next_entry}
use Rattle.vx_call.specs.Given.{given_kind}
use Rattle.vx_call.specs.Requests.{Open, open_kind, unsettled, by_due}
use Rattle.vx_call.specs.Settled.{Settled, timeout, settlement, settlements, settled_made, settled_at}
use Rattle.vx_call.specs.Time.{now}
use Rattle.vx_call.specs.Items.{item_kind, waiting, outcome_items, task_kind, untaken, outcome_tasks}
use Rattle.vx_call.specs.Held.{held_kind}
use Rattle.vx_call.proofs.Advances.{advance_items, fired_count}
use Rattle.vx_call.proofs.Stored.{IsAskedByContext, stored_more, unsettled_of_contexts, all_timed_out}
use Rattle.vx_call.proofs.KeepsOpen.{KeepsOpen, call_keeps, closed_kept}
use Rattle.vx_call.proofs.Dropped.{ended_among, settled_at_kept}
use Rattle.vx_call.proofs.Lasting.{lasting_same, lasting_more, lasting-append}
use Rattle.vx_call.proofs.Each.{Each, Each-filter, weaken}
use Rattle.vx_call.proofs.Opened.{unsettled_apart, Each-by_due}
use Rattle.vx_call.proofs.Settlings.{is_settled_as}
use Rattle.vx_call.proofs.ByDue.{is_up, length-by_due, by_due-filter, due_front, due_rest}
use Rattle.vx_context.specs.Stores.{closed_in, ContextStore, item_of}
use Rattle.vx_context.specs.Stands.{ContextsStand}
use Rattle.vx_context.proofs.Items.{contexts_stay, items_left}
use Rattle.vx_bus_store.specs.Stores.{BusStore, row_of, timer_of}
use Rattle.vx_bus_store.specs.Stands.{StoresStand, BusStands, TimersStand, Follows}
use Rattle.vx_bus_store.proofs.Frames.{pools_stay, never_taken_back, consumer_kept, handlers_left, numbers_left, rings_left, choices_left, codecs_left, rules_left, LeavesConsumers}
use Rattle.vx_bus_store.proofs.KeptRequests.{ended_by_call}
use Rattle.vx_bus_store.proofs.Kept.{mailbox_kept}
use Rattle.vx_hub.specs.Advancing.{Advanced, HasAdvanced, ended_first, is_among, timeouts, timed_out}
use Rattle.vx_hub.proofs.Requests.{map-map, find-map, filter_same, length-passing, among_passing, any-by_due}

-- ## Those that have ended are those whose time is up

due_now : (due moment : ℕ) → due ≤ moment → nat_le due moment ≡ true
due_now due moment h = grind (arith, nat_tests)

due_later : (due moment : ℕ) → moment < due → nat_le due moment ≡ false
due_later due moment h = grind (arith, nat_tests)

-- so many requests' time is up, which are the first so many
record AreUp (history : List Traced) (moment : ℕ) (count : ℕ) : Type 0 where
  counted : length (filter (is_up moment) (unsettled history)) ≡ count
  front : by_due (filter (is_up moment) (unsettled history)) ≡ ended_first history count
  rest : by_due (filter (λ request. not (is_up moment request)) (unsettled history)) ≡ drop count (by_due (unsettled history))
  among : Each (λ request. not (is_among (ended_first history count) request) ≡ not (is_up moment request)) (unsettled history)

are_up : (old_contexts contexts : ContextStore) (timers : List Timer) (old_bus bus : BusStore) (history : List Traced) (moment count : ℕ) → HasAdvanced old_contexts contexts timers old_bus bus history moment count → AreUp history moment count
are_up old_contexts contexts timers old_bus bus history moment count has =
    let all = unsettled history in
    let up = is_up moment in
    let front_up = All-weaker (λ (r : Open). r.due ≤ moment) (λ r. up r ≡ true) (λ r h. due_now r.due moment h) (ended_first history count) has.advanced.due in
    let rest_later = All-weaker (λ (r : Open). moment < r.due) (λ r. up r ≡ false) (λ r h. due_later r.due moment h) (drop count (by_due all)) has.later in
    let counted : length (filter up all) ≡ count =
    sym (length-by_due (filter up all)) ∙ ap length (by_due-filter up all) ∙ length-passing up (by_due all) count has.advanced.within front_up rest_later in
    let front : by_due (filter up all) ≡ ended_first history count = due_front moment all ∙ ap (λ n. take n (by_due all)) counted in
    record {
      counted = counted;
      front = front;
      rest = due_rest moment all ∙ ap (λ n. drop n (by_due all)) counted;
      among = weaken (λ r. is_among (filter up all) r ≡ up r) (λ r. not (is_among (ended_first history count) r) ≡ not (up r)) all
          (λ r known. ap not (ap (λ rs. is_among rs r) (sym front) ∙ any-by_due (λ (other : Open). same_message other.id r.id) (filter up all) ∙ known))
          (among_passing up all (unsettled_apart history));
    }

-- ## The entry

abbrev entry_of : PassNo → ℕ → ℕ → Traced
entry_of pass moment count = plain_entry pass (calls.Advance moment) (replies.Fired count) no_mark

abbrev after : List Traced → PassNo → ℕ → ℕ → List Traced
after history pass moment count = history ++ entry_of pass moment count ∷ []

keeps_open : (history : List Traced) (pass : PassNo) (moment count : ℕ) → KeepsOpen history (entry_of pass moment count)
keeps_open history pass moment count = call_keeps history (entry_of pass moment count) (record { call = refl; mark = refl }) refl

-- the moment that the entry tells
abbrev told : List Traced → ℕ → ℕ
told history moment = max (now history) moment

-- the requests that are open then
still_open : (history : List Traced) (pass : PassNo) (moment count : ℕ) → unsettled (after history pass moment count) ≡ filter (λ request. not (is_up (told history moment) request)) (unsettled history)
still_open history pass moment count =
    let entry = entry_of pass moment count in
    lasting-append open_kind history entry ∙ append-nil _
    ∙ filter_agree _ _ (λ request. ap not (ended_by_call history entry request (keeps_open history pass moment count).stored)) (unsettled history)

-- those whose time is up end so
settled_up : (history : List Traced) (pass : PassNo) (moment : ℕ) → AreStored history →
    settled_made history pass (calls.Advance moment) deeds.Nothing ≡ settlements history timeout (by_due (filter (is_up (told history moment)) (unsettled history)))
settled_up history pass moment stored =
    let up = filter (is_up (told history moment)) (unsettled history) in
    all_timed_out history (by_due up)
    (Each-by_due IsAskedByContext up (Each-filter IsAskedByContext IsAskedByContext (is_up (told history moment)) (unsettled history) (λ request passes asked. asked) (unsettled_of_contexts history stored)))

settled_first : (history : List Traced) (pass : PassNo) (moment count : ℕ) → AreStored history → AreUp history (told history moment) count →
    settled_made history pass (calls.Advance moment) deeds.Nothing ≡ settlements history timeout (ended_first history count)
settled_first history pass moment count stored up = settled_up history pass moment stored ∙ ap (settlements history timeout) up.front

-- their number is that of the reply
fired_then : (history : List Traced) (pass : PassNo) (moment count : ℕ) → AreStored history → AreUp history (told history moment) count → fired history pass moment ≡ count
fired_then history pass moment count stored up =
    let all = filter (is_up (told history moment)) (unsettled history) in
    fired_count history pass moment stored
    ∙ ap (λ (ended : List Settled). length ended) (settled_up history pass moment stored)
    ∙ length-map (by_due all) (settlement history timeout)
    ∙ length-by_due all
    ∙ up.counted

-- the tasks that wait then
waiting_then : (history : List Traced) (pass : PassNo) (moment count : ℕ) → AreStored history → AreUp history (told history moment) count → waiting (after history pass moment count) ≡ waiting history ++ timeouts history count
waiting_then history pass moment count stored up =
    let entry = entry_of pass moment count in
    lasting_more item_kind history entry (λ item. refl)
    ∙ ap (λ items. waiting history ++ items) (advance_items history entry moment stored)
    ∙ ap (λ ended. waiting history ++ outcome_items 0 (heard ended)) (settled_first history pass moment count stored up)

-- the tasks that were not taken by then
untaken_then : (history : List Traced) (pass : PassNo) (moment count : ℕ) → AreStored history → AreUp history (told history moment) count → untaken (after history pass moment count) ≡ untaken history ++ timed_out history count
untaken_then history pass moment count stored up =
    lasting_more task_kind history (entry_of pass moment count) (λ task. refl)
    ∙ ap (λ ended. untaken history ++ outcome_tasks (heard ended)) (settled_first history pass moment count stored up)

-- how a request has ended then
ended_then : (history : List Traced) (pass : PassNo) (moment count : ℕ) (id : MessageId) → AreStored history → AreUp history (told history moment) count →
    ended_among id (settled_made history pass (calls.Advance moment) deeds.Nothing) ≡ option_map (λ _. next_entry history) (find (λ (r : Open). same_message id r.id) (ended_first history count))
ended_then history pass moment count id stored up =
    let at = λ (s : Settled). s.at in
    let settle = settlement history timeout in
    ap (ended_among id) (settled_first history pass moment count stored up)
    ∙ ap (option_map at) (find-map (is_settled_as id) settle (ended_first history count))
    ∙ map-map settle at (find (λ (r : Open). same_message id r.id) (ended_first history count))

-- ## The stores

advanced_contexts : (old new : ContextStore) (history : List Traced) (pass : PassNo) (moment count : ℕ) → ContextsStand old history → AreStored history → AreUp history (told history moment) count →
    new ≡ record old { waiting = old.waiting ++ map (item_of history) (timeouts history count); room = new.room } → ContextsStand new (after history pass moment count)
advanced_contexts old new history pass moment count stands stored up is_new =
    let entry = entry_of pass moment count in
    record {
      made = ap (λ (s : ContextStore). s.made) is_new ∙ stands.made ∙ sym (contexts_stay history entry refl);
      closings = λ id. ap (λ (s : ContextStore). closed_in id s.closings) is_new ∙ stands.closings id ∙ sym (closed_kept history entry id (keeps_open history pass moment count));
      held = ap (λ (s : ContextStore). s.held) is_new ∙ stands.held ∙ sym (lasting_same held_kind history entry refl (λ h. refl));
      pools = ap (λ (s : ContextStore). s.pools) is_new ∙ stands.pools ∙ sym (pools_stay history entry refl);
      waiting = ap (λ (s : ContextStore). s.waiting) is_new
          ∙ ap (λ ws. ws ++ map (item_of history) (timeouts history count)) stands.waiting
          ∙ sym (map-append (item_of history) (waiting history) (timeouts history count))
          ∙ ap (map (item_of history)) (sym (waiting_then history pass moment count stored up))
          ∙ sym (items_left history entry (record { contexts = refl; queued = refl }) (waiting (after history pass moment count)));
    }

advanced_bus : (old_contexts contexts : ContextStore) (timers : List Timer) (old new : BusStore) (history : List Traced) (pass : PassNo) (moment count : ℕ) → BusStands old history → AreStored history → AreUp history (told history moment) count →
    Advanced old_contexts contexts timers old new history (told history moment) count → BusStands new (after history pass moment count)
advanced_bus old_contexts contexts timers old new history pass moment count stands stored up advanced =
    let entry = entry_of pass moment count in
    let keeps = keeps_open history pass moment count in
    let consumers : LeavesConsumers history entry = record { registered = refl; kept = λ c. consumer_kept history entry c keeps refl } in
    let is_new = advanced.tasks in
    record {
      consumers = ap (λ (s : BusStore). s.consumers) is_new ∙ stands.consumers
          ∙ sym (handlers_left history entry consumers (numbers_left history entry (λ c. mailbox_kept history entry c keeps refl refl)));
      rings = λ a. ap (λ (s : BusStore). consumers_at a s.rings) is_new ∙ stands.rings a ∙ sym (rings_left history entry a consumers);
      choices = λ a. ap (λ (s : BusStore). choices_at a s.rings) is_new ∙ stands.choices a ∙ sym (choices_left history entry a consumers refl);
      tasks = ap (λ (s : BusStore). s.tasks) is_new
          ∙ ap (λ ts. ts ++ timed_out history count) stands.tasks
          ∙ sym (untaken_then history pass moment count stored up);
      opened = advanced.left
          ∙ ap (map row_of) (filter_same _ _ (unsettled history) up.among)
          ∙ ap (map row_of) (sym (still_open history pass moment count));
      ended = λ id. advanced.ended id
          ∙ ap (λ o. option_or o (option_map (λ _. next_entry history) (find (λ (r : Open). same_message id r.id) (ended_first history count)))) (stands.ended id)
          ∙ ap (option_or (settled_at history id)) (sym (ended_then history pass moment count id stored up))
          ∙ sym (settled_at_kept history entry id stored keeps);
      given = λ id. ap (λ (s : BusStore). given_at id s.given) is_new ∙ stands.given id
          ∙ ap (λ gs. find (λ (g : Given). same_message id g.id) gs) (sym (lasting_same given_kind history entry refl (never_taken_back history entry)));
      codecs = ap (λ (s : BusStore). s.codecs) is_new ∙ stands.codecs ∙ sym (codecs_left history entry (record { added = refl; kept = λ c. refl }));
      rules = ap (λ (s : BusStore). s.rules) is_new ∙ stands.rules ∙ sym (rules_left history entry (record { added = refl; kept = λ r. refl }));
    }

advanced_timers : (timers : List Timer) (history : List Traced) (pass : PassNo) (moment count : ℕ) → AreUp history (told history moment) count →
    timers ≡ map timer_of (drop count (by_due (unsettled history))) → TimersStand timers (after history pass moment count)
advanced_timers timers history pass moment count up are_timers =
    are_timers ∙ ap (map timer_of) (sym up.rest) ∙ ap (λ rs. map timer_of (by_due rs)) (sym (still_open history pass moment count))

-- ## The row

-- the requests whose time is up by the moment have ended
pub advances : (old_contexts contexts : ContextStore) (old_timers timers : List Timer) (old_bus bus : BusStore) (history : List Traced) (pass : PassNo) (moment by count : ℕ) →
    StoresStand old_contexts old_timers old_bus history → by ≡ max (now history) moment → HasAdvanced old_contexts contexts timers old_bus bus history by count →
    Follows contexts timers bus history pass (calls.Advance moment) (replies.Fired count)
advances old_contexts contexts old_timers timers old_bus bus history pass moment by count stands is_by has_by =
    let Has : ℕ → Type 0 = λ m. HasAdvanced old_contexts contexts timers old_bus bus history m count in
    let has : Has (told history moment) = subst Has is_by has_by in
    let stored = stands.stored in
    let up = are_up old_contexts contexts timers old_bus bus history (told history moment) count has in
    record {
      answered = ap replies.Fired (sym (fired_then history pass moment count stored up));
      stores = record {
        stored = stored_more history (entry_of pass moment count) stored (keeps_open history pass moment count).stored;
        contexts = advanced_contexts old_contexts contexts history pass moment count stands.contexts stored up has.advanced.items;
        timers = advanced_timers timers history pass moment count up has.advanced.timers;
        bus = advanced_bus old_contexts contexts timers old_bus bus history pass moment count stands.bus stored up has.advanced;
      };
    }
