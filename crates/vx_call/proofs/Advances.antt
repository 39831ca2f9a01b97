-- What an Advance makes ready in a history of calls whose effects the stores keep: the outcomes of the requests whose
-- time is up, in their order.
use Rattle.std.proofs.Common.{◌≡◌, ℕ, ◌+◌, ◌<◌, List, [], ◌∷◌, ◌++◌, length, refl, ap, sym, ◌∙◌, arith}
use Rattle.std.specs.Prelude.{Bool, true, false, ◌==◌, ◌&&◌, ◌||◌, nat_le, nat_lt, max, not, cond, filter, map, Some}
use Rattle.std.specs.List.{filter_map, cons_option}
use Rattle.std.specs.Option.{option_map}
use Rattle.std.proofs.lemmas.Bool.{eq-eqb}
use Rattle.std.proofs.lemmas.Bool.Decides.{nat_tests}
use Rattle.vx_data.specs.declared.ids.ContextId.{ContextId}
use Rattle.vx_data.specs.declared.ids.PassNo.{PassNo}
use Rattle.vx_call.specs.declared.call.Call.{Call}
use Rattle.vx_call.specs.declared.call.Call.TheVariants as calls
use Rattle.vx_call.specs.declared.reply.Task.TheVariants as tasks
use Rattle.vx_call.specs.declared.history.Deed.TheVariants as deeds
use Rattle.vx_call.specs.declared.history.Traced.{Traced}
use Rattle.vx_call.specs.History.{is_accepted, made_by}
use Rattle.vx_call.specs.Names.{next_entry}
use Rattle.vx_call.specs.Time.{now}
use Rattle.vx_call.specs.Timers.{Timer, timer_made}
use Rattle.vx_call.specs.Fires.{timer_kind, timers, comes_due, firing, fire_waits}
use Rattle.vx_call.specs.Askers.{context_asking}
use Rattle.vx_call.specs.Requests.{Open, open_kind, unsettled, settles, settled_by, put_by_due, by_due}
use Rattle.vx_call.specs.Settled.{settlement, settlements, timeout, settled_made}
use Rattle.vx_call.specs.Homes.{heard}
use Rattle.vx_call.specs.Due.{due_fire, due_task, due_request, is_before, put_due, in_order, fired}
use Rattle.vx_call.specs.Lives.{ready_due}
use Rattle.vx_call.specs.Items.{Waiting, outcome_items, placed, item_by}
use Rattle.vx_call.specs.Built.{is_stored, AreStored}
use Rattle.vx_call.proofs.Each.{Each, Each-filter}
use Rattle.vx_call.proofs.Apart.{Apart, made_if}
use Rattle.vx_call.proofs.Rising.{IsRising, lasting_rising}
use Rattle.vx_call.proofs.Opened.{same_open, open_key, open_stays_apart, Each-by_due}
use Rattle.vx_call.proofs.Stored.{none_ever, IsAskedByContext, unsettled_of_contexts, all_timed_out}

-- ## No timer fires

none_set : (history : List Traced) (call : Call) → is_stored call ≡ true → timer_made history call ≡ []
none_set history (calls.SetTimer context delay periodic) stored = absurd cc
none_set history _ stored = refl

pub no_timers : (history : List Traced) → AreStored history → timers history ≡ []
no_timers = none_ever timer_kind (λ history new rest stored. none_set history new.entry.call stored)

pub none_fires : (history : List Traced) (moment : ℕ) → AreStored history → firing history moment ≡ []
none_fires history moment stored =
    ap (λ all. filter (λ (timer : Timer). not (fire_waits history timer.id)) (filter (comes_due (now history) (max (now history) moment)) all)) (no_timers history stored)

-- ## The open requests rise

one_at_most : (n : ℕ) (all : List Open) → Each (λ request. open_key request ≡ n) all → Apart same_open all → IsRising open_key all
one_at_most n [] keyed apart = tt
one_at_most n (request ∷ []) keyed apart = (tt, tt)
one_at_most n (request ∷ other ∷ others) keyed apart =
    let same : same_open request other ≡ true = eq-eqb request.id.0.0 other.id.0.0 (keyed.0 ∙ sym keyed.1.0) in
    absurd (let no : true ≡ false = sym same ∙ apart.0.0 in cc)

pub unsettled_rising : (history : List Traced) → IsRising open_key (unsettled history)
unsettled_rising =
    lasting_rising open_kind open_key (λ history new. (made_if same_open open_key (length history) (is_accepted new.entry.reply) _ (open_stays_apart history new)).keyed)
    (λ history new.
    (let made = made_if same_open open_key (length history) (is_accepted new.entry.reply) _ (open_stays_apart history new) in
    one_at_most (length history) (made_by open_kind history new) made.keyed made.apart))

rising_filter : (p : Open → Bool) (all : List Open) → IsRising open_key all → IsRising open_key (filter p all)
rising_filter p [] rising = tt
rising_filter p (request ∷ others) rising =
    elim (p request) as (λ b. IsRising open_key (cond b (request ∷ filter p others) (filter p others))) [
      | true ↦ (Each-filter (λ other. open_key request < open_key other) (λ other. open_key request < open_key other) p others (λ other passes lt. lt) rising.0, rising_filter p others rising.1)
      | false ↦ rising_filter p others rising.1
    ]

-- ## Both orders are one

first_due : (due other id another : ℕ) → id < another → (nat_lt due other || ((due == other) && nat_lt id another)) ≡ nat_le due other
first_due due other id another lt = grind (arith, nat_tests)

put_alike : (request : Open) (context : ContextId) → due_request request ≡ Some (due_task request context) → (all : List Open) → Each IsAskedByContext all → Each (λ other. open_key request < open_key other) all →
    put_due (due_task request context) (filter_map due_request all) ≡ filter_map due_request (put_by_due request all)
put_alike request context is [] asked later = sym (ap (λ o. cons_option o []) is)
put_alike request context is (other ∷ others) asked later =
    let c : ContextId = asked.0.0 in
    let due = due_task request context in
    let d = due_task other c in
    let rest = filter_map due_request others in
    let its : due_request other ≡ Some d = ap (λ a. option_map (due_task other) (context_asking a)) asked.0.1 in
    let before : is_before due d ≡ nat_le request.due other.due = first_due request.due other.due request.id.0.0 other.id.0.0 later.0 in
    ap (λ o. put_due due (cons_option o rest)) its
    ∙ ap (λ b. cond b (due ∷ d ∷ rest) (d ∷ put_due due rest)) before
    ∙ elim (nat_le request.due other.due) as (λ b. cond b (due ∷ d ∷ rest) (d ∷ put_due due rest) ≡ filter_map due_request (cond b (request ∷ other ∷ others) (other ∷ put_by_due request others))) [
      | true ↦ sym (ap (λ o. cons_option o (cons_option (due_request other) rest)) is ∙ ap (λ o. due ∷ cons_option o rest) its)
      | false ↦ ap (λ xs. d ∷ xs) (put_alike request context is others asked.1 later.1) ∙ sym (ap (λ o. cons_option o (filter_map due_request (put_by_due request others))) its)
    ]

order_alike : (all : List Open) → IsRising open_key all → Each IsAskedByContext all → in_order (filter_map due_request all) ≡ filter_map due_request (by_due all)
order_alike [] rising asked = refl
order_alike (request ∷ others) rising asked =
    let context : ContextId = asked.0.0 in
    let its : due_request request ≡ Some (due_task request context) = ap (λ a. option_map (due_task request) (context_asking a)) asked.0.1 in
    ap (λ o. in_order (cons_option o (filter_map due_request others))) its
    ∙ ap (put_due (due_task request context)) (order_alike others rising.1 asked.1)
    ∙ put_alike request context its (by_due others) (Each-by_due IsAskedByContext others asked.1) (Each-by_due (λ other. open_key request < open_key other) others rising.0)

-- ## What is made ready

items_alike : (history : List Traced) (place : ℕ) (all : List Open) → Each IsAskedByContext all → placed history place (ready_due (filter_map due_request all)) ≡ outcome_items place (heard (settlements history timeout all))
items_alike history place [] asked = refl
items_alike history place (request ∷ others) asked =
    let context : ContextId = asked.0.0 in
    let here = settlement history timeout request in
    let behind = heard (settlements history timeout others) in
    ap (λ a. placed history place (ready_due (cons_option (option_map (due_task request) (context_asking a)) (filter_map due_request others)))) asked.0.1
    ∙ ap (λ (items : List Waiting). record { entry = next_entry history; place = place; context = context; task = tasks.Outcome request.id timeout } ∷ items) (items_alike history (place + 1) others asked.1)
    ∙ sym (ap (λ a. outcome_items place (cons_option (option_map (λ c. record { request = here.request; at = here.at; context = c; outcome = here.outcome }) (context_asking a)) behind)) asked.0.1)

-- the outcomes of the requests whose time is up wait, in their order
pub advance_items : (history : List Traced) (new : Traced) (moment : ℕ) → AreStored history →
    item_by history new (calls.Advance moment) ≡ outcome_items 0 (heard (settled_made history new.entry.pass (calls.Advance moment) new.mark.deed))
advance_items history new moment stored =
    let pass = new.entry.pass in
    let up = settled_by history pass (calls.Advance moment) deeds.Nothing in
    let test = settles history pass (calls.Advance moment) deeds.Nothing in
    let asked : Each IsAskedByContext up = Each-filter IsAskedByContext IsAskedByContext test (unsettled history) (λ request passes of. of) (unsettled_of_contexts history stored) in
    let rising : IsRising open_key up = rising_filter test (unsettled history) (unsettled_rising history) in
    let in_turn : Each IsAskedByContext (by_due up) = Each-by_due IsAskedByContext up asked in
    ap (λ timers_due. placed history 0 (ready_due (in_order (map (due_fire (now history)) timers_due ++ filter_map due_request up)))) (none_fires history moment stored)
    ∙ ap (λ all. placed history 0 (ready_due all)) (order_alike up rising asked)
    ∙ items_alike history 0 (by_due up) in_turn
    ∙ sym (ap (λ ended. outcome_items 0 (heard ended)) (all_timed_out history (by_due up) in_turn))

-- and their number is that of the reply
pub fired_count : (history : List Traced) (pass : PassNo) (moment : ℕ) → AreStored history → fired history pass moment ≡ length (settled_made history pass (calls.Advance moment) deeds.Nothing)
fired_count history pass moment stored =
    let many = length (settled_made history pass (calls.Advance moment) deeds.Nothing) in
    let none : length (firing history moment) ≡ 0 = ap (λ (all : List Timer). length all) (none_fires history moment stored) in
    ap (λ n. n + many) none ∙ omega arith
