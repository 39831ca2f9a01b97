-- A request that ends with an outcome: Reply, Fail and ReplyRequest.
use Rattle.std.proofs.Common.{◌≡◌, ℕ, ℤ, List, [], ◌∷◌, ◌++◌, length, refl, ap, sym, ◌∙◌, subst}
use Rattle.std.specs.Prelude.{Bool, true, false, not, ◌&&◌, ◌==◌, cond, filter, find, map, is_some, Option, None, Some}
use Rattle.std.specs.List.{cons_option}
use Rattle.std.specs.Option.{option_map, option_or, option_to_list}
use Rattle.std.proofs.lemmas.Bool.{eqb-true}
use Rattle.std.proofs.lemmas.List.{append-nil, map-append}
use Rattle.std.proofs.lemmas.List.Elements.{filter-append, filter_agree}
use Rattle.std.proofs.lemmas.List.Folds.{find-append}
use Rattle.vx_data.specs.declared.ids.EntryNo.{EntryNo}
use Rattle.vx_data.specs.declared.ids.PassNo.{PassNo}
use Rattle.vx_data.specs.declared.ids.ContextId.{ContextId}
use Rattle.vx_data.specs.declared.ids.MessageId.{MessageId}
use Rattle.vx_data.specs.Tree.{Tree}
use Rattle.vx_message.specs.declared.Options.{Options}
use Rattle.vx_message.specs.Codecs.{is_codec}
use Rattle.vx_message.specs.declared.Context.{Context}
use Rattle.vx_message.specs.declared.Item.{Item}
use Rattle.vx_message.specs.declared.Outcome.{Outcome}
use Rattle.vx_message.specs.declared.FailureKind.TheVariants as failures
use Rattle.vx_timer.specs.declared.timers.Timer.{Timer}
use Rattle.vx_timer.specs.Order.{is_named}
use Rattle.vx_consumer.specs.Mailboxes as moves
use Rattle.vx_ring.specs.Rings.{consumers_at, choices_at}
use Rattle.vx_request.specs.Stores.{is_request, ended_at, given_at}
use Rattle.vx_call.specs.declared.call.Call.{Call}
use Rattle.vx_call.specs.declared.call.Call.TheVariants as calls
use Rattle.vx_call.specs.declared.reply.Reply.{Reply}
use Rattle.vx_call.specs.declared.reply.Reply.TheVariants as replies
use Rattle.vx_call.specs.declared.reply.Task.TheVariants as tasks
use Rattle.vx_call.specs.declared.reply.Task.{Task}
use Rattle.vx_call.specs.declared.history.Traced.{Traced}
use Rattle.vx_call.specs.History.{made_by, ended_by, lasting, plain_entry, no_mark}
use Rattle.vx_call.specs.Built.{AreStored}
use Rattle.vx_data.specs.Ids.{same_message}
use Rattle.vx_call.specs.Names.{next_entry}
use Rattle.vx_call.specs.Contexts.{contexts}
use Rattle.vx_call.specs.Codecs.{coded, coded_by}
use Rattle.vx_call.specs.Choices.{choice_kind}
use Rattle.vx_call.specs.Given.{given_kind}
use Rattle.vx_call.specs.Mailboxes.{move_if}
use Rattle.vx_call.specs.Owners.{context_owning}
use Rattle.vx_call.specs.Askers.{Asker, context_asking}
use Rattle.vx_call.specs.Askers as askers
use Rattle.vx_call.specs.Requests.{Open, open_kind, unsettled, by_due}
use Rattle.vx_call.specs.Settled.{Settled, settlement, settled_kind, settled, settled_at, settlements, failed, replied}
use Rattle.vx_call.specs.Homes.{Heard, heard}
use Rattle.vx_call.specs.Items.{Waiting, item_kind, waiting, task_kind, untaken, outcome_items, outcome_tasks}
use Rattle.vx_call.specs.Machine.{row}
use Rattle.vx_call.proofs.Lasting.{lasting-append, lasting_more}
use Rattle.vx_call.proofs.Found.{find_passes}
use Rattle.vx_call.proofs.Each.{Each}
use Rattle.vx_call.proofs.Apart.{Apart}
use Rattle.vx_call.proofs.Stored.{IsAskedByContext, stored_more, unsettled_of_contexts}
use Rattle.vx_call.proofs.KeepsOpen.{KeepsOpen, call_keeps}
use Rattle.vx_call.proofs.Dropped.{ended_among, settled_at_kept}
use Rattle.vx_call.proofs.Mailboxes.{mailbox_unmoved}
use Rattle.vx_call.proofs.Opened.{same_open, unsettled_apart}
use Rattle.vx_call.proofs.Settlings.{settled-append}
use Rattle.vx_call.proofs.ByDue.{by_due-filter}
use Rattle.vx_context.specs.Stores.{ContextStore, item_of}
use Rattle.vx_context.specs.Stands.{ContextsStand, IsNext}
use Rattle.vx_bus_store.specs.Stores.{BusStore, asker_in, coded_in, owner_asking, row_of, timer_of}
use Rattle.vx_bus_store.specs.Stands.{BusStands, TimersStand, StoresStand, Follows}
use Rattle.vx_bus_delivery.specs.Ending as ending
use Rattle.vx_call.proofs.Filters.{filter-map}
use Rattle.vx_bus_store.proofs.Images.{find-map}
use Rattle.vx_bus_store.proofs.Frames.{LeavesConsumers, LeavesNumbers, LeavesCodecs, LeavesRules, consumer_kept, handlers_left, numbers_left, rings_left, choices_left, given_left, codecs_left, rules_left}
use Rattle.vx_bus_send.proofs.Stays.{KeepsContexts, contexts_more, settled_alone}

-- ## The open request of an id

-- whether it is this request
abbrev pub is_one : MessageId → Open → Bool
is_one id request = same_message id request.id

-- the open request of this id
abbrev pub one_open : List Traced → MessageId → Option Open
one_open history id = find (is_one id) (unsettled history)

none_pass : (id : MessageId) (first : Open) (others : List Open) → is_one id first ≡ true → Each (λ other. same_open first other ≡ false) others → filter (is_one id) others ≡ []
none_pass id first [] here apart = refl
none_pass id first (other ∷ others) here apart =
    let same : id.0.0 ≡ first.id.0.0 = eqb-true id.0.0 first.id.0.0 here in
    let fails : is_one id other ≡ false = ap (λ n. n == other.id.0.0) same ∙ apart.0 in
    ap (λ b. cond b (other ∷ filter (is_one id) others) (filter (is_one id) others)) fails ∙ none_pass id first others here apart.1

-- where all are apart, no two have the id
pub filter_one : (id : MessageId) (requests : List Open) → Apart same_open requests → filter (is_one id) requests ≡ option_to_list (find (is_one id) requests)
filter_one id [] apart = refl
filter_one id (request ∷ others) apart =
    elim (is_one id request) as (λ b. is_one id request ≡ b → cond b (request ∷ filter (is_one id) others) (filter (is_one id) others) ≡ option_to_list (cond b (Some request) (find (is_one id) others))) [
      | true ↦ λ here. ap (λ ys. request ∷ ys) (none_pass id request others here apart.0)
      | false ↦ λ there. filter_one id others apart.1
    ] refl

-- where none has the id, all stay
pub all_others : {X : Type 0} (p : X → Bool) (xs : List X) → find p xs ≡ None → filter (λ x. not (p x)) xs ≡ xs
all_others p [] none = refl
all_others p (x ∷ xs) none =
    elim (p x) as (λ b. cond b (Some x) (find p xs) ≡ None → cond (not b) (x ∷ filter (λ y. not (p y)) xs) (filter (λ y. not (p y)) xs) ≡ x ∷ xs) [
      | true ↦ λ h. absurd cc
      | false ↦ λ h. ap (λ ys. x ∷ ys) (all_others p xs h)
    ] none

-- what is known of each is known of what is found
pub found_each : {X : Type 0} (P : X → Type 0) (p : X → Bool) (xs : List X) (x : X) → Each P xs → find p xs ≡ Some x → P x
found_each P p [] x each h = absurd cc
found_each {X} P p (y ∷ xs) x each h =
    elim (p y) as (λ b. cond b (Some y) (find p xs) ≡ Some x → P x) [
      | true ↦ λ k. (let e : y ≡ x = cc in subst P e each.0)
      | false ↦ λ k. found_each P p xs x each.1 k
    ] h

-- ## The same among what the stores keep

-- the bus finds the open request
row_there : (bus : BusStore) (history : List Traced) (id : MessageId) → BusStands bus history → find (is_request id) bus.requests.waiting ≡ option_map row_of (one_open history id)
row_there bus history id stands = ap (find (is_request id)) stands.opened ∙ find-map row_of (is_one id) (is_request id) (λ request. refl) (unsettled history)

-- the context that asked, if one did
abbrev pub asker_of : Option Open → Option ContextId
asker_of None = None
asker_of (Some request) = context_asking request.asker

owner_of : (asker : Asker) → context_owning (owner_asking asker) ≡ context_asking asker
owner_of (askers.context context) = refl
owner_of (askers.connection conn at) = refl

asker_in_row : (found : Option Open) → asker_in (option_map row_of found) ≡ asker_of found
asker_in_row None = refl
asker_in_row (Some request) = owner_of request.asker

pub asker_known : (bus : BusStore) (history : List Traced) (id : MessageId) → BusStands bus history → ending.asker_there id bus ≡ asker_of (one_open history id)
asker_known bus history id stands = ap asker_in (row_there bus history id stands) ∙ asker_in_row (one_open history id)

-- ## What the entry is

-- an entry that settles the request with this outcome where it is open, opens these requests, and does no more
pub record Ends (history : List Traced) (new : Traced) (request : MessageId) (outcome : Outcome) (opens : List Open) : Type 0 where
  pub contexts : KeepsContexts history new
  pub consumers : LeavesConsumers history new
  pub numbers : LeavesNumbers history new
  pub choices : made_by choice_kind history new ≡ []
  pub given : made_by given_kind history new ≡ []
  pub codecs : LeavesCodecs history new
  pub rules : LeavesRules history new
  pub tasks : made_by task_kind history new ≡ outcome_tasks (heard (settlements history outcome (filter (is_one request) (unsettled history))))
  pub untaken : (task : Task) → ended_by task_kind history new task ≡ false
  pub items : made_by item_kind history new ≡ outcome_items 0 (heard (settlements history outcome (filter (is_one request) (unsettled history))))
  pub kept : (item : Waiting) → ended_by item_kind history new item ≡ false
  pub settled : made_by settled_kind history new ≡ settlements history outcome (filter (is_one request) (unsettled history))
  pub opened : made_by open_kind history new ≡ opens
  pub closed : (one : Open) → ended_by open_kind history new one ≡ is_one request one

pub found_name : (history : List Traced) (id : MessageId) → (request : Open) → one_open history id ≡ Some request → id.0.0 ≡ request.id.0.0
found_name history id request h = eqb-true id.0.0 request.id.0.0 (find_passes (is_one id) (unsettled history) request h)

-- ## The contexts

items_of : (history : List Traced) (at : EntryNo) (id : MessageId) (outcome : Outcome) (found : Option Open) → IsNext at history → ((request : Open) → found ≡ Some request → id.0.0 ≡ request.id.0.0) →
    ending.outcome_items (contexts history) at id (asker_of found) ≡ map (item_of history) (outcome_items 0 (heard (settlements history outcome (option_to_list found))))
items_of history at id outcome None is_next same = refl
items_of history at id outcome (Some request) is_next same =
    let item : ContextId → ℕ → ℕ → Item = λ context n m. ending.outcome_item (contexts history) (record { 0 = n }) (record { 0 = record { 0 = m } }) context in
    let it : ContextId → Heard = λ context. record { request = request.id; at = next_entry history; context = context; outcome = outcome } in
    elim (context_asking request.asker) as (λ o. ending.outcome_items (contexts history) at id o ≡ map (item_of history) (outcome_items 0 (cons_option (option_map it o) []))) [
      | None ↦ refl
      | Some context ↦ ap (λ n. item context n id.0.0 ∷ []) is_next ∙ ap (λ m. item context (length history) m ∷ []) (same request refl)
    ]

more_waiting : (history : List Traced) (new : Traced) (request : MessageId) (outcome : Outcome) (opens : List Open) → Ends history new request outcome opens →
    waiting (history ++ new ∷ []) ≡ waiting history ++ outcome_items 0 (heard (settlements history outcome (option_to_list (one_open history request))))
more_waiting history new request outcome opens ends =
    lasting_more item_kind history new ends.kept
    ∙ ap (λ items. waiting history ++ items) ends.items
    ∙ ap (λ requests. waiting history ++ outcome_items 0 (heard (settlements history outcome requests))) (filter_one request (unsettled history) (unsettled_apart history))

pub contexts_settled : (old new_store : ContextStore) (bus : BusStore) (history : List Traced) (new : Traced) (at : EntryNo) (request : MessageId) (outcome : Outcome) (opens : List Open) →
    Ends history new request outcome opens → IsNext at history → ContextsStand old history → BusStands bus history →
    new_store ≡ record old { waiting = old.waiting ++ ending.outcome_items old.made at request (ending.asker_there request bus); room = new_store.room } → ContextsStand new_store (history ++ new ∷ [])
contexts_settled old new_store bus history new at request outcome opens ends is_next stands bus_stands is_new =
    let made = outcome_items 0 (heard (settlements history outcome (option_to_list (one_open history request)))) in
    let items : ending.outcome_items old.made at request (ending.asker_there request bus) ≡ map (item_of history) made =
    ap (λ (all : List Context). ending.outcome_items all at request (ending.asker_there request bus)) stands.made
    ∙ ap (ending.outcome_items (contexts history) at request) (asker_known bus history request bus_stands)
    ∙ items_of history at request outcome (one_open history request) is_next (found_name history request) in
    contexts_more old new_store history new made ends.contexts (more_waiting history new request outcome opens ends) stands
    (is_new ∙ ap (λ xs. record old { waiting = old.waiting ++ xs; room = new_store.room }) items)

-- ## The timers

-- the requests that are open then
left_open : (history : List Traced) (new : Traced) (request : MessageId) (outcome : Outcome) (opens : List Open) → Ends history new request outcome opens →
    unsettled (history ++ new ∷ []) ≡ filter (λ one. not (is_one request one)) (unsettled history) ++ opens
left_open history new request outcome opens ends =
    lasting-append open_kind history new
    ∙ ap (λ made. filter (λ one. not (ended_by open_kind history new one)) (unsettled history) ++ made) ends.opened
    ∙ ap (λ kept. kept ++ opens) (filter_agree (λ one. not (ended_by open_kind history new one)) (λ one. not (is_one request one)) (λ one. ap not (ends.closed one)) (unsettled history))

timers_of : (timers : List Timer) (request : MessageId) (before opens : List Open) (found : Option Open) → find (is_one request) before ≡ found → timers ≡ map timer_of (by_due (before ++ opens)) →
    ((one : Open) → found ≡ Some one → IsAskedByContext one) → ((one : Open) → found ≡ Some one → filter (λ one. not (is_one request one)) opens ≡ opens) →
    ending.without_timer request (asker_of found) timers ≡ map timer_of (by_due (filter (λ one. not (is_one request one)) before ++ opens))
timers_of timers request before opens None none is_timers asked others = is_timers ∙ ap (λ kept. map timer_of (by_due (kept ++ opens))) (sym (all_others (is_one request) before none))
timers_of timers request before opens (Some found) is_found is_timers asked others =
    let stays : Open → Bool = λ one. not (is_one request one) in
    ap (λ asker. ending.without_timer request (context_asking asker) timers) (asked found refl).1
    ∙ ap (filter (λ timer. not (is_named request.0 timer))) is_timers
    ∙ filter-map (λ timer. not (is_named request.0 timer)) timer_of (by_due (before ++ opens))
    ∙ ap (map timer_of) (sym (by_due-filter stays (before ++ opens)) ∙ ap by_due (filter-append stays before opens ∙ ap (λ rest. filter stays before ++ rest) (others found refl)))

pub timers_settled : (old new_timers : List Timer) (bus : BusStore) (history : List Traced) (new : Traced) (request : MessageId) (outcome : Outcome) (opens : List Open) → AreStored history →
    Ends history new request outcome opens → BusStands bus history → old ≡ map timer_of (by_due (unsettled history ++ opens)) →
    ((found : Open) → one_open history request ≡ Some found → filter (λ one. not (is_one request one)) opens ≡ opens) →
    new_timers ≡ ending.without_timer request (ending.asker_there request bus) old → TimersStand new_timers (history ++ new ∷ [])
timers_settled old new_timers bus history new request outcome opens stored ends stands is_old others is_new =
    is_new
    ∙ ap (λ asker. ending.without_timer request asker old) (asker_known bus history request stands)
    ∙ timers_of old request (unsettled history) opens (one_open history request) refl is_old
    (λ one is_found. found_each IsAskedByContext (is_one request) (unsettled history) one (unsettled_of_contexts history stored) is_found) others
    ∙ sym (ap (λ requests. map timer_of (by_due requests)) (left_open history new request outcome opens ends))

-- ## The bus

tasks_of : (history : List Traced) (id : MessageId) (outcome : Outcome) (found : Option Open) → ((request : Open) → found ≡ Some request → id.0.0 ≡ request.id.0.0) →
    ending.outcome_tasks id outcome (asker_of found) ≡ outcome_tasks (heard (settlements history outcome (option_to_list found)))
tasks_of history id outcome None same = refl
tasks_of history id outcome (Some request) same =
    let it : ContextId → Heard = λ context. record { request = request.id; at = next_entry history; context = context; outcome = outcome } in
    elim (context_asking request.asker) as (λ o. ending.outcome_tasks id outcome o ≡ outcome_tasks (cons_option (option_map it o) [])) [
      | None ↦ refl
      | Some context ↦ ap (λ m. tasks.Outcome (record { 0 = record { 0 = m } }) outcome ∷ []) (same request refl)
    ]

more_untaken : (history : List Traced) (new : Traced) (request : MessageId) (outcome : Outcome) (opens : List Open) → Ends history new request outcome opens →
    untaken (history ++ new ∷ []) ≡ untaken history ++ outcome_tasks (heard (settlements history outcome (option_to_list (one_open history request))))
more_untaken history new request outcome opens ends =
    lasting_more task_kind history new ends.untaken
    ∙ ap (λ made. untaken history ++ made) ends.tasks
    ∙ ap (λ requests. untaken history ++ outcome_tasks (heard (settlements history outcome requests))) (filter_one request (unsettled history) (unsettled_apart history))

abbrev pub at_of : Settled → EntryNo
at_of settled = settled.at

pub option_map-or : {X Y : Type 0} (f : X → Y) (a b : Option X) → option_map f (option_or a b) ≡ option_or (option_map f a) (option_map f b)
option_map-or f None b = refl
option_map-or f (Some x) b = refl

ended_of : (history : List Traced) (at : EntryNo) (id other : MessageId) (outcome : Outcome) (found : Option Open) → IsNext at history → ((request : Open) → found ≡ Some request → id.0.0 ≡ request.id.0.0) →
    cond (same_message other id && is_some (option_map row_of found)) (Some at) None
    ≡ option_map at_of (find (λ (s : Settled). same_message other s.request) (settlements history outcome (option_to_list found)))
ended_of history at id other outcome None is_next same = elim (same_message other id) as (λ b. cond (b && false) (Some at) None ≡ None) [ true ↦ refl | false ↦ refl ]
ended_of history at id other outcome (Some request) is_next same =
    ap (λ n. cond ((other.0.0 == n) && true) (Some at) None) (same request refl)
    ∙ ap (λ n. cond ((other.0.0 == request.id.0.0) && true) (Some (let entry : EntryNo = record { 0 = n } in entry)) None) is_next
    ∙ elim (other.0.0 == request.id.0.0) as (λ b. cond (b && true) (Some (next_entry history)) None ≡ option_map at_of (cond b (Some (settlement history outcome request)) None)) [ true ↦ refl | false ↦ refl ]

more_ended : (bus : BusStore) (history : List Traced) (new : Traced) (at : EntryNo) (id other : MessageId) (outcome : Outcome) (opens : List Open) → AreStored history → Ends history new id outcome opens → IsNext at history → BusStands bus history →
    option_or (ended_at other bus.requests.ended) (cond (same_message other id && is_some (find (is_request id) bus.requests.waiting)) (Some at) None) ≡ settled_at (history ++ new ∷ []) other
more_ended bus history new at id other outcome opens stored ends is_next stands =
    ap (λ known. option_or known (cond (same_message other id && is_some (find (is_request id) bus.requests.waiting)) (Some at) None)) (stands.ended other)
    ∙ ap (λ row. option_or (settled_at history other) (cond (same_message other id && is_some row) (Some at) None)) (row_there bus history id stands)
    ∙ ap (option_or (settled_at history other)) (ended_of history at id other outcome (one_open history id) is_next (found_name history id))
    ∙ ap (λ all. option_or (settled_at history other) (ended_among other all)) (sym (ends.settled ∙ ap (settlements history outcome) (filter_one id (unsettled history) (unsettled_apart history))))
    ∙ sym (settled_at_kept history new other stored ends.contexts.keeps)

pub bus_settled : (old new_store : BusStore) (history : List Traced) (new : Traced) (at : EntryNo) (request : MessageId) (outcome : Outcome) (opens : List Open) → AreStored history →
    Ends history new request outcome opens → IsNext at history → BusStands old history →
    new_store ≡ record old { requests = new_store.requests; tasks = old.tasks ++ ending.outcome_tasks request outcome (ending.asker_there request old); room = new_store.room } →
    new_store.requests.waiting ≡ filter (λ row. not (is_request request row)) old.requests.waiting ++ map row_of opens →
    ((id : MessageId) → ended_at id new_store.requests.ended
    ≡ option_or (ended_at id old.requests.ended) (cond (same_message id request && is_some (find (is_request request) old.requests.waiting)) (Some at) None)) →
    BusStands new_store (history ++ new ∷ [])
bus_settled old new_store history new at request outcome opens stored ends is_next stands is_new is_left is_ended =
    let stays : Open → Bool = λ one. not (is_one request one) in
    record {
      consumers = ap (λ (s : BusStore). s.consumers) is_new ∙ stands.consumers ∙ sym (handlers_left history new ends.consumers ends.numbers);
      rings = λ address. ap (λ (s : BusStore). consumers_at address s.rings) is_new ∙ stands.rings address ∙ sym (rings_left history new address ends.consumers);
      choices = λ address. ap (λ (s : BusStore). choices_at address s.rings) is_new ∙ stands.choices address ∙ sym (choices_left history new address ends.consumers ends.choices);
      tasks = ap (λ (s : BusStore). s.tasks) is_new
          ∙ ap (λ xs. xs ++ ending.outcome_tasks request outcome (ending.asker_there request old)) stands.tasks
          ∙ ap (λ asker. untaken history ++ ending.outcome_tasks request outcome asker) (asker_known old history request stands)
          ∙ ap (λ xs. untaken history ++ xs) (tasks_of history request outcome (one_open history request) (found_name history request))
          ∙ sym (more_untaken history new request outcome opens ends);
      opened = is_left
          ∙ ap (λ rows. filter (λ row. not (is_request request row)) rows ++ map row_of opens) stands.opened
          ∙ ap (λ rows. rows ++ map row_of opens) (filter-map (λ row. not (is_request request row)) row_of (unsettled history))
          ∙ sym (ap (map row_of) (left_open history new request outcome opens ends) ∙ map-append row_of (filter stays (unsettled history)) opens);
      ended = λ id. is_ended id ∙ more_ended old history new at request id outcome opens stored ends is_next stands;
      given = λ id. ap (λ (s : BusStore). given_at id s.given) is_new ∙ stands.given id ∙ sym (given_left history new id ends.given);
      codecs = ap (λ (s : BusStore). s.codecs) is_new ∙ stands.codecs ∙ sym (codecs_left history new ends.codecs);
      rules = ap (λ (s : BusStore). s.rules) is_new ∙ stands.rules ∙ sym (rules_left history new ends.rules);
    }

-- ## The row

pub follows_settled : (contexts new_contexts : ContextStore) (timers new_timers : List Timer) (bus new_bus : BusStore) (history : List Traced) (at : EntryNo) (pass : PassNo) (call : Call) (reply : Reply) (request : MessageId) (outcome : Outcome) →
    StoresStand contexts timers bus history → IsNext at history → Ends history (plain_entry pass call reply no_mark) request outcome [] → reply ≡ row history pass call →
    ending.Settles contexts new_contexts timers new_timers bus new_bus at request outcome → Follows new_contexts new_timers new_bus history pass call reply
follows_settled contexts new_contexts timers new_timers bus new_bus history at pass call reply request outcome stands is_next ends answered settles =
    let entry = plain_entry pass call reply no_mark in
    record {
      answered = answered;
      stores = record {
        stored = stored_more history entry stands.stored ends.contexts.keeps.stored;
        contexts = contexts_settled contexts new_contexts bus history entry at request outcome [] ends is_next stands.contexts stands.bus settles.items;
        timers = timers_settled timers new_timers bus history entry request outcome [] stands.stored ends stands.bus
            (stands.timers ∙ ap (λ requests. map timer_of (by_due requests)) (sym (append-nil (unsettled history)))) (λ found is_found. refl) settles.timers;
        bus = bus_settled bus new_bus history entry at request outcome [] stands.stored ends is_next stands.bus settles.tasks (settles.left ∙ sym (append-nil _)) settles.ended;
      };
    }

-- ## Reply and Fail

-- the body as the codec of the bus leaves it
pub coded_same : (bus : BusStore) (history : List Traced) (codec : Option (List ℕ)) (body : Tree) → BusStands bus history → coded_in bus.codecs codec body ≡ coded history codec body
coded_same bus history None body stands = refl
coded_same bus history (Some name) body stands = ap (λ codecs. coded_by (find (is_codec name) codecs) body) stands.codecs

pub ends_reply : (history : List Traced) (pass : PassNo) (message : MessageId) (body : Tree) (options : Options) →
    Ends history (plain_entry pass (calls.Reply message body options) replies.Done no_mark) message (replied history body options None) []
ends_reply history pass message body options =
    let entry = plain_entry pass (calls.Reply message body options) replies.Done no_mark in
    let keeps : KeepsOpen history entry = call_keeps history entry (record { call = refl; mark = refl }) refl in
    record {
      contexts = record { keeps = keeps; items = record { contexts = refl; queued = refl }; pools = refl; held = refl; finished = λ held. refl };
      consumers = record { registered = refl; kept = λ consumer. consumer_kept history entry consumer keeps refl };
      numbers = numbers_left history entry (λ consumer. mailbox_unmoved history entry consumer (ap (λ b. move_if b moves.ends) (consumer_kept history entry consumer keeps refl)));
      choices = refl;
      given = refl;
      codecs = record { added = refl; kept = λ codec. refl };
      rules = record { added = refl; kept = λ rule. refl };
      tasks = refl;
      untaken = λ task. refl;
      items = refl;
      kept = λ item. refl;
      settled = refl;
      opened = refl;
      closed = λ request. settled_alone (is_one message request) request.asker;
    }

pub ends_fail : (history : List Traced) (pass : PassNo) (message : MessageId) (code : ℤ) (text : List ℕ) →
    Ends history (plain_entry pass (calls.Fail message code text) replies.Done no_mark) message (failed failures.RecipientFailure code text) []
ends_fail history pass message code text =
    let entry = plain_entry pass (calls.Fail message code text) replies.Done no_mark in
    let keeps : KeepsOpen history entry = call_keeps history entry (record { call = refl; mark = refl }) refl in
    record {
      contexts = record { keeps = keeps; items = record { contexts = refl; queued = refl }; pools = refl; held = refl; finished = λ held. refl };
      consumers = record { registered = refl; kept = λ consumer. consumer_kept history entry consumer keeps refl };
      numbers = numbers_left history entry (λ consumer. mailbox_unmoved history entry consumer (ap (λ b. move_if b moves.ends) (consumer_kept history entry consumer keeps refl)));
      choices = refl;
      given = refl;
      codecs = record { added = refl; kept = λ codec. refl };
      rules = record { added = refl; kept = λ rule. refl };
      tasks = refl;
      untaken = λ task. refl;
      items = refl;
      kept = λ item. refl;
      settled = refl;
      opened = refl;
      closed = λ request. settled_alone (is_one message request) request.asker;
    }
