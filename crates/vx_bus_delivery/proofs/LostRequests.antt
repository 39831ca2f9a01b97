-- Requests that end as consumers and contexts leave.
use Rattle.std.proofs.Common.{◌≡◌, ℕ, ◌+◌, List, [], ◌∷◌, ◌++◌, refl, ap, sym, ◌∙◌}
use Rattle.std.specs.Prelude.{Bool, true, false, not, cond, ◌||◌, ◌==◌, map, filter, find, Option, None, Some}
use Rattle.std.specs.List.{cons_option}
use Rattle.std.specs.Option.{option_map, option_or}
use Rattle.std.proofs.lemmas.Bool.{eq-eqb}
use Rattle.std.proofs.lemmas.List.Folds.{find-append}
use Rattle.vx_data.specs.declared.ids.ContextId.{ContextId}
use Rattle.vx_data.specs.declared.ids.EntryNo.{EntryNo}
use Rattle.vx_data.specs.declared.ids.MessageId.{MessageId}
use Rattle.vx_message.specs.declared.ItemKind.TheVariants as kinds
use Rattle.vx_message.specs.declared.Outcome.{Outcome}
use Rattle.vx_timer.specs.declared.timers.Timer.{Timer}
use Rattle.vx_request.specs.Stores.{is_request}
use Rattle.vx_call.specs.declared.reply.Task.{Task}
use Rattle.vx_call.specs.declared.reply.Task.TheVariants as tasks
use Rattle.vx_call.specs.declared.history.Traced.{Traced}
use Rattle.vx_data.specs.Ids.{same_message}
use Rattle.vx_call.specs.Names.{next_entry}
use Rattle.vx_call.specs.Contexts.{contexts}
use Rattle.vx_call.specs.Askers.{Asker, context_asking}
use Rattle.vx_call.specs.Requests.{Open, by_due}
use Rattle.vx_call.specs.Settled.{Settled, no_handlers, settlement, settlements}
use Rattle.vx_call.specs.Homes.{Heard, heard}
use Rattle.vx_call.specs.Items.{outcome_items, outcome_tasks}
use Rattle.vx_call.proofs.Each.{Each, weaken, Each-both}
use Rattle.vx_call.proofs.Apart.{Apart, others_apart}
use Rattle.vx_call.proofs.Opened.{same_open, same_open-swap, Each-by_due}
use Rattle.vx_call.proofs.ByDue.{by_due-filter}
use Rattle.vx_call.proofs.Stored.{IsAskedByContext}
use Rattle.vx_context.specs.Stores.{item_of, handler_item}
use Rattle.vx_bus_store.specs.Stores.{row_of, timer_of, owner_asking}
use Rattle.vx_bus_delivery.specs.Lost.{lost_item, lost_task, lost_items, lost_tasks, is_timer_of}
use Rattle.vx_bus_store.proofs.Images.{filter_mapped}

-- ## Their outcomes

-- what a context hears, if one asked
abbrev heard_as : Settled → Asker → Option Heard
heard_as settled asker = option_map (λ context. record { request = settled.request; at = settled.at; context = context; outcome = settled.outcome }) (context_asking asker)

pub items_lost : (history : List Traced) (place : ℕ) (requests : List Open) → Each IsAskedByContext requests →
    lost_items (contexts history) (next_entry history) place (map row_of requests) ≡ map (item_of history) (outcome_items place (heard (settlements history no_handlers requests)))
items_lost history place [] asked = refl
items_lost history place (request ∷ others) asked =
    let made = contexts history in
    let at = next_entry history in
    let context : ContextId = asked.0.0 in
    let behind = heard (settlements history no_handlers others) in
    ap (λ asker. lost_item made at place request.id (owner_asking asker) ++ lost_items made at (place + 1) (map row_of others)) asked.0.1
    ∙ ap (λ items. handler_item made at place context (kinds.Outcome request.id) ∷ items) (items_lost history (place + 1) others asked.1)
    ∙ sym (ap (λ asker. map (item_of history) (outcome_items place (cons_option (heard_as (settlement history no_handlers request) asker) behind))) asked.0.1)

pub tasks_lost : (history : List Traced) (requests : List Open) → Each IsAskedByContext requests → lost_tasks (map row_of requests) ≡ outcome_tasks (heard (settlements history no_handlers requests))
tasks_lost history [] asked = refl
tasks_lost history (request ∷ others) asked =
    let behind = heard (settlements history no_handlers others) in
    ap (λ asker. lost_task request.id (owner_asking asker) ++ lost_tasks (map row_of others)) asked.0.1
    ∙ ap (λ (all : List Task). tasks.Outcome request.id no_handlers ∷ all) (tasks_lost history others asked.1)
    ∙ sym (ap (λ asker. outcome_tasks (cons_option (heard_as (settlement history no_handlers request) asker) behind)) asked.0.1)

-- ## Their timers

abbrev IsOther : Open → Open → Type 0
IsOther a b = same_open a b ≡ false

none_there : (request : Open) (others : List Open) → Each (IsOther request) others → is_timer_of (map row_of others) (timer_of request) ≡ false
none_there request [] apart = refl
none_there request (other ∷ others) apart =
    ap (λ b. b || is_timer_of (map row_of others) (timer_of request)) (same_open-swap other request ∙ apart.0) ∙ none_there request others apart.1

or_later : (here there : Bool) → there ≡ true → (here || there) ≡ true
or_later true there h = refl
or_later false there h = h

one_there : (p : Open → Bool) (requests : List Open) → Each (λ request. p request ≡ true → is_timer_of (map row_of (filter p requests)) (timer_of request) ≡ true) requests
one_there p [] = tt
one_there p (request ∷ others) = (
  λ passes. ap (λ b. is_timer_of (map row_of (cond b (request ∷ filter p others) (filter p others))) (timer_of request)) passes
      ∙ ap (λ b. b || is_timer_of (map row_of (filter p others)) (timer_of request)) (eq-eqb request.id.0.0 request.id.0.0 refl),
  weaken (λ other. p other ≡ true → is_timer_of (map row_of (filter p others)) (timer_of other) ≡ true) _ others
      (λ other found passes.
      elim (p request) as (λ b. is_timer_of (map row_of (cond b (request ∷ filter p others) (filter p others))) (timer_of other) ≡ true) [
        | true ↦ or_later (same_open request other) _ (found passes)
        | false ↦ found passes
      ])
      (one_there p others),
)

-- a timer is that of one that passes the test, where its request does
timer_there : (p : Open → Bool) (requests : List Open) → Apart same_open requests → Each (λ request. is_timer_of (map row_of (filter p requests)) (timer_of request) ≡ p request) requests
timer_there p requests apart =
    Each-both (λ request. p request ≡ true → is_timer_of (map row_of (filter p requests)) (timer_of request) ≡ true)
    (λ request. p request ≡ false → Each (IsOther request) (filter p requests)) _ requests
    (λ request passing failing.
    elim (p request) as (λ b. p request ≡ b → is_timer_of (map row_of (filter p requests)) (timer_of request) ≡ b) [
      | true ↦ λ passes. passing passes
      | false ↦ λ fails. none_there request (filter p requests) (failing fails)
    ] refl)
    (one_there p requests) (others_apart same_open same_open-swap p requests apart)

pub timers_lost : (p : Open → Bool) (requests : List Open) → Apart same_open requests →
    filter (λ (timer : Timer). not (is_timer_of (map row_of (filter p requests)) timer)) (map timer_of (by_due requests)) ≡ map timer_of (by_due (filter (λ request. not (p request)) requests))
timers_lost p requests apart =
    let Agree : Open → Type 0 = λ request. not (is_timer_of (map row_of (filter p requests)) (timer_of request)) ≡ not (p request) in
    filter_mapped (λ (timer : Timer). not (is_timer_of (map row_of (filter p requests)) timer)) (λ request. not (p request)) timer_of (by_due requests)
    (Each-by_due Agree requests (weaken (λ request. is_timer_of (map row_of (filter p requests)) (timer_of request) ≡ p request) Agree requests (λ request same. ap not same) (timer_there p requests apart)))
    ∙ ap (map timer_of) (sym (by_due-filter (λ request. not (p request)) requests))

-- ## Their ends

abbrev entry_of : Settled → EntryNo
entry_of settled = settled.at

map_or : (a b : Option Settled) → option_map entry_of (option_or a b) ≡ option_or (option_map entry_of a) (option_map entry_of b)
map_or None b = refl
map_or (Some settled) b = refl

found_lost : (history : List Traced) (outcome : Outcome) (id : MessageId) (requests : List Open) →
    option_map entry_of (find (λ (s : Settled). same_message id s.request) (settlements history outcome requests)) ≡ option_map (λ _. next_entry history) (find (is_request id) (map row_of requests))
found_lost history outcome id [] = refl
found_lost history outcome id (request ∷ others) =
    elim (id.0.0 == request.id.0.0) as (λ b. option_map entry_of (cond b (Some (settlement history outcome request)) (find (λ (s : Settled). same_message id s.request) (settlements history outcome others))) ≡ option_map (λ _. next_entry history) (cond b (Some (row_of request)) (find (is_request id) (map row_of others)))) [
      | true ↦ refl
      | false ↦ found_lost history outcome id others
    ]

pub ends_lost : (history : List Traced) (id : MessageId) (before : List Settled) (requests : List Open) →
    option_or (option_map entry_of (find (λ (s : Settled). same_message id s.request) before)) (option_map (λ _. next_entry history) (find (is_request id) (map row_of requests)))
    ≡ option_map entry_of (find (λ (s : Settled). same_message id s.request) (before ++ settlements history no_handlers requests))
ends_lost history id before requests =
    ap (option_or (option_map entry_of (find (λ (s : Settled). same_message id s.request) before))) (sym (found_lost history no_handlers id requests))
    ∙ sym (map_or _ _)
    ∙ sym (ap (option_map entry_of) (find-append (λ (s : Settled). same_message id s.request) before (settlements history no_handlers requests)))
