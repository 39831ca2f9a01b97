-- The requests that end as contexts close.
use Rattle.std.proofs.Common.{◌≡◌, ℕ, List, [], ◌∷◌, ◌++◌, refl, ap, sym, ◌∙◌}
use Rattle.std.specs.Prelude.{Bool, true, false, not, cond, ◌&&◌, ◌||◌, ◌==◌, map, filter, find, is_some, Option, None, Some}
use Rattle.std.specs.List.{list_any}
use Rattle.std.specs.Option.{option_map, option_or}
use Rattle.vx_data.specs.declared.ids.ContextId.{ContextId}
use Rattle.vx_data.specs.declared.ids.EntryNo.{EntryNo}
use Rattle.vx_data.specs.declared.ids.MessageId.{MessageId}
use Rattle.vx_data.specs.Ids.{same_message}
use Rattle.vx_message.specs.declared.Given.{Given}
use Rattle.vx_message.specs.declared.Owner.{Owner}
use Rattle.vx_message.specs.declared.Owner.TheVariants as owners
use Rattle.vx_message.specs.declared.Outcome.{Outcome}
use Rattle.vx_request.specs.declared.leaver.Leaver.{Leaver}
use Rattle.vx_request.specs.declared.requests.OpenRequest.{OpenRequest}
use Rattle.vx_request.specs.Leaving.{has_context, has_owner, has_home, is_left, ends_with, fails_with}
use Rattle.vx_request.specs.Stores.{is_request, given_at, ended_at}
use Rattle.vx_call.specs.declared.history.Traced.{Traced}
use Rattle.vx_call.specs.History.{made_by}
use Rattle.vx_call.specs.Built.{AreStored}
use Rattle.vx_call.specs.Names.{next_entry}
use Rattle.vx_call.specs.Given.{given, is_given}
use Rattle.vx_call.specs.Askers.{Asker}
use Rattle.vx_call.specs.Askers as askers
use Rattle.vx_call.specs.Requests.{Open, unsettled, closes_asker, is_lost_at}
use Rattle.vx_call.specs.Settled.{Settled, Dropped, settlement, settlements, settled_kind, drop_all, dropped_kind, settled_at, no_handlers}
use Rattle.vx_call.proofs.Each.{every}
use Rattle.vx_call.proofs.Settlings.{is_settled_as}
use Rattle.vx_call.proofs.Dropped.{is_dropped_as, ended_among, dropped_among, settled_at_more}
use Rattle.vx_call.proofs.ClosedWith as closed
use Rattle.vx_call.proofs.ClosedWith.{is_gone, owner_gone, asker_gone, failing, dropping, ClosesContexts}
use Rattle.vx_bus_store.specs.Stores.{BusStore, owner_asking, row_of}
use Rattle.vx_bus_store.proofs.Images.{filter_mapped}
use Rattle.vx_bus_delivery.specs.Lost.{ended_rows, lost_rows}

-- what leaves are contexts: the same that the entry closes
pub record LeavesWith (history : List Traced) (new : Traced) (leaver : Leaver) : Type 0 where
  pub same : (context : ContextId) → has_context leaver context ≡ is_gone history new context
  pub ends : (given : List (ℕ × Given)) (row : OpenRequest) → ends_with leaver given row ≡ (has_owner leaver row.asker || is_left leaver given row)
  pub fails : (given : List (ℕ × Given)) (row : OpenRequest) → fails_with leaver given row ≡ (not (has_owner leaver row.asker) && is_left leaver given row)

pub owner_same : (history : List Traced) (new : Traced) (leaver : Leaver) → LeavesWith history new leaver → (owner : Owner) → has_owner leaver owner ≡ owner_gone history new owner
owner_same history new leaver leaving (owners.Context context) = leaving.same context
owner_same history new leaver leaving (owners.Conn conn) = refl
owner_same history new leaver leaving (owners.Pass pass) = refl

alone : (a l : Bool) → (not a && l) ≡ (not a && (a || l))
alone true l = refl
alone false l = refl

-- those that pass two tests
filter_both : {X : Type 0} (p q : X → Bool) (xs : List X) → filter p (filter q xs) ≡ filter (λ x. p x && q x) xs
filter_both p q [] = refl
filter_both {X} p q (x ∷ xs) =
    let rest = filter_both p q xs in
    elim (q x) as (λ c. filter p (cond c (x ∷ filter q xs) (filter q xs)) ≡ cond (p x && c) (x ∷ filter (λ y. p y && q y) xs) (filter (λ y. p y && q y) xs)) [
      | true ↦ elim (p x) as (λ b. cond b (x ∷ filter p (filter q xs)) (filter p (filter q xs)) ≡ cond (b && true) (x ∷ filter (λ y. p y && q y) xs) (filter (λ y. p y && q y) xs)) [ true ↦ ap (λ ys. x ∷ ys) rest | false ↦ rest ]
      | false ↦ rest ∙ elim (p x) as (λ b. filter (λ y. p y && q y) xs ≡ cond (b && false) (x ∷ filter (λ y. p y && q y) xs) (filter (λ y. p y && q y) xs)) [ true ↦ refl | false ↦ refl ]
    ]

either_first : (a b : Bool) → a ≡ true → (a || b) ≡ true
either_first a b h = ap (λ c. c || b) h

or_swap : (a b c : Bool) → (a || (b || c)) ≡ (b || (a || c))
or_swap true true c = refl
or_swap true false c = refl
or_swap false b c = refl

or_assoc : (a b c : Bool) → ((a || b) || c) ≡ (a || (b || c))
or_assoc true b c = refl
or_assoc false b c = refl

-- one among those that end is among those that fail, or among those that are dropped
parts : {X : Type 0} (p a e : X → Bool) → ((x : X) → a x ≡ true → e x ≡ true) → (xs : List X) → (list_any p (filter (λ x. not (a x)) (filter e xs)) || list_any p (filter a xs)) ≡ list_any p (filter e xs)
parts p a e wider [] = refl
parts {X} p a e wider (x ∷ xs) =
    let rest = parts p a e wider xs in
    let fails = filter (λ y. not (a y)) (filter e xs) in
    let drops = filter a xs in
    elim (a x) as (λ b. a x ≡ b → (b ≡ true → e x ≡ true) →
    (list_any p (filter (λ y. not (a y)) (cond (e x) (x ∷ filter e xs) (filter e xs))) || list_any p (cond b (x ∷ drops) drops)) ≡ list_any p (cond (e x) (x ∷ filter e xs) (filter e xs))) [
      | true ↦ λ gone w.
          ap (λ c. list_any p (filter (λ y. not (a y)) (cond c (x ∷ filter e xs) (filter e xs))) || (p x || list_any p drops)) (w refl)
          ∙ ap (λ c. list_any p (cond (not c) (x ∷ fails) fails) || (p x || list_any p drops)) gone
          ∙ or_swap (list_any p fails) (p x) (list_any p drops)
          ∙ ap (λ c. p x || c) rest
          ∙ sym (ap (λ c. list_any p (cond c (x ∷ filter e xs) (filter e xs))) (w refl))
      | false ↦ λ stays w.
          elim (e x) as (λ c. (list_any p (filter (λ y. not (a y)) (cond c (x ∷ filter e xs) (filter e xs))) || list_any p drops) ≡ list_any p (cond c (x ∷ filter e xs) (filter e xs))) [
            | true ↦ ap (λ c. list_any p (cond (not c) (x ∷ fails) fails) || list_any p drops) stays ∙ or_assoc (p x) (list_any p fails) (list_any p drops) ∙ ap (λ c. p x || c) rest
            | false ↦ rest
          ]
    ] refl (wider x)

-- the bus has the requests of the history, and the messages that were given out
pub record HasRequests (store : BusStore) (history : List Traced) : Type 0 where
  pub opened : store.requests.waiting ≡ map row_of (unsettled history)
  pub given : (m : MessageId) → given_at m store.given ≡ given history m

module _ (history : List Traced) (new : Traced) (leaver : Leaver) (leaving : LeavesWith history new leaver) (store : BusStore) (has : HasRequests store history) where
  asker_same : (asker : Asker) → has_owner leaver (owner_asking asker) ≡ closes_asker history new.entry.pass new.entry.call asker
  asker_same (askers.context context) = leaving.same context
  asker_same (askers.connection conn at) = refl

  home_same : (request : Open) (home : Option ContextId) → (has_home leaver home && not (is_some (given_at request.id store.given))) ≡ is_lost_at history new.entry.pass new.entry.call request home
  home_same request None = refl
  home_same request (Some home) = ap (λ b. b && not (is_some (given_at request.id store.given))) (leaving.same home) ∙ ap (λ g. is_gone history new home && not (is_some g)) (has.given request.id)

  pub row_ends : (request : Open) → ends_with leaver store.given (row_of request) ≡ closed.ends_with history new request
  row_ends request =
      leaving.ends store.given (row_of request)
      ∙ ap (λ b. b || is_left leaver store.given (row_of request)) (asker_same request.asker)
      ∙ ap (λ b. asker_gone history new request || b) (home_same request request.home)

  row_fails : (request : Open) → fails_with leaver store.given (row_of request) ≡ (not (asker_gone history new request) && closed.ends_with history new request)
  row_fails request =
      leaving.fails store.given (row_of request)
      ∙ ap (λ b. not b && is_left leaver store.given (row_of request)) (asker_same request.asker)
      ∙ ap (λ b. not (asker_gone history new request) && b) (home_same request request.home)
      ∙ alone (asker_gone history new request) (is_lost_at history new.entry.pass new.entry.call request request.home)

  pub rows_ended : ended_rows leaver store ≡ map row_of (filter (closed.ends_with history new) (unsettled history))
  rows_ended = ap (filter (ends_with leaver store.given)) has.opened ∙ filter_mapped (ends_with leaver store.given) (closed.ends_with history new) row_of (unsettled history) (every _ row_ends (unsettled history))

  pub rows_left : filter (λ row. not (ends_with leaver store.given row)) store.requests.waiting ≡ map row_of (filter (λ request. not (closed.ends_with history new request)) (unsettled history))
  rows_left =
      ap (filter (λ row. not (ends_with leaver store.given row))) has.opened
      ∙ filter_mapped (λ row. not (ends_with leaver store.given row)) (λ request. not (closed.ends_with history new request)) row_of (unsettled history) (every _ (λ request. ap not (row_ends request)) (unsettled history))

  pub rows_lost : lost_rows leaver store ≡ map row_of (failing history new)
  rows_lost =
      ap (filter (fails_with leaver store.given)) has.opened
      ∙ filter_mapped (fails_with leaver store.given) (λ request. not (asker_gone history new request) && closed.ends_with history new request) row_of (unsettled history) (every _ row_fails (unsettled history))
      ∙ ap (map row_of) (sym (filter_both (λ request. not (asker_gone history new request)) (closed.ends_with history new) (unsettled history)))

-- ## The entries at which they ended

abbrev is_it : MessageId → Open → Bool
is_it id request = same_message id request.id

abbrev now_if : List Traced → Bool → Option EntryNo
now_if history found = cond found (Some (next_entry history)) None

settled_among : (history : List Traced) (outcome : Outcome) (id : MessageId) (requests : List Open) → ended_among id (settlements history outcome requests) ≡ now_if history (list_any (is_it id) requests)
settled_among history outcome id [] = refl
settled_among history outcome id (request ∷ others) =
    elim (same_message id request.id) as (λ b. option_map (λ (s : Settled). s.at) (cond b (Some (settlement history outcome request)) (find (is_settled_as id) (settlements history outcome others))) ≡ now_if history (b || list_any (is_it id) others)) [
      | true ↦ refl
      | false ↦ settled_among history outcome id others
    ]

abbrev one_dropped : List Traced → Open → Dropped
one_dropped history request = record { request = request.id; at = next_entry history }

dropped_of : (history : List Traced) (id : MessageId) (requests : List Open) → dropped_among id (drop_all history requests) ≡ now_if history (list_any (is_it id) requests)
dropped_of history id [] = refl
dropped_of history id (request ∷ others) =
    elim (same_message id request.id) as (λ b. option_map (λ (d : Dropped). d.at) (cond b (Some (one_dropped history request)) (find (is_dropped_as id) (drop_all history others))) ≡ now_if history (b || list_any (is_it id) others)) [
      | true ↦ refl
      | false ↦ dropped_of history id others
    ]

found_among : (history : List Traced) (id : MessageId) (requests : List Open) → option_map (λ _. next_entry history) (find (is_request id) (map row_of requests)) ≡ now_if history (list_any (is_it id) requests)
found_among history id [] = refl
found_among history id (request ∷ others) =
    elim (same_message id request.id) as (λ b. option_map (λ _. next_entry history) (cond b (Some (row_of request)) (find (is_request id) (map row_of others))) ≡ now_if history (b || list_any (is_it id) others)) [
      | true ↦ refl
      | false ↦ found_among history id others
    ]

either_now : (history : List Traced) (a b : Bool) → option_or (now_if history a) (now_if history b) ≡ now_if history (a || b)
either_now history true b = refl
either_now history false b = refl

-- an entry of ending stays once it is there
pub ended_then : (history : List Traced) (new : Traced) (id : MessageId) (at : EntryNo) → AreStored history → at ≡ next_entry history → ClosesContexts history new →
    option_or (settled_at history id) (option_map (λ _. at) (find (is_request id) (map row_of (filter (closed.ends_with history new) (unsettled history))))) ≡ settled_at (history ++ new ∷ []) id
ended_then history new id at stored is_next closes =
    let ends = closed.ends_with history new in
    let all = unsettled history in
    ap (λ e. option_or (settled_at history id) (option_map (λ _. e) (find (is_request id) (map row_of (filter ends all))))) is_next
    ∙ ap (option_or (settled_at history id))
    (found_among history id (filter ends all)
    ∙ ap (now_if history) (sym (parts (is_it id) (asker_gone history new) ends (λ request gone. either_first (asker_gone history new request) _ gone) all))
    ∙ sym (either_now history (list_any (is_it id) (failing history new)) (list_any (is_it id) (dropping history new)))
    ∙ ap (λ o. option_or o (now_if history (list_any (is_it id) (dropping history new)))) (sym (settled_among history no_handlers id (failing history new)))
    ∙ ap (option_or (ended_among id (settlements history no_handlers (failing history new)))) (sym (dropped_of history id (dropping history new))))
    ∙ sym (settled_at_more history new id stored
    ∙ ap (λ made. option_or (settled_at history id) (option_or (ended_among id made) (dropped_among id (made_by dropped_kind history new)))) closes.settles
    ∙ ap (λ made. option_or (settled_at history id) (option_or (ended_among id (settlements history no_handlers (failing history new))) (dropped_among id made))) closes.drops)
