-- What a look finds.
use Rattle.vx_core_tasks.proofs.Named.{waiting_there}
use Rattle.std.proofs.Common.{◌≡◌, ℕ, min, nat_le, Bool, true, false, cond, List, [], ◌∷◌, map, None, Some, refl, ap, sym, ◌∙◌, rules, tests}
use Rattle.std.specs.Prelude.{position, find, is_some, Option}
use Rattle.vx_data.specs.declared.ids.EntryNo.{EntryNo}
use Rattle.vx_message.specs.declared.Lane.{Lane}
use Rattle.vx_timer.specs.Order.{first_due}
use Rattle.vx_call.specs.declared.history.Traced.{Traced}
use Rattle.vx_call.specs.Built.{AreStored}
use Rattle.vx_call.specs.Requests.{Open, put_by_due, by_due}
use Rattle.vx_call.specs.Closings.{hub_closed_at}
use Rattle.vx_call.specs.Items.{Waiting, waiting}
use Rattle.vx_context.specs.Stores.{ContextStore, is_ready}
use Rattle.vx_context.specs.Stands.{ContextsStand}
use Rattle.vx_bus_store.specs.Stores.{timer_of}
use Rattle.vx_hub.specs.Stores.{HubStore}
use Rattle.vx_hub.specs.Stands.{StandsFor}
use Rattle.vx_hub.specs.Looks.{look_by, look_at, or_less, least_due}
use Rattle.vx_hub.specs.declared.look.Look.{Look}
use Rattle.vx_hub.specs.declared.look.Look.TheVariants as looks
use Rattle.vx_core_tasks.specs.Named.{NameContexts}
use Rattle.vx_bus_store.proofs.Positions.{find_from_position, find_from_no_position}
use Rattle.vx_core_tasks.proofs.RowTake.{may_take, place_there}

-- what a look finds, by whether there is a task
abbrev pub look_if : Option EntryNo → Bool → Look
look_if (Some at) some = looks.Stopped
look_if None true = looks.Ready
look_if None false = looks.Idle

found_at : {X : Type 0} (p : X → Bool) (xs : List X) (i : ℕ) → position p xs ≡ Some i → is_some (find p xs) ≡ true
found_at p [] i h = cc
found_at p (x ∷ xs) i h = ap is_some (find_from_position p (x ∷ xs) i x h)

-- what a look finds by the store's place is what it finds by the history's task
by_place : (p : Waiting → Bool) (items : List Waiting) (closed : Option EntryNo) (place : Option ℕ) → position p items ≡ place → look_by closed (find p items) ≡ look_if closed (is_some place)
by_place p items (Some at) place is = refl
by_place p items None (Some i) is = ready_as (find p items) (found_at p items i is)
  where
    ready_as : (o : Option Waiting) → is_some o ≡ true → look_by None o ≡ looks.Ready
    ready_as (Some item) some = refl
    ready_as None some = absurd cc
by_place p items None None is = ap (look_by None) (find_from_no_position p items is)

pub looked : (store : ContextStore) (history : List Traced) (lane : Lane) (place : Option ℕ) → ContextsStand store history → AreStored history → NameContexts history → position (is_ready store.pools store.held lane) store.waiting ≡ place →
    look_at history lane ≡ look_if (hub_closed_at history) (is_some place)
looked store history lane place stands stored named is =
    by_place (may_take history lane) (waiting history) (hub_closed_at history) place (sym (place_there store history lane stands (waiting_there history stored named)) ∙ is)

-- what a look at the history finds, by what the hub's stores say
pub seen : (hub : HubStore) (history : List Traced) (lane : Lane) (closed : Option EntryNo) (place : Option ℕ) → StandsFor hub history → closed ≡ hub.life.closed →
    place ≡ position (is_ready hub.contexts.pools hub.contexts.held lane) hub.contexts.waiting → look_at history lane ≡ look_if closed (is_some place)
seen hub history lane closed place stands is_closed is_place =
    let all = stands.parts.parts.all in
    looked hub.contexts history lane place all.stores.contexts all.stores.stored stands.parts.parts.named (sym is_place)
    ∙ ap (λ o. look_if o (is_some place)) (sym (is_closed ∙ all.lives.parts.closed))

-- ## The first to be due

put_first : (request other : Open) (others : List Open) (b : Bool) → nat_le request.due other.due ≡ b →
    first_due (map timer_of (cond b (request ∷ other ∷ others) (other ∷ put_by_due request others))) ≡ Some (min request.due other.due)
put_first request other others true h = ap Some (search (rules, tests))
put_first request other others false h = ap Some (search (rules, tests))

first_put : (request : Open) (others : List Open) → first_due (map timer_of (put_by_due request others)) ≡ Some (or_less request.due (first_due (map timer_of others)))
first_put request [] = refl
first_put request (other ∷ others) = put_first request other others (nat_le request.due other.due) refl

pub first_is_least : (requests : List Open) → first_due (map timer_of (by_due requests)) ≡ least_due requests
first_is_least [] = refl
first_is_least (request ∷ others) = first_put request (by_due others) ∙ ap (λ o. Some (or_less request.due o)) (first_is_least others)
