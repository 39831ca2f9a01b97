-- Places for what comes as starts and stops end.
use Rattle.std.proofs.Common.{◌≡◌, ℕ, ◌+◌, ◌≤◌, List, [], ◌∷◌, ◌++◌, length, length-append, refl, ap, sym, subst, arith}
use Rattle.std.proofs.Math.Bool.{Bool-set}
use Rattle.std.proofs.Math.Logic.{∥∥₁_elim}
use Rattle.std.proofs.lemmas.Bool.Decides.{nat_tests}
use Rattle.std.proofs.lemmas.List.Sums.{length-filter, count_by-le-length}
use Rattle.std.specs.Prelude.{Bool, true, not, nat_le, map, filter, Some}
use Rattle.vx_data.specs.declared.ids.ContextId.{ContextId}
use Rattle.vx_data.specs.declared.ids.EntryNo.{EntryNo}
use Rattle.vx_data.specs.Ids.{same_context}
use Rattle.vx_message.specs.declared.Context.{Context}
use Rattle.vx_message.specs.declared.DoneResult.{DoneResult}
use Rattle.vx_message.specs.declared.Item.{Item}
use Rattle.vx_message.specs.declared.ItemKind.TheVariants as kinds
use Rattle.vx_timer.specs.declared.timers.Timer.{Timer}
use Rattle.vx_tree.specs.Nodes.{without}
use Rattle.vx_request.specs.declared.leaver.Leaver.{Leaver}
use Rattle.vx_request.specs.declared.requests.OpenRequest.{OpenRequest}
use Rattle.vx_request.specs.Leaving.{has_context, fails_with}
use Rattle.vx_call.specs.declared.history.Traced.{Traced}
use Rattle.vx_call.specs.Owners.{context_owning}
use Rattle.vx_call.specs.Requests.{unsettled}
use Rattle.vx_call.proofs.Each.{Each, Each-filter, Each-map, weaken}
use Rattle.vx_call.proofs.Stored.{IsAskedByContext, unsettled_of_contexts}
use Rattle.vx_context.specs.Stores.{ContextStore}
use Rattle.vx_bus_store.specs.Stores.{BusStore, home_item, owner_asking, row_of}
use Rattle.vx_bus_store.specs.Stands.{StoresStand, HavePlaces}
use Rattle.vx_bus_delivery.specs.Lost.{lost_rows, lost_items}
use Rattle.vx_bus_closing.specs.Closing.{Leaves}
use Rattle.vx_life.specs.Stores.{LifeStore, closed_in}
use Rattle.vx_life.specs.Steps.{Fails}
use Rattle.vx_core_life.specs.Moving.{promised}
use Rattle.vx_core_life.specs.Stands.{AreAt}

-- ## Outcomes

-- a request that a context asked
abbrev IsOfContext : OpenRequest → Type 0
IsOfContext row = (context : ContextId) × (context_owning row.asker ≡ Some context)

rows_of_contexts : (contexts : ContextStore) (timers : List Timer) (bus : BusStore) (leaver : Leaver) (history : List Traced) → StoresStand contexts timers bus history → Each IsOfContext (lost_rows leaver bus)
rows_of_contexts contexts timers bus leaver history stands =
    let all = unsettled history in
    let named : Each IsOfContext (map row_of all) =
    Each-map IsOfContext row_of all
    (weaken IsAskedByContext (λ request. IsOfContext (row_of request)) all (λ request asked. (asked.0, ap (λ asker. context_owning (owner_asking asker)) asked.1)) (unsettled_of_contexts history stands.stored)) in
    let P : List OpenRequest → Type 0 = Each IsOfContext in
    Each-filter IsOfContext IsOfContext (fails_with leaver bus.given) bus.requests.waiting (λ row fails of. of) (subst P (sym stands.bus.opened) named)

-- as many outcomes wait as requests were lost
lost_length : (made : List Context) (at : EntryNo) (place : ℕ) (rows : List OpenRequest) → Each IsOfContext rows → length (lost_items made at place rows) ≡ length rows
lost_length made at place [] named = refl
lost_length made at place (row ∷ rows) named =
    let rest = lost_length made at (place + 1) rows named.1 in
    let here = ap (λ asker. length (home_item made at place asker (kinds.Outcome row.id) ++ lost_items made at (place + 1) rows)) named.0.1 in
    omega (arith, rest, here)

lost_fit : (old new_contexts : ContextStore) (timers new_timers : List Timer) (bus new_bus : BusStore) (at : EntryNo) (leaver : Leaver) (history : List Traced) → StoresStand old timers bus history → Leaves old new_contexts timers new_timers bus new_bus at leaver →
    length (lost_rows leaver bus) ≤ length new_contexts.waiting
lost_fit old new_contexts timers new_timers bus new_bus at leaver history stands leaves =
    let stay = filter (λ (item : Item). not (has_context leaver item.context)) old.waiting in
    let lost = lost_items old.made at 0 (lost_rows leaver bus) in
    let waits = ap (λ (s : ContextStore). length s.waiting) leaves.contexts in
    let both = length-append stay lost in
    let counted = lost_length old.made at 0 (lost_rows leaver bus) (rows_of_contexts old timers bus leaver history stands) in
    omega (arith, waits, both, counted)

as_test : (m n : ℕ) → m ≤ n → nat_le m n ≡ true
as_test m n h = grind (arith, nat_tests)

from_test : (m n : ℕ) → nat_le m n ≡ true → m ≤ n
from_test m n h = grind (arith, nat_tests)

-- what comes besides has a place behind them
pub count_fits : (life : LifeStore) (old new_contexts : ContextStore) (timers new_timers : List Timer) (bus new_bus : BusStore) (at : EntryNo) (leaver : Leaver) (count : ℕ) → AreAt at life old timers bus → Leaves old new_contexts timers new_timers bus new_bus at leaver →
    count ≡ length (lost_rows leaver bus) → count ≤ length new_contexts.waiting
count_fits life old new_contexts timers new_timers bus new_bus at leaver count one leaves counted =
    let n = length (lost_rows leaver bus) in
    let m = length new_contexts.waiting in
    let fits : n ≤ m = from_test n m (∥∥₁_elim one (Bool-set (nat_le n m) true) (λ p. as_test n m (lost_fit old new_contexts timers new_timers bus new_bus at leaver p.0 p.1.1.1.stores leaves))) in
    omega (arith, fits, counted)

-- ## Places that are owed

fewer : (context : ContextId) (ids : List ContextId) → length (without context ids) ≤ length ids
fewer context ids =
    let p : ContextId → Bool = λ other. not (same_context context other) in
    omega (arith, length-filter p ids, count_by-le-length p ids)

pub failed_owed : (context : ContextId) (result : DoneResult) (at : EntryNo) (old life : LifeStore) → Fails context result at old life → promised life ≤ promised old
failed_owed context result at old life fails =
    let less = fewer context old.tree.to_stop in
    let same = ap promised fails.rest in
    omega (arith, less, same)

pub stopped_owed : (context : ContextId) (old life : LifeStore) → life ≡ record old { tree = closed_in context old.tree; unstopped = without context old.unstopped } → promised life ≤ promised old
stopped_owed context old life stopped =
    let less = fewer context old.tree.to_stop in
    let same = ap promised stopped in
    omega (arith, less, same)

-- ## Room

pub places_grow : (old new_contexts : ContextStore) (bus : BusStore) → HavePlaces old bus → old.room ≤ new_contexts.room → HavePlaces new_contexts bus
places_grow old new_contexts bus places more =
    let items = places.items in
    record { items = omega (arith, items, more); tasks = places.tasks }
