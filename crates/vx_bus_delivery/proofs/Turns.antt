-- The choices at an address, and the consumer whose turn it is, as the bus keeps them.
use Rattle.std.proofs.Common.{◌≡◌, ℕ, ◌+◌, ◌-◌, ◌%◌, ◌<◌, ◌≤◌, ◌^◌, min, suc, List, [], ◌∷◌, ◌++◌, length, refl, ap, sym, ◌∙◌, arith}
use Rattle.std.specs.Prelude.{Bool, true, false, not, ◌&&◌, ◌==◌, cond, filter, slice_get}
use Rattle.std.specs.List.{count_by}
use Rattle.std.specs.Option.{option_map}
use Rattle.std.specs.Str.{bytes_eq}
use Rattle.std.proofs.lemmas.Bool.Decides.{nat_tests}
use Rattle.std.proofs.lemmas.List.{length_push, length-map, append-nil}
use Rattle.std.proofs.lemmas.List.Elements.{filter-append}
use Rattle.std.proofs.lemmas.List.Sums.{count_by-le-length, length-filter}
use Rattle.std.proofs.lemmas.Option.{slice_get-map}
use Rattle.std.proofs.lemmas.Slice.Eq.{bytes_eq-Decides}
use Rattle.vx_ring.specs.Rings as rings
use Rattle.vx_ring.specs.Rings.{consumers_at, choices_at}
use Rattle.vx_call.specs.declared.call.Call.{Call}
use Rattle.vx_call.specs.declared.call.Call.TheVariants as calls
use Rattle.vx_call.specs.declared.history.Consumer.{Consumer}
use Rattle.vx_call.specs.declared.history.Deed.{Deed}
use Rattle.vx_call.specs.declared.history.Deed.TheVariants as deeds
use Rattle.vx_call.specs.declared.history.Traced.{Traced}
use Rattle.vx_call.specs.History.{lasting, made_by, is_accepted}
use Rattle.vx_call.specs.Consumers.{consumers, handlers}
use Rattle.vx_call.specs.Choices.{choice_kind, choice_by, choice_made, chosen_at, choices, choice, is_empty}
use Rattle.vx_call.specs.Rows.{ids_of}
use Rattle.vx_call.proofs.Lasting.{lasting_more, lasting-length}
use Rattle.vx_bus_delivery.specs.Deliveries.{turn_in}
use Rattle.vx_bus_store.specs.Stores.{BusStore}
use Rattle.vx_bus_store.specs.Stands.{BusStands}
use Rattle.vx_bus_store.proofs.Frames.{none_emptied}

-- ## Whose turn it is

pub turn_is : (bus : BusStore) (history : List Traced) (address : List ℕ) → BusStands bus history → turn_in bus address ≡ option_map (λ (c : Consumer). c.id) (choice history address)
turn_is bus history address stands =
    ap (λ ids. slice_get ids (choices_at address bus.rings % length ids)) (stands.rings address)
    ∙ ap (λ n. slice_get (ids_of (handlers history address)) (n % length (ids_of (handlers history address)))) (stands.choices address)
    ∙ ap (λ m. slice_get (ids_of (handlers history address)) (choices history address % m)) (length-map (handlers history address) (λ (c : Consumer). c.id))
    ∙ slice_get-map (λ (c : Consumer). c.id) (handlers history address) (choices history address % length (handlers history address))

-- ## How many choices there were

one_at_most : (b : Bool) (address : List ℕ) → length (cond b (address ∷ []) []) ≤ 1
one_at_most true address = omega arith
one_at_most false address = omega arith

few_by_frame : (before : List Traced) (is_sent : Bool) (deed : Deed) → length (choice_by before is_sent deed) ≤ 1
few_by_frame before is_sent (deeds.Sends address headers body) = one_at_most _ address
few_by_frame before is_sent (deeds.Requests address headers body at) = one_at_most _ address
few_by_frame before is_sent _ = omega arith

few_choices : (before : List Traced) (call : Call) (deed : Deed) → length (choice_made before call deed) ≤ 1
few_choices before (calls.Send address body options) deed = one_at_most _ address
few_choices before (calls.Request context address body options timeout once) deed = one_at_most _ address
few_choices before (calls.FrameIn conn frame) deed = few_by_frame before _ deed
few_choices before _ deed = omega arith

one_choice : (before : List Traced) (new : Traced) → length (made_by choice_kind before new) ≤ 1
one_choice before new =
    let few = few_choices before new.entry.call new.mark.deed in
    elim (is_accepted new.entry.reply) as (λ b. length (cond b (choice_made before new.entry.call new.mark.deed) []) ≤ 1) [ true ↦ few | false ↦ omega arith ]

pub choices_bound : (history : List Traced) (address : List ℕ) → choices history address ≤ length history
choices_bound history address =
    omega (arith, count_by-le-length (bytes_eq address) (lasting choice_kind history), lasting-length choice_kind one_choice history)

-- a count that stops at the end of its type does not come there
counts_on : (n m : ℕ) → n ≤ m → m < 2 ^ 48 → min (n + 1) (2 ^ 64 - 1) ≡ n + 1
counts_on n m le lt = omega arith

count_by_push : {X : Type 0} (p : X → Bool) (xs : List X) (y : X) → count_by p (xs ++ y ∷ []) ≡ cond (p y) (count_by p xs + 1) (count_by p xs)
count_by_push p xs y =
    sym (length-filter p (xs ++ y ∷ [])) ∙ ap length (filter-append p xs (y ∷ []))
    ∙ elim (p y) as (λ b. length (filter p xs ++ cond b (y ∷ []) []) ≡ cond b (count_by p xs + 1) (count_by p xs)) [
      | true ↦ length_push (filter p xs) y ∙ ap (λ n. n + 1) (length-filter p xs)
      | false ↦ ap length (append-nil (filter p xs)) ∙ length-filter p xs
    ]

-- one more, where there is one
counted_if : (p : List ℕ → Bool) (xs : List (List ℕ)) (address : List ℕ) (b : Bool) → cond (b && p address) (count_by p xs + 1) (count_by p xs) ≡ count_by p (xs ++ cond b (address ∷ []) [])
counted_if p xs address true = sym (count_by_push p xs address)
counted_if p xs address false = ap (count_by p) (sym (append-nil xs))

not_zero : (n : ℕ) → (suc n == 0) ≡ false
not_zero n = grind (arith, nat_tests)

-- the bus has consumers at an address where there are handlers
pub ring_empty : (live : List Consumer) → rings.is_empty (ids_of live) ≡ is_empty live
ring_empty [] = refl
ring_empty (consumer ∷ others) = not_zero (length (ids_of others))

both_tests : (b same here there : Bool) → (same ≡ true → here ≡ there) → (b && (same && not here)) ≡ ((b && not there) && same)
both_tests true true true there one = let e : true ≡ there = one refl in ap (λ x. not x && true) e
both_tests true true false there one = let e : false ≡ there = one refl in ap (λ x. not x && true) e
both_tests true false here true one = refl
both_tests true false here false one = refl
both_tests false same here there one = refl

-- the choices after an entry that chooses at the address, if it does
pub choices_counted : (old new : BusStore) (history : List Traced) (entry : Traced) (address : List ℕ) (b : Bool) → BusStands old history → length history < 2 ^ 48 →
    consumers (history ++ entry ∷ []) ≡ consumers history → made_by choice_kind history entry ≡ chosen_at history b address →
    ((a : List ℕ) → choices_at a new.rings ≡ cond (b && (bytes_eq a address && not (rings.is_empty (consumers_at a old.rings)))) (min (choices_at a old.rings + 1) (2 ^ 64 - 1)) (choices_at a old.rings)) →
    (a : List ℕ) → choices_at a new.rings ≡ choices (history ++ entry ∷ []) a
choices_counted old new history entry address b stands small same made is_new a =
    let all = lasting choice_kind history in
    let known : rings.is_empty (consumers_at a old.rings) ≡ is_empty (handlers history a) = ap rings.is_empty (stands.rings a) ∙ ring_empty (handlers history a) in
    is_new a
    ∙ ap (λ n. cond (b && (bytes_eq a address && not (rings.is_empty (consumers_at a old.rings)))) (min (n + 1) (2 ^ 64 - 1)) n) (stands.choices a)
    ∙ ap (λ n. cond (b && (bytes_eq a address && not (rings.is_empty (consumers_at a old.rings)))) n (choices history a)) (counts_on (choices history a) (length history) (choices_bound history a) small)
    ∙ ap (λ e. cond (b && (bytes_eq a address && not e)) (choices history a + 1) (choices history a)) known
    ∙ ap (λ t. cond t (choices history a + 1) (choices history a))
    (both_tests b (bytes_eq a address) (is_empty (handlers history a)) (is_empty (handlers history address)) (λ h. ap (λ x. is_empty (handlers history x)) ((bytes_eq-Decides a address).0 h)))
    ∙ counted_if (bytes_eq a) all address (b && not (is_empty (handlers history address)))
    ∙ ap (λ xs. count_by (bytes_eq a) (all ++ xs)) (sym made)
    ∙ ap (count_by (bytes_eq a)) (sym (lasting_more choice_kind history entry (none_emptied history entry same)))
