-- The consumers and the turns at each address, once contexts have closed.
use Rattle.std.proofs.Common.{◌≡◌, ℕ, List, [], ◌∷◌, ◌++◌, refl, ap, sym, ◌∙◌, subst}
use Rattle.std.specs.Prelude.{Bool, true, false, not, cond, ◌&&◌, ◌||◌, map, filter, find, Option, None, Some}
use Rattle.std.specs.List.{list_any}
use Rattle.std.specs.Str.{bytes_eq}
use Rattle.std.proofs.lemmas.Slice.Eq.{bytes_eq-Decides}
use Rattle.vx_data.specs.declared.ids.ConsumerId.{ConsumerId}
use Rattle.vx_data.specs.Ids.{same_consumer}
use Rattle.vx_ring.specs.Rings as ring
use Rattle.vx_consumer.specs.Mailboxes.{Mailbox, numbers_of}
use Rattle.vx_request.specs.declared.leaver.Leaver.{Leaver}
use Rattle.vx_request.specs.Leaving.{has_owner}
use Rattle.vx_call.specs.declared.history.Consumer.{Consumer}
use Rattle.vx_call.specs.declared.history.Traced.{Traced}
use Rattle.vx_call.specs.Consumers.{consumers, handlers, is_at}
use Rattle.vx_call.specs.Choices.{is_empty, choices}
use Rattle.vx_call.specs.Mailboxes.{mailbox}
use Rattle.vx_call.specs.Rows.{ids_of}
use Rattle.vx_call.proofs.Each.{Each, every, Each-filter, Each-both, weaken, passing, not_true}
use Rattle.vx_call.proofs.Apart.{Apart}
use Rattle.vx_call.proofs.Filters.{filter_swap}
use Rattle.vx_call.proofs.Once.{any_none}
use Rattle.vx_call.proofs.Consumers.{same_consumer-self, same_consumer-swap, same_by_name, consumers_apart}
use Rattle.vx_call.proofs.ClosedWith.{owner_gone, ClosesContexts}
use Rattle.vx_bus_store.specs.declared.bus.Handler.{Handler}
use Rattle.vx_bus_store.specs.Stores.{handler_of}
use Rattle.vx_bus_store.specs.Leaving.{leaves, leaves_at}
use Rattle.vx_bus_store.proofs.Images.{filter_mapped, map_each}
use Rattle.vx_bus_closing.proofs.ClosedRequests.{LeavesWith, owner_same}

pub any_map : {X Y : Type 0} (p : Y → Bool) (f : X → Y) (q : X → Bool) → ((x : X) → p (f x) ≡ q x) → (xs : List X) → list_any p (map f xs) ≡ list_any q xs
any_map p f q same [] = refl
any_map p f q same (x ∷ xs) = ap (λ b. b || list_any p (map f xs)) (same x) ∙ ap (λ b. q x || b) (any_map p f q same xs)

or_false : (b : Bool) → (b || false) ≡ b
or_false true = refl
or_false false = refl

and_true : (b : Bool) → (b && true) ≡ b
and_true true = refl
and_true false = refl

and_false : (b : Bool) → (b && false) ≡ false
and_false true = refl
and_false false = refl

-- of consumers with different names, the one of a name is the consumer itself
alone : (g : Consumer → Bool) (all : List Consumer) → Apart same_by_name all → Each (λ (c : Consumer). list_any (λ (d : Consumer). g d && same_consumer d.id c.id) all ≡ g c) all
alone g [] apart = tt
alone g (first ∷ others) apart = (
  ap (λ b. (g first && b) || list_any (λ (d : Consumer). g d && same_consumer d.id first.id) others) (same_consumer-self first.id)
      ∙ ap (λ b. b || list_any (λ (d : Consumer). g d && same_consumer d.id first.id) others) (and_true (g first))
      ∙ ap (λ b. g first || b)
      (any_none (λ (d : Consumer). g d && same_consumer d.id first.id) others
      (weaken (λ (d : Consumer). same_by_name first d ≡ false) _ others (λ d differs. ap (λ b. g d && b) (same_consumer-swap d.id first.id ∙ differs) ∙ and_false (g d)) apart.0))
      ∙ or_false (g first),
  Each-both (λ (c : Consumer). same_by_name first c ≡ false) (λ (c : Consumer). list_any (λ (d : Consumer). g d && same_consumer d.id c.id) others ≡ g c) _ others
      (λ c differs rest.
      ap (λ b. (g first && b) || list_any (λ (d : Consumer). g d && same_consumer d.id c.id) others) differs
      ∙ ap (λ b. b || list_any (λ (d : Consumer). g d && same_consumer d.id c.id) others) (and_false (g first))
      ∙ rest)
      apart.0 (alone g others apart.1),
)

and_assoc : (a b c : Bool) → (a && (b && c)) ≡ ((a && b) && c)
and_assoc true b c = refl
and_assoc false b c = refl

module _ (history : List Traced) (new : Traced) (leaver : Leaver) (leaving : LeavesWith history new leaver) (closes : ClosesContexts history new) where
  gone : Consumer → Bool
  gone consumer = owner_gone history new consumer.owner

  -- which of those at an address leave
  leave_at : (a : List ℕ) → Each (λ (c : Consumer). not (leaves_at leaver (map (handler_of history) (consumers history)) a c.id) ≡ not (owner_gone history new c.owner)) (handlers history a)
  leave_at a =
      let g = λ (d : Consumer). has_owner leaver d.owner && bytes_eq a d.address in
      Each-filter (λ (c : Consumer). list_any (λ (d : Consumer). g d && same_consumer d.id c.id) (consumers history) ≡ g c) _ (is_at a) (consumers history)
      (λ c here known.
      let there : bytes_eq a c.address ≡ true = (bytes_eq-Decides a c.address).1 (sym ((bytes_eq-Decides c.address a).0 here)) in
      ap not
      (any_map (λ (h : Handler). leaves leaver h && (bytes_eq a h.consumer.address && same_consumer h.consumer.id c.id)) (handler_of history) (λ (d : Consumer). g d && same_consumer d.id c.id)
      (λ d. and_assoc (has_owner leaver d.owner) (bytes_eq a d.address) (same_consumer d.id c.id)) (consumers history)
      ∙ known ∙ ap (λ b. has_owner leaver c.owner && b) there ∙ and_true (has_owner leaver c.owner) ∙ owner_same history new leaver leaving c.owner))
      (alone g (consumers history) (consumers_apart history))

  pub in_turn : (a : List ℕ) → filter (λ (id : ConsumerId). not (leaves_at leaver (map (handler_of history) (consumers history)) a id)) (ids_of (handlers history a)) ≡ ids_of (handlers (history ++ new ∷ []) a)
  in_turn a =
      filter_mapped (λ (id : ConsumerId). not (leaves_at leaver (map (handler_of history) (consumers history)) a id)) (λ (c : Consumer). not (owner_gone history new c.owner)) (λ (c : Consumer). c.id) (handlers history a) (leave_at a)
      ∙ ap ids_of (sym (ap (filter (is_at a)) closes.consumers ∙ filter_swap (is_at a) (λ (c : Consumer). not (owner_gone history new c.owner)) (consumers history)))

  pub consumers_stay : filter (λ (h : Handler). not (leaves leaver h)) (map (handler_of history) (consumers history)) ≡ map (handler_of (history ++ new ∷ [])) (consumers (history ++ new ∷ []))
  consumers_stay =
      let after = handler_of (history ++ new ∷ []) in
      let stays = λ (c : Consumer). not (owner_gone history new c.owner) in
      let others = filter stays (consumers history) in
      filter_mapped (λ (h : Handler). not (leaves leaver h)) stays (handler_of history) (consumers history) (every _ (λ c. ap not (owner_same history new leaver leaving c.owner)) (consumers history))
      ∙ sym (map_each after (handler_of history) others
      (weaken (λ c. stays c ≡ true) (λ c. after c ≡ handler_of history c) others
      (λ c kept. ap (λ (m : Mailbox). (let h : Handler = record { consumer = c; flow = numbers_of m } in h)) (closes.mailboxes c (not_true (owner_gone history new c.owner) kept)))
      (passing stays (consumers history))))
      ∙ ap (map after) (sym closes.consumers)
