-- The handlers and choices at each address, once a consumer has ended.
use Rattle.std.proofs.Common.{◌≡◌, ℕ, List, [], ◌∷◌, ◌++◌, refl, ap, sym, ◌∙◌, append-nil, arith}
use Rattle.std.specs.Prelude.{Bool, true, false, not, cond, ◌&&◌, ◌==◌, filter, find, is_none, Option, None, Some}
use Rattle.std.specs.List.{count_by}
use Rattle.std.specs.Option.{option_or}
use Rattle.std.specs.Str.{bytes_eq}
use Rattle.std.proofs.lemmas.Bool.Decides.{nat_tests}
use Rattle.std.proofs.lemmas.List.Elements.{filter_agree}
use Rattle.std.proofs.lemmas.Slice.Eq.{bytes_eq-Decides}
use Rattle.vx_data.specs.declared.ids.ConsumerId.{ConsumerId}
use Rattle.vx_data.specs.declared.ids.PassNo.{PassNo}
use Rattle.vx_ring.specs.Rings as ring
use Rattle.vx_call.specs.declared.call.Call.TheVariants as calls
use Rattle.vx_call.specs.declared.reply.Refusal.{Refusal}
use Rattle.vx_call.specs.declared.reply.Refusal.TheVariants as refusals
use Rattle.vx_call.specs.declared.reply.Reply.TheVariants as replies
use Rattle.vx_call.specs.declared.history.Consumer.{Consumer}
use Rattle.vx_call.specs.declared.history.Traced.{Traced}
use Rattle.vx_call.specs.History.{lasting, plain_entry, no_mark}
use Rattle.vx_call.specs.Built.{AreStored}
use Rattle.vx_data.specs.Ids.{same_consumer}
use Rattle.vx_call.specs.Registered.{is_named}
use Rattle.vx_call.specs.Consumers.{consumer_kind, consumers, handlers, live, is_at}
use Rattle.vx_call.specs.Choices.{is_empty, choice_kind, is_emptied, choices}
use Rattle.vx_call.specs.Refusals.{refused_if, not_your_consumer, holder_closed}
use Rattle.vx_call.specs.Rows.{consumer_refusal, ids_of}
use Rattle.vx_call.proofs.Lasting.{lasting-append}
use Rattle.vx_call.proofs.Each.{Each, every, weaken}
use Rattle.vx_call.proofs.Counts.{count_kept}
use Rattle.vx_call.proofs.Apart.{Apart}
use Rattle.vx_call.proofs.Filters.{filter_swap}
use Rattle.vx_call.proofs.Consumers.{same_by_name, consumers_apart}
use Rattle.vx_bus_delivery.proofs.Turns.{ring_empty}
use Rattle.vx_bus_store.proofs.LiveChoices.{no_choices}
use Rattle.vx_call.proofs.KeepsOpen.{KeepsOpen, call_keeps}
use Rattle.vx_bus_store.proofs.Frames.{ended_by_name}
use Rattle.vx_bus_store.proofs.Images.{filter_mapped}
use Rattle.vx_bus_consumers.proofs.Selections.{filter_without}

-- the entry that ends a consumer
abbrev pub unregister_entry : PassNo → ConsumerId → Traced
unregister_entry pass id = plain_entry pass (calls.Unregister id) replies.Done no_mark

pub unregister_keeps : (history : List Traced) (pass : PassNo) (id : ConsumerId) → KeepsOpen history (unregister_entry pass id)
unregister_keeps history pass id = call_keeps history (unregister_entry pass id) (record { call = refl; mark = refl }) refl

-- the history once a consumer has ended
abbrev pub unregistered : List Traced → PassNo → ConsumerId → List Traced
unregistered history pass id = history ++ unregister_entry pass id ∷ []

-- ## The consumer

is_there : (found : Option Consumer) (rest : Option Refusal) → option_or (refused_if (is_none found) refusals.NoConsumer) rest ≡ None → (consumer : Consumer) × (found ≡ Some consumer)
is_there None rest free = absurd cc
is_there (Some consumer) rest free = (consumer, refl)

-- the consumer of a call that is not refused is there
pub live_there : (history : List Traced) (pass : PassNo) (id : ConsumerId) → consumer_refusal history pass id ≡ None → (consumer : Consumer) × (live history id ≡ Some consumer)
live_there history pass id free = is_there (live history id) (option_or (not_your_consumer history pass id) (holder_closed history pass)) free

other_name : (n a b : ℕ) → (n == a) ≡ true → (a == b) ≡ false → (n == b) ≡ true → ⊥
other_name n a b here apart there = grind (arith, nat_tests)

-- no other has its name
only_one : (id : ConsumerId) (all : List Consumer) (consumer : Consumer) → find (is_named id) all ≡ Some consumer → Apart same_by_name all → Each (λ c. is_named id c ≡ true → c ≡ consumer) all
only_one id [] consumer found apart = tt
only_one id (first ∷ others) consumer found apart =
    let Only : Consumer → Type 0 = λ c. is_named id c ≡ true → c ≡ consumer in
    elim (is_named id first) as (λ b. is_named id first ≡ b → cond b (Some first) (find (is_named id) others) ≡ Some consumer → Each Only (first ∷ others)) [
      | true ↦ λ here is_first. (
        λ h. cc,
        weaken (λ c. same_by_name first c ≡ false) Only others (λ c other there. absurd (other_name id.0.0 first.id.0.0 c.id.0.0 here other there)) apart.0,
      )
      | false ↦ λ elsewhere is_later. (λ h. (let e : true ≡ false = sym h ∙ elsewhere in absurd cc), only_one id others consumer is_later apart.1)
    ] refl found

-- ## The handlers

gone : (history : List Traced) (pass : PassNo) (id : ConsumerId) → consumers (unregistered history pass id) ≡ filter (λ c. not (is_named id c)) (consumers history)
gone history pass id =
    let entry = unregister_entry pass id in
    lasting-append consumer_kind history entry
    ∙ append-nil _
    ∙ filter_agree _ _ (λ (consumer : Consumer). ap not (ended_by_name history entry consumer (unregister_keeps history pass id))) (consumers history)

pub consumers_left : (history : List Traced) (pass : PassNo) (id : ConsumerId) → filter (λ (c : Consumer). not (is_named id c)) (consumers history) ≡ consumers (unregistered history pass id)
consumers_left history pass id = sym (gone history pass id)

-- at an address: those that were there and have another name
handlers_left : (history : List Traced) (pass : PassNo) (id : ConsumerId) (address : List ℕ) → handlers (unregistered history pass id) address ≡ filter (λ c. not (is_named id c)) (handlers history address)
handlers_left history pass id address = ap (filter (is_at address)) (gone history pass id) ∙ filter_swap (is_at address) (λ c. not (is_named id c)) (consumers history)

is_not_at : (consumer : Consumer) (address : List ℕ) → bytes_eq address consumer.address ≡ false → is_at address consumer ≡ false
is_not_at consumer address other =
    elim (bytes_eq consumer.address address) as (λ b. (b ≡ true → consumer.address ≡ address) → b ≡ false) [
      | true ↦ λ same. (let e : true ≡ false = sym ((bytes_eq-Decides address consumer.address).1 (sym (same refl))) ∙ other in absurd cc)
      | false ↦ λ same. refl
    ] (bytes_eq-Decides consumer.address address).0

-- at other addresses all stay
handlers_same : (history : List Traced) (pass : PassNo) (id : ConsumerId) (consumer : Consumer) (address : List ℕ) → find (is_named id) (consumers history) ≡ Some consumer →
    bytes_eq address consumer.address ≡ false → handlers (unregistered history pass id) address ≡ handlers history address
handlers_same history pass id consumer address found other =
    ap (filter (is_at address)) (gone history pass id)
    ∙ filter_without (is_at address) (is_named id) (consumers history)
    (weaken (λ c. is_named id c ≡ true → c ≡ consumer) (λ c. is_named id c ≡ true → is_at address c ≡ false) (consumers history)
    (λ c only named. ap (is_at address) (only named) ∙ is_not_at consumer address other)
    (only_one id (consumers history) consumer found (consumers_apart history)))

pub rings_left : (history : List Traced) (pass : PassNo) (id : ConsumerId) (consumer : Consumer) (address : List ℕ) → find (is_named id) (consumers history) ≡ Some consumer →
    cond (bytes_eq address consumer.address) (filter (λ other. not (same_consumer id other)) (ids_of (handlers history address))) (ids_of (handlers history address)) ≡ ids_of (handlers (unregistered history pass id) address)
rings_left history pass id consumer address found =
    elim (bytes_eq address consumer.address) as (λ b. bytes_eq address consumer.address ≡ b →
    cond b (filter (λ other. not (same_consumer id other)) (ids_of (handlers history address))) (ids_of (handlers history address)) ≡ ids_of (handlers (unregistered history pass id) address)) [
      | true ↦ λ here.
          filter_mapped (λ other. not (same_consumer id other)) (λ (c : Consumer). not (is_named id c)) (λ (c : Consumer). c.id) (handlers history address) (every _ (λ c. refl) (handlers history address))
          ∙ sym (ap ids_of (handlers_left history pass id address))
      | false ↦ λ other. sym (ap ids_of (handlers_same history pass id consumer address found other))
    ] refl

-- ## The choices

-- where none is left they start again at 0
from_none : (before after : Bool) (n : ℕ) → (before ≡ true → n ≡ 0) → cond after 0 n ≡ cond (not before && after) 0 n
from_none true true n idle = sym (idle refl)
from_none true false n idle = refl
from_none false after n idle = refl

pub choices_left : (history : List Traced) (pass : PassNo) (id : ConsumerId) (address : List ℕ) → AreStored history →
    cond (ring.is_empty (ids_of (handlers (unregistered history pass id) address))) 0 (choices history address) ≡ choices (unregistered history pass id) address
choices_left history pass id address stored =
    let entry = unregister_entry pass id in
    ap (λ b. cond b 0 (choices history address)) (ring_empty (handlers (unregistered history pass id) address))
    ∙ from_none (is_empty (handlers history address)) (is_empty (handlers (unregistered history pass id) address)) (choices history address) (no_choices history address stored)
    ∙ sym (count_kept (is_emptied history entry) address (lasting choice_kind history))
    ∙ ap (count_by (bytes_eq address)) (sym (lasting-append choice_kind history entry ∙ append-nil _))
