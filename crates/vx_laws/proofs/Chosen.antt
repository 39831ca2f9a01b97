-- What one entry does to the choices at an address, and whom it chooses there.
use Rattle.std.proofs.Common.{◌≡◌, ℕ, ◌+◌, ◌%◌, ◌<◌, List, [], ◌∷◌, ◌++◌, length, refl, ap, sym, ◌∙◌, arith}
use Rattle.std.specs.Prelude.{Bool, true, false, not, cond, ◌&&◌, ◌||◌, filter, slice_get, Option, Some}
use Rattle.std.specs.List.{count_by, list_any}
use Rattle.std.specs.Option.{option_map, option_to_list}
use Rattle.std.specs.Str.{bytes_eq}
use Rattle.std.proofs.Math.Nat.{mod-lt}
use Rattle.std.proofs.lemmas.Bool.{not_from_false}
use Rattle.std.proofs.lemmas.List.{length-append, length-map}
use Rattle.std.proofs.lemmas.List.Elements.{filter-append}
use Rattle.std.proofs.lemmas.List.Sums.{length-filter}
use Rattle.std.proofs.lemmas.Option.{slice_get-map, slice_get-get_or}
use Rattle.std.proofs.lemmas.Slice.Eq.{bytes_eq-Decides}
use Rattle.vx_data.specs.declared.ids.ConsumerId.{ConsumerId}
use Rattle.vx_call.specs.declared.call.Call.{Call}
use Rattle.vx_call.specs.declared.call.Call.TheVariants as calls
use Rattle.vx_call.specs.declared.history.Consumer.{Consumer}
use Rattle.vx_call.specs.declared.history.Deed.{Deed}
use Rattle.vx_call.specs.declared.history.Deed.TheVariants as deeds
use Rattle.vx_call.specs.declared.history.Traced.{Traced}
use Rattle.vx_call.specs.History.{is_accepted, made_by, ended_by, lasting}
use Rattle.vx_call.specs.Consumers.{handlers}
use Rattle.vx_call.specs.Choices.{is_empty, chosen_at, choice_by, choice_made, choice_kind, choices, choice}
use Rattle.vx_call.specs.Rows.{ids_of}
use Rattle.vx_call.proofs.Lasting.{and_false, lasting-append}
use Rattle.vx_call.proofs.Filters.{filter_within}
use Rattle.vx_laws.specs.Turns.{chosen_by}
use Rattle.vx_laws.proofs.Origins.{id_of}
use Rattle.vx_laws.proofs.Rounds.{turn, turns}

-- ## Choices after one more entry

not_emptied : (before : List Traced) (new : Traced) (address other : List ℕ) → is_empty (handlers (before ++ new ∷ []) address) ≡ false → bytes_eq address other ≡ true → not (ended_by choice_kind before new other) ≡ true
not_emptied before new address other some same =
    let one : address ≡ other = (bytes_eq-Decides address other).0 same in
    let still : is_empty (handlers (before ++ new ∷ []) other) ≡ false = ap (λ a. is_empty (handlers (before ++ new ∷ []) a)) (sym one) ∙ some in
    let had : Bool = not (is_empty (handlers before other)) in
    not_from_false _ (ap (λ b. is_accepted new.entry.reply && (had && b)) still ∙ ap (λ b. is_accepted new.entry.reply && b) (and_false had) ∙ and_false (is_accepted new.entry.reply))

-- where handlers stay, the choices are those before and the entry's own
pub choices_more : (before : List Traced) (new : Traced) (address : List ℕ) → is_empty (handlers (before ++ new ∷ []) address) ≡ false →
    choices (before ++ new ∷ []) address ≡ choices before address + count_by (bytes_eq address) (made_by choice_kind before new)
choices_more before new address some =
    let test = bytes_eq address in
    let stays = λ (a : List ℕ). not (ended_by choice_kind before new a) in
    let old = lasting choice_kind before in
    let made = made_by choice_kind before new in
    let kept : filter test (filter stays old ++ made) ≡ filter test old ++ filter test made =
    filter-append test (filter stays old) made
    ∙ ap (λ (l : List (List ℕ)). l ++ filter test made) (filter_within test stays (λ other same. not_emptied before new address other some same) old) in
    ap (count_by test) (lasting-append choice_kind before new)
    ∙ sym (length-filter test (filter stays old ++ made))
    ∙ ap length kept
    ∙ length-append (filter test old) (filter test made)
    ∙ ap (λ n. n + length (filter test made)) (length-filter test old)
    ∙ ap (λ n. count_by test old + n) (length-filter test made)

-- ## Whom an entry chooses

-- As many choices at the address as consumers that are chosen there, and it's their turn.
pub record IsInTurn (before : List Traced) (address : List ℕ) (live : List Consumer) (made : List (List ℕ)) (reached : List ConsumerId) : Type 0 where
  pub counted : count_by (bytes_eq address) made ≡ length reached
  pub in_turn : reached ≡ turns (ids_of live) (choices before address) (length reached)

nobody : (before : List Traced) (address : List ℕ) (live : List Consumer) (made : List (List ℕ)) (reached : List ConsumerId) → count_by (bytes_eq address) made ≡ 0 → reached ≡ [] → IsInTurn before address live made reached
nobody before address live made reached none empty =
    record { counted = none ∙ sym (ap length empty); in_turn = empty ∙ sym (ap (turns (ids_of live) (choices before address)) (ap length empty)) }

one : (before : List Traced) (address : List ℕ) (live : List Consumer) (made : List (List ℕ)) (reached : List ConsumerId) (id : ConsumerId) →
    count_by (bytes_eq address) made ≡ 1 → reached ≡ id ∷ [] → turn (ids_of live) (choices before address) ≡ id ∷ [] → IsInTurn before address live made reached
one before address live made reached id single only its_turn =
    record {
      counted = single ∙ sym (ap length only);
      in_turn = only ∙ sym (ap (turns (ids_of live) (choices before address)) (ap length only) ∙ ap (λ (l : List ConsumerId). l ++ []) its_turn);
    }

-- the turn among the handlers is that of the consumer that is chosen
its_turn : (before : List Traced) (address : List ℕ) (live : List Consumer) → handlers before address ≡ live →
    turn (ids_of live) (choices before address) ≡ option_to_list (option_map id_of (choice before address))
its_turn before address live are =
    let count = choices before address in
    ap (λ n. option_to_list (slice_get (ids_of live) (count % n))) (length-map live id_of)
    ∙ ap (λ (o : Option ConsumerId). option_to_list o) (slice_get-map id_of live (count % length live))
    ∙ ap (λ (cs : List Consumer). option_to_list (option_map id_of (slice_get cs (count % length cs)))) (sym are)

there : (before : List Traced) (address : List ℕ) (first : Consumer) (others : List Consumer) → handlers before address ≡ first ∷ others → (consumer : Consumer) × (choice before address ≡ Some consumer)
there before address first others are =
    let live = first ∷ others in
    let count = choices before address in
    let some : 0 < length live = omega arith in
    (_, ap (λ (cs : List Consumer). slice_get cs (count % length cs)) are ∙ slice_get-get_or live (count % length live) first (mod-lt count some))

pub itself : (address : List ℕ) → bytes_eq address address ≡ true
itself address = (bytes_eq-Decides address address).1 refl

-- an entry chooses once, or not at all
abbrev IsFew : List (List ℕ) → Type 0
IsFew [] = Unit {0}
IsFew (address ∷ []) = Unit {0}
IsFew (address ∷ other ∷ others) = ⊥

few_at : (before : List Traced) (is_sent : Bool) (address : List ℕ) → IsFew (chosen_at before is_sent address)
few_at before is_sent address = elim (is_sent && not (is_empty (handlers before address))) as (λ b. IsFew (cond b (address ∷ []) [])) [ true ↦ tt | false ↦ tt ]

choice_few_by : (before : List Traced) (is_sent : Bool) (deed : Deed) → IsFew (choice_by before is_sent deed)
choice_few_by before is_sent (deeds.Sends address headers body) = few_at before is_sent address
choice_few_by before is_sent (deeds.Requests address headers body at) = few_at before is_sent address
choice_few_by before is_sent _ = tt

choice_few : (before : List Traced) (call : Call) (deed : Deed) → IsFew (choice_made before call deed)
choice_few before (calls.Send address body options) deed = few_at before _ address
choice_few before (calls.Request context address body options timeout once) deed = few_at before _ address
choice_few before (calls.FrameIn conn frame) deed = choice_few_by before _ deed
choice_few before _ deed = tt

-- where the handler is there whose turn it is, it is chosen as often as there are choices
chosen : (before : List Traced) (address : List ℕ) (live : List Consumer) (ids : List ConsumerId) (id : ConsumerId) (accepts : Bool) (made : List (List ℕ)) → ids ≡ id ∷ [] → turn (ids_of live) (choices before address) ≡ id ∷ [] →
    IsFew made → IsInTurn before address live (cond accepts made []) (cond (accepts && list_any (bytes_eq address) made) ids [])
chosen before address live ids id false made only its few = nobody before address live [] [] refl refl
chosen before address live ids id true [] only its few = nobody before address live [] [] refl refl
chosen before address live ids id true (other ∷ []) only its few =
    let made = other ∷ [] in
    elim (bytes_eq address other) as (λ b. bytes_eq address other ≡ b → IsInTurn before address live made (cond (b || false) ids [])) [
      | true ↦ λ same. one before address live made ids id (ap (λ b. 0 + cond b 1 0) same) only its
      | false ↦ λ differs. nobody before address live made [] (ap (λ b. 0 + cond b 1 0) differs) refl
    ] refl
chosen before address live ids id true (other ∷ another ∷ others) only its few = absurd few

-- what an entry chooses at an address that has handlers
pub chosen_in_turn : (before : List Traced) (new : Traced) (address : List ℕ) (first : Consumer) (others : List Consumer) → handlers before address ≡ first ∷ others →
    IsInTurn before address (first ∷ others) (made_by choice_kind before new) (chosen_by before new address)
chosen_in_turn before new address first others are =
    let is_choice = there before address first others are in
    let consumer : Consumer = is_choice.0 in
    chosen before address (first ∷ others) (ids_of (option_to_list (choice before address))) consumer.id (is_accepted new.entry.reply) (choice_made before new.entry.call new.mark.deed)
    (ap (λ o. ids_of (option_to_list o)) is_choice.1)
    (its_turn before address (first ∷ others) are ∙ ap (λ o. option_to_list (option_map id_of o)) is_choice.1)
    (choice_few before new.entry.call new.mark.deed)
