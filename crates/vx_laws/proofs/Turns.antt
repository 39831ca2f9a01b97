-- The handlers at an address take turns.
use Rattle.std.proofs.Common.{◌≡◌, ℕ, ◌+◌, ◌%◌, ◌<◌, zero, suc, List, [], ◌∷◌, ◌++◌, length, get_or, take, drop, refl, ap, sym, ◌∙◌, subst, append_assoc, arith}
use Rattle.std.specs.Prelude.{Bool, false, cond}
use Rattle.std.specs.List.{count_by}
use Rattle.std.specs.Str.{bytes_eq}
use Rattle.std.proofs.Math.Seq.{drop-nil}
use Rattle.std.proofs.lemmas.Bool.{eq-eqb}
use Rattle.std.proofs.lemmas.List.{append-nil, length-append, length-map}
use Rattle.std.proofs.lemmas.List.Sums.{sum_by-cons, sum_by-append, sum_by-take-drop}
use Rattle.vx_data.specs.declared.ids.ConsumerId.{ConsumerId}
use Rattle.vx_call.specs.declared.history.Consumer.{Consumer}
use Rattle.vx_call.specs.declared.history.Traced.{Traced}
use Rattle.vx_call.specs.History.{made_by}
use Rattle.vx_data.specs.Ids.{same_consumer}
use Rattle.vx_call.specs.Consumers.{handlers}
use Rattle.vx_call.specs.Choices.{is_empty, choice_kind, choices}
use Rattle.vx_call.specs.Rows.{ids_of}
use Rattle.vx_call.specs.Machine.{IsLegal}
use Rattle.vx_call.proofs.Each.{Each, Each-at, Each-both}
use Rattle.vx_call.proofs.Apart.{Apart}
use Rattle.vx_call.proofs.Found.{same_number}
use Rattle.vx_call.proofs.Consumers.{same_by_name, handlers_apart}
use Rattle.vx_laws.specs.Turns.{chosen_by, chosen_behind, HaveHandlers, IsRound, ChoosesInTurn, TakesTurns}
use Rattle.vx_laws.proofs.Origins.{id_of}
use Rattle.vx_laws.proofs.Rounds.{turns, turns-add, turns_round}
use Rattle.vx_laws.proofs.Chosen.{choices_more, chosen_in_turn}
use Rattle.vx_laws.proofs.Named.{names_chosen}

-- ## A run of entries

handlers_first : (before : List Traced) (new : Traced) (rest : List Traced) (address : List ℕ) (live : List Consumer) → HaveHandlers before (new ∷ rest) address live → handlers before address ≡ live
handlers_first before new rest address live have = ap (λ (h : List Traced). handlers h address) (sym (append-nil before)) ∙ have [] new rest refl

handlers_rest : (before : List Traced) (new : Traced) (rest : List Traced) (address : List ℕ) (live : List Consumer) → HaveHandlers before (new ∷ rest) address live → HaveHandlers (before ++ new ∷ []) rest address live
handlers_rest before new rest address live have = λ first other after split.
    ap (λ (h : List Traced). handlers h address) (append_assoc before (new ∷ []) first) ∙ have (new ∷ first) other after (ap (λ (h : List Traced). new ∷ h) split)

-- the turns of an entry, then those of the entries behind it, whose count goes on where there are any
turns_join : (ids here : List ConsumerId) (address : List ℕ) (before : List Traced) (new : Traced) (first : Consumer) (others : List Consumer) (rest : List Traced) →
    here ≡ turns ids (choices before address) (length here) → count_by (bytes_eq address) (made_by choice_kind before new) ≡ length here →
    HaveHandlers (before ++ new ∷ []) rest address (first ∷ others) →
    chosen_behind (before ++ new ∷ []) rest address ≡ turns ids (choices (before ++ new ∷ []) address) (length (chosen_behind (before ++ new ∷ []) rest address)) →
    here ++ chosen_behind (before ++ new ∷ []) rest address ≡ turns ids (choices before address) (length (here ++ chosen_behind (before ++ new ∷ []) rest address))
turns_join ids here address before new first others [] its counted have after = append-nil here ∙ its ∙ ap (λ (l : List ConsumerId). turns ids (choices before address) (length l)) (sym (append-nil here))
turns_join ids here address before new first others (next ∷ rest) its counted have after =
    let behind = chosen_behind (before ++ new ∷ []) (next ∷ rest) address in
    let count = choices before address in
    let some : is_empty (handlers (before ++ new ∷ []) address) ≡ false = ap (λ (cs : List Consumer). is_empty cs) (handlers_first (before ++ new ∷ []) next rest address (first ∷ others) have) in
    let goes_on : choices (before ++ new ∷ []) address ≡ count + length here = choices_more before new address some ∙ ap (λ n. count + n) counted in
    ap (λ (l : List ConsumerId). l ++ behind) its
    ∙ ap (λ (l : List ConsumerId). turns ids count (length here) ++ l) (after ∙ ap (λ n. turns ids n (length behind)) goes_on)
    ∙ sym (turns-add ids count (length here) (length behind))
    ∙ ap (turns ids count) (sym (length-append here behind))

-- in a run of entries with the same handlers they are chosen in turn
in_turns : (before during : List Traced) (address : List ℕ) (first : Consumer) (others : List Consumer) → HaveHandlers before during address (first ∷ others) →
    chosen_behind before during address ≡ turns (ids_of (first ∷ others)) (choices before address) (length (chosen_behind before during address))
in_turns before [] address first others have = refl
in_turns before (new ∷ rest) address first others have =
    let live = first ∷ others in
    let is = chosen_in_turn before new address first others (handlers_first before new rest address live have) in
    let onward = handlers_rest before new rest address live have in
    turns_join (ids_of live) (chosen_by before new address) address before new first others rest is.in_turn is.counted onward (in_turns (before ++ new ∷ []) rest address first others onward)

-- ## Each once

count_cons : (p : ConsumerId → Bool) (id : ConsumerId) (ids : List ConsumerId) → count_by p (id ∷ ids) ≡ cond (p id) 1 0 + count_by p ids
count_cons p id ids = sum_by-cons (λ x. cond (p x) 1 0) id ids

none_named : (consumer : Consumer) (others : List Consumer) → Each (λ other. same_by_name consumer other ≡ false) others → count_by (same_consumer consumer.id) (ids_of others) ≡ 0
none_named consumer [] apart = refl
none_named consumer (other ∷ others) apart =
    count_cons (same_consumer consumer.id) other.id (ids_of others) ∙ ap (λ b. cond b 1 0 + count_by (same_consumer consumer.id) (ids_of others)) apart.0 ∙ ap (λ n. 0 + n) (none_named consumer others apart.1)

each_once : (live : List Consumer) → Apart same_by_name live → Each (λ consumer. count_by (same_consumer consumer.id) (ids_of live) ≡ 1) live
each_once [] apart = tt
each_once (consumer ∷ others) apart = (
  count_cons (same_consumer consumer.id) consumer.id (ids_of others)
      ∙ ap (λ b. cond b 1 0 + count_by (same_consumer consumer.id) (ids_of others)) (eq-eqb consumer.id.0.0 consumer.id.0.0 refl)
      ∙ ap (λ n. 1 + n) (none_named consumer others apart.0),
  Each-both (λ other. same_by_name consumer other ≡ false) (λ other. count_by (same_consumer other.id) (ids_of others) ≡ 1) (λ other. count_by (same_consumer other.id) (ids_of (consumer ∷ others)) ≡ 1) others
      (λ other differs single. count_cons (same_consumer other.id) consumer.id (ids_of others)
      ∙ ap (λ b. cond b 1 0 + count_by (same_consumer other.id) (ids_of others)) (same_number other.id.0.0 consumer.id.0.0 ∙ differs)
      ∙ ap (λ n. 0 + n) single)
      apart.0 (each_once others apart.1),
)

count_turned : (p : ConsumerId → Bool) (ids : List ConsumerId) (place : ℕ) → count_by p (drop place ids ++ take place ids) ≡ count_by p ids
count_turned p ids place =
    let one : ConsumerId → ℕ = λ id. cond (p id) 1 0 in
    let parts : count_by p (drop place ids ++ take place ids) ≡ count_by p (drop place ids) + count_by p (take place ids) = sum_by-append one (drop place ids) (take place ids) in
    let whole : count_by p (take place ids) + count_by p (drop place ids) ≡ count_by p ids = sum_by-take-drop one ids place in
    omega arith

take_none : (n : ℕ) → ◌≡◌ {A = List ConsumerId} (take n []) []
take_none zero = refl
take_none (suc n) = refl

-- ## A round

no_round : (count : ℕ) (chosen : List ConsumerId) → chosen ≡ [] → IsRound count [] chosen
no_round count chosen none = record { in_order = none ∙ sym (ap (λ (l : List ConsumerId). l ++ take (count % 0) []) (drop-nil (count % 0)) ∙ take_none (count % 0)); once = λ k d inside. absurd (omega arith) }

round : (count : ℕ) (first : Consumer) (others : List Consumer) (chosen : List ConsumerId) → Apart same_by_name (first ∷ others) → chosen ≡ turns (ids_of (first ∷ others)) count (length chosen) →
    length chosen ≡ length (first ∷ others) → IsRound count (first ∷ others) chosen
round count first others chosen apart in_turn full =
    let live = first ∷ others in
    let ids = ids_of live in
    let n = length-map live id_of in
    let some : 0 < length ids = omega arith in
    let place = count % length live in
    let whole : chosen ≡ drop place ids ++ take place ids =
    in_turn ∙ ap (turns ids count) (full ∙ sym n) ∙ turns_round ids count some ∙ ap (λ m. drop (count % m) ids ++ take (count % m) ids) n in
    record {
      in_order = whole;
      once = λ k d inside.
          (let consumer = get_or live k d in
          ap (count_by (same_consumer consumer.id)) whole ∙ count_turned (same_consumer consumer.id) ids place ∙ Each-at (λ c. count_by (same_consumer c.id) ids ≡ 1) live k d inside (each_once live apart));
    }

empty_of : {A : Type 0} (xs : List A) → length xs ≡ 0 → xs ≡ []
empty_of [] e = refl
empty_of (x ∷ xs) e = absurd (omega arith)

round_of : (before during : List Traced) (address : List ℕ) (live : List Consumer) → HaveHandlers before during address live → length (chosen_behind before during address) ≡ length live →
    IsRound (choices before address) live (chosen_behind before during address)
round_of before during address [] have full = no_round (choices before address) (chosen_behind before during address) (empty_of (chosen_behind before during address) full)
round_of before [] address (first ∷ others) have full = absurd (omega arith)
round_of before (new ∷ rest) address (first ∷ others) have full =
    let P : List Consumer → Type 0 = Apart same_by_name in
    round (choices before address) first others (chosen_behind before (new ∷ rest) address) (subst P (handlers_first before new rest address (first ∷ others) have) (handlers_apart before address))
    (in_turns before (new ∷ rest) address first others have) full

choose_in_turn : (history : List Traced) → ChoosesInTurn history
choose_in_turn history = λ before during after address live parts have full. round_of before during address live have full

pub take_turns : (history : List Traced) → IsLegal history → TakesTurns history
take_turns history legal = record { in_turn = choose_in_turn history; names = names_chosen history legal }
