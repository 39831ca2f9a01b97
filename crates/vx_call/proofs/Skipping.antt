-- A pass over the composites may leave out those that are settled: from what was settled before, and what a call settles, it
-- finds by name what the pass over all finds, where the parts of a composite were made before it.
use Rattle.vx_call.proofs.Legal.{legal_front}
use Rattle.std.proofs.Common.{◌≡◌, ℕ, ◌<◌, ◌+◌, List, [], ◌∷◌, ◌++◌, length, refl, ap, sym, ◌∙◌, subst, arith}
use Rattle.std.specs.Prelude.{Bool, true, false, not, ◌||◌, cond, fold, Option, None, Some}
use Rattle.std.specs.List.{list_any}
use Rattle.std.specs.Option.{option_or, option_map, option_to_list}
use Rattle.std.proofs.lemmas.Bool.{eqb-true}
use Rattle.vx_data.specs.declared.ids.PassNo.{PassNo}
use Rattle.vx_message.specs.declared.Compose.{Compose}
use Rattle.vx_call.specs.declared.call.Call.{Call}
use Rattle.vx_call.specs.declared.call.Call.TheVariants as calls
use Rattle.vx_call.specs.declared.reply.Refusal.{Refusal}
use Rattle.vx_call.specs.declared.reply.Refusal.TheVariants as refusals
use Rattle.vx_call.specs.Refusals.{refused_if, spent, shut, no_part}
use Rattle.vx_call.specs.Rows.{compose_refusal, compose_row}
use Rattle.vx_call.specs.Machine.{answer, IsLegal}
use Rattle.vx_data.specs.declared.ids.PromiseId.{PromiseId}
use Rattle.vx_data.specs.Ids.{same_promise}
use Rattle.vx_call.specs.declared.history.Traced.{Traced}
use Rattle.vx_call.specs.History.{is_accepted, made_by}
use Rattle.vx_call.specs.Promises.{promise_made, promise_kind, promises, is_promise, Composite, composite_made, composite_kind, composites}
use Rattle.vx_call.specs.Completions.{Completion, completion_in, settled_part, settled_parts, composed, with_composite, completed_kind, completed, completions, completion_at}
use Rattle.vx_call.proofs.Lasting.{lasting_more, lasting_none, and_false}
use Rattle.vx_call.proofs.Each.{Each, Each-append, Each-front, weaken, accepted, by_entries}
use Rattle.vx_call.proofs.Apart.{Apart, lasting_earlier}
use Rattle.vx_call.proofs.Found.{same_number, earlier_name}
use Rattle.vx_call.proofs.Once.{any_each}
use Rattle.vx_call.proofs.Rising.{IsRising, lasting_rising}
use Rattle.vx_call.proofs.Below.{not_refused, under}
use Rattle.vx_call.proofs.Completed.{Lacks, settled_as, same_composite, same_promise-true, in_both, composed_of, other_one, still_lacks, lack_each, IsPlainOne, completed_plain, composites-append, new_composites, composites_apart, stays_settled}

abbrev pub open_by : Option Completion → List Completion → Composite → List Completion
open_by None settled c = with_composite settled c
open_by (Some one) settled c = settled

-- a composite that is settled is left out
abbrev pub with_open : List Completion → Composite → List Completion
with_open settled c = open_by (completion_in settled c.id) settled c

-- none of these has the name
abbrev pub IsNone : List Composite → PromiseId → Type 0
IsNone all id = Each (λ (c : Composite). same_promise id c.id ≡ false) all

-- the parts of each were made before it
abbrev pub ArePartsEarlier : List Composite → Type 0
ArePartsEarlier [] = Unit {0}
ArePartsEarlier (c ∷ others) = Each (IsNone (c ∷ others)) c.parts × ArePartsEarlier others

-- they find the same by all other names
abbrev AlikeBut : List Composite → List Completion → List Completion → Type 0
AlikeBut all xs ys = (id : PromiseId) → IsNone all id → completion_in xs id ≡ completion_in ys id

abbrev WasRight : List Completion → List Completion → Composite → Type 0
WasRight whole settled c = (one : Completion) → completion_in settled c.id ≡ Some one → completion_in whole c.id ≡ Some one

or_none : (o : Option Completion) → option_or o None ≡ o
or_none None = refl
or_none (Some one) = refl

parts_alike : (all : List Composite) (xs ys : List Completion) → AlikeBut all xs ys → (place : ℕ) (ids : List PromiseId) → Each (IsNone all) ids → settled_parts xs place ids ≡ settled_parts ys place ids
parts_alike all xs ys alike place [] none = refl
parts_alike all xs ys alike place (id ∷ others) none =
    ap (λ o. option_to_list (option_map (settled_part place) o) ++ settled_parts xs (place + 1) others) (alike id none.0)
    ∙ ap (λ parts. option_to_list (option_map (settled_part place) (completion_in ys id)) ++ parts) (parts_alike all xs ys alike (place + 1) others none.1)

-- a composite is found by no other name
step_other : (settled : List Completion) (c : Composite) (id : PromiseId) → same_promise id c.id ≡ false → completion_in (with_composite settled c) id ≡ completion_in settled id
step_other settled c id differs =
    in_both settled (option_to_list (settled_as settled c)) id
    ∙ ap (option_or (completion_in settled id)) (other_one c.id id (settled_as settled c) (composed_of c c.way (length c.parts) (settled_parts settled 0 c.parts)) differs)
    ∙ or_none (completion_in settled id)

open_other : (o : Option Completion) (settled : List Completion) (c : Composite) (id : PromiseId) → same_promise id c.id ≡ false → completion_in (open_by o settled c) id ≡ completion_in settled id
open_other None settled c id differs = step_other settled c id differs
open_other (Some one) settled c id differs = refl

pub all_other : (all : List Composite) (settled : List Completion) (id : PromiseId) → IsNone all id → completion_in (fold with_composite settled all) id ≡ completion_in settled id
all_other [] settled id none = refl
all_other (c ∷ others) settled id none = all_other others (with_composite settled c) id none.1 ∙ step_other settled c id none.0

own_step : (settled : List Completion) (c : Composite) → Lacks settled c → completion_in (with_composite settled c) c.id ≡ completion_in (option_to_list (settled_as settled c)) c.id
own_step settled c lacks = in_both settled (option_to_list (settled_as settled c)) c.id ∙ ap (λ o. option_or o (completion_in (option_to_list (settled_as settled c)) c.id)) lacks

own_alike : (xs ys : List Completion) (c : Composite) (o : Option Completion) → completion_in ys c.id ≡ o → Lacks xs c → settled_parts xs 0 c.parts ≡ settled_parts ys 0 c.parts →
    ((one : Completion) → o ≡ Some one → completion_in (with_composite xs c) c.id ≡ Some one) → completion_in (with_composite xs c) c.id ≡ completion_in (open_by o ys c) c.id
own_alike xs ys c None found lacks parts right =
    own_step xs c lacks ∙ ap (λ all. completion_in (option_to_list (composed c c.way (length c.parts) all)) c.id) parts ∙ sym (own_step ys c found)
own_alike xs ys c (Some one) found lacks parts right = right one refl ∙ sym found

still_right : (whole ys : List Completion) (c : Composite) (others : List Composite) → Each (λ (k : Composite). same_composite c k ≡ false) others → Each (WasRight whole ys) others → Each (WasRight whole (with_open ys c)) others
still_right whole ys c [] apart right = tt
still_right whole ys c (k ∷ others) apart right = (
  λ one found. right.0 one (sym (open_other (completion_in ys c.id) ys c k.id (same_number k.id.0.0 c.id.0.0 ∙ apart.0)) ∙ found),
  still_right whole ys c others apart.1 right.1,
)

none_here : (c : Composite) (others : List Composite) → Each (λ (k : Composite). same_composite c k ≡ false) others → IsNone others c.id
none_here c others apart = apart

skips : (whole : List Completion) (all : List Composite) (xs ys : List Completion) → fold with_composite xs all ≡ whole → ArePartsEarlier all → Each (Lacks xs) all → Apart same_composite all → Each (WasRight whole ys) all →
    AlikeBut all xs ys → AlikeBut [] whole (fold with_open ys all)
skips whole [] xs ys is_whole earlier lacks apart right alike = λ id none. ap (λ all. completion_in all id) (sym is_whole) ∙ alike id tt
skips whole (c ∷ others) xs ys is_whole earlier lacks apart right alike =
    let after = with_composite xs c in
    let opened = with_open ys c in
    let parts = parts_alike (c ∷ others) xs ys alike 0 c.parts earlier.0 in
    let own : completion_in after c.id ≡ completion_in opened c.id =
    own_alike xs ys c (completion_in ys c.id) refl lacks.0 parts
    (λ one found. sym (all_other others after c.id (none_here c others apart.0)) ∙ ap (λ all. completion_in all c.id) is_whole ∙ right.0 one found) in
    let both : AlikeBut others after opened = λ id none.
    elim (same_promise id c.id) as (λ b. same_promise id c.id ≡ b → completion_in after id ≡ completion_in opened id) [
      | true ↦ λ same. (let P : PromiseId → Type 0 = λ i. completion_in after i ≡ completion_in opened i in subst P (sym (same_promise-true id c.id same)) own)
      | false ↦ λ differs. step_other xs c id differs ∙ alike id (differs, none) ∙ sym (open_other (completion_in ys c.id) ys c id differs)
    ] refl in
    skips whole others after opened is_whole earlier.1 (still_lacks xs c others apart.0 lacks.1) apart.1 (still_right whole ys c others apart.0 right.1) both

second_none : (a b : Option Completion) → option_or a b ≡ None → b ≡ None
second_none None b none = none
second_none (Some one) b none = absurd cc

-- what is found behind one more entry
pub completions_skip : (history : List Traced) (new : Traced) → ArePartsEarlier (composites (history ++ new ∷ [])) → (id : PromiseId) →
    completion_at (history ++ new ∷ []) id ≡ completion_in (fold with_open (completions history ++ made_by completed_kind history new) (composites (history ++ new ∷ []))) id
completions_skip history new earlier id =
    let after = history ++ new ∷ [] in
    let all = composites after in
    let made = made_by completed_kind history new in
    let settled = completed after in
    let more : settled ≡ completed history ++ made = lasting_more completed_kind history new (λ c. and_false (is_accepted new.entry.reply)) in
    let lacks : Each (Lacks settled) all =
    lack_each settled all (weaken (IsPlainOne after) (λ (one : Completion). Each (λ (c : Composite). same_promise c.id one.promise ≡ false) all) settled (λ one plain. plain.1) (completed_plain after)) in
    let no_call : Each (λ (c : Composite). completion_in made c.id ≡ None) all =
    weaken (Lacks settled) (λ (c : Composite). completion_in made c.id ≡ None) all
    (λ c none. second_none (completion_in (completed history) c.id) (completion_in made c.id) (sym (ap (λ xs. completion_in xs c.id) more ∙ in_both (completed history) made c.id) ∙ none)) lacks in
    let right : Each (WasRight (completions after) (completions history ++ made)) all =
    weaken (λ (c : Composite). completion_in made c.id ≡ None) (WasRight (completions after) (completions history ++ made)) all
    (λ c none one found. stays_settled history new c.id one (sym (in_both (completions history) made c.id ∙ ap (option_or (completion_in (completions history) c.id)) none ∙ or_none (completion_in (completions history) c.id)) ∙ found)) no_call in
    let alike : AlikeBut all settled (completions history ++ made) = λ i none.
    (let P : List Composite → Type 0 = λ cs. IsNone cs i in
    let front : IsNone (composites history) i = Each-front (λ (c : Composite). same_promise i c.id ≡ false) (composites history) (made_by composite_kind history new) (subst P (composites-append history new) none) in
    ap (λ xs. completion_in xs i) more ∙ in_both (completed history) made i ∙ ap (λ o. option_or o (completion_in made i)) (sym (all_other (composites history) (completed history) i front)) ∙ sym (in_both (completions history) made i)) in
    skips (completions after) all settled (completions history ++ made) refl earlier lacks (composites_apart after) right alike id tt

-- ## Of legal histories

pub either_first : (a b : Option Refusal) → option_or a b ≡ None → a ≡ None
either_first None b none = refl
either_first (Some refusal) b none = absurd cc

pub not_so : (b : Bool) (refusal : Refusal) → refused_if b refusal ≡ None → b ≡ false
not_so true refusal none = absurd cc
not_so false refusal none = refl

promise_keyed : (history : List Traced) (call : Call) → Each (λ (id : PromiseId). id.0.0 ≡ length history) (promise_made history call)
promise_keyed history calls.NewPromise = (refl, tt)
promise_keyed history (calls.Compose way parts) = (refl, tt)
promise_keyed history _ = tt

pub promises_earlier : (history : List Traced) → Each (λ (id : PromiseId). id.0.0 < length history) (promises history)
promises_earlier = lasting_earlier promise_kind (λ (id : PromiseId). id.0.0) (λ history new. accepted (λ (id : PromiseId). id.0.0 ≡ length history) (is_accepted new.entry.reply) _ (λ ok. promise_keyed history new.entry.call))

pub named_earlier : (n : ℕ) (id : PromiseId) (all : List PromiseId) → Each (λ (other : PromiseId). other.0.0 < n) all → not (list_any (same_promise id) all) ≡ false → id.0.0 < n
named_earlier n id [] before named = absurd cc
named_earlier n id (other ∷ others) before named =
    elim (same_promise id other) as (λ b. same_promise id other ≡ b → not (b || list_any (same_promise id) others) ≡ false → id.0.0 < n) [
      | true ↦ λ same none. (let e = eqb-true id.0.0 other.0.0 same in let less : other.0.0 < n = before.0 in omega arith)
      | false ↦ λ differs later. named_earlier n id others before.1 later
    ] refl named

abbrev HasEarlierParts : Composite → Type 0
HasEarlierParts c = Each (λ (part : PromiseId). part.0.0 < c.id.0.0) c.parts

parts_known : (history : List Traced) (pass : PassNo) (way : Compose) (parts : List PromiseId) → is_accepted (answer history pass (calls.Compose way parts)) ≡ true → Each (λ (part : PromiseId). part.0.0 < length history) parts
parts_known history pass way parts ok =
    let call = calls.Compose way parts in
    let above = option_or (spent history) (shut history call) in
    let row = compose_row history pass parts in
    let none : compose_refusal history pass parts ≡ None = not_refused (compose_refusal history pass parts) _ (under above row (not_refused above row ok) ok) in
    let no : list_any (λ part. not (is_promise history part)) parts ≡ false = not_so (list_any (λ part. not (is_promise history part)) parts) refusals.NoPromise (either_first (no_part history parts) _ none) in
    weaken (λ (part : PromiseId). not (is_promise history part) ≡ false) (λ (part : PromiseId). part.0.0 < length history) parts (λ part named. named_earlier (length history) part (promises history) (promises_earlier history) named)
    (any_each (λ part. not (is_promise history part)) parts no)

new_parts : (history : List Traced) (new : Traced) (pass : PassNo) (call : Call) → is_accepted new.entry.reply ≡ true → new.entry.reply ≡ answer history pass call → Each HasEarlierParts (composite_made history call)
new_parts history new pass (calls.Compose way parts) ok answered = (parts_known history pass way parts (ap is_accepted (sym answered) ∙ ok), tt)
new_parts history new pass _ ok answered = tt

-- a part was made before its composite
pub earlier_parts : (history : List Traced) → IsLegal history → Each (λ (c : Composite). Each (λ (part : PromiseId). part.0.0 < c.id.0.0) c.parts) (composites history)
earlier_parts =
    by_entries (λ history. IsLegal history → Each HasEarlierParts (composites history))
    (λ legal. let P : List Composite → Type 0 = Each HasEarlierParts in subst P (sym (lasting_none composite_kind)) tt)
    (λ history new before legal.
    let may = legal history new [] refl in
    let P : List Composite → Type 0 = Each HasEarlierParts in
    subst P (sym (composites-append history new))
    (Each-append HasEarlierParts (composites history) (made_by composite_kind history new) (before (legal_front history (new ∷ []) legal))
    (accepted HasEarlierParts (is_accepted new.entry.reply) (composite_made history new.entry.call) (λ ok. new_parts history new new.entry.pass new.entry.call ok may.answered))))

rising_made : (history : List Traced) (call : Call) → IsRising (λ (c : Composite). c.id.0.0) (composite_made history call)
rising_made history (calls.Compose way parts) = (tt, tt)
rising_made history _ = tt

composites_rising : (history : List Traced) → IsRising (λ (c : Composite). c.id.0.0) (composites history)
composites_rising = lasting_rising composite_kind (λ (c : Composite). c.id.0.0) (λ history new. (new_composites history new).keyed)
    (λ history new. elim (is_accepted new.entry.reply) as (λ b. IsRising (λ (c : Composite). c.id.0.0) (cond b (composite_made history new.entry.call) [])) [ true ↦ rising_made history new.entry.call | false ↦ tt ])

parts_earlier : (all : List Composite) → IsRising (λ (c : Composite). c.id.0.0) all → Each HasEarlierParts all → ArePartsEarlier all
parts_earlier [] rising parts = tt
parts_earlier (c ∷ others) rising parts = (
  weaken (λ (part : PromiseId). part.0.0 < c.id.0.0) (IsNone (c ∷ others)) c.parts
      (λ part less. (
        earlier_name part.0.0 c.id.0.0 less,
        weaken (λ (k : Composite). c.id.0.0 < k.id.0.0) (λ (k : Composite). same_promise part k.id ≡ false) others (λ k more. earlier_name part.0.0 k.id.0.0 (omega arith)) rising.0,
      )) parts.0,
  parts_earlier others rising.1 parts.1,
)

-- in a legal history, a call that settles promises settles what this pass finds
pub legal_skip : (history : List Traced) (new : Traced) → IsLegal (history ++ new ∷ []) → (id : PromiseId) →
    completion_at (history ++ new ∷ []) id ≡ completion_in (fold with_open (completions history ++ made_by completed_kind history new) (composites (history ++ new ∷ []))) id
legal_skip history new legal id =
    let after = history ++ new ∷ [] in
    completions_skip history new (parts_earlier (composites after) (composites_rising after) (earlier_parts after legal)) id
