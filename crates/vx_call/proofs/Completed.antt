-- A promise is settled once: it stays settled as it was first, and the entry that it is settled by is the one behind which it
-- first was. So one pass over all composites, made anew behind each entry, says what each entry settles.
use Rattle.std.proofs.Common.{◌≡◌, ℕ, ◌<◌, ◌≤◌, ◌+◌, List, [], ◌∷◌, ◌++◌, length, refl, ap, sym, ◌∙◌, subst, arith, ◌⊎◌, inl, inr}
use Rattle.std.specs.Prelude.{Bool, true, false, not, cond, ◌==◌, nat_le, nat_lt, max, filter, fold, Option, None, Some}
use Rattle.std.specs.Option.{option_or, option_map, option_to_list}
use Rattle.std.proofs.lemmas.Bool.Decides.{nat_tests}
use Rattle.std.proofs.lemmas.Bool.{eqb-true}
use Rattle.std.proofs.lemmas.List.Folds.{find-append}
use Rattle.std.proofs.lemmas.List.Sums.{fold-append}
use Rattle.std.proofs.lemmas.List.{length_push}
use Rattle.vx_call.specs.declared.call.Call.{Call}
use Rattle.vx_call.specs.declared.call.Call.TheVariants as calls
use Rattle.vx_call.specs.declared.history.Traced.{Traced}
use Rattle.vx_call.specs.History.{is_accepted, made_by}
use Rattle.vx_call.specs.Names.{next_promise}
use Rattle.vx_message.specs.declared.Compose.{Compose}
use Rattle.vx_message.specs.declared.Compose.TheVariants as ways
use Rattle.vx_message.specs.declared.JobResult.{JobResult}
use Rattle.vx_data.specs.declared.ids.PromiseId.{PromiseId}
use Rattle.vx_data.specs.Ids.{same_promise}
use Rattle.vx_message.specs.declared.JobResult.TheVariants as results
use Rattle.vx_call.specs.Promises.{Composite, composite_made, composite_kind, composites}
use Rattle.vx_call.specs.Completions.{Completion, Part, is_completion_of, completion_in, settled_part, settled_parts, is_success, successes, failures, earlier, first, later, last, last_of_all, settled_with, as_part, counted, joined, composed, with_composite, unsettled_made, completes, unsettled_kind, unsettled_promises, completion, completed_with, completed_made, completed_kind, completed, completions, completion_at}
use Rattle.vx_call.proofs.Lasting.{lasting_more, and_false}
use Rattle.vx_call.proofs.Each.{Each, Each-append, Each-front, Each-map, Each-filter, Each-find, weaken, accepted, lasting_each}
use Rattle.vx_call.proofs.Apart.{Apart, IsMadeApart, made_if, lasting_earlier, lasting_apart}
use Rattle.vx_call.proofs.Found.{find_none, same_number, earlier_name, later_name}

-- ## Parts

-- the parts that are settled behind an entry: those before it, and some that it settles
abbrev More : ℕ → List Part → List Part → Type 0
More n before [] = before ≡ []
More n before (part ∷ after) = ((part.at ≡ n) × More n before after) ⊎ ((rest : List Part) × (before ≡ part ∷ rest) × (part.at < n) × More n rest after)

-- what was there stays, and what is new is of this entry
abbrev Stays : ℕ → Option Part → Option Part → Type 0
Stays n None None = Unit {0}
Stays n None (Some part) = part.at ≡ n
Stays n (Some part) None = ⊥
Stays n (Some part) (Some other) = (part ≡ other) × (part.at < n)

stays_new : (n : ℕ) (part : Part) (before after : Option Part) → part.at ≡ n → Stays n before after → Stays n before (Some (earlier part after))
stays_new n part None None is_n stays = is_n
stays_new n part None (Some other) is_n stays = elim (nat_le part.at other.at) as (λ b. (cond b part other).at ≡ n) [ true ↦ is_n | false ↦ stays ]
stays_new n part (Some old) None is_n stays = absurd stays
stays_new n part (Some old) (Some other) is_n stays =
    let same : old.at ≡ other.at = ap (λ (p : Part). p.at) stays.0 in
    let less : old.at < n = stays.1 in
    let test : nat_le part.at other.at ≡ false = grind (arith, nat_tests) in
    let P : Part → Type 0 = λ p. (old ≡ p) × (old.at < n) in
    subst P (sym (ap (λ b. cond b part other) test)) stays

stays_old : (n : ℕ) (part : Part) (before after : Option Part) → part.at < n → Stays n before after → Stays n (Some (earlier part before)) (Some (earlier part after))
stays_old n part None None less stays = (refl, less)
stays_old n part None (Some other) less stays =
    let is_n : other.at ≡ n = stays in
    let test : nat_le part.at other.at ≡ true = grind (arith, nat_tests) in
    let P : Part → Type 0 = λ p. (part ≡ p) × (part.at < n) in
    subst P (sym (ap (λ b. cond b part other) test)) (refl, less)
stays_old n part (Some old) None less stays = absurd stays
stays_old n part (Some old) (Some other) less stays =
    let P : Part → Type 0 = λ p. (earlier part (Some old) ≡ earlier part (Some p)) × ((earlier part (Some old)).at < n) in
    subst P stays.0 (refl, elim (nat_le part.at old.at) as (λ b. (cond b part old).at < n) [ true ↦ less | false ↦ stays.1 ])

-- the first of those that pass a test
first_stays : (n : ℕ) (p : Part → Bool) (before after : List Part) → More n before after → Stays n (first (filter p before)) (first (filter p after))
first_stays n p before [] more =
    let P : List Part → Type 0 = λ parts. Stays n (first (filter p parts)) None in
    subst P (sym more) tt
first_stays n p before (part ∷ after) more =
    elim more as (λ _. Stays n (first (filter p before)) (first (cond (p part) (part ∷ filter p after) (filter p after)))) [
      | inl new ↦
          (elim (p part) as (λ b. Stays n (first (filter p before)) (first (cond b (part ∷ filter p after) (filter p after)))) [
            | true ↦ stays_new n part (first (filter p before)) (first (filter p after)) new.0 (first_stays n p before after new.1)
            | false ↦ first_stays n p before after new.1
          ])
      | inr old ↦
          (let rest = old.0 in
          let P : List Part → Type 0 = λ parts. Stays n (first (filter p parts)) (first (cond (p part) (part ∷ filter p after) (filter p after))) in
          subst P (sym old.1)
          (elim (p part) as (λ b. Stays n (first (cond b (part ∷ filter p rest) (filter p rest))) (first (cond b (part ∷ filter p after) (filter p after)))) [
            | true ↦ stays_old n part (first (filter p rest)) (first (filter p after)) old.2 (first_stays n p rest after old.3)
            | false ↦ first_stays n p rest after old.3
          ]))
    ]

-- ## Once all parts are settled

-- of an entry before
abbrev IsBelow : ℕ → Option Part → Type 0
IsBelow n None = Unit {0}
IsBelow n (Some part) = part.at < n

abbrev IsHere : ℕ → Option Part → Type 0
IsHere n None = ⊥
IsHere n (Some part) = part.at ≡ n

last_below : (n : ℕ) (parts : List Part) → Each (λ (part : Part). part.at < n) parts → IsBelow n (last parts)
last_below n [] each = tt
last_below n (part ∷ others) each =
    elim (last others) as (λ o. IsBelow n o → (later part o).at < n) [
      | None ↦ λ below. each.0
      | Some other ↦ λ below. elim (nat_lt other.at part.at) as (λ b. (cond b part other).at < n) [ true ↦ each.0 | false ↦ below ]
    ] (last_below n others each.1)

first_below : (n : ℕ) (parts : List Part) → Each (λ (part : Part). part.at < n) parts → IsBelow n (first parts)
first_below n [] each = tt
first_below n (part ∷ others) each =
    elim (first others) as (λ o. IsBelow n o → (earlier part o).at < n) [
      | None ↦ λ below. each.0
      | Some other ↦ λ below. elim (nat_le part.at other.at) as (λ b. (cond b part other).at < n) [ true ↦ each.0 | false ↦ below ]
    ] (first_below n others each.1)

new_last : (n : ℕ) (part : Part) (o : Option Part) → part.at ≡ n → IsBelow n o ⊎ IsHere n o → (later part o).at ≡ n
new_last n part None is_n either = is_n
new_last n part (Some other) is_n either =
    elim either as (λ _. (cond (nat_lt other.at part.at) part other).at ≡ n) [
      | inl below ↦
          (let less : other.at < n = below in
          let test : nat_lt other.at part.at ≡ true = grind (arith, nat_tests) in
          ap (λ b. (cond b part other).at) test ∙ is_n)
      | inr here ↦ elim (nat_lt other.at part.at) as (λ b. (cond b part other).at ≡ n) [ true ↦ is_n | false ↦ here ]
    ]

old_last : (n : ℕ) (part : Part) (o : Option Part) → part.at < n → IsHere n o → (later part o).at ≡ n
old_last n part None less here = absurd here
old_last n part (Some other) less here =
    let is_n : other.at ≡ n = here in
    let test : nat_lt other.at part.at ≡ false = grind (arith, nat_tests) in
    ap (λ b. (cond b part other).at) test ∙ here

-- no more were settled, or the last one is of this entry
abbrev Grows : ℕ → List Part → List Part → Type 0
Grows n before after = ((before ≡ after) × Each (λ (part : Part). part.at < n) before) ⊎ ((length before < length after) × IsHere n (last after))

grows : (n : ℕ) (before after : List Part) → More n before after → Grows n before after
grows n before [] more = let P : List Part → Type 0 = λ parts. Grows n parts [] in subst P (sym more) (inl (refl, tt))
grows n before (part ∷ after) more =
    elim more as (λ _. Grows n before (part ∷ after)) [
      | inl new ↦
          (elim (grows n before after new.1) as (λ _. Grows n before (part ∷ after)) [
            | inl same ↦
                (let P : List Part → Type 0 = λ parts. Each (λ (p : Part). p.at < n) parts in
                let shorter : length before ≡ length after = ap length same.0 in
                inr (omega arith, new_last n part (last after) new.0 (inl (last_below n after (subst P same.0 same.1)))))
            | inr longer ↦ (let less : length before < length after = longer.0 in inr (omega arith, new_last n part (last after) new.0 (inr longer.1)))
          ])
      | inr old ↦
          (let rest = old.0 in
          let P : List Part → Type 0 = λ parts. Grows n parts (part ∷ after) in
          subst P (sym old.1)
          (elim (grows n rest after old.3) as (λ _. Grows n (part ∷ rest) (part ∷ after)) [
            | inl same ↦ inl (ap (λ parts. part ∷ parts) same.0, (old.2, same.1))
            | inr longer ↦ (let less : length rest < length after = longer.0 in inr (omega arith, old_last n part (last after) old.2 longer.1))
          ]))
    ]

-- ## Composites

-- what was settled stays so, and what is settled newly is by this entry
abbrev pub Follows : ℕ → Option Completion → Option Completion → Type 0
Follows n None None = Unit {0}
Follows n None (Some completion) = completion.at.0 ≡ n
Follows n (Some completion) None = ⊥
Follows n (Some completion) (Some other) = (completion ≡ other) × (completion.at.0 < n)

-- as the parts are: a completion by a part comes with it, or with the composite
abbrev ComesWith : ℕ → (Part → Completion) → Type 0
ComesWith own f = (part : Part) → (f part).at.0 ≡ max own part.at

max_below : (a b n : ℕ) → a < n → b < n → max a b < n
max_below a b n left right = omega arith

max_here : (a b n : ℕ) → a < n → b ≡ n → max a b ≡ n
max_here a b n left right = omega arith

part_below : (n own : ℕ) (f : Part → Completion) → ComesWith own f → own < n → (part : Part) → part.at < n → (f part).at.0 < n
part_below n own f comes less part below = let e : (f part).at.0 ≡ max own part.at = comes part in let m = max_below own part.at n less below in omega arith

part_here : (n own : ℕ) (f : Part → Completion) → ComesWith own f → own < n → (part : Part) → part.at ≡ n → (f part).at.0 ≡ n
part_here n own f comes less part here = comes part ∙ max_here own part.at n less here

-- where all that is settled was before
same_below : (n own : ℕ) (f g : Part → Completion) → ComesWith own f → ComesWith own g → own < n → (o l : Option Part) → IsBelow n o → IsBelow n l →
    Follows n (option_or (option_map f o) (option_map g l)) (option_or (option_map f o) (option_map g l))
same_below n own f g comes goes less (Some part) l below last_below = (refl, part_below n own f comes less part below)
same_below n own f g comes goes less None (Some part) below last_below = (refl, part_below n own g goes less part last_below)
same_below n own f g comes goes less None None below last_below = tt

abbrev IsNew : ℕ → Option Part → Type 0
IsNew n None = Unit {0}
IsNew n (Some part) = part.at ≡ n

-- where not all parts were settled before
either_follows : (n own : ℕ) (f g : Part → Completion) → ComesWith own f → ComesWith own g → own < n → (before after l : Option Part) → Stays n before after → IsNew n l →
    Follows n (option_or (option_map f before) None) (option_or (option_map f after) (option_map g l))
either_follows n own f g comes goes less None None None stays new = tt
either_follows n own f g comes goes less None None (Some part) stays new = part_here n own g goes less part new
either_follows n own f g comes goes less None (Some part) l stays new = part_here n own f comes less part stays
either_follows n own f g comes goes less (Some part) None l stays new = absurd stays
either_follows n own f g comes goes less (Some part) (Some other) l stays new = (ap f stays.0, part_below n own f comes less part stays.1)

last_all_below : (n count : ℕ) (parts : List Part) → Each (λ (part : Part). part.at < n) parts → IsBelow n (last_of_all count parts)
last_all_below n count parts each = elim (length parts == count) as (λ b. IsBelow n (cond b (last parts) None)) [ true ↦ last_below n parts each | false ↦ tt ]

not_all : (count : ℕ) (parts : List Part) → length parts < count → last_of_all count parts ≡ None
not_all count parts less =
    let test : (length parts == count) ≡ false = grind (arith, nat_tests) in
    ap (λ b. cond b (last parts) None) test

here_new : (n : ℕ) (o : Option Part) → IsHere n o → IsNew n o
here_new n None here = absurd here
here_new n (Some part) here = here

all_new : (n count : ℕ) (parts : List Part) → IsHere n (last parts) → IsNew n (last_of_all count parts)
all_new n count parts here = elim (length parts == count) as (λ b. IsNew n (cond b (last parts) None)) [ true ↦ here_new n (last parts) here | false ↦ tt ]

filter_below : (n : ℕ) (p : Part → Bool) (parts : List Part) → Each (λ (part : Part). part.at < n) parts → Each (λ (part : Part). part.at < n) (filter p parts)
filter_below n p [] each = tt
filter_below n p (part ∷ others) each =
    elim (p part) as (λ b. Each (λ (q : Part). q.at < n) (cond b (part ∷ filter p others) (filter p others))) [ true ↦ (each.0, filter_below n p others each.1) | false ↦ filter_below n p others each.1 ]

-- parts that were settled before settle a composite as before
composed_same : (n : ℕ) (c : Composite) (way : Compose) (count : ℕ) (parts : List Part) → c.id.0.0 < n → Each (λ (part : Part). part.at < n) parts →
    Follows n (composed c way count parts) (composed c way count parts)
composed_same n c ways.All count parts less each =
    same_below n c.id.0.0 (as_part c) (settled_with c (counted count)) (λ part. refl) (λ part. refl) less (first (failures parts)) (last_of_all count parts)
    (first_below n (failures parts) (filter_below n _ parts each)) (last_all_below n count parts each)
composed_same n c ways.Any count parts less each =
    same_below n c.id.0.0 (λ (part : Part). settled_with c (counted part.place) part) (as_part c) (λ part. refl) (λ part. refl) less (first (successes parts)) (last_of_all count parts)
    (first_below n (successes parts) (filter_below n _ parts each)) (last_all_below n count parts each)
composed_same n c ways.Join count parts less each =
    same_below n c.id.0.0 (as_part c) (settled_with c (joined (first (failures parts)) count)) (λ part. refl) (λ part. refl) less None (last_of_all count parts) tt (last_all_below n count parts each)

abbrev composed_or : Composite → Compose → ℕ → Option Part → Option Part → Option Part → Option Completion
composed_or c ways.All count failed succeeded l = option_or (option_map (as_part c) failed) (option_map (settled_with c (counted count)) l)
composed_or c ways.Any count failed succeeded l = option_or (option_map (λ (part : Part). settled_with c (counted part.place) part) succeeded) (option_map (as_part c) l)
composed_or c ways.Join count failed succeeded l = option_map (settled_with c (joined failed count)) l

composed_by : (c : Composite) (way : Compose) (count : ℕ) (parts : List Part) → composed c way count parts ≡ composed_or c way count (first (failures parts)) (first (successes parts)) (last_of_all count parts)
composed_by c ways.All count parts = refl
composed_by c ways.Any count parts = refl
composed_by c ways.Join count parts = refl

composed_follows : (n : ℕ) (c : Composite) (way : Compose) (count : ℕ) (before after : List Part) → c.id.0.0 < n → length after ≤ count → More n before after →
    Follows n (composed c way count before) (composed c way count after)
composed_follows n c way count before after less few more =
    elim (grows n before after more) as (λ _. Follows n (composed c way count before) (composed c way count after)) [
      | inl same ↦ (let P : List Part → Type 0 = λ parts. Follows n (composed c way count before) (composed c way count parts) in subst P same.0 (composed_same n c way count before less same.1))
      | inr longer ↦
          (let shorter : length before < length after = longer.0 in
          let P : Option Completion → Type 0 = λ o. Follows n o (composed c way count after) in
          subst P (sym (composed_by c way count before ∙ ap (composed_or c way count (first (failures before)) (first (successes before))) (not_all count before (omega arith))))
          (elim way as (λ w. Follows n (composed_or c w count (first (failures before)) (first (successes before)) None) (composed c w count after)) [
            | ways.All ↦ either_follows n c.id.0.0 (as_part c) (settled_with c (counted count)) (λ part. refl) (λ part. refl) less (first (failures before)) (first (failures after)) (last_of_all count after)
                (first_stays n (λ (part : Part). not (is_success part.result)) before after more) (all_new n count after longer.1)
            | ways.Any ↦ either_follows n c.id.0.0 (λ (part : Part). settled_with c (counted part.place) part) (as_part c) (λ part. refl) (λ part. refl) less (first (successes before)) (first (successes after)) (last_of_all count after)
                (first_stays n (λ (part : Part). is_success part.result) before after more) (all_new n count after longer.1)
            | ways.Join ↦ either_follows n c.id.0.0 (as_part c) (settled_with c (joined (first (failures after)) count)) (λ part. refl) (λ part. refl) less None None (last_of_all count after) tt (all_new n count after longer.1)
          ]))
    ]

-- ## Parts of a composite

-- the same promises are settled, and some more by this entry
abbrev pub Grown : ℕ → List Completion → List Completion → Type 0
Grown n before after = (id : PromiseId) → Follows n (completion_in before id) (completion_in after id)

more_parts : (n place : ℕ) (o p : Option Completion) (before after : List Part) → Follows n o p → More n before after →
    More n (option_to_list (option_map (settled_part place) o) ++ before) (option_to_list (option_map (settled_part place) p) ++ after)
more_parts n place None None before after follows more = more
more_parts n place None (Some new) before after follows more = inl (follows, more)
more_parts n place (Some old) None before after follows more = absurd follows
more_parts n place (Some old) (Some other) before after follows more =
    let P : Completion → Type 0 = λ c. c.at.0 < n in
    inr (before, ap (λ c. settled_part place c ∷ before) follows.0, subst P follows.0 follows.1, more)

parts_more : (n : ℕ) (before after : List Completion) → Grown n before after → (place : ℕ) (ids : List PromiseId) → More n (settled_parts before place ids) (settled_parts after place ids)
parts_more n before after grown place [] = refl
parts_more n before after grown place (id ∷ others) =
    more_parts n place (completion_in before id) (completion_in after id) (settled_parts before (place + 1) others) (settled_parts after (place + 1) others) (grown id) (parts_more n before after grown (place + 1) others)

few_parts : (place : ℕ) (o : Option Completion) (parts : List Part) (count : ℕ) → length parts ≤ count → length (option_to_list (option_map (settled_part place) o) ++ parts) ≤ count + 1
few_parts place None parts count few = omega arith
few_parts place (Some c) parts count few = omega arith

parts_few : (completions : List Completion) (place : ℕ) (ids : List PromiseId) → length (settled_parts completions place ids) ≤ length ids
parts_few completions place [] = omega arith
parts_few completions place (id ∷ others) =
    let few = few_parts place (completion_in completions id) (settled_parts completions (place + 1) others) (length others) (parts_few completions (place + 1) others) in
    omega arith

-- ## One more composite

abbrev pub IsOf : PromiseId → Option Completion → Type 0
IsOf id None = Unit {0}
IsOf id (Some completion) = completion.promise ≡ id

either_of : (c : Composite) (f g : Part → Completion) → ((part : Part) → (f part).promise ≡ c.id) → ((part : Part) → (g part).promise ≡ c.id) → (o l : Option Part) → IsOf c.id (option_or (option_map f o) (option_map g l))
either_of c f g of_f of_g (Some part) l = of_f part
either_of c f g of_f of_g None (Some part) = of_g part
either_of c f g of_f of_g None None = tt

pub composed_of : (c : Composite) (way : Compose) (count : ℕ) (parts : List Part) → IsOf c.id (composed c way count parts)
composed_of c ways.All count parts = either_of c (as_part c) (settled_with c (counted count)) (λ part. refl) (λ part. refl) (first (failures parts)) (last_of_all count parts)
composed_of c ways.Any count parts = either_of c (λ (part : Part). settled_with c (counted part.place) part) (as_part c) (λ part. refl) (λ part. refl) (first (successes parts)) (last_of_all count parts)
composed_of c ways.Join count parts =
    either_of c (as_part c) (settled_with c (joined (first (failures parts)) count)) (λ part. refl) (λ part. refl) None (last_of_all count parts)

abbrev pub settled_as : List Completion → Composite → Option Completion
settled_as completions c = composed c c.way (length c.parts) (settled_parts completions 0 c.parts)

pub same_promise-true : (a b : PromiseId) → same_promise a b ≡ true → a ≡ b
same_promise-true a b same = let named : ℕ → PromiseId = λ n. record { 0 = record { 0 = n } } in ap named (eqb-true a.0.0 b.0.0 same)

-- the composite is not settled among these
abbrev pub Lacks : List Completion → Composite → Type 0
Lacks completions c = completion_in completions c.id ≡ None

pub other_one : (own id : PromiseId) (z : Option Completion) → IsOf own z → same_promise id own ≡ false → completion_in (option_to_list z) id ≡ None
other_one own id None is_of differs = refl
other_one own id (Some w) is_of differs = ap (λ b. cond b (Some w) None) (ap (same_promise id) is_of ∙ differs)

same_one : (n : ℕ) (id : PromiseId) (z y : Option Completion) → Follows n z y → Follows n (completion_in (option_to_list z) id) (completion_in (option_to_list y) id)
same_one n id None None follows = tt
same_one n id None (Some w) follows = elim (same_promise id w.promise) as (λ b. Follows n None (cond b (Some w) None)) [ true ↦ follows | false ↦ tt ]
same_one n id (Some w) None follows = absurd follows
same_one n id (Some w) (Some v) follows =
    let P : Completion → Type 0 = λ x. Follows n (completion_in (w ∷ []) id) (completion_in (x ∷ []) id) in
    subst P follows.0 (elim (same_promise id w.promise) as (λ b. Follows n (cond b (Some w) None) (cond b (Some w) None)) [ true ↦ (refl, follows.1) | false ↦ tt ])

step_follows : (n : ℕ) (own id : PromiseId) (a b z y : Option Completion) → Follows n a b → Follows n z y → IsOf own z → (same_promise id own ≡ true → b ≡ None) →
    Follows n (option_or a (completion_in (option_to_list z) id)) (option_or b (completion_in (option_to_list y) id))
step_follows n own id None None z y follows settles is_of lacks = same_one n id z y settles
step_follows n own id None (Some new) z y follows settles is_of lacks =
    let differs : same_promise id own ≡ false = elim (same_promise id own) as (λ b. (b ≡ true → Some new ≡ None) → b ≡ false) [ true ↦ λ none. (let e = none refl in absurd cc) | false ↦ λ none. refl ] lacks in
    let P : Option Completion → Type 0 = λ o. Follows n o (Some new) in
    subst P (sym (other_one own id z is_of differs)) follows
step_follows n own id (Some old) None z y follows settles is_of lacks = absurd follows
step_follows n own id (Some old) (Some other) z y follows settles is_of lacks = follows

pub in_both : (xs ys : List Completion) (id : PromiseId) → completion_in (xs ++ ys) id ≡ option_or (completion_in xs id) (completion_in ys id)
in_both xs ys id = find-append (is_completion_of id) xs ys

with_one : (n : ℕ) (before after : List Completion) (c : Composite) → c.id.0.0 < n → Lacks after c → Grown n before after → Grown n (with_composite before c) (with_composite after c)
with_one n before after c less lacks grown id =
    let z = settled_as before c in
    let y = settled_as after c in
    let settles : Follows n z y = composed_follows n c c.way (length c.parts) (settled_parts before 0 c.parts) (settled_parts after 0 c.parts) less (parts_few after 0 c.parts) (parts_more n before after grown 0 c.parts) in
    let P : Option Completion → Type 0 = λ o. Follows n o (completion_in (after ++ option_to_list y) id) in
    let Q : Option Completion → Type 0 = λ o. Follows n (option_or (completion_in before id) (completion_in (option_to_list z) id)) o in
    subst P (sym (in_both before (option_to_list z) id))
    (subst Q (sym (in_both after (option_to_list y) id))
    (step_follows n c.id id (completion_in before id) (completion_in after id) z y (grown id) settles (composed_of c c.way (length c.parts) (settled_parts before 0 c.parts))
    (λ same. ap (completion_in after) (same_promise-true id c.id same) ∙ lacks)))

-- ## All composites

abbrev pub same_composite : Composite → Composite → Bool
same_composite a b = same_promise a.id b.id

pub still_lacks : (after : List Completion) (c : Composite) (others : List Composite) → Each (λ other. same_composite c other ≡ false) others → Each (Lacks after) others → Each (Lacks (with_composite after c)) others
still_lacks after c [] apart lacks = tt
still_lacks after c (other ∷ others) apart lacks = (
  in_both after (option_to_list (settled_as after c)) other.id ∙ ap (λ o. option_or o (completion_in (option_to_list (settled_as after c)) other.id)) lacks.0
      ∙ other_one c.id other.id (settled_as after c) (composed_of c c.way (length c.parts) (settled_parts after 0 c.parts)) (same_number other.id.0.0 c.id.0.0 ∙ apart.0),
  still_lacks after c others apart.1 lacks.1,
)

with_all : (n : ℕ) (all : List Composite) (before after : List Completion) → Each (λ (c : Composite). c.id.0.0 < n) all → Each (Lacks after) all → Apart same_composite all → Grown n before after →
    Grown n (fold with_composite before all) (fold with_composite after all)
with_all n [] before after less lacks apart grown = grown
with_all n (c ∷ others) before after less lacks apart grown =
    with_all n others (with_composite before c) (with_composite after c) less.1 (still_lacks after c others apart.0 lacks.1) apart.1 (with_one n before after c less.0 lacks.0 grown)

-- ## A composite of this entry

no_later : (n : ℕ) (o p : Option Completion) → Follows n o p → (place : ℕ) (parts : List Part) → Each (λ (part : Part). part.at < n + 1) parts → Each (λ (part : Part). part.at < n + 1) (option_to_list (option_map (settled_part place) p) ++ parts)
no_later n o None follows place parts each = each
no_later n None (Some new) follows place parts each = (let here : new.at.0 ≡ n = follows in omega arith, each)
no_later n (Some old) (Some other) follows place parts each =
    let P : Completion → Type 0 = λ c. c.at.0 < n in
    let below : other.at.0 < n = subst P follows.0 follows.1 in
    (omega arith, each)

parts_here : (n : ℕ) (before after : List Completion) → Grown n before after → (place : ℕ) (ids : List PromiseId) → Each (λ (part : Part). part.at < n + 1) (settled_parts after place ids)
parts_here n before after grown place [] = tt
parts_here n before after grown place (id ∷ others) = no_later n (completion_in before id) (completion_in after id) (grown id) place (settled_parts after (place + 1) others) (parts_here n before after grown (place + 1) others)

own_here : (n own : ℕ) (f g : Part → Completion) → ComesWith own f → ComesWith own g → own ≡ n → (o l : Option Part) → IsBelow (n + 1) o → IsBelow (n + 1) l → Follows n None (option_or (option_map f o) (option_map g l))
own_here n own f g comes goes here (Some part) l below last_below = let e : (f part).at.0 ≡ max own part.at = comes part in let less : part.at < n + 1 = below in omega arith
own_here n own f g comes goes here None (Some part) below last_below = let e : (g part).at.0 ≡ max own part.at = goes part in let less : part.at < n + 1 = last_below in omega arith
own_here n own f g comes goes here None None below last_below = tt

composed_here : (n : ℕ) (c : Composite) (way : Compose) (count : ℕ) (parts : List Part) → c.id.0.0 ≡ n → Each (λ (part : Part). part.at < n + 1) parts → Follows n None (composed c way count parts)
composed_here n c ways.All count parts here each =
    own_here n c.id.0.0 (as_part c) (settled_with c (counted count)) (λ part. refl) (λ part. refl) here (first (failures parts)) (last_of_all count parts)
    (first_below (n + 1) (failures parts) (filter_below (n + 1) _ parts each)) (last_all_below (n + 1) count parts each)
composed_here n c ways.Any count parts here each =
    own_here n c.id.0.0 (λ (part : Part). settled_with c (counted part.place) part) (as_part c) (λ part. refl) (λ part. refl) here (first (successes parts)) (last_of_all count parts)
    (first_below (n + 1) (successes parts) (filter_below (n + 1) _ parts each)) (last_all_below (n + 1) count parts each)
composed_here n c ways.Join count parts here each =
    own_here n c.id.0.0 (as_part c) (settled_with c (joined (first (failures parts)) count)) (λ part. refl) (λ part. refl) here None (last_of_all count parts) tt (last_all_below (n + 1) count parts each)

own_follows : (n : ℕ) (id : PromiseId) (a b y : Option Completion) → Follows n a b → Follows n None y → Follows n a (option_or b (completion_in (option_to_list y) id))
own_follows n id None None y follows here = same_one n id None y here
own_follows n id None (Some new) y follows here = follows
own_follows n id (Some old) None y follows here = absurd follows
own_follows n id (Some old) (Some other) y follows here = follows

with_own : (n : ℕ) (before after : List Completion) (all : List Composite) → Each (λ (c : Composite). c.id.0.0 ≡ n) all → Grown n before after → Grown n before (fold with_composite after all)
with_own n before after [] here grown = grown
with_own n before after (c ∷ others) here grown =
    with_own n before (with_composite after c) others here.1
    (λ id.
    let y = settled_as after c in
    let Q : Option Completion → Type 0 = λ o. Follows n (completion_in before id) o in
    subst Q (sym (in_both after (option_to_list y) id))
    (own_follows n id (completion_in before id) (completion_in after id) y (grown id) (composed_here n c c.way (length c.parts) (settled_parts after 0 c.parts) here.0 (parts_here n before after grown 0 c.parts))))

-- ## Names of promises

pub composites_new : (history : List Traced) (call : Call) → IsMadeApart same_composite (λ (c : Composite). c.id.0.0) (length history) (composite_made history call)
composites_new history (calls.Compose way parts) = record { keyed = (refl, tt); apart = (tt, tt) }
composites_new history _ = record { keyed = tt; apart = tt }

pub new_composites : (history : List Traced) (new : Traced) → IsMadeApart same_composite (λ (c : Composite). c.id.0.0) (length history) (made_by composite_kind history new)
new_composites history new = made_if same_composite (λ (c : Composite). c.id.0.0) (length history) (is_accepted new.entry.reply) _ (composites_new history new.entry.call)

-- no two composites have one name
pub composites_apart : (history : List Traced) → Apart same_composite (composites history)
composites_apart = lasting_apart composite_kind same_composite (λ (c : Composite). c.id.0.0) (λ a b same. eqb-true a.id.0.0 b.id.0.0 same) new_composites

pub composites_earlier : (history : List Traced) → Each (λ (c : Composite). c.id.0.0 < length history) (composites history)
composites_earlier = lasting_earlier composite_kind (λ (c : Composite). c.id.0.0) (λ history new. (new_composites history new).keyed)

pub composites-append : (history : List Traced) (new : Traced) → composites (history ++ new ∷ []) ≡ composites history ++ made_by composite_kind history new
composites-append history new = lasting_more composite_kind history new (λ c. and_false (is_accepted new.entry.reply))

-- a promise that a call settles: an entry before made it, and it is no composite
abbrev pub IsPlain : List Traced → PromiseId → Type 0
IsPlain history id = (id.0.0 < length history) × Each (λ (c : Composite). same_promise c.id id ≡ false) (composites history)

keeps_plain : (history : List Traced) (new : Traced) (id : PromiseId) → IsPlain history id → IsPlain (history ++ new ∷ []) id
keeps_plain history new id plain =
    let longer = length_push history new in
    let before : id.0.0 < length history = plain.0 in
    let Other : Composite → Type 0 = λ c. same_promise c.id id ≡ false in
    let P : List Composite → Type 0 = Each Other in (
      omega arith,
      subst P (sym (composites-append history new))
          (Each-append Other (composites history) (made_by composite_kind history new) plain.1
          (weaken (λ (c : Composite). c.id.0.0 ≡ length history) Other (made_by composite_kind history new) (λ c keyed. later_name c.id.0.0 id.0.0 (omega arith)) (new_composites history new).keyed)),
    )

plain_made : (history : List Traced) (new : Traced) (call : Call) → new.entry.call ≡ call → Each (IsPlain (history ++ new ∷ [])) (unsettled_made history call)
plain_made history new calls.NewPromise is_call =
    let longer = length_push history new in
    let Other : Composite → Type 0 = λ c. same_promise c.id (next_promise history) ≡ false in
    let P : List Composite → Type 0 = Each Other in (
      (
        omega arith,
        subst P (sym (composites-append history new))
            (Each-append Other (composites history) (made_by composite_kind history new)
            (weaken (λ (c : Composite). c.id.0.0 < length history) Other (composites history) (λ c before. earlier_name c.id.0.0 (length history) before) (composites_earlier history))
            (accepted Other (is_accepted new.entry.reply) (composite_made history new.entry.call) (λ ok. subst P (ap (composite_made history) (sym is_call)) tt))),
      ),
      tt,
    )
plain_made history new _ is_call = tt

unsettled_plain : (history : List Traced) → Each (IsPlain history) (unsettled_promises history)
unsettled_plain = lasting_each unsettled_kind IsPlain (λ history new id stays plain. keeps_plain history new id plain)
    (λ history new. accepted (IsPlain (history ++ new ∷ [])) (is_accepted new.entry.reply) _ (λ ok. plain_made history new new.entry.call refl))

abbrev pub IsPlainOne : List Traced → Completion → Type 0
IsPlainOne history completion = IsPlain history completion.promise

plain_with : (history : List Traced) (new : Traced) (call : Call) (result : JobResult) → Each (IsPlainOne (history ++ new ∷ [])) (completed_with history call result)
plain_with history new call result =
    let after = history ++ new ∷ [] in
    Each-map (IsPlainOne after) (completion history result) (filter (completes call) (unsettled_promises history))
    (Each-filter (IsPlain history) (IsPlain after) (completes call) (unsettled_promises history) (λ id passes plain. keeps_plain history new id plain) (unsettled_plain history))

plain_completed : (history : List Traced) (new : Traced) (call : Call) → Each (IsPlainOne (history ++ new ∷ [])) (completed_made history call)
plain_completed history new (calls.Complete id value) = plain_with history new (calls.Complete id value) (results.Value value)
plain_completed history new (calls.FailPromise id code) = plain_with history new (calls.FailPromise id code) (results.Fail code)
plain_completed history new _ = tt

pub completed_plain : (history : List Traced) → Each (IsPlainOne history) (completed history)
completed_plain = lasting_each completed_kind IsPlainOne (λ history new one stays plain. keeps_plain history new one.promise plain)
    (λ history new. accepted (IsPlainOne (history ++ new ∷ [])) (is_accepted new.entry.reply) _ (λ ok. plain_completed history new new.entry.call))

-- none of the composites is settled by a call
pub lack_each : (settled : List Completion) (all : List Composite) → Each (λ (one : Completion). Each (λ (c : Composite). same_promise c.id one.promise ≡ false) all) settled → Each (Lacks settled) all
lack_each settled [] each = tt
lack_each settled (c ∷ others) each = (
  find_none (is_completion_of c.id) settled (weaken (λ (one : Completion). Each (λ (k : Composite). same_promise k.id one.promise ≡ false) (c ∷ others)) (λ one. is_completion_of c.id one ≡ false) settled (λ one all. all.0) each),
  lack_each settled others (weaken (λ (one : Completion). Each (λ (k : Composite). same_promise k.id one.promise ≡ false) (c ∷ others)) (λ one. Each (λ (k : Composite). same_promise k.id one.promise ≡ false) others) settled (λ one all. all.1) each),
)

-- ## Behind one more entry

all_hold : {A : Type 0} (P : A → Type 0) → ((x : A) → P x) → (xs : List A) → Each P xs
all_hold P holds [] = tt
all_hold P holds (x ∷ xs) = (holds x, all_hold P holds xs)

abbrev IsAt : ℕ → Completion → Type 0
IsAt n one = one.at.0 ≡ n

here_with : (history : List Traced) (call : Call) (result : JobResult) → Each (IsAt (length history)) (completed_with history call result)
here_with history call result =
    let ended = filter (completes call) (unsettled_promises history) in
    Each-map (IsAt (length history)) (completion history result) ended (all_hold (λ id. IsAt (length history) (completion history result id)) (λ id. refl) ended)

completed_here : (history : List Traced) (call : Call) → Each (IsAt (length history)) (completed_made history call)
completed_here history (calls.Complete id value) = here_with history (calls.Complete id value) (results.Value value)
completed_here history (calls.FailPromise id code) = here_with history (calls.FailPromise id code) (results.Fail code)
completed_here history _ = tt

new_completed : (history : List Traced) (new : Traced) → Each (IsAt (length history)) (made_by completed_kind history new)
new_completed history new = accepted (IsAt (length history)) (is_accepted new.entry.reply) _ (λ ok. completed_here history new.entry.call)

completed_earlier : (history : List Traced) → Each (λ (one : Completion). one.at.0 < length history) (completed history)
completed_earlier = lasting_earlier completed_kind (λ (one : Completion). one.at.0) new_completed

two_follow : (n : ℕ) (a b : Option Completion) → ((one : Completion) → a ≡ Some one → one.at.0 < n) → ((one : Completion) → b ≡ Some one → one.at.0 ≡ n) → Follows n a (option_or a b)
two_follow n (Some one) b below here = (refl, below one refl)
two_follow n None (Some one) below here = here one refl
two_follow n None None below here = tt

calls_follow : (n : ℕ) (before made : List Completion) → Each (λ (one : Completion). one.at.0 < n) before → Each (IsAt n) made → Grown n before (before ++ made)
calls_follow n before made below here id =
    let P : Option Completion → Type 0 = λ o. Follows n (completion_in before id) o in
    subst P (sym (in_both before made id))
    (two_follow n (completion_in before id) (completion_in made id) (λ one found. Each-find (λ (x : Completion). x.at.0 < n) (is_completion_of id) before one below found) (λ one found. Each-find (IsAt n) (is_completion_of id) made one here found))

kept : (n : ℕ) (one : Completion) (o : Option Completion) → Follows n (Some one) o → o ≡ Some one
kept n one None follows = absurd follows
kept n one (Some other) follows = ap (λ c. Some c) (sym follows.0)

-- what is settled behind one more entry: all that was, as it was, and what this entry settles
pub completions_follow : (history : List Traced) (new : Traced) → Grown (length history) (completions history) (completions (history ++ new ∷ []))
completions_follow history new =
    let after = history ++ new ∷ [] in
    let n = length history in
    let made = made_by composite_kind history new in
    let settled = completed history ++ made_by completed_kind history new in
    let whole : completed after ≡ settled = lasting_more completed_kind history new (λ c. and_false (is_accepted new.entry.reply)) in
    let R : List Completion → Type 0 = λ all. Each (IsPlainOne after) all in
    let plain : Each (IsPlainOne after) settled = subst R whole (completed_plain after) in
    let Apart_from : List Composite → Type 0 = λ all. Each (λ (one : Completion). Each (λ (c : Composite). same_promise c.id one.promise ≡ false) all) settled in
    let apart : Apart_from (composites after) = weaken (IsPlainOne after) (λ (one : Completion). Each (λ (c : Composite). same_promise c.id one.promise ≡ false) (composites after)) settled (λ one is_plain. is_plain.1) plain in
    let lacks : Each (Lacks settled) (composites history) =
    Each-front (Lacks settled) (composites history) made (lack_each settled (composites history ++ made) (subst Apart_from (composites-append history new) apart)) in
    let old : Grown n (completions history) (fold with_composite settled (composites history)) =
    with_all n (composites history) (completed history) settled (composites_earlier history) lacks (composites_apart history)
    (calls_follow n (completed history) (made_by completed_kind history new) (completed_earlier history) (new_completed history new)) in
    let all : Grown n (completions history) (fold with_composite (fold with_composite settled (composites history)) made) =
    with_own n (completions history) (fold with_composite settled (composites history)) made (new_composites history new).keyed old in
    let P : List Completion → Type 0 = Grown n (completions history) in
    subst P
    (sym (ap (λ xs. fold with_composite xs (composites after)) whole ∙ ap (fold with_composite settled) (composites-append history new) ∙ fold-append with_composite settled (composites history) made)) all

-- a promise stays settled as it was first
pub stays_settled : (history : List Traced) (new : Traced) (id : PromiseId) (one : Completion) → completion_at history id ≡ Some one → completion_at (history ++ new ∷ []) id ≡ Some one
stays_settled history new id one was =
    let n = length history in
    let P : Option Completion → Type 0 = λ o. Follows n o (completion_at (history ++ new ∷ []) id) in
    kept n one (completion_at (history ++ new ∷ []) id) (subst P was (completions_follow history new id))

-- a promise that is settled behind an entry, and was not before it, is settled by this entry
pub settled_here : (history : List Traced) (new : Traced) (id : PromiseId) (one : Completion) → completion_at history id ≡ None → completion_at (history ++ new ∷ []) id ≡ Some one → one.at.0 ≡ length history
settled_here history new id one was is =
    let n = length history in
    let P : Option Completion → Type 0 = λ o. Follows n o (completion_at (history ++ new ∷ []) id) in
    let Q : Option Completion → Type 0 = λ o. Follows n None o in
    subst Q is (subst P was (completions_follow history new id))
