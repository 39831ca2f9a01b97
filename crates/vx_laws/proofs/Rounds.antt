-- Rounds: items of a list by a count that goes up, modulo the list's length.
use Rattle.std.proofs.Common.{◌≡◌, ℕ, ◌+◌, ◌*◌, ◌-◌, ◌/◌, ◌%◌, ◌<◌, ◌≤◌, zero, suc, List, [], ◌∷◌, ◌++◌, length, get_or, take, drop, refl, ap, sym, ◌∙◌, subst, append_assoc, arith}
use Rattle.std.specs.Prelude.{slice_get}
use Rattle.std.specs.Option.{option_to_list}
use Rattle.std.proofs.Math.Nat.{mod-lt, mod-add-div'}
use Rattle.std.proofs.lemmas.Nat.{mod-mul-add}
use Rattle.std.proofs.Math.Seq.{drop-cons}
use Rattle.std.proofs.lemmas.List.{take_all, length-drop}
use Rattle.std.proofs.lemmas.Option.{slice_get-get_or}

-- the item whose turn it is after so many choices
abbrev pub turn : {A : Type 0} → List A → ℕ → List A
turn xs count = option_to_list (slice_get xs (count % length xs))

-- the items of so many turns, after so many choices
abbrev pub turns : {A : Type 0} → List A → ℕ → ℕ → List A
turns xs count zero = []
turns xs count (suc many) = turn xs count ++ turns xs (suc count) many

pub turns-add : {A : Type 0} (xs : List A) (count n m : ℕ) → turns xs count (n + m) ≡ turns xs count n ++ turns xs (count + n) m
turns-add xs count zero m =
    let none : 0 + m ≡ m = omega arith in
    let same : count ≡ count + 0 = omega arith in
    ap (turns xs count) none ∙ ap (λ k. turns xs k m) same
turns-add {A} xs count (suc n) m =
    let P : ℕ → Type 0 = λ k. turns xs count k ≡ turns xs count (suc n) ++ turns xs (count + suc n) m in
    let e : suc (n + m) ≡ suc n + m = omega arith in
    let shift : suc count + n ≡ count + suc n = omega arith in
    subst P e
    (ap (λ (l : List A). turn xs count ++ l) (turns-add xs (suc count) n m ∙ ap (λ k. turns xs (suc count) n ++ turns xs k m) shift)
    ∙ sym (append_assoc (turn xs count) (turns xs (suc count) n) (turns xs (count + suc n) m)))

-- turns that don't come to the end are a part of the list
turns_within : {A : Type 0} (xs : List A) (rounds place many : ℕ) → place + many ≤ length xs → turns xs (rounds * length xs + place) many ≡ take many (drop place xs)
turns_within xs rounds place zero within = refl
turns_within [] rounds place (suc many) within = absurd (omega arith)
turns_within {A} (x ∷ rest) rounds place (suc many) within =
    let xs = x ∷ rest in
    let lt : place < length xs = omega arith in
    let at : (rounds * length xs + place) % length xs ≡ place = mod-mul-add rounds (length xs) place lt in
    let here : turn xs (rounds * length xs + place) ≡ get_or xs place x ∷ [] = ap (λ k. option_to_list (slice_get xs k)) at ∙ ap option_to_list (slice_get-get_or xs place x lt) in
    let next : suc (rounds * length xs + place) ≡ rounds * length xs + suc place = omega arith in
    ap (λ (l : List A). l ++ turns xs (suc (rounds * length xs + place)) many) here
    ∙ ap (λ (l : List A). get_or xs place x ∷ l) (ap (λ k. turns xs k many) next ∙ turns_within xs rounds (suc place) many (omega arith))
    ∙ sym (ap (take (suc many)) (drop-cons xs place x lt))

-- as many turns as there are items: all from the one whose turn it is, and those before it
pub turns_round : {A : Type 0} (xs : List A) (count : ℕ) → 0 < length xs → turns xs count (length xs) ≡ drop (count % length xs) xs ++ take (count % length xs) xs
turns_round {A} xs count some =
    let n = length xs in
    let place = count % n in
    let rounds = count / n in
    let lt : place < n = mod-lt count some in
    let whole : rounds * n + place ≡ count = (let e = mod-add-div' count n in omega arith) in
    let left : ℕ = n - place in
    let all : left + place ≡ n = omega arith in
    let wrapped : count + left ≡ suc rounds * n + 0 = grind arith in
    let first : turns xs count left ≡ drop place xs =
    ap (λ k. turns xs k left) (sym whole) ∙ turns_within xs rounds place left (omega arith) ∙ take_all left (drop place xs) (omega (arith, length-drop place xs)) in
    let second : turns xs (count + left) place ≡ take place xs = ap (λ k. turns xs k place) wrapped ∙ turns_within xs (suc rounds) 0 place (omega arith) in
    ap (turns xs count) (sym all) ∙ turns-add xs count left place ∙ ap (λ (l : List A). l ++ turns xs (count + left) place) first ∙ ap (λ (l : List A). drop place xs ++ l) second
