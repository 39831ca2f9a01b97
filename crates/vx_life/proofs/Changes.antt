-- A loop that goes over a list's elements and writes each as f makes it.
use Rattle.std.proofs.Common.{◌≡◌, ℕ, ◌+◌, ◌<◌, List, ◌++◌, length, map, take, drop, set, get_or, ap, sym, ◌∙◌, subst}
use Rattle.std.proofs.lemmas.List.{get_or_default}
use Rattle.std.proofs.lemmas.List.Edits.{map_over_more}

-- so far as the loop has come
abbrev pub IsChanged : {X : Type 0} → (X → X) → List X → ℕ → List X → Type 0
IsChanged f xs i ys = ys ≡ map f (take i xs) ++ drop i xs

pub changed_more : {X : Type 0} (f : X → X) (xs ys zs : List X) (i : ℕ) (d y : X) → i < length xs → length ys ≡ length xs → IsChanged f xs i ys → f (get_or ys i d) ≡ y → zs ≡ set ys i y → IsChanged f xs (i + 1) zs
changed_more {X} f xs ys zs i d y inside same done changes sets =
    let x : X = get_or ys i d in
    let within : i < length ys = subst (λ n. i < n) (sym same) inside in
    sets ∙ ap (set ys i) (sym changes) ∙ map_over_more f xs ys i x inside done (get_or_default ys i d x within)
