-- A loop that goes over a list's elements and writes each as f makes it.
use Rattle.std.proofs.Common.{◌≡◌, ℕ, ◌+◌, ◌<◌, List, [], ◌∷◌, ◌++◌, length, map, take, drop, set, get_or, refl, ap, sym, ◌∙◌, arith}
use Rattle.std.proofs.Math.Seq.{take-append_seam}
use Rattle.std.proofs.lemmas.List.{get_or_default}
use Rattle.std.proofs.lemmas.List.Edits.{map_over_more}

-- so far as the loop has come
abbrev pub IsChanged : {X : Type 0} → (X → X) → List X → ℕ → List X → Type 0
IsChanged f xs i ys = ys ≡ map f (take i xs) ++ drop i xs

pub changed_more : {X : Type 0} (f : X → X) (xs ys zs : List X) (i : ℕ) (x y : X) → i < length xs → IsChanged f xs i ys → x ≡ get_or ys i x → f x ≡ y → zs ≡ set ys i y → IsChanged f xs (i + 1) zs
changed_more f xs ys zs i x y inside done here changes sets = sets ∙ ap (set ys i) (sym changes) ∙ map_over_more f xs ys i x inside done here

-- ... where the element is read as it stands
pub changed_there : {X : Type 0} (f : X → X) (xs ys zs : List X) (i : ℕ) (d y : X) → i < length xs → length ys ≡ length xs → IsChanged f xs i ys → f (get_or ys i d) ≡ y → zs ≡ set ys i y → IsChanged f xs (i + 1) zs
changed_there f xs ys zs i d y inside same done changes sets = changed_more f xs ys zs i (get_or ys i d) y inside done (get_or_default ys i d (get_or ys i d) (omega arith)) changes sets

-- what is written back of a list that was lent as a whole
pub written_back : {X : Type 0} (xs ys : List X) (n : ℕ) → n ≡ length xs → take n (xs ++ drop (length xs) ys) ≡ xs
written_back xs ys n long = ap (λ k. take k (xs ++ drop (length xs) ys)) long ∙ take-append_seam xs (drop (length xs) ys)

none_left : {X : Type 0} (f : X → X) (xs : List X) → map f (take (length xs) xs) ++ drop (length xs) xs ≡ map f xs
none_left f [] = refl
none_left f (x ∷ xs) = ap (λ ys. f x ∷ ys) (none_left f xs)

-- ... and to the end
pub changed_all : {X : Type 0} (f : X → X) (xs ys : List X) (i : ℕ) → IsChanged f xs i ys → i ≡ length xs → ys ≡ map f xs
changed_all f xs ys i done end = done ∙ ap (λ n. map f (take n xs) ++ drop n xs) end ∙ none_left f xs
