-- Lists of items, by the items' numbers.
use Rattle.std.specs.Prelude.{ℕ, ◌+◌, ◌<◌, List, [], ◌∷◌, length, cond, nat_eq, Option, Some, None, if◌then◌else◌}

abbrev pub one : ℕ → ℕ → ℕ
one x y = cond (nat_eq x y) 1 0

-- how often the item stands in the list
abbrev pub count : ℕ → List ℕ → ℕ
count x [] = 0
count x (y ∷ ys) = one x y + count x ys

-- how often the item stands in the lists
abbrev pub total : ℕ → List (List ℕ) → ℕ
total x [] = 0
total x (list ∷ lists) = count x list + total x lists

-- how many items stand in the lists
abbrev pub total_len : List (List ℕ) → ℕ
total_len [] = 0
total_len (list ∷ lists) = length list + total_len lists

-- the list without the item
abbrev pub without : ℕ → List ℕ → List ℕ
without x [] = []
without x (y ∷ ys) = if nat_eq x y then without x ys else y ∷ without x ys

-- the list with the item right before another one, or at the end
abbrev pub with_before : Option ℕ → ℕ → List ℕ → List ℕ
with_before before x [] = x ∷ []
with_before None x (y ∷ ys) = y ∷ with_before None x ys
with_before (Some z) x (y ∷ ys) = if nat_eq z y then x ∷ y ∷ ys else y ∷ with_before (Some z) x ys

abbrev pub first_of : List ℕ → Option ℕ
first_of [] = None
first_of (x ∷ xs) = Some x

abbrev pub last_of : List ℕ → Option ℕ
last_of [] = None
last_of (x ∷ []) = Some x
last_of (x ∷ y ∷ ys) = last_of (y ∷ ys)

-- the other item stands in the list, if one is named
abbrev pub HasBefore : Option ℕ → List ℕ → Type 0
HasBefore None xs = Unit {0}
HasBefore (Some z) xs = 0 < count z xs
