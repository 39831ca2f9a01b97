-- The images of a list.
use Rattle.std.proofs.Common.{◌≡◌, List, [], ◌∷◌, refl, ap, ◌∙◌}
use Rattle.std.specs.Prelude.{Bool, true, false, cond, map, filter, find, Some}
use Rattle.std.specs.Option.{option_map}
use Rattle.vx_call.proofs.Each.{Each}

pub map-map : {A B C : Type 0} (f : B → C) (g : A → B) (all : List A) → map f (map g all) ≡ map (λ x. f (g x)) all
map-map f g [] = refl
map-map f g (x ∷ others) = ap (λ ys. f (g x) ∷ ys) (map-map f g others)

pub map_each : {A B : Type 0} (f g : A → B) (xs : List A) → Each (λ x. f x ≡ g x) xs → map f xs ≡ map g xs
map_each f g [] same = refl
map_each f g (x ∷ xs) same = ap (λ y. y ∷ map f xs) same.0 ∙ ap (λ ys. g x ∷ ys) (map_each f g xs same.1)

-- to find among images is to find by a test that agrees, and then to take the image
pub find-map : {X Y : Type 0} (f : X → Y) (p : X → Bool) (q : Y → Bool) → ((x : X) → q (f x) ≡ p x) → (xs : List X) → find q (map f xs) ≡ option_map f (find p xs)
find-map f p q same [] = refl
find-map f p q same (x ∷ xs) =
    ap (λ b. cond b (Some (f x)) (find q (map f xs))) (same x)
    ∙ elim (p x) as (λ b. cond b (Some (f x)) (find q (map f xs)) ≡ option_map f (cond b (Some x) (find p xs))) [ true ↦ refl | false ↦ find-map f p q same xs ]

-- to select among images is to select by a test that agrees, and then to take the images
pub filter_mapped : {X Y : Type 0} (p : Y → Bool) (q : X → Bool) (f : X → Y) (xs : List X) → Each (λ x. p (f x) ≡ q x) xs → filter p (map f xs) ≡ map f (filter q xs)
filter_mapped p q f [] agree = refl
filter_mapped p q f (x ∷ xs) agree =
    ap (λ b. cond b (f x ∷ filter p (map f xs)) (filter p (map f xs))) agree.0
    ∙ elim (q x) as (λ b. cond b (f x ∷ filter p (map f xs)) (filter p (map f xs)) ≡ map f (cond b (x ∷ filter q xs) (filter q xs))) [
      | true ↦ ap (λ ys. f x ∷ ys) (filter_mapped p q f xs agree.1)
      | false ↦ filter_mapped p q f xs agree.1
    ]
