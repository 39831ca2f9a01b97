-- Lists that are filtered, mapped and searched.
use Rattle.std.proofs.Common.{◌≡◌, List, [], ◌∷◌, refl, ap, ◌∙◌}
use Rattle.std.specs.Prelude.{Bool, true, false, cond, not, ◌&&◌, ◌||◌, filter, find, map, is_some, is_none, Option, None, Some}
use Rattle.std.specs.List.{list_any}
use Rattle.std.specs.Option.{option_map, option_or}
use Rattle.vx_call.proofs.Each.{Each}

pub or_false : (a : Bool) → (a || false) ≡ a
or_false true = refl
or_false false = refl

pub or_none : (a b : Bool) → (a || b) ≡ false → (a ≡ false) × (b ≡ false)
or_none true b h = absurd cc
or_none false b h = (refl, h)

pub or_either : (a b c : Bool) → (a ≡ true → c ≡ true) → (b ≡ true → c ≡ true) → (a || b) ≡ true → c ≡ true
or_either true b c first second h = first refl
or_either false b c first second h = second h

pub and_both : (a b : Bool) → (a && b) ≡ true → (a ≡ true) × (b ≡ true)
and_both true b h = (refl, h)
and_both false b h = absurd cc

pub not_so : (b : Bool) → (b ≡ true → ⊥) → b ≡ false
not_so b never = elim b as (λ c. b ≡ c → c ≡ false) [ true ↦ λ so. absurd (never so) | false ↦ λ not. refl ] refl

pub or_more : (a b c : Bool) → (b ≡ true → c ≡ true) → (a || b) ≡ true → (a || c) ≡ true
or_more true b c f h = refl
or_more false b c f h = f h

pub or_second : (a b : Bool) → b ≡ true → (a || b) ≡ true
or_second true b h = refl
or_second false b h = h

pub any_map : {A B : Type 0} (p : B → Bool) (f : A → B) (xs : List A) → list_any p (map f xs) ≡ list_any (λ x. p (f x)) xs
any_map p f [] = refl
any_map p f (x ∷ xs) = ap (λ b. p (f x) || b) (any_map p f xs)

pub any_alike : {A : Type 0} (p q : A → Bool) (xs : List A) → Each (λ x. p x ≡ q x) xs → list_any p xs ≡ list_any q xs
any_alike p q [] each = refl
any_alike p q (x ∷ xs) each = ap (λ b. b || list_any p xs) each.0 ∙ ap (λ b. q x || b) (any_alike p q xs each.1)

pub any_same : {A : Type 0} (p q : A → Bool) → ((x : A) → p x ≡ q x) → (xs : List A) → list_any p xs ≡ list_any q xs
any_same p q same [] = refl
any_same p q same (x ∷ xs) = ap (λ b. b || list_any p xs) (same x) ∙ ap (λ b. q x || b) (any_same p q same xs)

pub any_fewer : {A : Type 0} (p keep : A → Bool) (xs : List A) → list_any p (filter keep xs) ≡ true → list_any p xs ≡ true
any_fewer p keep [] = λ h. h
any_fewer p keep (x ∷ xs) =
    elim (keep x) as (λ b. list_any p (cond b (x ∷ filter keep xs) (filter keep xs)) ≡ true → (p x || list_any p xs) ≡ true) [
      | true ↦ or_more (p x) (list_any p (filter keep xs)) (list_any p xs) (any_fewer p keep xs)
      | false ↦ λ h. or_second (p x) (list_any p xs) (any_fewer p keep xs h)
    ]

pub some_found : {A : Type 0} (p : A → Bool) (xs : List A) → is_some (find p xs) ≡ list_any p xs
some_found p [] = refl
some_found p (x ∷ xs) = elim (p x) as (λ b. is_some (cond b (Some x) (find p xs)) ≡ (b || list_any p xs)) [ true ↦ refl | false ↦ some_found p xs ]

pub none_found : {A B : Type 0} (f : A → B) (p : A → Bool) (xs : List A) → is_none (option_map f (find p xs)) ≡ not (list_any p xs)
none_found f p [] = refl
none_found f p (x ∷ xs) = elim (p x) as (λ b. is_none (option_map f (cond b (Some x) (find p xs))) ≡ not (b || list_any p xs)) [ true ↦ refl | false ↦ none_found f p xs ]

pub is_none_not : {A : Type 0} (o : Option A) → is_none o ≡ not (is_some o)
is_none_not None = refl
is_none_not (Some x) = refl

pub mapped_some : {A B : Type 0} (f : A → B) (o : Option A) → is_some (option_map f o) ≡ is_some o
mapped_some f None = refl
mapped_some f (Some x) = refl

pub map_or : {A B : Type 0} (f : A → B) (a b : Option A) → option_map f (option_or a b) ≡ option_or (option_map f a) (option_map f b)
map_or f None b = refl
map_or f (Some x) b = refl

pub map_each : {A B : Type 0} (f g : A → B) (xs : List A) → Each (λ x. f x ≡ g x) xs → map f xs ≡ map g xs
map_each f g [] each = refl
map_each f g (x ∷ xs) each = ap (λ y. y ∷ map f xs) each.0 ∙ ap (λ ys. g x ∷ ys) (map_each f g xs each.1)

pub all_each : {A : Type 0} (P : A → Type 0) → ((x : A) → P x) → (xs : List A) → Each P xs
all_each P all [] = tt
all_each P all (x ∷ xs) = (all x, all_each P all xs)

pub map_all : {A B : Type 0} (f g : A → B) → ((x : A) → f x ≡ g x) → (xs : List A) → map f xs ≡ map g xs
map_all f g same xs = map_each f g xs (all_each (λ x. f x ≡ g x) same xs)

pub map_map : {A B C : Type 0} (f : B → C) (g : A → B) (xs : List A) → map f (map g xs) ≡ map (λ x. f (g x)) xs
map_map f g [] = refl
map_map f g (x ∷ xs) = ap (λ ys. f (g x) ∷ ys) (map_map f g xs)

pub filter_both : {A : Type 0} (p q : A → Bool) (xs : List A) → filter p (filter q xs) ≡ filter (λ x. p x && q x) xs
filter_both p q [] = refl
filter_both p q (x ∷ xs) =
    elim (q x) as (λ b. filter p (cond b (x ∷ filter q xs) (filter q xs)) ≡ cond (p x && b) (x ∷ filter (λ y. p y && q y) xs) (filter (λ y. p y && q y) xs)) [
      | true ↦
          (elim (p x) as (λ c. cond c (x ∷ filter p (filter q xs)) (filter p (filter q xs)) ≡ cond (c && true) (x ∷ filter (λ y. p y && q y) xs) (filter (λ y. p y && q y) xs)) [
            | true ↦ ap (λ ys. x ∷ ys) (filter_both p q xs)
            | false ↦ filter_both p q xs
          ])
      | false ↦
          (elim (p x) as (λ c. filter p (filter q xs) ≡ cond (c && false) (x ∷ filter (λ y. p y && q y) xs) (filter (λ y. p y && q y) xs)) [
            | true ↦ filter_both p q xs
            | false ↦ filter_both p q xs
          ])
    ]

pub if_nothing : {A : Type 0} (b : Bool) → cond {A = List A} b [] [] ≡ []
if_nothing true = refl
if_nothing false = refl
