-- Lists of open requests, of which the first so many have ended.
use Rattle.std.proofs.Common.{◌≡◌, ℕ, ◌+◌, ◌<◌, ◌≤◌, zero, suc, List, [], ◌∷◌, ◌++◌, length, take, drop, refl, ap, ◌∙◌, subst, arith}
use Rattle.std.specs.Prelude.{Bool, true, false, not, cond, ◌||◌, nat_le, map, filter, find, All, Option, None, Some}
use Rattle.std.specs.List.{list_any, cons_option}
use Rattle.std.specs.Option.{option_map, option_or}
use Rattle.std.proofs.lemmas.Bool.{eq-eqb}
use Rattle.std.proofs.lemmas.List.Folds.{list_any-append}
use Rattle.std.proofs.lemmas.List.Elements.{All-nil, All-cons, All-head, All-tail}
use Rattle.vx_data.specs.declared.ids.ContextId.{ContextId}
use Rattle.vx_call.specs.Requests.{Open, put_by_due, by_due}
use Rattle.vx_call.specs.declared.history.Traced.{Traced}
use Rattle.vx_call.specs.Askers.{context_asking}
use Rattle.vx_call.specs.Askers as askers
use Rattle.vx_call.specs.Homes.{Heard, heard_by, heard}
use Rattle.vx_call.specs.Settled.{timeout, settlement, settlements}
use Rattle.vx_call.specs.Items.{outcome_item, outcome_items}
use Rattle.vx_call.proofs.Stored.{IsAskedByContext}
use Rattle.vx_call.proofs.Each.{Each, Each-both, Each-filter}
use Rattle.vx_call.proofs.Apart.{Apart}
use Rattle.vx_call.proofs.Items.{heard_timeout}
use Rattle.vx_call.proofs.Opened.{same_open, same_open-swap}
use Rattle.vx_hub.specs.Advancing.{is_among}

-- ## Options

pub or_none : {A : Type 0} (o : Option A) → option_or o None ≡ o
or_none None = refl
or_none (Some x) = refl

pub or_assoc : {A : Type 0} (a b c : Option A) → option_or (option_or a b) c ≡ option_or a (option_or b c)
or_assoc None b c = refl
or_assoc (Some x) b c = refl

pub map-or : {A B : Type 0} (f : A → B) (a b : Option A) → option_map f (option_or a b) ≡ option_or (option_map f a) (option_map f b)
map-or f None b = refl
map-or f (Some x) b = refl

pub map-map : {A B C : Type 0} (f : A → B) (g : B → C) (o : Option A) → option_map g (option_map f o) ≡ option_map (λ x. g (f x)) o
map-map f g None = refl
map-map f g (Some x) = refl

pub map_if : {A B : Type 0} (f : A → B) (b : Bool) (x : A) → option_map f (cond b (Some x) None) ≡ cond b (Some (f x)) None
map_if f true x = refl
map_if f false x = refl

-- ## Tests on lists

or_false : (b : Bool) → (b || false) ≡ b
or_false true = refl
or_false false = refl

or_swap : (a b c : Bool) → (a || (b || c)) ≡ (b || (a || c))
or_swap true true c = refl
or_swap true false c = refl
or_swap false b c = refl

pub find-map : {A B : Type 0} (p : B → Bool) (f : A → B) (xs : List A) → find p (map f xs) ≡ option_map f (find (λ x. p (f x)) xs)
find-map p f [] = refl
find-map p f (x ∷ xs) =
    elim (p (f x)) as (λ b. cond b (Some (f x)) (find p (map f xs)) ≡ option_map f (cond b (Some x) (find (λ y. p (f y)) xs))) [ true ↦ refl | false ↦ find-map p f xs ]

pub filter-map : {A B : Type 0} (p : B → Bool) (f : A → B) (xs : List A) → filter p (map f xs) ≡ map f (filter (λ x. p (f x)) xs)
filter-map p f [] = refl
filter-map p f (x ∷ xs) =
    elim (p (f x)) as (λ b. cond b (f x ∷ filter p (map f xs)) (filter p (map f xs)) ≡ map f (cond b (x ∷ filter (λ y. p (f y)) xs) (filter (λ y. p (f y)) xs))) [
      | true ↦ ap (λ ys. f x ∷ ys) (filter-map p f xs)
      | false ↦ filter-map p f xs
    ]

-- the first that passes is there in a part of the list that it is in
pub find-filter : {A : Type 0} (p q : A → Bool) (xs : List A) (x : A) → find p xs ≡ Some x → q x ≡ true → find p (filter q xs) ≡ Some x
find-filter p q [] x found kept = found
find-filter p q (y ∷ ys) x found kept =
    let rest = filter q ys in
    elim (p y) as (λ b. p y ≡ b → cond b (Some y) (find p ys) ≡ Some x → find p (cond (q y) (y ∷ rest) rest) ≡ Some x) [
      | true ↦ λ here first.
          (let same : y ≡ x = cc in
          ap (λ b. find p (cond b (y ∷ rest) rest)) (ap q same ∙ kept) ∙ ap (λ b. cond b (Some y) (find p rest)) here ∙ first)
      | false ↦ λ here later.
          (elim (q y) as (λ b. find p (cond b (y ∷ rest) rest) ≡ Some x) [
            | true ↦ ap (λ b. cond b (Some y) (find p rest)) here ∙ find-filter p q ys x later kept
            | false ↦ find-filter p q ys x later kept
          ])
    ] refl found

-- to leave out by one test and then by another is to leave out by both
pub filter-both : {A : Type 0} (p q : A → Bool) (xs : List A) → filter (λ x. not (q x)) (filter (λ x. not (p x)) xs) ≡ filter (λ x. not (p x || q x)) xs
filter-both p q [] = refl
filter-both p q (x ∷ xs) =
    elim (p x) as (λ b. filter (λ y. not (q y)) (cond (not b) (x ∷ filter (λ y. not (p y)) xs) (filter (λ y. not (p y)) xs))
    ≡ cond (not (b || q x)) (x ∷ filter (λ y. not (p y || q y)) xs) (filter (λ y. not (p y || q y)) xs)) [
      | true ↦ filter-both p q xs
      | false ↦ ap (λ ys. cond (not (q x)) (x ∷ ys) ys) (filter-both p q xs)
    ]

-- tests that agree on each element keep the same ones
pub filter_same : {A : Type 0} (p q : A → Bool) (xs : List A) → Each (λ x. p x ≡ q x) xs → filter p xs ≡ filter q xs
filter_same p q [] same = refl
filter_same p q (x ∷ xs) same = ap (λ b. cond b (x ∷ filter p xs) (filter p xs)) same.0 ∙ ap (λ ys. cond (q x) (x ∷ ys) ys) (filter_same p q xs same.1)

pub any_none : {A : Type 0} (p : A → Bool) (xs : List A) → Each (λ x. p x ≡ false) xs → list_any p xs ≡ false
any_none p [] none = refl
any_none p (x ∷ xs) none = ap (λ b. b || list_any p xs) none.0 ∙ any_none p xs none.1

-- where the first so many pass and no other does, so many pass
pub length-passing : {A : Type 0} (p : A → Bool) (xs : List A) (k : ℕ) → k ≤ length xs → All (λ x. p x ≡ true) (take k xs) → All (λ x. p x ≡ false) (drop k xs) → length (filter p xs) ≡ k
length-passing p [] zero within front rest = refl
length-passing p [] (suc k) within front rest = absurd (omega arith)
length-passing p (x ∷ xs) zero within front rest =
    ap (λ b. length (cond b (x ∷ filter p xs) (filter p xs))) (All-head (λ y. p y ≡ false) x xs rest)
    ∙ length-passing p xs zero (omega arith) (All-nil (λ y. p y ≡ true)) (All-tail (λ y. p y ≡ false) x xs rest)
length-passing p (x ∷ xs) (suc k) within front rest =
    ap (λ b. length (cond b (x ∷ filter p xs) (filter p xs))) (All-head (λ y. p y ≡ true) x (take k xs) front)
    ∙ ap suc (length-passing p xs k (omega arith) (All-tail (λ y. p y ≡ true) x (take k xs) front) rest)

pub All-from-map : {A B : Type 0} (P : B → Type 0) (f : A → B) (xs : List A) → All P (map f xs) → All (λ x. P (f x)) xs
All-from-map P f [] all = All-nil (λ x. P (f x))
All-from-map P f (x ∷ xs) all = All-cons (λ y. P (f y)) x xs (All-head P (f x) (map f xs) all) (All-from-map P f xs (All-tail P (f x) (map f xs) all))

-- ## The element behind the first so many

pub record IsNextBehind {A : Type 0} (xs : List A) (k : ℕ) (x : A) (rest : List A) : Type 0 where
  pub inside : k < length xs
  pub front : take (suc k) xs ≡ take k xs ++ x ∷ []
  pub behind : drop (suc k) xs ≡ rest

pub next_behind : {A : Type 0} (xs : List A) (k : ℕ) (x : A) (rest : List A) → drop k xs ≡ x ∷ rest → IsNextBehind xs k x rest
next_behind [] zero x rest left = absurd cc
next_behind [] (suc k) x rest left = absurd cc
next_behind (y ∷ ys) zero x rest left =
    let here : y ≡ x = cc in
    let others : ys ≡ rest = cc in
    record { inside = omega arith; front = ap (λ z. z ∷ []) here; behind = others }
next_behind (y ∷ ys) (suc k) x rest left =
    let next = next_behind ys k x rest left in
    let inside = next.inside in
    record { inside = omega arith; front = ap (λ zs. y ∷ zs) next.front; behind = next.behind }

-- what holds of each holds of it
pub Each-behind : {A : Type 0} (P : A → Type 0) (xs : List A) (k : ℕ) (x : A) (rest : List A) → drop k xs ≡ x ∷ rest → Each P xs → P x
Each-behind P [] zero x rest left each = absurd cc
Each-behind P [] (suc k) x rest left each = absurd cc
Each-behind P (y ∷ ys) zero x rest left each = let here : y ≡ x = cc in subst P here each.0
Each-behind P (y ∷ ys) (suc k) x rest left each = Each-behind P ys k x rest left each.1

-- where all are apart, it is none of those before it
pub none_before : {A : Type 0} (test : A → A → Bool) (xs : List A) (k : ℕ) (x : A) (rest : List A) → drop k xs ≡ x ∷ rest → Apart test xs → list_any (λ y. test y x) (take k xs) ≡ false
none_before test [] zero x rest left apart = refl
none_before test [] (suc k) x rest left apart = refl
none_before test (y ∷ ys) zero x rest left apart = refl
none_before test (y ∷ ys) (suc k) x rest left apart =
    ap (λ b. b || list_any (λ z. test z x) (take k ys)) (Each-behind (λ z. test y z ≡ false) ys k x rest left apart.0) ∙ none_before test ys k x rest left apart.1

-- the first of a list of parts is the part of a first
pub record IsFirstPart {A B : Type 0} (f : A → B) (xs : List A) (y : B) (ys : List B) : Type 0 where
  pub first : A
  pub others : List A
  pub whole : xs ≡ first ∷ others
  pub part : f first ≡ y
  pub parts : map f others ≡ ys

pub first_part : {A B : Type 0} (f : A → B) (xs : List A) (y : B) (ys : List B) → map f xs ≡ y ∷ ys → IsFirstPart f xs y ys
first_part f [] y ys parts = absurd cc
first_part f (x ∷ xs) y ys parts = record { first = x; others = xs; whole = refl; part = cc; parts = cc }

-- ## Requests by id

pub same_open-self : (request : Open) → same_open request request ≡ true
same_open-self request = eq-eqb request.id.0.0 request.id.0.0 refl

-- each is found by its id
pub found_each : {A : Type 0} (test : A → A → Bool) → ((x : A) → test x x ≡ true) → ((x y : A) → test x y ≡ test y x) → (xs : List A) → Apart test xs → Each (λ x. find (test x) xs ≡ Some x) xs
found_each test reflexive symmetric [] apart = tt
found_each test reflexive symmetric (x ∷ xs) apart = (
  ap (λ b. cond b (Some x) (find (test x) xs)) (reflexive x),
  Each-both (λ y. test x y ≡ false) (λ y. find (test y) xs ≡ Some y) (λ y. find (test y) (x ∷ xs) ≡ Some y) xs
      (λ y other found. ap (λ b. cond b (Some x) (find (test y) xs)) (symmetric y x ∙ other) ∙ found) apart.0 (found_each test reflexive symmetric xs apart.1),
)

pub among_more : (requests : List Open) (last request : Open) → is_among (requests ++ last ∷ []) request ≡ (is_among requests request || same_open last request)
among_more requests last request =
    list_any-append (λ (other : Open). same_open other request) requests (last ∷ []) ∙ ap (λ b. is_among requests request || b) (or_false (same_open last request))

-- those among the ones that pass are the ones that pass
pub among_passing : (p : Open → Bool) (requests : List Open) → Apart same_open requests → Each (λ request. is_among (filter p requests) request ≡ p request) requests
among_passing p [] apart = tt
among_passing p (r ∷ rs) apart =
    let rest = filter p rs in (
      elim (p r) as (λ b. is_among (cond b (r ∷ rest) rest) r ≡ b) [
        | true ↦ ap (λ b. b || is_among rest r) (same_open-self r)
        | false ↦ any_none (λ (other : Open). same_open other r) rest
            (Each-filter (λ other. same_open r other ≡ false) (λ other. same_open other r ≡ false) p rs (λ other passes none. same_open-swap other r ∙ none) apart.0)
      ],
      Each-both (λ other. same_open r other ≡ false) (λ other. is_among rest other ≡ p other) (λ other. is_among (cond (p r) (r ∷ rest) rest) other ≡ p other) rs
          (λ other none known. elim (p r) as (λ b. is_among (cond b (r ∷ rest) rest) other ≡ p other) [
            | true ↦ ap (λ b. b || is_among rest other) none ∙ known
            | false ↦ known
          ]) apart.0 (among_passing p rs apart.1),
    )

-- ## By due moment

any-put_by_due : (p : Open → Bool) (request : Open) (others : List Open) → list_any p (put_by_due request others) ≡ (p request || list_any p others)
any-put_by_due p request [] = refl
any-put_by_due p request (other ∷ others) =
    elim (nat_le request.due other.due) as (λ b. list_any p (cond b (request ∷ other ∷ others) (other ∷ put_by_due request others)) ≡ (p request || (p other || list_any p others))) [
      | true ↦ refl
      | false ↦ ap (λ b. p other || b) (any-put_by_due p request others) ∙ or_swap (p other) (p request) (list_any p others)
    ]

-- the order leaves who is among them
pub any-by_due : (p : Open → Bool) (requests : List Open) → list_any p (by_due requests) ≡ list_any p requests
any-by_due p [] = refl
any-by_due p (request ∷ others) = any-put_by_due p request (by_due others) ∙ ap (λ b. p request || b) (any-by_due p others)

-- ## Outcomes

cons-append : {A : Type 0} (o : Option A) (xs ys : List A) → cons_option o (xs ++ ys) ≡ cons_option o xs ++ ys
cons-append None xs ys = refl
cons-append (Some x) xs ys = refl

abbrev heard_as : List Traced → Open → Option ContextId → Option Heard
heard_as history request asks = option_map (λ (context : ContextId). heard_timeout history request context) asks

-- a request whose time is up, and the context that hears of it
pub heard-push : (history : List Traced) (requests : List Open) (last : Open) (context : ContextId) → last.asker ≡ askers.context context →
    heard (settlements history timeout (requests ++ last ∷ [])) ≡ heard (settlements history timeout requests) ++ heard_timeout history last context ∷ []
heard-push history [] last context asks = ap (λ asker. cons_option (heard_as history last (context_asking asker)) []) asks
heard-push history (request ∷ others) last context asks =
    let here = heard_by (settlement history timeout request) in
    ap (cons_option here) (heard-push history others last context asks) ∙ cons-append here (heard (settlements history timeout others)) (heard_timeout history last context ∷ [])

-- contexts hear of as many as they asked
pub length-heard : (history : List Traced) (requests : List Open) → Each IsAskedByContext requests → length (heard (settlements history timeout requests)) ≡ length requests
length-heard history [] asked = refl
length-heard history (request ∷ others) asked =
    ap (λ asker. length (cons_option (heard_as history request (context_asking asker)) (heard (settlements history timeout others)))) asked.0.1 ∙ ap suc (length-heard history others asked.1)

pub outcome_items-push : (place : ℕ) (ended : List Heard) (last : Heard) → outcome_items place (ended ++ last ∷ []) ≡ outcome_items place ended ++ outcome_item (place + length ended) last ∷ []
outcome_items-push place [] last = let same : place ≡ place + 0 = omega arith in ap (λ n. outcome_item n last ∷ []) same
outcome_items-push place (one ∷ others) last =
    let same : place + 1 + length others ≡ place + suc (length others) = omega arith in
    ap (λ ws. outcome_item place one ∷ ws) (outcome_items-push (place + 1) others last ∙ ap (λ n. outcome_items (place + 1) others ++ outcome_item n last ∷ []) same)
