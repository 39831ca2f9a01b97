-- The consumers in turn at an address, as those of contexts that leave go one after another.
use Rattle.std.proofs.Common.{◌≡◌, ℕ, suc, ◌+◌, ◌<◌, List, [], ◌∷◌, length, take, get_or, refl, ap, sym, ◌∙◌, arith}
use Rattle.std.specs.Prelude.{Bool, true, false, not, cond, ◌&&◌, ◌||◌, ◌==◌, filter}
use Rattle.std.proofs.lemmas.Bool.Decides.{nat_tests}
use Rattle.std.specs.List.{list_any}
use Rattle.std.specs.Str.{bytes_eq}
use Rattle.std.proofs.lemmas.List.Elements.{filter_agree}
use Rattle.std.proofs.lemmas.List.Folds.{list_any_more}
use Rattle.vx_data.specs.declared.ids.ConsumerId.{ConsumerId}
use Rattle.vx_data.specs.Ids.{same_consumer}
use Rattle.vx_ring.specs.Rings.{is_empty}
use Rattle.vx_request.specs.declared.leaver.Leaver.{Leaver}
use Rattle.vx_call.proofs.Lasting.{filter_all}
use Rattle.vx_bus_store.specs.declared.bus.Handler.{Handler}
use Rattle.vx_bus_store.specs.Leaving.{leaves, leaves_at}

-- to leave out what passes one of two tests is to leave out what passes the one and then what passes the other
filter_either : {X : Type 0} (p q : X → Bool) (xs : List X) → filter (λ x. not (p x || q x)) xs ≡ filter (λ x. not (q x)) (filter (λ x. not (p x)) xs)
filter_either p q [] = refl
filter_either p q (x ∷ xs) =
    elim (p x) as (λ b. cond (not (b || q x)) (x ∷ filter (λ x. not (p x || q x)) xs) (filter (λ x. not (p x || q x)) xs)
    ≡ filter (λ x. not (q x)) (cond (not b) (x ∷ filter (λ x. not (p x)) xs) (filter (λ x. not (p x)) xs))) [
      | true ↦ filter_either p q xs
      | false ↦ ap (λ ys. cond (not (q x)) (x ∷ ys) ys) (filter_either p q xs)
    ]

or_false : (b : Bool) → (b || false) ≡ b
or_false true = refl
or_false false = refl

kept_all : {X : Type 0} (xs : List X) → filter (λ x. not false) xs ≡ xs
kept_all xs = filter_all (λ x. not false) (λ x. refl) xs

-- where none was counted at an address without consumers, choices start anew where the last consumer goes
pub starts_anew : (first old new : List ConsumerId) (was mid now : ℕ) → mid ≡ cond (is_empty old) 0 was → now ≡ cond (is_empty new) 0 mid → (is_empty old ≡ true → is_empty new ≡ true) → now ≡ cond (is_empty new) 0 was
starts_anew first old new was mid now before step fewer =
    step
    ∙ elim (is_empty new) as (λ b. (is_empty old ≡ true → b ≡ true) → cond b 0 mid ≡ cond b 0 was) [
      | true ↦ λ f. refl
      | false ↦ λ f.
          before ∙ elim (is_empty old) as (λ c. (c ≡ true → false ≡ true) → cond c 0 was ≡ was) [ true ↦ λ g. (let e : false ≡ true = g refl in cc) | false ↦ λ g. refl ] f
    ] fewer

not_none : (n : ℕ) → (suc n == 0) ≡ true → ⊥
not_none n none = grind (arith, nat_tests)

pub empty_left : (p : ConsumerId → Bool) (ids : List ConsumerId) → is_empty ids ≡ true → is_empty (filter p ids) ≡ true
empty_left p [] none = refl
empty_left p (id ∷ ids) none = absurd (not_none (length ids) none)

-- one more consumer, of the first so many
module _ (leaver : Leaver) (handlers : List Handler) (i : ℕ) (handler : Handler) (within : i < length handlers) (read : handler ≡ get_or handlers i handler) (a : List ℕ) where
  abbrev one_test : ConsumerId → Handler → Bool
  one_test id h = leaves leaver h && (bytes_eq a h.consumer.address && same_consumer h.consumer.id id)

  more : (id : ConsumerId) → leaves_at leaver (take (i + 1) handlers) a id ≡ (leaves_at leaver (take i handlers) a id || one_test id handler)
  more id = list_any_more (one_test id) handlers i handler within ∙ ap (λ h. leaves_at leaver (take i handlers) a id || one_test id h) (sym read)

  -- which leaves
  pub one_leaves : (first old new : List ConsumerId) → leaves leaver handler ≡ true → old ≡ filter (λ id. not (leaves_at leaver (take i handlers) a id)) first →
      new ≡ cond (bytes_eq a handler.consumer.address) (filter (λ other. not (same_consumer handler.consumer.id other)) old) old →
      new ≡ filter (λ id. not (leaves_at leaver (take (i + 1) handlers) a id)) first
  one_leaves first old new goes before step =
      let here = bytes_eq a handler.consumer.address in
      let name = λ (id : ConsumerId). same_consumer handler.consumer.id id in
      step
      ∙ elim here as (λ b. cond b (filter (λ other. not (name other)) old) old ≡ filter (λ other. not (b && name other)) old) [ true ↦ refl | false ↦ sym (kept_all old) ]
      ∙ ap (filter (λ other. not (here && name other))) before
      ∙ sym (filter_either (λ id. leaves_at leaver (take i handlers) a id) (λ id. here && name id) first)
      ∙ sym (filter_agree _ _ (λ id. ap not (more id ∙ ap (λ b. leaves_at leaver (take i handlers) a id || (b && (here && name id))) goes)) first)

  -- and which stays
  pub one_stays : (first : List ConsumerId) → leaves leaver handler ≡ false →
      filter (λ id. not (leaves_at leaver (take i handlers) a id)) first ≡ filter (λ id. not (leaves_at leaver (take (i + 1) handlers) a id)) first
  one_stays first stays =
      sym (filter_agree _ _ (λ id. ap not (more id
      ∙ ap (λ b. leaves_at leaver (take i handlers) a id || (b && (bytes_eq a handler.consumer.address && same_consumer handler.consumer.id id))) stays
      ∙ or_false (leaves_at leaver (take i handlers) a id))) first)

pub none_left : (leaver : Leaver) (a : List ℕ) (first : List ConsumerId) → first ≡ filter (λ id. not (leaves_at leaver [] a id)) first
none_left leaver a first = sym (kept_all first)
