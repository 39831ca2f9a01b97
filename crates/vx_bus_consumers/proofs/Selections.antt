-- Which things stay where some are left out.
use Rattle.std.proofs.Common.{◌≡◌, List, [], ◌∷◌, refl, ap, sym, ◌∙◌}
use Rattle.std.specs.Prelude.{Bool, true, false, not, cond, map, filter}
use Rattle.vx_data.specs.declared.ids.ConsumerId.{ConsumerId}
use Rattle.vx_message.specs.declared.Item.{Item}
use Rattle.vx_call.specs.declared.reply.Task.{Task}
use Rattle.vx_call.specs.declared.reply.Task.TheVariants as tasks
use Rattle.vx_call.specs.declared.history.Traced.{Traced}
use Rattle.vx_call.specs.Items.{Waiting, is_for}
use Rattle.vx_call.specs.Kinds.{kind_of}
use Rattle.vx_call.proofs.Each.{Each, every}
use Rattle.vx_context.specs.Stores.{item_of, is_item_for}
use Rattle.vx_bus_store.proofs.Images.{filter_mapped}

-- ## Items

kept_kinds : (id : ConsumerId) (task : Task) → is_item_for id (kind_of task) ≡ is_for id task
kept_kinds id (tasks.Deliver consumer message) = refl
kept_kinds id _ = refl

-- the items of a consumer's messages are those of its tasks
pub items_without : (history : List Traced) (id : ConsumerId) (all : List Waiting) →
    filter (λ (item : Item). not (is_item_for id item.kind)) (map (item_of history) all) ≡ map (item_of history) (filter (λ (w : Waiting). not (is_for id w.task)) all)
items_without history id all =
    filter_mapped (λ (item : Item). not (is_item_for id item.kind)) (λ (w : Waiting). not (is_for id w.task)) (item_of history) all (every _ (λ w. ap not (kept_kinds id w.task)) all)

-- ## Those that stay

-- where what is left out would not be selected, the same are selected
pub filter_without : {X : Type 0} (p q : X → Bool) (xs : List X) → Each (λ x. q x ≡ true → p x ≡ false) xs → filter p (filter (λ x. not (q x)) xs) ≡ filter p xs
filter_without p q [] out = refl
filter_without p q (x ∷ xs) out =
    elim (q x) as (λ b. (b ≡ true → p x ≡ false) → filter p (cond (not b) (x ∷ filter (λ x. not (q x)) xs) (filter (λ x. not (q x)) xs)) ≡ cond (p x) (x ∷ filter p xs) (filter p xs)) [
      | true ↦ λ fails. filter_without p q xs out.1 ∙ sym (ap (λ b. cond b (x ∷ filter p xs) (filter p xs)) (fails refl))
      | false ↦ λ fails. ap (λ ys. cond (p x) (x ∷ ys) ys) (filter_without p q xs out.1)
    ] out.0
