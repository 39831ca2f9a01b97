-- The contexts of verticles that are made, one after another.
use Rattle.std.proofs.Common.{◌≡◌, ℕ, zero, suc, ◌+◌, [], ◌∷◌, ◌++◌, List, length, map, refl, ap, ◌∙◌, arith}
use Rattle.std.specs.Prelude.{Bool}
use Rattle.std.proofs.lemmas.List.{map-append, length-map}
use Rattle.vx_data.specs.declared.ids.DeploymentId.{DeploymentId}
use Rattle.vx_message.specs.declared.Context.{Context}
use Rattle.vx_message.specs.declared.Lane.{Lane}
use Rattle.vx_tree.specs.Nodes.{contexts_of}
use Rattle.vx_tree.proofs.Added.{one_more_context}
use Rattle.vx_life.specs.Stores.{LifeStore}
use Rattle.vx_core_life.specs.Starting.{new_context, new_contexts}

-- one more
pub one_more : (life : LifeStore) (worker : Bool) (pool : Lane) (id : DeploymentId) (n : ℕ) →
    new_contexts life worker pool id (n + 1) ≡ new_contexts life worker pool id n ++ new_context life worker pool (record { entry = id.0; instance = n }) ∷ []
one_more life worker pool id n =
    let made = new_context life worker pool in
    ap (new_contexts life worker pool id) (let e : n + 1 ≡ suc n = omega arith in e) ∙ ap (map made) (one_more_context id 0 n)
    ∙ map-append made (contexts_of id 0 n) (record { entry = id.0; instance = 0 + n } ∷ [])
    ∙ ap (λ m. new_contexts life worker pool id n ++ made (record { entry = id.0; instance = m }) ∷ []) (let e : 0 + n ≡ n = omega arith in e)

pub contexts_counted : (id : DeploymentId) (first count : ℕ) → length (contexts_of id first count) ≡ count
contexts_counted id first zero = refl
contexts_counted id first (suc more) = let a = contexts_counted id (first + 1) more in omega (arith, a)

-- they are so many
pub new_counted : (life : LifeStore) (worker : Bool) (pool : Lane) (id : DeploymentId) (count : ℕ) (made : List Context) → made ≡ new_contexts life worker pool id count → length made ≡ count
new_counted life worker pool id count made are = ap length are ∙ length-map (contexts_of id 0 count) (new_context life worker pool) ∙ contexts_counted id 0 count
