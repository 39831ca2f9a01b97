-- Worker pools, found by their names.
use Rattle.std.proofs.Common.{◌≡◌, ℕ, List, refl, ap, sym, ◌∙◌}
use Rattle.std.specs.Prelude.{is_none, find, Option, None, Some}
use Rattle.std.specs.Option.{option_map}
use Rattle.std.specs.Str.{bytes_eq}
use Rattle.vx_data.specs.declared.ids.PoolId.{PoolId}
use Rattle.vx_message.specs.declared.Lane.{Lane}
use Rattle.vx_message.specs.declared.Lane.TheVariants as lanes
use Rattle.vx_message.specs.declared.Pool.{Pool}
use Rattle.vx_call.specs.declared.reply.Refusal.{Refusal}
use Rattle.vx_call.specs.declared.reply.Refusal.TheVariants as refusals
use Rattle.vx_call.specs.declared.history.Traced.{Traced}
use Rattle.vx_call.specs.Pools.{lane_of_pool, pool_named}
use Rattle.vx_call.specs.Refusals.{refused_if, pool_taken_by}
use Rattle.vx_context.specs.Stores.{ContextStore}
use Rattle.vx_context.specs.Stands.{ContextsStand}

abbrev id_of : Pool → PoolId
id_of pool = pool.id

-- the name of a pool is that of the machine's
abbrev pub IsNamed : ContextStore → List ℕ → Option PoolId → Type 0
IsNamed store name found = found ≡ option_map (λ (pool : Pool). pool.id) (find (λ (pool : Pool). bytes_eq pool.name name) store.pools)

named : (store : ContextStore) (history : List Traced) (name : List ℕ) (found : Option PoolId) → ContextsStand store history → IsNamed store name found → found ≡ option_map id_of (pool_named history name)
named store history name found stands is = is ∙ ap (λ pools. option_map id_of (find (λ (pool : Pool). bytes_eq pool.name name) pools)) stands.pools

-- ## Its lane

abbrev pub lane_by : Option PoolId → Lane
lane_by None = lanes.Pool
lane_by (Some id) = lanes.Named id

same_lane : (o : Option Pool) → lane_by (option_map id_of o) ≡ lane_of_pool o
same_lane None = refl
same_lane (Some pool) = refl

pub lane_named : (store : ContextStore) (history : List Traced) (name : List ℕ) (found is : Option PoolId) → ContextsStand store history → IsNamed store name found → found ≡ is → lane_by is ≡ lane_of_pool (pool_named history name)
lane_named store history name found is stands finds same = ap lane_by (sym same ∙ named store history name found stands finds) ∙ same_lane (pool_named history name)

-- ## Whether it is missing

abbrev pub missing_by : Option PoolId → Option Refusal
missing_by found = refused_if (is_none found) refusals.NoPool

same_missing : (o : Option Pool) → missing_by (option_map id_of o) ≡ refused_if (is_none o) refusals.NoPool
same_missing None = refl
same_missing (Some pool) = refl

pub missing_named : (store : ContextStore) (history : List Traced) (name : List ℕ) (found is : Option PoolId) → ContextsStand store history → IsNamed store name found → found ≡ is →
    missing_by is ≡ refused_if (is_none (pool_named history name)) refusals.NoPool
missing_named store history name found is stands finds same = ap missing_by (sym same ∙ named store history name found stands finds) ∙ same_missing (pool_named history name)

-- ## Whether it is taken

abbrev pub taken_by : Option PoolId → Option Refusal
taken_by None = None
taken_by (Some id) = Some (refusals.PoolTaken id.0)

same_taken : (o : Option Pool) → taken_by (option_map id_of o) ≡ pool_taken_by o
same_taken None = refl
same_taken (Some pool) = refl

pub taken_named : (store : ContextStore) (history : List Traced) (name : List ℕ) (found is : Option PoolId) → ContextsStand store history → IsNamed store name found → found ≡ is → taken_by is ≡ pool_taken_by (pool_named history name)
taken_named store history name found is stands finds same = ap taken_by (sym same ∙ named store history name found stands finds) ∙ same_taken (pool_named history name)
