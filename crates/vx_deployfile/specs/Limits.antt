-- The limits of a file: what holds of each that was read.
use Rattle.std.specs.Prelude.{◌≡◌, ◌≢◌, ◌≤◌, ℕ, List, [], ◌∷◌, length, true, IfSome}
use Rattle.std.specs.List.{AllByRecursion}
use Rattle.vx_deployfile.specs.declared.file.DeployFile.{DeployFile}
use Rattle.vx_deployfile.specs.declared.file.Planned.{Planned}
use Rattle.vx_deployfile.specs.declared.file.PoolPlan.{PoolPlan}
use Rattle.vx_deployfile.specs.Files.{has_pool}
use Rattle.vx_deployfile.specs.Kinds.{is_kind, suits}

-- a text of 1 to 1,024 bytes
abbrev pub IsName : List ℕ → Type 0
IsName s = (1 ≤ length s) × (length s ≤ 1024)

abbrev pub IsBetween : ℕ → ℕ → ℕ → Type 0
IsBetween least most n = (least ≤ n) × (n ≤ most)

pub record IsPool (pool : PoolPlan) : Type 0 where
  pub name : IsName pool.name
  pub size : IsBetween 1 20 pool.size

-- no two pools have one name
abbrev pub AreApart : List PoolPlan → Type 0
AreApart [] = Unit {0}
AreApart (pool ∷ pools) = AllByRecursion (λ (other : PoolPlan). other.name ≢ pool.name) pools × AreApart pools

-- a deployment of a file with these pools
pub record IsPlanned (pools : List PoolPlan) (plan : Planned) : Type 0 where
  pub kind : is_kind plan.spec.kind ≡ true
  pub address : IsName plan.spec.address
  pub to : IsName plan.spec.to
  pub config : suits plan.spec.kind plan.spec.config ≡ true
  pub instances : IsBetween 1 64 plan.instances
  pub pool : IfSome plan.pool (λ name. has_pool pools name ≡ true)

pub record IsWithinLimits (file : DeployFile) : Type 0 where
  pub loops : IsBetween 1 16 file.loops
  pub workers : IsBetween 1 20 file.workers
  pub few_pools : length file.pools ≤ 8
  pub pools : AllByRecursion IsPool file.pools
  pub apart : AreApart file.pools
  pub until : file.until ≤ 1000000000000
  pub few_deployments : length file.deployments ≤ 64
  pub deployments : AllByRecursion (IsPlanned file.pools) file.deployments
