-- A file that was read is within its limits.
use Rattle.std.proofs.Common.{◌≡◌, ◌≢◌, refl, sym, ℕ, ◌<◌, ◌≤◌, ⊎_elim, List, [], ◌∷◌, ◌++◌, length, length-append, Bool, true, false, ◌||◌, Option, Some, None, Ok, Err, IfSome, IfOk, codes, arith, subst}
use Rattle.std.specs.Cmp.Lexicographic.{bytes_decides}
use Rattle.std.specs.List.{AllByRecursion}
use Rattle.std.specs.Str.{bytes_eq}
use Rattle.vx_data.specs.Tree.{Tree, Members}
use Rattle.vx_deployfile.specs.declared.fault.FileRefused.{FileRefused}
use Rattle.vx_deployfile.specs.declared.fault.FileWhy.TheVariants.{Range}
use Rattle.vx_deployfile.specs.declared.fault.Place.{Place}
use Rattle.vx_deployfile.specs.declared.fault.Place.TheVariants.{Loops, Workers, Pool, Until, Deployment}
use Rattle.vx_deployfile.specs.declared.file.DeployFile.{DeployFile}
use Rattle.vx_deployfile.specs.declared.file.Planned.{Planned}
use Rattle.vx_deployfile.specs.declared.file.PoolPlan.{PoolPlan}
use Rattle.vx_deployfile.specs.Fields.{misfit, field, array_in, number_or, text_in, name_or}
use Rattle.vx_deployfile.specs.Files.{has_pool, pool_in, each_pool, all_pools, pools_in, named_pool, if_pool, planned_in, deployments_in, file_of, ReadsAs, IfTold, too_long, no_object, an_object}
use Rattle.vx_deployfile.specs.Limits.{IsName, IsBetween, IsPool, AreApart, IsPlanned, IsWithinLimits}
use Rattle.vx_deployfile.specs.Verdicts.{Verdict}
use Rattle.vx_deployfile.proofs.Again.{pool_steps, pools_either, planned_steps, deployments_read, file_steps, kind_fits, address_short, pool_either, config_fits}
use Rattle.vx_deployfile.proofs.Steps.{ok_same, then_ok, if_ok, else_ok, number_read, name_read, each_keeps}

-- one more item at the end
pub all_more : {A : Type 0} (P : A → Type 0) (xs : List A) (x : A) → AllByRecursion P xs → P x → AllByRecursion P (xs ++ x ∷ [])
all_more P [] x all here = (here, tt)
all_more P (y ∷ ys) x all here = (all.0, all_more P ys x all.1 here)

one_longer : {A : Type 0} (most : ℕ) (xs : List A) (x : A) → length xs < most → length (xs ++ x ∷ []) ≤ most
one_longer most xs x few = omega (arith, length-append xs (x ∷ []))

-- a number of a field, or its default
between : (otherwise : ℕ) (place : Place) (least most n : ℕ) (o : Option Tree) → IsBetween least most otherwise → number_or otherwise place least most o ≡ Ok n → IsBetween least most n
between otherwise place least most n None within h = subst (IsBetween least most) (ok_same otherwise n h) within
between otherwise place least most n (Some t) within h = let found = number_read place least most n t h in (found.low, found.high)

-- ---- pools

neither : (a b : Bool) → (a || b) ≡ false → (a ≡ false) × (b ≡ false)
neither true b h = absurd (cc)
neither false b h = (refl, h)

yes_and_no : (test : Bool) → test ≡ true → test ≡ false → ⊥
yes_and_no test is not_so = cc

differ : (s r : List ℕ) → bytes_eq s r ≡ false → s ≢ r
differ s r h is = absurd (yes_and_no (bytes_eq s r) ((bytes_decides s r).1 is) h)

apart_more : (found : List PoolPlan) (pool : PoolPlan) → AreApart found → has_pool found pool.name ≡ false → AreApart (found ++ pool ∷ [])
apart_more [] pool apart new = (tt, tt)
apart_more (p ∷ ps) pool apart new =
    let here = neither (bytes_eq pool.name p.name) (has_pool ps pool.name) new in
    (all_more (λ (other : PoolPlan). other.name ≢ p.name) ps pool apart.0 (differ pool.name p.name here.0), apart_more ps pool apart.1 here.1)

record ArePools (pools : List PoolPlan) : Type 0 where
  few : length pools ≤ 8
  each : AllByRecursion IsPool pools
  apart : AreApart pools

pools_more : (place : Place) (found : List PoolPlan) (item : Tree) (pool : PoolPlan) → pool_in place found item ≡ Ok pool → length found < 8 → ArePools found → ArePools (found ++ pool ∷ [])
pools_more place found item pool h few are =
    let s = pool_steps place found item pool h in
    let name = name_read place s.given s.named s.fits in
    let new = else_ok (has_pool found s.given) (Ok s.given) pool.name (misfit place Range) s.new in
    let same = ok_same s.given pool.name new.1 in
    let size = number_read place 1 20 pool.size s.sized s.size in
    record {
      few = one_longer 8 found pool few;
      each = all_more IsPool found pool are.each (record { name = subst IsName same (name.long, name.short); size = (size.low, size.high) });
      apart = apart_more found pool are.apart (subst (λ r. has_pool found r ≡ false) same new.0);
    }

no_pools_are : ArePools []
no_pools_are = record { few = omega arith; each = tt; apart = tt }

all_pools_are : (pools : List PoolPlan) (o : Option Tree) → all_pools o ≡ Ok pools → ArePools pools
all_pools_are pools None h = subst ArePools (ok_same [] pools h) no_pools_are
all_pools_are pools (Some t) h =
    let given = then_ok (array_in (Pool 0) t) each_pool pools h in
    each_keeps Pool 8 pool_in ArePools pools_more given.0 [] pools given.2 no_pools_are

pools_are : (version : ℕ) (fields : Members) (pools : List PoolPlan) → pools_in version fields ≡ Ok pools → ArePools pools
pools_are version fields pools h = ⊎_elim (all_pools_are pools (field (codes "pools") fields)) (λ is. subst ArePools is no_pools_are) (pools_either version fields pools h)

-- ---- deployments

to_short : (address : List ℕ) (place : Place) (to : List ℕ) (o : Option Tree) → IsName address → name_or address place o ≡ Ok to → IsName to
to_short address place to None short h = subst IsName (ok_same address to h) short
to_short address place to (Some t) short h = let found = name_read place to t h in (found.long, found.short)

-- the name is that of a pool, where there is one
abbrev IsPoolOf : List PoolPlan → Option (List ℕ) → Type 0
IsPoolOf pools named = IfSome named (λ name. has_pool pools name ≡ true)

named_there : (place : Place) (pools : List PoolPlan) (named : Option (List ℕ)) (o : Option Tree) → named_pool place pools o ≡ Ok named → IsPoolOf pools named
named_there place pools named None h = subst (λ (p : Option (List ℕ)). IfSome p (λ name. has_pool pools name ≡ true)) (ok_same None named h) tt
named_there place pools named (Some t) h =
    let given = then_ok (text_in place t) (if_pool place pools) named h in
    let found = if_ok (has_pool pools given.0) (Some given.0) named (misfit place Range) given.2 in
    subst (λ (p : Option (List ℕ)). IfSome p (λ name. has_pool pools name ≡ true)) found.1 found.0

none_there : (pools : List PoolPlan) (named : Option (List ℕ)) → None ≡ named → IsPoolOf pools named
none_there pools named is = subst (λ (p : Option (List ℕ)). IfSome p (λ name. has_pool pools name ≡ true)) is tt

planned_is : (version : ℕ) (pools : List PoolPlan) (place : Place) (item : Tree) (plan : Planned) → planned_in version pools place item ≡ Ok plan → IsPlanned pools plan
planned_is version pools place item plan h =
    let s = planned_steps version pools place item plan h in
    let address = address_short place s.fields plan.spec.address s.address in
    record {
      kind = kind_fits place s.fields plan.spec.kind s.kind;
      address = address;
      to = to_short plan.spec.address place plan.spec.to (field (codes "to") s.fields) address s.to;
      config = config_fits place plan.spec.kind s.fields plan.spec.config s.config;
      instances = between 1 place 1 64 plan.instances (field (codes "instances") s.fields) ((omega arith), (omega arith)) s.instances;
      pool = ⊎_elim (named_there place pools plan.pool (field (codes "pool") s.fields)) (none_there pools plan.pool) (pool_either place version pools s.fields plan.pool s.pool);
    }

record ArePlans (pools : List PoolPlan) (plans : List Planned) : Type 0 where
  few : length plans ≤ 64
  each : AllByRecursion (IsPlanned pools) plans

plans_are : (version : ℕ) (pools : List PoolPlan) (fields : Members) (plans : List Planned) → deployments_in version pools fields ≡ Ok plans → ArePlans pools plans
plans_are version pools fields plans h =
    let r = deployments_read version pools fields plans h in
    each_keeps Deployment 64 (λ place earlier item. planned_in version pools place item) (ArePlans pools)
    (λ place found item plan read few are. record { few = one_longer 64 found plan few; each = all_more (IsPlanned pools) found plan are.each (planned_is version pools place item plan read) })
    r.items [] plans r.each_read (record { few = omega arith; each = tt })

-- ---- files

pub file_within : (fields : Members) (file : DeployFile) → file_of fields ≡ Ok file → IsWithinLimits file
file_within fields file h =
    let s = file_steps fields file h in
    let pools = pools_are s.version fields file.pools s.pools in
    let plans = plans_are s.version file.pools fields file.deployments s.deployments in
    record {
      loops = between 2 Loops 1 16 file.loops (field (codes "loops") fields) ((omega arith), (omega arith)) s.loops;
      workers = between 2 Workers 1 20 file.workers (field (codes "workers") fields) ((omega arith), (omega arith)) s.workers;
      few_pools = pools.few;
      pools = pools.each;
      apart = pools.apart;
      until = (between 0 Until 0 1000000000000 file.until (field (codes "until") fields) ((omega arith), (omega arith)) s.until).1;
      few_deployments = plans.few;
      deployments = plans.each;
    }

no_fault : {R : Type 0} (file : DeployFile) (fault : FileRefused) → Ok file ≡ Err fault → R
no_fault file fault h = absurd (cc)

read_within : (bytes : List ℕ) (file : DeployFile) → ReadsAs bytes (Ok file) → IsWithinLimits file
read_within bytes file (too_long long told) = no_fault file _ told
read_within bytes file (no_object small none told) = no_fault file _ told
read_within bytes file (an_object small fields json told) = file_within _ file (sym told)

pub within_limits : (bytes : List ℕ) (result : Verdict DeployFile) → IfTold (ReadsAs bytes) result → IfOk result IsWithinLimits
within_limits bytes (Ok file) told = read_within bytes file told
within_limits bytes (Err fault) told = tt
