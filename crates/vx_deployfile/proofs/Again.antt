-- What is written of a file that was read is read as that file again, and is no longer than the text that was read.
use Rattle.std.proofs.Common.{◌≡◌, refl, sym, ◌∙◌, ap, ℕ, ℤ, ◌≤◌, ◌⊎◌, inl, inr, ⊎_elim, List, [], ◌∷◌, length, map, Bool, true, false, ◌==◌, Option, Some, None, option_map, Ok, Err, codes, if◌then◌else◌, arith, subst}
use Rattle.vx_data.specs.Bodies.{elements}
use Rattle.vx_data.specs.BodyText.{body_text}
use Rattle.vx_data.specs.Tree.{Tree, int, text, array, object, Elements, Members}
use Rattle.vx_data.proofs.Lengths.{one_digit}
use Rattle.vx_deployfile.specs.declared.fault.FileWhy.TheVariants.{Range}
use Rattle.vx_deployfile.specs.declared.fault.Place.{Place}
use Rattle.vx_deployfile.specs.declared.fault.Place.TheVariants.{File, Loops, Workers, Pool, Until, Deployment}
use Rattle.vx_deployfile.specs.declared.file.DeployFile.{DeployFile}
use Rattle.vx_deployfile.specs.declared.file.Planned.{Planned}
use Rattle.vx_deployfile.specs.declared.file.PoolPlan.{PoolPlan}
use Rattle.vx_deployfile.specs.Fields.{misfit, field, required, object_in, array_in, number_in, number_or, text_in, name_in, name_or, flag_in}
use Rattle.vx_deployfile.specs.Files.{has_pool, if_new, pool_in, each_pool, all_pools, pools_in, if_kind, kind_in, address_in, named_pool, pool_of, config_in, planned_in, each_planned, deployments_in, as_version, version_in, no_bridge, file_of}
use Rattle.vx_deployfile.specs.Kinds.{is_kind, suits}
use Rattle.vx_deployfile.specs.Texts.{made_of, number, unless, unless_same, unless_empty, if_true, pool_fields, pool_tree, planned_fields, planned_tree, file_fields, file_text}
use Rattle.vx_deployfile.specs.Verdicts.{Verdict, ◌>>=◌}
use Rattle.vx_deployfile.proofs.Making.{field_made, the_one, taken, made_small}
use Rattle.vx_deployfile.proofs.Optional.{same_taken, config_at, unless_again, unless_small, same_again, same_small, flag_again, flag_small, pool_again, pool_small, empty_small, none_small, config_again, config_small, config_suits}
use Rattle.vx_deployfile.proofs.Sizes.{array_parts, smaller_array}
use Rattle.vx_deployfile.proofs.Steps.{ok_same, told, then_ok, onward, if_ok, else_ok, required_read, object_read, array_read, text_read, number_read, number_fits, name_read, all_again, all_small}

-- a field that is required, with the value that is written
required_written : {A : Type 0} (place : Place) (read : Tree → Verdict A) (o : Option Tree) (t : Tree) (v : Verdict A) → o ≡ Some t → read t ≡ v → (required place o >>= read) ≡ v
required_written place read o t v is h = ap (λ p. required place p >>= read) is ∙ h

-- what was read or what stands in its place
if_either : {A : Type 0} (test : Bool) (v : Verdict A) (x y : A) → (if test then v else Ok x) ≡ Ok y → (v ≡ Ok y) ⊎ (x ≡ y)
if_either true v x y h = inl h
if_either false v x y h = inr (ok_same x y h)

smaller_item : (item : Tree) (ms : Members) (t : Tree) → item ≡ object ms → length (body_text t) ≤ length (body_text (object ms)) → length (body_text t) ≤ length (body_text item)
smaller_item item ms t is less = subst (λ u. length (body_text t) ≤ length (body_text u)) (sym is) less

-- ---- pools

-- what each step of reading a pool gave
pub record PoolSteps (place : Place) (earlier : List PoolPlan) (item : Tree) (pool : PoolPlan) : Type 0 where
  pub fields : Members
  pub shape : object_in place item ≡ Ok fields
  pub named : Tree
  pub there : required place (field (codes "name") fields) ≡ Ok named
  pub given : List ℕ
  pub fits : name_in place named ≡ Ok given
  pub new : if_new place earlier given ≡ Ok pool.name
  pub sized : Tree
  pub size_there : required place (field (codes "size") fields) ≡ Ok sized
  pub size : number_in place 1 20 sized ≡ Ok pool.size

pub pool_steps : (place : Place) (earlier : List PoolPlan) (item : Tree) (pool : PoolPlan) → pool_in place earlier item ≡ Ok pool → PoolSteps place earlier item pool
unfolding pool_in
pool_steps place earlier item pool h =
    let a = then_ok (object_in place item) _ pool h in
    let b = then_ok (required place (field (codes "name") a.0)) _ pool a.2 in
    let c = then_ok (name_in place b.0) _ pool b.2 in
    let d = then_ok (if_new place earlier c.0) _ pool c.2 in
    let e = then_ok (required place (field (codes "size") a.0)) _ pool d.2 in
    let f = then_ok (number_in place 1 20 e.0) _ pool e.2 in
    let made : PoolPlan = record { name = d.0; size = f.0 } in
    let steps : PoolSteps place earlier item made = record { fields = a.0; shape = a.1; named = b.0; there = b.1; given = c.0; fits = c.1; new = d.1; sized = e.0; size_there = e.1; size = f.1 } in
    told (PoolSteps place earlier item) made pool f.2 steps

-- its fields, and how they are read
pub record PoolFields (place : Place) (earlier : List PoolPlan) (item : Tree) (pool : PoolPlan) : Type 0 where
  pub fields : Members
  pub shape : item ≡ object fields
  pub there : field (codes "name") fields ≡ Some (text pool.name)
  pub fits : name_in place (text pool.name) ≡ Ok pool.name
  pub new : if_new place earlier pool.name ≡ Ok pool.name
  pub size_there : field (codes "size") fields ≡ Some (number pool.size)
  pub size : number_in place 1 20 (number pool.size) ≡ Ok pool.size

pub pool_read : (place : Place) (earlier : List PoolPlan) (item : Tree) (pool : PoolPlan) → pool_in place earlier item ≡ Ok pool → PoolFields place earlier item pool
pool_read place earlier item pool h =
    let s = pool_steps place earlier item pool h in
    let name = name_read place s.given s.named s.fits in
    let same = ok_same s.given pool.name (else_ok (has_pool earlier s.given) (Ok s.given) pool.name (misfit place Range) s.new).1 in
    let size = number_read place 1 20 pool.size s.sized s.size in
    record {
      fields = s.fields;
      shape = object_read place s.fields item s.shape;
      there = required_read place s.named (field (codes "name") s.fields) s.there ∙ ap Some (name.is ∙ ap text same);
      fits = subst (λ r. name_in place (text r) ≡ Ok r) same name.fits;
      new = subst (λ r. if_new place earlier r ≡ Ok pool.name) same s.new;
      size_there = required_read place s.sized (field (codes "size") s.fields) s.size_there ∙ ap Some size.is;
      size = number_fits place 1 20 pool.size size.low size.high;
    }

pub pool_once_more : (place : Place) (earlier : List PoolPlan) (item : Tree) (pool : PoolPlan) → pool_in place earlier item ≡ Ok pool → pool_in place earlier (pool_tree pool) ≡ Ok pool
unfolding pool_in
pool_once_more place earlier item pool h =
    let r = pool_read place earlier item pool h in
    onward (name_in place (text pool.name)) _ pool.name (Ok pool) r.fits
    (onward (if_new place earlier pool.name) _ pool.name (Ok pool) r.new
    (onward (number_in place 1 20 (number pool.size)) _ pool.size (Ok pool) r.size refl))

pub pool_no_longer : (place : Place) (earlier : List PoolPlan) (item : Tree) (pool : PoolPlan) → pool_in place earlier item ≡ Ok pool → length (body_text (pool_tree pool)) ≤ length (body_text item)
pool_no_longer place earlier item pool h =
    let r = pool_read place earlier item pool h in
    smaller_item item r.fields (pool_tree pool) r.shape (made_small (pool_fields pool) r.fields refl (
      same_taken (codes "name") (field (codes "name") r.fields) (Some (text pool.name)) r.there,
      (same_taken (codes "size") (field (codes "size") r.fields) (Some (number pool.size)) r.size_there, tt),
    ))

pools_written : (pools : List PoolPlan) → each_pool (elements (map pool_tree pools)) ≡ Ok pools → all_pools (unless_empty (map pool_tree pools)) ≡ Ok pools
pools_written [] h = refl
pools_written (p ∷ ps) h = h

all_pools_again : (pools : List PoolPlan) (o : Option Tree) → all_pools o ≡ Ok pools → all_pools (unless_empty (map pool_tree pools)) ≡ Ok pools
all_pools_again pools None h = subst (λ (ps : List PoolPlan). all_pools (unless_empty (map pool_tree ps)) ≡ Ok ps) (ok_same [] pools h) refl
all_pools_again pools (Some t) h =
    let given = then_ok (array_in (Pool 0) t) each_pool pools h in
    pools_written pools (all_again Pool 8 pool_in pool_in pool_tree pool_once_more pool_no_longer given.0 pools given.2)

all_pools_small : (pools : List PoolPlan) (o : Option Tree) → all_pools o ≡ Ok pools → taken (codes "pools") (unless_empty (map pool_tree pools)) ≤ taken (codes "pools") o
all_pools_small pools None h = none_small (map pool_tree pools) (codes "pools") None (ap (map pool_tree) (ok_same [] pools h))
all_pools_small pools (Some t) h =
    let given = then_ok (array_in (Pool 0) t) each_pool pools h in
    empty_small (map pool_tree pools) given.0 (codes "pools") (Some t) (ap Some (array_read (Pool 0) given.0 t given.1))
    (all_small Pool 8 pool_in pool_in pool_tree pool_once_more pool_no_longer given.0 pools given.2)

-- the pools of a file of either version
pub pools_either : (version : ℕ) (fields : Members) (pools : List PoolPlan) → pools_in version fields ≡ Ok pools → (all_pools (field (codes "pools") fields) ≡ Ok pools) ⊎ ([] ≡ pools)
unfolding pools_in
pools_either version fields pools h = if_either (version == 2) (all_pools (field (codes "pools") fields)) [] pools h

no_pools : (pools : List PoolPlan) → [] ≡ pools → all_pools (unless_empty (map pool_tree pools)) ≡ Ok pools
no_pools pools is = subst (λ (ps : List PoolPlan). all_pools (unless_empty (map pool_tree ps)) ≡ Ok ps) is refl

pools_again : (version : ℕ) (fields : Members) (pools : List PoolPlan) → pools_in version fields ≡ Ok pools → all_pools (unless_empty (map pool_tree pools)) ≡ Ok pools
pools_again version fields pools h = ⊎_elim (all_pools_again pools (field (codes "pools") fields)) (no_pools pools) (pools_either version fields pools h)

pools_small : (version : ℕ) (fields : Members) (pools : List PoolPlan) → pools_in version fields ≡ Ok pools
    → taken (codes "pools") (unless_empty (map pool_tree pools)) ≤ taken (codes "pools") (field (codes "pools") fields)
pools_small version fields pools h =
    ⊎_elim (all_pools_small pools (field (codes "pools") fields)) (λ is. none_small (map pool_tree pools) (codes "pools") (field (codes "pools") fields) (ap (map pool_tree) is)) (pools_either version fields pools h)

-- ---- deployments

kind_read : (place : Place) (fields : Members) (kind : List ℕ) → kind_in place fields ≡ Ok kind → (field (codes "kind") fields ≡ Some (text kind)) × (if_kind place kind ≡ Ok kind)
unfolding kind_in
kind_read place fields kind h =
    let value = then_ok (required place (field (codes "kind") fields)) _ kind h in
    let name = then_ok (text_in place value.0) (if_kind place) kind value.2 in
    let found = if_ok (is_kind name.0) name.0 kind (misfit place Range) name.2 in (
      required_read place value.0 (field (codes "kind") fields) value.1 ∙ ap Some (text_read place name.0 value.0 name.1 ∙ ap text found.1),
      subst (λ r. if_kind place r ≡ Ok kind) found.1 name.2,
    )

pub kind_there : (place : Place) (fields : Members) (kind : List ℕ) → kind_in place fields ≡ Ok kind → field (codes "kind") fields ≡ Some (text kind)
kind_there place fields kind h = (kind_read place fields kind h).0

pub kind_fits : (place : Place) (fields : Members) (kind : List ℕ) → kind_in place fields ≡ Ok kind → is_kind kind ≡ true
kind_fits place fields kind h = (if_ok (is_kind kind) kind kind (misfit place Range) (kind_read place fields kind h).1).0

kind_written : (place : Place) (fields : Members) (kind : List ℕ) → field (codes "kind") fields ≡ Some (text kind) → if_kind place kind ≡ Ok kind → kind_in place fields ≡ Ok kind
unfolding kind_in
kind_written place fields kind is fits = required_written place _ _ (text kind) (Ok kind) is fits

address_read : (place : Place) (fields : Members) (address : List ℕ) → address_in place fields ≡ Ok address → (field (codes "address") fields ≡ Some (text address)) × (name_in place (text address) ≡ Ok address)
unfolding address_in
address_read place fields address h =
    let value = then_ok (required place (field (codes "address") fields)) (name_in place) address h in
    let name = name_read place address value.0 value.2 in
    (required_read place value.0 (field (codes "address") fields) value.1 ∙ ap Some name.is, name.fits)

pub address_there : (place : Place) (fields : Members) (address : List ℕ) → address_in place fields ≡ Ok address → field (codes "address") fields ≡ Some (text address)
address_there place fields address h = (address_read place fields address h).0

pub address_short : (place : Place) (fields : Members) (address : List ℕ) → address_in place fields ≡ Ok address → (1 ≤ length address) × (length address ≤ 1024)
address_short place fields address h = let name = name_read place address (text address) (address_read place fields address h).1 in (name.long, name.short)

address_written : (place : Place) (fields : Members) (address : List ℕ) → field (codes "address") fields ≡ Some (text address) → name_in place (text address) ≡ Ok address → address_in place fields ≡ Ok address
unfolding address_in
address_written place fields address is fits = required_written place (name_in place) _ (text address) (Ok address) is fits

-- the pool of a deployment, in a file of either version
pub pool_either : (place : Place) (version : ℕ) (pools : List PoolPlan) (fields : Members) (named : Option (List ℕ)) → pool_of place version pools fields ≡ Ok named → (named_pool place pools (field (codes "pool") fields) ≡ Ok named) ⊎ (None ≡ named)
unfolding pool_of
pool_either place version pools fields named h = if_either (version == 2) (named_pool place pools (field (codes "pool") fields)) None named h

pool_of_again : (place : Place) (version : ℕ) (pools : List PoolPlan) (fields : Members) (named : Option (List ℕ)) → pool_of place version pools fields ≡ Ok named → named_pool place pools (option_map text named) ≡ Ok named
pool_of_again place version pools fields named h =
    ⊎_elim (pool_again place pools named (field (codes "pool") fields)) (λ is. subst (λ (p : Option (List ℕ)). named_pool place pools (option_map text p) ≡ Ok p) is refl)
    (pool_either place version pools fields named h)

pool_of_small : (place : Place) (version : ℕ) (pools : List PoolPlan) (fields : Members) (named : Option (List ℕ)) → pool_of place version pools fields ≡ Ok named
    → taken (codes "pool") (option_map text named) ≤ taken (codes "pool") (field (codes "pool") fields)
pool_of_small place version pools fields named h =
    ⊎_elim (pool_small place pools named (codes "pool") (field (codes "pool") fields)) (λ is. subst (λ (p : Option (List ℕ)). taken (codes "pool") (option_map text p) ≤ taken (codes "pool") (field (codes "pool") fields)) is (omega arith))
    (pool_either place version pools fields named h)

pool_written : (place : Place) (pools : List PoolPlan) (fields : Members) (o : Option Tree) (named : Option (List ℕ)) → field (codes "pool") fields ≡ o → named_pool place pools o ≡ Ok named → pool_of place 2 pools fields ≡ Ok named
unfolding pool_of
pool_written place pools fields o named is h = ap (named_pool place pools) is ∙ h

config_written : (place : Place) (kind : List ℕ) (fields : Members) (o : Option Tree) (ns : List ℤ) → field (codes "config") fields ≡ o → config_at place kind o ≡ Ok ns → config_in place kind fields ≡ Ok ns
unfolding config_in
config_written place kind fields o ns is h = ap (config_at place kind) is ∙ h

pub config_read : (place : Place) (kind : List ℕ) (fields : Members) (ns : List ℤ) → config_in place kind fields ≡ Ok ns → config_at place kind (field (codes "config") fields) ≡ Ok ns
unfolding config_in
config_read place kind fields ns h = h

pub config_fits : (place : Place) (kind : List ℕ) (fields : Members) (ns : List ℤ) → config_in place kind fields ≡ Ok ns → suits kind ns ≡ true
config_fits place kind fields ns h = config_suits place kind ns (field (codes "config") fields) (config_read place kind fields ns h)

-- what each step of reading a deployment gave
pub record PlannedSteps (version : ℕ) (pools : List PoolPlan) (place : Place) (item : Tree) (plan : Planned) : Type 0 where
  pub fields : Members
  pub shape : object_in place item ≡ Ok fields
  pub kind : kind_in place fields ≡ Ok plan.spec.kind
  pub address : address_in place fields ≡ Ok plan.spec.address
  pub to : name_or plan.spec.address place (field (codes "to") fields) ≡ Ok plan.spec.to
  pub instances : number_or 1 place 1 64 (field (codes "instances") fields) ≡ Ok plan.instances
  pub worker : flag_in place (field (codes "worker") fields) ≡ Ok plan.worker
  pub pool : pool_of place version pools fields ≡ Ok plan.pool
  pub config : config_in place plan.spec.kind fields ≡ Ok plan.spec.config

pub planned_steps : (version : ℕ) (pools : List PoolPlan) (place : Place) (item : Tree) (plan : Planned) → planned_in version pools place item ≡ Ok plan → PlannedSteps version pools place item plan
unfolding planned_in
planned_steps version pools place item plan h =
    let a = then_ok (object_in place item) _ plan h in
    let b = then_ok (kind_in place a.0) _ plan a.2 in
    let c = then_ok (address_in place a.0) _ plan b.2 in
    let d = then_ok (name_or c.0 place (field (codes "to") a.0)) _ plan c.2 in
    let e = then_ok (number_or 1 place 1 64 (field (codes "instances") a.0)) _ plan d.2 in
    let f = then_ok (flag_in place (field (codes "worker") a.0)) _ plan e.2 in
    let g = then_ok (pool_of place version pools a.0) _ plan f.2 in
    let k = then_ok (config_in place b.0 a.0) _ plan g.2 in
    let made : Planned = record { spec = record { kind = b.0; address = c.0; to = d.0; config = k.0 }; instances = e.0; worker = f.0; pool = g.0 } in
    let steps : PlannedSteps version pools place item made = record { fields = a.0; shape = a.1; kind = b.1; address = c.1; to = d.1; instances = e.1; worker = f.1; pool = g.1; config = k.1 } in
    told (PlannedSteps version pools place item) made plan k.2 steps

module _ (version : ℕ) (pools : List PoolPlan) (place : Place) (item : Tree) (plan : Planned) (s : PlannedSteps version pools place item plan) where
  abbrev written : Members
  written = made_of (planned_fields plan)

  kind_again : kind_in place written ≡ Ok plan.spec.kind
  kind_again = kind_written place written plan.spec.kind (field_made (codes "kind") (planned_fields plan)) (kind_read place s.fields plan.spec.kind s.kind).1

  address_again : address_in place written ≡ Ok plan.spec.address
  address_again = address_written place written plan.spec.address (field_made (codes "address") (planned_fields plan)) (address_read place s.fields plan.spec.address s.address).1

  to_again : name_or plan.spec.address place (field (codes "to") written) ≡ Ok plan.spec.to
  to_again =
      ap (name_or plan.spec.address place) (field_made (codes "to") (planned_fields plan) ∙ the_one (unless_same plan.spec.address plan.spec.to))
      ∙ same_again plan.spec.address place plan.spec.to (field (codes "to") s.fields) s.to

  instances_again : number_or 1 place 1 64 (field (codes "instances") written) ≡ Ok plan.instances
  instances_again =
      ap (number_or 1 place 1 64) (field_made (codes "instances") (planned_fields plan) ∙ the_one (unless 1 plan.instances))
      ∙ unless_again 1 place 1 64 plan.instances (field (codes "instances") s.fields) s.instances

  worker_again : flag_in place (field (codes "worker") written) ≡ Ok plan.worker
  worker_again = ap (flag_in place) (field_made (codes "worker") (planned_fields plan) ∙ the_one (if_true plan.worker)) ∙ flag_again place plan.worker

  pool_there : pool_of place 2 pools written ≡ Ok plan.pool
  pool_there = pool_written place pools written (option_map text plan.pool) plan.pool (field_made (codes "pool") (planned_fields plan) ∙ the_one (option_map text plan.pool)) (pool_of_again place version pools s.fields plan.pool s.pool)

  config_there : config_in place plan.spec.kind written ≡ Ok plan.spec.config
  config_there =
      config_written place plan.spec.kind written (unless_empty (map int plan.spec.config)) plan.spec.config (field_made (codes "config") (planned_fields plan) ∙ the_one (unless_empty (map int plan.spec.config)))
      (config_again place plan.spec.kind plan.spec.config (field (codes "config") s.fields) (config_read place plan.spec.kind s.fields plan.spec.config s.config))

  planned_again : planned_in 2 pools place (planned_tree plan) ≡ Ok plan
  unfolding planned_in
  planned_again =
      onward (kind_in place written) _ plan.spec.kind (Ok plan) kind_again
      (onward (address_in place written) _ plan.spec.address (Ok plan) address_again
      (onward (name_or plan.spec.address place (field (codes "to") written)) _ plan.spec.to (Ok plan) to_again
      (onward (number_or 1 place 1 64 (field (codes "instances") written)) _ plan.instances (Ok plan) instances_again
      (onward (flag_in place (field (codes "worker") written)) _ plan.worker (Ok plan) worker_again
      (onward (pool_of place 2 pools written) _ plan.pool (Ok plan) pool_there
      (onward (config_in place plan.spec.kind written) _ plan.spec.config (Ok plan) config_there refl))))))

  planned_small : length (body_text (planned_tree plan)) ≤ length (body_text item)
  planned_small =
      smaller_item item s.fields (planned_tree plan) (object_read place s.fields item s.shape) (made_small (planned_fields plan) s.fields refl (
        same_taken (codes "address") (field (codes "address") s.fields) (Some (text plan.spec.address)) (address_read place s.fields plan.spec.address s.address).0,
        (
          config_small place plan.spec.kind plan.spec.config (codes "config") (field (codes "config") s.fields) (config_read place plan.spec.kind s.fields plan.spec.config s.config),
          (
            unless_small 1 place 1 64 plan.instances (codes "instances") (field (codes "instances") s.fields) s.instances,
            (
              same_taken (codes "kind") (field (codes "kind") s.fields) (Some (text plan.spec.kind)) (kind_read place s.fields plan.spec.kind s.kind).0,
              (
                pool_of_small place version pools s.fields plan.pool s.pool,
                (
                  same_small plan.spec.address place plan.spec.to (codes "to") (field (codes "to") s.fields) s.to,
                  (flag_small place plan.worker (codes "worker") (field (codes "worker") s.fields) s.worker, tt),
                ),
              ),
            ),
          ),
        ),
      ))

planned_once_more : (version : ℕ) (pools : List PoolPlan) (place : Place) (earlier : List Planned) (item : Tree) (plan : Planned) → planned_in version pools place item ≡ Ok plan → planned_in 2 pools place (planned_tree plan) ≡ Ok plan
planned_once_more version pools place earlier item plan h = planned_again version pools place item plan (planned_steps version pools place item plan h)

planned_no_longer : (version : ℕ) (pools : List PoolPlan) (place : Place) (earlier : List Planned) (item : Tree) (plan : Planned) → planned_in version pools place item ≡ Ok plan → length (body_text (planned_tree plan)) ≤ length (body_text item)
planned_no_longer version pools place earlier item plan h = planned_small version pools place item plan (planned_steps version pools place item plan h)

-- the array of deployments
pub record DeploymentsRead (version : ℕ) (pools : List PoolPlan) (fields : Members) (plans : List Planned) : Type 0 where
  pub items : Elements
  pub there : field (codes "deployments") fields ≡ Some (array items)
  pub each_read : each_planned version pools items ≡ Ok plans

pub deployments_read : (version : ℕ) (pools : List PoolPlan) (fields : Members) (plans : List Planned) → deployments_in version pools fields ≡ Ok plans → DeploymentsRead version pools fields plans
unfolding deployments_in
deployments_read version pools fields plans h =
    let value = then_ok (required (Deployment 0) (field (codes "deployments") fields)) _ plans h in
    let items = then_ok (array_in (Deployment 0) value.0) (each_planned version pools) plans value.2 in
    record {
      items = items.0;
      there = required_read (Deployment 0) value.0 (field (codes "deployments") fields) value.1 ∙ ap Some (array_read (Deployment 0) items.0 value.0 items.1);
      each_read = items.2;
    }

deployments_written : (pools : List PoolPlan) (fields : Members) (es : Elements) (plans : List Planned) → field (codes "deployments") fields ≡ Some (array es) → each_planned 2 pools es ≡ Ok plans → deployments_in 2 pools fields ≡ Ok plans
unfolding deployments_in
deployments_written pools fields es plans is h = required_written (Deployment 0) _ _ (array es) (Ok plans) is h

plans_again : (version : ℕ) (pools : List PoolPlan) (es : Elements) (plans : List Planned) → each_planned version pools es ≡ Ok plans → each_planned 2 pools (elements (map planned_tree plans)) ≡ Ok plans
plans_again version pools es plans h =
    all_again Deployment 64 (λ place earlier item. planned_in version pools place item) (λ place earlier item. planned_in 2 pools place item) planned_tree
    (planned_once_more version pools) (planned_no_longer version pools) es plans h

plans_small : (version : ℕ) (pools : List PoolPlan) (es : Elements) (plans : List Planned) → each_planned version pools es ≡ Ok plans → array_parts (elements (map planned_tree plans)) ≤ array_parts es
plans_small version pools es plans h =
    all_small Deployment 64 (λ place earlier item. planned_in version pools place item) (λ place earlier item. planned_in 2 pools place item) planned_tree
    (planned_once_more version pools) (planned_no_longer version pools) es plans h

plans_taken : (ds es : Elements) (o : Option Tree) → o ≡ Some (array es) → array_parts ds ≤ array_parts es → taken (codes "deployments") (Some (array ds)) ≤ taken (codes "deployments") o
plans_taken ds es o is small = omega (arith, ap (taken (codes "deployments")) is, smaller_array ds es small)

-- ---- files

-- the version that was read
record VersionRead (fields : Members) (version : ℕ) : Type 0 where
  there : field (codes "version") fields ≡ Some (number version)
  low : 1 ≤ version
  high : version ≤ 2

as_version_read : (v : Verdict ℕ) (version : ℕ) → as_version v ≡ Ok version → v ≡ Ok version
as_version_read (Ok n) version h = h
as_version_read (Err fault) version h = absurd (cc)

version_read : (fields : Members) (version : ℕ) → version_in fields ≡ Ok version → VersionRead fields version
unfolding version_in
version_read fields version h =
    let value = then_ok (required File (field (codes "version") fields)) (number_in File 1 2) version (as_version_read _ version h) in
    let n = number_read File 1 2 version value.0 value.2 in
    record { there = required_read File value.0 (field (codes "version") fields) value.1 ∙ ap Some n.is; low = n.low; high = n.high }

version_written : (fields : Members) → field (codes "version") fields ≡ Some (number 2) → version_in fields ≡ Ok 2
unfolding version_in
version_written fields is = ap (λ o. as_version (required File o >>= number_in File 1 2)) is

version_small : (fields : Members) (version : ℕ) → VersionRead fields version → taken (codes "version") (Some (number 2)) ≤ taken (codes "version") (field (codes "version") fields)
version_small fields version v = omega (arith, ap (taken (codes "version")) v.there, one_digit 2 (omega arith), one_digit version (omega (arith, v.high)))

pools_written_in : (fields : Members) (o : Option Tree) (pools : List PoolPlan) → field (codes "pools") fields ≡ o → all_pools o ≡ Ok pools → pools_in 2 fields ≡ Ok pools
unfolding pools_in
pools_written_in fields o pools is h = ap all_pools is ∙ h

-- what each step of reading a file gave
pub record FileSteps (fields : Members) (file : DeployFile) : Type 0 where
  pub version : ℕ
  pub version_told : version_in fields ≡ Ok version
  pub loops : number_or 2 Loops 1 16 (field (codes "loops") fields) ≡ Ok file.loops
  pub workers : number_or 2 Workers 1 20 (field (codes "workers") fields) ≡ Ok file.workers
  pub pools : pools_in version fields ≡ Ok file.pools
  pub until : number_or 0 Until 0 1000000000000 (field (codes "until") fields) ≡ Ok file.until
  pub deployments : deployments_in version file.pools fields ≡ Ok file.deployments

pub file_steps : (fields : Members) (file : DeployFile) → file_of fields ≡ Ok file → FileSteps fields file
unfolding file_of
file_steps fields file h =
    let a = then_ok (version_in fields) _ file h in
    let b = then_ok (number_or 2 Loops 1 16 (field (codes "loops") fields)) _ file a.2 in
    let c = then_ok (number_or 2 Workers 1 20 (field (codes "workers") fields)) _ file b.2 in
    let d = then_ok (pools_in a.0 fields) _ file c.2 in
    let e = then_ok (number_or 0 Until 0 1000000000000 (field (codes "until") fields)) _ file d.2 in
    let f = then_ok (deployments_in a.0 d.0 fields) _ file e.2 in
    let g = then_ok (no_bridge (field (codes "bridge") fields)) _ file f.2 in
    let made : DeployFile = record { loops = b.0; workers = c.0; pools = d.0; until = e.0; deployments = f.0 } in
    let steps : FileSteps fields made = record { version = a.0; version_told = a.1; loops = b.1; workers = c.1; pools = d.1; until = e.1; deployments = f.1 } in
    told (FileSteps fields) made file g.2 steps

module _ (fields : Members) (file : DeployFile) (s : FileSteps fields file) where
  abbrev written_file : Members
  written_file = made_of (file_fields file)

  number_again : (name : List ℕ) (otherwise : ℕ) (place : Place) (least most n : ℕ) → field name written_file ≡ unless otherwise n → number_or otherwise place least most (field name fields) ≡ Ok n
      → number_or otherwise place least most (field name written_file) ≡ Ok n
  number_again name otherwise place least most n is h = ap (number_or otherwise place least most) is ∙ unless_again otherwise place least most n (field name fields) h

  deployments_again : deployments_in 2 file.pools written_file ≡ Ok file.deployments
  deployments_again =
      let r = deployments_read s.version file.pools fields file.deployments s.deployments in
      deployments_written file.pools written_file (elements (map planned_tree file.deployments)) file.deployments (field_made (codes "deployments") (file_fields file))
      (plans_again s.version file.pools r.items file.deployments r.each_read)

  file_again : file_of written_file ≡ Ok file
  unfolding file_of
  file_again =
      onward (version_in written_file) _ 2 (Ok file) (version_written written_file (field_made (codes "version") (file_fields file)))
      (onward (number_or 2 Loops 1 16 (field (codes "loops") written_file)) _ file.loops (Ok file)
      (number_again (codes "loops") 2 Loops 1 16 file.loops (field_made (codes "loops") (file_fields file) ∙ the_one (unless 2 file.loops)) s.loops)
      (onward (number_or 2 Workers 1 20 (field (codes "workers") written_file)) _ file.workers (Ok file)
      (number_again (codes "workers") 2 Workers 1 20 file.workers (field_made (codes "workers") (file_fields file) ∙ the_one (unless 2 file.workers)) s.workers)
      (onward (pools_in 2 written_file) _ file.pools (Ok file)
      (pools_written_in written_file (unless_empty (map pool_tree file.pools)) file.pools (field_made (codes "pools") (file_fields file) ∙ the_one (unless_empty (map pool_tree file.pools))) (pools_again s.version fields file.pools s.pools))
      (onward (number_or 0 Until 0 1000000000000 (field (codes "until") written_file)) _ file.until (Ok file)
      (number_again (codes "until") 0 Until 0 1000000000000 file.until (field_made (codes "until") (file_fields file) ∙ the_one (unless 0 file.until)) s.until)
      (onward (deployments_in 2 file.pools written_file) _ file.deployments (Ok file) deployments_again
      (onward (no_bridge (field (codes "bridge") written_file)) _ tt (Ok file) (ap no_bridge (field_made (codes "bridge") (file_fields file))) refl))))))

  file_small : length (file_text file) ≤ length (body_text (object fields))
  file_small =
      let r = deployments_read s.version file.pools fields file.deployments s.deployments in
      made_small (file_fields file) fields refl (
        plans_taken (elements (map planned_tree file.deployments)) r.items (field (codes "deployments") fields) r.there (plans_small s.version file.pools r.items file.deployments r.each_read),
        (
          unless_small 2 Loops 1 16 file.loops (codes "loops") (field (codes "loops") fields) s.loops,
          (
            pools_small s.version fields file.pools s.pools,
            (
              unless_small 0 Until 0 1000000000000 file.until (codes "until") (field (codes "until") fields) s.until,
              (
                version_small fields s.version (version_read fields s.version s.version_told),
                (unless_small 2 Workers 1 20 file.workers (codes "workers") (field (codes "workers") fields) s.workers, tt),
              ),
            ),
          ),
        ),
      )

pub read_again : (fields : Members) (file : DeployFile) → file_of fields ≡ Ok file → file_of (made_of (file_fields file)) ≡ Ok file
read_again fields file h = file_again fields file (file_steps fields file h)

pub no_longer : (fields : Members) (file : DeployFile) → file_of fields ≡ Ok file → length (file_text file) ≤ length (body_text (object fields))
no_longer fields file h = file_small fields file (file_steps fields file h)
