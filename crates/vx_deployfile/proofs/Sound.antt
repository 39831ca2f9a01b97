-- What is read of a text has texts in UTF-8 and numbers of 64 bits.
use Rattle.std.proofs.Common.{◌≡◌, ⊎_elim, List, [], ◌∷◌, ◌++◌, map, Bool, true, false, Option, Some, None, Ok, IfSome, IsUtf8, codes, subst, Ordering, Less, Equal, Greater, nat_cmp, length, nat_le, ℕ, ℤ}
use Rattle.std.specs.Cmp.Lexicographic.{slice_cmp}
use Rattle.std.specs.List.{AllByRecursion}
use Rattle.std.specs.Ordering.{match_ordering}
use Rattle.std.specs.Prelude.{FitsSigned, if◌then◌else◌}
use Rattle.std.specs.Str.{bytes_eq}
use mir.Syntax.{w64}
use Rattle.vx_data.specs.Bodies.{elements, put}
use Rattle.vx_data.specs.Tree.{Tree, null, boolean, int, text, bytes, array, object, Elements, no_elements, element, Members, no_members, member}
use Rattle.vx_deployfile.specs.declared.fault.FileWhy.TheVariants.{Range}
use Rattle.vx_deployfile.specs.declared.fault.Place.{Place}
use Rattle.vx_deployfile.specs.declared.fault.Place.TheVariants.{Pool, Deployment}
use Rattle.vx_deployfile.specs.declared.file.DeployFile.{DeployFile}
use Rattle.vx_deployfile.specs.declared.file.Planned.{Planned}
use Rattle.vx_deployfile.specs.declared.file.PoolPlan.{PoolPlan}
use Rattle.vx_deployfile.specs.Fields.{misfit, field, array_in, text_in, name_or, numbers_in}
use Rattle.vx_deployfile.specs.Files.{each, has_pool, pool_in, each_pool, all_pools, pools_in, named_pool, if_pool, planned_in, deployments_in, numbers_or_none, if_suits, file_of}
use Rattle.vx_deployfile.specs.Kinds.{suits}
use Rattle.vx_deployfile.specs.Verdicts.{Verdict, ◌>>=◌}
use Rattle.vx_deployfile.proofs.Again.{pool_read, pools_either, planned_steps, deployments_read, file_steps, kind_there, address_there, pool_either, config_read}
use Rattle.vx_deployfile.proofs.Limits.{all_more}
use Rattle.vx_deployfile.proofs.Optional.{config_at}
use Rattle.vx_deployfile.proofs.Steps.{ok_same, then_ok, if_ok, else_ok, array_read, object_read, text_read, name_read, numbers_read}
use Rattle.vx_json.specs.Grammar.{IsValue, AreElements, AreMoreElements, AreMembers, AreMoreMembers, settled, settled_elements, settled_members}

abbrev mutual
  pub IsSound : Tree → Type 0
  IsSound null = Unit {0}
  IsSound (boolean b) = Unit {0}
  IsSound (int n) = FitsSigned w64 n
  IsSound (text s) = IsUtf8 s
  IsSound (bytes s) = Unit {0}
  IsSound (array es) = AreSound es
  IsSound (object ms) = HaveSound ms

  pub AreSound : Elements → Type 0
  AreSound no_elements = Unit {0}
  AreSound (element t es) = IsSound t × AreSound es

  pub HaveSound : Members → Type 0
  HaveSound no_members = Unit {0}
  HaveSound (member k t ms) = IsSound t × HaveSound ms

-- ---- values of a text

mutual
  pub value_sound : (t : Tree) (all : List ℕ) → IsValue t all → IsSound t
  value_sound null all is = tt
  value_sound (boolean b) all is = tt
  value_sound (int n) all is = is.1
  value_sound (text s) all is = is.utf8
  value_sound (bytes s) all is = tt
  value_sound (array es) all is = elements_sound es is.0 is.2
  value_sound (object ms) all is = members_sound ms is.0 is.2

  elements_sound : (es : Elements) (all : List ℕ) → AreElements es all → AreSound es
  elements_sound no_elements all are = tt
  elements_sound (element t es) all are = (value_sound t are.3.inner are.3.is_inner, more_elements_sound es are.1 are.4)

  more_elements_sound : (es : Elements) (all : List ℕ) → AreMoreElements es all → AreSound es
  more_elements_sound no_elements all are = tt
  more_elements_sound (element t es) all are = (value_sound t are.3.inner are.3.is_inner, more_elements_sound es are.1 are.4)

  members_sound : (ms : Members) (all : List ℕ) → AreMembers ms all → HaveSound ms
  members_sound no_members all are = tt
  members_sound (member k t ms) all are = (value_sound t are.3.is_rest.inner are.3.is_rest.is_inner, more_members_sound ms are.1 are.4)

  more_members_sound : (ms : Members) (all : List ℕ) → AreMoreMembers ms all → HaveSound ms
  more_members_sound no_members all are = tt
  more_members_sound (member k t ms) all are = (value_sound t are.3.is_rest.inner are.3.is_rest.is_inner, more_members_sound ms are.1 are.4)

put_chosen : (o : Ordering) (k l : List ℕ) (t u : Tree) (ms more : Members) → IsSound t → IsSound u → HaveSound ms → HaveSound more
    → HaveSound (match_ordering o (member k t (member l u ms)) (member k t ms) (member l u more))
put_chosen Less k l t u ms more ht hu hms hmore = (ht, (hu, hms))
put_chosen Equal k l t u ms more ht hu hms hmore = (ht, hms)
put_chosen Greater k l t u ms more ht hu hms hmore = (hu, hmore)

put_sound : (k : List ℕ) (t : Tree) (ms : Members) → IsSound t → HaveSound ms → HaveSound (put k t ms)
put_sound k t no_members h hms = (h, tt)
put_sound k t (member l u ms) h hms = put_chosen (slice_cmp nat_cmp k l) k l t u ms (put k t ms) h hms.0 hms.1 (put_sound k t ms h hms.1)

mutual
  settled_sound : (t : Tree) → IsSound t → IsSound (settled t)
  settled_sound null h = h
  settled_sound (boolean b) h = h
  settled_sound (int n) h = h
  settled_sound (text s) h = h
  settled_sound (bytes s) h = h
  settled_sound (array es) h = settled_elements_sound es h
  settled_sound (object ms) h = settled_members_sound ms no_members h tt

  settled_elements_sound : (es : Elements) → AreSound es → AreSound (settled_elements es)
  settled_elements_sound no_elements h = tt
  settled_elements_sound (element t es) h = (settled_sound t h.0, settled_elements_sound es h.1)

  pub settled_members_sound : (ms found : Members) → HaveSound ms → HaveSound found → HaveSound (settled_members ms found)
  settled_members_sound no_members found h hf = hf
  settled_members_sound (member k t ms) found h hf = settled_members_sound ms (put k (settled t) found) h.1 (put_sound k (settled t) found (settled_sound t h.0) hf)

-- ---- fields

abbrev IsSoundField : Option Tree → Type 0
IsSoundField None = Unit {0}
IsSoundField (Some t) = IsSound t

field_chosen : (test : Bool) (t : Tree) (o : Option Tree) → IsSound t → IsSoundField o → IsSoundField (if test then Some t else o)
field_chosen true t o here there = here
field_chosen false t o here there = there

field_sound : (name : List ℕ) (ms : Members) → HaveSound ms → IsSoundField (field name ms)
field_sound name no_members h = tt
field_sound name (member k t ms) h = field_chosen (bytes_eq name k) t (field name ms) h.0 (field_sound name ms h.1)

sound_there : (name : List ℕ) (ms : Members) (t : Tree) → HaveSound ms → field name ms ≡ Some t → IsSound t
sound_there name ms t h is = subst IsSoundField is (field_sound name ms h)

item_fields : (item : Tree) (ms : Members) → item ≡ object ms → IsSound item → HaveSound ms
item_fields item ms is h = subst IsSound is h

-- what holds of each item that is read of a sound value
each_sound : {A : Type 0} (place : ℕ → Place) (most : ℕ) (read : Place → List A → Tree → Verdict A) (P : A → Type 0)
    → ((p : Place) (xs : List A) (t : Tree) (x : A) → read p xs t ≡ Ok x → IsSound t → P x)
    → (es : Elements) (found all : List A) → each place most read found es ≡ Ok all → AreSound es → AllByRecursion P found → AllByRecursion P all
each_sound place most read P step no_elements found all h sound holds = subst (AllByRecursion P) (ok_same found all h) holds
each_sound place most read P step (element t es) found all h sound holds =
    let p = place (length found) in
    let inner = else_ok (nat_le most (length found)) (read p found t >>= λ x. each place most read (found ++ x ∷ []) es) all (misfit p Range) h in
    let first = then_ok (read p found t) (λ x. each place most read (found ++ x ∷ []) es) all inner.1 in
    each_sound place most read P step es (found ++ first.0 ∷ []) all first.2 sound.1 (all_more P found first.0 holds (step p found t first.0 first.1 sound.0))

-- ---- pools

abbrev pub IsSoundPool : PoolPlan → Type 0
IsSoundPool pool = IsUtf8 pool.name

pool_sound : (place : Place) (earlier : List PoolPlan) (item : Tree) (pool : PoolPlan) → pool_in place earlier item ≡ Ok pool → IsSound item → IsSoundPool pool
pool_sound place earlier item pool h sound =
    let r = pool_read place earlier item pool h in
    sound_there (codes "name") r.fields (text pool.name) (item_fields item r.fields r.shape sound) r.there

all_pools_sound : (pools : List PoolPlan) (o : Option Tree) → all_pools o ≡ Ok pools → IsSoundField o → AllByRecursion IsSoundPool pools
all_pools_sound pools None h sound = subst (AllByRecursion IsSoundPool) (ok_same [] pools h) tt
all_pools_sound pools (Some t) h sound =
    let given = then_ok (array_in (Pool 0) t) each_pool pools h in
    each_sound Pool 8 pool_in IsSoundPool pool_sound given.0 [] pools given.2 (subst IsSound (array_read (Pool 0) given.0 t given.1) sound) tt

pools_sound : (version : ℕ) (fields : Members) (pools : List PoolPlan) → pools_in version fields ≡ Ok pools → HaveSound fields → AllByRecursion IsSoundPool pools
pools_sound version fields pools h sound =
    ⊎_elim (λ there. all_pools_sound pools (field (codes "pools") fields) there (field_sound (codes "pools") fields sound)) (λ is. subst (AllByRecursion IsSoundPool) is tt) (pools_either version fields pools h)

-- ---- deployments

pub record IsSoundPlan (plan : Planned) : Type 0 where
  pub kind : IsUtf8 plan.spec.kind
  pub address : IsUtf8 plan.spec.address
  pub to : IsUtf8 plan.spec.to
  pub config : AreSound (elements (map int plan.spec.config))
  pub pool : IfSome plan.pool IsUtf8

to_sound : (address : List ℕ) (place : Place) (to : List ℕ) (o : Option Tree) → name_or address place o ≡ Ok to → IsUtf8 address → IsSoundField o → IsUtf8 to
to_sound address place to None h first sound = subst IsUtf8 (ok_same address to h) first
to_sound address place to (Some t) h first sound = subst IsSound (name_read place to t h).is sound

pool_named : (place : Place) (pools : List PoolPlan) (named : Option (List ℕ)) (o : Option Tree) → named_pool place pools o ≡ Ok named → IsSoundField o → IfSome named IsUtf8
pool_named place pools named None h sound = subst (λ (p : Option (List ℕ)). IfSome p IsUtf8) (ok_same None named h) tt
pool_named place pools named (Some t) h sound =
    let given = then_ok (text_in place t) (if_pool place pools) named h in
    let found = if_ok (has_pool pools given.0) (Some given.0) named (misfit place Range) given.2 in
    subst (λ (p : Option (List ℕ)). IfSome p IsUtf8) found.1 (subst IsSound (text_read place given.0 t given.1) sound)

numbers_sound : (place : Place) (ns : List ℤ) (o : Option Tree) → numbers_or_none place o ≡ Ok ns → IsSoundField o → AreSound (elements (map int ns))
numbers_sound place ns None h sound = subst (λ (ms : List ℤ). AreSound (elements (map int ms))) (ok_same [] ns h) tt
numbers_sound place ns (Some t) h sound =
    let given = then_ok (array_in place t) (numbers_in place) ns h in
    subst AreSound (numbers_read place ns given.0 given.2) (subst IsSound (array_read place given.0 t given.1) sound)

config_sound : (place : Place) (kind : List ℕ) (ns : List ℤ) (o : Option Tree) → config_at place kind o ≡ Ok ns → IsSoundField o → AreSound (elements (map int ns))
config_sound place kind ns o h sound =
    let given = then_ok (numbers_or_none place o) (if_suits place kind) ns h in
    let found = if_ok (suits kind given.0) given.0 ns (misfit place Range) given.2 in
    subst (λ (ms : List ℤ). AreSound (elements (map int ms))) found.1 (numbers_sound place given.0 o given.1 sound)

plan_sound : (version : ℕ) (pools : List PoolPlan) (place : Place) (item : Tree) (plan : Planned) → planned_in version pools place item ≡ Ok plan → IsSound item → IsSoundPlan plan
plan_sound version pools place item plan h sound =
    let s = planned_steps version pools place item plan h in
    let all = item_fields item s.fields (object_read place s.fields item s.shape) sound in
    let address = sound_there (codes "address") s.fields (text plan.spec.address) all (address_there place s.fields plan.spec.address s.address) in
    record {
      kind = sound_there (codes "kind") s.fields (text plan.spec.kind) all (kind_there place s.fields plan.spec.kind s.kind);
      address = address;
      to = to_sound plan.spec.address place plan.spec.to (field (codes "to") s.fields) s.to address (field_sound (codes "to") s.fields all);
      config = config_sound place plan.spec.kind plan.spec.config (field (codes "config") s.fields) (config_read place plan.spec.kind s.fields plan.spec.config s.config) (field_sound (codes "config") s.fields all);
      pool = ⊎_elim (λ there. pool_named place pools plan.pool (field (codes "pool") s.fields) there (field_sound (codes "pool") s.fields all)) (λ is. subst (λ (p : Option (List ℕ)). IfSome p IsUtf8) is tt) (pool_either place version pools s.fields plan.pool s.pool);
    }

plans_sound : (version : ℕ) (pools : List PoolPlan) (fields : Members) (plans : List Planned) → deployments_in version pools fields ≡ Ok plans → HaveSound fields → AllByRecursion IsSoundPlan plans
plans_sound version pools fields plans h sound =
    let r = deployments_read version pools fields plans h in
    each_sound Deployment 64 (λ place earlier item. planned_in version pools place item) IsSoundPlan (λ place earlier item plan read here. plan_sound version pools place item plan read here)
    r.items [] plans r.each_read (sound_there (codes "deployments") fields (array r.items) sound r.there) tt

-- ---- files

pub record IsSoundFile (file : DeployFile) : Type 0 where
  pub pools : AllByRecursion IsSoundPool file.pools
  pub deployments : AllByRecursion IsSoundPlan file.deployments

pub file_sound : (fields : Members) (file : DeployFile) → file_of fields ≡ Ok file → HaveSound fields → IsSoundFile file
file_sound fields file h sound =
    let s = file_steps fields file h in
    record { pools = pools_sound s.version fields file.pools s.pools sound; deployments = plans_sound s.version file.pools fields file.deployments s.deployments sound }
