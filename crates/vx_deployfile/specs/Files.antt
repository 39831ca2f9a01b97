-- The deployment file that a JSON text is. Places are tested in the order in which they stand here.
use Rattle.std.specs.Prelude.{◌≡◌, ℕ, ℤ, ◌<◌, ◌≤◌, ◌==◌, nat_le, List, [], ◌∷◌, ◌++◌, length, Bool, Option, Some, None, Ok, Err, codes, if◌then◌else◌}
use Rattle.std.specs.List.{list_any}
use Rattle.std.specs.Str.{bytes_eq}
use Rattle.vx_data.specs.Tree.{Tree, object, Elements, no_elements, element, Members, no_members}
use Rattle.vx_json.specs.Grammar.{IsJson, settled_members}
use Rattle.vx_json.specs.declared.fault.JsonFault.{JsonFault}
use Rattle.vx_json.specs.declared.fault.JsonFault.TheVariants as faults
use Rattle.vx_deployfile.specs.declared.fault.FileRefused.{FileRefused}
use Rattle.vx_deployfile.specs.declared.fault.FileRefused.TheVariants.{BadFile, NoMemory}
use Rattle.vx_deployfile.specs.declared.fault.FileWhy.TheVariants.{TooLong, NotJson, Version, Range, Unbuilt}
use Rattle.vx_deployfile.specs.declared.fault.Place.{Place}
use Rattle.vx_deployfile.specs.declared.fault.Place.TheVariants.{File, Loops, Workers, Pool, Until, Deployment, Bridge}
use Rattle.vx_deployfile.specs.declared.file.DeployFile.{DeployFile}
use Rattle.vx_deployfile.specs.declared.file.Planned.{Planned}
use Rattle.vx_deployfile.specs.declared.file.PoolPlan.{PoolPlan}
use Rattle.vx_deployfile.specs.Fields.{misfit, field, required, object_in, array_in, number_in, number_or, text_in, name_in, name_or, flag_in, numbers_in}
use Rattle.vx_deployfile.specs.Kinds.{is_kind, suits}
use Rattle.vx_deployfile.specs.Verdicts.{Verdict, ◌>>=◌}

-- ## Items of an array

-- The items of an array, each read behind those before it. Each has a place of its own. One past the most is out of its place's range.
abbrev pub each : {A : Type 0} → (ℕ → Place) → ℕ → (Place → List A → Tree → Verdict A) → List A → Elements → Verdict (List A)
each place most read found no_elements = Ok found
each place most read found (element item items) =
    if nat_le most (length found) then Err (misfit (place (length found)) Range)
    else (read (place (length found)) found item >>= λ x. each place most read (found ++ x ∷ []) items)

-- ## Pools

abbrev pub has_pool : List PoolPlan → List ℕ → Bool
has_pool pools name = list_any (λ (pool : PoolPlan). bytes_eq name pool.name) pools

abbrev pub if_new : Place → List PoolPlan → List ℕ → Verdict (List ℕ)
if_new place earlier name = if has_pool earlier name then Err (misfit place Range) else Ok name

-- a pool, whose name no earlier one has
unfoldable pub pool_in : Place → List PoolPlan → Tree → Verdict PoolPlan
pool_in place earlier item = do
  fields ← object_in place item
  value ← required place (field (codes "name") fields)
  given ← name_in place value
  name ← if_new place earlier given
  value ← required place (field (codes "size") fields)
  size ← number_in place 1 20 value
  Ok (record { name = name; size = size })

abbrev pub each_pool : Elements → Verdict (List PoolPlan)
each_pool items = each Pool 8 pool_in [] items

abbrev pub all_pools : Option Tree → Verdict (List PoolPlan)
all_pools None = Ok []
all_pools (Some value) = array_in (Pool 0) value >>= each_pool

-- pools came with version 2
unfoldable pub pools_in : ℕ → Members → Verdict (List PoolPlan)
pools_in version fields = if version == 2 then all_pools (field (codes "pools") fields) else Ok []

-- ## Deployments

abbrev pub if_kind : Place → List ℕ → Verdict (List ℕ)
if_kind place name = if is_kind name then Ok name else Err (misfit place Range)

unfoldable pub kind_in : Place → Members → Verdict (List ℕ)
kind_in place fields = do
  value ← required place (field (codes "kind") fields)
  name ← text_in place value
  if_kind place name

unfoldable pub address_in : Place → Members → Verdict (List ℕ)
address_in place fields = required place (field (codes "address") fields) >>= name_in place

abbrev pub if_pool : Place → List PoolPlan → List ℕ → Verdict (Option (List ℕ))
if_pool place pools name = if has_pool pools name then Ok (Some name) else Err (misfit place Range)

abbrev pub named_pool : Place → List PoolPlan → Option Tree → Verdict (Option (List ℕ))
named_pool place pools None = Ok None
named_pool place pools (Some value) = text_in place value >>= if_pool place pools

unfoldable pub pool_of : Place → ℕ → List PoolPlan → Members → Verdict (Option (List ℕ))
pool_of place version pools fields = if version == 2 then named_pool place pools (field (codes "pool") fields) else Ok None

abbrev pub numbers_or_none : Place → Option Tree → Verdict (List ℤ)
numbers_or_none place None = Ok []
numbers_or_none place (Some value) = array_in place value >>= numbers_in place

abbrev pub if_suits : Place → List ℕ → List ℤ → Verdict (List ℤ)
if_suits place kind numbers = if suits kind numbers then Ok numbers else Err (misfit place Range)

unfoldable pub config_in : Place → List ℕ → Members → Verdict (List ℤ)
config_in place kind fields = numbers_or_none place (field (codes "config") fields) >>= if_suits place kind

-- A deployment. Without a second address the first one stands for it.
unfoldable pub planned_in : ℕ → List PoolPlan → Place → Tree → Verdict Planned
planned_in version pools place item = do
  fields ← object_in place item
  kind ← kind_in place fields
  address ← address_in place fields
  to ← name_or address place (field (codes "to") fields)
  instances ← number_or 1 place 1 64 (field (codes "instances") fields)
  worker ← flag_in place (field (codes "worker") fields)
  pool ← pool_of place version pools fields
  config ← config_in place kind fields
  Ok (record { spec = record { kind = kind; address = address; to = to; config = config }; instances = instances; worker = worker; pool = pool })

abbrev pub each_planned : ℕ → List PoolPlan → Elements → Verdict (List Planned)
each_planned version pools items = each Deployment 64 (λ place earlier item. planned_in version pools place item) [] items

unfoldable pub deployments_in : ℕ → List PoolPlan → Members → Verdict (List Planned)
deployments_in version pools fields = do
  value ← required (Deployment 0) (field (codes "deployments") fields)
  items ← array_in (Deployment 0) value
  each_planned version pools items

-- ## Files

abbrev pub as_version : Verdict ℕ → Verdict ℕ
as_version (Ok version) = Ok version
as_version (Err fault) = Err (misfit File Version)

-- the version is 1 or 2
unfoldable pub version_in : Members → Verdict ℕ
version_in fields = as_version (required File (field (codes "version") fields) >>= number_in File 1 2)

-- nothing is built that a bridge could be
abbrev pub no_bridge : Option Tree → Verdict (Unit {0})
no_bridge None = Ok tt
no_bridge (Some value) = Err (misfit Bridge Unbuilt)

-- the file of a JSON object
unfoldable pub file_of : Members → Verdict DeployFile
file_of fields = do
  version ← version_in fields
  loops ← number_or 2 Loops 1 16 (field (codes "loops") fields)
  workers ← number_or 2 Workers 1 20 (field (codes "workers") fields)
  pools ← pools_in version fields
  until ← number_or 0 Until 0 1000000000000 (field (codes "until") fields)
  deployments ← deployments_in version pools fields
  nothing ← no_bridge (field (codes "bridge") fields)
  Ok (record { loops = loops; workers = workers; pools = pools; until = until; deployments = deployments })

-- the same, where of a key that comes again the last value counts
abbrev pub settled_file : Members → Verdict DeployFile
settled_file fields = file_of (settled_members fields no_members)

-- how many bytes a file may have
abbrev pub max_file_bytes : ℕ
max_file_bytes = 1048576

-- What bytes are as a file: too many, no JSON object, or what the object is.
pub data ReadsAs (bytes : List ℕ) (verdict : Verdict DeployFile) : Type 0 where
  too_long : max_file_bytes < length bytes → verdict ≡ Err (misfit File TooLong) → ReadsAs bytes verdict
  no_object : length bytes ≤ max_file_bytes → ((fields : Members) → IsJson (object fields) bytes → ⊥) → verdict ≡ Err (misfit File NotJson) → ReadsAs bytes verdict
  an_object : length bytes ≤ max_file_bytes → (fields : Members) → IsJson (object fields) bytes → verdict ≡ settled_file fields → ReadsAs bytes verdict

-- what is said of an answer, where memory did not run out
abbrev pub IfTold : (Verdict DeployFile → Type 0) → Verdict DeployFile → Type 0
IfTold Says (Ok file) = Says (Ok file)
IfTold Says (Err (BadFile place why)) = Says (Err (BadFile place why))
IfTold Says (Err NoMemory) = Unit {0}

-- what it is for a file that no object was read
abbrev pub unread : JsonFault → FileRefused
unread faults.BadJson = misfit File NotJson
unread faults.Deep = misfit File NotJson
unread faults.NoMemory = NoMemory
