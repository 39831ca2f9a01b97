-- The JSON text of a deployment file: version 2, no spaces, keys in byte order, and no field that has its default.
use Rattle.std.specs.Prelude.{ℕ, pos, List, [], ◌∷◌, ◌++◌, map, Bool, true, ◌==◌, Option, Some, None, option_map, codes, if◌then◌else◌}
use Rattle.std.specs.Str.{bytes_eq}
use Rattle.vx_data.specs.Bodies.{elements, gathered}
use Rattle.vx_data.specs.BodyText.{body_text}
use Rattle.vx_data.specs.Tree.{Tree, boolean, int, text, array, object, Members}
use Rattle.vx_deployfile.specs.declared.file.DeployFile.{DeployFile}
use Rattle.vx_deployfile.specs.declared.file.Planned.{Planned}
use Rattle.vx_deployfile.specs.declared.file.PoolPlan.{PoolPlan}

-- fields by their names, each with its value where it is there
abbrev pub Fields : Type 0
Fields = List (List ℕ × Option Tree)

abbrev pub if_there : List ℕ → Option Tree → List (List ℕ × Tree)
if_there name None = []
if_there name (Some value) = (name, value) ∷ []

abbrev pub those_there : Fields → List (List ℕ × Tree)
those_there [] = []
those_there (f ∷ fs) = if_there f.0 f.1 ++ those_there fs

-- the members of an object with these fields
abbrev pub made_of : Fields → Members
made_of fields = gathered (those_there fields)

-- ## Values. One that is the default of its field is left out

abbrev pub number : ℕ → Tree
number n = int (pos n)

abbrev pub unless : ℕ → ℕ → Option Tree
unless otherwise n = if n == otherwise then None else Some (number n)

abbrev pub unless_same : List ℕ → List ℕ → Option Tree
unless_same other s = if bytes_eq s other then None else Some (text s)

abbrev pub unless_empty : List Tree → Option Tree
unless_empty [] = None
unless_empty (t ∷ ts) = Some (array (elements (t ∷ ts)))

abbrev pub if_true : Bool → Option Tree
if_true flag = if flag then Some (boolean true) else None

-- ## Pools, deployments and files

abbrev pub pool_fields : PoolPlan → Fields
pool_fields pool = (codes "name", Some (text pool.name)) ∷ (codes "size", Some (number pool.size)) ∷ []

abbrev pub pool_tree : PoolPlan → Tree
pool_tree pool = object (made_of (pool_fields pool))

abbrev pub planned_fields : Planned → Fields
planned_fields plan =
    (codes "address", Some (text plan.spec.address))
    ∷ (codes "config", unless_empty (map int plan.spec.config))
    ∷ (codes "instances", unless 1 plan.instances)
    ∷ (codes "kind", Some (text plan.spec.kind))
    ∷ (codes "pool", option_map text plan.pool)
    ∷ (codes "to", unless_same plan.spec.address plan.spec.to)
    ∷ (codes "worker", if_true plan.worker)
    ∷ []

abbrev pub planned_tree : Planned → Tree
planned_tree plan = object (made_of (planned_fields plan))

abbrev pub file_fields : DeployFile → Fields
file_fields file =
    (codes "deployments", Some (array (elements (map planned_tree file.deployments))))
    ∷ (codes "loops", unless 2 file.loops)
    ∷ (codes "pools", unless_empty (map pool_tree file.pools))
    ∷ (codes "until", unless 0 file.until)
    ∷ (codes "version", Some (number 2))
    ∷ (codes "workers", unless 2 file.workers)
    ∷ []

abbrev pub file_tree : DeployFile → Tree
file_tree file = object (made_of (file_fields file))

abbrev pub file_text : DeployFile → List ℕ
file_text file = body_text (file_tree file)
