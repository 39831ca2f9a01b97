-- What holds of the deployments that are there: they rise, each with its parent before it, and of one that was asked to
-- end each child was asked too.
use Rattle.std.specs.Prelude.{◌≡◌, ℕ, ◌<◌, true, is_some, List, [], ◌∷◌, Option, None, Some}
use Rattle.vx_data.specs.declared.ids.DeploymentId.{DeploymentId}
use Rattle.vx_data.specs.declared.ids.EntryNo.{EntryNo}
use Rattle.vx_tree.specs.declared.node.Node.{Node}
use Rattle.vx_tree.specs.Nodes.{asked_at, is_known, has_asked_parent}

-- P holds of each
abbrev pub Each : (Node → Type 0) → List Node → Type 0
Each P [] = Unit {0}
Each P (node ∷ nodes) = P node × Each P nodes

-- each has a greater number than those before it
abbrev pub AreRising : List Node → Type 0
AreRising [] = Unit {0}
AreRising (node ∷ nodes) = Each (λ other. node.id.0.0 < other.id.0.0) nodes × AreRising nodes

abbrev pub IsEarlier : Option DeploymentId → DeploymentId → Type 0
IsEarlier None id = Unit {0}
IsEarlier (Some parent) id = parent.0.0 < id.0.0

-- a deployment is known, its parent was made before it, and it was asked where its parent was
pub record IsKept (asked : List (ℕ × Option EntryNo)) (node : Node) : Type 0 where
  pub known : is_known node.id asked ≡ true
  pub earlier : IsEarlier node.parent node.id
  pub with_parent : has_asked_parent asked node ≡ true → is_some (asked_at node.id asked) ≡ true

pub record AreKept (nodes : List Node) (asked : List (ℕ × Option EntryNo)) : Type 0 where
  pub rising : AreRising nodes
  pub each : Each (IsKept asked) nodes
