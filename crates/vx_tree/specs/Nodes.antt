-- Deployments that are there, and the contexts of their verticles.
use Rattle.std.specs.Prelude.{◌≡◌, ℕ, zero, suc, ◌+◌, nat_eq, Bool, true, false, not, ◌&&◌, ◌||◌, if◌then◌else◌, is_some, is_none, List, [], ◌∷◌, ◌++◌, fold, filter, Option, None, Some}
use Rattle.std.specs.List.{list_any}
use Rattle.std.specs.Map.{lookup}
use Rattle.vx_data.specs.declared.ids.ContextId.{ContextId}
use Rattle.vx_data.specs.declared.ids.DeploymentId.{DeploymentId}
use Rattle.vx_data.specs.declared.ids.EntryNo.{EntryNo}
use Rattle.vx_data.specs.Ids.{same_context, same_deployment}
use Rattle.vx_tree.specs.declared.node.Node.{Node}

-- The deployments that are there, in the order of making. For each one that ever was, by its number, the entry at which it
-- was asked to end, if it was. Of the contexts of verticles, in the order of making: those that are open, those whose start
-- is not over, and those whose stop is still to come.
pub record TreeStore : Type 0 where
  pub there : List Node
  pub asked : List (ℕ × Option EntryNo)
  pub live : List ContextId
  pub starting : List ContextId
  pub to_stop : List ContextId

-- ## Contexts

-- the deployment that made the context of a verticle
abbrev pub deployment_of : ContextId → DeploymentId
deployment_of context = record { 0 = context.entry }

abbrev pub is_instance_of : DeploymentId → ContextId → Bool
is_instance_of id context = same_deployment id (deployment_of context)

-- so many contexts of a deployment, from this number on
abbrev pub contexts_of : DeploymentId → ℕ → ℕ → List ContextId
contexts_of id number zero = []
contexts_of id number (suc more) = record { entry = id.0; instance = number } ∷ contexts_of id (number + 1) more

-- ## Asked

abbrev pub asked_in : Option (Option EntryNo) → Option EntryNo
asked_in None = None
asked_in (Some at) = at

-- the entry at which a deployment was asked to end
abbrev pub asked_at : DeploymentId → List (ℕ × Option EntryNo) → Option EntryNo
asked_at id asked = asked_in (lookup (nat_eq id.0.0) asked)

-- whether there ever was such a deployment
abbrev pub is_known : DeploymentId → List (ℕ × Option EntryNo) → Bool
is_known id asked = is_some (lookup (nat_eq id.0.0) asked)

-- ## Below

abbrev pub is_one_of : List DeploymentId → DeploymentId → Bool
is_one_of ids id = list_any (same_deployment id) ids

abbrev pub is_among : List DeploymentId → Option DeploymentId → Bool
is_among ids None = false
is_among ids (Some id) = is_one_of ids id

abbrev pub with_child : List DeploymentId → Node → List DeploymentId
with_child found node = if is_among found node.parent then found ++ node.id ∷ [] else found

-- a deployment and all that are below it: of those made later each whose parent is among them
abbrev pub below : List Node → DeploymentId → List DeploymentId
below nodes top = fold with_child (top ∷ []) nodes

abbrev pub is_asked : Option DeploymentId → List (ℕ × Option EntryNo) → Bool
is_asked None asked = false
is_asked (Some id) asked = is_some (asked_at id asked)

-- whether the parent of a deployment was asked to end
abbrev pub has_asked_parent : List (ℕ × Option EntryNo) → Node → Bool
has_asked_parent asked node = is_asked node.parent asked

-- ## There

abbrev pub is_node : DeploymentId → Node → Bool
is_node id node = same_deployment id node.id

abbrev pub is_child_of : DeploymentId → Node → Bool
is_child_of id node = is_among (id ∷ []) node.parent

-- whether a deployment stays: its end was not asked, a context of it is open, or a child of it stays
abbrev pub stays : List (ℕ × Option EntryNo) → List ContextId → Node → List Node → Bool
stays asked live node later = is_none (asked_at node.id asked) || (list_any (is_instance_of node.id) live || list_any (is_child_of node.id) later)

abbrev pub with_staying : List (ℕ × Option EntryNo) → List ContextId → Node → List Node → List Node
with_staying asked live node later = if stays asked live node later then node ∷ later else later

-- those that stay: children were made later than their parents, so the last one is tried first
abbrev pub there_of : List (ℕ × Option EntryNo) → List ContextId → List Node → List Node
there_of asked live [] = []
there_of asked live (node ∷ later) = with_staying asked live node (there_of asked live later)

-- whether a deployment is there
abbrev pub is_there : DeploymentId → List Node → Bool
is_there id nodes = list_any (is_node id) nodes

-- whether something may be deployed here: below nothing, or below a deployment that is there and was not asked to end
abbrev pub may_be_below : Option DeploymentId → List Node → List (ℕ × Option EntryNo) → Bool
may_be_below None there asked = true
may_be_below (Some parent) there asked = is_there parent there && is_none (asked_at parent asked)

-- ## Stops

-- the verticles that may stop: those that started, whose deployment was asked to end and has no children any more
abbrev pub may_stop : TreeStore → ContextId → Bool
may_stop tree context =
    is_some (asked_at (deployment_of context) tree.asked)
    && (not (list_any (same_context context) tree.starting) && not (list_any (is_child_of (deployment_of context)) tree.there))

-- the contexts without this one
abbrev pub without : ContextId → List ContextId → List ContextId
without context contexts = filter (λ other. not (same_context context other)) contexts

abbrev pub without_any : Option ContextId → List ContextId → List ContextId
without_any None contexts = contexts
without_any (Some context) contexts = without context contexts

-- no context is there twice
abbrev pub AreApart : List ContextId → Type 0
AreApart [] = Unit {0}
AreApart (context ∷ contexts) = (list_any (same_context context) contexts ≡ false) × AreApart contexts
