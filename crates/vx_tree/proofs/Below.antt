-- The children of what is below a deployment are below it.
use Rattle.std.proofs.Common.{◌≡◌, ℕ, ◌<◌, ◌==◌, List, [], ◌∷◌, ◌++◌, refl, ap, sym, ◌∙◌, arith}
use Rattle.std.specs.Prelude.{Bool, true, false, cond, ◌||◌, fold, Option, None, Some}
use Rattle.std.specs.List.{list_any}
use Rattle.std.proofs.lemmas.Bool.{eq-eqb, or_right}
use Rattle.std.proofs.lemmas.Bool.Decides.{nat_tests}
use Rattle.std.proofs.lemmas.List.Folds.{list_any-append}
use Rattle.vx_data.specs.declared.ids.DeploymentId.{DeploymentId}
use Rattle.vx_data.specs.Ids.{same_deployment}
use Rattle.vx_tree.specs.declared.node.Node.{Node}
use Rattle.vx_tree.specs.Nodes.{is_one_of, is_among, with_child}
use Rattle.vx_tree.specs.Kept.{Each, AreRising, IsEarlier}

earlier_name : (n m : ℕ) → n < m → (n == m) ≡ false
earlier_name n m lt = grind (arith, nat_tests)

or_last : (a b : Bool) → b ≡ false → (a || b) ≡ true → a ≡ true
or_last true b none h = refl
or_last false b none h = absurd cc

later_each : (n m : ℕ) (nodes : List Node) → n < m → Each (λ other. m < other.id.0.0) nodes → Each (λ other. n < other.id.0.0) nodes
later_each n m [] less each = tt
later_each n m (node ∷ nodes) less each = (let h : m < node.id.0.0 = each.0 in omega arith, later_each n m nodes less each.1)

stays_with : (id : DeploymentId) (found : List DeploymentId) (node : Node) → is_one_of found id ≡ true → is_one_of (with_child found node) id ≡ true
stays_with id found node one =
    elim (is_among found node.parent) as (λ b. is_one_of (cond b (found ++ node.id ∷ []) found) id ≡ true) [
      | true ↦ list_any-append (same_deployment id) found (node.id ∷ []) ∙ ap (λ b. b || list_any (same_deployment id) (node.id ∷ [])) one
      | false ↦ one
    ]

stays_below : (id : DeploymentId) (found : List DeploymentId) (nodes : List Node) → is_one_of found id ≡ true → is_one_of (fold with_child found nodes) id ≡ true
stays_below id found [] one = one
stays_below id found (node ∷ nodes) one = stays_below id (with_child found node) nodes (stays_with id found node one)

was_with : (id : DeploymentId) (found : List DeploymentId) (node : Node) → id.0.0 < node.id.0.0 → is_one_of (with_child found node) id ≡ true → is_one_of found id ≡ true
was_with id found node before =
    elim (is_among found node.parent) as (λ b. is_one_of (cond b (found ++ node.id ∷ []) found) id ≡ true → is_one_of found id ≡ true) [
      | true ↦ λ one.
          or_last (is_one_of found id) (list_any (same_deployment id) (node.id ∷ [])) (ap (λ b. b || false) (earlier_name id.0.0 node.id.0.0 before))
          (sym (list_any-append (same_deployment id) found (node.id ∷ [])) ∙ one)
      | false ↦ λ one. one
    ]

-- later deployments add none that was made before
was_below : (id : DeploymentId) (found : List DeploymentId) (nodes : List Node) → Each (λ other. id.0.0 < other.id.0.0) nodes → is_one_of (fold with_child found nodes) id ≡ true → is_one_of found id ≡ true
was_below id found [] before one = one
was_below id found (node ∷ nodes) before one = was_with id found node before.0 (was_below id (with_child found node) nodes before.1 one)

was_among : (parent : Option DeploymentId) (found : List DeploymentId) (node : Node) (nodes : List Node) → IsEarlier parent node.id → Each (λ other. node.id.0.0 < other.id.0.0) nodes
    → is_among (fold with_child found (node ∷ nodes)) parent ≡ true → is_among found parent ≡ true
was_among None found node nodes earlier later one = one
was_among (Some parent) found node nodes earlier later one = was_below parent found (node ∷ nodes) (earlier, later_each parent.0.0 node.id.0.0 nodes earlier later) one

adds : (found : List DeploymentId) (node : Node) → is_among found node.parent ≡ true → is_one_of (with_child found node) node.id ≡ true
adds found node among =
    ap (λ b. is_one_of (cond b (found ++ node.id ∷ []) found) node.id) among ∙ list_any-append (same_deployment node.id) found (node.id ∷ [])
    ∙ ap (λ b. is_one_of found node.id || (b || false)) (eq-eqb node.id.0.0 node.id.0.0 refl) ∙ or_right (is_one_of found node.id) true refl

-- a deployment whose parent is below is below too
abbrev pub IsClosed : List DeploymentId → Node → Type 0
IsClosed ids node = is_among ids node.parent ≡ true → is_one_of ids node.id ≡ true

pub below_closed : (found : List DeploymentId) (nodes : List Node) → AreRising nodes → Each (λ node. IsEarlier node.parent node.id) nodes → Each (IsClosed (fold with_child found nodes)) nodes
below_closed found [] rising earlier = tt
below_closed found (node ∷ nodes) rising earlier = (
  λ one. stays_below node.id (with_child found node) nodes (adds found node (was_among node.parent found node nodes earlier.0 rising.0 one)),
  below_closed (with_child found node) nodes rising.1 earlier.1,
)
