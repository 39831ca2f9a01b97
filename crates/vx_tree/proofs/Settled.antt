-- What holds of those that stay, and that what is gone stays gone.
use Rattle.std.proofs.Common.{◌≡◌, ℕ, ◌<◌, List, [], ◌∷◌, refl, ap, sym, ◌∙◌}
use Rattle.std.specs.Prelude.{Bool, true, false, cond, ◌||◌, is_some, is_none, Option, None, Some}
use Rattle.std.specs.List.{list_any}
use Rattle.std.proofs.lemmas.Bool.{or_right}
use Rattle.vx_data.specs.declared.ids.ContextId.{ContextId}
use Rattle.vx_data.specs.declared.ids.DeploymentId.{DeploymentId}
use Rattle.vx_data.specs.declared.ids.EntryNo.{EntryNo}
use Rattle.vx_tree.specs.declared.node.Node.{Node}
use Rattle.vx_tree.specs.Nodes.{asked_at, is_instance_of, is_child_of, stays, with_staying, there_of}
use Rattle.vx_tree.specs.Kept.{Each, AreRising, IsKept, AreKept}

or_more : (a b c : Bool) → (b ≡ true → c ≡ true) → (a || b) ≡ true → (a || c) ≡ true
or_more true b c f h = refl
or_more false b c f h = f h

not_more : (a b : Bool) → (b ≡ true → a ≡ true) → a ≡ false → b ≡ false
not_more a false f none = refl
not_more a true f none = (let h : a ≡ true = f refl in absurd cc)

or_none : (a b : Bool) → (a || b) ≡ false → (a ≡ false) × (b ≡ false)
or_none true b h = absurd cc
or_none false b h = (refl, h)

none_stays : (a c : Option EntryNo) (open_before open_after child_before child_after : Bool) → (is_some a ≡ true → is_some c ≡ true) → (open_after ≡ true → open_before ≡ true) → (child_after ≡ true → child_before ≡ true)
    → (is_none a || (open_before || child_before)) ≡ false → (is_none c || (open_after || child_after)) ≡ false
none_stays None c open_before open_after child_before child_after asked open_less child gone = absurd cc
none_stays (Some at) None open_before open_after child_before child_after asked open_less child gone = (let h : false ≡ true = asked refl in absurd cc)
none_stays (Some at) (Some other) open_before open_after child_before child_after asked open_less child gone =
    let none = or_none open_before child_before gone in
    ap (λ b. b || child_after) (not_more open_before open_after open_less none.0) ∙ not_more child_before child_after child none.1

-- ## What holds of all holds of those that stay

module _ (asked : List (ℕ × Option EntryNo)) (live : List ContextId) where
  each_stays : (P : Node → Type 0) (nodes : List Node) → Each P nodes → Each P (there_of asked live nodes)
  each_stays P [] each = tt
  each_stays P (node ∷ nodes) each =
      elim (stays asked live node (there_of asked live nodes)) as (λ b. Each P (cond b (node ∷ there_of asked live nodes) (there_of asked live nodes))) [
        | true ↦ (each.0, each_stays P nodes each.1)
        | false ↦ each_stays P nodes each.1
      ]

  rising_stays : (nodes : List Node) → AreRising nodes → AreRising (there_of asked live nodes)
  rising_stays [] rising = tt
  rising_stays (node ∷ nodes) rising =
      elim (stays asked live node (there_of asked live nodes)) as (λ b. AreRising (cond b (node ∷ there_of asked live nodes) (there_of asked live nodes))) [
        | true ↦ (each_stays (λ other. node.id.0.0 < other.id.0.0) nodes rising.0, rising_stays nodes rising.1)
        | false ↦ rising_stays nodes rising.1
      ]

  pub settled_kept : (nodes : List Node) → AreKept nodes asked → AreKept (there_of asked live nodes) asked
  settled_kept nodes kept = record { rising = rising_stays nodes kept.rising; each = each_stays (IsKept asked) nodes kept.each }

  any_stays : (test : Node → Bool) (nodes : List Node) → list_any test (there_of asked live nodes) ≡ true → list_any test nodes ≡ true
  any_stays test [] = λ any. any
  any_stays test (node ∷ nodes) =
      elim (stays asked live node (there_of asked live nodes)) as (λ b. list_any test (cond b (node ∷ there_of asked live nodes) (there_of asked live nodes)) ≡ true → (test node || list_any test nodes) ≡ true) [
        | true ↦ or_more (test node) (list_any test (there_of asked live nodes)) (list_any test nodes) (any_stays test nodes)
        | false ↦ λ any. or_right (test node) (list_any test nodes) (any_stays test nodes any)
      ]

-- ## What is gone stays gone

-- more deployments were asked to end, and fewer contexts are open
module _ (old new : List (ℕ × Option EntryNo)) (live left : List ContextId)
    (more : (d : DeploymentId) → is_some (asked_at d old) ≡ true → is_some (asked_at d new) ≡ true)
    (fewer : (d : DeploymentId) → list_any (is_instance_of d) left ≡ true → list_any (is_instance_of d) live ≡ true) where
  stays_gone : (node : Node) (before after : List Node) → (list_any (is_child_of node.id) after ≡ true → list_any (is_child_of node.id) before ≡ true)
      → stays old live node before ≡ false → stays new left node after ≡ false
  stays_gone node before after child gone =
      none_stays (asked_at node.id old) (asked_at node.id new) (list_any (is_instance_of node.id) live) (list_any (is_instance_of node.id) left) (list_any (is_child_of node.id) before) (list_any (is_child_of node.id) after)
      (more node.id) (fewer node.id) child gone

  pub settled_again : (nodes : List Node) → there_of new left (there_of old live nodes) ≡ there_of new left nodes
  settled_again [] = refl
  settled_again (node ∷ nodes) =
      let again = settled_again nodes in
      elim (stays old live node (there_of old live nodes)) as (λ b. stays old live node (there_of old live nodes) ≡ b
      → there_of new left (cond b (node ∷ there_of old live nodes) (there_of old live nodes)) ≡ with_staying new left node (there_of new left nodes)) [
        | true ↦ λ is. ap (with_staying new left node) again
        | false ↦ λ is. again ∙ ap (λ b. cond b (node ∷ there_of new left nodes) (there_of new left nodes)) (sym
            (stays_gone node (there_of old live nodes) (there_of new left nodes)
            (λ child. any_stays new left (is_child_of node.id) (there_of old live nodes) (ap (list_any (is_child_of node.id)) again ∙ child)) is))
      ] refl
