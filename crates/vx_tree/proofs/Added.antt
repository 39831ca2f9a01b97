-- One deployment more, made later than all that are there, and its contexts.
use Rattle.std.proofs.Common.{◌≡◌, ℕ, zero, suc, ◌+◌, ◌<◌, ◌≤◌, List, [], ◌∷◌, ◌++◌, refl, ap, sym, ◌∙◌, arith, append_assoc}
use Rattle.std.specs.Prelude.{Bool, true, false, cond, nat_eq, ◌&&◌, ◌||◌, is_some, is_none, All, Option, None, Some}
use Rattle.std.specs.Map.{lookup}
use Rattle.std.proofs.lemmas.Bool.{eq-eqb}
use Rattle.std.proofs.lemmas.Bool.Decides.{nat_tests}
use Rattle.vx_data.specs.declared.ids.ContextId.{ContextId}
use Rattle.vx_data.specs.declared.ids.DeploymentId.{DeploymentId}
use Rattle.vx_data.specs.declared.ids.EntryNo.{EntryNo}
use Rattle.vx_data.specs.Ids.{same_deployment}
use Rattle.vx_tree.specs.declared.node.Node.{Node}
use Rattle.vx_tree.specs.Nodes.{contexts_of, asked_at, asked_in, is_asked, is_there, may_be_below}
use Rattle.vx_tree.specs.Kept.{Each, AreRising, IsEarlier, IsKept, AreKept}

-- ## Contexts

-- so many contexts, and the next one
pub one_more_context : (id : DeploymentId) (number count : ℕ) → contexts_of id number (suc count) ≡ contexts_of id number count ++ record { entry = id.0; instance = number + count } ∷ []
one_more_context id number zero = ap (λ n. record { entry = id.0; instance = n } ∷ []) (let e : number ≡ number + 0 = omega arith in e)
one_more_context id number (suc count) =
    ap (λ rest. record { entry = id.0; instance = number } ∷ rest)
    (one_more_context id (number + 1) count ∙ ap (λ n. contexts_of id (number + 1) count ++ record { entry = id.0; instance = n } ∷ []) (let e : number + 1 + count ≡ number + suc count = omega arith in e))

-- the contexts with the next one behind them
pub appended : (id : DeploymentId) (n : ℕ) (old now new : List ContextId) (ok : Bool) → ok ≡ true → now ≡ old ++ contexts_of id 0 n
    → new ≡ cond ok (now ++ record { entry = id.0; instance = n } ∷ []) now → new ≡ old ++ contexts_of id 0 (n + 1)
appended id n old now new ok is_ok so_far is_new =
    let next : ContextId = record { entry = id.0; instance = n } in
    let more : contexts_of id 0 (n + 1) ≡ contexts_of id 0 n ++ next ∷ [] =
    ap (contexts_of id 0) (let e : n + 1 ≡ suc n = omega arith in e) ∙ one_more_context id 0 n
    ∙ ap (λ m. contexts_of id 0 n ++ record { entry = id.0; instance = m } ∷ []) (let e : 0 + n ≡ n = omega arith in e) in
    is_new ∙ ap (λ b. cond b (now ++ next ∷ []) now) is_ok ∙ ap (λ cs. cs ++ next ∷ []) so_far ∙ append_assoc old (contexts_of id 0 n) (next ∷ []) ∙ ap (λ cs. old ++ cs) (sym more)

-- ## Deployments

pub each_of_all : (P : Node → Type 0) (nodes : List Node) → All P nodes → Each P nodes
each_of_all P [] all = tt
each_of_all P (node ∷ nodes) all = (all 0 node (omega arith), each_of_all P nodes (λ k d inside. all (suc k) d (omega arith)))

pub all_of_each : (P : Node → Type 0) (nodes : List Node) → Each P nodes → All P nodes
all_of_each P [] each k d inside = absurd (omega arith)
all_of_each P (node ∷ nodes) each zero d inside = each.0
all_of_each P (node ∷ nodes) each (suc k) d inside = all_of_each P nodes each.1 k d (omega arith)

each_append : (P : Node → Type 0) (nodes : List Node) (node : Node) → Each P nodes → P node → Each P (nodes ++ node ∷ [])
each_append P [] node each last = (last, tt)
each_append P (first ∷ nodes) node each last = (each.0, each_append P nodes node each.1 last)

rising_append : (nodes : List Node) (node : Node) → Each (λ other. other.id.0.0 < node.id.0.0) nodes → AreRising nodes → AreRising (nodes ++ node ∷ [])
rising_append [] node before rising = (tt, tt)
rising_append (first ∷ nodes) node before rising =
    (each_append (λ other. first.id.0.0 < other.id.0.0) nodes node rising.0 before.0, rising_append nodes node before.1 rising.1)

-- what is there was made before
there_before : (id : DeploymentId) (n : ℕ) (nodes : List Node) → Each (λ other. other.id.0.0 < n) nodes → is_there id nodes ≡ true → id.0.0 < n
there_before id n [] before there = absurd cc
there_before id n (node ∷ nodes) before there =
    elim (same_deployment id node.id) as (λ b. same_deployment id node.id ≡ b → (b || is_there id nodes) ≡ true → id.0.0 < n) [
      | true ↦ λ same there. (let e : id.0.0 ≡ node.id.0.0 = grind (arith, nat_tests) in let less : node.id.0.0 < n = before.0 in omega arith)
      | false ↦ λ same there. there_before id n nodes before.1 there
    ] refl there

both_first : (a b : Bool) → (a && b) ≡ true → a ≡ true
both_first true b h = refl
both_first false b h = absurd cc

both_second : (a b : Bool) → (a && b) ≡ true → b ≡ true
both_second true b h = h
both_second false b h = absurd cc

none_is_not : (o : Option EntryNo) → is_none o ≡ true → is_some o ≡ true → ⊥
none_is_not None none some = (let e : false ≡ true = some in cc)
none_is_not (Some at) none some = (let e : false ≡ true = none in cc)

module _ (old new : List (ℕ × Option EntryNo)) (id : DeploymentId) (made : (k : ℕ) → lookup (nat_eq k) new ≡ cond (nat_eq k id.0.0) (Some None) (lookup (nat_eq k) old)) where
  -- what was asked, and what is known
  pub asked_made : (d : DeploymentId) → asked_at d new ≡ cond (same_deployment d id) None (asked_at d old)
  asked_made d =
      ap asked_in (made d.0.0) ∙ elim (nat_eq d.0.0 id.0.0) as (λ b. asked_in (cond b (Some None) (lookup (nat_eq d.0.0) old)) ≡ cond b None (asked_at d old)) [ true ↦ refl | false ↦ refl ]

  earlier_same : (d : DeploymentId) → d.0.0 < id.0.0 → lookup (nat_eq d.0.0) new ≡ lookup (nat_eq d.0.0) old
  earlier_same d less = made d.0.0 ∙ ap (λ b. cond b (Some None) (lookup (nat_eq d.0.0) old)) (let e : nat_eq d.0.0 id.0.0 ≡ false = grind (arith, nat_tests) in e)

  parent_same : (parent : Option DeploymentId) (child : DeploymentId) → IsEarlier parent child → child.0.0 ≤ id.0.0 → is_asked parent new ≡ is_asked parent old
  parent_same None child earlier less = refl
  parent_same (Some parent) child earlier less = ap (λ o. is_some (asked_in o)) (earlier_same parent (let h : parent.0.0 < child.0.0 = earlier in omega arith))

  one_kept : (node : Node) → node.id.0.0 < id.0.0 → IsKept old node → IsKept new node
  one_kept node less kept = record {
    known = ap is_some (earlier_same node.id less) ∙ kept.known;
    earlier = kept.earlier;
    with_parent = λ asked. ap (λ o. is_some (asked_in o)) (earlier_same node.id less) ∙ kept.with_parent (sym (parent_same node.parent node.id kept.earlier (omega arith)) ∙ asked);
  }

  old_kept : (nodes : List Node) → Each (λ other. other.id.0.0 < id.0.0) nodes → Each (IsKept old) nodes → Each (IsKept new) nodes
  old_kept [] before kept = tt
  old_kept (node ∷ nodes) before kept = (one_kept node before.0 kept.0, old_kept nodes before.1 kept.1)

  parent_earlier : (parent : Option DeploymentId) (nodes : List Node) → Each (λ other. other.id.0.0 < id.0.0) nodes → may_be_below parent nodes old ≡ true → IsEarlier parent id
  parent_earlier None nodes before above = tt
  parent_earlier (Some parent) nodes before above = there_before parent id.0.0 nodes before (both_first (is_there parent nodes) (is_none (asked_at parent old)) above)

  parent_not_asked : (parent : Option DeploymentId) (nodes : List Node) → may_be_below parent nodes old ≡ true → is_asked parent old ≡ true → ⊥
  parent_not_asked None nodes above asked = (let e : false ≡ true = asked in cc)
  parent_not_asked (Some parent) nodes above asked = none_is_not (asked_at parent old) (both_second (is_there parent nodes) (is_none (asked_at parent old)) above) asked

  new_kept : (parent : Option DeploymentId) (nodes : List Node) → Each (λ other. other.id.0.0 < id.0.0) nodes → may_be_below parent nodes old ≡ true → IsKept new (record { id = id; parent = parent })
  new_kept parent nodes before above =
      let earlier : IsEarlier parent id = parent_earlier parent nodes before above in
      record {
        known = ap is_some (made id.0.0 ∙ ap (λ b. cond b (Some None) (lookup (nat_eq id.0.0) old)) (eq-eqb id.0.0 id.0.0 refl));
        earlier = earlier;
        with_parent = λ asked. absurd (parent_not_asked parent nodes above (sym (parent_same parent id earlier (omega arith)) ∙ asked));
      }

  -- the deployments with the new one are kept
  pub added_kept : (parent : Option DeploymentId) (nodes : List Node) → All (λ node. node.id.0.0 < id.0.0) nodes → may_be_below parent nodes old ≡ true → AreKept nodes old → AreKept (nodes ++ record { id = id; parent = parent } ∷ []) new
  added_kept parent nodes later above kept =
      let before = each_of_all (λ node. node.id.0.0 < id.0.0) nodes later in
      record {
        rising = rising_append nodes (record { id = id; parent = parent }) before kept.rising;
        each = each_append (IsKept new) nodes (record { id = id; parent = parent }) (old_kept nodes before kept.each) (new_kept parent nodes before above);
      }

-- ## The least

at_most : (n : ℕ) (nodes : List Node) → Each (λ other. n < other.id.0.0) nodes → Each (λ other. n ≤ other.id.0.0) nodes
at_most n [] less = tt
at_most n (node ∷ nodes) less = (let h : n < node.id.0.0 = less.0 in omega arith, at_most n nodes less.1)

-- the first deployment has the least number
pub first_least : (node : Node) (nodes : List Node) → AreRising (node ∷ nodes) → All (λ other. node.id.0.0 ≤ other.id.0.0) (node ∷ nodes)
first_least node nodes rising = all_of_each (λ other. node.id.0.0 ≤ other.id.0.0) (node ∷ nodes) (omega arith, at_most node.id.0.0 nodes rising.0)
