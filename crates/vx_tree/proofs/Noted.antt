-- What is noted of the deployments that are asked to end, one after another.
use Rattle.std.proofs.Common.{◌≡◌, ℕ, ◌+◌, ◌<◌, List, [], ◌∷◌, ◌++◌, length, get_or, take, refl, ap, sym, ◌∙◌, arith}
use Rattle.std.specs.Prelude.{Bool, true, false, cond, ◌||◌, is_some, Option, None, Some}
use Rattle.std.specs.Option.{option_or}
use Rattle.std.proofs.lemmas.Bool.Decides.{nat_tests}
use Rattle.std.proofs.lemmas.Grind.{fold-append}
use Rattle.std.proofs.lemmas.List.{take_more}
use Rattle.std.proofs.lemmas.List.Folds.{list_any-append}
use Rattle.vx_data.specs.declared.ids.DeploymentId.{DeploymentId}
use Rattle.vx_data.specs.declared.ids.EntryNo.{EntryNo}
use Rattle.vx_data.specs.Ids.{same_deployment}
use Rattle.vx_tree.specs.declared.node.Node.{Node}
use Rattle.vx_tree.specs.Nodes.{asked_at, is_known, is_asked, has_asked_parent, is_one_of, is_among, with_child, below, is_there}
use Rattle.vx_tree.specs.Kept.{Each, IsEarlier, IsKept, AreKept}
use Rattle.vx_tree.proofs.Below.{IsClosed, below_closed}

abbrev pub Askings : Type 0
Askings = List (ℕ × Option EntryNo)

-- the entry that was noted, or else this one, where the test holds
abbrev pub noted : EntryNo → Option EntryNo → Bool → Option EntryNo
noted at old b = option_or old (cond b (Some at) None)

noted_twice : (at : EntryNo) (old : Option EntryNo) (b c : Bool) → noted at (noted at old b) c ≡ noted at old (b || (c || false))
noted_twice at (Some entry) b c = refl
noted_twice at None true c = refl
noted_twice at None false true = refl
noted_twice at None false false = refl

noted_one : (at : EntryNo) (old : Option EntryNo) (c : Bool) → noted at old c ≡ noted at old (c || false)
noted_one at old true = refl
noted_one at old false = refl

is_noted : (at : EntryNo) (old : Option EntryNo) (b : Bool) → is_some (noted at old b) ≡ (is_some old || b)
is_noted at (Some entry) b = refl
is_noted at None true = refl
is_noted at None false = refl

noted_before : (at : EntryNo) (old : Option EntryNo) (b c : Bool) → (c ≡ true → is_some old ≡ true) → noted at (noted at old b) c ≡ noted at old b
noted_before at (Some entry) b c asked = refl
noted_before at None b false asked = (elim b as (λ b. noted at (noted at None b) false ≡ noted at None b) [ true ↦ refl | false ↦ refl ])
noted_before at None b true asked = (let h : false ≡ true = asked refl in absurd cc)

or_false : (a b : Bool) → (a || b) ≡ false → b ≡ false
or_false true b h = absurd cc
or_false false b h = h

or_else : (a b : Bool) → (a || b) ≡ true → b ≡ false → a ≡ true
or_else true b h none = refl
or_else false b h none = absurd cc

or_either : (a b c d : Bool) → (a ≡ true → c ≡ true) → (b ≡ true → d ≡ true) → (a || b) ≡ true → (c || d) ≡ true
or_either true b c d f g h = ap (λ x. x || d) (f refl)
or_either false b true d f g h = refl
or_either false b false d f g h = g h

same_asked : (d id : DeploymentId) (asked : Askings) → same_deployment d id ≡ true → asked_at id asked ≡ asked_at d asked
same_asked d id asked same = ap (λ n. asked_at (record { 0 = record { 0 = n } }) asked) (let e : id.0.0 ≡ d.0.0 = grind (arith, nat_tests) in e)

earlier_each : (old : Askings) (nodes : List Node) → Each (IsKept old) nodes → Each (λ node. IsEarlier node.parent node.id) nodes
earlier_each old [] kept = tt
earlier_each old (node ∷ nodes) kept = (kept.0.earlier, earlier_each old nodes kept.1)

-- what is there is known
pub there_known : (id : DeploymentId) (asked : Askings) (nodes : List Node) → Each (IsKept asked) nodes → is_there id nodes ≡ true → is_known id asked ≡ true
there_known id asked [] kept there = absurd cc
there_known id asked (node ∷ nodes) kept there =
    elim (same_deployment id node.id) as (λ b. same_deployment id node.id ≡ b → (b || is_there id nodes) ≡ true → is_known id asked ≡ true) [
      | true ↦ λ same there. ap (λ n. is_known (record { 0 = record { 0 = n } }) asked) (let e : id.0.0 ≡ node.id.0.0 = grind (arith, nat_tests) in e) ∙ kept.0.known
      | false ↦ λ same there. there_known id asked nodes kept.1 there
    ] refl there

module _ (at : EntryNo) (old : Askings) where
  -- those in the list are noted, beside the old ones
  abbrev pub AreNoted : Askings → List DeploymentId → Type 0
  AreNoted now ids = (d : DeploymentId) → asked_at d now ≡ noted at (asked_at d old) (is_one_of ids d)

  pub first_noted : (now : Askings) (top : DeploymentId) → ((d : DeploymentId) → asked_at d now ≡ noted at (asked_at d old) (same_deployment d top)) → AreNoted now (top ∷ [])
  first_noted now top note d = note d ∙ noted_one at (asked_at d old) (same_deployment d top)

  parent_noted : (now : Askings) (ids : List DeploymentId) → AreNoted now ids → (parent : Option DeploymentId) → is_asked parent now ≡ (is_asked parent old || is_among ids parent)
  parent_noted now ids so_far None = refl
  parent_noted now ids so_far (Some parent) = ap is_some (so_far parent) ∙ is_noted at (asked_at parent old) (is_one_of ids parent)

  -- a deployment whose parent was asked is noted
  pub one_noted : (now new : Askings) (ids : List DeploymentId) (node : Node) → AreNoted now ids → IsKept old node → has_asked_parent now node ≡ true
      → ((d : DeploymentId) → asked_at d new ≡ noted at (asked_at d now) (same_deployment d node.id)) → AreNoted new (with_child ids node)
  one_noted now new ids node so_far kept parent note d =
      let step : asked_at d new ≡ noted at (noted at (asked_at d old) (is_one_of ids d)) (same_deployment d node.id) = note d ∙ ap (λ o. noted at o (same_deployment d node.id)) (so_far d) in
      let either : (is_asked node.parent old || is_among ids node.parent) ≡ true = sym (parent_noted now ids so_far node.parent) ∙ parent in
      step ∙ elim (is_among ids node.parent) as (λ b. (is_asked node.parent old || b) ≡ true → noted at (noted at (asked_at d old) (is_one_of ids d)) (same_deployment d node.id) ≡ noted at (asked_at d old) (is_one_of (cond b (ids ++ node.id ∷ []) ids) d)) [
        | true ↦ λ h. noted_twice at (asked_at d old) (is_one_of ids d) (same_deployment d node.id) ∙ ap (noted at (asked_at d old)) (sym (list_any-append (same_deployment d) ids (node.id ∷ [])))
        | false ↦ λ h. noted_before at (asked_at d old) (is_one_of ids d) (same_deployment d node.id) (λ same.
            ap is_some (sym (same_asked d node.id old same)) ∙ kept.with_parent (or_else (is_asked node.parent old) false h refl))
      ] either

  -- and one whose parent was not is not below
  pub none_noted : (now : Askings) (ids : List DeploymentId) (node : Node) → AreNoted now ids → has_asked_parent now node ≡ false → AreNoted now (with_child ids node)
  none_noted now ids node so_far parent d =
      let none : is_among ids node.parent ≡ false = or_false (is_asked node.parent old) (is_among ids node.parent) (sym (parent_noted now ids so_far node.parent) ∙ parent) in
      so_far d ∙ ap (λ b. noted at (asked_at d old) (is_one_of (cond b (ids ++ node.id ∷ []) ids) d)) (sym none)

  one_below_more : (nodes : List Node) (top : DeploymentId) (i : ℕ) (d : Node) → i < length nodes → below (take (i + 1) nodes) top ≡ with_child (below (take i nodes) top) (get_or nodes i d)
  one_below_more nodes top i d inside = ap (λ front. below front top) (take_more nodes i d inside) ∙ fold-append with_child (top ∷ []) (take i nodes) (get_or nodes i d ∷ [])

  pub more_noted : (now new : Askings) (nodes : List Node) (top : DeploymentId) (i : ℕ) (d : Node) → i < length nodes → AreNoted now (below (take i nodes) top) → IsKept old (get_or nodes i d)
      → has_asked_parent now (get_or nodes i d) ≡ true → ((e : DeploymentId) → asked_at e new ≡ noted at (asked_at e now) (same_deployment e (get_or nodes i d).id)) → AreNoted new (below (take (i + 1) nodes) top)
  more_noted now new nodes top i d inside so_far kept parent note e =
      one_noted now new (below (take i nodes) top) (get_or nodes i d) so_far kept parent note e ∙ ap (λ ids. noted at (asked_at e old) (is_one_of ids e)) (sym (one_below_more nodes top i d inside))

  pub no_more_noted : (now : Askings) (nodes : List Node) (top : DeploymentId) (i : ℕ) (d : Node) → i < length nodes → AreNoted now (below (take i nodes) top)
      → has_asked_parent now (get_or nodes i d) ≡ false → AreNoted now (below (take (i + 1) nodes) top)
  no_more_noted now nodes top i d inside so_far parent e =
      none_noted now (below (take i nodes) top) (get_or nodes i d) so_far parent e ∙ ap (λ ids. noted at (asked_at e old) (is_one_of ids e)) (sym (one_below_more nodes top i d inside))

  each_kept : (new : Askings) (ids : List DeploymentId) (nodes : List Node) → AreNoted new ids → ((d : DeploymentId) → is_known d new ≡ is_known d old) → Each (IsKept old) nodes → Each (IsClosed ids) nodes → Each (IsKept new) nodes
  each_kept new ids [] all known kept closed = tt
  each_kept new ids (node ∷ nodes) all known kept closed = (
    record {
      known = known node.id ∙ kept.0.known;
      earlier = kept.0.earlier;
      with_parent = λ asked. ap is_some (all node.id) ∙ is_noted at (asked_at node.id old) (is_one_of ids node.id)
          ∙ or_either (is_asked node.parent old) (is_among ids node.parent) (is_some (asked_at node.id old)) (is_one_of ids node.id) kept.0.with_parent closed.0 (sym (parent_noted new ids all node.parent) ∙ asked);
    },
    each_kept new ids nodes all known kept.1 closed.1,
  )

  -- the deployments are kept as they were
  pub still_kept : (new : Askings) (nodes : List Node) (top : DeploymentId) → AreNoted new (below nodes top) → ((d : DeploymentId) → is_known d new ≡ is_known d old) → AreKept nodes old → AreKept nodes new
  still_kept new nodes top all known kept =
      record { rising = kept.rising; each = each_kept new (below nodes top) nodes all known kept.each (below_closed (top ∷ []) nodes kept.rising (earlier_each old nodes kept.each)) }
