-- The deployments that are there, and those below one, in the machine's words and in those of the tree.
use Rattle.std.proofs.Common.{◌≡◌, ℕ, List, [], ◌∷◌, ◌++◌, refl, ap, sym, ◌∙◌, subst}
use Rattle.std.specs.Prelude.{Bool, true, false, cond, not, ◌||◌, filter, find, fold, map, is_none, Option, None, Some}
use Rattle.std.specs.List.{list_any}
use Rattle.std.specs.Option.{option_map}
use Rattle.std.proofs.lemmas.Bool.{eqb-true}
use Rattle.std.proofs.lemmas.List.Folds.{list_any-append}
use Rattle.vx_data.specs.declared.ids.DeploymentId.{DeploymentId}
use Rattle.vx_data.specs.declared.ids.EntryNo.{EntryNo}
use Rattle.vx_data.specs.Ids.{same_deployment}
use Rattle.vx_message.specs.declared.Context.{Context}
use Rattle.vx_tree.specs.Nodes as tree
use Rattle.vx_call.specs.Deployments.{Deployment, is_among, with_child, below}
use Rattle.vx_call.specs.Askings.{Asking, is_asking_of}
use Rattle.vx_call.specs.There.{is_instance_of, has_open, is_child_of, is_deployment, stays, there_of}
use Rattle.vx_call.proofs.Each.{Each}
use Rattle.vx_life.specs.Stands.{node_of, verticles_of}
use Rattle.vx_life_rows.proofs.Lists.{any_map, none_found}

-- ## Names

pub same_id : (a b : DeploymentId) → same_deployment a b ≡ true → a ≡ b
same_id a b same = ap (λ n. record { 0 = record { 0 = n } }) (eqb-true a.0.0 b.0.0 same)

pub among : (ids : List DeploymentId) (parent : Option DeploymentId) → tree.is_among ids parent ≡ is_among ids parent
among ids None = refl
among ids (Some parent) = refl

pub children : (id : DeploymentId) (ds : List Deployment) → list_any (tree.is_child_of id) (map node_of ds) ≡ list_any (is_child_of id) ds
children id [] = refl
children id (d ∷ ds) = ap (λ b. b || list_any (tree.is_child_of id) (map node_of ds)) (among (id ∷ []) d.parent) ∙ ap (λ b. is_child_of id d || b) (children id ds)

pub is_there : (id : DeploymentId) (ds : List Deployment) → tree.is_there id (map node_of ds) ≡ list_any (is_deployment id) ds
is_there id ds = any_map (tree.is_node id) node_of ds

-- ## There

-- no outside context has a name like those of the deployment's verticles
abbrev pub NoOutside : List Context → Deployment → Type 0
NoOutside contexts d = Each (λ (c : Context). is_none c.maker ≡ false → is_instance_of d.id c.id ≡ false) contexts

pub opens : (d : Deployment) (contexts : List Context) → NoOutside contexts d → list_any (tree.is_instance_of d.id) (verticles_of contexts) ≡ has_open contexts d.id
opens d [] none = refl
opens d (c ∷ contexts) none =
    elim (is_none c.maker) as (λ b. is_none c.maker ≡ b → list_any (tree.is_instance_of d.id) (map (λ (context : Context). context.id) (cond b (c ∷ filter (λ (context : Context). is_none context.maker) contexts) (filter (λ (context : Context). is_none context.maker) contexts)))
    ≡ (is_instance_of d.id c.id || has_open contexts d.id)) [
      | true ↦ λ own. ap (λ b. is_instance_of d.id c.id || b) (opens d contexts none.1)
      | false ↦ λ outside. opens d contexts none.1 ∙ ap (λ b. b || has_open contexts d.id) (sym (none.0 outside))
    ] refl

abbrev pub asked_in : List Asking → DeploymentId → Option EntryNo
asked_in askings id = option_map (λ (asking : Asking). asking.at) (find (is_asking_of id) askings)

module _ (asked : List (ℕ × Option EntryNo)) (askings : List Asking) (contexts : List Context) (same : (id : DeploymentId) → tree.asked_at id asked ≡ asked_in askings id) where
  same_stays : (d : Deployment) (later : List Deployment) → NoOutside contexts d → tree.stays asked (verticles_of contexts) (node_of d) (map node_of later) ≡ stays askings contexts d later
  same_stays d later none =
      ap (λ o. is_none o || (list_any (tree.is_instance_of d.id) (verticles_of contexts) || list_any (tree.is_child_of d.id) (map node_of later))) (same d.id)
      ∙ ap (λ b. b || (list_any (tree.is_instance_of d.id) (verticles_of contexts) || list_any (tree.is_child_of d.id) (map node_of later))) (none_found (λ (asking : Asking). asking.at) (is_asking_of d.id) askings)
      ∙ ap (λ b. not (list_any (is_asking_of d.id) askings) || (b || list_any (tree.is_child_of d.id) (map node_of later))) (opens d contexts none)
      ∙ ap (λ b. not (list_any (is_asking_of d.id) askings) || (has_open contexts d.id || b)) (children d.id later)

  pub same_there : (ds : List Deployment) → Each (NoOutside contexts) ds → tree.there_of asked (verticles_of contexts) (map node_of ds) ≡ map node_of (there_of askings contexts ds)
  same_there [] none = refl
  same_there (d ∷ ds) none =
      let rest = there_of askings contexts ds in
      ap (tree.with_staying asked (verticles_of contexts) (node_of d)) (same_there ds none.1)
      ∙ ap (λ b. cond b (node_of d ∷ map node_of rest) (map node_of rest)) (same_stays d rest none.0)
      ∙ elim (stays askings contexts d rest) as (λ b. cond b (node_of d ∷ map node_of rest) (map node_of rest) ≡ map node_of (cond b (d ∷ rest) rest)) [ true ↦ refl | false ↦ refl ]

-- ## Below

abbrev is_one_of : List DeploymentId → DeploymentId → Bool
is_one_of ids id = list_any (same_deployment id) ids

abbrev is_asked : List Asking → DeploymentId → Bool
is_asked askings id = list_any (is_asking_of id) askings

-- of a deployment that was asked to end each child was asked too
abbrev pub IsAskedWithParent : List Asking → Deployment → Type 0
IsAskedWithParent askings d = (parent : DeploymentId) → d.parent ≡ Some parent → list_any (is_asking_of parent) askings ≡ true → list_any (is_asking_of d.id) askings ≡ true

-- of those that were not asked the same are found
abbrev AreAlike : List Asking → List DeploymentId → List DeploymentId → Type 0
AreAlike askings some all = (id : DeploymentId) → list_any (is_asking_of id) askings ≡ false → list_any (same_deployment id) some ≡ list_any (same_deployment id) all

module _ (askings : List Asking) (contexts : List Context) where
  -- a deployment that was asked is none of those
  not_it : (d : Deployment) (id : DeploymentId) → is_asked askings d.id ≡ true → is_asked askings id ≡ false → same_deployment id d.id ≡ false
  not_it d id asked not_asked =
      elim (same_deployment id d.id) as (λ b. same_deployment id d.id ≡ b → b ≡ false) [
        | true ↦ λ same. absurd (let e : is_asked askings d.id ≡ false = ap (is_asked askings) (sym (same_id id d.id same)) ∙ not_asked in let f : true ≡ false = sym asked ∙ e in cc)
        | false ↦ λ differs. refl
      ] refl

  or_nothing : (a b : Bool) → b ≡ false → (a || (b || false)) ≡ a
  or_nothing true b none = refl
  or_nothing false b none = ap (λ c. c || false) none

  -- so it may be found or not
  with_asked : (d : Deployment) (id : DeploymentId) (found : List DeploymentId) (b : Bool) → same_deployment id d.id ≡ false → is_one_of (cond b (found ++ d.id ∷ []) found) id ≡ is_one_of found id
  with_asked d id found true differs = list_any-append (same_deployment id) found (d.id ∷ []) ∙ or_nothing (is_one_of found id) (same_deployment id d.id) differs
  with_asked d id found false differs = refl

  with_same : (d : Deployment) (some all : List DeploymentId) (b : Bool) → AreAlike askings some all → AreAlike askings (cond b (some ++ d.id ∷ []) some) (cond b (all ++ d.id ∷ []) all)
  with_same d some all true alike id free =
      list_any-append (same_deployment id) some (d.id ∷ []) ∙ ap (λ b. b || list_any (same_deployment id) (d.id ∷ [])) (alike id free) ∙ sym (list_any-append (same_deployment id) all (d.id ∷ []))
  with_same d some all false alike id free = alike id free

  parent_alike : (d : Deployment) (some all : List DeploymentId) (parent : Option DeploymentId) → d.parent ≡ parent → IsAskedWithParent askings d → is_asked askings d.id ≡ false → AreAlike askings some all → is_among some parent ≡ is_among all parent
  parent_alike d some all None is with_parent free alike = refl
  parent_alike d some all (Some parent) is with_parent free alike =
      alike parent (elim (is_asked askings parent) as (λ b. is_asked askings parent ≡ b → b ≡ false) [
        | true ↦ λ asked. absurd (let e : true ≡ false = sym (with_parent parent is asked) ∙ free in cc)
        | false ↦ λ not. refl
      ] refl)

  below_same : (ds : List Deployment) (some all : List DeploymentId) → Each (IsAskedWithParent askings) ds → AreAlike askings some all →
      AreAlike askings (fold tree.with_child some (map node_of (there_of askings contexts ds))) (fold with_child all ds)
  below_same [] some all each alike = alike
  below_same (d ∷ ds) some all each alike =
      let rest = there_of askings contexts ds in
      elim (is_asked askings d.id) as (λ asked. is_asked askings d.id ≡ asked → AreAlike askings (fold tree.with_child some (map node_of (cond (not asked || (has_open contexts d.id || list_any (is_child_of d.id) rest)) (d ∷ rest) rest))) (fold with_child (with_child all d) ds)) [
        | true ↦ λ asked.
            (let all_alike : AreAlike askings some (with_child all d) = λ id free. alike id free ∙ sym (with_asked d id all (is_among all d.parent) (not_it d id asked free)) in
            let both_alike : AreAlike askings (tree.with_child some (node_of d)) (with_child all d) = λ id free. with_asked d id some (tree.is_among some d.parent) (not_it d id asked free) ∙ all_alike id free in
            elim (has_open contexts d.id || list_any (is_child_of d.id) rest) as (λ b. AreAlike askings (fold tree.with_child some (map node_of (cond b (d ∷ rest) rest))) (fold with_child (with_child all d) ds)) [
              | true ↦ below_same ds (tree.with_child some (node_of d)) (with_child all d) each.1 both_alike
              | false ↦ below_same ds some (with_child all d) each.1 all_alike
            ])
        | false ↦ λ free.
            (let parent : tree.is_among some d.parent ≡ is_among all d.parent = among some d.parent ∙ parent_alike d some all d.parent refl each.0 free alike in
            let found : AreAlike askings (tree.with_child some (node_of d)) (with_child all d) =
            subst (λ b. AreAlike askings (cond b (some ++ d.id ∷ []) some) (with_child all d)) (sym parent) (with_same d some all (is_among all d.parent) alike) in
            below_same ds (tree.with_child some (node_of d)) (with_child all d) each.1 found)
      ] refl

  -- of those that were not asked, the same are below a deployment, whether those that are gone count or not
  pub same_below : (ds : List Deployment) (top id : DeploymentId) → Each (IsAskedWithParent askings) ds → is_asked askings id ≡ false →
      tree.is_one_of (tree.below (map node_of (there_of askings contexts ds)) top) id ≡ is_one_of (below ds top) id
  same_below ds top id each free = below_same ds (top ∷ []) (top ∷ []) each (λ other not. refl) id free
