-- A deployment is asked to end, with all below it.
use Rattle.std.proofs.Common.{◌≡◌, ℕ, ◌<◌, List, [], ◌∷◌, ◌++◌, length, refl, ap, sym, ◌∙◌, subst}
use Rattle.std.specs.Prelude.{true, false, ◌||◌, cond, fold, find, map, is_some, Option, None, Some}
use Rattle.std.specs.List.{list_any}
use Rattle.std.specs.Option.{option_map, option_or}
use Rattle.std.proofs.lemmas.List.Folds.{find-append}
use Rattle.vx_data.specs.declared.ids.DeploymentId.{DeploymentId}
use Rattle.vx_data.specs.declared.ids.EntryNo.{EntryNo}
use Rattle.vx_data.specs.Ids.{same_deployment}
use Rattle.vx_tree.specs.Nodes as tree
use Rattle.vx_call.specs.declared.history.Traced.{Traced}
use Rattle.vx_call.specs.History.{is_accepted}
use Rattle.vx_call.specs.Names.{next_entry}
use Rattle.vx_call.specs.Deployments.{Deployment, deployments, is_among, with_child, below}
use Rattle.vx_call.specs.Askings.{Asking, asked_by, askings_below, asking_kind, askings, asked_at, is_asking_of}
use Rattle.vx_call.specs.Closings.{open_contexts}
use Rattle.vx_call.specs.There.{is_deployment}
use Rattle.vx_call.proofs.Each.{Each, Each-append, Each-map}
use Rattle.vx_call.proofs.Gone.{deployment_key}
use Rattle.vx_life.specs.Stores.{LifeStore}
use Rattle.vx_life.specs.Steps.{Notes}
use Rattle.vx_life.specs.Stands.{PartsStand}
use Rattle.vx_life_rows.proofs.Lists.{map_or, some_found, mapped_some}
use Rattle.vx_life_rows.proofs.Bridge.{asked_in, IsAskedWithParent, same_id, same_below}
use Rattle.vx_life_rows.proofs.Facts.{was_made, deployments_earlier}
use Rattle.vx_life_rows.proofs.Left.{kind_more, still_earlier}

-- the entry at which those are asked that one entry asks
found_asked : (at : EntryNo) (id : DeploymentId) (ids : List DeploymentId) →
    asked_in (map (λ (d : DeploymentId). let asking : Asking = record { deployment = d; at = at } in asking) ids) id ≡ cond (list_any (same_deployment id) ids) (Some at) None
found_asked at id [] = refl
found_asked at id (d ∷ ids) =
    elim (same_deployment id d) as (λ b. option_map (λ (asking : Asking). asking.at) (cond b (Some (let asking : Asking = record { deployment = d; at = at } in asking)) (find (is_asking_of id) (map (λ (e : DeploymentId). let asking : Asking = record { deployment = e; at = at } in asking) ids)))
    ≡ cond (b || list_any (same_deployment id) ids) (Some at) None) [
      | true ↦ refl
      | false ↦ found_asked at id ids
    ]

some_or : {A : Type 0} (a b : Option A) → is_some a ≡ true → is_some (option_or a b) ≡ true
some_or None b some = absurd cc
some_or (Some x) b some = refl

-- those below one were made before, as it was
below_earlier : (n : ℕ) (found : List DeploymentId) (ds : List Deployment) → Each (λ (id : DeploymentId). id.0.0 < n) found → Each (λ d. deployment_key d < n) ds → Each (λ (id : DeploymentId). id.0.0 < n) (fold with_child found ds)
below_earlier n found [] before earlier = before
below_earlier n found (d ∷ ds) before earlier =
    below_earlier n (with_child found d) ds
    (elim (is_among found d.parent) as (λ b. Each (λ (id : DeploymentId). id.0.0 < n) (cond b (found ++ d.id ∷ []) found)) [
      | true ↦ Each-append (λ (id : DeploymentId). id.0.0 < n) found (d.id ∷ []) before (earlier.0, tt)
      | false ↦ before
    ]) earlier.1

made_before : (n : ℕ) (id : DeploymentId) (ds : List Deployment) → Each (λ d. deployment_key d < n) ds → list_any (is_deployment id) ds ≡ true → id.0.0 < n
made_before n id [] earlier made = absurd cc
made_before n id (d ∷ ds) earlier made =
    elim (is_deployment id d) as (λ b. is_deployment id d ≡ b → (b || list_any (is_deployment id) ds) ≡ true → id.0.0 < n) [
      | true ↦ λ same found. (let e : d.id.0.0 < n = earlier.0 in subst (λ (i : DeploymentId). i.0.0 < n) (sym (same_id id d.id same)) e)
      | false ↦ λ other found. made_before n id ds earlier.1 found
    ] refl made

pub made_earlier : (history : List Traced) (id : DeploymentId) → was_made history id ≡ true → id.0.0 < length history
made_earlier history id made = made_before (length history) id (deployments history) (deployments_earlier history) made

module _ (history : List Traced) (new : Traced) (top : DeploymentId) (ok : is_accepted new.entry.reply ≡ true) (asks : asked_by history new.entry.pass new.entry.call ≡ Some top) where
  pub askings_more : askings (history ++ new ∷ []) ≡ askings history ++ askings_below history (Some top)
  askings_more = kind_more asking_kind history new ok (λ asking. refl) ∙ ap (λ o. askings history ++ askings_below history o) asks

  pub asked_earlier : Each (λ (a : Asking). a.deployment.0.0 < length history) (askings history) → was_made history top ≡ true → Each (λ (a : Asking). a.deployment.0.0 < length (history ++ new ∷ [])) (askings (history ++ new ∷ []))
  asked_earlier before made =
      let P : List Asking → Type 0 = Each (λ (a : Asking). a.deployment.0.0 < length (history ++ new ∷ [])) in
      subst P (sym askings_more)
      (still_earlier (λ (a : Asking). a.deployment.0.0) history new (askings history ++ askings_below history (Some top))
      (Each-append (λ (a : Asking). a.deployment.0.0 < length history) (askings history) (askings_below history (Some top)) before
      (Each-map (λ (a : Asking). a.deployment.0.0 < length history) (λ (d : DeploymentId). let asking : Asking = record { deployment = d; at = next_entry history } in asking) (below (deployments history) top)
      (below_earlier (length history) (top ∷ []) (deployments history) (made_earlier history top made, tt) (deployments_earlier history)))))

  module _ (life : LifeStore) (parts : PartsStand life history) (children : Each (IsAskedWithParent (askings history)) (deployments history)) where
    same_noted : (at : EntryNo) (d : DeploymentId) (o : Option EntryNo) → asked_in (askings history) d ≡ o →
        option_or o (cond (tree.is_one_of (tree.below life.tree.there top) d) (Some at) None) ≡ option_or o (cond (list_any (same_deployment d) (below (deployments history) top)) (Some at) None)
    same_noted at d (Some entry) is_o = refl
    same_noted at d None is_o =
        let free : list_any (is_asking_of d) (askings history) ≡ false =
        sym (some_found (is_asking_of d) (askings history)) ∙ sym (mapped_some (λ (asking : Asking). asking.at) (find (is_asking_of d) (askings history))) ∙ ap is_some is_o in
        ap (λ b. cond b (Some at) None)
        (ap (λ ns. tree.is_one_of (tree.below ns top) d) parts.there ∙ same_below (askings history) (open_contexts history) (deployments history) top d children free)

    noted : (asked : List (ℕ × Option EntryNo)) →
        ((d : DeploymentId) → tree.asked_at d asked ≡ option_or (tree.asked_at d life.tree.asked) (cond (tree.is_one_of (tree.below life.tree.there top) d) (Some (next_entry history)) None)) →
        (d : DeploymentId) → (o : Option EntryNo) → asked_in (askings history) d ≡ o → tree.asked_at d asked ≡ asked_at (history ++ new ∷ []) d
    noted asked notes d o is_o =
        let at = next_entry history in
        let both : asked_at (history ++ new ∷ []) d ≡ option_or o (cond (list_any (same_deployment d) (below (deployments history) top)) (Some at) None) =
        ap (λ all. asked_in all d) askings_more
        ∙ ap (option_map (λ (asking : Asking). asking.at)) (find-append (is_asking_of d) (askings history) (askings_below history (Some top)))
        ∙ map_or (λ (asking : Asking). asking.at) (find (is_asking_of d) (askings history)) (find (is_asking_of d) (askings_below history (Some top)))
        ∙ ap (option_or (asked_in (askings history) d)) (found_asked at d (below (deployments history) top))
        ∙ ap (λ a. option_or a (cond (list_any (same_deployment d) (below (deployments history) top)) (Some at) None)) is_o in
        notes d ∙ ap (λ a. option_or a (cond (tree.is_one_of (tree.below life.tree.there top) d) (Some at) None)) (parts.asked d ∙ is_o)
        ∙ same_noted at d o is_o ∙ sym both

    -- the entries at which deployments were asked
    pub asked_now : (new_tree : tree.TreeStore) → Notes top (next_entry history) life.tree new_tree → (d : DeploymentId) → tree.asked_at d new_tree.asked ≡ asked_at (history ++ new ∷ []) d
    asked_now new_tree notes d = noted new_tree.asked notes.asked d (asked_in (askings history) d) refl

    pub asked_more : (new_tree : tree.TreeStore) → Notes top (next_entry history) life.tree new_tree → (d : DeploymentId) → is_some (tree.asked_at d life.tree.asked) ≡ true → is_some (tree.asked_at d new_tree.asked) ≡ true
    asked_more new_tree notes d some = ap is_some (notes.asked d) ∙ some_or (tree.asked_at d life.tree.asked) _ some
