-- What comes is said, one after another.
use Rattle.std.proofs.Common.{◌≡◌, ℕ, suc, ◌+◌, ◌<◌, ◌≤◌, List, [], ◌∷◌, ◌++◌, length, map, ap, sym, ◌∙◌, subst, arith}
use Rattle.std.proofs.lemmas.List.{append_assoc}
use Rattle.std.specs.Prelude.{Bool, true, false, not, cond, filter, find, Option, None, Some}
use Rattle.vx_data.specs.declared.ids.ContextId.{ContextId}
use Rattle.vx_data.specs.declared.ids.DeploymentId.{DeploymentId}
use Rattle.vx_data.specs.declared.ids.EntryNo.{EntryNo}
use Rattle.vx_data.specs.Ids.{same_context, same_deployment}
use Rattle.vx_message.specs.declared.Item.{Item}
use Rattle.vx_call.proofs.Contexts.{same_context-self, same_context-true}
use Rattle.vx_tree.specs.Nodes.{may_stop, without}
use Rattle.vx_message.specs.declared.ItemKind.TheVariants as kinds
use Rattle.vx_life.specs.Stores.{LifeStore, deploy_told, undeploy_told, is_deployed, is_gone, without_id}
use Rattle.vx_life_rows.proofs.Bridge.{same_id}
use Rattle.vx_life_rows.proofs.Facts.{same_self}
use Rattle.vx_life_rows.proofs.Said.{is_said, is_all_said}
use Rattle.vx_context.specs.Stores.{ContextStore}
use Rattle.vx_core_life.specs.declared.moving.Telling.{Telling}
use Rattle.vx_core_life.specs.Moving.{deploy_telling, undeploy_telling, stop_telling, said, AreApart, SaysNext, SaysNone, promised, telling_item, telling_items}

-- ## One is said

-- a deployment whose deploying has ended
pub says_deployed : (life : LifeStore) (id : DeploymentId) → AreApart life → find (is_deployed life) life.deploying ≡ Some id →
    SaysNext life (record life { deploying = without_id id life.deploying }) (deploy_telling life id)
says_deployed life id apart found =
    let one = is_said same_deployment same_self same_id (is_deployed life) life.deploying id apart.deploying found in
    let behind = map (undeploy_telling life) (filter (is_gone life) life.ending) ++ map stop_telling (filter (may_stop life.tree) life.tree.to_stop) in
    record {
      first = ap (λ ids. map (deploy_telling life) ids ++ behind) one.first;
      rest = ap (λ ids. record (said life) { deploying = ids }) one.rest;
      apart = record { deploying = one.apart; ending = apart.ending; to_stop = apart.to_stop };
    }

-- one that is gone, where no other deploying has ended
pub says_gone : (life : LifeStore) (id : DeploymentId) → AreApart life → find (is_deployed life) life.deploying ≡ None → find (is_gone life) life.ending ≡ Some id →
    SaysNext life (record life { ending = without_id id life.ending }) (undeploy_telling life id)
says_gone life id apart none found =
    let nobody = is_all_said same_deployment same_self same_id (is_deployed life) life.deploying none in
    let one = is_said same_deployment same_self same_id (is_gone life) life.ending id apart.ending found in
    let later : LifeStore = record life { ending = without_id id life.ending } in
    let stops = map stop_telling (filter (may_stop life.tree) life.tree.to_stop) in
    record {
      first = ap (λ ids. map (deploy_telling life) ids ++ (map (undeploy_telling life) (filter (is_gone life) life.ending) ++ stops)) nobody.none
          ∙ ap (λ ids. map (undeploy_telling life) ids ++ stops) one.first
          ∙ ap (λ ids. undeploy_telling life id ∷ (map (deploy_telling life) ids ++ (map (undeploy_telling life) (filter (is_gone life) (without_id id life.ending)) ++ stops))) (sym nobody.none);
      rest = ap (λ ids. record (said life) { ending = ids }) one.rest;
      apart = record { deploying = apart.deploying; ending = one.apart; to_stop = apart.to_stop };
    }

-- a stop, where nothing else comes
pub says_stop : (life : LifeStore) (context : ContextId) → AreApart life → find (is_deployed life) life.deploying ≡ None → find (is_gone life) life.ending ≡ None → find (may_stop life.tree) life.tree.to_stop ≡ Some context →
    SaysNext life (record life { tree = record life.tree { to_stop = without context life.tree.to_stop } }) (stop_telling context)
says_stop life context apart none also_none found =
    let nobody = is_all_said same_deployment same_self same_id (is_deployed life) life.deploying none in
    let nothing = is_all_said same_deployment same_self same_id (is_gone life) life.ending also_none in
    let one = is_said same_context same_context-self same_context-true (may_stop life.tree) life.tree.to_stop context apart.to_stop found in
    let whole : List DeploymentId → List DeploymentId → List ContextId → List Telling = λ ids others contexts. map (deploy_telling life) ids ++ (map (undeploy_telling life) others ++ map stop_telling contexts) in
    let left = filter (may_stop life.tree) (without context life.tree.to_stop) in
    record {
      first = ap (λ ids. whole ids (filter (is_gone life) life.ending) (filter (may_stop life.tree) life.tree.to_stop)) nobody.none
          ∙ ap (λ ids. whole [] ids (filter (may_stop life.tree) life.tree.to_stop)) nothing.none
          ∙ ap (whole [] []) one.first
          ∙ ap (λ ids. stop_telling context ∷ whole ids [] left) (sym nobody.none)
          ∙ ap (λ ids. stop_telling context ∷ whole (filter (is_deployed life) life.deploying) ids left) (sym nothing.none);
      rest = ap (λ contexts. record (said life) { tree = record life.tree { to_stop = contexts } }) one.rest;
      apart = record { deploying = apart.deploying; ending = apart.ending; to_stop = one.apart };
    }

-- nothing comes
pub says_none : (life : LifeStore) → find (is_deployed life) life.deploying ≡ None → find (is_gone life) life.ending ≡ None → find (may_stop life.tree) life.tree.to_stop ≡ None → SaysNone life
says_none life none also_none no_stop =
    let nobody = is_all_said same_deployment same_self same_id (is_deployed life) life.deploying none in
    let nothing = is_all_said same_deployment same_self same_id (is_gone life) life.ending also_none in
    let nowhere = is_all_said same_context same_context-self same_context-true (may_stop life.tree) life.tree.to_stop no_stop in
    let whole : List DeploymentId → List DeploymentId → List ContextId → List Telling = λ ids others contexts. map (deploy_telling life) ids ++ (map (undeploy_telling life) others ++ map stop_telling contexts) in
    let left : List DeploymentId → List DeploymentId → List ContextId → LifeStore = λ ids others contexts. record life { tree = record life.tree { to_stop = contexts }; deploying = ids; ending = others } in
    record {
      none = ap (λ ids. whole ids (filter (is_gone life) life.ending) (filter (may_stop life.tree) life.tree.to_stop)) nobody.none
          ∙ ap (λ ids. whole [] ids (filter (may_stop life.tree) life.tree.to_stop)) nothing.none
          ∙ ap (whole [] []) nowhere.none;
      all = ap (λ ids. left ids (filter (λ id. not (is_gone life id)) life.ending) (filter (λ c. not (may_stop life.tree c)) life.tree.to_stop)) nobody.rest
          ∙ ap (λ ids. left life.deploying ids (filter (λ c. not (may_stop life.tree c)) life.tree.to_stop)) nothing.rest
          ∙ ap (left life.deploying life.ending) nowhere.rest;
    }

-- ## Each leaves fewer

module _ {A : Type 0} (same : A → A → Bool) (itself : (x : A) → same x x ≡ true) (test : A → Bool) where
  fewer_step : (b : Bool) (x : A) (xs : List A) → length (cond (not b) (x ∷ xs) xs) ≤ length xs + 1
  fewer_step true x xs = omega arith
  fewer_step false x xs = omega arith

  no_more : (x : A) (xs : List A) → length (filter (λ y. not (same x y)) xs) ≤ length xs
  no_more x [] = omega arith
  no_more x (y ∷ ys) = let a = fewer_step (same x y) y (filter (λ z. not (same x z)) ys) in omega (arith, a, no_more x ys)

  pub leaves_fewer : (x : A) (xs : List A) → find test xs ≡ Some x → length (filter (λ y. not (same x y)) xs) < length xs
  leaves_fewer x [] found = absurd cc
  leaves_fewer x (y ∷ ys) found =
      elim (test y) as (λ b. cond b (Some y) (find test ys) ≡ Some x → length (cond (not (same x y)) (y ∷ filter (λ z. not (same x z)) ys) (filter (λ z. not (same x z)) ys)) < suc (length ys)) [
        | true ↦ λ here.
            (let e : y ≡ x = cc in
            let out : same x y ≡ true = ap (same x) e ∙ itself x in
            let a = ap (λ b. length (cond (not b) (y ∷ filter (λ z. not (same x z)) ys) (filter (λ z. not (same x z)) ys))) out in
            omega (arith, a, no_more x ys))
        | false ↦ λ later.
            (let a = fewer_step (same x y) y (filter (λ z. not (same x z)) ys) in
            omega (arith, a, leaves_fewer x ys later))
      ] found

-- ## What the code finds

pub said_deployed : (life new : LifeStore) (id : DeploymentId) (to : Option ContextId) → Some id ≡ find (is_deployed life) life.deploying → new ≡ record life { deploying = without_id id life.deploying } → to ≡ deploy_told id new.records →
    AreApart life → SaysNext life new (record { to = to; kind = kinds.DeployEnd id })
said_deployed life new id to found is_new is_to apart =
    let later : LifeStore = record life { deploying = without_id id life.deploying } in
    let P : LifeStore → Type 0 = λ l. SaysNext life l (record { to = to; kind = kinds.DeployEnd id }) in
    let Q : Option ContextId → Type 0 = λ o. SaysNext life later (record { to = o; kind = kinds.DeployEnd id }) in
    subst P (sym is_new) (subst Q (sym (is_to ∙ ap (λ (l : LifeStore). deploy_told id l.records) is_new)) (says_deployed life id apart (sym found)))

pub fewer_deployed : (life new : LifeStore) (id : DeploymentId) → Some id ≡ find (is_deployed life) life.deploying → new ≡ record life { deploying = without_id id life.deploying } → promised new < promised life
fewer_deployed life new id found is_new =
    let a = ap promised is_new in
    let b = leaves_fewer same_deployment same_self (is_deployed life) id life.deploying (sym found) in
    omega (arith, a, b)

pub said_gone : (life now new : LifeStore) (id : DeploymentId) (to : Option ContextId) → now ≡ life → None ≡ find (is_deployed life) life.deploying → Some id ≡ find (is_gone now) now.ending → new ≡ record now { ending = without_id id now.ending } →
    to ≡ undeploy_told id new.records → AreApart life → SaysNext life new (record { to = to; kind = kinds.UndeployEnd id })
said_gone life now new id to same none found is_new is_to apart =
    let later : LifeStore = record life { ending = without_id id life.ending } in
    let is_later : new ≡ later = is_new ∙ ap (λ (l : LifeStore). record l { ending = without_id id l.ending }) same in
    let here : find (is_gone life) life.ending ≡ Some id = sym (ap (λ (l : LifeStore). find (is_gone l) l.ending) same) ∙ sym found in
    let P : LifeStore → Type 0 = λ l. SaysNext life l (record { to = to; kind = kinds.UndeployEnd id }) in
    let Q : Option ContextId → Type 0 = λ o. SaysNext life later (record { to = o; kind = kinds.UndeployEnd id }) in
    subst P (sym is_later) (subst Q (sym (is_to ∙ ap (λ (l : LifeStore). undeploy_told id l.records) is_later)) (says_gone life id apart (sym none) here))

pub fewer_gone : (life now new : LifeStore) (id : DeploymentId) → now ≡ life → Some id ≡ find (is_gone now) now.ending → new ≡ record now { ending = without_id id now.ending } → promised new < promised life
fewer_gone life now new id same found is_new =
    let a = ap promised is_new in
    let b = leaves_fewer same_deployment same_self (is_gone now) id now.ending (sym found) in
    let d = ap promised same in
    omega (arith, a, b, d)

pub said_stop : (life now new : LifeStore) (context : ContextId) → now ≡ life → None ≡ find (is_deployed life) life.deploying → None ≡ find (is_gone life) life.ending → Some context ≡ find (may_stop now.tree) now.tree.to_stop →
    new ≡ record now { tree = record now.tree { to_stop = without context now.tree.to_stop } } → AreApart life → SaysNext life new (stop_telling context)
said_stop life now new context same none also_none found is_new apart =
    let is_later = is_new ∙ ap (λ (l : LifeStore). record l { tree = record l.tree { to_stop = without context l.tree.to_stop } }) same in
    let here : find (may_stop life.tree) life.tree.to_stop ≡ Some context = sym (ap (λ (l : LifeStore). find (may_stop l.tree) l.tree.to_stop) same) ∙ sym found in
    let P : LifeStore → Type 0 = λ l. SaysNext life l (stop_telling context) in
    subst P (sym is_later) (says_stop life context apart (sym none) (sym also_none) here)

pub fewer_stops : (life now new : LifeStore) (context : ContextId) → now ≡ life → Some context ≡ find (may_stop now.tree) now.tree.to_stop → new ≡ record now { tree = record now.tree { to_stop = without context now.tree.to_stop } } → promised new < promised life
fewer_stops life now new context same found is_new =
    let a = ap promised is_new in
    let b = leaves_fewer same_context same_context-self (may_stop now.tree) context now.tree.to_stop (sym found) in
    let d = ap promised same in
    omega (arith, a, b, d)

-- ## The tasks

-- one more
pub items_next : (contexts : ContextStore) (at : EntryNo) (place : ℕ) (telling : Telling) (others : List Telling) (waiting : List Item) →
    (waiting ++ telling_item contexts at place telling) ++ telling_items contexts at (place + length (telling_item contexts at place telling)) others ≡ waiting ++ telling_items contexts at place (telling ∷ others)
items_next contexts at place telling others waiting = append_assoc waiting (telling_item contexts at place telling) (telling_items contexts at (place + length (telling_item contexts at place telling)) others)
