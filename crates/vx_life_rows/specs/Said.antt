-- Things that are said one after another, and what is told of them.
use Rattle.std.specs.Prelude.{◌≡◌, Bool, not, List, [], ◌∷◌, filter}
use Rattle.vx_data.specs.declared.ids.DeploymentId.{DeploymentId}
use Rattle.vx_call.specs.declared.history.Traced.{Traced}
use Rattle.vx_call.specs.History.{lasting}
use Rattle.vx_call.specs.Tells.{deploy_tell_kind, undeploy_tell_kind, told_in}
use Rattle.vx_call.specs.Ends as machine
use Rattle.vx_call.proofs.Each.{Each}
use Rattle.vx_call.proofs.Apart.{Apart}
use Rattle.vx_life.specs.Stores.{LifeStore, deploy_told, undeploy_told, deploy_result}

-- The first that passes is said: those that pass are this one, and then those of the others that do. Those that don't pass
-- stay, and no two of the others are one.
pub record IsSaid {A : Type 0} (same : A → A → Bool) (test : A → Bool) (one : A) (all : List A) : Type 0 where
  pub first : filter test all ≡ one ∷ filter test (filter (λ other. not (same one other)) all)
  pub rest : filter (λ other. not (test other)) (filter (λ other. not (same one other)) all) ≡ filter (λ other. not (test other)) all
  pub apart : Apart same (filter (λ other. not (same one other)) all)

-- none passes: all was said
pub record IsAllSaid {A : Type 0} (test : A → Bool) (all : List A) : Type 0 where
  pub none : filter test all ≡ []
  pub rest : filter (λ one. not (test one)) all ≡ all

-- of each deployment whose end of deploying is still to come: who is told, and how it ended
pub record IsTold (life : LifeStore) (history : List Traced) (id : DeploymentId) : Type 0 where
  pub deploy_told : deploy_told id life.records ≡ told_in (lasting deploy_tell_kind history) id
  pub undeploy_told : undeploy_told id life.records ≡ told_in (lasting undeploy_tell_kind history) id
  pub deploy_result : deploy_result life id ≡ machine.deploy_result history id

abbrev pub AreTold : LifeStore → List Traced → List DeploymentId → Type 0
AreTold life history ids = Each (IsTold life history) ids
