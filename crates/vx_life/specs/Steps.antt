-- What the calls of the store change.
use Rattle.std.specs.Prelude.{◌≡◌, ℕ, ◌+◌, Bool, ◌||◌, if◌then◌else◌, [], ◌∷◌, ◌++◌, map, Option, None, Some}
use Rattle.std.specs.Option.{option_or}
use Rattle.vx_data.specs.declared.ids.ContextId.{ContextId}
use Rattle.vx_data.specs.declared.ids.DeploymentId.{DeploymentId}
use Rattle.vx_data.specs.declared.ids.EntryNo.{EntryNo}
use Rattle.vx_data.specs.Ids.{same_deployment}
use Rattle.vx_message.specs.declared.DoneResult.{DoneResult}
use Rattle.vx_tree.specs.Nodes.{TreeStore, contexts_of, asked_at, is_known, is_one_of, below, there_of, deployment_of, without}
use Rattle.vx_life.specs.Stores.{LifeStore, stops_of, telling, failing}

-- a deployment of so many verticles is added
pub record Grows (id : DeploymentId) (parent : Option DeploymentId) (count : ℕ) (old new : TreeStore) : Type 0 where
  pub there : new.there ≡ old.there ++ record { id = id; parent = parent } ∷ []
  pub asked : (d : DeploymentId) → asked_at d new.asked ≡ (if same_deployment d id then None else asked_at d old.asked)
  pub known : (d : DeploymentId) → is_known d new.asked ≡ (same_deployment d id || is_known d old.asked)
  pub live : new.live ≡ old.live ++ contexts_of id 0 count
  pub starting : new.starting ≡ old.starting ++ contexts_of id 0 count
  pub to_stop : new.to_stop ≡ old.to_stop ++ contexts_of id 0 count

pub record Deploys (id : DeploymentId) (parent : Option DeploymentId) (worker : Bool) (tell : Option ContextId) (count : ℕ) (old new : LifeStore) : Type 0 where
  pub tree : Grows id parent count old.tree new.tree
  pub rest : new ≡ record old {
    tree = new.tree;
    standard = if worker then old.standard else old.standard + count;
    unstopped = old.unstopped ++ contexts_of id 0 count;
    stops = old.stops ++ stops_of id 0 count;
    records = old.records ++ record { id = id; deploy_tell = tell; undeploy_tell = None; failure = None } ∷ [];
    deploying = old.deploying ++ id ∷ [];
    ending = old.ending ++ id ∷ [];
  }

-- a deployment is asked to end, at an entry, with all below it
pub record Notes (id : DeploymentId) (at : EntryNo) (old new : TreeStore) : Type 0 where
  pub asked : (d : DeploymentId) → asked_at d new.asked ≡ option_or (asked_at d old.asked) (if is_one_of (below old.there id) d then Some at else None)
  pub known : (d : DeploymentId) → is_known d new.asked ≡ is_known d old.asked

pub record Asks (id : DeploymentId) (tell : Option ContextId) (at : EntryNo) (old new : LifeStore) : Type 0 where
  pub notes : Notes id at old.tree new.tree
  pub rest : new ≡ record old { tree = record old.tree { there = there_of new.tree.asked old.tree.live old.tree.there; asked = new.tree.asked }; records = map (telling id tell) old.records }

-- the start of a context fails: the context is closed, and its deployment asked to end
pub record Fails (context : ContextId) (result : DoneResult) (at : EntryNo) (old new : LifeStore) : Type 0 where
  pub notes : Notes (deployment_of context) at old.tree new.tree
  pub rest : new ≡ record old {
    tree = record {
      there = there_of new.tree.asked (without context old.tree.live) (there_of new.tree.asked old.tree.live old.tree.there);
      asked = new.tree.asked;
      live = without context old.tree.live;
      starting = without context old.tree.starting;
      to_stop = without context old.tree.to_stop;
    };
    records = map (failing (deployment_of context) result) old.records;
  }
