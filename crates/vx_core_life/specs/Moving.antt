-- What comes with an entry that brings deployments on, as the stores have it.
use Rattle.std.specs.Prelude.{◌≡◌, ℕ, ◌+◌, Bool, not, ◌&&◌, is_some, is_none, if◌then◌else◌, List, [], ◌∷◌, ◌++◌, length, map, filter, find, Option, None, Some}
use Rattle.vx_data.specs.declared.ids.ContextId.{ContextId}
use Rattle.vx_data.specs.declared.ids.DeploymentId.{DeploymentId}
use Rattle.vx_data.specs.declared.ids.EntryNo.{EntryNo}
use Rattle.vx_data.specs.Ids.{same_context, same_deployment}
use Rattle.vx_message.specs.declared.Item.{Item}
use Rattle.vx_message.specs.declared.ItemKind.TheVariants as kinds
use Rattle.vx_call.specs.Contexts.{is_context_of}
use Rattle.vx_call.proofs.Apart.{Apart}
use Rattle.vx_tree.specs.Nodes.{may_stop}
use Rattle.vx_life.specs.Stores.{LifeStore, deploy_told, undeploy_told, is_deployed, is_gone}
use Rattle.vx_context.specs.Stores.{ContextStore, closed_in, handler_item}
use Rattle.vx_core_life.specs.declared.moving.Telling.{Telling}

-- ## What comes

abbrev pub deploy_telling : LifeStore → DeploymentId → Telling
deploy_telling life id = record { to = deploy_told id life.records; kind = kinds.DeployEnd id }

abbrev pub undeploy_telling : LifeStore → DeploymentId → Telling
undeploy_telling life id = record { to = undeploy_told id life.records; kind = kinds.UndeployEnd id }

abbrev pub stop_telling : ContextId → Telling
stop_telling context = record { to = Some context; kind = kinds.Stop context }

-- the ends of deploying, then the ends of deployments, then the stops
abbrev pub tellings : LifeStore → List Telling
tellings life =
    map (deploy_telling life) (filter (is_deployed life) life.deploying)
    ++ (map (undeploy_telling life) (filter (is_gone life) life.ending) ++ map stop_telling (filter (may_stop life.tree) life.tree.to_stop))

-- the store once all was said
abbrev pub said : LifeStore → LifeStore
said life = record life {
  tree = record life.tree { to_stop = filter (λ context. not (may_stop life.tree context)) life.tree.to_stop };
  deploying = filter (λ id. not (is_deployed life id)) life.deploying;
  ending = filter (λ id. not (is_gone life id)) life.ending;
}

-- no two of those that are still to come are one
pub record AreApart (life : LifeStore) : Type 0 where
  pub deploying : Apart same_deployment life.deploying
  pub ending : Apart same_deployment life.ending
  pub to_stop : Apart same_context life.tree.to_stop

-- the first of what comes is said
pub record SaysNext (old new : LifeStore) (telling : Telling) : Type 0 where
  pub first : tellings old ≡ telling ∷ tellings new
  pub rest : said new ≡ said old
  pub apart : AreApart new

-- nothing comes
pub record SaysNone (life : LifeStore) : Type 0 where
  pub none : tellings life ≡ []
  pub all : said life ≡ life

-- how many places are put by for what is still to come
abbrev pub promised : LifeStore → ℕ
promised life = length life.deploying + length life.ending + length life.tree.to_stop

-- ## What is made ready

abbrev pub is_open_in : ContextStore → ContextId → Bool
is_open_in contexts context = is_some (find (is_context_of context) contexts.made) && is_none (closed_in context contexts.closings)

-- the context that is told, where it is open
abbrev pub is_told : ContextStore → Option ContextId → Option ContextId
is_told contexts None = None
is_told contexts (Some context) = if is_open_in contexts context then Some context else None

abbrev pub item_for : ContextStore → EntryNo → ℕ → Telling → Option ContextId → List Item
item_for contexts at place telling None = []
item_for contexts at place telling (Some context) = handler_item contexts.made at place context telling.kind ∷ []

-- the task at this place, where its context is open
abbrev pub telling_item : ContextStore → EntryNo → ℕ → Telling → List Item
telling_item contexts at place telling = item_for contexts at place telling (is_told contexts telling.to)

-- the tasks at places from this one on
abbrev pub telling_items : ContextStore → EntryNo → ℕ → List Telling → List Item
telling_items contexts at place [] = []
telling_items contexts at place (telling ∷ others) =
    telling_item contexts at place telling ++ telling_items contexts at (place + length (telling_item contexts at place telling)) others
