-- Undeploy.
use Rattle.std.proofs.Common.{◌≡◌, ℕ, List, [], ◌∷◌, ◌++◌, refl, ap, sym, ◌∙◌, subst}
use Rattle.std.specs.Prelude.{Option, None}
use Rattle.vx_data.specs.declared.ids.ContextId.{ContextId}
use Rattle.vx_data.specs.declared.ids.DeploymentId.{DeploymentId}
use Rattle.vx_data.specs.declared.ids.EntryNo.{EntryNo}
use Rattle.vx_data.specs.declared.ids.PassNo.{PassNo}
use Rattle.vx_timer.specs.declared.timers.Timer.{Timer}
use Rattle.vx_call.specs.declared.call.Call.TheVariants as calls
use Rattle.vx_call.specs.declared.reply.Reply.TheVariants as replies
use Rattle.vx_call.specs.declared.history.Traced.{Traced}
use Rattle.vx_call.specs.History.{plain_entry, no_mark}
use Rattle.vx_call.specs.Refusals.{unless_refused, no_deployment}
use Rattle.vx_call.specs.Rows.{undeploy_refusal}
use Rattle.vx_call.specs.Machine.{IsLegal}
use Rattle.vx_call.proofs.Below.{children_asked}
use Rattle.vx_call.proofs.KeepsOpen.{KeepsOpen}
use Rattle.vx_call.proofs.Lasting.{lasting_same}
use Rattle.vx_call.specs.Held.{held_kind}
use Rattle.vx_life.specs.Stores.{LifeStore}
use Rattle.vx_life.specs.Steps.{Asks}
use Rattle.vx_life.specs.Stands.{LifeStands, IsBehind}
use Rattle.vx_life_rows.proofs.RowEnds.{life_asked}
use Rattle.vx_context.specs.Stores.{ContextStore}
use Rattle.vx_context.specs.Stands.{IsNext}
use Rattle.vx_bus_store.specs.Stores.{BusStore}
use Rattle.vx_bus_store.proofs.Frames.{consumer_kept, numbers_left}
use Rattle.vx_bus_store.proofs.Kept.{mailbox_kept, task_kept, item_kept}
use Rattle.vx_bus_store.proofs.KeptRequests.{request_kept}
use Rattle.vx_bus_refusals.proofs.Chains.{none_of_first}
use Rattle.vx_core_life.specs.Moving.{AreApart, tellings, said, telling_items}
use Rattle.vx_core_life.specs.Stands.{AllStand, LivesFollow}
use Rattle.vx_core_life.proofs.RowMoving.{Moves, moves_none, brought_on, all_stand}

abbrev pub undeployed : PassNo → DeploymentId → Option ContextId → Traced
undeployed pass id tell = plain_entry pass (calls.Undeploy id tell) replies.Done no_mark

keeps : (history : List Traced) (pass : PassNo) (id : DeploymentId) (tell : Option ContextId) → KeepsOpen history (undeployed pass id tell)
keeps history pass id tell = record { stored = record { call = refl; mark = refl }; closing = refl; closes = λ context. refl }

moves : (history : List Traced) (pass : PassNo) (id : DeploymentId) (tell : Option ContextId) → Moves history (undeployed pass id tell)
moves history pass id tell =
    let entry = undeployed pass id tell in
    let kept = keeps history pass id tell in
    record {
      keeps = kept;
      bus = record {
        consumers = record { registered = refl; kept = λ c. consumer_kept history entry c kept refl };
        numbers = numbers_left history entry (λ consumer. mailbox_kept history entry consumer kept refl refl);
        choices = refl;
        tasks = record { made = refl; kept = λ t. task_kept history entry t kept refl };
        requests = record { opened = refl; settled = λ r. request_kept history entry r kept refl };
        settled = refl;
        dropped = refl;
        given = refl;
        codecs = record { added = refl; kept = λ c. refl };
        rules = record { added = refl; kept = λ r. refl };
      };
      items = record { contexts = refl; queued = refl };
      pools = refl;
      made = refl;
      kept = λ w. item_kept history entry w kept refl;
    }

-- the lives behind the entry
behind : (life asked : LifeStore) (history : List Traced) (at : EntryNo) (pass : PassNo) (id : DeploymentId) (tell : Option ContextId) → LifeStands life history → IsLegal history → IsNext at history → undeploy_refusal history pass id tell ≡ None →
    Asks id tell at life asked → IsBehind asked history (history ++ undeployed pass id tell ∷ [])
behind life asked history at pass id tell lives legal is_next free asks =
    let entry : ℕ → EntryNo = λ n. record { 0 = n } in
    let A : EntryNo → Type 0 = λ e. Asks id tell e life asked in
    life_asked history pass id tell replies.Done [] no_mark refl (none_of_first (no_deployment history id) _ free) (children_asked history legal) life asked (subst A (ap entry is_next) asks) lives

pub undeploys : (life asked new : LifeStore) (old new_contexts : ContextStore) (timers : List Timer) (bus : BusStore) (history : List Traced) (at : EntryNo) (pass : PassNo) (id : DeploymentId) (tell : Option ContextId) →
    AllStand life old timers bus history → IsLegal history → IsNext at history → undeploy_refusal history pass id tell ≡ None → Asks id tell at life asked → (AreApart asked → new ≡ said asked) →
    (AreApart asked → new_contexts ≡ record old { waiting = old.waiting ++ telling_items old at 0 (tellings asked); owed = new_contexts.owed; room = new_contexts.room }) →
    LivesFollow new new_contexts timers bus history (undeployed pass id tell)
undeploys life asked new old new_contexts timers bus history at pass id tell stands legal is_next free asks is_said is_told =
    let entry = undeployed pass id tell in
    let late = behind life asked history at pass id tell stands.lives legal is_next free asks in
    let closes = moves_none history entry old timers bus (moves history pass id tell) stands.stores in
    record {
      answered = sym (ap (λ r. unless_refused r replies.Done) free);
      all = all_stand new new_contexts timers bus old.held (history ++ entry ∷ []) (brought_on asked new old new_contexts timers bus old.held at 0 history entry closes late refl refl refl is_next refl is_said is_told)
          (stands.stores.contexts.held ∙ sym (lasting_same held_kind history entry refl (λ h. refl)));
    }
