-- Entries that bring deployments on.
use Rattle.std.proofs.Common.{◌≡◌, ℕ, List, [], ◌∷◌, ◌++◌, ap, sym, ◌∙◌, subst}
use Rattle.std.proofs.lemmas.List.{map-append}
use Rattle.std.specs.Prelude.{true, false, ◌&&◌, map, find, is_some, is_none}
use Rattle.vx_data.specs.declared.ids.EntryNo.{EntryNo}
use Rattle.vx_message.specs.declared.Held.{Held}
use Rattle.vx_timer.specs.declared.timers.Timer.{Timer}
use Rattle.vx_call.specs.declared.history.Traced.{Traced}
use Rattle.vx_call.specs.History.{made_by, ended_by, is_accepted}
use Rattle.vx_call.specs.Coming.{moves_on}
use Rattle.vx_call.specs.Contexts.{is_context, is_context_of}
use Rattle.vx_call.specs.Held.{held}
use Rattle.vx_call.specs.Items.{Waiting, item_kind, placed, waiting}
use Rattle.vx_call.specs.Lives.{ends_and_stops}
use Rattle.vx_call.specs.Pools.{pool_kind}
use Rattle.vx_call.proofs.Stored.{stored_more}
use Rattle.vx_call.proofs.KeepsOpen.{KeepsOpen, closed_kept}
use Rattle.vx_call.proofs.Lasting.{lasting_more}
use Rattle.vx_call.proofs.Closed.{open_is}
use Rattle.vx_life.specs.Stores.{LifeStore}
use Rattle.vx_life.specs.Stands.{LifeStands, ComingStands, IsBehind}
use Rattle.vx_life_rows.specs.Moves.{is_deploy}
use Rattle.vx_life_rows.proofs.RowComing.{deploying_apart, ending_apart, stops_apart, life_settled}
use Rattle.vx_life_rows.proofs.RowStill.{deploys_nothing}
use Rattle.vx_context.specs.Stores.{ContextStore, closed_in, item_of}
use Rattle.vx_context.specs.Stands.{IsNext}
use Rattle.vx_context.proofs.Items.{LeavesItems, contexts_stay, items_left}
use Rattle.vx_bus_store.specs.Stores.{BusStore}
use Rattle.vx_bus_store.specs.Stands.{StoresStand}
use Rattle.vx_bus_store.proofs.Frames.{LeavesBus, bus_left, timers_left, pools_stay}
use Rattle.vx_bus_closing.specs.Closing.{BusCloses}
use Rattle.vx_core_life.specs.Knowing.{Knows}
use Rattle.vx_core_life.specs.Moving.{AreApart, tellings, said, telling_items}
use Rattle.vx_core_life.specs.Stands.{AllStand, StandButHeld}
use Rattle.vx_core_life.proofs.Moved.{moved_on}

-- ## Entries that close no context

-- the entry leaves the bus, and makes ready what comes as deployments are brought on
pub record Moves (history : List Traced) (new : Traced) : Type 0 where
  pub keeps : KeepsOpen history new
  pub bus : LeavesBus history new
  pub items : LeavesItems history new
  pub pools : made_by pool_kind history new ≡ []
  pub made : made_by item_kind history new ≡ placed history 0 (ends_and_stops history new)
  pub kept : (item : Waiting) → ended_by item_kind history new item ≡ false

-- the stores are those of the history with the entry, once what comes waits
pub moves_none : (history : List Traced) (new : Traced) (store : ContextStore) (timers : List Timer) (bus : BusStore) → Moves history new → StoresStand store timers bus history → BusCloses store timers bus history new 0
moves_none history new store timers bus moves stands =
    let item = item_of (history ++ new ∷ []) in
    record {
      stored = stored_more history new stands.stored moves.keeps.stored;
      bus = bus_left bus history new stands.stored moves.bus stands.bus;
      timers = timers_left timers history new moves.bus.requests stands.timers;
      made = stands.contexts.made ∙ sym (contexts_stay history new moves.items.contexts);
      closings = λ id. stands.contexts.closings id ∙ sym (closed_kept history new id moves.keeps);
      pools = stands.contexts.pools ∙ sym (pools_stay history new moves.pools);
      waiting = ap (λ items. items ++ map item (placed history 0 (ends_and_stops history new))) (stands.contexts.waiting ∙ sym (items_left history new moves.items (waiting history)))
          ∙ ap (λ (items : List Waiting). map item (waiting history) ++ map item items) (sym moves.made)
          ∙ sym (map-append item (waiting history) (made_by item_kind history new))
          ∙ ap (map item) (sym (lasting_more item_kind history new moves.kept));
    }

-- ## Once all that comes is said

-- nothing that is still to come is there twice
pub apart_behind : (life : LifeStore) (before after : List Traced) → ComingStands life before after → AreApart life
apart_behind life before after coming = record { deploying = deploying_apart life before after coming; ending = ending_apart life before after coming; to_stop = stops_apart life before after coming }

-- what the store knows of contexts, where these are those of the history with the entry
knows : (store : ContextStore) (timers : List Timer) (bus : BusStore) (at : EntryNo) (history : List Traced) (new : Traced) (place : ℕ) → BusCloses store timers bus history new place → IsNext at history → Knows store at history (history ++ new ∷ [])
knows store timers bus at history new place closes is_next =
    let after = history ++ new ∷ [] in
    record {
      made = closes.made;
      opened = λ id.
          ap (λ cs. is_some (find (is_context_of id) cs) && is_none (closed_in id store.closings)) closes.made
          ∙ ap (λ o. is_context after id && is_none o) (closes.closings id)
          ∙ sym (open_is after id);
      entry = is_next;
    }

-- all but what is held is that of the history with the entry, whether it closed a context or not
pub brought_on : (life new_life : LifeStore) (store new_store : ContextStore) (timers : List Timer) (bus : BusStore) (tasks : List Held) (at : EntryNo) (place : ℕ) (history : List Traced) (new : Traced) →
    BusCloses store timers bus history new place → IsBehind life history (history ++ new ∷ []) → is_accepted new.entry.reply ≡ true → is_deploy new.entry.call ≡ false → moves_on history new.entry.pass new.entry.call ≡ true → IsNext at history →
    store.held ≡ tasks → (AreApart life → new_life ≡ said life) →
    (AreApart life → new_store ≡ record store { waiting = store.waiting ++ telling_items store at place (tellings life); owed = new_store.owed; room = new_store.room }) →
    StandButHeld new_life new_store timers bus tasks (history ++ new ∷ [])
brought_on life new_life store new_store timers bus tasks at place history new closes behind ok other moves is_next holds is_said is_told =
    let after = history ++ new ∷ [] in
    let apart = apart_behind life history after behind.coming in
    let told = is_told apart in
    let nothing = deploys_nothing history new other in
    let L : LifeStore → Type 0 = λ l. LifeStands l after in
    record {
      stored = closes.stored;
      made = ap (λ (s : ContextStore). s.made) told ∙ closes.made;
      closings = λ id. ap (λ (s : ContextStore). closed_in id s.closings) told ∙ closes.closings id;
      held = ap (λ (s : ContextStore). s.held) told ∙ holds;
      pools = ap (λ (s : ContextStore). s.pools) told ∙ closes.pools;
      waiting = ap (λ (s : ContextStore). s.waiting) told
          ∙ ap (λ items. store.waiting ++ items) (moved_on life store at history new place moves behind (knows store timers bus at history new place closes is_next))
          ∙ closes.waiting;
      timers = closes.timers;
      bus = closes.bus;
      lives = subst L (sym (is_said apart)) (life_settled history new moves life behind ok nothing.ids nothing.instances);
    }

-- all stand, where those are the tasks that passes hold
pub all_stand : (life : LifeStore) (store : ContextStore) (timers : List Timer) (bus : BusStore) (tasks : List Held) (history : List Traced) → StandButHeld life store timers bus tasks history → tasks ≡ held history → AllStand life store timers bus history
all_stand life store timers bus tasks history stand same = record {
  stores = record {
    stored = stand.stored;
    contexts = record { made = stand.made; closings = stand.closings; held = stand.held ∙ same; pools = stand.pools; waiting = stand.waiting };
    timers = stand.timers;
    bus = stand.bus;
  };
  lives = stand.lives;
}
