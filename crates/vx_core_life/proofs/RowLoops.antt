-- SetLoops and AddPool.
use Rattle.std.proofs.Common.{◌≡◌, ℕ, ◌≤◌, List, [], ◌∷◌, ◌++◌, refl, ap, sym, ◌∙◌, subst, arith}
use Rattle.std.specs.Prelude.{false, ◌||◌, ◌==◌, nat_lt, map, None}
use Rattle.std.specs.Option.{option_or}
use Rattle.std.proofs.lemmas.Bool.Decides.{nat_tests}
use Rattle.vx_data.specs.declared.ids.EntryNo.{EntryNo}
use Rattle.vx_data.specs.declared.ids.PassNo.{PassNo}
use Rattle.vx_message.specs.declared.Pool.{Pool}
use Rattle.vx_timer.specs.declared.timers.Timer.{Timer}
use Rattle.vx_call.specs.declared.call.Call.TheVariants as calls
use Rattle.vx_call.specs.declared.reply.Refusal.TheVariants as refusals
use Rattle.vx_call.specs.declared.reply.Reply.{Reply}
use Rattle.vx_call.specs.declared.reply.Reply.TheVariants as replies
use Rattle.vx_call.specs.declared.history.Traced.{Traced}
use Rattle.vx_call.specs.History.{plain_entry, no_mark}
use Rattle.vx_call.specs.Names.{next_pool}
use Rattle.vx_call.specs.Pools.{pool_kind, pools as pools_of}
use Rattle.vx_call.specs.Refusals.{unless_refused, holder_closed, bad_count}
use Rattle.vx_call.specs.Rows.{add_pool_refusal}
use Rattle.vx_call.proofs.KeepsOpen.{KeepsOpen, closed_kept}
use Rattle.vx_call.proofs.Lasting.{lasting_same, lasting_more}
use Rattle.vx_call.proofs.Stored.{stored_more}
use Rattle.vx_call.specs.Held.{held_kind}
use Rattle.vx_call.specs.Items.{waiting}
use Rattle.vx_life.specs.Stores.{LifeStore}
use Rattle.vx_life_rows.proofs.RowStill.{life_loops, life_still, quiet_still}
use Rattle.vx_context.specs.Stores.{ContextStore, closed_in, item_of}
use Rattle.vx_context.specs.Stands.{ContextsStand, IsNext}
use Rattle.vx_context.proofs.Items.{contexts_stay, items_left}
use Rattle.vx_bus_store.specs.Stores.{BusStore}
use Rattle.vx_bus_store.proofs.Frames.{LeavesBus, LeavesContexts, LeavesWaiting, bus_left, consumer_kept, contexts_left, numbers_left, timers_left, waiting_left}
use Rattle.vx_bus_store.proofs.Kept.{mailbox_kept, task_kept, item_kept}
use Rattle.vx_bus_store.proofs.KeptRequests.{request_kept}
use Rattle.vx_bus_refusals.proofs.Chains.{none_refused}
use Rattle.vx_core_life.specs.Stands.{AllStand, LivesFollow}

-- ## So many

-- a count that is not refused is within its bounds
pub record IsCounted (most count : ℕ) : Type 0 where
  pub least : 1 ≤ count
  pub greatest : count ≤ most

least_one : (most count : ℕ) → ((count == 0) || nat_lt most count) ≡ false → 1 ≤ count
least_one most count passes = grind (arith, nat_tests)

at_most : (most count : ℕ) → ((count == 0) || nat_lt most count) ≡ false → count ≤ most
at_most most count passes = grind (arith, nat_tests)

pub counted : (most count : ℕ) → bad_count most count ≡ None → IsCounted most count
counted most count free =
    let passes = none_refused ((count == 0) || nat_lt most count) refusals.BadCount free in
    record { least = least_one most count passes; greatest = at_most most count passes }

-- ## SetLoops

abbrev pub set : PassNo → ℕ → Traced
set pass count = plain_entry pass (calls.SetLoops count) replies.Done no_mark

set_keeps : (history : List Traced) (pass : PassNo) (count : ℕ) → KeepsOpen history (set pass count)
set_keeps history pass count = record { stored = record { call = refl; mark = refl }; closing = refl; closes = λ context. refl }

set_leaves_bus : (history : List Traced) (pass : PassNo) (count : ℕ) → LeavesBus history (set pass count)
set_leaves_bus history pass count =
    let entry = set pass count in
    let kept = set_keeps history pass count in
    record {
      consumers = record { registered = refl; kept = λ c. consumer_kept history entry c kept refl };
      numbers = numbers_left history entry (λ consumer. mailbox_kept history entry consumer kept refl refl);
      choices = refl;
      tasks = record { made = refl; kept = λ t. task_kept history entry t kept refl };
      requests = record { opened = refl; settled = λ r. request_kept history entry r kept refl };
      settled = refl;
      dropped = refl;
      given = refl;
      codecs = record { added = refl; kept = λ c. refl };
      rules = record { added = refl; kept = λ r. refl };
    }

set_leaves_contexts : (history : List Traced) (pass : PassNo) (count : ℕ) → LeavesContexts history (set pass count)
set_leaves_contexts history pass count =
    let entry = set pass count in
    record {
      closings = refl;
      items = record { contexts = refl; queued = refl };
      pools = refl;
      held = refl;
      finished = λ h. refl;
      waiting = record { none = refl; kept = λ w. item_kept history entry w (set_keeps history pass count) refl };
    }

-- so many event loops take turns
pub loops_set : (life new : LifeStore) (contexts : ContextStore) (timers : List Timer) (bus : BusStore) (history : List Traced) (pass : PassNo) (count : ℕ) → AllStand life contexts timers bus history →
    option_or (holder_closed history pass) (bad_count 16 count) ≡ None → new ≡ record life { loops = count } → LivesFollow new contexts timers bus history (set pass count)
loops_set life new contexts timers bus history pass count stands free is_new =
    let entry = set pass count in
    let after = history ++ entry ∷ [] in
    let L : LifeStore → Type 0 = λ l. (let P = AllStand l contexts timers bus after in P) in
    let kept = set_keeps history pass count in
    let leaves = set_leaves_bus history pass count in
    record {
      answered = sym (ap (λ r. unless_refused r replies.Done) free);
      all = subst L (sym is_new) (record {
        stores = record {
          stored = stored_more history entry stands.stores.stored kept.stored;
          contexts = contexts_left contexts history entry (set_leaves_contexts history pass count) stands.stores.contexts;
          timers = timers_left timers history entry leaves.requests stands.stores.timers;
          bus = bus_left bus history entry stands.stores.stored leaves stands.stores.bus;
        };
        lives = life_loops history pass count replies.Done [] no_mark refl life stands.lives;
      });
    }

-- ## AddPool

abbrev pub added : PassNo → List ℕ → ℕ → EntryNo → Traced
added pass name size at = plain_entry pass (calls.AddPool name size) (replies.Pool (record { 0 = at })) no_mark

add_keeps : (history : List Traced) (pass : PassNo) (name : List ℕ) (size : ℕ) (at : EntryNo) → KeepsOpen history (added pass name size at)
add_keeps history pass name size at = record { stored = record { call = refl; mark = refl }; closing = refl; closes = λ context. refl }

add_leaves_bus : (history : List Traced) (pass : PassNo) (name : List ℕ) (size : ℕ) (at : EntryNo) → LeavesBus history (added pass name size at)
add_leaves_bus history pass name size at =
    let entry = added pass name size at in
    let kept = add_keeps history pass name size at in
    record {
      consumers = record { registered = refl; kept = λ c. consumer_kept history entry c kept refl };
      numbers = numbers_left history entry (λ consumer. mailbox_kept history entry consumer kept refl refl);
      choices = refl;
      tasks = record { made = refl; kept = λ t. task_kept history entry t kept refl };
      requests = record { opened = refl; settled = λ r. request_kept history entry r kept refl };
      settled = refl;
      dropped = refl;
      given = refl;
      codecs = record { added = refl; kept = λ c. refl };
      rules = record { added = refl; kept = λ r. refl };
    }

-- the contexts with one pool more
pool_comes : (old new : ContextStore) (history : List Traced) (pass : PassNo) (name : List ℕ) (size : ℕ) (at : EntryNo) → ContextsStand old history → IsNext at history →
    new ≡ record old { pools = old.pools ++ record { id = record { 0 = at }; name = name; size = size } ∷ [] } → ContextsStand new (history ++ added pass name size at ∷ [])
pool_comes old new history pass name size at stands is_next is_new =
    let entry = added pass name size at in
    let after = history ++ entry ∷ [] in
    let kept = add_keeps history pass name size at in
    let waits : LeavesWaiting history entry = record { none = refl; kept = λ w. item_kept history entry w kept refl } in
    let pool : ℕ → Pool = λ n. record { id = record { 0 = record { 0 = n } }; name = name; size = size } in
    record {
      made = ap (λ (s : ContextStore). s.made) is_new ∙ stands.made ∙ sym (contexts_stay history entry refl);
      closings = λ id. ap (λ (s : ContextStore). closed_in id s.closings) is_new ∙ stands.closings id ∙ sym (closed_kept history entry id kept);
      held = ap (λ (s : ContextStore). s.held) is_new ∙ stands.held ∙ sym (lasting_same held_kind history entry refl (λ h. refl));
      pools = ap (λ (s : ContextStore). s.pools) is_new
          ∙ ap (λ ps. ps ++ pool at.0 ∷ []) stands.pools ∙ ap (λ n. pools_of history ++ pool n ∷ []) is_next
          ∙ sym (lasting_more pool_kind history entry (λ p. refl));
      waiting = ap (λ (s : ContextStore). s.waiting) is_new ∙ stands.waiting ∙ ap (map (item_of history)) (sym (waiting_left history entry waits))
          ∙ sym (items_left history entry (record { contexts = refl; queued = refl }) (waiting after));
    }

-- a pool is added
pub pool_added : (life : LifeStore) (old new : ContextStore) (timers : List Timer) (bus : BusStore) (history : List Traced) (at : EntryNo) (pass : PassNo) (name : List ℕ) (size : ℕ) → AllStand life old timers bus history →
    IsNext at history → add_pool_refusal history pass name size ≡ None → new ≡ record old { pools = old.pools ++ record { id = record { 0 = at }; name = name; size = size } ∷ [] } →
    LivesFollow life new timers bus history (added pass name size at)
pool_added life old new timers bus history at pass name size stands is_next free is_new =
    let entry = added pass name size at in
    let after = history ++ entry ∷ [] in
    let kept = add_keeps history pass name size at in
    let leaves = add_leaves_bus history pass name size at in
    let reply : ℕ → Reply = λ n. replies.Pool (record { 0 = record { 0 = n } }) in
    record {
      answered = ap reply is_next ∙ sym (ap (λ r. unless_refused r (replies.Pool (next_pool history))) free);
      all = record {
        stores = record {
          stored = stored_more history entry stands.stores.stored kept.stored;
          contexts = pool_comes old new history pass name size at stands.stores.contexts is_next is_new;
          timers = timers_left timers history entry leaves.requests stands.stores.timers;
          bus = bus_left bus history entry stands.stores.stored leaves stands.stores.bus;
        };
        lives = life_still history entry (quiet_still history entry refl refl refl refl) life stands.lives;
      };
    }
