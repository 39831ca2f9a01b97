-- Refused calls.
use Rattle.std.proofs.Common.{◌≡◌, List, [], ◌∷◌, ◌++◌, refl}
use Rattle.std.specs.Prelude.{ℤ, true}
use Rattle.vx_data.specs.declared.ids.PassNo.{PassNo}
use Rattle.vx_timer.specs.declared.timers.Timer.{Timer}
use Rattle.vx_call.specs.declared.call.Call.{Call}
use Rattle.vx_call.specs.declared.reply.Refusal.{Refusal}
use Rattle.vx_call.specs.declared.reply.Reply.TheVariants as replies
use Rattle.vx_call.specs.declared.history.Traced.{Traced}
use Rattle.vx_call.specs.History.{plain_entry, no_mark}
use Rattle.vx_call.specs.Built.{is_stored}
use Rattle.vx_call.specs.Machine.{row}
use Rattle.vx_call.proofs.Mailboxes.{mailbox_same}
use Rattle.vx_call.proofs.Stored.{stored_more}
use Rattle.vx_context.specs.Stores.{ContextStore}
use Rattle.vx_bus_store.specs.Stores.{BusStore}
use Rattle.vx_bus_store.specs.Stands.{StoresStand}
use Rattle.vx_bus_store.proofs.Frames.{LeavesBus, bus_left, contexts_left, numbers_left, timers_left}
use Rattle.vx_life.specs.Stores.{LifeStore}
use Rattle.vx_life_rows.specs.Moves.{entry_of}
use Rattle.vx_life_rows.proofs.RowStill.{life_refused}
use Rattle.vx_core_life.specs.Stands.{AllStand, LivesFollow}

module _ (history : List Traced) (pass : PassNo) (call : Call) (refusal : Refusal) (states : List (List ℤ)) where
  abbrev entry : Traced
  entry = entry_of pass call (replies.Refused refusal) states no_mark

  leaves : LeavesBus history entry
  leaves = record {
    consumers = record { registered = refl; kept = λ c. refl };
    numbers = numbers_left history entry (λ consumer. mailbox_same history entry consumer refl);
    choices = refl;
    tasks = record { made = refl; kept = λ t. refl };
    requests = record { opened = refl; settled = λ r. refl };
    settled = refl;
    dropped = refl;
    given = refl;
    codecs = record { added = refl; kept = λ c. refl };
    rules = record { added = refl; kept = λ r. refl };
  }

  stores_left : (contexts : ContextStore) (timers : List Timer) (bus : BusStore) → is_stored call ≡ true → StoresStand contexts timers bus history → StoresStand contexts timers bus (history ++ entry ∷ [])
  stores_left contexts timers bus stored stands = record {
    stored = stored_more history entry stands.stored (record { call = stored; mark = refl });
    contexts = contexts_left contexts history entry
        (record { closings = refl; items = record { contexts = refl; queued = refl }; pools = refl; held = refl; finished = λ h. refl; waiting = record { none = refl; kept = λ w. refl } }) stands.contexts;
    timers = timers_left timers history entry (record { opened = refl; settled = λ r. refl }) stands.timers;
    bus = bus_left bus history entry stands.stored leaves stands.bus;
  }

  -- a refused call leaves all stores, whatever states go with it
  pub refused_with : (life : LifeStore) (contexts : ContextStore) (timers : List Timer) (bus : BusStore) → is_stored call ≡ true → AllStand life contexts timers bus history → replies.Refused refusal ≡ row history pass call → LivesFollow life contexts timers bus history entry
  refused_with life contexts timers bus stored stands answered = record {
    answered = answered;
    all = record { stores = stores_left contexts timers bus stored stands.stores; lives = life_refused history entry refl life stands.lives };
  }

-- a refused call leaves all stores
pub lives_refused : (life : LifeStore) (contexts : ContextStore) (timers : List Timer) (bus : BusStore) (history : List Traced) (pass : PassNo) (call : Call) (refusal : Refusal) → is_stored call ≡ true → AllStand life contexts timers bus history →
    replies.Refused refusal ≡ row history pass call → LivesFollow life contexts timers bus history (plain_entry pass call (replies.Refused refusal) no_mark)
lives_refused life contexts timers bus history pass call refusal stored stands answered = refused_with history pass call refusal [] life contexts timers bus stored stands answered
