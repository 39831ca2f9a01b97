-- Close.
use Rattle.std.proofs.Common.{◌≡◌, ℕ, List, [], ◌∷◌, ◌++◌, refl, ap, sym, ◌∙◌, subst}
use Rattle.std.specs.Prelude.{None, Some}
use Rattle.std.specs.Option.{option_or}
use Rattle.vx_data.specs.declared.ids.EntryNo.{EntryNo}
use Rattle.vx_data.specs.declared.ids.PassNo.{PassNo}
use Rattle.vx_timer.specs.declared.timers.Timer.{Timer}
use Rattle.vx_call.specs.declared.call.Call.TheVariants as calls
use Rattle.vx_call.specs.declared.reply.Reply.TheVariants as replies
use Rattle.vx_call.specs.declared.history.Traced.{Traced}
use Rattle.vx_call.specs.History.{plain_entry, no_mark}
use Rattle.vx_call.specs.Refusals.{unless_refused, still_deployed}
use Rattle.vx_context.specs.Stores.{ContextStore}
use Rattle.vx_context.specs.Stands.{IsNext}
use Rattle.vx_bus_store.specs.Stores.{BusStore}
use Rattle.vx_bus_store.specs.Stands.{StoresStand}
use Rattle.vx_life.specs.Stores.{LifeStore}
use Rattle.vx_life.specs.Stands.{LifeStands}
use Rattle.vx_life_rows.proofs.RowClose.{life_closed}
use Rattle.vx_core_life.specs.Stands.{AllStand, LivesFollow}

abbrev pub closed : PassNo → Traced
closed pass = plain_entry pass calls.Close replies.Done no_mark

-- the hub is closed, where no deployment is there
pub closes : (life new : LifeStore) (old new_contexts : ContextStore) (timers new_timers : List Timer) (bus new_bus : BusStore) (history : List Traced) (at : EntryNo) (pass : PassNo) →
    AllStand life old timers bus history → IsNext at history → still_deployed history ≡ None → new ≡ record life { closed = option_or life.closed (Some at) } →
    StoresStand new_contexts new_timers new_bus (history ++ closed pass ∷ []) → LivesFollow new new_contexts new_timers new_bus history (closed pass)
closes life new old new_contexts timers new_timers bus new_bus history at pass stands is_next free is_new stores =
    let closed_then : ℕ → LifeStore = λ n. record life { closed = option_or life.closed (Some (record { 0 = n })) } in
    let L : LifeStore → Type 0 = λ l. LifeStands l (history ++ closed pass ∷ []) in
    record {
      answered = sym (ap (λ r. unless_refused r replies.Done) free);
      all = record {
        stores = stores;
        lives = subst L (sym (is_new ∙ ap closed_then is_next)) (life_closed history pass replies.Done [] no_mark refl free life stands.lives);
      };
    }
