-- StartDone, StopDone and Finish.
use Rattle.std.proofs.Common.{◌≡◌, List, [], ◌∷◌, ◌++◌, refl, ap, sym, ◌∙◌, append-nil}
use Rattle.std.specs.Prelude.{ℤ, not, ◌==◌, filter, None}
use Rattle.vx_data.specs.declared.ids.PassNo.{PassNo}
use Rattle.vx_message.specs.declared.DoneResult.{DoneResult}
use Rattle.vx_message.specs.declared.Held.{Held}
use Rattle.vx_timer.specs.declared.timers.Timer.{Timer}
use Rattle.vx_call.specs.declared.call.End.{End}
use Rattle.vx_call.specs.declared.call.Call.TheVariants as calls
use Rattle.vx_call.specs.declared.reply.Reply.TheVariants as replies
use Rattle.vx_call.specs.declared.history.Traced.{Traced}
use Rattle.vx_call.specs.History.{plain_entry, no_mark}
use Rattle.vx_call.specs.Held.{held_kind}
use Rattle.vx_call.specs.Refusals.{unless_refused, not_holding, start_not_pending, stop_not_pending}
use Rattle.vx_call.specs.Rows.{end_refusal}
use Rattle.vx_call.proofs.Lasting.{lasting-append, lasting_same}
use Rattle.vx_context.specs.Stores.{ContextStore, closed_in}
use Rattle.vx_bus_store.specs.Stores.{BusStore}
use Rattle.vx_life.specs.Stores.{LifeStore}
use Rattle.vx_life_rows.specs.Moves.{entry_of}
use Rattle.vx_core_life.specs.Stands.{AllStand, StandButHeld, LivesFollow}
use Rattle.vx_core_life.proofs.RowMoving.{all_stand}

module _ (life new_life : LifeStore) (old new_contexts : ContextStore) (timers new_timers : List Timer) (bus new_bus : BusStore) (history : List Traced) (pass : PassNo) (stands : AllStand life old timers bus history) where
  pub start_is_done : (done : DoneResult) → end_refusal history pass (start_not_pending history pass) ≡ None →
      StandButHeld new_life new_contexts new_timers new_bus old.held (history ++ plain_entry pass (calls.StartDone done) replies.Done no_mark ∷ []) →
      LivesFollow new_life new_contexts new_timers new_bus history (plain_entry pass (calls.StartDone done) replies.Done no_mark)
  start_is_done done free stand =
      let entry = plain_entry pass (calls.StartDone done) replies.Done no_mark in
      record {
        answered = sym (ap (λ r. unless_refused r replies.Done) free);
        all = all_stand new_life new_contexts new_timers new_bus old.held (history ++ entry ∷ []) stand (stands.stores.contexts.held ∙ sym (lasting_same held_kind history entry refl (λ h. refl)));
      }

  pub stop_is_done : end_refusal history pass (stop_not_pending history pass) ≡ None →
      StandButHeld new_life new_contexts new_timers new_bus old.held (history ++ plain_entry pass calls.StopDone replies.Done no_mark ∷ []) →
      LivesFollow new_life new_contexts new_timers new_bus history (plain_entry pass calls.StopDone replies.Done no_mark)
  stop_is_done free stand =
      let entry = plain_entry pass calls.StopDone replies.Done no_mark in
      record {
        answered = sym (ap (λ r. unless_refused r replies.Done) free);
        all = all_stand new_life new_contexts new_timers new_bus old.held (history ++ entry ∷ []) stand (stands.stores.contexts.held ∙ sym (lasting_same held_kind history entry refl (λ h. refl)));
      }

  -- the task that the pass holds ends with the entry
  pub task_is_finished : (end : End) (states : List (List ℤ)) (last : ContextStore) → not_holding history pass ≡ None →
      StandButHeld new_life new_contexts new_timers new_bus old.held (history ++ entry_of pass (calls.Finish end) replies.Done states no_mark ∷ []) →
      last ≡ record new_contexts { held = filter (λ (h : Held). not (h.pass.0 == pass.0)) new_contexts.held; room = last.room } →
      LivesFollow new_life last new_timers new_bus history (entry_of pass (calls.Finish end) replies.Done states no_mark)
  task_is_finished end states last free stand is_last =
      let entry = entry_of pass (calls.Finish end) replies.Done states no_mark in
      let others : List Held → List Held = filter (λ (h : Held). not (h.pass.0 == pass.0)) in
      let left : StandButHeld new_life last new_timers new_bus (others old.held) (history ++ entry ∷ []) = record {
        stored = stand.stored;
        made = ap (λ (s : ContextStore). s.made) is_last ∙ stand.made;
        closings = λ id. ap (λ (s : ContextStore). closed_in id s.closings) is_last ∙ stand.closings id;
        held = ap (λ (s : ContextStore). s.held) is_last ∙ ap others stand.held;
        pools = ap (λ (s : ContextStore). s.pools) is_last ∙ stand.pools;
        waiting = ap (λ (s : ContextStore). s.waiting) is_last ∙ stand.waiting;
        timers = stand.timers;
        bus = stand.bus;
        lives = stand.lives;
      } in
      record {
        answered = sym (ap (λ r. unless_refused r replies.Done) free);
        all = all_stand new_life last new_timers new_bus (others old.held) (history ++ entry ∷ []) left (ap others stands.stores.contexts.held ∙ sym (lasting-append held_kind history entry ∙ append-nil _));
      }
