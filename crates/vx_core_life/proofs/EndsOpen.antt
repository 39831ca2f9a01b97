-- Entries that may end a start or a stop, and close no context.
use Rattle.std.proofs.Common.{◌≡◌, List, [], ◌∷◌, ◌++◌, refl, ap, ◌∙◌}
use Rattle.std.specs.Prelude.{true, not, ◌&&◌, cond, filter, None}
use Rattle.vx_timer.specs.declared.timers.Timer.{Timer}
use Rattle.vx_call.specs.declared.call.Call.{Call}
use Rattle.vx_call.specs.declared.call.Call.TheVariants as calls
use Rattle.vx_call.specs.declared.history.Mark.{Mark}
use Rattle.vx_call.specs.declared.history.Traced.{Traced}
use Rattle.vx_call.specs.History.{made_by, is_accepted}
use Rattle.vx_call.specs.Built.{is_stored, AreStored}
use Rattle.vx_call.specs.Closings.{closing_by, open_contexts}
use Rattle.vx_call.specs.Held.{is_of_context}
use Rattle.vx_call.specs.Homes.{heard}
use Rattle.vx_call.specs.Items.{item_by, item_kind, outcome_tasks, placed}
use Rattle.vx_call.specs.Jobs.{job_made, job_kind, jobs, ends_job}
use Rattle.vx_call.specs.Lives.{ready_outcomes, jobs_done, deploy_ends, undeploy_ends, stops, open_ones, life_tasks, ends_and_stops}
use Rattle.vx_call.specs.Queued.{Queued}
use Rattle.vx_call.specs.Requests.{Open, unsettled, settles, closes_asker}
use Rattle.vx_call.specs.Askers.{is_asked_by}
use Rattle.vx_call.specs.Settled.{Settled, no_handlers, settlements, settled_made, dropped_kind, drop_all, dropped_with_context, dropped_with_connection}
use Rattle.vx_call.proofs.Closing.{may_close_one, IsClosingCall, closing_call, IsClosingOne, closing_one, closing_too}
use Rattle.vx_call.proofs.Each.{every}
use Rattle.vx_call.proofs.Filters.{filter_no}
use Rattle.vx_call.proofs.KeepsOpen.{KeepsOpen}
use Rattle.vx_call.proofs.Lasting.{and_false}
use Rattle.vx_call.proofs.Stored.{none_ever}
use Rattle.vx_context.specs.Stores.{ContextStore}
use Rattle.vx_context.proofs.Items.{LeavesItems}
use Rattle.vx_bus_store.specs.Stores.{BusStore}
use Rattle.vx_bus_store.specs.Stands.{StoresStand}
use Rattle.vx_bus_store.proofs.Frames.{LeavesBus, consumer_kept, numbers_left}
use Rattle.vx_bus_store.proofs.Kept.{mailbox_kept, task_kept, item_kept}
use Rattle.vx_bus_store.proofs.KeptRequests.{request_kept, settles_none, asker_open}
use Rattle.vx_bus_closing.specs.Closing.{BusCloses}
use Rattle.vx_life_rows.specs.Moves.{ends_lives}
use Rattle.vx_core_life.specs.Ending.{MayEnd}
use Rattle.vx_core_life.proofs.RowMoving.{moves_none}

-- ## The calls

pub may_close : (call : Call) → ends_lives call ≡ true → may_close_one call ≡ true
may_close (calls.StartDone result) ends = refl
may_close calls.StopDone ends = refl
may_close (calls.Finish end) ends = refl
may_close _ ends = absurd cc

is_kept : (call : Call) → ends_lives call ≡ true → is_stored call ≡ true
is_kept (calls.StartDone result) ends = refl
is_kept calls.StopDone ends = refl
is_kept (calls.Finish end) ends = refl
is_kept _ ends = absurd cc

-- no blocking code was handed to a context
none_handed : (history : List Traced) (call : Call) → is_stored call ≡ true → job_made history call ≡ []
none_handed history (calls.Blocking context ordered once) stored = absurd cc
none_handed history _ stored = refl

no_jobs : (history : List Traced) → AreStored history → jobs history ≡ []
no_jobs = none_ever job_kind (λ history new rest stored. none_handed history new.entry.call stored)

-- so all that it makes ready comes as verticles start and stop
life_items : (history : List Traced) (new : Traced) (call : Call) → ends_lives call ≡ true → AreStored history → item_by history new call ≡ placed history 0 (life_tasks history new)
life_items history new (calls.StartDone result) ends stored = refl
life_items history new calls.StopDone ends stored = refl
life_items history new (calls.Finish end) ends stored =
    ap (λ (all : List Queued). placed history 0 (open_ones (open_contexts history) (jobs_done end (filter (ends_job history new.entry.pass (calls.Finish end)) all)) ++ life_tasks history new)) (no_jobs history stored)
life_items history new _ ends stored = absurd cc

-- ## What the entry leaves

module _ (history : List Traced) (new : Traced) (may : MayEnd new) (none : closing_by history new.entry.pass new.entry.call ≡ None) where
  abbrev how : IsClosingCall history new.entry.pass new.entry.call
  how = closing_call history new.entry.pass new.entry.call (closing_too new.entry.call (may_close new.entry.call may.call))

  abbrev one : IsClosingOne history new.entry.pass new.entry.call
  one = closing_one history new.entry.pass new.entry.call (may_close new.entry.call may.call)

  pub keeps_open : KeepsOpen history new
  keeps_open = record {
    stored = record { call = is_kept new.entry.call may.call; mark = may.mark };
    closing = none;
    closes = λ context. one.closes context ∙ ap (is_of_context context) none;
  }

  no_more : {A : Type 0} (made : List A) → made ≡ [] → cond (is_accepted new.entry.reply) made [] ≡ []
  no_more made is = ap (λ b. cond b made []) may.accepted ∙ is

  settles_nothing : settled_made history new.entry.pass new.entry.call new.mark.deed ≡ []
  settles_nothing =
      one.settled new.mark.deed
      ∙ ap (λ (requests : List Open). settlements history no_handlers (filter (λ (request : Open). not (closes_asker history new.entry.pass new.entry.call request.asker)) requests))
      (filter_no (settles history new.entry.pass new.entry.call new.mark.deed) (unsettled history)
      (every _ (λ request. settles_none history new request keeps_open (how.settles new.mark.deed request)) (unsettled history)))

  drops_nothing : dropped_kind.made history new ≡ []
  drops_nothing =
      ap (λ (mark : Mark). drop_all history (dropped_with_context history new.entry.pass new.entry.call ++ dropped_with_connection history new mark.shut)) may.mark
      ∙ ap (λ requests. drop_all history (requests ++ []))
      (how.dropped ∙ filter_no (λ (request : Open). closes_asker history new.entry.pass new.entry.call request.asker) (unsettled history) (every _ (λ request. asker_open history new request.asker keeps_open) (unsettled history)))

  leaves_items : LeavesItems history new
  leaves_items = record { contexts = no_more _ how.contexts; queued = no_more _ how.queued }

  leaves_bus : LeavesBus history new
  leaves_bus = record {
    consumers = record { registered = no_more _ (how.registers new.mark.deed); kept = λ c. consumer_kept history new c keeps_open (how.named new.mark.deed c.id) };
    numbers = numbers_left history new (λ consumer. mailbox_kept history new consumer keeps_open (how.named new.mark.deed consumer.id) (how.moves consumer new.mark new.entry.reply));
    choices = no_more _ (how.chooses new.mark.deed);
    tasks = record {
      made = no_more _ (one.tasks new.mark.deed ∙ ap (λ (ended : List Settled). outcome_tasks (heard ended)) settles_nothing);
      kept = λ task. task_kept history new task keeps_open (one.task new.entry.reply task);
    };
    requests = record {
      opened = no_more _ (ap (filter (λ (request : Open). not (is_asked_by new.mark.shut request.asker))) (how.asks new.mark.deed));
      settled = λ request. request_kept history new request keeps_open (how.settles new.mark.deed request);
    };
    settled = no_more _ settles_nothing;
    dropped = no_more _ drops_nothing;
    given = no_more _ (how.gives new.entry.reply);
    codecs = record { added = no_more _ how.codecs; kept = λ codec. ap (λ b. is_accepted new.entry.reply && b) (how.codecs_kept codec) ∙ and_false (is_accepted new.entry.reply) };
    rules = record { added = no_more _ how.rules; kept = λ rule. ap (λ b. is_accepted new.entry.reply && b) (how.rules_kept rule) ∙ and_false (is_accepted new.entry.reply) };
  }

  -- it makes ready what comes as deployments are brought on
  made_ready : AreStored history → made_by item_kind history new ≡ placed history 0 (ends_and_stops history new)
  made_ready stored =
      ap (λ b. cond b (item_by history new new.entry.call) []) may.accepted
      ∙ life_items history new new.entry.call may.call stored
      ∙ ap (λ (ended : List Settled). placed history 0 (open_ones (open_contexts (history ++ new ∷ [])) (ready_outcomes (heard ended) ++ (deploy_ends history new ++ (undeploy_ends history new ++ stops history new))))) settles_nothing

  -- it moves no more than that
  pub open_stands : (contexts : ContextStore) (timers : List Timer) (bus : BusStore) → StoresStand contexts timers bus history → BusCloses contexts timers bus history new 0
  open_stands contexts timers bus stands =
      moves_none history new contexts timers bus
      (record { keeps = keeps_open; bus = leaves_bus; items = leaves_items; pools = no_more _ how.pools; made = made_ready stands.stored; kept = λ w. item_kept history new w keeps_open (one.item new.entry.reply w.task) }) stands
