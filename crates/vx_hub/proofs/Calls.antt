-- From the row of a call to the hub's promise.
use Rattle.std.proofs.Common.{◌≡◌, ℕ, ◌+◌, ◌-◌, ◌<◌, ◌^◌, min, max, List, [], ◌∷◌, ◌++◌, length, refl, ap, sym, ◌∙◌, subst, rules, tests}
use Rattle.std.specs.Prelude.{ℤ, Bool, true, false, cond, nat_le, fold, is_some, find, None, Some}
use Rattle.std.specs.Option.{option_or}
use Rattle.std.proofs.lemmas.List.Sums.{fold-append}
use Rattle.std.proofs.Math.Logic.{∥∥₁_map}
use Rattle.vx_data.specs.declared.ids.ContextId.{ContextId}
use Rattle.vx_data.specs.declared.ids.EntryNo.{EntryNo}
use Rattle.vx_data.specs.declared.ids.PassNo.{PassNo}
use Rattle.vx_message.specs.declared.Context.{Context}
use Rattle.vx_timer.specs.declared.timers.Timer.{Timer}
use Rattle.vx_call.specs.declared.call.Call.{Call}
use Rattle.vx_call.specs.declared.call.Call.TheVariants as calls
use Rattle.vx_call.specs.declared.reply.Refusal.{Refusal}
use Rattle.vx_call.specs.declared.reply.Refusal.TheVariants as refusals
use Rattle.vx_call.specs.declared.reply.Reply.{Reply}
use Rattle.vx_call.specs.declared.reply.Reply.TheVariants as replies
use Rattle.vx_call.specs.declared.history.Consumer.{Consumer}
use Rattle.vx_call.specs.declared.history.Mark.{Mark}
use Rattle.vx_call.specs.declared.history.Traced.{Traced}
use Rattle.vx_call.specs.History.{is_accepted, made_by, ended_by, entry_of, plain_entry, no_mark, lasting}
use Rattle.vx_call.specs.Built.{is_stored, AreStored}
use Rattle.vx_call.specs.Contexts.{context_kind, contexts, is_context_of}
use Rattle.vx_call.specs.Effects.{marked}
use Rattle.vx_call.specs.Given.{Asked, asked_kind}
use Rattle.vx_call.specs.Owners.{context_owning}
use Rattle.vx_call.specs.Passes.{pass_made, passes}
use Rattle.vx_call.specs.Registered.{registered_kind, registered}
use Rattle.vx_call.specs.States.{states_due}
use Rattle.vx_call.specs.Stopping.{stop_made}
use Rattle.vx_call.specs.Time.{moment_kind, moment_made, now}
use Rattle.vx_call.specs.Refusals.{unless_refused, refused_if, is_spent, shut}
use Rattle.vx_call.specs.Loops.{sets_loops}
use Rattle.vx_call.specs.Machine.{row, answer, IsLegal, MayFollow}
use Rattle.vx_call.specs.Plain.{is_plain}
use Rattle.vx_call.proofs.Each.{Each}
use Rattle.vx_call.proofs.Quiet.{is_loud}
use Rattle.vx_call.proofs.Stored.{stored_more, no_mark_stored}
use Rattle.vx_call.proofs.KeepsOpen.{KeepsOpen, call_keeps}
use Rattle.vx_call.proofs.Dropped.{none_dropped}
use Rattle.vx_call.proofs.Lasting.{lasting_same, lasting_more, and_false}
use Rattle.vx_call.proofs.Legal.{legal_more}
use Rattle.vx_call.proofs.Refused.{refused_unchanged}
use Rattle.vx_life.specs.Stores.{LifeStore}
use Rattle.vx_life.specs.Stands.{LifeStands}
use Rattle.vx_life_rows.specs.Moves.{is_deploy}
use Rattle.vx_life_rows.proofs.RowStill.{quiet_still, life_still, life_refused}
use Rattle.vx_context.specs.Stores.{ContextStore}
use Rattle.vx_context.specs.Stands.{ContextsFollow}
use Rattle.vx_bus_store.specs.Stores.{BusStore}
use Rattle.vx_bus_store.specs.Stands.{Follows, TimersStand, BusStands}
use Rattle.vx_bus_store.proofs.Frames.{LeavesBus, consumer_kept, contexts_left, timers_left, numbers_left, bus_left, refused_stores_with}
use Rattle.vx_bus_store.proofs.KeptRequests.{request_kept}
use Rattle.vx_bus_store.proofs.Kept.{mailbox_kept, task_kept}
use Rattle.vx_core_bus.specs.Calls.{is_bus_call}
use Rattle.vx_core_life.specs.Calls.{is_life_call}
use Rattle.vx_core_life.specs.Stands as lives
use Rattle.vx_core_tasks.specs.Named.{NameContexts}
use Rattle.vx_core_tasks.proofs.Named.{named_more}
use Rattle.vx_instances.specs.Instances.{InstancesStand}
use Rattle.vx_instances.proofs.Rows.{refused_same}
use Rattle.vx_hub.specs.Counts.{Counted, with_entry}
use Rattle.vx_hub.specs.Stores.{HubStore}
use Rattle.vx_hub.specs.Stands.{PartsStand, PartsFollow, HubStands, StandsFor, Meets, IsOfHistory}
use Rattle.vx_hub.proofs.Counting.{counted_more, entries_of}
use Rattle.vx_hub.proofs.RowNewPass.{passes_left, more_passes}

-- ## Passes and time

either : {A : Type 0} (b : Bool) (x : A) → cond b x x ≡ x
either true x = refl
either false x = refl

-- the calls that make no pass and tell no time
abbrev pub keeps_time : Call → Bool
keeps_time calls.NewPass = false
keeps_time (calls.Advance moment) = false
keeps_time _ = true

no_pass : (history : List Traced) (call : Call) → keeps_time call ≡ true → pass_made history call ≡ []
no_pass history calls.NewPass keeps = cc
no_pass history _ keeps = refl

no_moment : (call : Call) → keeps_time call ≡ true → moment_made call ≡ []
no_moment (calls.Advance moment) keeps = cc
no_moment _ keeps = refl

pub bus_keeps_time : (call : Call) → is_bus_call call ≡ true → keeps_time call ≡ true
bus_keeps_time calls.NewPass own = cc
bus_keeps_time (calls.Advance moment) own = cc
bus_keeps_time _ own = refl

pub life_keeps_time : (call : Call) → is_life_call call ≡ true → keeps_time call ≡ true
life_keeps_time calls.NewPass own = cc
life_keeps_time (calls.Advance moment) own = cc
life_keeps_time _ own = refl

pub moment_stays : (history : List Traced) (new : Traced) (moment : ℕ) → ended_by moment_kind history new moment ≡ false
moment_stays history new moment = and_false (is_accepted new.entry.reply)

pub now_left : (history : List Traced) (new : Traced) → made_by moment_kind history new ≡ [] → now (history ++ new ∷ []) ≡ now history
now_left history new none = ap (fold max 0) (lasting_same moment_kind history new none (moment_stays history new))

-- a row that moves the stores alone
pub keeping_time : (pass_count moment : ℕ) (life : LifeStore) (contexts : ContextStore) (timers : List Timer) (bus : BusStore) (history : List Traced) (new : Traced) → keeps_time new.entry.call ≡ true → new.mark ≡ no_mark →
    pass_count ≡ passes history → moment ≡ now history → NameContexts history → lives.LivesFollow life contexts timers bus history new → PartsFollow pass_count moment life contexts timers bus history new
keeping_time pass_count moment life contexts timers bus history new keeps unmarked counted told named follows =
    let ok = is_accepted new.entry.reply in
    record {
      answered = follows.answered;
      parts = record {
        passes = counted ∙ sym (passes_left history new (ap (λ ps. cond ok ps []) (no_pass history new.entry.call keeps) ∙ either ok []));
        now = told ∙ sym (now_left history new (ap (λ ms. cond ok ms []) (no_moment new.entry.call keeps) ∙ either ok []));
        named = named_more history new unmarked follows.answered named;
        all = follows.all;
      };
    }

-- ## Rows that leave the lives of verticles

-- the calls that may move them
abbrev pub moves_lives : Call → Bool
moves_lives (calls.SetLoops count) = true
moves_lives (calls.Deploy worker pool tell count) = true
moves_lives (calls.Undeploy deployment tell) = true
moves_lives (calls.StartDone result) = true
moves_lives calls.StopDone = true
moves_lives calls.Close = true
moves_lives (calls.Take lane) = true
moves_lives (calls.Finish end) = true
moves_lives _ = false

record IsCalm (call : Call) (reply : Reply) : Type 0 where
  pub quiet : is_loud call ≡ false
  pub deploys : is_deploy call ≡ false
  pub loops : sets_loops call ≡ false
  pub stops : stop_made call reply ≡ []

calm : (call : Call) (reply : Reply) → moves_lives call ≡ false → IsCalm call reply
calm (calls.SetLoops count) reply still = absurd cc
calm (calls.Deploy worker pool tell count) reply still = absurd cc
calm (calls.Undeploy deployment tell) reply still = absurd cc
calm (calls.StartDone result) reply still = absurd cc
calm calls.StopDone reply still = absurd cc
calm calls.Close reply still = absurd cc
calm (calls.Take lane) reply still = absurd cc
calm (calls.Finish end) reply still = absurd cc
calm _ reply still = record { quiet = refl; deploys = refl; loops = refl; stops = refl }

pub bus_moves_none : (call : Call) → is_bus_call call ≡ true → moves_lives call ≡ false
bus_moves_none (calls.SetLoops count) own = absurd cc
bus_moves_none (calls.Deploy worker pool tell count) own = absurd cc
bus_moves_none (calls.Undeploy deployment tell) own = absurd cc
bus_moves_none (calls.StartDone result) own = absurd cc
bus_moves_none calls.StopDone own = absurd cc
bus_moves_none calls.Close own = absurd cc
bus_moves_none (calls.Take lane) own = absurd cc
bus_moves_none (calls.Finish end) own = absurd cc
bus_moves_none _ own = refl

-- a row of the bus leaves them
pub with_lives : (life : LifeStore) (contexts : ContextStore) (timers : List Timer) (bus : BusStore) (history : List Traced) (pass : PassNo) (call : Call) (reply : Reply) → moves_lives call ≡ false → LifeStands life history →
    Follows contexts timers bus history pass call reply → lives.LivesFollow life contexts timers bus history (plain_entry pass call reply no_mark)
with_lives life contexts timers bus history pass call reply still stands follows =
    let entry = plain_entry pass call reply no_mark in
    let is = calm call reply still in
    record {
      answered = follows.answered;
      all = record { stores = follows.stores; lives = life_still history entry (quiet_still history entry is.quiet is.deploys is.loops is.stops) life stands };
    }

-- ## Rows that move the contexts alone

-- an entry of one of them leaves all that the bus keeps
made_pass : (history : List Traced) (pass : PassNo) (reply : Reply) → LeavesBus history (plain_entry pass calls.NewPass reply no_mark)
made_pass history pass reply =
    let entry = plain_entry pass calls.NewPass reply no_mark in
    let keeps : KeepsOpen history entry = call_keeps history entry (record { call = refl; mark = refl }) refl in
    record {
      consumers = record { registered = either (is_accepted reply) []; kept = λ c. consumer_kept history entry c keeps refl };
      numbers = numbers_left history entry (λ c. mailbox_kept history entry c keeps refl refl);
      choices = either (is_accepted reply) [];
      tasks = record { made = either (is_accepted reply) []; kept = λ t. task_kept history entry t keeps refl };
      requests = record { opened = either (is_accepted reply) []; settled = λ r. request_kept history entry r keeps refl };
      settled = either (is_accepted reply) [];
      dropped = none_dropped history entry keeps;
      given = either (is_accepted reply) [];
      codecs = record { added = either (is_accepted reply) []; kept = λ c. and_false (is_accepted reply) };
      rules = record { added = either (is_accepted reply) []; kept = λ r. and_false (is_accepted reply) };
    }

made_context : (history : List Traced) (pass : PassNo) (reply : Reply) → LeavesBus history (plain_entry pass calls.NewContext reply no_mark)
made_context history pass reply =
    let entry = plain_entry pass calls.NewContext reply no_mark in
    let keeps : KeepsOpen history entry = call_keeps history entry (record { call = refl; mark = refl }) refl in
    record {
      consumers = record { registered = either (is_accepted reply) []; kept = λ c. consumer_kept history entry c keeps refl };
      numbers = numbers_left history entry (λ c. mailbox_kept history entry c keeps refl refl);
      choices = either (is_accepted reply) [];
      tasks = record { made = either (is_accepted reply) []; kept = λ t. task_kept history entry t keeps refl };
      requests = record { opened = either (is_accepted reply) []; settled = λ r. request_kept history entry r keeps refl };
      settled = either (is_accepted reply) [];
      dropped = none_dropped history entry keeps;
      given = either (is_accepted reply) [];
      codecs = record { added = either (is_accepted reply) []; kept = λ c. and_false (is_accepted reply) };
      rules = record { added = either (is_accepted reply) []; kept = λ r. and_false (is_accepted reply) };
    }

-- where the bus is left, the contexts alone say what the stores are
leaving_bus : (contexts : ContextStore) (timers : List Timer) (bus : BusStore) (history : List Traced) (pass : PassNo) (call : Call) (reply : Reply) → is_stored call ≡ true → LeavesBus history (plain_entry pass call reply no_mark) →
    AreStored history → TimersStand timers history → BusStands bus history → ContextsFollow contexts history pass call reply → Follows contexts timers bus history pass call reply
leaving_bus contexts timers bus history pass call reply is all stored timed stands follows =
    let entry = plain_entry pass call reply no_mark in
    record {
      answered = follows.answered;
      stores = record {
        stored = stored_more history entry stored (record { call = is; mark = refl });
        contexts = follows.stands;
        timers = timers_left timers history entry all.requests timed;
        bus = bus_left bus history entry stored all stands;
      };
    }

-- a new context
pub makes_outside : (pass_count moment : ℕ) (life : LifeStore) (old contexts : ContextStore) (timers : List Timer) (bus : BusStore) (history : List Traced) (pass : PassNo) (reply : Reply) →
    PartsStand pass_count moment life old timers bus history → ContextsFollow contexts history pass calls.NewContext reply →
    PartsFollow pass_count moment life contexts timers bus history (plain_entry pass calls.NewContext reply no_mark)
makes_outside pass_count moment life old contexts timers bus history pass reply stands follows =
    let stores = stands.all.stores in
    keeping_time pass_count moment life contexts timers bus history (plain_entry pass calls.NewContext reply no_mark) refl refl stands.passes stands.now stands.named
    (with_lives life contexts timers bus history pass calls.NewContext reply refl stands.all.lives
    (leaving_bus contexts timers bus history pass calls.NewContext reply refl (made_context history pass reply) stores.stored stores.timers stores.bus follows))

-- a new pass
pub makes_pass : (old_count new_count moment : ℕ) (life : LifeStore) (contexts : ContextStore) (timers : List Timer) (bus : BusStore) (history : List Traced) (pass : PassNo) (reply : Reply) →
    PartsStand old_count moment life contexts timers bus history → length history < 2 ^ 48 → reply ≡ replies.Pass (record { 0 = old_count }) → new_count ≡ min (old_count + 1) (2 ^ 64 - 1) →
    PartsFollow new_count moment life contexts timers bus history (plain_entry pass calls.NewPass reply no_mark)
makes_pass old_count new_count moment life contexts timers bus history pass reply stands small is_reply is_new =
    let made = replies.Pass (record { 0 = old_count }) in
    let entry = plain_entry pass calls.NewPass made no_mark in
    let stores = stands.all.stores in
    let P : Reply → Type 0 = λ r. PartsFollow new_count moment life contexts timers bus history (plain_entry pass calls.NewPass r no_mark) in
    let follows = with_lives life contexts timers bus history pass calls.NewPass made refl stands.all.lives
    (leaving_bus contexts timers bus history pass calls.NewPass made refl (made_pass history pass made) stores.stored stores.timers stores.bus
    (record {
      answered = ap (λ n. replies.Pass (record { 0 = n })) stands.passes;
      stands = contexts_left contexts history entry
          (record { closings = refl; items = record { contexts = refl; queued = refl }; pools = refl; held = refl; finished = λ h. refl; waiting = record { none = refl; kept = λ w. refl } }) stores.contexts;
    })) in
    subst P (sym is_reply) (record {
      answered = follows.answered;
      parts = record {
        passes = more_passes history pass (record { 0 = old_count }) old_count new_count stands.passes small is_new;
        now = stands.now ∙ sym (now_left history entry refl);
        named = named_more history entry refl follows.answered stands.named;
        all = follows.all;
      };
    })

-- the time that an Advance tells
pub tells_time : (pass_count old_moment new_moment moment : ℕ) (life : LifeStore) (old contexts : ContextStore) (old_timers timers : List Timer) (old_bus bus : BusStore) (history : List Traced) (pass : PassNo) (reply : Reply) →
    PartsStand pass_count old_moment life old old_timers old_bus history → new_moment ≡ max old_moment moment → Follows contexts timers bus history pass (calls.Advance moment) reply →
    PartsFollow pass_count new_moment life contexts timers bus history (plain_entry pass (calls.Advance moment) reply no_mark)
tells_time pass_count old_moment new_moment moment life old contexts old_timers timers old_bus bus history pass reply stands is_new moved =
    let entry = plain_entry pass (calls.Advance moment) reply no_mark in
    let follows = with_lives life contexts timers bus history pass (calls.Advance moment) reply refl stands.all.lives moved in
    let accepted : is_accepted reply ≡ true = ap is_accepted follows.answered in
    record {
      answered = follows.answered;
      parts = record {
        passes = stands.passes ∙ sym (passes_left history entry (either (is_accepted reply) []));
        now = is_new ∙ ap (λ m. max m moment) stands.now
            ∙ sym (ap (fold max 0) (lasting_more moment_kind history entry (moment_stays history entry) ∙ ap (λ b. lasting moment_kind history ++ cond b (moment ∷ []) []) accepted)
            ∙ fold-append max 0 (lasting moment_kind history) (moment ∷ []));
        named = named_more history entry refl follows.answered stands.named;
        all = follows.all;
      };
    }

-- ## Plain calls

-- the calls that the hub makes itself, beside Take and Finish
abbrev is_own : Call → Bool
is_own calls.NewPass = true
is_own calls.NewContext = true
is_own (calls.Advance moment) = true
is_own _ = false

not_own : (call : Call) → (call ≡ calls.NewPass → ⊥) → (call ≡ calls.NewContext → ⊥) → ((moment : ℕ) → call ≡ calls.Advance moment → ⊥) → is_own call ≡ false
not_own calls.NewPass no_pass no_context no_time = absurd (no_pass refl)
not_own calls.NewContext no_pass no_context no_time = absurd (no_context refl)
not_own (calls.Advance moment) no_pass no_context no_time = absurd (no_time moment refl)
not_own _ no_pass no_context no_time = refl

by_groups : (call : Call) → is_plain call ≡ true → is_stored call ≡ true → is_own call ≡ false → is_life_call call ≡ false → is_bus_call call ≡ true
by_groups (calls.Request context address body options timeout (Some argument)) plain stored own life = absurd cc
by_groups (calls.Request context address body options timeout None) plain stored own life = refl
by_groups (calls.Deploy worker pool tell count) plain stored own life = absurd cc
by_groups (calls.Take lane) plain stored own life = absurd cc
by_groups (calls.Finish end) plain stored own life = absurd cc
by_groups calls.NewPass plain stored own life = absurd cc
by_groups calls.NewContext plain stored own life = absurd cc
by_groups (calls.Advance moment) plain stored own life = absurd cc
by_groups (calls.SetLoops count) plain stored own life = absurd cc
by_groups (calls.AddPool name size) plain stored own life = absurd cc
by_groups (calls.Undeploy deployment tell) plain stored own life = absurd cc
by_groups (calls.StartDone result) plain stored own life = absurd cc
by_groups calls.StopDone plain stored own life = absurd cc
by_groups calls.Close plain stored own life = absurd cc
by_groups (calls.SetTimer context delay periodic) plain stored own life = absurd cc
by_groups (calls.CancelTimer id) plain stored own life = absurd cc
by_groups (calls.RunOn context once) plain stored own life = absurd cc
by_groups (calls.Blocking context ordered once) plain stored own life = absurd cc
by_groups calls.NewPromise plain stored own life = absurd cc
by_groups (calls.Complete promise value) plain stored own life = absurd cc
by_groups (calls.FailPromise promise code) plain stored own life = absurd cc
by_groups (calls.Compose way parts) plain stored own life = absurd cc
by_groups (calls.Await context promise) plain stored own life = absurd cc
by_groups (calls.Listen context host port) plain stored own life = absurd cc
by_groups (calls.Accepted server) plain stored own life = absurd cc
by_groups (calls.OpenConn permits) plain stored own life = absurd cc
by_groups (calls.FrameIn conn frame) plain stored own life = absurd cc
by_groups (calls.TakeOut conn) plain stored own life = absurd cc
by_groups (calls.CloseConn conn) plain stored own life = absurd cc
by_groups _ plain stored own life = refl

-- a plain call that makes no pass, no context and tells no time is one of verticles or the bus's
pub is_of_core : (call : Call) → is_plain call ≡ true → is_stored call ≡ true → (call ≡ calls.NewPass → ⊥) → (call ≡ calls.NewContext → ⊥) → ((moment : ℕ) → call ≡ calls.Advance moment → ⊥) → is_life_call call ≡ false → is_bus_call call ≡ true
is_of_core call plain stored no_pass no_context no_time life = by_groups call plain stored (not_own call no_pass no_context no_time) life

-- ... and keeps the passes and the time
pub core_keeps_time : (call : Call) → (is_life_call call ≡ false → is_bus_call call ≡ true) → keeps_time call ≡ true
core_keeps_time call own =
    elim (is_life_call call) as (λ b. is_life_call call ≡ b → (b ≡ false → is_bus_call call ≡ true) → keeps_time call ≡ true) [
      | true ↦ λ is other. life_keeps_time call is
      | false ↦ λ is other. bus_keeps_time call (other refl)
    ] refl own

-- ## One more entry

below : (n m : ℕ) → m < n → nat_le n m ≡ false
below n m lt = search (rules, tests)

pub is_unspent : (history : List Traced) → length history < 2 ^ 48 → is_spent history ≡ false
is_unspent history short = below (2 ^ 48) (length history) short

-- where the history is not spent and the hub not closed, the row's reply is the machine's
pub row_answers : (history : List Traced) (pass : PassNo) (call : Call) (reply : Reply) → length history < 2 ^ 48 → shut history call ≡ None → reply ≡ row history pass call → reply ≡ answer history pass call
row_answers history pass call reply short opened follows =
    let unspent = is_unspent history short in
    follows
    ∙ ap (λ o. unless_refused o (row history pass call)) (sym opened)
    ∙ ap (λ b. unless_refused (option_or (refused_if b refusals.Spent) (shut history call)) (row history pass call)) (sym unspent)

-- where it is closed, the refusal is
shut_answers : (history : List Traced) (pass : PassNo) (call : Call) (refusal : Refusal) → length history < 2 ^ 48 → shut history call ≡ Some refusal → replies.Refused refusal ≡ answer history pass call
shut_answers history pass call refusal short closed =
    ap (λ o. unless_refused o (row history pass call)) (sym closed)
    ∙ ap (λ b. unless_refused (option_or (refused_if b refusals.Spent) (shut history call)) (row history pass call)) (sym (is_unspent history short))

-- an entry goes on with a history: it may follow, and the hub's parts are those of the history with it
pub record GoesOn (new : HubStore) (history : List Traced) (entry : Traced) : Type 0 where
  pub may : MayFollow history entry
  pub parts : HubStands new (history ++ entry ∷ [])

-- so does the entry of a call, whatever history the hub's parts are those of
abbrev pub Goes : HubStore → HubStore → PassNo → Call → Reply → List (List ℤ) → Type 0
Goes old new pass call reply states =
    (history : List Traced) → HubStands old history → IsLegal history → pass.0 < passes history → GoesOn new history (entry_of pass call reply states no_mark)

-- what a row promises in each history that the parts are those of
abbrev pub Rows : HubStore → HubStore → PassNo → Call → Reply → List (List ℤ) → Type 0
Rows old new pass call reply states =
    (history : List Traced) → PartsStand old.passes old.now old.life old.contexts old.timers old.bus history → IsLegal history → old.counts.entries ≡ length history →
    PartsFollow new.passes new.now new.life new.contexts new.timers new.bus history (entry_of pass call reply states no_mark)

-- the hub is not closed, or the call is made then too; and these are as many states as go with it
abbrev pub Fits : HubStore → PassNo → Call → List (List ℤ) → Type 0
Fits old pass call states = (history : List Traced) → HubStands old history → (shut history call ≡ None) × (length states ≡ states_due history pass call)

pub short_of : (old : HubStore) (history : List Traced) → HubStands old history → old.counts.entries < 2 ^ 48 → length history < 2 ^ 48
short_of old history stands small = let P : ℕ → Type 0 = λ n. n < 2 ^ 48 in subst P (entries_of old history stands) small

pub goes : (old new : HubStore) (pass : PassNo) (call : Call) (reply : Reply) (states : List (List ℤ)) → is_stored call ≡ true → old.counts.entries < 2 ^ 48 → new.counts ≡ with_entry old.counts call reply →
    Fits old pass call states → Rows old new pass call reply states → Goes old new pass call reply states
goes old new pass call reply states is small more fits rows = λ history stands legal known.
    let short = short_of old history stands small in
    let follows = rows history stands.parts legal (entries_of old history stands) in
    let fit = fits history stands in
    record {
      may = record {
        known = known;
        answered = row_answers history pass call reply short fit.0 follows.answered;
        room = short;
        stated = fit.1;
        mark = sym (no_mark_stored history pass call reply stands.parts.all.stores.stored is);
      };
      parts = record { counts = more ∙ ap (λ counts. with_entry counts call reply) stands.counts ∙ sym (counted_more history pass call reply states); parts = follows.parts };
    }

-- ## Calls that are refused since the hub is closed

-- a refused call names no context
named_refused : (history : List Traced) (new : Traced) → is_accepted new.entry.reply ≡ false → NameContexts history → NameContexts (history ++ new ∷ [])
named_refused history new refused named =
    let after = history ++ new ∷ [] in
    let Owned : List Context → Consumer → Type 0 = λ made consumer. (context : ContextId) → context_owning consumer.owner ≡ Some context → is_some (find (is_context_of context) made) ≡ true in
    let Asker : List Context → Asked → Type 0 = λ made asked. is_some (find (is_context_of asked.asker) made) ≡ true in
    let P : List Context → Type 0 = λ made. Each (Owned made) (registered history) in
    let P2 : List Consumer → Type 0 = λ cs. Each (Owned (contexts after)) cs in
    let Q : List Context → Type 0 = λ made. Each (Asker made) (lasting asked_kind history) in
    let Q2 : List Asked → Type 0 = λ all. Each (Asker (contexts after)) all in
    let same = sym (refused_same context_kind history new refused) in
    record {
      consumers = subst P2 (sym (refused_same registered_kind history new refused)) (subst P same named.consumers);
      requests = subst Q2 (sym (refused_same asked_kind history new refused)) (subst Q same named.requests);
    }

pub goes_shut : (old : HubStore) (pass : PassNo) (call : Call) (refusal : Refusal) (states : List (List ℤ)) → is_stored call ≡ true → old.counts.entries < 2 ^ 48 →
    ((history : List Traced) → HubStands old history → (shut history call ≡ Some refusal) × (length states ≡ states_due history pass call)) →
    Goes old (record old { counts = with_entry old.counts call (replies.Refused refusal) }) pass call (replies.Refused refusal) states
goes_shut old pass call refusal states is small fits = λ history stands legal known.
    let reply = replies.Refused refusal in
    let entry = entry_of pass call reply states no_mark in
    let short = short_of old history stands small in
    let fit = fits history stands in
    let parts = stands.parts in
    record {
      may = record {
        known = known;
        answered = shut_answers history pass call refusal short fit.0;
        room = short;
        stated = fit.1;
        mark = sym (no_mark_stored history pass call reply parts.all.stores.stored is);
      };
      parts = record {
        counts = ap (λ counts. with_entry counts call reply) stands.counts ∙ sym (counted_more history pass call reply states);
        parts = record {
          passes = parts.passes ∙ sym (passes_left history entry refl);
          now = parts.now ∙ sym (now_left history entry refl);
          named = named_refused history entry refl parts.named;
          all = record {
            stores = refused_stores_with old.contexts old.timers old.bus history pass call refusal states is parts.all.stores;
            lives = life_refused history entry refl old.life parts.all.lives;
          };
        };
      };
    }

-- ... whatever it comes to be counted by
pub goes_closed : (old : HubStore) (counts : Counted) (pass : PassNo) (call : Call) (refusal : Refusal) (states : List (List ℤ)) → is_stored call ≡ true → old.counts.entries < 2 ^ 48 →
    counts ≡ with_entry old.counts call (replies.Refused refusal) →
    ((history : List Traced) → HubStands old history → (shut history call ≡ Some refusal) × (length states ≡ states_due history pass call)) →
    Goes old (record old { counts = counts }) pass call (replies.Refused refusal) states
goes_closed old counts pass call refusal states is small more fits =
    let G : Counted → Type 0 = λ n. Goes old (record old { counts = n }) pass call (replies.Refused refusal) states in
    subst G (sym more) (goes_shut old pass call refusal states is small fits)

-- ## What the hub promises

-- what is kept is what the history with the entry says
abbrev pub KeepsVerticles : HubStore → HubStore → PassNo → Call → Reply → List (List ℤ) → Type 0
KeepsVerticles old new pass call reply states =
    (history : List Traced) → StandsFor old history → GoesOn new history (entry_of pass call reply states no_mark) → InstancesStand new.instances (history ++ entry_of pass call reply states no_mark ∷ [])

pub meets : (old new : HubStore) (pass : PassNo) (call : Call) (reply : Reply) (states : List (List ℤ)) → is_stored call ≡ true → old.counts.entries < 2 ^ 48 → Goes old new pass call reply states →
    KeepsVerticles old new pass call reply states → Meets old new pass call reply states
meets old new pass call reply states is small all keeps = λ history stands known.
    let short = short_of old history stands.parts small in
    let on = all history stands.parts stands.legal known in
    let none : marked history pass call reply ≡ no_mark = no_mark_stored history pass call reply stands.parts.parts.all.stores.stored is in
    let with : Mark → List Traced = λ mark. history ++ entry_of pass call reply states mark ∷ [] in
    let P : List Traced → Type 0 = StandsFor new in
    record {
      answered = on.may.answered;
      stands = subst P (ap with (sym none) ∙ ap (λ b. cond b history (with (marked history pass call reply))) (sym (is_unspent history short))) (record {
        parts = on.parts;
        instances = keeps history stands on;
        legal = legal_more history (entry_of pass call reply states no_mark) stands.legal on.may;
      });
      refused = refused_unchanged history pass call reply states;
    }

-- the hub is still that of some history
pub of_history_more : (old new : HubStore) (pass : PassNo) (call : Call) (reply : Reply) (states : List (List ℤ)) → pass.0 < old.passes → Goes old new pass call reply states → IsOfHistory old → IsOfHistory new
of_history_more old new pass call reply states known all one =
    let entry = entry_of pass call reply states no_mark in
    ∥∥₁_map one (λ p. (
    let P : ℕ → Type 0 = λ n. pass.0 < n in
    let on = all p.0 p.1.0 p.1.1 (subst P p.1.0.parts.passes known) in
    (p.0 ++ entry ∷ [], (on.parts, legal_more p.0 entry p.1.1 on.may))))

-- ## Want of memory

pub of_history_still : (old new : HubStore) → new.counts ≡ old.counts →
    ((history : List Traced) → PartsStand old.passes old.now old.life old.contexts old.timers old.bus history → PartsStand new.passes new.now new.life new.contexts new.timers new.bus history) → IsOfHistory old → IsOfHistory new
of_history_still old new same keeps one = ∥∥₁_map one (λ p. (p.0, (record { counts = same ∙ p.1.0.counts; parts = keeps p.0 p.1.0.parts }, p.1.1)))

-- ## What the rows ask of the stores

pub is_at : (hub : HubStore) (at : EntryNo) → at.0 ≡ hub.counts.entries → IsOfHistory hub → lives.AreAt at hub.life hub.contexts hub.timers hub.bus
is_at hub at is one = ∥∥₁_map one (λ p. (p.0, (p.1.1, (is ∙ entries_of hub p.0 p.1.0, p.1.0.parts.all))))

-- ## Plain calls bring no states

pub plain_due : (history : List Traced) (pass : PassNo) (call : Call) → is_plain call ≡ true → states_due history pass call ≡ 0
plain_due history pass (calls.Deploy worker pool tell count) plain = absurd cc
plain_due history pass (calls.Finish end) plain = absurd cc
plain_due history pass _ plain = refl

pub plain_fits : (old : HubStore) (pass : PassNo) (call : Call) → is_plain call ≡ true → ((history : List Traced) → LifeStands old.life history → None ≡ shut history call) → Fits old pass call []
plain_fits old pass call plain opened = λ history stands. (sym (opened history stands.parts.all.lives), sym (plain_due history pass call plain))
