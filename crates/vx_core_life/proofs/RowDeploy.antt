-- Deploy.
use Rattle.std.proofs.Common.{◌≡◌, ℕ, zero, suc, ◌+◌, List, [], ◌∷◌, ◌++◌, length, refl, ap, sym, ◌∙◌, subst, length-append, arith}
use Rattle.std.proofs.lemmas.List.{map-append}
use Rattle.std.specs.Prelude.{ℤ, Bool, true, cond, ◌%◌, is_some, is_none, find, map, Option, None, Some}
use Rattle.std.proofs.lemmas.Bool.{and_parts}
use Rattle.vx_data.specs.declared.ids.ContextId.{ContextId}
use Rattle.vx_data.specs.declared.ids.DeploymentId.{DeploymentId}
use Rattle.vx_data.specs.declared.ids.EntryNo.{EntryNo}
use Rattle.vx_data.specs.declared.ids.PassNo.{PassNo}
use Rattle.vx_message.specs.declared.Context.{Context}
use Rattle.vx_message.specs.declared.Item.{Item}
use Rattle.vx_message.specs.declared.ItemKind.TheVariants as kinds
use Rattle.vx_message.specs.declared.Lane.{Lane}
use Rattle.vx_message.specs.declared.Lane.TheVariants as lanes
use Rattle.vx_message.specs.declared.Mode.{Mode}
use Rattle.vx_message.specs.declared.Mode.TheVariants as modes
use Rattle.vx_timer.specs.declared.timers.Timer.{Timer}
use Rattle.vx_tree.specs.Nodes.{contexts_of}
use Rattle.vx_call.specs.declared.call.Call.TheVariants as calls
use Rattle.vx_call.specs.declared.reply.Reply.TheVariants as replies
use Rattle.vx_call.specs.declared.reply.Task.TheVariants as tasks
use Rattle.vx_call.specs.declared.history.Traced.{Traced}
use Rattle.vx_call.specs.History.{no_mark}
use Rattle.vx_call.specs.Names.{next_entry, next_deployment}
use Rattle.vx_call.specs.Loops.{loops, standard_instances}
use Rattle.vx_call.specs.Pools.{pool_lane}
use Rattle.vx_call.specs.Contexts.{instance, instances, context_at, contexts, is_context, is_context_of}
use Rattle.vx_call.specs.Closings.{is_open, closed_at}
use Rattle.vx_call.specs.Given.{mode_of}
use Rattle.vx_call.specs.Deployments.{held_deployment}
use Rattle.vx_call.specs.Held.{held_kind}
use Rattle.vx_call.specs.Items.{Waiting, item_kind, placed, waiting}
use Rattle.vx_call.specs.Kinds.{kind_of}
use Rattle.vx_call.specs.Lives.{Ready}
use Rattle.vx_call.specs.Starts.{ids_of_contexts}
use Rattle.vx_call.specs.Refusals.{unless_refused, holder_stopping, no_context, no_pool, if_named, not_your_context, closed_if_named, bad_count}
use Rattle.vx_call.specs.Rows.{deploy_refusal}
use Rattle.vx_call.specs.Machine.{IsLegal}
use Rattle.vx_call.proofs.Closed.{open_is}
use Rattle.vx_call.proofs.Contexts.{contexts-append, keeps_context_at}
use Rattle.vx_call.proofs.Each.{weaken}
use Rattle.vx_call.proofs.KeepsOpen.{KeepsOpen, closed_kept}
use Rattle.vx_call.proofs.Lasting.{lasting_same, lasting_more}
use Rattle.vx_call.proofs.Stored.{stored_more}
use Rattle.vx_laws.proofs.Resting.{Rests, waiting_rests}
use Rattle.vx_life.specs.Stores.{LifeStore}
use Rattle.vx_life.specs.Steps.{Deploys}
use Rattle.vx_life.specs.Stands.{PartsStand}
use Rattle.vx_life_rows.specs.Moves.{entry_of}
use Rattle.vx_life_rows.proofs.RowDeploy.{life_deployed}
use Rattle.vx_context.specs.Stores.{ContextStore, closed_in, lane_in, item_of}
use Rattle.vx_context.specs.Stands.{ContextsStand, IsNext}
use Rattle.vx_context.proofs.Items.{mode_left}
use Rattle.vx_bus_store.specs.Stores.{BusStore}
use Rattle.vx_bus_store.specs.Stands.{StoresStand}
use Rattle.vx_bus_store.proofs.Frames.{LeavesBus, bus_left, consumer_kept, numbers_left, pools_stay, timers_left}
use Rattle.vx_bus_store.proofs.Images.{map_each}
use Rattle.vx_bus_store.proofs.Kept.{mailbox_kept, task_kept, item_kept}
use Rattle.vx_bus_store.proofs.KeptRequests.{request_kept}
use Rattle.vx_bus_refusals.proofs.Chains.{none_of_second}
use Rattle.vx_core_life.specs.Moving.{promised}
use Rattle.vx_core_life.specs.Starting.{new_contexts, start_item, Adds, Starts}
use Rattle.vx_core_life.specs.Stands.{AllStand, LivesFollow}
use Rattle.vx_core_life.proofs.NewContexts.{contexts_counted}

-- ## What an accepted Deploy tells

-- the caller's deployment was not asked to end
pub unstopped : (history : List Traced) (pass : PassNo) (pool : Option (List ℕ)) (tell : Option ContextId) (count : ℕ) → deploy_refusal history pass pool tell count ≡ None → holder_stopping history pass ≡ None
unstopped history pass pool tell count free =
    none_of_second (bad_count 64 count) (holder_stopping history pass)
    (none_of_second (closed_if_named history pass tell) _
    (none_of_second (if_named (not_your_context history pass) tell) _ (none_of_second (no_pool history pool) _ (none_of_second (if_named (no_context history) tell) _ free))))

-- ## The contexts

-- so many, by how many standard instances and event loops there are
abbrev numbered : (standard turns : ℕ) → Bool → Lane → ContextId → Context
numbered standard turns worker lane id = record { id = id; maker = None; lane = cond worker lane (lanes.Loop ((standard + id.instance) % turns)); jobs = lane }

same_instances : (history : List Traced) (worker : Bool) (pool : Option (List ℕ)) (first count : ℕ) →
    map (numbered (standard_instances history) (loops history) worker (pool_lane history pool)) (contexts_of (next_deployment history) first count) ≡ instances history worker pool first count
same_instances history worker pool first zero = refl
same_instances history worker pool first (suc more) = ap (λ rest. instance history worker pool first ∷ rest) (same_instances history worker pool (first + 1) more)

-- the contexts are those of the machine
pub are_instances : (life : LifeStore) (history : List Traced) (worker : Bool) (pool : Option (List ℕ)) (lane : Lane) (count : ℕ) → PartsStand life history → lane ≡ pool_lane history pool →
    new_contexts life worker lane (next_deployment history) count ≡ instances history worker pool 0 count
are_instances life history worker pool lane count parts is_lane =
    let all : ℕ → ℕ → Lane → List Context = λ standard turns l. map (numbered standard turns worker l) (contexts_of (next_deployment history) 0 count) in
    ap (λ n. all n life.loops lane) parts.standard ∙ ap (λ n. all (standard_instances history) n lane) parts.loops ∙ ap (all (standard_instances history) (loops history)) is_lane
    ∙ same_instances history worker pool 0 count

-- ## Tasks that wait

-- a task that waits keeps its lane, where its context is there
item_stays : (history : List Traced) (new : Traced) (item : Waiting) → mode_of (history ++ new ∷ []) item.task ≡ mode_of history item.task → is_context history item.context ≡ true → item_of history item ≡ item_of (history ++ new ∷ []) item
item_stays history new item same there =
    let after = history ++ new ∷ [] in
    let id = item.context in
    let with : Option Context → Mode → Item = λ context mode. record { entry = item.entry; place = item.place; context = id; lane = lane_in context mode; mode = mode; kind = kind_of item.task } in
    elim (context_at history id) as (λ o. context_at history id ≡ o → is_some o ≡ true → item_of history item ≡ item_of after item) [
      | None ↦ λ nobody some. absurd cc
      | Some context ↦ λ found some. ap (λ o. with o (mode_of history item.task)) (found ∙ sym (keeps_context_at history new id context found)) ∙ ap (with (context_at after id)) (sym same)
    ] refl there

-- an open context is there
there_open : (history : List Traced) (id : ContextId) → is_open history id ≡ true → is_context history id ≡ true
there_open history id opened = (and_parts (is_context history id) (is_none (closed_at history id)) (sym (open_is history id) ∙ opened)).0

-- ## The row

module _ (history : List Traced) (pass : PassNo) (worker : Bool) (pool : Option (List ℕ)) (tell : Option ContextId) (count : ℕ) (states : List (List ℤ)) where
  abbrev deployed_at : EntryNo → Traced
  deployed_at at = entry_of pass (calls.Deploy worker pool tell count) (replies.Deployment (record { 0 = at })) states no_mark

  abbrev new : Traced
  new = deployed_at (next_entry history)

  abbrev after : List Traced
  after = history ++ new ∷ []

  abbrev made : List Context
  made = instances history worker pool 0 count

  keeps : KeepsOpen history new
  keeps = record { stored = record { call = refl; mark = refl }; closing = refl; closes = λ context. refl }

  leaves_bus : LeavesBus history new
  leaves_bus = record {
    consumers = record { registered = refl; kept = λ c. consumer_kept history new c keeps refl };
    numbers = numbers_left history new (λ consumer. mailbox_kept history new consumer keeps refl refl);
    choices = refl;
    tasks = record { made = refl; kept = λ t. task_kept history new t keeps refl };
    requests = record { opened = refl; settled = λ r. request_kept history new r keeps refl };
    settled = refl;
    dropped = refl;
    given = refl;
    codecs = record { added = refl; kept = λ c. refl };
    rules = record { added = refl; kept = λ r. refl };
  }

  -- the tasks that wait stay as they are
  items_stay : IsLegal history → map (item_of history) (waiting history) ≡ map (item_of after) (waiting history)
  items_stay legal =
      map_each (item_of history) (item_of after) (waiting history)
      (weaken (λ (item : Waiting). Rests history item.context item.task) (λ (item : Waiting). item_of history item ≡ item_of after item) (waiting history)
      (λ item rests. item_stays history new item (mode_left history new refl item.task) (there_open history item.context rests.here)) (waiting_rests history legal))

  abbrev started : ContextId → Ready
  started context = record { context = context; task = tasks.Start context }

  -- the starts are those of the machine
  starts_from : (all : List Context) (first more : ℕ) → all ≡ contexts after →
      map (start_item all (next_entry history)) (instances history worker pool first more) ≡ map (item_of after) (placed history first (map started (ids_of_contexts (instances history worker pool first more))))
  starts_from all first zero same = refl
  starts_from all first (suc more) same =
      let id : ContextId = record { entry = next_entry history; instance = first } in
      let item : List Context → Item = λ cs. record { entry = next_entry history; place = first; context = id; lane = lane_in (find (is_context_of id) cs) modes.Handler; mode = modes.Handler; kind = kinds.Start id } in
      let others = map started (ids_of_contexts (instances history worker pool (first + 1) more)) in
      ap (λ cs. item cs ∷ map (start_item all (next_entry history)) (instances history worker pool (first + 1) more)) same
      ∙ ap (λ rest. item (contexts after) ∷ rest) (starts_from all (first + 1) more same)

  -- the contexts with those of the verticles, whose starts wait
  contexts_grown : (old added new_store : ContextStore) (more : List Context) → more ≡ made → IsLegal history → ContextsStand old history → Adds more old added → Starts (next_entry history) more added new_store → ContextsStand new_store after
  contexts_grown old added new_store more is_more legal stands adds starts =
      let is_made : added.made ≡ contexts after =
      ap (λ (s : ContextStore). s.made) adds.rest ∙ ap (λ cs. cs ++ more) stands.made ∙ ap (λ cs. contexts history ++ cs) is_more ∙ sym (contexts-append history new) in
      record {
        made = ap (λ (s : ContextStore). s.made) starts ∙ is_made;
        closings = λ id. ap (λ (s : ContextStore). closed_in id s.closings) starts ∙ adds.closed id ∙ stands.closings id ∙ sym (closed_kept history new id keeps);
        held = ap (λ (s : ContextStore). s.held) starts ∙ ap (λ (s : ContextStore). s.held) adds.rest ∙ stands.held ∙ sym (lasting_same held_kind history new refl (λ h. refl));
        pools = ap (λ (s : ContextStore). s.pools) starts ∙ ap (λ (s : ContextStore). s.pools) adds.rest ∙ stands.pools ∙ sym (pools_stay history new refl);
        waiting = ap (λ (s : ContextStore). s.waiting) starts
            ∙ ap (λ (s : ContextStore). s.waiting ++ map (start_item added.made (next_entry history)) more) adds.rest
            ∙ ap (λ items. items ++ map (start_item added.made (next_entry history)) more) (stands.waiting ∙ items_stay legal)
            ∙ ap (λ items. map (item_of after) (waiting history) ++ items) (ap (map (start_item added.made (next_entry history))) is_more ∙ starts_from added.made 0 count is_made)
            ∙ sym (map-append (item_of after) (waiting history) (placed history 0 (map started (ids_of_contexts made))))
            ∙ ap (map (item_of after)) (sym (lasting_more item_kind history new (λ item. item_kept history new item keeps refl)));
      }

  stores_grown : (old added new_store : ContextStore) (timers : List Timer) (bus : BusStore) (more : List Context) → more ≡ made → IsLegal history → StoresStand old timers bus history → Adds more old added →
      Starts (next_entry history) more added new_store → StoresStand new_store timers bus after
  stores_grown old added new_store timers bus more is_more legal stands adds starts = record {
    stored = stored_more history new stands.stored keeps.stored;
    contexts = contexts_grown old added new_store more is_more legal stands.contexts adds starts;
    timers = timers_left timers history new leaves_bus.requests stands.timers;
    bus = bus_left bus history new stands.stored leaves_bus stands.bus;
  }

  -- the stores after the call are those of the history with it
  pub deploys : (at : EntryNo) (life new_life : LifeStore) (old added new_store : ContextStore) (timers : List Timer) (bus : BusStore) (lane : Lane) (parent : Option DeploymentId) (more : List Context) → AllStand life old timers bus history →
      IsLegal history → IsNext at history → deploy_refusal history pass pool tell count ≡ None → lane ≡ pool_lane history pool → parent ≡ held_deployment history pass → more ≡ new_contexts life worker lane (record { 0 = at }) count →
      Deploys (record { 0 = at }) parent worker tell count life new_life → Adds more old added → Starts at more added new_store → LivesFollow new_life new_store timers bus history (deployed_at at)
  deploys at life new_life old added new_store timers bus lane parent more stands legal is_next free is_lane is_parent is_more lives adds starts =
      let numbered : ℕ → EntryNo = λ n. record { 0 = n } in
      let same : next_entry history ≡ at = ap numbered (sym is_next) in
      let Goal : EntryNo → Type 0 = λ e. LivesFollow new_life new_store timers bus history (deployed_at e) in
      let More : EntryNo → Type 0 = λ e. more ≡ new_contexts life worker lane (record { 0 = e }) count in
      let Begun : EntryNo → Type 0 = λ e. Deploys (record { 0 = e }) parent worker tell count life new_life in
      let Below : Option DeploymentId → Type 0 = λ p. Deploys (next_deployment history) p worker tell count life new_life in
      let Put : EntryNo → Type 0 = λ e. Starts e more added new_store in
      let back = sym same in
      let are : more ≡ made = subst More back is_more ∙ are_instances life history worker pool lane count stands.lives.parts is_lane in
      subst Goal same (record {
        answered = sym (ap (λ r. unless_refused r (replies.Deployment (next_deployment history))) free);
        all = record {
          stores = stores_grown old added new_store timers bus more are legal stands.stores adds (subst Put back starts);
          lives = life_deployed history pass worker pool tell count (replies.Deployment (next_deployment history)) states no_mark refl life new_life (unstopped history pass pool tell count free) (subst Below is_parent (subst Begun back lives)) stands.lives;
        };
      })

-- ## Places that are put by

-- for each stop, and for the ends of deploying and of undeploying
pub promised_more : (id : DeploymentId) (parent : Option DeploymentId) (worker : Bool) (tell : Option ContextId) (count : ℕ) (old new_life : LifeStore) → Deploys id parent worker tell count old new_life → promised new_life ≡ promised old + (count + 2)
promised_more id parent worker tell count old new_life deploys =
    let deploying = ap (λ (l : LifeStore). length l.deploying) deploys.rest ∙ length-append old.deploying (id ∷ []) in
    let ending = ap (λ (l : LifeStore). length l.ending) deploys.rest ∙ length-append old.ending (id ∷ []) in
    let stops = ap length deploys.tree.to_stop ∙ length-append old.tree.to_stop (contexts_of id 0 count) in
    let all = contexts_counted id 0 count in
    omega (arith, deploying, ending, stops, all)
