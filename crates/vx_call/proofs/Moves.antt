-- What each call does to the tasks of a live consumer, and to its mailbox.
use Rattle.std.proofs.lemmas.Bool.{or_parts}
use Rattle.std.proofs.Common.{◌≡◌, ℕ, List, [], ◌++◌, length, take, refl, ap, sym, ◌∙◌, subst}
use Rattle.std.specs.Prelude.{Bool, true, false, not, ◌&&◌, filter, Option, None, Some}
use Rattle.std.proofs.lemmas.List.{append-nil}
use Rattle.vx_data.specs.declared.ids.ConsumerId.{ConsumerId}
use Rattle.vx_data.specs.declared.ids.PassNo.{PassNo}
use Rattle.vx_data.specs.Ids.{same_consumer, same_message}
use Rattle.vx_message.specs.declared.Lane.{Lane}
use Rattle.vx_message.specs.declared.Message.{Message}
use Rattle.vx_consumer.specs.Flows.{room_more, freed}
use Rattle.vx_consumer.specs.Mailboxes as boxes
use Rattle.vx_consumer.specs.Mailboxes.{Mailbox, Move, pauses, resumes, fetches, hands, empty, moved, opened, after_moves}
use Rattle.vx_call.specs.declared.call.Call.{Call}
use Rattle.vx_call.specs.declared.call.Call.TheVariants as calls
use Rattle.vx_call.specs.declared.reply.Reply.{Reply}
use Rattle.vx_call.specs.declared.reply.Reply.TheVariants as replies
use Rattle.vx_call.specs.declared.reply.Task.{Task}
use Rattle.vx_call.specs.declared.reply.Task.TheVariants as tasks
use Rattle.vx_call.specs.declared.history.Consumer.{Consumer}
use Rattle.vx_call.specs.declared.history.Traced.{Traced}
use Rattle.vx_call.specs.Consumers as consumers
use Rattle.vx_call.specs.declared.history.Mark.{Mark}
use Rattle.vx_call.specs.Owners.{context_owning}
use Rattle.vx_call.specs.Mailboxes.{mailbox, move_if}
use Rattle.vx_data.specs.declared.ids.ContextId.{ContextId}
use Rattle.vx_data.specs.declared.ids.TimerId.{TimerId}
use Rattle.vx_call.specs.Held.{is_of_context}
use Rattle.vx_call.specs.Closings.{closing_by, closes}
use Rattle.vx_call.specs.Messages.{received}
use Rattle.vx_call.specs.Items.{is_for, is_fire_of, closes_task, task_made, untaken, ready_for, held_tasks, freed_items, freed_by, item_by, waiting}
use Rattle.vx_call.specs.Kinds.{same_task}
use Rattle.vx_call.proofs.Lasting.{filter_all}
use Rattle.vx_call.proofs.Each.{Each, Each-back, Each-take, Each-drop, weaken, passing}
use Rattle.vx_call.proofs.Filters.{filter_every, filter_no}
use Rattle.vx_call.proofs.Consumers.{IsLive, same_consumer-true, same_consumer-swap, live_named}
use Rattle.vx_call.proofs.Items.{tasks_of, tasks_of_ready, is_delivery, MakesPlaced, life_placed, finish_placed, deploy_placed, run_placed, job_placed, due_placed, promises_placed, await_placed, accepted_placed}
use Rattle.vx_call.proofs.Contexts.{same_context-swap}
use Rattle.vx_call.proofs.Homes.{context_owner}
use Rattle.vx_call.proofs.Registered.{live_registered, owned_task}
use Rattle.vx_call.proofs.Parts.{Parts, parts_same, parts_rest, parts_pause, parts_open, parts_hand, own, for_other, for_handed, not_handed, message_in}
use Rattle.vx_call.proofs.Steps.{After, Moves, Stands, NoneReady, stay, never, none_ready, none_placed, untouched, neutral, arrives}

-- what holds of each task of a consumer
pub each_own : (P : Task → Type 0) (id : ConsumerId) (all : List Task) → ((task : Task) → is_for id task ≡ true → P task) → Each P (own id all)
each_own P id all of_own = weaken (λ task. is_for id task ≡ true) P (own id all) of_own (passing (is_for id) all)

-- ## A Take

hands_deliver : (history : List Traced) (consumer : Consumer) (other : ConsumerId) (message : Message) → Stands history consumer →
    (let gone = same_task (tasks.Deliver other message) in
    After consumer.id gone gone (untaken history) (tasks_of (waiting history)) [] [] (after_moves (mailbox history consumer) (move_if (same_consumer consumer.id other) (hands message.id))))
hands_deliver history consumer other message stands =
    let id = consumer.id in
    let gone = same_task (tasks.Deliver other message) in
    let all = own id (untaken history) in
    let waits = own id (tasks_of (waiting history)) in
    let box = mailbox history consumer in
    let stays = λ (task : Task). not (gone task) in
    elim (same_consumer id other) as (λ b. same_consumer id other ≡ b → Parts (filter stays all ++ []) (filter stays waits ++ []) (after_moves box (move_if b (hands message.id)))) [
      | true ↦ λ mine.
          parts_same (filter stays all) (filter stays waits) _ _ _ (append-nil (filter stays all)) (append-nil (filter stays waits))
          (parts_hand all waits box gone message.id
          (each_own (λ task. gone task ≡ same_message message.id (message_in task)) id (untaken history) (λ task is_own. for_handed id other message task is_own ∙ ap (λ b. b && same_message message.id (message_in task)) mine))
          stands)
      | false ↦ λ another.
          (let kept : (ts : List Task) → Each (λ task. gone task ≡ false) (own id ts) = λ ts.
          each_own (λ task. gone task ≡ false) id ts (λ task is_own. for_handed id other message task is_own ∙ ap (λ b. b && same_message message.id (message_in task)) another) in
          parts_same all waits _ _ box (stay gone all [] (kept (untaken history)) refl) (stay gone waits [] (kept (tasks_of (waiting history))) refl) stands)
    ] refl

-- a Take that hands out no message
hands_other : (history : List Traced) (new : Traced) (consumer : Consumer) (lane : Lane) (task : Task) → is_delivery task ≡ false → Stands history consumer →
    After consumer.id (same_task task) (same_task task) (untaken history) (tasks_of (waiting history)) (task_made history new.entry.pass (calls.Take lane) new.mark.deed) (tasks_of (item_by history new (calls.Take lane))) (mailbox history consumer)
hands_other history new consumer lane task other stands =
    let id = consumer.id in
    let kept : (ts : List Task) → Each (λ another. same_task task another ≡ false) (own id ts) = λ ts.
    each_own (λ another. same_task task another ≡ false) id ts (λ another is_own. not_handed id task another other is_own) in
    untouched history new consumer (calls.Take lane) (same_task task) (same_task task) refl refl (kept (untaken history)) (kept (tasks_of (waiting history))) stands

take_step : (history : List Traced) (new : Traced) (consumer : Consumer) (lane : Lane) (reply : Reply) → Stands history consumer → Moves history new consumer (calls.Take lane) reply
take_step history new consumer lane (replies.Task (tasks.Deliver other message)) stands = hands_deliver history consumer other message stands
take_step history new consumer lane (replies.Task (tasks.Outcome request outcome)) stands = hands_other history new consumer lane (tasks.Outcome request outcome) refl stands
take_step history new consumer lane (replies.Task (tasks.Start context)) stands = hands_other history new consumer lane (tasks.Start context) refl stands
take_step history new consumer lane (replies.Task (tasks.Fire timer)) stands = hands_other history new consumer lane (tasks.Fire timer) refl stands
take_step history new consumer lane (replies.Task (tasks.Run queued)) stands = hands_other history new consumer lane (tasks.Run queued) refl stands
take_step history new consumer lane (replies.Task (tasks.Job queued)) stands = hands_other history new consumer lane (tasks.Job queued) refl stands
take_step history new consumer lane (replies.Task (tasks.JobDone queued result)) stands = hands_other history new consumer lane (tasks.JobDone queued result) refl stands
take_step history new consumer lane (replies.Task (tasks.Connected server at)) stands = hands_other history new consumer lane (tasks.Connected server at) refl stands
take_step history new consumer lane (replies.Task (tasks.PromiseEnd awaited promise result)) stands = hands_other history new consumer lane (tasks.PromiseEnd awaited promise result) refl stands
take_step history new consumer lane (replies.Task (tasks.DeployEnd deployment result)) stands = hands_other history new consumer lane (tasks.DeployEnd deployment result) refl stands
take_step history new consumer lane (replies.Task (tasks.UndeployEnd deployment)) stands = hands_other history new consumer lane (tasks.UndeployEnd deployment) refl stands
take_step history new consumer lane (replies.Task (tasks.Stop context)) stands = hands_other history new consumer lane (tasks.Stop context) refl stands
take_step history new consumer lane reply stands = neutral history new consumer (calls.Take lane) refl refl stands

-- ## Calls that name a consumer

unregister_step : (history : List Traced) (new : Traced) (consumer : Consumer) (other : ConsumerId) (reply : Reply) → consumers.ends history new.entry.pass (calls.Unregister other) new.mark consumer ≡ false →
    Stands history consumer → Moves history new consumer (calls.Unregister other) reply
unregister_step history new consumer other reply stays stands =
    let id = consumer.id in
    let call = calls.Unregister other in
    let another = (or_parts (same_consumer other id) (consumers.closes_owner history new.entry.pass call new.mark consumer.owner) stays).0 in
    let kept : (ts : List Task) → Each (λ task. is_for other task ≡ false) (own id ts) = λ ts. each_own (λ task. is_for other task ≡ false) id ts (λ task is_own. for_other id other task is_own ∙ another) in
    let Goal : Mailbox → Type 0 = After id (is_for other) (is_for other) (untaken history) (tasks_of (waiting history)) (task_made history new.entry.pass call new.mark.deed) (tasks_of (item_by history new call)) in
    subst Goal (sym (ap (λ b. after_moves (mailbox history consumer) (move_if b boxes.ends)) stays))
    (untouched history new consumer call (is_for other) (is_for other) (none_ready history new call id refl refl) refl (kept (untaken history)) (kept (tasks_of (waiting history))) stands)

pause_step : (history : List Traced) (new : Traced) (consumer : Consumer) (other : ConsumerId) (reply : Reply) → Stands history consumer → Moves history new consumer (calls.Pause other) reply
pause_step history new consumer other reply stands =
    let id = consumer.id in
    let all = own id (untaken history) in
    let waits = own id (tasks_of (waiting history)) in
    let box = mailbox history consumer in
    let stays = λ (task : Task). not (is_for other task) in
    let unmoved : filter (λ (task : Task). not false) all ++ [] ≡ all = stay (λ task. false) all [] (never all) refl in
    let same : (b : Bool) → same_consumer other id ≡ b → Each (λ task. is_for other task ≡ b) waits = λ b is_same. each_own (λ task. is_for other task ≡ b) id (tasks_of (waiting history)) (λ task is_own. for_other id other task is_own ∙ is_same) in
    elim (same_consumer id other) as (λ b. same_consumer id other ≡ b → Parts (filter (λ task. not false) all ++ []) (filter stays waits ++ []) (after_moves box (move_if b pauses))) [
      | true ↦ λ mine.
          (let none : filter stays waits ≡ [] =
          filter_no stays waits (weaken (λ task. is_for other task ≡ true) (λ task. not (is_for other task) ≡ false) waits (λ task h. ap not h) (same true (same_consumer-swap other id ∙ mine))) in
          parts_same all [] _ _ _ unmoved (append-nil (filter stays waits) ∙ none) (parts_pause all waits box stands))
      | false ↦ λ another. parts_same all waits _ _ box unmoved (stay (is_for other) waits [] (same false (same_consumer-swap other id ∙ another)) refl) stands
    ] refl

-- what is made ready of a consumer's tasks is none of another's
none_freed : (history : List Traced) (id : ConsumerId) (o : Option ContextId) (ts : List Task) → Each (λ task. is_for id task ≡ false) ts → own id (tasks_of (ready_for history o ts)) ≡ []
none_freed history id None ts others = refl
none_freed history id (Some context) ts others = ap (own id) (tasks_of_ready history context 0 ts) ∙ filter_no (is_for id) ts others

-- what a Resume or a Fetch makes ready of another consumer
freed_others : (history : List Traced) (id other : ConsumerId) (room : Consumer → Option ℕ) → same_consumer id other ≡ false → (o : Option Consumer) → consumers.live history other ≡ o →
    own id (tasks_of (freed_by (λ consumer. freed_items history (room consumer) consumer) o)) ≡ []
freed_others history id other room another None is_live = refl
freed_others history id other room another (Some consumer) is_live =
    let count = freed (room consumer) (length (mailbox history consumer).held) in
    let named : other ≡ consumer.id = live_named history other consumer is_live in
    let Other : Task → Type 0 = λ task. is_for id task ≡ false in
    none_freed history id (context_owning consumer.owner) (take count (held_tasks history consumer))
    (Each-take Other count (held_tasks history consumer)
    (Each-drop Other (length (mailbox history consumer).ready) (own consumer.id (untaken history))
    (each_own Other consumer.id (untaken history) (λ task is_own. for_other consumer.id id task is_own ∙ ap (same_consumer id) (sym named) ∙ another))))

-- what it makes ready of this one
freed_own : (history : List Traced) (consumer : Consumer) (context : ContextId) (room : Option ℕ) (stands : Stands history consumer) → context_owning consumer.owner ≡ Some context →
    own consumer.id (tasks_of (freed_items history room consumer)) ≡ take (freed room (length (mailbox history consumer).held)) stands.rest
freed_own history consumer context room stands owns =
    let id = consumer.id in
    let all = own id (untaken history) in
    let waits = own id (tasks_of (waiting history)) in
    let box = mailbox history consumer in
    let count = freed room (length box.held) in
    let Own : Task → Type 0 = λ task. is_for id task ≡ true in
    let rest_own : Each Own stands.rest = Each-back Own waits stands.rest (subst (λ ts. Each Own ts) stands.whole (passing (is_for id) (untaken history))) in
    ap (λ o. own id (tasks_of (ready_for history o (take count (held_tasks history consumer))))) owns
    ∙ ap (own id) (tasks_of_ready history context 0 (take count (held_tasks history consumer)) ∙ ap (take count) (parts_rest all waits box stands))
    ∙ filter_every (is_for id) (take count stands.rest) (Each-take Own count stands.rest rest_own)

-- a Resume or a Fetch makes the move that opens the mailbox
free_step : (history : List Traced) (consumer : Consumer) (context : ContextId) (other : ConsumerId) (room : Consumer → Option ℕ) (move : Move) → context_owning consumer.owner ≡ Some context → IsLive history consumer →
    moved (mailbox history consumer) move ≡ opened (room consumer) (mailbox history consumer) → Stands history consumer →
    After consumer.id (λ task. false) (λ task. false) (untaken history) (tasks_of (waiting history)) [] (tasks_of (freed_by (λ c. freed_items history (room c) c) (consumers.live history other)))
    (after_moves (mailbox history consumer) (move_if (same_consumer consumer.id other) move))
free_step history consumer context other room move owns is_live opens stands =
    let id = consumer.id in
    let all = own id (untaken history) in
    let waits = own id (tasks_of (waiting history)) in
    let box = mailbox history consumer in
    let items = λ (o : Option Consumer). own id (tasks_of (freed_by (λ c. freed_items history (room c) c) o)) in
    let unmoved : filter (λ (task : Task). not false) all ++ [] ≡ all = stay (λ task. false) all [] (never all) refl in
    let kept : filter (λ (task : Task). not false) waits ≡ waits = filter_all (λ task. true) (λ task. refl) waits in
    elim (same_consumer id other) as (λ b. same_consumer id other ≡ b →
    Parts (filter (λ task. not false) all ++ []) (filter (λ task. not false) waits ++ items (consumers.live history other)) (after_moves box (move_if b move))) [
      | true ↦ λ mine.
          (let one : consumers.live history other ≡ Some consumer = ap (consumers.live history) (sym (same_consumer-true id other mine)) ∙ is_live in
          let Goal : Mailbox → Type 0 = λ m. Parts (filter (λ task. not false) all ++ []) (filter (λ task. not false) waits ++ items (consumers.live history other)) m in
          subst Goal (sym opens)
          (parts_same all (waits ++ take (freed (room consumer) (length box.held)) stands.rest) _ _ _ unmoved
          (ap (λ ts. ts ++ items (consumers.live history other)) kept ∙ ap (λ ts. waits ++ ts) (ap items one ∙ freed_own history consumer context (room consumer) stands owns))
          (parts_open all waits box (room consumer) stands)))
      | false ↦ λ another.
          parts_same all waits _ _ box unmoved
          (ap (λ ts. ts ++ items (consumers.live history other)) kept ∙ ap (λ ts. waits ++ ts) (freed_others history id other room another (consumers.live history other) refl) ∙ append-nil waits) stands
    ] refl

-- ## Each call

-- a context that closes and is not that of the consumer ends no task of it
not_closed : (history : List Traced) (consumer : Consumer) (context : ContextId) (closing : Option ContextId) (task : Task) → context_owning consumer.owner ≡ Some context → IsLive history consumer → is_of_context context closing ≡ false →
    is_for consumer.id task ≡ true → closes_task history closing task ≡ false
not_closed history consumer context None task owns is_live stays mine = refl
not_closed history consumer context (Some other) task owns is_live stays mine =
    ap (is_of_context other) (owned_task history consumer task (live_registered history consumer is_live) mine ∙ owns) ∙ same_context-swap other context ∙ stays

-- a call that may close contexts, but not that of the consumer
loud_step : (history : List Traced) (new : Traced) (consumer : Consumer) (context : ContextId) (call : Call) (closing : Option ContextId) (b : Bool) → context_owning consumer.owner ≡ Some context → IsLive history consumer → MakesPlaced history new call →
    received history call new.mark.deed ≡ None → is_of_context context closing ≡ false → b ≡ false → Stands history consumer →
    After consumer.id (closes_task history closing) (closes_task history closing) (untaken history) (tasks_of (waiting history)) (task_made history new.entry.pass call new.mark.deed) (tasks_of (item_by history new call))
    (after_moves (mailbox history consumer) (move_if b boxes.ends))
loud_step history new consumer context call closing b owns is_live how none stays still stands =
    let id = consumer.id in
    let kept : (ts : List Task) → Each (λ task. closes_task history closing task ≡ false) (own id ts) = λ ts.
    each_own (λ task. closes_task history closing task ≡ false) id ts (λ task is_own. not_closed history consumer context closing task owns is_live stays is_own) in
    let Goal : Mailbox → Type 0 = After id (closes_task history closing) (closes_task history closing) (untaken history) (tasks_of (waiting history)) (task_made history new.entry.pass call new.mark.deed) (tasks_of (item_by history new call)) in
    subst Goal (sym (ap (λ c. after_moves (mailbox history consumer) (move_if c boxes.ends)) still))
    (untouched history new consumer call (closes_task history closing) (closes_task history closing) (none_placed history new call id how) none (kept (untaken history)) (kept (tasks_of (waiting history))) stands)

-- a call that makes nothing for the consumer, and does not end it
quiet_step : (history : List Traced) (new : Traced) (consumer : Consumer) (call : Call) (b : Bool) → NoneReady history new call consumer.id → received history call new.mark.deed ≡ None → b ≡ false → Stands history consumer →
    After consumer.id (λ task. false) (λ task. false) (untaken history) (tasks_of (waiting history)) (task_made history new.entry.pass call new.mark.deed) (tasks_of (item_by history new call))
    (after_moves (mailbox history consumer) (move_if b boxes.ends))
quiet_step history new consumer call b no_items none still stands =
    let Goal : Mailbox → Type 0 = After consumer.id (λ task. false) (λ task. false) (untaken history) (tasks_of (waiting history)) (task_made history new.entry.pass call new.mark.deed) (tasks_of (item_by history new call)) in
    subst Goal (sym (ap (λ c. after_moves (mailbox history consumer) (move_if c boxes.ends)) still)) (neutral history new consumer call no_items none stands)

-- a context that owns a consumer does not close where the consumer does not end
stays_open : (history : List Traced) (pass : PassNo) (call : Call) (mark : Mark) (consumer : Consumer) (context : ContextId) → context_owning consumer.owner ≡ Some context →
    consumers.closes_owner history pass call mark consumer.owner ≡ false → closes history pass call context ≡ false
stays_open history pass call mark consumer context owns stays =
    sym (ap (consumers.closes_owner history pass call mark) (context_owner consumer.owner context owns)) ∙ stays

no_fire : (id : ConsumerId) (timer : TimerId) (task : Task) → is_for id task ≡ true → is_fire_of timer task ≡ false
no_fire id timer (tasks.Deliver consumer message) mine = refl
no_fire id timer _ mine = absurd cc

cancel_step : (history : List Traced) (new : Traced) (consumer : Consumer) (timer : TimerId) (reply : Reply) → consumers.ends history new.entry.pass (calls.CancelTimer timer) new.mark consumer ≡ false → Stands history consumer →
    Moves history new consumer (calls.CancelTimer timer) reply
cancel_step history new consumer timer reply stays stands =
    let call = calls.CancelTimer timer in
    let Goal : Mailbox → Type 0 = After consumer.id (λ task. false) (is_fire_of timer) (untaken history) (tasks_of (waiting history)) (task_made history new.entry.pass call new.mark.deed) (tasks_of (item_by history new call)) in
    subst Goal (sym (ap (λ b. after_moves (mailbox history consumer) (move_if b boxes.ends)) stays))
    (untouched history new consumer call (λ task. false) (is_fire_of timer) refl refl (never (own consumer.id (untaken history)))
    (each_own (λ task. is_fire_of timer task ≡ false) consumer.id (tasks_of (waiting history)) (λ task is_own. no_fire consumer.id timer task is_own)) stands)

-- what a call does that does not end the consumer of a context
pub step : (history : List Traced) (new : Traced) (consumer : Consumer) (context : ContextId) (call : Call) (reply : Reply) → new.entry.call ≡ call → context_owning consumer.owner ≡ Some context → IsLive history consumer →
    consumers.ends history new.entry.pass call new.mark consumer ≡ false → Stands history consumer → Moves history new consumer call reply
step history new consumer context (calls.Send address body options) reply is_call owns is_live stays stands = arrives history new consumer context (calls.Send address body options) refl owns is_live stands
step history new consumer context (calls.Publish address body options) reply is_call owns is_live stays stands = arrives history new consumer context (calls.Publish address body options) refl owns is_live stands
step history new consumer context (calls.Request asker address body options timeout once) reply is_call owns is_live stays stands =
    arrives history new consumer context (calls.Request asker address body options timeout once) refl owns is_live stands
step history new consumer context (calls.FrameIn conn frame) reply is_call owns is_live stays stands = arrives history new consumer context (calls.FrameIn conn frame) refl owns is_live stands
step history new consumer context (calls.Unregister other) reply is_call owns is_live stays stands = unregister_step history new consumer other reply stays stands
step history new consumer context (calls.Pause other) reply is_call owns is_live stays stands = pause_step history new consumer other reply stands
step history new consumer context (calls.Resume other) reply is_call owns is_live stays stands = free_step history consumer context other (λ c. None) resumes owns is_live refl stands
step history new consumer context (calls.Fetch other count) reply is_call owns is_live stays stands =
    free_step history consumer context other (λ c. room_more count (mailbox history c).room) (fetches count) owns is_live refl stands
step history new consumer context (calls.Take lane) reply is_call owns is_live stays stands = take_step history new consumer lane reply stands
step history new consumer context (calls.CancelTimer id) reply is_call owns is_live stays stands = cancel_step history new consumer id reply stays stands
step history new consumer context (calls.Deploy worker pool tell count) reply is_call owns is_live stays stands =
    quiet_step history new consumer (calls.Deploy worker pool tell count) _ (none_placed history new (calls.Deploy worker pool tell count) consumer.id (deploy_placed history new worker pool tell count)) refl stays stands
step history new consumer context (calls.Undeploy deployment tell) reply is_call owns is_live stays stands =
    quiet_step history new consumer (calls.Undeploy deployment tell) _ (none_placed history new (calls.Undeploy deployment tell) consumer.id (life_placed history new (calls.Undeploy deployment tell) is_call refl)) refl stays stands
step history new consumer context (calls.RunOn other once) reply is_call owns is_live stays stands =
    quiet_step history new consumer (calls.RunOn other once) _ (none_placed history new (calls.RunOn other once) consumer.id (run_placed history new other once)) refl stays stands
step history new consumer context (calls.Blocking other ordered once) reply is_call owns is_live stays stands =
    quiet_step history new consumer (calls.Blocking other ordered once) _ (none_placed history new (calls.Blocking other ordered once) consumer.id (job_placed history new other ordered once)) refl stays stands
step history new consumer context (calls.Complete id value) reply is_call owns is_live stays stands =
    quiet_step history new consumer (calls.Complete id value) _ (none_placed history new (calls.Complete id value) consumer.id (promises_placed history new (calls.Complete id value) refl)) refl stays stands
step history new consumer context (calls.FailPromise id code) reply is_call owns is_live stays stands =
    quiet_step history new consumer (calls.FailPromise id code) _ (none_placed history new (calls.FailPromise id code) consumer.id (promises_placed history new (calls.FailPromise id code) refl)) refl stays stands
step history new consumer context (calls.Await other promise) reply is_call owns is_live stays stands =
    quiet_step history new consumer (calls.Await other promise) _ (none_placed history new (calls.Await other promise) consumer.id (await_placed history new other promise)) refl stays stands
step history new consumer context (calls.Accepted id) reply is_call owns is_live stays stands =
    quiet_step history new consumer (calls.Accepted id) _ (none_placed history new (calls.Accepted id) consumer.id (accepted_placed history new id)) refl stays stands
step history new consumer context (calls.Advance moment) reply is_call owns is_live stays stands =
    quiet_step history new consumer (calls.Advance moment) _ (none_placed history new (calls.Advance moment) consumer.id (due_placed history new moment)) refl stays stands
step history new consumer context (calls.StartDone result) reply is_call owns is_live stays stands =
    let call = calls.StartDone result in
    loud_step history new consumer context call (closing_by history new.entry.pass call) _ owns is_live (life_placed history new call is_call refl) refl (stays_open history new.entry.pass call new.mark consumer context owns stays) stays stands
step history new consumer context calls.StopDone reply is_call owns is_live stays stands =
    let call = calls.StopDone in
    loud_step history new consumer context call (closing_by history new.entry.pass call) _ owns is_live (life_placed history new call is_call refl) refl (stays_open history new.entry.pass call new.mark consumer context owns stays) stays stands
step history new consumer context (calls.Finish end) reply is_call owns is_live stays stands =
    let call = calls.Finish end in
    loud_step history new consumer context call (closing_by history new.entry.pass call) _ owns is_live (finish_placed history new end is_call) refl (stays_open history new.entry.pass call new.mark consumer context owns stays) stays stands
step history new consumer context calls.Close reply is_call owns is_live stays stands =
    let impossible : true ≡ false = stays_open history new.entry.pass calls.Close new.mark consumer context owns stays in absurd cc
step history new consumer context call reply is_call owns is_live stays stands = quiet_step history new consumer call _ (none_ready history new call consumer.id refl refl) refl stays stands
