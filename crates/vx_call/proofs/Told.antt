-- Whose the tasks are that were not taken: a message is for a live consumer of a context, and an outcome waits for the context
-- that asked.
use Rattle.std.proofs.Common.{◌≡◌, ℕ, ◌+◌, List, [], ◌∷◌, ◌++◌, refl, ap, sym, ◌∙◌, subst}
use Rattle.std.specs.Prelude.{Bool, true, false, not, cond, ◌&&◌, ◌||◌, filter, find, map, Option, None, Some}
use Rattle.std.specs.List.{list_any, filter_map}
use Rattle.std.specs.Option.{option_map}
use Rattle.std.proofs.lemmas.Bool.{or_right, eq-eqb, eqb-true}
use Rattle.vx_data.specs.declared.ids.ContextId.{ContextId}
use Rattle.vx_data.specs.declared.ids.ConsumerId.{ConsumerId}
use Rattle.vx_data.specs.declared.ids.MessageId.{MessageId}
use Rattle.vx_data.specs.declared.ids.PassNo.{PassNo}
use Rattle.vx_data.specs.Ids.{same_consumer, same_message}
use Rattle.vx_message.specs.declared.Context.{Context}
use Rattle.vx_message.specs.declared.Message.{Message}
use Rattle.vx_message.specs.declared.Outcome.{Outcome}
use Rattle.vx_message.specs.declared.Owner.{Owner}
use Rattle.vx_message.specs.declared.Owner.TheVariants as owners
use Rattle.vx_call.specs.declared.call.Call.{Call}
use Rattle.vx_call.specs.declared.call.Call.TheVariants as calls
use Rattle.vx_call.specs.declared.reply.Reply.{Reply}
use Rattle.vx_call.specs.declared.reply.Reply.TheVariants as replies
use Rattle.vx_call.specs.declared.reply.Task.{Task}
use Rattle.vx_call.specs.declared.reply.Task.TheVariants as tasks
use Rattle.vx_call.specs.declared.history.Consumer.{Consumer}
use Rattle.vx_call.specs.declared.history.Deed.{Deed}
use Rattle.vx_call.specs.declared.history.Deed.TheVariants as deeds
use Rattle.vx_call.specs.declared.history.Mark.{Mark}
use Rattle.vx_call.specs.declared.history.Traced.{Traced}
use Rattle.vx_call.specs.History.{is_accepted, no_mark, made_by, ended_by}
use Rattle.vx_call.specs.Built.{AreStored}
use Rattle.vx_call.specs.Machine.{IsLegal}
use Rattle.vx_call.specs.Kinds.{hands_out}
use Rattle.vx_call.specs.Time.{now}
use Rattle.vx_call.specs.Held.{is_of_context}
use Rattle.vx_call.specs.Closings.{closing_by, closes, open_contexts, is_open_in, is_open}
use Rattle.vx_call.specs.Registered.{is_named}
use Rattle.vx_call.specs.Consumers.{ends_by_name, closes_owner, ends, consumer_kind, consumers, live}
use Rattle.vx_call.specs.Given.{asker, context_of}
use Rattle.vx_call.specs.Messages.{received}
use Rattle.vx_call.specs.Mailboxes.{accepting, readied}
use Rattle.vx_call.specs.Askers.{context_asking}
use Rattle.vx_call.specs.Requests.{Open, unsettled, settles, settled_by, by_due, closes_asker}
use Rattle.vx_call.specs.Sendings.{nothing_sent}
use Rattle.vx_call.specs.Settled.{Settled, no_handlers, settled_made}
use Rattle.vx_call.specs.Fires.{firing}
use Rattle.vx_call.specs.Due.{Due, due_fire, due_task, due_request, is_before, put_due, in_order, dues}
use Rattle.vx_call.specs.Owners.{context_owning}
use Rattle.vx_call.specs.Homes.{Home, homes, Heard, heard}
use Rattle.vx_call.specs.Jobs.{jobs_ended}
use Rattle.vx_call.specs.Lives.{Ready, ready_due, ready_outcomes, jobs_done, open_ones, deploy_ends, undeploy_ends, stops, life_tasks}
use Rattle.vx_call.specs.Items.{Waiting, closes_task, delivery_tasks, delivered, outcome_items, outcome_tasks, task_made, task_ended, task_kind, untaken, placed, item_by, item_made, item_ended, item_kind, waiting}
use Rattle.vx_call.proofs.Lasting.{lasting-append, and_false}
use Rattle.vx_call.proofs.Each.{Each, Each-append, Each-filter, weaken, accepted, not_true, lasting_each}
use Rattle.vx_call.proofs.Found.{find_front, find_kept}
use Rattle.vx_call.proofs.Contexts.{same_context-swap}
use Rattle.vx_call.proofs.Consumers.{same_consumer-self, IsLive, live_named}
use Rattle.vx_call.proofs.Arrivals.{accepting_live}
use Rattle.vx_call.proofs.Homes.{IsHomeOf, IsHeardOf, Each-homes, Each-heard, Each-unfilter_map}
use Rattle.vx_call.proofs.Opened.{Each-by_due}
use Rattle.vx_call.proofs.Settlings.{AnyOutcome, each_settlement, each_timed_out}
use Rattle.vx_call.proofs.Tasks.{each_delivery}
use Rattle.vx_call.proofs.Items.{Among, all_among}
use Rattle.vx_call.proofs.Known.{among_any}
use Rattle.vx_call.proofs.Registered.{live_registered, owned_task}
use Rattle.vx_call.proofs.Owners.{IsOwned, waiting_owned}
use Rattle.vx_call.proofs.Legal.{legal_front}
use Rattle.vx_call.proofs.Stored as stores
use Rattle.vx_call.proofs.Stored.{stored_front, stored_last, live_of_context}
use Rattle.vx_call.proofs.Closing.{may_close_one, closing_one}
use Rattle.vx_call.proofs.OpenAskers.{any_front, any_behind, any_lasts, keeps_open, closes_asked, AsksOpen, askers_open}

-- ## Outcomes wait

abbrev pub is_outcome_of : MessageId → Task → Bool
is_outcome_of id (tasks.Outcome request outcome) = same_message id request
is_outcome_of id _ = false

-- the outcome of the request waits
abbrev pub Waits : List Traced → MessageId → Type 0
Waits history id = list_any (λ (item : Waiting). is_outcome_of id item.task) (waiting history) ≡ true

same_handed : (reply : Reply) (id : MessageId) (one other : Outcome) → hands_out reply (tasks.Outcome id one) ≡ hands_out reply (tasks.Outcome id other)
same_handed (replies.Task task) id one other = refl
same_handed _ id one other = refl

same_closed : (history : List Traced) (closing : Option ContextId) (id : MessageId) (one other : Outcome) → closes_task history closing (tasks.Outcome id one) ≡ closes_task history closing (tasks.Outcome id other)
same_closed history None id one other = refl
same_closed history (Some context) id one other = refl

-- what ends the item of an outcome ends the outcome
ended_alike : (history : List Traced) (pass : PassNo) (call : Call) (reply : Reply) (id : MessageId) (one other : Outcome) →
    item_ended history pass call reply (tasks.Outcome id one) ≡ task_ended history pass call reply (tasks.Outcome id other)
ended_alike history pass (calls.Take lane) reply id one other = same_handed reply id one other
ended_alike history pass calls.Close reply id one other = refl
ended_alike history pass call reply id one other = same_closed history (closing_by history pass call) id one other

same_id : (id other : MessageId) → same_message id other ≡ true → id ≡ other
same_id id other same = let named : ℕ → MessageId = λ n. record { 0 = record { 0 = n } } in ap named (eqb-true id.0.0 other.0.0 same)

item_stays : (history : List Traced) (new : Traced) (id : MessageId) (outcome : Outcome) → ended_by task_kind history new (tasks.Outcome id outcome) ≡ false → (task : Task) → is_outcome_of id task ≡ true →
    not (is_accepted new.entry.reply && item_ended history new.entry.pass new.entry.call new.entry.reply task) ≡ true
item_stays history new id outcome stays (tasks.Outcome other another) mine =
    ap (λ i. not (is_accepted new.entry.reply && item_ended history new.entry.pass new.entry.call new.entry.reply (tasks.Outcome i another))) (sym (same_id id other mine))
    ∙ ap (λ b. not (is_accepted new.entry.reply && b)) (ended_alike history new.entry.pass new.entry.call new.entry.reply id another outcome)
    ∙ ap not stays
item_stays history new id outcome stays _ mine = absurd cc

keeps_waiting : (history : List Traced) (new : Traced) (id : MessageId) (outcome : Outcome) → ended_by task_kind history new (tasks.Outcome id outcome) ≡ false → Waits history id → Waits (history ++ new ∷ []) id
keeps_waiting history new id outcome stays waits =
    ap (list_any (λ (item : Waiting). is_outcome_of id item.task)) (lasting-append item_kind history new)
    ∙ any_lasts (λ (item : Waiting). is_outcome_of id item.task) _ (waiting history) (made_by item_kind history new) (λ item mine. item_stays history new id outcome stays item.task mine) waits

-- ## Each that an entry makes waits

abbrev IsIn : List Waiting → Heard → Type 0
IsIn items it = list_any (λ (item : Waiting). is_outcome_of it.request item.task) items ≡ true

each_in : (place : ℕ) (all : List Heard) → Each (IsIn (outcome_items place all)) all
each_in place [] = tt
each_in place (it ∷ others) = (
  ap (λ b. b || list_any (λ (item : Waiting). is_outcome_of it.request item.task) (outcome_items (place + 1) others)) (eq-eqb it.request.0.0 it.request.0.0 refl),
  weaken (IsIn (outcome_items (place + 1) others)) (IsIn (outcome_items place (it ∷ others))) others
      (λ other found. ap (λ b. same_message other.request it.request || b) found ∙ or_right (same_message other.request it.request) true refl) (each_in (place + 1) others),
)

any_placed : (history : List Traced) (place : ℕ) (p : Task → Bool) (all : List Ready) → list_any (λ (item : Waiting). p item.task) (placed history place all) ≡ list_any (λ (r : Ready). p r.task) all
any_placed history place p [] = refl
any_placed history place p (r ∷ others) = ap (λ b. p r.task || b) (any_placed history (place + 1) p others)

each_ready : (all : List Heard) → Each (λ (it : Heard). list_any (λ (r : Ready). is_outcome_of it.request r.task) (ready_outcomes all) ≡ true) all
each_ready [] = tt
each_ready (it ∷ others) = (
  ap (λ b. b || list_any (λ (r : Ready). is_outcome_of it.request r.task) (ready_outcomes others)) (eq-eqb it.request.0.0 it.request.0.0 refl),
  weaken _ (λ (other : Heard). list_any (λ (r : Ready). is_outcome_of other.request r.task) (ready_outcomes (it ∷ others)) ≡ true) others
      (λ other found. ap (λ b. same_message other.request it.request || b) found ∙ or_right (same_message other.request it.request) true refl) (each_ready others),
)

-- outcomes for contexts that are open are all made ready, in order, and the rest behind them
pub ready_open : (contexts : List Context) (all : List Heard) (more : List Ready) → Each (λ (it : Heard). is_open_in contexts it.context ≡ true) all → open_ones contexts (ready_outcomes all ++ more) ≡ ready_outcomes all ++ open_ones contexts more
ready_open contexts [] more open_each = refl
ready_open contexts (it ∷ others) more open_each =
    let here : Ready = record { context = it.context; task = tasks.Outcome it.request it.outcome } in
    ap (λ b. cond b (here ∷ open_ones contexts (ready_outcomes others ++ more)) (open_ones contexts (ready_outcomes others ++ more))) open_each.0
    ∙ ap (λ rs. here ∷ rs) (ready_open contexts others more open_each.1)

in_life : (history : List Traced) (new : Traced) (all : List Heard) → heard (settled_made history new.entry.pass new.entry.call new.mark.deed) ≡ all → Each (λ (it : Heard). is_open (history ++ new ∷ []) it.context ≡ true) all →
    (front : List Ready) → Each (IsIn (placed history 0 (front ++ life_tasks history new))) all
in_life history new all is_all open_each front =
    let cs = open_contexts (history ++ new ∷ []) in
    let more = deploy_ends history new ++ (undeploy_ends history new ++ stops history new) in
    let whole : life_tasks history new ≡ ready_outcomes all ++ open_ones cs more =
    ap (λ hs. open_ones cs (ready_outcomes hs ++ more)) is_all ∙ ready_open cs all more open_each in
    weaken (λ (it : Heard). list_any (λ (r : Ready). is_outcome_of it.request r.task) (ready_outcomes all) ≡ true) (IsIn (placed history 0 (front ++ life_tasks history new))) all
    (λ it found.
    any_placed history 0 (is_outcome_of it.request) (front ++ life_tasks history new)
    ∙ any_behind (λ (r : Ready). is_outcome_of it.request r.task) front (life_tasks history new)
    (ap (list_any (λ (r : Ready). is_outcome_of it.request r.task)) whole ∙ any_front (λ (r : Ready). is_outcome_of it.request r.task) (ready_outcomes all) (open_ones cs more) found))
    (each_ready all)

-- ## As time goes on

or_swap : (a b c : Bool) → (a || (b || c)) ≡ (b || (a || c))
or_swap true true c = refl
or_swap true false c = refl
or_swap false b c = refl

any_put : (p : Task → Bool) (due : Due) (others : List Due) → list_any (λ (d : Due). p d.task) (put_due due others) ≡ (p due.task || list_any (λ (d : Due). p d.task) others)
any_put p due [] = refl
any_put p due (other ∷ others) =
    elim (is_before due other) as (λ b. list_any (λ (d : Due). p d.task) (cond b (due ∷ other ∷ others) (other ∷ put_due due others)) ≡ (p due.task || (p other.task || list_any (λ (d : Due). p d.task) others))) [
      | true ↦ refl
      | false ↦ ap (λ b. p other.task || b) (any_put p due others) ∙ or_swap (p other.task) (p due.task) (list_any (λ (d : Due). p d.task) others)
    ]

any_in_order : (p : Task → Bool) (all : List Due) → list_any (λ (d : Due). p d.task) (in_order all) ≡ list_any (λ (d : Due). p d.task) all
any_in_order p [] = refl
any_in_order p (due ∷ others) = any_put p due (in_order others) ∙ ap (λ b. p due.task || b) (any_in_order p others)

any_due : (p : Task → Bool) (all : List Due) → list_any (λ (r : Ready). p r.task) (ready_due all) ≡ list_any (λ (d : Due). p d.task) all
any_due p [] = refl
any_due p (due ∷ others) = ap (λ b. p due.task || b) (any_due p others)

in_time : (history : List Traced) (pass : PassNo) (moment : ℕ) (deed : Deed) → Each (IsIn (placed history 0 (ready_due (dues history pass moment)))) (heard (settled_made history pass (calls.Advance moment) deed))
in_time history pass moment deed =
    let ups = settled_by history pass (calls.Advance moment) deed in
    let fires = map (due_fire (now history)) (firing history moment) in
    let all = filter_map due_request ups in
    let Found : Heard → Type 0 = λ it. list_any (λ (d : Due). is_outcome_of it.request d.task) all ≡ true in
    let OfSettled : Settled → Type 0 = λ s. (it : Heard) → IsHeardOf s it → Found it in
    weaken Found (IsIn (placed history 0 (ready_due (dues history pass moment)))) (heard (settled_made history pass (calls.Advance moment) deed))
    (λ it found.
    let p = is_outcome_of it.request in
    any_placed history 0 p (ready_due (dues history pass moment)) ∙ any_due p (dues history pass moment) ∙ any_in_order p (fires ++ all)
    ∙ any_behind (λ (d : Due). p d.task) fires all found)
    (Each-heard Found (settled_made history pass (calls.Advance moment) deed)
    (each_timed_out OfSettled history nothing_sent (by_due ups)
    (Each-by_due (AnyOutcome history OfSettled) ups
    (weaken (λ (request : Open). (due : Due) → due_request request ≡ Some due → Among due all) (AnyOutcome history OfSettled) ups
    (λ request gives outcome it is_heard.
    let asks : context_asking request.asker ≡ Some it.context = is_heard.context in
    among_any (λ (d : Due). is_outcome_of it.request d.task) (due_task request it.context) all (gives (due_task request it.context) (ap (option_map (due_task request)) asks))
    (ap (λ i. same_message i request.id) is_heard.request ∙ eq-eqb request.id.0.0 request.id.0.0 refl))
    (Each-unfilter_map (λ due. Among due all) due_request ups (all_among all))))))

-- ## All

-- the contexts that hear of requests that end as one closes are open behind it
abbrev HearOpen : List Traced → Traced → Call → Type 0
HearOpen history new call = may_close_one call ≡ true → Each (λ (it : Heard). is_open (history ++ new ∷ []) it.context ≡ true) (heard (settled_made history new.entry.pass call new.mark.deed))

made_waits : (history : List Traced) (new : Traced) (call : Call) → new.entry.call ≡ call → HearOpen history new call →
    Each (IsIn (item_by history new call)) (heard (settled_made history new.entry.pass call new.mark.deed))
made_waits history new (calls.Resume id) is_call open_each = tt
made_waits history new (calls.Fetch id count) is_call open_each = tt
made_waits history new (calls.Deploy worker pool tell count) is_call open_each = tt
made_waits history new (calls.Undeploy deployment tell) is_call open_each = tt
made_waits history new (calls.RunOn context once) is_call open_each = tt
made_waits history new (calls.Blocking context ordered once) is_call open_each = tt
made_waits history new (calls.Complete id value) is_call open_each = tt
made_waits history new (calls.FailPromise id code) is_call open_each = tt
made_waits history new (calls.Await context promise) is_call open_each = tt
made_waits history new (calls.Accepted id) is_call open_each = tt
made_waits history new (calls.StartDone result) is_call open_each =
    in_life history new (heard (settled_made history new.entry.pass (calls.StartDone result) new.mark.deed)) (ap (λ c. heard (settled_made history new.entry.pass c new.mark.deed)) is_call) (open_each refl) []
made_waits history new calls.StopDone is_call open_each =
    in_life history new (heard (settled_made history new.entry.pass calls.StopDone new.mark.deed)) (ap (λ c. heard (settled_made history new.entry.pass c new.mark.deed)) is_call) (open_each refl) []
made_waits history new (calls.Finish end) is_call open_each =
    in_life history new (heard (settled_made history new.entry.pass (calls.Finish end) new.mark.deed)) (ap (λ c. heard (settled_made history new.entry.pass c new.mark.deed)) is_call) (open_each refl)
    (open_ones (open_contexts history) (jobs_done end (jobs_ended history new.entry.pass (calls.Finish end))))
made_waits history new (calls.Advance moment) is_call open_each = in_time history new.entry.pass moment new.mark.deed
made_waits history new call is_call open_each =
    let front = delivered history (received history call new.mark.deed) (homes (readied history call new.mark.deed)) in
    let ended = heard (settled_made history new.entry.pass call new.mark.deed) in
    weaken (IsIn (outcome_items 0 ended)) (IsIn (front ++ outcome_items 0 ended)) ended (λ it found. any_behind (λ (item : Waiting). is_outcome_of it.request item.task) front (outcome_items 0 ended) found) (each_in 0 ended)

and_kept : (a b : Bool) → b ≡ false → (a && b) ≡ false
and_kept a b none = ap (λ c. a && c) none ∙ and_false a

asker_stays : (history : List Traced) (new : Traced) (request : Open) (context : ContextId) → context_asking request.asker ≡ Some context → not (closes_asker history new.entry.pass new.entry.call request.asker) ≡ true →
    closes history new.entry.pass new.entry.call context ≡ false
asker_stays history new request context asks stays = ap (λ b. b) (sym (closes_asked history new.entry.pass new.entry.call request.asker context asks)) ∙ not_true (closes_asker history new.entry.pass new.entry.call request.asker) stays

-- the contexts that hear of the requests that a closing settles are open behind it
pub hear_open : (history : List Traced) (new : Traced) → Each (λ (request : Open). AsksOpen history request.asker) (unsettled history) → HearOpen history new new.entry.call
hear_open history new asks may =
    let pass = new.entry.pass in
    let call = new.entry.call in
    let deed = new.mark.deed in
    let Open_ : Heard → Type 0 = λ it. is_open (history ++ new ∷ []) it.context ≡ true in
    let OfSettled : Settled → Type 0 = λ s. (it : Heard) → IsHeardOf s it → Open_ it in
    let Of : List Settled → Type 0 = λ all. Each Open_ (heard all) in
    subst Of (sym ((closing_one history pass call may).settled deed))
    (Each-heard Open_ _
    (each_settlement OfSettled history no_handlers _
    (Each-filter (λ (request : Open). AsksOpen history request.asker) (AnyOutcome history OfSettled) _ (settled_by history pass call deed)
    (λ request stays before outcome it is_heard.
    keeps_open history new it.context (and_kept (is_accepted new.entry.reply) _ (asker_stays history new request it.context is_heard.context stays)) (before it.context is_heard.context))
    (Each-filter (λ (request : Open). AsksOpen history request.asker) (λ (request : Open). AsksOpen history request.asker) (settles history pass call deed) (unsettled history) (λ request passes before. before) asks))))

-- ## Messages

or_false : (b : Bool) → (b || false) ≡ b
or_false true = refl
or_false false = refl

-- an entry that closes the context of a consumer ends its messages
closes_message : (history : List Traced) (closing : Option ContextId) (id : ConsumerId) (message : Message) (context : ContextId) → context_of history (tasks.Deliver id message) ≡ Some context → is_of_context context closing ≡ true →
    closes_task history closing (tasks.Deliver id message) ≡ true
closes_message history None id message context of closes = absurd cc
closes_message history (Some other) id message context of closes = ap (is_of_context other) of ∙ same_context-swap other context ∙ closes

-- an entry that ends a consumer ends its messages
ends_message : (history : List Traced) (pass : PassNo) (call : Call) (reply : Reply) (id : ConsumerId) (message : Message) (context : ContextId) → context_of history (tasks.Deliver id message) ≡ Some context →
    (ends_by_name call deeds.Nothing id || closes history pass call context) ≡ true → task_ended history pass call reply (tasks.Deliver id message) ≡ true
ends_message history pass (calls.Unregister other) reply id message context of ends = sym (or_false (same_consumer other id)) ∙ ends
ends_message history pass (calls.FrameIn conn frame) reply id message context of ends = absurd cc
ends_message history pass (calls.Take lane) reply id message context of ends = absurd cc
ends_message history pass calls.Close reply id message context of ends = refl
ends_message history pass (calls.StartDone result) reply id message context of ends = closes_message history (closing_by history pass (calls.StartDone result)) id message context of ends
ends_message history pass calls.StopDone reply id message context of ends = closes_message history (closing_by history pass calls.StopDone) id message context of ends
ends_message history pass (calls.Finish end) reply id message context of ends = closes_message history (closing_by history pass (calls.Finish end)) id message context of ends
ends_message history pass _ reply id message context of ends = absurd cc

-- a call that makes a message ends no consumer
ends_no_sender : (history : List Traced) (pass : PassNo) (call : Call) (deed : Deed) (message : Message) (id : ConsumerId) (context : ContextId) → received history call deed ≡ Some message →
    (ends_by_name call deeds.Nothing id || closes history pass call context) ≡ false
ends_no_sender history pass (calls.Unregister other) deed message id context made = absurd cc
ends_no_sender history pass calls.Close deed message id context made = absurd cc
ends_no_sender history pass (calls.StartDone result) deed message id context made = absurd cc
ends_no_sender history pass calls.StopDone deed message id context made = absurd cc
ends_no_sender history pass (calls.Finish end) deed message id context made = absurd cc
ends_no_sender history pass _ deed message id context made = refl

-- a live consumer of this name, and the context that it is of
pub record LivesFor (history : List Traced) (id : ConsumerId) : Type 0 where
  pub consumer : Consumer
  pub context : ContextId
  pub is_live : live history id ≡ Some consumer
  pub owned : consumer.owner ≡ owners.Context context

message_of_live : (history : List Traced) (id : ConsumerId) (message : Message) (lives : LivesFor history id) → context_of history (tasks.Deliver id message) ≡ Some lives.context
message_of_live history id message lives =
    let named : id ≡ lives.consumer.id = live_named history id lives.consumer lives.is_live in
    let found : IsLive history lives.consumer = ap (live history) (sym named) ∙ lives.is_live in
    owned_task history lives.consumer (tasks.Deliver id message) (live_registered history lives.consumer found) (ap (same_consumer lives.consumer.id) named ∙ same_consumer-self lives.consumer.id)
    ∙ ap context_owning lives.owned

keeps_live : (history : List Traced) (new : Traced) (id : ConsumerId) (lives : LivesFor history id) → new.mark ≡ no_mark →
    (is_accepted new.entry.reply && (ends_by_name new.entry.call deeds.Nothing id || closes history new.entry.pass new.entry.call lives.context)) ≡ false → LivesFor (history ++ new ∷ []) id
keeps_live history new id lives mark stays =
    let consumer = lives.consumer in
    let pass = new.entry.pass in
    let call = new.entry.call in
    let named : id ≡ consumer.id = live_named history id consumer lives.is_live in
    let kept : ended_by consumer_kind history new consumer ≡ false =
    ap (λ (m : Mark). is_accepted new.entry.reply && (ends_by_name call m.deed consumer.id || closes_owner history pass call m consumer.owner)) mark
    ∙ ap (λ o. is_accepted new.entry.reply && (ends_by_name call deeds.Nothing consumer.id || closes_owner history pass call no_mark o)) lives.owned
    ∙ ap (λ i. is_accepted new.entry.reply && (ends_by_name call deeds.Nothing i || closes history pass call lives.context)) (sym named)
    ∙ stays in
    record {
      consumer = consumer;
      context = lives.context;
      is_live = ap (find (is_named id)) (lasting-append consumer_kind history new)
          ∙ find_front (is_named id) _ (made_by consumer_kind history new) consumer
          (find_kept (is_named id) (λ c. not (ended_by consumer_kind history new c)) (consumers history) consumer lives.is_live (ap not kept));
      owned = lives.owned;
    }

-- ## Whose each is

-- a message is for a live consumer of a context, and an outcome waits
abbrev pub IsTold : List Traced → Task → Type 0
IsTold history (tasks.Deliver id message) = LivesFor history id
IsTold history (tasks.Outcome request outcome) = Waits history request
IsTold history _ = ⊥

not_ended : (b ends ended : Bool) → (ends ≡ true → ended ≡ true) → (b && ended) ≡ false → (b && ends) ≡ false
not_ended false ends ended so stays = refl
not_ended true false ended so stays = refl
not_ended true true ended so stays = sym (so refl) ∙ stays

keeps_told : (history : List Traced) (new : Traced) (task : Task) → new.mark ≡ no_mark → ended_by task_kind history new task ≡ false → IsTold history task → IsTold (history ++ new ∷ []) task
keeps_told history new (tasks.Deliver id message) mark stays lives =
    keeps_live history new id lives mark
    (not_ended (is_accepted new.entry.reply) _ _ (ends_message history new.entry.pass new.entry.call new.entry.reply id message lives.context (message_of_live history id message lives)) stays)
keeps_told history new (tasks.Outcome request outcome) mark stays waits = keeps_waiting history new request outcome stays waits
keeps_told history new _ mark stays told = absurd told

each_heard_told : (after : List Traced) (all : List Heard) → Each (λ (it : Heard). Waits after it.request) all → Each (IsTold after) (outcome_tasks all)
each_heard_told after [] waits = tt
each_heard_told after (it ∷ others) waits = (waits.0, each_heard_told after others waits.1)

new_told : (history : List Traced) (new : Traced) → is_accepted new.entry.reply ≡ true → AreStored (history ++ new ∷ []) → IsLegal (history ++ new ∷ []) → Each (IsTold (history ++ new ∷ [])) (task_made history new.entry.pass new.entry.call new.mark.deed)
new_told history new ok stored legal =
    let after = history ++ new ∷ [] in
    let pass = new.entry.pass in
    let call = new.entry.call in
    let deed = new.mark.deed in
    let before = stored_front history (new ∷ []) stored in
    let waits : Each (λ (it : Heard). Waits after it.request) (heard (settled_made history pass call deed)) =
    weaken (IsIn (item_made history new)) (λ (it : Heard). Waits after it.request) (heard (settled_made history pass call deed))
    (λ it found.
    let p = λ (item : Waiting). is_outcome_of it.request item.task in
    ap (list_any p) (lasting-append item_kind history new)
    ∙ any_behind p (filter (λ item. not (ended_by item_kind history new item)) (waiting history)) (made_by item_kind history new) (ap (λ b. list_any p (cond b (item_made history new) [])) ok ∙ found))
    (made_waits history new call refl (hear_open history new (askers_open history (legal_front history (new ∷ []) legal)))) in
    Each-append (IsTold after) (delivery_tasks (received history call deed) (homes (accepting history call deed))) (outcome_tasks (heard (settled_made history pass call deed)))
    (each_delivery (IsTold after) (received history call deed) (homes (accepting history call deed))
    (λ message is_message.
    Each-homes (λ (home : Home). LivesFor after home.consumer.id) (accepting history call deed)
    (weaken (IsLive history) (λ consumer. (home : Home) → IsHomeOf consumer home → LivesFor after home.consumer.id) (accepting history call deed)
    (λ consumer is_live home is_home.
    let of = live_of_context history consumer before is_live in
    let lives : LivesFor history consumer.id = record { consumer = consumer; context = of.0; is_live = is_live; owned = of.1 } in
    let Lives : ConsumerId → Type 0 = LivesFor after in
    subst Lives (sym (ap (λ (c : Consumer). c.id) is_home.consumer))
    (keeps_live history new consumer.id lives (stored_last history new stored).mark
    (and_kept (is_accepted new.entry.reply) _ (ends_no_sender history pass call deed message consumer.id of.0 is_message))))
    (accepting_live history call deed))))
    (each_heard_told after (heard (settled_made history pass call deed)) waits)

abbrev ToldIn : List Traced → Task → Type 0
ToldIn history task = AreStored history × IsLegal history → IsTold history task

-- in a legal history of calls whose effects the stores keep
pub untaken_told : (history : List Traced) → AreStored history → IsLegal history → Each (IsTold history) (untaken history)
untaken_told history stored legal =
    weaken (ToldIn history) (IsTold history) (untaken history) (λ task so. so (stored, legal))
    (lasting_each task_kind ToldIn
    (λ h new task stays before both. keeps_told h new task (stored_last h new both.0).mark stays (before (stored_front h (new ∷ []) both.0, legal_front h (new ∷ []) both.1)))
    (λ h new. accepted (ToldIn (h ++ new ∷ [])) (is_accepted new.entry.reply) _
    (λ ok. stores.under (AreStored (h ++ new ∷ []) × IsLegal (h ++ new ∷ [])) (IsTold (h ++ new ∷ [])) (task_made h new.entry.pass new.entry.call new.mark.deed) (λ both. new_told h new ok both.0 both.1))) history)

-- ## So the tasks of contexts are told from the live consumers and from what waits

abbrev pub owner_in : (ContextId → Bool) → Owner → Bool
owner_in gone (owners.Context context) = gone context
owner_in gone _ = false

abbrev pub live_owner_in : (ContextId → Bool) → Option Consumer → Bool
live_owner_in gone None = false
live_owner_in gone (Some consumer) = owner_in gone consumer.owner

-- whether a task is of one of these contexts, as far as the live consumers and the waiting items tell
abbrev pub is_task_in : (ContextId → Bool) → List Traced → Task → Bool
is_task_in gone history (tasks.Deliver id message) = live_owner_in gone (live history id)
is_task_in gone history (tasks.Outcome request outcome) = list_any (λ (item : Waiting). is_outcome_of request item.task && gone item.context) (waiting history)
is_task_in gone history _ = false

abbrev pub is_in : (ContextId → Bool) → Option ContextId → Bool
is_in gone None = false
is_in gone (Some context) = gone context

asked_by : (history : List Traced) (id : MessageId) (context : ContextId) (task : Task) → context_of history task ≡ Some context → is_outcome_of id task ≡ true → asker history id ≡ Some context
asked_by history id context (tasks.Outcome request outcome) of mine = ap (asker history) (same_id id request mine) ∙ of
asked_by history id context _ of mine = absurd cc

absorbed : (of rest : Bool) → (of || (of && rest)) ≡ (of && true)
absorbed true rest = refl
absorbed false rest = refl

and_true : (b : Bool) → (b && true) ≡ b
and_true true = refl
and_true false = refl

any_in : (gone : ContextId → Bool) (history : List Traced) (id : MessageId) (items : List Waiting) → Each (IsOwned history) items →
    list_any (λ (item : Waiting). is_outcome_of id item.task && gone item.context) items ≡ (is_in gone (asker history id) && list_any (λ (item : Waiting). is_outcome_of id item.task) items)
any_in gone history id [] owned = sym (and_false (is_in gone (asker history id)))
any_in gone history id (item ∷ others) owned =
    let rest = list_any (λ (other : Waiting). is_outcome_of id other.task) others in
    let all = list_any (λ (other : Waiting). is_outcome_of id other.task && gone other.context) others in
    let of = is_in gone (asker history id) in
    elim (is_outcome_of id item.task) as (λ b. is_outcome_of id item.task ≡ b → ((b && gone item.context) || all) ≡ (of && (b || rest))) [
      | true ↦ λ mine.
          (let same : gone item.context ≡ of = sym (ap (is_in gone) (asked_by history id item.context item.task owned.0 mine)) in
          ap (λ b. b || all) same ∙ ap (λ b. of || b) (any_in gone history id others owned.1) ∙ absorbed of rest)
      | false ↦ λ other. any_in gone history id others owned.1
    ] refl

-- so whether its context is one of these is told
pub told_in : (gone : ContextId → Bool) (history : List Traced) (task : Task) → IsTold history task → is_task_in gone history task ≡ is_in gone (context_of history task)
told_in gone history (tasks.Deliver id message) lives =
    ap (live_owner_in gone) lives.is_live ∙ ap (owner_in gone) lives.owned ∙ sym (ap (is_in gone) (message_of_live history id message lives))
told_in gone history (tasks.Outcome request outcome) waits =
    any_in gone history request (waiting history) (waiting_owned history) ∙ ap (λ b. is_in gone (asker history request) && b) waits ∙ and_true (is_in gone (asker history request))
told_in gone history _ told = absurd told

found_asker : (history : List Traced) (id : MessageId) (items : List Waiting) → Each (IsOwned history) items → list_any (λ (item : Waiting). is_outcome_of id item.task) items ≡ true → (context : ContextId) × (asker history id ≡ Some context)
found_asker history id [] owned found = absurd cc
found_asker history id (item ∷ others) owned found =
    elim (is_outcome_of id item.task) as (λ b. is_outcome_of id item.task ≡ b → (b || list_any (λ (other : Waiting). is_outcome_of id other.task) others) ≡ true → (context : ContextId) × (asker history id ≡ Some context)) [
      | true ↦ λ mine here. (item.context, asked_by history id item.context item.task owned.0 mine)
      | false ↦ λ other later. found_asker history id others owned.1 later
    ] refl found

-- each is of a context
pub told_context : (history : List Traced) (task : Task) → IsTold history task → (context : ContextId) × (context_of history task ≡ Some context)
told_context history (tasks.Deliver id message) lives = (lives.context, message_of_live history id message lives)
told_context history (tasks.Outcome request outcome) waits = found_asker history request (waiting history) (waiting_owned history) waits
told_context history _ told = absurd told
