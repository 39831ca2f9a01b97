-- What became of a message that a consumer accepted: it was taken, or is there, or the consumer has ended.
use Rattle.std.proofs.Common.{◌≡◌, ℕ, ◌<◌, ◌≤◌, List, [], ◌∷◌, ◌++◌, length, refl, ap, sym, ◌∙◌, arith}
use Rattle.std.proofs.Common.{inl, inr}
use Rattle.std.specs.Prelude.{◌≢◌, ◌⊎◌, Bool, true, false, not, ◌&&◌, cond, filter, find, is_some, Option, None, Some}
use Rattle.std.specs.Option.{option_or, option_map, option_and_then}
use Rattle.std.specs.List.{cons_option}
use Rattle.std.proofs.lemmas.Bool.{and_parts, or_left, or_right, eq-eqb}
use Rattle.std.proofs.lemmas.List.{length_push}
use Rattle.std.proofs.lemmas.List.Folds.{find-append}
use Rattle.vx_data.specs.declared.ids.ConsumerId.{ConsumerId}
use Rattle.vx_data.specs.declared.ids.ContextId.{ContextId}
use Rattle.vx_data.specs.declared.ids.MessageId.{MessageId}
use Rattle.vx_data.specs.declared.ids.PassNo.{PassNo}
use Rattle.vx_data.specs.Ids.{same_consumer, same_message}
use Rattle.vx_message.specs.declared.Lane.{Lane}
use Rattle.vx_message.specs.declared.Message.{Message}
use Rattle.vx_call.specs.declared.call.Call.{Call}
use Rattle.vx_call.specs.declared.call.Call.TheVariants as calls
use Rattle.vx_call.specs.declared.reply.Reply.{Reply}
use Rattle.vx_call.specs.declared.reply.Reply.TheVariants as replies
use Rattle.vx_call.specs.declared.reply.Task.{Task}
use Rattle.vx_call.specs.declared.reply.Task.TheVariants as tasks
use Rattle.vx_call.specs.declared.history.Consumer.{Consumer}
use Rattle.vx_call.specs.declared.history.Deed.{Deed}
use Rattle.vx_call.specs.declared.history.Deed.TheVariants as deeds
use Rattle.vx_call.specs.declared.history.Traced.{Traced}
use Rattle.vx_call.specs.History.{is_accepted, made_by, ended_by}
use Rattle.vx_call.specs.Names.{next_message}
use Rattle.vx_call.specs.Owners.{context_owning}
use Rattle.vx_call.specs.Given.{context_of}
use Rattle.vx_call.specs.Held.{is_of_context}
use Rattle.vx_call.specs.Closings.{closing_by, closes}
use Rattle.vx_call.specs.Homes.{Home, homes, heard}
use Rattle.vx_call.specs.Consumers.{ends_by_name, closes_owner, ends, consumer_kind}
use Rattle.vx_call.specs.Registered.{is_named, consumer_made, registered_kind, registered}
use Rattle.vx_call.specs.Messages.{received}
use Rattle.vx_call.specs.Arrivals.{addressed}
use Rattle.vx_call.specs.Mailboxes as mailboxes
use Rattle.vx_call.specs.Mailboxes.{accepting}
use Rattle.vx_call.specs.Accepted.{accepted_made, accepted_kind, accepted}
use Rattle.vx_call.specs.Settled.{settled_made}
use Rattle.vx_call.specs.Kinds.{hands_out, same_task}
use Rattle.vx_call.specs.Items.{is_for, delivery_tasks, outcome_tasks, closes_task, task_kind, task_made, task_ended, untaken}
use Rattle.vx_call.proofs.Lasting.{lasting-append}
use Rattle.vx_call.proofs.Each as each
use Rattle.vx_call.proofs.Each.{Each, Each-find, weaken, lasting_each}
use Rattle.vx_call.proofs.Contexts.{same_context-swap}
use Rattle.vx_call.proofs.Homes.{context_owner}
use Rattle.vx_call.proofs.Registered.{registered-append, live_registered, owned_task, context_that}
use Rattle.vx_call.proofs.Found.{find_front, find_kept, find_passes, find_none, earlier_name}
use Rattle.vx_call.proofs.Messages.{received_id}
use Rattle.vx_call.proofs.Consumers.{IsLive, same_consumer-true, live_earlier, live_came}
use Rattle.vx_call.proofs.Arrivals.{accepting_live}
use Rattle.vx_call.proofs.Tasks.{deliver}
use Rattle.vx_laws.specs.Order.{IsTakenBefore}
use Rattle.vx_laws.proofs.Splits.{slice_get-at, slice_get-front}
use Rattle.vx_laws.proofs.Taken.{same_message-true}

-- whether it is the task that hands this message to this consumer
abbrev pub is_message : ConsumerId → MessageId → Task → Bool
is_message id named (tasks.Deliver consumer message) = same_consumer id consumer && same_message named message.id
is_message id named _ = false

-- the message was accepted and not taken
abbrev pub IsThere : List Traced → ConsumerId → MessageId → Type 0
IsThere history id named = (task : Task) × (find (is_message id named) (untaken history) ≡ Some task)

-- no live consumer has this name
abbrev pub IsOver : List Traced → ConsumerId → Type 0
IsOver history id = (consumer : Consumer) → IsLive history consumer → consumer.id ≢ id

abbrev pub Became : List Traced → ConsumerId → MessageId → Type 0
Became history id named = IsTakenBefore history (length history) id named ⊎ (IsThere history id named ⊎ IsOver history id)

-- ## After one more entry

pub taken_on : (history after : List Traced) (number later : ℕ) (id : ConsumerId) (named : MessageId) → number ≤ later → IsTakenBefore history number id named → IsTakenBefore (history ++ after) later id named
taken_on history after number later id named le taken = record {
  index = taken.index;
  earlier = (let lt : taken.index < number = taken.earlier in omega arith);
  lane = taken.lane;
  message = taken.message;
  takes = record { entry = taken.takes.entry; is_there = slice_get-front history after taken.index taken.takes.entry taken.takes.is_there; called = taken.takes.called; replied = taken.takes.replied };
  same = taken.same;
}

over_on : (history : List Traced) (new : Traced) (id : ConsumerId) → id.0.0 < length history → IsOver history id → IsOver (history ++ new ∷ []) id
over_on history new id earlier over consumer is_live is_id =
    elim (live_came history new consumer is_live) as (λ _. ⊥) [
      | inl stays ↦ over consumer stays.was is_id
      | inr is_new ↦ (let e = ap (λ (i : ConsumerId). i.0.0) is_id in absurd (omega arith))
    ]

-- what is the same task as the one that hands this message to this consumer does so too
given_same : (id : ConsumerId) (named : MessageId) (given task : Task) → same_task given task ≡ true → is_message id named task ≡ true → (message : Message) × (given ≡ tasks.Deliver id message) × (message.id ≡ named)
given_same id named (tasks.Deliver consumer message) (tasks.Deliver other another) same is =
    let left = and_parts (same_consumer consumer other) (same_message message.id another.id) same in
    let right = and_parts (same_consumer id other) (same_message named another.id) is in
    let consumers : consumer ≡ id = same_consumer-true consumer other left.0 ∙ sym (same_consumer-true id other right.0) in
    (message, ap (λ c. tasks.Deliver c message) consumers, same_message-true message.id another.id left.1 ∙ sym (same_message-true named another.id right.1))
given_same id named _ (tasks.Deliver other another) same is = absurd cc
given_same id named given _ same is = absurd cc

handed_by : (reply : Reply) (task : Task) → hands_out reply task ≡ true → (given : Task) × (reply ≡ replies.Task given) × (same_task given task ≡ true)
handed_by (replies.Task given) task hands = (given, refl, hands)
handed_by _ task hands = absurd cc

taken_now : (history : List Traced) (new : Traced) (lane : Lane) (id : ConsumerId) (named : MessageId) (task : Task) → new.entry.call ≡ calls.Take lane → hands_out new.entry.reply task ≡ true → is_message id named task ≡ true →
    IsTakenBefore (history ++ new ∷ []) (length (history ++ new ∷ [])) id named
taken_now history new lane id named task is_call hands is =
    let given = handed_by new.entry.reply task hands in
    let same = given_same id named given.0 task given.2 is in
    record {
      index = length history;
      earlier = (let longer = length_push history new in omega arith);
      lane = lane;
      message = same.0;
      takes = record { entry = new; is_there = slice_get-at history [] new; called = is_call; replied = given.1 ∙ ap (λ t. replies.Task t) same.1 };
      same = same.2;
    }

for_named : (id other : ConsumerId) (named : MessageId) (task : Task) → is_for other task ≡ true → is_message id named task ≡ true → other ≡ id
for_named id other named (tasks.Deliver consumer message) mine is =
    same_consumer-true other consumer mine ∙ sym (same_consumer-true id consumer (and_parts (same_consumer id consumer) (same_message named message.id) is).0)
for_named id other named _ mine is = absurd cc

-- ## Of a context

-- the consumer of this name was registered by a context
abbrev pub IsOfContext : List Traced → ConsumerId → Type 0
IsOfContext history id = (context : ContextId) × (option_and_then context_that (find (is_named id) (registered history)) ≡ Some context)

made_keyed : (history : List Traced) (call : Call) (deed : Deed) → Each (λ (c : Consumer). c.id.0.0 ≡ length history) (consumer_made history call deed)
made_keyed history (calls.Register context address limit) deed = (refl, tt)
made_keyed history (calls.FrameIn conn frame) (deeds.Registers address) = (refl, tt)
made_keyed history (calls.FrameIn conn frame) _ = tt
made_keyed history _ deed = tt

none_or : {X : Type 0} (o : Option X) → option_or o None ≡ o
none_or None = refl
none_or (Some x) = refl

of_before : (history : List Traced) (new : Traced) (id : ConsumerId) → id.0.0 < length history → IsOfContext (history ++ new ∷ []) id → IsOfContext history id
of_before history new id earlier of =
    let made = made_by registered_kind history new in
    let none : find (is_named id) made ≡ None =
    find_none (is_named id) made
    (weaken (λ (c : Consumer). c.id.0.0 ≡ length history) (λ c. is_named id c ≡ false) made (λ c keyed. earlier_name id.0.0 c.id.0.0 (omega arith))
    (each.accepted (λ (c : Consumer). c.id.0.0 ≡ length history) (is_accepted new.entry.reply) (consumer_made history new.entry.call new.mark.deed) (λ ok. made_keyed history new.entry.call new.mark.deed))) in
    let same : find (is_named id) (registered (history ++ new ∷ [])) ≡ find (is_named id) (registered history) =
    ap (find (is_named id)) (registered-append history new) ∙ find-append (is_named id) (registered history) made ∙ ap (option_or (find (is_named id) (registered history))) none
    ∙ none_or (find (is_named id) (registered history)) in
    (of.0, sym (ap (option_and_then context_that) same) ∙ of.1)

of_owner : (history : List Traced) (consumer : Consumer) (id : ConsumerId) → IsLive history consumer → consumer.id ≡ id → (of : IsOfContext history id) → context_owning consumer.owner ≡ Some of.0
of_owner history consumer id is_live is_id of =
    sym (ap (option_and_then context_that) (live_registered history consumer is_live)) ∙ ap (λ i. option_and_then context_that (find (is_named i) (registered history))) is_id ∙ of.1

-- ## An entry that ends the task

message_for : (id : ConsumerId) (named : MessageId) (task : Task) → is_message id named task ≡ true → is_for id task ≡ true
message_for id named (tasks.Deliver consumer message) is = (and_parts (same_consumer id consumer) (same_message named message.id) is).0
message_for id named _ is = absurd cc

over_so : (history : List Traced) (new : Traced) (id : ConsumerId) → id.0.0 < length history → is_accepted new.entry.reply ≡ true →
    ((consumer : Consumer) → IsLive history consumer → consumer.id ≡ id → ends history new.entry.pass new.entry.call new.mark consumer ≡ true) → IsOver (history ++ new ∷ []) id
over_so history new id earlier ok ended consumer is_live is_id =
    elim (live_came history new consumer is_live) as (λ _. ⊥) [
      | inl stays ↦
          (let yes : ended_by consumer_kind history new consumer ≡ true = ap (λ b. b && ends history new.entry.pass new.entry.call new.mark consumer) ok ∙ ended consumer stays.was is_id in
          let no = stays.stays in cc)
      | inr is_new ↦ (let e = ap (λ (i : ConsumerId). i.0.0) is_id in absurd (omega arith))
    ]

closing_so : (history : List Traced) (closing : Option ContextId) (task : Task) (context : ContextId) → context_of history task ≡ Some context → closes_task history closing task ≡ true → is_of_context context closing ≡ true
closing_so history None task context owned ended = absurd cc
closing_so history (Some c) task context owned ended = same_context-swap context c ∙ sym (ap (is_of_context c) owned) ∙ ended

-- it goes with its context
over_closed : (history : List Traced) (new : Traced) (call : Call) (id : ConsumerId) (named : MessageId) (task : Task) → id.0.0 < length history → is_accepted new.entry.reply ≡ true → new.entry.call ≡ call →
    is_message id named task ≡ true → IsOfContext history id → ((context : ContextId) → context_of history task ≡ Some context → closes history new.entry.pass call context ≡ true) → IsOver (history ++ new ∷ []) id
over_closed history new call id named task earlier ok is_call is of closing =
    over_so history new id earlier ok
    (λ consumer is_live is_id.
    (let owns = of_owner history consumer id is_live is_id of in
    let mine : is_for consumer.id task ≡ true = ap (λ i. is_for i task) is_id ∙ message_for id named task is in
    let owned : context_of history task ≡ Some of.0 = owned_task history consumer task (live_registered history consumer is_live) mine ∙ owns in
    or_right (ends_by_name new.entry.call new.mark.deed consumer.id) (closes_owner history new.entry.pass new.entry.call new.mark consumer.owner)
    (ap (closes_owner history new.entry.pass new.entry.call new.mark) (context_owner consumer.owner of.0 owns) ∙ ap (λ c. closes history new.entry.pass c of.0) is_call ∙ closing of.0 owned)))

over_named : (history : List Traced) (new : Traced) (id : ConsumerId) → id.0.0 < length history → is_accepted new.entry.reply ≡ true → new.entry.call ≡ calls.Unregister id → IsOver (history ++ new ∷ []) id
over_named history new id earlier ok is_call =
    over_so history new id earlier ok
    (λ consumer is_live is_id.
    or_left (ends_by_name new.entry.call new.mark.deed consumer.id) (closes_owner history new.entry.pass new.entry.call new.mark consumer.owner)
    (ap (λ c. ends_by_name c new.mark.deed consumer.id) is_call ∙ ap (same_consumer id) is_id ∙ eq-eqb id.0.0 id.0.0 refl))

-- an entry that ends the task is a Take that hands it out, or ends the consumer
ended_so : (history : List Traced) (new : Traced) (call : Call) (id : ConsumerId) (named : MessageId) (task : Task) → id.0.0 < length history → is_accepted new.entry.reply ≡ true → new.entry.call ≡ call →
    task_ended history new.entry.pass call new.entry.reply task ≡ true → is_message id named task ≡ true → IsOfContext history id → Became (history ++ new ∷ []) id named
ended_so history new (calls.Take lane) id named task earlier ok is_call ended is of = inl (taken_now history new lane id named task is_call ended is)
ended_so history new (calls.Unregister other) id named task earlier ok is_call ended is of =
    inr (inr (over_named history new id earlier ok (is_call ∙ ap (λ i. calls.Unregister i) (for_named id other named task ended is))))
ended_so history new calls.Close id named task earlier ok is_call ended is of = inr (inr (over_closed history new calls.Close id named task earlier ok is_call is of (λ context owned. refl)))
ended_so history new (calls.StartDone result) id named task earlier ok is_call ended is of =
    inr (inr (over_closed history new (calls.StartDone result) id named task earlier ok is_call is of (λ context owned. closing_so history (closing_by history new.entry.pass (calls.StartDone result)) task context owned ended)))
ended_so history new calls.StopDone id named task earlier ok is_call ended is of =
    inr (inr (over_closed history new calls.StopDone id named task earlier ok is_call is of (λ context owned. closing_so history (closing_by history new.entry.pass calls.StopDone) task context owned ended)))
ended_so history new (calls.Finish end) id named task earlier ok is_call ended is of =
    inr (inr (over_closed history new (calls.Finish end) id named task earlier ok is_call is of (λ context owned. closing_so history (closing_by history new.entry.pass (calls.Finish end)) task context owned ended)))
ended_so history new _ id named task earlier ok is_call ended is of = absurd cc

there_on : (history : List Traced) (new : Traced) (id : ConsumerId) (named : MessageId) → id.0.0 < length history → IsOfContext history id → IsThere history id named → Became (history ++ new ∷ []) id named
there_on history new id named earlier of there =
    let task : Task = there.0 in
    let test = is_message id named in
    let kept = λ (t : Task). not (ended_by task_kind history new t) in
    let b = is_accepted new.entry.reply in
    let ends_it = task_ended history new.entry.pass new.entry.call new.entry.reply task in
    elim (ended_by task_kind history new task) as (λ e. ended_by task_kind history new task ≡ e → Became (history ++ new ∷ []) id named) [
      | true ↦ λ ended.
          (let both = and_parts b ends_it ended in
          ended_so history new new.entry.call id named task earlier both.0 refl both.1 (find_passes test (untaken history) task there.1) of)
      | false ↦ λ stays.
          inr (inl (
            task,
            ap (find test) (lasting-append task_kind history new)
                ∙ find_front test (filter kept (untaken history)) (made_by task_kind history new) task (find_kept test kept (untaken history) task there.1 (ap not stays)),
          ))
    ] refl

-- the consumer's name is that of an entry before, and this became of the message, where the consumer is of a context
abbrev pub Fate : ConsumerId → List Traced → MessageId → Type 0
Fate id history named = (id.0.0 < length history) × (IsOfContext history id → Became history id named)

became_on : (id : ConsumerId) (history : List Traced) (new : Traced) (named : MessageId) → id.0.0 < length history → IsOfContext history id → Became history id named → Became (history ++ new ∷ []) id named
became_on id history new named earlier of became =
    let longer = length_push history new in
    elim became as (λ _. Became (history ++ new ∷ []) id named) [
      | inl taken ↦ inl (taken_on history (new ∷ []) (length history) (length (history ++ new ∷ [])) id named (omega arith) taken)
      | inr left ↦
          (elim left as (λ _. Became (history ++ new ∷ []) id named) [
            | inl there ↦ there_on history new id named earlier of there
            | inr over ↦ inr (inr (over_on history new id earlier over))
          ])
    ]

fate_on : (id : ConsumerId) (history : List Traced) (new : Traced) (named : MessageId) → Fate id history named → Fate id (history ++ new ∷ []) named
fate_on id history new named fate =
    let longer = length_push history new in
    let earlier = fate.0 in
    (omega arith, λ of. (let before = of_before history new id earlier of in became_on id history new named earlier before (fate.1 before)))

-- ## As it is accepted

some_either : {X : Type 0} (first second : Option X) → is_some second ≡ true → (x : X) × (option_or first second ≡ Some x)
some_either (Some x) second h = (x, refl)
some_either None (Some x) h = (x, refl)
some_either None None h = absurd cc

-- those of this name are of contexts
abbrev AreHome : ConsumerId → List Consumer → Type 0
AreHome id all = Each (λ (c : Consumer). same_consumer id c.id ≡ true → (context : ContextId) × (context_owning c.owner ≡ Some context)) all

made_among : (id : ConsumerId) (named : MessageId) (message : Message) (all : List Consumer) (others : List Task) → message.id ≡ named → AreHome id all → is_some (find (is_named id) all) ≡ true →
    is_some (find (is_message id named) (delivery_tasks (Some message) (homes all) ++ others)) ≡ true
made_among id named message [] others is at_home some = absurd cc
made_among id named message (consumer ∷ rest) others is at_home some =
    let test = is_message id named in
    let tasks_of : List Home → List Task = λ hs. delivery_tasks (Some message) hs ++ others in
    let later : is_some (find (is_named id) rest) ≡ true → is_some (find test (tasks_of (homes rest))) ≡ true = made_among id named message rest others is at_home.1 in
    elim (context_owning consumer.owner) as (λ o. ((same_consumer id consumer.id ≡ true) → (context : ContextId) × (o ≡ Some context)) →
    is_some (find test (tasks_of (cons_option (option_map (λ context. record { consumer = consumer; context = context }) o) (homes rest)))) ≡ true) [
      | None ↦ λ mine.
          (elim (same_consumer id consumer.id) as (λ b. same_consumer id consumer.id ≡ b → is_some (cond b (Some consumer) (find (is_named id) rest)) ≡ true → is_some (find test (tasks_of (homes rest))) ≡ true) [
            | true ↦ λ same here. (let no = (mine same).1 in absurd cc)
            | false ↦ λ differs there. later there
          ] refl some)
      | Some context ↦ λ mine.
          (elim (same_consumer id consumer.id) as (λ b. is_some (cond b (Some consumer) (find (is_named id) rest)) ≡ true → is_some (cond (b && same_message named message.id) (Some (deliver message consumer)) (find test (tasks_of (homes rest)))) ≡ true) [
            | true ↦ λ here. ap (λ b. is_some (cond b (Some (deliver message consumer)) (find test (tasks_of (homes rest))))) (eq-eqb named.0.0 message.id.0.0 (ap (λ (m : MessageId). m.0.0) (sym is)))
            | false ↦ λ there. later there
          ] some)
    ] at_home.0

-- the entry makes the task that hands the message to a consumer that accepts it
made_found : (history : List Traced) (pass : PassNo) (call : Call) (deed : Deed) (id : ConsumerId) → AreHome id (accepting history call deed) → is_some (find (is_named id) (accepting history call deed)) ≡ true →
    is_some (find (is_message id (next_message history)) (task_made history pass call deed)) ≡ true
made_found history pass call deed id at_home accepts =
    let named = next_message history in
    let passes = λ (consumer : Consumer). mailboxes.is_accepted (mailboxes.arrival_at history consumer) in
    let all : Option Message → List Consumer = λ o. filter passes (cond (is_some o) (addressed history call deed) []) in
    let ended = outcome_tasks (heard (settled_made history pass call deed)) in
    elim (received history call deed) as (λ o. received history call deed ≡ o → AreHome id (all o) → is_some (find (is_named id) (all o)) ≡ true → is_some (find (is_message id named) (delivery_tasks o (homes (all o)) ++ ended)) ≡ true) [
      | None ↦ λ none are some. absurd cc
      | Some message ↦ λ is are some. made_among id named message (all (Some message)) ended (received_id history call deed message is) are some
    ] refl at_home accepts

there_now : (history : List Traced) (new : Traced) (id : ConsumerId) → is_accepted new.entry.reply ≡ true → IsOfContext history id → is_some (find (is_named id) (accepting history new.entry.call new.mark.deed)) ≡ true →
    IsThere (history ++ new ∷ []) id (next_message history)
there_now history new id ok of accepts =
    let test = is_message id (next_message history) in
    let call = new.entry.call in
    let deed = new.mark.deed in
    let old = filter (λ task. not (ended_by task_kind history new task)) (untaken history) in
    let made = task_made history new.entry.pass call deed in
    let at_home : AreHome id (accepting history call deed) =
    weaken (IsLive history) (λ (c : Consumer). same_consumer id c.id ≡ true → (context : ContextId) × (context_owning c.owner ≡ Some context)) (accepting history call deed)
    (λ c is_live same. (of.0, of_owner history c id is_live (sym (same_consumer-true id c.id same)) of)) (accepting_live history call deed) in
    let some = some_either (find test old) (find test made) (made_found history new.entry.pass call deed id at_home accepts) in
    (some.0, ap (find test) (lasting-append task_kind history new) ∙ ap (λ b. find test (old ++ cond b made [])) ok ∙ find-append test old made ∙ some.1)

named_earlier : (history : List Traced) (call : Call) (deed : Deed) (id : ConsumerId) → is_some (find (is_named id) (accepting history call deed)) ≡ true → id.0.0 < length history
named_earlier history call deed id accepts =
    let all = accepting history call deed in
    let some = some_either None (find (is_named id) all) accepts in
    let consumer : Consumer = some.0 in
    let is_live = Each-find (IsLive history) (is_named id) all consumer (accepting_live history call deed) some.1 in
    let same = same_consumer-true id consumer.id (find_passes (is_named id) all consumer some.1) in
    let e = ap (λ (i : ConsumerId). i.0.0) same in
    let earlier = live_earlier history consumer is_live in
    omega arith

fate_now : (id : ConsumerId) (history : List Traced) (new : Traced) → Each (Fate id (history ++ new ∷ [])) (made_by (accepted_kind id) history new)
fate_now id history new =
    let after = history ++ new ∷ [] in
    let call = new.entry.call in
    let deed = new.mark.deed in
    each.accepted (Fate id after) (is_accepted new.entry.reply) (accepted_made id history call deed)
    (λ ok. elim (is_some (find (is_named id) (accepting history call deed))) as (λ b. is_some (find (is_named id) (accepting history call deed)) ≡ b → Each (Fate id after) (cond b (next_message history ∷ []) [])) [
      | true ↦ λ accepts.
          (let longer = length_push history new in
          let earlier = named_earlier history call deed id accepts in
          ((omega arith, λ of. inr (inl (there_now history new id ok (of_before history new id earlier of) accepts))), tt))
      | false ↦ λ none. tt
    ] refl)

-- what became of each message that a consumer accepted
pub accepted_became : (history : List Traced) (id : ConsumerId) → Each (Fate id history) (accepted history id)
accepted_became history id = lasting_each (accepted_kind id) (Fate id) (λ h new named stays fate. fate_on id h new named fate) (fate_now id) history
