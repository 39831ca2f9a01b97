-- What Takes give out.
use Rattle.std.proofs.Common.{◌≡◌, ℕ, ◌<◌, List, [], ◌∷◌, ◌++◌, length, refl, ap, sym, ◌∙◌, subst, arith}
use Rattle.std.specs.Prelude.{◌≢◌, true, false, cond, find, is_some, Option, None, Some}
use Rattle.std.proofs.lemmas.List.{length_push, length-append}
use Rattle.vx_data.specs.declared.ids.ContextId.{ContextId}
use Rattle.vx_data.specs.declared.ids.MessageId.{MessageId}
use Rattle.vx_data.specs.Ids.{same_message}
use Rattle.vx_message.specs.declared.Given.{Given}
use Rattle.vx_message.specs.declared.Lane.{Lane}
use Rattle.vx_message.specs.declared.Outcome.TheVariants as outcomes
use Rattle.vx_call.specs.declared.call.Call.{Call}
use Rattle.vx_call.specs.declared.call.Call.TheVariants as calls
use Rattle.vx_call.specs.declared.reply.Reply.{Reply}
use Rattle.vx_call.specs.declared.reply.Reply.TheVariants as replies
use Rattle.vx_call.specs.declared.reply.Task.{Task}
use Rattle.vx_call.specs.declared.reply.Task.TheVariants as tasks
use Rattle.vx_call.specs.declared.history.Traced.{Traced}
use Rattle.vx_call.specs.History.{is_accepted, made_by, lasting}
use Rattle.vx_call.specs.Names.{next_message}
use Rattle.vx_call.specs.Given.{context_of, given_by_task, given_made, given_kind, is_given}
use Rattle.vx_call.specs.Items.{untaken}
use Rattle.vx_call.specs.Machine.{IsLegal, answer}
use Rattle.vx_call.proofs.Each.{Each, weaken, accepted, lasting_each}
use Rattle.vx_call.proofs.Found.{find_none, find_neither, later_name}
use Rattle.vx_call.proofs.Legal.{legal_front}
use Rattle.vx_call.proofs.Items.{is_of_bus}
use Rattle.vx_laws.proofs.Handed.{waited, next_task}
use Rattle.vx_laws.proofs.Agains.{again_of}
use Rattle.vx_laws.proofs.Origins.{HasAgain, HasOrigin, untaken_origins}
use Rattle.vx_laws.proofs.Taken.{IsTake, same_message-true, is_given_as, given-append}

-- ## Another message

abbrev pub IsOtherAgain : MessageId → Option MessageId → Type 0
IsOtherAgain request None = Unit {0}
IsOtherAgain request (Some again) = again ≢ request

-- the task gives out another message, or none
abbrev pub IsOtherMessage : MessageId → Task → Type 0
IsOtherMessage request (tasks.Deliver consumer message) = message.id ≢ request
IsOtherMessage request (tasks.Outcome other outcome) = IsOtherAgain request (again_of outcome)
IsOtherMessage request _ = Unit {0}

-- tasks that are no message and no outcome give none out
pub other_of_bus : (request : MessageId) (task : Task) → (is_of_bus task ≡ true → IsOtherMessage request task) → IsOtherMessage request task
other_of_bus request (tasks.Deliver consumer message) other = other refl
other_of_bus request (tasks.Outcome asked outcome) other = other refl
other_of_bus request _ other = tt

not_same : (request id : MessageId) → id ≢ request → same_message request id ≡ false
not_same request id differs =
    elim (same_message request id) as (λ b. same_message request id ≡ b → b ≡ false) [ true ↦ λ same. absurd (differs (sym (same_message-true request id same))) | false ↦ λ other. refl ] refl

task_gives : (request : MessageId) (receiver : Option ContextId) (task : Task) → IsOtherMessage request task → find (is_given_as request) (given_by_task receiver task) ≡ None
task_gives request receiver (tasks.Deliver consumer message) other =
    ap (λ b. cond b (Some (record { id = message.id; receiver = receiver; request = message.request })) None) (not_same request message.id other)
task_gives request receiver (tasks.Outcome asked (outcomes.Ok headers body (Some again))) other =
    ap (λ b. cond b (Some (record { id = again; receiver = receiver; request = true })) None) (not_same request again other)
task_gives request receiver (tasks.Outcome asked (outcomes.Ok headers body None)) other = refl
task_gives request receiver (tasks.Outcome asked (outcomes.Failed failure)) other = refl
task_gives request receiver _ other = refl

entry_gives : (history : List Traced) (request : MessageId) (call : Call) (reply : Reply) → ((lane : Lane) (task : Task) → call ≡ calls.Take lane → reply ≡ replies.Task task → IsOtherMessage request task) →
    find (is_given_as request) (given_made history call reply) ≡ None
entry_gives history request (calls.Take lane) (replies.Task task) others = task_gives request (context_of history task) task (others lane task refl refl)
entry_gives history request (calls.Take lane) _ others = refl
entry_gives history request _ reply others = refl

none_found : (o : Option Given) → is_some o ≡ false → o ≡ None
none_found None none = refl
none_found (Some given) none = absurd cc

-- where the entry is no Take that gives it out
pub not_given : (history : List Traced) (new : Traced) (request : MessageId) → is_given history request ≡ false → ((lane : Lane) (task : Task) → IsTake new lane task → IsOtherMessage request task) →
    is_given (history ++ new ∷ []) request ≡ false
not_given history new request before others =
    let test = is_given_as request in
    let made = made_by given_kind history new in
    let none : find test made ≡ None =
    elim (is_accepted new.entry.reply) as (λ b. find test (cond b (given_made history new.entry.call new.entry.reply) []) ≡ None) [
      | true ↦ entry_gives history request new.entry.call new.entry.reply (λ lane task called replied. others lane task (called, replied))
      | false ↦ refl
    ] in
    ap is_some
    (ap (find test) (given-append history new) ∙ find_neither test (lasting given_kind history) made (none_found (find test (lasting given_kind history)) before) none)

-- ## What is there was made before

-- a Take that follows hands out a task that is there
pub taken_task : (P : Task → Type 0) (history : List Traced) (new : Traced) (lane : Lane) (task : Task) → IsLegal (history ++ new ∷ []) → IsTake new lane task → is_of_bus task ≡ true → Each P (untaken history) → P task
taken_task P history new lane task legal take bus each =
    let answered : new.entry.reply ≡ answer history new.entry.pass new.entry.call = (legal history new [] refl).answered in
    let found = waited history new.entry.pass lane task (sym take.1 ∙ answered ∙ ap (answer history new.entry.pass) take.0) in
    subst P found.2 (next_task P history lane found.0 found.1 (ap is_of_bus found.2 ∙ bus) each)

cut_earlier : (history before after : List Traced) (new : Traced) (number : ℕ) → history ≡ before ++ new ∷ after → length before ≡ number → number < length history
cut_earlier history before after new number parts at =
    let whole : length history ≡ length (before ++ new ∷ after) = ap length parts in
    let lengths = length-append before (new ∷ after) in
    omega arith

not_next_again : (history : List Traced) (request : MessageId) (again : Option MessageId) → HasAgain history request again → IsOtherAgain (next_message history) again
not_next_again history request None asked = tt
not_next_again history request (Some again) asked = λ same.
    (let earlier = cut_earlier history asked.before asked.after asked.new again.0.0 asked.parts asked.at in let e = ap (λ (m : MessageId). m.0.0) same in absurd (omega arith))

-- a task that is there gives out a message that was made before
pub not_next : (history : List Traced) (task : Task) → HasOrigin history task → IsOtherMessage (next_message history) task
not_next history (tasks.Deliver consumer message) origin = λ same.
    (let earlier = cut_earlier history origin.before origin.after origin.new message.id.0.0 origin.parts origin.at in let e = ap (λ (m : MessageId). m.0.0) same in absurd (omega arith))
not_next history (tasks.Outcome request outcome) origin = not_next_again history request (again_of outcome) origin
not_next history _ origin = absurd origin

-- ## The next message was not given out

abbrev IsGivenEarlier : List Traced → Given → Type 0
IsGivenEarlier history given = IsLegal history → given.id.0.0 < length history

task_given : (history : List Traced) (new : Traced) (receiver : Option ContextId) (task : Task) → (is_of_bus task ≡ true → IsLegal (history ++ new ∷ []) → HasOrigin history task) → Each (IsGivenEarlier (history ++ new ∷ [])) (given_by_task receiver task)
task_given history new receiver (tasks.Deliver consumer message) from = (
  λ legal. (let origin = from refl legal in let earlier = cut_earlier history origin.before origin.after origin.new message.id.0.0 origin.parts origin.at in let longer = length_push history new in omega arith),
  tt,
)
task_given history new receiver (tasks.Outcome asked (outcomes.Ok headers body (Some again))) from = (
  λ legal. (let origin = from refl legal in let earlier = cut_earlier history origin.before origin.after origin.new again.0.0 origin.parts origin.at in let longer = length_push history new in omega arith),
  tt,
)
task_given history new receiver (tasks.Outcome asked (outcomes.Ok headers body None)) from = tt
task_given history new receiver (tasks.Outcome asked (outcomes.Failed failure)) from = tt
task_given history new receiver _ from = tt

entry_given : (history : List Traced) (new : Traced) (call : Call) (reply : Reply) → new.entry.call ≡ call → new.entry.reply ≡ reply → Each (IsGivenEarlier (history ++ new ∷ [])) (given_made history call reply)
entry_given history new (calls.Take lane) (replies.Task task) called replied =
    task_given history new (context_of history task) task (λ bus legal. taken_task (HasOrigin history) history new lane task legal (called, replied) bus (untaken_origins history))
entry_given history new (calls.Take lane) _ called replied = tt
entry_given history new _ reply called replied = tt

given_earlier : (history : List Traced) → Each (IsGivenEarlier history) (lasting given_kind history)
given_earlier =
    lasting_each given_kind IsGivenEarlier
    (λ history new given stays before legal. (let longer = length_push history new in let earlier = before (legal_front history (new ∷ []) legal) in omega arith))
    (λ history new. accepted (IsGivenEarlier (history ++ new ∷ [])) (is_accepted new.entry.reply) (given_made history new.entry.call new.entry.reply) (λ ok. entry_given history new new.entry.call new.entry.reply refl refl))

pub next_not_given : (history : List Traced) → IsLegal history → is_given history (next_message history) ≡ false
next_not_given history legal =
    let test = is_given_as (next_message history) in
    ap is_some
    (find_none test (lasting given_kind history)
    (weaken (IsGivenEarlier history) (λ given. test given ≡ false) (lasting given_kind history) (λ given earlier. later_name (length history) given.id.0.0 (earlier legal)) (given_earlier history)))
