-- Messages that nobody gets.
use Rattle.std.proofs.Common.{◌≡◌, ℕ, ◌<◌, List, [], ◌∷◌, ◌++◌, length, ap, sym, ◌∙◌, subst, arith}
use Rattle.std.specs.Prelude.{false, not, filter, Option, None, Some}
use Rattle.std.proofs.lemmas.List.{length_push}
use Rattle.vx_data.specs.declared.ids.ContextId.{ContextId}
use Rattle.vx_data.specs.declared.ids.MessageId.{MessageId}
use Rattle.vx_data.specs.declared.ids.PassNo.{PassNo}
use Rattle.vx_call.specs.declared.call.Call.{Call}
use Rattle.vx_call.specs.declared.reply.Task.{Task}
use Rattle.vx_call.specs.declared.history.Consumer.{Consumer}
use Rattle.vx_call.specs.declared.history.Deed.{Deed}
use Rattle.vx_call.specs.declared.history.Traced.{Traced}
use Rattle.vx_call.specs.History.{is_accepted, made_by, ended_by}
use Rattle.vx_call.specs.Names.{next_message}
use Rattle.vx_call.specs.Owners.{context_owning}
use Rattle.vx_call.specs.Mailboxes.{accepting}
use Rattle.vx_call.specs.Given.{is_given}
use Rattle.vx_call.specs.Settled.{Settled, settled_made}
use Rattle.vx_call.specs.Items.{task_kind, task_made, untaken}
use Rattle.vx_call.specs.Machine.{IsLegal}
use Rattle.vx_call.proofs.Lasting.{lasting-append}
use Rattle.vx_call.proofs.Each.{Each, Each-append, Each-filter, weaken, accepted}
use Rattle.vx_call.proofs.Legal.{legal_front}
use Rattle.vx_call.proofs.Messages.{received_id}
use Rattle.vx_call.proofs.Tasks.{deliver, each_task}
use Rattle.vx_laws.proofs.Made.{each_made}
use Rattle.vx_laws.proofs.Agains.{again_of, asks_at, not_both, AsksBy, AsksSo, settled_agains}
use Rattle.vx_laws.proofs.Origins.{HasOrigin, untaken_origins}
use Rattle.vx_laws.proofs.Givings.{IsOtherAgain, IsOtherMessage, other_of_bus, not_given, taken_task, not_next, next_not_given}

-- ## A message that nobody gets

-- the message was made before, is there for nobody, and no Take gave it out
pub record NobodyGets (history : List Traced) (request : MessageId) : Type 0 where
  pub earlier : request.0.0 < length history
  pub left : Each (IsOtherMessage request) (untaken history)
  pub untaken : is_given history request ≡ false

other_by : (history : List Traced) (call : Call) (deed : Deed) (request asked : MessageId) (again : Option MessageId) → request.0.0 < length history → AsksBy history call deed asked again → IsOtherAgain request again
other_by history call deed request asked None earlier so = tt
other_by history call deed request asked (Some again) earlier so = λ same. (let e = ap (λ (m : MessageId). m.0.0) (sym same ∙ so.0) in absurd (omega arith))

-- what an entry makes is no message that was made before
pub new_other : (history : List Traced) (new : Traced) (request : MessageId) → request.0.0 < length history → Each (IsOtherMessage request) (made_by task_kind history new)
new_other history new request earlier =
    let pass = new.entry.pass in
    let call = new.entry.call in
    let deed = new.mark.deed in
    accepted (IsOtherMessage request) (is_accepted new.entry.reply) (task_made history pass call deed)
    (λ ok. each_task (IsOtherMessage request) history pass call deed
    (λ message consumer is_message is_live same.
    (let e = ap (λ (m : MessageId). m.0.0) (received_id history call deed message is_message) in let f = ap (λ (m : MessageId). m.0.0) same in absurd (omega arith)))
    (weaken (AsksSo history call deed) (λ (s : Settled). IsOtherAgain request (again_of s.outcome)) (settled_made history pass call deed)
    (λ s so. other_by history call deed request s.request (again_of s.outcome) earlier so) (settled_agains history pass call deed)))

pub left_after : (history : List Traced) (new : Traced) (request : MessageId) → Each (IsOtherMessage request) (filter (λ task. not (ended_by task_kind history new task)) (untaken history)) →
    Each (IsOtherMessage request) (made_by task_kind history new) → Each (IsOtherMessage request) (untaken (history ++ new ∷ []))
left_after history new request old made =
    let P : List Task → Type 0 = Each (IsOtherMessage request) in
    subst P (sym (lasting-append task_kind history new)) (Each-append (IsOtherMessage request) _ _ old made)

-- ## One more entry

pub nobody_on : (history : List Traced) (new : Traced) (request : MessageId) → IsLegal (history ++ new ∷ []) → NobodyGets history request → NobodyGets (history ++ new ∷ []) request
nobody_on history new request legal nobody = record {
  earlier = (let longer = length_push history new in let before : request.0.0 < length history = nobody.earlier in omega arith);
  left =
      left_after history new request
      (Each-filter (IsOtherMessage request) (IsOtherMessage request) _ (untaken history) (λ task stays other. other) nobody.left)
      (new_other history new request nobody.earlier);
  untaken =
      not_given history new request nobody.untaken
      (λ lane task take. other_of_bus request task (λ bus. taken_task (IsOtherMessage request) history new lane task legal take bus nobody.left));
}

-- ## A request that reaches nobody

asks_none : (history : List Traced) (call : Call) (deed : Deed) (address : List ℕ) (asked : MessageId) (again : Option MessageId) → asks_at call deed ≡ Some address → AsksBy history call deed asked again → IsOtherAgain (next_message history) again
asks_none history call deed address asked None at so = tt
asks_none history call deed address asked (Some again) at so = absurd (not_both call deed address asked at so.1)

request_made : (history : List Traced) (pass : PassNo) (call : Call) (deed : Deed) (address : List ℕ) → asks_at call deed ≡ Some address → accepting history call deed ≡ [] →
    Each (IsOtherMessage (next_message history)) (task_made history pass call deed)
request_made history pass call deed address at nobody =
    let request = next_message history in
    each_made (IsOtherMessage request) history pass call deed
    (λ message is_message.
    (let P : List Consumer → Type 0 = Each (λ (consumer : Consumer). (context : ContextId) → context_owning consumer.owner ≡ Some context → IsOtherMessage request (deliver message consumer)) in subst P (sym nobody) tt))
    (weaken (AsksSo history call deed) (λ (s : Settled). IsOtherAgain request (again_of s.outcome)) (settled_made history pass call deed)
    (λ s so. asks_none history call deed address s.request (again_of s.outcome) at so) (settled_agains history pass call deed))

pub nobody_reached : (history : List Traced) (new : Traced) (address : List ℕ) → IsLegal (history ++ new ∷ []) → asks_at new.entry.call new.mark.deed ≡ Some address → accepting history new.entry.call new.mark.deed ≡ [] →
    NobodyGets (history ++ new ∷ []) (next_message history)
nobody_reached history new address legal at nobody =
    let call = new.entry.call in
    let deed = new.mark.deed in
    let Other : Task → Type 0 = IsOtherMessage (next_message history) in
    record {
      earlier = (let longer = length_push history new in omega arith);
      left =
          left_after history new (next_message history)
          (Each-filter (HasOrigin history) Other _ (untaken history) (λ task stays origin. not_next history task origin) (untaken_origins history))
          (accepted Other (is_accepted new.entry.reply) (task_made history new.entry.pass call deed) (λ ok. request_made history new.entry.pass call deed address at nobody));
      untaken =
          not_given history new (next_message history) (next_not_given history (legal_front history (new ∷ []) legal))
          (λ lane task take. (let no : None ≡ Some address = sym (ap (λ c. asks_at c deed) take.0) ∙ at in absurd cc));
    }
