-- What holds of each task that an entry makes.
use Rattle.std.proofs.Common.{◌≡◌, List, refl, sym, subst}
use Rattle.std.specs.Prelude.{is_some, Option, None, Some}
use Rattle.std.specs.Option.{option_to_list}
use Rattle.vx_data.specs.declared.ids.ContextId.{ContextId}
use Rattle.vx_data.specs.declared.ids.PassNo.{PassNo}
use Rattle.vx_message.specs.declared.Message.{Message}
use Rattle.vx_call.specs.declared.call.Call.{Call}
use Rattle.vx_call.specs.declared.reply.Task.{Task}
use Rattle.vx_call.specs.declared.reply.Task.TheVariants as tasks
use Rattle.vx_call.specs.declared.history.Consumer.{Consumer}
use Rattle.vx_call.specs.declared.history.Deed.{Deed}
use Rattle.vx_call.specs.declared.history.Traced.{Traced}
use Rattle.vx_call.specs.Messages.{received}
use Rattle.vx_call.specs.Arrivals.{addressed, reached}
use Rattle.vx_call.specs.Mailboxes.{accepting}
use Rattle.vx_call.specs.Settled.{settled_made}
use Rattle.vx_call.specs.Owners.{context_owning}
use Rattle.vx_call.specs.Homes.{Home, homes, heard}
use Rattle.vx_call.specs.Items.{delivery_tasks, outcome_tasks, task_made}
use Rattle.vx_call.proofs.Each.{Each, Each-append, Each-filter, weaken, accepted}
use Rattle.vx_call.proofs.Homes.{IsHomeOf, Each-homes}
use Rattle.vx_call.proofs.Tasks.{deliver, each_delivery, each_outcome}

-- what holds of each consumer that a message is for holds of each that accepts it
pub each_accepting : (P : Consumer → Type 0) (history : List Traced) (call : Call) (deed : Deed) → Each P (addressed history call deed) → Each P (accepting history call deed)
each_accepting P history call deed each =
    Each-filter P P _ (reached history call deed) (λ consumer passes p. p) (accepted P (is_some (received history call deed)) (addressed history call deed) (λ arrives. each))

pub each_choice : (P : Consumer → Type 0) (choice : Option Consumer) → ((consumer : Consumer) → choice ≡ Some consumer → P consumer) → Each P (option_to_list choice)
each_choice P None each = tt
each_choice P (Some consumer) each = (each consumer refl, tt)

-- what holds of each delivery to a consumer of a context that accepts the message, and of each outcome
pub each_made : (P : Task → Type 0) (history : List Traced) (pass : PassNo) (call : Call) (deed : Deed) →
    ((message : Message) → received history call deed ≡ Some message → Each (λ (consumer : Consumer). (context : ContextId) → context_owning consumer.owner ≡ Some context → P (deliver message consumer)) (accepting history call deed)) →
    Each (λ s. P (tasks.Outcome s.request s.outcome)) (settled_made history pass call deed) → Each P (task_made history pass call deed)
each_made P history pass call deed delivered ended =
    let all = accepting history call deed in
    Each-append P (delivery_tasks (received history call deed) (homes all)) (outcome_tasks (heard (settled_made history pass call deed)))
    (each_delivery P (received history call deed) (homes all) (λ message is_message.
    let To : Consumer → Type 0 = λ consumer. P (deliver message consumer) in
    Each-homes (λ (home : Home). To home.consumer) all
    (weaken (λ (consumer : Consumer). (context : ContextId) → context_owning consumer.owner ≡ Some context → To consumer) (λ consumer. (home : Home) → IsHomeOf consumer home → To home.consumer) all
    (λ consumer p home is_home. subst To (sym is_home.consumer) (p home.context is_home.context)) (delivered message is_message))))
    (each_outcome P (settled_made history pass call deed) ended)
