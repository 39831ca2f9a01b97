-- The entries that messages come from.
use Rattle.std.proofs.Common.{◌≡◌, ℕ, List, [], ◌∷◌, ◌++◌, length, refl, ap, sym, ◌∙◌, subst, append_assoc}
use Rattle.std.specs.Prelude.{true, Option, None, Some}
use Rattle.std.specs.Option.{option_map}
use Rattle.vx_data.specs.declared.ids.ConsumerId.{ConsumerId}
use Rattle.vx_data.specs.declared.ids.ContextId.{ContextId}
use Rattle.vx_data.specs.declared.ids.MessageId.{MessageId}
use Rattle.vx_message.specs.declared.Lane.{Lane}
use Rattle.vx_message.specs.declared.Message.{Message}
use Rattle.vx_call.specs.declared.call.Call.{Call}
use Rattle.vx_call.specs.declared.call.Call.TheVariants as calls
use Rattle.vx_call.specs.declared.reply.Task.{Task}
use Rattle.vx_call.specs.declared.reply.Task.TheVariants as tasks
use Rattle.vx_call.specs.declared.history.Consumer.{Consumer}
use Rattle.vx_call.specs.declared.history.Deed.{Deed}
use Rattle.vx_call.specs.declared.history.Deed.TheVariants as deeds
use Rattle.vx_call.specs.declared.history.Traced.{Traced}
use Rattle.vx_call.specs.History.{is_accepted}
use Rattle.vx_call.specs.Names.{next_message}
use Rattle.vx_call.specs.Owners.{context_owning}
use Rattle.vx_call.specs.Consumers.{handlers}
use Rattle.vx_call.specs.Choices.{choice}
use Rattle.vx_call.specs.Arrivals.{addressed_by, addressed}
use Rattle.vx_call.specs.Mailboxes.{accepting}
use Rattle.vx_call.specs.Settled.{Settled, settled_made}
use Rattle.vx_call.specs.Items.{task_kind, task_made, untaken}
use Rattle.vx_call.proofs.Each.{Each, weaken, accepted, lasting_each}
use Rattle.vx_call.proofs.Messages.{received_id}
use Rattle.vx_laws.proofs.Splits.{Each-any}
use Rattle.vx_laws.proofs.Handed.{Handed, handed_task}
use Rattle.vx_laws.proofs.Made.{each_accepting, each_choice, each_made}
use Rattle.vx_laws.proofs.Agains.{again_of, asks_again, AsksBy, AsksSo, settled_agains}

abbrev pub id_of : Consumer → ConsumerId
id_of consumer = consumer.id

-- it's this consumer's turn
abbrev pub IsChosen : List Traced → List ℕ → ConsumerId → Type 0
IsChosen before address id = option_map id_of (choice before address) ≡ Some id

-- the call, or the frame, sends its message to this consumer, or publishes it
abbrev pub ReachesBy : List Traced → Deed → ConsumerId → Type 0
ReachesBy before (deeds.Sends address headers body) id = IsChosen before address id
ReachesBy before (deeds.Publishes address headers body) id = Unit {0}
ReachesBy before (deeds.Requests address headers body at) id = IsChosen before address id
ReachesBy before _ id = ⊥

abbrev pub Reaches : List Traced → Call → Deed → ConsumerId → Type 0
Reaches before (calls.Send address body options) deed id = IsChosen before address id
Reaches before (calls.Request context address body options timeout once) deed id = IsChosen before address id
Reaches before (calls.Publish address body options) deed id = Unit {0}
Reaches before (calls.FrameIn conn frame) deed id = ReachesBy before deed id
Reaches before _ deed id = ⊥

-- the entry that a message is named after, which sends it to this consumer
pub record Origin (history : List Traced) (id : ConsumerId) (message : MessageId) : Type 0 where
  pub before : List Traced
  pub new : Traced
  pub after : List Traced
  pub parts : history ≡ before ++ new ∷ after
  pub at : length before ≡ message.0.0
  pub accepted : is_accepted new.entry.reply ≡ true
  pub reaches : Reaches before new.entry.call new.mark.deed id

pub origin_on : (history after : List Traced) (id : ConsumerId) (message : MessageId) → Origin history id message → Origin (history ++ after) id message
origin_on history after id message origin = record {
  before = origin.before;
  new = origin.new;
  after = origin.after ++ after;
  parts = ap (λ (h : List Traced). h ++ after) origin.parts ∙ append_assoc origin.before (origin.new ∷ origin.after) after;
  at = origin.at;
  accepted = origin.accepted;
  reaches = origin.reaches;
}

-- the entry that the message is named after, which asks the asker of a request by it
pub record AskedAgain (history : List Traced) (request message : MessageId) : Type 0 where
  pub before : List Traced
  pub new : Traced
  pub after : List Traced
  pub parts : history ≡ before ++ new ∷ after
  pub at : length before ≡ message.0.0
  pub asks : asks_again new.entry.call new.mark.deed ≡ Some request

abbrev pub HasAgain : List Traced → MessageId → Option MessageId → Type 0
HasAgain history request None = Unit {0}
HasAgain history request (Some again) = AskedAgain history request again

keeps_again : (history : List Traced) (new : Traced) (request : MessageId) (again : Option MessageId) → HasAgain history request again → HasAgain (history ++ new ∷ []) request again
keeps_again history new request None asked = tt
keeps_again history new request (Some again) asked = record {
  before = asked.before;
  new = asked.new;
  after = asked.after ++ new ∷ [];
  parts = ap (λ (h : List Traced). h ++ new ∷ []) asked.parts ∙ append_assoc asked.before (asked.new ∷ asked.after) (new ∷ []);
  at = asked.at;
  asks = asked.asks;
}

abbrev pub HasOrigin : List Traced → Task → Type 0
HasOrigin history (tasks.Deliver consumer message) = Origin history consumer message.id
HasOrigin history (tasks.Outcome request outcome) = HasAgain history request (again_of outcome)
HasOrigin history _ = ⊥

keeps_origin : (history : List Traced) (new : Traced) (task : Task) → HasOrigin history task → HasOrigin (history ++ new ∷ []) task
keeps_origin history new (tasks.Deliver consumer message) origin = origin_on history (new ∷ []) consumer message.id origin
keeps_origin history new (tasks.Outcome request outcome) origin = keeps_again history new request (again_of outcome) origin
keeps_origin history new _ origin = absurd origin

new_origin : (history : List Traced) (new : Traced) (id : ConsumerId) → is_accepted new.entry.reply ≡ true → Reaches history new.entry.call new.mark.deed id → Origin (history ++ new ∷ []) id (next_message history)
new_origin history new id ok reaches = record { before = history; new = new; after = []; parts = refl; at = refl; accepted = ok; reaches = reaches }

each_chosen : (history : List Traced) (address : List ℕ) (o : Option Consumer) → choice history address ≡ o → (consumer : Consumer) → o ≡ Some consumer → IsChosen history address consumer.id
each_chosen history address o is consumer chosen = ap (option_map id_of) (is ∙ chosen)

each_addressed_by : (history : List Traced) (deed : Deed) → Each (λ consumer. ReachesBy history deed consumer.id) (addressed_by history deed)
each_addressed_by history (deeds.Sends address headers body) = each_choice _ (choice history address) (each_chosen history address (choice history address) refl)
each_addressed_by history (deeds.Publishes address headers body) = Each-any _ (handlers history address) (λ consumer. tt)
each_addressed_by history (deeds.Requests address headers body at) = each_choice _ (choice history address) (each_chosen history address (choice history address) refl)
each_addressed_by history _ = tt

each_addressed : (history : List Traced) (call : Call) (deed : Deed) → Each (λ consumer. Reaches history call deed consumer.id) (addressed history call deed)
each_addressed history (calls.Send address body options) deed = each_choice _ (choice history address) (each_chosen history address (choice history address) refl)
each_addressed history (calls.Publish address body options) deed = Each-any _ (handlers history address) (λ consumer. tt)
each_addressed history (calls.Request context address body options timeout once) deed = each_choice _ (choice history address) (each_chosen history address (choice history address) refl)
each_addressed history (calls.FrameIn conn frame) deed = each_addressed_by history deed
each_addressed history _ deed = tt

-- each consumer that accepts a message is one that the call reaches
pub accepting_reached : (history : List Traced) (call : Call) (deed : Deed) → Each (λ consumer. Reaches history call deed consumer.id) (accepting history call deed)
accepting_reached history call deed = each_accepting (λ consumer. Reaches history call deed consumer.id) history call deed (each_addressed history call deed)

new_again : (history : List Traced) (new : Traced) (request : MessageId) (again : Option MessageId) → AsksBy history new.entry.call new.mark.deed request again → HasAgain (history ++ new ∷ []) request again
new_again history new request None so = tt
new_again history new request (Some again) so = record { before = history; new = new; after = []; parts = refl; at = ap (λ (m : MessageId). m.0.0) (sym so.0); asks = so.1 }

made_origins : (history : List Traced) (new : Traced) → is_accepted new.entry.reply ≡ true → Each (HasOrigin (history ++ new ∷ [])) (task_made history new.entry.pass new.entry.call new.mark.deed)
made_origins history new ok =
    let after = history ++ new ∷ [] in
    let call = new.entry.call in
    let deed = new.mark.deed in
    each_made (HasOrigin after) history new.entry.pass call deed
    (λ message is_message.
    weaken (λ (consumer : Consumer). Reaches history call deed consumer.id) (λ (consumer : Consumer). (context : ContextId) → context_owning consumer.owner ≡ Some context → Origin after consumer.id message.id) (accepting history call deed)
    (λ consumer reaches context owns. subst (λ (m : MessageId). Origin after consumer.id m) (sym (received_id history call deed message is_message)) (new_origin history new consumer.id ok reaches))
    (accepting_reached history call deed))
    (weaken (AsksSo history call deed) (λ (s : Settled). HasAgain after s.request (again_of s.outcome)) (settled_made history new.entry.pass call deed)
    (λ s so. new_again history new s.request (again_of s.outcome) so) (settled_agains history new.entry.pass call deed))

-- each message of a task that was not taken comes from an entry
pub untaken_origins : (history : List Traced) → Each (HasOrigin history) (untaken history)
untaken_origins =
    lasting_each task_kind HasOrigin (λ history new task stays origin. keeps_origin history new task origin)
    (λ history new. accepted (HasOrigin (history ++ new ∷ [])) (is_accepted new.entry.reply) (task_made history new.entry.pass new.entry.call new.mark.deed) (made_origins history new))

-- and so does each that is handed out
pub handed_origin : (history : List Traced) (i : ℕ) (lane : Lane) (consumer : ConsumerId) (message : Message) → Handed history i lane (tasks.Deliver consumer message) → Origin history consumer message.id
handed_origin history i lane consumer message take =
    let before : List Traced = take.before in
    let then : HasOrigin before (tasks.Deliver consumer message) = handed_task (HasOrigin before) history i lane (tasks.Deliver consumer message) take refl (untaken_origins before) in
    subst (λ (h : List Traced). Origin h consumer message.id) (sym take.parts) (origin_on before (take.new ∷ take.after) consumer message.id then)
