-- The messages that a consumer accepted. (Vert.x core API, `MessageConsumer.setMaxBufferedMessages`: a paused consumer
-- keeps so many messages, and no more.)
use Rattle.std.specs.Prelude.{is_some, false, find, if◌then◌else◌, List, [], ◌∷◌}
use Rattle.vx_data.specs.declared.ids.ConsumerId.{ConsumerId}
use Rattle.vx_data.specs.declared.ids.MessageId.{MessageId}
use Rattle.vx_call.specs.declared.call.Call.{Call}
use Rattle.vx_call.specs.declared.history.Deed.{Deed}
use Rattle.vx_call.specs.declared.history.Traced.{Traced}
use Rattle.vx_call.specs.History.{Kind, lasting}
use Rattle.vx_call.specs.Names.{next_message}
use Rattle.vx_call.specs.Registered.{is_named}
use Rattle.vx_call.specs.Mailboxes.{accepting}

abbrev pub accepted_made : ConsumerId → List Traced → Call → Deed → List MessageId
accepted_made id before call deed = if is_some (find (is_named id) (accepting before call deed)) then next_message before ∷ [] else []

abbrev pub accepted_kind : ConsumerId → Kind MessageId
accepted_kind id = record { made = λ before new. accepted_made id before new.entry.call new.mark.deed; ended = λ before new message. false }

-- the messages that a consumer accepted, made ready or held as they arrived, in the order of their sending
abbrev pub accepted : List Traced → ConsumerId → List MessageId
accepted history id = lasting (accepted_kind id) history
