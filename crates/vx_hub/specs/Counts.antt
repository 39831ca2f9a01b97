-- What is counted of a history.
use Rattle.std.specs.Prelude.{ℕ, ◌+◌, Bool, ◌&&◌, if◌then◌else◌, List, length}
use Rattle.vx_call.specs.declared.call.Call.{Call}
use Rattle.vx_call.specs.declared.reply.Reply.{Reply}
use Rattle.vx_call.specs.declared.history.Deed.TheVariants as deeds
use Rattle.vx_call.specs.declared.history.Traced.{Traced}
use Rattle.vx_call.specs.History.{is_accepted}
use Rattle.vx_call.specs.Summary.{makes_message, delivers, messages_made, deliveries_taken}

-- how many entries there are, how many of them made a message, and how many handed one to a consumer
pub record Counted : Type 0 where
  pub entries : ℕ
  pub messages : ℕ
  pub deliveries : ℕ

abbrev pub counted : List Traced → Counted
counted history = record { entries = length history; messages = messages_made history; deliveries = deliveries_taken history }

-- with one entry more
abbrev pub one_more : Counted → Bool → Bool → Counted
one_more counts made delivered = record { entries = counts.entries + 1; messages = counts.messages + (if made then 1 else 0); deliveries = counts.deliveries + (if delivered then 1 else 0) }

-- with the entry of a call, which is no frame, and its reply
abbrev pub with_entry : Counted → Call → Reply → Counted
with_entry counts call reply = one_more counts (is_accepted reply && makes_message call deeds.Nothing) (delivers reply)
