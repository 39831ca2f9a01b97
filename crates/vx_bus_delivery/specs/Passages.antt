-- What becomes of messages at the rules.
use Rattle.std.specs.Prelude.{Bool, true, false, Option, None, Some}
use Rattle.vx_message.specs.declared.Message.{Message}
use Rattle.vx_bus_delivery.specs.declared.passages.Passage.{Passage}
use Rattle.vx_bus_delivery.specs.declared.passages.Passage.TheVariants as passages

-- a message behind the rules for messages that are sent, and behind those for messages that reach a consumer
abbrev pub passage_of : Option Message → Option Message → Passage
passage_of None received = passages.Unsent
passage_of (Some sent) None = passages.Unreceived
passage_of (Some sent) (Some message) = passages.Arrives message

-- whether no rule stops it as it is sent
abbrev pub is_sent : Passage → Bool
is_sent passages.Unsent = false
is_sent _ = true
