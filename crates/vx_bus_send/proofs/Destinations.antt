-- What becomes of a message: the bus knows what the machine does.
use Rattle.std.proofs.Common.{◌≡◌, ℕ, List, length, refl, ap, sym, ◌∙◌}
use Rattle.std.specs.Prelude.{Bool, cond, is_some, Option, None, Some}
use Rattle.std.specs.Option.{option_map, option_and_then}
use Rattle.vx_data.specs.declared.ids.EntryNo.{EntryNo}
use Rattle.vx_data.specs.declared.ids.ConsumerId.{ConsumerId}
use Rattle.vx_data.specs.Tree.{Tree}
use Rattle.vx_message.specs.declared.Message.{Message}
use Rattle.vx_message.specs.declared.Options.{Options}
use Rattle.vx_message.specs.declared.rules.Rule.{Rule}
use Rattle.vx_message.specs.declared.rules.Side.TheVariants as sides
use Rattle.vx_message.specs.Rules.{through, rules_of}
use Rattle.vx_call.specs.declared.call.Call.{Call}
use Rattle.vx_call.specs.declared.reply.To.TheVariants as reached
use Rattle.vx_call.specs.declared.history.Consumer.{Consumer}
use Rattle.vx_call.specs.declared.history.Deed.TheVariants as deeds
use Rattle.vx_call.specs.declared.history.Traced.{Traced}
use Rattle.vx_call.specs.Built.{AreStored}
use Rattle.vx_call.specs.Rules.{rules, passed}
use Rattle.vx_call.specs.Messages.{message_to, message_of, sent, received}
use Rattle.vx_call.specs.Choices.{choice}
use Rattle.vx_call.specs.Mailboxes.{arrival_at}
use Rattle.vx_call.specs.Rows.{arrived_at, reached_by, destination}
use Rattle.vx_call.proofs.Arrivals.{choice_live}
use Rattle.vx_context.specs.Stands.{IsNext}
use Rattle.vx_bus_delivery.specs.declared.passages.Passage.{Passage}
use Rattle.vx_bus_delivery.specs.Passages.{passage_of}
use Rattle.vx_bus_delivery.specs.Deliveries.{turn_in, arrival_of, destination_of, destination_in}
use Rattle.vx_bus_store.specs.Stores.{BusStore, handler_of, handler_in, next_arrival, coded_in, message_in, passed_in}
use Rattle.vx_bus_store.specs.Stands.{BusStands}
use Rattle.vx_bus_store.proofs.Handlers.{handler_there}
use Rattle.vx_bus_send.proofs.Stays.{arrives_here}
use Rattle.vx_bus_send.proofs.Settling.{coded_same}
use Rattle.vx_bus_delivery.proofs.Turns.{turn_is}

-- ## The passage

-- what becomes of a message at these rules
abbrev past_rules : List Rule → Message → Passage
past_rules rules message =
    passage_of (through (rules_of sides.Out rules) message) (option_and_then (λ m. through (rules_of sides.In rules) m) (through (rules_of sides.Out rules) message))

message_is : (bus : BusStore) (history : List Traced) (at : EntryNo) (address : List ℕ) (body : Tree) (options : Options) (request publish : Bool) → BusStands bus history → IsNext at history →
    message_in bus at address body options request publish ≡ message_to history address body options request publish
message_is bus history at address body options request publish stands is_next =
    let made : ℕ → Tree → Message = λ n coded_body. record { id = record { 0 = record { 0 = n } }; address = address; headers = options.headers; body = coded_body; request = request; publish = publish } in
    ap (λ n. made n (coded_in bus.codecs options.codec body)) is_next ∙ ap (made (length history)) (coded_same bus history options.codec body stands)

-- the passage of a call's message is that of the machine
pub passage_is : (bus : BusStore) (history : List Traced) (at : EntryNo) (call : Call) (address : List ℕ) (body : Tree) (options : Options) (request publish : Bool) → BusStands bus history → IsNext at history →
    message_of history call deeds.Nothing ≡ Some (message_to history address body options request publish) →
    (let message = message_in bus at address body options request publish in
    passage_of (passed_in bus sides.Out message) (option_and_then (passed_in bus sides.In) (passed_in bus sides.Out message)) ≡ passage_of (sent history call deeds.Nothing) (received history call deeds.Nothing))
passage_is bus history at call address body options request publish stands is_next is_message =
    let message = message_in bus at address body options request publish in
    ap (λ all. past_rules all message) stands.rules
    ∙ ap (past_rules (rules history)) (message_is bus history at address body options request publish stands is_next)
    ∙ ap (λ o. passage_of (option_and_then (passed history sides.Out) o) (option_and_then (passed history sides.In) (option_and_then (passed history sides.Out) o))) (sym is_message)

-- ## The destination

abbrev id_of : Consumer → ConsumerId
id_of consumer = consumer.id

-- what the bus finds of the consumer that is chosen
record IsHere (bus : BusStore) (history : List Traced) (consumer : Consumer) : Type 0 where
  pub found : handler_in bus.consumers consumer.id ≡ Some (handler_of history consumer)
  pub arrival : next_arrival (handler_of history consumer) ≡ arrival_at history consumer

reached_is : (bus : BusStore) (history : List Traced) (address : List ℕ) (s r : Option Message) (chosen : Option Consumer) → turn_in bus address ≡ option_map id_of chosen →
    ((consumer : Consumer) → chosen ≡ Some consumer → IsHere bus history consumer) →
    destination_in bus (passage_of s r) address ≡ cond (is_some s) (reached_by history r chosen) reached.Stopped
reached_is bus history address None r chosen turn here = refl
reached_is bus history address (Some m) None None turn here = ap (destination_of bus (passage_of (Some m) None)) turn
reached_is bus history address (Some m) None (Some consumer) turn here = ap (destination_of bus (passage_of (Some m) None)) turn
reached_is bus history address (Some m) (Some message) None turn here = ap (destination_of bus (passage_of (Some m) (Some message))) turn
reached_is bus history address (Some m) (Some message) (Some consumer) turn here =
    let is_here = here consumer refl in
    ap (destination_of bus (passage_of (Some m) (Some message))) turn ∙ ap arrival_of is_here.found ∙ ap (arrived_at consumer) is_here.arrival

-- what a call's message reaches is what the machine says
pub destination_is : (bus : BusStore) (history : List Traced) (call : Call) (address : List ℕ) → AreStored history → BusStands bus history →
    destination_in bus (passage_of (sent history call deeds.Nothing) (received history call deeds.Nothing)) address ≡ destination history call address
destination_is bus history call address stored stands =
    reached_is bus history address (sent history call deeds.Nothing) (received history call deeds.Nothing) (choice history address) (turn_is bus history address stands)
    (λ consumer is_choice.
    let is_live = choice_live history address consumer is_choice in
    record { found = handler_there bus history consumer.id consumer stands is_live; arrival = sym (arrives_here history consumer stored is_live) })
