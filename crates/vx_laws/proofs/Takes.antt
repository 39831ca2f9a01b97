-- Takes that hand a message to a consumer, and calls that name it.
use Rattle.std.proofs.Common.{◌≡◌, ◌+◌, ◌<◌, List, [], ◌∷◌, ◌++◌, length, refl, ap, sym, ◌∙◌, subst, arith}
use Rattle.std.specs.Prelude.{Bool, true, false, ◌||◌, cond, nat_lt, filter, is_none, Option, None, Some}
use Rattle.std.specs.Option.{option_or}
use Rattle.std.proofs.lemmas.Bool.Decides.{nat_tests}
use Rattle.std.proofs.lemmas.List.{length-append}
use Rattle.std.proofs.lemmas.List.Elements.{filter-append}
use Rattle.vx_data.specs.declared.ids.ConsumerId.{ConsumerId}
use Rattle.vx_message.specs.declared.Lane.{Lane}
use Rattle.vx_message.specs.declared.Message.{Message}
use Rattle.vx_call.specs.declared.call.Call.{Call}
use Rattle.vx_call.specs.declared.call.Call.TheVariants as calls
use Rattle.vx_call.specs.declared.reply.Refusal.{Refusal}
use Rattle.vx_call.specs.declared.reply.Refusal.TheVariants as refusals
use Rattle.vx_call.specs.declared.reply.Reply.{Reply}
use Rattle.vx_call.specs.declared.reply.Reply.TheVariants as replies
use Rattle.vx_call.specs.declared.reply.Task.TheVariants as tasks
use Rattle.vx_call.specs.declared.history.Traced.{Traced}
use Rattle.vx_call.specs.History.{is_accepted}
use Rattle.vx_call.specs.Consumers.{live}
use Rattle.vx_call.specs.Refusals.{unless_refused, spent, shut, refused_if, holder_closed, not_your_consumer}
use Rattle.vx_call.specs.Rows.{consumer_refusal, consumer_row}
use Rattle.vx_call.specs.Machine.{IsLegal, MayFollow, answer, row}
use Rattle.vx_call.proofs.Consumers.{live_none, same_consumer-true}
use Rattle.vx_laws.specs.Entries.{hands_to, is_taken_by, taken_in}
use Rattle.vx_laws.proofs.Handed.{waited, next_task}
use Rattle.vx_call.proofs.Items.{is_of_bus}
use Rattle.vx_laws.proofs.Live.{IsAtHome, IsForLive, untaken_live}

-- a Take that hands a message to the consumer
pub record HandsTo (id : ConsumerId) (call : Call) (reply : Reply) : Type 0 where
  pub lane : Lane
  pub message : Message
  pub called : call ≡ calls.Take lane
  pub replied : reply ≡ replies.Task (tasks.Deliver id message)

pub hands_so : (id : ConsumerId) (call : Call) (reply : Reply) → hands_to id call reply ≡ true → HandsTo id call reply
hands_so id (calls.Take lane) (replies.Task (tasks.Deliver consumer message)) mine = record {
  lane = lane;
  message = message;
  called = refl;
  replied = ap (λ i. replies.Task (tasks.Deliver i message)) (sym (same_consumer-true id consumer mine));
}
hands_so id (calls.Take lane) reply h = absurd cc
hands_so id call reply h = absurd cc

-- ... so the consumer is live, and of a context
pub takes_live : (now : List Traced) (new : Traced) (id : ConsumerId) → IsLegal now → MayFollow now new → HandsTo id new.entry.call new.entry.reply → IsAtHome now id
takes_live now new id legal may hand =
    let task = tasks.Deliver id hand.message in
    let found = waited now new.entry.pass hand.lane task (sym hand.replied ∙ may.answered ∙ ap (answer now new.entry.pass) hand.called) in
    subst (IsForLive now) found.2 (next_task (IsForLive now) now hand.lane found.0 found.1 (ap is_of_bus found.2) (untaken_live now legal))

pub one_taken : (id : ConsumerId) (since : List Traced) (new : Traced) → taken_in (since ++ new ∷ []) id ≡ taken_in since id + cond (is_taken_by id new) 1 0
one_taken id since new =
    ap length (filter-append (is_taken_by id) since (new ∷ []))
    ∙ length-append (filter (is_taken_by id) since) (filter (is_taken_by id) (new ∷ []))
    ∙ ap (λ n. taken_in since id + n) (elim (is_taken_by id new) as (λ b. length (cond b (new ∷ []) []) ≡ cond b 1 0) [ true ↦ refl | false ↦ refl ])

refused_either_way : (o : Option Refusal) (refusal : Refusal) → is_accepted (unless_refused o (replies.Refused refusal)) ≡ false
refused_either_way None refusal = refl
refused_either_way (Some other) refusal = refl

-- an Unregister or a Pause that is not refused names a consumer that is live
named_none : (before : List Traced) (new : Traced) (id : ConsumerId) → MayFollow before new → row before new.entry.pass new.entry.call ≡ consumer_row before new.entry.pass id → is_accepted new.entry.reply ≡ true →
    live before id ≡ None → ⊥
named_none before new id may names done none =
    let pass = new.entry.pass in
    let above = option_or (spent before) (shut before new.entry.call) in
    let refused : consumer_refusal before pass id ≡ Some refusals.NoConsumer = ap (λ o. option_or (refused_if (is_none o) refusals.NoConsumer) (option_or (not_your_consumer before pass id) (holder_closed before pass))) none in
    let no : is_accepted new.entry.reply ≡ false = ap is_accepted (may.answered ∙ ap (unless_refused above) names ∙ ap (λ o. unless_refused above (unless_refused o replies.Done)) refused)
    ∙ refused_either_way above refusals.NoConsumer in
    absurd cc

pub named_earlier : (before : List Traced) (new : Traced) (id : ConsumerId) → MayFollow before new → row before new.entry.pass new.entry.call ≡ consumer_row before new.entry.pass id → is_accepted new.entry.reply ≡ true →
    id.0.0 < length before
named_earlier before new id may names done =
    elim (nat_lt id.0.0 (length before)) as (λ b. nat_lt id.0.0 (length before) ≡ b → id.0.0 < length before) [
      | true ↦ λ less. grind (arith, nat_tests)
      | false ↦ λ not_less. absurd (named_none before new id may names done (live_none before id (grind (arith, nat_tests))))
    ] refl

-- ## Of two and none

pub neither_first : (a b : Bool) → (a || (b || false)) ≡ false → a ≡ false
neither_first true b none = absurd cc
neither_first false b none = refl

pub neither_last : (a b : Bool) → (a || (b || false)) ≡ false → b ≡ false
neither_last true b none = absurd cc
neither_last false true none = absurd cc
neither_last false false none = refl
