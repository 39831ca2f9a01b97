-- Calls that are not refused: what they say is small.
use Rattle.std.proofs.Common.{◌≡◌, ℕ, ◌≤◌, List, length, refl, ap, arith}
use Rattle.std.specs.Prelude.{false, ◌||◌, ◌==◌, nat_lt, is_some, Option, None, Some}
use Rattle.std.specs.Option.{option_or}
use Rattle.std.proofs.Math.Bool.{Bool-set}
use Rattle.std.proofs.Math.Logic.{∥∥₁_elim}
use Rattle.std.proofs.lemmas.Bool.Decides.{nat_tests}
use Rattle.vx_data.specs.declared.ids.PassNo.{PassNo}
use Rattle.vx_data.specs.declared.ids.ContextId.{ContextId}
use Rattle.vx_data.specs.declared.ids.MessageId.{MessageId}
use Rattle.vx_data.specs.Bodies.{tree_depth}
use Rattle.vx_data.specs.HeaderLists.{header_bytes}
use Rattle.vx_data.specs.Tree.{Tree}
use Rattle.vx_message.specs.declared.Options.{Options}
use Rattle.vx_timer.specs.declared.timers.Timer.{Timer}
use Rattle.vx_call.specs.declared.reply.Refusal.{Refusal}
use Rattle.vx_call.specs.declared.history.Traced.{Traced}
use Rattle.vx_call.specs.Refusals.{no_context, not_your_context, closed, holder_closed, no_message, not_request, not_your_message, late, over, bad_address, bad_delay, too_large, no_such_codec}
use Rattle.vx_call.specs.Rows.{send_refusal, request_refusal, reply_refusal, reply_request_refusal}
use Rattle.vx_context.specs.Stores.{ContextStore}
use Rattle.vx_context.specs.Stands.{ContextsStand}
use Rattle.vx_bus_store.specs.Stores.{BusStore}
use Rattle.vx_bus_store.specs.Stands.{BusStands, AreOfOneHistory}
use Rattle.vx_bus_refusals.proofs.Chains.{none_of_first, none_of_second, none_refused, none_over}

-- ## The last of several causes

none_from : {X : Type 0} (o : Option X) → is_some o ≡ false → o ≡ None
none_from None h = refl
none_from (Some x) h = absurd cc

-- a cause that no history changes is not there, where it is not there for one
of_one : (contexts : ContextStore) (timers : List Timer) (bus : BusStore) (cause : Option Refusal) → AreOfOneHistory contexts timers bus →
    ((history : List Traced) → ContextsStand contexts history → BusStands bus history → cause ≡ None) → cause ≡ None
of_one contexts timers bus cause one none = none_from cause (∥∥₁_elim one (Bool-set (is_some cause) false) (λ p. ap is_some (none p.0 p.1.contexts p.1.bus)))

-- ## What is said

pub record IsSmall (body : Tree) (options : Options) : Type 0 where
  pub deep : tree_depth body ≤ 100
  pub pairs : length options.headers ≤ 1024
  pub bytes : header_bytes options.headers ≤ 65536

small : (body : Tree) (options : Options) → too_large body options ≡ None → IsSmall body options
small body options fits =
    let third = option_or (over 1024 (length options.headers)) (over 65536 (header_bytes options.headers)) in
    let second = option_or (over 100 (tree_depth body)) third in
    let behind = none_of_second _ second fits in
    let last = none_of_second (over 100 (tree_depth body)) third behind in
    record {
      deep = none_over 100 (tree_depth body) (none_of_first (over 100 (tree_depth body)) third behind);
      pairs = none_over 1024 (length options.headers) (none_of_first (over 1024 (length options.headers)) (over 65536 (header_bytes options.headers)) last);
      bytes = none_over 65536 (header_bytes options.headers) (none_of_second (over 1024 (length options.headers)) (over 65536 (header_bytes options.headers)) last);
    }

within : (timeout : ℕ) → ((timeout == 0) || nat_lt 1000000000000 timeout) ≡ false → timeout ≤ 1000000000000
within timeout h = grind (arith, nat_tests)

short : (timeout : ℕ) → bad_delay timeout ≡ None → timeout ≤ 1000000000000
short timeout good = within timeout (none_refused _ _ good)

-- ## Send and Publish

pub send_small : (contexts : ContextStore) (timers : List Timer) (bus : BusStore) (pass : PassNo) (address : List ℕ) (body : Tree) (options : Options) → AreOfOneHistory contexts timers bus →
    ((history : List Traced) → ContextsStand contexts history → BusStands bus history → send_refusal history pass address body options ≡ None) → IsSmall body options
send_small contexts timers bus pass address body options one accepted =
    small body options (of_one contexts timers bus (too_large body options) one (λ history c b.
    let second = option_or (bad_address address) (too_large body options) in
    let first = option_or (holder_closed history pass) second in
    none_of_second (bad_address address) (too_large body options) (none_of_second (holder_closed history pass) second (none_of_second (no_such_codec history options.codec) first (accepted history c b)))))

-- ## Request

-- the causes behind the first three
request_last : (history : List Traced) (pass : PassNo) (context : ContextId) (address : List ℕ) (body : Tree) (options : Options) (timeout : ℕ) →
    request_refusal history pass context address body options timeout ≡ None → option_or (too_large body options) (bad_delay timeout) ≡ None
request_last history pass context address body options timeout accepted =
    let last = option_or (too_large body options) (bad_delay timeout) in
    let fourth = option_or (bad_address address) last in
    let third = option_or (closed history pass context) fourth in
    let second = option_or (not_your_context history pass context) third in
    let first = option_or (no_such_codec history options.codec) second in
    none_of_second (bad_address address) last (none_of_second (closed history pass context) fourth (none_of_second (not_your_context history pass context) third (none_of_second (no_such_codec history options.codec) second (none_of_second (no_context history context) first accepted))))

pub request_small : (contexts : ContextStore) (timers : List Timer) (bus : BusStore) (pass : PassNo) (context : ContextId) (address : List ℕ) (body : Tree) (options : Options) (timeout : ℕ) → AreOfOneHistory contexts timers bus →
    ((history : List Traced) → ContextsStand contexts history → BusStands bus history → request_refusal history pass context address body options timeout ≡ None) → IsSmall body options
request_small contexts timers bus pass context address body options timeout one accepted =
    small body options (of_one contexts timers bus (too_large body options) one (λ history c b.
    none_of_first (too_large body options) (bad_delay timeout) (request_last history pass context address body options timeout (accepted history c b))))

-- its timeout is at most 1,000,000,000,000 ms
pub request_short : (contexts : ContextStore) (timers : List Timer) (bus : BusStore) (pass : PassNo) (context : ContextId) (address : List ℕ) (body : Tree) (options : Options) (timeout : ℕ) → AreOfOneHistory contexts timers bus →
    ((history : List Traced) → ContextsStand contexts history → BusStands bus history → request_refusal history pass context address body options timeout ≡ None) → timeout ≤ 1000000000000
request_short contexts timers bus pass context address body options timeout one accepted =
    short timeout (of_one contexts timers bus (bad_delay timeout) one (λ history c b.
    none_of_second (too_large body options) (bad_delay timeout) (request_last history pass context address body options timeout (accepted history c b))))

-- ## Reply

pub reply_small : (contexts : ContextStore) (timers : List Timer) (bus : BusStore) (pass : PassNo) (message : MessageId) (body : Tree) (options : Options) → AreOfOneHistory contexts timers bus →
    ((history : List Traced) → ContextsStand contexts history → BusStands bus history → reply_refusal history pass message body options ≡ None) → IsSmall body options
reply_small contexts timers bus pass message body options one accepted =
    small body options (of_one contexts timers bus (too_large body options) one (λ history c b.
    let fifth = option_or (too_large body options) (late history message) in
    let fourth = option_or (holder_closed history pass) fifth in
    let third = option_or (not_your_message history pass message) fourth in
    let second = option_or (no_such_codec history options.codec) third in
    let first = option_or (not_request history message) second in
    none_of_first (too_large body options) (late history message)
    (none_of_second (holder_closed history pass) fifth (none_of_second (not_your_message history pass message) fourth (none_of_second (no_such_codec history options.codec) third (none_of_second (not_request history message) second (none_of_second (no_message history message) first (accepted history c b))))))))

-- ## ReplyRequest

again_last : (history : List Traced) (pass : PassNo) (message : MessageId) (context : ContextId) (body : Tree) (options : Options) (timeout : ℕ) →
    reply_request_refusal history pass message context body options timeout ≡ None → option_or (too_large body options) (option_or (bad_delay timeout) (late history message)) ≡ None
again_last history pass message context body options timeout accepted =
    let last = option_or (too_large body options) (option_or (bad_delay timeout) (late history message)) in
    let sixth = option_or (closed history pass context) last in
    let fifth = option_or (not_your_context history pass context) sixth in
    let fourth = option_or (not_your_message history pass message) fifth in
    let third = option_or (no_such_codec history options.codec) fourth in
    let second = option_or (no_context history context) third in
    let first = option_or (not_request history message) second in
    none_of_second (closed history pass context) last
    (none_of_second (not_your_context history pass context) sixth
    (none_of_second (not_your_message history pass message) fifth
    (none_of_second (no_such_codec history options.codec) fourth
    (none_of_second (no_context history context) third (none_of_second (not_request history message) second (none_of_second (no_message history message) first accepted))))))

pub again_small : (contexts : ContextStore) (timers : List Timer) (bus : BusStore) (pass : PassNo) (message : MessageId) (context : ContextId) (body : Tree) (options : Options) (timeout : ℕ) → AreOfOneHistory contexts timers bus →
    ((history : List Traced) → ContextsStand contexts history → BusStands bus history → reply_request_refusal history pass message context body options timeout ≡ None) → IsSmall body options
again_small contexts timers bus pass message context body options timeout one accepted =
    small body options (of_one contexts timers bus (too_large body options) one (λ history c b.
    none_of_first (too_large body options) (option_or (bad_delay timeout) (late history message)) (again_last history pass message context body options timeout (accepted history c b))))

pub again_short : (contexts : ContextStore) (timers : List Timer) (bus : BusStore) (pass : PassNo) (message : MessageId) (context : ContextId) (body : Tree) (options : Options) (timeout : ℕ) → AreOfOneHistory contexts timers bus →
    ((history : List Traced) → ContextsStand contexts history → BusStands bus history → reply_request_refusal history pass message context body options timeout ≡ None) → timeout ≤ 1000000000000
again_short contexts timers bus pass message context body options timeout one accepted =
    short timeout (of_one contexts timers bus (bad_delay timeout) one (λ history c b.
    let last = option_or (bad_delay timeout) (late history message) in
    none_of_first (bad_delay timeout) (late history message) (none_of_second (too_large body options) last (again_last history pass message context body options timeout (accepted history c b)))))
