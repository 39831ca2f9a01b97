-- A consumer's messages are taken in the order in which it accepted them.
use Rattle.std.proofs.Common.{◌≡◌, ℕ, ◌<◌, List, [], ◌∷◌, ◌++◌, length, refl, ap, sym, ◌∙◌, subst, append_assoc, arith}
use Rattle.std.proofs.Common.{inl, inr}
use Rattle.std.specs.Prelude.{Bool, true, false, not, ◌&&◌, ◌||◌, cond, filter, find, is_some, Some}
use Rattle.std.specs.List.{list_any}
use Rattle.std.specs.Option.{option_and_then}
use Rattle.std.proofs.lemmas.Bool.{eq-eqb}
use Rattle.std.proofs.lemmas.Bool.Decides.{nat_tests}
use Rattle.std.proofs.lemmas.List.{append-nil, length-append}
use Rattle.std.proofs.lemmas.List.Folds.{list_any-append}
use Rattle.vx_data.specs.declared.ids.ConsumerId.{ConsumerId}
use Rattle.vx_data.specs.declared.ids.ContextId.{ContextId}
use Rattle.vx_data.specs.declared.ids.MessageId.{MessageId}
use Rattle.vx_data.specs.Ids.{same_consumer, same_message}
use Rattle.vx_message.specs.declared.Lane.{Lane}
use Rattle.vx_message.specs.declared.Mode.TheVariants as modes
use Rattle.vx_message.specs.declared.Message.{Message}
use Rattle.vx_call.specs.declared.reply.Task.{Task}
use Rattle.vx_call.specs.declared.reply.Task.TheVariants as tasks
use Rattle.vx_call.specs.declared.history.Consumer.{Consumer}
use Rattle.vx_call.specs.declared.history.Traced.{Traced}
use Rattle.vx_call.specs.History.{is_accepted, made_by}
use Rattle.vx_call.specs.Registered.{is_named, registered}
use Rattle.vx_call.specs.Consumers.{live}
use Rattle.vx_call.specs.Owners.{context_owning}
use Rattle.vx_call.specs.Contexts.{context_at}
use Rattle.vx_call.specs.Given.{context_of, mode_of}
use Rattle.vx_call.specs.Mailboxes.{accepting}
use Rattle.vx_call.specs.Accepted.{accepted_made, accepted_kind, accepted}
use Rattle.vx_call.specs.Items.{Waiting, is_for, untaken, waiting}
use Rattle.vx_call.specs.Held.{runs}
use Rattle.vx_call.specs.Next.{is_lane_of, is_on, may_run, is_full, next}
use Rattle.vx_call.specs.Machine.{IsLegal}
use Rattle.vx_call.proofs.Lasting.{lasting_more, and_false}
use Rattle.vx_call.proofs.Each.{Each, Each-find, weaken, by_entries}
use Rattle.vx_call.proofs.Apart.{Apart, Apart-filter}
use Rattle.vx_call.proofs.Found.{find_passes, later_name}
use Rattle.vx_call.proofs.Filters.{filter-map, each_either}
use Rattle.vx_call.proofs.Consumers.{IsLive, live_named, live_found, same_consumer-true}
use Rattle.vx_call.proofs.Tasks.{IsKnown, untaken_known}
use Rattle.vx_call.proofs.Items.{tasks_of}
use Rattle.vx_call.proofs.Parts.{own}
use Rattle.vx_call.proofs.Ready.{stands}
use Rattle.vx_call.proofs.Owners.{waiting_owned}
use Rattle.vx_laws.specs.Order.{IsTakenBefore, TakesAsAccepted, TakesInOrder}
use Rattle.vx_laws.proofs.Handed.{Handed, handed, handed_task}
use Rattle.vx_laws.proofs.Rising.{is_late, untaken_in_time}
use Rattle.vx_call.proofs.Legal.{legal_front}
use Rattle.vx_call.proofs.Registered.{live_registered, context_that}
use Rattle.vx_laws.proofs.Live.{IsAtHome, IsForLive, untaken_live}
use Rattle.vx_laws.proofs.Taken.{same_message-true}
use Rattle.vx_laws.proofs.Accepted.{is_message, IsThere, IsOfContext, Fate, taken_on, accepted_became}

-- ## The first that waits

-- where all that pass one test pass another, what is first by the other, and passes both, is first by the one
found_first : {A : Type 0} (test p : A → Bool) (xs : List A) (x : A) → find test xs ≡ Some x → p x ≡ true → Each (λ y. p y ≡ true → test y ≡ true) xs → (rest : List A) × (filter p xs ≡ x ∷ rest)
found_first test p [] x found here alike = cc
found_first {A} test p (y ∷ xs) x found here alike =
    elim (p y) as (λ b. p y ≡ b → (rest : List A) × (cond b (y ∷ filter p xs) (filter p xs) ≡ x ∷ rest)) [
      | true ↦ λ passes.
          (let one : Some y ≡ Some x = sym (ap (λ b. cond b (Some y) (find test xs)) (alike.0 passes)) ∙ found in
          let same : y ≡ x = cc in
          (filter p xs, ap (λ z. z ∷ filter p xs) same))
      | false ↦ λ fails.
          found_first test p xs x
          (elim (test y) as (λ c. cond c (Some y) (find test xs) ≡ Some x → find test xs ≡ Some x) [
            | true ↦ λ now. (let same : y ≡ x = cc in let no : true ≡ false = sym here ∙ ap p (sym same) ∙ fails in absurd cc)
            | false ↦ λ later. later
          ] found)
          here alike.1
    ] refl

-- whether the lane's next task may be this one
abbrev may_be_next : List Traced → Lane → Waiting → Bool
may_be_next history lane item = not (is_full history lane) && (is_on history lane item && may_run history item (mode_of history item.task))

-- a handler's task, by its context
abbrev handler_next : List Traced → Lane → ContextId → Bool
handler_next history lane context = not (is_full history lane) && (is_lane_of lane (context_at history context) modes.Handler && not (runs history context))

as_handler : (history : List Traced) (lane : Lane) (item : Waiting) → mode_of history item.task ≡ modes.Handler → may_be_next history lane item ≡ handler_next history lane item.context
as_handler history lane item is_handler = ap (λ mode. not (is_full history lane) && (is_lane_of lane (context_at history item.context) mode && may_run history item mode)) is_handler

next_alike : (history : List Traced) (lane : Lane) (item other : Waiting) → item.context ≡ other.context → mode_of history item.task ≡ modes.Handler → mode_of history other.task ≡ modes.Handler →
    may_be_next history lane item ≡ may_be_next history lane other
next_alike history lane item other same one two = as_handler history lane item one ∙ ap (handler_next history lane) same ∙ sym (as_handler history lane other two)

own_mode : (history : List Traced) (id : ConsumerId) (task : Task) → is_for id task ≡ true → mode_of history task ≡ modes.Handler
own_mode history id (tasks.Deliver consumer message) mine = refl
own_mode history id _ mine = absurd cc

-- the context of a consumer's task
own_context : (history : List Traced) (id : ConsumerId) (task : Task) → is_for id task ≡ true → context_of history task ≡ option_and_then context_that (find (is_named id) (registered history))
own_context history id (tasks.Deliver consumer message) mine = ap (λ i. option_and_then context_that (find (is_named i) (registered history))) (sym (same_consumer-true id consumer mine))
own_context history id _ mine = absurd cc

-- of the tasks of a consumer that wait, the next one of a lane is the first
pub first_waits : (history : List Traced) (lane : Lane) (item : Waiting) (id : ConsumerId) → next history lane ≡ Some item → is_for id item.task ≡ true → (rest : List Task) × (own id (tasks_of (waiting history)) ≡ item.task ∷ rest)
first_waits history lane item id found mine =
    let may = may_be_next history lane in
    let Owned : Waiting → Type 0 = λ x. context_of history x.task ≡ Some x.context in
    let its : Owned item = Each-find Owned may (waiting history) item (waiting_owned history) found in
    let alike : Each (λ x. is_for id x.task ≡ true → may x ≡ true) (waiting history) =
    weaken Owned (λ x. is_for id x.task ≡ true → may x ≡ true) (waiting history)
    (λ x owned also_mine.
    (let contexts : Some x.context ≡ Some item.context = sym owned ∙ own_context history id x.task also_mine ∙ sym (own_context history id item.task mine) ∙ its in
    let same : x.context ≡ item.context = cc in
    next_alike history lane x item same (own_mode history id x.task also_mine) (own_mode history id item.task mine) ∙ find_passes may (waiting history) item found))
    (waiting_owned history) in
    let first = found_first may (λ (x : Waiting). is_for id x.task) (waiting history) item found mine alike in
    (tasks_of first.0, filter-map (is_for id) (λ (x : Waiting). x.task) (waiting history) ∙ ap tasks_of first.1)

-- ## None that was sent earlier is there

not_earlier : (id : ConsumerId) (message : Message) (named : MessageId) (task : Task) → named.0.0 < message.id.0.0 → is_late (tasks.Deliver id message) task ≡ false → is_message id named task ≡ false
not_earlier id message named (tasks.Deliver consumer other) lt in_time =
    let differs : same_message named other.id ≡ false = grind (arith, nat_tests) in
    ap (λ b. same_consumer id consumer && b) differs ∙ and_false (same_consumer id consumer)
not_earlier id message named _ lt in_time = refl

not_itself : (id : ConsumerId) (message : Message) (named : MessageId) → named.0.0 < message.id.0.0 → is_message id named (tasks.Deliver id message) ≡ false
not_itself id message named lt =
    let differs : same_message named message.id ≡ false = grind (arith, nat_tests) in
    ap (λ b. same_consumer id id && b) differs ∙ and_false (same_consumer id id)

not_own : (id : ConsumerId) (named : MessageId) (task : Task) → is_for id task ≡ false → is_message id named task ≡ false
not_own id named (tasks.Deliver consumer message) another = ap (λ b. b && same_message named message.id) another
not_own id named _ another = refl

none_earlier : (history : List Traced) (lane : Lane) (item : Waiting) (consumer : Consumer) (context : ContextId) (message : Message) (named : MessageId) → context_owning consumer.owner ≡ Some context → next history lane ≡ Some item → item.task ≡ tasks.Deliver consumer.id message →
    IsLive history consumer → named.0.0 < message.id.0.0 → Each (λ task. is_message consumer.id named task ≡ false) (untaken history)
none_earlier history lane item consumer context message named owns found is_task is_live lt =
    let id = consumer.id in
    let task = tasks.Deliver id message in
    let Not : Task → Type 0 = λ other. is_message id named other ≡ false in
    let mine : is_for id item.task ≡ true = ap (is_for id) is_task ∙ eq-eqb id.0.0 id.0.0 refl in
    let first = first_waits history lane item id found mine in
    let parts = stands history consumer context owns is_live in
    let whole : own id (untaken history) ≡ task ∷ (first.0 ++ parts.rest) = parts.whole ∙ ap (λ ts. ts ++ parts.rest) first.1 ∙ ap (λ t. t ∷ (first.0 ++ parts.rest)) is_task in
    let P : List Task → Type 0 = Apart is_late in
    let in_time = subst P whole (Apart-filter is_late (is_for id) (untaken history) (untaken_in_time history)) in
    let Q : List Task → Type 0 = Each Not in
    let none : Each Not (task ∷ (first.0 ++ parts.rest)) =
    (not_itself id message named lt, weaken (λ other. is_late task other ≡ false) Not (first.0 ++ parts.rest) (λ other h. not_earlier id message named other lt h) in_time.0) in
    each_either Not (is_for id) (untaken history) (subst Q (sym whole) none) (λ other another. not_own id named other another)

-- ## Messages that were accepted before

no_later : (id : ConsumerId) (history : List Traced) (new : Traced) (named : MessageId) → named.0.0 < length history → list_any (same_message named) (made_by (accepted_kind id) history new) ≡ false
no_later id history new named lt =
    let differs = later_name (length history) named.0.0 lt in
    elim (is_accepted new.entry.reply) as (λ b. list_any (same_message named) (cond b (accepted_made id history new.entry.call new.mark.deed) []) ≡ false) [
      | true ↦
          (elim (is_some (find (is_named id) (accepting history new.entry.call new.mark.deed))) as (λ c. list_any (same_message named) (cond c (record { 0 = record { 0 = length history } } ∷ []) []) ≡ false) [
            | true ↦ grind (arith, nat_tests)
            | false ↦ refl
          ])
      | false ↦ refl
    ]

or_none : (a b : Bool) → b ≡ false → (a || b) ≡ true → a ≡ true
or_none true b none h = refl
or_none false b none h = cc

-- what is named after an entry of these was accepted by one of these
accepted_before : (before after : List Traced) (id : ConsumerId) (named : MessageId) → named.0.0 < length before → list_any (same_message named) (accepted (before ++ after) id) ≡ true →
    list_any (same_message named) (accepted before id) ≡ true
accepted_before before after id named lt =
    let has : List Traced → Bool = λ h. list_any (same_message named) (accepted h id) in
    by_entries (λ later. has (before ++ later) ≡ true → has before ≡ true) (λ h. ap has (sym (append-nil before)) ∙ h)
    (λ later new then h.
    (let all = before ++ later in
    let lengths = length-append before later in
    let made = made_by (accepted_kind id) all new in
    then
    (or_none (has all) (list_any (same_message named) made) (no_later id all new named (omega arith))
    (sym (ap (list_any (same_message named)) (lasting_more (accepted_kind id) all new (λ m. and_false (is_accepted new.entry.reply))) ∙ list_any-append (same_message named) (accepted all id) made)
    ∙ ap has (append_assoc before later (new ∷ []))
    ∙ h)))) after

any_each : (P : MessageId → Type 0) (named : MessageId) (all : List MessageId) → Each P all → list_any (same_message named) all ≡ true → P named
any_each P named [] each h = absurd cc
any_each P named (first ∷ others) each h =
    elim (same_message named first) as (λ b. same_message named first ≡ b → (b || list_any (same_message named) others) ≡ true → P named) [
      | true ↦ λ same here. subst P (sym (same_message-true named first same)) each.0
      | false ↦ λ differs later. any_each P named others each.1 later
    ] refl h

-- ## In order

-- what is there, and was sent before a message that is handed out, can't be
not_there : (history : List Traced) (number : ℕ) (lane : Lane) (id : ConsumerId) (message : Message) (named : MessageId) (take : Handed history number lane (tasks.Deliver id message)) → IsAtHome take.before id →
    named.0.0 < message.id.0.0 → IsThere take.before id named → ⊥
not_there history number lane id message named take home lt there =
    let before : List Traced = take.before in
    let consumer : Consumer = home.consumer in
    let is_live : live before id ≡ Some consumer = home.is_live in
    let same : id ≡ consumer.id = live_named before id consumer is_live in
    let P : ConsumerId → Type 0 = λ i. Each (λ task. is_message i named task ≡ false) (untaken before) in
    let none : P id =
    subst P (sym same) (none_earlier before lane take.item consumer home.context message named home.owns take.found (take.is_task ∙ ap (λ i. tasks.Deliver i message) same) (live_found before id consumer is_live) lt) in
    let no = Each-find (λ task. is_message id named task ≡ false) (is_message id named) (untaken before) there.0 none there.1 in
    let yes = find_passes (is_message id named) (untaken before) there.0 there.1 in
    absurd cc

taken_before : (history : List Traced) (number : ℕ) (lane : Lane) (id : ConsumerId) (message : Message) (named : MessageId) → IsLegal history → Handed history number lane (tasks.Deliver id message) →
    list_any (same_message named) (accepted history id) ≡ true → named.0.0 < message.id.0.0 → IsTakenBefore history number id named
taken_before history number lane id message named legal take has lt =
    let before : List Traced = take.before in
    let rest : List Traced = take.new ∷ take.after in
    let task = tasks.Deliver id message in
    let known : message.id.0.0 < length before = handed_task (IsKnown before) history number lane task take refl (untaken_known before) in
    let legal_before : IsLegal before = legal_front before rest (subst (λ (h : List Traced). IsLegal h) take.parts legal) in
    let home : IsAtHome before id = handed_task (IsForLive before) history number lane task take refl (untaken_live before legal_before) in
    let consumer : Consumer = home.consumer in
    let is_live = live_found before id consumer home.is_live in
    let is_id : id ≡ consumer.id = live_named before id consumer home.is_live in
    let of : IsOfContext before id =
    (home.context, ap (λ i. option_and_then context_that (find (is_named i) (registered before))) is_id ∙ ap (option_and_then context_that) (live_registered before consumer is_live) ∙ home.owns) in
    let had = accepted_before before rest id named (omega arith) (ap (λ h. list_any (same_message named) (accepted h id)) (sym take.parts) ∙ has) in
    let became = any_each (Fate id before) named (accepted before id) (accepted_became before id) had in
    let P : List Traced → Type 0 = λ h. IsTakenBefore h number id named in
    elim (became.1 of) as (λ _. IsTakenBefore history number id named) [
      | inl taken ↦ subst P (sym take.parts) (taken_on before rest (length before) number id named (let at = take.at in omega arith) taken)
      | inr left ↦
          (elim left as (λ _. IsTakenBefore history number id named) [
            | inl there ↦ absurd (not_there history number lane id message named take home lt there)
            | inr over ↦ absurd (over consumer is_live (sym is_id))
          ])
    ]

takes_as_accepted : (history : List Traced) → IsLegal history → TakesAsAccepted history
takes_as_accepted history legal = λ number lane consumer message id takes has lt.
    taken_before history number lane consumer message id legal (handed history number lane (tasks.Deliver consumer message) legal takes) has lt

pub take_in_order : (history : List Traced) → IsLegal history → TakesInOrder history
take_in_order history legal =
    let in_order = takes_as_accepted history legal in
    record { as_accepted = in_order; as_sent = λ who number lane consumer message id takes has sends its lt. in_order number lane consumer message id takes has lt }
