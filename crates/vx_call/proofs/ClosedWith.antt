-- What ends with contexts that close, and what is left.
use Rattle.std.proofs.Common.{◌≡◌, ℕ, List, [], ◌∷◌, ◌++◌, refl, ap, sym, ◌∙◌, append-nil}
use Rattle.std.specs.Prelude.{Bool, true, false, not, cond, ◌&&◌, ◌||◌, filter, Option, None, Some}
use Rattle.std.specs.List.{count_by}
use Rattle.std.specs.Str.{bytes_eq}
use Rattle.std.proofs.lemmas.List.Elements.{filter_agree}
use Rattle.vx_data.specs.declared.ids.ContextId.{ContextId}
use Rattle.vx_data.specs.declared.ids.PassNo.{PassNo}
use Rattle.vx_data.specs.Ids.{same_context}
use Rattle.vx_message.specs.declared.Owner.{Owner}
use Rattle.vx_message.specs.declared.rules.Codec.{Codec}
use Rattle.vx_message.specs.declared.rules.Rule.{Rule}
use Rattle.vx_consumer.specs.Mailboxes as moves
use Rattle.vx_call.specs.declared.call.Call.TheVariants as calls
use Rattle.vx_call.specs.declared.reply.Reply.{Reply}
use Rattle.vx_call.specs.declared.reply.Reply.TheVariants as replies
use Rattle.vx_call.specs.declared.reply.Task.{Task}
use Rattle.vx_call.specs.declared.history.Consumer.{Consumer}
use Rattle.vx_call.specs.declared.history.Deed.TheVariants as deeds
use Rattle.vx_call.specs.declared.history.Mark.{Mark}
use Rattle.vx_call.specs.declared.history.Traced.{Traced}
use Rattle.vx_call.specs.History.{Kind, is_accepted, plain_entry, no_mark, made_by, ended_by, lasting}
use Rattle.vx_call.specs.Contexts.{context_kind}
use Rattle.vx_call.specs.Queued.{queued_kind}
use Rattle.vx_call.specs.Pools.{pool_kind}
use Rattle.vx_call.specs.Codecs.{codec_kind}
use Rattle.vx_call.specs.Rules.{rule_kind}
use Rattle.vx_call.specs.Held.{held_kind, is_of_context}
use Rattle.vx_call.specs.Closings.{closes, ClosesOne}
use Rattle.vx_call.specs.Consumers.{consumer_kind, consumers, handlers, closes_owner, ends}
use Rattle.vx_call.specs.Choices.{is_empty, choice_kind, is_emptied, choices}
use Rattle.vx_call.specs.Given.{context_of, given_kind}
use Rattle.vx_call.specs.Mailboxes.{move_if, mailbox}
use Rattle.vx_call.specs.Askers.{Asker, is_asked_by}
use Rattle.vx_call.specs.Askers as askers
use Rattle.vx_call.specs.Requests.{Open, open_kind, unsettled, closes_asker, is_lost_at, settles}
use Rattle.vx_call.specs.Settled.{no_handlers, settlements, settled_made, settled_kind, drop_all, dropped_with_context, dropped_with_connection, dropped_kind}
use Rattle.vx_call.specs.Homes.{heard}
use Rattle.vx_call.specs.Lives.{life_tasks}
use Rattle.vx_call.specs.Items.{Waiting, closes_task, outcome_tasks, task_kind, untaken, placed, item_kind, waiting}
use Rattle.vx_call.proofs.Lasting.{lasting-append, lasting_more, and_false, filter_all}
use Rattle.vx_call.proofs.Each.{Each, Each-filter, weaken}
use Rattle.vx_call.proofs.Filters.{filter_no, filter_alike}
use Rattle.vx_call.proofs.Contexts.{same_context-swap}
use Rattle.vx_call.proofs.Mailboxes.{mailbox_unmoved}
use Rattle.vx_call.proofs.Owners.{IsOwned, waiting_owned}
use Rattle.vx_call.proofs.Stored.{IsAskedByContext}
use Rattle.vx_call.proofs.Counts.{count_kept}
use Rattle.vx_call.proofs.Closing.{may_close_one, may_close, IsClosingCall, closing_call, IsClosingOne, closing_one, closing_too, closes_by_one, closing_items}

-- ## What is gone

-- whether an entry closes the context
abbrev pub is_gone : List Traced → Traced → ContextId → Bool
is_gone history new context = closes history new.entry.pass new.entry.call context

-- whether it closes the context that a thing is of
abbrev pub is_of_gone : List Traced → Traced → Option ContextId → Bool
is_of_gone history new None = false
is_of_gone history new (Some context) = is_gone history new context

abbrev pub owner_gone : List Traced → Traced → Owner → Bool
owner_gone history new owner = closes_owner history new.entry.pass new.entry.call no_mark owner

abbrev pub asker_gone : List Traced → Traced → Open → Bool
asker_gone history new request = closes_asker history new.entry.pass new.entry.call request.asker

-- whether a request ends: its asker is gone, or the context whose handler was to get its message
abbrev pub ends_with : List Traced → Traced → Open → Bool
ends_with history new request = asker_gone history new request || is_lost_at history new.entry.pass new.entry.call request request.home

-- the requests that end and whose asker stays
abbrev pub failing : List Traced → Traced → List Open
failing history new = filter (λ (request : Open). not (asker_gone history new request)) (filter (ends_with history new) (unsettled history))

abbrev pub dropping : List Traced → Traced → List Open
dropping history new = filter (asker_gone history new) (unsettled history)

-- The entry closes contexts. All that they have ends, with the requests that they asked; those whose message waits for a
-- handler of them fail. Nothing else is moved.
pub record ClosesContexts (history : List Traced) (new : Traced) : Type 0 where
  pub contexts : made_by context_kind history new ≡ []
  pub queued : made_by queued_kind history new ≡ []
  pub pools : made_by pool_kind history new ≡ []
  pub held : made_by held_kind history new ≡ []
  pub given : made_by given_kind history new ≡ []
  pub codecs : made_by codec_kind history new ≡ []
  pub codecs_kept : (codec : Codec) → ended_by codec_kind history new codec ≡ false
  pub rules : made_by rule_kind history new ≡ []
  pub rules_kept : (rule : Rule) → ended_by rule_kind history new rule ≡ false
  pub consumers : consumers (history ++ new ∷ []) ≡ filter (λ (consumer : Consumer). not (owner_gone history new consumer.owner)) (consumers history)
  pub mailboxes : (consumer : Consumer) → owner_gone history new consumer.owner ≡ false → mailbox (history ++ new ∷ []) consumer ≡ mailbox history consumer
  pub choices : (address : List ℕ) → (is_empty (handlers history address) ≡ true → choices history address ≡ 0) →
      choices (history ++ new ∷ []) address ≡ cond (is_empty (handlers (history ++ new ∷ []) address)) 0 (choices history address)
  pub unsettled : unsettled (history ++ new ∷ []) ≡ filter (λ request. not (ends_with history new request)) (unsettled history)
  pub settles : made_by settled_kind history new ≡ settlements history no_handlers (failing history new)
  pub drops : made_by dropped_kind history new ≡ drop_all history (dropping history new)
  pub settled : lasting settled_kind (history ++ new ∷ []) ≡ lasting settled_kind history ++ settlements history no_handlers (failing history new)
  pub dropped : lasting dropped_kind (history ++ new ∷ []) ≡ lasting dropped_kind history ++ drop_all history (dropping history new)
  pub untaken : untaken (history ++ new ∷ [])
      ≡ filter (λ task. not (is_of_gone history new (context_of history task))) (untaken history) ++ outcome_tasks (heard (settlements history no_handlers (failing history new)))
  pub waiting : waiting (history ++ new ∷ []) ≡ filter (λ (item : Waiting). not (is_gone history new item.context)) (waiting history) ++ placed history 0 (life_tasks history new)

-- ## Steps

none_if : {A : Type 0} (b : Bool) → cond {A = List A} b [] [] ≡ []
none_if true = refl
none_if false = refl

or_false : (b : Bool) → (b || false) ≡ b
or_false true = refl
or_false false = refl

-- an accepted entry that leaves some out, and puts others behind
step : {A : Type 0} (kind : Kind A) (history : List Traced) (new : Traced) (out : A → Bool) (more : List A) → is_accepted new.entry.reply ≡ true →
    ((x : A) → kind.ended history new x ≡ out x) → kind.made history new ≡ more → lasting kind (history ++ new ∷ []) ≡ filter (λ x. not (out x)) (lasting kind history) ++ more
step {A} kind history new out more ok ended made =
    lasting-append kind history new
    ∙ ap (λ b. filter (λ x. not (b && kind.ended history new x)) (lasting kind history) ++ cond b (kind.made history new) []) ok
    ∙ ap (λ xs. xs ++ kind.made history new) (filter_agree _ _ (λ (x : A). ap not (ended x)) (lasting kind history))
    ∙ ap (λ xs. filter (λ x. not (out x)) (lasting kind history) ++ xs) made

less : {A : Type 0} (kind : Kind A) (history : List Traced) (new : Traced) (out : A → Bool) → is_accepted new.entry.reply ≡ true →
    ((x : A) → kind.ended history new x ≡ out x) → kind.made history new ≡ [] → lasting kind (history ++ new ∷ []) ≡ filter (λ x. not (out x)) (lasting kind history)
less kind history new out ok ended made = step kind history new out [] ok ended made ∙ append-nil _

more : {A : Type 0} (kind : Kind A) (history : List Traced) (new : Traced) (made : List A) → is_accepted new.entry.reply ≡ true →
    ((x : A) → kind.ended history new x ≡ false) → kind.made history new ≡ made → lasting kind (history ++ new ∷ []) ≡ lasting kind history ++ made
more kind history new made ok kept is =
    step kind history new (λ x. false) made ok kept is ∙ ap (λ xs. xs ++ made) (filter_all (λ x. not false) (λ x. refl) (lasting kind history))

-- nobody asked whose connection closes
not_shut : (asker : Asker) → is_asked_by [] asker ≡ false
not_shut (askers.context context) = refl
not_shut (askers.connection conn at) = refl

-- where none is left at an address, its choices start anew
from_none : (before after : Bool) (n : ℕ) → (before ≡ true → n ≡ 0) → cond (not before && after) 0 n ≡ cond after 0 n
from_none true true n idle = idle refl
from_none true false n idle = refl
from_none false after n idle = refl

-- ## What all entries that close contexts do

-- an entry that closes contexts, where nothing has to do with connections
pub record IsClosing (history : List Traced) (new : Traced) : Type 0 where
  pub accepted : is_accepted new.entry.reply ≡ true
  pub mark : new.mark ≡ no_mark
  pub call : may_close new.entry.call ≡ true

no_more : {A : Type 0} (b : Bool) (made : List A) → made ≡ [] → cond b made [] ≡ []
no_more b made none = ap (λ xs. cond b xs []) none ∙ none_if b

module _ (history : List Traced) (new : Traced) (closing : IsClosing history new) where
  how : IsClosingCall history new.entry.pass new.entry.call
  how = closing_call history new.entry.pass new.entry.call closing.call

  consumer_ends : (consumer : Consumer) → ends history new.entry.pass new.entry.call new.mark consumer ≡ owner_gone history new consumer.owner
  consumer_ends consumer =
      ap (λ b. b || closes_owner history new.entry.pass new.entry.call new.mark consumer.owner) (how.named new.mark.deed consumer.id)
      ∙ ap (λ mark. closes_owner history new.entry.pass new.entry.call mark consumer.owner) closing.mark

  pub consumers_left : consumers (history ++ new ∷ []) ≡ filter (λ (consumer : Consumer). not (owner_gone history new consumer.owner)) (consumers history)
  consumers_left = less consumer_kind history new (λ consumer. owner_gone history new consumer.owner) closing.accepted consumer_ends (how.registers new.mark.deed)

  pub mailbox_left : (consumer : Consumer) → owner_gone history new consumer.owner ≡ false → mailbox (history ++ new ∷ []) consumer ≡ mailbox history consumer
  mailbox_left consumer stays =
      mailbox_unmoved history new consumer (how.moves consumer new.mark new.entry.reply ∙ ap (λ b. move_if b moves.ends) (consumer_ends consumer ∙ stays))

  pub choices_left : (address : List ℕ) → (is_empty (handlers history address) ≡ true → choices history address ≡ 0) →
      choices (history ++ new ∷ []) address ≡ cond (is_empty (handlers (history ++ new ∷ []) address)) 0 (choices history address)
  choices_left address idle =
      ap (count_by (bytes_eq address)) (less choice_kind history new (is_emptied history new) closing.accepted (λ a. refl) (how.chooses new.mark.deed))
      ∙ count_kept (is_emptied history new) address (lasting choice_kind history)
      ∙ from_none (is_empty (handlers history address)) (is_empty (handlers (history ++ new ∷ []) address)) (choices history address) idle

  request_ends : (request : Open) → open_kind.ended history new request ≡ ends_with history new request
  request_ends request =
      ap (λ (mark : Mark). settles history new.entry.pass new.entry.call mark.deed request || is_asked_by mark.shut request.asker) closing.mark
      ∙ ap (λ b. settles history new.entry.pass new.entry.call deeds.Nothing request || b) (not_shut request.asker)
      ∙ or_false (settles history new.entry.pass new.entry.call deeds.Nothing request)
      ∙ how.settles deeds.Nothing request

  pub unsettled_left : unsettled (history ++ new ∷ []) ≡ filter (λ request. not (ends_with history new request)) (unsettled history)
  unsettled_left =
      less open_kind history new (ends_with history new) closing.accepted request_ends
      (ap (filter (λ (request : Open). not (is_asked_by new.mark.shut request.asker))) (how.asks new.mark.deed))

  pub drops_now : made_by dropped_kind history new ≡ drop_all history (dropping history new)
  drops_now =
      ap (λ b. cond b (dropped_kind.made history new) []) closing.accepted
      ∙ ap (λ (mark : Mark). drop_all history (dropped_with_context history new.entry.pass new.entry.call ++ dropped_with_connection history new mark.shut)) closing.mark
      ∙ ap (drop_all history) (append-nil _ ∙ how.dropped)

  pub dropped_more : lasting dropped_kind (history ++ new ∷ []) ≡ lasting dropped_kind history ++ drop_all history (dropping history new)
  dropped_more = lasting_more dropped_kind history new (λ d. and_false (is_accepted new.entry.reply)) ∙ ap (λ ds. lasting dropped_kind history ++ ds) drops_now

-- ## One context

pub one_call : (history : List Traced) (new : Traced) (context : ContextId) → ClosesOne history new context → may_close_one new.entry.call ≡ true
one_call history new context one = closes_by_one history new.entry.pass new.entry.call context one.closing

one_gone : (history : List Traced) (new : Traced) (context : ContextId) → ClosesOne history new context → (other : ContextId) → is_gone history new other ≡ same_context other context
one_gone history new context one other = (closing_one history new.entry.pass new.entry.call (one_call history new context one)).closes other ∙ ap (is_of_context other) one.closing

of_gone : (history : List Traced) (new : Traced) (context : ContextId) → ClosesOne history new context → (of : Option ContextId) → is_of_context context of ≡ is_of_gone history new of
of_gone history new context one None = refl
of_gone history new context one (Some other) = same_context-swap context other ∙ sym (one_gone history new context one other)

module _ (history : List Traced) (new : Traced) (context : ContextId) (one : ClosesOne history new context) where
  is_closing : IsClosing history new
  is_closing = record { accepted = one.accepted; mark = one.mark; call = closing_too new.entry.call (one_call history new context one) }

  how_one : IsClosingOne history new.entry.pass new.entry.call
  how_one = closing_one history new.entry.pass new.entry.call (one_call history new context one)

  -- those that the call settles with an outcome
  pub settles_failing : settled_made history new.entry.pass new.entry.call new.mark.deed ≡ settlements history no_handlers (failing history new)
  settles_failing =
      how_one.settled new.mark.deed
      ∙ ap (λ requests. settlements history no_handlers (filter (λ (request : Open). not (asker_gone history new request)) requests))
      (filter_agree _ _ ((closing_call history new.entry.pass new.entry.call is_closing.call).settles new.mark.deed) (unsettled history))

  settled_more : lasting settled_kind (history ++ new ∷ []) ≡ lasting settled_kind history ++ settlements history no_handlers (failing history new)
  settled_more = more settled_kind history new (settlements history no_handlers (failing history new)) one.accepted (λ x. refl) settles_failing

  task_gone : (reply : Reply) (task : Task) → task_kind.ended history new task ≡ is_of_gone history new (context_of history task)
  task_gone reply task =
      how_one.task new.entry.reply task ∙ ap (λ o. closes_task history o task) one.closing ∙ of_gone history new context one (context_of history task)

  untaken_left : untaken (history ++ new ∷ [])
      ≡ filter (λ task. not (is_of_gone history new (context_of history task))) (untaken history) ++ outcome_tasks (heard (settlements history no_handlers (failing history new)))
  untaken_left =
      step task_kind history new (λ task. is_of_gone history new (context_of history task)) (outcome_tasks (heard (settlements history no_handlers (failing history new)))) one.accepted
      (task_gone new.entry.reply) (how_one.tasks new.mark.deed ∙ ap (λ ended. outcome_tasks (heard ended)) settles_failing)

  waiting_left : waiting (history ++ new ∷ []) ≡ filter (λ (item : Waiting). not (is_gone history new item.context)) (waiting history) ++ placed history 0 (life_tasks history new)
  waiting_left =
      let made = placed history 0 (life_tasks history new) in
      step item_kind history new (λ item. is_of_gone history new (context_of history item.task)) made one.accepted
      (λ item. how_one.item new.entry.reply item.task ∙ ap (λ o. closes_task history o item.task) one.closing ∙ of_gone history new context one (context_of history item.task))
      (closing_items history new new.entry.call context (one_call history new context one) one.closing)
      ∙ ap (λ items. items ++ made)
      (filter_alike (λ (item : Waiting). not (is_of_gone history new (context_of history item.task))) (λ (item : Waiting). not (is_gone history new item.context)) (waiting history)
      (weaken (IsOwned history) _ (waiting history) (λ item owned. ap (λ o. not (is_of_gone history new o)) owned) (waiting_owned history)))

  pub one_closes : ClosesContexts history new
  one_closes =
      let how = closing_call history new.entry.pass new.entry.call is_closing.call in
      let ok = is_accepted new.entry.reply in
      record {
        contexts = no_more ok _ how.contexts;
        queued = no_more ok _ how.queued;
        pools = no_more ok _ how.pools;
        held = no_more ok _ (how.held new.entry.reply);
        given = no_more ok _ (how.gives new.entry.reply);
        codecs = no_more ok _ how.codecs;
        codecs_kept = λ codec. ap (λ b. ok && b) (how.codecs_kept codec) ∙ and_false ok;
        rules = no_more ok _ how.rules;
        rules_kept = λ rule. ap (λ b. ok && b) (how.rules_kept rule) ∙ and_false ok;
        consumers = consumers_left history new is_closing;
        mailboxes = mailbox_left history new is_closing;
        choices = choices_left history new is_closing;
        unsettled = unsettled_left history new is_closing;
        settles = ap (λ b. cond b (settled_made history new.entry.pass new.entry.call new.mark.deed) []) one.accepted ∙ settles_failing;
        drops = drops_now history new is_closing;
        settled = settled_more;
        dropped = dropped_more history new is_closing;
        untaken = untaken_left;
        waiting = waiting_left;
      }

-- ## All contexts

abbrev IsOfSome : List Traced → Task → Type 0
IsOfSome history task = (context : ContextId) × (context_of history task ≡ Some context)

-- the entry with which the hub closes
abbrev pub close_entry : PassNo → Traced
close_entry pass = plain_entry pass calls.Close replies.Done no_mark

-- it closes all contexts, where all tasks that were not taken are of contexts, and contexts asked all open requests
pub all_close : (history : List Traced) (pass : PassNo) → Each (IsOfSome history) (untaken history) → Each IsAskedByContext (unsettled history) → ClosesContexts history (close_entry pass)
all_close history pass of asked =
    let new = close_entry pass in
    let closing : IsClosing history new = record { accepted = refl; mark = refl; call = refl } in
    let Gone : Open → Type 0 = λ request. not (asker_gone history new request) ≡ false in
    let none : failing history new ≡ [] =
    filter_no (λ (request : Open). not (asker_gone history new request)) (filter (ends_with history new) (unsettled history))
    (Each-filter IsAskedByContext Gone (ends_with history new) (unsettled history) (λ request ends by. ap (λ asker. not (closes_asker history pass calls.Close asker)) by.1) asked) in
    record {
      contexts = refl;
      queued = refl;
      pools = refl;
      held = refl;
      given = refl;
      codecs = refl;
      codecs_kept = λ codec. refl;
      rules = refl;
      rules_kept = λ rule. refl;
      consumers = consumers_left history new closing;
      mailboxes = mailbox_left history new closing;
      choices = choices_left history new closing;
      unsettled = unsettled_left history new closing;
      settles = ap (settlements history no_handlers) (sym none);
      drops = drops_now history new closing;
      settled = lasting_more settled_kind history new (λ s. refl) ∙ ap (λ requests. lasting settled_kind history ++ settlements history no_handlers requests) (sym none);
      dropped = dropped_more history new closing;
      untaken = lasting-append task_kind history new
          ∙ ap (λ xs. xs ++ [])
          (filter_alike (λ task. false) (λ task. not (is_of_gone history new (context_of history task))) (untaken history)
          (weaken (IsOfSome history) (λ task. false ≡ not (is_of_gone history new (context_of history task))) (untaken history) (λ task some. sym (ap (λ o. not (is_of_gone history new o)) some.1)) of))
          ∙ ap (λ requests. filter (λ task. not (is_of_gone history new (context_of history task))) (untaken history) ++ outcome_tasks (heard (settlements history no_handlers requests))) (sym none);
      waiting = lasting-append item_kind history new;
    }
