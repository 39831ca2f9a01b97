-- In a legal history what is of a context is of one that is open: consumers, requests, timers, what awaits a promise,
-- and servers.
use Rattle.std.proofs.Common.{◌≡◌, ℕ, List, [], ◌∷◌, ◌++◌, refl, ap, sym, ◌∙◌, subst}
use Rattle.std.specs.Prelude.{Bool, true, false, not, ◌&&◌, ◌||◌, map, Option, None, Some, is_some}
use Rattle.std.specs.Option.{option_or}
use Rattle.std.proofs.lemmas.Bool.{or_parts}
use Rattle.vx_data.specs.declared.ids.ContextId.{ContextId}
use Rattle.vx_data.specs.declared.ids.PassNo.{PassNo}
use Rattle.vx_message.specs.declared.Context.{Context}
use Rattle.vx_call.specs.declared.call.Call.{Call}
use Rattle.vx_call.specs.declared.call.Call.TheVariants as calls
use Rattle.vx_call.specs.declared.reply.Refusal.{Refusal}
use Rattle.vx_call.specs.declared.reply.Refusal.TheVariants as refusals
use Rattle.vx_call.specs.declared.reply.Reply.{Reply}
use Rattle.vx_call.specs.declared.history.Consumer.{Consumer}
use Rattle.vx_call.specs.declared.history.Deed.{Deed}
use Rattle.vx_call.specs.declared.history.Deed.TheVariants as deeds
use Rattle.vx_call.specs.declared.history.Traced.{Traced}
use Rattle.vx_data.specs.declared.ids.EntryNo.{EntryNo}
use Rattle.vx_call.specs.History.{Kind, is_accepted, made_by, ended_by, lasting}
use Rattle.vx_call.specs.Contexts.{context_at}
use Rattle.vx_call.specs.Owners.{context_owning}
use Rattle.vx_call.specs.Closings.{closes, is_open, closed_at}
use Rattle.vx_call.specs.Registered.{consumer_made}
use Rattle.vx_call.specs.Consumers.{ends_by_name, closes_owner, consumer_kind, consumers}
use Rattle.vx_call.specs.Mailboxes.{accepting}
use Rattle.vx_call.specs.Askers.{Asker, context_asking, is_asked_by}
use Rattle.vx_call.specs.Askers as askers
use Rattle.vx_call.specs.Requests.{Open, opened, open_made, closes_asker, is_lost_at, settles, settles_or_shuts, open_kind, unsettled}
use Rattle.vx_call.specs.Timers.{Timer, timer_made}
use Rattle.vx_call.specs.Fires.{timer_ended, timer_kind, timers}
use Rattle.vx_call.specs.Awaits.{Await, await_made}
use Rattle.vx_call.specs.Completions.{is_settled}
use Rattle.vx_call.specs.Promised.{await_ended, wait_kind, waits}
use Rattle.vx_call.specs.Listened.{Server, server_made}
use Rattle.vx_call.specs.Servers.{server_kind, servers}
use Rattle.vx_call.specs.Refusals.{refused_if, unless_refused, spent, shut, no_context, closed_since, context_closed, holder_closed, closed, not_your_context, no_such_codec, no_message, not_request, not_your_message, no_promise}
use Rattle.vx_call.specs.Rows.{register_refusal, request_refusal, reply_request_refusal, set_timer_refusal, await_refusal, listen_refusal}
use Rattle.vx_call.specs.Machine.{row, answer, MayFollow, IsLegal}
use Rattle.vx_call.proofs.Lasting.{lasting-append, lasting_none, and_false}
use Rattle.vx_call.proofs.Each.{Each, Each-append, Each-filter, accepted, by_entries, not_true}
use Rattle.vx_call.proofs.Below.{not_refused, under, second}
use Rattle.vx_call.proofs.Homes.{context_owner}
use Rattle.vx_call.proofs.Legal.{legal_front}
use Rattle.vx_call.proofs.Quiet.{is_loud, quiet_call, quiet_closes}
use Rattle.vx_laws.proofs.Closed.{closes_now, keeps_open, is_open_context}

-- ## What holds of each in a legal history

pub legal_each : {A : Type 0} (kind : Kind A) (P : List Traced → A → Type 0) →
    ((history : List Traced) (new : Traced) (x : A) → ended_by kind history new x ≡ false → P history x → P (history ++ new ∷ []) x) →
    ((history : List Traced) (new : Traced) → MayFollow history new → Each (P (history ++ new ∷ [])) (made_by kind history new)) →
    (history : List Traced) → IsLegal history → Each (P history) (lasting kind history)
legal_each {A} kind P keeps made =
    by_entries (λ history. IsLegal history → Each (P history) (lasting kind history))
    (λ legal. let Q : List A → Type 0 = Each (P []) in subst Q (sym (lasting_none kind)) tt)
    (λ history new before legal.
    let After : A → Type 0 = P (history ++ new ∷ []) in
    let Q : List A → Type 0 = Each After in
    subst Q (sym (lasting-append kind history new))
    (Each-append After _ _
    (Each-filter (P history) After (λ x. not (ended_by kind history new x)) (lasting kind history) (λ x stays here. keeps history new x (not_true (ended_by kind history new x) stays) here) (before (legal_front history (new ∷ []) legal)))
    (made history new (legal history new [] refl))))

-- ## A context that an accepted call names is open

-- the context that a call names for a thing of it
abbrev pub context_named : Call → Option ContextId
context_named (calls.Register context address limit) = Some context
context_named (calls.Request context address body options timeout once) = Some context
context_named (calls.ReplyRequest message context body options timeout) = Some context
context_named (calls.SetTimer context delay periodic) = Some context
context_named (calls.RunOn context once) = Some context
context_named (calls.Blocking context ordered once) = Some context
context_named (calls.Await context promise) = Some context
context_named (calls.Listen context host port) = Some context
context_named _ = None

-- it is there, and not closed
record IsNamed (history : List Traced) (context : ContextId) : Type 0 where
  pub here : no_context history context ≡ None
  pub unclosed : context_closed history context ≡ None

first_none : (a b : Option Refusal) → option_or a b ≡ None → a ≡ None
first_none None b none = refl
first_none (Some refusal) b none = absurd cc

-- the chain of refusals of an accepted call
no_refusal : (history : List Traced) (pass : PassNo) (call : Call) (refusal : Option Refusal) (reply : Reply) → row history pass call ≡ unless_refused refusal reply → is_accepted (answer history pass call) ≡ true → refusal ≡ None
no_refusal history pass call refusal reply is_row ok =
    let above = option_or (spent history) (shut history call) in
    let row_ok : is_accepted (row history pass call) ≡ true = under above (row history pass call) (not_refused above (row history pass call) ok) ok in
    not_refused refusal reply (ap is_accepted (sym is_row) ∙ row_ok)

named : (history : List Traced) (pass : PassNo) (context : ContextId) (a b : Option Refusal) → option_or (no_context history context) a ≡ None → option_or (closed history pass context) b ≡ None → IsNamed history context
named history pass context a b one two = record {
  here = first_none (no_context history context) a one;
  unclosed = first_none (context_closed history context) (holder_closed history pass) (first_none (closed history pass context) b two);
}

or_none : (o : Option Refusal) → o ≡ None → option_or o None ≡ None
or_none None none = refl
or_none (Some refusal) none = absurd cc

named_by : (history : List Traced) (pass : PassNo) (call : Call) (context : ContextId) → is_accepted (answer history pass call) ≡ true → context_named call ≡ Some context → IsNamed history context
named_by history pass (calls.Register c address limit) context ok is =
    let none = no_refusal history pass (calls.Register c address limit) (register_refusal history pass c address limit) _ refl ok in
    let e : c ≡ context = cc in
    subst (IsNamed history) e (named history pass c _ _ none (second (not_your_context history pass c) _ (second (no_context history c) _ none)))
named_by history pass (calls.Request c address body options timeout once) context ok is =
    let none = no_refusal history pass (calls.Request c address body options timeout once) (request_refusal history pass c address body options timeout) _ refl ok in
    let e : c ≡ context = cc in
    subst (IsNamed history) e (named history pass c _ _ none (second (not_your_context history pass c) _ (second (no_such_codec history options.codec) _ (second (no_context history c) _ none))))
named_by history pass (calls.ReplyRequest message c body options timeout) context ok is =
    let none = no_refusal history pass (calls.ReplyRequest message c body options timeout) (reply_request_refusal history pass message c body options timeout) _ refl ok in
    let rest = second (not_request history message) _ (second (no_message history message) _ none) in
    let e : c ≡ context = cc in
    subst (IsNamed history) e
    (named history pass c _ _ rest
    (second (not_your_context history pass c) _ (second (not_your_message history pass message) _ (second (no_such_codec history options.codec) _ (second (no_context history c) _ rest)))))
named_by history pass (calls.SetTimer c delay periodic) context ok is =
    let none = no_refusal history pass (calls.SetTimer c delay periodic) (set_timer_refusal history pass c delay) _ refl ok in
    let e : c ≡ context = cc in
    subst (IsNamed history) e (named history pass c _ _ none (second (not_your_context history pass c) _ (second (no_context history c) _ none)))
named_by history pass (calls.RunOn c once) context ok is =
    let none = no_refusal history pass (calls.RunOn c once) (option_or (no_context history c) (closed history pass c)) _ refl ok in
    let e : c ≡ context = cc in
    subst (IsNamed history) e (named history pass c _ None none (or_none (closed history pass c) (second (no_context history c) _ none)))
named_by history pass (calls.Blocking c ordered once) context ok is =
    let none = no_refusal history pass (calls.Blocking c ordered once) (option_or (no_context history c) (option_or (not_your_context history pass c) (closed history pass c))) _ refl ok in
    let e : c ≡ context = cc in
    subst (IsNamed history) e (named history pass c _ None none (or_none (closed history pass c) (second (not_your_context history pass c) _ (second (no_context history c) _ none))))
named_by history pass (calls.Await c promise) context ok is =
    let none = no_refusal history pass (calls.Await c promise) (await_refusal history pass c promise) _ refl ok in
    let e : c ≡ context = cc in
    subst (IsNamed history) e
    (named history pass c _ None none (or_none (closed history pass c) (second (not_your_context history pass c) _ (second (no_promise history promise) _ (second (no_context history c) _ none)))))
named_by history pass (calls.Listen c host port) context ok is =
    let none = no_refusal history pass (calls.Listen c host port) (listen_refusal history pass c host port) _ refl ok in
    let e : c ≡ context = cc in
    subst (IsNamed history) e (named history pass c _ _ none (second (not_your_context history pass c) _ (second (no_context history c) _ none)))
named_by history pass _ context ok is = absurd cc

named_quiet : (call : Call) (context : ContextId) → context_named call ≡ Some context → is_loud call ≡ false
named_quiet (calls.Register c address limit) context is = refl
named_quiet (calls.Request c address body options timeout once) context is = refl
named_quiet (calls.ReplyRequest message c body options timeout) context is = refl
named_quiet (calls.SetTimer c delay periodic) context is = refl
named_quiet (calls.RunOn c once) context is = refl
named_quiet (calls.Blocking c ordered once) context is = refl
named_quiet (calls.Await c promise) context is = refl
named_quiet (calls.Listen c host port) context is = refl
named_quiet _ context is = absurd cc

found_context : (o : Option Context) → refused_if (not (is_some o)) refusals.NoContext ≡ None → (context : Context) × (o ≡ Some context)
found_context None none = absurd cc
found_context (Some context) none = (context, refl)

not_since : (o : Option EntryNo) → closed_since o ≡ None → o ≡ None
not_since None none = refl
not_since (Some at) none = absurd cc

open_named : (history : List Traced) (context : ContextId) → IsNamed history context → is_open history context ≡ true
open_named history context named =
    let found = found_context (context_at history context) named.here in
    is_open_context history context found.0 found.1 (not_since (closed_at history context) named.unclosed)

-- ## An entry that closes nothing

pub quiet_now : (history : List Traced) (new : Traced) (context : ContextId) → is_loud new.entry.call ≡ false → closes_now history new context ≡ false
quiet_now history new context quiet =
    ap (λ b. is_accepted new.entry.reply && b) (quiet_closes history new (quiet_call history new.entry.pass new.entry.call quiet) context) ∙ and_false (is_accepted new.entry.reply)

pub open_on : (history : List Traced) (new : Traced) (context : ContextId) → is_loud new.entry.call ≡ false → is_open history context ≡ true → is_open (history ++ new ∷ []) context ≡ true
open_on history new context quiet here = keeps_open history new context (quiet_now history new context quiet) here

-- the context that an accepted call names is open behind it
pub named_after : (history : List Traced) (new : Traced) (context : ContextId) → MayFollow history new → is_accepted new.entry.reply ≡ true → context_named new.entry.call ≡ Some context → is_open (history ++ new ∷ []) context ≡ true
named_after history new context may ok is =
    open_on history new context (named_quiet new.entry.call context is)
    (open_named history context (named_by history new.entry.pass new.entry.call context (ap is_accepted (sym may.answered) ∙ ok) is))

-- ## Consumers

abbrev pub HasOpenOwner : List Traced → Consumer → Type 0
HasOpenOwner history consumer = (context : ContextId) → context_owning consumer.owner ≡ Some context → is_open history context ≡ true

less_or : (a b c : Bool) → (a && (b || c)) ≡ false → (a && c) ≡ false
less_or true b c none = (or_parts b c none).1
less_or false b c none = refl

keeps_owner : (history : List Traced) (new : Traced) (consumer : Consumer) → ended_by consumer_kind history new consumer ≡ false → HasOpenOwner history consumer → HasOpenOwner (history ++ new ∷ []) consumer
keeps_owner history new consumer stays here context owns =
    let pass = new.entry.pass in
    let call = new.entry.call in
    keeps_open history new context
    (ap (λ o. is_accepted new.entry.reply && closes_owner history pass call new.mark o) (sym (context_owner consumer.owner context owns))
    ∙ less_or (is_accepted new.entry.reply) (ends_by_name call new.mark.deed consumer.id) (closes_owner history pass call new.mark consumer.owner) stays)
    (here context owns)

made_owner : (history : List Traced) (new : Traced) (call : Call) (deed : Deed) → MayFollow history new → is_accepted new.entry.reply ≡ true → new.entry.call ≡ call → Each (HasOpenOwner (history ++ new ∷ [])) (consumer_made history call deed)
made_owner history new (calls.Register c address limit) deed may ok is_call =
    (λ context owns. (let e : c ≡ context = cc in named_after history new context may ok (ap context_named is_call ∙ ap (λ i. Some i) e)), tt)
made_owner history new (calls.FrameIn conn frame) (deeds.Registers address) may ok is_call = (λ context owns. absurd cc, tt)
made_owner history new (calls.FrameIn conn frame) _ may ok is_call = tt
made_owner history new _ deed may ok is_call = tt

consumers_open : (history : List Traced) → IsLegal history → Each (HasOpenOwner history) (consumers history)
consumers_open = legal_each consumer_kind HasOpenOwner keeps_owner
    (λ history new may. accepted (HasOpenOwner (history ++ new ∷ [])) (is_accepted new.entry.reply) _ (λ ok. made_owner history new new.entry.call new.mark.deed may ok refl))

-- ## Requests

abbrev pub HasOpenAsker : List Traced → Open → Type 0
HasOpenAsker history request = (context : ContextId) → context_asking request.asker ≡ Some context → is_open history context ≡ true

context_asker : (asker : Asker) (context : ContextId) → context_asking asker ≡ Some context → asker ≡ askers.context context
context_asker (askers.context c) context asks = (let e : c ≡ context = cc in ap askers.context e)
context_asker (askers.connection conn at) context asks = absurd cc

-- a call that doesn't settle a request doesn't close the context that asked
settles_less : (history : List Traced) (pass : PassNo) (call : Call) (deed : Deed) (request : Open) (context : ContextId) → request.asker ≡ askers.context context → settles history pass call deed request ≡ false → closes history pass call context ≡ false
settles_less history pass (calls.Reply message body options) deed request context asks stays = refl
settles_less history pass (calls.Fail message code text) deed request context asks stays = refl
settles_less history pass (calls.ReplyRequest message c body options timeout) deed request context asks stays = refl
settles_less history pass (calls.Advance moment) deed request context asks stays = refl
settles_less history pass (calls.Unregister id) deed request context asks stays = refl
settles_less history pass (calls.FrameIn conn frame) deed request context asks stays = refl
settles_less history pass call deed request context asks stays =
    ap (closes_asker history pass call) (sym asks) ∙ (or_parts (closes_asker history pass call request.asker) (is_lost_at history pass call request request.home) stays).0

keeps_asker : (history : List Traced) (new : Traced) (request : Open) → ended_by open_kind history new request ≡ false → HasOpenAsker history request → HasOpenAsker (history ++ new ∷ []) request
keeps_asker history new request stays here context asks =
    let pass = new.entry.pass in
    let call = new.entry.call in
    let deed = new.mark.deed in
    keeps_open history new context
    (elim (is_accepted new.entry.reply) as (λ b. (b && settles_or_shuts history new request) ≡ false → (b && closes history pass call context) ≡ false) [
      | true ↦ λ none.
          settles_less history pass call deed request context (context_asker request.asker context asks) (or_parts (settles history pass call deed request) (is_asked_by new.mark.shut request.asker) none).0
      | false ↦ λ none. refl
    ] stays)
    (here context asks)

opened_asker : (history after : List Traced) (context : ContextId) (timeout : ℕ) (all : List Consumer) → is_open after context ≡ true → Each (HasOpenAsker after) (map (opened history (askers.context context) timeout) all)
opened_asker history after context timeout [] here = tt
opened_asker history after context timeout (consumer ∷ others) here =
    (λ c asks. (let e : context ≡ c = cc in subst (λ i. is_open after i ≡ true) e here), opened_asker history after context timeout others here)

none_asking : (history after : List Traced) (asker : Asker) (timeout : ℕ) (all : List Consumer) → context_asking asker ≡ None → Each (HasOpenAsker after) (map (opened history asker timeout) all)
none_asking history after asker timeout [] none = tt
none_asking history after asker timeout (consumer ∷ others) none = (λ c asks. absurd cc, none_asking history after asker timeout others none)

made_asker : (history : List Traced) (new : Traced) (call : Call) (deed : Deed) → MayFollow history new → is_accepted new.entry.reply ≡ true → new.entry.call ≡ call → Each (HasOpenAsker (history ++ new ∷ [])) (open_made history call deed)
made_asker history new (calls.Request c address body options timeout once) deed may ok is_call =
    opened_asker history (history ++ new ∷ []) c timeout (accepting history (calls.Request c address body options timeout once) deed) (named_after history new c may ok (ap context_named is_call))
made_asker history new (calls.ReplyRequest message c body options timeout) deed may ok is_call =
    (λ context asks. (let e : c ≡ context = cc in named_after history new context may ok (ap context_named is_call ∙ ap (λ i. Some i) e)), tt)
made_asker history new (calls.FrameIn conn frame) (deeds.Requests address headers body at) may ok is_call =
    none_asking history (history ++ new ∷ []) (askers.connection conn at) _ (accepting history (calls.FrameIn conn frame) (deeds.Requests address headers body at)) refl
made_asker history new (calls.FrameIn conn frame) (deeds.Replies message headers body (Some at)) may ok is_call = (λ context asks. absurd cc, tt)
made_asker history new (calls.FrameIn conn frame) _ may ok is_call = tt
made_asker history new _ deed may ok is_call = tt

requests_open : (history : List Traced) → IsLegal history → Each (HasOpenAsker history) (unsettled history)
requests_open = legal_each open_kind HasOpenAsker keeps_asker
    (λ history new may. accepted (HasOpenAsker (history ++ new ∷ [])) (is_accepted new.entry.reply) _
    (λ ok. Each-filter (HasOpenAsker (history ++ new ∷ [])) (HasOpenAsker (history ++ new ∷ [])) _ (open_made history new.entry.call new.mark.deed) (λ request passes here. here)
    (made_asker history new new.entry.call new.mark.deed may ok refl)))

-- ## Timers, what awaits promises, and servers

abbrev IsOpenTimer : List Traced → Timer → Type 0
IsOpenTimer history timer = is_open history timer.context ≡ true

timer_less : (history : List Traced) (pass : PassNo) (call : Call) (reply : Reply) (timer : Timer) (b : Bool) → (b && timer_ended history pass call reply timer) ≡ false → (b && closes history pass call timer.context) ≡ false
timer_less history pass (calls.CancelTimer id) reply timer b stays = and_false b
timer_less history pass (calls.Take lane) reply timer b stays = and_false b
timer_less history pass call reply timer b stays = stays

made_timer : (history : List Traced) (new : Traced) (call : Call) → MayFollow history new → is_accepted new.entry.reply ≡ true → new.entry.call ≡ call → Each (IsOpenTimer (history ++ new ∷ [])) (timer_made history call)
made_timer history new (calls.SetTimer c delay periodic) may ok is_call = (named_after history new c may ok (ap context_named is_call), tt)
made_timer history new _ may ok is_call = tt

timers_open : (history : List Traced) → IsLegal history → Each (IsOpenTimer history) (timers history)
timers_open = legal_each timer_kind IsOpenTimer
    (λ history new timer stays here. keeps_open history new timer.context (timer_less history new.entry.pass new.entry.call new.entry.reply timer (is_accepted new.entry.reply) stays) here)
    (λ history new may. accepted (IsOpenTimer (history ++ new ∷ [])) (is_accepted new.entry.reply) _ (λ ok. made_timer history new new.entry.call may ok refl))

abbrev IsOpenAwait : List Traced → Await → Type 0
IsOpenAwait history await = is_open history await.context ≡ true

await_less : (history : List Traced) (new : Traced) (pass : PassNo) (call : Call) (await : Await) (b : Bool) → new.entry.pass ≡ pass → (b && await_ended history new call await) ≡ false → (b && closes history pass call await.context) ≡ false
await_less history new pass (calls.Complete id value) await b is_pass stays = and_false b
await_less history new pass (calls.FailPromise id code) await b is_pass stays = and_false b
await_less history new pass call await b is_pass stays = ap (λ p. b && closes history p call await.context) (sym is_pass) ∙ stays

made_await : (history : List Traced) (new : Traced) (call : Call) → MayFollow history new → is_accepted new.entry.reply ≡ true → new.entry.call ≡ call → Each (IsOpenAwait (history ++ new ∷ [])) (await_made history call)
made_await history new (calls.Await c promise) may ok is_call = (named_after history new c may ok (ap context_named is_call), tt)
made_await history new _ may ok is_call = tt

waits_open : (history : List Traced) → IsLegal history → Each (IsOpenAwait history) (waits history)
waits_open = legal_each wait_kind IsOpenAwait
    (λ history new await stays here. keeps_open history new await.context (await_less history new new.entry.pass new.entry.call await (is_accepted new.entry.reply) refl stays) here)
    (λ history new may. accepted (IsOpenAwait (history ++ new ∷ [])) (is_accepted new.entry.reply) _
    (λ ok. Each-filter (IsOpenAwait (history ++ new ∷ [])) (IsOpenAwait (history ++ new ∷ [])) (λ (await : Await). not (is_settled history await.promise)) (await_made history new.entry.call) (λ await passes here. here)
    (made_await history new new.entry.call may ok refl)))

abbrev IsOpenServer : List Traced → Server → Type 0
IsOpenServer history server = is_open history server.context ≡ true

made_server : (history : List Traced) (new : Traced) (call : Call) → MayFollow history new → is_accepted new.entry.reply ≡ true → new.entry.call ≡ call → Each (IsOpenServer (history ++ new ∷ [])) (server_made history call)
made_server history new (calls.Listen c host port) may ok is_call = (named_after history new c may ok (ap context_named is_call), tt)
made_server history new _ may ok is_call = tt

servers_open : (history : List Traced) → IsLegal history → Each (IsOpenServer history) (servers history)
servers_open = legal_each server_kind IsOpenServer
    (λ history new server stays here. keeps_open history new server.context stays here)
    (λ history new may. accepted (IsOpenServer (history ++ new ∷ [])) (is_accepted new.entry.reply) _ (λ ok. made_server history new new.entry.call may ok refl))

-- all of them
pub record AreOpen (history : List Traced) : Type 0 where
  pub consumers : Each (HasOpenOwner history) (consumers history)
  pub requests : Each (HasOpenAsker history) (unsettled history)
  pub timers : Each (λ (timer : Timer). is_open history timer.context ≡ true) (timers history)
  pub waits : Each (λ (await : Await). is_open history await.context ≡ true) (waits history)
  pub servers : Each (λ (server : Server). is_open history server.context ≡ true) (servers history)

pub are_open : (history : List Traced) → IsLegal history → AreOpen history
are_open history legal = record {
  consumers = consumers_open history legal;
  requests = requests_open history legal;
  timers = timers_open history legal;
  waits = waits_open history legal;
  servers = servers_open history legal;
}
