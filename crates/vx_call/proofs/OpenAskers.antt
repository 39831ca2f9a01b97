-- Contexts that wait for the outcome of a request are open.
use Rattle.std.proofs.Common.{◌≡◌, ℕ, List, [], ◌∷◌, ◌++◌, refl, ap, sym, ◌∙◌}
use Rattle.std.specs.Prelude.{Bool, true, false, not, cond, ◌&&◌, ◌||◌, filter, map, is_none, Option, None, Some}
use Rattle.std.specs.List.{list_any}
use Rattle.std.specs.Option.{option_or}
use Rattle.std.proofs.lemmas.Bool.{or_right}
use Rattle.std.proofs.lemmas.List.Folds.{list_any-append}
use Rattle.vx_data.specs.declared.ids.ConnId.{ConnId}
use Rattle.vx_data.specs.declared.ids.ContextId.{ContextId}
use Rattle.vx_data.specs.declared.ids.EntryNo.{EntryNo}
use Rattle.vx_data.specs.declared.ids.MessageId.{MessageId}
use Rattle.vx_data.specs.declared.ids.PassNo.{PassNo}
use Rattle.vx_data.specs.Tree.{Tree}
use Rattle.vx_message.specs.declared.Options.{Options}
use Rattle.vx_call.specs.declared.call.Call.{Call}
use Rattle.vx_call.specs.declared.call.Call.TheVariants as calls
use Rattle.vx_call.specs.declared.reply.Refusal.TheVariants as refusals
use Rattle.vx_call.specs.declared.history.Consumer.{Consumer}
use Rattle.vx_call.specs.declared.history.Deed.{Deed}
use Rattle.vx_call.specs.declared.history.Deed.TheVariants as deeds
use Rattle.vx_call.specs.declared.history.Traced.{Traced}
use Rattle.vx_call.specs.History.{is_accepted, made_by, ended_by}
use Rattle.vx_call.specs.Contexts.{is_context_of, is_context}
use Rattle.vx_call.specs.Closings.{closes, open_context_kind, open_contexts, is_open, closed_at}
use Rattle.vx_call.specs.Mailboxes.{accepting}
use Rattle.vx_call.specs.Askers.{Asker, context_asking}
use Rattle.vx_call.specs.Askers as askers
use Rattle.vx_call.specs.Requests.{Open, conn_timeout, opened, open_made, open_by, open_kind, unsettled, closes_asker, is_lost_at, settles, settles_or_shuts}
use Rattle.vx_call.specs.Refusals.{spent, shut, no_context, no_message, not_request, no_such_codec, not_your_context, not_your_message, closed_since, context_closed, closed}
use Rattle.vx_call.specs.Rows.{request_refusal, request_row, reply_request_refusal, reply_request_row}
use Rattle.vx_call.specs.Machine.{answer, IsLegal}
use Rattle.vx_call.proofs.Lasting.{lasting-append, and_false}
use Rattle.vx_call.proofs.Each.{Each, Each-filter, weaken, accepted, lasting_each}
use Rattle.vx_call.proofs.Once.{any_here}
use Rattle.vx_call.proofs.Contexts.{same_context-true}
use Rattle.vx_call.proofs.Opened.{stays_asked}
use Rattle.vx_call.proofs.Closed.{open_is}
use Rattle.vx_call.proofs.Legal.{legal_front}
use Rattle.vx_call.proofs.Stored as stored
use Rattle.vx_call.proofs.Below.{not_refused, under, second}
use Rattle.vx_call.proofs.Skipping.{either_first, not_so}

-- ## A context stays open until an entry closes it

any_kept : {A : Type 0} (p q : A → Bool) (xs : List A) → ((x : A) → p x ≡ true → q x ≡ true) → list_any p xs ≡ true → list_any p (filter q xs) ≡ true
any_kept p q [] stays found = found
any_kept {A} p q (x ∷ xs) stays found =
    elim (p x) as (λ b. p x ≡ b → (b || list_any p xs) ≡ true → list_any p (cond (q x) (x ∷ filter q xs) (filter q xs)) ≡ true) [
      | true ↦ λ passes here. ap (λ b. list_any p (cond b (x ∷ filter q xs) (filter q xs))) (stays x passes) ∙ any_here p x (filter q xs) passes
      | false ↦ λ fails later.
          (elim (q x) as (λ c. list_any p (cond c (x ∷ filter q xs) (filter q xs)) ≡ true) [
            | true ↦ ap (λ b. p x || b) (any_kept p q xs stays later) ∙ or_right (p x) true refl
            | false ↦ any_kept p q xs stays later
          ])
    ] refl found

pub any_front : {A : Type 0} (p : A → Bool) (xs ys : List A) → list_any p xs ≡ true → list_any p (xs ++ ys) ≡ true
any_front p xs ys found = list_any-append p xs ys ∙ ap (λ b. b || list_any p ys) found

pub any_behind : {A : Type 0} (p : A → Bool) (xs ys : List A) → list_any p ys ≡ true → list_any p (xs ++ ys) ≡ true
any_behind p xs ys found = list_any-append p xs ys ∙ ap (λ b. list_any p xs || b) found ∙ or_right (list_any p xs) true refl

-- one that passes lasts where no entry ends it
pub any_lasts : {A : Type 0} (p q : A → Bool) (xs more : List A) → ((x : A) → p x ≡ true → q x ≡ true) → list_any p xs ≡ true → list_any p (filter q xs ++ more) ≡ true
any_lasts p q xs more stays found = any_front p (filter q xs) more (any_kept p q xs stays found)

pub keeps_open : (history : List Traced) (new : Traced) (context : ContextId) → (is_accepted new.entry.reply && closes history new.entry.pass new.entry.call context) ≡ false → is_open history context ≡ true → is_open (history ++ new ∷ []) context ≡ true
keeps_open history new context stays open_before =
    ap (list_any (is_context_of context)) (lasting-append open_context_kind history new)
    ∙ any_lasts (is_context_of context) _ (open_contexts history) (made_by open_context_kind history new)
    (λ other named. ap (λ id. not (is_accepted new.entry.reply && closes history new.entry.pass new.entry.call id)) (sym (same_context-true context other.id named)) ∙ ap not stays)
    open_before

none_since : (o : Option EntryNo) → closed_since o ≡ None → o ≡ None
none_since None none = refl
none_since (Some at) none = absurd cc

-- a context that is there and not closed is open
pub not_closed : (history : List Traced) (id : ContextId) → is_context history id ≡ true → context_closed history id ≡ None → is_open history id ≡ true
not_closed history id there unclosed =
    open_is history id ∙ ap (λ b. b && is_none (closed_at history id)) there ∙ ap is_none (none_since (closed_at history id) unclosed)

-- ## Those that wait for the outcome of a request

-- a context that asked is open
abbrev pub AsksOpen : List Traced → Asker → Type 0
AsksOpen history asker = (context : ContextId) → context_asking asker ≡ Some context → is_open history context ≡ true

pub closes_asked : (history : List Traced) (pass : PassNo) (call : Call) (asker : Asker) (context : ContextId) → context_asking asker ≡ Some context → closes_asker history pass call asker ≡ closes history pass call context
closes_asked history pass call (askers.context other) context asks = (let e : other ≡ context = cc in ap (closes history pass call) e)
closes_asked history pass call (askers.connection conn at) context asks = absurd cc

ends_asked : (history : List Traced) (pass : PassNo) (call : Call) (request : Open) (context : ContextId) → context_asking request.asker ≡ Some context → closes history pass call context ≡ true →
    (closes_asker history pass call request.asker || is_lost_at history pass call request request.home) ≡ true
ends_asked history pass call request context asks gone =
    ap (λ b. b || is_lost_at history pass call request request.home) (closes_asked history pass call request.asker context asks ∙ gone)

-- an entry that closes the context that asked ends the request
settles_asked : (history : List Traced) (pass : PassNo) (call : Call) (deed : Deed) (request : Open) (context : ContextId) → context_asking request.asker ≡ Some context → closes history pass call context ≡ true → settles history pass call deed request ≡ true
settles_asked history pass (calls.Reply message body options) deed request context asks gone = absurd cc
settles_asked history pass (calls.Fail message code text) deed request context asks gone = absurd cc
settles_asked history pass (calls.ReplyRequest message other body options timeout) deed request context asks gone = absurd cc
settles_asked history pass (calls.Advance moment) deed request context asks gone = absurd cc
settles_asked history pass (calls.Unregister id) deed request context asks gone = absurd cc
settles_asked history pass (calls.FrameIn conn frame) deed request context asks gone = absurd cc
settles_asked history pass call deed request context asks gone = ends_asked history pass call request context asks gone

or_first : (a b : Bool) → a ≡ true → (a || b) ≡ true
or_first a b h = ap (λ c. c || b) h

-- so it stays open where the request does
still_open : (history : List Traced) (new : Traced) (request : Open) → ended_by open_kind history new request ≡ false → AsksOpen history request.asker → AsksOpen (history ++ new ∷ []) request.asker
still_open history new request stays before = λ context asks.
    let pass = new.entry.pass in
    let call = new.entry.call in
    keeps_open history new context
    (elim (closes history pass call context) as (λ b. closes history pass call context ≡ b → (is_accepted new.entry.reply && b) ≡ false) [
      | true ↦ λ gone.
          (let settled : settles_or_shuts history new request ≡ true = or_first _ _ (settles_asked history pass call new.mark.deed request context asks gone) in
          ap (λ b. is_accepted new.entry.reply && b) (sym settled) ∙ stays)
      | false ↦ λ kept. and_false (is_accepted new.entry.reply)
    ] refl)
    (before context asks)

-- a call that names a context is refused where that is closed
not_false : (b : Bool) → not b ≡ false → b ≡ true
not_false true h = refl
not_false false h = absurd cc

named_open : (history : List Traced) (context : ContextId) → no_context history context ≡ None → context_closed history context ≡ None → is_open history context ≡ true
named_open history context there unclosed = not_closed history context (not_false (is_context history context) (not_so (not (is_context history context)) refusals.NoContext there)) unclosed

request_open : (history : List Traced) (pass : PassNo) (context : ContextId) (address : List ℕ) (body : Tree) (options : Options) (timeout : ℕ) → request_refusal history pass context address body options timeout ≡ None → is_open history context ≡ true
request_open history pass context address body options timeout none =
    let codec = second (no_context history context) _ none in
    let yours = second (no_such_codec history options.codec) _ codec in
    let unclosed = second (not_your_context history pass context) _ yours in
    named_open history context (either_first (no_context history context) _ none) (either_first (context_closed history context) _ (either_first (closed history pass context) _ unclosed))

reply_request_open : (history : List Traced) (pass : PassNo) (message : MessageId) (context : ContextId) (body : Tree) (options : Options) (timeout : ℕ) → reply_request_refusal history pass message context body options timeout ≡ None → is_open history context ≡ true
reply_request_open history pass message context body options timeout none =
    let there = second (not_request history message) _ (second (no_message history message) _ none) in
    let codec = second (no_context history context) _ there in
    let mine = second (not_your_message history pass message) _ (second (no_such_codec history options.codec) _ codec) in
    let unclosed = second (not_your_context history pass context) _ mine in
    named_open history context (either_first (no_context history context) _ there) (either_first (context_closed history context) _ (either_first (closed history pass context) _ unclosed))

asks_here : (after : List Traced) (context : ContextId) → is_open after context ≡ true → AsksOpen after (askers.context context)
asks_here after context here = λ other asks. (let e : context ≡ other = cc in ap (is_open after) (sym e) ∙ here)

each_opened : (history after : List Traced) (asker : Asker) (timeout : ℕ) (all : List Consumer) → AsksOpen after asker → Each (λ (request : Open). AsksOpen after request.asker) (map (opened history asker timeout) all)
each_opened history after asker timeout [] here = tt
each_opened history after asker timeout (consumer ∷ others) here = (here, each_opened history after asker timeout others here)

each_framed : (history after : List Traced) (conn : ConnId) (accepted : List Consumer) (deed : Deed) → Each (λ (request : Open). AsksOpen after request.asker) (open_by history conn accepted deed)
each_framed history after conn accepted (deeds.Requests address headers body at) = each_opened history after (askers.connection conn at) conn_timeout accepted (λ context asks. absurd cc)
each_framed history after conn accepted (deeds.Replies message headers body (Some at)) = (λ context asks. absurd cc, tt)
each_framed history after conn accepted _ = tt

new_asked : (history : List Traced) (new : Traced) (call : Call) → new.entry.call ≡ call → is_accepted (answer history new.entry.pass call) ≡ true → Each (λ (request : Open). AsksOpen (history ++ new ∷ []) request.asker) (open_made history call new.mark.deed)
new_asked history new (calls.Request context address body options timeout once) is_call ok =
    let call = calls.Request context address body options timeout once in
    let above = option_or (spent history) (shut history call) in
    let row = request_row history new.entry.pass context address body options timeout once in
    let none : request_refusal history new.entry.pass context address body options timeout ≡ None = not_refused (request_refusal history new.entry.pass context address body options timeout) _ (under above row (not_refused above row ok) ok) in
    each_opened history (history ++ new ∷ []) (askers.context context) timeout (accepting history call new.mark.deed)
    (asks_here (history ++ new ∷ []) context (keeps_open history new context (ap (λ c. is_accepted new.entry.reply && closes history new.entry.pass c context) is_call ∙ and_false (is_accepted new.entry.reply)) (request_open history new.entry.pass context address body options timeout none)))
new_asked history new (calls.ReplyRequest message context body options timeout) is_call ok =
    let call = calls.ReplyRequest message context body options timeout in
    let above = option_or (spent history) (shut history call) in
    let row = reply_request_row history new.entry.pass message context body options timeout in
    let none : reply_request_refusal history new.entry.pass message context body options timeout ≡ None =
    not_refused (reply_request_refusal history new.entry.pass message context body options timeout) _ (under above row (not_refused above row ok) ok) in (
      asks_here (history ++ new ∷ []) context
          (keeps_open history new context (ap (λ c. is_accepted new.entry.reply && closes history new.entry.pass c context) is_call ∙ and_false (is_accepted new.entry.reply)) (reply_request_open history new.entry.pass message context body options timeout none)),
      tt,
    )
new_asked history new (calls.FrameIn conn frame) is_call ok = each_framed history (history ++ new ∷ []) conn (accepting history (calls.FrameIn conn frame) new.mark.deed) new.mark.deed
new_asked history new _ is_call ok = tt

abbrev OpenIn : List Traced → Open → Type 0
OpenIn history request = IsLegal history → AsksOpen history request.asker

-- in a legal history the contexts that wait for the outcome of an open request are open
pub askers_open : (history : List Traced) → IsLegal history → Each (λ (request : Open). AsksOpen history request.asker) (unsettled history)
askers_open history legal =
    weaken (OpenIn history) (λ (request : Open). AsksOpen history request.asker) (unsettled history) (λ request so. so legal)
    (lasting_each open_kind OpenIn
    (λ h new request stays before all. still_open h new request stays (before (legal_front h (new ∷ []) all)))
    (λ h new. accepted (OpenIn (h ++ new ∷ [])) (is_accepted new.entry.reply) _
    (λ ok. Each-filter (OpenIn (h ++ new ∷ [])) (OpenIn (h ++ new ∷ [])) (stays_asked new) (open_made h new.entry.call new.mark.deed) (λ request passes so. so)
    (stored.under (IsLegal (h ++ new ∷ [])) (λ (request : Open). AsksOpen (h ++ new ∷ []) request.asker) (open_made h new.entry.call new.mark.deed)
    (λ all. new_asked h new new.entry.call refl (ap is_accepted (sym (all h new [] refl).answered) ∙ ok))))) history)
