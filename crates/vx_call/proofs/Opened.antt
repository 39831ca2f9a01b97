-- Requests that are open, and the contexts that asked them.
use Rattle.std.proofs.Common.{◌≡◌, ℕ, ◌<◌, List, [], ◌∷◌, ◌++◌, length, refl, ap, sym, ◌∙◌, subst, arith}
use Rattle.std.proofs.lemmas.List.{length_push}
use Rattle.std.specs.Prelude.{Bool, true, false, not, cond, find, filter, map, nat_le, None, Some}
use Rattle.std.specs.Option.{option_map}
use Rattle.std.proofs.lemmas.Bool.{eq-eqb, eqb-true}
use Rattle.vx_data.specs.declared.ids.ContextId.{ContextId}
use Rattle.vx_data.specs.declared.ids.ConnId.{ConnId}
use Rattle.vx_message.specs.declared.frame.InFrame.{InFrame}
use Rattle.vx_data.specs.declared.ids.MessageId.{MessageId}
use Rattle.vx_data.specs.Ids.{same_message}
use Rattle.vx_call.specs.declared.call.Call.{Call}
use Rattle.vx_call.specs.declared.call.Call.TheVariants as calls
use Rattle.vx_call.specs.declared.history.Consumer.{Consumer}
use Rattle.vx_call.specs.declared.history.Deed.{Deed}
use Rattle.vx_call.specs.declared.history.Deed.TheVariants as deeds
use Rattle.vx_call.specs.declared.history.Traced.{Traced}
use Rattle.vx_call.specs.History.{is_accepted, made_by, lasting}
use Rattle.vx_call.specs.Names.{next_message}
use Rattle.vx_call.specs.Mailboxes.{accepting}
use Rattle.vx_call.specs.Given.{Asked, asked_made, asked_kind, asker}
use Rattle.vx_call.specs.Askers.{Asker, is_asked_by, context_asking}
use Rattle.vx_call.specs.Askers as askers
use Rattle.vx_call.specs.Requests.{Open, opened, open_by, open_made, open_kind, conn_timeout, unsettled, put_by_due, by_due}
use Rattle.vx_call.proofs.Lasting.{lasting_more, and_false}
use Rattle.vx_call.proofs.Each.{Each, Each-filter, Each-both, weaken, accepted, lasting_each}
use Rattle.vx_call.proofs.Apart.{Apart, Apart-filter, IsMadeApart, made_if, lasting_earlier, lasting_apart}
use Rattle.vx_call.proofs.Found.{find_end, find_none, map_front, earlier_name, later_name, same_number}
use Rattle.vx_call.proofs.Arrivals.{AtMostOne, accepting_few, accepting_frame_few}

-- ## By id

abbrev pub same_open : Open → Open → Bool
same_open a b = same_message a.id b.id

abbrev pub open_key : Open → ℕ
open_key request = request.id.0.0

opened_apart : (history : List Traced) (asker : Asker) (timeout : ℕ) (all : List Consumer) → AtMostOne all → IsMadeApart same_open open_key (length history) (map (opened history asker timeout) all)
opened_apart history asker timeout [] few = record { keyed = tt; apart = tt }
opened_apart history asker timeout (consumer ∷ []) few = record { keyed = (refl, tt); apart = (tt, tt) }
opened_apart history asker timeout (consumer ∷ other ∷ others) few = absurd few

frame_opened_apart : (history : List Traced) (conn : ConnId) (frame : InFrame) (deed : Deed) →
    IsMadeApart same_open open_key (length history) (open_by history conn (accepting history (calls.FrameIn conn frame) deed) deed)
frame_opened_apart history conn frame (deeds.Requests address headers body at) =
    opened_apart history (askers.connection conn at) conn_timeout (accepting history (calls.FrameIn conn frame) (deeds.Requests address headers body at)) (accepting_frame_few history conn frame address headers body at)
frame_opened_apart history conn frame (deeds.Replies message headers body (Some at)) = record { keyed = (refl, tt); apart = (tt, tt) }
frame_opened_apart history conn frame _ = record { keyed = tt; apart = tt }

open_made_apart : (history : List Traced) (call : Call) (deed : Deed) → IsMadeApart same_open open_key (length history) (open_made history call deed)
open_made_apart history (calls.Request context address body options timeout once) deed =
    opened_apart history (askers.context context) timeout (accepting history (calls.Request context address body options timeout once) deed) (accepting_few history context address body options timeout once deed)
open_made_apart history (calls.ReplyRequest message context body options timeout) deed = record { keyed = (refl, tt); apart = (tt, tt) }
open_made_apart history (calls.FrameIn conn frame) deed = frame_opened_apart history conn frame deed
open_made_apart history _ deed = record { keyed = tt; apart = tt }

-- a request is not open whose connection its own entry closes
abbrev pub stays_asked : Traced → Open → Bool
stays_asked new request = not (is_asked_by new.mark.shut request.asker)

pub open_stays_apart : (history : List Traced) (new : Traced) → IsMadeApart same_open open_key (length history) (filter (stays_asked new) (open_made history new.entry.call new.mark.deed))
open_stays_apart history new =
    let made = open_made_apart history new.entry.call new.mark.deed in
    let Keyed : Open → Type 0 = λ request. open_key request ≡ length history in
    record {
      keyed = Each-filter Keyed Keyed (stays_asked new) _ (λ request passes keyed. keyed) made.keyed;
      apart = Apart-filter same_open (stays_asked new) _ made.apart;
    }

-- no two open requests have one id
pub unsettled_apart : (history : List Traced) → Apart same_open (unsettled history)
unsettled_apart = lasting_apart open_kind same_open open_key (λ x y same. eqb-true x.id.0.0 y.id.0.0 same)
    (λ history new. made_if same_open open_key (length history) (is_accepted new.entry.reply) _ (open_stays_apart history new))

-- an open request was made by an entry before
pub unsettled_earlier : (history : List Traced) → Each (λ request. open_key request < length history) (unsettled history)
unsettled_earlier = lasting_earlier open_kind open_key
    (λ history new. accepted (λ request. open_key request ≡ length history) (is_accepted new.entry.reply) _ (λ ok. (open_stays_apart history new).keyed))

-- ## The contexts that asked

abbrev pub asked_key : Asked → ℕ
asked_key asked = asked.id.0.0

asked_made_keyed : (history : List Traced) (call : Call) → Each (λ asked. asked_key asked ≡ length history) (asked_made history call)
asked_made_keyed history (calls.Request context address body options timeout once) = (refl, tt)
asked_made_keyed history (calls.ReplyRequest message context body options timeout) = (refl, tt)
asked_made_keyed history _ = tt

pub asked_earlier : (history : List Traced) → Each (λ asked. asked_key asked < length history) (lasting asked_kind history)
asked_earlier = lasting_earlier asked_kind asked_key
    (λ history new. accepted (λ asked. asked_key asked ≡ length history) (is_accepted new.entry.reply) _ (λ ok. asked_made_keyed history new.entry.call))

abbrev is_asked : MessageId → Asked → Bool
is_asked id asked = same_message id asked.id

abbrev asker_of : Asked → ContextId
asker_of asked = asked.asker

asked-append : (history : List Traced) (new : Traced) → lasting asked_kind (history ++ new ∷ []) ≡ lasting asked_kind history ++ made_by asked_kind history new
asked-append history new = lasting_more asked_kind history new (λ asked. and_false (is_accepted new.entry.reply))

find_only : {X : Type 0} (p : X → Bool) (xs ys : List X) → Each (λ y. p y ≡ false) ys → find p (xs ++ ys) ≡ find p xs
find_only p [] ys none = find_none p ys none
find_only p (x ∷ xs) ys none = elim (p x) as (λ b. cond b (Some x) (find p (xs ++ ys)) ≡ cond b (Some x) (find p xs)) [ true ↦ refl | false ↦ find_only p xs ys none ]

asked_new : (history : List Traced) (new : Traced) → Each (λ asked. asked_key asked ≡ length history) (made_by asked_kind history new)
asked_new history new = accepted (λ asked. asked_key asked ≡ length history) (is_accepted new.entry.reply) _ (λ ok. asked_made_keyed history new.entry.call)

-- the asker of a request that was made before stays, be it a context or not
pub keeps_asker : (history : List Traced) (new : Traced) (id : MessageId) → id.0.0 < length history → asker (history ++ new ∷ []) id ≡ asker history id
keeps_asker history new id before =
    ap (λ all. option_map asker_of (find (is_asked id) all)) (asked-append history new)
    ∙ ap (option_map asker_of)
    (find_only (is_asked id) (lasting asked_kind history) (made_by asked_kind history new)
    (weaken (λ asked. asked_key asked ≡ length history) (λ asked. is_asked id asked ≡ false) (made_by asked_kind history new)
    (λ asked keyed. earlier_name id.0.0 asked.id.0.0 (omega arith)) (asked_new history new)))

-- a context that asked stays the one
pub keeps_known_asker : (history : List Traced) (new : Traced) (id : MessageId) (context : ContextId) → asker history id ≡ Some context → asker (history ++ new ∷ []) id ≡ Some context
keeps_known_asker history new id context known =
    ap (λ all. option_map asker_of (find (is_asked id) all)) (asked-append history new)
    ∙ map_front asker_of (is_asked id) (lasting asked_kind history) (made_by asked_kind history new) context known

-- the asker of a request that an accepted entry makes
pub asker_made : (history : List Traced) (new : Traced) (context : ContextId) → is_accepted new.entry.reply ≡ true →
    asked_made history new.entry.call ≡ record { id = next_message history; asker = context } ∷ [] → asker (history ++ new ∷ []) (next_message history) ≡ Some context
asker_made history new context ok made =
    let id = next_message history in
    let first : Asked = record { id = id; asker = context } in
    ap (λ all. option_map asker_of (find (is_asked id) all))
    (asked-append history new ∙ ap (λ b. lasting asked_kind history ++ cond b (asked_made history new.entry.call) []) ok ∙ ap (λ xs. lasting asked_kind history ++ xs) made)
    ∙ ap (option_map asker_of)
    (find_end (is_asked id) (lasting asked_kind history) first
    (weaken (λ asked. asked_key asked < length history) (λ asked. is_asked id asked ≡ false) (lasting asked_kind history)
    (λ asked before. later_name (length history) asked.id.0.0 before) (asked_earlier history))
    (eq-eqb (length history) (length history) refl))

-- the message of an entry that makes no request of a context has no context that asked
pub none_asked : (history : List Traced) (new : Traced) → asked_made history new.entry.call ≡ [] → asker (history ++ new ∷ []) (next_message history) ≡ None
none_asked history new none =
    ap (λ all. option_map asker_of (find (is_asked (next_message history)) all)) (asked-append history new)
    ∙ ap (option_map asker_of)
    (find_only (is_asked (next_message history)) (lasting asked_kind history) (made_by asked_kind history new)
    (accepted (λ asked. is_asked (next_message history) asked ≡ false) (is_accepted new.entry.reply) _ (λ ok. (let P : List Asked → Type 0 = Each (λ asked. is_asked (next_message history) asked ≡ false) in subst P (sym none) tt)))
    ∙ find_none (is_asked (next_message history)) (lasting asked_kind history)
    (weaken (λ asked. asked_key asked < length history) (λ asked. is_asked (next_message history) asked ≡ false) (lasting asked_kind history)
    (λ asked before. later_name (length history) asked.id.0.0 before) (asked_earlier history)))

abbrev pub IsAsked : List Traced → Open → Type 0
IsAsked history request = asker history request.id ≡ context_asking request.asker

asked_each : (history after : List Traced) (asked : Asker) (timeout : ℕ) (all : List Consumer) → asker after (next_message history) ≡ context_asking asked →
    Each (IsAsked after) (map (opened history asked timeout) all)
asked_each history after asked timeout [] known = tt
asked_each history after asked timeout (consumer ∷ others) known = (known, asked_each history after asked timeout others known)

frame_asked : (history after : List Traced) (conn : ConnId) (all : List Consumer) (deed : Deed) → asker after (next_message history) ≡ None → Each (IsAsked after) (open_by history conn all deed)
frame_asked history after conn all (deeds.Requests address headers body at) none = asked_each history after (askers.connection conn at) conn_timeout all none
frame_asked history after conn all (deeds.Replies message headers body (Some at)) none = (none, tt)
frame_asked history after conn all _ none = tt

new_asked : (history : List Traced) (new : Traced) (call : Call) (deed : Deed) → is_accepted new.entry.reply ≡ true → new.entry.call ≡ call → Each (IsAsked (history ++ new ∷ [])) (open_made history call deed)
new_asked history new (calls.Request context address body options timeout once) deed ok is_call =
    asked_each history (history ++ new ∷ []) (askers.context context) timeout (accepting history (calls.Request context address body options timeout once) deed) (asker_made history new context ok (ap (asked_made history) is_call))
new_asked history new (calls.ReplyRequest message context body options timeout) deed ok is_call = (asker_made history new context ok (ap (asked_made history) is_call), tt)
new_asked history new (calls.FrameIn conn frame) deed ok is_call =
    frame_asked history (history ++ new ∷ []) conn (accepting history (calls.FrameIn conn frame) deed) deed (none_asked history new (ap (asked_made history) is_call))
new_asked history new _ deed ok is_call = tt

abbrev pub IsKnownAsker : List Traced → Open → Type 0
IsKnownAsker history request = (open_key request < length history) × IsAsked history request

both_known : (history : List Traced) (new : Traced) → is_accepted new.entry.reply ≡ true → Each (IsKnownAsker (history ++ new ∷ [])) (filter (stays_asked new) (open_made history new.entry.call new.mark.deed))
both_known history new ok =
    let after = history ++ new ∷ [] in
    let made = open_made history new.entry.call new.mark.deed in
    let Known : Open → Type 0 = IsKnownAsker after in
    let Keyed : Open → Type 0 = λ request. open_key request ≡ length history in
    let longer = length_push history new in
    Each-filter Known Known (stays_asked new) made (λ request passes known. known)
    (Each-both Keyed (IsAsked after) Known made (λ request keyed asked. (omega arith, asked)) (open_made_apart history new.entry.call new.mark.deed).keyed (new_asked history new new.entry.call new.mark.deed ok refl))

pub open_known : (history : List Traced) → Each (IsKnownAsker history) (unsettled history)
open_known = lasting_each open_kind IsKnownAsker
    (λ history new request stays known. let longer = length_push history new in (omega arith, keeps_asker history new request.id known.0 ∙ known.1))
    (λ history new. accepted (IsKnownAsker (history ++ new ∷ [])) (is_accepted new.entry.reply) _ (λ ok. both_known history new ok))

-- the context that gets the outcome of an open request is the one that asked, if it is no connection
pub open_asker : (history : List Traced) → Each (λ (request : Open). asker history request.id ≡ context_asking request.asker) (unsettled history)
open_asker history = weaken (IsKnownAsker history) (IsAsked history) (unsettled history) (λ request known. known.1) (open_known history)

-- ## Requests in order of their due moments

pub Each-put_by_due : (P : Open → Type 0) (request : Open) (others : List Open) → P request → Each P others → Each P (put_by_due request others)
Each-put_by_due P request [] here each = (here, tt)
Each-put_by_due P request (other ∷ others) here each =
    elim (nat_le request.due other.due) as (λ b. Each P (cond b (request ∷ other ∷ others) (other ∷ put_by_due request others))) [
      | true ↦ (here, each)
      | false ↦ (each.0, Each-put_by_due P request others here each.1)
    ]

pub Each-by_due : (P : Open → Type 0) (requests : List Open) → Each P requests → Each P (by_due requests)
Each-by_due P [] each = tt
Each-by_due P (request ∷ others) each = Each-put_by_due P request (by_due others) each.0 (Each-by_due P others each.1)

pub same_open-swap : (a b : Open) → same_open a b ≡ same_open b a
same_open-swap a b = same_number a.id.0.0 b.id.0.0

abbrev pub IsOther : Open → Open → Type 0
IsOther a b = same_open a b ≡ false

Apart-put_by_due : (request : Open) (others : List Open) → Each (IsOther request) others → Apart same_open others → Apart same_open (put_by_due request others)
Apart-put_by_due request [] first apart = (tt, tt)
Apart-put_by_due request (other ∷ others) first apart =
    elim (nat_le request.due other.due) as (λ b. Apart same_open (cond b (request ∷ other ∷ others) (other ∷ put_by_due request others))) [
      | true ↦ (first, apart)
      | false ↦ (Each-put_by_due (IsOther other) request others (same_open-swap other request ∙ first.0) apart.0, Apart-put_by_due request others first.1 apart.1)
    ]

pub Apart-by_due : (requests : List Open) → Apart same_open requests → Apart same_open (by_due requests)
Apart-by_due [] apart = tt
Apart-by_due (request ∷ others) apart = Apart-put_by_due request (by_due others) (Each-by_due (IsOther request) others apart.0) (Apart-by_due others apart.1)
