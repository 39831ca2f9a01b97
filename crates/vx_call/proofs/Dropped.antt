-- Requests that ended without an outcome, as their asker's context closed: none of them is open, and none ends again.
use Rattle.std.proofs.Common.{◌≡◌, ℕ, ◌<◌, ◌≤◌, List, [], ◌∷◌, ◌++◌, length, refl, ap, sym, ◌∙◌, subst, arith}
use Rattle.std.specs.Prelude.{Bool, true, false, cond, ◌&&◌, find, filter, Option, None, Some}
use Rattle.std.specs.Option.{option_map, option_or}
use Rattle.std.proofs.lemmas.List.{append-nil, length_push}
use Rattle.std.proofs.lemmas.Bool.{or_parts, eqb-true}
use Rattle.std.proofs.lemmas.List.Folds.{find-append}
use Rattle.vx_data.specs.declared.ids.PassNo.{PassNo}
use Rattle.vx_data.specs.declared.ids.EntryNo.{EntryNo}
use Rattle.vx_data.specs.declared.ids.MessageId.{MessageId}
use Rattle.vx_data.specs.Ids.{same_message}
use Rattle.vx_call.specs.declared.call.Call.{Call}
use Rattle.vx_call.specs.declared.call.Call.TheVariants as calls
use Rattle.vx_call.specs.declared.history.Deed.{Deed}
use Rattle.vx_call.specs.declared.history.Mark.{Mark}
use Rattle.vx_call.specs.declared.history.Traced.{Traced}
use Rattle.vx_call.specs.History.{made_by, ended_by, is_accepted, lasting}
use Rattle.vx_call.specs.Names.{next_entry, next_message}
use Rattle.vx_call.specs.Built.{IsStored, AreStored}
use Rattle.vx_call.specs.Askers.{Asker, is_asked_by}
use Rattle.vx_call.specs.Askers as askers
use Rattle.vx_call.specs.Requests.{Open, open_kind, unsettled, closes_asker, is_lost_at, settles, settles_or_shuts}
use Rattle.vx_call.specs.Settled.{Settled, settled_kind, settled_made, Dropped, drop_all, dropped_by_closing, dropped_with_context, dropped_with_connection, dropped_made, dropped_kind, dropped, settled_at}
use Rattle.vx_call.proofs.Lasting.{lasting_more, lasting_none, and_false}
use Rattle.vx_call.proofs.Each.{Each, Each-append, Each-filter, Each-find, Each-both, weaken, accepted, by_entries, lasting_each_among}
use Rattle.vx_call.proofs.Apart.{others_apart}
use Rattle.vx_call.proofs.Found.{find_none, find_neither, find_passes, later_name}
use Rattle.vx_call.proofs.Opened.{IsOther, open_key, open_stays_apart, same_open, same_open-swap, unsettled_apart, unsettled_earlier}
use Rattle.vx_call.proofs.Settlings.{is_settled_as, settled-append, each_settled, each_settled_by}
use Rattle.vx_call.proofs.Stored.{stored_front, stored_last}
use Rattle.vx_call.proofs.KeepsOpen.{KeepsOpen}

abbrev pub is_dropped_as : MessageId → Dropped → Bool
is_dropped_as id d = same_message id d.request

pub dropped-append : (history : List Traced) (new : Traced) → lasting dropped_kind (history ++ new ∷ []) ≡ lasting dropped_kind history ++ made_by dropped_kind history new
dropped-append history new = lasting_more dropped_kind history new (λ d. and_false (is_accepted new.entry.reply))

-- ## Which requests an entry drops

-- those whose asker's context it closes
pub dropped_of_contexts : (history : List Traced) (new : Traced) → IsStored new → dropped_made history new ≡ drop_all history (dropped_with_context history new.entry.pass new.entry.call)
dropped_of_contexts history new one =
    let with = dropped_with_context history new.entry.pass new.entry.call in
    ap (λ (m : Mark). drop_all history (with ++ dropped_with_connection history new m.shut)) one.mark ∙ ap (drop_all history) (append-nil with)

none_selected : {A : Type 0} (test : A → Bool) (xs : List A) → ((x : A) → test x ≡ false) → filter test xs ≡ []
none_selected test [] none = refl
none_selected test (x ∷ xs) none = ap (λ b. cond b (x ∷ filter test xs) (filter test xs)) (none x) ∙ none_selected test xs none

asker_kept : (history : List Traced) (new : Traced) (asker : Asker) → KeepsOpen history new → closes_asker history new.entry.pass new.entry.call asker ≡ false
asker_kept history new (askers.context context) keeps = keeps.closes context
asker_kept history new (askers.connection conn at) keeps = refl

none_with_context : (history : List Traced) (pass : PassNo) (call : Call) → ((request : Open) → closes_asker history pass call request.asker ≡ false) → dropped_with_context history pass call ≡ []
none_with_context history pass (calls.StartDone result) kept = none_selected _ (unsettled history) kept
none_with_context history pass calls.StopDone kept = none_selected _ (unsettled history) kept
none_with_context history pass (calls.Finish end) kept = none_selected _ (unsettled history) kept
none_with_context history pass calls.Close kept = none_selected _ (unsettled history) kept
none_with_context history pass _ kept = refl

-- an entry that closes no context drops none
pub none_dropped : (history : List Traced) (new : Traced) → KeepsOpen history new → made_by dropped_kind history new ≡ []
none_dropped history new keeps =
    ap (λ xs. cond (is_accepted new.entry.reply) xs [])
    (dropped_of_contexts history new keeps.stored
    ∙ ap (drop_all history) (none_with_context history new.entry.pass new.entry.call (λ request. asker_kept history new request.asker keeps)))
    ∙ elim (is_accepted new.entry.reply) as (λ b. cond {A = List Dropped} b [] [] ≡ []) [ true ↦ refl | false ↦ refl ]

-- ## They were made before

each_with_context : (P : Open → Type 0) (history : List Traced) (pass : PassNo) (call : Call) → Each P (dropped_by_closing history pass call) → Each P (dropped_with_context history pass call)
each_with_context P history pass (calls.StartDone result) each = each
each_with_context P history pass calls.StopDone each = each
each_with_context P history pass (calls.Finish end) each = each
each_with_context P history pass calls.Close each = each
each_with_context P history pass _ each = tt

each_dropped : (P : Open → Type 0) (Q : Dropped → Type 0) (history : List Traced) (requests : List Open) → ((request : Open) → P request → Q (record { request = request.id; at = next_entry history })) →
    Each P requests → Each Q (drop_all history requests)
each_dropped P Q history [] as_dropped each = tt
each_dropped P Q history (request ∷ others) as_dropped each = (as_dropped request each.0, each_dropped P Q history others as_dropped each.1)

-- what holds of each open request whose asker's context the entry closes holds of each that it drops
each_made : (P : Open → Type 0) (Q : Dropped → Type 0) (history : List Traced) (new : Traced) → IsStored new → ((request : Open) → P request → Q (record { request = request.id; at = next_entry history })) →
    Each P (dropped_with_context history new.entry.pass new.entry.call) → Each Q (dropped_made history new)
each_made P Q history new one as_dropped each =
    let E : List Dropped → Type 0 = Each Q in
    subst E (sym (dropped_of_contexts history new one)) (each_dropped P Q history (dropped_with_context history new.entry.pass new.entry.call) as_dropped each)

abbrev IsBefore : ℕ → Dropped → Type 0
IsBefore n d = d.request.0.0 < n

made_before : (history : List Traced) (new : Traced) → IsStored new → Each (IsBefore (length history)) (made_by dropped_kind history new)
made_before history new one =
    let IsEarlier : Open → Type 0 = λ request. open_key request < length history in
    let pass = new.entry.pass in
    let call = new.entry.call in
    accepted (IsBefore (length history)) (is_accepted new.entry.reply) (dropped_made history new)
    (λ ok. each_made IsEarlier (IsBefore (length history)) history new one (λ request before. before)
    (each_with_context IsEarlier history pass call
    (Each-filter IsEarlier IsEarlier (λ (request : Open). closes_asker history pass call request.asker) (unsettled history) (λ request passes before. before) (unsettled_earlier history))))

pub dropped_earlier : (history : List Traced) → AreStored history → Each (λ (d : Dropped). d.request.0.0 < length history) (lasting dropped_kind history)
dropped_earlier =
    by_entries (λ history. AreStored history → Each (IsBefore (length history)) (lasting dropped_kind history))
    (λ stored. let E : List Dropped → Type 0 = Each (IsBefore 0) in subst E (sym (lasting_none dropped_kind)) tt)
    (λ history new before stored.
    let after = history ++ new ∷ [] in
    let longer = length_push history new in
    let E : List Dropped → Type 0 = Each (IsBefore (length after)) in
    let more : (d : Dropped) → IsBefore (length history) d → IsBefore (length after) d = λ d earlier. omega arith in
    subst E (sym (dropped-append history new))
    (Each-append (IsBefore (length after)) (lasting dropped_kind history) (made_by dropped_kind history new)
    (weaken (IsBefore (length history)) (IsBefore (length after)) (lasting dropped_kind history) more (before (stored_front history (new ∷ []) stored)))
    (weaken (IsBefore (length history)) (IsBefore (length after)) (made_by dropped_kind history new) more (made_before history new (stored_last history new stored)))))

-- a message that comes later is none of them
not_dropped_yet : (history : List Traced) (id : MessageId) → AreStored history → length history ≤ id.0.0 → dropped history id ≡ None
not_dropped_yet history id stored late =
    find_none (is_dropped_as id) (lasting dropped_kind history)
    (weaken (IsBefore (length history)) (λ d. is_dropped_as id d ≡ false) (lasting dropped_kind history) (λ d earlier. later_name id.0.0 d.request.0.0 (omega arith)) (dropped_earlier history stored))

pub next_not_dropped : (history : List Traced) → AreStored history → dropped history (next_message history) ≡ None
next_not_dropped history stored = not_dropped_yet history (next_message history) stored (omega arith)

-- ## None of them is open

-- a request that an entry does not settle is none of those that it drops
others_dropped : (history : List Traced) (pass : PassNo) (call : Call) (deed : Deed) (request : Open) → settles history pass call deed request ≡ false →
    (closes_asker history pass call request.asker ≡ false → Each (IsOther request) (dropped_by_closing history pass call)) → Each (IsOther request) (dropped_with_context history pass call)
others_dropped history pass (calls.StartDone result) deed request none others =
    others (or_parts (closes_asker history pass (calls.StartDone result) request.asker) (is_lost_at history pass (calls.StartDone result) request request.home) none).0
others_dropped history pass calls.StopDone deed request none others =
    others (or_parts (closes_asker history pass calls.StopDone request.asker) (is_lost_at history pass calls.StopDone request request.home) none).0
others_dropped history pass (calls.Finish end) deed request none others =
    others (or_parts (closes_asker history pass (calls.Finish end) request.asker) (is_lost_at history pass (calls.Finish end) request request.home) none).0
others_dropped history pass calls.Close deed request none others =
    others (or_parts (closes_asker history pass calls.Close request.asker) (is_lost_at history pass calls.Close request request.home) none).0
others_dropped history pass _ deed request none others = tt

abbrev IsKept : List Traced → Open → Type 0
IsKept history request = AreStored history → dropped history request.id ≡ None

kept_stays : (history : List Traced) (new : Traced) (request : Open) →
    (closes_asker history new.entry.pass new.entry.call request.asker ≡ false → Each (IsOther request) (dropped_by_closing history new.entry.pass new.entry.call)) → IsKept history request →
    ended_by open_kind history new request ≡ false → IsKept (history ++ new ∷ []) request
kept_stays history new request others none stays stored =
    let pass = new.entry.pass in
    let call = new.entry.call in
    let deed = new.mark.deed in
    let test = is_dropped_as request.id in
    ap (find test) (dropped-append history new)
    ∙ find_neither test (lasting dropped_kind history) (made_by dropped_kind history new) (none (stored_front history (new ∷ []) stored))
    (find_none test (made_by dropped_kind history new)
    (elim (is_accepted new.entry.reply) as (λ b. (b && settles_or_shuts history new request) ≡ false → Each (λ d. test d ≡ false) (cond b (dropped_made history new) [])) [
      | true ↦ λ kept. each_made (IsOther request) (λ d. test d ≡ false) history new (stored_last history new stored) (λ other apart. apart)
          (others_dropped history pass call deed request (or_parts (settles history pass call deed request) (is_asked_by new.mark.shut request.asker) kept).0 others)
      | false ↦ λ kept. tt
    ] stays))

all_kept : (history : List Traced) (new : Traced) → Each (IsKept history) (unsettled history) →
    Each (λ request. ended_by open_kind history new request ≡ false → IsKept (history ++ new ∷ []) request) (unsettled history)
all_kept history new each =
    let closed : Open → Bool = λ request. closes_asker history new.entry.pass new.entry.call request.asker in
    Each-both (λ request. closed request ≡ false → Each (IsOther request) (filter closed (unsettled history))) (IsKept history) (λ request. ended_by open_kind history new request ≡ false → IsKept (history ++ new ∷ []) request) (unsettled history)
    (λ request others none stays. kept_stays history new request others none stays)
    (others_apart same_open same_open-swap closed (unsettled history) (unsettled_apart history)) each

new_kept : (history : List Traced) (new : Traced) → Each (IsKept (history ++ new ∷ [])) (made_by open_kind history new)
new_kept history new =
    let made = made_by open_kind history new in
    weaken (λ request. open_key request ≡ length history) (IsKept (history ++ new ∷ [])) made
    (λ request keyed stored.
    let test = is_dropped_as request.id in
    ap (find test) (dropped-append history new)
    ∙ find_neither test (lasting dropped_kind history) (made_by dropped_kind history new) (not_dropped_yet history request.id (stored_front history (new ∷ []) stored) (omega (arith, keyed)))
    (find_none test (made_by dropped_kind history new)
    (weaken (IsBefore (length history)) (λ d. test d ≡ false) (made_by dropped_kind history new) (λ d earlier. later_name request.id.0.0 d.request.0.0 (omega (arith, keyed)))
    (made_before history new (stored_last history new stored)))))
    (accepted (λ request. open_key request ≡ length history) (is_accepted new.entry.reply) _ (λ ok. (open_stays_apart history new).keyed))

pub open_not_dropped : (history : List Traced) → AreStored history → Each (λ (request : Open). dropped history request.id ≡ None) (unsettled history)
open_not_dropped history stored =
    weaken (IsKept history) (λ (request : Open). dropped history request.id ≡ None) (unsettled history) (λ request kept. kept stored) (lasting_each_among open_kind IsKept all_kept new_kept history)

-- ## The entry at which a request ended

-- none that an entry settles was dropped before
settled_not_dropped : (history : List Traced) (pass : PassNo) (call : Call) (deed : Deed) → AreStored history → Each (λ (s : Settled). dropped history s.request ≡ None) (settled_made history pass call deed)
settled_not_dropped history pass call deed stored =
    each_settled (λ s. dropped history s.request ≡ None) history pass call deed
    (each_settled_by (λ (request : Open). dropped history request.id ≡ None) (λ s. dropped history s.request ≡ None) history pass call deed (λ request outcome none. none) (open_not_dropped history stored))
    (λ asker asks nobody. next_not_dropped history stored)

abbrev pub ended_among : MessageId → List Settled → Option EntryNo
ended_among id all = option_map (λ (s : Settled). s.at) (find (is_settled_as id) all)

abbrev pub dropped_among : MessageId → List Dropped → Option EntryNo
dropped_among id all = option_map (λ (d : Dropped). d.at) (find (is_dropped_as id) all)

option_map-or : {X Y : Type 0} (f : X → Y) (a b : Option X) → option_map f (option_or a b) ≡ option_or (option_map f a) (option_map f b)
option_map-or f None b = refl
option_map-or f (Some x) b = refl

same_id : (id other : MessageId) → same_message id other ≡ true → id ≡ other
same_id id other same = let e : id.0.0 ≡ other.0.0 = eqb-true id.0.0 other.0.0 same in ap (λ n. record { 0 = record { 0 = n } }) e

-- where a request is settled, it was not dropped
not_both : (history : List Traced) (id : MessageId) (made : List Settled) → Each (λ (s : Settled). dropped history s.request ≡ None) made → (s : Settled) → find (is_settled_as id) made ≡ Some s → dropped history id ≡ None
not_both history id made none s found =
    ap (dropped history) (same_id id s.request (find_passes (is_settled_as id) made s found)) ∙ Each-find (λ (s : Settled). dropped history s.request ≡ None) (is_settled_as id) made s none found

in_turn : {A : Type 0} (before end more drop : Option A) → ((x : A) → more ≡ Some x → end ≡ None) →
    option_or (option_or before more) (option_or end drop) ≡ option_or (option_or before end) (option_or more drop)
in_turn (Some x) end more drop never = refl
in_turn None None more drop never = refl
in_turn None (Some y) None drop never = refl
in_turn None (Some y) (Some x) drop never = absurd (let no = never x refl in cc)

mapped : {X Y : Type 0} (f : X → Y) (o : Option X) (y : Y) → option_map f o ≡ Some y → (x : X) × (o ≡ Some x)
mapped f None y is = absurd cc
mapped f (Some x) y is = (x, refl)

-- it stays once it is there, and else it is that of an entry which ends the request
pub settled_at_more : (history : List Traced) (new : Traced) (id : MessageId) → AreStored history →
    settled_at (history ++ new ∷ []) id ≡ option_or (settled_at history id) (option_or (ended_among id (made_by settled_kind history new)) (dropped_among id (made_by dropped_kind history new)))
settled_at_more history new id stored =
    let settles_now = made_by settled_kind history new in
    let drops = made_by dropped_kind history new in
    let before = ended_among id (lasting settled_kind history) in
    let end = dropped_among id (lasting dropped_kind history) in
    let settled_then : ended_among id (lasting settled_kind (history ++ new ∷ [])) ≡ option_or before (ended_among id settles_now) =
    ap (ended_among id) (settled-append history new)
    ∙ ap (option_map (λ (s : Settled). s.at)) (find-append (is_settled_as id) (lasting settled_kind history) settles_now)
    ∙ option_map-or (λ (s : Settled). s.at) (find (is_settled_as id) (lasting settled_kind history)) (find (is_settled_as id) settles_now) in
    let dropped_then : dropped_among id (lasting dropped_kind (history ++ new ∷ [])) ≡ option_or end (dropped_among id drops) =
    ap (dropped_among id) (dropped-append history new)
    ∙ ap (option_map (λ (d : Dropped). d.at)) (find-append (is_dropped_as id) (lasting dropped_kind history) drops)
    ∙ option_map-or (λ (d : Dropped). d.at) (find (is_dropped_as id) (lasting dropped_kind history)) (find (is_dropped_as id) drops) in
    let none : Each (λ (s : Settled). dropped history s.request ≡ None) settles_now =
    accepted (λ (s : Settled). dropped history s.request ≡ None) (is_accepted new.entry.reply) _ (λ ok. settled_not_dropped history new.entry.pass new.entry.call new.mark.deed stored) in
    ap (λ o. option_or o (dropped_among id (lasting dropped_kind (history ++ new ∷ [])))) settled_then
    ∙ ap (option_or (option_or before (ended_among id settles_now))) dropped_then
    ∙ in_turn before end (ended_among id settles_now) (dropped_among id drops)
    (λ at is. (let found = mapped (λ (s : Settled). s.at) (find (is_settled_as id) settles_now) at is in ap (option_map (λ (d : Dropped). d.at)) (not_both history id settles_now none found.0 found.1)))

pub or_none : {X : Type 0} (o : Option X) → option_or o None ≡ o
or_none None = refl
or_none (Some x) = refl

-- an entry that settles none and drops none leaves it
pub settled_at_left : (history : List Traced) (new : Traced) (id : MessageId) → AreStored history → made_by dropped_kind history new ≡ [] → made_by settled_kind history new ≡ [] → settled_at (history ++ new ∷ []) id ≡ settled_at history id
settled_at_left history new id stored no_drops none =
    settled_at_more history new id stored
    ∙ ap (λ made. option_or (settled_at history id) (option_or (ended_among id made) (dropped_among id (made_by dropped_kind history new)))) none
    ∙ ap (λ drops. option_or (settled_at history id) (dropped_among id drops)) no_drops
    ∙ or_none (settled_at history id)

-- where no context closes, a request ends with an outcome alone
pub settled_at_kept : (history : List Traced) (new : Traced) (id : MessageId) → AreStored history → KeepsOpen history new →
    settled_at (history ++ new ∷ []) id ≡ option_or (settled_at history id) (ended_among id (made_by settled_kind history new))
settled_at_kept history new id stored keeps =
    settled_at_more history new id stored
    ∙ ap (λ drops. option_or (settled_at history id) (option_or (ended_among id (made_by settled_kind history new)) (dropped_among id drops))) (none_dropped history new keeps)
    ∙ ap (option_or (settled_at history id)) (or_none (ended_among id (made_by settled_kind history new)))

pub settled_at_same : (history : List Traced) (new : Traced) (id : MessageId) → AreStored history → KeepsOpen history new → made_by settled_kind history new ≡ [] → settled_at (history ++ new ∷ []) id ≡ settled_at history id
settled_at_same history new id stored keeps none = settled_at_left history new id stored (none_dropped history new keeps) none
