-- Contexts that are open, and those that were closed.
use Rattle.std.proofs.Common.{◌≡◌, ℕ, ◌<◌, ◌≤◌, List, [], ◌∷◌, ◌++◌, length, refl, ap, sym, ◌∙◌, subst, append_assoc, arith}
use Rattle.std.specs.Prelude.{Bool, true, false, not, ◌&&◌, ◌||◌, cond, filter, find, map, Option, None, Some}
use Rattle.std.specs.List.{list_any}
use Rattle.std.specs.Option.{option_map, option_or, option_and_then, option_to_list}
use Rattle.std.proofs.lemmas.Bool.{or_left, or_right}
use Rattle.std.proofs.lemmas.List.{append-nil, length_push}
use Rattle.std.proofs.lemmas.List.Folds.{find-append, list_any-append}
use Rattle.std.proofs.lemmas.Map.Views.{any-filter_same}
use Rattle.vx_data.specs.declared.ids.ContextId.{ContextId}
use Rattle.vx_data.specs.declared.ids.EntryNo.{EntryNo}
use Rattle.vx_data.specs.declared.ids.PassNo.{PassNo}
use Rattle.vx_data.specs.Ids.{same_context}
use Rattle.vx_message.specs.declared.Context.{Context}
use Rattle.vx_message.specs.declared.DoneResult.{DoneResult}
use Rattle.vx_message.specs.declared.DoneResult.TheVariants as results
use Rattle.vx_call.specs.declared.call.Call.{Call}
use Rattle.vx_call.specs.declared.call.Call.TheVariants as calls
use Rattle.vx_call.specs.declared.history.Traced.{Traced}
use Rattle.vx_call.specs.History.{is_accepted, made_by, ended_by, lasting}
use Rattle.vx_call.specs.Contexts.{context_kind, contexts, is_context_of, context_at}
use Rattle.vx_call.specs.Held.{is_of_context}
use Rattle.vx_call.specs.Starts.{Ending, ending_among, unstarted_kind, unstarted, unstopped_kind, unstopped, ended_start, ended_stop, start_ended, stop_ended, failure_in, start_failed}
use Rattle.vx_call.specs.Closings.{Closing, context_in, closing_by, closes, open_context_kind, open_contexts, is_open, closing, closing_made, closing_kind, is_closing_of, closed_at}
use Rattle.vx_call.proofs.Lasting.{lasting-append, lasting_more, and_false}
use Rattle.vx_call.proofs.Each.{Each, Each-map, Each-find, weaken, accepted, by_entries, lasting_each}
use Rattle.vx_call.proofs.Apart.{lasting_earlier}
use Rattle.vx_call.proofs.Contexts.{same_context-self, same_context-true, same_entry, context_key, new_contexts_apart}
use Rattle.vx_call.proofs.Found.{find_passes}
use Rattle.vx_call.proofs.Once.{stays_away, goes_away, each_any}
use Rattle.vx_call.proofs.Placed.{context_number, deployed_apart}

-- whether an entry closes a context
abbrev pub closes_now : List Traced → Traced → ContextId → Bool
closes_now history new context = is_accepted new.entry.reply && closes history new.entry.pass new.entry.call context

-- ## What is open stays so until an entry closes it

pub keeps_open : (history : List Traced) (new : Traced) (context : ContextId) → closes_now history new context ≡ false → is_open history context ≡ true → is_open (history ++ new ∷ []) context ≡ true
keeps_open history new context stays here =
    let test = is_context_of context in
    let kept = λ (c : Context). not (ended_by open_context_kind history new c) in
    let still = any-filter_same test kept true (λ c its. ap (λ id. not (closes_now history new id)) (sym (same_context-true context c.id its)) ∙ ap not stays) (open_contexts history) ∙ here in
    ap (list_any test) (lasting-append open_context_kind history new)
    ∙ list_any-append test (filter kept (open_contexts history)) (made_by open_context_kind history new)
    ∙ or_left (list_any test (filter kept (open_contexts history))) (list_any test (made_by open_context_kind history new)) still

-- each context is open behind the entry that made it
pub made_open : (history : List Traced) (new : Traced) → Each (λ (c : Context). is_open (history ++ new ∷ []) c.id ≡ true) (made_by open_context_kind history new)
made_open history new =
    let made = made_by open_context_kind history new in
    let kept = filter (λ (c : Context). not (ended_by open_context_kind history new c)) (open_contexts history) in
    weaken (λ (c : Context). list_any (is_context_of c.id) made ≡ true) (λ (c : Context). is_open (history ++ new ∷ []) c.id ≡ true) made
    (λ c here. ap (list_any (is_context_of c.id)) (lasting-append open_context_kind history new) ∙ list_any-append (is_context_of c.id) kept made ∙ or_right (list_any (is_context_of c.id) kept) (list_any (is_context_of c.id) made) here)
    (each_any (λ (x y : Context). same_context x.id y.id) (λ c. same_context-self c.id) made)

-- ## What an entry closes was made before

number_of_any : (context : ContextId) (n : ℕ) (all : List ContextId) → Each (λ c. context_number c < n) all → list_any (same_context context) all ≡ true → context_number context < n
number_of_any context n [] before some = absurd cc
number_of_any context n (c ∷ others) before some =
    elim (same_context context c) as (λ b. same_context context c ≡ b → (b || list_any (same_context context) others) ≡ true → context_number context < n) [
      | true ↦ λ same here. (let e = same_entry context c same in let first : context_number c < n = before.0 in omega arith)
      | false ↦ λ differs later. number_of_any context n others before.1 later
    ] refl some

unstarted_earlier : (history : List Traced) → Each (λ c. context_number c < length history) (unstarted history)
unstarted_earlier = lasting_earlier unstarted_kind context_number (λ history new. accepted (λ c. context_number c ≡ length history) (is_accepted new.entry.reply) _ (λ ok. (deployed_apart history new.entry.call).keyed))

unstopped_earlier : (history : List Traced) → Each (λ c. context_number c < length history) (unstopped history)
unstopped_earlier = lasting_earlier unstopped_kind context_number (λ history new. accepted (λ c. context_number c ≡ length history) (is_accepted new.entry.reply) _ (λ ok. (deployed_apart history new.entry.call).keyed))

among_earlier : (all : List ContextId) (n : ℕ) (given ending : Ending) → Each (λ c. context_number c < n) all → ending_among all given ≡ Some ending → context_number ending.context < n
among_earlier all n given ending before is =
    elim (list_any (same_context given.context) all) as (λ b. list_any (same_context given.context) all ≡ b → cond b (Some given) None ≡ Some ending → context_number ending.context < n) [
      | true ↦ λ some here. (let e : given ≡ ending = cc in subst (λ (x : Ending). context_number x.context < n) e (number_of_any given.context n all before some))
      | false ↦ λ none there. absurd cc
    ] refl is

start_earlier : (history : List Traced) (o : Option Ending) (ending : Ending) → ended_start history o ≡ Some ending → context_number ending.context < length history
start_earlier history None ending is = absurd cc
start_earlier history (Some given) ending is = among_earlier (unstarted history) (length history) given ending (unstarted_earlier history) is

stop_earlier : (history : List Traced) (o : Option Ending) (ending : Ending) → ended_stop history o ≡ Some ending → context_number ending.context < length history
stop_earlier history None ending is = absurd cc
stop_earlier history (Some given) ending is = among_earlier (unstopped history) (length history) given ending (unstopped_earlier history) is

failed_as : (given ending : Ending) (result : DoneResult) → failure_in given result ≡ Some ending → given ≡ ending
failed_as given ending results.Ok is = absurd cc
failed_as given ending _ is = cc

failed_earlier : (n : ℕ) (o : Option Ending) (context : ContextId) → ((ending : Ending) → o ≡ Some ending → context_number ending.context < n) →
    option_map context_in (option_and_then (λ (e : Ending). failure_in e e.result) o) ≡ Some context → context_number context < n
failed_earlier n None context earlier is = absurd cc
failed_earlier n (Some given) context earlier is =
    elim (failure_in given given.result) as (λ o. failure_in given given.result ≡ o → option_map context_in o ≡ Some context → context_number context < n) [
      | None ↦ λ none some. absurd cc
      | Some ending ↦ λ fails some.
          (let e : ending.context ≡ context = cc in
          let same = failed_as given ending given.result fails in
          subst (λ c. context_number c < n) e (subst (λ (x : Ending). context_number x.context < n) same (earlier given refl)))
    ] refl is

ended_earlier : (n : ℕ) (o : Option Ending) (context : ContextId) → ((ending : Ending) → o ≡ Some ending → context_number ending.context < n) → option_map context_in o ≡ Some context → context_number context < n
ended_earlier n None context earlier is = absurd cc
ended_earlier n (Some ending) context earlier is = (let e : ending.context ≡ context = cc in subst (λ c. context_number c < n) e (earlier ending refl))

either_earlier : (n : ℕ) (a b : Option ContextId) (context : ContextId) → (a ≡ Some context → context_number context < n) → (b ≡ Some context → context_number context < n) → option_or a b ≡ Some context → context_number context < n
either_earlier n None b context first second is = second is
either_earlier n (Some c) b context first second is = first is

pub closing_earlier : (history : List Traced) (pass : PassNo) (call : Call) (context : ContextId) → closing_by history pass call ≡ Some context → context_number context < length history
closing_earlier history pass call context is =
    let n = length history in
    let started : (ending : Ending) → start_ended history pass call ≡ Some ending → context_number ending.context < n = λ ending ends. start_earlier history _ ending ends in
    let stopped : (ending : Ending) → stop_ended history pass call ≡ Some ending → context_number ending.context < n = λ ending ends. stop_earlier history _ ending ends in
    either_earlier n (option_map context_in (start_failed history pass call)) (option_map context_in (stop_ended history pass call)) context
    (λ failed. failed_earlier n (start_ended history pass call) context started failed) (λ ends. ended_earlier n (stop_ended history pass call) context stopped ends) is

-- ## What was closed is not open

opened_keyed : (history : List Traced) (new : Traced) → Each (λ c. context_key c ≡ length history) (made_by open_context_kind history new)
opened_keyed history new = (new_contexts_apart history new).keyed

open_earlier : (history : List Traced) → Each (λ c. context_key c < length history) (open_contexts history)
open_earlier = lasting_earlier open_context_kind context_key opened_keyed

-- the context was made before, and is open no more
pub record IsShut (history : List Traced) (context : ContextId) : Type 0 where
  pub earlier : context_number context < length history
  pub gone : is_open history context ≡ false

its_number : (context : ContextId) (c : Context) → is_context_of context c ≡ true → context_key c ≡ context_number context
its_number context c its = sym (same_entry context c.id its)

pub shut_on : (history : List Traced) (new : Traced) (context : ContextId) → IsShut history context → IsShut (history ++ new ∷ []) context
shut_on history new context shut =
    let longer = length_push history new in
    let before : context_number context < length history = shut.earlier in
    record {
      earlier = omega arith;
      gone = stays_away open_context_kind (is_context_of context) context_key (context_number context) (its_number context) opened_keyed history new before shut.gone;
    }

shut_now : (history : List Traced) (new : Traced) (context : ContextId) → context_number context < length history → closes_now history new context ≡ true → IsShut (history ++ new ∷ []) context
shut_now history new context before closes_it =
    let longer = length_push history new in
    record {
      earlier = omega arith;
      gone = goes_away open_context_kind (is_context_of context) context_key (context_number context) (its_number context) opened_keyed history new before
          (λ c its. ap (closes_now history new) (sym (same_context-true context c.id its)) ∙ closes_it);
    }

closes_as : (history : List Traced) (pass : PassNo) (call : Call) (context : ContextId) → closing_by history pass call ≡ Some context → closes history pass call context ≡ true
closes_as history pass calls.Close context is = refl
closes_as history pass call context is = ap (is_of_context context) is ∙ same_context-self context

abbrev IsShutBy : List Traced → Closing → Type 0
IsShutBy history closing = IsShut history closing.context

all_closed : (history : List Traced) (new : Traced) → is_accepted new.entry.reply ≡ true → new.entry.call ≡ calls.Close → Each (λ (c : Context). IsShut (history ++ new ∷ []) c.id) (open_contexts history)
all_closed history new ok is_call =
    weaken (λ c. context_key c < length history) (λ (c : Context). IsShut (history ++ new ∷ []) c.id) (open_contexts history)
    (λ c before. shut_now history new c.id before (ap (λ b. b && closes history new.entry.pass new.entry.call c.id) ok ∙ ap (λ call. closes history new.entry.pass call c.id) is_call)) (open_earlier history)

one_closed : (history : List Traced) (new : Traced) (o : Option ContextId) → is_accepted new.entry.reply ≡ true → closing_by history new.entry.pass new.entry.call ≡ o →
    Each (IsShutBy (history ++ new ∷ [])) (option_to_list (option_map (closing history) o))
one_closed history new None ok is = tt
one_closed history new (Some context) ok is =
    let pass = new.entry.pass in
    let call = new.entry.call in
    (shut_now history new context (closing_earlier history pass call context is) (ap (λ b. b && closes history pass call context) ok ∙ closes_as history pass call context is), tt)

closings_shut : (history : List Traced) (new : Traced) (call : Call) → is_accepted new.entry.reply ≡ true → new.entry.call ≡ call → Each (IsShutBy (history ++ new ∷ [])) (closing_made history new.entry.pass call)
closings_shut history new calls.Close ok is_call = Each-map (IsShutBy (history ++ new ∷ [])) (λ (c : Context). closing history c.id) (open_contexts history) (all_closed history new ok is_call)
closings_shut history new call ok is_call = one_closed history new (closing_by history new.entry.pass call) ok (ap (closing_by history new.entry.pass) is_call)

-- each context that was closed is open no more
pub all_shut : (history : List Traced) → Each (IsShutBy history) (lasting closing_kind history)
all_shut = lasting_each closing_kind IsShutBy (λ history new closing stays shut. shut_on history new closing.context shut)
    (λ history new. accepted (IsShutBy (history ++ new ∷ [])) (is_accepted new.entry.reply) _ (λ ok. closings_shut history new new.entry.call ok refl))

same_closing : (context : ContextId) (closing : Closing) → is_closing_of context closing ≡ true → closing.context ≡ context
same_closing context closing its = sym (same_context-true context closing.context its)

pub closed_shut : (history : List Traced) (context : ContextId) (at : EntryNo) → closed_at history context ≡ Some at → IsShut history context
closed_shut history context at is =
    let all = lasting closing_kind history in
    elim (find (is_closing_of context) all) as (λ o. find (is_closing_of context) all ≡ o → option_map (λ (c : Closing). c.at) o ≡ Some at → IsShut history context) [
      | None ↦ λ none some. absurd cc
      | Some closing ↦ λ found some.
          subst (IsShut history) (same_closing context closing (find_passes (is_closing_of context) all closing found)) (Each-find (IsShutBy history) (is_closing_of context) all closing (all_shut history) found)
    ] refl is

-- ## What was not closed is open

none_of_either : {A : Type 0} (a b : Option A) → option_or a b ≡ None → (a ≡ None) × (b ≡ None)
none_of_either None b none = (refl, none)
none_of_either (Some x) b none = absurd cc

map_none : {A B : Type 0} (f : A → B) (o : Option A) → option_map f o ≡ None → o ≡ None
map_none f None none = refl
map_none f (Some x) none = absurd cc

find_missed : {A : Type 0} (test : A → Bool) (xs : List A) → find test xs ≡ None → list_any test xs ≡ false
find_missed test [] none = refl
find_missed {A} test (x ∷ xs) none =
    elim (test x) as (λ b. cond b (Some x) (find test xs) ≡ None → (b || list_any test xs) ≡ false) [ true ↦ λ some. absurd cc | false ↦ λ later. find_missed test xs later ] none

closings_map : (history : List Traced) (context : ContextId) (all : List Context) → list_any (is_closing_of context) (map (λ (c : Context). closing history c.id) all) ≡ list_any (is_context_of context) all
closings_map history context [] = refl
closings_map history context (c ∷ others) = ap (λ b. same_context context c.id || b) (closings_map history context others)

one_closing : (history : List Traced) (context : ContextId) (o : Option ContextId) → is_of_context context o ≡ true → list_any (is_closing_of context) (option_to_list (option_map (closing history) o)) ≡ true
one_closing history context None its = absurd cc
one_closing history context (Some c) its = ap (λ b. b || false) its

-- an entry that closes a context that is open says so
closing_told : (history : List Traced) (pass : PassNo) (call : Call) (context : ContextId) → is_open history context ≡ true → closes history pass call context ≡ true → list_any (is_closing_of context) (closing_made history pass call) ≡ true
closing_told history pass calls.Close context here closes_it = closings_map history context (open_contexts history) ∙ here
closing_told history pass call context here closes_it = one_closing history context (closing_by history pass call) closes_it

-- what a longer history has not closed, a front of it has not, and its last entry doesn't
pub record IsUnclosed (history : List Traced) (new : Traced) (context : ContextId) : Type 0 where
  pub before : closed_at history context ≡ None
  pub made : find (is_closing_of context) (made_by closing_kind history new) ≡ None

closings-append : (history : List Traced) (new : Traced) → lasting closing_kind (history ++ new ∷ []) ≡ lasting closing_kind history ++ made_by closing_kind history new
closings-append history new = lasting_more closing_kind history new (λ c. and_false (is_accepted new.entry.reply))

closed-append : (history : List Traced) (new : Traced) (context : ContextId) →
    closed_at (history ++ new ∷ []) context ≡ option_map (λ (c : Closing). c.at) (option_or (find (is_closing_of context) (lasting closing_kind history)) (find (is_closing_of context) (made_by closing_kind history new)))
closed-append history new context =
    ap (λ all. option_map (λ (c : Closing). c.at) (find (is_closing_of context) all)) (closings-append history new)
    ∙ ap (option_map (λ (c : Closing). c.at)) (find-append (is_closing_of context) (lasting closing_kind history) (made_by closing_kind history new))

unclosed : (history : List Traced) (new : Traced) (context : ContextId) → closed_at (history ++ new ∷ []) context ≡ None → IsUnclosed history new context
unclosed history new context none =
    let all = find (is_closing_of context) (lasting closing_kind history) in
    let made = find (is_closing_of context) (made_by closing_kind history new) in
    let both = none_of_either all made (map_none (λ (c : Closing). c.at) (option_or all made) (sym (closed-append history new context) ∙ none)) in
    record { before = ap (option_map (λ (c : Closing). c.at)) both.0; made = both.1 }

not_closing : (history : List Traced) (new : Traced) (context : ContextId) → is_open history context ≡ true → find (is_closing_of context) (made_by closing_kind history new) ≡ None → closes_now history new context ≡ false
not_closing history new context here none =
    let pass = new.entry.pass in
    let call = new.entry.call in
    elim (is_accepted new.entry.reply) as (λ b. find (is_closing_of context) (cond b (closing_made history pass call) []) ≡ None → (b && closes history pass call context) ≡ false) [
      | true ↦ λ missed.
          (elim (closes history pass call context) as (λ b. closes history pass call context ≡ b → b ≡ false) [
            | true ↦ λ closes_it. (let no = find_missed (is_closing_of context) (closing_made history pass call) missed in let yes = closing_told history pass call context here closes_it in cc)
            | false ↦ λ stays. refl
          ] refl)
      | false ↦ λ missed. refl
    ] none

abbrev IsOpenUnlessClosed : List Traced → Context → Type 0
IsOpenUnlessClosed history context = closed_at history context.id ≡ None → is_open history context.id ≡ true

pub open_unless_closed : (history : List Traced) → Each (λ (c : Context). closed_at history c.id ≡ None → is_open history c.id ≡ true) (contexts history)
open_unless_closed = lasting_each context_kind IsOpenUnlessClosed
    (λ history new context stays before none.
    let it = unclosed history new context.id none in
    let here = before it.before in
    keeps_open history new context.id (not_closing history new context.id here it.made) here)
    (λ history new. weaken (λ (c : Context). is_open (history ++ new ∷ []) c.id ≡ true) (IsOpenUnlessClosed (history ++ new ∷ [])) (made_by context_kind history new) (λ c here none. here) (made_open history new))

pub is_open_context : (history : List Traced) (id : ContextId) (context : Context) → context_at history id ≡ Some context → closed_at history id ≡ None → is_open history id ≡ true
is_open_context history id context found none =
    let same : id ≡ context.id = same_context-true id context.id (find_passes (is_context_of id) (contexts history) context found) in
    ap (is_open history) same ∙ Each-find (IsOpenUnlessClosed history) (is_context_of id) (contexts history) context (open_unless_closed history) found (ap (closed_at history) (sym same) ∙ none)

-- ## When it was closed

made_late : (history : List Traced) (pass : PassNo) (call : Call) → Each (λ (c : Closing). c.at.0 ≡ length history) (closing_made history pass call)
made_late history pass calls.Close = Each-map (λ (c : Closing). c.at.0 ≡ length history) (λ (c : Context). closing history c.id) (open_contexts history) (weaken (λ c. context_key c < length history) (λ c. length history ≡ length history) (open_contexts history) (λ c before. refl) (open_earlier history))
made_late history pass call = late_one history (closing_by history pass call)
  where
    late_one : (history : List Traced) (o : Option ContextId) → Each (λ (c : Closing). c.at.0 ≡ length history) (option_to_list (option_map (closing history) o))
    late_one history None = tt
    late_one history (Some context) = (refl, tt)

-- where a front has not closed a context, it is closed no earlier than the front ends
abbrev IsClosedLate : ℕ → ContextId → List Traced → Type 0
IsClosedLate n context history = (at : EntryNo) → closed_at history context ≡ Some at → n ≤ at.0

late_on : (n : ℕ) (context : ContextId) (history : List Traced) (new : Traced) → n ≤ length history → IsClosedLate n context history → IsClosedLate n context (history ++ new ∷ [])
late_on n context history new longer before at is =
    let test = is_closing_of context in
    let made = made_by closing_kind history new in
    let late : Each (λ (c : Closing). c.at.0 ≡ length history) made = accepted (λ (c : Closing). c.at.0 ≡ length history) (is_accepted new.entry.reply) _ (λ ok. made_late history new.entry.pass new.entry.call) in
    elim (find test (lasting closing_kind history)) as (λ o. find test (lasting closing_kind history) ≡ o → option_map (λ (c : Closing). c.at) (option_or o (find test made)) ≡ Some at → n ≤ at.0) [
      | Some c ↦ λ found some. before at (ap (option_map (λ (x : Closing). x.at)) found ∙ some)
      | None ↦ λ none some.
          (elim (find test made) as (λ o. find test made ≡ o → option_map (λ (c : Closing). c.at) o ≡ Some at → n ≤ at.0) [
            | None ↦ λ nothing no. absurd cc
            | Some c ↦ λ found yes.
                (let e : c.at ≡ at = cc in
                let first : c.at.0 ≡ length history = Each-find (λ (x : Closing). x.at.0 ≡ length history) test made c late found in
                let same = ap (λ (a : EntryNo). a.0) e in
                omega arith)
          ] refl some)
    ] refl (sym (closed-append history new context) ∙ is)

pub closed_behind : (front after : List Traced) (context : ContextId) → closed_at front context ≡ None → (at : EntryNo) → closed_at (front ++ after) context ≡ Some at → length front ≤ at.0
closed_behind front after context none =
    let n = length front in
    let P : List Traced → Type 0 = λ h. (n ≤ length h) × IsClosedLate n context h in
    (by_entries (λ later. P (front ++ later)) (subst P (sym (append-nil front)) (omega arith, λ at some. absurd cc))
    (λ later new before.
    let longer = length_push (front ++ later) new in
    let long : n ≤ length (front ++ later) = before.0 in
    subst P (append_assoc front later (new ∷ [])) (omega arith, late_on n context (front ++ later) new long before.1)) after).1
