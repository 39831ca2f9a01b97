-- Of the tasks that passes hold no two are handlers of one context, and each is of a context that was made before.
use Rattle.std.proofs.Common.{◌≡◌, ℕ, ◌<◌, ◌≤◌, List, [], ◌∷◌, ◌++◌, length, refl, ap, sym, ◌∙◌, subst, arith}
use Rattle.std.specs.Prelude.{◌&&◌, Bool, true, false, not, cond, ◌||◌, ◌==◌, filter, find, Option, None, Some}
use Rattle.std.specs.List.{list_any}
use Rattle.std.specs.Option.{option_and_then, option_or}
use Rattle.std.proofs.lemmas.Bool.{eq-eqb}
use Rattle.std.proofs.lemmas.Bool.Decides.{nat_tests}
use Rattle.std.proofs.lemmas.List.{length_push}
use Rattle.vx_data.specs.declared.ids.ContextId.{ContextId}
use Rattle.vx_data.specs.declared.ids.PassNo.{PassNo}
use Rattle.vx_data.specs.Ids.{same_context}
use Rattle.vx_message.specs.declared.Context.{Context}
use Rattle.vx_message.specs.declared.Held.{Held}
use Rattle.vx_message.specs.declared.Lane.{Lane}
use Rattle.vx_message.specs.declared.Mode.{Mode}
use Rattle.vx_message.specs.declared.Mode.TheVariants as modes
use Rattle.vx_call.specs.declared.call.Call.{Call}
use Rattle.vx_call.specs.declared.call.Call.TheVariants as calls
use Rattle.vx_call.specs.declared.reply.Reply.{Reply}
use Rattle.vx_call.specs.declared.reply.Reply.TheVariants as replies
use Rattle.vx_call.specs.declared.reply.Task.{Task}
use Rattle.vx_call.specs.declared.history.Traced.{Traced}
use Rattle.vx_call.specs.History.{is_accepted, made_by, ended_by}
use Rattle.vx_call.specs.Contexts.{contexts, context_at, is_context_of}
use Rattle.vx_call.specs.Closings.{open_context_kind, open_contexts, is_open}
use Rattle.vx_call.specs.Given.{context_of, mode_of}
use Rattle.vx_call.specs.Held.{context_held, handler_context, held, held_context, held_kind, held_made, is_finished, is_of_context}
use Rattle.vx_call.specs.Items.{Waiting, waiting}
use Rattle.vx_call.specs.Machine.{IsLegal, MayFollow, answer}
use Rattle.vx_call.proofs.Lasting.{and_false, lasting-append, lasting_more, lasting_none}
use Rattle.vx_call.proofs.Each.{Each, Each-back, Each-filter, Each-find, accepted, by_entries, lasting_each, weaken}
use Rattle.vx_call.proofs.Apart.{Apart, Apart-filter, Apart-cross, lasting_apart, lasting_earlier}
use Rattle.vx_call.proofs.Contexts.{same_context-self, same_context-swap, same_context-true, context_key, same_by_id, same_entry, new_contexts_apart, contexts_found, context_at_earlier, contexts-append, keeps_context_at}
use Rattle.vx_call.proofs.Found.{find_end, same_number}
use Rattle.vx_call.proofs.Legal.{legal_front}
use Rattle.vx_call.proofs.Once.{any_none, any_each}
use Rattle.vx_call.proofs.Owners.{waiting_owned}
use Rattle.vx_call.proofs.Filters.{filter_every}
use Rattle.vx_call.proofs.Skipping.{either_first}
use Rattle.vx_call.specs.Closings.{hub_closed_at}
use Rattle.vx_call.specs.Next.{next}
use Rattle.vx_call.specs.Refusals.{spent, already_holding, holding_refusal}
use Rattle.vx_call.specs.Rows.{take_refusal, handed_out}
use Rattle.vx_laws.proofs.Handed.{waited, not_closed, not_refused}
use Rattle.vx_laws.proofs.Overlap.{Starts, taken_by, taken, not_running, refused_none}
use Rattle.vx_laws.proofs.Resting.{Rests, waiting_rests}
use Rattle.vx_laws.proofs.Splits.{Each-any}

-- ## Contexts that are open

-- a context that is made is found by its name
pub made_found : (history : List Traced) (new : Traced) → Each (λ (c : Context). context_at (history ++ new ∷ []) c.id ≡ Some c) (made_by open_context_kind history new)
made_found history new =
    let after = history ++ new ∷ [] in
    let IsFound : Context → Type 0 = λ c. context_at after c.id ≡ Some c in
    let P : List Context → Type 0 = Each IsFound in
    Each-back IsFound (contexts history) (made_by open_context_kind history new) (subst P (contexts-append history new) (contexts_found after))

-- ... and so is one that is open
pub open_found : (history : List Traced) → Each (λ (c : Context). context_at history c.id ≡ Some c) (open_contexts history)
open_found = lasting_each open_context_kind (λ history c. context_at history c.id ≡ Some c) (λ history new c stays found. keeps_context_at history new c.id c found) made_found

pub open_apart : (history : List Traced) → Apart same_by_id (open_contexts history)
open_apart = lasting_apart open_context_kind same_by_id context_key (λ x y same. same_entry x.id y.id same) new_contexts_apart

pub open_before : (history : List Traced) → Each (λ c. context_key c < length history) (open_contexts history)
open_before = lasting_earlier open_context_kind context_key (λ history new. (new_contexts_apart history new).keyed)

-- one of them passes a test
pub some_passes : {A : Type 0} (test : A → Bool) (P : A → Type 0) (xs : List A) → list_any test xs ≡ true → Each P xs → (x : A) × (test x ≡ true) × P x
some_passes test P [] any each = absurd cc
some_passes {A} test P (x ∷ xs) any each =
    elim (test x) as (λ b. test x ≡ b → (b || list_any test xs) ≡ true → (y : A) × (test y ≡ true) × P y) [
      | true ↦ λ passes any. (x, passes, each.0)
      | false ↦ λ fails any. some_passes test P xs any each.1
    ] refl any

-- a context that is open is there
pub open_is_there : (history : List Traced) (id : ContextId) → is_open history id ≡ true → (c : Context) × (context_at history id ≡ Some c)
open_is_there history id here =
    let one = some_passes (is_context_of id) (λ (c : Context). context_at history c.id ≡ Some c) (open_contexts history) here (open_found history) in
    (one.0, ap (context_at history) (same_context-true id one.0.id one.1) ∙ one.2)

-- ## What a Take hands out

-- the item of the task that is handed out: it is of a context that is open
pub record Taken (history : List Traced) (task : Task) : Type 0 where
  pub context : ContextId
  pub owned : context_of history task ≡ Some context
  pub here : is_open history context ≡ true

pub taken_open : (history : List Traced) (pass : PassNo) (lane : Lane) (task : Task) → IsLegal history → replies.Task task ≡ answer history pass (calls.Take lane) → Taken history task
taken_open history pass lane task legal answered =
    let found = waited history pass lane task answered in
    let item : Waiting = found.0 in
    let rests : Rests history item.context item.task = Each-find (λ (x : Waiting). Rests history x.context x.task) _ (waiting history) item (waiting_rests history legal) found.1 in
    let owned : context_of history item.task ≡ Some item.context = Each-find (λ (x : Waiting). context_of history x.task ≡ Some x.context) _ (waiting history) item (waiting_owned history) found.1 in
    record { context = item.context; owned = sym (ap (context_of history) found.2) ∙ owned; here = rests.here }

-- the Take of an entry that may follow
take_open : (history : List Traced) (new : Traced) (lane : Lane) (task : Task) → IsLegal history → MayFollow history new → new.entry.call ≡ calls.Take lane → new.entry.reply ≡ replies.Task task → Taken history task
take_open history new lane task legal may called replied =
    taken_open history new.entry.pass lane task legal (sym replied ∙ may.answered ∙ ap (answer history new.entry.pass) called)

-- ## What is held was made

-- it is of a context that was made before
abbrev pub IsOfMade : ℕ → Held → Type 0
IsOfMade n h = (context : ContextId) → h.context ≡ Some context → context.entry.0 < n

abbrev LegalMade : List Traced → Held → Type 0
LegalMade history h = IsLegal history → IsOfMade (length history) h

made_on : (history : List Traced) (new : Traced) (h : Held) → LegalMade history h → LegalMade (history ++ new ∷ []) h
made_on history new h before legal = λ context its.
    (let longer = length_push history new in
    let less : context.entry.0 < length history = before (legal_front history (new ∷ []) legal) context its in
    omega arith)

new_made : (history : List Traced) (new : Traced) (call : Call) (reply : Reply) → new.entry.call ≡ call → new.entry.reply ≡ reply → Each (LegalMade (history ++ new ∷ [])) (held_made history new.entry.pass call reply)
new_made history new (calls.Take lane) (replies.Task task) is_call is_reply = (
  λ legal context its.
      (let longer = length_push history new in
      let taken = take_open history new lane task (legal_front history (new ∷ []) legal) (legal history new [] refl) is_call is_reply in
      let there = open_is_there history taken.context taken.here in
      let less : taken.context.entry.0 < length history = context_at_earlier history taken.context there.0 there.1 in
      let same : taken.context ≡ context = cc in
      let number = ap (λ (c : ContextId). c.entry.0) same in
      omega arith),
  tt,
)
new_made history new (calls.Take lane) _ is_call is_reply = tt
new_made history new _ reply is_call is_reply = tt

pub held_of_made : (history : List Traced) → IsLegal history → Each (IsOfMade (length history)) (held history)
held_of_made history legal =
    weaken (LegalMade history) (IsOfMade (length history)) (held history) (λ h made. made legal)
    (lasting_each held_kind LegalMade (λ history new h stays before. made_on history new h before)
    (λ history new. accepted (LegalMade (history ++ new ∷ [])) _ _ (λ ok. new_made history new new.entry.call new.entry.reply refl refl)) history)

-- the context whose handler a task is, is the one that the task is of
pub handler_is : (mode : Mode) (o : Option ContextId) (context : ContextId) → handler_context mode o ≡ Some context → o ≡ Some context
handler_is modes.Handler o context is = is
handler_is modes.Ordered o context is = absurd cc
handler_is modes.Free o context is = absurd cc

later_context : (n : ℕ) (id : ContextId) (o : Option ContextId) → n ≤ id.entry.0 → ((context : ContextId) → o ≡ Some context → context.entry.0 < n) → is_of_context id o ≡ false
later_context n id None later before = refl
later_context n id (Some context) later before =
    let less : context.entry.0 < n = before context refl in
    elim (same_context id context) as (λ b. same_context id context ≡ b → b ≡ false) [
      | true ↦ λ same. absurd (let e = same_entry id context same in omega arith)
      | false ↦ λ differs. refl
    ] refl

-- no handler is held of a context that is not made yet
pub none_of_later : (n : ℕ) (id : ContextId) (hs : List Held) → n ≤ id.entry.0 → Each (IsOfMade n) hs → list_any (λ (h : Held). is_of_context id (context_held h)) hs ≡ false
none_of_later n id hs later made =
    any_none (λ (h : Held). is_of_context id (context_held h)) hs
    (weaken (IsOfMade n) (λ (h : Held). is_of_context id (context_held h) ≡ false) hs
    (λ h before. later_context n id (context_held h) later (λ context its. before context (handler_is h.mode h.context context its))) made)

-- ... nor is one held by a pass
pub held_not_later : (n : ℕ) (id : ContextId) (pass : PassNo) (hs : List Held) → n ≤ id.entry.0 → Each (IsOfMade n) hs → is_of_context id (option_and_then context_held (find (λ (h : Held). h.pass.0 == pass.0) hs)) ≡ false
held_not_later n id pass hs later made =
    elim (find (λ (h : Held). h.pass.0 == pass.0) hs) as (λ o. find (λ (h : Held). h.pass.0 == pass.0) hs ≡ o → is_of_context id (option_and_then context_held o) ≡ false) [
      | None ↦ λ none. refl
      | Some h ↦ λ found.
          (let before : IsOfMade n h = Each-find (IsOfMade n) (λ (x : Held). x.pass.0 == pass.0) hs h made found in
          later_context n id (context_held h) later (λ context its. before context (handler_is h.mode h.context context its)))
    ] refl

-- ## No two are handlers of one context

abbrev pub both_of : Option ContextId → Option ContextId → Bool
both_of None other = false
both_of (Some context) other = is_of_context context other

both_of-swap : (a b : Option ContextId) → both_of a b ≡ both_of b a
both_of-swap None None = refl
both_of-swap None (Some b) = refl
both_of-swap (Some a) None = refl
both_of-swap (Some a) (Some b) = same_context-swap a b

-- two handlers of one context
abbrev pub same_handler : Held → Held → Bool
same_handler a b = both_of (context_held a) (context_held b)

-- a task that is handed out is apart from those that are held
abbrev IsApart : Option ContextId → Held → Type 0
IsApart o x = (both_of (context_held x) o ≡ false) × Unit {0}

apart_from : (history : List Traced) (new : Traced) (lane : Lane) (task : Task) → new.entry.call ≡ calls.Take lane → new.entry.reply ≡ replies.Task task → MayFollow history new → (o : Option ContextId) →
    handler_context (mode_of history task) (context_of history task) ≡ o → Each (IsApart o) (held history)
apart_from history new lane task is_call is_reply may None is = Each-any (IsApart None) (held history) (λ x. (both_of-swap (context_held x) None, tt))
apart_from history new lane task is_call is_reply may (Some context) is =
    let its : is_of_context context (handler_context (mode_of history task) (context_of history task)) ≡ true = ap (is_of_context context) is ∙ same_context-self context in
    let free = not_running context history new may (record { lane = lane; task = task; called = is_call; replied = is_reply; its = its }) in
    weaken (λ (x : Held). is_of_context context (context_held x) ≡ false) (IsApart (Some context)) (held history) (λ x other. (both_of-swap (context_held x) (Some context) ∙ other, tt))
    (any_each (λ (x : Held). is_of_context context (context_held x)) (held history) free)

new_apart : (history : List Traced) (new : Traced) (call : Call) (reply : Reply) → new.entry.call ≡ call → new.entry.reply ≡ reply → MayFollow history new →
    Each (λ x. Each (λ y. same_handler x y ≡ false) (held_made history new.entry.pass call reply)) (held history)
new_apart history new (calls.Take lane) (replies.Task task) is_call is_reply may = apart_from history new lane task is_call is_reply may _ refl
new_apart history new (calls.Take lane) _ is_call is_reply may = Each-any (λ x. Unit {0}) (held history) (λ x. tt)
new_apart history new _ reply is_call is_reply may = Each-any (λ x. Unit {0}) (held history) (λ x. tt)

one_apart : (history : List Traced) (pass : PassNo) (call : Call) (reply : Reply) → Apart same_handler (held_made history pass call reply)
one_apart history pass (calls.Take lane) (replies.Task task) = (tt, tt)
one_apart history pass (calls.Take lane) _ = tt
one_apart history pass _ reply = tt

-- where each task that is handed out is apart from those that are held, all that are held are apart
module _ (test : Held → Held → Bool) (one : (history : List Traced) (pass : PassNo) (call : Call) (reply : Reply) → Apart test (held_made history pass call reply))
    (new_one : (history : List Traced) (new : Traced) (call : Call) (reply : Reply) → new.entry.call ≡ call → new.entry.reply ≡ reply → MayFollow history new →
    Each (λ x. Each (λ y. test x y ≡ false) (held_made history new.entry.pass call reply)) (held history)) where
  if_accepted : (b : Bool) (made all : List Held) → Apart test made → Each (λ x. Each (λ y. test x y ≡ false) made) all →
      Apart test (cond b made []) × Each (λ x. Each (λ y. test x y ≡ false) (cond b made [])) all
  if_accepted true made all apart cross = (apart, cross)
  if_accepted false made all apart cross = (tt, Each-any (λ x. Unit {0}) all (λ x. tt))

  held_apart : (history : List Traced) → IsLegal history → Apart test (held history)
  held_apart =
      by_entries (λ history. IsLegal history → Apart test (held history)) (λ legal. let P : List Held → Type 0 = Apart test in subst P (sym (lasting_none held_kind)) tt)
      (λ history new before legal.
      let P : List Held → Type 0 = Apart test in
      let call = new.entry.call in
      let reply = new.entry.reply in
      let made = held_made history new.entry.pass call reply in
      let fresh = if_accepted (is_accepted reply) made (held history) (one history new.entry.pass call reply) (new_one history new call reply refl refl (legal history new [] refl)) in
      let IsOther : Held → Type 0 = λ x. Each (λ y. test x y ≡ false) (made_by held_kind history new) in
      let stays = λ (h : Held). not (ended_by held_kind history new h) in
      subst P (sym (lasting-append held_kind history new))
      (Apart-cross test (filter stays (held history)) (made_by held_kind history new)
      (Apart-filter test stays (held history) (before (legal_front history (new ∷ []) legal))) fresh.0
      (Each-filter IsOther IsOther stays (held history) (λ x passes other. other) fresh.1)))

pub handlers_apart : (history : List Traced) → IsLegal history → Apart same_handler (held history)
handlers_apart = held_apart same_handler one_apart new_apart

-- where the handler of a context that a pass holds is over, none of the context runs
module _ (pass : PassNo) where
  abbrev its : Held → Bool
  its h = h.pass.0 == pass.0

  pub none_after : (context : ContextId) (hs : List Held) → Apart same_handler hs → option_and_then context_held (find its hs) ≡ Some context →
      list_any (λ (h : Held). is_of_context context (context_held h)) (filter (λ h. not (its h)) hs) ≡ false
  none_after context [] apart found = absurd cc
  none_after context (x ∷ xs) apart found =
      let of_it = λ (h : Held). is_of_context context (context_held h) in
      let Other : Held → Type 0 = λ y. same_handler x y ≡ false in
      elim (its x) as (λ b. option_and_then context_held (cond b (Some x) (find its xs)) ≡ Some context → list_any of_it (cond (not b) (x ∷ filter (λ h. not (its h)) xs) (filter (λ h. not (its h)) xs)) ≡ false) [
        | true ↦ λ found.
            any_none of_it (filter (λ h. not (its h)) xs)
            (Each-filter Other (λ h. of_it h ≡ false) (λ h. not (its h)) xs (λ y passes other. ap (λ o. both_of o (context_held y)) (sym found) ∙ other) apart.0)
        | false ↦ λ found.
            (elim (find its xs) as (λ o. find its xs ≡ o → option_and_then context_held o ≡ Some context → (of_it x || list_any of_it (filter (λ h. not (its h)) xs)) ≡ false) [
              | None ↦ λ none no. absurd cc
              | Some h ↦ λ is handles.
                  (let other : same_handler x h ≡ false = Each-find Other its xs h apart.0 is in
                  let here : of_it x ≡ false = both_of-swap (Some context) (context_held x) ∙ ap (both_of (context_held x)) (sym handles) ∙ other in
                  ap (λ b. b || list_any of_it (filter (λ h. not (its h)) xs)) here ∙ none_after context xs apart.1 (ap (option_and_then context_held) is ∙ handles))
            ] refl found)
      ] found

-- ## A pass holds one task at most

abbrev pub same_pass : Held → Held → Bool
same_pass a b = a.pass.0 == b.pass.0

none_held : (pass : PassNo) (hs : List Held) → holding_refusal (find (λ (h : Held). h.pass.0 == pass.0) hs) ≡ None → Each (λ (h : Held). (h.pass.0 == pass.0) ≡ false) hs
none_held pass [] none = tt
none_held pass (h ∷ hs) none =
    elim (h.pass.0 == pass.0) as (λ b. (h.pass.0 == pass.0) ≡ b → holding_refusal (cond b (Some h) (find (λ (x : Held). x.pass.0 == pass.0) hs)) ≡ None → ((h.pass.0 == pass.0) ≡ false) × Each (λ (x : Held). (x.pass.0 == pass.0) ≡ false) hs) [
      | true ↦ λ own none. absurd cc
      | false ↦ λ other none. (other, none_held pass hs none)
    ] refl none

-- a pass that takes a task holds none
holds_none : (history : List Traced) (new : Traced) (lane : Lane) (task : Task) → new.entry.call ≡ calls.Take lane → new.entry.reply ≡ replies.Task task → MayFollow history new →
    Each (λ (h : Held). (h.pass.0 == new.entry.pass.0) ≡ false) (held history)
holds_none history new lane task is_call is_reply may =
    let pass = new.entry.pass in
    let reply = handed_out (next history lane) in
    let answered : answer history pass (calls.Take lane) ≡ replies.Task task = sym (ap (answer history pass) is_call) ∙ sym may.answered ∙ is_reply in
    let row = not_closed (hub_closed_at history) _ task (not_refused (option_or (spent history) None) _ task answered) in
    none_held pass (held history) (either_first (already_holding history pass) _ (refused_none (take_refusal history pass lane) reply task row))

-- the task that a pass has taken is the one that it holds: its handler is that of the context that the task is of
pub holds_taken : (history : List Traced) (new : Traced) (lane : Lane) (task : Task) → new.entry.call ≡ calls.Take lane → new.entry.reply ≡ replies.Task task → MayFollow history new →
    held_context (history ++ new ∷ []) new.entry.pass ≡ handler_context (mode_of history task) (context_of history task)
holds_taken history new lane task is_call is_reply may =
    let pass = new.entry.pass in
    let ok = is_accepted new.entry.reply in
    let it = taken_by history pass lane task in
    let all : held (history ++ new ∷ []) ≡ held history ++ it ∷ [] =
    lasting_more held_kind history new (λ h. ap (λ call. ok && is_finished pass call h) is_call ∙ and_false ok) ∙ ap (λ made. held history ++ made) (taken history new lane task is_call is_reply) in
    ap (λ hs. option_and_then context_held (find (λ (h : Held). h.pass.0 == pass.0) hs)) all
    ∙ ap (option_and_then context_held) (find_end (λ (h : Held). h.pass.0 == pass.0) (held history) it (holds_none history new lane task is_call is_reply may) (eq-eqb pass.0 pass.0 refl))

other_pass : (history : List Traced) (new : Traced) (call : Call) (reply : Reply) → new.entry.call ≡ call → new.entry.reply ≡ reply → MayFollow history new →
    Each (λ x. Each (λ y. same_pass x y ≡ false) (held_made history new.entry.pass call reply)) (held history)
other_pass history new (calls.Take lane) (replies.Task task) is_call is_reply may =
    weaken (λ (h : Held). (h.pass.0 == new.entry.pass.0) ≡ false) (λ (h : Held). ((h.pass.0 == new.entry.pass.0) ≡ false) × Unit {0}) (held history) (λ h other. (other, tt))
    (holds_none history new lane task is_call is_reply may)
other_pass history new (calls.Take lane) _ is_call is_reply may = Each-any (λ x. Unit {0}) (held history) (λ x. tt)
other_pass history new _ reply is_call is_reply may = Each-any (λ x. Unit {0}) (held history) (λ x. tt)

pub passes_apart : (history : List Traced) → IsLegal history → Apart same_pass (held history)
passes_apart = held_apart same_pass one_pass other_pass
  where
    one_pass : (history : List Traced) (pass : PassNo) (call : Call) (reply : Reply) → Apart same_pass (held_made history pass call reply)
    one_pass history pass (calls.Take lane) (replies.Task task) = (tt, tt)
    one_pass history pass (calls.Take lane) _ = tt
    one_pass history pass _ reply = tt

module _ (pass : PassNo) where
  abbrev of_pass : Held → Bool
  of_pass h = h.pass.0 == pass.0

  others_pass : (x y : Held) → of_pass x ≡ true → same_pass x y ≡ false → not (of_pass y) ≡ true
  others_pass x y own other =
      let same : x.pass.0 ≡ pass.0 = grind (arith, nat_tests) in
      ap not (same_number y.pass.0 pass.0 ∙ ap (λ n. n == y.pass.0) (sym same) ∙ other)

  -- what the pass holds goes: of other contexts the same handlers are held
  pub others_run : (context : ContextId) (hs : List Held) → Apart same_pass hs → is_of_context context (option_and_then context_held (find of_pass hs)) ≡ false →
      list_any (λ (h : Held). is_of_context context (context_held h)) (filter (λ h. not (of_pass h)) hs) ≡ list_any (λ (h : Held). is_of_context context (context_held h)) hs
  others_run context [] apart other = refl
  others_run context (x ∷ xs) apart other =
      let of_it = λ (h : Held). is_of_context context (context_held h) in
      let rest = filter (λ h. not (of_pass h)) xs in
      elim (of_pass x) as (λ b. of_pass x ≡ b → is_of_context context (option_and_then context_held (cond b (Some x) (find of_pass xs))) ≡ false → list_any of_it (cond (not b) (x ∷ rest) rest) ≡ (of_it x || list_any of_it xs)) [
        | true ↦ λ own other.
            ap (list_any of_it) (filter_every (λ h. not (of_pass h)) xs (weaken (λ y. same_pass x y ≡ false) (λ y. not (of_pass y) ≡ true) xs (λ y differs. others_pass x y own differs) apart.0))
            ∙ ap (λ b. b || list_any of_it xs) (sym other)
        | false ↦ λ stays other. ap (λ b. of_it x || b) (others_run context xs apart.1 other)
      ] refl other
