-- Which verticles passes hold, as a history goes on: a Take hands one out, a Finish takes it back, and no other entry changes that.
use Rattle.std.proofs.Common.{◌≡◌, ℕ, ◌<◌, List, [], ◌∷◌, ◌++◌, length, refl, ap, sym, ◌∙◌, subst, arith}
use Rattle.std.specs.Prelude.{ℤ, Bool, true, false, not, cond, ◌&&◌, ◌||◌, ◌==◌, filter, find, slice_get, is_some, Option, None, Some}
use Rattle.std.specs.Option.{option_and_then, option_to_list}
use Rattle.std.proofs.lemmas.Bool.Decides.{nat_tests}
use Rattle.std.proofs.lemmas.List.{append-nil}
use Rattle.std.proofs.lemmas.List.Elements.{filter_agree}
use Rattle.vx_data.specs.declared.ids.ContextId.{ContextId}
use Rattle.vx_data.specs.declared.ids.PassNo.{PassNo}
use Rattle.vx_message.specs.declared.Context.{Context}
use Rattle.vx_message.specs.declared.Held.{Held}
use Rattle.vx_message.specs.declared.Lane.{Lane}
use Rattle.vx_call.specs.declared.call.Call.{Call}
use Rattle.vx_call.specs.declared.call.Call.TheVariants as calls
use Rattle.vx_call.specs.declared.call.End.{End}
use Rattle.vx_call.specs.declared.reply.Reply.{Reply}
use Rattle.vx_call.specs.declared.reply.Reply.TheVariants as replies
use Rattle.vx_call.specs.declared.reply.Task.{Task}
use Rattle.vx_call.specs.declared.history.Traced.{Traced}
use Rattle.vx_call.specs.History.{is_accepted, made_by, ended_by, lasting}
use Rattle.vx_call.specs.Contexts.{context_at, context_kind, contexts, is_context_of, is_verticle}
use Rattle.vx_call.specs.Deployments.{deployment_of, deployment_of_held}
use Rattle.vx_call.specs.Given.{context_of, mode_of}
use Rattle.vx_call.specs.Held.{held, held_kind, held_made, held_context, context_held, is_of_context, is_finished}
use Rattle.vx_call.specs.Kinds.{kind_of}
use Rattle.vx_call.specs.Machine.{IsLegal, MayFollow, answer}
use Rattle.vx_call.specs.Names.{next_entry}
use Rattle.vx_call.specs.States.{state_made, states_ended, state_kind, state_at}
use Rattle.vx_call.proofs.Apart.{Apart, Apart-parts}
use Rattle.vx_call.proofs.Contexts.{context_key, context_at_earlier, contexts-append, new_contexts_apart, same_context-true, same_entry}
use Rattle.vx_call.proofs.Each.{Each, Each-filter, Each-find, every, not_true, weaken}
use Rattle.vx_call.proofs.Filters.{filter_no}
use Rattle.vx_call.proofs.Found.{find_none, later_name}
use Rattle.vx_call.proofs.Lasting.{and_false, lasting-append, lasting_more, lasting_same}
use Rattle.vx_call.proofs.Legal.{legal_front}
use Rattle.vx_laws.proofs.Running.{handler_is, held_of_made, holds_taken, open_is_there, passes_apart, same_pass, taken_open}
use Rattle.vx_instances.specs.Instances.{gave, gives, handler_in, verticle_state}
use Rattle.vx_instances.proofs.Handing.{gave_taken}
use Rattle.vx_instances.proofs.Rows.{refused_same}
use Rattle.vx_script.specs.Playing.{state_held}

-- ## Lists

find_past : {X : Type 0} (p : X → Bool) (xs ys : List X) → Each (λ y. p y ≡ false) ys → find p (xs ++ ys) ≡ find p xs
find_past p [] ys none = find_none p ys none
find_past p (x ∷ xs) ys none = ap (λ o. cond (p x) (Some x) o) (find_past p xs ys none)

find_ended : {X : Type 0} (p : X → Bool) (xs : List X) → find p (filter (λ x. not (p x)) xs) ≡ None
find_ended {X} p xs =
    let Any : X → Type 0 = λ x. Unit {0} in
    find_none p (filter (λ x. not (p x)) xs) (Each-filter Any (λ x. p x ≡ false) (λ x. not (p x)) xs (λ x passes any. not_true (p x) passes) (every Any (λ x. tt) xs))

not_both : (a b : Bool) → (a ≡ true → b ≡ false) → b ≡ true → a ≡ false
not_both true b h is = (let e : false ≡ true = sym (h refl) ∙ is in absurd cc)
not_both false b h is = refl

find_left : {X : Type 0} (p q : X → Bool) → ((x : X) → p x ≡ true → q x ≡ false) → (xs : List X) → find p (filter (λ x. not (q x)) xs) ≡ find p xs
find_left p q apart [] = refl
find_left p q apart (x ∷ xs) =
    let rest = filter (λ x. not (q x)) xs in
    elim (q x) as (λ b. q x ≡ b → find p (cond (not b) (x ∷ rest) rest) ≡ cond (p x) (Some x) (find p xs)) [
      | true ↦ λ gone. find_left p q apart xs ∙ sym (ap (λ b. cond b (Some x) (find p xs)) (not_both (p x) (q x) (apart x) gone))
      | false ↦ λ stays. ap (λ o. cond (p x) (Some x) o) (find_left p q apart xs)
    ] refl

find_listed : {X : Type 0} (o : Option X) → find (λ x. true) (option_to_list o) ≡ o
find_listed None = refl
find_listed (Some x) = refl

if_none : {X : Type 0} (b : Bool) (xs : List X) → xs ≡ [] → cond b xs [] ≡ []
if_none true xs none = none
if_none false xs none = refl

-- ## What a call does to what is held

-- a Take that hands out a task
abbrev pub hands_out : Call → Reply → Bool
hands_out (calls.Take lane) (replies.Task task) = true
hands_out _ _ = false

-- a Finish that is not refused
abbrev pub ends_task : Call → Reply → Bool
ends_task (calls.Finish end) reply = is_accepted reply
ends_task _ reply = false

abbrev of_pass : PassNo → Held → Bool
of_pass pass h = h.pass.0 == pass.0

other_pass : (n m k : ℕ) → (n == m) ≡ true → (k == m) ≡ false → (n == k) ≡ false
other_pass n m k is other = grind (arith, nat_tests)

pub same_number_as : (n m : ℕ) → (n == m) ≡ true → n ≡ m
same_number_as n m is = grind (arith, nat_tests)

-- the verticle of a context whose handler task a pass took has a state that a Finish gives back as it is
abbrev pub GivesBack : List Traced → Traced → Type 0
GivesBack history new = (end : End) → new.entry.call ≡ calls.Finish end → new.states ≡ option_to_list (state_held history new.entry.pass)

-- A pass holds a verticle exactly where one was handed out to it.
abbrev pub AllGiven : List Traced → Type 0
AllGiven history = (pass : PassNo) → is_some (state_held history pass) ≡ gave history pass

module _ (history : List Traced) (new : Traced) (legal : IsLegal (history ++ new ∷ [])) (back : GivesBack history new) where
  abbrev after : List Traced
  after = history ++ new ∷ []

  front : IsLegal history
  front = legal_front history (new ∷ []) legal

  may : MayFollow history new
  may = legal history new [] refl

  -- ## Contexts that were there

  not_new : (id : ContextId) (c : Context) → id.entry.0 < length history → context_key c ≡ length history → is_context_of id c ≡ false
  not_new id c early late =
      elim (is_context_of id c) as (λ b. is_context_of id c ≡ b → b ≡ false) [
        | true ↦ λ same. (let e = same_entry id c.id same in absurd (omega arith))
        | false ↦ λ differs. refl
      ] refl

  context_stays : (id : ContextId) → id.entry.0 < length history → context_at after id ≡ context_at history id
  context_stays id early =
      let made = made_by context_kind history new in
      ap (find (is_context_of id)) (contexts-append history new)
      ∙ find_past (is_context_of id) (contexts history) made
      (weaken (λ (c : Context). context_key c ≡ length history) (λ (c : Context). is_context_of id c ≡ false) made (λ c late. not_new id c early late) (new_contexts_apart history new).keyed)

  -- ## States that were there

  state_left : (id : ContextId) (call : Call) → new.entry.call ≡ call → state_made id history new call ≡ [] → states_ended id history new.entry.pass call ≡ false → state_at after id ≡ state_at history id
  state_left id call is_call none kept =
      let ok = is_accepted new.entry.reply in
      ap (find (λ state. true))
      (lasting_same (state_kind id) history new (if_none ok _ (ap (state_made id history new) is_call ∙ none)) (λ state. ap (λ b. ok && b) (ap (states_ended id history new.entry.pass) is_call ∙ kept) ∙ and_false ok))

  -- the Finish of a handler of the context gives its state back
  state_back : (id other : ContextId) (end : End) → new.entry.call ≡ calls.Finish end → is_accepted new.entry.reply ≡ true → is_verticle (context_at history id) ≡ true → held_context history new.entry.pass ≡ Some other → is_of_context id (Some other) ≡ true →
      state_at after id ≡ state_at history id
  state_back id other end is_call ok verticle is its =
      let pass = new.entry.pass in
      let old = lasting (state_kind id) history in
      let same : held_context history pass ≡ Some id = is ∙ ap Some (sym (same_context-true id other its)) in
      let here : is_of_context id (held_context history pass) ≡ true = ap (is_of_context id) is ∙ its in
      let made : made_by (state_kind id) history new ≡ new.states =
      ap (λ b. cond b (state_made id history new new.entry.call) []) ok ∙ ap (state_made id history new) is_call ∙ ap (λ b. cond b new.states []) here in
      let ended : (state : List ℤ) → ended_by (state_kind id) history new state ≡ true =
      λ state. ap (λ b. b && states_ended id history pass new.entry.call) ok ∙ ap (states_ended id history pass) is_call ∙ here in
      let gone : filter (λ state. not (ended_by (state_kind id) history new state)) old ≡ [] = filter_no (λ state. not (ended_by (state_kind id) history new state)) old (every (λ state. not (ended_by (state_kind id) history new state) ≡ false) (λ state. ap not (ended state)) old) in
      let state : state_held history pass ≡ state_at history id = ap (verticle_state history) same ∙ ap (λ b. cond b (state_at history id) None) verticle in
      ap (find (λ state. true)) (lasting-append (state_kind id) history new ∙ ap (λ ss. ss ++ made_by (state_kind id) history new) gone ∙ made ∙ back end is_call ∙ ap option_to_list state)
      ∙ find_listed (state_at history id)

  finish_state : (id : ContextId) (end : End) → new.entry.call ≡ calls.Finish end → is_verticle (context_at history id) ≡ true → (o : Option ContextId) → held_context history new.entry.pass ≡ o → state_at after id ≡ state_at history id
  finish_state id end is_call verticle None is = state_left id (calls.Finish end) is_call (ap (λ o. cond (is_of_context id o) new.states []) is) (ap (is_of_context id) is)
  finish_state id end is_call verticle (Some other) is =
      elim (is_of_context id (Some other)) as (λ b. is_of_context id (Some other) ≡ b → state_at after id ≡ state_at history id) [
        | true ↦ λ its.
            (elim (is_accepted new.entry.reply) as (λ b. is_accepted new.entry.reply ≡ b → state_at after id ≡ state_at history id) [
              | true ↦ λ ok. state_back id other end is_call ok verticle is its
              | false ↦ λ refused. ap (find (λ state. true)) (refused_same (state_kind id) history new refused)
            ] refl)
        | false ↦ λ others.
            (let no : is_of_context id (held_context history new.entry.pass) ≡ false = ap (is_of_context id) is ∙ others in
            state_left id (calls.Finish end) is_call (ap (λ b. cond b new.states []) no) no)
      ] refl

  state_stays : (id : ContextId) → id.entry.0 < length history → is_verticle (context_at history id) ≡ true → (call : Call) → new.entry.call ≡ call → state_at after id ≡ state_at history id
  state_stays id early verticle (calls.Deploy worker pool tell count) is_call =
      state_left id (calls.Deploy worker pool tell count) is_call (ap (λ b. cond b (option_to_list (slice_get new.states id.instance)) []) (later_name (length history) id.entry.0 early)) refl
  state_stays id early verticle (calls.Finish end) is_call = finish_state id end is_call verticle (held_context history new.entry.pass) refl
  state_stays id early verticle call is_call = state_left id call is_call refl refl

  verticle_stays : (id : ContextId) → id.entry.0 < length history → verticle_state after (Some id) ≡ verticle_state history (Some id)
  verticle_stays id early =
      ap (λ o. cond (is_verticle o) (state_at after id) None) (context_stays id early)
      ∙ elim (is_verticle (context_at history id)) as (λ b. is_verticle (context_at history id) ≡ b → cond b (state_at after id) None ≡ cond b (state_at history id) None) [
        | true ↦ λ verticle. state_stays id early verticle new.entry.call refl
        | false ↦ λ outside. refl
      ] refl

  deployment_stays : (id : ContextId) → id.entry.0 < length history → deployment_of_held after (Some id) ≡ deployment_of_held history (Some id)
  deployment_stays id early = ap (λ o. cond (is_verticle o) (Some (deployment_of id)) None) (context_stays id early)

  -- ## What a pass holds

  held_early : (pass : PassNo) (id : ContextId) (o : Option Held) → find (of_pass pass) (held history) ≡ o → option_and_then context_held o ≡ Some id → id.entry.0 < length history
  held_early pass id None found is = absurd cc
  held_early pass id (Some h) found is =
      Each-find (λ (h : Held). (context : ContextId) → h.context ≡ Some context → context.entry.0 < length history) (of_pass pass) (held history) h (held_of_made history front) found id (handler_is h.mode h.context id is)

  -- what holds of each context that was there holds of the one whose handler a pass holds
  of_held : (P : Option ContextId → Type 0) → P None → ((id : ContextId) → id.entry.0 < length history → P (Some id)) → (pass : PassNo) → P (held_context history pass)
  of_held P none each pass = by_context (held_context history pass) refl
    where
      by_context : (o : Option ContextId) → held_context history pass ≡ o → P o
      by_context None is = none
      by_context (Some id) is = each id (held_early pass id (find (of_pass pass) (held history)) refl is)

  state_same : (pass : PassNo) → verticle_state after (held_context history pass) ≡ verticle_state history (held_context history pass)
  state_same pass = of_held (λ o. verticle_state after o ≡ verticle_state history o) refl verticle_stays pass

  deployment_same : (pass : PassNo) → deployment_of_held after (held_context history pass) ≡ deployment_of_held history (held_context history pass)
  deployment_same pass = of_held (λ o. deployment_of_held after o ≡ deployment_of_held history o) refl deployment_stays pass

  -- Of a pass that goes on to hold what it held, the state is as before.
  pub stays : (pass : PassNo) → held_context after pass ≡ held_context history pass → state_held after pass ≡ state_held history pass
  stays pass same = ap (verticle_state after) same ∙ state_same pass

  stays_given : (pass : PassNo) → held_context after pass ≡ held_context history pass → is_some (state_held history pass) ≡ gave history pass → is_some (state_held after pass) ≡ gave after pass
  stays_given pass same given = ap is_some (stays pass same) ∙ given ∙ sym (ap is_some (ap (deployment_of_held after) same ∙ deployment_same pass))

  -- ## Entries that change nothing of it

  same_held : (pass : PassNo) → held after ≡ held history → held_context after pass ≡ held_context history pass
  same_held pass same = ap (λ hs. option_and_then context_held (find (of_pass pass) hs)) same

  leaves : (call : Call) (reply : Reply) → new.entry.call ≡ call → new.entry.reply ≡ reply → held_made history new.entry.pass call reply ≡ [] → ((h : Held) → is_accepted reply && is_finished new.entry.pass call h ≡ false) → held after ≡ held history
  leaves call reply is_call is_reply none kept =
      lasting_same held_kind history new
      (if_none (is_accepted new.entry.reply) _ (ap (λ call. held_made history new.entry.pass call new.entry.reply) is_call ∙ ap (held_made history new.entry.pass call) is_reply ∙ none))
      (λ h. ap (λ reply. is_accepted reply && is_finished new.entry.pass new.entry.call h) is_reply ∙ ap (λ call. is_accepted reply && is_finished new.entry.pass call h) is_call ∙ kept h)

  leaves_all : (call : Call) (reply : Reply) → new.entry.call ≡ call → new.entry.reply ≡ reply → hands_out call reply ≡ false → ends_task call reply ≡ false → held after ≡ held history
  leaves_all (calls.Take lane) (replies.Task task) is_call is_reply none kept = absurd cc
  leaves_all (calls.Take lane) reply is_call is_reply none kept = leaves (calls.Take lane) reply is_call is_reply refl (λ h. and_false (is_accepted reply))
  leaves_all (calls.Finish end) reply is_call is_reply none kept = leaves (calls.Finish end) reply is_call is_reply refl (λ h. ap (λ b. b && is_finished new.entry.pass (calls.Finish end) h) kept)
  leaves_all call reply is_call is_reply none kept = leaves call reply is_call is_reply refl (λ h. and_false (is_accepted reply))

  -- ## A Take that hands out a task

  module _ (lane : Lane) (task : Task) (is_call : new.entry.call ≡ calls.Take lane) (is_reply : new.entry.reply ≡ replies.Task task) where
    abbrev taken : Held
    taken = record { pass = new.entry.pass; at = next_entry history; lane = lane; context = context_of history task; mode = mode_of history task; kind = kind_of task }

    take_held : held after ≡ held history ++ taken ∷ []
    take_held =
        let pass = new.entry.pass in
        let ok = is_accepted new.entry.reply in
        let made : made_by held_kind history new ≡ taken ∷ [] =
        ap (λ reply. cond (is_accepted reply) (held_made history pass new.entry.call reply) []) is_reply ∙ ap (λ call. held_made history pass call (replies.Task task)) is_call in
        lasting_more held_kind history new (λ h. ap (λ call. ok && is_finished pass call h) is_call ∙ and_false ok) ∙ ap (λ hs. held history ++ hs) made

    take_others : (pass : PassNo) → (new.entry.pass.0 == pass.0) ≡ false → held_context after pass ≡ held_context history pass
    take_others pass other = ap (λ hs. option_and_then context_held (find (of_pass pass) hs)) take_held ∙ ap (option_and_then context_held) (find_past (of_pass pass) (held history) (taken ∷ []) (other, tt))

    -- a pass that holds a task takes none
    pub take_free : state_held history new.entry.pass ≡ None
    take_free =
        let apart : Apart same_pass (held history ++ taken ∷ []) = subst (Apart same_pass) take_held (passes_apart after legal) in
        let others = Apart-parts same_pass (held history) (taken ∷ []) apart in
        let none = find_none (of_pass new.entry.pass) (held history)
        (weaken (λ (h : Held). ((h.pass.0 == new.entry.pass.0) ≡ false) × Unit {0}) (λ (h : Held). of_pass new.entry.pass h ≡ false) (held history) (λ h differs. differs.0) others) in
        ap (λ o. verticle_state history (option_and_then context_held o)) none

    handler_early : (id : ContextId) → handler_in history (replies.Task task) ≡ Some id → id.entry.0 < length history
    handler_early id is =
        let answered : replies.Task task ≡ answer history new.entry.pass (calls.Take lane) = sym is_reply ∙ may.answered ∙ ap (answer history new.entry.pass) is_call in
        let got = taken_open history new.entry.pass lane task front answered in
        let there = open_is_there history got.context got.here in
        let early : got.context.entry.0 < length history = context_at_earlier history got.context there.0 there.1 in
        let both : Some got.context ≡ Some id = sym got.owned ∙ handler_is (mode_of history task) (context_of history task) id is in
        let same : got.context ≡ id = cc in
        let number = ap (λ (c : ContextId). c.entry.0) same in
        omega arith

    handler_state : (o : Option ContextId) → handler_in history (replies.Task task) ≡ o → verticle_state after o ≡ verticle_state history o
    handler_state None is = refl
    handler_state (Some id) is = verticle_stays id (handler_early id is)

    -- what a pass holds then is the verticle that the Take hands out
    pub take_its : state_held after new.entry.pass ≡ gives history (calls.Take lane) (replies.Task task)
    take_its = ap (verticle_state after) (holds_taken history new lane task is_call is_reply may) ∙ handler_state (handler_in history (replies.Task task)) refl

    take_given : is_some (state_held after new.entry.pass) ≡ gave after new.entry.pass
    take_given = ap is_some take_its ∙ gave_taken history front new lane task may is_call is_reply

  -- ## A Finish

  module _ (end : End) (is_call : new.entry.call ≡ calls.Finish end) (ok : is_accepted new.entry.reply ≡ true) where
    finish_held : held after ≡ filter (λ h. not (of_pass new.entry.pass h)) (held history)
    finish_held =
        let pass = new.entry.pass in
        let made : made_by held_kind history new ≡ [] = if_none (is_accepted new.entry.reply) _ (ap (λ call. held_made history pass call new.entry.reply) is_call) in
        let ended : (h : Held) → not (ended_by held_kind history new h) ≡ not (of_pass pass h) = λ h. ap (λ b. not (b && is_finished pass new.entry.call h)) ok ∙ ap (λ call. not (is_finished pass call h)) is_call in
        lasting-append held_kind history new
        ∙ ap (λ hs. filter (λ h. not (ended_by held_kind history new h)) (held history) ++ hs) made
        ∙ append-nil _
        ∙ filter_agree (λ h. not (ended_by held_kind history new h)) (λ h. not (of_pass pass h)) ended (held history)

    pub finish_its : held_context after new.entry.pass ≡ None
    finish_its = ap (λ hs. option_and_then context_held (find (of_pass new.entry.pass) hs)) finish_held ∙ ap (option_and_then context_held) (find_ended (of_pass new.entry.pass) (held history))

    finish_others : (pass : PassNo) → (new.entry.pass.0 == pass.0) ≡ false → held_context after pass ≡ held_context history pass
    finish_others pass other =
        ap (λ hs. option_and_then context_held (find (of_pass pass) hs)) finish_held
        ∙ ap (option_and_then context_held) (find_left (of_pass pass) (of_pass new.entry.pass) (λ h is. other_pass h.pass.0 pass.0 new.entry.pass.0 is other) (held history))

  -- ## All entries

  abbrev pub moves_its : Call → Reply → PassNo → Bool
  moves_its call reply pass = (hands_out call reply || ends_task call reply) && (new.entry.pass.0 == pass.0)

  pub still_by : (call : Call) (reply : Reply) → new.entry.call ≡ call → new.entry.reply ≡ reply → (pass : PassNo) → moves_its call reply pass ≡ false → held_context after pass ≡ held_context history pass
  still_by (calls.Take lane) (replies.Task task) is_call is_reply pass none = take_others lane task is_call is_reply pass none
  still_by (calls.Take lane) reply is_call is_reply pass none = same_held pass (leaves_all (calls.Take lane) reply is_call is_reply refl refl)
  still_by (calls.Finish end) reply is_call is_reply pass none =
      elim (is_accepted reply) as (λ b. is_accepted reply ≡ b → (b && (new.entry.pass.0 == pass.0)) ≡ false → held_context after pass ≡ held_context history pass) [
        | true ↦ λ ok other. finish_others end is_call (ap is_accepted is_reply ∙ ok) pass other
        | false ↦ λ refused other. same_held pass (leaves_all (calls.Finish end) reply is_call is_reply refl refused)
      ] refl none
  still_by call reply is_call is_reply pass none = same_held pass (leaves_all call reply is_call is_reply refl refl)

  pub the_pass : (pass : PassNo) → (new.entry.pass.0 == pass.0) ≡ true → new.entry.pass ≡ pass
  the_pass pass its = (let named : ℕ → PassNo = λ n. record { 0 = n } in ap named (same_number_as new.entry.pass.0 pass.0 its))

  given_by : (call : Call) (reply : Reply) → new.entry.call ≡ call → new.entry.reply ≡ reply → (pass : PassNo) → moves_its call reply pass ≡ true → is_some (state_held after pass) ≡ gave after pass
  given_by (calls.Take lane) (replies.Task task) is_call is_reply pass its =
      subst (λ (p : PassNo). is_some (state_held after p) ≡ gave after p) (the_pass pass its) (take_given lane task is_call is_reply)
  given_by (calls.Take lane) reply is_call is_reply pass its = absurd cc
  given_by (calls.Finish end) reply is_call is_reply pass its =
      elim (is_accepted reply) as (λ b. is_accepted reply ≡ b → (b && (new.entry.pass.0 == pass.0)) ≡ true → is_some (state_held after pass) ≡ gave after pass) [
        | true ↦ λ ok its.
            (let none = finish_its end is_call (ap is_accepted is_reply ∙ ok) in
            subst (λ (p : PassNo). is_some (state_held after p) ≡ gave after p) (the_pass pass its)
            (ap (λ o. is_some (verticle_state after o)) none ∙ sym (ap (λ o. is_some (deployment_of_held after o)) none)))
        | false ↦ λ refused its. absurd cc
      ] refl its
  given_by call reply is_call is_reply pass its = absurd cc

  pub all_given : AllGiven history → AllGiven after
  all_given given pass =
      elim (moves_its new.entry.call new.entry.reply pass) as (λ b. moves_its new.entry.call new.entry.reply pass ≡ b → is_some (state_held after pass) ≡ gave after pass) [
        | true ↦ λ its. given_by new.entry.call new.entry.reply refl refl pass its
        | false ↦ λ none. stays_given pass (still_by new.entry.call new.entry.reply refl refl pass none) (given pass)
      ] refl
