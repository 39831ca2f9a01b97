-- What each entry does to the verticles that are kept.
use Rattle.std.proofs.Common.{◌≡◌, List, [], ◌∷◌, ◌++◌, refl, ap, sym, ◌∙◌}
use Rattle.std.specs.Prelude.{Bool, true, false, not, cond, ◌&&◌, ◌||◌, ◌==◌, ℤ, filter, find, map, Option, None, Some}
use Rattle.std.specs.List.{list_any}
use Rattle.std.proofs.lemmas.List.{append-nil}
use Rattle.std.proofs.lemmas.List.Elements.{filter-append, filter_agree}
use Rattle.std.proofs.lemmas.List.Folds.{list_any-append}
use Rattle.vx_data.specs.declared.ids.ContextId.{ContextId}
use Rattle.vx_data.specs.declared.ids.PassNo.{PassNo}
use Rattle.vx_data.specs.Ids.{same_context}
use Rattle.vx_message.specs.declared.Context.{Context}
use Rattle.vx_message.specs.declared.Held.{Held}
use Rattle.vx_message.specs.declared.Lane.{Lane}
use Rattle.vx_call.specs.declared.call.Call.{Call}
use Rattle.vx_call.specs.declared.call.Call.TheVariants as calls
use Rattle.vx_call.specs.declared.call.End.{End}
use Rattle.vx_call.specs.declared.reply.Reply.{Reply}
use Rattle.vx_call.specs.declared.reply.Reply.TheVariants as replies
use Rattle.vx_call.specs.declared.reply.Task.{Task}
use Rattle.vx_call.specs.declared.history.Mark.{Mark}
use Rattle.vx_call.specs.declared.history.Traced.{Traced}
use Rattle.vx_call.specs.History.{Kind, entry_of, is_accepted, made_by, ended_by, lasting}
use Rattle.vx_call.specs.Closings.{closing_by, closes, open_context_kind, open_contexts}
use Rattle.vx_call.specs.Contexts.{context_made}
use Rattle.vx_call.specs.Given.{context_of, mode_of}
use Rattle.vx_call.specs.Held.{held_made, held_kind, held, is_finished, is_of_context, context_held, held_context, runs}
use Rattle.vx_call.specs.Kinds.{kind_of}
use Rattle.vx_call.specs.Machine.{IsLegal}
use Rattle.vx_call.specs.Names.{next_entry}
use Rattle.vx_call.specs.States.{state_made, states_ended, state_kind, state_at}
use Rattle.vx_call.proofs.Lasting.{lasting_none, lasting-append, lasting_same, lasting_more, and_false}
use Rattle.vx_call.proofs.Apart.{Apart, Apart-filter}
use Rattle.vx_call.proofs.Contexts.{same_by_id, same_context-swap, same_context-true}
use Rattle.vx_call.proofs.Filters.{filter_swap}
use Rattle.vx_laws.proofs.Running.{open_apart, handlers_apart, passes_apart, none_after, others_run}
use Rattle.vx_instances.specs.Kept.{Kept, put_if, without_any}
use Rattle.vx_instances.specs.Instances.{kept_of, is_of_verticle, instances, handler_in}
use Rattle.vx_instances.proofs.Maps.{map_each, each_any, put_map, without_map}

-- ## Entries that leave what runs, and each state

-- the calls that don't
abbrev pub moves_verticles : Call → Bool
moves_verticles (calls.Deploy worker pool tell count) = true
moves_verticles (calls.Take lane) = true
moves_verticles (calls.Finish end) = true
moves_verticles _ = false

none_held : (history : List Traced) (pass : PassNo) (call : Call) (reply : Reply) → moves_verticles call ≡ false → held_made history pass call reply ≡ []
none_held history pass (calls.Take lane) reply h = absurd cc
none_held history pass _ reply h = refl

none_finished : (pass : PassNo) (call : Call) (h : Held) → moves_verticles call ≡ false → is_finished pass call h ≡ false
none_finished pass (calls.Finish end) h still = absurd cc
none_finished pass _ h still = refl

none_stated : (id : ContextId) (history : List Traced) (new : Traced) (call : Call) → moves_verticles call ≡ false → state_made id history new call ≡ []
none_stated id history new (calls.Deploy worker pool tell count) still = absurd cc
none_stated id history new (calls.Finish end) still = absurd cc
none_stated id history new _ still = refl

none_restated : (id : ContextId) (history : List Traced) (pass : PassNo) (call : Call) → moves_verticles call ≡ false → states_ended id history pass call ≡ false
none_restated id history pass (calls.Finish end) still = absurd cc
none_restated id history pass _ still = refl

if_none : {A : Type 0} (b : Bool) (xs : List A) → xs ≡ [] → cond b xs [] ≡ []
if_none true xs none = none
if_none false xs none = refl

pub record Leaves (history : List Traced) (new : Traced) : Type 0 where
  pub held : held (history ++ new ∷ []) ≡ held history
  pub states : (id : ContextId) → state_at (history ++ new ∷ []) id ≡ state_at history id

leaves_call : (history : List Traced) (new : Traced) → moves_verticles new.entry.call ≡ false → Leaves history new
leaves_call history new still =
    let pass = new.entry.pass in
    let call = new.entry.call in
    let ok = is_accepted new.entry.reply in
    record {
      held = lasting_same held_kind history new (if_none ok _ (none_held history pass call new.entry.reply still)) (λ h. ap (λ b. ok && b) (none_finished pass call h still) ∙ and_false ok);
      states = λ id. ap (find (λ state. true)) (lasting_same (state_kind id) history new (if_none ok _ (none_stated id history new call still)) (λ state. ap (λ b. ok && b) (none_restated id history pass call still) ∙ and_false ok));
    }

pub refused_same : {A : Type 0} (kind : Kind A) (history : List Traced) (new : Traced) → is_accepted new.entry.reply ≡ false → lasting kind (history ++ new ∷ []) ≡ lasting kind history
refused_same kind history new refused = lasting_same kind history new (ap (λ b. cond b (kind.made history new) []) refused) (λ x. ap (λ b. b && kind.ended history new x) refused)

leaves_refused : (history : List Traced) (new : Traced) → is_accepted new.entry.reply ≡ false → Leaves history new
leaves_refused history new refused = record {
  held = refused_same held_kind history new refused;
  states = λ id. ap (find (λ state. true)) (refused_same (state_kind id) history new refused);
}

abbrev kept_with : Context → List Held → Option (List ℤ) → Kept
kept_with c hs state = record { context = c.id; state = cond (list_any (λ (h : Held). is_of_context c.id (context_held h)) hs) None state }

kept_left : (history : List Traced) (new : Traced) → Leaves history new → (c : Context) → kept_of (history ++ new ∷ []) c ≡ kept_of history c
kept_left history new leaves c = ap (λ hs. kept_with c hs (state_at (history ++ new ∷ []) c.id)) leaves.held ∙ ap (kept_with c (held history)) (leaves.states c.id)

all_left : (history : List Traced) (new : Traced) → Leaves history new → (cs : List Context) → map (kept_of (history ++ new ∷ [])) cs ≡ map (kept_of history) cs
all_left history new leaves cs = map_each (kept_of (history ++ new ∷ [])) (kept_of history) cs (each_any _ cs (kept_left history new leaves))

-- ## Contexts that are made, and that close

-- the contexts of verticles that are open
abbrev pub verticles : List Traced → List Context
verticles history = filter is_of_verticle (open_contexts history)

pub verticles_apart : (history : List Traced) → Apart same_by_id (verticles history)
verticles_apart history = Apart-filter same_by_id is_of_verticle (open_contexts history) (open_apart history)

verticles_next : (history : List Traced) (new : Traced) →
    verticles (history ++ new ∷ []) ≡ filter (λ c. not (ended_by open_context_kind history new c)) (verticles history) ++ filter is_of_verticle (made_by open_context_kind history new)
verticles_next history new =
    let stays = λ (c : Context). not (ended_by open_context_kind history new c) in
    ap (filter is_of_verticle) (lasting-append open_context_kind history new)
    ∙ filter-append is_of_verticle (filter stays (open_contexts history)) (made_by open_context_kind history new)
    ∙ ap (λ cs. cs ++ filter is_of_verticle (made_by open_context_kind history new)) (filter_swap is_of_verticle stays (open_contexts history))

abbrev pub deploys : Call → Bool
deploys (calls.Deploy worker pool tell count) = true
deploys _ = false

abbrev pub closes_all : Call → Bool
closes_all calls.Close = true
closes_all _ = false

no_verticle : (history : List Traced) (pass : PassNo) (call : Call) → deploys call ≡ false → filter is_of_verticle (context_made history pass call) ≡ []
no_verticle history pass calls.NewContext other = refl
no_verticle history pass (calls.Deploy worker pool tell count) other = absurd cc
no_verticle history pass _ other = refl

closes_one : (history : List Traced) (pass : PassNo) (call : Call) (id : ContextId) → closes_all call ≡ false → closes history pass call id ≡ is_of_context id (closing_by history pass call)
closes_one history pass calls.Close id other = absurd cc
closes_one history pass _ id other = refl

-- an accepted entry that deploys nothing, and does not close the hub, closes one context at most
verticles_left : (history : List Traced) (new : Traced) → is_accepted new.entry.reply ≡ true → deploys new.entry.call ≡ false → closes_all new.entry.call ≡ false →
    verticles (history ++ new ∷ []) ≡ filter (λ (c : Context). not (is_of_context c.id (closing_by history new.entry.pass new.entry.call))) (verticles history)
verticles_left history new ok no_deploy no_close =
    let pass = new.entry.pass in
    let call = new.entry.call in
    verticles_next history new
    ∙ ap (λ b. filter (λ (c : Context). not (b && closes history pass call c.id)) (verticles history) ++ filter is_of_verticle (cond b (context_made history pass call) [])) ok
    ∙ ap (λ cs. filter (λ (c : Context). not (closes history pass call c.id)) (verticles history) ++ cs) (no_verticle history pass call no_deploy)
    ∙ append-nil _
    ∙ filter_agree (λ (c : Context). not (closes history pass call c.id)) (λ (c : Context). not (is_of_context c.id (closing_by history pass call))) (λ c. ap not (closes_one history pass call c.id no_close)) (verticles history)

-- ## Entries that leave what runs, and each state

-- at first none is there
pub none_at_first : [] ≡ instances []
none_at_first = ap (λ cs. map (kept_of []) (filter is_of_verticle cs)) (sym (lasting_none open_context_kind))

-- a refused entry changes nothing
pub refused_row : (history : List Traced) (new : Traced) → is_accepted new.entry.reply ≡ false → instances (history ++ new ∷ []) ≡ instances history
refused_row history new refused =
    ap (λ cs. map (kept_of (history ++ new ∷ [])) (filter is_of_verticle cs)) (refused_same open_context_kind history new refused)
    ∙ all_left history new (leaves_refused history new refused) (verticles history)

-- an accepted entry that closes a context, if it closes one
pub closing_row : (history : List Traced) (new : Traced) → is_accepted new.entry.reply ≡ true → moves_verticles new.entry.call ≡ false → closes_all new.entry.call ≡ false →
    instances (history ++ new ∷ []) ≡ without_any (closing_by history new.entry.pass new.entry.call) (instances history)
closing_row history new ok still other =
    let closing = closing_by history new.entry.pass new.entry.call in
    ap (map (kept_of (history ++ new ∷ []))) (verticles_left history new ok (still_deploys new.entry.call still) other)
    ∙ all_left history new (leaves_call history new still) (filter (λ (c : Context). not (is_of_context c.id closing)) (verticles history))
    ∙ without_map history closing (verticles history) (verticles_apart history)
  where
    still_deploys : (call : Call) → moves_verticles call ≡ false → deploys call ≡ false
    still_deploys (calls.Deploy worker pool tell count) h = h
    still_deploys _ h = refl

-- the calls that may end a start or a stop
abbrev pub may_end : Call → Bool
may_end (calls.StartDone result) = true
may_end calls.StopDone = true
may_end (calls.Finish end) = true
may_end _ = false

closes_nothing : (history : List Traced) (pass : PassNo) (call : Call) → may_end call ≡ false → closing_by history pass call ≡ None
closes_nothing history pass (calls.StartDone result) h = absurd cc
closes_nothing history pass calls.StopDone h = absurd cc
closes_nothing history pass (calls.Finish end) h = absurd cc
closes_nothing history pass _ h = refl

-- any entry of a call that moves no verticle and closes nothing
pub quiet_row : (history : List Traced) (new : Traced) → moves_verticles new.entry.call ≡ false → closes_all new.entry.call ≡ false → may_end new.entry.call ≡ false → instances (history ++ new ∷ []) ≡ instances history
quiet_row history new still other quiet =
    elim (is_accepted new.entry.reply) as (λ b. is_accepted new.entry.reply ≡ b → instances (history ++ new ∷ []) ≡ instances history) [
      | true ↦ λ ok. closing_row history new ok still other ∙ ap (λ o. without_any o (instances history)) (closes_nothing history new.entry.pass new.entry.call quiet)
      | false ↦ λ refused. refused_row history new refused
    ] refl

-- an accepted Close leaves nothing
pub close_row : (history : List Traced) (new : Traced) → is_accepted new.entry.reply ≡ true → new.entry.call ≡ calls.Close → instances (history ++ new ∷ []) ≡ []
close_row history new ok is_call =
    ap (map (kept_of (history ++ new ∷ [])))
    (verticles_next history new
    ∙ ap (λ b. filter (λ (c : Context). not (b && closes history new.entry.pass new.entry.call c.id)) (verticles history) ++ filter is_of_verticle (cond b (context_made history new.entry.pass new.entry.call) [])) ok
    ∙ ap (λ call. filter (λ (c : Context). not (closes history new.entry.pass call c.id)) (verticles history) ++ filter is_of_verticle (context_made history new.entry.pass call)) is_call
    ∙ ap (λ cs. cs ++ []) (none_left (verticles history)))
  where
    none_left : (cs : List Context) → filter (λ (c : Context). false) cs ≡ []
    none_left [] = refl
    none_left (c ∷ cs) = none_left cs

-- ## A Take

module _ (history : List Traced) (pass : PassNo) (lane : Lane) (states : List (List ℤ)) (mark : Mark) where
  abbrev taking : Reply → Traced
  taking reply = entry_of pass (calls.Take lane) reply states mark

  take_states : (reply : Reply) (id : ContextId) → state_at (history ++ taking reply ∷ []) id ≡ state_at history id
  take_states reply id = ap (find (λ state. true)) (lasting_same (state_kind id) history (taking reply) (if_none (is_accepted reply) [] refl) (λ state. and_false (is_accepted reply)))

  take_open : (reply : Reply) → verticles (history ++ taking reply ∷ []) ≡ verticles history
  take_open reply = ap (filter is_of_verticle) (lasting_same open_context_kind history (taking reply) (if_none (is_accepted reply) [] refl) (λ c. and_false (is_accepted reply)))

  -- one that hands nothing out
  nothing_taken : (reply : Reply) → held_made history pass (calls.Take lane) reply ≡ [] → instances (history ++ taking reply ∷ []) ≡ instances history
  nothing_taken reply none =
      ap (map (kept_of (history ++ taking reply ∷ []))) (take_open reply)
      ∙ all_left history (taking reply)
      (record { held = lasting_same held_kind history (taking reply) (if_none (is_accepted reply) _ none) (λ h. and_false (is_accepted reply)); states = take_states reply }) (verticles history)

  abbrev taken : Task → Held
  taken task = record { pass = pass; at = next_entry history; lane = lane; context = context_of history task; mode = mode_of history task; kind = kind_of task }

  take_held : (task : Task) → held (history ++ taking (replies.Task task) ∷ []) ≡ held history ++ taken task ∷ []
  take_held task = lasting_more held_kind history (taking (replies.Task task)) (λ h. refl)

  take_runs : (task : Task) (id : ContextId) → runs (history ++ taking (replies.Task task) ∷ []) id ≡ (runs history id || is_of_context id (handler_in history (replies.Task task)))
  take_runs task id =
      let test = λ (h : Held). is_of_context id (context_held h) in
      ap (list_any test) (take_held task) ∙ list_any-append test (held history) (taken task ∷ []) ∙ ap (λ b. runs history id || b) (or_no (test (taken task)))
    where
      or_no : (b : Bool) → (b || false) ≡ b
      or_no true = refl
      or_no false = refl

  -- what is kept of a context, by whether it runs
  abbrev kept_so : Context → Bool → Option (List ℤ) → Kept
  kept_so c b state = record { context = c.id; state = cond b None state }

  take_kept : (task : Task) (c : Context) → kept_of (history ++ taking (replies.Task task) ∷ []) c ≡ kept_so c (runs history c.id || is_of_context c.id (handler_in history (replies.Task task))) (state_at history c.id)
  take_kept task c =
      ap (λ b. kept_so c b (state_at (history ++ taking (replies.Task task) ∷ []) c.id)) (take_runs task c.id)
      ∙ ap (kept_so c (runs history c.id || is_of_context c.id (handler_in history (replies.Task task)))) (take_states (replies.Task task) c.id)

  or_false : (b : Bool) → (b || false) ≡ b
  or_false true = refl
  or_false false = refl

  or_true : (b : Bool) → (b || true) ≡ true
  or_true true = refl
  or_true false = refl

  task_taken : (task : Task) (o : Option ContextId) → handler_in history (replies.Task task) ≡ o → map (kept_of (history ++ taking (replies.Task task) ∷ [])) (verticles history) ≡ put_if o None (instances history)
  task_taken task None is =
      map_each _ (kept_of history) (verticles history)
      (each_any _ (verticles history) (λ c. take_kept task c ∙ ap (λ o. kept_so c (runs history c.id || is_of_context c.id o) (state_at history c.id)) is ∙ ap (λ b. kept_so c b (state_at history c.id)) (or_false (runs history c.id))))
  task_taken task (Some id) is =
      put_map history (history ++ taking (replies.Task task) ∷ []) id None
      (λ c other.
      take_kept task c ∙ ap (λ o. kept_so c (runs history c.id || is_of_context c.id o) (state_at history c.id)) is
      ∙ ap (λ b. kept_so c (runs history c.id || b) (state_at history c.id)) (same_context-swap c.id id ∙ other) ∙ ap (λ b. kept_so c b (state_at history c.id)) (or_false (runs history c.id)))
      (λ c its.
      take_kept task c ∙ ap (λ o. kept_so c (runs history c.id || is_of_context c.id o) (state_at history c.id)) is
      ∙ ap (λ b. kept_so c (runs history c.id || b) (state_at history c.id)) (same_context-swap c.id id ∙ its) ∙ ap (λ b. kept_so c b (state_at history c.id)) (or_true (runs history c.id)))
      (verticles history) (verticles_apart history)

  -- the verticle of the context whose handler is handed out goes with it
  pub take_row : (reply : Reply) → instances (history ++ taking reply ∷ []) ≡ put_if (handler_in history reply) None (instances history)
  take_row (replies.Task task) = ap (map (kept_of (history ++ taking (replies.Task task) ∷ []))) (take_open (replies.Task task)) ∙ task_taken task (handler_in history (replies.Task task)) refl
  take_row reply = nothing_taken reply refl

-- ## A Finish

module _ (history : List Traced) (legal : IsLegal history) (pass : PassNo) (end : End) (states : List (List ℤ)) (mark : Mark) where
  abbrev pub finishing : Traced
  finishing = entry_of pass (calls.Finish end) replies.Done states mark

  abbrev pub finished : List Traced
  finished = history ++ finishing ∷ []

  abbrev came_back : Option (List ℤ)
  came_back = find (λ state. true) states

  finish_held : held finished ≡ filter (λ (h : Held). not (h.pass.0 == pass.0)) (held history)
  finish_held = lasting-append held_kind history finishing ∙ append-nil _

  -- of another context nothing changes
  finish_others : (c : Context) → is_of_context c.id (held_context history pass) ≡ false → kept_of finished c ≡ kept_of history c
  finish_others c other =
      let test = λ (h : Held). is_of_context c.id (context_held h) in
      let running : runs finished c.id ≡ runs history c.id = ap (list_any test) finish_held ∙ others_run pass c.id (held history) (passes_apart history legal) other in
      let states_same = ap (find (λ state. true)) (lasting_same (state_kind c.id) history finishing (ap (λ b. cond b states []) other) (λ state. other)) in
      ap (λ b. record { context = c.id; state = cond b None (state_at finished c.id) }) running ∙ ap (λ s. record { context = c.id; state = cond (runs history c.id) None s }) states_same

  -- of the one whose handler is over the verticle is there again
  pub finish_its : (id : ContextId) (c : Context) → held_context history pass ≡ Some id → same_context id c.id ≡ true → kept_of finished c ≡ record { context = c.id; state = came_back }
  finish_its id c is its =
      let test = λ (h : Held). is_of_context id (context_held h) in
      let here : is_of_context c.id (held_context history pass) ≡ true = ap (is_of_context c.id) is ∙ same_context-swap c.id id ∙ its in
      let running : runs finished c.id ≡ false = ap (runs finished) (sym (same_context-true id c.id its)) ∙ ap (list_any test) finish_held ∙ none_after pass id (held history) (handlers_apart history legal) is in
      let old = lasting (state_kind c.id) history in
      let all : lasting (state_kind c.id) finished ≡ states =
      lasting-append (state_kind c.id) history finishing ∙ ap (λ b. filter (λ state. not b) old ++ cond b states []) here ∙ ap (λ ss. ss ++ states) (none_left old) in
      ap (λ b. record { context = c.id; state = cond b None (state_at finished c.id) }) running ∙ ap (λ ss. record { context = c.id; state = find (λ state. true) ss }) all
    where
      none_left : {A : Type 0} (xs : List A) → filter (λ x. false) xs ≡ []
      none_left [] = refl
      none_left (x ∷ xs) = none_left xs

  abbrev came : Option ContextId → List Context → Type 0
  came o cs = map (kept_of finished) cs ≡ put_if o came_back (map (kept_of history) cs)

  given_back : (o : Option ContextId) → held_context history pass ≡ o → (cs : List Context) → Apart same_by_id cs → came o cs
  given_back None is cs apart = map_each (kept_of finished) (kept_of history) cs (each_any _ cs (λ c. finish_others c (ap (is_of_context c.id) is)))
  given_back (Some id) is cs apart =
      put_map history finished id came_back (λ c other. finish_others c (ap (is_of_context c.id) is ∙ same_context-swap c.id id ∙ other)) (λ c its. finish_its id c is its) cs apart

  -- what closes goes, and what comes back is kept where its context is still there
  pub finish_row : instances finished ≡ put_if (held_context history pass) came_back (without_any (closing_by history pass (calls.Finish end)) (instances history))
  finish_row =
      let closing = closing_by history pass (calls.Finish end) in
      let stays = λ (c : Context). not (is_of_context c.id closing) in
      ap (map (kept_of finished)) (verticles_left history finishing refl refl refl)
      ∙ given_back (held_context history pass) refl (filter stays (verticles history)) (Apart-filter same_by_id stays (verticles history) (verticles_apart history))
      ∙ ap (put_if (held_context history pass) came_back) (without_map history closing (verticles history) (verticles_apart history))
