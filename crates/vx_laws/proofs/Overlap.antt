-- Handlers of one context never overlap, nor do tasks of one event loop.
use Rattle.std.proofs.Common.{◌≡◌, ℕ, List, [], ◌∷◌, ◌++◌, refl, ap, sym, ◌∙◌, append_assoc, arith}
use Rattle.std.specs.Prelude.{Bool, true, false, not, ◌&&◌, ◌||◌, ◌==◌, cond, filter, find, Option, None, Some}
use Rattle.std.specs.List.{list_any}
use Rattle.std.specs.Option.{option_or}
use Rattle.std.proofs.lemmas.Bool.{and_parts, or_left, or_right, eq-eqb, eqb-true}
use Rattle.std.proofs.lemmas.Bool.Decides.{nat_tests}
use Rattle.std.proofs.lemmas.List.Folds.{list_any-append}
use Rattle.std.proofs.lemmas.Map.Views.{any-filter_same}
use Rattle.vx_data.specs.declared.ids.ContextId.{ContextId}
use Rattle.vx_data.specs.declared.ids.PassNo.{PassNo}
use Rattle.vx_data.specs.Ids.{same_context}
use Rattle.vx_message.specs.declared.Held.{Held}
use Rattle.vx_message.specs.declared.Lane.{Lane}
use Rattle.vx_message.specs.declared.Lane.TheVariants as lanes
use Rattle.vx_message.specs.declared.Mode.{Mode}
use Rattle.vx_message.specs.declared.Mode.TheVariants as modes
use Rattle.vx_message.specs.Lanes.{same_lane}
use Rattle.vx_call.specs.declared.call.Call.{Call}
use Rattle.vx_call.specs.declared.call.Call.TheVariants as calls
use Rattle.vx_call.specs.declared.reply.Refusal.{Refusal}
use Rattle.vx_call.specs.declared.reply.Reply.{Reply}
use Rattle.vx_call.specs.declared.reply.Reply.TheVariants as replies
use Rattle.vx_call.specs.declared.reply.Task.{Task}
use Rattle.vx_call.specs.declared.history.Traced.{Traced}
use Rattle.vx_call.specs.History.{is_accepted, made_by, ended_by}
use Rattle.vx_call.specs.Names.{next_entry}
use Rattle.vx_call.specs.Kinds.{kind_of}
use Rattle.vx_call.specs.Given.{context_of, mode_of}
use Rattle.vx_call.specs.Items.{Waiting, waiting}
use Rattle.vx_call.specs.Held.{held_made, held_kind, held, is_finished, is_of_context, handler_context, context_held, runs}
use Rattle.vx_call.specs.Next.{is_on, may_run, is_full, next}
use Rattle.vx_call.specs.Closings.{hub_closed_at}
use Rattle.vx_call.specs.Refusals.{unless_refused, spent, already_holding, no_lane, not_your_lane, lane_held_by, lane_held}
use Rattle.vx_call.specs.Rows.{take_refusal, handed_out}
use Rattle.vx_call.specs.Machine.{IsLegal, MayFollow, answer}
use Rattle.vx_call.proofs.Lasting.{lasting-append, and_false}
use Rattle.vx_call.proofs.Each.{by_entries, Each-find, not_true}
use Rattle.vx_call.proofs.Contexts.{same_context-true}
use Rattle.vx_call.proofs.Found.{find_passes}
use Rattle.vx_call.proofs.Below.{second}
use Rattle.vx_call.proofs.Owners.{waiting_owned}
use Rattle.vx_laws.specs.Overlap.{starts, finishes, is_finish_of, HandlersNeverOverlap, runs_loop, LoopsNeverOverlap}
use Rattle.vx_laws.proofs.Handed.{waited, not_closed, not_refused}
use Rattle.vx_laws.proofs.Takes.{neither_first, neither_last}

-- ## A task is held until its pass finishes it

any_weaker : {A : Type 0} (test other : A → Bool) → ((x : A) → test x ≡ true → other x ≡ true) → (xs : List A) → list_any test xs ≡ true → list_any other xs ≡ true
any_weaker test other weaker [] h = h
any_weaker test other weaker (x ∷ xs) h =
    elim (test x) as (λ b. test x ≡ b → (b || list_any test xs) ≡ true → (other x || list_any other xs) ≡ true) [
      | true ↦ λ passes here. or_left (other x) (list_any other xs) (weaker x passes)
      | false ↦ λ fails there. or_right (other x) (list_any other xs) (any_weaker test other weaker xs there)
    ] refl h

not_ended : (accepted : Bool) (call : Call) (pass other : PassNo) (h : Held) → (h.pass.0 == pass.0) ≡ true → (accepted && (finishes call && (pass.0 == other.0))) ≡ false → (accepted && is_finished other call h) ≡ false
not_ended accepted (calls.Finish end) pass other h its none =
    let same : h.pass.0 ≡ pass.0 = grind (arith, nat_tests) in
    ap (λ n. accepted && (n == other.0)) same ∙ none
not_ended accepted call pass other h its none = and_false accepted

-- of the tasks that pass a test one is held
module _ (test : Held → Bool) where
  -- by this pass
  abbrev is_run : PassNo → Held → Bool
  is_run pass h = test h && (h.pass.0 == pass.0)

  abbrev runs_so : PassNo → List Traced → Type 0
  runs_so pass now = list_any (is_run pass) (held now) ≡ true

  -- what an entry makes is held
  runs_first : (before : List Traced) (first : Traced) (h : Held) → made_by held_kind before first ≡ h ∷ [] → test h ≡ true → h.pass.0 ≡ first.entry.pass.0 → runs_so first.entry.pass (before ++ first ∷ [])
  runs_first before first h made its by_pass =
      let run = is_run first.entry.pass in
      let kept = filter (λ (other : Held). not (ended_by held_kind before first other)) (held before) in
      let here : run h ≡ true = ap (λ b. b && (h.pass.0 == first.entry.pass.0)) its ∙ eq-eqb h.pass.0 first.entry.pass.0 by_pass in
      ap (list_any run) (lasting-append held_kind before first)
      ∙ list_any-append run kept (made_by held_kind before first)
      ∙ ap (λ hs. list_any run kept || list_any run hs) made
      ∙ or_right (list_any run kept) (run h || false) (ap (λ b. b || false) here)

  runs_on : (pass : PassNo) (now : List Traced) (new : Traced) → is_finish_of pass new ≡ false → runs_so pass now → runs_so pass (now ++ new ∷ [])
  runs_on pass now new none is_running =
      let run = is_run pass in
      let kept = λ (h : Held). not (ended_by held_kind now new h) in
      let still = any-filter_same run kept true
      (λ h passes. ap not (not_ended (is_accepted new.entry.reply) new.entry.call pass new.entry.pass h (and_parts (test h) (h.pass.0 == pass.0) passes).1 none))
      (held now) ∙ is_running in
      ap (list_any run) (lasting-append held_kind now new) ∙ list_any-append run (filter kept (held now)) (made_by held_kind now new) ∙ ap (λ b. b || list_any run (made_by held_kind now new)) still

  module _ (before : List Traced) (first : Traced) (begins : runs_so first.entry.pass (before ++ first ∷ [])) where
    -- after the entries so far it is
    abbrev Stage : List Traced → Type 0
    Stage between = list_any (is_finish_of first.entry.pass) between ≡ false → runs_so first.entry.pass (before ++ first ∷ between)

    stage : (between : List Traced) → Stage between
    stage =
        by_entries Stage (λ none. begins)
        (λ between new stages none.
        let pass = first.entry.pass in
        let both = sym (list_any-append (is_finish_of pass) between (new ∷ [])) ∙ none in
        ap (λ now. list_any (is_run pass) (held now)) (sym (append_assoc before (first ∷ between) (new ∷ [])))
        ∙ runs_on pass (before ++ first ∷ between) new (neither_last (list_any (is_finish_of pass) between) (is_finish_of pass new) both)
        (stages (neither_first (list_any (is_finish_of pass) between) (is_finish_of pass new) both)))

    -- where none is held any more, its pass has finished
    pub finished : (between : List Traced) → list_any test (held (before ++ first ∷ between)) ≡ false → list_any (is_finish_of first.entry.pass) between ≡ true
    finished between none =
        let now = before ++ first ∷ between in
        let pass = first.entry.pass in
        elim (list_any (is_finish_of pass) between) as (λ b. list_any (is_finish_of pass) between ≡ b → b ≡ true) [
          | true ↦ λ ended. refl
          | false ↦ λ never.
              (let running : list_any test (held now) ≡ true = any_weaker (is_run pass) test (λ h its. (and_parts (test h) (h.pass.0 == pass.0) its).0) (held now) (stage between never) in
              sym none ∙ running)
        ] refl

-- ## Takes

-- what the pass holds that takes a task
abbrev pub taken_by : List Traced → PassNo → Lane → Task → Held
taken_by before pass lane task = record { pass = pass; at = next_entry before; lane = lane; context = context_of before task; mode = mode_of before task; kind = kind_of task }

pub taken : (before : List Traced) (new : Traced) (lane : Lane) (task : Task) → new.entry.call ≡ calls.Take lane → new.entry.reply ≡ replies.Task task → made_by held_kind before new ≡ taken_by before new.entry.pass lane task ∷ []
taken before new lane task called replied =
    ap (λ reply. cond (is_accepted reply) (held_made before new.entry.pass new.entry.call reply) []) replied ∙ ap (λ call. held_made before new.entry.pass call (replies.Task task)) called

-- ## Handlers of a context

-- a Take that hands out a handler's task of the context
pub record Starts (context : ContextId) (before : List Traced) (call : Call) (reply : Reply) : Type 0 where
  pub lane : Lane
  pub task : Task
  pub called : call ≡ calls.Take lane
  pub replied : reply ≡ replies.Task task
  pub its : is_of_context context (handler_context (mode_of before task) (context_of before task)) ≡ true

started : (context : ContextId) (before : List Traced) (call : Call) (reply : Reply) → starts context before call reply ≡ true → Starts context before call reply
started context before (calls.Take lane) (replies.Task task) h = record { lane = lane; task = task; called = refl; replied = refl; its = h }
started context before (calls.Take lane) reply h = absurd cc
started context before call reply h = absurd cc

is_handler : (context : ContextId) (mode : Mode) (o : Option ContextId) → is_of_context context (handler_context mode o) ≡ true → (mode ≡ modes.Handler) × (is_of_context context o ≡ true)
is_handler context modes.Handler o its = (refl, its)
is_handler context modes.Ordered o its = absurd cc
is_handler context modes.Free o its = absurd cc

-- the context of a handler that begins does not run
pub not_running : (context : ContextId) (now : List Traced) (new : Traced) → MayFollow now new → Starts context now new.entry.call new.entry.reply → runs now context ≡ false
not_running context now new may start =
    let Owned : Waiting → Type 0 = λ x. context_of now x.task ≡ Some x.context in
    let may_next = λ (item : Waiting). is_on now start.lane item && may_run now item (mode_of now item.task) in
    let test = λ (item : Waiting). not (is_full now start.lane) && may_next item in
    let found = waited now new.entry.pass start.lane start.task (sym start.replied ∙ may.answered ∙ ap (answer now new.entry.pass) start.called) in
    let item : Waiting = found.0 in
    let handler = is_handler context (mode_of now start.task) (context_of now start.task) start.its in
    let owned : context_of now item.task ≡ Some item.context = Each-find Owned test (waiting now) item (waiting_owned now) found.1 in
    let passes = and_parts (not (is_full now start.lane)) (may_next item) (find_passes test (waiting now) item found.1) in
    let may_run_it = (and_parts (is_on now start.lane item) (may_run now item (mode_of now item.task)) passes.1).1 in
    let free : not (runs now item.context) ≡ true = sym (ap (may_run now item) (ap (mode_of now) found.2 ∙ handler.0)) ∙ may_run_it in
    let same : same_context context item.context ≡ true = sym (ap (is_of_context context) (sym (ap (context_of now) found.2) ∙ owned)) ∙ handler.1 in
    ap (runs now) (same_context-true context item.context same) ∙ not_true (runs now item.context) free

pub never_overlap : (history : List Traced) → IsLegal history → HandlersNeverOverlap history
never_overlap history legal = λ context before between after first other parts begins again.
    (let test = λ (h : Held). is_of_context context (context_held h) in
    let now = before ++ first ∷ between in
    let start = started context before first.entry.call first.entry.reply begins in
    let may = legal now other after (parts ∙ sym (append_assoc before (first ∷ between) (other ∷ after))) in
    finished test before first
    (runs_first test before first (taken_by before first.entry.pass start.lane start.task) (taken before first start.lane start.task start.called start.replied) start.its refl) between
    (not_running context now other may (started context now other.entry.call other.entry.reply again)))

-- ## Tasks of an event loop

-- a Take that hands out a task of the event loop
record Runs (loop : ℕ) (call : Call) (reply : Reply) : Type 0 where
  pub task : Task
  pub called : call ≡ calls.Take (lanes.Loop loop)
  pub replied : reply ≡ replies.Task task

ran : (loop : ℕ) (call : Call) (reply : Reply) → runs_loop loop call reply ≡ true → Runs loop call reply
ran loop (calls.Take (lanes.Loop other)) (replies.Task task) h = record { task = task; called = ap (λ n. calls.Take (lanes.Loop n)) (sym (eqb-true loop other h)); replied = refl }
ran loop (calls.Take (lanes.Loop other)) reply h = absurd cc
ran loop (calls.Take lane) reply h = absurd cc
ran loop call reply h = absurd cc

none_found : (test : Held → Bool) (hs : List Held) → lane_held_by (find test hs) ≡ None → list_any test hs ≡ false
none_found test [] none = refl
none_found test (h ∷ hs) none =
    elim (test h) as (λ b. lane_held_by (cond b (Some h) (find test hs)) ≡ None → (b || list_any test hs) ≡ false) [ true ↦ λ some. absurd cc | false ↦ λ later. none_found test hs later ] none

pub refused_none : (o : Option Refusal) (reply : Reply) (task : Task) → unless_refused o reply ≡ replies.Task task → o ≡ None
refused_none None reply task h = refl
refused_none (Some refusal) reply task h = absurd cc

-- no task of it is held
loop_free : (loop : ℕ) (now : List Traced) (new : Traced) → MayFollow now new → Runs loop new.entry.call new.entry.reply → list_any (λ (h : Held). same_lane (lanes.Loop loop) h.lane) (held now) ≡ false
loop_free loop now new may run =
    let pass = new.entry.pass in
    let lane = lanes.Loop loop in
    let reply = handed_out (next now lane) in
    let answered : answer now pass (calls.Take lane) ≡ replies.Task run.task = sym (ap (answer now pass) run.called) ∙ sym may.answered ∙ run.replied in
    let row = not_closed (hub_closed_at now) _ run.task (not_refused (option_or (spent now) None) _ run.task answered) in
    let refused : take_refusal now pass lane ≡ None = refused_none (take_refusal now pass lane) reply run.task row in
    let held_no : lane_held now lane ≡ None = second (not_your_lane now pass lane) _ (second (no_lane now lane) _ (second (already_holding now pass) _ refused)) in
    none_found (λ (h : Held). same_lane lane h.lane) (held now) held_no

pub loops_apart : (history : List Traced) → IsLegal history → LoopsNeverOverlap history
loops_apart history legal = λ loop before between after first other parts begins again.
    (let test = λ (h : Held). same_lane (lanes.Loop loop) h.lane in
    let now = before ++ first ∷ between in
    let run = ran loop first.entry.call first.entry.reply begins in
    let may = legal now other after (parts ∙ sym (append_assoc before (first ∷ between) (other ∷ after))) in
    finished test before first
    (runs_first test before first (taken_by before first.entry.pass (lanes.Loop loop) run.task) (taken before first (lanes.Loop loop) run.task run.called run.replied) (eq-eqb loop loop refl) refl) between
    (loop_free loop now other may (ran loop other.entry.call other.entry.reply again)))
