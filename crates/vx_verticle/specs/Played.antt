-- What it is to play a task: a pass takes it, its handler runs, what the handler has done is done, and the task ends. It is told of
-- a pass's own entries with their indices, and of the history in which they stand. (Vert.x core manual, "Verticles", "The Context
-- object". That the acts are made as the handler has returned is this project's own.)
use Rattle.std.specs.Prelude.{◌≡◌, ◌⊎◌, ℕ, ◌+◌, ℤ, pos, min, List, [], ◌∷◌, ◌++◌, length, map, take, All, false, slice_get, Option, None, Some}
use Rattle.std.specs.Option.{option_to_list, option_and_then}
use Rattle.vx_data.specs.declared.ids.EntryNo.{EntryNo}
use Rattle.vx_data.specs.declared.ids.PassNo.{PassNo}
use Rattle.vx_data.specs.declared.ids.ContextId.{ContextId}
use Rattle.vx_message.specs.declared.Lane.{Lane}
use Rattle.vx_message.specs.declared.kind.KindSpec.{KindSpec}
use Rattle.vx_call.specs.declared.call.Call.{Call}
use Rattle.vx_call.specs.declared.call.Call.TheVariants as calls
use Rattle.vx_call.specs.declared.call.End.{End}
use Rattle.vx_call.specs.declared.call.End.TheVariants as ends
use Rattle.vx_call.specs.declared.reply.Reply.TheVariants as replies
use Rattle.vx_call.specs.declared.reply.Task.{Task}
use Rattle.vx_call.specs.declared.reply.Task.TheVariants as tasks
use Rattle.vx_call.specs.declared.history.Traced.{Traced}
use Rattle.vx_call.specs.Given.{context_of}
use Rattle.vx_call.specs.Plain.{takes_no_memory}
use Rattle.vx_call.specs.States.{state_at}
use Rattle.vx_verticle.specs.declared.acts.Act.{Act}
use Rattle.vx_verticle.specs.declared.acts.Act.TheVariants as acting
use Rattle.vx_verticle.specs.declared.once.OnceInput.{OnceInput}
use Rattle.vx_verticle.specs.declared.once.OnceInput.TheVariants as inputs
use Rattle.vx_verticle.specs.declared.plain.PlainAct.{PlainAct}
use Rattle.vx_verticle.specs.declared.verticle.Event.{Event}
use Rattle.vx_verticle.specs.declared.verticle.ActResult.{ActResult}
use Rattle.vx_verticle.specs.declared.verticle.ActResult.TheVariants as outcomes
use Rattle.vx_verticle.specs.Calls.{call_of}

-- What verticles, their handlers that are called once, and their maker mean: the ghost members of their traits.
pub record Meaning (R : Type 0) : Type 1 where
  pub reacts : List ℤ → Event → List ℤ → List (Act R) → End → Type 0
  pub told : List ℤ → ℕ → ActResult → List ℤ → Type 0
  pub allows : List ℤ → OnceInput → List PlainAct → End → Type 0
  pub knows : List ℕ → Type 0
  pub makes : KindSpec → List ℤ → Type 0

-- an entry, with its index in the history
abbrev pub Placed : Type 0
Placed = ℕ × Traced

-- ## What a task finds

-- the argument of the handler that goes with a call, to be called once
abbrev pub argument_of : Traced → Option (List ℤ)
argument_of made = by_call made.entry.call
  where
    by_call : Call → Option (List ℤ)
    by_call (calls.Request context address body options timeout once) = once
    by_call (calls.RunOn context once) = once
    by_call (calls.Blocking context ordered once) = once
    by_call _ = None

abbrev pub argument_at : List Traced → EntryNo → Option (List ℤ)
argument_at history made_by = option_and_then argument_of (slice_get history made_by.0)

-- the argument of the handler that is called for a task, in place of its verticle: the one that came with the request or the code
abbrev pub handler_of : List Traced → Task → Option (List ℤ)
handler_of history (tasks.Outcome request outcome) = argument_at history request.0
handler_of history (tasks.Run queued) = argument_at history queued.0
handler_of history (tasks.Job queued) = argument_at history queued.0
handler_of history _ = None

abbrev pub input_of : Task → OnceInput
input_of (tasks.Outcome request outcome) = inputs.Outcome outcome
input_of (tasks.Job queued) = inputs.Job
input_of _ = inputs.Run

-- the state of the verticle that a task is handed out with: none for blocking code, and none on an outside context
abbrev pub state_for : List Traced → ContextId → Task → Option (List ℤ)
state_for history context (tasks.Job queued) = None
state_for history context _ = state_at history context

-- how a task ends that nothing handles
abbrev pub unhandled : Task → End
unhandled (tasks.Job queued) = ends.Value (pos 0)
unhandled _ = ends.Done

-- ## What is played

module _ {R : Type 0} (m : Meaning R) where
  -- The call that an act of this context's handler comes to, and the states that go with it: those of a Deploy are ones that the
  -- maker permits. More than 65 instances count as 65.
  abbrev pub Calls : ContextId → Act R → Call → List (List ℤ) → Type 0
  Calls context (acting.Plain act) call states = (call ≡ call_of context act) × (states ≡ [])
  Calls context (acting.Deploy spec instances worker) call states =
      (call ≡ calls.Deploy worker None (Some context) (min instances 65)) × (length states ≡ min instances 65) × m.knows spec.kind × All (m.makes spec) states
  Calls context (acting.RequestWith address body options timeout once) call states = (call ≡ calls.Request context address body options timeout (Some once)) × (states ≡ [])
  Calls context (acting.Blocking ordered once) call states = (call ≡ calls.Blocking context ordered (Some once)) × (states ≡ [])
  Calls context (acting.RunOn to once) call states = (call ≡ calls.RunOn to (Some once)) × (states ≡ [])

  -- No kind has the name that the act gives.
  abbrev pub NamesNone : Act R → Type 0
  NamesNone (acting.Deploy spec instances worker) = m.knows spec.kind → ⊥
  NamesNone _ = ⊥

  -- Memory may run out as the act is made.
  abbrev pub MayRunOut : ContextId → Act R → Type 0
  MayRunOut context (acting.Plain act) = takes_no_memory (call_of context act) ≡ false
  MayRunOut context (acting.Deploy spec instances worker) = m.knows spec.kind
  MayRunOut context _ = Unit {0}

  -- What became of one act, and its entry, if it has one.
  abbrev pub Becomes : PassNo → ContextId → Act R → ActResult → List Placed → Type 0
  Becomes pass context act (outcomes.Made reply) entries =
      (at : ℕ) × (made : Traced) × (entries ≡ (at, made) ∷ []) × (made.entry.pass ≡ pass) × Calls context act made.entry.call made.states × (made.entry.reply ≡ reply)
  Becomes pass context act outcomes.NoKind entries = NamesNone act × (entries ≡ [])
  Becomes pass context act outcomes.NoMemory entries = MayRunOut context act × (entries ≡ [])

  -- The acts were made, one after another.
  abbrev pub AreMade : PassNo → ContextId → List (Act R) → List ActResult → List Placed → Type 0
  AreMade pass context [] [] entries = entries ≡ []
  AreMade pass context (act ∷ acts) (result ∷ results) entries =
      (its : List Placed) × (others : List Placed) × (entries ≡ its ++ others) × Becomes pass context act result its × AreMade pass context acts results others
  AreMade pass context _ _ entries = ⊥

  -- No act was made, since there was no memory for what becomes of them.
  pub record NoneMade (acts : List (Act R)) (results : List ActResult) (entries : List Placed) : Type 0 where
    pub each : length results ≡ length acts
    pub without : All (λ result. result ≡ outcomes.NoMemory) results
    pub none : entries ≡ []

  -- The verticle is told what became of its acts, from this number on, and goes from state to state.
  abbrev pub IsTold : ℕ → List ActResult → List ℤ → List ℤ → Type 0
  IsTold number [] state last = last ≡ state
  IsTold number (result ∷ results) state last = (next : List ℤ) × m.told state number result next × IsTold (number + 1) results next last

  -- How a task is handled, by the argument of its handler that is called once and by the state of its verticle, where there are
  -- such: its acts, what became of them, how the task ends, and the state that is given back.
  abbrev pub Handles : ContextId → Task → Option (List ℤ) → Option (List ℤ) → List (Act R) → List ActResult → End → List (List ℤ) → Type 0
  Handles context task (Some argument) state acts results end back =
      (plain : List PlainAct) × (acts ≡ map acting.Plain plain) × m.allows argument (input_of task) plain end × (back ≡ option_to_list state)
  Handles context task None (Some state) acts results end back =
      (handled : List ℤ) × (last : List ℤ) × m.reacts state (record { context = context; task = task }) handled acts end × IsTold 0 results handled last × (back ≡ last ∷ [])
  Handles context task None None acts results end back = (acts ≡ []) × (end ≡ unhandled task) × (back ≡ [])

  -- A played stretch of a pass's own entries: a Take from a lane, at an index, that answered a task; the entries of the acts to
  -- which it led; and the Finish, which gives the verticle's state back.
  pub record Played (history : List Traced) (pass : PassNo) (lane : Lane) (at : ℕ) (stretch : List Placed) : Type 0 where
    pub task : Task
    pub context : ContextId
    pub acts : List (Act R)
    pub results : List ActResult
    pub end : End
    pub back : List (List ℤ)
    pub taken : Traced
    pub made : List Placed
    pub finish_at : ℕ
    pub finished : Traced
    pub stretch_is : stretch ≡ (at, taken) ∷ (made ++ (finish_at, finished) ∷ [])
    pub takes : taken.entry ≡ record { pass = pass; call = calls.Take lane; reply = replies.Task task }
    pub on_context : context_of (take at history) task ≡ Some context
    pub handles : Handles context task (handler_of (take at history) task) (state_for (take at history) context task) acts results end back
    pub makes : AreMade pass context acts results made ⊎ NoneMade acts results made
    pub finishes : finished.entry ≡ record { pass = pass; call = calls.Finish end; reply = replies.Done }
    pub gives_back : finished.states ≡ back
