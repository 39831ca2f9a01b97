-- The contexts of verticles, each with the state of its verticle where that is at home.
use Rattle.std.specs.Prelude.{ℕ, ◌+◌, ℤ, if◌then◌else◌, List, [], ◌∷◌, Option, None, Some}
use Rattle.vx_data.specs.declared.ids.ContextId.{ContextId}
use Rattle.vx_data.specs.declared.ids.EntryNo.{EntryNo}
use Rattle.vx_data.specs.Ids.{same_context}
use Rattle.vx_instances.specs.declared.homes.Home.{Home}

-- a context of a verticle, and the state of the verticle where it is at home: none while a handler of it runs
pub record Kept : Type 0 where
  pub context : ContextId
  pub state : Option (List ℤ)

-- those that are there, in the order of making, and for how many more there is room
pub record InstanceStore : Type 0 where
  pub kept : List Kept
  pub room : ℕ

-- the context has this state from now on, if it is there
abbrev pub put_at : ContextId → Option (List ℤ) → List Kept → List Kept
put_at context state [] = []
put_at context state (kept ∷ others) =
    if same_context context kept.context then record { context = kept.context; state = state } ∷ others else kept ∷ put_at context state others

-- the state of the context's verticle, where it is at home
abbrev pub state_in : ContextId → List Kept → Option (List ℤ)
state_in context [] = None
state_in context (kept ∷ others) = if same_context context kept.context then kept.state else state_in context others

-- all but this context
abbrev pub without : ContextId → List Kept → List Kept
without context [] = []
without context (kept ∷ others) = if same_context context kept.context then others else kept ∷ without context others

-- ## Where one is named

abbrev pub put_if : Option ContextId → Option (List ℤ) → List Kept → List Kept
put_if None state kept = kept
put_if (Some context) state kept = put_at context state kept

abbrev pub state_if : Option ContextId → List Kept → Option (List ℤ)
state_if None kept = None
state_if (Some context) kept = state_in context kept

abbrev pub without_any : Option ContextId → List Kept → List Kept
without_any None kept = kept
without_any (Some context) kept = without context kept

-- ## Deployed

-- the contexts of an entry that deploys verticles with these states, numbered from this number on
abbrev pub kept_from : EntryNo → ℕ → List (List ℤ) → List Kept
kept_from entry number [] = []
kept_from entry number (state ∷ states) = record { context = record { entry = entry; instance = number }; state = Some state } ∷ kept_from entry (number + 1) states

-- their homes
abbrev pub numbered : {V : Type 0} → EntryNo → ℕ → List V → List (Home V)
numbered entry number [] = []
numbered entry number (verticle ∷ verticles) = record { context = record { entry = entry; instance = number }; verticle = Some verticle } ∷ numbered entry (number + 1) verticles
