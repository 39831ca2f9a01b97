-- How promises are settled. (Vert.x core manual, "Asynchronous results", "Future coordination". That first and last go by
-- the settling entry, and then by the place among the parts, is this project's own, and so is the value of a composite.)
use Rattle.std.specs.Prelude.{ℕ, ◌+◌, ◌==◌, nat_le, nat_lt, max, pos, Bool, true, false, not, is_some, if◌then◌else◌, List, [], ◌∷◌, ◌++◌, length, map, filter, find, fold, Option, None, Some}
use Rattle.std.specs.Option.{option_or, option_map, option_to_list}
use Rattle.vx_data.specs.declared.ids.EntryNo.{EntryNo}
use Rattle.vx_data.specs.declared.ids.PromiseId.{PromiseId}
use Rattle.vx_data.specs.Ids.{same_promise}
use Rattle.vx_message.specs.declared.Compose.{Compose}
use Rattle.vx_message.specs.declared.Compose.TheVariants as ways
use Rattle.vx_message.specs.declared.JobResult.{JobResult}
use Rattle.vx_message.specs.declared.JobResult.TheVariants as results
use Rattle.vx_call.specs.declared.call.Call.{Call}
use Rattle.vx_call.specs.declared.call.Call.TheVariants as calls
use Rattle.vx_call.specs.declared.history.Traced.{Traced}
use Rattle.vx_call.specs.History.{Kind, lasting}
use Rattle.vx_call.specs.Names.{next_entry, next_promise}
use Rattle.vx_call.specs.Promises.{Composite, composites}

-- a promise that is settled: the entry that settled it, and its result
pub record Completion : Type 0 where
  pub promise : PromiseId
  pub at : EntryNo
  pub result : JobResult

-- ## By a call

abbrev pub unsettled_made : List Traced → Call → List PromiseId
unsettled_made before calls.NewPromise = next_promise before ∷ []
unsettled_made before _ = []

-- whether a call settles a promise, if it was not settled before
abbrev pub completes : Call → PromiseId → Bool
completes (calls.Complete id value) promise = same_promise id promise
completes (calls.FailPromise id code) promise = same_promise id promise
completes _ promise = false

abbrev pub unsettled_kind : Kind PromiseId
unsettled_kind = record {
  made = λ before new. unsettled_made before new.entry.call;
  ended = λ before new promise. completes new.entry.call promise;
}

-- the promises that a call is still to settle, in the order of making
abbrev pub unsettled_promises : List Traced → List PromiseId
unsettled_promises history = lasting unsettled_kind history

abbrev pub completion : List Traced → JobResult → PromiseId → Completion
completion before result promise = record { promise = promise; at = next_entry before; result = result }

-- each is settled once
abbrev pub completed_with : List Traced → Call → JobResult → List Completion
completed_with before call result = map (completion before result) (filter (completes call) (unsettled_promises before))

abbrev pub completed_made : List Traced → Call → List Completion
completed_made before (calls.Complete id value) = completed_with before (calls.Complete id value) (results.Value value)
completed_made before (calls.FailPromise id code) = completed_with before (calls.FailPromise id code) (results.Fail code)
completed_made before _ = []

abbrev pub completed_kind : Kind Completion
completed_kind = record { made = λ before new. completed_made before new.entry.call; ended = λ before new completion. false }

-- the promises that calls settled
abbrev pub completed : List Traced → List Completion
completed history = lasting completed_kind history

-- ## By parts

-- a part that is settled: its place among the parts, the settling entry and the result
pub record Part : Type 0 where
  pub place : ℕ
  pub at : ℕ
  pub result : JobResult

abbrev pub is_completion_of : PromiseId → Completion → Bool
is_completion_of id completion = same_promise id completion.promise

abbrev pub completion_in : List Completion → PromiseId → Option Completion
completion_in completions id = find (is_completion_of id) completions

abbrev pub settled_part : ℕ → Completion → Part
settled_part place completion = record { place = place; at = completion.at.0; result = completion.result }

-- those of the parts that are settled, which have places from this one on
abbrev pub settled_parts : List Completion → ℕ → List PromiseId → List Part
settled_parts completions place [] = []
settled_parts completions place (id ∷ others) =
    option_to_list (option_map (settled_part place) (completion_in completions id)) ++ settled_parts completions (place + 1) others

abbrev pub is_success : JobResult → Bool
is_success (results.Value value) = true
is_success _ = false

abbrev pub successes : List Part → List Part
successes parts = filter (λ (part : Part). is_success part.result) parts

abbrev pub failures : List Part → List Part
failures parts = filter (λ (part : Part). not (is_success part.result)) parts

abbrev pub earlier : Part → Option Part → Part
earlier part None = part
earlier part (Some other) = if nat_le part.at other.at then part else other

-- the first by (settling entry, place), of parts in the order of their places
abbrev pub first : List Part → Option Part
first [] = None
first (part ∷ others) = Some (earlier part (first others))

abbrev pub later : Part → Option Part → Part
later part None = part
later part (Some other) = if nat_lt other.at part.at then part else other

-- the last by (settling entry, place)
abbrev pub last : List Part → Option Part
last [] = None
last (part ∷ others) = Some (later part (last others))

-- the last, once all parts are settled
abbrev pub last_of_all : ℕ → List Part → Option Part
last_of_all count parts = if length parts == count then last parts else None

-- a composite is settled with a part, and never before its own entry
abbrev pub settled_with : Composite → JobResult → Part → Completion
settled_with composite result part = record { promise = composite.id; at = record { 0 = max composite.id.0.0 part.at }; result = result }

-- as a part was
abbrev pub as_part : Composite → Part → Completion
as_part composite part = settled_with composite part.result part

abbrev pub counted : ℕ → JobResult
counted n = results.Value (pos n)

-- the result of the first part that failed, else the number of parts
abbrev pub joined : Option Part → ℕ → JobResult
joined None count = counted count
joined (Some part) count = part.result

-- how a composite of so many parts is settled, by those of them that are
abbrev pub composed : Composite → Compose → ℕ → List Part → Option Completion
composed composite ways.All count parts =
    option_or (option_map (as_part composite) (first (failures parts))) (option_map (settled_with composite (counted count)) (last_of_all count parts))
composed composite ways.Any count parts =
    option_or
    (option_map (λ (part : Part). settled_with composite (counted part.place) part) (first (successes parts)))
    (option_map (as_part composite) (last_of_all count parts))
composed composite ways.Join count parts = option_map (settled_with composite (joined (first (failures parts)) count)) (last_of_all count parts)

abbrev pub with_composite : List Completion → Composite → List Completion
with_composite completions composite =
    completions ++ option_to_list (composed composite composite.way (length composite.parts) (settled_parts completions 0 composite.parts))

-- All promises that are settled. A composite was made later than its parts, so that one pass over the composites in the
-- order of making, each by those before it, finds all.
abbrev pub completions : List Traced → List Completion
completions history = fold with_composite (completed history) (composites history)

-- how a promise is settled, where it is
abbrev pub completion_at : List Traced → PromiseId → Option Completion
completion_at history id = completion_in (completions history) id

abbrev pub is_settled : List Traced → PromiseId → Bool
is_settled history id = is_some (completion_at history id)
