-- Contexts that wait for the end of a promise, and what they get. (Vert.x core manual, "Asynchronous results",
-- `onComplete`: the handler is called at once where the promise is settled already.)
use Rattle.std.specs.Prelude.{Bool, not, List, [], ◌∷◌, ◌++◌, filter, flat_map, Option, None, Some}
use Rattle.vx_call.specs.declared.reply.Task.TheVariants as tasks
use Rattle.vx_call.specs.declared.call.Call.{Call}
use Rattle.vx_call.specs.declared.call.Call.TheVariants as calls
use Rattle.vx_call.specs.declared.history.Traced.{Traced}
use Rattle.vx_call.specs.History.{Kind, lasting}
use Rattle.vx_call.specs.Closings.{closes}
use Rattle.vx_call.specs.Awaits.{Await, await_made}
use Rattle.vx_call.specs.Completions.{Completion, completions, completion_in, is_settled}
use Rattle.vx_call.specs.Lives.{Ready}

-- whether an entry settles the promise that is awaited, if it was not settled before, or closes the context
abbrev pub await_ended : List Traced → Traced → Call → Await → Bool
await_ended before new (calls.Complete id value) await = is_settled (before ++ new ∷ []) await.promise
await_ended before new (calls.FailPromise id code) await = is_settled (before ++ new ∷ []) await.promise
await_ended before new call await = closes before new.entry.pass call await.context

-- an Await of a promise that is not settled waits until it is, or its context closes
abbrev pub wait_kind : Kind Await
wait_kind = record {
  made = λ before new. filter (λ (await : Await). not (is_settled before await.promise)) (await_made before new.entry.call);
  ended = λ before new await. await_ended before new new.entry.call await;
}

-- those that wait, in the order of making
abbrev pub waits : List Traced → List Await
waits history = lasting wait_kind history

abbrev pub end_for : Await → Option Completion → List Ready
end_for await None = []
end_for await (Some completion) = record { context = await.context; task = tasks.PromiseEnd await.id await.promise completion.result } ∷ []

-- what an Await gets by these completions
abbrev pub promise_end : List Completion → Await → List Ready
promise_end completions await = end_for await (completion_in completions await.promise)

-- the ends of the promises that an entry settles, for each that waits for one, in the order of making
abbrev pub promise_ends : List Traced → Traced → List Ready
promise_ends before new = flat_map (promise_end (completions (before ++ new ∷ []))) (waits before)

-- the end of a promise that was settled before it is awaited
abbrev pub promise_ended : List Traced → Call → List Ready
promise_ended before call = flat_map (promise_end (completions before)) (await_made before call)
