-- In a legal history each Await that waits is of a promise that is not settled.
use Rattle.vx_call.proofs.Legal.{legal_front}
use Rattle.std.proofs.Common.{◌≡◌, ◌<◌, List, [], ◌∷◌, ◌++◌, length, refl, ap, sym, ◌∙◌, subst, arith}
use Rattle.std.specs.Prelude.{Bool, true, false, not, ◌&&◌, cond, fold, is_some, ◌==◌, Option, None, Some}
use Rattle.std.specs.Option.{option_or}
use Rattle.std.proofs.lemmas.List.Sums.{fold-append}
use Rattle.std.proofs.lemmas.List.{length_push, append-nil}
use Rattle.vx_data.specs.declared.ids.PassNo.{PassNo}
use Rattle.vx_data.specs.declared.ids.ContextId.{ContextId}
use Rattle.vx_data.specs.declared.ids.PromiseId.{PromiseId}
use Rattle.vx_call.specs.declared.call.Call.{Call}
use Rattle.vx_call.specs.declared.call.Call.TheVariants as calls
use Rattle.vx_call.specs.declared.reply.Refusal.TheVariants as refusals
use Rattle.vx_call.specs.declared.history.Traced.{Traced}
use Rattle.vx_call.specs.History.{is_accepted, made_by, ended_by}
use Rattle.vx_call.specs.Promises.{promises, is_promise, Composite, composite_kind, composites}
use Rattle.vx_call.specs.Completions.{with_composite, completed_kind, completed_made, completed, completions, completion_in, completion_at, is_settled}
use Rattle.vx_call.specs.Awaits.{Await, await_made}
use Rattle.vx_call.specs.Promised.{await_ended, wait_kind, waits}
use Rattle.vx_call.specs.Refusals.{spent, shut, no_context, no_promise}
use Rattle.vx_call.specs.Rows.{await_refusal, await_row}
use Rattle.vx_call.specs.Machine.{answer, IsLegal}
use Rattle.vx_call.proofs.Lasting.{lasting-append, lasting_more, lasting_none, and_false}
use Rattle.vx_call.proofs.Each.{Each, Each-append, Each-filter, weaken, accepted, not_true, by_entries}
use Rattle.vx_call.proofs.Found.{earlier_name}
use Rattle.vx_call.proofs.Below.{not_refused, under, second}
use Rattle.vx_call.proofs.Completed.{composites-append, new_composites}
use Rattle.vx_call.proofs.Skipping.{IsNone, all_other, either_first, not_so, named_earlier, promises_earlier}

-- an entry of no Complete and no FailPromise settles none of the promises that were made before it
quiet_settled : (history : List Traced) (new : Traced) (id : PromiseId) → made_by completed_kind history new ≡ [] → id.0.0 < length history → completion_at (history ++ new ∷ []) id ≡ completion_at history id
quiet_settled history new id none before =
    let after = history ++ new ∷ [] in
    let made = made_by composite_kind history new in
    let same : completed after ≡ completed history =
    lasting_more completed_kind history new (λ c. and_false (is_accepted new.entry.reply)) ∙ ap (λ xs. completed history ++ xs) none ∙ append-nil (completed history) in
    let others : IsNone made id = weaken (λ (c : Composite). c.id.0.0 ≡ length history) (λ (c : Composite). (id.0.0 == c.id.0.0) ≡ false) made (λ c keyed. earlier_name id.0.0 c.id.0.0 (omega arith)) (new_composites history new).keyed in
    ap (λ all. completion_in all id)
    (ap (λ xs. fold with_composite xs (composites after)) same ∙ ap (fold with_composite (completed history)) (composites-append history new) ∙ fold-append with_composite (completed history) (composites history) made)
    ∙ all_other made (completions history) id others

-- a promise that was made, and is not settled
record IsOpen (history : List Traced) (await : Await) : Type 0 where
  earlier : await.promise.0.0 < length history
  open_yet : completion_at history await.promise ≡ None

none_of : {A : Type 0} (o : Option A) → is_some o ≡ false → o ≡ None
none_of None none = refl
none_of (Some x) none = absurd cc

false_second : (a b : Bool) → a ≡ true → (a && b) ≡ false → b ≡ false
false_second true b on none = none
false_second false b on none = absurd cc

-- one that an entry does not end is of a promise that it does not settle
keeps_open : (history : List Traced) (new : Traced) (call : Call) (await : Await) → new.entry.call ≡ call → is_accepted new.entry.reply ≡ true → await_ended history new call await ≡ false → IsOpen history await →
    completion_at (history ++ new ∷ []) await.promise ≡ None
keeps_open history new (calls.Complete id value) await is_call ok stays known = none_of (completion_at (history ++ new ∷ []) await.promise) stays
keeps_open history new (calls.FailPromise id code) await is_call ok stays known = none_of (completion_at (history ++ new ∷ []) await.promise) stays
keeps_open history new _ await is_call ok stays known =
    quiet_settled history new await.promise (ap (λ b. cond b (completed_made history new.entry.call) []) ok ∙ ap (completed_made history) is_call) known.earlier ∙ known.open_yet

still_open : (history : List Traced) (new : Traced) (await : Await) → ended_by wait_kind history new await ≡ false → IsOpen history await → IsOpen (history ++ new ∷ []) await
still_open history new await stays known =
    let longer = length_push history new in
    let before : await.promise.0.0 < length history = known.earlier in
    record {
      earlier = omega arith;
      open_yet = elim (is_accepted new.entry.reply) as (λ b. is_accepted new.entry.reply ≡ b → completion_at (history ++ new ∷ []) await.promise ≡ None) [
        | true ↦ λ ok. keeps_open history new new.entry.call await refl ok (false_second (is_accepted new.entry.reply) _ ok stays) known
        | false ↦ λ refused. quiet_settled history new await.promise (ap (λ b. cond b (completed_made history new.entry.call) []) refused) known.earlier ∙ known.open_yet
      ] refl;
    }

promise_known : (history : List Traced) (pass : PassNo) (context : ContextId) (promise : PromiseId) → is_accepted (answer history pass (calls.Await context promise)) ≡ true → promise.0.0 < length history
promise_known history pass context promise ok =
    let call = calls.Await context promise in
    let above = option_or (spent history) (shut history call) in
    let row = await_row history pass context promise in
    let none : await_refusal history pass context promise ≡ None = not_refused (await_refusal history pass context promise) _ (under above row (not_refused above row ok) ok) in
    named_earlier (length history) promise (promises history) (promises_earlier history)
    (not_so (not (is_promise history promise)) refusals.NoPromise (either_first (no_promise history promise) _ (second (no_context history context) _ none)))

made_open : (history : List Traced) (new : Traced) (call : Call) → new.entry.call ≡ call → is_accepted new.entry.reply ≡ true → new.entry.reply ≡ answer history new.entry.pass call →
    Each (λ (await : Await). not (is_settled history await.promise) ≡ true → IsOpen (history ++ new ∷ []) await) (await_made history call)
made_open history new (calls.Await context promise) is_call ok answered =
    let longer = length_push history new in
    let before : promise.0.0 < length history = promise_known history new.entry.pass context promise (ap is_accepted (sym answered) ∙ ok) in (
      λ unsettled. record {
        earlier = omega arith;
        open_yet = quiet_settled history new promise (ap (λ b. cond b (completed_made history new.entry.call) []) ok ∙ ap (completed_made history) is_call) before
            ∙ none_of (completion_at history promise) (not_true (is_settled history promise) unsettled);
      },
      tt,
    )
made_open history new _ is_call ok answered = tt

waits_open : (history : List Traced) → IsLegal history → Each (IsOpen history) (waits history)
waits_open =
    by_entries (λ history. IsLegal history → Each (IsOpen history) (waits history))
    (λ legal. let P : List Await → Type 0 = Each (IsOpen []) in subst P (sym (lasting_none wait_kind)) tt)
    (λ history new before legal.
    let may = legal history new [] refl in
    let after = history ++ new ∷ [] in
    let P : List Await → Type 0 = Each (IsOpen after) in
    subst P (sym (lasting-append wait_kind history new))
    (Each-append (IsOpen after) _ (made_by wait_kind history new)
    (Each-filter (IsOpen history) (IsOpen after) _ (waits history) (λ await stays known. still_open history new await (not_true (ended_by wait_kind history new await) stays) known) (before (legal_front history (new ∷ []) legal)))
    (accepted (IsOpen after) (is_accepted new.entry.reply) _
    (λ ok. Each-filter (λ (await : Await). not (is_settled history await.promise) ≡ true → IsOpen after await) (IsOpen after) _ (await_made history new.entry.call) (λ await passes holds. holds passes)
    (made_open history new new.entry.call refl ok may.answered)))))

-- what waits is not settled
pub waits_unsettled : (history : List Traced) → IsLegal history → Each (λ (await : Await). is_settled history await.promise ≡ false) (waits history)
waits_unsettled history legal = weaken (IsOpen history) (λ (await : Await). is_settled history await.promise ≡ false) (waits history) (λ await known. ap is_some known.open_yet) (waits_open history legal)
