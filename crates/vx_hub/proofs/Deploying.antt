-- A Deploy, and the verticles that come with it.
use Rattle.std.proofs.Common.{◌≡◌, ℕ, ◌≤◌, ◌<◌, ◌^◌, List, [], length, refl, ap, sym, ◌∙◌, subst, arith}
use Rattle.std.specs.Prelude.{ℤ, Bool, true, nat_le, Option, None, Some}
use Rattle.std.proofs.lemmas.Bool.Decides.{nat_tests}
use Rattle.std.proofs.Math.Bool.{Bool-set}
use Rattle.std.proofs.Math.Logic.{∥∥₁_elim}
use Rattle.vx_data.specs.declared.ids.ContextId.{ContextId}
use Rattle.vx_data.specs.declared.ids.EntryNo.{EntryNo}
use Rattle.vx_data.specs.declared.ids.PassNo.{PassNo}
use Rattle.vx_timer.specs.declared.timers.Timer.{Timer}
use Rattle.vx_call.specs.declared.call.Call.TheVariants as calls
use Rattle.vx_call.specs.declared.reply.Refusal.{Refusal}
use Rattle.vx_call.specs.declared.reply.Reply.{Reply}
use Rattle.vx_call.specs.declared.reply.Reply.TheVariants as replies
use Rattle.vx_call.specs.declared.history.Traced.{Traced}
use Rattle.vx_call.specs.Closings.{hub_closed_at}
use Rattle.vx_call.specs.History.{entry_of, no_mark}
use Rattle.vx_call.specs.Machine.{IsLegal}
use Rattle.vx_call.specs.Names.{next_deployment}
use Rattle.vx_call.specs.Refusals.{unless_refused, shut_since, bad_count, no_context, no_pool, not_your_context, closed_if_named, holder_stopping, if_named}
use Rattle.vx_call.specs.Rows.{deploy_refusal, deploy_row}
use Rattle.vx_life.specs.Stores.{LifeStore}
use Rattle.vx_life.specs.Stands.{LifeStands}
use Rattle.vx_context.specs.Stores.{ContextStore}
use Rattle.vx_context.specs.Stands.{IsNext}
use Rattle.vx_bus_store.specs.Stores.{BusStore}
use Rattle.vx_bus_refusals.proofs.Chains.{none_of_first, none_of_second}
use Rattle.vx_core_life.specs.Stands as lives
use Rattle.vx_core_life.proofs.RowLoops.{counted}
use Rattle.vx_hub.specs.Counts.{with_entry}
use Rattle.vx_hub.specs.Handing.{settles}
use Rattle.vx_hub.specs.Stores.{HubStore}
use Rattle.vx_hub.specs.declared.verticles.Why.{Why}
use Rattle.vx_hub.specs.declared.verticles.Why.TheVariants as whys
use Rattle.vx_hub.proofs.Calls.{Goes, Fits, goes, keeping_time}

-- ## What a Deploy is answered

within : (count : ℕ) → count ≤ 64 → nat_le count 64 ≡ true
within count few = grind (arith, nat_tests)

-- one that is not refused is of at most 64 verticles
few_deployed : (history : List Traced) (pass : PassNo) (pool : Option (List ℕ)) (tell : Option ContextId) (count : ℕ) → deploy_refusal history pass pool tell count ≡ None → nat_le count 64 ≡ true
few_deployed history pass pool tell count free =
    within count (counted 64 count (none_of_first (bad_count 64 count) (holder_stopping history pass)
    (none_of_second (closed_if_named history pass tell) _
    (none_of_second (if_named (not_your_context history pass) tell) _ (none_of_second (no_pool history pool) _ (none_of_second (if_named (no_context history) tell) _ free)))))).greatest

settles_so : (history : List Traced) (pass : PassNo) (pool : Option (List ℕ)) (tell : Option ContextId) (count : ℕ) → settles (deploy_row history pass pool tell count) count ≡ true
settles_so history pass pool tell count =
    elim (deploy_refusal history pass pool tell count) as (λ o. deploy_refusal history pass pool tell count ≡ o → settles (unless_refused o (replies.Deployment (next_deployment history))) count ≡ true) [
      | None ↦ λ free. few_deployed history pass pool tell count free
      | Some why ↦ λ is. refl
    ] refl

-- the row's reply deploys at most 64 verticles, or refuses
pub settled : (at : EntryNo) (old_life life : LifeStore) (old_contexts contexts : ContextStore) (timers : List Timer) (old_bus bus : BusStore) (pass : PassNo) (worker : Bool) (pool : Option (List ℕ)) (tell : Option ContextId) (number count : ℕ) (reply : Reply) → number ≡ count →
    lives.AreAt at old_life old_contexts timers old_bus →
    ((history : List Traced) (states : List (List ℤ)) → lives.AllStand old_life old_contexts timers old_bus history → IsLegal history → IsNext at history →
    lives.LivesFollow life contexts timers bus history (entry_of pass (calls.Deploy worker pool tell number) reply states no_mark)) →
    settles reply count ≡ true
settled at old_life life old_contexts contexts timers old_bus bus pass worker pool tell number count reply same one follows =
    let P : ℕ → Type 0 = λ n. settles reply n ≡ true in
    subst P same (∥∥₁_elim one (Bool-set (settles reply number) true) (λ p.
    ap (λ r. settles r number) (follows p.0 [] p.1.1.1 p.1.0 p.1.1.0).answered ∙ settles_so p.0 pass pool tell number))

-- ## The entry

-- the hub is not closed, and as many states go with the entry as verticles come with it
pub deploy_fits : (old : HubStore) (pass : PassNo) (worker : Bool) (pool : Option (List ℕ)) (tell : Option ContextId) (count : ℕ) (states : List (List ℤ)) → length states ≡ count →
    ((history : List Traced) → LifeStands old.life history → None ≡ shut_since (hub_closed_at history)) → Fits old pass (calls.Deploy worker pool tell count) states
deploy_fits old pass worker pool tell count states same opened = λ history stands. (sym (opened history stands.parts.all.lives), same)

-- the entry of a Deploy goes on, whatever verticles are kept then
pub deploys : (old new : HubStore) (pass : PassNo) (worker : Bool) (pool : Option (List ℕ)) (tell : Option ContextId) (number count : ℕ) (reply : Reply) (states : List (List ℤ)) → number ≡ count →
    old.counts.entries < 2 ^ 48 → new.counts ≡ with_entry old.counts (calls.Deploy worker pool tell count) reply → new.passes ≡ old.passes → new.now ≡ old.now → length states ≡ count →
    ((history : List Traced) → LifeStands old.life history → None ≡ shut_since (hub_closed_at history)) →
    ((history : List Traced) (states : List (List ℤ)) → lives.AllStand old.life old.contexts old.timers old.bus history → IsLegal history → old.counts.entries ≡ length history →
    lives.LivesFollow new.life new.contexts new.timers new.bus history (entry_of pass (calls.Deploy worker pool tell number) reply states no_mark)) →
    Goes old new pass (calls.Deploy worker pool tell count) reply states
deploys old new pass worker pool tell number count reply states counted small more passes now same opened follows =
    goes old new pass (calls.Deploy worker pool tell count) reply states refl small more (deploy_fits old pass worker pool tell count states same opened)
    (λ history stands legal is_next.
    let F : ℕ → Type 0 = λ n. lives.LivesFollow new.life new.contexts new.timers new.bus history (entry_of pass (calls.Deploy worker pool tell n) reply states no_mark) in
    keeping_time new.passes new.now new.life new.contexts new.timers new.bus history (entry_of pass (calls.Deploy worker pool tell count) reply states no_mark) refl refl
    (passes ∙ stands.passes) (now ∙ stands.now) stands.named (subst F counted (follows history states stands.all legal is_next)))

-- ## Why verticles come back

pub same_why : (one other : Refusal) → whys.Refused one ≡ whys.Refused other → one ≡ other
same_why one other is = ap why_in is
  where
    why_in : Why → Refusal
    why_in (whys.Refused why) = why
    why_in whys.NoMemory = one
