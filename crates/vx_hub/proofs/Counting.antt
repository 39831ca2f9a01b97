-- What one more entry adds to what is counted.
use Rattle.std.proofs.Common.{◌≡◌, ℕ, List, [], ◌∷◌, ◌++◌, length, refl, ap}
use Rattle.std.specs.Prelude.{ℤ, Bool, true, false, ◌&&◌, cond, Option, Result, Ok, Err}
use Rattle.std.proofs.lemmas.List.{length_push}
use Rattle.std.proofs.lemmas.List.Sums.{sum_by_push}
use Rattle.vx_data.specs.declared.ids.ContextId.{ContextId}
use Rattle.vx_data.specs.declared.ids.PassNo.{PassNo}
use Rattle.vx_message.specs.declared.Lane.{Lane}
use Rattle.vx_call.specs.declared.call.Call.{Call}
use Rattle.vx_call.specs.declared.call.Call.TheVariants as calls
use Rattle.vx_call.specs.declared.call.End.{End}
use Rattle.vx_call.specs.declared.reply.Refusal.{Refusal}
use Rattle.vx_call.specs.declared.reply.Reply.{Reply}
use Rattle.vx_call.specs.declared.reply.Reply.TheVariants as replies
use Rattle.vx_call.specs.declared.history.Traced.{Traced}
use Rattle.vx_call.specs.History.{is_accepted, entry_of, no_mark}
use Rattle.vx_call.specs.Summary.{makes_message, delivers}
use Rattle.vx_hub.specs.Counts.{Counted, counted, one_more, with_entry}
use Rattle.vx_hub.specs.Handing.{settles}
use Rattle.vx_hub.specs.Stores.{HubStore}
use Rattle.vx_core_life.specs.Stands.{finished}
use Rattle.vx_hub.specs.Stands.{HubStands}

pub counted_more : (history : List Traced) (pass : PassNo) (call : Call) (reply : Reply) (states : List (List ℤ)) → counted (history ++ entry_of pass call reply states no_mark ∷ []) ≡ with_entry (counted history) call reply
counted_more history pass call reply states =
    let entry = entry_of pass call reply states no_mark in
    let entries = length_push history entry in
    let messages = sum_by_push (λ (new : Traced). cond (is_accepted new.entry.reply && makes_message new.entry.call new.mark.deed) 1 0) history entry in
    let deliveries = sum_by_push (λ (new : Traced). cond (delivers new.entry.reply) 1 0) history entry in
    λ i. record { entries = entries i; messages = messages i; deliveries = deliveries i }

pub entries_of : (hub : HubStore) (history : List Traced) → HubStands hub history → hub.counts.entries ≡ length history
entries_of hub history stands = ap (λ (counts : Counted). counts.entries) stands.counts

-- ## Calls that make no message

made_none : (b : Bool) → false ≡ (b && false)
made_none true = refl
made_none false = refl

pub take_counted : (counts : Counted) (lane : Lane) (reply : Reply) → one_more counts false (delivers reply) ≡ with_entry counts (calls.Take lane) reply
take_counted counts lane reply = ap (λ made. one_more counts made (delivers reply)) (made_none (is_accepted reply))

pub finish_counted : (counts : Counted) (end : End) (ended : Result Unit Refusal) → one_more counts false false ≡ with_entry counts (calls.Finish end) (finished ended)
finish_counted counts end (Ok _) = refl
finish_counted counts end (Err refusal) = refl

pub deploy_counted : (counts : Counted) (worker : Bool) (pool : Option (List ℕ)) (tell : Option ContextId) (count : ℕ) (reply : Reply) → settles reply count ≡ true → one_more counts false false ≡ with_entry counts (calls.Deploy worker pool tell count) reply
deploy_counted counts worker pool tell count (replies.Deployment id) settled = refl
deploy_counted counts worker pool tell count (replies.Refused why) settled = refl
deploy_counted counts worker pool tell count _ settled = absurd cc
