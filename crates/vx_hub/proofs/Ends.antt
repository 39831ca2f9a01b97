-- The end of a task, and the verticle that comes back then.
use Rattle.std.proofs.Common.{◌≡◌, ◌<◌, ◌^◌, List, length, refl, ◌∙◌}
use Rattle.std.specs.Prelude.{ℤ, is_some, Option, Result}
use Rattle.std.specs.Option.{option_to_list}
use Rattle.vx_data.specs.declared.ids.PassNo.{PassNo}
use Rattle.vx_call.specs.declared.call.Call.TheVariants as calls
use Rattle.vx_call.specs.declared.call.End.{End}
use Rattle.vx_call.specs.declared.reply.Refusal.{Refusal}
use Rattle.vx_call.specs.declared.history.Traced.{Traced}
use Rattle.vx_call.specs.History.{entry_of, no_mark}
use Rattle.vx_call.specs.Machine.{IsLegal}
use Rattle.vx_core_life.specs.Stands as lives
use Rattle.vx_core_life.specs.Stands.{finished}
use Rattle.vx_hub.specs.Counts.{with_entry}
use Rattle.vx_hub.specs.Handing.{gave_in}
use Rattle.vx_hub.specs.Stores.{HubStore}
use Rattle.vx_hub.proofs.Calls.{Goes, goes, keeping_time}
use Rattle.vx_hub.proofs.Handing.{finish_fits}

-- the entry of a Finish goes on, whatever verticles are kept then
pub ends : (old new : HubStore) (pass : PassNo) (end : End) (ended : Result Unit Refusal) (state : Option (List ℤ)) → old.counts.entries < 2 ^ 48 → new.counts ≡ with_entry old.counts (calls.Finish end) (finished ended) →
    new.passes ≡ old.passes → new.now ≡ old.now → is_some state ≡ gave_in old.contexts pass →
    ((history : List Traced) (states : List (List ℤ)) → lives.AllStand old.life old.contexts old.timers old.bus history → IsLegal history → old.counts.entries ≡ length history →
    lives.LivesFollow new.life new.contexts new.timers new.bus history (entry_of pass (calls.Finish end) (finished ended) states no_mark)) →
    Goes old new pass (calls.Finish end) (finished ended) (option_to_list state)
ends old new pass end ended state small more passes now there follows =
    goes old new pass (calls.Finish end) (finished ended) (option_to_list state) refl small more (finish_fits old pass end state there)
    (λ history stands legal is_next.
    keeping_time new.passes new.now new.life new.contexts new.timers new.bus history (entry_of pass (calls.Finish end) (finished ended) (option_to_list state) no_mark) refl refl
    (passes ∙ stands.passes) (now ∙ stands.now) stands.named (follows history (option_to_list state) stands.all legal is_next))
