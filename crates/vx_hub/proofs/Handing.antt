-- The verticles that the hub keeps, as its calls go on.
use Rattle.std.proofs.Common.{◌≡◌, ℕ, List, [], ◌∷◌, ◌++◌, length, refl, ap, sym, ◌∙◌}
use Rattle.std.specs.Prelude.{ℤ, Bool, true, false, ◌&&◌, cond, find, is_some, Option, None, Some}
use Rattle.std.specs.Option.{option_map, option_to_list}
use Rattle.vx_data.specs.declared.ids.ContextId.{ContextId}
use Rattle.vx_data.specs.declared.ids.DeploymentId.{DeploymentId}
use Rattle.vx_data.specs.declared.ids.EntryNo.{EntryNo}
use Rattle.vx_data.specs.declared.ids.PassNo.{PassNo}
use Rattle.vx_message.specs.declared.Context.{Context}
use Rattle.vx_message.specs.declared.Lane.{Lane}
use Rattle.vx_call.specs.declared.call.Call.{Call}
use Rattle.vx_call.specs.declared.call.Call.TheVariants as calls
use Rattle.vx_call.specs.declared.call.End.{End}
use Rattle.vx_call.specs.declared.reply.Refusal.{Refusal}
use Rattle.vx_call.specs.declared.reply.Reply.{Reply}
use Rattle.vx_call.specs.declared.reply.Reply.TheVariants as replies
use Rattle.vx_call.specs.declared.history.Traced.{Traced}
use Rattle.vx_call.specs.History.{is_accepted, entry_of, plain_entry, no_mark}
use Rattle.vx_call.specs.Closings.{closing_by}
use Rattle.vx_call.specs.Contexts.{contexts}
use Rattle.vx_call.specs.Deployments.{deployment_of, deployment_of_held}
use Rattle.vx_call.specs.Held.{held_context}
use Rattle.vx_call.specs.Machine.{MayFollow}
use Rattle.vx_call.specs.Plain.{is_plain}
use Rattle.vx_context.specs.Stores.{ContextStore}
use Rattle.vx_context.specs.Stands.{ContextsStand}
use Rattle.vx_instances.specs.Instances.{instances, handler_in, gives, gave}
use Rattle.vx_instances.specs.Kept.{Kept, put_if, state_if, without_any, kept_from}
use Rattle.vx_instances.proofs.Handing.{hands_out, nothing_back}
use Rattle.vx_instances.proofs.Deploys.{deploy_row}
use Rattle.vx_instances.proofs.Rows.{moves_verticles, closes_all, may_end, quiet_row, refused_row, closing_row, close_row, take_row, finish_row}
use Rattle.vx_laws.proofs.Running.{holds_taken}
use Rattle.vx_hub.specs.Handing.{held_context_in, is_verticle_in, gave_in, handed_in, kept_back, left_open, ending_in}
use Rattle.vx_hub.specs.Stores.{HubStore}
use Rattle.vx_hub.specs.Stands.{StandsFor}
use Rattle.vx_hub.proofs.Counting.{entries_of}
use Rattle.vx_hub.proofs.Calls.{GoesOn, Fits, KeepsVerticles}
use Rattle.vx_hub.proofs.LeftOpen.{remaining, left_is, left_refused, left_as}

-- ## Plain calls

-- one that may end a start or a stop: the verticle of the context that closes goes
ends_keep : (old new : HubStore) (pass : PassNo) (call : Call) (reply : Reply) → may_end call ≡ true → moves_verticles call ≡ false → closes_all call ≡ false →
    new.instances ≡ left_open new.contexts (held_context_in old.contexts.held pass) old.instances → KeepsVerticles old new pass call reply []
ends_keep old new pass call reply may still other is_new = λ history stands on.
    let entry = plain_entry pass call reply no_mark in
    let context = held_context history pass in
    let now : new.instances ≡ remaining history entry may context (instances history) =
    is_new ∙ ap (λ hs. left_open new.contexts (held_context_in hs pass) old.instances) stands.parts.parts.all.stores.contexts.held
    ∙ ap (left_open new.contexts context) stands.instances ∙ left_as history entry may new.contexts on.parts.parts.all.stores.contexts context (instances history) in
    elim (is_accepted reply) as (λ b. is_accepted reply ≡ b → new.instances ≡ instances (history ++ entry ∷ [])) [
      | true ↦ λ ok. now ∙ left_is history entry may ok ∙ sym (closing_row history entry ok still other)
      | false ↦ λ refused. now ∙ left_refused history entry may refused ∙ sym (refused_row history entry refused)
    ] refl

-- the closing of the hub: all go
close_keeps : (old new : HubStore) (pass : PassNo) (reply : Reply) → new.instances ≡ cond (is_accepted reply && true) [] old.instances → KeepsVerticles old new pass calls.Close reply []
close_keeps old new pass reply is_new = λ history stands on.
    let entry = plain_entry pass calls.Close reply no_mark in
    elim (is_accepted reply) as (λ b. is_accepted reply ≡ b → new.instances ≡ cond (b && true) [] old.instances → new.instances ≡ instances (history ++ entry ∷ [])) [
      | true ↦ λ ok is. is ∙ sym (close_row history entry ok refl)
      | false ↦ λ refused is. is ∙ stands.instances ∙ sym (refused_row history entry refused)
    ] refl is_new

-- a call that does neither: all stay
pub quiet_keeps : (old new : HubStore) (pass : PassNo) (call : Call) (reply : Reply) → moves_verticles call ≡ false → closes_all call ≡ false → may_end call ≡ false → new.instances ≡ old.instances → KeepsVerticles old new pass call reply []
quiet_keeps old new pass call reply still other quiet same = λ history stands on. same ∙ stands.instances ∙ sym (quiet_row history (plain_entry pass call reply no_mark) still other quiet)

unless_closing : (old new : HubStore) (context : Option ContextId) (b : Bool) → new.instances ≡ cond (b && false) [] (left_open new.contexts context old.instances) → new.instances ≡ left_open new.contexts context old.instances
unless_closing old new context true is = is
unless_closing old new context false is = is

pub step_keeps : (old new : HubStore) (pass : PassNo) (call : Call) (reply : Reply) → is_plain call ≡ true →
    new.instances ≡ cond (is_accepted reply && closes_all call) [] (left_open new.contexts (ending_in call (held_context_in old.contexts.held pass)) old.instances) → KeepsVerticles old new pass call reply []
step_keeps old new pass (calls.Deploy worker pool tell count) reply plain is_new = absurd cc
step_keeps old new pass (calls.Take lane) reply plain is_new = absurd cc
step_keeps old new pass (calls.Finish end) reply plain is_new = absurd cc
step_keeps old new pass (calls.StartDone result) reply plain is_new =
    ends_keep old new pass (calls.StartDone result) reply refl refl refl (unless_closing old new (held_context_in old.contexts.held pass) (is_accepted reply) is_new)
step_keeps old new pass calls.StopDone reply plain is_new = ends_keep old new pass calls.StopDone reply refl refl refl (unless_closing old new (held_context_in old.contexts.held pass) (is_accepted reply) is_new)
step_keeps old new pass calls.Close reply plain is_new = close_keeps old new pass reply is_new
step_keeps old new pass call reply plain is_new = quiet_keeps old new pass call reply refl refl refl (unless_closing old new None (is_accepted reply) is_new)

pub refused_keeps : (old new : HubStore) (pass : PassNo) (call : Call) (why : Refusal) (states : List (List ℤ)) → new.instances ≡ old.instances → KeepsVerticles old new pass call (replies.Refused why) states
refused_keeps old new pass call why states same = λ history stands on. same ∙ stands.instances ∙ sym (refused_row history (entry_of pass call (replies.Refused why) states no_mark) refl)

-- ## A Deploy

pub deploy_keeps : (old new : HubStore) (at : EntryNo) (pass : PassNo) (worker : Bool) (pool : Option (List ℕ)) (tell : Option ContextId) (id : DeploymentId) (states : List (List ℤ)) (count : ℕ) → length states ≡ count → at.0 ≡ old.counts.entries →
    new.instances ≡ old.instances ++ kept_from at 0 states → KeepsVerticles old new pass (calls.Deploy worker pool tell count) (replies.Deployment id) states
deploy_keeps old new at pass worker pool tell id states count many is_at is_new = λ history stands on.
    let from : ℕ → List Kept = λ n. kept_from (record { 0 = n }) 0 states in
    is_new ∙ ap (λ kept. kept ++ kept_from at 0 states) stands.instances ∙ ap (λ n. instances history ++ from n) (is_at ∙ entries_of old history stands.parts)
    ∙ sym (deploy_row history stands.legal pass worker pool tell id states no_mark count many)

-- ## What a Take hands out

-- the context whose handler the pass holds then is that of the task which it took
pub handed_as : (old new : HubStore) (history : List Traced) (pass : PassNo) (lane : Lane) (reply : Reply) → GoesOn new history (plain_entry pass (calls.Take lane) reply no_mark) → handed_in reply (held_context_in new.contexts.held pass) ≡ handler_in history reply
handed_as old new history pass lane (replies.Task task) on =
    ap (λ hs. held_context_in hs pass) on.parts.parts.all.stores.contexts.held ∙ holds_taken history (plain_entry pass (calls.Take lane) (replies.Task task) no_mark) lane task refl refl on.may
handed_as old new history pass lane _ on = refl

pub take_keeps : (old new : HubStore) (pass : PassNo) (lane : Lane) (reply : Reply) → new.instances ≡ put_if (handed_in reply (held_context_in new.contexts.held pass)) None old.instances →
    KeepsVerticles old new pass (calls.Take lane) reply []
take_keeps old new pass lane reply is_new = λ history stands on.
    is_new ∙ ap (λ o. put_if o None old.instances) (handed_as old new history pass lane reply on) ∙ ap (put_if (handler_in history reply) None) stands.instances
    ∙ sym (take_row history pass lane [] no_mark reply)

given_out : (history : List Traced) (pass : PassNo) (lane : Lane) (reply : Reply) → (old : HubStore) → StandsFor old history → MayFollow history (plain_entry pass (calls.Take lane) reply no_mark) →
    state_if (handler_in history reply) (instances history) ≡ gives history (calls.Take lane) reply
given_out history pass lane (replies.Task task) old stands may = hands_out history stands.legal (plain_entry pass (calls.Take lane) (replies.Task task) no_mark) lane task may refl refl
given_out history pass lane _ old stands may = refl

-- the state of the verticle that is handed out
pub take_gives : (old new : HubStore) (history : List Traced) (pass : PassNo) (lane : Lane) (reply : Reply) (state : Option (List ℤ)) → StandsFor old history → GoesOn new history (plain_entry pass (calls.Take lane) reply no_mark) →
    state ≡ state_if (handed_in reply (held_context_in new.contexts.held pass)) old.instances → state ≡ gives history (calls.Take lane) reply
take_gives old new history pass lane reply state stands on is =
    is ∙ ap (λ o. state_if o old.instances) (handed_as old new history pass lane reply on) ∙ ap (state_if (handler_in history reply)) stands.instances ∙ given_out history pass lane reply old stands on.may

-- ## What a Finish gives back

gave_so : (made : List Context) (o : Option ContextId) (history : List Traced) → made ≡ contexts history → is_verticle_in made o ≡ is_some (deployment_of_held history o)
gave_so made None history same = refl
gave_so made (Some id) history same = ap (λ cs. is_verticle_in cs (Some id)) same ∙ some_if (is_verticle_in (contexts history) (Some id)) (deployment_of id)
  where
    some_if : (b : Bool) (d : DeploymentId) → b ≡ is_some (cond b (Some d) None)
    some_if true d = refl
    some_if false d = refl

-- the stores say whether the task of a pass handed a verticle out
pub gave_as : (contexts : ContextStore) (history : List Traced) (pass : PassNo) → ContextsStand contexts history → gave_in contexts pass ≡ gave history pass
gave_as contexts history pass stands =
    ap (λ hs. is_verticle_in contexts.made (held_context_in hs pass)) stands.held ∙ gave_so contexts.made (held_context history pass) history stands.made

-- what comes back is as much as goes with the entry
pub finish_fits : (old : HubStore) (pass : PassNo) (end : End) (state : Option (List ℤ)) → is_some state ≡ gave_in old.contexts pass → Fits old pass (calls.Finish end) (option_to_list state)
finish_fits old pass end state there = λ history stands. (refl, as_many state ∙ ap (λ b. cond b 1 0) (there ∙ gave_as old.contexts history pass stands.parts.all.stores.contexts))
  where
    as_many : (state : Option (List ℤ)) → length (option_to_list state) ≡ cond (is_some state) 1 0
    as_many None = refl
    as_many (Some state) = refl

-- it is put where the pass took it, or there is nothing to put
came_back : (history : List Traced) (pass : PassNo) (end : End) (state : Option (List ℤ)) → is_some state ≡ gave history pass →
    (let kept = without_any (closing_by history pass (calls.Finish end)) (instances history) in kept_back (held_context history pass) state kept ≡ put_if (held_context history pass) (find (λ s. true) (option_to_list state)) kept)
came_back history pass end None there =
    let kept = without_any (closing_by history pass (calls.Finish end)) (instances history) in
    nothing_kept (held_context history pass) kept ∙ sym (nothing_back history pass end None (sym there))
  where
    nothing_kept : (context : Option ContextId) (kept : List Kept) → kept_back context None kept ≡ kept
    nothing_kept None kept = refl
    nothing_kept (Some context) kept = refl
came_back history pass end (Some state) there = put_so (held_context history pass) (without_any (closing_by history pass (calls.Finish end)) (instances history))
  where
    put_so : (context : Option ContextId) (kept : List Kept) → kept_back context (Some state) kept ≡ put_if context (Some state) kept
    put_so None kept = refl
    put_so (Some context) kept = refl

pub finish_keeps : (old new : HubStore) (pass : PassNo) (end : End) (state : Option (List ℤ)) → is_some state ≡ gave_in old.contexts pass →
    new.instances ≡ kept_back (held_context_in old.contexts.held pass) state (left_open new.contexts (held_context_in old.contexts.held pass) old.instances) →
    KeepsVerticles old new pass (calls.Finish end) replies.Done (option_to_list state)
finish_keeps old new pass end state there is_new = λ history stands on.
    let entry = entry_of pass (calls.Finish end) replies.Done (option_to_list state) no_mark in
    let context = held_context history pass in
    let stores = stands.parts.parts.all.stores in
    let leaves : left_open new.contexts context old.instances ≡ without_any (closing_by history pass (calls.Finish end)) (instances history) =
    ap (left_open new.contexts context) stands.instances ∙ left_as history entry refl new.contexts on.parts.parts.all.stores.contexts context (instances history) ∙ left_is history entry refl refl in
    is_new ∙ ap (λ hs. kept_back (held_context_in hs pass) state (left_open new.contexts (held_context_in hs pass) old.instances)) stores.contexts.held
    ∙ ap (kept_back context state) leaves
    ∙ came_back history pass end state (there ∙ gave_as old.contexts history pass stores.contexts)
    ∙ sym (finish_row history stands.legal pass end (option_to_list state) no_mark)

pub some_mapped : {A B : Type 0} (f : A → B) (o : Option A) → is_some (option_map f o) ≡ is_some o
some_mapped f None = refl
some_mapped f (Some x) = refl
