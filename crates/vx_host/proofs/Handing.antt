-- Verticles that are handed out, come back, and are deployed.
use Rattle.std.proofs.Common.{◌≡◌, Bool, true, false, cond, List, [], ◌∷◌, ◌++◌, refl, sym, ap, ◌∙◌, subst}
use Rattle.std.specs.Prelude.{ℤ, Option, is_some, Result, Ok, Err, IfOk, IfErr, MatchResult}
use Rattle.std.specs.Option.{option_or}
use Rattle.vx_data.specs.declared.ids.ContextId.{ContextId}
use Rattle.vx_data.specs.declared.ids.DeploymentId.{DeploymentId}
use Rattle.vx_data.specs.declared.ids.PassNo.{PassNo}
use Rattle.vx_message.specs.declared.Lane.{Lane}
use Rattle.vx_call.specs.declared.call.Call.{Call}
use Rattle.vx_call.specs.declared.call.Call.TheVariants as calls
use Rattle.vx_call.specs.declared.call.End.{End}
use Rattle.vx_call.specs.declared.reply.Refusal.{Refusal}
use Rattle.vx_call.specs.declared.reply.Refusal.TheVariants as refusals
use Rattle.vx_call.specs.declared.reply.Reply.{Reply}
use Rattle.vx_call.specs.declared.reply.Reply.TheVariants as replies
use Rattle.vx_call.specs.declared.reply.Task.{Task}
use Rattle.vx_call.specs.declared.history.Traced.{Traced}
use Rattle.vx_call.specs.History.{entry_of}
use Rattle.vx_call.specs.Effects.{marked}
use Rattle.vx_call.specs.Machine.{row, answer, IsLegal}
use Rattle.vx_call.specs.Passes.{passes}
use Rattle.vx_call.specs.Refusals.{is_spent, unless_refused, refused_if, shut}
use Rattle.vx_call.proofs.Legal.{legal_front}
use Rattle.vx_turn.specs.Entries.{is_in}
use Rattle.vx_turn.specs.Caller.{Caller, Came}
use Rattle.vx_turn.proofs.Numbers.{in_of}
use Rattle.vx_instances.specs.Instances.{gave}
use Rattle.vx_instances.proofs.Handing.{gave_taken}
use Rattle.vx_hub.specs.declared.verticles.DeployRefused.{DeployRefused}
use Rattle.vx_hub.specs.declared.verticles.FinishRefused.{FinishRefused}
use Rattle.vx_hub.specs.declared.verticles.Why.{Why}
use Rattle.vx_hub.specs.declared.verticles.Why.TheVariants as whys
use Rattle.vx_hub.specs.Handing.{gave_in}
use Rattle.vx_hub.specs.Passes.{pass_of}
use Rattle.vx_hub.specs.Stores.{HubStore}
use Rattle.vx_hub.specs.Stands.{AllStand, Meets}
use Rattle.vx_hub.proofs.Handing.{gave_as}
use Rattle.vx_host.specs.Turns.{pass_no, HasTurn, Adds, HasLeft}
use Rattle.vx_host.specs.Hub.{Takes, Finishes, Deploys}
use Rattle.vx_host.specs.Calls.{machine_entry, Called, Took, IfTask, AddedNothing}
use Rattle.vx_host.proofs.Calls.{the_hub, is_answered, adds_entry, has_made, still_stands, added_nothing}
use Rattle.vx_host.proofs.Holds.{gave_since}

-- ## A Take

not_spent : (history : List Traced) (pass : PassNo) (call : Call) (task : Task) → replies.Task task ≡ answer history pass call → is_spent history ≡ false
not_spent history pass call task answered =
    elim (is_spent history) as (λ b. replies.Task task ≡ unless_refused (option_or (refused_if b refusals.Spent) (shut history call)) (row history pass call) → b ≡ false) [ true ↦ λ no. absurd cc | false ↦ λ yes. refl ] answered

-- a pass that took a task holds it, with the verticle that it was handed
pub took_holds : (before after : Caller Traced) (lane : Lane) (reply : Reply) (context : Option ContextId) (state : Option (List ℤ)) (handed : Bool) → handed ≡ is_some state → Took before lane reply context state after → IfTask reply (handed ≡ gave after.seen (pass_no after))
took_holds before after lane (replies.Task task) context state handed is took =
    let called = took.called in
    let history = called.history in
    let pass = pass_no before in
    let call = calls.Take lane in
    let reply = replies.Task task in
    let new = entry_of pass call reply [] (marked history pass call reply) in
    let seen : after.seen ≡ history ++ new ∷ [] = called.seen ∙ ap (λ b. history ++ cond b [] (new ∷ [])) (not_spent history pass call task called.answered) in
    let legal : IsLegal (history ++ new ∷ []) = subst IsLegal seen called.is_legal in
    is ∙ ap is_some took.gives ∙ gave_taken history (legal_front history (new ∷ []) legal) new lane task (legal history new [] refl) refl refl
    ∙ ap (λ h. gave h pass) (sym seen) ∙ ap (λ n. let p : PassNo = record { 0 = n } in gave after.seen p) (sym called.number)
took_holds before after lane _ context state handed is took = tt

-- ## A Finish

-- a verticle that was handed out before the turn came is out still
gave_still : (before turn : Caller Traced) → is_in before.numbers before.number ≡ true → Came IsLegal pass_of passes before turn → gave before.seen (pass_no before) ≡ gave turn.seen (pass_no turn)
gave_still before turn own came =
    let no : pass_no before ≡ pass_no turn = ap (λ n. let p : PassNo = record { 0 = n } in p) (sym came.number) in
    sym (gave_since (pass_no before) before.numbers (in_of before.numbers before.number own) before.seen came.seen.0 (subst IsLegal (sym came.seen.1) came.is_legal) came.seen.2)
    ∙ ap (λ h. gave h (pass_no before)) came.seen.1 ∙ ap (gave turn.seen) no

module _ (before turn : Caller Traced) (found : HubStore) (own : is_in before.numbers before.number ≡ true) (has : HasTurn the_hub before turn found) (lent : HubStore) (same : lent ≡ found) where
  -- the hub knows it too
  pub is_there : (there : Bool) → there ≡ gave before.seen (pass_no before) → there ≡ gave_in lent.contexts (pass_no turn)
  is_there there is =
      is ∙ gave_still before turn own has.came ∙ sym (gave_as found.contexts turn.seen (pass_no turn) has.stands.parts.parts.all.stores.contexts)
      ∙ ap (λ (hub : HubStore). gave_in hub.contexts (pass_no turn)) (sym same)

  module _ (kept left : HubStore) (is : kept ≡ left) where
    pub take_adds : (lane : Lane) (reply : Reply) (context : Option ContextId) (state : Option (List ℤ)) → Takes lent kept (pass_no turn) lane reply context state → Adds the_hub turn left (machine_entry turn.seen (pass_no before) (calls.Take lane) [])
    take_adds lane reply context state takes = adds_entry before turn found own has left (calls.Take lane) reply [] (is_answered before turn found own has lent kept left (calls.Take lane) reply [] same is takes.answered)

    module _ {V : Type 0} (end : End) (states : List (List ℤ)) where
      pub finish_adds : (result : Result Unit (FinishRefused V)) → Finishes lent kept (pass_no turn) end states result → Adds the_hub turn left (machine_entry turn.seen (pass_no before) (calls.Finish end) states)
      finish_adds (Ok _) ended = adds_entry before turn found own has left (calls.Finish end) replies.Done states (is_answered before turn found own has lent kept left (calls.Finish end) replies.Done states same is ended.done)
      finish_adds (Err why) ended =
          adds_entry before turn found own has left (calls.Finish end) (replies.Refused why.why) states (is_answered before turn found own has lent kept left (calls.Finish end) (replies.Refused why.why) states same is ended.refused)

      module _ (after : Caller Traced) (leaves : HasLeft the_hub turn after (machine_entry turn.seen (pass_no before) (calls.Finish end) states)) where
        pub finish_called : (result : Result Unit (FinishRefused V)) → Finishes lent kept (pass_no turn) end states result → IfOk result (λ _. Called before (calls.Finish end) replies.Done states after)
        finish_called (Ok _) ended = has_made before turn found own has left after (calls.Finish end) replies.Done states (is_answered before turn found own has lent kept left (calls.Finish end) replies.Done states same is ended.done) leaves
        finish_called (Err why) ended = tt

        pub finish_refused : (result : Result Unit (FinishRefused V)) → Finishes lent kept (pass_no turn) end states result → IfErr result (λ refused. Called before (calls.Finish end) (replies.Refused refused.why) states after)
        finish_refused (Ok _) ended = tt
        finish_refused (Err why) ended =
            has_made before turn found own has left after (calls.Finish end) (replies.Refused why.why) states (is_answered before turn found own has lent kept left (calls.Finish end) (replies.Refused why.why) states same is ended.refused) leaves

    -- ## A Deploy

    module _ (call : Call) (states : List (List ℤ)) where
      refused_adds : (why : Why) → (why ≡ whys.NoMemory → ⊥) → ((refusal : Refusal) → why ≡ whys.Refused refusal → Meets lent kept (pass_no turn) call (replies.Refused refusal) states) → Adds the_hub turn left (machine_entry turn.seen (pass_no before) call states)
      refused_adds (whys.Refused refusal) sure meets = adds_entry before turn found own has left call (replies.Refused refusal) states (is_answered before turn found own has lent kept left call (replies.Refused refusal) states same is (meets refusal refl))
      refused_adds whys.NoMemory sure meets = absurd (sure refl)

      module _ {V : Type 0} where
        pub deploy_adds : (result : Result (Result DeploymentId (DeployRefused V)) (DeployRefused V)) → Deploys lent kept (pass_no turn) call states result →
            MatchResult result (λ _. Adds the_hub turn left (machine_entry turn.seen (pass_no before) call states)) (λ _. AllStand left turn.seen)
        deploy_adds (Ok (Ok id)) deploys = adds_entry before turn found own has left call (replies.Deployment id) states (is_answered before turn found own has lent kept left call (replies.Deployment id) states same is deploys.done)
        deploy_adds (Ok (Err refused)) deploys = refused_adds refused.why deploys.sure deploys.refused
        deploy_adds (Err refused) deploys = still_stands before turn found own has lent kept left same is deploys.keeps

        module _ (after : Caller Traced) where
          called_at : (answer : Result DeploymentId (DeployRefused V)) → Deploys lent kept (pass_no turn) call states (Ok answer) → HasLeft the_hub turn after (machine_entry turn.seen (pass_no before) call states) → IfOk answer (λ id. Called before call (replies.Deployment id) states after)
          called_at (Ok id) deploys leaves = has_made before turn found own has left after call (replies.Deployment id) states (is_answered before turn found own has lent kept left call (replies.Deployment id) states same is deploys.done) leaves
          called_at (Err refused) deploys leaves = tt

          refused_at : (answer : Result DeploymentId (DeployRefused V)) → Deploys lent kept (pass_no turn) call states (Ok answer) → HasLeft the_hub turn after (machine_entry turn.seen (pass_no before) call states) →
              IfErr answer (λ refused. (why : Refusal) → refused.why ≡ whys.Refused why → Called before call (replies.Refused why) states after)
          refused_at (Ok id) deploys leaves = tt
          refused_at (Err refused) deploys leaves = λ why told.
              has_made before turn found own has left after call (replies.Refused why) states (is_answered before turn found own has lent kept left call (replies.Refused why) states same is (deploys.refused why told)) leaves

          -- what the pass knows of it
          abbrev Leaves : Result (Result DeploymentId (DeployRefused V)) (DeployRefused V) → Type 0
          Leaves result = Deploys lent kept (pass_no turn) call states result × MatchResult result (λ _. HasLeft the_hub turn after (machine_entry turn.seen (pass_no before) call states)) (λ _. after ≡ turn)

          module _ (result : Result (Result DeploymentId (DeployRefused V)) (DeployRefused V)) (leaves : Leaves result) where
            pub deploy_called : (answer : Result DeploymentId (DeployRefused V)) → result ≡ Ok answer → IfOk answer (λ id. Called before call (replies.Deployment id) states after)
            deploy_called answer ok = let at : Leaves (Ok answer) = subst Leaves ok leaves in called_at answer at.0 at.1

            pub deploy_refused : (answer : Result DeploymentId (DeployRefused V)) → result ≡ Ok answer → IfErr answer (λ refused. (why : Refusal) → refused.why ≡ whys.Refused why → Called before call (replies.Refused why) states after)
            deploy_refused answer ok = let at : Leaves (Ok answer) = subst Leaves ok leaves in refused_at answer at.0 at.1

            pub deploy_unmade : (refused : DeployRefused V) → result ≡ Err refused → AddedNothing before after
            deploy_unmade refused err = let at : Leaves (Err refused) = subst Leaves err leaves in added_nothing before turn found own has after at.1
