-- Plain calls, and looks.
use Rattle.std.proofs.Common.{◌≡◌, List, [], ◌∙◌, sym, ap}
use Rattle.std.specs.Prelude.{true, Result, Ok, Err, IfOk, OnErr, MatchResult}
use Rattle.vx_call.specs.declared.call.Call.{Call}
use Rattle.vx_call.specs.declared.reply.Reply.{Reply}
use Rattle.vx_call.specs.declared.unmade.Unmade.{Unmade}
use Rattle.vx_call.specs.declared.history.Traced.{Traced}
use Rattle.vx_turn.specs.Entries.{is_in}
use Rattle.vx_turn.specs.Caller.{Caller}
use Rattle.vx_hub.specs.Stores.{HubStore}
use Rattle.vx_hub.specs.Stands.{AllStand}
use Rattle.vx_host.specs.Turns.{pass_no, HasTurn, Adds, HasLeft}
use Rattle.vx_host.specs.Hub.{Steps, Finds}
use Rattle.vx_host.specs.Calls.{machine_entry, Called, AddedNothing}
use Rattle.vx_host.proofs.Calls.{the_hub, is_answered, is_so, adds_entry, has_made, still_stands, adds_nothing, added_nothing, has_left}

module _ (before turn : Caller Traced) (found : HubStore) (own : is_in before.numbers before.number ≡ true) (has : HasTurn the_hub before turn found) (lent : HubStore) (same : lent ≡ found) (kept left : HubStore) (is : kept ≡ left) where
  -- ## A plain call

  module _ (call : Call) where
    pub step_leaves : (result : Result Reply Unmade) → Steps lent kept (pass_no turn) call result → MatchResult result (λ _. Adds the_hub turn left (machine_entry turn.seen (pass_no before) call [])) (λ _. AllStand left turn.seen)
    step_leaves (Ok reply) steps = adds_entry before turn found own has left call reply [] (is_answered before turn found own has lent kept left call reply [] same is steps.answered)
    step_leaves (Err unmade) steps = still_stands before turn found own has lent kept left same is steps.keeps

    module _ (after : Caller Traced) where
      pub step_called : (result : Result Reply Unmade) → Steps lent kept (pass_no turn) call result → MatchResult result (λ _. HasLeft the_hub turn after (machine_entry turn.seen (pass_no before) call [])) (λ _. after ≡ turn) → IfOk result (λ reply. Called before call reply [] after)
      step_called (Ok reply) steps leaves = has_made before turn found own has left after call reply [] (is_answered before turn found own has lent kept left call reply [] same is steps.answered) leaves
      step_called (Err unmade) steps leaves = tt

      pub step_unmade : (result : Result Reply Unmade) → Steps lent kept (pass_no turn) call result → MatchResult result (λ _. HasLeft the_hub turn after (machine_entry turn.seen (pass_no before) call [])) (λ _. after ≡ turn) → OnErr result (AddedNothing before after)
      step_unmade (Ok reply) steps leaves = tt
      step_unmade (Err unmade) steps leaves = added_nothing before turn found own has after leaves

  -- ## A look

  module _ {R : Type 0} (find : List Traced → R) (result : R) (finds : Finds lent kept find result) where
    pub look_adds : Adds the_hub turn left []
    look_adds = adds_nothing before turn found own has lent kept left same finds.same is

    module _ (after : Caller Traced) (leaves : HasLeft the_hub turn after []) where
      pub look_added : AddedNothing before after
      look_added = added_nothing before turn found own has after (has_left before turn found own has after leaves)

      pub look_found : result ≡ find after.seen
      look_found =
          is_so before turn found own has (λ history. result ≡ find history) lent same (λ history stands there. finds.found history stands)
          ∙ sym (ap (λ (c : Caller Traced). find c.seen) (has_left before turn found own has after leaves))
