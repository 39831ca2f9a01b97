use Rattle.std.proofs.Common.{◌≡◌, ℕ, List, take, filter, not}
use Rattle.std.specs.Prelude.{true, if◌then◌else◌}
use Rattle.vx_data.specs.declared.ids.ConsumerId.{ConsumerId}
use Rattle.vx_ring.specs.Rings.{is_empty, consumers_at, choices_at}
use Rattle.vx_bus_store.specs.Leaving.{leaves_at}
use Rattle.vx_bus_store.proofs.leaving.leave_turns.Given as goal

abbrev pub invariant-loop-handler : goal.invariant-loop-handler
invariant-loop-handler l =
    let gone = take l.handler-index l.handlers.items in
    record {
      out_of_turn : (a : List ℕ) → consumers_at a l.rings ≡ filter (λ (id : ConsumerId). not (leaves_at l.leaver gone a id)) (consumers_at a l.initial.rings);
      choices : (a : List ℕ) → (is_empty (consumers_at a l.initial.rings) ≡ true → choices_at a l.initial.rings ≡ 0) →
          choices_at a l.rings ≡ (if is_empty (consumers_at a l.rings) then 0 else choices_at a l.initial.rings);
    }
