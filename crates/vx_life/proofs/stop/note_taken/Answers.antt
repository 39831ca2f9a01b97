use Rattle.std.proofs.Common.{arith, length, ◌<◌}
use Rattle.std.specs.Prelude.{false}
use Rattle.vx_life.specs.declared.stop.Stop.{Stop}
use Rattle.vx_life.specs.Stores.{with_taken}
use Rattle.vx_life.proofs.Changes.{changed_more}
use Rattle.vx_life.proofs.stop.note_taken.Goals as goal
use Rattle.vx_life.proofs.stop.note_taken.Goals.{then-eq, else-eq}

pub loop-stop-preserved : goal.loop-stop-preserved
loop-stop-preserved c =
    let change = with_taken c.args.context in
    let xs = c.deref_mut-stop-items.result.now in
    let inside : c.loop-stop.stop-index < length xs = omega arith in
    let none : Stop = record { context = record { entry = record { 0 = 0 }; instance = 0 }; taken = false } in
    let same = c.loop-stop.auto.stop-items in
    let test = c.eq.ensures in
    elim c.if-eq.branch [
      | then-eq w ↦ (let yes = w.if-eq.true in changed_more change xs _ _ _ none _ inside same c.loop-stop.invariant (grind arith) w.stop-items-is)
      | else-eq w ↦ (let no = w.if-eq.false in changed_more change xs _ _ _ none _ inside same c.loop-stop.invariant (grind arith) w.stop-items-is)
    ]
