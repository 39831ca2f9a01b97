use Rattle.std.proofs.Common.{arith, length, ◌<◌}
use Rattle.std.specs.Prelude.{None}
use Rattle.vx_life.specs.declared.record.DeploymentRecord.{DeploymentRecord}
use Rattle.vx_life.specs.Stores.{failing}
use Rattle.vx_life.proofs.Changes.{changed_more}
use Rattle.vx_life.proofs.record.note_failure.Goals as goal
use Rattle.vx_life.proofs.record.note_failure.Goals.{then-eq, else-eq}

pub loop-record-preserved : goal.loop-record-preserved
loop-record-preserved c =
    let change = failing c.args.id c.args.failure in
    let xs = c.deref_mut-record-items.result.now in
    let inside : c.loop-record.record-index < length xs = omega arith in
    let none : DeploymentRecord = record { id = record { 0 = record { 0 = 0 } }; deploy_tell = None; undeploy_tell = None; failure = None } in
    let same = c.loop-record.auto.record-items in
    let test = c.eq.ensures in
    elim c.if-eq.branch [
      | then-eq w ↦
          (let yes = w.if-eq.true in
          let noted = w.or-record.ensures in
          changed_more change xs _ _ _ none _ inside same c.loop-record.invariant (grind arith) w.record-items-is)
      | else-eq w ↦
          (let no = w.if-eq.false in
          changed_more change xs _ _ _ none _ inside same c.loop-record.invariant (grind arith) w.record-items-is)
    ]
