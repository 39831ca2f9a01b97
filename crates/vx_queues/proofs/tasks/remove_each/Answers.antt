use Rattle.std.proofs.Common.{◌≡◌, ◌-◌, ◌+◌, suc, ap, sym, ◌∙◌, false, true, arith}
use Rattle.vx_items.specs.Items.{number_of}
use Rattle.vx_queues.specs.Leaving.{is_left_out}
use Rattle.vx_queues.proofs.Leaving.{length-le-count, sweep_start, sweep_keep, sweep_drop, sweep_there, sweep_none, sweep_spent}
use Rattle.vx_queues.proofs.tasks.remove_each.Goals.{then-is_left_out, else-is_left_out}
use Rattle.vx_queues.proofs.tasks.remove_each.Goals as goal

pub loop-step-init : goal.loop-step-init
loop-step-init c =
    let most = length-le-count c.args.items.now.lists c.args.queue in
    let count = c.count-count.ensures in
    record { sweep = sweep_start _ _ _ _ _ c.first-rest.ensures.first (omega (arith, most, count)); within = omega arith; room = omega arith }

pub next-rest-requires : goal.next-rest-requires
next-rest-requires c = sweep_there _ _ _ _ _ _ _ c.requires c.loop-step.invariant.sweep (ap number_of c.in-Some.is)

pub task_at-requires : goal.task_at-requires
task_at-requires c = sweep_there _ _ _ _ _ _ _ c.requires c.loop-step.invariant.sweep (ap number_of c.in-Some.is)

pub remove-requires : goal.remove-requires
remove-requires c = sweep_there _ _ _ _ _ _ _ c.requires c.loop-step.invariant.sweep (ap number_of c.in-Some.is)

pub loop-step-preserved : goal.loop-step-preserved
loop-step-preserved c =
    let less = c.loop-step-test.true in
    let sweep = c.loop-step.invariant.sweep in
    let room = c.loop-step.invariant.room in
    let fuel : c.count-count.result - c.loop-step._step ≡ suc (c.count-count.result - (c.loop-step._step + 1)) = omega (arith, less) in
    elim c.if-is_left_out.branch [
      | then-is_left_out w ↦
          let out : is_left_out c.args.which c.task_at.result ≡ true = sym c.is_left_out.ensures ∙ w.if-is_left_out.true in
          rw w.items-is (record {
            sweep = sweep_drop _ _ _ _ _ _ _ _ _ _ c.task_at.result c.requires sweep (ap number_of c.in-Some.is) c.task_at.ensures out c.next-rest.ensures.next
                (λ n b a t is. (w.remove.ensures.place n b a t is).0) fuel;
            within = omega (arith, less);
            room = let more = w.remove.ensures.room in omega (arith, room, more);
          })
      | else-is_left_out w ↦
          let other : is_left_out c.args.which c.task_at.result ≡ false = sym c.is_left_out.ensures ∙ w.if-is_left_out.false in
          rw w.items-is (record {
            sweep = sweep_keep _ _ _ _ _ _ _ _ _ c.task_at.result c.requires sweep (ap number_of c.in-Some.is) c.task_at.ensures other c.next-rest.ensures.next fuel;
            within = omega (arith, less);
            room = room;
          })
    ]

pub returns-in_default-clause-lists : goal.returns-in_default-clause-lists
returns-in_default-clause-lists c = sweep_none _ _ _ _ _ _ c.loop-step.invariant.sweep (ap number_of c.in_default.is)

pub returns-clause-lists : goal.returns-clause-lists
returns-clause-lists c = let done = c.loop-step-test.false in sweep_spent _ _ _ _ _ _ c.loop-step.invariant.sweep (omega (arith, done))
