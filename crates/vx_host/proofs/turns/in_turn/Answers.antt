use Rattle.vx_turn.specs.Passes.{caller, caller_in, machine_in}
use Rattle.vx_host.proofs.Turning.{may_call, has_called}
use Rattle.vx_host.proofs.turns.in_turn.Goals as goal

pub make-result-requires : goal.make-result-requires
make-result-requires g c =
    let turn = c.enter-turn.result in
    let came = c.enter-turn.ensures in
    may_call g.F.FnOnce c.args.call c.args.argument (caller c.args.pass) (caller_in turn) c.number-number.result c.number-number.ensures came.came.number (machine_in turn) c.machine.result.now c.machine.ensures.value
    (c.requires.may (caller_in turn) (machine_in turn) (record { came = came.came; entries = came.entries; stands = came.machine }))

pub leave-requires : goal.leave-requires
leave-requires g c κs within =
    let turn = c.enter-turn.result in
    let came = c.enter-turn.ensures in
    let made = has_called g.F.FnOnce c.args.call c.args.argument (caller c.args.pass) (caller_in turn) c.number-number.result c.number-number.ensures came.came.number (machine_in turn) c.machine.result.now c.make-result.new.machine c.make-result.result c.machine.ensures.value c.make-result.ensures in
    let adds = c.requires.adds (caller_in turn) (machine_in turn) c.make-result.new.machine c.make-result.result (record { came = came.came; entries = came.entries; stands = came.machine }) made in
    (within.0, (within.1, (adds.stands, (adds.is_legal, adds.own))))

pub returns-clause-called : goal.returns-clause-called
returns-clause-called g c =
    let turn = c.enter-turn.result in
    let came = c.enter-turn.ensures in
    record {
      turn = caller_in turn;
      found = machine_in turn;
      left = c.make-result.new.machine;
      has = record { came = came.came; entries = came.entries; stands = came.machine };
      made = has_called g.F.FnOnce c.args.call c.args.argument (caller c.args.pass) (caller_in turn) c.number-number.result c.number-number.ensures came.came.number (machine_in turn) c.machine.result.now c.make-result.new.machine c.make-result.result c.machine.ensures.value c.make-result.ensures;
      then = record { seen = c.leave.ensures.seen; mine = c.leave.ensures.mine; own = c.leave.ensures.own };
    }
