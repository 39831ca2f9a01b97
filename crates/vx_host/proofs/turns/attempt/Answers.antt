use Rattle.std.specs.Prelude.{Ok, Err}
use Rattle.vx_turn.specs.Passes.{machine_in}
use Rattle.vx_host.proofs.Turning.{found_called}
use Rattle.vx_host.proofs.turns.attempt.Goals as goal

pub leave-requires : goal.leave-requires
leave-requires g c κs within =
    let made = found_called g.F.FnOnce c.args.call c.args.pass c.args.argument (machine_in c.args.turn) c.machine.result.now c.make.new.machine (Ok c.in-Ok.result) c.machine.ensures.value c.in-Ok.ensures in
    let adds = c.requires.adds c.in-Ok.result c.make.new.machine made in
    (within.0, (within.1, (adds.stands, (adds.is_legal, adds.own))))

pub put_back-requires-clause-stands : goal.put_back-requires-clause-stands
put_back-requires-clause-stands g c =
    c.requires.keeps c.in-Err.why c.make.new.machine
    (found_called g.F.FnOnce c.args.call c.args.pass c.args.argument (machine_in c.args.turn) c.machine.result.now c.make.new.machine (Err c.in-Err.why) c.machine.ensures.value c.in-Err.ensures)

pub returns-in-Ok-clause-called : goal.returns-in-Ok-clause-called
returns-in-Ok-clause-called g c =
    (c.make.new.machine, found_called g.F.FnOnce c.args.call c.args.pass c.args.argument (machine_in c.args.turn) c.machine.result.now c.make.new.machine (Ok c.in-Ok.result) c.machine.ensures.value c.in-Ok.ensures)

pub returns-in-Err-clause-called : goal.returns-in-Err-clause-called
returns-in-Err-clause-called g c =
    (c.make.new.machine, found_called g.F.FnOnce c.args.call c.args.pass c.args.argument (machine_in c.args.turn) c.machine.result.now c.make.new.machine (Err c.in-Err.why) c.machine.ensures.value c.in-Err.ensures)
