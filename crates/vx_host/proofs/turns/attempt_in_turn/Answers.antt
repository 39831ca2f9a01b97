use Rattle.std.proofs.Common.{refl}
use Rattle.std.specs.Prelude.{Ok, Err}
use Rattle.vx_turn.specs.Passes.{caller, caller_in, machine_in}
use Rattle.vx_host.proofs.Turning.{may_call, has_called}
use Rattle.vx_host.proofs.turns.attempt_in_turn.Goals as goal

pub attempt-requires-clause-may : goal.attempt-requires-clause-may
attempt-requires-clause-may g c =
    let turn = c.enter-turn.result in
    let came = c.enter-turn.ensures in
    may_call g.F.FnOnce c.args.call c.args.argument (caller c.args.pass) (caller_in turn) c.number-number.result c.number-number.ensures came.came.number (machine_in turn) (machine_in turn) refl
    (c.requires.may (caller_in turn) (machine_in turn) (record { came = came.came; entries = came.entries; stands = came.machine }))

pub attempt-requires-clause-adds : goal.attempt-requires-clause-adds
attempt-requires-clause-adds g c = λ result left called.
    let turn = c.enter-turn.result in
    let came = c.enter-turn.ensures in
    c.requires.leaves (caller_in turn) (machine_in turn) left (Ok result) (record { came = came.came; entries = came.entries; stands = came.machine })
    (has_called g.F.FnOnce c.args.call c.args.argument (caller c.args.pass) (caller_in turn) c.number-number.result c.number-number.ensures came.came.number (machine_in turn) (machine_in turn) left (Ok result) refl called)

pub attempt-requires-clause-keeps : goal.attempt-requires-clause-keeps
attempt-requires-clause-keeps g c = λ why left called.
    let turn = c.enter-turn.result in
    let came = c.enter-turn.ensures in
    c.requires.leaves (caller_in turn) (machine_in turn) left (Err why) (record { came = came.came; entries = came.entries; stands = came.machine })
    (has_called g.F.FnOnce c.args.call c.args.argument (caller c.args.pass) (caller_in turn) c.number-number.result c.number-number.ensures came.came.number (machine_in turn) (machine_in turn) left (Err why) refl called)

pub returns-clause-called : goal.returns-clause-called
returns-clause-called g c =
    let turn = c.enter-turn.result in
    let came = c.enter-turn.ensures in
    let called = c.attempt.ensures.called in
    record {
      turn = caller_in turn;
      found = machine_in turn;
      left = called.0;
      has = record { came = came.came; entries = came.entries; stands = came.machine };
      made = has_called g.F.FnOnce c.args.call c.args.argument (caller c.args.pass) (caller_in turn) c.number-number.result c.number-number.ensures came.came.number (machine_in turn) (machine_in turn) called.0 c.attempt.result.1 refl called.1;
      then = c.attempt.ensures.then;
    }
