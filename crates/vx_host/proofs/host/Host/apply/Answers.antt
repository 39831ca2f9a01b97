use denote.Exit.{no}
use denote.Param.Send.{param_send, arg_send}
use Rattle.vx_turn.specs.Passes.{caller}
use Rattle.vx_host.proofs.Calls.{is_known}
use Rattle.vx_host.proofs.Stepping.{step_leaves, step_called, step_unmade}
use Rattle.vx_host.proofs.host.Host.apply.Goals as goal

pub attempt_in_turn-pass-requires-clause-may : goal.attempt_in_turn-pass-requires-clause-may
attempt_in_turn-pass-requires-clause-may g c = λ turn found has machine is. (
  is_known (caller c.args.pass) turn found c.args.pass.own has machine.now is,
  (c.requires.plain, (c.requires.stored, (param_send 0 _ (arg_send _ no _ c.type_bounds.send-V), param_send 1 _ (arg_send _ no _ c.type_bounds.send-V-Rule)))),
)

pub attempt_in_turn-pass-requires-clause-leaves : goal.attempt_in_turn-pass-requires-clause-leaves
attempt_in_turn-pass-requires-clause-leaves g c = λ turn found left result has called.
    step_leaves (caller c.args.pass) turn found c.args.pass.own has called.before.now called.is_found called.after.now left called.is_left c.args.call result called.made.1

pub returns-clause-called : goal.returns-clause-called
returns-clause-called g c =
    let in_turn = c.attempt_in_turn-pass.ensures.called in
    let called = in_turn.made in
    step_called (caller c.args.pass) in_turn.turn in_turn.found c.args.pass.own in_turn.has called.before.now called.is_found called.after.now in_turn.left called.is_left c.args.call (caller c.attempt_in_turn-pass.result.0) c.attempt_in_turn-pass.result.1 called.made.1 in_turn.then

pub returns-clause-without_memory : goal.returns-clause-without_memory
returns-clause-without_memory g c =
    let in_turn = c.attempt_in_turn-pass.ensures.called in
    let called = in_turn.made in
    step_unmade (caller c.args.pass) in_turn.turn in_turn.found c.args.pass.own in_turn.has called.before.now called.is_found called.after.now in_turn.left called.is_left c.args.call (caller c.attempt_in_turn-pass.result.0) c.attempt_in_turn-pass.result.1 called.made.1 in_turn.then
