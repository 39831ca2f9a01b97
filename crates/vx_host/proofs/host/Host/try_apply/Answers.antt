use denote.Exit.{no}
use denote.Param.Send.{param_send, arg_send}
use Rattle.vx_turn.specs.Passes.{caller}
use Rattle.vx_host.proofs.Calls.{is_known}
use Rattle.vx_host.proofs.Stepping.{step_leaves, step_called, step_unmade}
use Rattle.vx_host.proofs.host.Host.try_apply.Goals as goal

pub attempt_at_once-made-requires-clause-may : goal.attempt_at_once-made-requires-clause-may
attempt_at_once-made-requires-clause-may g c = λ turn found has machine is. (is_known (caller c.args.pass) turn found c.args.pass.own has machine.now is, (c.requires.plain, (c.requires.stored, (param_send 0 _ (arg_send _ no _ c.type_bounds.send-V), param_send 1 _ (arg_send _ no _ c.type_bounds.send-V-Rule)))))

pub attempt_at_once-made-requires-clause-leaves : goal.attempt_at_once-made-requires-clause-leaves
attempt_at_once-made-requires-clause-leaves g c = λ turn found left result has called.
    step_leaves (caller c.args.pass) turn found c.args.pass.own has called.before.now called.is_found called.after.now left called.is_left c.args.call result called.made.1

pub returns-in-Ok-clause-called : goal.returns-in-Ok-clause-called
returns-in-Ok-clause-called g c =
    let in_turn = c.in-Ok.ensures.called in
    let called = in_turn.made in
    step_called (caller c.args.pass) in_turn.turn in_turn.found c.args.pass.own in_turn.has called.before.now called.is_found called.after.now in_turn.left called.is_left c.args.call (caller c.in-Ok.pass) c.in-Ok.result called.made.1 in_turn.then

pub returns-in-Ok-clause-without_memory : goal.returns-in-Ok-clause-without_memory
returns-in-Ok-clause-without_memory g c =
    let in_turn = c.in-Ok.ensures.called in
    let called = in_turn.made in
    step_unmade (caller c.args.pass) in_turn.turn in_turn.found c.args.pass.own in_turn.has called.before.now called.is_found called.after.now in_turn.left called.is_left c.args.call (caller c.in-Ok.pass) c.in-Ok.result called.made.1 in_turn.then
