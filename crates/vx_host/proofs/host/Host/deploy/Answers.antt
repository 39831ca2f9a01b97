use denote.Exit.{no}
use denote.Param.Send.{param_send, arg_send}
use Rattle.std.specs.Prelude.{length, map}
use Rattle.vx_call.specs.declared.call.Call.TheVariants as calls
use Rattle.vx_turn.specs.Passes.{caller}
use Rattle.vx_host.proofs.Calls.{is_known}
use Rattle.vx_host.proofs.Handing.{deploy_adds, deploy_called, deploy_refused, deploy_unmade}
use Rattle.vx_host.proofs.host.Host.deploy.Goals as goal

pub attempt_in_turn-pass-requires-clause-may : goal.attempt_in_turn-pass-requires-clause-may
attempt_in_turn-pass-requires-clause-may g c = λ turn found has machine is. (is_known (caller c.args.pass) turn found c.args.pass.own has machine.now is, (param_send 0 _ (arg_send _ no _ c.type_bounds.send-V), param_send 1 _ (arg_send _ no _ c.type_bounds.send-V-Rule)))

pub attempt_in_turn-pass-requires-clause-leaves : goal.attempt_in_turn-pass-requires-clause-leaves
attempt_in_turn-pass-requires-clause-leaves g c = λ turn found left result has called.
    deploy_adds (caller c.args.pass) turn found c.args.pass.own has called.before.now called.is_found called.after.now left called.is_left (calls.Deploy c.args.options.worker c.args.options.pool c.args.options.tell (length c.args.verticles.items)) (map g.V.Verticle.state c.args.verticles.items) result called.made.1.0

pub returns-in-Ok-clause-called : goal.returns-in-Ok-clause-called
returns-in-Ok-clause-called g c =
    let in_turn = c.attempt_in_turn-pass.ensures.called in
    let called = in_turn.made in
    deploy_called (caller c.args.pass) in_turn.turn in_turn.found c.args.pass.own in_turn.has called.before.now called.is_found called.after.now in_turn.left called.is_left (calls.Deploy c.args.options.worker c.args.options.pool c.args.options.tell (length c.args.verticles.items)) (map g.V.Verticle.state c.args.verticles.items) (caller c.attempt_in_turn-pass.result.0) c.attempt_in_turn-pass.result.1 (called.made.1.0, in_turn.then) c.in-Ok.answer c.in-Ok.is

pub returns-in-Ok-clause-refused : goal.returns-in-Ok-clause-refused
returns-in-Ok-clause-refused g c =
    let in_turn = c.attempt_in_turn-pass.ensures.called in
    let called = in_turn.made in
    deploy_refused (caller c.args.pass) in_turn.turn in_turn.found c.args.pass.own in_turn.has called.before.now called.is_found called.after.now in_turn.left called.is_left (calls.Deploy c.args.options.worker c.args.options.pool c.args.options.tell (length c.args.verticles.items)) (map g.V.Verticle.state c.args.verticles.items) (caller c.attempt_in_turn-pass.result.0) c.attempt_in_turn-pass.result.1 (called.made.1.0, in_turn.then) c.in-Ok.answer c.in-Ok.is

pub returns-in-Err-clause-without_memory : goal.returns-in-Err-clause-without_memory
returns-in-Err-clause-without_memory g c = λ no_memory.
    let in_turn = c.attempt_in_turn-pass.ensures.called in
    let called = in_turn.made in
    deploy_unmade (caller c.args.pass) in_turn.turn in_turn.found c.args.pass.own in_turn.has called.before.now called.is_found called.after.now in_turn.left called.is_left (calls.Deploy c.args.options.worker c.args.options.pool c.args.options.tell (length c.args.verticles.items)) (map g.V.Verticle.state c.args.verticles.items) (caller c.attempt_in_turn-pass.result.0) c.attempt_in_turn-pass.result.1 (called.made.1.0, in_turn.then) c.in-Err.refused c.in-Err.is
