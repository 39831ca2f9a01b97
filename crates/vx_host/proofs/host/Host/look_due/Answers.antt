use denote.Exit.{no}
use denote.Param.Send.{param_send, arg_send}
use Rattle.vx_call.specs.Requests.{unsettled}
use Rattle.vx_hub.specs.Looks.{least_due}
use Rattle.vx_turn.specs.Passes.{caller}
use Rattle.vx_host.proofs.Stepping.{look_adds, look_added, look_found}
use Rattle.vx_host.proofs.host.Host.look_due.Goals as goal

pub in_turn-requires-clause-may : goal.in_turn-requires-clause-may
in_turn-requires-clause-may g c = λ turn found has machine is. (param_send 0 _ (arg_send _ no _ c.type_bounds.send-V), param_send 1 _ (arg_send _ no _ c.type_bounds.send-V-Rule))

pub in_turn-requires-clause-adds : goal.in_turn-requires-clause-adds
in_turn-requires-clause-adds g c = λ turn found left result has called.
    look_adds (caller c.args.pass) turn found c.args.pass.own has called.before.now called.is_found called.after.now left called.is_left (λ history. least_due (unsettled history)) result called.made.1

pub returns-clause-adds_nothing : goal.returns-clause-adds_nothing
returns-clause-adds_nothing g c =
    let in_turn = c.in_turn.ensures.called in
    let called = in_turn.made in
    look_added (caller c.args.pass) in_turn.turn in_turn.found c.args.pass.own in_turn.has called.before.now called.is_found called.after.now in_turn.left called.is_left (λ history. least_due (unsettled history)) c.in_turn.result.1 called.made.1 (caller c.in_turn.result.0) in_turn.then

pub returns-clause-found : goal.returns-clause-found
returns-clause-found g c =
    let in_turn = c.in_turn.ensures.called in
    let called = in_turn.made in
    look_found (caller c.args.pass) in_turn.turn in_turn.found c.args.pass.own in_turn.has called.before.now called.is_found called.after.now in_turn.left called.is_left (λ history. least_due (unsettled history)) c.in_turn.result.1 called.made.1 (caller c.in_turn.result.0) in_turn.then
