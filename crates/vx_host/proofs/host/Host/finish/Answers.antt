use denote.Exit.{no}
use denote.Param.Send.{param_send, arg_send}
use Rattle.std.specs.Prelude.{is_some}
use Rattle.std.specs.Option.{option_map, option_to_list}
use Rattle.vx_turn.specs.Passes.{caller}
use Rattle.vx_host.proofs.Calls.{is_known}
use Rattle.vx_host.proofs.Handing.{is_there, finish_adds, finish_called, finish_refused}
use Rattle.vx_host.proofs.host.Host.finish.Goals as goal

pub in_turn-requires-clause-may : goal.in_turn-requires-clause-may
in_turn-requires-clause-may g c = λ turn found has machine is.
    let before = caller c.args.pass in (
      is_known before turn found c.args.pass.own has machine.now is,
      (
        is_there before turn found c.args.pass.own has machine.now is (is_some c.args.back.verticle) c.requires.there,
        (param_send 0 _ (arg_send _ no _ c.type_bounds.send-V), param_send 1 _ (arg_send _ no _ c.type_bounds.send-V-Rule)),
      ),
    )

pub in_turn-requires-clause-adds : goal.in_turn-requires-clause-adds
in_turn-requires-clause-adds g c = λ turn found left result has called.
    finish_adds (caller c.args.pass) turn found c.args.pass.own has called.before.now called.is_found called.after.now left called.is_left c.args.back.end (option_to_list (option_map g.V.Verticle.state c.args.back.verticle)) result called.made.1.0

pub returns-clause-called : goal.returns-clause-called
returns-clause-called g c =
    let in_turn = c.in_turn.ensures.called in
    let called = in_turn.made in
    finish_called (caller c.args.pass) in_turn.turn in_turn.found c.args.pass.own in_turn.has called.before.now called.is_found called.after.now in_turn.left called.is_left c.args.back.end (option_to_list (option_map g.V.Verticle.state c.args.back.verticle)) (caller c.in_turn.result.0) in_turn.then c.in_turn.result.1 called.made.1.0

pub returns-clause-refused : goal.returns-clause-refused
returns-clause-refused g c =
    let in_turn = c.in_turn.ensures.called in
    let called = in_turn.made in
    finish_refused (caller c.args.pass) in_turn.turn in_turn.found c.args.pass.own in_turn.has called.before.now called.is_found called.after.now in_turn.left called.is_left c.args.back.end (option_to_list (option_map g.V.Verticle.state c.args.back.verticle)) (caller c.in_turn.result.0) in_turn.then c.in_turn.result.1 called.made.1.0
