use denote.Exit.{no}
use denote.Param.Send.{param_send, arg_send}
use Rattle.std.proofs.Common.{sym}
use Rattle.std.specs.Prelude.{is_some}
use Rattle.std.specs.Option.{option_map}
use Rattle.vx_turn.specs.Passes.{caller}
use Rattle.vx_hub.proofs.Handing.{some_mapped}
use Rattle.vx_host.proofs.Calls.{is_known, has_taken}
use Rattle.vx_host.proofs.Handing.{take_adds, took_holds}
use Rattle.vx_host.proofs.host.Host.take.Goals as goal

pub in_turn-requires-clause-may : goal.in_turn-requires-clause-may
in_turn-requires-clause-may g c = λ turn found has machine is. (
  is_known (caller c.args.pass) turn found c.args.pass.own has machine.now is,
  (param_send 0 _ (arg_send _ no _ c.type_bounds.send-V), param_send 1 _ (arg_send _ no _ c.type_bounds.send-V-Rule)),
)

pub in_turn-requires-clause-adds : goal.in_turn-requires-clause-adds
in_turn-requires-clause-adds g c = λ turn found left result has called.
    take_adds (caller c.args.pass) turn found c.args.pass.own has called.before.now called.is_found called.after.now left called.is_left c.args.lane result.reply result.context (option_map g.V.Verticle.state result.verticle) called.made.1

pub returns-clause-took : goal.returns-clause-took
returns-clause-took g c =
    let in_turn = c.in_turn.ensures.called in
    let called = in_turn.made in
    let taken = c.in_turn.result.1 in
    has_taken (caller c.args.pass) in_turn.turn in_turn.found c.args.pass.own in_turn.has called.before.now called.after.now in_turn.left called.is_found called.is_left (caller c.in_turn.result.0) c.args.lane taken.reply taken.context (option_map g.V.Verticle.state taken.verticle) called.made.1 in_turn.then

pub returns-clause-holds : goal.returns-clause-holds
returns-clause-holds g c =
    let taken = c.in_turn.result.1 in
    took_holds (caller c.args.pass) (caller c.in_turn.result.0) c.args.lane taken.reply taken.context (option_map g.V.Verticle.state taken.verticle) (is_some taken.verticle) (sym (some_mapped g.V.Verticle.state taken.verticle)) (returns-clause-took g c)
