use Rattle.std.proofs.Common.{sym, ap, ◌∙◌}
use Rattle.vx_verticle.proofs.Due.{all_due, none_due}
use Rattle.vx_kinds.specs.Hosts.{state_in, kind_in, settings_in, own_in, due}
use Rattle.vx_kinds.proofs.Readings.{due-state}
use Rattle.vx_kinds.proofs.host.HostVerticleVerticle.handle.Goals as goal

pub returns-in-Ok : goal.returns-in-Ok
returns-in-Ok c =
    let was = c.args.self.now in
    let event = c.args.event.now in
    all_due (due (state_in was) event) (state_in was) (state_in c.react.new.self) c.react.new.acts c.in-Ok.end
    (c.in-Ok.ensures.done ∙ sym (due-state (kind_in was) (settings_in was) (own_in was) event))

pub returns-in-Err : goal.returns-in-Err
returns-in-Err c =
    let was = c.args.self.now in
    let event = c.args.event.now in
    none_due (due (state_in was) event) (state_in was) (state_in c.react.new.self) c.react.new.acts
    (c.in-Err.ensures.state ∙ ap (λ answer. answer.later) (sym (due-state (kind_in was) (settings_in was) (own_in was) event)))
    c.in-Err.ensures.none
