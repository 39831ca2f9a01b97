use Rattle.std.proofs.Common.{refl, ◌∙◌}
use Rattle.vx_call.specs.Refusals as machine
use Rattle.vx_bus_refusals.proofs.Chains.{first, more, last}
use Rattle.vx_core_life.proofs.EndRefusals.{held_same, behind_none, is_of_verticle}
use Rattle.vx_core_life.proofs.refusals.stop_done_refusal.Goals as goal

pub returns : goal.returns
returns c = λ history contexts lives.
    last (more (more (first (c.no_handler.ensures history contexts)) c.or.ensures (c.no_verticle.ensures history contexts)) c.or-2.ensures (c.holder_closed.ensures history contexts)) c.or-3.ensures refl
    ∙ behind_none (machine.no_handler history c.args.pass) (machine.no_verticle history c.args.pass) (machine.holder_closed history c.args.pass) c.stop_not_pending.result (machine.stop_not_pending history c.args.pass)
    (λ none. c.stop_not_pending.ensures history c.args.pass lives (held_same c.args.contexts.now history c.args.pass c.held_context.result contexts c.held_context.ensures) (is_of_verticle history c.args.pass none))
