use Rattle.vx_bus_refusals.proofs.Chains.{first, more, last}
use Rattle.vx_core_life.proofs.EndRefusals.{held_same}
use Rattle.vx_core_life.proofs.refusals.start_done_refusal.Goals as goal

pub returns : goal.returns
returns c = λ history contexts lives.
    last (more (more (first (c.no_handler.ensures history contexts)) c.or.ensures (c.no_verticle.ensures history contexts)) c.or-2.ensures (c.holder_closed.ensures history contexts)) c.or-3.ensures
    (c.start_not_pending.ensures history c.args.pass lives (held_same c.args.contexts.now history c.args.pass c.held_context.result contexts c.held_context.ensures))
