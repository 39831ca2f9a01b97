use Rattle.std.proofs.Common.{sym, ◌∙◌}
use Rattle.vx_bus_refusals.proofs.Chains.{first, more, last, none_of_first, none_of_second}
use Rattle.vx_core_life.proofs.refusals.deploy_refusal.Goals as goal

pub returns-clause-refusal : goal.returns-clause-refusal
returns-clause-refusal c = λ history contexts lives.
    last (more (more (more (more (first (c.no_named_context.ensures history contexts)) c.or.ensures (c.no_pool.ensures history contexts)) c.or-2.ensures (c.not_your_named.ensures history contexts)) c.or-3.ensures (c.closed_if_named.ensures history contexts)) c.or-4.ensures c.bad_count.ensures) c.or-5.ensures (c.holder_stopping.ensures history c.args.pass lives (c.held_deployment.ensures history contexts))

pub returns-clause-free : goal.returns-clause-free
returns-clause-free c = λ none.
    sym c.bad_count.ensures ∙ none_of_second c.or-3.result c.bad_count.result (sym c.or-4.ensures ∙ none_of_first c.or-4.result c.holder_stopping.result (sym c.or-5.ensures ∙ none))
