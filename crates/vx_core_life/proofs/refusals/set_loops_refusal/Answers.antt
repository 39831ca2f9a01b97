use Rattle.std.proofs.Common.{sym, ◌∙◌}
use Rattle.vx_bus_refusals.proofs.Chains.{first, last, none_of_second}
use Rattle.vx_core_life.proofs.refusals.set_loops_refusal.Goals as goal

pub returns-clause-refusal : goal.returns-clause-refusal
returns-clause-refusal c = λ history contexts. last (first (c.holder_closed.ensures history contexts)) c.or.ensures c.bad_loops.ensures

pub returns-clause-free : goal.returns-clause-free
returns-clause-free c = λ none. sym c.bad_loops.ensures ∙ none_of_second c.holder_closed.result c.bad_loops.result (sym c.or.ensures ∙ none)
