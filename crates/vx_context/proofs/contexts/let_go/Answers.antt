use Rattle.std.proofs.Common.{rules, tests, not, ◌==◌}
use Rattle.std.proofs.lemmas.Fn.{filter_same}
use Rattle.vx_message.specs.declared.Held.{Held}
use Rattle.vx_context.proofs.contexts.let_go.Goals as goal

pub returns-clause-items : goal.returns-clause-items
returns-clause-items c =
    filter_same _ (λ (h : Held). not (h.pass.0 == c.args.pass.0)) _ (λ x b q k. search (rules, tests)) _ _ c.retain.ensures.filtered
