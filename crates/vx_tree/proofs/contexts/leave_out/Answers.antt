use Rattle.std.proofs.Common.{rules, tests, not}
use Rattle.std.proofs.lemmas.Fn.{filter_same}
use Rattle.vx_data.specs.Ids.{same_context}
use Rattle.vx_tree.proofs.contexts.leave_out.Goals as goal

pub returns : goal.returns
returns c = filter_same _ (λ other. not (same_context c.args.context other)) _ (λ x b q k. search (rules, tests)) _ _ c.retain.ensures.filtered
