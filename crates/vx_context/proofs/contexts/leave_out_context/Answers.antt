use Rattle.std.proofs.Common.{rules, tests, not}
use Rattle.std.proofs.lemmas.Fn.{filter_same}
use Rattle.vx_data.specs.Ids.{same_context}
use Rattle.vx_message.specs.declared.Item.{Item}
use Rattle.vx_context.proofs.contexts.leave_out_context.Goals as goal

pub returns-clause-items : goal.returns-clause-items
returns-clause-items c =
    filter_same _ (λ (item : Item). not (same_context c.args.context item.context)) _ (λ x b q k. search (rules, tests)) _ _ c.retain.ensures.filtered
