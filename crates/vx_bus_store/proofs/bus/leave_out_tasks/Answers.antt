use Rattle.std.proofs.Common.{rules, tests, not}
use Rattle.std.proofs.lemmas.Fn.{filter_same}
use Rattle.vx_call.specs.declared.reply.Task.{Task}
use Rattle.vx_call.specs.Items.{is_for}
use Rattle.vx_bus_store.proofs.bus.leave_out_tasks.Goals as goal

pub returns-clause-items : goal.returns-clause-items
returns-clause-items c = filter_same _ (λ (task : Task). not (is_for c.args.id task)) _ (λ x b q k. search (rules, tests)) _ _ c.retain.ensures.filtered
