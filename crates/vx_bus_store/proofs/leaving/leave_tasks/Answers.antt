use Rattle.std.proofs.Common.{rules, tests, not}
use Rattle.std.proofs.lemmas.Fn.{filter_same}
use Rattle.vx_call.specs.declared.reply.Task.{Task}
use Rattle.vx_bus_store.specs.Leaving.{is_task_of}
use Rattle.vx_bus_store.proofs.leaving.leave_tasks.Goals as goal

pub returns-clause-items : goal.returns-clause-items
returns-clause-items c = filter_same _ (λ (task : Task). not (is_task_of c.args.leaver c.args.handlers.now.items c.args.items.now task)) _ (λ x b q k. search (rules, tests)) _ _ c.retain.ensures.filtered
