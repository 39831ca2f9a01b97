use Rattle.std.proofs.Common.{rules, tests, not}
use Rattle.std.proofs.lemmas.Fn.{filter_same}
use Rattle.vx_bus_store.specs.declared.bus.Handler.{Handler}
use Rattle.vx_bus_store.specs.Leaving.{leaves}
use Rattle.vx_bus_store.proofs.leaving.leave_consumers.Goals as goal

pub returns : goal.returns
returns c = filter_same _ (λ (handler : Handler). not (leaves c.args.leaver handler)) _ (λ x b q k. search (rules, tests)) _ _ c.retain.ensures.filtered
