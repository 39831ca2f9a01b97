use Rattle.std.proofs.Common.{rules, tests, not}
use Rattle.std.proofs.lemmas.Fn.{filter_same}
use Rattle.vx_bus_store.specs.declared.bus.Handler.{Handler}
use Rattle.vx_bus_store.specs.Stores.{names}
use Rattle.vx_bus_store.proofs.bus.leave_out_consumer.Goals as goal

pub returns : goal.returns
returns c = filter_same _ (λ (handler : Handler). not (names c.args.id handler)) _ (λ x b q k. search (rules, tests)) _ _ c.retain.ensures.filtered
