use Rattle.std.proofs.Common.{rules, tests, not}
use Rattle.std.proofs.lemmas.Fn.{filter_same}
use Rattle.vx_data.specs.Ids.{same_consumer}
use Rattle.vx_ring.proofs.ring.Ring.leave_out.Goals as goal

pub returns-clause-left : goal.returns-clause-left
returns-clause-left c = filter_same _ (λ other. not (same_consumer c.args.consumer other)) _ (λ x b q k. search (rules, tests)) _ _ c.retain.ensures.filtered
