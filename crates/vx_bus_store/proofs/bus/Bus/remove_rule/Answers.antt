use Rattle.std.proofs.Common.{not}
use Rattle.vx_message.specs.Rules.{is_rule}
use Rattle.vx_bus_store.proofs.Limits.{within_filtered}
use Rattle.vx_bus_store.proofs.bus.Bus.remove_rule.Goals as goal

pub invariant_of-self : goal.invariant_of-self
invariant_of-self c = (c.self.invariant.0, rw c.remove.ensures.left (within_filtered (λ rule. not (is_rule c.args.id rule)) c.self.inside.rules.rules c.self.invariant.1))
