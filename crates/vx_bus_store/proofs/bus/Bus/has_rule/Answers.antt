use Rattle.std.proofs.Common.{sym, ◌∙◌, ap}
use Rattle.std.specs.Prelude.{find, is_some}
use Rattle.vx_message.specs.Rules.{is_rule}
use Rattle.vx_bus_store.specs.Stores.{BusStore}
use Rattle.vx_bus_store.proofs.Positions.{find-any}
use Rattle.vx_bus_store.proofs.bus.Bus.has_rule.Goals as goal

pub returns : goal.returns
returns c = c.has.ensures ∙ sym (find-any (is_rule c.args.id) c.self.inside.rules.rules) ∙ ap (λ (bus : BusStore). is_some (find (is_rule c.args.id) bus.rules)) c.self.view_is
