use Rattle.std.proofs.Common.{◌≡◌, sym, ◌∙◌}
use Rattle.std.specs.Prelude.{true}
use Rattle.std.proofs.lemmas.Result.{IfOk-weaker}
use Rattle.std.proofs.Math.Logic.{∥∥₁_map}
use Rattle.vx_core_bus.specs.Calls.{is_bus_call}
use Rattle.vx_hub.proofs.Calls.{bus_moves_none, with_lives}
use Rattle.vx_hub.proofs.rows.plain.core_row.Goals as goal

pub step-requires-else-is_life_call-clause-one : goal.step-requires-else-is_life_call-clause-one
step-requires-else-is_life_call-clause-one c = ∥∥₁_map c.requires.one (λ p. (p.0, p.1.1.1.stores))

pub returns-else-is_life_call-clause-ok : goal.returns-else-is_life_call-clause-ok
returns-else-is_life_call-clause-ok c =
    let own : is_bus_call c.args.call ≡ true = c.requires.own (sym c.is_life_call.ensures ∙ c.if-is_life_call.false) in
    let called = c.step-else-is_life_call in
    IfOk-weaker called.result _ _
    (λ reply row history stands legal is_at.
    with_lives c.args.life.now called.new.contexts called.new.timers called.new.bus history c.args.pass c.args.call reply (bus_moves_none c.args.call own) stands.lives (row history stands.stores is_at))
    called.ensures.ok
