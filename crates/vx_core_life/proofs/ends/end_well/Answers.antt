use Rattle.vx_core_life.proofs.RowEnds.{ends_well}
use Rattle.vx_core_life.proofs.ends.end_well.Goals as goal

pub returns-clause-ends : goal.returns-clause-ends
returns-clause-ends c = λ history new timers bus stands legal is_next may started.
    ends_well c.args.life.now c.args.contexts.now timers bus history new c.args.at c.args.context stands may is_next c.started.new.self c.move_on.new.life c.move_on.new.contexts started c.started.ensures c.move_on.ensures.said c.move_on.ensures.told
