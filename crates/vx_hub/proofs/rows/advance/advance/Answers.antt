use Rattle.std.proofs.Common.{arith}
use Rattle.vx_hub.proofs.RowAdvance.{advances}
use Rattle.vx_hub.proofs.rows.advance.advance.Goals as goal

pub returns-clause-follows : goal.returns-clause-follows
returns-clause-follows c = λ history pass stands at.
    advances c.args.contexts.now c.time_out_due.new.contexts c.args.timers.now c.time_out_due.new.timers c.args.bus.now c.time_out_due.new.bus history pass c.args.moment c.at.result c.time_out_due.result
    stands (omega arith) (c.time_out_due.ensures.advanced history stands at.next)
