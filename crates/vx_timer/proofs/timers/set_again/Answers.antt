use Rattle.std.proofs.Common.{refl}
use Rattle.vx_timer.proofs.Named.{named_rest, named_again}
use Rattle.vx_timer.proofs.timers.set_again.Goals as goal

pub returns-in-None-clause-named : goal.returns-in-None-clause-named
returns-in-None-clause-named c item are = named_rest item c.args.timer _ _ _ are c.forget.ensures.forgotten

pub returns-in-Some-clause-named : goal.returns-in-Some-clause-named
returns-in-Some-clause-named c item are = named_again _ _ item c.args.timer _ _ _ c.put-item.result refl c.put-item.ensures.puts are c.note_again.ensures
