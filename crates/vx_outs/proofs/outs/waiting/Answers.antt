use Rattle.std.proofs.Common.{sym, ap}
use Rattle.vx_outs.specs.Outs.{queue_of}
use Rattle.vx_outs.proofs.outs.waiting.Goals as goal

pub len-requires : goal.len-requires
len-requires c = c.requires.within c.args.conn _ (sym (ap queue_of c.in-Some.ensures.value))
