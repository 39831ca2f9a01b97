use Rattle.std.proofs.Common.{[]}
use Rattle.vx_tally.proofs.uses.meet.Given as goal

abbrev pub ghost-leave : goal.ghost-leave
ghost-leave g a = []
