use Rattle.std.proofs.Common.{[]}
use Rattle.vx_host.proofs.turns.split.Given as goal

abbrev pub ghost-split : goal.ghost-split
ghost-split g a = []
