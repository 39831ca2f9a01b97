use Rattle.std.proofs.Common.{◌≡◌, map, take}
use Rattle.vx_data.specs.Tree.{int}
use Rattle.vx_deployfile.proofs.write.numbers.Given as goal

abbrev pub invariant-loop-n : goal.invariant-loop-n
invariant-loop-n l = l.items.items ≡ map int (take l.n-index l.list)
