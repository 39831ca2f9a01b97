use Rattle.std.proofs.Common.{◌<◌, ◌≤◌, ◌+◌, length}
use Rattle.std.specs.Vec.Iter.{into_iter_items}
use Rattle.first_verticle.proofs.serving.make_all.Given as goal

abbrev pub invariant-loop-act : goal.invariant-loop-act
invariant-loop-act l = (0 < l.hub.passes) × (l.act_no + length (into_iter_items l.act-iterator) ≤ 1024)
