use Rattle.std.proofs.Common.{◌≡◌, ◌++◌, map, drop}
use Rattle.vx_data.specs.Tree.{text}
use Rattle.vx_frame_write.specs.Outgoing.{values_named}
use Rattle.vx_frame_write.proofs.headers.values_named.Given as goal

-- the values so far, and those among the pairs that are left, are all values
abbrev pub invariant-loop-other : goal.invariant-loop-other
invariant-loop-other l = l.values.items ++ map text (values_named l.name (drop l.other-index l.pairs)) ≡ map text (values_named l.name l.pairs)
