use Rattle.std.proofs.Common.{◌≡◌, take}
use Rattle.vx_frame_write.specs.Written.{without_values}
use Rattle.vx_frame_write.proofs.headers.names_of.Given as goal

abbrev pub invariant-loop-name : goal.invariant-loop-name
invariant-loop-name l = l.names.items ≡ without_values (take l.name-index l.pairs)
