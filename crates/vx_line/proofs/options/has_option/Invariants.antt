use Rattle.std.proofs.Common.{◌≡◌, length}
use Rattle.vx_line.specs.Tables.{has_option}
use Rattle.vx_line.proofs.options.has_option.Given as goal

abbrev pub invariant-loop-option : goal.invariant-loop-option
invariant-loop-option l = has_option l.name l.rest ≡ has_option l.name l.tail

abbrev pub decreases-loop-option : goal.decreases-loop-option
decreases-loop-option l = length l.rest
