use Rattle.std.proofs.Common.{◌≡◌, length}
use Rattle.vx_line.specs.Reading.{options_of}
use Rattle.vx_line.proofs.options.skip_options.Given as goal

abbrev pub invariant-loop-behind : goal.invariant-loop-behind
invariant-loop-behind l = (options_of l.rest).rest ≡ (options_of l.tail).rest

abbrev pub decreases-loop-behind : goal.decreases-loop-behind
decreases-loop-behind l = length l.rest
