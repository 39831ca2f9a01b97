use Rattle.std.proofs.Common.{◌≡◌, length, map}
use Rattle.vx_line.specs.Reading.{behind_options}
use Rattle.vx_line.proofs.options.behind_options.Given as goal

abbrev pub invariant-loop-option : goal.invariant-loop-option
invariant-loop-option l = behind_options (map (λ name. name.now) l.names) l.rest ≡ behind_options (map (λ name. name.now) l.names) l.tail

abbrev pub decreases-loop-option : goal.decreases-loop-option
decreases-loop-option l = length l.rest
