use Rattle.std.proofs.Common.{◌≡◌, ◌++◌, length, option_map}
use Rattle.std.specs.Option.{option_to_list}
use Rattle.vx_line.specs.Grammar.{texts_of}
use Rattle.vx_line.specs.Reading.{options_of}
use Rattle.vx_line.proofs.options.one.Given as goal

-- what was found, and what is still to be found
abbrev pub invariant-loop-option : goal.invariant-loop-option
invariant-loop-option l = option_to_list (option_map (λ x. x.now) l.found) ++ texts_of l.name (options_of l.rest).words ≡ texts_of l.name (options_of l.tail).words

abbrev pub decreases-loop-option : goal.decreases-loop-option
decreases-loop-option l = length l.rest
