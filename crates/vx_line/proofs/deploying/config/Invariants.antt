use Rattle.std.proofs.Common.{◌≡◌, length, codes}
use Rattle.vx_words.specs.Grammar.{ASigned}
use Rattle.vx_words.proofs.Sequences.{onto}
use Rattle.vx_line.proofs.Runs.{each_at}
use Rattle.vx_line.proofs.deploying.config.Given as goal

-- the numbers so far, and those that are still to come
abbrev pub invariant-loop-option : goal.invariant-loop-option
invariant-loop-option l = onto l.numbers.items (each_at (ASigned 63) (codes "+config:") l.rest) ≡ each_at (ASigned 63) (codes "+config:") l.tail

abbrev pub decreases-loop-option : goal.decreases-loop-option
decreases-loop-option l = length l.rest
