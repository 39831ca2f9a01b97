use Rattle.std.proofs.Common.{◌≡◌, length}
use Rattle.vx_words.specs.Reading.{words_at}
use Rattle.vx_words.proofs.Sequences.{onto}
use Rattle.vx_words.proofs.ending.texts.Given as goal

-- the texts so far, and those that are still to come
abbrev pub invariant-loop-word : goal.invariant-loop-word
invariant-loop-word l = onto l.texts.items (words_at l.rest) ≡ words_at l.tail

abbrev pub decreases-loop-word : goal.decreases-loop-word
decreases-loop-word l = length l.rest
