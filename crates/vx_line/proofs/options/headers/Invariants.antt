use Rattle.std.proofs.Common.{◌≡◌, false, length, codes}
use Rattle.vx_data.specs.HeaderLists.{too_many}
use Rattle.vx_words.specs.Grammar.{AHeader}
use Rattle.vx_line.specs.Grammar.{texts_of}
use Rattle.vx_line.specs.Reading.{options_of, each_in}
use Rattle.vx_words.proofs.Sequences.{onto}
use Rattle.vx_line.proofs.options.headers.Given as goal

-- the headers so far, and those that are still to come
abbrev pub invariant-loop-option : goal.invariant-loop-option
invariant-loop-option l = record {
  all : onto l.headers (each_in AHeader (texts_of (codes "+h:") (options_of l.rest).words)) ≡ each_in AHeader (texts_of (codes "+h:") (options_of l.tail).words);
  fit : too_many l.headers ≡ false;
}

abbrev pub decreases-loop-option : goal.decreases-loop-option
decreases-loop-option l = length l.rest
