use Rattle.std.proofs.Common.{◌≡◌, ◌++◌, drop, false}
use Rattle.vx_data.specs.Bodies.{elements}
use Rattle.vx_frame_read.specs.Fields.{element_pairs}
use Rattle.vx_frame_read.specs.HeaderPairs.{are_large}
use Rattle.vx_frame_read.proofs.headers.add_all.Given as goal

-- the pairs so far, and those of the texts that are left, are all pairs
abbrev pub invariant-loop-text : goal.invariant-loop-text
invariant-loop-text l = record {
  all : l.headers ++ element_pairs l.name (elements (drop l.text-index l.texts)) ≡ l.initial.headers ++ element_pairs l.name (elements l.texts);
  small : are_large l.headers ≡ false;
}
