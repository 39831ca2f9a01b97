use Rattle.std.proofs.Common.{◌≡◌, ◌++◌, drop, false}
use Rattle.vx_data.specs.Bodies.{members}
use Rattle.vx_frame_read.specs.Fields.{member_pairs}
use Rattle.vx_frame_read.specs.HeaderPairs.{are_large}
use Rattle.vx_frame_read.proofs.headers.pairs_of.Given as goal

-- the pairs so far, and those of the names that are left, are all pairs
abbrev pub invariant-loop-name : goal.invariant-loop-name
invariant-loop-name l = record {
  all : l.headers ++ member_pairs (members (drop l.name-index l.named)) ≡ member_pairs (members l.named);
  small : are_large l.headers ≡ false;
}
