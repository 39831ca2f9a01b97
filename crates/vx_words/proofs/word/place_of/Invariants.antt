use Rattle.std.proofs.Common.{◌≡◌, ◌+◌, drop}
use Rattle.vx_words.specs.Reading.{place_of}
use Rattle.vx_words.proofs.word.place_of.Given as goal

abbrev pub invariant-loop-i : goal.invariant-loop-i
invariant-loop-i l = l.i + place_of l.letter (drop l.i l.bytes) ≡ place_of l.letter l.bytes
