use Rattle.std.proofs.Common.{◌≡◌, ◌+◌, drop}
use Rattle.vx_words.specs.Reading.{spaces_len}
use Rattle.vx_words.proofs.word.spaces_len.Given as goal

abbrev pub invariant-loop-i : goal.invariant-loop-i
invariant-loop-i l = l.i + spaces_len (drop l.i l.bytes) ≡ spaces_len l.bytes
