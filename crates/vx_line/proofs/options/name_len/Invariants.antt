use Rattle.std.proofs.Common.{◌≡◌, ◌+◌, drop}
use Rattle.vx_line.specs.Grammar.{name_len}
use Rattle.vx_line.proofs.options.name_len.Given as goal

abbrev pub invariant-loop-i : goal.invariant-loop-i
invariant-loop-i l = l.i + name_len (drop l.i l.word) ≡ name_len l.word
