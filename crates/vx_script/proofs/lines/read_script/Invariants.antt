use Rattle.std.proofs.Common.{◌≡◌, ◌+◌, ◌≤◌, length, vec_len}
use Rattle.std.specs.Str.Lines.{lines}
use Rattle.vx_script.specs.Lines.{commands_from, commands_of, with_front}
use Rattle.vx_script.proofs.lines.read_script.Given as goal

-- the calls so far and those of the rest are those of all
abbrev pub invariant-loop-rest : goal.invariant-loop-rest
invariant-loop-rest l = record {
  told : with_front l.commands.items (commands_from l.passes (l.number + 1) (lines l.rest)) ≡ commands_of l.bytes;
  each : vec_len l.commands ≤ l.number;
  few : l.number + length l.rest ≤ length l.bytes;
  here : l.passes ≤ l.number + 1;
}

abbrev pub decreases-loop-rest : goal.decreases-loop-rest
decreases-loop-rest l = length l.rest
