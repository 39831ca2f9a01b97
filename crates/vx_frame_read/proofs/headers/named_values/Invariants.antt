use Rattle.std.proofs.Common.{◌≡◌, take}
use Rattle.vx_data.specs.Tree.{Members}
use Rattle.vx_json_parts.specs.Parts.{AreFields}
use Rattle.vx_frame_read.proofs.Valued.{valued_fields}
use Rattle.vx_frame_read.proofs.headers.named_values.Given as goal

abbrev pub invariant-loop-name : goal.invariant-loop-name
invariant-loop-name l = (ms : Members) → AreFields ms l.name-items → l.pairs.items ≡ take l.name-index (valued_fields ms)
