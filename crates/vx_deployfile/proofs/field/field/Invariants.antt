use Rattle.std.proofs.Common.{◌≡◌, drop}
use Rattle.vx_data.specs.Bodies.{members}
use Rattle.vx_deployfile.specs.Fields as fields
use Rattle.vx_deployfile.proofs.field.field.Given as goal

abbrev pub invariant-loop-key : goal.invariant-loop-key
invariant-loop-key l = fields.field l.name (members (drop l.key-index l.pairs)) ≡ fields.field l.name (members l.pairs)
