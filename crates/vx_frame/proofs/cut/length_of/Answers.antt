use Rattle.std.proofs.Common.{◌∙◌, ap, arith}
use Rattle.std.specs.Int.{w32, from_be_bytes}
use Rattle.vx_frame.proofs.Cutting.{prefix_of_number, four_bytes}
use Rattle.vx_frame.proofs.cut.length_of.Goals as goal

pub returns : goal.returns
returns c = prefix_of_number c.args.bytes.now c.from_be_bytes.result c.requires (λ i. omega (arith, c.type_inv.bytes i)) (c.from_be_bytes.ensures ∙ ap (from_be_bytes w32) (four_bytes c.args.bytes.now c.requires))
