use Rattle.std.proofs.Common.{◌∙◌, ap, arith}
use Rattle.vx_data.specs.Tree.{object}
use Rattle.vx_rules.proofs.Objects.{gathered_in_order}
use Rattle.vx_rules.proofs.forms.object.Goals as goal

pub returns-in-Ok : goal.returns-in-Ok
returns-in-Ok c = c.in-Ok.ensures.made ∙ ap object (gathered_in_order c.args.pairs.items c.requires.order)

pub unreachable-requires : goal.unreachable-requires
unreachable-requires c =
    let same = gathered_in_order c.args.pairs.items c.requires.order in
    omega (arith, c.requires.depth, rw same at (c.in-Err.ensures.deep c.in-TooDeep.is))
