use Rattle.std.proofs.Common.{arith, rules}
use Rattle.vx_script.proofs.Cutting.{begins, step, step_bad, ends}
use Rattle.vx_script.proofs.lines.read_script.Goals as goal

pub loop-rest-init : goal.loop-rest-init
loop-rest-init c = record {
  told = begins c.args.bytes.now c.new-commands.result.items c.new-commands.ensures.items;
  each = omega arith;
  few = omega arith;
  here = omega arith;
}

pub returns-in-Err-clause-commands : goal.returns-in-Err-clause-commands
returns-in-Err-clause-commands c =
    rw c.bad_line.ensures (step_bad c.loop-rest.commands.items c.loop-rest.passes c.loop-rest.number c.loop-rest.rest.now c.cut_line.result.0.now c.cut_line.result.1.now _ c.in-Err.fault c.loop-rest.invariant.told c.cut_line.ensures.cut c.in-Err.ensures.err)

pub loop-rest-preserved : goal.loop-rest-preserved
loop-rest-preserved c = record {
  told = step c.loop-rest.commands.items c.read_into.new.commands.items c.loop-rest.passes c.in-Ok.now c.loop-rest.number c.loop-rest.rest.now c.cut_line.result.0.now c.cut_line.result.1.now _ c.loop-rest.invariant.told c.cut_line.ensures.cut c.in-Ok.ensures.ok;
  each = omega arith;
  few = omega arith;
  here = omega (arith, c.in-Ok.ensures.few);
}

pub returns-clause-commands : goal.returns-clause-commands
returns-clause-commands c = ends c.loop-rest.commands.items c.loop-rest.passes c.loop-rest.number c.loop-rest.rest.now _ c.loop-rest.invariant.told (search rules)
