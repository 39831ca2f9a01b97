use Rattle.std.proofs.Common.{sym, ◌∙◌}
use Rattle.vx_line.proofs.Runs.{rest_next, rest_last}
use Rattle.vx_line.proofs.options.skip_options.Goals as goal

pub loop-behind-preserved : goal.loop-behind-preserved
loop-behind-preserved c = sym (rest_next c.loop-behind.rest.now (c.in-Some.field-0-0.now, c.in-Some.behind.now) (sym c.in-Some.ensures.option)) ∙ c.loop-behind.invariant

pub returns : goal.returns
returns c = sym (rest_last c.loop-behind.rest.now (sym c.in_default.ensures.option)) ∙ c.loop-behind.invariant
