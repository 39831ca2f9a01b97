use Rattle.std.proofs.Common.{◌∙◌, sym, map}
use Rattle.vx_line.proofs.Runs.{behind_known, behind_unknown, behind_none}
use Rattle.vx_line.proofs.options.behind_options.Goals as goal

pub returns-then-not-is_known : goal.returns-then-not-is_known
returns-then-not-is_known c =
    sym c.loop-option.invariant ∙ behind_unknown (map (λ name. name.now) c.args.names.now) c.loop-option.rest.now (c.in-Some.option.now, c.in-Some.behind.now) (sym c.in-Some.ensures.option) (sym c.if-not-is_known.ensures)

pub loop-option-preserved : goal.loop-option-preserved
loop-option-preserved c =
    sym (behind_known (map (λ name. name.now) c.args.names.now) c.loop-option.rest.now (c.in-Some.option.now, c.in-Some.behind.now) (sym c.in-Some.ensures.option) (sym c.if-not-is_known.ensures)) ∙ c.loop-option.invariant

pub returns : goal.returns
returns c = sym c.loop-option.invariant ∙ behind_none (map (λ name. name.now) c.args.names.now) c.loop-option.rest.now (sym c.in_default.ensures.option)
