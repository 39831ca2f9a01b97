use Rattle.std.proofs.Common.{◌≡◌, ◌∙◌, sym, ap, true, false, ◌||◌}
use Rattle.std.specs.Str.{bytes_eq}
use Rattle.vx_line.specs.Grammar.{option_name}
use Rattle.vx_line.specs.Tables.{has_option}
use Rattle.vx_line.proofs.Runs.{named_more, named_none}
use Rattle.vx_line.proofs.options.has_option.Goals as goal

pub returns-then-eq : goal.returns-then-eq
returns-then-eq c =
    let same : bytes_eq c.args.name.now (option_name c.in-Some.option.now) ≡ true = ap (bytes_eq c.args.name.now) (sym c.split_name.ensures.name) ∙ sym c.eq.ensures ∙ c.if-eq.true in
    sym (sym c.loop-option.invariant ∙ named_more c.args.name.now c.loop-option.rest.now (c.in-Some.option.now, c.in-Some.behind.now) (sym c.in-Some.ensures.option) ∙ ap (λ b. b || has_option c.args.name.now c.in-Some.behind.now) same)

pub loop-option-preserved : goal.loop-option-preserved
loop-option-preserved c =
    let other : bytes_eq c.args.name.now (option_name c.in-Some.option.now) ≡ false = ap (bytes_eq c.args.name.now) (sym c.split_name.ensures.name) ∙ sym c.eq.ensures ∙ c.if-eq.false in
    sym (named_more c.args.name.now c.loop-option.rest.now (c.in-Some.option.now, c.in-Some.behind.now) (sym c.in-Some.ensures.option) ∙ ap (λ b. b || has_option c.args.name.now c.in-Some.behind.now) other) ∙ c.loop-option.invariant

pub returns : goal.returns
returns c = sym (named_none c.args.name.now c.loop-option.rest.now (sym c.in_default.ensures.option)) ∙ c.loop-option.invariant
