use Rattle.std.proofs.Common.{◌∙◌}
use Rattle.vx_words.proofs.Texts.{utf8_test}
use Rattle.vx_line.proofs.reasons.is_text.Goals as goal

pub returns : goal.returns
returns c = c.is_ok.ensures.value ∙ utf8_test c.args.line.now c.from_utf8.result c.from_utf8.ensures.cases
