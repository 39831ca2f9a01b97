use Rattle.std.proofs.Common.{◌∙◌, sym}
use Rattle.vx_words.proofs.Digits.{number_parsed, digits_utf8}
use Rattle.vx_words.proofs.number.byte_number.Goals as goal

pub returns-in-Ok : goal.returns-in-Ok
returns-in-Ok c = c.ok.ensures.value ∙ number_parsed 8 c.args.text.now c.in-Ok.digits.now c.parse.result c.in-Ok.ensures.cases.0 c.parse.ensures.value.0 (sym c.if-not-is_digits.ensures)

pub returns-in-Err : goal.returns-in-Err
returns-in-Err c = absurd (c.in-Err.ensures.cases.0 (digits_utf8 c.args.text.now (sym c.if-not-is_digits.ensures)))
