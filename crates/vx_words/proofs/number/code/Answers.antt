use Rattle.std.proofs.Common.{◌≡◌, ◌∙◌, sym, ap, true}
use Rattle.vx_words.specs.Grammar.{is_digits}
use Rattle.vx_words.specs.Reading.{behind_minus}
use Rattle.vx_words.proofs.Digits.{code_parsed, no_signed, signed_utf8}
use Rattle.vx_words.proofs.number.code.Goals as goal

pub returns-then-not-is_digits : goal.returns-then-not-is_digits
returns-then-not-is_digits c = no_signed 31 c.args.text.now (ap is_digits (sym c.unsigned.ensures) ∙ sym c.if-not-is_digits.ensures)

pub returns-in-Ok : goal.returns-in-Ok
returns-in-Ok c =
    let d : is_digits (behind_minus c.args.text.now) ≡ true = ap is_digits (sym c.unsigned.ensures) ∙ sym c.if-not-is_digits.ensures in
    c.ok.ensures.value ∙ code_parsed c.args.text.now c.in-Ok.numeral.now c.parse.result c.in-Ok.ensures.cases.0 c.parse.ensures.value.0 d

pub returns-in-Err : goal.returns-in-Err
returns-in-Err c =
    let d : is_digits (behind_minus c.args.text.now) ≡ true = ap is_digits (sym c.unsigned.ensures) ∙ sym c.if-not-is_digits.ensures in
    absurd (c.in-Err.ensures.cases.0 (signed_utf8 c.args.text.now d))
