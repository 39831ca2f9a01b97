use Rattle.std.proofs.Common.{refl, ap, Err}
use Rattle.vx_words.proofs.Texts.{text_read, text_refused}
use Rattle.vx_words.proofs.token.text.Goals as goal

pub returns-in-Ok : goal.returns-in-Ok
returns-in-Ok c = text_read c.args.bytes.now c.in-Ok.text _ refl c.in-Ok.ensures.text c.in-Ok.ensures.bad

pub returns-in-Err-BadText : goal.returns-in-Err-BadText
returns-in-Err-BadText c = text_refused c.args.bytes.now _ (ap Err c.in-Err-BadText.field-0-is) c.in-Err-BadText.ensures.bad
