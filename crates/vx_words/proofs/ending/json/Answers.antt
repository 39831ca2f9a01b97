use Rattle.vx_words.proofs.Endings.{body_again, body_bad, body_deep}
use Rattle.vx_words.proofs.ending.json.Goals as goal

pub returns-in-Ok : goal.returns-in-Ok
returns-in-Ok c = body_again c.args.text.now c.in-Ok.body c.in-Ok.ensures.found

pub returns-in-Err-BadJson : goal.returns-in-Err-BadJson
returns-in-Err-BadJson c = body_bad c.args.text.now _ c.in-Err-BadJson.field-0-is c.in-Err-BadJson.ensures.only

pub returns-in-Err-Deep : goal.returns-in-Err-Deep
returns-in-Err-Deep c = body_deep c.args.text.now _ c.in-Err-Deep.field-0-is c.in-Err-Deep.ensures.only
