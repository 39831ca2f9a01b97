use Rattle.vx_json.proofs.Words.{after_found}
use Rattle.vx_words.proofs.word.after.Goals as goal

pub returns : goal.returns
returns c = after_found c.strip_prefix.result c.args.front.now c.args.bytes.now c.strip_prefix.ensures.cases
