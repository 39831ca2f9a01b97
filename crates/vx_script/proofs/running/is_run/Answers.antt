use Rattle.std.proofs.Common.{arith, rules}
use Rattle.vx_script.proofs.Arguments.{one_word}
use Rattle.vx_script.proofs.running.is_run.Goals as goal

pub returns-in-len1 : goal.returns-in-len1
returns-in-len1 c = one_word c.args.words.now c.word-item.result _ _ (omega arith) c.word-item.is (search rules)
