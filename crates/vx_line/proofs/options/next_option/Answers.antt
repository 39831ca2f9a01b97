use Rattle.std.proofs.Common.{sym}
use Rattle.vx_line.proofs.Runs.{option_is, option_shorter}
use Rattle.vx_line.proofs.options.next_option.Goals as goal

pub returns-then-is_option-clause-shorter : goal.returns-then-is_option-clause-shorter
returns-then-is_option-clause-shorter c =
    option_shorter c.args.tail.now (c.split_word.result.0.now, c.split_word.result.1.now)
    (option_is c.args.tail.now c.in_ok-bytes.bytes.now c.split_word.result.0.now c.split_word.result.1.now (sym c.in_ok-bytes.ensures) (sym c.if-is_option.ensures) c.split_word.ensures.word c.split_word.ensures.tail)
