use Rattle.std.proofs.Common.{arith}
use Rattle.vx_script.proofs.Cutting.{cut_whole, cut_first}
use Rattle.vx_script.proofs.lines.cut_line.Goals as goal

pub returns-in-empty-clause-cut : goal.returns-in-empty-clause-cut
returns-in-empty-clause-cut c =
    cut_whole c.args.bytes.now c.newline_at.result c.split_at.result.0.now c.split_at.result.1.now c.newline_at.ensures.value c.requires c.split_at.ensures.front c.split_at.ensures.back (omega arith)

pub returns-in-len1-up-clause-cut : goal.returns-in-len1-up-clause-cut
returns-in-len1-up-clause-cut c =
    cut_first c.args.bytes.now c.newline_at.result c.split_at.result.0.now c.split_at.result.1.now c.strip.result.now c.newline_at.ensures.value c.split_at.ensures.front c.split_at.ensures.back c.strip.ensures (omega arith)
