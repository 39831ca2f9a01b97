use Rattle.vx_line.proofs.Forms.{line_take, line_again}
use Rattle.vx_line.proofs.laws.lines_are_read_as_spelled.Goals as goal

pub returns : goal.returns
returns c = λ scope passes line said. (line_take scope passes line said, line_again scope passes line said)
