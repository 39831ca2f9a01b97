use Rattle.vx_tree.proofs.Settled.{settled_again}
use Rattle.vx_tree.proofs.tree.gone_ones_stay_gone.Goals as goal

pub returns : goal.returns
returns c = λ old new live left nodes more fewer. settled_again old new live left more fewer nodes
