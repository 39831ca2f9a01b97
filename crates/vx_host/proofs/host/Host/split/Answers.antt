use Rattle.vx_turn.specs.Passes.{caller}
use Rattle.vx_host.proofs.Parting.{split_called, split_refused}
use Rattle.vx_host.proofs.host.Host.split.Goals as goal

pub returns-clause-called : goal.returns-clause-called
returns-clause-called g c = split_called (caller c.args.pass) (caller c.split.result.0) c.args.pass.own c.split.result.1 c.split.ensures.split

pub returns-clause-spent : goal.returns-clause-spent
returns-clause-spent g c = split_refused (caller c.args.pass) (caller c.split.result.0) c.args.pass.own c.split.result.1 c.split.ensures.split
