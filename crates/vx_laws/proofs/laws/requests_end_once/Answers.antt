use Rattle.vx_laws.proofs.Requests.{ended_once}
use Rattle.vx_laws.proofs.laws.requests_end_once.Goals as goal

pub returns : goal.returns
returns c = ended_once
