use Rattle.vx_laws.proofs.Demand.{take_as_fetched}
use Rattle.vx_laws.proofs.laws.messages_are_taken_as_fetched.Goals as goal

pub returns : goal.returns
returns c = take_as_fetched
