use Rattle.std.proofs.Common.{ap, ◌∙◌}
use Rattle.vx_call.specs.Refusals.{shut_since}
use Rattle.vx_hub.proofs.rows.shut.closed.Goals as goal

pub returns-in-Some : goal.returns-in-Some
returns-in-Some c = λ history stands. ap shut_since (c.in-Some.ensures ∙ stands.parts.closed)

pub returns-in-None : goal.returns-in-None
returns-in-None c = λ history stands. ap shut_since (c.in-None.ensures ∙ stands.parts.closed)
