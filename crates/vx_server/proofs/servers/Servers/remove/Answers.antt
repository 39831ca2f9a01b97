use Rattle.std.proofs.Common.{ap, ◌∙◌, is_some, not}
use Rattle.vx_server.specs.Servers.{is_server}
use Rattle.vx_server.proofs.Listeners.{found_any}
use Rattle.vx_server.proofs.Places.{counted_left, turns_left}
use Rattle.vx_server.proofs.servers.Servers.remove.Goals as goal

pub invariant_of-self : goal.invariant_of-self
invariant_of-self c = counted_left (λ server. not (is_server c.args.id server)) c.self.inside.listening.items _ c.self.inside.turns.entries _ c.self.invariant c.leave_out.ensures c.forget_left.ensures

pub returns-clause-found : goal.returns-clause-found
returns-clause-found c = c.is_some-found.ensures ∙ ap is_some c.context.ensures ∙ found_any (is_server c.args.id) c.args.self.now.servers

pub returns-clause-turns : goal.returns-clause-turns
returns-clause-turns c = rw (← c.self.view_is) (turns_left _ c.self.inside.turns.entries _ c.forget_left.ensures)
