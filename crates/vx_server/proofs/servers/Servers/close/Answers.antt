use Rattle.std.proofs.Common.{not}
use Rattle.vx_server.specs.Servers.{is_of}
use Rattle.vx_server.proofs.Places.{counted_left, turns_left}
use Rattle.vx_server.proofs.servers.Servers.close.Goals as goal

pub invariant_of-self : goal.invariant_of-self
invariant_of-self c = counted_left (λ server. not (is_of c.args.context server)) c.self.inside.listening.items _ c.self.inside.turns.entries _ c.self.invariant c.leave_out_of.ensures c.forget_left.ensures

pub returns-clause-turns : goal.returns-clause-turns
returns-clause-turns c = rw (← c.self.view_is) (turns_left _ c.self.inside.turns.entries _ c.forget_left.ensures)
