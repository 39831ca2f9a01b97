use Rattle.std.proofs.Common.{rules, tests, not}
use Rattle.std.proofs.lemmas.Fn.{filter_same}
use Rattle.vx_server.specs.Servers.{is_server}
use Rattle.vx_server.proofs.servers.leave_out.Goals as goal

pub returns : goal.returns
returns c = filter_same _ (λ server. not (is_server c.args.id server)) _ (λ x b q k. search (rules, tests)) _ _ c.retain.ensures.filtered
