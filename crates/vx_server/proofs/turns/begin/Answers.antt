use Rattle.std.proofs.Common.{sym, ◌∙◌}
use Rattle.vx_server.specs.Servers.{count_at}
use Rattle.vx_server.proofs.Places.{none_counted, begun_turns}
use Rattle.vx_server.proofs.turns.begin.Goals as goal

pub returns-in_ok-insert-clause-same : goal.returns-in_ok-insert-clause-same
returns-in_ok-insert-clause-same c = λ p.
    begun_turns c.args.place p c.args.turns.now.entries c.insert.new.self.entries
    (none_counted (count_at c.args.place c.args.turns.now.entries) (sym c.contains_key.ensures ∙ c.if-not-contains_key.true))
    (c.in_ok-insert.ensures.updates.0 p)
