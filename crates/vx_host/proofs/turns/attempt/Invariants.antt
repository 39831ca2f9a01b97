use Rattle.vx_turn.specs.Passes.{seen_in}
use Rattle.vx_host.proofs.turns.attempt.Given as goal

abbrev pub ghost-leave : goal.ghost-leave
ghost-leave g a = g.G.Grows.adds (seen_in a.self)
