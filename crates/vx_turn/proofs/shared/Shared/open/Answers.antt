use Rattle.std.proofs.Common.{◌≡◌, [], ◌∷◌, Some, arith}
use Rattle.std.proofs.lemmas.Grind.{common_steps}
use Rattle.vx_turn.proofs.Moves.{starts}
use Rattle.vx_turn.proofs.shared.Shared.open.Goals as goal

pub new-requires : goal.new-requires
new-requires g c =
    let slots : c.push.new.self.items ≡ Some c.args.machine ∷ [] = grind (arith, common_steps) in
    rw slots (starts g.M.Machine.stands_for g.M.Machine.legal g.M.Machine.pass_of g.M.Machine.passes c.args.machine c.requires.0 c.requires.1 g.met.M.Machine.one_at_first)
