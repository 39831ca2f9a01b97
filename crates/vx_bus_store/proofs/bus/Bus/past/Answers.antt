use Rattle.vx_bus_store.proofs.Limits.{has_room, grows_within}
use Rattle.vx_bus_store.proofs.bus.Bus.past.Goals as goal

pub pass_through-requires : goal.pass_through-requires
pass_through-requires c = has_room c.args.message.headers c.args.side c.self.inside.rules.rules c.self.invariant.1 c.requires.pairs c.requires.bytes

pub returns-in-Ok-clause-grown : goal.returns-in-Ok-clause-grown
returns-in-Ok-clause-grown c = grows_within c.args.side c.self.inside.rules.rules c.args.message c.in-Ok.through c.self.invariant.1 c.in-Ok.ensures.grown
