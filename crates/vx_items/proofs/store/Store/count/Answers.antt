use Rattle.std.proofs.Common.{arith}
use Rattle.vx_items.proofs.Stored.{count_is}
use Rattle.vx_items.proofs.store.Store.count.Goals as goal

pub returns : goal.returns
returns g c = let counted = count_is _ _ _ _ c.self.invariant in rw (← c.self.view_is) (omega (arith, counted))
