use Rattle.vx_ring.proofs.Lookups.{consumers_kept, choices_kept}
use Rattle.vx_ring.proofs.rings.Rings.turn.Goals as goal

pub returns : goal.returns
returns c = rw (← c.self.view_is) (simp (consumers_kept, choices_kept) c.turn.ensures)
