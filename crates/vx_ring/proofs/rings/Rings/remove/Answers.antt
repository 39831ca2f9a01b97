use Rattle.vx_ring.proofs.Lookups.{consumers_kept, choices_kept}
use Rattle.vx_ring.proofs.rings.Rings.remove.Goals as goal

pub returns-clause-found : goal.returns-clause-found
returns-clause-found c = rw (← c.self.view_is) (simp consumers_kept c.remove.ensures.found)

pub returns-clause-left : goal.returns-clause-left
returns-clause-left c = rw (← c.self.view_is) (simp consumers_kept c.remove.ensures.left)

pub returns-clause-choices : goal.returns-clause-choices
returns-clause-choices c = rw (← c.self.view_is) (simp (consumers_kept, choices_kept) c.remove.ensures.choices)
