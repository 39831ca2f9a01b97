use Rattle.vx_ring.proofs.Lookups.{consumers_kept, choices_kept}
use Rattle.vx_ring.proofs.rings.Rings.choose.Goals as goal

pub returns-clause-chosen : goal.returns-clause-chosen
returns-clause-chosen c = rw (← c.self.view_is) (simp (consumers_kept, choices_kept) c.choose.ensures.chosen)

pub returns-clause-consumers : goal.returns-clause-consumers
returns-clause-consumers c = rw (← c.self.view_is) (simp consumers_kept c.choose.ensures.consumers)

pub returns-clause-choices : goal.returns-clause-choices
returns-clause-choices c = rw (← c.self.view_is) (simp (consumers_kept, choices_kept) c.choose.ensures.choices)
