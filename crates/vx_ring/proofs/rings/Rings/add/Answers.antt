use Rattle.vx_ring.proofs.Lookups.{consumers_kept, choices_kept}
use Rattle.vx_ring.proofs.rings.Rings.add.Goals as goal

pub returns-clause-added : goal.returns-clause-added
returns-clause-added c = rw (← c.self.view_is) (simp consumers_kept c.add.ensures.added)

pub returns-clause-without_memory_as_before : goal.returns-clause-without_memory_as_before
returns-clause-without_memory_as_before c = rw (← c.self.view_is) (simp consumers_kept c.add.ensures.without_memory_as_before)

pub returns-clause-choices : goal.returns-clause-choices
returns-clause-choices c = rw (← c.self.view_is) (simp choices_kept c.add.ensures.choices)
