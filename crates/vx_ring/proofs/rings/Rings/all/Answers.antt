use Rattle.std.proofs.Common.{ap, ◌∙◌}
use Rattle.vx_ring.specs.Entries.{consumers_of}
use Rattle.vx_ring.proofs.Lookups.{consumers_kept}
use Rattle.vx_ring.proofs.rings.Rings.all.Goals as goal

pub returns-in-Some : goal.returns-in-Some
returns-in-Some c = rw (← c.self.view_is, consumers_kept) (c.deref.ensures.value ∙ ap consumers_of c.in-Some.ensures.value)

pub returns-in-None : goal.returns-in-None
returns-in-None c = rw (← c.self.view_is, consumers_kept) (ap consumers_of c.in-None.ensures.value)
