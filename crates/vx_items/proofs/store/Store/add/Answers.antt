use Rattle.std.proofs.Common.{◌∙◌}
use Rattle.vx_items.proofs.Entries.{put_at_end}
use Rattle.vx_items.proofs.store.Store.add.Goals as goal

pub returns-clause-lists : goal.returns-clause-lists
returns-clause-lists g c = c.insert.ensures.lists ∙ rw put_at_end
