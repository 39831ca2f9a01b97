use Rattle.std.proofs.Common.{◌∙◌}
use Rattle.vx_items.proofs.Linked.{last_is, last_stands, in_lists}
use Rattle.vx_items.proofs.links.Links.last.Goals as goal

pub returns-clause-last : goal.returns-clause-last
returns-clause-last c =
    rw (← c.self.view_is)
    (c.item_of.ensures
    ∙ last_is c.self.inside.links.items c.self.inside.ends.items _ c.args.list c.index.result.now c.self.invariant (rw (← c.self.view_is) at c.requires) c.index.ensures)

pub returns-clause-there : goal.returns-clause-there
returns-clause-there c = in_lists c.args.self.now.lists c.args.list _ (last_stands _ _ (returns-clause-last c))
