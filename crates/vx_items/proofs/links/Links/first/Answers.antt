use Rattle.std.proofs.Common.{◌∙◌}
use Rattle.vx_items.proofs.Linked.{first_is, first_stands, in_lists}
use Rattle.vx_items.proofs.links.Links.first.Goals as goal

pub returns-clause-first : goal.returns-clause-first
returns-clause-first c =
    rw (← c.self.view_is)
    (c.item_of.ensures
    ∙ first_is c.self.inside.links.items c.self.inside.ends.items _ c.args.list c.index.result.now c.self.invariant (rw (← c.self.view_is) at c.requires) c.index.ensures)

pub returns-clause-there : goal.returns-clause-there
returns-clause-there c = in_lists c.args.self.now.lists c.args.list _ (first_stands _ _ (returns-clause-first c))
