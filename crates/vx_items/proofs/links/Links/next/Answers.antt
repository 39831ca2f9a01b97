use Rattle.std.proofs.Common.{◌∙◌}
use Rattle.vx_items.proofs.Linked.{next_is, place_of, first_stands, behind_in_lists}
use Rattle.vx_items.proofs.links.Links.next.Goals as goal

pub returns-clause-next : goal.returns-clause-next
returns-clause-next c list before after split =
    c.item_of.ensures
    ∙ next_is c.self.inside.links.items c.self.inside.ends.items _ c.args.item c.index.result.now c.self.invariant
    (c.self.invariant.within c.args.item (rw (← c.self.view_is) at c.requires)) c.index.ensures list before after (rw (← c.self.view_is) at split)

pub returns-clause-there : goal.returns-clause-there
returns-clause-there c =
    let place = place_of c.args.item c.args.self.now.lists c.requires in
    behind_in_lists c.args.item c.args.self.now.lists place _ (first_stands _ _ (returns-clause-next c place.list place.front place.back place.is))
