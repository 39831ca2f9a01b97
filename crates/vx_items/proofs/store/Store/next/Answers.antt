use Rattle.std.proofs.Common.{sym, ◌∙◌, [], get_or}
use Rattle.vx_items.specs.Items.{entries, ids}
use Rattle.vx_items.proofs.Entries.{numbers_split}
use Rattle.vx_items.proofs.Stored.{all_filled, is_here, there_at}
use Rattle.std.proofs.Math.ListN.{get_or-map}
use Rattle.vx_items.proofs.store.Store.next.Goals as goal

pub next-requires : goal.next-requires
next-requires g c = (is_here _ _ _ _ c.self.invariant _ (rw (← c.self.view_is) at c.requires)).stands

pub returns-clause-next : goal.returns-clause-next
returns-clause-next g c list before after value split =
    let values = c.self.inside.values.items in
    let lists = c.self.inside.links.lists in
    c.id_of.ensures ∙ c.next.ensures.next list (ids before) (ids after)
    (numbers_split values (get_or lists list []) before (record { id = c.args.item.0; value = value }) after (all_filled _ _ _ _ c.self.invariant list)
    (sym (get_or-map (entries values) lists list []) ∙ (rw (← c.self.view_is) at split)))

pub returns-clause-there : goal.returns-clause-there
returns-clause-there g c = rw (← c.self.view_is) (there_at _ _ _ _ c.self.invariant _ _ c.id_of.ensures c.next.ensures.there)
