use Rattle.std.proofs.Common.{sym, ◌∙◌, ap, [], get_or}
use Rattle.vx_items.specs.Lists.{first_of}
use Rattle.vx_items.specs.Items.{entries, first_id}
use Rattle.vx_items.proofs.Entries.{ids_are}
use Rattle.vx_items.proofs.Stored.{all_filled, there_at}
use Rattle.std.proofs.Math.ListN.{get_or-map}
use Rattle.vx_items.proofs.store.Store.first.Goals as goal

pub returns-clause-first : goal.returns-clause-first
returns-clause-first g c =
    rw (← c.self.view_is)
    (c.id_of.ensures ∙ c.first.ensures.first
    ∙ ap first_of (sym (ids_are c.self.inside.values.items (get_or c.self.inside.links.lists c.args.list.0 []) (all_filled _ _ _ _ c.self.invariant c.args.list.0)))
    ∙ ap first_id (sym (get_or-map (entries c.self.inside.values.items) c.self.inside.links.lists c.args.list.0 [])))

pub returns-clause-there : goal.returns-clause-there
returns-clause-there g c = rw (← c.self.view_is) (there_at _ _ _ _ c.self.invariant _ _ c.id_of.ensures c.first.ensures.there)
