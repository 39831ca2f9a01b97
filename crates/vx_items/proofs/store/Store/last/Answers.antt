use Rattle.std.proofs.Common.{sym, ◌∙◌, ap, [], get_or}
use Rattle.vx_items.specs.Lists.{last_of}
use Rattle.vx_items.specs.Items.{entries, last_id}
use Rattle.vx_items.proofs.Entries.{ids_are}
use Rattle.vx_items.proofs.Stored.{all_filled, there_at}
use Rattle.std.proofs.Math.ListN.{get_or-map}
use Rattle.vx_items.proofs.store.Store.last.Goals as goal

pub returns-clause-last : goal.returns-clause-last
returns-clause-last g c =
    rw (← c.self.view_is)
    (c.id_of.ensures ∙ c.last.ensures.last
    ∙ ap last_of (sym (ids_are c.self.inside.values.items (get_or c.self.inside.links.lists c.args.list.0 []) (all_filled _ _ _ _ c.self.invariant c.args.list.0)))
    ∙ ap last_id (sym (get_or-map (entries c.self.inside.values.items) c.self.inside.links.lists c.args.list.0 [])))

pub returns-clause-there : goal.returns-clause-there
returns-clause-there g c = rw (← c.self.view_is) (there_at _ _ _ _ c.self.invariant _ _ c.id_of.ensures c.last.ensures.there)
