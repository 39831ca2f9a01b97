use Rattle.std.proofs.Common.{◌∙◌, arith}
use Rattle.vx_items.specs.Items.{number_of}
use Rattle.vx_items.proofs.Entries.{put_at}
use Rattle.vx_items.proofs.Stored.{at_is, stored_add, stored_popped, new_item, listed, once_in, has_place}
use Rattle.std.proofs.lemmas.List.{length-map}
use Rattle.vx_items.proofs.store.Store.insert.Goals as goal

pub index_mut-requires : goal.index_mut-requires
index_mut-requires g c = let new = new_item _ _ _ _ _ (stored_popped _ _ _ _ _ _ _ _ c.self.invariant c.pop.ensures.items c.unwrap-item.ensures c.pop.ensures.capacity) in let w = new.within in omega (arith, w)

pub insert-requires-clause-place : goal.insert-requires-clause-place
insert-requires-clause-place g c = (new_item _ _ _ _ _ (stored_popped _ _ _ _ _ _ _ _ c.self.invariant c.pop.ensures.items c.unwrap-item.ensures c.pop.ensures.capacity)).place

pub insert-requires-clause-new : goal.insert-requires-clause-new
insert-requires-clause-new g c = (new_item _ _ _ _ _ (stored_popped _ _ _ _ _ _ _ _ c.self.invariant c.pop.ensures.items c.unwrap-item.ensures c.pop.ensures.capacity)).new

pub insert-requires-clause-list : goal.insert-requires-clause-list
insert-requires-clause-list g c = (rw (← c.self.view_is, length-map) at c.requires.list)

pub insert-requires-clause-before : goal.insert-requires-clause-before
insert-requires-clause-before g c =
    rw c.number_of.ensures
    (has_place c.self.inside.values.items c.self.inside.links.lists c.args.list.0 _ (rw (← c.self.view_is) at c.requires.before))

pub invariant_of-self : goal.invariant_of-self
invariant_of-self g c =
    stored_add _ _ _ _ _ _ c.args.list.0 (number_of c.args.before) c.args.value (stored_popped _ _ _ _ _ _ _ _ c.self.invariant c.pop.ensures.items c.unwrap-item.ensures c.pop.ensures.capacity) (rw (← c.self.view_is, length-map) at c.requires.list)
    (rw c.number_of.ensures at c.insert.ensures.lists) c.insert.ensures.places

pub returns-clause-new : goal.returns-clause-new
returns-clause-new g c =
    rw (← c.self.view_is) (at_is _ _ _ _ c.self.invariant _ ∙ (new_item _ _ _ _ _ (stored_popped _ _ _ _ _ _ _ _ c.self.invariant c.pop.ensures.items c.unwrap-item.ensures c.pop.ensures.capacity)).none)

pub returns-clause-lists : goal.returns-clause-lists
returns-clause-lists g c =
    rw (← c.self.view_is)
    (listed _ _ _ c.self.inside.links c.insert.new.self _ c.args.list.0 (number_of c.args.before) c.args.value (stored_popped _ _ _ _ _ _ _ _ c.self.invariant c.pop.ensures.items c.unwrap-item.ensures c.pop.ensures.capacity) (rw (← c.self.view_is, length-map) at c.requires.list)
    (rw c.number_of.ensures at c.insert.ensures.lists))

pub returns-clause-place : goal.returns-clause-place
returns-clause-place g c front back is first =
    returns-clause-lists g c
    ∙ rw (put_at _ _ front back (number_of c.args.before) (λ x. rw (← c.self.view_is) (once_in _ _ _ _ c.self.invariant c.args.list.0 x)) is first)
