use Rattle.std.proofs.Common.{sym, ◌∙◌, arith}
use Rattle.vx_items.specs.Items.{number_of}
use Rattle.vx_items.proofs.Counts.{total_without_same}
use Rattle.vx_items.proofs.Stored.{at_is, is_here, stored_move, moved, moved_at, has_before}
use Rattle.std.proofs.lemmas.List.{length-map}
use Rattle.vx_items.proofs.store.Store.move_to.Goals as goal

pub remove-requires : goal.remove-requires
remove-requires g c = (is_here _ _ _ _ c.self.invariant _ (rw (← c.self.view_is) at c.requires.item)).stands

pub insert-requires-clause-place : goal.insert-requires-clause-place
insert-requires-clause-place g c =
    let w = (is_here _ _ _ _ c.self.invariant _ (rw (← c.self.view_is) at c.requires.item)).within in let a = c.self.invariant.places in let b = c.remove.ensures.places in omega (arith, w, a, b)

pub insert-requires-clause-new : goal.insert-requires-clause-new
insert-requires-clause-new g c = rw c.remove.ensures.lists (total_without_same c.args.item.0 c.self.inside.links.lists)

pub insert-requires-clause-before : goal.insert-requires-clause-before
insert-requires-clause-before g c =
    rw (c.number_of.ensures, c.remove.ensures.lists)
    (has_before c.self.inside.values.items c.self.inside.links.lists c.args.item.0 c.args.list.0 _ (rw (← c.self.view_is) at c.requires.before))

pub invariant_of-self : goal.invariant_of-self
invariant_of-self g c =
    stored_move _ _ _ c.self.inside.links c.insert.new.self c.args.item.0 c.args.list.0 (number_of c.args.before) c.self.invariant (is_here _ _ _ _ c.self.invariant _ (rw (← c.self.view_is) at c.requires.item)).stands
    (rw (← c.self.view_is, length-map) at c.requires.list)
    (rw (c.remove.ensures.lists, c.number_of.ensures) at c.insert.ensures.lists) (c.insert.ensures.places ∙ c.remove.ensures.places)

pub returns-clause-lists : goal.returns-clause-lists
returns-clause-lists g c value there =
    rw (← c.self.view_is)
    (moved _ _ _ c.self.inside.links c.insert.new.self c.args.item.0 c.args.list.0 (number_of c.args.before) value c.self.invariant
    (sym (at_is _ _ _ _ c.self.invariant _) ∙ (rw (← c.self.view_is) at there))
    (rw (c.remove.ensures.lists, c.number_of.ensures) at c.insert.ensures.lists))

pub returns-clause-place : goal.returns-clause-place
returns-clause-place g c from left right front back value stands at first =
    rw (← c.self.view_is)
    (moved_at _ _ _ c.self.inside.links c.insert.new.self (record { id = c.args.item.0; value = value }) c.args.list.0 from (number_of c.args.before) left right front back c.self.invariant
    (rw (c.remove.ensures.lists, c.number_of.ensures) at c.insert.ensures.lists) (rw (← c.self.view_is) at stands) (rw (← c.self.view_is) at at) first)
