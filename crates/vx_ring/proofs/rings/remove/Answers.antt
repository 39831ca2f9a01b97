use Rattle.std.proofs.Common.{◌≡◌, [], arith, rules, sym, ◌∙◌, not}
use Rattle.vx_data.specs.Ids.{same_consumer}
use Rattle.vx_ring.proofs.Lookups.{none_left, last_goes}
use Rattle.vx_ring.proofs.rings.remove.Goals as goal

pub returns-then-is_empty-clause-left : goal.returns-then-is_empty-clause-left
returns-then-is_empty-clause-left c =
    let left = c.leave_out-found.new.self in
    let none : left.consumers.items ≡ [] = none_left left.consumers.items (grind arith) in
    last_goes (λ other. not (same_consumer c.args.consumer other)) c.args.address.now c.args.map.now.entries (c.get_mut.follows.lender left).entries c.swap_remove.new.self.entries c.in-Some.ring.now left
    c.in-Some.ensures.value (sym c.leave_out-found.ensures.left ∙ none) ((c.get_mut.follows.holds left).3 (search rules)).0 c.swap_remove.ensures.updates.0
