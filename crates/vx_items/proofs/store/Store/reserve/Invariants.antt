use Rattle.std.proofs.Common.{◌≡◌, ◌≤◌}
use Rattle.vx_items.proofs.store.Store.reserve.Given as goal

abbrev pub invariant-loop-item : goal.invariant-loop-item
invariant-loop-item g l = record { lists : l.self.lists ≡ l.fn.self.lists; kept : l.fn.self.room ≤ l.self.room; reached : l._item ≤ l.self.room }
