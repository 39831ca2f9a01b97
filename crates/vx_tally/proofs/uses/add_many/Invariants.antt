use Rattle.std.proofs.Common.{◌≡◌}
use mathlib.Core.List.{IsPrefix}
use Rattle.vx_turn.specs.Passes.{place_of, number, numbers, seen, mine}
use Rattle.vx_tally.specs.Calls.{AddsInOrder}
use Rattle.vx_tally.proofs.uses.add_many.Given as goal

abbrev pub invariant-loop-amount : goal.invariant-loop-amount
invariant-loop-amount g l = (place_of l.pass ≡ place_of l.initial.pass) × (number l.pass ≡ number l.initial.pass) × (numbers l.pass ≡ numbers l.initial.pass) × IsPrefix (seen l.initial.pass) (seen l.pass)
    × AddsInOrder (mine l.initial.pass) l.amount (mine l.pass)
