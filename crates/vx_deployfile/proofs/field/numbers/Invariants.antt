use Rattle.std.proofs.Common.{◌≡◌, drop}
use Rattle.vx_data.specs.Bodies.{elements}
use Rattle.vx_deployfile.specs.Fields as fields
use Rattle.vx_deployfile.proofs.Lists.{onto}
use Rattle.vx_deployfile.proofs.field.numbers.Given as goal

-- the numbers so far, and those that are still to come
abbrev pub invariant-loop-item : goal.invariant-loop-item
invariant-loop-item l = onto l.numbers.items (fields.numbers_in l.place (elements (drop l.item-index l.items))) ≡ fields.numbers_in l.place (elements l.items)
