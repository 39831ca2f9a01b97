use Rattle.std.proofs.Common.{◌≡◌, ◌+◌, ◌-◌, ◌*◌, take}
use Rattle.vx_data.specs.Tree.{Elements, Members}
use Rattle.vx_deployfile.specs.Outlines.{item_outlines, field_outlines}
use Rattle.vx_json_parts.specs.Parts.{AreItems, AreFields}
use Rattle.vx_deployfile.proofs.outline.+outline.Given as goal

abbrev pub invariant-array-loop-part : goal.invariant-array-loop-part
invariant-array-loop-part l = (es : Elements) → AreItems es l.part-items → l.items.items ≡ take l.part-index (item_outlines (l.levels - 1) es)

abbrev pub invariant-members-loop-name : goal.invariant-members-loop-name
invariant-members-loop-name l = (ms : Members) → AreFields ms l.fields → l.pairs.items ≡ take l.name-index (field_outlines l.levels ms)

-- Each array and object has its parts a level lower.
abbrev pub decreases-outline : goal.decreases-outline
decreases-outline l = 3 * l.levels + 1

abbrev pub decreases-array : goal.decreases-array
decreases-array l = 3 * l.levels

abbrev pub decreases-object : goal.decreases-object
decreases-object l = 3 * l.levels

abbrev pub decreases-members : goal.decreases-members
decreases-members l = 3 * l.levels + 2
