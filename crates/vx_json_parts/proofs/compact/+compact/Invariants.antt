use Rattle.std.proofs.Common.{◌≡◌, ◌+◌, ◌*◌, ◌≤◌, take}
use Rattle.vx_data.specs.Tree.{Elements, Members}
use Rattle.vx_data.specs.Bodies.{deepest_element, deepest_member}
use Rattle.vx_json_parts.specs.Compact.{spelled_items, spelled_fields}
use Rattle.vx_json_parts.specs.Parts.{AreItems, AreFields}
use Rattle.vx_json_parts.proofs.compact.+compact.Given as goal

abbrev pub invariant-item_texts-loop-item : goal.invariant-item_texts-loop-item
invariant-item_texts-loop-item l = (es : Elements) → AreItems es l.item-items → deepest_element es ≤ l.room → l.texts.items ≡ take l.item-index (spelled_items es)

abbrev pub invariant-field_texts-loop-name : goal.invariant-field_texts-loop-name
invariant-field_texts-loop-name l = (ms : Members) → AreFields ms l.name-items → deepest_member ms ≤ l.room → l.pairs.items ≡ take l.name-index (spelled_fields ms)

-- Each array and object leaves less room.
abbrev pub decreases-append_value : goal.decreases-append_value
decreases-append_value l = 2 * l.room

abbrev pub decreases-item_texts : goal.decreases-item_texts
decreases-item_texts l = 2 * l.room + 1

abbrev pub decreases-field_texts : goal.decreases-field_texts
decreases-field_texts l = 2 * l.room + 1
