use Rattle.std.proofs.Common.{◌≡◌, take}
use Rattle.vx_data.specs.Tree.{Elements}
use Rattle.vx_json_parts.specs.Parts.{AreItems}
use Rattle.vx_frame_read.proofs.Texts.{texts_of}
use Rattle.vx_frame_read.proofs.values.item_texts.Given as goal

abbrev pub invariant-loop-item : goal.invariant-loop-item
invariant-loop-item l = (es : Elements) → AreItems es l.item-items → l.texts.items ≡ take l.item-index (texts_of es)
