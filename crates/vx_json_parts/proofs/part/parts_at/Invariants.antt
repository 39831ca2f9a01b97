use Rattle.std.proofs.Common.{◌≡◌, ◌-◌, length}
use Rattle.vx_json.specs.Reading as reading
use Rattle.vx_json_parts.specs.Reading as parts
use Rattle.vx_json_parts.specs.Seen.{parts_seen}
use Rattle.vx_json_parts.proofs.part.parts_at.Given as goal

-- the items so far, and then those that are left, are all items
abbrev pub invariant-loop : goal.invariant-loop
invariant-loop l = reading.with_front (parts_seen l.parts.items) (reading.items_at 93 (parts.part_at (reading.value_at l.room)) (length l.bytes - l.counter) l.rest) ≡ reading.list_begun 93 (parts.part_at (reading.value_at l.room)) l.bytes
