use Rattle.std.proofs.Common.{◌≡◌, ◌-◌, length}
use Rattle.vx_json.specs.Reading as reading
use Rattle.vx_json_parts.specs.Reading as parts
use Rattle.vx_json_parts.specs.Seen.{fields_seen}
use Rattle.vx_json_parts.proofs.part.fields_at.Given as goal

-- the items so far, and then those that are left, are all items
abbrev pub invariant-loop : goal.invariant-loop
invariant-loop l = reading.with_front (fields_seen l.fields.items) (reading.items_at 125 (parts.field_at (reading.value_at l.room)) (length l.bytes - l.counter) l.rest) ≡ reading.list_begun 125 (parts.field_at (reading.value_at l.room)) l.bytes
