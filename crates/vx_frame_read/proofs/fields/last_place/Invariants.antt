use Rattle.std.proofs.Common.{◌≡◌, ◌≤◌, length, take}
use Rattle.vx_frame_read.specs.Fields.{last_part}
use Rattle.vx_frame_read.proofs.fields.last_place.Given as goal

-- the last field is among those that are left
abbrev pub invariant-loop-place : goal.invariant-loop-place
invariant-loop-place l = record { within : l.place ≤ length l.fields; same : last_part l.name (take l.place l.fields) ≡ last_part l.name l.fields }

abbrev pub decreases-loop-place : goal.decreases-loop-place
decreases-loop-place l = l.place
