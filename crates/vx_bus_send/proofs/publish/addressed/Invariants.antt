use Rattle.std.proofs.Common.{◌≡◌, map, take}
use Rattle.vx_bus_send.specs.Published.{parcel_for}
use Rattle.vx_bus_send.proofs.publish.addressed.Given as goal

abbrev pub invariant-loop-recipient : goal.invariant-loop-recipient
invariant-loop-recipient l = l.parcels.items ≡ map (parcel_for l.message) (take l.recipient-index l.recipients)
