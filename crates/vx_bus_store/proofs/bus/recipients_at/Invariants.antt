use Rattle.std.proofs.Common.{◌≡◌, map, filter, take}
use Rattle.vx_call.specs.Mailboxes.{is_accepted}
use Rattle.vx_bus_store.specs.declared.bus.Handler.{Handler}
use Rattle.vx_bus_store.specs.Stores.{is_handler_at, next_arrival, recipient_of}
use Rattle.vx_bus_store.proofs.bus.recipients_at.Given as goal

abbrev pub invariant-loop-handler : goal.invariant-loop-handler
invariant-loop-handler l = l.found.items ≡ map recipient_of (filter (λ (h : Handler). is_accepted (next_arrival h)) (filter (is_handler_at l.address) (take l.handler-index l.handler-items)))
