use Rattle.std.proofs.Common.{◌≡◌, take, filter, not}
use Rattle.vx_timer.specs.declared.timers.Timer.{Timer}
use Rattle.vx_request.specs.Leaving.{ends_with}
use Rattle.vx_bus_delivery.specs.Lost.{is_timer_of}
use Rattle.vx_bus_delivery.proofs.leaving.cancel_timers.Given as goal

abbrev pub invariant-loop-index : goal.invariant-loop-index
invariant-loop-index l =
    l.timers ≡ filter (λ (timer : Timer). not (is_timer_of (filter (ends_with l.leaver l.bus.given) (take l.index l.bus.requests.waiting)) timer)) l.initial.timers
