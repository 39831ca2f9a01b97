use Rattle.vx_bus_delivery.proofs.EndedRequests.{ends_requests, places_stay}
use Rattle.vx_bus_delivery.specs.Lost.{EndsRequests}
use Rattle.vx_bus_delivery.proofs.leaving.end_requests.Goals as goal

pub returns-clause-ends : goal.returns-clause-ends
returns-clause-ends c =
    ends_requests c.args.contexts.now c.fail_requests-count.new.contexts c.args.timers.now c.cancel_timers.new.timers c.args.bus.now c.fail_requests-count.new.bus c.end_with.new.self c.args.at c.args.leaver
    c.fail_requests-count.ensures.items c.cancel_timers.ensures c.fail_requests-count.ensures.tasks c.end_with.ensures.same c.end_with.ensures.left c.end_with.ensures.ended

pub returns-clause-places : goal.returns-clause-places
returns-clause-places c =
    places_stay c.args.contexts.now c.fail_requests-count.new.contexts c.args.timers.now c.cancel_timers.new.timers c.args.bus.now c.fail_requests-count.new.bus c.end_with.new.self c.args.at c.args.leaver c.requires.places
    (ends_requests c.args.contexts.now c.fail_requests-count.new.contexts c.args.timers.now c.cancel_timers.new.timers c.args.bus.now c.fail_requests-count.new.bus c.end_with.new.self c.args.at c.args.leaver
    c.fail_requests-count.ensures.items c.cancel_timers.ensures c.fail_requests-count.ensures.tasks c.end_with.ensures.same c.end_with.ensures.left c.end_with.ensures.ended)
    c.fail_requests-count.ensures.items_room c.fail_requests-count.ensures.tasks_room c.end_with.ensures.same
