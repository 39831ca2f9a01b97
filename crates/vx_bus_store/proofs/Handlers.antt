-- The handlers that the bus keeps, and the live consumers.
use Rattle.std.proofs.Common.{◌≡◌, List, refl, ap, ◌∙◌}
use Rattle.std.specs.Prelude.{find, None, Some}
use Rattle.std.specs.Option.{option_map}
use Rattle.vx_data.specs.declared.ids.ConsumerId.{ConsumerId}
use Rattle.vx_call.specs.declared.history.Consumer.{Consumer}
use Rattle.vx_call.specs.declared.history.Traced.{Traced}
use Rattle.vx_call.specs.Consumers.{consumers, live}
use Rattle.vx_call.specs.Registered.{is_named}
use Rattle.vx_bus_store.specs.declared.bus.Handler.{Handler}
use Rattle.vx_bus_store.specs.Stores.{BusStore, handler_of, handler_in, names}
use Rattle.vx_bus_store.specs.Stands.{BusStands}
use Rattle.vx_bus_store.proofs.Images.{find-map}

-- the handler of a name is that of the live consumer
pub handler_is : (bus : BusStore) (history : List Traced) (id : ConsumerId) → BusStands bus history → handler_in bus.consumers id ≡ option_map (handler_of history) (live history id)
handler_is bus history id stands = ap (find (names id)) stands.consumers ∙ find-map (handler_of history) (is_named id) (names id) (λ c. refl) (consumers history)

-- ... where that is known
pub handler_there : (bus : BusStore) (history : List Traced) (id : ConsumerId) (consumer : Consumer) → BusStands bus history → live history id ≡ Some consumer → handler_in bus.consumers id ≡ Some (handler_of history consumer)
handler_there bus history id consumer stands there = handler_is bus history id stands ∙ ap (option_map (handler_of history)) there

-- ... so one is found where the other is
pub live_is : (bus : BusStore) (history : List Traced) (id : ConsumerId) → BusStands bus history → option_map (λ (h : Handler). h.consumer) (handler_in bus.consumers id) ≡ live history id
live_is bus history id stands =
    ap (option_map (λ (h : Handler). h.consumer)) (handler_is bus history id stands)
    ∙ elim (live history id) as (λ o. option_map (λ (h : Handler). h.consumer) (option_map (handler_of history) o) ≡ o) [ None ↦ refl | Some consumer ↦ refl ]
