use Rattle.std.proofs.Common.{ap, sym, ◌∙◌}
use Rattle.std.specs.Prelude.{List, map}
use Rattle.std.specs.Option.{option_map}
use Rattle.vx_instances.specs.declared.homes.Home.{Home}
use Rattle.vx_instances.specs.Kept.{Kept, InstanceStore, without}
use Rattle.vx_instances.proofs.Places.{none_found, away_found, found_within}
use Rattle.vx_instances.proofs.instances.Instances.remove.Goals as goal

pub returns-in-Some : goal.returns-in-Some
returns-in-Some g c =
    let view : Home g.row.V.Denot → Kept = λ h. record { context = h.context; state = option_map g.V.Verticle.state h.verticle } in
    ap (λ (hs : List (Home g.row.V.Denot)). map view hs) c.take_down.ensures
    ∙ sym (away_found view c.args.context _ _ c.in-Some.at c.in-Some.ensures c.deref.ensures.value (found_within _ _ _ _ c.in-Some.ensures c.deref.ensures.value))
    ∙ ap (λ (store : InstanceStore). without c.args.context store.kept) c.self.view_is

pub returns-in-None : goal.returns-in-None
returns-in-None g c =
    let view : Home g.row.V.Denot → Kept = λ h. record { context = h.context; state = option_map g.V.Verticle.state h.verticle } in
    ap (λ (store : InstanceStore). store.kept) (sym c.self.view_is)
    ∙ sym (none_found view c.args.context _ _ c.in-None.ensures c.deref.ensures.value).away
    ∙ ap (λ (store : InstanceStore). without c.args.context store.kept) c.self.view_is
