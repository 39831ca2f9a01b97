use Rattle.std.proofs.Common.{ap, sym, ◌∙◌, refl}
use Rattle.std.specs.Prelude.{None, Some, List, map}
use Rattle.std.specs.Option.{option_map}
use Rattle.vx_instances.specs.declared.homes.Home.{Home}
use Rattle.vx_instances.specs.Kept.{Kept, InstanceStore, put_at}
use Rattle.vx_instances.proofs.Places.{none_found, put_found, found_within}
use Rattle.vx_instances.proofs.instances.Instances.put_in.Goals as goal

pub returns-in-Some : goal.returns-in-Some
returns-in-Some g c =
    let d : Home g.row.V.Denot = record { context = c.args.context; verticle = None } in
    let view : Home g.row.V.Denot → Kept = λ h. record { context = h.context; state = option_map g.V.Verticle.state h.verticle } in
    let state = Some (g.V.Verticle.state c.args.verticle) in
    ap (λ (hs : List (Home g.row.V.Denot)). map view hs) (c.lower.ensures d)
    ∙ sym (put_found view c.args.context _ _ c.in-Some.at d _ state c.in-Some.ensures c.deref.ensures.value (found_within _ _ _ _ c.in-Some.ensures c.deref.ensures.value) refl)
    ∙ ap (λ (store : InstanceStore). put_at c.args.context state store.kept) c.self.view_is

pub returns-in-None : goal.returns-in-None
returns-in-None g c =
    let view : Home g.row.V.Denot → Kept = λ h. record { context = h.context; state = option_map g.V.Verticle.state h.verticle } in
    let state = Some (g.V.Verticle.state c.args.verticle) in
    ap (λ (store : InstanceStore). store.kept) (sym c.self.view_is)
    ∙ sym ((none_found view c.args.context _ _ c.in-None.ensures c.deref.ensures.value).put state)
    ∙ ap (λ (store : InstanceStore). put_at c.args.context state store.kept) c.self.view_is
