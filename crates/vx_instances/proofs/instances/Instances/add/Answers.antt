use Rattle.std.proofs.Common.{ap, ◌∙◌, refl, ◌++◌, map}
use Rattle.std.specs.Option.{option_map}
use Rattle.std.proofs.lemmas.List.{map-append}
use Rattle.vx_instances.specs.declared.homes.Home.{Home}
use Rattle.vx_instances.specs.Kept.{Kept, InstanceStore, kept_from, numbered}
use Rattle.vx_instances.proofs.Places.{seen_numbered}
use Rattle.vx_instances.proofs.instances.Instances.add.Goals as goal

pub returns : goal.returns
returns g c =
    let view : Home g.row.V.Denot → Kept = λ h. record { context = h.context; state = option_map g.V.Verticle.state h.verticle } in
    ap (map view) c.settle_in.ensures
    ∙ map-append view c.self.inside.homes.items (numbered c.args.entry 0 c.args.verticles.items)
    ∙ ap (λ kept. map view c.self.inside.homes.items ++ kept) (seen_numbered view g.V.Verticle.state (λ context verticle. refl) c.args.entry 0 c.args.verticles.items)
    ∙ ap (λ (store : InstanceStore). store.kept ++ kept_from c.args.entry 0 (map g.V.Verticle.state c.args.verticles.items)) c.self.view_is
