use Rattle.std.proofs.Common.{ap, sym, ◌∙◌, refl}
use Rattle.std.specs.Prelude.{None, List, map}
use Rattle.std.specs.Option.{option_map}
use Rattle.vx_instances.specs.declared.homes.Home.{Home}
use Rattle.vx_instances.specs.Kept.{Kept, InstanceStore, state_in, put_at}
use Rattle.vx_instances.proofs.Places.{none_found, state_found, put_found, found_within}
use Rattle.vx_instances.proofs.instances.Instances.take_out.Goals as goal

pub returns-in-Some-clause-given : goal.returns-in-Some-clause-given
returns-in-Some-clause-given g c =
    let d : Home g.row.V.Denot = record { context = c.args.context; verticle = None } in
    let view : Home g.row.V.Denot → Kept = λ h. record { context = h.context; state = option_map g.V.Verticle.state h.verticle } in
    ap (option_map g.V.Verticle.state) (c.lift.ensures.item d)
    ∙ sym (state_found view c.args.context _ _ c.in-Some.at d c.in-Some.ensures c.deref.ensures.value (found_within _ _ _ _ c.in-Some.ensures c.deref.ensures.value))
    ∙ ap (λ (store : InstanceStore). state_in c.args.context store.kept) c.self.view_is

pub returns-in-Some-clause-out : goal.returns-in-Some-clause-out
returns-in-Some-clause-out g c =
    let d : Home g.row.V.Denot = record { context = c.args.context; verticle = None } in
    let view : Home g.row.V.Denot → Kept = λ h. record { context = h.context; state = option_map g.V.Verticle.state h.verticle } in
    ap (λ (hs : List (Home g.row.V.Denot)). map view hs) (c.lift.ensures.left d)
    ∙ sym (put_found view c.args.context _ _ c.in-Some.at d _ None c.in-Some.ensures c.deref.ensures.value (found_within _ _ _ _ c.in-Some.ensures c.deref.ensures.value) refl)
    ∙ ap (λ (store : InstanceStore). put_at c.args.context None store.kept) c.self.view_is

pub returns-in-None-clause-given : goal.returns-in-None-clause-given
returns-in-None-clause-given g c =
    let view : Home g.row.V.Denot → Kept = λ h. record { context = h.context; state = option_map g.V.Verticle.state h.verticle } in
    sym (none_found view c.args.context _ _ c.in-None.ensures c.deref.ensures.value).state
    ∙ ap (λ (store : InstanceStore). state_in c.args.context store.kept) c.self.view_is

pub returns-in-None-clause-out : goal.returns-in-None-clause-out
returns-in-None-clause-out g c =
    let view : Home g.row.V.Denot → Kept = λ h. record { context = h.context; state = option_map g.V.Verticle.state h.verticle } in
    ap (λ (store : InstanceStore). store.kept) (sym c.self.view_is)
    ∙ sym ((none_found view c.args.context _ _ c.in-None.ensures c.deref.ensures.value).put None)
    ∙ ap (λ (store : InstanceStore). put_at c.args.context None store.kept) c.self.view_is
