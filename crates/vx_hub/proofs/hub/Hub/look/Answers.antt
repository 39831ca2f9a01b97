use Rattle.std.proofs.Common.{sym, ap, ◌∙◌, subst}
use Rattle.std.specs.Prelude.{true, false, is_some}
use Rattle.vx_hub.specs.Stores.{HubStore}
use Rattle.vx_hub.specs.Stands.{StandsFor}
use Rattle.vx_hub.proofs.Looking.{look_if, seen}
use Rattle.vx_hub.proofs.hub.Hub.look.Goals as goal

pub returns-in-None-Some : goal.returns-in-None-Some
returns-in-None-Some g c = λ history stands.
    let P : HubStore → Type 0 = λ hub. StandsFor hub history in
    sym (seen _ history c.args.lane c.closed_at.result c.next.result (subst P (sym c.self.view_is) stands) c.closed_at.ensures c.next.ensures
    ∙ ap (λ o. look_if c.closed_at.result (is_some o)) c.in-None-Some.is-1 ∙ ap (λ o. look_if o true) c.in-None-Some.is-0)

pub returns-in-None-None : goal.returns-in-None-None
returns-in-None-None g c = λ history stands.
    let P : HubStore → Type 0 = λ hub. StandsFor hub history in
    sym (seen _ history c.args.lane c.closed_at.result c.next.result (subst P (sym c.self.view_is) stands) c.closed_at.ensures c.next.ensures
    ∙ ap (λ o. look_if c.closed_at.result (is_some o)) c.in-None-None.is-1 ∙ ap (λ o. look_if o false) c.in-None-None.is-0)
