use Rattle.std.proofs.Common.{sym, ap, ◌∙◌, subst}
use Rattle.vx_timer.specs.Order.{first_due}
use Rattle.vx_call.specs.Requests.{unsettled}
use Rattle.vx_hub.specs.Stores.{HubStore}
use Rattle.vx_hub.specs.Stands.{StandsFor}
use Rattle.vx_hub.proofs.Looking.{first_is_least}
use Rattle.vx_hub.proofs.hub.Hub.look_due.Goals as goal

pub returns : goal.returns
returns g c = λ history stands.
    let P : HubStore → Type 0 = λ hub. StandsFor hub history in
    let here = subst P (sym c.self.view_is) stands in
    c.next_due.ensures ∙ (ap first_due here.parts.parts.all.stores.timers ∙ first_is_least (unsettled history))
