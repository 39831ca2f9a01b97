use Rattle.std.proofs.Common.{length, sym, ap, ◌∙◌, subst}
use Rattle.std.proofs.lemmas.List.{length-map}
use Rattle.vx_call.specs.Deployments.{deployments}
use Rattle.vx_life.specs.Stands.{record_of}
use Rattle.vx_hub.specs.Counts.{Counted}
use Rattle.vx_hub.specs.Stores.{HubStore}
use Rattle.vx_hub.specs.Stands.{StandsFor}
use Rattle.vx_hub.proofs.hub.Hub.totals.Goals as goal

pub returns : goal.returns
returns g c = λ history stands.
    let P : HubStore → Type 0 = λ hub. StandsFor hub history in
    let here = subst P (sym c.self.view_is) stands in
    let messages = c.messages.ensures ∙ ap (λ (counts : Counted). counts.messages) here.parts.counts in
    let deliveries = c.deliveries.ensures ∙ ap (λ (counts : Counted). counts.deliveries) here.parts.counts in
    let made = c.deployment_count.ensures ∙ ap length here.parts.parts.all.lives.parts.records ∙ length-map (deployments history) (record_of history) in
    λ i. record { deployments = made i; messages = messages i; deliveries = deliveries i; frames = 0 }
