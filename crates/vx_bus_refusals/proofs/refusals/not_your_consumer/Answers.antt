use Rattle.std.proofs.Common.{ap, ◌∙◌}
use Rattle.std.specs.Prelude.{Option}
use Rattle.std.specs.Option.{option_map}
use Rattle.vx_call.specs.Refusals.{not_your_handler}
use Rattle.vx_bus_store.specs.declared.bus.Handler.{Handler}
use Rattle.vx_bus_store.proofs.Handlers.{live_is}
use Rattle.vx_bus_refusals.proofs.refusals.not_your_consumer.Goals as goal

pub returns-in-Some : goal.returns-in-Some
returns-in-Some c = λ history contexts stands.
    c.not_your_owner.ensures history contexts
    ∙ ap (λ (o : Option Handler). not_your_handler history c.args.pass (option_map (λ (h : Handler). h.consumer) o)) c.in-Some.ensures
    ∙ ap (not_your_handler history c.args.pass) (live_is c.args.bus.now history c.args.id stands)

pub returns-in-None : goal.returns-in-None
returns-in-None c = λ history contexts stands.
    ap (λ (o : Option Handler). not_your_handler history c.args.pass (option_map (λ (h : Handler). h.consumer) o)) c.in-None.ensures
    ∙ ap (not_your_handler history c.args.pass) (live_is c.args.bus.now history c.args.id stands)
