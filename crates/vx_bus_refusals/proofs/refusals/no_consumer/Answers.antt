use Rattle.std.proofs.Common.{ap, ◌∙◌}
use Rattle.std.specs.Prelude.{Option, is_none}
use Rattle.std.specs.Option.{option_map}
use Rattle.vx_call.specs.declared.history.Consumer.{Consumer}
use Rattle.vx_call.specs.declared.reply.Refusal.TheVariants as refusals
use Rattle.vx_call.specs.Refusals.{refused_if}
use Rattle.vx_bus_store.specs.declared.bus.Handler.{Handler}
use Rattle.vx_bus_store.proofs.Handlers.{live_is}
use Rattle.vx_bus_refusals.proofs.refusals.no_consumer.Goals as goal

pub returns-in-Some : goal.returns-in-Some
returns-in-Some c = λ history stands.
    ap (λ (o : Option Handler). refused_if (is_none (option_map (λ (h : Handler). h.consumer) o)) refusals.NoConsumer) c.in-Some.ensures
    ∙ ap (λ (o : Option Consumer). refused_if (is_none o) refusals.NoConsumer) (live_is c.args.bus.now history c.args.id stands)

pub returns-in-None : goal.returns-in-None
returns-in-None c = λ history stands.
    ap (λ (o : Option Handler). refused_if (is_none (option_map (λ (h : Handler). h.consumer) o)) refusals.NoConsumer) c.in-None.ensures
    ∙ ap (λ (o : Option Consumer). refused_if (is_none o) refusals.NoConsumer) (live_is c.args.bus.now history c.args.id stands)
