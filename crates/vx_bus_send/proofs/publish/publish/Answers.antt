use Rattle.std.proofs.Common.{refl, ap, sym, ◌∙◌}
use Rattle.vx_call.specs.declared.call.Call.TheVariants as calls
use Rattle.vx_call.specs.declared.reply.Reply.TheVariants as replies
use Rattle.vx_call.specs.declared.history.Deed.TheVariants as deeds
use Rattle.vx_call.specs.Refusals.{unless_refused}
use Rattle.vx_call.specs.Mailboxes.{accepting}
use Rattle.vx_call.specs.Rows.{ids_of}
use Rattle.vx_bus_store.proofs.Frames.{follows_refused}
use Rattle.vx_bus_refusals.proofs.Small.{send_small}
use Rattle.vx_bus_send.proofs.publish.publish.Goals as goal

pub returns-in-Some-clause-ok : goal.returns-in-Some-clause-ok
returns-in-Some-clause-ok c = λ history stands is_next.
    let call = calls.Publish c.args.address c.args.body c.args.options in
    follows_refused c.args.contexts.now c.args.timers.now c.args.bus.now history c.args.pass call c.in-Some.refusal refl stands
    (ap (λ refusal. unless_refused refusal (replies.Published (ids_of (accepting history call deeds.Nothing)))) (c.in-Some.ensures history stands.contexts stands.bus))

pub publish_on-requires-clause-deep : goal.publish_on-requires-clause-deep
publish_on-requires-clause-deep c =
    (send_small c.args.contexts.now c.args.timers.now c.args.bus.now c.args.pass c.args.address c.args.body c.args.options c.requires.one (λ history contexts bus. sym (c.send_refusal.ensures history contexts bus) ∙ c.in_default.is)).deep

pub publish_on-requires-clause-pairs : goal.publish_on-requires-clause-pairs
publish_on-requires-clause-pairs c =
    (send_small c.args.contexts.now c.args.timers.now c.args.bus.now c.args.pass c.args.address c.args.body c.args.options c.requires.one (λ history contexts bus. sym (c.send_refusal.ensures history contexts bus) ∙ c.in_default.is)).pairs

pub publish_on-requires-clause-bytes : goal.publish_on-requires-clause-bytes
publish_on-requires-clause-bytes c =
    (send_small c.args.contexts.now c.args.timers.now c.args.bus.now c.args.pass c.args.address c.args.body c.args.options c.requires.one (λ history contexts bus. sym (c.send_refusal.ensures history contexts bus) ∙ c.in_default.is)).bytes
